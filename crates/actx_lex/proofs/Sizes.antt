-- How many bytes characters take.
use Rattle.std.proofs.Common.{◌≡◌, ℕ, ◌+◌, ◌<◌, List, ◌∷◌, ◌++◌, length, get_or, take, drop, sym, ◌∙◌, ap, arith}
use Rattle.std.specs.Char.{len_utf8, encode_utf8}
use Rattle.std.specs.Str.{encode_utf8_all}
use Rattle.std.proofs.lemmas.List.{length-append, at_drop_more, take-append-drop}
use Rattle.std.proofs.lemmas.Str.{length-encode, encodes-append}
use Rattle.actx_lex.specs.Lexical.{size}

pub size_cons : (c : ℕ) (cs : List ℕ) → size (c ∷ cs) ≡ len_utf8 c + size cs
size_cons c cs = omega (arith, length-append (encode_utf8 c) (encode_utf8_all cs), length-encode c)

pub size_append : (cs ds : List ℕ) → size (cs ++ ds) ≡ size cs + size ds
size_append cs ds = ap length (encodes-append cs ds) ∙ length-append (encode_utf8_all cs) (encode_utf8_all ds)

-- a step over one character
pub size_step : (cs : List ℕ) (i : ℕ) → i < length cs → size (drop i cs) ≡ len_utf8 (get_or cs i 0) + size (drop (i + 1) cs)
size_step cs i h = at_drop_more size cs i 0 h ∙ size_cons (get_or cs i 0) (drop (i + 1) cs)

-- a cut
pub size_cut : (cs : List ℕ) (n : ℕ) → size (take n cs) + size (drop n cs) ≡ size cs
size_cut cs n = sym (size_append (take n cs) (drop n cs)) ∙ ap size (take-append-drop n cs)
