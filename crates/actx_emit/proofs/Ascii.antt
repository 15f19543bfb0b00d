-- Texts of reserved words, signs and numbers are ASCII, and their own UTF-8.
use Rattle.std.proofs.Common.{◌≡◌, ℕ, zero, suc, ◌<◌, ◌^◌, List, [], ◌∷◌, refl, arith, decimal, true, nat_lt, lit<}
use Rattle.std.specs.List.{list_all}
use Rattle.std.specs.Str.{IsAscii, encode_utf8_all}
use Rattle.std.proofs.lemmas.Bool.{and_parts, ltb-true}
use Rattle.std.proofs.lemmas.Fmt.{IsAscii-decimal}
use Rattle.std.proofs.lemmas.Str.{encodes-IsAscii}
use Rattle.actx_grammar.specs.declared.token.Keyword.{Keyword}
use Rattle.actx_grammar.specs.declared.token.Keyword.TheVariants as k
use Rattle.actx_grammar.specs.declared.token.Sign.{Sign}
use Rattle.actx_grammar.specs.declared.token.Sign.TheVariants as s
use Rattle.actx_grammar.specs.Words.{keyword_text, sign_text}

ascii_cons : (c : ℕ) (cs : List ℕ) → c < 128 → IsAscii cs → IsAscii (c ∷ cs)
ascii_cons c cs h g zero = h
ascii_cons c cs h g (suc i) = g i

all_ascii : (w : List ℕ) → list_all (λ c. nat_lt c 128) w ≡ true → IsAscii w
all_ascii [] h = λ i. lit< tt
all_ascii (c ∷ cs) h =
    let parts = and_parts (nat_lt c 128) (list_all (λ c. nat_lt c 128) cs) h in
    ascii_cons c cs (ltb-true c 128 parts.0) (all_ascii cs parts.1)

keyword_low : (q : Keyword) → list_all (λ c. nat_lt c 128) (keyword_text q) ≡ true
keyword_low k.Async = refl
keyword_low _ = refl

sign_low : (s : Sign) → list_all (λ c. nat_lt c 128) (sign_text s) ≡ true
sign_low s.Dot = refl
sign_low _ = refl

pub keyword_is_ascii : (q : Keyword) → IsAscii (keyword_text q)
keyword_is_ascii q = all_ascii (keyword_text q) (keyword_low q)

pub sign_is_ascii : (s : Sign) → IsAscii (sign_text s)
sign_is_ascii s = all_ascii (sign_text s) (sign_low s)

pub keyword_ascii : (q : Keyword) → encode_utf8_all (keyword_text q) ≡ keyword_text q
keyword_ascii q = encodes-IsAscii (keyword_text q) (keyword_is_ascii q)

pub sign_ascii : (s : Sign) → encode_utf8_all (sign_text s) ≡ sign_text s
sign_ascii s = encodes-IsAscii (sign_text s) (sign_is_ascii s)

pub number_ascii : (n : ℕ) → n < 2 ^ 64 → encode_utf8_all (decimal n) ≡ decimal n
number_ascii n h = encodes-IsAscii (decimal n) (IsAscii-decimal n h)
