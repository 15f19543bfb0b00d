-- Each token, before a space or a LF, is the one that its text begins with.
use Rattle.std.proofs.Common.{◌≡◌, ◌≢◌, ◌⊎◌, inl, inr, ℕ, zero, suc, ◌+◌, ◌<◌, ◌≤◌, ◌^◌, Bool, true, false, cond, ◌&&◌, ◌||◌, not, List, [], ◌∷◌, ◌++◌, Some, length, get_or, take, drop, refl, sym, ◌∙◌, ap, subst, arith, IsTrue, All, flat_map, decimal, eqb}
use Rattle.std.specs.Char.{digit_value}
use Rattle.std.specs.List.{prefix_len}
use Rattle.std.specs.Str.Parse.{digits_value, AllDigits}
use Rattle.std.proofs.lemmas.Bool.{cases_lt, cond-true, cond-false}
use Rattle.std.proofs.lemmas.Fmt.{decimal_is_IsNumeral, decimal_digit, first_decimal}
use Rattle.std.proofs.lemmas.List.{append_assoc, length-append, take_at, drop_at, get_or_append_left}
use Rattle.std.proofs.lemmas.List.Elements.{All-head, All-tail, All-nil, All-cons}
use Rattle.unicode_ident.specs.Ident.{is_xid_continue}
use Rattle.unicode_ident.proofs.IdentLemmas.{is_xid_continue-ascii}
use Rattle.actx_grammar.specs.declared.token.Keyword.{Keyword}
use Rattle.actx_grammar.specs.declared.token.Keyword.TheVariants as k
use Rattle.actx_grammar.specs.declared.token.Sign.{Sign}
use Rattle.actx_grammar.specs.declared.token.Sign.TheVariants as s
use Rattle.actx_grammar.specs.declared.token.TokenKind.{TokenKind}
use Rattle.actx_grammar.specs.declared.token.TokenKind.TheVariants as t
use Rattle.actx_grammar.specs.Words.{is_name_start, is_name_part, keyword_text, sign_text, IsName, HasForm, greatest_number}
use Rattle.actx_lex.specs.Characters.{AllPass, is_digit}
use Rattle.actx_lex.specs.Lexical.{begins_free}
use Rattle.actx_lex.specs.Lexeme.{Begins, may_follow}
use Rattle.actx_lex.proofs.Classes.{is_letter, letter_start}
use Rattle.actx_lex.proofs.NameRuns.{keyword_parts, name_parts, name_begins, keyword_begins}
use Rattle.actx_lex.proofs.NumberRuns.{number_begins}
use Rattle.actx_lex.proofs.QuotedTexts.{quoted_at}
use Rattle.actx_lex.proofs.SignsFound.{sign_of}
use Rattle.actx_lex.proofs.SignsLongest.{sign_begins}
use Rattle.actx_emit.specs.Layout.{unit_text, quoted, token_text}
use Rattle.actx_emit.proofs.Units.{units_inside}

-- a space or a LF
pub data IsGap : ℕ → Type 0 where
  feed : IsGap 10
  space : IsGap 32

-- RUNS
-- characters that pass, before one that doesn't
run_len : (p : ℕ → Bool) (w rest : List ℕ) (b : ℕ) → AllPass p w → p b ≡ false → length w ≡ prefix_len p (w ++ b ∷ rest)
run_len p [] rest b h f = sym (cond-false (p b) (1 + prefix_len p rest) 0 f)
run_len p (c ∷ cs) rest b h f =
    let more = run_len p cs rest b (All-tail (λ v. IsTrue (p v)) c cs h) f in
    let pass : p c ≡ true = All-head (λ v. IsTrue (p v)) c cs h in
    let one : suc (length cs) ≡ 1 + prefix_len p (cs ++ b ∷ rest) = omega (arith, more) in
    one ∙ sym (cond-true (p c) (1 + prefix_len p (cs ++ b ∷ rest)) 0 pass)

fits : (w v : List ℕ) → length w ≤ length (w ++ v)
fits w v = omega (arith, length-append w v)

gap_part : (b : ℕ) → IsGap b → is_name_part b ≡ false
gap_part b feed = is_xid_continue-ascii 10 (omega arith)
gap_part b space = is_xid_continue-ascii 32 (omega arith)

gap_digit : (b : ℕ) → IsGap b → is_digit b ≡ false
gap_digit b feed = refl
gap_digit b space = refl

gap_free : (b : ℕ) (rest : List ℕ) → IsGap b → IsTrue (begins_free (b ∷ rest))
gap_free b rest feed = ap (λ v. cond (v || eqb 10 46) false true) (gap_part 10 feed)
gap_free b rest space = ap (λ v. cond (v || eqb 32 46) false true) (gap_part 32 space)

-- WORDS
first_kept : (w v : List ℕ) → 0 < length w → get_or (w ++ v) 0 0 ≡ get_or w 0 0
first_kept w v h = get_or_append_left w v 0 0 h

name_starts : (x v : List ℕ) → IsName x → IsTrue (is_name_start (get_or (x ++ v) 0 0))
name_starts x v h = subst (λ y. IsTrue (is_name_start (get_or (y ++ v) 0 0))) (sym h.is) h.starts

name_at : (fresh : Bool) (x rest : List ℕ) (b : ℕ) → IsName x → IsGap b → Begins fresh (x ++ b ∷ rest) (t.Name x) (length x)
name_at fresh x rest b h g =
    let text = x ++ b ∷ rest in
    let front : take (length x) text ≡ x = take_at x (b ∷ rest) (length x) refl in
    subst (λ y. Begins fresh text (t.Name y) (length x)) front
    (name_begins fresh text (length x) (name_starts x (b ∷ rest) h) (run_len is_name_part x rest b (name_parts x h) (gap_part b g)) (fits x (b ∷ rest)) (λ q e. h.free q (sym front ∙ e)))

keyword_letter : (q : Keyword) → is_letter (get_or (keyword_text q) 0 0) ≡ true
keyword_letter k.Async = refl
keyword_letter _ = refl

keyword_some : (q : Keyword) → 0 < length (keyword_text q)
keyword_some k.Async = omega arith
keyword_some _ = omega arith

keyword_at : (fresh : Bool) (q : Keyword) (rest : List ℕ) (b : ℕ) → IsGap b → Begins fresh (keyword_text q ++ b ∷ rest) (t.Keyword q) (length (keyword_text q))
keyword_at fresh q rest b g =
    let w = keyword_text q in
    let text = w ++ b ∷ rest in
    let start = subst (λ c. IsTrue (is_name_start c)) (sym (first_kept w (b ∷ rest) (keyword_some q))) (letter_start (get_or w 0 0) (keyword_letter q)) in
    keyword_begins fresh text (length w) q start (run_len is_name_part w rest b (keyword_parts q) (gap_part b g)) (fits w (b ∷ rest)) (take_at w (b ∷ rest) (length w) refl)

-- NUMBERS
value_digit : (c : ℕ) → digit_value c < 10 → IsTrue (is_digit c)
value_digit c h = grind arith

all_digits : (w : List ℕ) → AllDigits 10 w → AllPass is_digit w
all_digits [] h = All-nil (λ c. IsTrue (is_digit c))
all_digits (c ∷ cs) h = All-cons (λ c. IsTrue (is_digit c)) c cs (value_digit c h.0) (all_digits cs h.1)

leading : (n : ℕ) → n < 2 ^ 64 → get_or (decimal n) 0 0 ≡ 48 → length (decimal n) ≤ 1
leading n h z =
    elim (cases_lt 0 n) [
      | inl lt ↦ absurd (let f = first_decimal n lt h in omega arith)
      | inr le ↦ let e : decimal n ≡ (48 + n) ∷ [] = decimal_digit n (omega arith) in let l = ap length e in omega arith
    ]

number_at : (fresh : Bool) (n : ℕ) (rest : List ℕ) (b : ℕ) → n ≤ greatest_number → IsGap b → Begins fresh (decimal n ++ b ∷ rest) (t.Number n) (length (decimal n))
number_at fresh n rest b h g =
    let w = decimal n in
    let text = w ++ b ∷ rest in
    let small : n < 2 ^ 64 = omega arith in
    let d = decimal_is_IsNumeral n small in
    let value : digits_value 10 w ≡ n = d.1 in
    let all = all_digits w d.0.1 in
    let front : take (length w) text ≡ w = take_at w (b ∷ rest) (length w) refl in
    let behind : drop (length w) text ≡ b ∷ rest = drop_at w (b ∷ rest) (length w) refl in
    let first = first_kept w (b ∷ rest) d.0.0 in
    let start : IsTrue (is_digit (get_or text 0 0)) = subst (λ c. IsTrue (is_digit c)) (sym first) (all 0 0 d.0.0) in
    let same : digits_value 10 (take (length w) text) ≡ n = ap (digits_value 10) front ∙ value in
    subst (λ v. Begins fresh text (t.Number v) (length w)) same
    (number_begins fresh text (length w) start (run_len is_digit w rest b all (gap_digit b g)) (fits w (b ∷ rest)) (λ z. leading n small (sym first ∙ z))
    (subst (λ v. IsTrue (begins_free v)) (sym behind) (gap_free b rest g)) (subst (λ v. v ≤ greatest_number) (sym same) h))

-- TEXTS
text_at : (fresh : Bool) (us rest : List ℕ) (b : ℕ) → All (λ u. u < 65536) us → Begins fresh (quoted us ++ b ∷ rest) (t.Text us) (length (quoted us))
text_at fresh us rest b h =
    let cs = flat_map unit_text us in
    let whole : quoted us ++ b ∷ rest ≡ 34 ∷ (cs ++ 34 ∷ b ∷ rest) = ap (λ v. 34 ∷ v) (append_assoc cs (34 ∷ []) (b ∷ rest)) in
    let long : length (quoted us) ≡ length cs + 2 = omega (arith, length-append cs (34 ∷ [])) in
    subst (λ v. Begins fresh v (t.Text us) (length (quoted us))) (sym whole)
    (subst (λ n. Begins fresh (34 ∷ (cs ++ 34 ∷ b ∷ rest)) (t.Text us) n) (sym long) (quoted_at fresh 34 cs (b ∷ rest) us (inl refl) (units_inside us h)))

-- SIGNS
sign_before_feed : (s : Sign) (rest : List ℕ) → sign_of (sign_text s ++ 10 ∷ rest) ≡ Some s
sign_before_feed s.Dot rest = refl
sign_before_feed _ rest = refl

sign_before_space : (s : Sign) (rest : List ℕ) → sign_of (sign_text s ++ 32 ∷ rest) ≡ Some s
sign_before_space s.Dot rest = refl
sign_before_space _ rest = refl

follows_feed : (fresh : Bool) (s : Sign) (rest : List ℕ) → may_follow fresh s (get_or (sign_text s ++ 10 ∷ rest) 1 0) (get_or (sign_text s ++ 10 ∷ rest) 2 0) ≡ true
follows_feed true s.Decrement rest = refl
follows_feed false s.Decrement rest = refl
follows_feed fresh s.Dot rest = refl
follows_feed fresh _ rest = refl

follows_space : (fresh : Bool) (s : Sign) (rest : List ℕ) → may_follow fresh s (get_or (sign_text s ++ 32 ∷ rest) 1 0) (get_or (sign_text s ++ 32 ∷ rest) 2 0) ≡ true
follows_space true s.Decrement rest = refl
follows_space false s.Decrement rest = refl
follows_space fresh s.Dot rest = refl
follows_space fresh _ rest = refl

sign_at : (fresh : Bool) (s : Sign) (rest : List ℕ) (b : ℕ) → IsGap b → Begins fresh (sign_text s ++ b ∷ rest) (t.Sign s) (length (sign_text s))
sign_at fresh s rest b feed = sign_begins fresh (sign_text s ++ 10 ∷ rest) s (sign_before_feed s rest) (follows_feed fresh s rest)
sign_at fresh s rest b space = sign_begins fresh (sign_text s ++ 32 ∷ rest) s (sign_before_space s rest) (follows_space fresh s rest)

-- ANY TOKEN
pub token_at_gap : (fresh : Bool) (j : TokenKind) (rest : List ℕ) (b : ℕ) → HasForm j → IsGap b → Begins fresh (token_text j ++ b ∷ rest) j (length (token_text j))
token_at_gap fresh (t.Name x) rest b h g = name_at fresh x rest b h g
token_at_gap fresh (t.Keyword q) rest b h g = keyword_at fresh q rest b g
token_at_gap fresh (t.Number n) rest b h g = number_at fresh n rest b h g
token_at_gap fresh (t.Text us) rest b h g = text_at fresh us rest b h
token_at_gap fresh (t.Sign s) rest b h g = sign_at fresh s rest b g
