-- Each character of a printed text is a Unicode scalar value.
use Rattle.std.proofs.Common.{◌≡◌, inl, inr, ℕ, suc, ◌+◌, ◌/◌, ◌%◌, ◌<◌, ◌≤◌, ◌^◌, Bool, true, false, not, ◌&&◌, ◌||◌, List, [], ◌∷◌, ◌++◌, get_or, refl, sym, ◌∙◌, ap, subst, arith, IsTrue, All, flat_map, decimal, eqb, leb, ltb, lit<}
use Rattle.std.specs.Str.{all_scalars, IsAscii}
use Rattle.std.proofs.lemmas.Bool.{cond_both, or_cases, and_parts, leb-true, eqb-true}
use Rattle.std.proofs.lemmas.Fmt.{IsAscii-decimal}
use Rattle.std.proofs.lemmas.List.Elements.{All-head, All-tail}
use Rattle.std.proofs.Math.Utf8.{scalar, low_scalar}
use Rattle.ucd_table.specs.Rows.{in_ranges}
use Rattle.ucd_table.proofs.Stepped.{zip_stepped, of_ranges}
use Rattle.ucd_table.proofs.Facts.{Stepped-everywhere}
use Rattle.ucd_derived.proofs.BinaryLemmas.{is_xid_continue_stepped}
use Rattle.unicode_ident.specs.Ident.{is_xid_continue}
use Rattle.unicode_ident.proofs.Computing.{unicode_ident}
use Rattle.actx_grammar.specs.declared.token.TokenKind.{TokenKind}
use Rattle.actx_grammar.specs.declared.token.TokenKind.TheVariants as t
use Rattle.actx_grammar.specs.Layout.{ends_line}
use Rattle.actx_grammar.specs.Words.{is_name_part, IsName, HasForm, greatest_number}
use Rattle.actx_lex.specs.Characters.{AllPass}
use Rattle.actx_lex.proofs.NameRuns.{name_parts}
use Rattle.actx_emit.specs.Layout.{hex_digit, unit_text, quoted, token_text, gap_after, layout}
use Rattle.actx_emit.proofs.Ascii.{keyword_is_ascii, sign_is_ascii}
use Rattle.actx_emit.proofs.Units.{digit_low}

pub scalars_both : (xs ys : List ℕ) → all_scalars xs ≡ true → all_scalars ys ≡ true → all_scalars (xs ++ ys) ≡ true
scalars_both [] ys h g = g
scalars_both (x ∷ xs) ys h g =
    let p = and_parts (scalar x) (all_scalars xs) h in
    ap (λ b. b && all_scalars (xs ++ ys)) p.0 ∙ scalars_both xs ys p.1 g

scalar_first : (x : ℕ) (xs : List ℕ) → scalar x ≡ true → all_scalars xs ≡ true → all_scalars (x ∷ xs) ≡ true
scalar_first x xs h g = ap (λ b. b && all_scalars xs) h ∙ g

low : (c : ℕ) → c < 128 → scalar c ≡ true
low c h = low_scalar c (omega arith)

ascii_scalars : (xs : List ℕ) → IsAscii xs → all_scalars xs ≡ true
ascii_scalars [] h = refl
ascii_scalars (x ∷ xs) h = scalar_first x xs (low x (h 0)) (ascii_scalars xs (λ i. h (suc i)))

-- NAMES
scalar_ranges : List (ℕ × ℕ)
scalar_ranges = (0, 55295) ∷ (57344, 1114111) ∷ []

in_scalars : (c : ℕ) → in_ranges scalar_ranges c ≡ true → scalar c ≡ true
unfolding in_ranges scalar_ranges
in_scalars c h = grind arith

xid_scalar : (c : ℕ) → is_xid_continue c ≡ true → scalar c ≡ true
unfolding unicode_ident scalar_ranges
xid_scalar c h =
    let both = zip_stepped (λ a b. not a || b) is_xid_continue (in_ranges scalar_ranges) is_xid_continue_stepped (of_ranges scalar_ranges refl) in
    in_scalars c (subst (λ a. (not a || in_ranges scalar_ranges c) ≡ true) h (Stepped-everywhere _ both refl c))

part_scalar : (c : ℕ) → IsTrue (is_name_part c) → scalar c ≡ true
part_scalar c h =
    elim (or_cases (eqb c 36) (is_xid_continue c) h) [
      | inl e ↦ low c (let q = eqb-true c 36 e in omega arith)
      | inr e ↦ xid_scalar c e
    ]

name_scalars : (x : List ℕ) → AllPass is_name_part x → all_scalars x ≡ true
name_scalars [] h = refl
name_scalars (c ∷ cs) h =
    scalar_first c cs (part_scalar c (All-head (λ v. IsTrue (is_name_part v)) c cs h)) (name_scalars cs (All-tail (λ v. IsTrue (is_name_part v)) c cs h))

-- TEXTS
four_scalars : (a b c d : ℕ) → a < 128 → b < 128 → c < 128 → d < 128 → all_scalars (92 ∷ 117 ∷ a ∷ b ∷ c ∷ d ∷ []) ≡ true
four_scalars a b c d p q r s =
    scalar_first a (b ∷ c ∷ d ∷ []) (low a p) (scalar_first b (c ∷ d ∷ []) (low b q) (scalar_first c (d ∷ []) (low c r) (scalar_first d [] (low d s) refl)))

unit_scalars : (u : ℕ) → u < 65536 → all_scalars (unit_text u) ≡ true
unit_scalars u h =
    cond_both (eqb u 34 || eqb u 92) (92 ∷ u ∷ []) _ (λ v. all_scalars v ≡ true)
    (λ e. scalar_first 92 (u ∷ []) refl (scalar_first u [] (either u e) refl))
    (λ _. cond_both (leb 32 u && leb u 126) (u ∷ []) _ (λ v. all_scalars v ≡ true)
    (λ e. scalar_first u [] (low u (let p = leb-true u 126 (and_parts (leb 32 u) (leb u 126) e).1 in omega arith)) refl)
    (λ _. four_scalars (hex_digit (u / 4096)) (hex_digit (u / 256 % 16)) (hex_digit (u / 16 % 16)) (hex_digit (u % 16))
    (digit_low (u / 4096) (omega arith)) (digit_low (u / 256 % 16) (omega arith)) (digit_low (u / 16 % 16) (omega arith)) (digit_low (u % 16) (omega arith))))
  where
    either : (u : ℕ) → (eqb u 34 || eqb u 92) ≡ true → scalar u ≡ true
    either u e =
        elim (or_cases (eqb u 34) (eqb u 92) e) [
          | inl q ↦ low u (let f = eqb-true u 34 q in omega arith)
          | inr q ↦ low u (let f = eqb-true u 92 q in omega arith)
        ]

units_scalars : (us : List ℕ) → All (λ u. u < 65536) us → all_scalars (flat_map unit_text us) ≡ true
units_scalars [] h = refl
units_scalars (u ∷ us) h =
    scalars_both (unit_text u) (flat_map unit_text us) (unit_scalars u (All-head (λ u. u < 65536) u us h)) (units_scalars us (All-tail (λ u. u < 65536) u us h))

-- TOKENS
token_scalars : (k : TokenKind) → HasForm k → all_scalars (token_text k) ≡ true
token_scalars (t.Name x) h = name_scalars x (name_parts x h)
token_scalars (t.Keyword q) h = ascii_scalars _ (keyword_is_ascii q)
token_scalars (t.Number n) h = ascii_scalars (decimal n) (IsAscii-decimal n (omega arith))
token_scalars (t.Text us) h = scalar_first 34 (flat_map unit_text us ++ 34 ∷ []) refl (scalars_both (flat_map unit_text us) (34 ∷ []) (units_scalars us h) refl)
token_scalars (t.Sign s) h = ascii_scalars _ (sign_is_ascii s)

gap_scalar : (k : TokenKind) → scalar (gap_after k) ≡ true
gap_scalar k = cond_both (ends_line k) 10 32 (λ g. scalar g ≡ true) (λ _. refl) (λ _. refl)

pub layout_scalars : (ts : List TokenKind) → All HasForm ts → all_scalars (layout ts) ≡ true
layout_scalars [] h = refl
layout_scalars (k ∷ []) h = scalars_both (token_text k) (10 ∷ []) (token_scalars k (All-head HasForm k [] h)) refl
layout_scalars (k ∷ j ∷ ts) h =
    scalars_both (token_text k) (gap_after k ∷ layout (j ∷ ts)) (token_scalars k (All-head HasForm k (j ∷ ts) h))
    (scalar_first (gap_after k) (layout (j ∷ ts)) (gap_scalar k) (layout_scalars (j ∷ ts) (All-tail HasForm k (j ∷ ts) h)))
