-- The units of a text, each by itself or escaped, stand between quotes for themselves.
use Rattle.std.proofs.Common.{◌≡◌, ◌≢◌, inl, inr, ℕ, ◌+◌, ◌*◌, ◌/◌, ◌%◌, ◌<◌, ◌≤◌, Bool, true, false, cond, ◌&&◌, ◌||◌, List, [], ◌∷◌, ◌++◌, refl, sym, ◌∙◌, ap, subst, arith, IsTrue, All, flat_map, eqb, leb, ltb}
use Rattle.std.proofs.lemmas.Bool.{cond_both, or_cases, or_parts, and_parts, eqb-true, eqb-false, leb-true}
use Rattle.std.proofs.lemmas.List.Elements.{All-from_recursion, All-head, All-tail}
use Rattle.actx_grammar.specs.Words.{units_of}
use Rattle.actx_lex.specs.Characters.{AllPass, is_hex, hex_value, hex_on, is_escaped, single_escape, Inside, nothing, itself, single, four_hex}
use Rattle.actx_lex.proofs.Insides.{small_units}
use Rattle.actx_emit.specs.Layout.{hex_digit, unit_text, quoted}

-- A DIGIT
digit_hex : (n : ℕ) → n < 16 → IsTrue (is_hex (hex_digit n))
digit_hex n h = grind arith

digit_value : (n : ℕ) → n < 16 → hex_value (hex_digit n) ≡ n
digit_value n h = grind arith

pub digit_low : (n : ℕ) → n < 16 → hex_digit n < 128
digit_low n h = grind arith

-- the four digits write the unit
written : (u : ℕ) → u < 65536 → ((u / 4096 * 16 + u / 256 % 16) * 16 + u / 16 % 16) * 16 + u % 16 ≡ u
written u h = omega arith

four_written : (u : ℕ) → u < 65536 → hex_on 0 (hex_digit (u / 4096) ∷ hex_digit (u / 256 % 16) ∷ hex_digit (u / 16 % 16) ∷ hex_digit (u % 16) ∷ []) ≡ u
four_written u h =
    let a = digit_value (u / 4096) (omega arith) in
    let b = digit_value (u / 256 % 16) (omega arith) in
    let c = digit_value (u / 16 % 16) (omega arith) in
    let d = digit_value (u % 16) (omega arith) in
    omega (arith, written u h, a, b, c, d)

four_pass : (u : ℕ) → u < 65536 → AllPass is_hex (hex_digit (u / 4096) ∷ hex_digit (u / 256 % 16) ∷ hex_digit (u / 16 % 16) ∷ hex_digit (u % 16) ∷ [])
four_pass u h =
    All-from_recursion (λ c. IsTrue (is_hex c)) (hex_digit (u / 4096) ∷ hex_digit (u / 256 % 16) ∷ hex_digit (u / 16 % 16) ∷ hex_digit (u % 16) ∷ [])
    (digit_hex (u / 4096) (omega arith), (digit_hex (u / 256 % 16) (omega arith), (digit_hex (u / 16 % 16) (omega arith), (digit_hex (u % 16) (omega arith), tt))))

-- A UNIT
escaped_unit : (u : ℕ) {cs us : List ℕ} → (eqb u 34 || eqb u 92) ≡ true → Inside 34 cs us → Inside 34 (92 ∷ u ∷ cs) (u ∷ us)
escaped_unit u {cs} {us} e i =
    elim (or_cases (eqb u 34) (eqb u 92) e) [
      | inl q ↦ subst (λ v. Inside 34 (92 ∷ v ∷ cs) (v ∷ us)) (sym (eqb-true u 34 q)) (single refl i)
      | inr q ↦ subst (λ v. Inside 34 (92 ∷ v ∷ cs) (v ∷ us)) (sym (eqb-true u 92 q)) (single refl i)
    ]

plain_unit : (u : ℕ) {cs us : List ℕ} → (eqb u 34 || eqb u 92) ≡ false → (leb 32 u && leb u 126) ≡ true → Inside 34 cs us → Inside 34 (u ∷ cs) (u ∷ us)
plain_unit u {cs} {us} e f i =
    let apart = or_parts (eqb u 34) (eqb u 92) e in
    let between = and_parts (leb 32 u) (leb u 126) f in
    let low : 32 ≤ u = leb-true 32 u between.0 in
    let high : u ≤ 126 = leb-true u 126 between.1 in
    let no_feed : u ≢ 10 = omega arith in
    let no_return : u ≢ 13 = omega arith in
    subst (λ v. Inside 34 (u ∷ cs) (v ++ us)) (small_units u (omega arith)) (itself (eqb-false u 34 apart.0) (eqb-false u 92 apart.1) no_feed no_return i)

hex_unit : (u : ℕ) {cs us : List ℕ} → u < 65536 → Inside 34 cs us → Inside 34 (92 ∷ 117 ∷ hex_digit (u / 4096) ∷ hex_digit (u / 256 % 16) ∷ hex_digit (u / 16 % 16) ∷ hex_digit (u % 16) ∷ cs) (u ∷ us)
hex_unit u {cs} {us} h i =
    subst (λ v. Inside 34 (92 ∷ 117 ∷ hex_digit (u / 4096) ∷ hex_digit (u / 256 % 16) ∷ hex_digit (u / 16 % 16) ∷ hex_digit (u % 16) ∷ cs) (v ∷ us)) (four_written u h) (four_hex (four_pass u h) i)

unit_inside : (u : ℕ) {cs us : List ℕ} → u < 65536 → Inside 34 cs us → Inside 34 (unit_text u ++ cs) (u ∷ us)
unit_inside u {cs} {us} h i =
    cond_both (eqb u 34 || eqb u 92) (92 ∷ u ∷ []) _ (λ v. Inside 34 (v ++ cs) (u ∷ us))
    (λ e. escaped_unit u e i)
    (λ e. cond_both (leb 32 u && leb u 126) (u ∷ []) _ (λ v. Inside 34 (v ++ cs) (u ∷ us))
    (λ f. plain_unit u e f i)
    (λ f. hex_unit u h i))

pub units_inside : (us : List ℕ) → All (λ u. u < 65536) us → Inside 34 (flat_map unit_text us) us
units_inside [] h = nothing
units_inside (u ∷ us) h = unit_inside u (All-head (λ u. u < 65536) u us h) (units_inside us (All-tail (λ u. u < 65536) u us h))
