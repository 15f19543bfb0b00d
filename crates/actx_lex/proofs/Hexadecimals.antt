-- The code point that hexadecimal digits write.
use Rattle.std.proofs.Common.{◌≡◌, ℕ, ◌+◌, ◌*◌, ◌<◌, ◌≤◌, true, false, ◌&&◌, List, [], ◌∷◌, Some, None, length, refl, sym, IsTrue, leb, arith}
use Rattle.std.specs.List.{list_all}
use Rattle.std.proofs.lemmas.Bool.{cond-true, cond-false, lt-leb, le-leb, and_left, and_right, and_from}
use Rattle.std.proofs.lemmas.List.Elements.{All-head, All-tail}
use Rattle.actx_lex.specs.Characters.{AllPass, is_hex, hex_on, hex_value}
use Rattle.actx_lex.specs.Pieces.{hex_number}

-- more digits make no smaller number
pub hex_grows : (n : ℕ) (w : List ℕ) → n ≤ hex_on n w
hex_grows n [] = omega arith
hex_grows n (c ∷ w) = let more = hex_grows (n * 16 + hex_value c) w in omega arith

pub no_hex : (w : List ℕ) → list_all is_hex w ≡ false → None ≡ hex_number w
no_hex w e = sym (cond-false (list_all is_hex w && leb (hex_on 0 w) 1114111) (Some (hex_on 0 w)) None (and_left _ _ e))

pub too_great : (w : List ℕ) → 1114111 < hex_on 0 w → None ≡ hex_number w
too_great w e = sym (cond-false (list_all is_hex w && leb (hex_on 0 w) 1114111) (Some (hex_on 0 w)) None (and_right _ _ (lt-leb (hex_on 0 w) 1114111 e)))

pub hex_found : (w : List ℕ) → list_all is_hex w ≡ true → hex_on 0 w ≤ 1114111 → hex_number w ≡ Some (hex_on 0 w)
hex_found w e h = cond-true (list_all is_hex w && leb (hex_on 0 w) 1114111) (Some (hex_on 0 w)) None (and_from _ _ e (le-leb (hex_on 0 w) 1114111 h))

pub all_hex : (w : List ℕ) → AllPass is_hex w → list_all is_hex w ≡ true
all_hex [] h = refl
all_hex (c ∷ w) h = and_from (is_hex c) (list_all is_hex w) (All-head (λ c. IsTrue (is_hex c)) c w h) (all_hex w (All-tail (λ c. IsTrue (is_hex c)) c w h))

digit_small : (c : ℕ) → IsTrue (is_hex c) → hex_value c < 16
digit_small c h = grind arith

-- four digits write no more than 16 bits
pub hex_small : (w : List ℕ) (n : ℕ) → length w ≡ n → n ≤ 4 → AllPass is_hex w → hex_on 0 w < 65536
hex_small [] n e s h = omega arith
hex_small (a ∷ []) n e s h = omega (arith, digit_small a (h 0 0 (omega arith)))
hex_small (a ∷ b ∷ []) n e s h = omega (arith, digit_small a (h 0 0 (omega arith)), digit_small b (h 1 0 (omega arith)))
hex_small (a ∷ b ∷ c ∷ []) n e s h = omega (arith, digit_small a (h 0 0 (omega arith)), digit_small b (h 1 0 (omega arith)), digit_small c (h 2 0 (omega arith)))
hex_small (a ∷ b ∷ c ∷ d ∷ []) n e s h = omega (arith, digit_small a (h 0 0 (omega arith)), digit_small b (h 1 0 (omega arith)), digit_small c (h 2 0 (omega arith)), digit_small d (h 3 0 (omega arith)))
hex_small (a ∷ b ∷ c ∷ d ∷ f ∷ w) n e s h = absurd (omega arith)
