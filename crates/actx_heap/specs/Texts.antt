-- Texts that are compared, and texts that are whole numbers (ECMA-262, 7.2.15 and 10.4.3.5).
use Rattle.std.specs.Prelude.{ℕ, ◌+◌, ◌-◌, ◌*◌, Bool, true, false, not, ◌&&◌, nat_le, nat_eq, List, [], ◌∷◌, ◌==◌}
use Rattle.std.specs.Cmp.Lexicographic.{pointwise}

abbrev pub same_text : List ℕ → List ℕ → Bool
same_text = pointwise ◌==◌

-- the units of 0 to 9
abbrev pub is_digit : ℕ → Bool
is_digit c = nat_le 48 c && nat_le c 57

abbrev pub all_digits : List ℕ → Bool
all_digits [] = true
all_digits (c ∷ cs) = is_digit c && all_digits cs

-- a decimal whole number without a sign and without leading zeros, as `0` and `10`
abbrev pub is_index : List ℕ → Bool
is_index [] = false
is_index (c ∷ []) = is_digit c
is_index (c ∷ cs) = is_digit c && (not (nat_eq c 48) && all_digits cs)

-- the number that the digits behind those of n make with it
abbrev pub number_from : ℕ → List ℕ → ℕ
number_from n [] = n
number_from n (c ∷ cs) = number_from (n * 10 + (c - 48)) cs

abbrev pub index_of : List ℕ → ℕ
index_of cs = number_from 0 cs
