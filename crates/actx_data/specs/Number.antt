-- Numbers: whole, and from -(2^53 - 1) to 2^53 - 1 (ECMA-262, 6.1.6.1, restricted to the profile).
use Rattle.std.specs.Prelude.{ℕ, ℤ, pos, negsuc, ◌+ℤ◌, ◌-ℤ◌, ◌*ℤ◌, Bool, Option, Some, None, IsTrue, nat_le, nat_lt, if◌then◌else◌}

abbrev pub greatest : ℕ
greatest = 9007199254740991

-- negsuc n is -(n + 1)
abbrev pub is_whole : ℤ → Bool
is_whole (pos n) = nat_le n greatest
is_whole (negsuc n) = nat_lt n greatest

-- a number of the profile
abbrev pub IsWhole : ℤ → Type 0
IsWhole z = IsTrue (is_whole z)

-- the number, where the profile has it
abbrev pub in_profile : ℤ → Option ℤ
in_profile z = if is_whole z then Some z else None

abbrev pub sum_of : ℤ → ℤ → Option ℤ
sum_of a b = in_profile (a +ℤ b)

abbrev pub difference_of : ℤ → ℤ → Option ℤ
difference_of a b = in_profile (a -ℤ b)

abbrev pub product_of : ℤ → ℤ → Option ℤ
product_of a b = in_profile (a *ℤ b)
