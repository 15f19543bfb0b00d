-- Texts as lists of code units (ECMA-262, 6.1.4, with the limit of the profile).
use Rattle.std.specs.Prelude.{ℕ, ◌+◌, List, ◌++◌, length, Option, Some, None, nat_le, if◌then◌else◌}

-- one text behind another, where that is no longer than a text may be
abbrev pub joined : List ℕ → List ℕ → Option (List ℕ)
joined a b = if nat_le (length a + length b) 1048576 then Some (a ++ b) else None
