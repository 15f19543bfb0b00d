-- Texts and names as lists of numbers.
use Rattle.std.specs.Prelude.{ℕ, List, Bool, ◌==◌}
use Rattle.std.specs.Cmp.Lexicographic.{pointwise}

abbrev pub same_text : List ℕ → List ℕ → Bool
same_text = pointwise ◌==◌
