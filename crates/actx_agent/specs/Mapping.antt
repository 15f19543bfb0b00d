-- The mapping of variables to values: a list of pairs with distinct numbers (TC39 AsyncContext).
use Rattle.std.specs.Prelude.{ℕ, nat_eq, List, [], ◌∷◌, Option, Some, None, if◌then◌else◌}
use Rattle.actx_data.specs.declared.value.Value.{Value}

-- the value that is in place for a variable
abbrev pub mapped : ℕ → List (ℕ × Value) → Option Value
mapped n [] = None
mapped n (e ∷ es) = if nat_eq e.0 n then Some e.1 else mapped n es

-- the mapping with the variable at the value: in its place, or last
abbrev pub with_mapped : ℕ → Value → List (ℕ × Value) → List (ℕ × Value)
with_mapped n v [] = (n, v) ∷ []
with_mapped n v (e ∷ es) = if nat_eq e.0 n then (n, v) ∷ es else e ∷ with_mapped n v es
