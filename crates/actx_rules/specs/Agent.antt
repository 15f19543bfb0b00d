-- What the agent keeps for AsyncContext: the variables, and the mapping of variables to values that is current.
use Rattle.std.specs.Prelude.{ℕ, nat_eq, List, [], ◌∷◌, Option, Some, None, codes, if◌then◌else◌}
use Rattle.actx_data.specs.declared.value.Value.{Value}
use Rattle.actx_data.specs.declared.value.Value.TheVariants as v
use Rattle.actx_rules.specs.State.{Prop, Mapped, Variable}

-- the value that is in place for a variable, or its default where none is
abbrev pub mapped_or : ℕ → Value → List Mapped → Value
mapped_or n d [] = d
mapped_or n d (m ∷ ms) = if nat_eq m.number n then m.value else mapped_or n d ms

-- the mapping with the variable at the value: in its place, or last
abbrev pub with_mapped : ℕ → Value → List Mapped → List Mapped
with_mapped n v [] = record { number = n; value = v } ∷ []
with_mapped n v (m ∷ ms) = if nat_eq m.number n then record { number = n; value = v } ∷ ms else m ∷ with_mapped n v ms

-- the variable that stands at a place of the heap
abbrev pub variable_at : ℕ → List Variable → Option Variable
variable_at k [] = None
variable_at k (x ∷ xs) = if nat_eq k x.place then Some x else variable_at k xs

abbrev pub this_variable : Value → List Variable → Option Variable
this_variable (v.Thing k) xs = variable_at k xs
this_variable _ xs = None

-- the properties of every variable: its methods, which stand at the first places of the heap, and its name
abbrev pub variable_props : List ℕ → List Prop
variable_props name = record { key = codes "get"; value = v.Thing 0 } ∷ record { key = codes "run"; value = v.Thing 1 } ∷ record { key = codes "name"; value = v.Text name } ∷ []
