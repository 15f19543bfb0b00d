-- The entries of the code's tables as cells, properties and entries of the definitions.
use Rattle.std.specs.Prelude.{◌≡◌, ◌++◌, ℕ, List, [], Option, Some, None, map}
use Rattle.std.specs.declared.boxed.Box.{Box}
use Rattle.indexmap.specs.IndexMap.{IndexMap}
use Rattle.actx_data.specs.declared.value.Value.{Value}
use Rattle.actx_rules.specs.State.{Cell, Prop, Entry, with_cell}
use Rattle.actx_target.specs.declared.scope.Named.{Named}
use Rattle.actx_target.specs.declared.scope.Slot.{Slot}

-- a name with its slot
abbrev pub cell_in : (List ℕ × Slot) → Cell
cell_in e = record { name = e.0; value = e.1.value; constant = e.1.constant }

abbrev pub named_cell : Named → Cell
named_cell n = cell_in (n.name, n.slot)

abbrev pub slot_of : Cell → Slot
slot_of c = record { value = c.value; constant = c.constant }

-- a key with its value
abbrev pub prop_in : (List ℕ × Value) → Prop
prop_in e = record { key = e.0; value = e.1 }

-- a thing's place with its value
abbrev pub entry_in : (ℕ × Value) → Entry
entry_in e = record { place = e.0; value = e.1 }

-- the cells of a scope that has a table, or none
abbrev pub cells_in : {S A : Type 0} → Option (Box (IndexMap (List ℕ) Slot S) A) → List Cell
cells_in None = []
cells_in (Some names) = map cell_in names.value.entries

-- a list of cells after a name was given a slot in it: no slot is left, or it is left for the cells behind the list
abbrev pub Replaced : List ℕ → Slot → List Cell → List Cell → Option Slot → Type 0
Replaced x s old new None = (ds : List Cell) → new ++ ds ≡ with_cell (cell_in (x, s)) (old ++ ds)
Replaced x s old new (Some left) = (ds : List Cell) → new ++ with_cell (cell_in (x, left)) ds ≡ with_cell (cell_in (x, s)) (old ++ ds)

-- nothing for a name that isn't declared, else the value that its cell has or has not
abbrev pub found_cell : Option Cell → Option (Option Value)
found_cell None = None
found_cell (Some c) = Some c.value
