-- What the machines keep beside the heap: variables, WeakMaps and callbacks (24.3, and TC39 AsyncContext).
use Rattle.std.specs.Prelude.{ℕ, nat_eq, List, [], ◌∷◌, Option, Some, None, codes, if◌then◌else◌}
use Rattle.actx_data.specs.declared.value.Value.{Value}
use Rattle.actx_data.specs.declared.value.Value.TheVariants as v
use Rattle.actx_heap.specs.Texts.{same_text}
use Rattle.actx_heap.specs.Things.{Prop}
use Rattle.actx_agent.specs.Mapping.{mapped}
use Rattle.actx_table.specs.Scopes.{option_or}
use Rattle.actx_table.specs.State.{Variable, Entry, Weak, Callback}

-- VARIABLES
-- the value that is in place for a variable, or its default where none is
abbrev pub mapped_or : Variable → List (ℕ × Value) → Value
mapped_or x ms = option_or (mapped x.number ms) x.default

-- the variable that stands at a place of the heap
abbrev pub variable_at : ℕ → List Variable → Option Variable
variable_at k [] = None
variable_at k (x ∷ xs) = if nat_eq k x.place then Some x else variable_at k xs

abbrev pub this_variable : Value → List Variable → Option Variable
this_variable (v.Thing k) xs = variable_at k xs
this_variable _ xs = None

-- the properties of every variable: its methods, which stand at the first places of the heap, and its name
abbrev pub variable_props : List ℕ → List Prop
variable_props name = record { key = codes "get"; value = v.Thing 0 } ∷ record { key = codes "run"; value = v.Thing 1 } ∷ record { key = codes "name"; value = v.Text name } ∷ []

-- WEAK MAPS (24.3.3)
-- the methods of every WeakMap, which stand at the first places of the heap
abbrev pub weak_props : List Prop
weak_props = record { key = codes "get"; value = v.Thing 0 } ∷ record { key = codes "set"; value = v.Thing 1 } ∷ []

abbrev pub entry_of : ℕ → List Entry → Option Value
entry_of k [] = None
entry_of k (e ∷ es) = if nat_eq k e.place then Some e.value else entry_of k es

abbrev pub with_entry : ℕ → Value → List Entry → List Entry
with_entry k v [] = record { place = k; value = v } ∷ []
with_entry k v (e ∷ es) = if nat_eq k e.place then record { place = e.place; value = v } ∷ es else e ∷ with_entry k v es

-- the value for a key; a key that is no thing has none
abbrev pub entry_at : Value → List Entry → Value
entry_at (v.Thing k) es = option_or (entry_of k es) v.Undefined
entry_at _ es = v.Undefined

-- the entries of the WeakMap that stands at a place of the heap
abbrev pub weak_at : ℕ → List Weak → Option (List Entry)
weak_at k [] = None
weak_at k (w ∷ ws) = if nat_eq k w.place then Some w.entries else weak_at k ws

abbrev pub this_weak : Value → List Weak → Option (List Entry)
this_weak (v.Thing k) ws = weak_at k ws
this_weak _ ws = None

abbrev pub with_weak : ℕ → List Entry → List Weak → List Weak
with_weak k es [] = []
with_weak k es (w ∷ ws) = if nat_eq k w.place then record { place = w.place; entries = es } ∷ ws else w ∷ with_weak k es ws

-- CALLBACKS: one for each name of an event; a later one replaces an earlier one
abbrev pub callback_of : List ℕ → List Callback → Option Value
callback_of name [] = None
callback_of name (c ∷ cs) = if same_text name c.name then Some c.callee else callback_of name cs

abbrev pub with_callback : List ℕ → Value → List Callback → List Callback
with_callback name f [] = record { name = name; callee = f } ∷ []
with_callback name f (c ∷ cs) = if same_text name c.name then record { name = c.name; callee = f } ∷ cs else c ∷ with_callback name f cs
