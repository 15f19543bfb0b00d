-- What the prelude keeps in the heap: at 0 and 1 stand the methods of WeakMaps, then the functions that the program's list
-- declares, which are made when the list begins, and behind these n functions the states at 2 + n, the current mapping and
-- the count at 3 + n, and the prelude's functions from 4 + n on.
use Rattle.std.specs.Prelude.{◌≡◌, ℕ, ◌+◌, pos, List, [], ◌∷◌, Option, Some, slice_get}
use Rattle.actx_data.specs.declared.value.Value.{Value}
use Rattle.actx_data.specs.declared.value.Value.TheVariants as v
use Rattle.actx_grammar.specs.declared.operators.FunctionKind.TheVariants.{Normal as normal_kind, Arrow as arrow_kind}
use Rattle.actx_grammar.specs.Tree as t
use Rattle.actx_heap.specs.Things.{Thing, Plain, Listed, Function}
use Rattle.actx_table.specs.Agent.{weak_props, weak_at}
use Rattle.actx_table.specs.Prelude.{name_states, name_now, name_find, name_with, name_get, name_run, name_make, name_variable, the_list, the_number, the_other, the_value, the_f, the_name, the_options, the_arguments, key_number, key_value, key_rest, key_mapping, key_count, find_body, with_body, get_body, run_body, run_last, make_body, variable_body}
use Rattle.actx_table.specs.Scopes.{cell_of, fixed_cell}
use Rattle.actx_table.specs.Machine.{no_store}
use Rattle.actx_table.specs.State.{Cell, Code, Closure, Native, WeakMapGet, WeakMapSet, Entry, Frame, ReturnFrame, TryFrame, ListFrame, CallFrame, Store}

-- CONSTANTS in the outermost scope
abbrev pub constant_at : List ℕ → ℕ → Option Cell
constant_at x k = Some (fixed_cell x (v.Thing k))

pub record IsBase (n : ℕ) (cells : List Cell) : Type 0 where
  pub states : cell_of name_states cells ≡ constant_at name_states (2 + n)
  pub now : cell_of name_now cells ≡ constant_at name_now (3 + n)
  pub find : cell_of name_find cells ≡ constant_at name_find (4 + n)
  pub with : cell_of name_with cells ≡ constant_at name_with (5 + n)
  pub get : cell_of name_get cells ≡ constant_at name_get (6 + n)
  pub run : cell_of name_run cells ≡ constant_at name_run (7 + n)
  pub make : cell_of name_make cells ≡ constant_at name_make (8 + n)
  pub variable : cell_of name_variable cells ≡ constant_at name_variable (9 + n)

-- RECORDS
-- the current mapping, and how many variables there are
abbrev pub now_record : Value → ℕ → Thing Code
now_record mapping made = Plain (record { key = key_mapping; value = mapping } ∷ record { key = key_count; value = v.Num (pos made) } ∷ [])

-- an entry of a mapping
abbrev pub entry_record : ℕ → Value → Value → Thing Code
entry_record n value rest = Listed (record { key = key_number; value = v.Num (pos n) } ∷ record { key = key_value; value = value } ∷ record { key = key_rest; value = rest } ∷ [])

-- a variable's number and default
abbrev pub state_record : ℕ → Value → Thing Code
state_record n default = Listed (record { key = key_number; value = v.Num (pos n) } ∷ record { key = key_value; value = default } ∷ [])

-- FUNCTIONS
abbrev pub find_code : Code
find_code = Closure arrow_kind (the_list ∷ the_number ∷ the_other ∷ []) find_body (0 ∷ []) v.Undefined

abbrev pub with_code : Code
with_code = Closure arrow_kind (the_list ∷ the_number ∷ the_value ∷ []) with_body (0 ∷ []) v.Undefined

abbrev pub get_code : Code
get_code = Closure normal_kind [] get_body (0 ∷ []) v.Undefined

abbrev pub run_code : Code
run_code = Closure normal_kind (the_value ∷ the_f ∷ the_arguments) run_body (0 ∷ []) v.Undefined

abbrev pub make_code : Code
make_code = Closure arrow_kind (the_name ∷ the_value ∷ []) make_body (0 ∷ []) v.Undefined

abbrev pub variable_code : Code
variable_code = Closure arrow_kind (the_options ∷ []) variable_body (0 ∷ []) v.Undefined

-- MAPPINGS as linked frozen records, whose values stand for those of the source
pub data MappingIs (R : Value → Value → Type 0) (heap : List (Thing Code)) : List (ℕ × Value) → Value → Type 0 where
  no_mapping : MappingIs R heap [] v.Undefined
  more_mapping : (n k : ℕ) {a b rest : Value} {ms : List (ℕ × Value)} → R a b → slice_get heap k ≡ Some (entry_record n b rest) → MappingIs R heap ms rest → MappingIs R heap ((n, a) ∷ ms) (v.Thing k)

-- FRAMES of run, whose call has the scope k, while the function runs
abbrev pub running : ℕ → List ℕ → Value → List Frame → List Frame
running k back r gs = ReturnFrame ∷ ListFrame t.end (k ∷ 0 ∷ []) ∷ TryFrame t.no_catch (t.last run_last) (k ∷ 0 ∷ []) ∷ ListFrame t.end (k ∷ 0 ∷ []) ∷ CallFrame back r ∷ gs

-- a store in which the prelude has run
pub record Ready (r : Store) : Type 0 where
  pub before : ℕ
  pub top : List Cell
  pub top_at : slice_get r.scopes 0 ≡ Some top
  pub base : IsBase before top
  pub entries : List Entry
  pub states_at : slice_get r.heap (2 + before) ≡ Some (Listed weak_props)
  pub entries_at : weak_at (2 + before) r.weak ≡ Some entries
  pub current : Value
  pub made : ℕ
  pub now_at : slice_get r.heap (3 + before) ≡ Some (now_record current made)
  pub weak_get_at : slice_get r.heap 0 ≡ Some (Function (Native WeakMapGet))
  pub weak_set_at : slice_get r.heap 1 ≡ Some (Function (Native WeakMapSet))
  pub find_at : slice_get r.heap (4 + before) ≡ Some (Function find_code)
  pub with_at : slice_get r.heap (5 + before) ≡ Some (Function with_code)
  pub make_at : slice_get r.heap (8 + before) ≡ Some (Function make_code)

-- THE STORE that the prelude leaves, before any program
abbrev pub begun_cells : List Cell
begun_cells =
    fixed_cell name_states (v.Thing 2) ∷ fixed_cell name_now (v.Thing 3) ∷ fixed_cell name_find (v.Thing 4) ∷ fixed_cell name_with (v.Thing 5)
    ∷ fixed_cell name_get (v.Thing 6) ∷ fixed_cell name_run (v.Thing 7) ∷ fixed_cell name_make (v.Thing 8) ∷ fixed_cell name_variable (v.Thing 9) ∷ []

abbrev pub begun_heap : List (Thing Code)
begun_heap = Function (Native WeakMapGet) ∷ Function (Native WeakMapSet) ∷ Listed weak_props ∷ now_record v.Undefined 0 ∷ Function find_code ∷ Function with_code ∷ Function get_code ∷ Function run_code ∷ Function make_code ∷ Function variable_code ∷ []

abbrev pub begun : Store
begun = record no_store { scopes = begun_cells ∷ []; heap = begun_heap; weak = record { place = 2; entries = [] } ∷ [] }
