-- The store that the prelude leaves is one of those that the laws speak of, so that they are not empty.
use Rattle.std.proofs.Common.{◌≡◌, List, [], ◌∷◌, Some, refl}
use Rattle.actx_data.specs.declared.value.Value.TheVariants as v
use Rattle.actx_grammar.specs.declared.side.Side.TheVariants.{Plain as plain}
use Rattle.actx_rules.specs.Machine.{at, first_heap, no_store}
use Rattle.actx_rules.specs.Prelude.{prelude, name_states, name_now, name_find, name_with, name_get, name_run, name_make, name_variable}
use Rattle.actx_rules.specs.Related.{now_record, find_thing, with_thing_of, get_thing_of, run_thing_of, make_thing_of, variable_thing_of}
use Rattle.actx_rules.specs.State.{Normal, Cell, Native, WeakMapGet, WeakMapSet, Thing, Weak, ExecList, Done, Store}
use Rattle.actx_rules.specs.Laws.{Ready}
use Rattle.actx_rules.proofs.PreludeLaws.Drive.{drive}
use Rattle.actx_rules.proofs.PreludeLaws.Refused.{const_cell}

abbrev begun_cells : List Cell
begun_cells =
    const_cell name_states (Some (v.Thing 2)) ∷ const_cell name_now (Some (v.Thing 3)) ∷ const_cell name_find (Some (v.Thing 4)) ∷ const_cell name_with (Some (v.Thing 5))
    ∷ const_cell name_get (Some (v.Thing 6)) ∷ const_cell name_run (Some (v.Thing 7)) ∷ const_cell name_make (Some (v.Thing 8)) ∷ const_cell name_variable (Some (v.Thing 9)) ∷ []

abbrev begun_heap : List Thing
begun_heap = Native WeakMapGet ∷ Native WeakMapSet ∷ Weak [] ∷ now_record v.Undefined 0 ∷ find_thing ∷ with_thing_of ∷ get_thing_of ∷ run_thing_of ∷ make_thing_of ∷ variable_thing_of ∷ []

abbrev begun : Store
begun = record no_store { scopes = begun_cells ∷ []; heap = begun_heap }

prelude_runs : drive 41 (ExecList prelude) [] (record no_store { heap = first_heap plain }) [] ≡ at (Done Normal) [] begun []
prelude_runs = refl

begun_ready : Ready begun
begun_ready =
    record {
      top = begun_cells;
      top_at = refl;
      base = record { states = refl; now = refl; find = refl; with = refl; get = refl; run = refl; make = refl; variable = refl };
      entries = [];
      states_at = refl;
      current = v.Undefined;
      made = 0;
      now_at = refl;
      weak_get_at = refl;
      weak_set_at = refl;
      find_at = refl;
      with_at = refl;
      make_at = refl;
      variable_at = refl;
    }
