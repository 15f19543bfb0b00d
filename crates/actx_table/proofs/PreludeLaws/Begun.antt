-- The store that the prelude leaves is one of those that the laws speak of, so that they are not empty.
use Rattle.std.proofs.Common.{◌≡◌, [], refl, sym, ◌∙◌}
use Rattle.actx_data.specs.declared.value.Value.TheVariants as v
use Rattle.actx_grammar.specs.declared.side.Side.TheVariants.{Plain as plain}
use Rattle.actx_table.specs.Machine.{at, first_heap, no_store}
use Rattle.actx_table.specs.Prelude.{prelude}
use Rattle.actx_table.specs.PreludeState.{begun_cells, begun, Ready}
use Rattle.actx_table.specs.State.{Normal, ExecList, Done}
use Rattle.actx_table.specs.Laws.{Begins}
use Rattle.actx_table.proofs.PreludeLaws.Drive.{drive, drive_is}

prelude_runs : drive 41 (ExecList prelude) [] (record no_store { heap = first_heap plain }) [] ≡ at (Done Normal) [] begun []
prelude_runs = refl

begun_ready : Ready begun
begun_ready =
    record {
      before = 0;
      top = begun_cells;
      top_at = refl;
      base = record { states = refl; now = refl; find = refl; with = refl; get = refl; run = refl; make = refl; variable = refl };
      entries = [];
      states_at = refl;
      entries_at = refl;
      current = v.Undefined;
      made = 0;
      now_at = refl;
      weak_get_at = refl;
      weak_set_at = refl;
      find_at = refl;
      with_at = refl;
      make_at = refl;
    }

pub begins : Begins begun
begins = record { count = 41; by = sym (drive_is 41 (ExecList prelude) [] (record no_store { heap = first_heap plain }) []) ∙ prelude_runs; ready = begun_ready }
