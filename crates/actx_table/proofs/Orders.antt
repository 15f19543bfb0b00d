-- A step leaves what is seen, writes one event, or ends the run.
use Rattle.std.proofs.Common.{List, refl}
use Rattle.actx_match.specs.Runs.{IsOrderly}
use Rattle.actx_match.specs.Traced.{Change, Quiet, Wrote, Stopped, rank_by}
use Rattle.actx_match.proofs.Traced.{orderly_by}
use Rattle.actx_data.specs.declared.end.End.TheVariants.{Going, Ended, Threw, Left}
use Rattle.actx_data.specs.declared.trace.TraceEvent.{TraceEvent}
use Rattle.actx_grammar.specs.declared.side.Side.{Side}
use Rattle.actx_table.specs.State.{Task, Frame, Store, Now, Doing, Over, Move, Goes, Writes, Stops}
use Rattle.actx_table.specs.Machine.{row, at, takes, step_at, step}
use Rattle.actx_table.specs.Meaning.{see, goes}

change_move : (m : Move) (a : Task) (fs : List Frame) (s : Store) (tr : List TraceEvent) → Change goes (see (at a fs s tr)) (see (takes m tr))
change_move (Goes b gs r) a fs s tr = Quiet refl
change_move (Writes e b gs r) a fs s tr = Wrote e refl
change_move (Stops Going) a fs s tr = Quiet refl
change_move (Stops Ended) a fs s tr = Stopped refl refl refl
change_move (Stops (Threw v)) a fs s tr = Stopped refl refl refl
change_move (Stops Left) a fs s tr = Stopped refl refl refl

change_at : (side : Side) (a : Now) (fs : List Frame) (s : Store) (tr : List TraceEvent) → Change goes (see (record { now = a; frames = fs; store = s; trace = tr })) (see (step_at side a fs s tr))
change_at side (Doing a) fs s tr = change_move (row side a fs s) a fs s tr
change_at side (Over e) fs s tr = Quiet refl

pub orderly : (side : Side) → IsOrderly (rank_by goes) (step side) see
orderly side = orderly_by goes (step side) see (λ s. change_at side s.now s.frames s.store s.trace)
