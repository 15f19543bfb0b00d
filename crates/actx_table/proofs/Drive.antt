-- Runs of small programs, computed row by row.
use Rattle.std.proofs.Common.{ℕ, zero, suc, List, [], ◌∷◌, ◌++◌}
use Rattle.actx_data.specs.declared.end.End.{End}
use Rattle.actx_data.specs.declared.end.End.TheVariants.{Going}
use Rattle.actx_data.specs.declared.trace.TraceEvent.{TraceEvent}
use Rattle.actx_grammar.specs.declared.side.Side.{Side}
use Rattle.actx_grammar.specs.declared.side.Side.TheVariants.{Plain}
use Rattle.actx_grammar.specs.Tree as t
use Rattle.actx_grammar.specs.Tree.{Stmt, Stmts}
use Rattle.actx_table.specs.State.{Task, ExecList, Frame, Store, Move, Goes, Writes, Stops}
use Rattle.actx_table.specs.Machine.{row, no_store, first_heap}

abbrev pub Ends : Type 0
Ends = Task → List Frame → Store → List TraceEvent → End × List TraceEvent

abbrev pub moved : Ends → Move → List TraceEvent → End × List TraceEvent
moved go (Goes task fs s) tr = go task fs s tr
moved go (Writes e task fs s) tr = go task fs s (tr ++ e ∷ [])
moved go (Stops e) tr = (e, tr)

abbrev pub ends_on : Side → ℕ → Ends
ends_on side zero task fs s tr = (Going, tr)
ends_on side (suc n) task fs s tr = moved (ends_on side n) (row side task fs s) tr

abbrev pub ends : ℕ → Ends
ends = ends_on Plain

abbrev pub shows_on : Side → ℕ → Stmts → End × List TraceEvent
shows_on side n p = ends_on side n (ExecList p) [] (record no_store { heap = first_heap side }) []

abbrev pub shows : ℕ → Stmts → End × List TraceEvent
shows n p = ends n (ExecList p) [] (record no_store { heap = first_heap Plain }) []

abbrev pub one : Stmt → Stmts
one st = t.next st t.end
