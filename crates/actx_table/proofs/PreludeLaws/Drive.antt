-- Runs of the emitted program's machine, computed a row at a time.
use Rattle.std.proofs.Common.{◌≡◌, ℕ, zero, suc, ◌≤◌, List, [], ◌∷◌, ◌++◌, refl, sym, ap, ◌∙◌}
use Rattle.actx_data.specs.declared.end.End.{End}
use Rattle.actx_data.specs.declared.trace.TraceEvent.{TraceEvent}
use Rattle.actx_grammar.specs.declared.side.Side.TheVariants.{Plain as plain}
use Rattle.actx_match.specs.Runs.{run}
use Rattle.actx_match.proofs.Pairing.{append_nil}
use Rattle.actx_table.specs.Machine.{row, at, takes, step, stopped}
use Rattle.actx_table.specs.State.{Frame, Goes, Move, State, Stops, Store, Task, Writes}
use Rattle.actx_table.specs.Laws.{Leads}

abbrev pub after_move : Move → (Task → List Frame → Store → List TraceEvent → State) → List TraceEvent → State
after_move (Goes t fs s) k tr = k t fs s tr
after_move (Writes e t fs s) k tr = k t fs s (tr ++ e ∷ [])
after_move (Stops e) k tr = stopped e tr

abbrev pub drive : ℕ → Task → List Frame → Store → List TraceEvent → State
drive zero t fs s tr = at t fs s tr
drive (suc n) t fs s tr = after_move (row plain t fs s) (drive n) tr

over_same : (n : ℕ) (e : End) (tr : List TraceEvent) → stopped e tr ≡ run (step plain) n (stopped e tr)
over_same zero e tr = refl
over_same (suc n) e tr = over_same n e tr

pub move_is : (n : ℕ) (m : Move) (tr : List TraceEvent) → ((t : Task) (fs : List Frame) (s : Store) (ur : List TraceEvent) → drive n t fs s ur ≡ run (step plain) n (at t fs s ur)) → after_move m (drive n) tr ≡ run (step plain) n (takes m tr)
move_is n (Goes t fs s) tr h = h t fs s tr
move_is n (Writes e t fs s) tr h = h t fs s (tr ++ e ∷ [])
move_is n (Stops e) tr h = over_same n e tr

pub drive_is : (n : ℕ) (t : Task) (fs : List Frame) (s : Store) (tr : List TraceEvent) → drive n t fs s tr ≡ run (step plain) n (at t fs s tr)
drive_is zero t fs s tr = refl
drive_is (suc n) t fs s tr = move_is n (row plain t fs s) tr (drive_is n)

pub leads : (n limit : ℕ) (m : Move) (t : Task) (fs : List Frame) (s : Store) → n ≤ limit → ((tr : List TraceEvent) → after_move m (drive n) tr ≡ at t fs s tr) → Leads m limit t fs s []
leads n limit m t fs s short h = record { count = n; by = λ tr. sym (move_is n m tr (drive_is n)) ∙ (h tr ∙ ap (at t fs s) (sym (append_nil tr))); within = short }
