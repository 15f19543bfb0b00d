-- A program's run and its emitted program's run match, and the work of the one is bounded by that of the other.
use Rattle.std.proofs.Common.{◌≡◌, zero, suc, ◌+◌, List, refl, sym, ap, ◌∙◌, subst, arith}
use Rattle.actx_match.specs.Runs.{run, cost}
use Rattle.actx_match.specs.Matching.{Match, WithinFactor, SimulatesWithin}
use Rattle.actx_match.specs.Traced.{rank_by}
use Rattle.actx_match.proofs.Runs.{run_add, cost_ones}
use Rattle.actx_match.proofs.Matching.{match_back, match_later}
use Rattle.actx_match.proofs.Bounds.{within_match}
use Rattle.actx_data.specs.declared.event.Event.{Event}
use Rattle.actx_grammar.specs.declared.side.Side.TheVariants.{Source, Plain}
use Rattle.actx_grammar.specs.Tree.{Stmts, end, next}
use Rattle.actx_table.specs.Taken.{IsTaken}
use Rattle.actx_table.specs.Low.{program_renamed, low}
use Rattle.actx_table.specs.State.{Frame, Store, Now, State}
use Rattle.actx_table.specs.Machine.{step, start, end_of}
use Rattle.actx_table.specs.Meaning.{see, goes, shows, Same}
use Rattle.actx_table.specs.Weight.{weight, source_cost}
use Rattle.actx_table.specs.Renamed.{StmtsAre, no_stmts, more_stmts}
use Rattle.actx_table.specs.Related.{NowIs, doing_is, refusing_is, refused_is, over_is, Related}
use Rattle.actx_table.specs.Laws.{Laws}
use Rattle.actx_table.proofs.Orders.{orderly}
use Rattle.actx_table.proofs.Same.Steps.{lag, steps}
use Rattle.actx_table.proofs.Same.Ready.{ready_state}
use Rattle.actx_table.proofs.Same.Start.{begun, prelude_steps, prelude_leads}
use Rattle.actx_table.proofs.Same.Image.{program_image}

-- SIGHT
same_end : (a b : Now) (fs gs : List Frame) (s r : Store) → NowIs a fs s b gs r → end_of b ≡ end_of a
same_end a b fs gs s r (doing_is w k c store) = refl
same_end a b fs gs s r (refusing_is w f y xs ws ms h) = refl
same_end a b fs gs s r (refused_is w f y ws ms h) = refl
same_end a b fs gs s r (over_is e) = refl

pub same_seen : (s r : State) → Related s r → see r ≡ see s
same_seen s r h =
    let traces = h.trace in
    let ends = same_end s.now r.now s.frames r.frames s.store r.store h.now in
    cc

-- THE FIRST STEPS show nothing
prelude_quiet : (p q : Stmts) (events : List Event) → StmtsAre p q → see (step Plain (ready_state q events)) ≡ see (ready_state q events)
prelude_quiet p q events no_stmts = refl
prelude_quiet p q events (more_stmts x m) = refl

begin_quiet : (p : Stmts) (events : List Event) → see (step Source (start Source p events)) ≡ see (start Source p events)
begin_quiet end events = refl
begin_quiet (next st ss) events = refl

-- THE THEOREM, from the laws of the prelude's functions
module _ (laws : Laws) where
  simulates : SimulatesWithin (step Source) (step Plain) see see Related lag 1024 weight (λ _. 1)
  simulates = record { same = same_seen; steps = steps laws }

  -- from where both sides have begun the program's list
  begun_match : (p : Stmts) (events : List Event) → IsTaken p → Match (λ n. see (run (step Source) n (step Source (start Source p events)))) (λ m. see (run (step Plain) m (run (step Plain) prelude_steps (start Plain (low p) events)))) × WithinFactor 1024 (λ n. see (run (step Source) n (step Source (start Source p events)))) (λ m. see (run (step Plain) m (run (step Plain) prelude_steps (start Plain (low p) events)))) (λ n. cost (step Source) weight n (step Source (start Source p events))) (λ m. cost (step Plain) (λ _. 1) m (run (step Plain) prelude_steps (start Plain (low p) events)))
  begun_match p events taken =
      let q = program_renamed p in
      let image = program_image p taken in
      within_match (rank_by goes) (step Source) (step Plain) see see Related lag 1024 weight (λ _. 1) (orderly Source) (orderly Plain) simulates (step Source (start Source p events)) (run (step Plain) prelude_steps (start Plain (low p) events))
      (subst (Related (step Source (start Source p events))) (sym (prelude_leads p q events image)) (begun p q events image))

  target_quiet : (p : Stmts) (events : List Event) → IsTaken p → see (run (step Plain) prelude_steps (start Plain (low p) events)) ≡ see (start Plain (low p) events)
  target_quiet p events taken = let q = program_renamed p in let image = program_image p taken in ap see (prelude_leads p q events image) ∙ prelude_quiet p q events image

  keeps : (p : Stmts) → IsTaken p → (events : List Event) → Match (shows Source p events) (shows Plain (low p) events)
  keeps p taken events =
      let later = match_later (rank_by goes) (step Plain) see (orderly Plain) _ prelude_steps (start Plain (low p) events) (target_quiet p events taken) (begun_match p events taken).0 in
      match_back _ _ (match_later (rank_by goes) (step Source) see (orderly Source) _ 1 (start Source p events) (begin_quiet p events) (match_back _ _ later))

  pub same : (p : Stmts) → IsTaken p → Same p (low p)
  same p taken events are = keeps p taken events

  -- what the program shows after some steps, the emitted program shows after at most 1,024 times their weights
  pub work_bounded : (p : Stmts) → IsTaken p → (events : List Event) → WithinFactor 1024 (shows Source p events) (shows Plain (low p) events) (source_cost p events) (λ m. m)
  work_bounded p taken events zero = (0, refl, omega arith)
  work_bounded p taken events (suc n) =
      let r = (begun_match p events taken).1 n in
      let few = r.2 in
      let ones = cost_ones (step Plain) r.0 (run (step Plain) prelude_steps (start Plain (low p) events)) in
      (prelude_steps + r.0, ap see (run_add (step Plain) prelude_steps r.0 (start Plain (low p) events)) ∙ r.1, omega (arith, few, ones))
