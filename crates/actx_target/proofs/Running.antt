-- Runs of the code's machine.
use Rattle.std.proofs.Common.{◌≡◌, ℕ, ◌+◌, ◌-◌, ◌≤◌, true, false, refl, sym, ap, ◌∙◌, arith}
use Rattle.actx_match.specs.Runs.{run}
use Rattle.actx_match.proofs.Runs.{run_add, run_fixed}
use Rattle.actx_data.specs.declared.end.End.{End}
use Rattle.actx_data.specs.declared.end.End.TheVariants.{Going, Ended, Threw, Left}
use Rattle.actx_grammar.specs.declared.side.Side.TheVariants.{Plain}
use Rattle.actx_rules.specs.Machine.{step, goes}
use Rattle.actx_rules.specs.State.{State}
use Rattle.actx_target.specs.MachineView.{state_of, going_or_over}
use Rattle.actx_target.specs.declared.machine.Target.{Target}

over_stays : (e : End) (t : Target) → goes e ≡ false → step Plain (going_or_over e t) ≡ going_or_over e t
over_stays Going t h = absurd cc
over_stays Ended t h = refl
over_stays (Threw v) t h = refl
over_stays Left t h = refl

pub going_is : (e : End) → goes e ≡ true → e ≡ Going
going_is Going h = refl
going_is Ended h = absurd cc
going_is (Threw v) h = absurd cc
going_is Left h = absurd cc

-- a run that is over shows the same after any number of steps more
pub over_runs : (t : Target) (s : State) (k n : ℕ) → k ≤ n → goes t.end ≡ false → state_of t ≡ run (step Plain) k s → state_of t ≡ run (step Plain) n s
over_runs t s k n le h e =
    let more : k + (n - k) ≡ n = omega arith in
    sym (run_fixed (step Plain) (n - k) (state_of t) (over_stays t.end t h)) ∙ ap (run (step Plain) (n - k)) e ∙ sym (run_add (step Plain) k (n - k) s) ∙ ap (λ m. run (step Plain) m s) more

pub one_more : (s : State) (k : ℕ) (t u : State) → u ≡ step Plain t → t ≡ run (step Plain) k s → u ≡ run (step Plain) (k + 1) s
one_more s k t u e h = e ∙ ap (step Plain) h ∙ sym (run_add (step Plain) k 1 s)
