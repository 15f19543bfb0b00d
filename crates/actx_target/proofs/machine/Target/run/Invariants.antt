use Rattle.std.proofs.Common.{◌≡◌}
use Rattle.actx_match.specs.Runs.{run}
use Rattle.actx_grammar.specs.declared.side.Side.TheVariants.{Plain}
use Rattle.actx_rules.specs.Machine.{step}
use Rattle.actx_target.specs.MachineView.{state_of}
use Rattle.actx_target.proofs.machine.Target.run.Given as goal

abbrev pub invariant-loop : goal.invariant-loop
invariant-loop l = state_of l.self ≡ run (step Plain) l.counter (state_of l.fn.self)
