use Rattle.std.proofs.Common.{◌≡◌, ◌≤◌, false, arith}
use Rattle.actx_rules.specs.Machine.{goes}
use Rattle.actx_target.specs.MachineView.{state_of}
use Rattle.actx_target.proofs.Running.{over_runs, one_more}
use Rattle.actx_target.proofs.machine.Target.run.Goals as goal

pub returns-then-not-is_going : goal.returns-then-not-is_going
returns-then-not-is_going c =
    let le : c.loop.counter ≤ c.args.steps = omega arith in
    let over : goes c.loop.self.end ≡ false = cc in
    over_runs c.loop.self (state_of c.args.self.now) c.loop.counter c.args.steps le over c.loop.invariant

pub loop-preserved : goal.loop-preserved
loop-preserved c = one_more (state_of c.args.self.now) c.loop.counter (state_of c.loop.self) (state_of c.step.new.self) c.in_ok-step.ensures c.loop.invariant
