use Rattle.std.proofs.Common.{◌≡◌, drop}
use Rattle.actx_rules.specs.State.{with_params}
use Rattle.actx_target.proofs.machine.calls.bind_params.Given as goal

abbrev pub invariant-loop-i : goal.invariant-loop-i
invariant-loop-i l = with_params l.params l.args l.fn.scope ≡ with_params (drop l.i l.params) (drop l.i l.args) l.scope
