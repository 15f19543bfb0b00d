use Rattle.std.proofs.Common.{◌∙◌}
use Rattle.actx_target.proofs.Parameters.{params_more}
use Rattle.actx_target.proofs.machine.calls.bind_params.Goals as goal

pub loop-i-preserved : goal.loop-i-preserved
loop-i-preserved c =
    c.loop-i.invariant ∙ params_more c.args.params.now c.args.args.now c.loop-i.i c.index-params-i.result c.in_ok-value.value c.loop-i.scope c.bind.new.self c.loop-i-test.true c.index-params-i.is c.in_ok-value.ensures c.in_ok-bind.ensures
