use Rattle.std.proofs.Common.{ap, ◌∙◌, arith}
use Rattle.actx_scope.specs.Found.{outer_part}
use Rattle.actx_scope.proofs.NameLists.{outer_less}
use Rattle.actx_scope.proofs.known.Known.leave.Goals as goal

pub loop-self-preserved : goal.loop-self-preserved
loop-self-preserved c = ap (outer_part c.args.count) c.forget.ensures ∙ outer_less c.args.count c.loop-self.self (omega arith) ∙ c.loop-self.invariant
