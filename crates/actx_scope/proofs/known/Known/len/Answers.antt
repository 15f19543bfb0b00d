use Rattle.std.proofs.Common.{[], arith}
use Rattle.actx_scope.proofs.Tables.{length-stacked}
use Rattle.actx_scope.proofs.known.Known.len.Goals as goal

pub returns : goal.returns
returns c = rw (← c.self.view_is) (omega (arith, length-stacked [] c.self.inside.log.items))
