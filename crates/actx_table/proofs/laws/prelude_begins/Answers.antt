use Rattle.actx_table.proofs.PreludeLaws.Begun.{begins}
use Rattle.actx_table.proofs.laws.prelude_begins.Goals as goal

pub returns : goal.returns
returns c = begins
