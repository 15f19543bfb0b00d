use Rattle.actx_table.proofs.PreludeLaws.Whole.{laws}
use Rattle.actx_table.proofs.laws.prelude_keeps_the_mapping.Goals as goal

pub returns : goal.returns
returns c = laws
