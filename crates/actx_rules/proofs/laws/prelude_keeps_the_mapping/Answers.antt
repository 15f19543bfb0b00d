use Rattle.actx_rules.proofs.PreludeLaws.Whole.{laws}
use Rattle.actx_rules.proofs.laws.prelude_keeps_the_mapping.Goals as goal

pub returns : goal.returns
returns c = laws
