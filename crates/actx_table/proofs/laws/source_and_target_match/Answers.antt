use Rattle.actx_table.proofs.Whole.{same}
use Rattle.actx_table.proofs.laws.source_and_target_match.Goals as goal

pub returns : goal.returns
returns c = same
