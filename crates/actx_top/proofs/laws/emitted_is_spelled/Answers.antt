use Rattle.actx_top.proofs.Emitted.{low_spelled}
use Rattle.actx_top.proofs.laws.emitted_is_spelled.Goals as goal

pub returns : goal.returns
returns c = low_spelled
