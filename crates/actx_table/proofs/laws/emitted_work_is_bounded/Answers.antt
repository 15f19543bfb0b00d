use Rattle.actx_table.proofs.Whole.{work_bounded}
use Rattle.actx_table.proofs.laws.emitted_work_is_bounded.Goals as goal

pub returns : goal.returns
returns c = work_bounded
