use Rattle.actx_table.proofs.Orders.{orderly}
use Rattle.actx_table.proofs.laws.a_step_writes_one_event.Goals as goal

pub returns : goal.returns
returns c = orderly
