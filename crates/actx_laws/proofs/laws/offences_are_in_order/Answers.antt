use Rattle.actx_laws.proofs.NodeOffences.{in_order}
use Rattle.actx_laws.proofs.laws.offences_are_in_order.Goals as goal

pub returns : goal.returns
returns c = in_order
