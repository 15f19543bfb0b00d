use Rattle.actx_laws.proofs.NodePlaces.{places}
use Rattle.actx_laws.proofs.laws.every_node_has_a_place.Goals as goal

pub returns : goal.returns
returns c = places
