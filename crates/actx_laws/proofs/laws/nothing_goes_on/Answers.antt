use Rattle.actx_laws.proofs.ParseStops.{stops, refused_whole}
use Rattle.actx_laws.proofs.laws.nothing_goes_on.Goals as goal

pub returns : goal.returns
returns c = λ side ts i why h. (stops side ts i why h, refused_whole side ts i why h)
