use Rattle.actx_laws.proofs.ParseReasons.{unexpected_stops, deep_stops}
use Rattle.actx_laws.proofs.laws.refuses_for_its_reason.Goals as goal

pub returns : goal.returns
returns c = λ side ts i. (unexpected_stops side ts i, deep_stops side ts i)
