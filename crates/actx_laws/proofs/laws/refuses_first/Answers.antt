use Rattle.actx_laws.proofs.ReadyFirst as first
use Rattle.actx_laws.proofs.laws.refuses_first.Goals as goal

pub returns : goal.returns
returns c = first.refuses_first
