use Rattle.actx_laws.proofs.SpellLaws as laws
use Rattle.actx_laws.proofs.laws.shallowest.Goals as goal

pub returns : goal.returns
returns c = laws.shallowest
