use Rattle.actx_laws.proofs.ViableParsed.{spells}
use Rattle.actx_laws.proofs.laws.spells_what_is_parsed.Goals as goal

pub returns : goal.returns
returns c = spells
