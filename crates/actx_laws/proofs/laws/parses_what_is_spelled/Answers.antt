use Rattle.actx_laws.proofs.ParseAll.{parses}
use Rattle.actx_laws.proofs.laws.parses_what_is_spelled.Goals as goal

pub returns : goal.returns
returns c = parses
