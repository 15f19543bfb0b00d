use Rattle.actx_lex.proofs.OneCut.{one_stop}
use Rattle.actx_lex.proofs.lex.one_stop.Goals as goal

pub returns : goal.returns
returns c = one_stop
