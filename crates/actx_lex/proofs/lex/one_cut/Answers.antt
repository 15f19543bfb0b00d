use Rattle.actx_lex.proofs.OneCut.{one_cut}
use Rattle.actx_lex.proofs.lex.one_cut.Goals as goal

pub returns : goal.returns
returns c = one_cut
