use Rattle.actx_lex.proofs.OneCut.{not_stuck}
use Rattle.actx_lex.proofs.lex.not_stuck.Goals as goal

pub returns : goal.returns
returns c = not_stuck
