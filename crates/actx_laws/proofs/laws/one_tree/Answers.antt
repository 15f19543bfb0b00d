use Rattle.actx_laws.proofs.ParseAll.{one_program}
use Rattle.actx_laws.proofs.laws.one_tree.Goals as goal

pub returns : goal.returns
returns c = one_program
