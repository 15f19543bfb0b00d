use Rattle.actx_laws.proofs.SideLaws as laws
use Rattle.actx_laws.proofs.laws.told_by_the_tree.Goals as goal

pub returns : goal.returns
returns c = laws.told_by_the_tree
