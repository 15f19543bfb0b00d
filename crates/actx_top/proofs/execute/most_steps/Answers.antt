use Rattle.std.proofs.Common.{refl}
use Rattle.actx_top.specs.Answers.{most_steps}
use Rattle.actx_top.proofs.execute.most_steps.Goals as goal

pub returns : goal.returns
unfolding most_steps
returns c = refl
