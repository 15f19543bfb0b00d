use Rattle.std.proofs.Common.{ap, ◌∙◌, ◌∷◌}
use Rattle.actx_suspend.specs.Stack.{Frame}
use Rattle.actx_suspend.proofs.Stacks.{entries_more}
use Rattle.actx_suspend.proofs.stack.Stack.push.Goals as goal

pub returns-clause-pushed : goal.returns-clause-pushed
returns-clause-pushed g c =
    entries_more c.self.inside.frames.items c.push.new.self.items c.args.frame c.in_default.ensures.items ∙ ap (λ es. Frame c.args.frame ∷ es) c.self.view_is
