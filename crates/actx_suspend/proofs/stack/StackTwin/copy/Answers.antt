use Rattle.std.proofs.Common.{ap, ◌∙◌, subst}
use Rattle.actx_suspend.specs.Stack.{StackSame, entries_of}
use Rattle.actx_suspend.proofs.Stacks.{entries_same}
use Rattle.actx_suspend.proofs.stack.StackTwin.copy.Goals as goal

pub returns : goal.returns
returns g c =
    let fs = c.in_ok-frames.frames.items in
    subst (λ z. StackSame g.F.Twin.same (entries_of fs) z) (ap entries_of c.as_slice.ensures.value ∙ c.self.view_is) (entries_same g.F.Twin.same fs c.as_slice.result.now c.in_ok-frames.ensures)
