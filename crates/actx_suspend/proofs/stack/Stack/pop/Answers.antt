use Rattle.std.proofs.Common.{rules, ap, ◌∙◌}
use Rattle.actx_suspend.specs.Stack.{top_of, below_of}
use Rattle.actx_suspend.proofs.Stacks.{popped_top, popped_rest}
use Rattle.actx_suspend.proofs.stack.Stack.pop.Goals as goal

pub returns-clause-top : goal.returns-clause-top
returns-clause-top g c =
    let fs = c.self.inside.frames.items in
    popped_top _ _ fs c.pop.new.self.items c.pop.result c.self.inside.frames.len (search rules) c.pop.ensures.items c.pop.ensures.cases ∙ ap top_of c.self.view_is

pub returns-clause-rest : goal.returns-clause-rest
returns-clause-rest g c =
    let fs = c.self.inside.frames.items in
    popped_rest _ _ fs c.pop.new.self.items c.pop.result c.self.inside.frames.len (search rules) (search rules) c.pop.ensures.items c.pop.ensures.cases ∙ ap below_of c.self.view_is
