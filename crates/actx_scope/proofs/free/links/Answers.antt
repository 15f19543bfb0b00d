use Rattle.std.proofs.Common.{◌∙◌, ap}
use Rattle.actx_ast.specs.View.{function_view}
use Rattle.actx_scope.specs.Machine.{State, function_walk}
use Rattle.actx_scope.proofs.Whole.{function_walk_links}
use Rattle.actx_scope.proofs.free.links.Goals as goal

pub returns : goal.returns
returns c =
    let f = function_view c.args.function.now in
    function_walk_links f c.walk_function.new.walk (c.in_ok-walk_function.ensures ∙ ap (λ (s : State). function_walk f s) c.new-walk.ensures)
