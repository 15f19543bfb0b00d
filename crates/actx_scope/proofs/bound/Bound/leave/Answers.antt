use Rattle.std.proofs.Common.{◌≡◌, ◌∙◌, ap, reverse}
use Rattle.actx_scope.specs.Found.{outer_part}
use Rattle.actx_scope.proofs.NameLists.{outer_first}
use Rattle.actx_scope.proofs.bound.Bound.leave.Goals as goal

pub returns : goal.returns
returns c =
    let old : reverse c.self.inside.names.keys ≡ c.args.self.now = c.self.view_is in
    ap reverse c.truncate.ensures.keys ∙ outer_first c.args.count c.self.inside.names.keys ∙ ap (outer_part c.args.count) old
