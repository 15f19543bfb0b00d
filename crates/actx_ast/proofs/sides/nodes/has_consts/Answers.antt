use Rattle.std.proofs.Common.{refl}
use Rattle.actx_ast.proofs.SideClauses.{consts_tested}
use Rattle.actx_ast.proofs.sides.nodes.has_consts.Goals as goal

pub returns : goal.returns
returns c = consts_tested c.args.items.now _ refl
