use Rattle.std.proofs.Common.{refl}
use Rattle.actx_ast.proofs.SideClauses.{lets_tested}
use Rattle.actx_ast.proofs.sides.nodes.has_lets.Goals as goal

pub returns : goal.returns
returns c = lets_tested c.args.items.now _ refl
