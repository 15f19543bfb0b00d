use Rattle.std.proofs.Common.{◌≡◌, take}
use Rattle.actx_ast.proofs.copy.make_exprs.copy_names.Given as goal

abbrev pub invariant-loop-name : goal.invariant-loop-name
invariant-loop-name l = l.out.items ≡ take l.name-index l.names
