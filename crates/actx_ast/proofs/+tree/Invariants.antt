use Rattle.actx_ast.specs.Apart.{AllBelow, weigh}
use Rattle.actx_ast.specs.declared.tree.Expr.{size-Expr}
use Rattle.actx_ast.specs.declared.tree.Stmt.{size-Stmt}
use Rattle.actx_ast.proofs.+tree.Given as goal

abbrev pub invariant-tree::Expr::drop-loop-part : goal.invariant-tree::Expr::drop-loop-part
invariant-tree::Expr::drop-loop-part l = AllBelow (size-Expr l.fn.self) l.parts.items

abbrev pub decreases-tree::Expr::drop-loop-part : goal.decreases-tree::Expr::drop-loop-part
decreases-tree::Expr::drop-loop-part l = weigh l.parts.items

abbrev pub invariant-tree::Stmt::drop-loop-part : goal.invariant-tree::Stmt::drop-loop-part
invariant-tree::Stmt::drop-loop-part l = AllBelow (size-Stmt l.fn.self) l.parts.items

abbrev pub decreases-tree::Stmt::drop-loop-part : goal.decreases-tree::Stmt::drop-loop-part
decreases-tree::Stmt::drop-loop-part l = weigh l.parts.items
