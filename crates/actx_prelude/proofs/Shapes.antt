-- Lists of statements and expressions with one more at their end.
use Rattle.std.proofs.Common.{◌≡◌, List, [], ◌∷◌, ◌++◌, refl, ap}
use Rattle.actx_grammar.specs.Tree as t
use Rattle.actx_grammar.specs.Grammar.{with_last}
use Rattle.actx_grammar.specs.Parser.{with_stmt}
use Rattle.actx_ast.specs.View.{expr_view, exprs_view, stmt_view, stmts_view}
use Rattle.actx_ast.specs.declared.tree.Expr.{Expr}
use Rattle.actx_ast.specs.declared.tree.Stmt.{Stmt}

pub statement_last : (xs : List Stmt) (x : Stmt) → stmts_view (xs ++ x ∷ []) ≡ with_stmt (stmts_view xs) (stmt_view x)
statement_last [] x = refl
statement_last (y ∷ ys) x = ap (t.next (stmt_view y)) (statement_last ys x)

pub expression_last : (xs : List Expr) (x : Expr) → exprs_view (xs ++ x ∷ []) ≡ with_last (exprs_view xs) (expr_view x)
expression_last [] x = refl
expression_last (y ∷ ys) x = ap (t.also (expr_view y)) (expression_last ys x)
