use Rattle.std.proofs.Common.{rules}
use Rattle.actx_ast.specs.declared.tree.Expr.{size-Expr}
use Rattle.actx_ast.specs.declared.tree.Stmt.{size-Stmt}
use Rattle.actx_ast.proofs.Deep.{some_expr, some_stmt, exprs_below, stmts_below, properties_below, lets_below, consts_below, clauses_below}
use Rattle.actx_ast.proofs.+tree.Goals as goal

pub tree::Expr::drop-drop-part-requires-in-Some-run-3 : goal.tree::Expr::drop-drop-part-requires-in-Some-run-3
tree::Expr::drop-drop-part-requires-in-Some-run-3 t c κs =
    let deep = exprs_below (size-Expr c.args.self) t c.in-Some-run.part c.part-in-Some-run-4-1.given.0.0 (search rules) (search rules) (some_expr _) (search rules) in
    (((deep, tt), tt), (search rules, search rules))

pub tree::Expr::drop-drop-part-requires-in-Some-run-4 : goal.tree::Expr::drop-drop-part-requires-in-Some-run-4
tree::Expr::drop-drop-part-requires-in-Some-run-4 t c κs =
    let deep = stmts_below (size-Expr c.args.self) t c.in-Some-run.part c.part-in-Some-run-5-1.given.0.0 (search rules) (search rules) (some_expr _) (search rules) in
    (((deep, tt), tt), (search rules, search rules))

pub tree::Expr::drop-drop-part-requires-in-Some-run-5 : goal.tree::Expr::drop-drop-part-requires-in-Some-run-5
tree::Expr::drop-drop-part-requires-in-Some-run-5 t c κs =
    let deep = properties_below (size-Expr c.args.self) t c.in-Some-run.part c.part-in-Some-run-6-1.given.0.0 (search rules) (search rules) (some_expr _) (search rules) in
    (((deep, tt), tt), (search rules, search rules))

pub tree::Expr::drop-drop-part-requires-in-Some-run-6 : goal.tree::Expr::drop-drop-part-requires-in-Some-run-6
tree::Expr::drop-drop-part-requires-in-Some-run-6 t c κs =
    let deep = lets_below (size-Expr c.args.self) t c.in-Some-run.part c.part-in-Some-run-7-1.given.0.0 (search rules) (search rules) (some_expr _) (search rules) in
    (((deep, tt), tt), (search rules, search rules))

pub tree::Expr::drop-drop-part-requires-in-Some-run-7 : goal.tree::Expr::drop-drop-part-requires-in-Some-run-7
tree::Expr::drop-drop-part-requires-in-Some-run-7 t c κs =
    let deep = consts_below (size-Expr c.args.self) t c.in-Some-run.part c.part-in-Some-run-8-1.given.0.0 (search rules) (search rules) (some_expr _) (search rules) in
    (((deep, tt), tt), (search rules, search rules))

pub tree::Expr::drop-drop-part-requires-in-Some-run-8 : goal.tree::Expr::drop-drop-part-requires-in-Some-run-8
tree::Expr::drop-drop-part-requires-in-Some-run-8 t c κs =
    let deep = clauses_below (size-Expr c.args.self) t c.in-Some-run.part c.part-in-Some-run-9-1.given.0.0 (search rules) (search rules) (some_expr _) (search rules) in
    (((deep, tt), tt), (search rules, search rules))

pub tree::Stmt::drop-drop-part-requires-in-Some-run-3 : goal.tree::Stmt::drop-drop-part-requires-in-Some-run-3
tree::Stmt::drop-drop-part-requires-in-Some-run-3 t c κs =
    let deep = exprs_below (size-Stmt c.args.self) t c.in-Some-run.part c.part-in-Some-run-4-1.given.0.0 (search rules) (search rules) (some_stmt _) (search rules) in
    (((deep, tt), tt), (search rules, search rules))

pub tree::Stmt::drop-drop-part-requires-in-Some-run-4 : goal.tree::Stmt::drop-drop-part-requires-in-Some-run-4
tree::Stmt::drop-drop-part-requires-in-Some-run-4 t c κs =
    let deep = stmts_below (size-Stmt c.args.self) t c.in-Some-run.part c.part-in-Some-run-5-1.given.0.0 (search rules) (search rules) (some_stmt _) (search rules) in
    (((deep, tt), tt), (search rules, search rules))

pub tree::Stmt::drop-drop-part-requires-in-Some-run-5 : goal.tree::Stmt::drop-drop-part-requires-in-Some-run-5
tree::Stmt::drop-drop-part-requires-in-Some-run-5 t c κs =
    let deep = properties_below (size-Stmt c.args.self) t c.in-Some-run.part c.part-in-Some-run-6-1.given.0.0 (search rules) (search rules) (some_stmt _) (search rules) in
    (((deep, tt), tt), (search rules, search rules))

pub tree::Stmt::drop-drop-part-requires-in-Some-run-6 : goal.tree::Stmt::drop-drop-part-requires-in-Some-run-6
tree::Stmt::drop-drop-part-requires-in-Some-run-6 t c κs =
    let deep = lets_below (size-Stmt c.args.self) t c.in-Some-run.part c.part-in-Some-run-7-1.given.0.0 (search rules) (search rules) (some_stmt _) (search rules) in
    (((deep, tt), tt), (search rules, search rules))

pub tree::Stmt::drop-drop-part-requires-in-Some-run-7 : goal.tree::Stmt::drop-drop-part-requires-in-Some-run-7
tree::Stmt::drop-drop-part-requires-in-Some-run-7 t c κs =
    let deep = consts_below (size-Stmt c.args.self) t c.in-Some-run.part c.part-in-Some-run-8-1.given.0.0 (search rules) (search rules) (some_stmt _) (search rules) in
    (((deep, tt), tt), (search rules, search rules))

pub tree::Stmt::drop-drop-part-requires-in-Some-run-8 : goal.tree::Stmt::drop-drop-part-requires-in-Some-run-8
tree::Stmt::drop-drop-part-requires-in-Some-run-8 t c κs =
    let deep = clauses_below (size-Stmt c.args.self) t c.in-Some-run.part c.part-in-Some-run-9-1.given.0.0 (search rules) (search rules) (some_stmt _) (search rules) in
    (((deep, tt), tt), (search rules, search rules))
