-- A list has as many parts in the tree as in the code.
use Rattle.std.proofs.Common.{◌≡◌, suc, ◌+◌, List, [], ◌∷◌, length, refl, ap, arith}
use Rattle.actx_ast.specs.declared.tree.Expr.{Expr}
use Rattle.actx_ast.specs.declared.tree.Stmt.{Stmt}
use Rattle.actx_ast.specs.declared.tree.Property.{Property}
use Rattle.actx_ast.specs.declared.tree.LetItem.{LetItem}
use Rattle.actx_ast.specs.declared.tree.ConstItem.{ConstItem}
use Rattle.actx_ast.specs.View.{exprs_view, stmts_view, properties_view, lets_view, consts_view}
use Rattle.actx_nodes.specs.Heads.{exprs_count, stmts_count, properties_count, lets_count, consts_count}

pub count_exprs : (es : List Expr) → exprs_count (exprs_view es) ≡ length es
count_exprs [] = refl
count_exprs (e ∷ es) = ap suc (count_exprs es)

pub count_stmts : (ss : List Stmt) → stmts_count (stmts_view ss) ≡ length ss
count_stmts [] = refl
count_stmts (st ∷ ss) = ap suc (count_stmts ss)

pub count_lets : (is : List LetItem) → lets_count (lets_view is) ≡ length is
count_lets [] = refl
count_lets (i ∷ is) = ap suc (count_lets is)

pub count_consts : (is : List ConstItem) → consts_count (consts_view is) ≡ length is
count_consts [] = refl
count_consts (i ∷ is) = ap suc (count_consts is)

pub count_properties : (ps : List Property) → properties_count (properties_view ps) ≡ length ps + length ps
count_properties [] = refl
count_properties (p ∷ ps) = omega (arith, count_properties ps)
