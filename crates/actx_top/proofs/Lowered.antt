-- Lists of the code's trees that are renamed one by one.
use Rattle.std.proofs.Common.{◌≡◌, List, [], ◌∷◌, ◌++◌, map, refl, ap}
use Rattle.actx_grammar.specs.Tree as t
use Rattle.actx_ast.specs.View.{expr_view, exprs_of, exprs_view, const_view, consts_of, consts_view, property_view, properties_of, properties_view, stmt_view, stmts_of, stmts_view}
use Rattle.actx_ast.specs.declared.tree.Expr.{Expr}
use Rattle.actx_ast.specs.declared.tree.ConstItem.{ConstItem}
use Rattle.actx_ast.specs.declared.tree.Property.{Property}
use Rattle.actx_ast.specs.declared.tree.Stmt.{Stmt}
use Rattle.actx_rules.specs.Low.{p_, renamed, all_renamed, prop_key_renamed, properties_renamed, items_renamed, stmt_renamed, program_renamed, followed_by}

pub exprs_each : (es : List Expr) → exprs_of (map (λ e. renamed (expr_view e)) es) ≡ all_renamed (exprs_view es)
exprs_each [] = refl
exprs_each (e ∷ es) = ap (t.also (renamed (expr_view e))) (exprs_each es)

pub properties_each : (ps : List Property) → properties_of (map (λ p. (prop_key_renamed (property_view p).0, renamed (property_view p).1)) ps) ≡ properties_renamed (properties_view ps)
properties_each [] = refl
properties_each (p ∷ ps) = ap (t.property (prop_key_renamed (property_view p).0) (renamed (property_view p).1)) (properties_each ps)

pub items_each : (is : List ConstItem) → consts_of (map (λ i. (p_ (const_view i).0, renamed (const_view i).1)) is) ≡ items_renamed (consts_view is)
items_each [] = refl
items_each (i ∷ is) = ap (t.const_item (p_ (const_view i).0) (renamed (const_view i).1)) (items_each is)

pub statements_each : (ss : List Stmt) → stmts_of (map (λ st. stmt_renamed (stmt_view st)) ss) ≡ program_renamed (stmts_view ss)
statements_each [] = refl
statements_each (st ∷ ss) = ap (t.next (stmt_renamed (stmt_view st))) (statements_each ss)

-- one list behind another
pub followed : (xs ys : List Stmt) → stmts_view (xs ++ ys) ≡ followed_by (stmts_view xs) (stmts_view ys)
followed [] ys = refl
followed (st ∷ xs) ys = ap (t.next (stmt_view st)) (followed xs ys)
