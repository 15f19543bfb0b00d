use Rattle.std.proofs.Common.{◌≡◌, ap, subst, sym, ◌∙◌, rules, map, option_map, List, Result}
use Rattle.std.specs.Prelude.{OnOk}
use Rattle.actx_ast.specs.declared.tree.Expr.{the_lemmas}
use Rattle.actx_grammar.specs.Tree as node
use Rattle.actx_ast.specs.View.{catch_of, catcher_view, expr_view, init_view, last_of, maybe_expr, stmt_view, stmts_view}
use Rattle.actx_places.specs.Walk.{Walk, stmt}
use Rattle.actx_places.specs.WalkWork.{acts}
use Rattle.actx_places.specs.declared.places.Item.{Item}
use Rattle.actx_places.proofs.places.stmts.statement.Goals as goal

-- what an answer says of a statement, it says of one that is the same
on_same : {T E : Type 0} (a : Walk) (r : Result T E) (w : Walk) (work : List Item) (s t : node.Stmt) → OnOk r (a ≡ acts work (stmt s w)) → s ≡ t → OnOk r (a ≡ acts work (stmt t w))
on_same a r w work s t h e = subst (λ z. OnOk r (a ≡ acts work (stmt z w))) e h

pub returns-in-For-clause-walk : goal.returns-in-For-clause-walk
returns-in-For-clause-walk c =
    let init = init_view c.in-For.init in
    let test = maybe_expr (option_map (λ b. expr_view b.value) c.in-For.test) in
    let update = maybe_expr (option_map (λ b. expr_view b.value) c.in-For.update) in
    let whole : stmt_view c.args.stmt.now ≡ node.For init test update (stmt_view c.in-For.body.value) = search (rules, the_lemmas) in
    let body : node.For init test update (stmt_view c.deref-in-For.result.now) ≡ node.For init test update (stmt_view c.in-For.body.value) = ap (λ st. node.For init test update (stmt_view st)) c.deref-in-For.ensures in
    let seen : node.For init test update (stmt_view c.deref-in-For.result.now) ≡ stmt_view c.args.stmt.now = body ∙ sym whole in
    on_same (acts c.for_loop.new.work.items c.for_loop.new.walk) c.for_loop.result c.args.walk.now c.args.work.now.items (node.For init test update (stmt_view c.deref-in-For.result.now)) (stmt_view c.args.stmt.now) c.for_loop.ensures.walk seen

pub returns-in-Try-clause-walk : goal.returns-in-Try-clause-walk
returns-in-Try-clause-walk c =
    let catcher = catch_of (option_map catcher_view c.in-Try.catcher) in
    let final = last_of (option_map (λ v. map stmt_view v.items) c.in-Try.last) in
    let whole : stmt_view c.args.stmt.now ≡ node.Try (stmts_view c.in-Try.block.items) catcher final = search (rules, the_lemmas) in
    let body : node.Try (stmts_view c.deref-in-Try.result.now) catcher final ≡ node.Try (stmts_view c.in-Try.block.items) catcher final = ap (λ ss. node.Try (stmts_view ss) catcher final) c.deref-in-Try.ensures.value in
    let seen : node.Try (stmts_view c.deref-in-Try.result.now) catcher final ≡ stmt_view c.args.stmt.now = body ∙ sym whole in
    on_same (acts c.tried.new.work.items c.tried.new.walk) c.tried.result c.args.walk.now c.args.work.now.items (node.Try (stmts_view c.deref-in-Try.result.now) catcher final) (stmt_view c.args.stmt.now) c.tried.ensures.walk seen
