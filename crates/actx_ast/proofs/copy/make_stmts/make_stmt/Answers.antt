use Rattle.std.proofs.Common.{◌≡◌, List, ◌∷◌, map, rules, option_map, subst, sym}
use Rattle.actx_ast.specs.declared.tree.Expr.{the_lemmas}
use Rattle.actx_ast.specs.Copies.{Seen, a_stmt, catch_onto, init_onto, last_onto, maybe_onto, stmt_made, stmt_onto, with_catch, with_init, with_last, with_maybe}
use Rattle.actx_grammar.specs.Tree.{Catch, For, Init, Last, MaybeExpr, Try}
use Rattle.actx_ast.specs.View.{catch_of, catcher_view, expr_view, init_view, last_of, maybe_expr, stmt_view, stmts_view}
use Rattle.actx_ast.proofs.Made.{for_like, like_seen, try_like}
use Rattle.actx_ast.proofs.copy.make_stmts.make_stmt.Goals as goal

pub returns-in_ok-update-in-For-clause-like : goal.returns-in_ok-update-in-For-clause-like
returns-in_ok-update-in-For-clause-like c =
    let i = init_view c.in-For.init in
    let i' = init_view c.in_ok-init-in-For.init in
    let test = maybe_expr (option_map (λ b. expr_view b.value) c.in-For.test) in
    let test' = maybe_expr (option_map (λ b. expr_view b.value) c.in_ok-test-in-For.test) in
    let update = maybe_expr (option_map (λ b. expr_view b.value) c.in-For.update) in
    let update' = maybe_expr (option_map (λ b. expr_view b.value) c.in_ok-update-in-For.update) in
    let body = stmt_view c.in-For.field-3.value in
    let body' = stmt_view c.in_ok-body-in-For.body.value in
    let seen : stmt_view c.args.st.now ≡ For i test update body = search (rules, the_lemmas) in
    let like_init : (k : Init → List Seen → List Seen) (s : List Seen) → with_init i k (init_onto i' s) ≡ k i' s = search (rules, the_lemmas) in
    let like_test : (k : MaybeExpr → List Seen → List Seen) (s : List Seen) → with_maybe test k (maybe_onto test' s) ≡ k test' s = search (rules, the_lemmas) in
    let like_update : (k : MaybeExpr → List Seen → List Seen) (s : List Seen) → with_maybe update k (maybe_onto update' s) ≡ k update' s = search (rules, the_lemmas) in
    let whole : (s : List Seen) → stmt_made (stmt_view c.args.st.now) (stmt_onto (For i' test' update' body') s) ≡ a_stmt (For i' test' update' body') ∷ s = like_seen _ _ _ seen (for_like i i' test test' update update' body body' like_init like_test like_update) in
    subst (λ z. (s : List Seen) → stmt_made (stmt_view c.args.st.now) (stmt_onto z s) ≡ a_stmt z ∷ s) (sym c.looped.ensures) whole

pub returns-in_ok-last-in-Try-clause-like : goal.returns-in_ok-last-in-Try-clause-like
returns-in_ok-last-in-Try-clause-like c =
    let block = stmts_view c.in-Try.block.items in
    let block' = stmts_view c.in_ok-block-in-Try.block.items in
    let caught = catch_of (option_map catcher_view c.in-Try.catcher) in
    let caught' = catch_of (option_map catcher_view c.in_ok-catcher-in-Try.catcher) in
    let final = last_of (option_map (λ ss. map stmt_view ss.items) c.in-Try.last) in
    let final' = last_of (option_map (λ ss. map stmt_view ss.items) c.in_ok-last-in-Try.last) in
    let seen : stmt_view c.args.st.now ≡ Try block caught final = search (rules, the_lemmas) in
    let like_catch : (k : Catch → List Seen → List Seen) (s : List Seen) → with_catch caught k (catch_onto caught' s) ≡ k caught' s = search (rules, the_lemmas) in
    let like_last : (k : Last → List Seen → List Seen) (s : List Seen) → with_last final k (last_onto final' s) ≡ k final' s = search (rules, the_lemmas) in
    let whole : (s : List Seen) → stmt_made (stmt_view c.args.st.now) (stmt_onto (Try block' caught' final') s) ≡ a_stmt (Try block' caught' final') ∷ s = like_seen _ _ _ seen (try_like block block' caught caught' final final' like_catch like_last) in
    search (rules, the_lemmas, whole)
