use Rattle.std.proofs.Common.{◌≡◌, suc, min, max, drop, sym, ap, ◌∙◌, nat_lt, rules, option_map}
use Rattle.actx_ast.specs.declared.tree.Expr.{the_lemmas}
use Rattle.actx_grammar.specs.Depth as spec
use Rattle.actx_grammar.specs.Spell.{within}
use Rattle.actx_ast.specs.Starts.{start_of}
use Rattle.actx_grammar.specs.Tree as tree
use Rattle.actx_ast.specs.View.{expr_view, exprs_view, init_view, stmt_view, maybe_expr}
use Rattle.actx_ast.proofs.FormDepths.{form_level, call_of_none, call_of_some, two_level, for_level}
use Rattle.actx_ast.proofs.depth.+depth.Goals as goal

pub call_with_depth-returns-in-empty : goal.call_with_depth-returns-in-empty
call_with_depth-returns-in-empty t c =
    ap (λ n. min n 4294967295) (sym (call_of_none (start_of c.args.first) c.args.parts.now c.in-empty.len_below))

pub call_with_depth-returns-in-len1-up : goal.call_with_depth-returns-in-len1-up
call_with_depth-returns-in-len1-up t c =
    let parts = c.args.parts.now in
    let own = spec.depth (start_of c.args.first) (expr_view c.callee-item.result) 11 in
    let others = spec.depth_list (exprs_view (drop 1 parts)) in
    let whole = call_of_some (start_of c.args.first) parts c.callee-item.result c.in-len1-up.len_at_least c.callee-item.is in
    two_level _ _ _ _ own others 4294967295 c.expr_depth.ensures c.list_depth.ensures c.deeper.ensures c.above.ensures ∙ ap (λ n. min n 4294967295) (sym whole)

pub expr_depth-returns-in-Form : goal.expr_depth-returns-in-Form
expr_depth-returns-in-Form t c =
    let st = start_of c.args.first in
    let level = c.args.level in
    let form = c.in-Form.form in
    let parts = exprs_view c.in-Form.parts.items in
    let inside : start_of c.inside-in-Form.result ≡ within (nat_lt 11 level) st = c.inside-in-Form.ensures in
    let own : c.form_depth.result ≡ min (spec.depth (start_of c.inside-in-Form.result) (tree.Built form parts) 11) 4294967295 = c.form_depth.ensures ∙ ap (λ es. min (spec.depth (start_of c.inside-in-Form.result) (tree.Built form (exprs_view es)) 11) 4294967295) c.deref-in-Form.ensures.value in
    let wrapped = c.wrap-in-Form.ensures (spec.depth (start_of c.inside-in-Form.result) (tree.Built form parts) 11) own in
    let seen : expr_view c.args.e.now ≡ tree.Built form parts = search (rules, the_lemmas) in
    wrapped
    ∙ ap (λ s. min (spec.with_parens (nat_lt 11 level) (spec.depth s (tree.Built form parts) 11)) 4294967295) inside
    ∙ ap (λ n. min n 4294967295) (form_level st form parts level)
    ∙ ap (λ e. min (spec.depth st e level) 4294967295) (sym seen)

pub statement_depth-returns-in-For : goal.statement_depth-returns-in-For
statement_depth-returns-in-For t c =
    let init = init_view c.in-For.init in
    let test = maybe_expr (option_map (λ b. expr_view b.value) c.in-For.test) in
    let update = maybe_expr (option_map (λ b. expr_view b.value) c.in-For.update) in
    let body = stmt_view c.in-For.body.value in
    let seen : stmt_view c.args.stmt.now ≡ tree.For init test update body = search (rules, the_lemmas) in
    let inner : c.statement_depth-in-For.result ≡ min (spec.depth_stmt body) 4294967295 = c.statement_depth-in-For.ensures ∙ ap (λ st. min (spec.depth_stmt (stmt_view st)) 4294967295) c.deref-in-For.ensures in
    for_level _ _ _ _ _ _ _ _ (spec.depth_init init) (spec.depth_maybe test) (spec.depth_maybe update) (spec.depth_stmt body) 4294967295 c.init_depth.ensures c.maybe_depth.ensures c.maybe_depth-in-For.ensures inner c.deeper-head.ensures c.deeper-in-For.ensures c.deeper-in-For-2.ensures c.above-in-For.ensures
    ∙ ap (λ st. min (spec.depth_stmt st) 4294967295) (sym seen)
