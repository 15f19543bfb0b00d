use Rattle.std.proofs.Common.{◌≡◌, ◌++◌, ap, sym, ◌∙◌, rules, option_map}
use Rattle.actx_ast.specs.declared.tree.Expr.{the_lemmas}
use Rattle.actx_grammar.specs.Spell.{spell_stmt}
use Rattle.actx_grammar.specs.Tree as node
use Rattle.actx_ast.specs.Unspelled.{rest_of}
use Rattle.actx_ast.specs.View.{expr_view, init_view, stmt_view, maybe_expr}
use Rattle.actx_ast.proofs.SpellSteps.{on_ok}
use Rattle.actx_ast.proofs.spell.stmts.statement.Goals as goal

pub returns-in-For-clause-rest : goal.returns-in-For-clause-rest
returns-in-For-clause-rest c =
    let init = init_view c.in-For.init in
    let test = maybe_expr (option_map (λ b. expr_view b.value) c.in-For.test) in
    let update = maybe_expr (option_map (λ b. expr_view b.value) c.in-For.update) in
    let whole : node.Stmt = node.For init test update (stmt_view c.in-For.body.value) in
    let seen : stmt_view c.args.stmt.now ≡ whole = search (rules, the_lemmas) in
    let rest = rest_of c.args.work.now.items in
    on_ok _ _ c.for_loop.result
    (λ e. e ∙ ap (λ st. spell_stmt (node.For init test update (stmt_view st)) ++ rest) c.deref-in-For.ensures ∙ ap (λ st. spell_stmt st ++ rest) (sym seen))
    c.for_loop.ensures.rest
