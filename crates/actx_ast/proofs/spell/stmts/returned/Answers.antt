use Rattle.std.proofs.Common.{◌++◌, ap, sym, ◌∙◌, option_map}
use Rattle.actx_grammar.specs.Spell.{spell_stmt}
use Rattle.actx_grammar.specs.Tree as node
use Rattle.actx_ast.specs.Unspelled.{rest_of}
use Rattle.actx_ast.specs.View.{expr_view, maybe_expr}
use Rattle.actx_ast.proofs.SpellSteps.{on_ok}
use Rattle.actx_ast.proofs.spell.stmts.returned.Goals as goal

pub returns-in-Some-clause-rest : goal.returns-in-Some-clause-rest
returns-in-Some-clause-rest c =
    let rest = rest_of c.args.work.now.items in
    on_ok _ _ c.led.result
    (λ e. e ∙ ap (λ x. spell_stmt (node.Return (node.some_expr (expr_view x))) ++ rest) c.deref.ensures ∙ ap (λ o. spell_stmt (node.Return (maybe_expr (option_map (λ b. expr_view b.value) o))) ++ rest) (sym c.in-Some.is))
    c.led.ensures.rest
