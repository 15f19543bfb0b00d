use Rattle.std.proofs.Common.{ap, sym, ◌∙◌}
use Rattle.actx_grammar.specs.Grammar.{count, with_last}
use Rattle.actx_grammar.specs.ParserOperands.{suits}
use Rattle.actx_grammar.specs.ParserState.{go_if, have}
use Rattle.actx_grammar.specs.Tree.{Built}
use Rattle.actx_ast.specs.View.{expr_view, exprs_view}
use Rattle.actx_frames.proofs.ParseStack.{count_last}
use Rattle.actx_steps.proofs.ends.close_form_with.Goals as goal

pub returns : goal.returns
returns c = λ s.
    let f = c.args.form in
    let es = exprs_view c.args.parts.items in
    let e = expr_view c.args.last.value in
    ap (λ n. go_if (suits f n) (have (Built f (with_last es e)) c.args.reach) s) (sym (count_last es e))
    ∙ ap (λ z. go_if (suits f (count z)) (have (Built f z) c.args.reach) s) (sym c.in_ok-parts.ensures)
    ∙ c.in_ok-close_form.ensures s
