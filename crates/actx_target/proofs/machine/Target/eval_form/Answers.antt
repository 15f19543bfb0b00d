use Rattle.std.proofs.Common.{◌∙◌, ap, Some, None, if◌then◌else◌}
use Rattle.std.specs.Prelude.{◌&&◌}
use Rattle.actx_grammar.specs.declared.side.Side.TheVariants.{Plain}
use Rattle.actx_grammar.specs.ParserOperands.{suits}
use Rattle.actx_ast.specs.View.{exprs_view}
use Rattle.actx_rules.specs.Machine.{takes, has_form}
use Rattle.actx_target.specs.MachineView.{frames_in, store_in}
use Rattle.actx_target.proofs.Forms.{form_goes, form_stops}
use Rattle.actx_target.proofs.Outcomes.{on_ok}
use Rattle.actx_target.proofs.machine.Target.eval_form.Goals as goal

pub returns-in-Some : goal.returns-in-Some
returns-in-Some c =
    let t = c.args.self.now in
    let form = c.args.form in
    let found = c.in-Some.ensures ∙ ap (λ n. if has_form Plain form && suits form n then Some form else None) c.count.ensures in
    on_ok _ _ c.begin_parts.result (λ e. e ∙ ap (λ m. takes m t.trace.items) (form_goes c.in-Some.form form (exprs_view c.args.parts.now) (frames_in t) (store_in t) found)) c.begin_parts.ensures

pub returns-in-None : goal.returns-in-None
returns-in-None c =
    let t = c.args.self.now in
    let form = c.args.form in
    let found = c.in-None.ensures ∙ ap (λ n. if has_form Plain form && suits form n then Some form else None) c.count.ensures in
    c.leaves.ensures ∙ ap (λ m. takes m t.trace.items) (form_stops form (exprs_view c.args.parts.now) (frames_in t) (store_in t) found)
