use Rattle.std.proofs.Common.{◌≡◌, ap, ◌∙◌, arith, take, map}
use Rattle.std.proofs.lemmas.Grind.{common_steps}
use Rattle.actx_ast.specs.View.{expr_view, exprs_of, const_view, consts_of, property_view, properties_of, stmt_view, stmts_of}
use Rattle.actx_rules.specs.Low.{p_, renamed, prop_key_renamed, stmt_renamed}
use Rattle.actx_top.proofs.Lowered.{exprs_each, properties_each, items_each, statements_each}
use Rattle.actx_top.proofs.lower.+renamed.Goals as goal

pub all_renamed-returns : goal.all_renamed-returns
all_renamed-returns t c =
    let full : take c.loop-e.e-index c.deref-e-items.result.now ≡ c.args.es.now.items = grind (arith, common_steps) in
    ap exprs_of c.loop-e.invariant ∙ ap (λ xs. exprs_of (map (λ e. renamed (expr_view e)) xs)) full ∙ exprs_each c.args.es.now.items

pub properties_renamed-returns : goal.properties_renamed-returns
properties_renamed-returns t c =
    let full : take c.loop-property.property-index c.deref-property-items.result.now ≡ c.args.properties.now.items = grind (arith, common_steps) in
    ap properties_of c.loop-property.invariant ∙ ap (λ xs. properties_of (map (λ p. (prop_key_renamed (property_view p).0, renamed (property_view p).1)) xs)) full ∙ properties_each c.args.properties.now.items

pub items_renamed-returns : goal.items_renamed-returns
items_renamed-returns t c =
    let full : take c.loop-item.item-index c.deref-item-items.result.now ≡ c.args.items.now.items = grind (arith, common_steps) in
    ap consts_of c.loop-item.invariant ∙ ap (λ xs. consts_of (map (λ i. (p_ (const_view i).0, renamed (const_view i).1)) xs)) full ∙ items_each c.args.items.now.items

pub program_renamed-returns : goal.program_renamed-returns
program_renamed-returns t c =
    let full : take c.loop-statement.statement-index c.deref-statement-items.result.now ≡ c.args.statements.now.items = grind (arith, common_steps) in
    ap stmts_of c.loop-statement.invariant ∙ ap (λ xs. stmts_of (map (λ st. stmt_renamed (stmt_view st)) xs)) full ∙ statements_each c.args.statements.now.items
