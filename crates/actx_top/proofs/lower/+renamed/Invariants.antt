use Rattle.std.proofs.Common.{◌≡◌, map, take}
use Rattle.actx_ast.specs.View.{expr_view, const_view, property_view, stmt_view}
use Rattle.actx_rules.specs.Low.{p_, renamed, prop_key_renamed, stmt_renamed}
use Rattle.actx_top.proofs.lower.+renamed.Given as goal

abbrev pub invariant-all_renamed-loop-e : goal.invariant-all_renamed-loop-e
invariant-all_renamed-loop-e l = map expr_view l.made.items ≡ map (λ e. renamed (expr_view e)) (take l.e-index l.e-items)

abbrev pub invariant-properties_renamed-loop-property : goal.invariant-properties_renamed-loop-property
invariant-properties_renamed-loop-property l = map property_view l.made.items ≡ map (λ p. (prop_key_renamed (property_view p).0, renamed (property_view p).1)) (take l.property-index l.property-items)

abbrev pub invariant-items_renamed-loop-item : goal.invariant-items_renamed-loop-item
invariant-items_renamed-loop-item l = map const_view l.made.items ≡ map (λ i. (p_ (const_view i).0, renamed (const_view i).1)) (take l.item-index l.item-items)

abbrev pub invariant-program_renamed-loop-statement : goal.invariant-program_renamed-loop-statement
invariant-program_renamed-loop-statement l = map stmt_view l.made.items ≡ map (λ st. stmt_renamed (stmt_view st)) (take l.statement-index l.statement-items)
