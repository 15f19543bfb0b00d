use Rattle.std.proofs.Common.{◌≡◌, ◌+◌, drop}
use Rattle.actx_grammar.specs.Nodes.{exprs_nodes, properties_nodes, consts_nodes, stmts_nodes}
use Rattle.actx_ast.specs.View.{exprs_view, properties_view, consts_view, stmts_view}
use Rattle.actx_rules.specs.Taken.{untaken_list, untaken_properties, untaken_items, untaken_stmts}
use Rattle.actx_top.proofs.taken.+taken.Given as goal

abbrev pub invariant-list_taken-loop-e : goal.invariant-list_taken-loop-e
invariant-list_taken-loop-e l = (untaken_list l.n (exprs_view l.e-items) ≡ untaken_list l.at (exprs_view (drop l.e-index l.e-items))) × (l.at + exprs_nodes (exprs_view (drop l.e-index l.e-items)) ≡ l.n + exprs_nodes (exprs_view l.e-items))

abbrev pub invariant-properties_taken-loop-property : goal.invariant-properties_taken-loop-property
invariant-properties_taken-loop-property l = (untaken_properties l.n (properties_view l.property-items) ≡ untaken_properties l.at (properties_view (drop l.property-index l.property-items))) × (l.at + properties_nodes (properties_view (drop l.property-index l.property-items)) ≡ l.n + properties_nodes (properties_view l.property-items))

abbrev pub invariant-items_taken-loop-item : goal.invariant-items_taken-loop-item
invariant-items_taken-loop-item l = (untaken_items l.n (consts_view l.item-items) ≡ untaken_items l.at (consts_view (drop l.item-index l.item-items))) × (l.at + consts_nodes (consts_view (drop l.item-index l.item-items)) ≡ l.n + consts_nodes (consts_view l.item-items))

abbrev pub invariant-statements_taken-loop-statement : goal.invariant-statements_taken-loop-statement
invariant-statements_taken-loop-statement l = (untaken_stmts l.n (stmts_view l.statement-items) ≡ untaken_stmts l.at (stmts_view (drop l.statement-index l.statement-items))) × (l.at + stmts_nodes (stmts_view (drop l.statement-index l.statement-items)) ≡ l.n + stmts_nodes (stmts_view l.statement-items))
