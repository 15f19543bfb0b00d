use Rattle.std.proofs.Common.{◌≡◌, ◌+◌, drop}
use Rattle.actx_grammar.specs.Nodes.{exprs_nodes, properties_nodes, lets_nodes, consts_nodes, stmts_nodes, clauses_nodes}
use Rattle.actx_ast.specs.View.{exprs_view, properties_view, lets_view, consts_view, stmts_view, clauses_view}
use Rattle.actx_scope.proofs.count.+count.Given as goal

abbrev pub invariant-exprs_end-loop-e : goal.invariant-exprs_end-loop-e
invariant-exprs_end-loop-e l = l.end + exprs_nodes (exprs_view (drop l.e-index l.e-items)) ≡ l.at + exprs_nodes (exprs_view l.e-items)

abbrev pub invariant-properties_end-loop-property : goal.invariant-properties_end-loop-property
invariant-properties_end-loop-property l = l.end + properties_nodes (properties_view (drop l.property-index l.property-items)) ≡ l.at + properties_nodes (properties_view l.property-items)

abbrev pub invariant-lets_end-loop-item : goal.invariant-lets_end-loop-item
invariant-lets_end-loop-item l = l.end + lets_nodes (lets_view (drop l.item-index l.item-items)) ≡ l.at + lets_nodes (lets_view l.item-items)

abbrev pub invariant-consts_end-loop-item : goal.invariant-consts_end-loop-item
invariant-consts_end-loop-item l = l.end + consts_nodes (consts_view (drop l.item-index l.item-items)) ≡ l.at + consts_nodes (consts_view l.item-items)

abbrev pub invariant-stmts_end-loop-statement : goal.invariant-stmts_end-loop-statement
invariant-stmts_end-loop-statement l = l.end + stmts_nodes (stmts_view (drop l.statement-index l.statement-items)) ≡ l.at + stmts_nodes (stmts_view l.statement-items)

abbrev pub invariant-clauses_end-loop-clause : goal.invariant-clauses_end-loop-clause
invariant-clauses_end-loop-clause l = l.end + clauses_nodes (clauses_view (drop l.clause-index l.clause-items)) ≡ l.at + clauses_nodes (clauses_view l.clause-items)
