use Rattle.std.proofs.Common.{◌↔◌, drop}
use Rattle.actx_ast.specs.Clauses.{EachOn}
use Rattle.actx_grammar.specs.Sides.{ExprsOn, PropertiesOn, LetsOn, ConstsOn, StmtsOn}
use Rattle.actx_ast.specs.View.{exprs_view, properties_view, lets_view, consts_view, clauses_view, stmts_view}
use Rattle.actx_ast.proofs.sides.+sides.Given as goal

abbrev pub invariant-are_exprs-loop-e : goal.invariant-are_exprs-loop-e
invariant-are_exprs-loop-e l = ExprsOn l.side (exprs_view (drop l.e-index l.es)) ↔ ExprsOn l.side (exprs_view l.es)

abbrev pub invariant-are_properties-loop-property : goal.invariant-are_properties-loop-property
invariant-are_properties-loop-property l = PropertiesOn l.side (properties_view (drop l.property-index l.properties)) ↔ PropertiesOn l.side (properties_view l.properties)

abbrev pub invariant-are_lets-loop-item : goal.invariant-are_lets-loop-item
invariant-are_lets-loop-item l = LetsOn l.side (lets_view (drop l.item-index l.items)) ↔ LetsOn l.side (lets_view l.items)

abbrev pub invariant-are_consts-loop-item : goal.invariant-are_consts-loop-item
invariant-are_consts-loop-item l = ConstsOn l.side (consts_view (drop l.item-index l.items)) ↔ ConstsOn l.side (consts_view l.items)

abbrev pub invariant-are_statements-loop-stmt : goal.invariant-are_statements-loop-stmt
invariant-are_statements-loop-stmt l = StmtsOn l.side (stmts_view (drop l.stmt-index l.body)) ↔ StmtsOn l.side (stmts_view l.body)

abbrev pub invariant-is_each_clause-loop-clause : goal.invariant-is_each_clause-loop-clause
invariant-is_each_clause-loop-clause l = EachOn l.side (clauses_view (drop l.clause-index l.clauses)) ↔ EachOn l.side (clauses_view l.clauses)
