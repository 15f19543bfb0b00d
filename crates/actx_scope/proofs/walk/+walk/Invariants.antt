use Rattle.std.proofs.Common.{◌≡◌, drop}
use Rattle.actx_ast.specs.View.{exprs_view, properties_view, lets_view, consts_view, stmts_view, clauses_view}
use Rattle.actx_scope.specs.Machine.{exprs_walk, properties_walk, lets_walk, consts_walk, stmts_walk, clauses_walk}
use Rattle.actx_scope.specs.States.{state}
use Rattle.actx_scope.proofs.walk.+walk.Given as goal

abbrev pub invariant-exprs::walk_exprs-loop-e : goal.invariant-exprs::walk_exprs-loop-e
invariant-exprs::walk_exprs-loop-e l = exprs_walk (exprs_view (drop l.e-index l.e-items)) (state l.walk) ≡ exprs_walk (exprs_view l.e-items) (state l.initial.walk)

abbrev pub invariant-exprs::walk_properties-loop-property : goal.invariant-exprs::walk_properties-loop-property
invariant-exprs::walk_properties-loop-property l = properties_walk (properties_view (drop l.property-index l.property-items)) (state l.walk) ≡ properties_walk (properties_view l.property-items) (state l.initial.walk)

abbrev pub invariant-stmts::walk_lets-loop-item : goal.invariant-stmts::walk_lets-loop-item
invariant-stmts::walk_lets-loop-item l = lets_walk (lets_view (drop l.item-index l.item-items)) (state l.walk) ≡ lets_walk (lets_view l.item-items) (state l.initial.walk)

abbrev pub invariant-stmts::walk_consts-loop-item : goal.invariant-stmts::walk_consts-loop-item
invariant-stmts::walk_consts-loop-item l = consts_walk (consts_view (drop l.item-index l.item-items)) (state l.walk) ≡ consts_walk (consts_view l.item-items) (state l.initial.walk)

abbrev pub invariant-stmts::walk_list-loop-statement : goal.invariant-stmts::walk_list-loop-statement
invariant-stmts::walk_list-loop-statement l = stmts_walk (stmts_view (drop l.statement-index l.statement-items)) (state l.walk) ≡ stmts_walk (stmts_view l.statement-items) (state l.initial.walk)

abbrev pub invariant-stmts::walk_clauses-loop-clause : goal.invariant-stmts::walk_clauses-loop-clause
invariant-stmts::walk_clauses-loop-clause l = clauses_walk (clauses_view (drop l.clause-index l.clause-items)) (state l.walk) ≡ clauses_walk (clauses_view l.clause-items) (state l.initial.walk)
