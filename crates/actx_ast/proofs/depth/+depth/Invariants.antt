use Rattle.std.proofs.Common.{◌≡◌, min, max, drop}
use Rattle.actx_grammar.specs.Depth.{depth_list, depth_properties, depth_lets, depth_consts, depth_program, depth_clauses}
use Rattle.actx_ast.specs.View.{exprs_view, properties_view, lets_view, consts_view, stmts_view, clauses_view}
use Rattle.actx_ast.proofs.depth.+depth.Given as goal

abbrev pub invariant-list_depth-loop-i : goal.invariant-list_depth-loop-i
invariant-list_depth-loop-i l = max l.depth (min (depth_list (exprs_view (drop l.i l.es))) 4294967295) ≡ min (depth_list (exprs_view (drop l.from l.es))) 4294967295

abbrev pub invariant-properties_depth-loop-property : goal.invariant-properties_depth-loop-property
invariant-properties_depth-loop-property l = max l.depth (min (depth_properties (properties_view (drop l.property-index l.properties))) 4294967295) ≡ min (depth_properties (properties_view l.properties)) 4294967295

abbrev pub invariant-lets_depth-loop-item : goal.invariant-lets_depth-loop-item
invariant-lets_depth-loop-item l = max l.depth (min (depth_lets (lets_view (drop l.item-index l.items))) 4294967295) ≡ min (depth_lets (lets_view l.items)) 4294967295

abbrev pub invariant-consts_depth-loop-item : goal.invariant-consts_depth-loop-item
invariant-consts_depth-loop-item l = max l.depth (min (depth_consts (consts_view (drop l.item-index l.items))) 4294967295) ≡ min (depth_consts (consts_view l.items)) 4294967295

abbrev pub invariant-statements_depth-loop-stmt : goal.invariant-statements_depth-loop-stmt
invariant-statements_depth-loop-stmt l = max l.depth (min (depth_program (stmts_view (drop l.stmt-index l.body))) 4294967295) ≡ min (depth_program (stmts_view l.body)) 4294967295

abbrev pub invariant-clauses_depth-loop-clause : goal.invariant-clauses_depth-loop-clause
invariant-clauses_depth-loop-clause l = max l.depth (min (depth_clauses (clauses_view (drop l.clause-index l.clauses))) 4294967295) ≡ min (depth_clauses (clauses_view l.clauses)) 4294967295
