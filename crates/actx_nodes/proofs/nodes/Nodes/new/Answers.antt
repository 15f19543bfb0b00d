use Rattle.std.proofs.Common.{ap, ◌∙◌, length}
use Rattle.actx_nodes.specs.Forest.{built, gathered}
use Rattle.actx_nodes.specs.Node.{stmts_in}
use Rattle.actx_ast.specs.View.{program_view}
use Rattle.actx_nodes.proofs.Counted.{rows, stmts}
use Rattle.actx_nodes.proofs.Grown.{all_nodes, all_parts}
use Rattle.actx_nodes.proofs.nodes.Nodes.new.Goals as goal

pub returns-clause-nodes : goal.returns-clause-nodes
returns-clause-nodes c = c.in_ok-rows.ensures.all ∙ ap built c.in_ok-heads.ensures ∙ all_nodes (program_view c.args.program)

pub returns-clause-count : goal.returns-clause-count
returns-clause-count c = rows c.in_ok-rows.rows.items ∙ ap length (returns-clause-nodes c) ∙ stmts (program_view c.args.program)

pub returns-clause-body : goal.returns-clause-body
returns-clause-body c = ap stmts_in (c.in_ok-rows.ensures.roots ∙ ap gathered c.in_ok-heads.ensures) ∙ all_parts (program_view c.args.program)
