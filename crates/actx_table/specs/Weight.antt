-- The weight of a step, for bounds on work: one, the values of the frame that it pops, the nodes that it begins, and for a
-- step of the agent the entries of the mapping.
use Rattle.std.specs.Prelude.{ℕ, suc, ◌+◌, List, ◌∷◌, length}
use Rattle.actx_match.specs.Runs.{cost}
use Rattle.actx_data.specs.declared.event.Event.{Event}
use Rattle.actx_grammar.specs.declared.side.Side.TheVariants.{Source}
use Rattle.actx_grammar.specs.Tree as t
use Rattle.actx_grammar.specs.Tree.{Stmts}
use Rattle.actx_grammar.specs.Nodes.{expr_nodes, stmt_nodes, stmts_nodes}
use Rattle.actx_table.specs.State.{Throw, Task, Eval, Exec, ExecPart, ExecList, ExecBody, Given, Done, Call, Frame, Pending, Store, Now, Doing, Over, State}
use Rattle.actx_table.specs.Machine.{step, start}

-- the nodes that a task begins
abbrev pub begun_nodes : Task → ℕ
begun_nodes (Eval e) = expr_nodes e
begun_nodes (Exec st) = stmt_nodes st
begun_nodes (ExecPart st) = stmt_nodes st
begun_nodes (ExecList ss) = stmts_nodes ss
begun_nodes (ExecBody ss) = stmts_nodes ss
begun_nodes (Given v) = 0
begun_nodes (Done c) = 0
begun_nodes (Call f r vs) = 0

-- the values of the frame that a task pops
abbrev pub popped_values : Task → List Frame → ℕ
popped_values (Given v) (Pending op vs t.none ∷ fs) = length vs
popped_values (Done (Throw v)) (Pending op vs es ∷ fs) = length vs
popped_values _ _ = 0

-- a run that is over has no steps; every step may be one of the agent
abbrev pub weight_at : Now → List Frame → Store → ℕ
weight_at (Doing task) fs s = suc (popped_values task fs + begun_nodes task + length s.mapping)
weight_at (Over e) fs s = 0

abbrev pub weight : State → ℕ
weight s = weight_at s.now s.frames s.store

-- the weights of the first steps of a program's run, together
abbrev pub source_cost : Stmts → List Event → ℕ → ℕ
source_cost p events n = cost (step Source) weight n (start Source p events)
