use Rattle.std.proofs.Common.{ℕ, ◌≤◌}
use Rattle.actx_ast.specs.Apart.{AllBelow, weigh}
use Rattle.actx_ast.proofs.tree.drop.run.Given as goal

abbrev pub invariant-loop-part : goal.invariant-loop-part
invariant-loop-part l = (weigh l.parts.items ≤ weigh l.initial.parts.items) × ((n : ℕ) → AllBelow n l.initial.parts.items → AllBelow n l.parts.items)

abbrev pub decreases-loop-part : goal.decreases-loop-part
decreases-loop-part l = weigh l.parts.items
