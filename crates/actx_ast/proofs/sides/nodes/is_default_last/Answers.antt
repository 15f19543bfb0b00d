use Rattle.std.proofs.Common.{◌+◌, ◌<◌, length, rules}
use Rattle.actx_ast.proofs.SideClauses.{early_refused}
use Rattle.actx_ast.proofs.sides.nodes.is_default_last.Goals as goal

pub returns-then-is_early : goal.returns-then-is_early
returns-then-is_early c =
    let xs = c.args.clauses.now in
    let i = c.loop-i.i in
    let x = c.index-clauses-i.result in
    let within : i < length xs = search rules in
    let more = c.is_early.ensures.more c.if-is_early.true in
    let behind : i + 1 < length xs = search rules in
    (λ h. absurd cc, λ p. absurd (early_refused xs i x within c.index-clauses-i.is (c.is_early.ensures.early c.if-is_early.true) behind (c.loop-i.invariant.1 p)))
