use Rattle.std.proofs.Common.{◌≡◌}
use Rattle.actx_ast.specs.View.{program_view}
use Rattle.actx_top.proofs.Refusing.{takes_by, takes_once}
use Rattle.actx_top.proofs.read.read_source.Goals as goal

pub returns-clause-only : goal.returns-clause-only
returns-clause-only c = λ p t. takes_once (takes_by c.args.text.now c.in_ok-tokens.tokens.list.items (program_view c.in_ok-parsed.parsed.program) c.in_ok-tokens.ensures.short c.in_ok-tokens.ensures.found c.in_ok-parsed.ensures.found c.in_ok-checked.ensures.clean c.in_ok-runs.ensures.taken) t
