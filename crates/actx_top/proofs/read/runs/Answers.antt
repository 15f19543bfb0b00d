use Rattle.std.proofs.Common.{◌≡◌, subst}
use Rattle.actx_ast.specs.View.{program_view}
use Rattle.actx_top.specs.Faults.{StopsAt}
use Rattle.actx_rules.specs.Taken.{first_untaken}
use Rattle.actx_top.proofs.Reasons.{untaken_refused}
use Rattle.actx_top.proofs.read.runs.Goals as goal

pub refused-requires : goal.refused-requires
refused-requires c =
    untaken_refused c.args.text.now c.args.tokens.now.list.items (program_view c.args.parsed.now.program) c.args.parsed.now.places.items c.args.tokens.now.end c.in-Err-Untaken.n c.node_byte.result
    c.requires.short c.requires.cut c.requires.spelled c.requires.places c.requires.clean c.requires.end c.node_byte.ensures
    (subst (StopsAt (first_untaken (program_view c.args.parsed.now.program))) c.in-Err-Untaken.field-0-is c.in-Err-Untaken.ensures.stop)
