use Rattle.std.proofs.Common.{◌≡◌, ◌∙◌, ap, Err}
use Rattle.actx_ast.specs.View.{program_view}
use Rattle.actx_top.proofs.Reasons.{undeclared_refused, twice_refused, reserved_refused, misplaced_refused}
use Rattle.actx_top.proofs.read.checked.Goals as goal

pub refused-requires : goal.refused-requires
refused-requires c =
    undeclared_refused c.args.text.now c.args.tokens.now.list.items (program_view c.args.parsed.now.program) c.args.parsed.now.places.items c.args.tokens.now.end c.in-Err-Undeclared.n c.node_byte.result
    c.requires.short c.requires.cut c.requires.spelled c.requires.places c.requires.end c.node_byte.ensures
    (c.check.ensures.undeclared c.in-Err-Undeclared.n (c.in-Err-Undeclared.is ∙ ap Err c.in-Err-Undeclared.field-0-is))

pub refused-requires-in-Err-Twice : goal.refused-requires-in-Err-Twice
refused-requires-in-Err-Twice c =
    twice_refused c.args.text.now c.args.tokens.now.list.items (program_view c.args.parsed.now.program) c.args.parsed.now.places.items c.args.tokens.now.end c.in-Err-Twice.n c.node_byte-in-Err-Twice.result
    c.requires.short c.requires.cut c.requires.spelled c.requires.places c.requires.end c.node_byte-in-Err-Twice.ensures
    (c.check.ensures.twice c.in-Err-Twice.n (c.in-Err-Twice.is ∙ ap Err c.in-Err-Twice.field-0-is))

pub refused-requires-in-Err-Reserved : goal.refused-requires-in-Err-Reserved
refused-requires-in-Err-Reserved c =
    reserved_refused c.args.text.now c.args.tokens.now.list.items (program_view c.args.parsed.now.program) c.args.parsed.now.places.items c.args.tokens.now.end c.in-Err-Reserved.n c.node_byte-in-Err-Reserved.result
    c.requires.short c.requires.cut c.requires.spelled c.requires.places c.requires.end c.node_byte-in-Err-Reserved.ensures
    (c.check.ensures.reserved c.in-Err-Reserved.n (c.in-Err-Reserved.is ∙ ap Err c.in-Err-Reserved.field-0-is))

pub refused-requires-in-Err-Misplaced : goal.refused-requires-in-Err-Misplaced
refused-requires-in-Err-Misplaced c =
    misplaced_refused c.args.text.now c.args.tokens.now.list.items (program_view c.args.parsed.now.program) c.args.parsed.now.places.items c.args.tokens.now.end c.in-Err-Misplaced.n c.node_byte-in-Err-Misplaced.result
    c.requires.short c.requires.cut c.requires.spelled c.requires.places c.requires.end c.node_byte-in-Err-Misplaced.ensures
    (c.check.ensures.misplaced c.in-Err-Misplaced.n (c.in-Err-Misplaced.is ∙ ap Err c.in-Err-Misplaced.field-0-is))
