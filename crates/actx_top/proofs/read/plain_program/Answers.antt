use Rattle.std.proofs.Common.{◌≡◌, subst}
use Rattle.actx_grammar.specs.declared.side.Side.TheVariants.{Plain}
use Rattle.actx_parse.specs.Answers.{RefusesAt}
use Rattle.actx_top.proofs.Reasons.{NoneAt}
use Rattle.actx_top.proofs.Refusing.{plain_spelled, plain_read}
use Rattle.actx_top.proofs.read.plain_program.Goals as goal

pub unreachable-requires : goal.unreachable-requires
unreachable-requires c =
    let ts = c.args.tokens.now.list.items in
    plain_spelled c.args.text.now ts c.requires.plain c.requires.cut (subst (RefusesAt (NoneAt Plain ts)) c.in-Err-Unexpected.field-0-is c.in-Err-Unexpected.ensures.stops).1

pub unreachable-requires-in-Err-TooDeep : goal.unreachable-requires-in-Err-TooDeep
unreachable-requires-in-Err-TooDeep c =
    let ts = c.args.tokens.now.list.items in
    plain_spelled c.args.text.now ts c.requires.plain c.requires.cut (subst (RefusesAt (NoneAt Plain ts)) c.in-Err-TooDeep.field-0-is c.in-Err-TooDeep.ensures.stops).1

pub returns-in-Ok : goal.returns-in-Ok
returns-in-Ok c = λ q h. c.in-Ok.ensures.only q (plain_read c.args.text.now c.args.tokens.now.list.items q h c.requires.cut)
