use Rattle.std.proofs.Common.{◌≡◌, subst}
use Rattle.actx_grammar.specs.declared.side.Side.TheVariants.{Source}
use Rattle.actx_lex.specs.Lexemes.{lexemes}
use Rattle.actx_parse.specs.Answers.{IsTold, RefusesAt}
use Rattle.actx_top.proofs.Reasons.{NoneAt, unexpected_refused, deep_refused, many_refused}
use Rattle.actx_top.proofs.read.parsed.Goals as goal

pub refused-requires : goal.refused-requires
refused-requires c =
    let ts = c.args.tokens.now.list.items in
    let fault = c.in-Err-Unexpected.field-0-is in
    unexpected_refused c.args.text.now ts c.args.tokens.now.end c.in-Err-Unexpected.i c.token_byte.result c.requires.short c.requires.cut c.requires.form c.requires.end c.token_byte.ensures
    (subst (IsTold Source (lexemes ts)) fault c.in-Err-Unexpected.ensures.told)
    (subst (RefusesAt (NoneAt Source ts)) fault c.in-Err-Unexpected.ensures.stops)

pub refused-requires-in-Err-TooDeep : goal.refused-requires-in-Err-TooDeep
refused-requires-in-Err-TooDeep c =
    let ts = c.args.tokens.now.list.items in
    let fault = c.in-Err-TooDeep.field-0-is in
    deep_refused c.args.text.now ts c.args.tokens.now.end c.in-Err-TooDeep.i c.token_byte-in-Err-TooDeep.result c.requires.short c.requires.cut c.requires.form c.requires.end c.token_byte-in-Err-TooDeep.ensures
    (subst (IsTold Source (lexemes ts)) fault c.in-Err-TooDeep.ensures.told)
    (subst (RefusesAt (NoneAt Source ts)) fault c.in-Err-TooDeep.ensures.stops)

pub refused-requires-in-Err-TooMany : goal.refused-requires-in-Err-TooMany
refused-requires-in-Err-TooMany c =
    let ts = c.args.tokens.now.list.items in
    let fault = c.in-Err-TooMany.field-0-is in
    many_refused c.args.text.now ts c.args.tokens.now.end c.in-Err-TooMany.i c.token_byte-in-Err-TooMany.result c.requires.short c.requires.cut c.requires.form c.requires.end c.token_byte-in-Err-TooMany.ensures
    (subst (IsTold Source (lexemes ts)) fault c.in-Err-TooMany.ensures.told)
    (subst (RefusesAt (NoneAt Source ts)) fault c.in-Err-TooMany.ensures.stops)
