use Rattle.std.proofs.Common.{◌≡◌, ◌∙◌, ap, Err}
use Rattle.actx_top.proofs.Reasons.{utf8_refused, token_refused, long_refused, number_refused}
use Rattle.actx_top.proofs.read.cut.Goals as goal

pub refused-requires : goal.refused-requires
refused-requires c = utf8_refused c.args.text.now c.lex.result c.in-Err-NotUtf8.at c.lex.ensures.too_long c.lex.ensures.not_utf8 (c.in-Err-NotUtf8.is ∙ ap Err c.in-Err-NotUtf8.field-0-is)

pub refused-requires-in-Err-BadToken : goal.refused-requires-in-Err-BadToken
refused-requires-in-Err-BadToken c = token_refused c.args.text.now c.lex.result c.in-Err-BadToken.at c.lex.ensures.too_long c.lex.ensures.bad_token (c.in-Err-BadToken.is ∙ ap Err c.in-Err-BadToken.field-0-is)

pub refused-requires-in-Err-TooLong : goal.refused-requires-in-Err-TooLong
refused-requires-in-Err-TooLong c = long_refused c.args.text.now c.lex.result c.lex.ensures.too_long (c.in-Err-TooLong.is ∙ ap Err c.in-Err-TooLong.field-0-is)

pub refused-requires-in-Err-BadNumber : goal.refused-requires-in-Err-BadNumber
refused-requires-in-Err-BadNumber c = number_refused c.args.text.now c.lex.result c.in-Err-BadNumber.at c.lex.ensures.too_long c.lex.ensures.bad_number (c.in-Err-BadNumber.is ∙ ap Err c.in-Err-BadNumber.field-0-is)
