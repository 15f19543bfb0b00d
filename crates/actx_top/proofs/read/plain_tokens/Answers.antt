use Rattle.std.proofs.Common.{◌≡◌, ◌∙◌, ap, Err, false, true}
use Rattle.actx_top.proofs.Refusing.{plain_text, plain_free}
use Rattle.actx_top.proofs.read.plain_tokens.Goals as goal

pub unreachable-requires : goal.unreachable-requires
unreachable-requires c = plain_text c.args.text.now _ c.requires (c.lex.ensures.not_utf8 _ (c.in-Err-NotUtf8.is ∙ ap Err c.in-Err-NotUtf8.field-0-is))

pub unreachable-requires-in-Err-BadToken : goal.unreachable-requires-in-Err-BadToken
unreachable-requires-in-Err-BadToken c = plain_free c.args.text.now false _ c.requires (c.lex.ensures.bad_token _ (c.in-Err-BadToken.is ∙ ap Err c.in-Err-BadToken.field-0-is))

pub unreachable-requires-in-Err-BadNumber : goal.unreachable-requires-in-Err-BadNumber
unreachable-requires-in-Err-BadNumber c = plain_free c.args.text.now true _ c.requires (c.lex.ensures.bad_number _ (c.in-Err-BadNumber.is ∙ ap Err c.in-Err-BadNumber.field-0-is))
