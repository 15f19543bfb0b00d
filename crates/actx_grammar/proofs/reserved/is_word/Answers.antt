use Rattle.actx_grammar.proofs.SideNames.{is_pointwise}
use Rattle.actx_grammar.proofs.reserved.is_word.Goals as goal

pub returns : goal.returns
returns c = is_pointwise c.is_written.result c.args.word.now c.args.text.now c.is_written.ensures
