use Rattle.std.proofs.Common.{◌≡◌, ◌<◌, length, true, ◌∙◌, arith}
use Rattle.actx_grammar.specs.Forms.{form_words}
use Rattle.actx_frames.specs.ParserView.{is_word_at}
use Rattle.actx_frames.proofs.ParseForms.{begins_more}
use Rattle.actx_frames.proofs.forms.begins_with.Goals as goal

pub loop-at-preserved : goal.loop-at-preserved
loop-at-preserved c =
    let l : c.loop-at.at < length c.args.words.now = omega arith in
    let h : is_word_at (form_words c.args.form) c.loop-at.at c.index-words-at.result ≡ true = cc in
    c.loop-at.invariant ∙ begins_more (form_words c.args.form) c.args.words.now c.loop-at.at c.index-words-at.result l c.index-words-at.is h
