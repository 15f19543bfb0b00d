use Rattle.std.proofs.Common.{ap, arith}
use Rattle.std.specs.Char.{len_utf8}
use Rattle.std.proofs.lemmas.List.{at_drop_all, get_or_read}
use Rattle.actx_lex.specs.Lexical.{size}
use Rattle.actx_lex.proofs.Sizes.{size_step}
use Rattle.actx_lex.proofs.characters.size_of.Goals as goal

pub overflow_add-size : goal.overflow_add-size
overflow_add-size c =
    let step = size_step c.args.text.now c.loop-c.c-index c.loop-c-test.true in
    let value = c.len_utf8-size.ensures.value in
    let same = ap len_utf8 (get_or_read c.args.text.now c.loop-c.c-index c.c-item.result c.loop-c-test.true c.c-item.is 0) in
    omega arith

pub loop-c-preserved : goal.loop-c-preserved
loop-c-preserved c =
    let step = size_step c.args.text.now c.loop-c.c-index c.loop-c-test.true in
    let value = c.len_utf8-size.ensures.value in
    let same = ap len_utf8 (get_or_read c.args.text.now c.loop-c.c-index c.c-item.result c.loop-c-test.true c.c-item.is 0) in
    omega arith

pub returns : goal.returns
returns c =
    let end = at_drop_all size c.args.text.now c.loop-c.c-index c.loop-c-test.false in
    omega arith
