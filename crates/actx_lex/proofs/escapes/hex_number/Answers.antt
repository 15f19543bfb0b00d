use Rattle.std.proofs.Common.{◌≡◌, ◌+◌, ◌*◌, ◌&&◌, true, false, Some, get_or, drop, sym, ◌∙◌, ap, arith}
use Rattle.std.specs.List.{list_all}
use Rattle.std.proofs.lemmas.List.{at_drop_more, at_drop_all, get_or_read}
use Rattle.actx_lex.specs.Characters.{is_hex, hex_on, hex_value}
use Rattle.actx_lex.proofs.Hexadecimals.{hex_grows, no_hex, too_great, hex_found}
use Rattle.actx_lex.proofs.escapes.hex_number.Goals as goal

pub returns-then-not-is_hex-clause-value : goal.returns-then-not-is_hex-clause-value
returns-then-not-is_hex-clause-value c =
    let ds = c.args.digits.now in
    let i = c.loop-digit.digit-index in
    let same = get_or_read ds i c.digit-item.result c.loop-digit-test.true c.digit-item.is 0 in
    let more = at_drop_more (list_all is_hex) ds i 0 c.loop-digit-test.true in
    let none : is_hex (get_or ds i 0) ≡ false = ap is_hex (sym same) ∙ sym c.is_hex.ensures ∙ c.if-not-is_hex.true in
    no_hex ds (sym c.loop-digit.invariant.all ∙ more ∙ ap (λ b. b && list_all is_hex (drop (i + 1) ds)) none)

pub returns-then-value-gt-GREATEST_CODE-clause-value : goal.returns-then-value-gt-GREATEST_CODE-clause-value
returns-then-value-gt-GREATEST_CODE-clause-value c =
    let ds = c.args.digits.now in
    let i = c.loop-digit.digit-index in
    let same = ap hex_value (get_or_read ds i c.digit-item.result c.loop-digit-test.true c.digit-item.is 0) in
    let more = at_drop_more (hex_on c.loop-digit.value) ds i 0 c.loop-digit-test.true in
    let grows = hex_grows (c.loop-digit.value * 16 + hex_value (get_or ds i 0)) (drop (i + 1) ds) in
    let value = c.loop-digit.invariant.value in
    too_great ds (omega arith)

pub loop-digit-preserved : goal.loop-digit-preserved
loop-digit-preserved c =
    let ds = c.args.digits.now in
    let i = c.loop-digit.digit-index in
    let same = get_or_read ds i c.digit-item.result c.loop-digit-test.true c.digit-item.is 0 in
    let values = at_drop_more (hex_on c.loop-digit.value) ds i 0 c.loop-digit-test.true in
    let all = at_drop_more (list_all is_hex) ds i 0 c.loop-digit-test.true in
    let hex : is_hex (get_or ds i 0) ≡ true = ap is_hex (sym same) ∙ sym c.is_hex.ensures ∙ c.if-not-is_hex.false in
    record {
      value = ap (λ v. hex_on (c.loop-digit.value * 16 + v) (drop (i + 1) ds)) (c.hex_value.ensures.value ∙ ap hex_value same) ∙ sym values ∙ c.loop-digit.invariant.value;
      all = sym (ap (λ b. b && list_all is_hex (drop (i + 1) ds)) hex) ∙ sym all ∙ c.loop-digit.invariant.all;
      small = c.if-value-gt-GREATEST_CODE.false;
    }

pub returns-clause-value : goal.returns-clause-value
returns-clause-value c =
    let ds = c.args.digits.now in
    let i = c.loop-digit.digit-index in
    let all : true ≡ list_all is_hex ds = sym (at_drop_all (list_all is_hex) ds i c.loop-digit-test.false) ∙ c.loop-digit.invariant.all in
    let value : c.loop-digit.value ≡ hex_on 0 ds = sym (at_drop_all (hex_on c.loop-digit.value) ds i c.loop-digit-test.false) ∙ c.loop-digit.invariant.value in
    let small = c.loop-digit.invariant.small in
    ap (λ v. Some v) value ∙ sym (hex_found ds (sym all) (omega arith))
