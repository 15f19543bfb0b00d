use Rattle.std.proofs.Common.{◌≡◌, ◌++◌, ◌∷◌, [], ap, sym, ◌∙◌, take, ◌+◌, get_or, string_bytes, flat_map}
use Rattle.std.specs.Str.{encode_utf8_all}
use Rattle.std.proofs.lemmas.List.{take_more}
use Rattle.actx_emit.specs.Layout.{unit_text}
use Rattle.actx_emit.proofs.Steps.{unit_pushed}
use Rattle.actx_emit.proofs.text.push_units.Goals as goal

pub loop-unit-preserved : goal.loop-unit-preserved
loop-unit-preserved c =
    let l = c.loop-unit in
    let units = c.args.units.now in
    let start = string_bytes c.args.text.now in
    let x = get_or units l.unit-index 0 in
    let grown : take (l.unit-index + 1) units ≡ take l.unit-index units ++ x ∷ [] = take_more units l.unit-index 0 c.loop-unit-test.true in
    unit_pushed unit_text (string_bytes l.text) start (take l.unit-index units) (string_bytes c.push_unit.new.text) x l.invariant c.in_ok-push_unit.ensures
    ∙ ap (λ z. start ++ encode_utf8_all (flat_map unit_text z)) (sym grown)
