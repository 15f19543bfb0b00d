use Rattle.std.proofs.Common.{◌≡◌, ◌++◌, ap, ◌∙◌, string_bytes, flat_map, encode_utf8}
use Rattle.std.specs.Str.{encode_utf8_all}
use Rattle.actx_emit.specs.Layout.{unit_text}
use Rattle.actx_emit.proofs.Steps.{quoted_pushed, on_ok, told_ok}
use Rattle.actx_emit.proofs.text.push_text.Goals as goal

pub returns : goal.returns
returns c =
    let one = string_bytes c.push.new.self in
    let two = string_bytes c.push_units.new.text in
    let three = string_bytes c.push-2.new.self in
    let middle : two ≡ one ++ encode_utf8_all (flat_map unit_text c.args.units.now) = c.in_ok-push_units.ensures ∙ ap (λ z. one ++ encode_utf8_all (flat_map unit_text z)) c.as_slice.ensures in
    on_ok _ _ c.push-2.result
    (λ e. quoted_pushed (string_bytes c.args.text.now) one two three (flat_map unit_text c.args.units.now) c.in_ok-push.ensures.bytes middle e)
    (told_ok c.push-2.result three (two ++ encode_utf8 34) two c.push-2.ensures.bytes)
