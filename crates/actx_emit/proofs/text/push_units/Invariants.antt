use Rattle.std.proofs.Common.{◌≡◌, ◌++◌, take, string_bytes, flat_map}
use Rattle.std.specs.Str.{encode_utf8_all}
use Rattle.actx_emit.specs.Layout.{unit_text}
use Rattle.actx_emit.proofs.text.push_units.Given as goal

abbrev pub invariant-loop-unit : goal.invariant-loop-unit
invariant-loop-unit l = string_bytes l.text ≡ string_bytes l.initial.text ++ encode_utf8_all (flat_map unit_text (take l.unit-index l.units))
