use Rattle.std.proofs.Common.{◌≡◌, ◌++◌, take, string_bytes}
use Rattle.std.specs.Str.{encode_utf8_all}
use Rattle.actx_emit.proofs.text.push_name.Given as goal

abbrev pub invariant-loop-char : goal.invariant-loop-char
invariant-loop-char l = string_bytes l.text ≡ string_bytes l.initial.text ++ encode_utf8_all (take l.char-index l.name)
