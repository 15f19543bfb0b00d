use Rattle.std.proofs.Common.{◌≡◌, ◌++◌, drop, string_bytes}
use Rattle.std.specs.Str.{encode_utf8_all}
use Rattle.actx_emit.proofs.Steps.{left}
use Rattle.actx_emit.proofs.emit.layout.Given as goal

abbrev pub invariant-loop-i : goal.invariant-loop-i
invariant-loop-i l = string_bytes l.text ++ encode_utf8_all (left (drop l.i l.tokens)) ≡ encode_utf8_all (left l.tokens)
