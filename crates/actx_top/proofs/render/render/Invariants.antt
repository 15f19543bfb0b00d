use Rattle.std.proofs.Common.{◌≡◌, take}
use Rattle.actx_rules.specs.Meaning.{lines_of}
use Rattle.actx_top.proofs.render.render.Given as goal

abbrev pub invariant-loop-event : goal.invariant-loop-event
invariant-loop-event l = l.bytes.items ≡ lines_of (take l.event-index l.trace)
