use Rattle.std.proofs.Common.{◌≡◌, take}
use Rattle.actx_agent.proofs.mapping.twins_of.Given as goal

abbrev pub invariant-loop-entry : goal.invariant-loop-entry
invariant-loop-entry l = l.twins.items ≡ take l.entry-index l.entries
