use Rattle.std.proofs.Common.{◌≡◌, drop}
use Rattle.actx_agent.specs.Mapping.{mapped}
use Rattle.actx_agent.proofs.mapping.value_of.Given as goal

abbrev pub invariant-loop-entry : goal.invariant-loop-entry
invariant-loop-entry l = mapped l.variable l.entries ≡ mapped l.variable (drop l.entry-index l.entries)
