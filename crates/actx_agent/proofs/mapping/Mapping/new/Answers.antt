use Rattle.actx_agent.proofs.Mappings.{none_distinct}
use Rattle.actx_agent.proofs.mapping.Mapping.new.Goals as goal

pub invariant_of-result : goal.invariant_of-result
invariant_of-result c = none_distinct c.new.result.items c.new.ensures.items
