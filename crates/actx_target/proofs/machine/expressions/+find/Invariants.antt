use Rattle.std.proofs.Common.{length}
use Rattle.actx_target.specs.Chains.{chain_of}
use Rattle.actx_target.proofs.machine.expressions.+find.Given as goal

abbrev pub decreases-find : goal.decreases-find
decreases-find l = length (chain_of l.«open».now)
