use Rattle.std.proofs.Common.{length}
use Rattle.actx_target.proofs.scope.+slot_among.Given as goal

abbrev pub decreases-slot_among : goal.decreases-slot_among
decreases-slot_among l = length l.names.now
