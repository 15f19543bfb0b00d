use Rattle.std.proofs.Common.{◌≡◌, ◌++◌, drop}
use Rattle.actx_scope.proofs.free.listed.Given as goal

abbrev pub invariant-loop-name : goal.invariant-loop-name
invariant-loop-name l = l.list.items ++ drop l.name-index l.name-items ≡ l.name-items
