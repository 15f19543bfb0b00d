use Rattle.std.proofs.Common.{◌≡◌, [], drop}
use Rattle.actx_scope.specs.Links.{free_of, with_names}
use Rattle.actx_scope.proofs.free.gather.Given as goal

abbrev pub invariant-loop-link : goal.invariant-loop-link
invariant-loop-link l = with_names l.names.keys (free_of (drop l.link-index l.link-items)) ≡ with_names [] (free_of l.link-items)
