use Rattle.std.proofs.Common.{◌≡◌, ◌++◌, take}
use Rattle.actx_nodes.specs.Heads.{names_heads}
use Rattle.actx_nodes.proofs.walk.put_names.Given as goal

abbrev pub invariant-loop-name : goal.invariant-loop-name
invariant-loop-name l = l.out.items ≡ l.initial.out.items ++ names_heads (take l.name-index l.names)
