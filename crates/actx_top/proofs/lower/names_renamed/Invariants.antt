use Rattle.std.proofs.Common.{◌≡◌, take, map}
use Rattle.actx_rules.specs.Low.{p_}
use Rattle.actx_top.proofs.lower.names_renamed.Given as goal

abbrev pub invariant-loop-name : goal.invariant-loop-name
invariant-loop-name l = l.made.items ≡ map p_ (take l.name-index l.name-items)
