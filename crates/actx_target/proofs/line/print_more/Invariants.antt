use Rattle.std.proofs.Common.{◌≡◌, ◌++◌, take}
use Rattle.actx_rules.specs.Printing.{printed_more}
use Rattle.actx_target.specs.ThingView.{things_of}
use Rattle.actx_target.proofs.line.print_more.Given as goal

abbrev pub invariant-loop-value : goal.invariant-loop-value
invariant-loop-value l = l.line.items ≡ l.fn.line.items ++ printed_more (things_of l.heap) (take l.value-index l.values)
