use Rattle.std.proofs.Common.{◌≡◌, drop}
use Rattle.actx_ast.specs.View.{properties_view}
use Rattle.actx_rules.specs.Machine.{are_fixed}
use Rattle.actx_target.proofs.machine.expressions.are_fixed.Given as goal

abbrev pub invariant-loop-property : goal.invariant-loop-property
invariant-loop-property l = are_fixed (properties_view l.properties) ≡ are_fixed (properties_view (drop l.property-index l.properties))
