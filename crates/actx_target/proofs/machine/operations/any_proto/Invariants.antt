use Rattle.std.proofs.Common.{◌≡◌, drop}
use Rattle.actx_ast.specs.View.{properties_view}
use Rattle.actx_rules.specs.Machine.{keys_of}
use Rattle.actx_rules.specs.Properties.{any_proto}
use Rattle.actx_target.proofs.machine.operations.any_proto.Given as goal

abbrev pub invariant-loop-property : goal.invariant-loop-property
invariant-loop-property l = any_proto (keys_of (properties_view l.properties)) ≡ any_proto (keys_of (properties_view (drop l.property-index l.properties)))
