use Rattle.std.proofs.Common.{◌≡◌, [], drop}
use Rattle.actx_ast.specs.View.{properties_view}
use Rattle.actx_rules.specs.Machine.{keys_of}
use Rattle.actx_rules.specs.Properties.{with_props}
use Rattle.actx_target.proofs.machine.operations.table_of.Given as goal

abbrev pub invariant-loop-i : goal.invariant-loop-i
invariant-loop-i l = with_props (keys_of (properties_view l.properties)) l.values [] ≡ with_props (keys_of (properties_view (drop l.i l.properties))) (drop l.i l.values) l.table
