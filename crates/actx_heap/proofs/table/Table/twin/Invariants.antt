use Rattle.std.proofs.Common.{◌≡◌, []}
use Rattle.actx_heap.specs.Properties.{with_props}
use Rattle.actx_heap.proofs.table.Table.twin.Given as goal

abbrev pub invariant-loop-key : goal.invariant-loop-key
invariant-loop-key l = with_props l.initial.key-iterator [] ≡ with_props l.key-iterator l.table
