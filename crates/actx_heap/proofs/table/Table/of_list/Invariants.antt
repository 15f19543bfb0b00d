use Rattle.std.proofs.Common.{◌≡◌, []}
use Rattle.actx_heap.specs.Properties.{with_props}
use Rattle.actx_heap.proofs.table.Table.of_list.Given as goal

abbrev pub invariant-loop-key : goal.invariant-loop-key
invariant-loop-key l = with_props l.fn.list.items [] ≡ with_props l.key-iterator.rest.items l.table
