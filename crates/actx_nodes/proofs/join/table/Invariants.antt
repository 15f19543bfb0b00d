use Rattle.std.proofs.Common.{◌≡◌, length, take, drop, reverse}
use Rattle.actx_nodes.specs.Forest.{Stands}
use Rattle.actx_nodes.proofs.join.table.Given as goal

abbrev pub invariant-loop-head : goal.invariant-loop-head
invariant-loop-head l =
    Stands (drop (length l.heads.items) l.initial.heads.items) (reverse l.rows.items) (reverse l.places.items)
    × (l.heads.items ≡ take (length l.heads.items) l.initial.heads.items)

abbrev pub decreases-loop-head : goal.decreases-loop-head
decreases-loop-head l = length l.heads.items
