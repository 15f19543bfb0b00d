use Rattle.std.proofs.Common.{◌≡◌, ◌^◌, ◌-◌, ◌≤◌, drop}
use Rattle.std.specs.Prelude.{min}
use Rattle.actx_heap.specs.Texts.{number_from}
use Rattle.actx_heap.proofs.keys.index_of.Given as goal

abbrev pub invariant-loop-unit : goal.invariant-loop-unit
invariant-loop-unit l = (min (number_from 0 l.units) (2 ^ 64 - 1) ≡ min (number_from l.number (drop l.unit-index l.units)) (2 ^ 64 - 1)) × (l.number ≤ 2 ^ 64 - 1)
