use Rattle.std.proofs.Common.{◌≡◌, drop}
use Rattle.actx_heap.specs.Texts.{all_digits}
use Rattle.actx_heap.proofs.keys.all_digits.Given as goal

abbrev pub invariant-loop-unit : goal.invariant-loop-unit
invariant-loop-unit l = all_digits l.units ≡ all_digits (drop l.unit-index l.units)
