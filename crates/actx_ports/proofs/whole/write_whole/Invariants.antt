use Rattle.std.proofs.Common.{◌≡◌, ◌≤◌, ◌-◌, ◌++◌, List, ℕ, length, take, Some}
use Rattle.actx_ports.proofs.whole.write_whole.Given as goal

abbrev pub invariant-loop-at : goal.invariant-loop-at
invariant-loop-at g l = record {
  within : l.at ≤ length l.bytes;
  later : g.S.Sink.faults l.initial.sink ≤ g.S.Sink.faults l.sink;
  told : (old : List ℕ) → g.S.Sink.written l.initial.sink ≡ Some old → g.S.Sink.written l.sink ≡ Some (old ++ take l.at l.bytes);
}

abbrev pub decreases-loop-at : goal.decreases-loop-at
decreases-loop-at g l = length l.bytes - l.at
