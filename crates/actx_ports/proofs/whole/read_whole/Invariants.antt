use Rattle.std.proofs.Common.{◌≡◌, ◌≤◌, ◌-◌, ◌++◌, List, ℕ, length, min, Some, vec_len}
use Rattle.actx_ports.proofs.whole.read_whole.Given as goal

abbrev pub invariant-loop-buffer : goal.invariant-loop-buffer
invariant-loop-buffer g l = record {
  within : vec_len l.text ≤ l.limit;
  room : length l.buffer ≡ min l.limit 65536;
  named : g.C.Cabinet.open_name l.files ≡ l.name;
  held : (n : List ℕ) → g.C.Cabinet.held l.files n ≡ g.C.Cabinet.held l.fn.files n;
  later : (n : List ℕ) → g.C.Cabinet.faults l.fn.files n ≤ g.C.Cabinet.faults l.files n;
  told : (bs : List ℕ) → g.C.Cabinet.held l.fn.files l.name ≡ Some bs → (rest : List ℕ) × (g.C.Cabinet.left l.files ≡ Some rest) × (bs ≡ l.text.items ++ rest);
}

abbrev pub decreases-loop-buffer : goal.decreases-loop-buffer
decreases-loop-buffer g l = l.limit - vec_len l.text
