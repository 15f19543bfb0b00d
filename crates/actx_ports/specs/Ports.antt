-- What a read, a write and a count of faults say, whichever cabinet or sink it is.
use Rattle.std.specs.Prelude.{◌≡◌, ◌↔◌, ◌+◌, ◌-◌, ◌^◌, ◌≤◌, ℕ, List, [], ◌++◌, length, take, min, Option, Some}

-- a count rose, or stands at the greatest u64
abbrev pub Rose : ℕ → ℕ → Type 0
Rose before now = min (before + 1) (2 ^ 64 - 1) ≤ now

-- a read put the next n bytes into the buffer, and none exactly at the end
abbrev pub Gives : ℕ → List ℕ → List ℕ → Option (List ℕ) → Type 0
Gives n buffer bytes after = (rest : List ℕ) × (bytes ≡ take n buffer ++ rest) × (after ≡ Some rest) × (n ≡ 0 ↔ bytes ≡ [])

-- some first part of the bytes was added, where the bytes are told
abbrev pub AddsPart : Option (List ℕ) → List ℕ → Option (List ℕ) → Type 0
AddsPart before bytes after = (old : List ℕ) → before ≡ Some old → (k : ℕ) × (k ≤ length bytes) × (after ≡ Some (old ++ take k bytes))

-- all of the bytes were added, where the bytes are told
abbrev pub AddsAll : Option (List ℕ) → List ℕ → Option (List ℕ) → Type 0
AddsAll before bytes after = (old : List ℕ) → before ≡ Some old → after ≡ Some (old ++ bytes)
