-- Two tables whose entries correspond one to one, where the second may have more.
use Rattle.std.specs.Prelude.{◌≡◌, ℕ, List, length, Some, slice_get}

-- each entry of the first table has one of the second's, at the place that the list of places says
pub record Paired {A B : Type 0} (P : A → B → Type 0) (places : List ℕ) (from : List A) (to : List B) : Type 0 where
  pub long : length places ≡ length from
  pub apart : (i j k : ℕ) → slice_get places i ≡ Some k → slice_get places j ≡ Some k → i ≡ j
  pub pair : (i k : ℕ) → slice_get places i ≡ Some k → (a : A) × (b : B) × (slice_get from i ≡ Some a) × (slice_get to k ≡ Some b) × P a b

-- every place that the first list says, the second says too
pub record Extends (old new : List ℕ) : Type 0 where
  pub says : (i k : ℕ) → slice_get old i ≡ Some k → slice_get new i ≡ Some k

-- no entry of the first table has this place, which is the second's own
abbrev pub IsOwned : List ℕ → ℕ → Type 0
IsOwned places k = (i : ℕ) → slice_get places i ≡ Some k → ⊥
