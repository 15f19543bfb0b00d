-- A stack: the frames that wait and the marks between them, the top first (ECMA-262, 9.4).
use Rattle.std.specs.Prelude.{◌≡◌, ℕ, List, [], ◌∷◌, Option, Some, None}
use Rattle.std.specs.List.{AllZip}

pub data Entry (F : Type 0) : Type 0 where
  Frame : (frame : F) → Entry F
  -- where a coroutine's frames begin
  Mark : (number : ℕ) → Entry F

-- frames in the order in which they were pushed, as entries
abbrev pub entries_onto : {F : Type 0} → List F → List (Entry F) → List (Entry F)
entries_onto [] es = es
entries_onto (f ∷ fs) es = entries_onto fs (Frame f ∷ es)

abbrev pub entries_of : {F : Type 0} → List F → List (Entry F)
entries_of fs = entries_onto fs []

-- the frame on top; a mark is none
abbrev pub top_of : {F : Type 0} → List (Entry F) → Option F
top_of (Frame f ∷ es) = Some f
top_of _ = None

-- what is left when the frame on top is taken
abbrev pub below_of : {F : Type 0} → List (Entry F) → List (Entry F)
below_of (Frame f ∷ es) = es
below_of es = es

-- entries that are the same, where frames are related
abbrev pub EntrySame : {F : Type 0} → (F → F → Type 0) → Entry F → Entry F → Type 0
EntrySame S (Frame f) (Frame g) = S f g
EntrySame S (Mark m) (Mark n) = m ≡ n
EntrySame S _ _ = ⊥

abbrev pub StackSame : {F : Type 0} → (F → F → Type 0) → List (Entry F) → List (Entry F) → Type 0
StackSame S xs ys = AllZip (EntrySame S) xs ys
