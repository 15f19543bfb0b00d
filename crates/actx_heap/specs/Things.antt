-- Things: the objects that a run makes, each named by its place in the heap (ECMA-262, 6.1.7).
use Rattle.std.specs.Prelude.{◌≡◌, ℕ, List}
use Rattle.std.specs.List.{AllZip}
use Rattle.actx_data.specs.declared.shown.ErrorName.{ErrorName}
use Rattle.actx_data.specs.declared.value.Value.{Value}

-- a property of an object
pub record Prop : Type 0 where
  pub key : List ℕ
  pub value : Value

-- a key with its value
abbrev pub prop_in : (List ℕ × Value) → Prop
prop_in e = record { key = e.0; value = e.1 }

-- a thing; what a function is made of is the machine's
pub data Thing (C : Type 0) : Type 0 where
  -- an object whose properties may be set and added, in the order in which they were added
  Plain : (ps : List Prop) → Thing C
  -- what has the same properties for ever
  Listed : (ps : List Prop) → Thing C
  Failure : (name : ErrorName) (message : List ℕ) → Thing C
  Function : (code : C) → Thing C

-- things that are the same, where codes are related
abbrev pub ThingSame : {C : Type 0} → (C → C → Type 0) → Thing C → Thing C → Type 0
ThingSame S (Plain ps) (Plain qs) = ps ≡ qs
ThingSame S (Listed ps) (Listed qs) = ps ≡ qs
ThingSame S (Failure name message) (Failure other text) = (name ≡ other) × (message ≡ text)
ThingSame S (Function code) (Function other) = S code other
ThingSame S _ _ = ⊥

-- heaps whose things are the same, place by place
abbrev pub HeapSame : {C : Type 0} → (C → C → Type 0) → List (Thing C) → List (Thing C) → Type 0
HeapSame S xs ys = AllZip (ThingSame S) xs ys
