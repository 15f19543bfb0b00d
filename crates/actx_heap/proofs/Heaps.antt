-- Things of the code's heap and of the heap that it stands for.
use Rattle.std.proofs.Common.{◌≡◌, ℕ, zero, suc, ◌<◌, arith, length, get_or, List, [], ◌∷◌, map, Some, refl, ap, sym, ◌∙◌}
use Rattle.std.specs.Prelude.{slice_get, slice_set}
use Rattle.std.proofs.lemmas.List.{map-set}
use Rattle.actx_data.specs.declared.value.Value.{Value}
use Rattle.actx_heap.specs.Things as m
use Rattle.actx_heap.specs.Properties.{put_thing, put_at, frozen, freeze_at, with_frozen}
use Rattle.actx_heap.specs.Views.{thing_of, things_of}
use Rattle.actx_heap.specs.declared.answers.Put.{Put}
use Rattle.actx_heap.specs.declared.answers.Put.TheVariants as p
use Rattle.actx_heap.specs.declared.thing.Thing.{Thing}

pub get_map : {A B : Type 0} (f : A → B) (xs : List A) (k : ℕ) (x : A) → slice_get xs k ≡ Some x → slice_get (map f xs) k ≡ Some (f x)
get_map f [] k x h = absurd cc
get_map f (y ∷ ys) zero x h = let same : y ≡ x = cc in ap (λ z. Some (f z)) same
get_map f (y ∷ ys) (suc k) x h = get_map f ys k x h

-- an entry that every default finds
pub get_at : {A : Type 0} (xs : List A) (k : ℕ) (x : A) → k < length xs → ((d : A) → x ≡ get_or xs k d) → slice_get xs k ≡ Some x
get_at [] k x h e = absurd (omega arith)
get_at (y ∷ ys) zero x h e = ap Some (sym (e x))
get_at (y ∷ ys) (suc k) x h e = get_at ys k x (omega arith) e

pub get_here : {A : Type 0} (xs : List A) (k : ℕ) (x : A) → k < length xs → x ≡ get_or xs k x → slice_get xs k ≡ Some x
get_here [] k x h e = absurd (omega arith)
get_here (y ∷ ys) zero x h e = ap Some (sym e)
get_here (y ∷ ys) (suc k) x h e = get_here ys k x (omega arith) e

pub set_same : {A : Type 0} (xs : List A) (k : ℕ) (x : A) → slice_get xs k ≡ Some x → slice_set xs k x ≡ xs
set_same [] k x h = refl
set_same (y ∷ ys) zero x h = let same : y ≡ x = cc in ap (λ z. z ∷ ys) (sym same)
set_same (y ∷ ys) (suc k) x h = ap (λ zs. y ∷ zs) (set_same ys k x h)

-- a property set in the thing at a place is set in the heap
put_one : {C : Type 0} (a b : m.Thing C) (heap : List (m.Thing C)) (k : ℕ) (key : List ℕ) (v : Value) (r : Put) → slice_get heap k ≡ Some a → (r, b) ≡ put_thing a key v → (r, slice_set heap k b) ≡ put_at (Some a) heap k key v
put_one (m.Plain ps) b heap k key v r at h = ap (λ e. (e.0, slice_set heap k e.1)) h
put_one (m.Listed ps) b heap k key v r at h = ap (λ e. (e.0, slice_set heap k e.1)) h ∙ ap (λ z. (p.Leaves, z)) (set_same heap k (m.Listed ps) at)
put_one (m.Failure name message) b heap k key v r at h = ap (λ e. (e.0, slice_set heap k e.1)) h ∙ ap (λ z. (p.Leaves, z)) (set_same heap k (m.Failure name message) at)
put_one (m.Function code) b heap k key v r at h = ap (λ e. (e.0, slice_set heap k e.1)) h ∙ ap (λ z. (p.Leaves, z)) (set_same heap k (m.Function code) at)

pub put_placed : {C : Type 0} (ts : List (Thing C)) (k : ℕ) (old new : Thing C) (key : List ℕ) (v : Value) (r : Put) → slice_get ts k ≡ Some old → (r, thing_of new) ≡ put_thing (thing_of old) key v → (r, things_of (slice_set ts k new)) ≡ put_at (slice_get (things_of ts) k) (things_of ts) k key v
put_placed ts k old new key v r at h =
    ap (λ z. (r, z)) (map-set thing_of ts k new)
    ∙ put_one (thing_of old) (thing_of new) (things_of ts) k key v r (get_map thing_of ts k old at) h
    ∙ ap (λ o. put_at o (things_of ts) k key v) (sym (get_map thing_of ts k old at))

-- where the thing stays as it was, so does the heap
pub kept_placed : {C : Type 0} (ts : List (Thing C)) (k : ℕ) (old new : Thing C) → slice_get ts k ≡ Some old → thing_of new ≡ thing_of old → things_of (slice_set ts k new) ≡ things_of ts
kept_placed ts k old new at h =
    map-set thing_of ts k new
    ∙ ap (λ z. slice_set (things_of ts) k z) h
    ∙ set_same (things_of ts) k (thing_of old) (get_map thing_of ts k old at)

pub frozen_placed : {C : Type 0} (ts : List (Thing C)) (k : ℕ) (old new : Thing C) → slice_get ts k ≡ Some old → thing_of new ≡ frozen (thing_of old) → things_of (slice_set ts k new) ≡ with_frozen (things_of ts) k
frozen_placed ts k old new at h =
    map-set thing_of ts k new
    ∙ ap (λ z. slice_set (things_of ts) k z) h
    ∙ ap (λ o. freeze_at o (things_of ts) k) (sym (get_map thing_of ts k old at))
