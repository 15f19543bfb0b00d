-- Things of the code's heap and of the heap that it stands for.
use Rattle.std.proofs.Common.{◌≡◌, ℕ, zero, suc, ◌<◌, arith, length, get_or, List, [], ◌∷◌, map, Some, None, Bool, true, false, refl, ap, sym, ◌∙◌}
use Rattle.std.specs.Prelude.{slice_get, slice_set}
use Rattle.std.proofs.lemmas.List.{map-set}
use Rattle.actx_data.specs.declared.value.Value.{Value}
use Rattle.actx_rules.specs.State as m
use Rattle.actx_rules.specs.Properties.{PutDone, PutLeaves, put_thing, with_prop, frozen}
use Rattle.actx_target.specs.ThingView.{thing_of, things_of}
use Rattle.actx_target.specs.View.{with_put, put_is, put_answer}
use Rattle.actx_target.specs.MethodView.{Kept, done_in, set_in_heap, with_weak, weak_put, frozen_thing}
use Rattle.actx_target.specs.declared.thing.Thing.{Thing}

pub get_map : {A B : Type 0} (f : A → B) (xs : List A) (k : ℕ) (x : A) → slice_get xs k ≡ Some x → slice_get (map f xs) k ≡ Some (f x)
get_map f [] k x h = absurd cc
get_map f (y ∷ ys) zero x h = let same : y ≡ x = cc in ap (λ z. Some (f z)) same
get_map f (y ∷ ys) (suc k) x h = get_map f ys k x h

put_at : (a b : m.Thing) (heap : List m.Thing) (k : ℕ) (key : List ℕ) (v : Value) → with_put a key v ≡ Some b → put_thing (Some a) heap k key v ≡ PutDone (slice_set heap k b)
put_at (m.Plain ps) b heap k key v h = let same : m.Plain (with_prop key v ps) ≡ b = cc in ap (λ z. PutDone (slice_set heap k z)) same
put_at (m.Listed ps) b heap k key v h = absurd cc
put_at (m.Failure name message) b heap k key v h = absurd cc
put_at (m.Closure kind xs ss scope r) b heap k key v h = absurd cc
put_at (m.Native method) b heap k key v h = absurd cc
put_at (m.Weak es) b heap k key v h = absurd cc

refused_at : (a : m.Thing) (heap : List m.Thing) (k : ℕ) (key : List ℕ) (v : Value) → with_put a key v ≡ None → put_thing (Some a) heap k key v ≡ PutLeaves
refused_at (m.Plain ps) heap k key v h = absurd cc
refused_at (m.Listed ps) heap k key v h = refl
refused_at (m.Failure name message) heap k key v h = refl
refused_at (m.Closure kind xs ss scope r) heap k key v h = refl
refused_at (m.Native method) heap k key v h = refl
refused_at (m.Weak es) heap k key v h = refl

pub put_done : (ts : List Thing) (k : ℕ) (old new : Thing) (key : List ℕ) (v : Value) → slice_get ts k ≡ Some old → with_put (thing_of old) key v ≡ Some (thing_of new) → put_thing (slice_get (things_of ts) k) (things_of ts) k key v ≡ PutDone (things_of (slice_set ts k new))
put_done ts k old new key v at done =
    ap (λ o. put_thing o (things_of ts) k key v) (get_map thing_of ts k old at)
    ∙ put_at (thing_of old) (thing_of new) (things_of ts) k key v done
    ∙ ap PutDone (sym (map-set thing_of ts k new))

pub put_refused : (ts : List Thing) (k : ℕ) (old : Thing) (key : List ℕ) (v : Value) → slice_get ts k ≡ Some old → with_put (thing_of old) key v ≡ None → put_thing (slice_get (things_of ts) k) (things_of ts) k key v ≡ PutLeaves
put_refused ts k old key v at h = ap (λ o. put_thing o (things_of ts) k key v) (get_map thing_of ts k old at) ∙ refused_at (thing_of old) (things_of ts) k key v h

-- an entry that every default finds
pub get_at : {A : Type 0} (xs : List A) (k : ℕ) (x : A) → k < length xs → ((d : A) → x ≡ get_or xs k d) → slice_get xs k ≡ Some x
get_at [] k x h e = absurd (omega arith)
get_at (y ∷ ys) zero x h e = ap Some (sym (e x))
get_at (y ∷ ys) (suc k) x h e = get_at ys k x (omega arith) e

pub put_is_done : (ts : List Thing) (k : ℕ) (old new : Thing) (key : List ℕ) (v : Value) (done : Bool) → slice_get ts k ≡ Some old → with_put (thing_of old) key v ≡ put_is done (thing_of new) → put_thing (slice_get (things_of ts) k) (things_of ts) k key v ≡ put_answer done (things_of (slice_set ts k new))
put_is_done ts k old new key v true at h = put_done ts k old new key v at h
put_is_done ts k old new key v false at h = put_refused ts k old key v at h

-- a thing of the heap that is set as the definitions set it
set_or_not : (ts : List Thing) (k : ℕ) (new : Thing) (done : Bool) → set_in_heap (done_in done (thing_of new)) (things_of ts) k ≡ done_in done (things_of (slice_set ts k new))
set_or_not ts k new true = ap Some (sym (map-set thing_of ts k new))
set_or_not ts k new false = refl

pub weak_put_is : (ts : List Thing) (w : ℕ) (old new : Thing) (k : ℕ) (v : Value) (done : Bool) → slice_get ts w ≡ Some old → with_weak (thing_of old) k v ≡ done_in done (thing_of new) → weak_put (slice_get (things_of ts) w) (things_of ts) w k v ≡ done_in done (things_of (slice_set ts w new))
weak_put_is ts w old new k v done at h =
    ap (λ o. weak_put o (things_of ts) w k v) (get_map thing_of ts w old at)
    ∙ ap (λ o. set_in_heap o (things_of ts) w) h
    ∙ set_or_not ts w new done

frozen_is : (a : m.Thing) (heap : List m.Thing) (k : ℕ) → frozen (Some a) heap k ≡ set_in_heap (frozen_thing a) heap k
frozen_is (m.Plain ps) heap k = refl
frozen_is (m.Listed ps) heap k = refl
frozen_is (m.Failure name message) heap k = refl
frozen_is (m.Closure kind xs ss scope r) heap k = refl
frozen_is (m.Native method) heap k = refl
frozen_is (m.Weak es) heap k = refl

pub freeze_is : (ts : List Thing) (k : ℕ) (old new : Thing) (done : Bool) → slice_get ts k ≡ Some old → frozen_thing (thing_of old) ≡ done_in done (thing_of new) → frozen (slice_get (things_of ts) k) (things_of ts) k ≡ done_in done (things_of (slice_set ts k new))
freeze_is ts k old new done at h =
    ap (λ o. frozen o (things_of ts) k) (get_map thing_of ts k old at)
    ∙ frozen_is (thing_of old) (things_of ts) k
    ∙ ap (λ o. set_in_heap o (things_of ts) k) h
    ∙ set_or_not ts k new done

set_same : {A : Type 0} (xs : List A) (k : ℕ) (x : A) → slice_get xs k ≡ Some x → slice_set xs k x ≡ xs
set_same [] k x h = refl
set_same (y ∷ ys) zero x h = let same : y ≡ x = cc in ap (λ z. z ∷ ys) (sym same)
set_same (y ∷ ys) (suc k) x h = ap (λ zs. y ∷ zs) (set_same ys k x h)

pub kept_in : (ts : List Thing) (k : ℕ) (old new : Thing) (done : Bool) → slice_get ts k ≡ Some old → Kept done (thing_of old) (thing_of new) → Kept done (things_of ts) (things_of (slice_set ts k new))
kept_in ts k old new true at h = tt
kept_in ts k old new false at h =
    map-set thing_of ts k new
    ∙ ap (λ z. slice_set (things_of ts) k z) h
    ∙ set_same (things_of ts) k (thing_of old) (get_map thing_of ts k old at)
