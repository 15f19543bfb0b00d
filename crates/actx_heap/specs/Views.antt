-- What the code's things stand for.
use Rattle.std.specs.Prelude.{ℕ, List, [], map}
use Rattle.actx_data.specs.declared.shown.ErrorName.{ErrorName}
use Rattle.actx_heap.specs.Things as m
use Rattle.actx_heap.specs.Properties.{with_props}
use Rattle.actx_heap.specs.declared.heap.Kind.{Kind}
use Rattle.actx_heap.specs.declared.heap.Kind.TheVariants as k
use Rattle.actx_heap.specs.declared.heap.Seen.{Seen}
use Rattle.actx_heap.specs.declared.heap.Seen.TheVariants as s
use Rattle.actx_heap.specs.declared.thing.Thing.{Thing}
use Rattle.actx_heap.specs.declared.thing.Thing.TheVariants as h

abbrev pub thing_of : {C : Type 0} → Thing C → m.Thing C
thing_of (h.Plain ps) = m.Plain ps
thing_of (h.Listed ps) = m.Listed ps
thing_of (h.Failure name message) = m.Failure name message
thing_of (h.Function code) = m.Function code

abbrev pub things_of : {C : Type 0} → List (Thing C) → List (m.Thing C)
things_of ts = map thing_of ts

-- a new thing of its kind
abbrev pub kind_thing : {C : Type 0} → Kind C → m.Thing C
kind_thing k.Plain = m.Plain []
kind_thing (k.Listed list) = m.Listed (with_props list.items [])
kind_thing (k.Failure name message) = m.Failure name message
kind_thing (k.Function code) = m.Function code

-- what a thing is, whatever its properties are
pub data What (C : Type 0) : Type 0 where
  IsPlain : What C
  IsListed : What C
  IsFailure : (name : ErrorName) (message : List ℕ) → What C
  IsFunction : (code : C) → What C

abbrev pub what_of : {C : Type 0} → m.Thing C → What C
what_of (m.Plain ps) = IsPlain
what_of (m.Listed ps) = IsListed
what_of (m.Failure name message) = IsFailure name message
what_of (m.Function code) = IsFunction code

abbrev pub seen_view : {C : Type 0} → Seen C → What C
seen_view s.Plain = IsPlain
seen_view s.Listed = IsListed
seen_view (s.Failure name message) = IsFailure name message.now
seen_view (s.Function code) = IsFunction code.now
