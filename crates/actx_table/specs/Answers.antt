-- How a row goes on: with a value, with a thing that is made, with an error that is thrown.
use Rattle.std.specs.Prelude.{List, [], ◌∷◌, ◌++◌, length, Option, Some, None, slice_get}
use Rattle.actx_data.specs.declared.end.End.TheVariants.{Left}
use Rattle.actx_data.specs.declared.shown.ErrorName.{ErrorName}
use Rattle.actx_data.specs.declared.shown.ErrorName.TheVariants.{TypeError}
use Rattle.actx_data.specs.declared.value.Value.{Value}
use Rattle.actx_data.specs.declared.value.Value.TheVariants as v
use Rattle.actx_heap.specs.Things.{Thing, Failure, Function}
use Rattle.actx_heap.specs.declared.answers.Got.{Got}
use Rattle.actx_heap.specs.declared.answers.Got.TheVariants as g
use Rattle.actx_table.specs.State.{Code, Throw, Given, Done, Frame, Store, Move, Goes, Stops}

abbrev pub with_heap : Store → List (Thing Code) → Store
with_heap s heap = record s { heap = heap }

abbrev pub with_thing : Store → Thing Code → Store
with_thing s thing = with_heap s (s.heap ++ thing ∷ [])

abbrev pub gives : Value → List Frame → Store → Move
gives v fs s = Goes (Given v) fs s

-- a new thing is the value
abbrev pub makes : Thing Code → List Frame → Store → Move
makes thing fs s = gives (v.Thing (length s.heap)) fs (with_thing s thing)

-- a new error is thrown, with the empty message
abbrev pub throws : ErrorName → List Frame → Store → Move
throws name fs s = Goes (Done (Throw (v.Thing (length s.heap)))) fs (with_thing s (Failure name []))

abbrev pub answered : Got → List Frame → Store → Move
answered (g.Value v) fs s = gives v fs s
answered g.Throws fs s = throws TypeError fs s
answered g.Leaves fs s = Stops Left

-- a function, or nothing (7.2.3 IsCallable)
abbrev pub code_in : Option (Thing Code) → Option Code
code_in (Some (Function code)) = Some code
code_in _ = None

abbrev pub code_of : List (Thing Code) → Value → Option Code
code_of heap (v.Thing k) = code_in (slice_get heap k)
code_of heap _ = None
