-- What is printed of values, and what is shown of them (the lines of console.log, and the trace).
use Rattle.std.specs.Prelude.{ℕ, ◌+◌, Bool, true, false, ◌==◌, nat_le, nat_eq, List, [], ◌∷◌, ◌++◌, length, Option, Some, slice_get, codes, flat_map, if◌then◌else◌}
use Rattle.std.specs.List.{list_any}
use Rattle.actx_data.specs.declared.shown.Shown.{Shown}
use Rattle.actx_data.specs.declared.shown.Shown.TheVariants as h
use Rattle.actx_data.specs.declared.value.Value.{Value}
use Rattle.actx_data.specs.declared.value.Value.TheVariants as v
use Rattle.actx_heap.specs.Things.{Thing, Failure, Function}
use Rattle.actx_table.specs.Operators.{primitive_text}
use Rattle.actx_table.specs.Scopes.{option_or}
use Rattle.actx_table.specs.State.{Code}

-- PRINTING
-- a function is printed as [function], and any other object as [object]
abbrev pub thing_text : Option (Thing Code) → List ℕ
thing_text (Some (Function code)) = codes "[function]"
thing_text _ = codes "[object]"

abbrev pub printed : List (Thing Code) → Value → List ℕ
printed heap (v.Thing k) = thing_text (slice_get heap k)
printed heap v = option_or (primitive_text v) []

-- a value's text behind a space
abbrev pub spaced : List (Thing Code) → Value → List ℕ
spaced heap v = 32 ∷ printed heap v

abbrev pub line_of : List (Thing Code) → List Value → List ℕ
line_of heap [] = []
line_of heap (v ∷ vs) = printed heap v ++ flat_map (spaced heap) vs

abbrev pub has_percent : List ℕ → Bool
has_percent cs = list_any (λ c. c == 37) cs

-- a first text with % is a format where more values stand after it
abbrev pub is_format : List Value → Bool
is_format (v.Text u ∷ w ∷ vs) = has_percent u
is_format _ = false

-- whether the values make a line: no format, and no longer than a line may be
abbrev pub is_line : List (Thing Code) → List Value → Bool
is_line heap vs = if is_format vs then false else nat_le (length (line_of heap vs)) 1048576

-- SHOWING
-- the place of a thing in the list of things shown, from n up
abbrev pub place_in : ℕ → ℕ → List ℕ → ℕ
place_in n k [] = n
place_in n k (j ∷ js) = if nat_eq k j then n else place_in (n + 1) k js

abbrev pub is_in : ℕ → List ℕ → Bool
is_in k [] = false
is_in k (j ∷ js) = if nat_eq k j then true else is_in k js

abbrev pub show_thing : Option (Thing Code) → ℕ → Shown
show_thing (Some (Failure name message)) n = h.Failure n name message
show_thing _ n = h.Object n

-- a value as it is shown: the k-th distinct thing has the number k
abbrev pub show : List (Thing Code) → List ℕ → Value → Shown
show heap js v.Undefined = h.Undefined
show heap js v.Null = h.Null
show heap js (v.Truth b) = h.Truth b
show heap js (v.Num z) = h.Num z
show heap js (v.Text u) = h.Text u
show heap js (v.Thing k) = show_thing (slice_get heap k) (place_in 1 k js)

-- the things shown, with this value
abbrev pub more_shown : List ℕ → Value → List ℕ
more_shown js (v.Thing k) = if is_in k js then js else js ++ k ∷ []
more_shown js _ = js
