-- What console.log prints for values.
use Rattle.std.specs.Prelude.{ℕ, Bool, false, ◌==◌, nat_le, List, [], ◌∷◌, ◌++◌, length, Option, Some, slice_get, codes, flat_map, if◌then◌else◌}
use Rattle.std.specs.List.{list_any}
use Rattle.actx_data.specs.declared.value.Value.{Value}
use Rattle.actx_data.specs.declared.value.Value.TheVariants as v
use Rattle.actx_rules.specs.Operators.{primitive_text}
use Rattle.actx_rules.specs.State.{Thing, Closure, Native, option_or}

-- a function is printed as [function], and any other object as [object]
abbrev pub thing_text : Option Thing → List ℕ
thing_text (Some (Closure kind xs ss scope receiver)) = codes "[function]"
thing_text (Some (Native method)) = codes "[function]"
thing_text _ = codes "[object]"

abbrev pub printed : List Thing → Value → List ℕ
printed heap (v.Thing k) = thing_text (slice_get heap k)
printed heap v = option_or (primitive_text v) []

-- a value's text behind a space
abbrev pub spaced : List Thing → Value → List ℕ
spaced heap v = 32 ∷ printed heap v

-- the texts of values with a space before each
abbrev pub printed_more : List Thing → List Value → List ℕ
printed_more heap vs = flat_map (spaced heap) vs

abbrev pub line_of : List Thing → List Value → List ℕ
line_of heap [] = []
line_of heap (v ∷ vs) = printed heap v ++ printed_more heap vs

abbrev pub has_percent : List ℕ → Bool
has_percent cs = list_any (λ c. c == 37) cs

-- a first text with % is a format where more values stand after it
abbrev pub is_format : List Value → Bool
is_format (v.Text u ∷ w ∷ vs) = has_percent u
is_format _ = false

-- whether the values make a line: no format, and no longer than a line may be
abbrev pub is_line : List Thing → List Value → Bool
is_line heap vs = if is_format vs then false else nat_le (length (line_of heap vs)) 1048576
