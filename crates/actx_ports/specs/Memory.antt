-- Files in memory by name, and calls by number.
use Rattle.std.specs.Prelude.{ℕ, ◌+◌, ◌-◌, ◌^◌, ◌==◌, ◌||◌, ◌&&◌, not, min, List, [], drop, Bool, Option, Some, None, option_map, slice_get, position, String, string_bytes, Vec, unwrap_or, if◌then◌else◌}
use Rattle.std.specs.List.{list_any}
use Rattle.std.specs.Str.{bytes_eq}
use Rattle.std.specs.declared.alloc.Global.{Global}
use Rattle.actx_ports.specs.declared.shelf.Shelf.{Shelf}
use Rattle.actx_ports.specs.declared.schedule.Schedule.{Schedule}
use Rattle.actx_ports.specs.declared.steady.SteadyCabinet.{SteadyCabinet}

-- one more, up to the greatest u64
abbrev pub counted : ℕ → ℕ
counted n = min (n + 1) (2 ^ 64 - 1)

-- the number is among the listed ones
abbrev pub is_listed : List ℕ → ℕ → Bool
is_listed failing number = list_any (λ k. k == number) failing

-- the next call is one of those that fail
abbrev pub fails_next : Schedule → Bool
fails_next s = is_listed s.failing.items (counted s.calls)

-- the schedule after one more call, which failed or not
abbrev pub after_call : Schedule → Bool → Schedule
after_call s failed = record s { calls = counted s.calls; faults = (if failed then counted s.faults else s.faults) }

-- a name and the bytes held under it
abbrev pub File : Type 0
File = String Global × Vec ℕ Global

-- the place of the first entry with the name
abbrev pub place_of : List File → List ℕ → Option ℕ
place_of files name = position (λ f. bytes_eq (string_bytes f.0) name) files

-- the bytes of the entry at a place
abbrev pub bytes_at : List File → ℕ → List ℕ
bytes_at files i = unwrap_or (option_map (λ f. f.1.items) (slice_get files i)) []

-- the bytes held under a name
abbrev pub held_in : List File → List ℕ → Option (List ℕ)
held_in files name = option_map (bytes_at files) (place_of files name)

-- the name of the entry at a place, or the empty text
abbrev pub name_at : List File → Option ℕ → List ℕ
name_at files None = []
name_at files (Some i) = unwrap_or (option_map (λ f. string_bytes f.0) (slice_get files i)) []

-- the bytes of the entry at a place behind the first ones, or none
abbrev pub left_in : List File → Option ℕ → ℕ → List ℕ
left_in files None at = []
left_in files (Some i) at = drop at (bytes_at files i)

-- the same, of a shelf
abbrev pub held_on : Shelf → List ℕ → Option (List ℕ)
held_on s name = held_in s.files.items name

abbrev pub left_on : Shelf → List ℕ
left_on s = left_in s.files.items s.place s.at

abbrev pub name_on : Shelf → List ℕ
name_on s = name_at s.files.items s.place

-- a write is refused: its number is listed, or no byte can be taken although there are bytes
abbrev pub refuses : Schedule → ℕ → ℕ → Bool
refuses s piece count = fails_next s || (min count piece == 0 && not (count == 0))

-- the bytes held under a name of a steady cabinet: none under a name that it wasn't given
abbrev pub steady_held : SteadyCabinet → List ℕ → List ℕ
steady_held c name = unwrap_or (held_on c.shelf name) []

-- the name of the open file of a steady cabinet
abbrev pub steady_name : SteadyCabinet → List ℕ
steady_name c = unwrap_or (option_map (λ s. string_bytes s) c.absent) (name_on c.shelf)
