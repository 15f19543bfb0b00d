-- What a program shows when it is run: its trace and where it stands, after each number of steps.
use Rattle.std.specs.Prelude.{ℕ, ◌<◌, ◌^◌, List, [], ◌∷◌, ◌++◌, All, flat_map}
use Rattle.std.specs.Char.Utf16.{utf16_lossy_chars}
use Rattle.std.specs.Str.{encode_utf8_all}
use Rattle.actx_match.specs.Runs.{run}
use Rattle.actx_match.specs.Matching.{Match}
use Rattle.actx_match.specs.Traced.{Seen}
use Rattle.actx_data.specs.declared.end.End.{End}
use Rattle.actx_data.specs.declared.event.Event.{Event}
use Rattle.actx_data.specs.declared.trace.TraceEvent.{TraceEvent}
use Rattle.actx_data.specs.declared.trace.TraceEvent.TheVariants.{Out}
use Rattle.actx_grammar.specs.declared.side.Side.TheVariants.{Source, Plain}
use Rattle.actx_grammar.specs.Tree.{Stmts}
use Rattle.actx_rules.specs.State.{State}
use Rattle.actx_rules.specs.Machine.{step, start, end_of}

abbrev pub see : State → Seen TraceEvent End
see s = record { trace = s.trace; end = end_of s.now }

-- what the source program shows after this many steps
abbrev pub source_shows : Stmts → List Event → ℕ → Seen TraceEvent End
source_shows p events n = see (run (step Source) n (start Source p events))

-- what the emitted program shows after this many steps
abbrev pub target_shows : Stmts → List Event → ℕ → Seen TraceEvent End
target_shows q events n = see (run (step Plain) n (start Plain q events))

abbrev pub AreUnits : List ℕ → Type 0
AreUnits us = All (λ u. u < 2 ^ 16) us

-- host events, whose texts are lists of code units
abbrev pub AreEvents : List Event → Type 0
AreEvents events = All (λ (e : Event). AreUnits e.name × AreUnits e.text) events

-- the two runs match in both directions, whatever the host events
abbrev pub Same : Stmts → Stmts → Type 0
Same p q = (events : List Event) → AreEvents events → Match (source_shows p events) (target_shows q events)

-- RENDERING
-- a line as it is written: UTF-8, with U+FFFD for a surrogate without its partner
abbrev pub line_bytes : List ℕ → List ℕ
line_bytes u = encode_utf8_all (utf16_lossy_chars u) ++ 10 ∷ []

-- what an event prints
abbrev pub event_bytes : TraceEvent → List ℕ
event_bytes (Out u) = line_bytes u
event_bytes _ = []

-- the lines that a trace has printed
abbrev pub lines_of : List TraceEvent → List ℕ
lines_of events = flat_map event_bytes events
