-- What a program shows when it is run: its trace and where it stands, after each number of steps.
use Rattle.std.specs.Prelude.{ℕ, ◌<◌, ◌^◌, Bool, true, false, List, All}
use Rattle.actx_match.specs.Runs.{run}
use Rattle.actx_match.specs.Matching.{Match}
use Rattle.actx_match.specs.Traced.{Seen}
use Rattle.actx_data.specs.declared.end.End.{End}
use Rattle.actx_data.specs.declared.end.End.TheVariants.{Going}
use Rattle.actx_data.specs.declared.event.Event.{Event}
use Rattle.actx_data.specs.declared.trace.TraceEvent.{TraceEvent}
use Rattle.actx_grammar.specs.declared.side.Side.{Side}
use Rattle.actx_grammar.specs.declared.side.Side.TheVariants.{Source, Plain}
use Rattle.actx_grammar.specs.Tree.{Stmts}
use Rattle.actx_table.specs.State.{State}
use Rattle.actx_table.specs.Machine.{step, start, end_of}

abbrev pub see : State → Seen TraceEvent End
see s = record { trace = s.trace; end = end_of s.now }

-- whether a run goes on
abbrev pub goes : End → Bool
goes Going = true
goes _ = false

-- what a program of a side shows after this many steps
abbrev pub shows : Side → Stmts → List Event → ℕ → Seen TraceEvent End
shows side p events n = see (run (step side) n (start side p events))

abbrev pub AreUnits : List ℕ → Type 0
AreUnits us = All (λ u. u < 2 ^ 16) us

-- host events, whose texts are lists of code units
abbrev pub AreEvents : List Event → Type 0
AreEvents events = All (λ (e : Event). AreUnits e.name × AreUnits e.text) events

-- the two runs match in both directions, whatever the host events
abbrev pub Same : Stmts → Stmts → Type 0
Same p q = (events : List Event) → AreEvents events → Match (shows Source p events) (shows Plain q events)
