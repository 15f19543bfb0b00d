-- The trace events that the host object of emitted programs writes.
use Rattle.std.specs.Prelude.{ℕ, pos, List, [], ◌∷◌, Option, Some, None, codes, if◌then◌else◌}
use Rattle.actx_data.specs.declared.trace.JobKind.{JobKind}
use Rattle.actx_data.specs.declared.trace.JobKind.TheVariants as j
use Rattle.actx_data.specs.declared.trace.TraceEvent.{TraceEvent}
use Rattle.actx_data.specs.declared.trace.TraceEvent.TheVariants as e
use Rattle.actx_data.specs.declared.value.Value.{Value}
use Rattle.actx_data.specs.declared.value.Value.TheVariants as v
use Rattle.actx_heap.specs.Texts.{same_text}
use Rattle.actx_heap.specs.Things.{Thing}
use Rattle.actx_table.specs.State.{Code}
use Rattle.actx_table.specs.Showing.{show, more_shown}

-- a note: the event, and the things that are shown with it
pub record Noted : Type 0 where
  pub event : TraceEvent
  pub shown : List ℕ

abbrev pub get_note : List (Thing Code) → List ℕ → Value → Value → Option Noted
get_note heap js (v.Num (pos n)) b = Some (record { event = e.Get n (show heap (more_shown js b) b); shown = more_shown js b })
get_note heap js _ b = None

abbrev pub begin_note : List ℕ → Value → Value → Value → Option Noted
begin_note js (v.Num (pos n)) (v.Num (pos m)) (v.Text u) = Some (record { event = e.Begin n m u; shown = js })
begin_note js _ _ _ = None

abbrev pub finish_note : List ℕ → Value → Value → Option Noted
finish_note js (v.Num (pos n)) (v.Truth b) = Some (record { event = e.Finish n b; shown = js })
finish_note js _ _ = None

abbrev pub job_kind : List ℕ → Option JobKind
job_kind u =
    if same_text u (codes "fulfil") then Some j.Fulfil
    else (if same_text u (codes "reject") then Some j.Reject
    else (if same_text u (codes "resume") then Some j.Resume
    else (if same_text u (codes "raise") then Some j.Raise
    else (if same_text u (codes "thenable") then Some j.Thenable
    else (if same_text u (codes "span") then Some j.SpanEnd
    else (if same_text u (codes "micro") then Some j.Micro
    else (if same_text u (codes "host") then Some j.Host
    else None)))))))

abbrev pub job_note : Option JobKind → List (Thing Code) → List ℕ → Value → Option Noted
job_note (Some kind) heap js a = Some (record { event = e.Job kind (show heap (more_shown js a) a); shown = more_shown js a })
job_note None heap js a = None

abbrev pub text_note : List ℕ → List (Thing Code) → List ℕ → Value → Value → Value → Option Noted
text_note u heap js a b c =
    if same_text u (codes "get") then get_note heap js a b
    else (if same_text u (codes "begin") then begin_note js a b c
    else (if same_text u (codes "finish") then finish_note js a b
    else job_note (job_kind u) heap js a))

-- the note of these four values, where they make one
abbrev pub note : List (Thing Code) → List ℕ → List Value → Option Noted
note heap js (v.Text u ∷ a ∷ b ∷ c ∷ []) = text_note u heap js a b c
note heap js _ = None
