-- The answers of the top call, and when each comes.
use Rattle.std.specs.Prelude.{◌≡◌, ℕ, Bool, false, ◌==◌, ◌⊎◌, List, [], ◌∷◌, ◌++◌, Option, Some, None, codes, decimal, if◌then◌else◌}
use Rattle.std.specs.Char.Utf16.{utf16_lossy_chars}
use Rattle.std.specs.Fmt.{signed_decimal}
use Rattle.std.specs.Str.{encode_utf8_all}
use Rattle.json.specs.Print.{quoted}
use Rattle.actx_match.specs.Traced.{Seen}
use Rattle.actx_ports.specs.Ports.{AddsAll, AddsPart, Rose}
use Rattle.actx_data.specs.declared.end.End.{End}
use Rattle.actx_data.specs.declared.end.End.TheVariants.{Going, Ended, Threw, Left}
use Rattle.actx_data.specs.declared.shown.Shown.{Shown}
use Rattle.actx_data.specs.declared.shown.Shown.TheVariants as h
use Rattle.actx_data.specs.declared.trace.TraceEvent.{TraceEvent}
use Rattle.actx_rules.specs.Texts.{same_text}
use Rattle.actx_grammar.specs.Tree.{Stmts}
use Rattle.actx_top.specs.Headline.{emitted}
use Rattle.actx_rules.specs.Low.{low}
use Rattle.actx_top.specs.Refusals.{RefusedAt}
use Rattle.actx_top.specs.declared.mode.Mode.{Mode}
use Rattle.actx_top.specs.declared.mode.Mode.TheVariants.{Lower, Run}
use Rattle.actx_rules.specs.Operators.{truth_text}
use Rattle.actx_rules.specs.Properties.{error_text}
use Rattle.actx_rules.specs.Meaning.{target_shows, lines_of}

-- WORDS: a mode, and a file whose name doesn't begin with -
abbrev pub begins_with_dash : List ℕ → Bool
begins_with_dash [] = false
begins_with_dash (c ∷ cs) = c == 45

abbrev pub mode_named : List ℕ → Option Mode
mode_named word = if same_text word (codes "run") then Some Run else (if same_text word (codes "lower") then Some Lower else None)

-- the mode of a command line; none where the words are no command line
abbrev pub command_of : List (List ℕ) → Option Mode
command_of (mode ∷ file ∷ []) = if begins_with_dash file then None else mode_named mode
command_of _ = None

-- the second word
abbrev pub file_of : List (List ℕ) → List ℕ
file_of (mode ∷ file ∷ words) = file
file_of _ = []

-- THE RUN
-- the greatest number of steps of a run
unfoldable pub most_steps : ℕ
most_steps = 20000000

-- what the emitted program shows where no host event comes
abbrev pub run_shows : Stmts → Seen TraceEvent End
run_shows p = target_shows (low p) [] most_steps

abbrev pub status_of : End → ℕ
status_of Ended = 0
status_of (Threw v) = 1
status_of Left = 4
status_of Going = 5

-- THE MODES: what each writes, and its status where all is written
abbrev pub status_in : Mode → Stmts → ℕ
status_in Lower p = 0
status_in Run p = status_of (run_shows p).end

abbrev pub output_in : Mode → Stmts → List ℕ
output_in Lower p = emitted p
output_in Run p = lines_of (run_shows p).trace

-- what an output whose status is this one makes of the answer
pub record Wrote (answer status : ℕ) (lines : List ℕ) (before after : Option (List ℕ)) : Type 0 where
  -- the answer is the status, or the output couldn't be written, or memory was wanting
  pub cause : (answer ≡ status) ⊎ ((answer ≡ 7) ⊎ (answer ≡ 70))
  -- at that status all lines were written
  pub whole : answer ≡ status → AddsAll before lines after
  -- at every answer some first part of them was
  pub part : AddsPart before lines after

-- what a program makes of the answer and the output in a mode, or its file couldn't be read
pub record Did (answer : ℕ) (mode : Mode) (p : Stmts) (before after : Option (List ℕ)) : Type 0 where
  pub cause : (answer ≡ status_in mode p) ⊎ ((answer ≡ 6) ⊎ ((answer ≡ 7) ⊎ (answer ≡ 70)))
  pub whole : answer ≡ status_in mode p → AddsAll before (output_in mode p) after
  pub part : AddsPart before (output_in mode p) after

-- SHOWN VALUES
-- the UTF-8 of units, with U+FFFD for a surrogate without its partner, as a JSON string
abbrev pub text_shown : List ℕ → List ℕ
text_shown u = quoted (encode_utf8_all (utf16_lossy_chars u))

-- a value as a line shows it: a text as a JSON string, an object by its number, and an error with its name and message
abbrev pub shown_text : Shown → List ℕ
shown_text h.Undefined = codes "undefined"
shown_text h.Null = codes "null"
shown_text (h.Truth b) = truth_text b
shown_text (h.Num z) = signed_decimal z
shown_text (h.Text u) = text_shown u
shown_text (h.Object n) = codes "#" ++ decimal n
shown_text (h.Failure n name message) = codes "#" ++ (decimal n ++ (codes " " ++ (error_text name ++ (codes " " ++ text_shown message))))

-- FAULT LINES
pub data Fault : Type 0 where
  BadWords : Fault
  Refused : (file : List ℕ) (number line column : ℕ) → Fault
  ThrewValue : (shown : Shown) → Fault
  LeftProfile : Fault
  StillGoing : Fault
  CannotRead : (file : List ℕ) → Fault
  CannotWrite : Fault
  OutOfMemory : Fault

-- the name of a refusal
abbrev pub refusal_name : ℕ → List ℕ
refusal_name n =
    if n == 1 then codes "NotUtf8"
    else (if n == 2 then codes "BadToken"
    else (if n == 3 then codes "TooLong"
    else (if n == 4 then codes "BadNumber"
    else (if n == 5 then codes "Unexpected"
    else (if n == 6 then codes "TooDeep"
    else (if n == 7 then codes "TooMany"
    else (if n == 8 then codes "Undeclared"
    else (if n == 9 then codes "Twice"
    else (if n == 10 then codes "Reserved"
    else (if n == 11 then codes "Misplaced"
    else codes "NotYet"))))))))))

abbrev pub fault_line : Fault → List ℕ
fault_line BadWords = codes "actx: usage: actx MODE [FILE] [--events FILE] [--steps N] [--seed N] [--count N]\n"
fault_line (Refused file number line column) =
    codes "actx: " ++ (file ++ (codes ":" ++ (decimal line ++ (codes ":" ++ (decimal column ++ (codes ": " ++ (decimal number ++ (codes " " ++ (refusal_name number ++ codes "\n")))))))))
fault_line (ThrewValue shown) = codes "actx: threw " ++ (shown_text shown ++ codes "\n")
fault_line LeftProfile = codes "actx: left the profile\n"
fault_line StillGoing = codes "actx: still going after 20000000 steps\n"
fault_line (CannotRead file) = codes "actx: cannot read " ++ (file ++ codes "\n")
fault_line CannotWrite = codes "actx: cannot write\n"
fault_line OutOfMemory = codes "actx: out of memory\n"

-- the status of a fault
abbrev pub fault_status : Fault → ℕ
fault_status BadWords = 2
fault_status (Refused file number line column) = 3
fault_status (ThrewValue shown) = 1
fault_status LeftProfile = 4
fault_status StillGoing = 5
fault_status (CannotRead file) = 6
fault_status CannotWrite = 7
fault_status OutOfMemory = 70

-- a fault names the file, where it names one
abbrev pub IsAbout : Fault → List ℕ → Type 0
IsAbout (Refused name number line column) file = name ≡ file
IsAbout (CannotRead name) file = name ≡ file
IsAbout _ file = Unit {0}

-- the fault's line was written, or some first part of it where the sink's count of faults rose
abbrev pub Tells : Fault → (before after : Option (List ℕ)) → (count_before count_after : ℕ) → Type 0
Tells fault before after count_before count_after = AddsPart before (fault_line fault) after × (AddsAll before (fault_line fault) after ⊎ Rose count_before count_after)

-- the status of a fault with its line, or 70 with some first part of its line or of another
abbrev pub TellsAs : ℕ → Fault → (before after : Option (List ℕ)) → (count_before count_after : ℕ) → Type 0
TellsAs status fault before after count_before count_after =
    ((status ≡ fault_status fault) × Tells fault before after count_before count_after)
    ⊎ ((status ≡ 70) × (AddsPart before (fault_line fault) after ⊎ AddsPart before (fault_line OutOfMemory) after))

-- where a run threw, the line tells its value
pub record TellsThrow (end : End) (before after : Option (List ℕ)) (count_before count_after : ℕ) : Type 0 where
  pub shown : Shown
  pub threw : end ≡ Threw shown
  pub tells : Tells (ThrewValue shown) before after count_before count_after

-- where a text was refused, the line tells the number of its refusal and its place
pub record TellsRefusal (file text : List ℕ) (before after : Option (List ℕ)) (count_before count_after : ℕ) : Type 0 where
  pub number : ℕ
  pub line : ℕ
  pub column : ℕ
  pub refused : RefusedAt text number line column
  pub tells : Tells (Refused file number line column) before after count_before count_after

-- what is told at a status: nothing at 0, the status's own line, and at 70 some first part of one line
abbrev pub Explains : ℕ → List ℕ → (before after : Option (List ℕ)) → (count_before count_after : ℕ) → Type 0
Explains status file before after count_before count_after =
    ((status ≡ 0) × (after ≡ before))
    ⊎ ((fault : Fault) × (IsAbout fault file × TellsAs status fault before after count_before count_after))
