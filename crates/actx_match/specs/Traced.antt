-- What is seen of a machine that writes a trace and has an end.
use Rattle.std.specs.Prelude.{◌≡◌, ℕ, ◌+◌, Bool, true, false, List, [], ◌∷◌, ◌++◌, length}

-- the trace and the end
pub record Seen (Event End : Type 0) : Type 0 where
  pub trace : List Event
  pub end : End

-- 0 while the run goes on, and 1 once it is over
abbrev pub over : Bool → ℕ
over true = 0
over false = 1

-- how far what is seen has come: each event counts one, and so does the end
abbrev pub rank_by : {Event End : Type 0} → (End → Bool) → Seen Event End → ℕ
rank_by goes seen = length seen.trace + over (goes seen.end)

-- what a step does to what is seen: nothing, or one event more, or an end with no event
pub data Change {Event End : Type 0} (goes : End → Bool) (old new : Seen Event End) : Type 0 where
  Quiet : new ≡ old → Change goes old new
  Wrote : (e : Event) → new ≡ record { trace = old.trace ++ e ∷ []; end = old.end } → Change goes old new
  Stopped : goes old.end ≡ true → goes new.end ≡ false → new.trace ≡ old.trace → Change goes old new
