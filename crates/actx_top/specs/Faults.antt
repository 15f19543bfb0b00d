-- What the code's faults of reading say.
use Rattle.std.specs.Prelude.{◌≡◌, ℕ, List, Option, Some}
use Rattle.actx_top.specs.Refusals.{RefusedAt}
use Rattle.actx_top.specs.declared.taken.Stop.{Stop}
use Rattle.actx_top.specs.declared.taken.Stop.TheVariants as s
use Rattle.actx_top.specs.declared.read.TextFault.{TextFault}
use Rattle.actx_top.specs.declared.read.TextFault.TheVariants as f

-- a refusal has its cause, at its place
abbrev pub Says : List ℕ → TextFault → Type 0
Says text (f.Refused number place) = RefusedAt text number place.line place.column
Says text f.NoMemory = Unit {0}

-- a walk stops at the first node that isn't taken
abbrev pub StopsAt : Option ℕ → Stop → Type 0
StopsAt found (s.Untaken n) = found ≡ Some n
StopsAt found s.TooMany = Unit {0}
