-- The jobs that wait and the host events that are left (ECMA-262, 9.5).
use Rattle.std.specs.Prelude.{◌≡◌, List}
use Rattle.std.specs.List.{AllZip}
use Rattle.actx_data.specs.declared.event.Event.{Event}

pub record Waiting (J : Type 0) : Type 0 where
  pub jobs : List J
  pub events : List Event

-- lines with the same jobs, where jobs are related, and the same events
abbrev pub WaitingSame : {J : Type 0} → (J → J → Type 0) → Waiting J → Waiting J → Type 0
WaitingSame S a b = AllZip S a.jobs b.jobs × (a.events ≡ b.events)
