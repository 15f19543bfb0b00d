-- What comes next: the first job, and where none waits the first host event (ECMA-262, 9.5 and 9.6).
use Rattle.std.specs.Prelude.{List, [], ◌∷◌}
use Rattle.actx_data.specs.declared.event.Event.{Event}
use Rattle.actx_agent.specs.Waiting.{Waiting}
use Rattle.actx_agent.specs.declared.line.Next.{Next}
use Rattle.actx_agent.specs.declared.line.Next.TheVariants as n

abbrev pub next_of : {J : Type 0} → List J → List Event → Next J
next_of (j ∷ js) es = n.Job j
next_of [] (e ∷ es) = n.Host e
next_of [] [] = n.Nothing

-- what is left then
abbrev pub rest_of : {J : Type 0} → List J → List Event → Waiting J
rest_of (j ∷ js) es = record { jobs = js; events = es }
rest_of [] (e ∷ es) = record { jobs = []; events = es }
rest_of [] [] = record { jobs = []; events = [] }
