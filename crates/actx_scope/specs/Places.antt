-- What the code's places stand for.
use Rattle.std.specs.Prelude.{true, false, if◌then◌else◌}
use Rattle.actx_grammar.specs.Static as s
use Rattle.actx_grammar.specs.declared.operators.FunctionKind.{FunctionKind}
use Rattle.actx_scope.specs.declared.place.Around.{Around}
use Rattle.actx_scope.specs.declared.place.Place.{Place}

abbrev pub seen : Place → s.Place
seen p = record { known = p.known; bound = p.bound; in_loop = p.around.in_loop; in_function = p.around.in_function; in_generator = p.around.in_generator; in_async = p.around.in_async; has_this = p.around.has_this }

-- what stands round a function's body
abbrev pub within : FunctionKind → Around → Around
within kind a = record { in_loop = false; in_function = true; in_generator = s.is_generator kind; in_async = s.is_async kind; has_this = if s.is_arrow kind then a.has_this else true }
