-- The beginning of a printed statement, as the code tells it.
use Rattle.std.specs.Prelude.{Bool, true, false}
use Rattle.actx_grammar.specs.Spell.{Start, inner, statement}

-- what stands before an expression: nothing where a statement begins with it
abbrev pub start_of : Bool → Start
start_of true = statement
start_of false = inner
