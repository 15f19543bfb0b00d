-- What an answer says.
use Rattle.std.specs.Prelude.{◌≡◌, ℕ, List}
use Rattle.actx_grammar.specs.declared.side.Side.{Side}
use Rattle.actx_grammar.specs.Exact.{IsFirst, IsReason}
use Rattle.actx_grammar.specs.Grammar.{IsSpelled}
use Rattle.actx_grammar.specs.Lexemes.{Lexeme}
use Rattle.actx_grammar.specs.Parser.{parse, refused, unexpected, too_deep, too_many}
use Rattle.actx_grammar.specs.Places.{stmts_places}
use Rattle.actx_grammar.specs.Tree.{Stmts}
use Rattle.actx_parse.specs.declared.parse.ParseFault.{ParseFault}
use Rattle.actx_parse.specs.declared.parse.ParseFault.TheVariants as fault

-- it is the machine's refusal; want of memory says nothing
abbrev pub IsTold : Side → List Lexeme → ParseFault → Type 0
IsTold side ts (fault.Unexpected i) = parse side ts ≡ refused i unexpected
IsTold side ts (fault.TooDeep i) = parse side ts ≡ refused i too_deep
IsTold side ts (fault.TooMany i) = parse side ts ≡ refused i too_many
IsTold side ts fault.NoMemory = Unit {0}

-- something holds of the token that is refused
abbrev pub RefusesAt : (ℕ → Type 0) → ParseFault → Type 0
RefusesAt P (fault.Unexpected i) = P i
RefusesAt P (fault.TooDeep i) = P i
RefusesAt P (fault.TooMany i) = P i
RefusesAt P fault.NoMemory = Unit {0}

-- it names the first token with which no program within the limits goes on, or the end, and its reason
abbrev pub StopsFirst : Side → List Lexeme → ParseFault → Type 0
StopsFirst side ts (fault.Unexpected i) = IsFirst side ts i × IsReason side ts i unexpected
StopsFirst side ts (fault.TooDeep i) = IsFirst side ts i × IsReason side ts i too_deep
StopsFirst side ts (fault.TooMany i) = IsFirst side ts i × IsReason side ts i too_many
StopsFirst side ts fault.NoMemory = Unit {0}

-- the numbers of the first tokens of a program's nodes, in the order of the nodes
abbrev pub ArePlaces : Side → Stmts → List Lexeme → List ℕ → Type 0
ArePlaces side p ts places = (d : IsSpelled side p ts) → places ≡ stmts_places 0 d
