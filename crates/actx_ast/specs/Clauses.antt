-- Clauses of a switch: where a default stands, and what each of them has.
use Rattle.std.specs.Prelude.{ℕ, ◌≤◌, Option, Some, None}
use Rattle.actx_grammar.specs.declared.side.Side.{Side}
use Rattle.actx_grammar.specs.Sides.{StmtsOn}
use Rattle.actx_grammar.specs.Tree.{Clauses, no_clauses, clause}
use Rattle.actx_grammar.specs.Words.{greatest_number}

-- a default stands last
abbrev pub DefaultLast : Clauses → Type 0
DefaultLast no_clauses = Unit {0}
DefaultLast (clause (Some n) ss cs) = DefaultLast cs
DefaultLast (clause None ss no_clauses) = Unit {0}
DefaultLast (clause None ss (clause n rs cs)) = ⊥

-- a number of a clause that is written, or none
abbrev pub IsNumber : Option ℕ → Type 0
IsNumber None = Unit {0}
IsNumber (Some n) = n ≤ greatest_number

-- each clause is of the side, wherever it stands
abbrev pub EachOn : Side → Clauses → Type 0
EachOn side no_clauses = Unit {0}
EachOn side (clause n ss cs) = IsNumber n × StmtsOn side ss × EachOn side cs
