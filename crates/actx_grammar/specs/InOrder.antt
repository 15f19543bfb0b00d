-- Every node of a program has its place in the text, and a program's offences stand in the order of their nodes.
use Rattle.std.specs.Prelude.{◌≡◌, ℕ, ◌<◌, Option, List, [], ◌∷◌, length, All}
use Rattle.actx_grammar.specs.declared.side.Side.{Side}
use Rattle.actx_grammar.specs.Grammar.{SpellsStmts}
use Rattle.actx_grammar.specs.Lexemes.{Lexeme}
use Rattle.actx_grammar.specs.Nodes.{stmts_nodes}
use Rattle.actx_grammar.specs.Places.{stmts_places}
use Rattle.actx_grammar.specs.Static.{Offence, offences}
use Rattle.actx_grammar.specs.Tree.{Stmts}

-- each node is less than those behind it, so that the first is the least, and none comes twice
abbrev pub Ascending : List Offence → Type 0
Ascending [] = Unit {0}
Ascending (o ∷ os) = All (λ q. o.node < q.node) os × Ascending os

-- LAWS
-- there is a place for each node, whatever the tokens that spell the program
abbrev pub EveryNodeHasAPlace : Type 0
EveryNodeHasAPlace = (side : Side) (most : Option ℕ) (d n : ℕ) (p : Stmts) (ts : List Lexeme) (h : SpellsStmts side most d p ts) → length (stmts_places n h) ≡ stmts_nodes p

-- an offence's node is one of the program's, and no two offences share one
abbrev pub OffencesAreInOrder : Type 0
OffencesAreInOrder = (p : Stmts) → All (λ o. o.node < stmts_nodes p) (offences p) × Ascending (offences p)
