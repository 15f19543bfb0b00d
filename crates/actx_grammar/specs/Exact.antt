-- What the parser's machine promises: it answers exactly the program that tokens spell, and refuses only a token with which
-- no program goes on.
use Rattle.std.specs.Prelude.{◌≡◌, ℕ, suc, ◌<◌, ◌≤◌, Option, None, List, ◌++◌, length, take, All}
use Rattle.actx_grammar.specs.declared.side.Side.{Side}
use Rattle.actx_grammar.specs.Grammar.{deepest, most, SpellsStmts, IsSpelled}
use Rattle.actx_grammar.specs.Lexemes.{Lexeme}
use Rattle.actx_grammar.specs.Parser.{parse, parsed, refused, Reason, unexpected, too_deep, too_many}
use Rattle.actx_grammar.specs.Tree.{Stmts}
use Rattle.actx_grammar.specs.Words.{HasForm}

-- the tokens begin some program's spelling within a bound on lists and a depth
pub record Begins (side : Side) (bound : Option ℕ) (depth : ℕ) (ts : List Lexeme) : Type 0 where
  pub program : Stmts
  pub rest : List Lexeme
  pub spelled : SpellsStmts side bound depth program (ts ++ rest)

-- within the limits of the side
abbrev pub BeginsWithin : Side → List Lexeme → Type 0
BeginsWithin side ts = Begins side (most side) (deepest side) ts

-- the tokens up to and with number i; the end counts as one that no program has
abbrev pub UpTo : (List Lexeme → Type 0) → ℕ → List Lexeme → Type 0
UpTo goes_on i ts = i < length ts × goes_on (take (suc i) ts)

-- the tokens have their kinds' forms, as those of a lexer do
abbrev pub InForm : List Lexeme → Type 0
InForm ts = All (λ t. HasForm t.kind) ts

-- LAWS
abbrev pub ParsesWhatIsSpelled : Type 0
ParsesWhatIsSpelled = (side : Side) (p : Stmts) (ts : List Lexeme) → IsSpelled side p ts → parse side ts ≡ parsed p

abbrev pub SpellsWhatIsParsed : Type 0
SpellsWhatIsParsed = (side : Side) (p : Stmts) (ts : List Lexeme) → InForm ts → parse side ts ≡ parsed p → IsSpelled side p ts

-- where it refuses a token, no program within the limits goes on with it, and none has the tokens alone
abbrev pub NothingGoesOn : Type 0
NothingGoesOn = (side : Side) (ts : List Lexeme) (i : ℕ) (why : Reason) → parse side ts ≡ refused i why → (UpTo (BeginsWithin side) i ts → ⊥) × ((p : Stmts) → IsSpelled side p ts → ⊥)

-- and for its reason: unexpected, none goes on at any depth with lists of any length; too deep, none within the depth does
abbrev pub RefusesForItsReason : Type 0
RefusesForItsReason = (side : Side) (ts : List Lexeme) (i : ℕ) →
    (parse side ts ≡ refused i unexpected → (depth : ℕ) → UpTo (Begins side None depth) i ts → ⊥)
    × (parse side ts ≡ refused i too_deep → UpTo (Begins side None (deepest side)) i ts → ⊥)

-- token i is the first with which no program within the limits goes on; the end is where none ends
pub record IsFirst (side : Side) (ts : List Lexeme) (i : ℕ) : Type 0 where
  pub within : i ≤ length ts
  pub before : BeginsWithin side (take i ts)
  pub stops : UpTo (BeginsWithin side) i ts → ⊥
  pub whole : i ≡ length ts → (p : Stmts) → IsSpelled side p ts → ⊥

-- why: none goes on at any depth with lists of any length; or one does only with longer lists; or only deeper
abbrev pub IsReason : Side → List Lexeme → ℕ → Reason → Type 0
IsReason side ts i unexpected = (depth : ℕ) → UpTo (Begins side None depth) i ts → ⊥
IsReason side ts i too_many = UpTo (Begins side None (deepest side)) i ts
IsReason side ts i too_deep = ((depth : ℕ) × UpTo (Begins side None depth) i ts) × (UpTo (Begins side None (deepest side)) i ts → ⊥)

-- what it refuses is the first such token, and for its reason
abbrev pub RefusesFirst : Type 0
RefusesFirst = (side : Side) (ts : List Lexeme) (i : ℕ) (why : Reason) → InForm ts → parse side ts ≡ refused i why → IsFirst side ts i × IsReason side ts i why
