-- Parts of programs that were read so far: lists with their last comma, and what stands before the rest.
use Rattle.std.proofs.Common.{◌≡◌, ℕ, suc, ◌+◌, ◌≤◌, List, [], ◌∷◌, ◌++◌, length, Bool, true, Option, Some, None}
use Rattle.actx_grammar.specs.declared.operators.FunctionKind.{FunctionKind}
use Rattle.actx_grammar.specs.declared.operators.LogicOp.{LogicOp}
use Rattle.actx_grammar.specs.declared.operators.LogicOp.TheVariants.{And, Or, Coalesce}
use Rattle.actx_grammar.specs.declared.side.Side.{Side}
use Rattle.actx_grammar.specs.declared.token.Keyword.TheVariants as k
use Rattle.actx_grammar.specs.declared.token.Sign.TheVariants as g
use Rattle.actx_grammar.specs.declared.token.TokenKind.TheVariants as t
use Rattle.actx_grammar.specs.Grammar.{Allows, IsBody, StartsStatement, StartsBody, SpellsNames, Spells, SpellsOr, SpellsCoalesce, SpellsList, SpellsSome, SpellsLets, SpellsConsts, SpellsMethodHead, KeyFollows, SpellsStmts}
use Rattle.actx_grammar.specs.Lexemes.{Lexeme, sign, keyword, lexeme, SameLine}
use Rattle.actx_grammar.specs.ParserOperands.{begins_statement}
use Rattle.actx_grammar.specs.ParserState.{Limits, fits, Frame, in_arrow, in_yield, in_value, in_return, in_throw, in_list, levels}
use Rattle.actx_grammar.specs.Tree.{Expr, Logic, Exprs, none, Properties, no_properties, LetItems, no_lets, ConstItems, no_consts, Stmt, Stmts, Clauses, no_clauses, clause}
use Rattle.actx_grammar.specs.Words.{greatest_number}

-- what is n deep here reaches no further than this, which is within the limits
pub record Deep (lim : Limits) (n : ℕ) (s : List Frame) (r : ℕ) : Type 0 where
  pub reach : n + levels s ≤ r
  pub within : fits lim r ≡ true

-- FIRST TOKENS
-- how an operand here begins
abbrev pub Well : List Frame → List Lexeme → Type 0
Well (in_value ∷ s) x = StartsStatement x
Well (in_arrow kind xs ∷ s) x = StartsBody x
Well (in_return ∷ s) x = SameLine x
Well (in_throw ∷ s) x = SameLine x
Well (in_yield ∷ s) x = SameLine x
Well _ x = Unit {0}

-- whatever follows
abbrev pub Starts : List Frame → List Lexeme → Type 0
Starts s x = (y : List Lexeme) → Well s (x ++ y)

-- this token may begin one, as long as no statement begins so
abbrev pub May : List Frame → Lexeme → Type 0
May s w = (y : List Lexeme) → (begins_statement s ≡ true → StartsStatement (w ∷ y)) → Well s (w ∷ y)

-- STATEMENTS
-- a declaration stands in a list alone
abbrev pub AsBody : List Frame → Stmt → Type 0
AsBody (in_list owner ss r ∷ s) st = Unit {0}
AsBody _ st = IsBody st

abbrev pub InList : List Frame → Type 0
InList (in_list owner ss r ∷ s) = Unit {0}
InList _ = ⊥

-- LISTS SO FAR, EACH ENTRY WITH ITS COMMA
pub data Begun (side : Side) (most : Option ℕ) : ℕ → Exprs → List Lexeme → Type 0 where
  none_begun : {n : ℕ} → Begun side most n none []
  all_begun : {n : ℕ} {es : Exprs} {x : List Lexeme} (b : Bool) → SpellsList side most n es x → Begun side most n es (x ++ sign g.Comma b ∷ [])

pub data BegunProperties (side : Side) (most : Option ℕ) : ℕ → Properties → List Lexeme → Type 0 where
  none_begun_properties : {n : ℕ} → BegunProperties side most n no_properties []
  all_begun_properties : {n : ℕ} {ps : Properties} {x : List Lexeme} (b : Bool) → SpellsSome side most n ps x → BegunProperties side most n ps (x ++ sign g.Comma b ∷ [])

pub data BegunLets (side : Side) (most : Option ℕ) : ℕ → LetItems → List Lexeme → Type 0 where
  none_begun_lets : {n : ℕ} → BegunLets side most n no_lets []
  all_begun_lets : {n : ℕ} {is : LetItems} {x : List Lexeme} (b : Bool) → SpellsLets side most n is x → BegunLets side most n is (x ++ sign g.Comma b ∷ [])

pub data BegunConsts (side : Side) (most : Option ℕ) : ℕ → ConstItems → List Lexeme → Type 0 where
  none_begun_consts : {n : ℕ} → BegunConsts side most n no_consts []
  all_begun_consts : {n : ℕ} {is : ConstItems} {x : List Lexeme} (b : Bool) → SpellsConsts side most n is x → BegunConsts side most n is (x ++ sign g.Comma b ∷ [])

pub data BegunNames (side : Side) (most : Option ℕ) : List (List ℕ) → List Lexeme → Type 0 where
  none_begun_names : BegunNames side most [] []
  all_begun_names : {xs : List (List ℕ)} {x : List Lexeme} (b : Bool) → SpellsNames side xs x → Allows most (length xs) → BegunNames side most xs (x ++ sign g.Comma b ∷ [])

-- clauses with numbers
pub data Cases (side : Side) (most : Option ℕ) : ℕ → Clauses → List Lexeme → Type 0 where
  no_cases : {n : ℕ} → Cases side most n no_clauses []
  one_case : {n m : ℕ} {ss : Stmts} {cs : Clauses} {x y : List Lexeme} (b c f : Bool) → m ≤ greatest_number → SpellsStmts side most n ss x → Cases side most n cs y → Cases side most n (clause (Some m) ss cs) (keyword k.Case b ∷ lexeme (t.Number m) c ∷ sign g.Colon f ∷ (x ++ y))

-- OPERANDS ON THE LEFT
pub data LeftOr (side : Side) (most : Option ℕ) : ℕ → Expr → List Lexeme → Type 0 where
  left_or : {n : ℕ} {e : Expr} {x : List Lexeme} → Spells side most 4 n e x → LeftOr side most n e x
  left_ors : {n : ℕ} {e f : Expr} {x : List Lexeme} → SpellsOr side most n e f x → LeftOr side most (suc n) (Logic Or e f) x

pub data LeftCoalesce (side : Side) (most : Option ℕ) : ℕ → Expr → List Lexeme → Type 0 where
  left_coalesce : {n : ℕ} {e : Expr} {x : List Lexeme} → Spells side most 5 n e x → LeftCoalesce side most n e x
  left_coalesces : {n : ℕ} {e f : Expr} {x : List Lexeme} → SpellsCoalesce side most n e f x → LeftCoalesce side most (suc n) (Logic Coalesce e f) x

abbrev pub Left : Side → Option ℕ → LogicOp → ℕ → Expr → List Lexeme → Type 0
Left side most And n e x = Spells side most 4 n e x
Left side most Or n e x = LeftOr side most n e x
Left side most Coalesce n e x = LeftCoalesce side most n e x

-- what stands before the bracket of a computed key
pub data Opening (side : Side) : Option FunctionKind → Bool → List Lexeme → Type 0 where
  opening_key : {c : Bool} → Opening side None c []
  opening_method : {kind : FunctionKind} {c : Bool} {w : List Lexeme} → SpellsMethodHead side kind w → KeyFollows kind (sign g.OpenBracket c ∷ []) → Opening side (Some kind) c w
