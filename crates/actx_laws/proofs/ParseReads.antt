-- What it is that the machine reads a part of a program, over whatever is open.
use Rattle.std.proofs.Common.{◌≡◌, ℕ, suc, max, ◌+◌, ◌≤◌, List, [], ◌∷◌, ◌++◌, Bool, true, refl, arith}
use Rattle.actx_grammar.specs.declared.operators.LogicOp.{LogicOp}
use Rattle.actx_grammar.specs.declared.side.Side.{Side}
use Rattle.actx_grammar.specs.declared.token.Keyword.TheVariants as k
use Rattle.actx_grammar.specs.declared.token.Sign.TheVariants as g
use Rattle.actx_grammar.specs.declared.token.TokenKind.{TokenKind}
use Rattle.actx_grammar.specs.declared.token.TokenKind.TheVariants as t
use Rattle.actx_grammar.specs.Grammar.{count, ends_open}
use Rattle.actx_grammar.specs.Lexemes.{Lexeme, sign}
use Rattle.actx_grammar.specs.Parser.{move}
use Rattle.actx_grammar.specs.ParserState.{Limits, role_levels, ListOwner, program, body, Frame, in_logic, in_value, in_list, Mode, start, have_stmt, need, have, have_member, go, levels}
use Rattle.actx_grammar.specs.Tree.{Expr, Exprs, none, Key, Stmt, Stmts, end, next}
use Rattle.actx_laws.proofs.ParseBegins.{start_left}
use Rattle.actx_laws.proofs.ParseHeld.{Holder, holds, made, Takes, Closes, list_sign, list_go}
use Rattle.actx_laws.proofs.ParseLevels.{level_in, binds}
use Rattle.actx_laws.proofs.ParseRuns.{runs, after, Gives, Fit, fit_less}
use Rattle.actx_laws.proofs.ParseSteps.{Starts, Room}

-- EXPRESSIONS
abbrev pub Operand : Limits → Side → ℕ → ℕ → Expr → List Lexeme → Type 0
Operand lim side l d e x = (s : List Frame) (r : List Lexeme) → level_in s ≤ l → binds r ≤ l → Room lim d s x → Gives (runs lim side need s (x ++ r)) (d + levels s) (λ n. runs lim side (have e n) s r)

-- a chain of || or of ??: its last operand is held, and its last operator open
pub record Chained (lim : Limits) (side : Side) (op : LogicOp) (d : ℕ) (e f : Expr) (ts : List Lexeme) (s : List Frame) (r : List Lexeme) : Type 0 where
  pub left : ℕ
  pub right : ℕ
  pub left_within : left ≤ suc (d + levels s)
  pub right_within : right ≤ suc (d + levels s)
  pub same : runs lim side need s ts ≡ runs lim side (have f right) (in_logic op e left ∷ s) r

abbrev pub ReadsChain : Limits → Side → LogicOp → ℕ → ℕ → Expr → Expr → List Lexeme → Type 0
ReadsChain lim side op l d e f x = (s : List Frame) (r : List Lexeme) → level_in s ≤ 3 → binds r ≤ l → Room lim (suc d) s x → Chained lim side op d e f (x ++ r) s r

abbrev pub ReadsKey : Limits → Side → ℕ → Key → List Lexeme → Type 0
ReadsKey lim side d key y = (e : Expr) (n : ℕ) (s : List Frame) (r : List Lexeme) → n ≤ d + levels s → Fit lim (suc (d + levels s)) → Gives (runs lim side (have e n) s (y ++ r)) (suc (d + levels s)) (λ k. runs lim side (have_member e key k) s r)

abbrev pub ReadsArguments : Limits → Side → ℕ → Exprs → List Lexeme → Type 0
ReadsArguments lim side d es y = (m : Mode) (h : Holder) (n : ℕ) (s : List Frame) (r : List Lexeme) → ((b : Bool) → move lim side m s (t.Sign g.OpenParen) b ≡ go need (holds h none n ∷ s)) → Takes lim h (count es) → Closes h (count es) → n ≤ suc (d + levels s) → Fit lim (suc (d + levels s))
    → Gives (runs lim side m s (y ++ r)) (suc (d + levels s)) (λ k. runs lim side (have (made h es) k) s r)

abbrev pub ReadsList : Limits → Side → ℕ → Exprs → List Lexeme → Type 0
ReadsList lim side d es x = (more b : Bool) (h : Holder) (n : ℕ) (s : List Frame) (r : List Lexeme) → Takes lim h (count es) → n ≤ suc (d + levels s) → Fit lim (suc (d + levels s))
    → Gives (runs lim side need (holds h none n ∷ s) (x ++ sign (list_sign more) b ∷ r)) (suc (d + levels s)) (λ k. after lim side r (list_go more h es k s))

-- STATEMENTS
-- what may stand behind a statement: no finally, and no else where that would belong to it
abbrev pub BehindKind : Bool → TokenKind → Type 0
BehindKind ends (t.Keyword k.Finally) = ⊥
BehindKind true (t.Keyword k.Else) = ⊥
BehindKind ends _ = Unit {0}

abbrev pub Behind : Bool → List Lexeme → Type 0
Behind ends [] = Unit {0}
Behind ends (w ∷ r) = BehindKind ends w.kind

-- how many levels a list makes
abbrev pub owner_levels : ListOwner → ℕ
owner_levels program = 0
owner_levels (body h xs) = role_levels h
owner_levels _ = 1

pub list_levels : (owner : ListOwner) (ss : Stmts) (n : ℕ) (s : List Frame) → levels (in_list owner ss n ∷ s) ≡ owner_levels owner + levels s
list_levels program ss n s = refl
list_levels (body h xs) ss n s = refl
list_levels _ ss n s = refl

-- one list of statements behind another
abbrev pub joined : Stmts → Stmts → Stmts
joined end q = q
joined (next st ss) q = next st (joined ss q)

abbrev pub ReadsStmt : Limits → Side → Mode → ℕ → Stmt → List Lexeme → Type 0
ReadsStmt lim side m d st x = (s : List Frame) (r : List Lexeme) → Behind (ends_open st) r → Fit lim (d + levels s) → Gives (runs lim side m s (x ++ r)) (d + levels s) (λ n. runs lim side (have_stmt st n) s r)

abbrev pub ReadsStmts : Limits → Side → ℕ → Stmts → List Lexeme → Type 0
ReadsStmts lim side d ss x = (owner : ListOwner) (bs : Stmts) (n : ℕ) (s : List Frame) (r : List Lexeme) → Behind true r → Fit lim (d + (owner_levels owner + levels s))
    → Gives (runs lim side start (in_list owner bs n ∷ s) (x ++ r)) (max n (d + (owner_levels owner + levels s))) (λ k. runs lim side start (in_list owner (joined bs ss) k ∷ s) r)

-- PLACES
starts_left : (s : List Frame) (x y : List Lexeme) → Starts s (x ++ y) → Starts s x
starts_left (in_value ∷ s) x y h = start_left x y h
starts_left [] x y h = tt
starts_left (_ ∷ s) x y h = tt

-- the first part of a form stands where that stands
pub left : (lim : Limits) (d : ℕ) (s : List Frame) (x y : List Lexeme) → Room lim (suc d) s (x ++ y) → Room lim d s x
left lim d s x y m = record { deep = fit_less lim m.deep (omega arith); more = m.more; starts = starts_left s x y m.starts }
