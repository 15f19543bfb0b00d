-- The machine's run without its count of tokens, and how far what is read reaches.
use Rattle.std.proofs.Common.{◌≡◌, ℕ, suc, ◌≤◌, List, [], ◌∷◌, Bool, true, Option, Some, None, ap, arith}
use Rattle.actx_grammar.specs.declared.side.Side.{Side}
use Rattle.actx_grammar.specs.Lexemes.{Lexeme}
use Rattle.actx_grammar.specs.ParserState.{Limits, fits, Frame, Mode, Move, refuse, go, go_if}
use Rattle.actx_grammar.specs.Parser.{step, finish, reason, Outcome, parsed, refused, finished, carry, limits, run}
use Rattle.actx_grammar.specs.Tree.{Stmts}

-- what a move leads to
abbrev pub led : Move → (Mode → List Frame → Option Stmts) → Option Stmts
led refuse on = None
led (go m s) on = on m s

abbrev pub runs : Limits → Side → Mode → List Frame → List Lexeme → Option Stmts
runs lim side m s [] = finish m s
runs lim side m s (t ∷ ts) = led (step lim side m s t) (λ n u. runs lim side n u ts)

-- what a move leads to on the tokens behind it
abbrev pub after : Limits → Side → List Lexeme → Move → Option Stmts
after lim side ts m = led m (λ n u. runs lim side n u ts)

-- the whole parser does the same
counted_move : (side : Side) (k : ℕ) (ts : List Lexeme) (p : Stmts) (other : Outcome) (v : Move) → ((m : Mode) (s : List Frame) → runs (limits side) side m s ts ≡ Some p → run side k m s ts ≡ parsed p)
    → after (limits side) side ts v ≡ Some p → carry v (λ m s. run side k m s ts) other ≡ parsed p
counted_move side k ts p other refuse on h = absurd (cc)
counted_move side k ts p other (go m s) on h = on m s h

pub counted : (side : Side) (k : ℕ) (m : Mode) (s : List Frame) (ts : List Lexeme) (p : Stmts) → runs (limits side) side m s ts ≡ Some p → run side k m s ts ≡ parsed p
counted side k m s [] p h = ap (finished k) h
counted side k m s (t ∷ ts) p h =
    counted_move side (suc k) ts p (refused k (reason side m s t)) (step (limits side) side m s t) (λ n u q. counted side (suc k) n u ts p q) h

-- a run comes, at some reach within a bound, to another one
pub record Gives (from : Option Stmts) (bound : ℕ) (to : ℕ → Option Stmts) : Type 0 where
  pub reach : ℕ
  pub within : reach ≤ bound
  pub same : from ≡ to reach

-- all depths up to this one are within the limits
abbrev pub Fit : Limits → ℕ → Type 0
Fit lim k = (n : ℕ) → n ≤ k → fits lim n ≡ true

pub fit_less : (lim : Limits) {j k : ℕ} → Fit lim k → j ≤ k → Fit lim j
fit_less lim f h n i = f n (omega arith)

-- a condition that holds
pub if_holds : (lim : Limits) (side : Side) (b : Bool) (m : Mode) (s : List Frame) (r : List Lexeme) → b ≡ true → after lim side r (go_if b m s) ≡ runs lim side m s r
if_holds lim side b m s r h = ap (λ c. after lim side r (go_if c m s)) h
