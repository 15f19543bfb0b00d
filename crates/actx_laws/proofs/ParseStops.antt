-- Where the parser refuses, no program within the limits goes on.
use Rattle.std.proofs.Common.{◌≡◌, ℕ, zero, suc, ◌+◌, ◌≤◌, ◌<◌, List, [], ◌∷◌, ◌++◌, length, Option, Some, None, sym, ◌∙◌, arith}
use Rattle.std.specs.Prelude.{take}
use Rattle.actx_grammar.specs.declared.side.Side.{Side}
use Rattle.actx_grammar.specs.Exact.{BeginsWithin, UpTo}
use Rattle.actx_grammar.specs.Grammar.{IsSpelled}
use Rattle.actx_grammar.specs.Lexemes.{Lexeme}
use Rattle.actx_grammar.specs.Parser.{step, finish, Reason, reason, parsed, refused, finished, carry, limits, run, parse}
use Rattle.actx_grammar.specs.ParserState.{Frame, program, in_list, Mode, start, Move, refuse, go}
use Rattle.actx_grammar.specs.Tree.{Stmts, end}
use Rattle.actx_laws.proofs.ParseAll.{reads_within, parses}
use Rattle.actx_laws.proofs.ParseRuns.{runs, after}

-- the number of the token that is refused is no less than that of the first
finished_at : (k i : ℕ) (why : Reason) (o : Option Stmts) → finished k o ≡ refused i why → k ≤ i
finished_at k i why None h = let q : k ≡ i = cc in omega arith
finished_at k i why (Some p) h = absurd (cc)

moved_at : (side : Side) (k i : ℕ) (why c : Reason) (ts : List Lexeme) (v : Move) → ((n : Mode) (u : List Frame) → run side (suc k) n u ts ≡ refused i why → suc k ≤ i) → carry v (λ n u. run side (suc k) n u ts) (refused k c) ≡ refused i why → k ≤ i
moved_at side k i why c ts refuse on h = let q : k ≡ i = cc in omega arith
moved_at side k i why c ts (go n u) on h = let q : suc k ≤ i = on n u h in omega arith

pub refused_at : (side : Side) (k : ℕ) (m : Mode) (s : List Frame) (ts : List Lexeme) (i : ℕ) (why : Reason) → run side k m s ts ≡ refused i why → k ≤ i
refused_at side k m s [] i why h = finished_at k i why (finish m s) h
refused_at side k m s (t ∷ ts) i why h = moved_at side k i why (reason side m s t) ts (step (limits side) side m s t) (λ n u q. refused_at side (suc k) n u ts i why q) h

-- no program has the tokens up to the one that is refused
stops_move : (side : Side) (k i j : ℕ) (why c : Reason) (ts rest : List Lexeme) (p : Stmts) (v : Move) → i ≡ k + suc j → ((n : Mode) (u : List Frame) → run side (suc k) n u ts ≡ refused i why → runs (limits side) side n u (take (suc j) ts ++ rest) ≡ Some p → ⊥)
    → carry v (λ n u. run side (suc k) n u ts) (refused k c) ≡ refused i why → after (limits side) side (take (suc j) ts ++ rest) v ≡ Some p → ⊥
stops_move side k i j why c ts rest p refuse e on h w = cc
stops_move side k i j why c ts rest p (go n u) e on h w = on n u h w

stops_here : (side : Side) (k i : ℕ) (why c : Reason) (ts rest : List Lexeme) (p : Stmts) (v : Move) → i ≡ k → ((n : Mode) (u : List Frame) → run side (suc k) n u ts ≡ refused i why → suc k ≤ i)
    → carry v (λ n u. run side (suc k) n u ts) (refused k c) ≡ refused i why → after (limits side) side rest v ≡ Some p → ⊥
stops_here side k i why c ts rest p refuse e on h w = cc
stops_here side k i why c ts rest p (go n u) e on h w = let q : suc k ≤ i = on n u h in absurd (omega arith)

stops_run : (side : Side) (k : ℕ) (m : Mode) (s : List Frame) (ts : List Lexeme) (i j : ℕ) (why : Reason) (rest : List Lexeme) (p : Stmts) → run side k m s ts ≡ refused i why → i ≡ k + j → j < length ts → runs (limits side) side m s (take (suc j) ts ++ rest) ≡ Some p → ⊥
stops_run side k m s [] i j why rest p h e l w = absurd (omega arith)
stops_run side k m s (t ∷ ts) i zero why rest p h e l w =
    stops_here side k i why (reason side m s t) ts rest p (step (limits side) side m s t) (omega arith) (λ n u q. refused_at side (suc k) n u ts i why q) h w
stops_run side k m s (t ∷ ts) i (suc j) why rest p h e l w =
    stops_move side k i j why (reason side m s t) ts rest p (step (limits side) side m s t) e (λ n u q y. stops_run side (suc k) n u ts i j why rest p q (omega arith) (omega arith) y) h w

pub stops : (side : Side) (ts : List Lexeme) (i : ℕ) (why : Reason) → parse side ts ≡ refused i why → UpTo (BeginsWithin side) i ts → ⊥
stops side ts i why h w = stops_run side 0 start (in_list program end 0 ∷ []) ts i i why w.1.rest w.1.program h (omega arith) w.0 (reads_within side w.1.program (take (suc i) ts ++ w.1.rest) w.1.spelled)

-- and none has the tokens alone
pub refused_whole : (side : Side) (ts : List Lexeme) (i : ℕ) (why : Reason) → parse side ts ≡ refused i why → (p : Stmts) → IsSpelled side p ts → ⊥
refused_whole side ts i why h p q = let e : parsed p ≡ refused i why = sym (parses side p ts q) ∙ h in cc
