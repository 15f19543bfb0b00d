-- What has arguments takes one more, or ends.
use Rattle.std.proofs.Common.{◌≡◌, ℕ, suc, max, ◌+◌, ◌≤◌, List, ◌∷◌, Bool, true, false, None, refl, sym, ap, arith}
use Rattle.std.specs.Prelude.{nat_le}
use Rattle.actx_grammar.specs.declared.operators.Form.{Form}
use Rattle.actx_grammar.specs.declared.operators.Form.TheVariants.{CallWith}
use Rattle.actx_grammar.specs.declared.side.Side.{Side}
use Rattle.actx_grammar.specs.declared.token.Sign.{Sign}
use Rattle.actx_grammar.specs.declared.token.Sign.TheVariants as g
use Rattle.actx_grammar.specs.Grammar.{count, Allows, with_last}
use Rattle.actx_grammar.specs.Lexemes.{Lexeme, sign}
use Rattle.actx_grammar.specs.ParserOperands.{most_parts, suits, close_arguments}
use Rattle.actx_grammar.specs.ParserState.{Limits, at_most, takes_more, Frame, in_call, in_form, need, have, Move, go, go_if, levels}
use Rattle.actx_grammar.specs.Tree.{Expr, Call, Built, Exprs, also}
use Rattle.actx_laws.proofs.ParseLevels.{level_in}
use Rattle.actx_laws.proofs.ParseNames.{allowed, allows_less, at_most_less, count_last, le_true, both}
use Rattle.actx_laws.proofs.ParseRuns.{runs, after, Fit, fit_less, if_holds}
use Rattle.actx_laws.proofs.ParseSteps.{Room}

pub data Holder : Type 0 where
  of_call : (f : Expr) → Holder
  of_form : (form : Form) → Holder
  of_call_with : (f : Expr) → Holder

abbrev pub holds : Holder → Exprs → ℕ → Frame
holds (of_call f) es n = in_call f es n
holds (of_form form) es n = in_form form es n
holds (of_call_with f) es n = in_form CallWith (also f es) n

abbrev pub made : Holder → Exprs → Expr
made (of_call f) es = Call f es
made (of_form form) es = Built form es
made (of_call_with f) es = Built CallWith (also f es)

-- so many arguments may stand in it
abbrev pub Takes : Limits → Holder → ℕ → Type 0
Takes lim (of_call f) n = Allows lim.most n
Takes lim (of_form form) n = Allows lim.most n × (at_most (most_parts form) n ≡ true)
Takes lim (of_call_with f) n = lim.most ≡ None

-- it may end behind so many
abbrev pub Closes : Holder → ℕ → Type 0
Closes (of_form form) n = suits form n ≡ true
Closes _ n = Unit {0}

pub takes_less : (lim : Limits) (h : Holder) (m n : ℕ) → m ≤ n → Takes lim h n → Takes lim h m
takes_less lim (of_call f) m n i k = allows_less lim.most m n i k
takes_less lim (of_form form) m n i k = (allows_less lim.most m n i k.0, at_most_less (most_parts form) m n i k.1)
takes_less lim (of_call_with f) m n i k = k

pub held_levels : (h : Holder) (es : Exprs) (n : ℕ) (s : List Frame) → levels (holds h es n ∷ s) ≡ suc (levels s)
held_levels (of_call f) es n s = omega arith
held_levels (of_form form) es n s = omega arith
held_levels (of_call_with f) es n s = omega arith

pub held_level : (h : Holder) (es : Exprs) (n : ℕ) (s : List Frame) → level_in (holds h es n ∷ s) ≡ 1
held_level (of_call f) es n s = refl
held_level (of_form form) es n s = refl
held_level (of_call_with f) es n s = refl

-- one argument more has room
pub held_room : (lim : Limits) (h : Holder) (es : Exprs) (n d : ℕ) (s : List Frame) (x : List Lexeme) → Fit lim (d + suc (levels s)) → Takes lim h (suc (count es)) → Room lim d (holds h es n ∷ s) x
held_room lim (of_call f) es n d s x i k = record { deep = fit_less lim i (omega arith); more = allowed lim.most (suc (count es)) k; starts = tt }
held_room lim (of_form form) es n d s x i k =
    record { deep = fit_less lim i (omega arith); more = both (takes_more lim (count es)) (at_most (most_parts form) (suc (count es))) (allowed lim.most (suc (count es)) k.0) k.1; starts = tt }
held_room lim (of_call_with f) es n d s x i k =
    record { deep = fit_less lim i (omega arith); more = both (takes_more lim (suc (count es))) true (ap (λ o. at_most o (suc (suc (count es)))) k) refl; starts = tt }

-- behind an argument the list goes on, or ends
abbrev pub list_sign : Bool → Sign
list_sign true = g.Comma
list_sign false = g.CloseParen

abbrev pub list_go : Bool → Holder → Exprs → ℕ → List Frame → Move
list_go true h es n s = go need (holds h es n ∷ s)
list_go false h es n s = close_arguments (holds h es n ∷ s)

pub held_next : (lim : Limits) (side : Side) (more b : Bool) (h : Holder) (es : Exprs) (e : Expr) (m n : ℕ) (s : List Frame) (r : List Lexeme)
    → runs lim side (have e n) (holds h es m ∷ s) (sign (list_sign more) b ∷ r) ≡ after lim side r (list_go more h (with_last es e) (max m n) s)
held_next lim side true b (of_call f) es e m n s r = refl
held_next lim side true b (of_form form) es e m n s r = refl
held_next lim side true b (of_call_with f) es e m n s r = refl
held_next lim side false b (of_call f) es e m n s r = refl
held_next lim side false b (of_form form) es e m n s r =
    ap (λ j. after lim side r (go_if (suits form j) (have (Built form (with_last es e)) (max m n)) s)) (sym (count_last es e))
held_next lim side false b (of_call_with f) es e m n s r =
    ap (λ j. after lim side r (go_if (suits CallWith (suc j)) (have (Built CallWith (also f (with_last es e))) (max m n)) s)) (sym (count_last es e))

pub held_closes : (lim : Limits) (side : Side) (h : Holder) (es : Exprs) (n : ℕ) (s : List Frame) (r : List Lexeme) → Closes h (count es) → after lim side r (close_arguments (holds h es n ∷ s)) ≡ runs lim side (have (made h es) n) s r
held_closes lim side (of_call f) es n s r k = refl
held_closes lim side (of_form form) es n s r k = if_holds lim side (suits form (count es)) (have (Built form es) n) s r k
held_closes lim side (of_call_with f) es n s r k =
    if_holds lim side (suits CallWith (suc (count es))) (have (Built CallWith (also f es)) n) s r (both (nat_le 1 (suc (count es))) true (le_true 1 (suc (count es)) (omega arith)) refl)
