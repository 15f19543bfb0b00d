-- What is parsed is spelled.
use Rattle.std.proofs.Common.{◌≡◌, ℕ, suc, ◌≤◌, List, [], ◌∷◌, ◌++◌, true, Option, Some, None, refl, sym, subst, arith, append_assoc}
use Rattle.std.proofs.lemmas.List.{append-nil}
use Rattle.std.proofs.lemmas.List.Elements.{recursion_from_All}
use Rattle.std.specs.List.{AllByRecursion}
use Rattle.actx_grammar.specs.declared.side.Side.{Side}
use Rattle.actx_grammar.specs.declared.side.Side.TheVariants.{Source, Plain}
use Rattle.actx_grammar.specs.Exact.{SpellsWhatIsParsed}
use Rattle.actx_grammar.specs.Grammar.{deepest, SpellsStmts, IsSpelled, sp_end}
use Rattle.actx_grammar.specs.Lexemes.{Lexeme}
use Rattle.actx_grammar.specs.Parser.{step, finish, finish_standing, settle_stmt, Standing, standing, parsed, refused, finished, carry, limits, run, reason}
use Rattle.actx_grammar.specs.ParserState.{Limits, fits, program, Frame, in_list, Mode, start, Move, refuse, go}
use Rattle.actx_grammar.specs.Tree.{Stmts, Try, no_last, end}
use Rattle.actx_grammar.specs.Words.{HasForm}
use Rattle.actx_laws.proofs.ParseNames.{le_from}
use Rattle.actx_laws.proofs.SpellDeeper.{deeper_stmts}
use Rattle.actx_laws.proofs.ViableOpen.{Opens, op_list, own_program}
use Rattle.actx_laws.proofs.ViableModes.{Viable, v_start, v_have_stmt, v_finally_next, After, opens_along}
use Rattle.actx_laws.proofs.ViableBehind.{One}
use Rattle.actx_laws.proofs.ViableStatements.{StandsAt, settle_stmt_viable, list_more}
use Rattle.actx_laws.proofs.ViableStart.{try_ended}
use Rattle.actx_laws.proofs.ViableSound.{step_viable}
use Rattle.actx_laws.proofs.ViableTests.{fits_less}

-- THE END
side_fits : (side : Side) (r : ℕ) → fits (limits side) r ≡ true → r ≤ deepest side
side_fits side r h = le_from r (deepest side) h

-- the tokens spell the program within a depth that fits
pub record Whole (lim : Limits) (side : Side) (q : Stmts) (p : List Lexeme) : Type 0 where
  pub height : ℕ
  pub spelled : SpellsStmts side lim.most height q p
  pub within : fits lim height ≡ true

program_spelled : {lim : Limits} {side : Side} {ss : Stmts} {r : ℕ} {p : List Lexeme} → Opens lim side (in_list program ss r ∷ []) p → Whole lim side ss p
program_spelled {lim} {r = r} (op_list {n = n} own_program c d deep) = record { height = n; spelled = d; within = fits_less lim n r deep.within (omega (arith, deep.reach)) }

spelled_as : {lim : Limits} {side : Side} {p q : Stmts} {ts : List Lexeme} → p ≡ q → Whole lim side p ts → Whole lim side q ts
spelled_as {lim} {side} {ts = ts} e h = subst (λ z. Whole lim side z ts) e h

standing_finished : (lim : Limits) (side : Side) (v : Standing) (p : List Lexeme) (q : Stmts) → StandsAt lim side v p → finish_standing v ≡ Some q → Whole lim side q p
standing_finished lim side (standing st r (in_list program ss j ∷ [])) p q h e = spelled_as (cc) (program_spelled (opens_along h.all (list_more h.stack h.spells h.deep)))
standing_finished lim side (standing st r (in_list program ss j ∷ f ∷ s)) p q h e = absurd (cc)
standing_finished lim side (standing st r (in_list _ ss j ∷ s)) p q h e = absurd (cc)
standing_finished lim side (standing st r []) p q h e = absurd (cc)
standing_finished lim side (standing st r (_ ∷ s)) p q h e = absurd (cc)

list_finished : {lim : Limits} {side : Side} (s : List Frame) (p : List Lexeme) (q : Stmts) → Opens lim side s p → finish start s ≡ Some q → Whole lim side q p
list_finished (in_list program ss r ∷ []) p q o e = spelled_as (cc) (program_spelled o)
list_finished (in_list program ss r ∷ f ∷ s) p q o e = absurd (cc)
list_finished (in_list _ ss r ∷ s) p q o e = absurd (cc)
list_finished [] p q o e = absurd (cc)
list_finished (_ ∷ s) p q o e = absurd (cc)

pub ends : {lim : Limits} {side : Side} (m : Mode) (s : List Frame) (p : List Lexeme) (q : Stmts) → Viable lim side m s p → finish m s ≡ Some q → Whole lim side q p
ends m s p q (v_start o l) e = list_finished s p q o e
ends {lim} {side} m s p q (v_have_stmt {p = u} {x = x} {st = st} {n = n} {r = r} o d i w deep) e =
    standing_finished lim side (settle_stmt st r s) p q (settle_stmt_viable st r s p (record { before = u; own = x; height = n; stack = o; spells = d; fit = i; all = refl; deep = deep })) e
ends {lim} {side} m s p q (v_finally_next {bs = bs} {c = c} {r = r} o d deep) e = standing_finished lim side (settle_stmt (Try bs c no_last) r s) p q (settle_stmt_viable (Try bs c no_last) r s p (try_ended o d deep)) e
ends m s p q v e = absurd (cc)

ends_within : {side : Side} (m : Mode) (s : List Frame) (p : List Lexeme) (q : Stmts) → Viable (limits side) side m s p → finish m s ≡ Some q → IsSpelled side q p
ends_within {side} m s p q v e = let h : Whole (limits side) side q p = ends m s p q v e in deeper_stmts h.spelled (side_fits side h.height h.within)

-- ALL TOKENS
pub one_parameter : (side : Side) → One (limits side)
one_parameter Source = omega arith
one_parameter Plain = tt

at_end : (at : ℕ) {o : Option Stmts} {q : Stmts} → finished at o ≡ parsed q → o ≡ Some q
at_end at {o = None} e = absurd (cc)
at_end at {o = Some p} e = cc

sound : (side : Side) (ts : List Lexeme) (at : ℕ) (m : Mode) (s : List Frame) (p : List Lexeme) (q : Stmts) → AllByRecursion (λ t. HasForm t.kind) ts → Viable (limits side) side m s p → run side at m s ts ≡ parsed q → IsSpelled side q (p ++ ts)
sound side [] at m s p q f v e = subst (λ z. IsSpelled side q z) (sym (append-nil p)) (ends_within m s p q v (at_end at e))
sound side (w ∷ ts) at m s p q f v e = on (step (limits side) side m s w) (step_viable (one_parameter side) m s p w.kind w.line_before v f.0) e (λ n z a i. sound side ts (suc at) n z (p ++ w ∷ []) q f.1 a i)
  where
    on : (mv : Move) → After (limits side) side mv (p ++ w ∷ []) → carry mv (λ n z. run side (suc at) n z ts) (refused at (reason side m s w)) ≡ parsed q
        → ((n : Mode) (z : List Frame) → Viable (limits side) side n z (p ++ w ∷ []) → run side (suc at) n z ts ≡ parsed q → IsSpelled side q ((p ++ w ∷ []) ++ ts))
        → IsSpelled side q (p ++ w ∷ ts)
    on refuse a i go_on = absurd (cc)
    on (go n z) a i go_on = subst (λ y. IsSpelled side q y) (append_assoc p (w ∷ []) ts) (go_on n z a i)

pub zero_fits : (side : Side) → fits (limits side) 0 ≡ true
zero_fits Source = refl
zero_fits Plain = refl

-- what is parsed is spelled, as that program
pub spells : SpellsWhatIsParsed
spells side p ts f e = sound side ts 0 start (in_list program end 0 ∷ []) [] p (recursion_from_All (λ t. HasForm t.kind) ts f) (v_start (op_list {c = 0} {n = 0} own_program (omega arith) sp_end (record { reach = omega arith; within = zero_fits side })) tt) e
