-- Chains of || and of ?? are spelled by their own tokens.
use Rattle.std.proofs.Common.{◌≡◌, ℕ, zero, suc, ◌≤◌, Bool, false, List, ◌∷◌, ◌++◌, Option, refl, sym, subst, arith}
use Rattle.actx_grammar.specs.declared.operators.LogicOp.TheVariants.{Or, Coalesce}
use Rattle.actx_grammar.specs.declared.side.Side.{Side}
use Rattle.actx_grammar.specs.declared.token.Sign.TheVariants as g
use Rattle.actx_grammar.specs.declared.token.TokenKind.{TokenKind}
use Rattle.actx_grammar.specs.declared.token.TokenKind.TheVariants as t
use Rattle.actx_grammar.specs.Layout.{laid_from}
use Rattle.actx_grammar.specs.Lexemes.{sign}
use Rattle.actx_grammar.specs.Tree.{Expr, Logic}
use Rattle.actx_grammar.specs.Grammar.{SpellsOr, SpellsCoalesce, sp_or, sp_coalesce, sp_first_or, sp_more_or, sp_first_coalesce, sp_more_coalesce}
use Rattle.actx_grammar.specs.Spell.{Start, left_level, spell, inner}
use Rattle.actx_laws.proofs.SpellDeeper.{deeper, deeper_or, deeper_coalesce}
use Rattle.actx_laws.proofs.SpellLaid.{after, laid_append, leveled}
use Rattle.actx_laws.proofs.SpellSaid.{Said, or_row, or_depth, OrSaid, coalesce_row, coalesce_depth, CoalesceSaid, Exact}

-- at a depth that is one more
at_next : (P : ℕ → Type 0) (m n : ℕ) → suc m ≤ n → ((d : ℕ) → m ≤ d → suc d ≡ n → P (suc d)) → P n
at_next P m zero h f = absurd (omega arith)
at_next P m (suc d) h f = f d (omega arith) refl

-- left || right
or_four : {side : Side} {most : Option ℕ} (e f : Expr) → Said side most e → Said side most f → (b : Bool) (st : Start) → SpellsOr side most (or_depth st e f 4) e f (laid_from b (or_row st e f 4))
or_four e f p q b st = rw (laid_append b (spell st e 4) (t.Sign g.Or ∷ spell inner f 4)) (sp_first_or {d = or_depth st e f 4} (after b (spell st e 4)) (deeper (p b st 4) (omega arith)) (deeper (q false inner 4) (omega arith)))

or_other : {side : Side} {most : Option ℕ} (e f : Expr) → left_level Or e ≡ 4 → Said side most e → Said side most f → OrSaid side most e f
or_other {side} {most} e f h p q b st = subst (λ j. SpellsOr side most (or_depth st e f j) e f (laid_from b (or_row st e f j))) (sym h) (or_four e f p q b st)

pub or_more : {side : Side} {most : Option ℕ} (e f v : Expr) → OrSaid side most e f → Said side most v → OrSaid side most (Logic Or e f) v
or_more {side} {most} e f v p q b st =
    let x : List TokenKind = or_row st e f (left_level Or e) in
    rw (laid_append b x (t.Sign g.Or ∷ spell inner v 4))
    (at_next (λ n. SpellsOr side most n (Logic Or e f) v (laid_from b x ++ sign g.Or (after b x) ∷ laid_from false (spell inner v 4))) (or_depth st e f (left_level Or e)) (or_depth st (Logic Or e f) v 3) (omega arith)
    (λ d h i. sp_more_or (after b x) (deeper_or (p b st) h) (deeper (q false inner 4) (omega arith))))

pub or_first : {side : Side} {most : Option ℕ} (e f : Expr) → Exact side most e → Said side most f → OrSaid side most e f
or_first (Logic Or a c) f p q = or_more a c f p.chained q
or_first e f p q = or_other e f refl p.said q

pub or_exact : {side : Side} {most : Option ℕ} (e f : Expr) → OrSaid side most e f → Exact side most (Logic Or e f)
or_exact e f p = record {
  said = leveled 3 (λ st. or_row st e f (left_level Or e)) (λ st. suc (or_depth st e f (left_level Or e))) (omega arith) (λ b st m i. sp_or i (p b st));
  chained = p;
}

-- left ?? right
coalesce_five : {side : Side} {most : Option ℕ} (e f : Expr) → Said side most e → Said side most f → (b : Bool) (st : Start) → SpellsCoalesce side most (coalesce_depth st e f 5) e f (laid_from b (coalesce_row st e f 5))
coalesce_five e f p q b st = rw (laid_append b (spell st e 5) (t.Sign g.Coalesce ∷ spell inner f 5)) (sp_first_coalesce {d = coalesce_depth st e f 5} (after b (spell st e 5)) (deeper (p b st 5) (omega arith)) (deeper (q false inner 5) (omega arith)))

coalesce_other : {side : Side} {most : Option ℕ} (e f : Expr) → left_level Coalesce e ≡ 5 → Said side most e → Said side most f → CoalesceSaid side most e f
coalesce_other {side} {most} e f h p q b st = subst (λ j. SpellsCoalesce side most (coalesce_depth st e f j) e f (laid_from b (coalesce_row st e f j))) (sym h) (coalesce_five e f p q b st)

pub coalesce_more : {side : Side} {most : Option ℕ} (e f v : Expr) → CoalesceSaid side most e f → Said side most v → CoalesceSaid side most (Logic Coalesce e f) v
coalesce_more {side} {most} e f v p q b st =
    let x : List TokenKind = coalesce_row st e f (left_level Coalesce e) in
    rw (laid_append b x (t.Sign g.Coalesce ∷ spell inner v 5))
    (at_next (λ n. SpellsCoalesce side most n (Logic Coalesce e f) v (laid_from b x ++ sign g.Coalesce (after b x) ∷ laid_from false (spell inner v 5))) (coalesce_depth st e f (left_level Coalesce e)) (coalesce_depth st (Logic Coalesce e f) v 3) (omega arith)
    (λ d h i. sp_more_coalesce (after b x) (deeper_coalesce (p b st) h) (deeper (q false inner 5) (omega arith))))

pub coalesce_first : {side : Side} {most : Option ℕ} (e f : Expr) → Exact side most e → Said side most f → CoalesceSaid side most e f
coalesce_first (Logic Coalesce a c) f p q = coalesce_more a c f p.chained q
coalesce_first e f p q = coalesce_other e f refl p.said q

pub coalesce_exact : {side : Side} {most : Option ℕ} (e f : Expr) → CoalesceSaid side most e f → Exact side most (Logic Coalesce e f)
coalesce_exact e f p = record {
  said = leveled 3 (λ st. coalesce_row st e f (left_level Coalesce e)) (λ st. suc (coalesce_depth st e f (left_level Coalesce e))) (omega arith) (λ b st m i. sp_coalesce i (p b st));
  chained = p;
}
