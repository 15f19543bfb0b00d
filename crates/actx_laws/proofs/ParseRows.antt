-- Operators are read.
use Rattle.std.proofs.Common.{◌≡◌, ℕ, suc, max, ◌≤◌, List, [], ◌∷◌, ◌++◌, Bool, refl, sym, ◌∙◌, ap, arith, append_assoc}
use Rattle.actx_grammar.specs.declared.operators.BinaryOp.{BinaryOp}
use Rattle.actx_grammar.specs.declared.operators.LogicOp.TheVariants.{And, Or, Coalesce}
use Rattle.actx_grammar.specs.declared.side.Side.{Side}
use Rattle.actx_grammar.specs.declared.token.Sign.TheVariants as g
use Rattle.actx_grammar.specs.declared.token.TokenKind.{TokenKind}
use Rattle.actx_grammar.specs.Forms.{level_of, sign_of}
use Rattle.actx_grammar.specs.Lexemes.{Lexeme, sign, lexeme}
use Rattle.actx_grammar.specs.ParserOperands.{operand, begin_operand, at_need}
use Rattle.actx_grammar.specs.ParserState.{Limits, Frame, in_binary, in_logic, in_choice, in_other, need, have, go, here}
use Rattle.actx_grammar.specs.Tree.{Expr, Binary, Logic, Choice}
use Rattle.actx_laws.proofs.ParseEnds.{ends, sign_opens, question_opens, logic_opens, or_goes_on, coalesce_goes_on}
use Rattle.actx_laws.proofs.ParseLevels.{level_small, grip_op, low}
use Rattle.actx_laws.proofs.ParseReads.{Operand, ReadsChain, left}
use Rattle.actx_laws.proofs.ParseRuns.{runs, after, fit_less}
use Rattle.actx_laws.proofs.ParseSteps.{opens, ends_binary, ends_logic, ends_other}

-- one token that is an operand
pub row_leaf : (lim : Limits) (side : Side) (l d : ℕ) (w : TokenKind) (b : Bool) (e : Expr) → ((s : List Frame) → begin_operand lim side s w ≡ at_need lim side s w) → ((s : List Frame) → operand lim side s w ≡ go (have e (here s)) s) → Operand lim side l (suc d) e (lexeme w b ∷ [])
row_leaf lim side l d w b e n q s r i j m =
    record { reach = here s; within = omega arith; same = ap (after lim side r) (sym (n s) ∙ opens lim side s w (m.deep (here s) (omega arith)) m.more ∙ q s) }

pub row_binary : (lim : Limits) (side : Side) (op : BinaryOp) (b : Bool) (l d : ℕ) (e f : Expr) (x y : List Lexeme) → l ≤ level_of op → Operand lim side (level_of op) d e x → Operand lim side (suc (level_of op)) d f y → Operand lim side l (suc d) (Binary op e f) (x ++ sign (sign_of op) b ∷ y)
row_binary lim side op b l d e f x y h p q s r i j m =
    let a = p s (sign (sign_of op) b ∷ (y ++ r)) (omega arith) (omega (arith, grip_op op)) (left lim d s x (sign (sign_of op) b ∷ y) m) in
    let n : ℕ = suc a.reach in
    let c = q (in_binary op e n ∷ s) r (omega arith) (omega arith) (record { deep = fit_less lim m.deep (omega arith); more = refl; starts = tt }) in
    record {
      reach = max n c.reach;
      within = omega (arith, a.within, c.within);
      same =
          ap (runs lim side need s) (append_assoc x (sign (sign_of op) b ∷ y) r)
          ∙ a.same
          ∙ sign_opens lim side op b e a.reach s (y ++ r) (omega arith) (m.deep n (omega (arith, a.within)))
          ∙ c.same
          ∙ ends (ends_binary op e f n c.reach) lim side s r (omega (arith, level_small op)) (omega arith);
    }

pub row_and : (lim : Limits) (side : Side) (b : Bool) (l d : ℕ) (e f : Expr) (x y : List Lexeme) → l ≤ 4 → Operand lim side 4 d e x → Operand lim side 5 d f y → Operand lim side l (suc d) (Logic And e f) (x ++ sign g.And b ∷ y)
row_and lim side b l d e f x y h p q s r i j m =
    let a = p s (sign g.And b ∷ (y ++ r)) (omega arith) (omega arith) (left lim d s x (sign g.And b ∷ y) m) in
    let n : ℕ = suc a.reach in
    let c = q (in_logic And e n ∷ s) r (omega arith) (omega arith) (record { deep = fit_less lim m.deep (omega arith); more = refl; starts = tt }) in
    record {
      reach = max n c.reach;
      within = omega (arith, a.within, c.within);
      same =
          ap (runs lim side need s) (append_assoc x (sign g.And b ∷ y) r)
          ∙ a.same
          ∙ logic_opens lim side And b e a.reach s (y ++ r) (omega arith) (m.deep n (omega (arith, a.within)))
          ∙ c.same
          ∙ ends (ends_logic And e f n c.reach) lim side s r (omega arith) (omega arith);
    }

-- CHAINS
pub row_first_or : (lim : Limits) (side : Side) (b : Bool) (d : ℕ) (e f : Expr) (x y : List Lexeme) → Operand lim side 4 d e x → Operand lim side 4 d f y → ReadsChain lim side Or 4 d e f (x ++ sign g.Or b ∷ y)
row_first_or lim side b d e f x y p q s r i j m =
    let a = p s (sign g.Or b ∷ (y ++ r)) (omega arith) (omega arith) (left lim d s x (sign g.Or b ∷ y) m) in
    let n : ℕ = suc a.reach in
    let c = q (in_logic Or e n ∷ s) r (omega arith) j (record { deep = fit_less lim m.deep (omega arith); more = refl; starts = tt }) in
    record {
      left = n;
      right = c.reach;
      left_within = omega (arith, a.within);
      right_within = omega (arith, c.within);
      same =
          ap (runs lim side need s) (append_assoc x (sign g.Or b ∷ y) r)
          ∙ a.same
          ∙ logic_opens lim side Or b e a.reach s (y ++ r) i (m.deep n (omega (arith, a.within)))
          ∙ c.same;
    }

pub row_more_or : (lim : Limits) (side : Side) (b : Bool) (d : ℕ) (e f w : Expr) (x y : List Lexeme) → ReadsChain lim side Or 4 d e f x → Operand lim side 4 (suc d) w y → ReadsChain lim side Or 4 (suc d) (Logic Or e f) w (x ++ sign g.Or b ∷ y)
row_more_or lim side b d e f w x y p q s r i j m =
    let a = p s (sign g.Or b ∷ (y ++ r)) i (omega arith) (left lim (suc d) s x (sign g.Or b ∷ y) m) in
    let n : ℕ = suc (max a.left a.right) in
    let c = q (in_logic Or (Logic Or e f) n ∷ s) r (omega arith) j (record { deep = fit_less lim m.deep (omega arith); more = refl; starts = tt }) in
    record {
      left = n;
      right = c.reach;
      left_within = omega (arith, a.left_within, a.right_within);
      right_within = omega (arith, c.within);
      same =
          ap (runs lim side need s) (append_assoc x (sign g.Or b ∷ y) r)
          ∙ a.same
          ∙ or_goes_on lim side b e f a.left a.right s (y ++ r) i (m.deep n (omega (arith, a.left_within, a.right_within)))
          ∙ c.same;
    }

pub row_first_coalesce : (lim : Limits) (side : Side) (b : Bool) (d : ℕ) (e f : Expr) (x y : List Lexeme) → Operand lim side 5 d e x → Operand lim side 5 d f y → ReadsChain lim side Coalesce 5 d e f (x ++ sign g.Coalesce b ∷ y)
row_first_coalesce lim side b d e f x y p q s r i j m =
    let a = p s (sign g.Coalesce b ∷ (y ++ r)) (omega arith) (omega arith) (left lim d s x (sign g.Coalesce b ∷ y) m) in
    let n : ℕ = suc a.reach in
    let c = q (in_logic Coalesce e n ∷ s) r (omega arith) j (record { deep = fit_less lim m.deep (omega arith); more = refl; starts = tt }) in
    record {
      left = n;
      right = c.reach;
      left_within = omega (arith, a.within);
      right_within = omega (arith, c.within);
      same =
          ap (runs lim side need s) (append_assoc x (sign g.Coalesce b ∷ y) r)
          ∙ a.same
          ∙ logic_opens lim side Coalesce b e a.reach s (y ++ r) i (m.deep n (omega (arith, a.within)))
          ∙ c.same;
    }

pub row_more_coalesce : (lim : Limits) (side : Side) (b : Bool) (d : ℕ) (e f w : Expr) (x y : List Lexeme) → ReadsChain lim side Coalesce 5 d e f x → Operand lim side 5 (suc d) w y → ReadsChain lim side Coalesce 5 (suc d) (Logic Coalesce e f) w (x ++ sign g.Coalesce b ∷ y)
row_more_coalesce lim side b d e f w x y p q s r i j m =
    let a = p s (sign g.Coalesce b ∷ (y ++ r)) i (omega arith) (left lim (suc d) s x (sign g.Coalesce b ∷ y) m) in
    let n : ℕ = suc (max a.left a.right) in
    let c = q (in_logic Coalesce (Logic Coalesce e f) n ∷ s) r (omega arith) j (record { deep = fit_less lim m.deep (omega arith); more = refl; starts = tt }) in
    record {
      left = n;
      right = c.reach;
      left_within = omega (arith, a.left_within, a.right_within);
      right_within = omega (arith, c.within);
      same =
          ap (runs lim side need s) (append_assoc x (sign g.Coalesce b ∷ y) r)
          ∙ a.same
          ∙ coalesce_goes_on lim side b e f a.left a.right s (y ++ r) i (m.deep n (omega (arith, a.left_within, a.right_within)))
          ∙ c.same;
    }

pub row_or : (lim : Limits) (side : Side) (l d : ℕ) (e f : Expr) (x : List Lexeme) → l ≤ 3 → ReadsChain lim side Or 4 d e f x → Operand lim side l (suc d) (Logic Or e f) x
row_or lim side l d e f x h p s r i j m =
    let a = p s r (omega arith) (omega arith) m in
    record { reach = max a.left a.right; within = omega (arith, a.left_within, a.right_within); same = a.same ∙ ends (ends_logic Or e f a.left a.right) lim side s r (omega arith) (omega arith) }

pub row_coalesce : (lim : Limits) (side : Side) (l d : ℕ) (e f : Expr) (x : List Lexeme) → l ≤ 3 → ReadsChain lim side Coalesce 5 d e f x → Operand lim side l (suc d) (Logic Coalesce e f) x
row_coalesce lim side l d e f x h p s r i j m =
    let a = p s r (omega arith) (omega arith) m in
    record { reach = max a.left a.right; within = omega (arith, a.left_within, a.right_within); same = a.same ∙ ends (ends_logic Coalesce e f a.left a.right) lim side s r (omega arith) (omega arith) }

pub row_choice : (lim : Limits) (side : Side) (b c : Bool) (l d : ℕ) (e f w : Expr) (x y z : List Lexeme) → l ≤ 2 → Operand lim side 3 d e x → Operand lim side 1 d f y → Operand lim side 1 d w z → Operand lim side l (suc d) (Choice e f w) (x ++ sign g.Question b ∷ (y ++ sign g.Colon c ∷ z))
row_choice lim side b c l d e f w x y z h p q o s r i j m =
    let tail : List Lexeme = sign g.Question b ∷ (y ++ sign g.Colon c ∷ z) in
    let a1 = p s (tail ++ r) (omega arith) (omega arith) (left lim d s x tail m) in
    let n1 : ℕ = suc a1.reach in
    let a2 = q (in_choice e n1 ∷ s) (sign g.Colon c ∷ (z ++ r)) (omega arith) (omega arith) (record { deep = fit_less lim m.deep (omega arith); more = refl; starts = tt }) in
    let n2 : ℕ = max n1 a2.reach in
    let a3 = o (in_other e f n2 ∷ s) r (omega arith) (low r (omega arith)) (record { deep = fit_less lim m.deep (omega arith); more = refl; starts = tt }) in
    record {
      reach = max n2 a3.reach;
      within = omega (arith, a1.within, a2.within, a3.within);
      same =
          ap (runs lim side need s) (append_assoc x tail r)
          ∙ a1.same
          ∙ question_opens lim side b e a1.reach s ((y ++ sign g.Colon c ∷ z) ++ r) (omega arith) (m.deep n1 (omega (arith, a1.within)))
          ∙ ap (runs lim side need (in_choice e n1 ∷ s)) (append_assoc y (sign g.Colon c ∷ z) r)
          ∙ a2.same
          ∙ a3.same
          ∙ ends (ends_other e f w n2 a3.reach) lim side s r (omega arith) (omega arith);
    }
