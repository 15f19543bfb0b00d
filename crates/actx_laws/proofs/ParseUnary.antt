-- Operators of one operand, parentheses and names that are assigned are read.
use Rattle.std.proofs.Common.{◌≡◌, ℕ, suc, ◌≤◌, List, [], ◌∷◌, ◌++◌, Bool, true, false, ◌&&◌, ◌||◌, Some, refl, sym, ◌∙◌, ap, arith, append_assoc}
use Rattle.actx_grammar.specs.declared.operators.BinaryOp.{BinaryOp}
use Rattle.actx_grammar.specs.declared.operators.BinaryOp.TheVariants as o
use Rattle.actx_grammar.specs.declared.operators.UnaryOp.{UnaryOp}
use Rattle.actx_grammar.specs.declared.operators.UnaryOp.TheVariants as u
use Rattle.actx_grammar.specs.declared.side.Side.{Side}
use Rattle.actx_grammar.specs.declared.side.Side.TheVariants.{Source}
use Rattle.actx_grammar.specs.declared.token.Keyword.TheVariants as k
use Rattle.actx_grammar.specs.declared.token.Sign.{Sign}
use Rattle.actx_grammar.specs.declared.token.Sign.TheVariants as g
use Rattle.actx_grammar.specs.declared.token.TokenKind.{TokenKind}
use Rattle.actx_grammar.specs.declared.token.TokenKind.TheVariants as t
use Rattle.actx_grammar.specs.Forms.{unary_word, change_of, bump_sign}
use Rattle.actx_grammar.specs.Lexemes.{Lexeme, sign, keyword, lexeme, kinds, SameLine}
use Rattle.actx_grammar.specs.Names.{IsBinding, IsReference}
use Rattle.actx_grammar.specs.ParserFunctions.{assign}
use Rattle.actx_grammar.specs.ParserOperands.{is_source, is_binding, takes_whole, fits_below, prefix, operand, begin_operand, at_need}
use Rattle.actx_grammar.specs.ParserState.{Limits, Frame, in_unary, in_await, in_paren, in_set_name, in_change, in_yield, in_yield_all, Mode, need, have, have_name, have_bump, bump_name, opened, yield_next, go_if, here}
use Rattle.actx_grammar.specs.Tree.{Expr, Unary, SetName, Change, Bump, Named, Undefined, Yield, YieldAll, Await, no_expr, some_expr}
use Rattle.actx_laws.proofs.ParseBegins.{BeginsValue}
use Rattle.actx_laws.proofs.ParseCover.{opened_same, yield_begins, name_opens}
use Rattle.actx_laws.proofs.ParseEnds.{ends}
use Rattle.actx_laws.proofs.ParseLevels.{level_in}
use Rattle.actx_laws.proofs.ParseNames.{binding_passes, binding_free, reference_free, reference_named, undefined_free, source_passes, both, either_right}
use Rattle.actx_laws.proofs.ParseReads.{Operand}
use Rattle.actx_laws.proofs.ParseRuns.{runs, after, fit_less, if_holds}
use Rattle.actx_laws.proofs.ParseSteps.{Room, opens, whole_taken, name_have, bump_have, yield_have, ends_unary, ends_await, ends_set_name, ends_change, ends_yield, ends_yield_all}
use Rattle.std.specs.Prelude.{codes}

-- a token that leads to a mode
enters : (lim : Limits) (side : Side) (d : ℕ) (s : List Frame) (x : List Lexeme) (w : TokenKind) (c : Bool) (n : Mode) (u : List Frame) (r : List Lexeme) → Room lim (suc d) s x → at_need lim side s w ≡ begin_operand lim side s w → operand lim side s w ≡ go_if c n u → c ≡ true
    → after lim side r (at_need lim side s w) ≡ runs lim side n u r
enters lim side d s x w c n u r m h q i = ap (after lim side r) (h ∙ opens lim side s w (m.deep (here s) (omega arith)) m.more ∙ q) ∙ if_holds lim side c n u r i

unary_operand : (lim : Limits) (side : Side) (op : UnaryOp) (s : List Frame) → operand lim side s (unary_word op) ≡ prefix lim op s
unary_operand lim side u.Not s = refl
unary_operand lim side _ s = refl

unary_need : (lim : Limits) (side : Side) (op : UnaryOp) (s : List Frame) → at_need lim side s (unary_word op) ≡ begin_operand lim side s (unary_word op)
unary_need lim side u.Not s = refl
unary_need lim side _ s = refl

pub row_unary : (lim : Limits) (side : Side) (op : UnaryOp) (b : Bool) (l d : ℕ) (e : Expr) (x : List Lexeme) → 1 ≤ d → l ≤ 9 → Operand lim side 9 d e x → Operand lim side l (suc d) (Unary op e) (lexeme (unary_word op) b ∷ x)
row_unary lim side op b l d e x f h p s r i j m =
    let a = p (in_unary op ∷ s) r (omega arith) (omega arith) (record { deep = fit_less lim m.deep (omega arith); more = refl; starts = tt }) in
    record {
      reach = a.reach;
      within = omega (arith, a.within);
      same =
          enters lim side d s (lexeme (unary_word op) b ∷ x) (unary_word op) (fits_below lim s) need (in_unary op ∷ s) (x ++ r) m (unary_need lim side op s) (unary_operand lim side op s) (m.deep (suc (here s)) (omega arith))
          ∙ a.same
          ∙ ends (ends_unary op e a.reach) lim side s r (omega arith) (omega arith);
    }

pub row_await : (lim : Limits) (side : Side) (b : Bool) (l d : ℕ) (e : Expr) (x : List Lexeme) → 1 ≤ d → side ≡ Source → l ≤ 9 → Operand lim side 9 d e x → Operand lim side l (suc d) (Await e) (keyword k.Await b ∷ x)
row_await lim side b l d e x f c h p s r i j m =
    let a = p (in_await ∷ s) r (omega arith) (omega arith) (record { deep = fit_less lim m.deep (omega arith); more = refl; starts = tt }) in
    record {
      reach = a.reach;
      within = omega (arith, a.within);
      same =
          enters lim side d s (keyword k.Await b ∷ x) (t.Keyword k.Await) (is_source side && fits_below lim s) need (in_await ∷ s) (x ++ r) m refl refl (both (is_source side) (fits_below lim s) (source_passes c) (m.deep (suc (here s)) (omega arith)))
          ∙ a.same
          ∙ ends (ends_await e a.reach) lim side s r (omega arith) (omega arith);
    }

-- YIELD
yield_opens : (lim : Limits) (side : Side) (d : ℕ) (s : List Frame) (x : List Lexeme) (r : List Lexeme) → side ≡ Source → level_in s ≤ 1 → Room lim (suc d) s x → after lim side r (at_need lim side s (t.Keyword k.Yield)) ≡ runs lim side yield_next s r
yield_opens lim side d s x r c i m = enters lim side d s x (t.Keyword k.Yield) (is_source side && takes_whole s) yield_next s r m refl refl (both (is_source side) (takes_whole s) (source_passes c) (whole_taken s i))

pub row_yield_nothing : (lim : Limits) (side : Side) (b : Bool) (l d : ℕ) → side ≡ Source → l ≤ 1 → Operand lim side l (suc d) (Yield no_expr) (keyword k.Yield b ∷ [])
row_yield_nothing lim side b l d c h s r i j m =
    record {
      reach = here s;
      within = omega arith;
      same = yield_opens lim side d s (keyword k.Yield b ∷ []) r c (omega arith) m ∙ yield_have lim side s r (omega arith);
    }

pub row_yield : (lim : Limits) (side : Side) (b : Bool) (l d : ℕ) (e : Expr) (x : List Lexeme) → BeginsValue (kinds x) → SameLine x → side ≡ Source → l ≤ 1 → Operand lim side 1 d e x → Operand lim side l (suc d) (Yield (some_expr e)) (keyword k.Yield b ∷ x)
row_yield lim side b l d e x v y c h p s r i j m =
    let a = p (in_yield ∷ s) r (omega arith) (omega arith) (record { deep = fit_less lim m.deep (omega arith); more = refl; starts = tt }) in
    record {
      reach = a.reach;
      within = omega (arith, a.within);
      same =
          yield_opens lim side d s (keyword k.Yield b ∷ x) (x ++ r) c (omega arith) m
          ∙ yield_begins lim side s x r v y
          ∙ a.same
          ∙ ends (ends_yield e a.reach) lim side s r (omega arith) (omega arith);
    }

pub row_yield_all : (lim : Limits) (side : Side) (b : Bool) (l d : ℕ) (e : Expr) (x : List Lexeme) → 1 ≤ d → side ≡ Source → l ≤ 1 → Operand lim side 1 d e x → Operand lim side l (suc d) (YieldAll e) (keyword k.Yield b ∷ sign g.Star false ∷ x)
row_yield_all lim side b l d e x f c h p s r i j m =
    let a = p (in_yield_all ∷ s) r (omega arith) (omega arith) (record { deep = fit_less lim m.deep (omega arith); more = refl; starts = tt }) in
    record {
      reach = a.reach;
      within = omega (arith, a.within);
      same =
          yield_opens lim side d s (keyword k.Yield b ∷ sign g.Star false ∷ x) (sign g.Star false ∷ (x ++ r)) c (omega arith) m
          ∙ if_holds lim side (fits_below lim s) need (in_yield_all ∷ s) (x ++ r) (m.deep (suc (here s)) (omega arith))
          ∙ a.same
          ∙ ends (ends_yield_all e a.reach) lim side s r (omega arith) (omega arith);
    }

-- PARENTHESES
pub row_paren : (lim : Limits) (side : Side) (b c : Bool) (l d : ℕ) (e : Expr) (x : List Lexeme) → l ≤ 12 → 1 ≤ d → BeginsValue (kinds x) → Operand lim side 1 d e x → Operand lim side l (suc d) e (sign g.OpenParen b ∷ (x ++ sign g.CloseParen c ∷ []))
row_paren lim side b c l d e x h f v p s r i j m =
    let a = p (in_paren ∷ s) (sign g.CloseParen c ∷ r) (omega arith) (omega arith) (record { deep = fit_less lim m.deep (omega arith); more = refl; starts = tt }) in
    record {
      reach = a.reach;
      within = omega (arith, a.within);
      same =
          enters lim side d s (sign g.OpenParen b ∷ (x ++ sign g.CloseParen c ∷ [])) (t.Sign g.OpenParen) (takes_whole s || fits_below lim s) opened s ((x ++ sign g.CloseParen c ∷ []) ++ r) m refl refl (either_right (takes_whole s) (fits_below lim s) (m.deep (suc (here s)) (omega arith)))
          ∙ ap (runs lim side opened s) (append_assoc x (sign g.CloseParen c ∷ []) r)
          ∙ opened_same lim side s x c r (m.deep (here (in_paren ∷ s)) (omega arith)) v (omega arith)
          ∙ a.same;
    }

-- NAMES
name_enters : (lim : Limits) (side : Side) (d : ℕ) (s : List Frame) (x : List ℕ) (y r : List Lexeme) → IsBinding side x → Room lim (suc d) s y → after lim side r (at_need lim side s (t.Name x)) ≡ runs lim side (have_name x) s r
name_enters lim side d s x y r h m = ap (after lim side r) (opens lim side s (t.Name x) (m.deep (here s) (omega arith)) m.more ∙ name_opens lim side s x (binding_free h))

pub row_name : (lim : Limits) (side : Side) (x : List ℕ) (b : Bool) (l d : ℕ) → l ≤ 12 → IsReference side x → Operand lim side l (suc d) (Named x) (lexeme (t.Name x) b ∷ [])
row_name lim side x b l d h c s r i j m =
    record {
      reach = here s;
      within = omega arith;
      same =
          ap (after lim side r) (opens lim side s (t.Name x) (m.deep (here s) (omega arith)) m.more ∙ name_opens lim side s x (reference_free c))
          ∙ name_have lim side x s r (omega arith)
          ∙ ap (λ e. runs lim side (have e (here s)) s r) (reference_named c);
    }

pub row_undefined : (lim : Limits) (side : Side) (b : Bool) (l d : ℕ) → l ≤ 12 → Operand lim side l (suc d) Undefined (lexeme (t.Name (codes "undefined")) b ∷ [])
row_undefined lim side b l d h s r i j m =
    record {
      reach = here s;
      within = omega arith;
      same =
          ap (after lim side r) (opens lim side s (t.Name (codes "undefined")) (m.deep (here s) (omega arith)) m.more ∙ name_opens lim side s (codes "undefined") (undefined_free side))
          ∙ name_have lim side (codes "undefined") s r (omega arith);
    }

pub row_set_name : (lim : Limits) (side : Side) (x : List ℕ) (b c : Bool) (l d : ℕ) (e : Expr) (y : List Lexeme) → 1 ≤ d → l ≤ 1 → IsBinding side x → Operand lim side 1 d e y → Operand lim side l (suc d) (SetName x e) (lexeme (t.Name x) b ∷ sign g.Assign c ∷ y)
row_set_name lim side x b c l d e y f h n p s r i j m =
    let a = p (in_set_name x ∷ s) r (omega arith) (omega arith) (record { deep = fit_less lim m.deep (omega arith); more = refl; starts = tt }) in
    record {
      reach = a.reach;
      within = omega (arith, a.within);
      same =
          name_enters lim side d s x (lexeme (t.Name x) b ∷ sign g.Assign c ∷ y) (sign g.Assign c ∷ (y ++ r)) n m
          ∙ if_holds lim side (takes_whole s && fits_below lim s) need (in_set_name x ∷ s) (y ++ r) (both (takes_whole s) (fits_below lim s) (whole_taken s (omega arith)) (m.deep (suc (here s)) (omega arith)))
          ∙ a.same
          ∙ ends (ends_set_name x e a.reach) lim side s r (omega arith) (omega arith);
    }

change_opens : (lim : Limits) (side : Side) (x : List ℕ) (op : BinaryOp) (sg : Sign) (c : Bool) (s : List Frame) (r : List Lexeme) → change_of op ≡ Some sg → after lim side r (assign lim (in_change x op) s) ≡ runs lim side (have_name x) s (sign sg c ∷ r)
change_opens lim side x o.Add sg c s r h = let e : g.AddAssign ≡ sg = cc in ap (λ z. runs lim side (have_name x) s (sign z c ∷ r)) e
change_opens lim side x o.Sub sg c s r h = let e : g.SubAssign ≡ sg = cc in ap (λ z. runs lim side (have_name x) s (sign z c ∷ r)) e
change_opens lim side x o.Mul sg c s r h = let e : g.MulAssign ≡ sg = cc in ap (λ z. runs lim side (have_name x) s (sign z c ∷ r)) e
change_opens lim side x _ sg c s r h = absurd (cc)

pub row_change : (lim : Limits) (side : Side) (x : List ℕ) (op : BinaryOp) (sg : Sign) (b c : Bool) (l d : ℕ) (e : Expr) (y : List Lexeme) → 1 ≤ d → l ≤ 1 → IsBinding side x → change_of op ≡ Some sg → Operand lim side 1 d e y → Operand lim side l (suc d) (Change x op e) (lexeme (t.Name x) b ∷ sign sg c ∷ y)
row_change lim side x op sg b c l d e y f h n q p s r i j m =
    let a = p (in_change x op ∷ s) r (omega arith) (omega arith) (record { deep = fit_less lim m.deep (omega arith); more = refl; starts = tt }) in
    record {
      reach = a.reach;
      within = omega (arith, a.within);
      same =
          name_enters lim side d s x (lexeme (t.Name x) b ∷ sign sg c ∷ y) (sign sg c ∷ (y ++ r)) n m
          ∙ sym (change_opens lim side x op sg c s (y ++ r) q)
          ∙ if_holds lim side (takes_whole s && fits_below lim s) need (in_change x op ∷ s) (y ++ r) (both (takes_whole s) (fits_below lim s) (whole_taken s (omega arith)) (m.deep (suc (here s)) (omega arith)))
          ∙ a.same
          ∙ ends (ends_change x op e a.reach) lim side s r (omega arith) (omega arith);
    }

-- ++ and --
bump_opens : (lim : Limits) (side : Side) (d : ℕ) (s : List Frame) (x : List Lexeme) (up : Bool) (r : List Lexeme) → Room lim (suc d) s x → after lim side r (at_need lim side s (t.Sign (bump_sign up))) ≡ runs lim side (bump_name up) s r
bump_opens lim side d s x true r m = ap (after lim side r) (opens lim side s (t.Sign g.Increment) (m.deep (here s) (omega arith)) m.more)
bump_opens lim side d s x false r m = ap (after lim side r) (opens lim side s (t.Sign g.Decrement) (m.deep (here s) (omega arith)) m.more)

pub row_bump_before : (lim : Limits) (side : Side) (x : List ℕ) (up b c : Bool) (l d : ℕ) → l ≤ 10 → IsBinding side x → Operand lim side l (suc d) (Bump x up true) (sign (bump_sign up) b ∷ lexeme (t.Name x) c ∷ [])
row_bump_before lim side x up b c l d h n s r i j m =
    record {
      reach = here s;
      within = omega arith;
      same =
          bump_opens lim side d s (sign (bump_sign up) b ∷ lexeme (t.Name x) c ∷ []) up (lexeme (t.Name x) c ∷ r) m
          ∙ if_holds lim side (is_binding side x) (have_bump (Bump x up true)) s r (binding_passes n)
          ∙ bump_have lim side (Bump x up true) s r (omega arith);
    }

bump_behind : (lim : Limits) (side : Side) (x : List ℕ) (up : Bool) (s : List Frame) (r : List Lexeme) → runs lim side (have_name x) s (sign (bump_sign up) false ∷ r) ≡ runs lim side (have_bump (Bump x up false)) s r
bump_behind lim side x true s r = refl
bump_behind lim side x false s r = refl

pub row_bump_behind : (lim : Limits) (side : Side) (x : List ℕ) (up b : Bool) (l d : ℕ) → l ≤ 10 → IsBinding side x → Operand lim side l (suc d) (Bump x up false) (lexeme (t.Name x) b ∷ sign (bump_sign up) false ∷ [])
row_bump_behind lim side x up b l d h n s r i j m =
    record {
      reach = here s;
      within = omega arith;
      same =
          name_enters lim side d s x (lexeme (t.Name x) b ∷ sign (bump_sign up) false ∷ []) (sign (bump_sign up) false ∷ r) n m
          ∙ bump_behind lim side x up s r
          ∙ bump_have lim side (Bump x up false) s r (omega arith);
    }
