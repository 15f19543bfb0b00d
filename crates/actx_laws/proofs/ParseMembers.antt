-- Members, calls and forms are read.
use Rattle.std.proofs.Common.{◌≡◌, ℕ, suc, max, ◌≤◌, List, [], ◌∷◌, ◌++◌, Bool, true, false, Some, None, cond, refl, ◌∙◌, ap, arith, append_assoc}
use Rattle.std.specs.Prelude.{codes, nat_le}
use Rattle.actx_grammar.specs.declared.operators.Form.{Form}
use Rattle.actx_grammar.specs.declared.operators.Form.TheVariants.{CallWith}
use Rattle.actx_grammar.specs.declared.side.Side.{Side}
use Rattle.actx_grammar.specs.declared.side.Side.TheVariants.{Source, Plain}
use Rattle.actx_grammar.specs.declared.token.Sign.TheVariants as g
use Rattle.actx_grammar.specs.declared.token.TokenKind.TheVariants as t
use Rattle.actx_grammar.specs.Forms.{form_words, HasWords, Suits}
use Rattle.actx_grammar.specs.Grammar.{count, Allows, with_last}
use Rattle.actx_grammar.specs.Lexemes.{Lexeme, sign, lexeme, kinds}
use Rattle.actx_grammar.specs.Names.{word_of, IsKey}
use Rattle.actx_grammar.specs.ParserFunctions.{member_word, open_form}
use Rattle.actx_grammar.specs.ParserOperands.{takes_whole, least_parts, most_parts}
use Rattle.actx_grammar.specs.ParserState.{Limits, at_most, fits, Frame, in_call, in_set, in_index, need, have, have_member, member_name, call_open, words_next, go, go_if, here}
use Rattle.actx_grammar.specs.Tree.{Expr, SetMember, Member, Call, Built, Exprs, none, also, Key, Dot, Index}
use Rattle.actx_laws.proofs.ParseEnds.{ends}
use Rattle.actx_laws.proofs.ParseForms.{form_is, words_read, least_most, parts_fit}
use Rattle.actx_laws.proofs.ParseHeld.{of_call, of_form, of_call_with, holds, Takes, takes_less, held_levels, held_level, held_room, list_sign, held_next, held_closes}
use Rattle.actx_laws.proofs.ParseLevels.{binds}
use Rattle.actx_laws.proofs.ParseNames.{differs, le_true, both, count_last}
use Rattle.actx_laws.proofs.ParseReads.{Operand, ReadsKey, ReadsArguments, ReadsList, left}
use Rattle.actx_laws.proofs.ParseRuns.{runs, after, fit_less, if_holds}
use Rattle.actx_laws.proofs.ParseSteps.{whole_taken, member_have, ends_set}

-- KEYS
dot_word : (side : Side) (e : Expr) (x : List ℕ) (n : ℕ) (s : List Frame) → IsKey side x → member_word side e (Some x) n s ≡ go (have_member e (Dot x) n) s
dot_word Source e x n s h = refl
dot_word Plain e x n s h = ap (λ b. cond b (go (call_open e n) s) (go (have_member e (Dot x) n) s)) (differs x (codes "call") h)

pub row_dot : (lim : Limits) (side : Side) (b : Bool) (w : Lexeme) (x : List ℕ) (d : ℕ) → word_of w.kind ≡ Some x → IsKey side x → ReadsKey lim side d (Dot x) (sign g.Dot b ∷ w ∷ [])
row_dot lim side b w x d q i e n s r h f =
    record {
      reach = suc n;
      within = omega arith;
      same =
          if_holds lim side (fits lim (suc n)) (member_name e (suc n)) s (w ∷ r) (f (suc n) (omega arith))
          ∙ ap (λ o. after lim side r (member_word side e o (suc n) s)) q
          ∙ ap (after lim side r) (dot_word side e x (suc n) s i);
    }

pub row_index : (lim : Limits) (side : Side) (b c : Bool) (d : ℕ) (i : Expr) (x : List Lexeme) → Operand lim side 1 d i x → ReadsKey lim side d (Index i) (sign g.OpenBracket b ∷ (x ++ sign g.CloseBracket c ∷ []))
row_index lim side b c d i x p e n s r h f =
    let a = p (in_index e (suc n) ∷ s) (sign g.CloseBracket c ∷ r) (omega arith) (omega arith) (record { deep = fit_less lim f (omega arith); more = refl; starts = tt }) in
    record {
      reach = max (suc n) a.reach;
      within = omega (arith, a.within);
      same =
          if_holds lim side (fits lim (suc n)) need (in_index e (suc n) ∷ s) ((x ++ sign g.CloseBracket c ∷ []) ++ r) (f (suc n) (omega arith))
          ∙ ap (runs lim side need (in_index e (suc n) ∷ s)) (append_assoc x (sign g.CloseBracket c ∷ []) r)
          ∙ a.same;
    }

-- ARGUMENTS
ends_list : (more b : Bool) (r : List Lexeme) → binds (sign (list_sign more) b ∷ r) ≤ 1
ends_list true b r = omega arith
ends_list false b r = omega arith

pub row_one : (lim : Limits) (side : Side) (d : ℕ) (e : Expr) (x : List Lexeme) → Operand lim side 1 d e x → ReadsList lim side d (also e none) x
row_one lim side d e x p more b h n s r k i f =
    let a = p (holds h none n ∷ s) (sign (list_sign more) b ∷ r) (omega (arith, held_level h none n s)) (ends_list more b r) (held_room lim h none n d s x (fit_less lim f (omega arith)) k) in
    record {
      reach = max n a.reach;
      within = omega (arith, a.within, held_levels h none n s);
      same = a.same ∙ held_next lim side more b h none e n a.reach s r;
    }

pub row_more : (lim : Limits) (side : Side) (c : Bool) (d : ℕ) (es : Exprs) (e : Expr) (x y : List Lexeme) → ReadsList lim side d es x → Operand lim side 1 d e y → ReadsList lim side d (with_last es e) (x ++ sign g.Comma c ∷ y)
row_more lim side c d es e x y ps p more b h n s r k i f =
    let k1 : Takes lim h (suc (count es)) = takes_less lim h (suc (count es)) (count (with_last es e)) (omega (arith, count_last es e)) k in
    let a1 = ps true c h n s (y ++ sign (list_sign more) b ∷ r) (takes_less lim h (count es) (suc (count es)) (omega arith) k1) i f in
    let a2 = p (holds h es a1.reach ∷ s) (sign (list_sign more) b ∷ r) (omega (arith, held_level h es a1.reach s)) (ends_list more b r) (held_room lim h es a1.reach d s y (fit_less lim f (omega arith)) k1) in
    record {
      reach = max a1.reach a2.reach;
      within = omega (arith, a1.within, a2.within, held_levels h es a1.reach s);
      same =
          ap (runs lim side need (holds h none n ∷ s)) (append_assoc x (sign g.Comma c ∷ y) (sign (list_sign more) b ∷ r))
          ∙ a1.same
          ∙ a2.same
          ∙ held_next lim side more b h es e a1.reach a2.reach s r;
    }

pub row_no_arguments : (lim : Limits) (side : Side) (b c : Bool) (d : ℕ) → ReadsArguments lim side d none (sign g.OpenParen b ∷ sign g.CloseParen c ∷ [])
row_no_arguments lim side b c d m h n s r on k j i f =
    record {
      reach = n;
      within = omega arith;
      same = ap (after lim side (sign g.CloseParen c ∷ r)) (on b) ∙ held_closes lim side h none n s r j;
    }

pub row_arguments : (lim : Limits) (side : Side) (b c : Bool) (d : ℕ) (es : Exprs) (x : List Lexeme) → ReadsList lim side d es x → ReadsArguments lim side d es (sign g.OpenParen b ∷ (x ++ sign g.CloseParen c ∷ []))
row_arguments lim side b c d es x p m h n s r on k j i f =
    let a = p false c h n s r k i f in
    record {
      reach = a.reach;
      within = a.within;
      same =
          ap (after lim side ((x ++ sign g.CloseParen c ∷ []) ++ r)) (on b)
          ∙ ap (runs lim side need (holds h none n ∷ s)) (append_assoc x (sign g.CloseParen c ∷ []) r)
          ∙ a.same
          ∙ held_closes lim side h es a.reach s r j;
    }

pub row_arguments_comma : (lim : Limits) (side : Side) (b c w : Bool) (d : ℕ) (es : Exprs) (x : List Lexeme) → ReadsList lim side d es x → ReadsArguments lim side d es (sign g.OpenParen b ∷ (x ++ sign g.Comma c ∷ sign g.CloseParen w ∷ []))
row_arguments_comma lim side b c w d es x p m h n s r on k j i f =
    let a = p true c h n s (sign g.CloseParen w ∷ r) k i f in
    record {
      reach = a.reach;
      within = a.within;
      same =
          ap (after lim side ((x ++ sign g.Comma c ∷ sign g.CloseParen w ∷ []) ++ r)) (on b)
          ∙ ap (runs lim side need (holds h none n ∷ s)) (append_assoc x (sign g.Comma c ∷ sign g.CloseParen w ∷ []) r)
          ∙ a.same
          ∙ held_closes lim side h es a.reach s r j;
    }

-- MEMBERS
pub row_member : (lim : Limits) (side : Side) (l d : ℕ) (e : Expr) (key : Key) (x y : List Lexeme) → l ≤ 11 → ((r : List Lexeme) → binds (y ++ r) ≤ 11) → Operand lim side 11 d e x → ReadsKey lim side d key y → Operand lim side l (suc d) (Member e key) (x ++ y)
row_member lim side l d e key x y h v p q s r i j m =
    let a = p s (y ++ r) (omega arith) (v r) (left lim d s x y m) in
    let c = q e a.reach s r a.within (fit_less lim m.deep (omega arith)) in
    record {
      reach = c.reach;
      within = omega (arith, c.within);
      same =
          ap (runs lim side need s) (append_assoc x y r)
          ∙ a.same
          ∙ c.same
          ∙ member_have lim side e key c.reach s r (omega arith);
    }

pub row_set_member : (lim : Limits) (side : Side) (b : Bool) (l d : ℕ) (e w : Expr) (key : Key) (x y z : List Lexeme) → l ≤ 1 → ((r : List Lexeme) → binds (y ++ r) ≤ 11) → Operand lim side 11 d e x → ReadsKey lim side d key y → Operand lim side 1 d w z → Operand lim side l (suc d) (SetMember e key w) (x ++ y ++ sign g.Assign b ∷ z)
row_set_member lim side b l d e w key x y z h v p q o s r i j m =
    let tail : List Lexeme = sign g.Assign b ∷ z in
    let a1 = p s (y ++ (tail ++ r)) (omega arith) (v (tail ++ r)) (left lim d s x y (record { deep = m.deep; more = m.more; starts = (left lim d s (x ++ y) tail m).starts })) in
    let a2 = q e a1.reach s (tail ++ r) a1.within (fit_less lim m.deep (omega arith)) in
    let a3 = o (in_set e key a2.reach ∷ s) r (omega arith) (omega arith) (record { deep = fit_less lim m.deep (omega arith); more = refl; starts = tt }) in
    record {
      reach = max a2.reach a3.reach;
      within = omega (arith, a2.within, a3.within);
      same =
          ap (runs lim side need s) (append_assoc (x ++ y) tail r ∙ append_assoc x y (tail ++ r))
          ∙ a1.same
          ∙ a2.same
          ∙ if_holds lim side (takes_whole s) need (in_set e key a2.reach ∷ s) (z ++ r) (whole_taken s (omega arith))
          ∙ a3.same
          ∙ ends (ends_set e key w a2.reach a3.reach) lim side s r (omega arith) (omega arith);
    }

-- CALLS
pub row_call : (lim : Limits) (side : Side) (l d : ℕ) (e : Expr) (es : Exprs) (x y : List Lexeme) → l ≤ 11 → ((r : List Lexeme) → binds (y ++ r) ≤ 11) → Allows lim.most (count es) → Operand lim side 11 d e x → ReadsArguments lim side d es y → Operand lim side l (suc d) (Call e es) (x ++ y)
row_call lim side l d e es x y h v k p q s r i j m =
    let a = p s (y ++ r) (omega arith) (v r) (left lim d s x y m) in
    let n : ℕ = suc a.reach in
    let c = q (have e a.reach) (of_call e) n s r (λ b. ap (λ t. go_if t need (in_call e none n ∷ s)) (m.deep n (omega (arith, a.within)))) k tt (omega (arith, a.within)) (fit_less lim m.deep (omega arith)) in
    record {
      reach = c.reach;
      within = omega (arith, c.within);
      same = ap (runs lim side need s) (append_assoc x y r) ∙ a.same ∙ c.same;
    }

pub row_form : (lim : Limits) (side : Side) (form : Form) (l d : ℕ) (es : Exprs) (x y : List Lexeme) → l ≤ 11 → HasWords side form → form_words form ≡ kinds x → Suits form (count es) → Allows lim.most (count es) → (1 ≤ count es → 1 ≤ d) → ReadsArguments lim side d es y → Operand lim side l (suc d) (Built form es) (x ++ y)
row_form lim side form l d es x y h w q u k g p s r i j m =
    let bounds = least_most side form (count es) w u in
    let c = p (words_next (form_words form)) (of_form form) (here s) s r (λ b. ap (λ o. open_form o s) (form_is side form w)) (k, bounds.1) (both (nat_le (least_parts form) (count es)) (at_most (most_parts form) (count es)) (le_true (least_parts form) (count es) bounds.0) bounds.1) (omega arith) (fit_less lim m.deep (omega arith)) in
    record {
      reach = c.reach;
      within = omega (arith, c.within);
      same =
          ap (runs lim side need s) (append_assoc x y r)
          ∙ words_read lim side form x s (y ++ r) w (parts_fit lim (least_parts form) (count es) (here s) bounds.0 (λ a. m.deep (suc (here s)) (omega (arith, g a)))) q (m.deep (here s) (omega arith)) m.more
          ∙ c.same;
    }

pub row_call_with : (lim : Limits) (side : Side) (b c : Bool) (l d : ℕ) (e : Expr) (es : Exprs) (x y : List Lexeme) → side ≡ Plain → lim.most ≡ None → l ≤ 11 → Operand lim side 11 d e x → ReadsArguments lim side d es y → Operand lim side l (suc d) (Built CallWith (also e es)) (x ++ sign g.Dot b ∷ lexeme (t.Name (codes "call")) c ∷ y)
row_call_with lim Plain b c l d e es x y o k h p q s r i j m =
    let tail : List Lexeme = sign g.Dot b ∷ lexeme (t.Name (codes "call")) c ∷ y in
    let a1 = p s (tail ++ r) (omega arith) (omega arith) (left lim d s x tail m) in
    let n : ℕ = suc a1.reach in
    let a2 = q (call_open e n) (of_call_with e) n s r (λ w. refl) k tt (omega (arith, a1.within)) (fit_less lim m.deep (omega arith)) in
    record {
      reach = a2.reach;
      within = omega (arith, a2.within);
      same =
          ap (runs lim Plain need s) (append_assoc x tail r)
          ∙ a1.same
          ∙ if_holds lim Plain (fits lim n) (member_name e n) s (lexeme (t.Name (codes "call")) c ∷ (y ++ r)) (m.deep n (omega (arith, a1.within)))
          ∙ a2.same;
    }
row_call_with lim Source b c l d e es x y o k h p q s r i j m = absurd (cc)
