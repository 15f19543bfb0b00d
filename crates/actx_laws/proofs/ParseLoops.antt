-- Statements of several parts are read: for, try and switch.
use Rattle.std.proofs.Common.{◌≡◌, ℕ, suc, max, ◌+◌, ◌≤◌, List, [], ◌∷◌, ◌++◌, Bool, true, false, Option, Some, None, refl, sym, ◌∙◌, ap, arith, append_assoc}
use Rattle.std.specs.Prelude.{codes}
use Rattle.actx_grammar.specs.declared.side.Side.{Side}
use Rattle.actx_grammar.specs.declared.side.Side.TheVariants.{Source, Plain}
use Rattle.actx_grammar.specs.declared.token.Keyword.TheVariants as k
use Rattle.actx_grammar.specs.declared.token.Sign.TheVariants as g
use Rattle.actx_grammar.specs.declared.token.TokenKind.TheVariants as t
use Rattle.actx_grammar.specs.Lexemes.{Lexeme, sign, keyword, lexeme, kinds}
use Rattle.actx_grammar.specs.Names.{IsBinding}
use Rattle.actx_grammar.specs.Parser.{with_clause}
use Rattle.actx_grammar.specs.ParserOperands.{is_binding, fits_below}
use Rattle.actx_grammar.specs.ParserState.{Limits, fits, of_for, tried, caught, finally, clause_of, Frame, in_for_init, in_for_test, in_for_update, in_for_over, in_switch, for_body, for_of_body, in_list, start, body_start, have_stmt, need, let_behind, const_behind, for_open, for_next, for_test, for_update, try_open, catch_next, catch_open, catch_close, catch_block, finally_next, finally_open, switch_open, clause_next, levels, here}
use Rattle.actx_grammar.specs.Tree.{Expr, MaybeExpr, no_expr, some_expr, LetItems, no_lets, ConstItems, no_consts, Init, init_nothing, init_let, init_const, init_value, Stmt, For, ForOf, Try, Switch, Catch, no_catch, catch, no_last, last, Clauses, no_clauses, clause, Stmts, end}
use Rattle.actx_laws.proofs.ParseBegins.{BeginsValue}
use Rattle.actx_laws.proofs.ParseBehind.{closes_for, closes_for_of, closes, finally_absent}
use Rattle.actx_laws.proofs.ParseCover.{init_begins, test_begins, update_begins}
use Rattle.actx_laws.proofs.ParseItems.{ReadsLets, ReadsConsts}
use Rattle.actx_laws.proofs.ParseNames.{binding_passes}
use Rattle.actx_laws.proofs.ParseReads.{Operand, Behind, ReadsStmt, ReadsStmts}
use Rattle.actx_laws.proofs.ParseRuns.{runs, Gives, Fit, fit_less, if_holds}
use Rattle.actx_laws.proofs.ParseStatements.{ReadsBlock}

-- FOR
abbrev pub ReadsInit : Limits → Side → ℕ → Init → List Lexeme → Type 0
ReadsInit lim side d i w = (s : List Frame) (b : Bool) (r : List Lexeme) → Fit lim (suc (d + levels s)) → Gives (runs lim side for_next s (w ++ sign g.Semicolon b ∷ r)) (suc (d + levels s)) (λ j. runs lim side (for_test i j) s r)

abbrev pub ReadsTest : Limits → Side → ℕ → MaybeExpr → List Lexeme → Type 0
ReadsTest lim side d v x = (i : Init) (n : ℕ) (s : List Frame) (b : Bool) (r : List Lexeme) → n ≤ suc (d + levels s) → Fit lim (suc (d + levels s)) → Gives (runs lim side (for_test i n) s (x ++ sign g.Semicolon b ∷ r)) (suc (d + levels s)) (λ j. runs lim side (for_update i v j) s r)

abbrev pub ReadsUpdate : Limits → Side → ℕ → MaybeExpr → List Lexeme → Type 0
ReadsUpdate lim side d v x = (i : Init) (test : MaybeExpr) (n : ℕ) (s : List Frame) (b : Bool) (r : List Lexeme) → n ≤ suc (d + levels s) → Fit lim (suc (d + levels s)) → Gives (runs lim side (for_update i test n) s (x ++ sign g.CloseParen b ∷ r)) (suc (d + levels s)) (λ j. runs lim side body_start (for_body i test v j ∷ s) r)

pub row_init_nothing : (lim : Limits) (side : Side) (d : ℕ) → ReadsInit lim side d init_nothing []
row_init_nothing lim side d s b r f = record { reach = here s; within = omega arith; same = refl }

pub row_init_let : (lim : Limits) (side : Side) (c : Bool) (d : ℕ) (is : LetItems) (x : List Lexeme) → ReadsLets lim side d is x → ReadsInit lim side d (init_let is) (keyword k.Let c ∷ x)
row_init_let lim side c d is x p s b r f = let a = p of_for (here s) s false b r (omega arith) f in record { reach = a.reach; within = a.within; same = a.same }

pub row_init_const : (lim : Limits) (side : Side) (c : Bool) (d : ℕ) (is : ConstItems) (x : List Lexeme) → ReadsConsts lim side d is x → ReadsInit lim side d (init_const is) (keyword k.Const c ∷ x)
row_init_const lim side c d is x p s b r f = let a = p of_for (here s) s false b r (omega arith) f in record { reach = a.reach; within = a.within; same = a.same }

pub row_init_value : (lim : Limits) (side : Side) (d : ℕ) (e : Expr) (x : List Lexeme) → BeginsValue (kinds x) → Operand lim side 1 d e x → ReadsInit lim side d (init_value e) x
row_init_value lim side d e x v p s b r f =
    let a = p (in_for_init ∷ s) (sign g.Semicolon b ∷ r) (omega arith) (omega arith) (record { deep = fit_less lim f (omega arith); more = refl; starts = tt }) in
    record { reach = a.reach; within = omega (arith, a.within); same = init_begins lim side s x (sign g.Semicolon b ∷ r) v ∙ a.same }

pub row_test_absent : (lim : Limits) (side : Side) (d : ℕ) → ReadsTest lim side d no_expr []
row_test_absent lim side d i n s b r h f = record { reach = n; within = h; same = refl }

pub row_test : (lim : Limits) (side : Side) (d : ℕ) (e : Expr) (x : List Lexeme) → BeginsValue (kinds x) → Operand lim side 1 d e x → ReadsTest lim side d (some_expr e) x
row_test lim side d e x v p i n s b r h f =
    let a = p (in_for_test i n ∷ s) (sign g.Semicolon b ∷ r) (omega arith) (omega arith) (record { deep = fit_less lim f (omega arith); more = refl; starts = tt }) in
    record { reach = max n a.reach; within = omega (arith, a.within); same = test_begins lim side i n s x (sign g.Semicolon b ∷ r) v ∙ a.same }

pub row_update_absent : (lim : Limits) (side : Side) (d : ℕ) → ReadsUpdate lim side d no_expr []
row_update_absent lim side d i test n s b r h f = record { reach = n; within = h; same = refl }

pub row_update : (lim : Limits) (side : Side) (d : ℕ) (e : Expr) (x : List Lexeme) → BeginsValue (kinds x) → Operand lim side 1 d e x → ReadsUpdate lim side d (some_expr e) x
row_update lim side d e x v p i test n s b r h f =
    let a = p (in_for_update i test n ∷ s) (sign g.CloseParen b ∷ r) (omega arith) (omega arith) (record { deep = fit_less lim f (omega arith); more = refl; starts = tt }) in
    record { reach = max n a.reach; within = omega (arith, a.within); same = update_begins lim side i test n s x (sign g.CloseParen b ∷ r) v ∙ a.same }

pub row_for : (lim : Limits) (side : Side) (b c l m o : Bool) (d : ℕ) (i : Init) (test update : MaybeExpr) (st : Stmt) (w x y z : List Lexeme) → 1 ≤ d → ReadsInit lim side d i w → ReadsTest lim side d test x → ReadsUpdate lim side d update y → ReadsStmt lim side body_start d st z
    → ReadsStmt lim side start (suc d) (For i test update st) (keyword k.For b ∷ sign g.OpenParen c ∷ (w ++ sign g.Semicolon l ∷ (x ++ sign g.Semicolon m ∷ (y ++ sign g.CloseParen o ∷ z))))
row_for lim side b c l m o d i test update st w x y z v p1 p2 p3 p4 s r h f =
    let fit : Fit lim (suc (d + levels s)) = fit_less lim f (omega arith) in
    let t3 : List Lexeme = sign g.CloseParen o ∷ z in
    let t2 : List Lexeme = sign g.Semicolon m ∷ (y ++ t3) in
    let t1 : List Lexeme = sign g.Semicolon l ∷ (x ++ t2) in
    let a1 = p1 s l (x ++ sign g.Semicolon m ∷ (y ++ (t3 ++ r))) fit in
    let a2 = p2 i a1.reach s m (y ++ (t3 ++ r)) a1.within fit in
    let a3 = p3 i test a2.reach s o (z ++ r) a2.within fit in
    let a4 = p4 (for_body i test update a3.reach ∷ s) r h (fit_less lim f (omega arith)) in
    record {
      reach = max a3.reach a4.reach;
      within = omega (arith, a3.within, a4.within);
      same =
          if_holds lim side (fits_below lim s) for_open s (sign g.OpenParen c ∷ ((w ++ t1) ++ r)) (f (suc (here s)) (omega arith))
          ∙ ap (runs lim side for_next s) (append_assoc w t1 r)
          ∙ ap (λ u. runs lim side for_next s (w ++ sign g.Semicolon l ∷ u)) (append_assoc x t2 r)
          ∙ ap (λ u. runs lim side for_next s (w ++ sign g.Semicolon l ∷ (x ++ sign g.Semicolon m ∷ u))) (append_assoc y t3 r)
          ∙ a1.same
          ∙ a2.same
          ∙ a3.same
          ∙ a4.same
          ∙ closes (closes_for i test update st a3.reach a4.reach) lim side s r;
    }

pub row_for_of_let : (lim : Limits) (side : Side) (b c l m o n : Bool) (d : ℕ) (x : List ℕ) (e : Expr) (st : Stmt) (y z : List Lexeme) → 1 ≤ d → side ≡ Source → IsBinding side x → Operand lim side 1 d e y → ReadsStmt lim side body_start d st z
    → ReadsStmt lim side start (suc d) (ForOf false x e st) (keyword k.For b ∷ sign g.OpenParen c ∷ keyword k.Let l ∷ lexeme (t.Name x) m ∷ lexeme (t.Name (codes "of")) o ∷ (y ++ sign g.CloseParen n ∷ z))
row_for_of_let lim Source b c l m o n d x e st y z v q i p1 p2 s r h f =
    let a1 = p1 (in_for_over false x ∷ s) (sign g.CloseParen n ∷ (z ++ r)) (omega arith) (omega arith) (record { deep = fit_less lim f (omega arith); more = refl; starts = tt }) in
    let a2 = p2 (for_of_body false x e a1.reach ∷ s) r h (fit_less lim f (omega arith)) in
    record {
      reach = max a1.reach a2.reach;
      within = omega (arith, a1.within, a2.within);
      same =
          if_holds lim Source (fits_below lim s) for_open s (sign g.OpenParen c ∷ keyword k.Let l ∷ lexeme (t.Name x) m ∷ lexeme (t.Name (codes "of")) o ∷ ((y ++ sign g.CloseParen n ∷ z) ++ r)) (f (suc (here s)) (omega arith))
          ∙ if_holds lim Source (is_binding Source x) (let_behind of_for no_lets x (here s)) s (lexeme (t.Name (codes "of")) o ∷ ((y ++ sign g.CloseParen n ∷ z) ++ r)) (binding_passes i)
          ∙ ap (runs lim Source need (in_for_over false x ∷ s)) (append_assoc y (sign g.CloseParen n ∷ z) r)
          ∙ a1.same
          ∙ a2.same
          ∙ closes (closes_for_of false x e st a1.reach a2.reach) lim Source s r;
    }
row_for_of_let lim Plain b c l m o n d x e st y z v q i p1 p2 s r h f = absurd (cc)

pub row_for_of_const : (lim : Limits) (side : Side) (b c l m o n : Bool) (d : ℕ) (x : List ℕ) (e : Expr) (st : Stmt) (y z : List Lexeme) → 1 ≤ d → side ≡ Source → IsBinding side x → Operand lim side 1 d e y → ReadsStmt lim side body_start d st z
    → ReadsStmt lim side start (suc d) (ForOf true x e st) (keyword k.For b ∷ sign g.OpenParen c ∷ keyword k.Const l ∷ lexeme (t.Name x) m ∷ lexeme (t.Name (codes "of")) o ∷ (y ++ sign g.CloseParen n ∷ z))
row_for_of_const lim Source b c l m o n d x e st y z v q i p1 p2 s r h f =
    let a1 = p1 (in_for_over true x ∷ s) (sign g.CloseParen n ∷ (z ++ r)) (omega arith) (omega arith) (record { deep = fit_less lim f (omega arith); more = refl; starts = tt }) in
    let a2 = p2 (for_of_body true x e a1.reach ∷ s) r h (fit_less lim f (omega arith)) in
    record {
      reach = max a1.reach a2.reach;
      within = omega (arith, a1.within, a2.within);
      same =
          if_holds lim Source (fits_below lim s) for_open s (sign g.OpenParen c ∷ keyword k.Const l ∷ lexeme (t.Name x) m ∷ lexeme (t.Name (codes "of")) o ∷ ((y ++ sign g.CloseParen n ∷ z) ++ r)) (f (suc (here s)) (omega arith))
          ∙ if_holds lim Source (is_binding Source x) (const_behind of_for no_consts x (here s)) s (lexeme (t.Name (codes "of")) o ∷ ((y ++ sign g.CloseParen n ∷ z) ++ r)) (binding_passes i)
          ∙ ap (runs lim Source need (in_for_over true x ∷ s)) (append_assoc y (sign g.CloseParen n ∷ z) r)
          ∙ a1.same
          ∙ a2.same
          ∙ closes (closes_for_of true x e st a1.reach a2.reach) lim Source s r;
    }
row_for_of_const lim Plain b c l m o n d x e st y z v q i p1 p2 s r h f = absurd (cc)

-- TRY
abbrev pub ReadsCatch : Limits → Side → ℕ → Catch → List Lexeme → Type 0
ReadsCatch lim side d c y = (bs : Stmts) (n : ℕ) (s : List Frame) (r : List Lexeme) → n ≤ suc (d + levels s) → Fit lim (suc (d + levels s)) → Gives (runs lim side (catch_next bs n) s (y ++ r)) (suc (d + levels s)) (λ j. runs lim side (finally_next bs c j) s r)

pub row_catch : (lim : Limits) (side : Side) (b : Bool) (d : ℕ) (ss : Stmts) (x : List Lexeme) → ReadsBlock lim side d ss x → ReadsCatch lim side d (catch None ss) (keyword k.Catch b ∷ x)
row_catch lim side b d ss x p bs n s r h f =
    let a = p (catch_open bs n) (caught bs None) n s r (λ c. refl) refl h f in
    record { reach = a.reach; within = a.within; same = a.same }

pub row_catch_name : (lim : Limits) (side : Side) (b c l m : Bool) (d : ℕ) (x : List ℕ) (ss : Stmts) (y : List Lexeme) → IsBinding side x → ReadsBlock lim side d ss y → ReadsCatch lim side d (catch (Some x) ss) (keyword k.Catch b ∷ sign g.OpenParen c ∷ lexeme (t.Name x) l ∷ sign g.CloseParen m ∷ y)
row_catch_name lim side b c l m d x ss y i p bs n s r h f =
    let a = p (catch_block bs x n) (caught bs (Some x)) n s r (λ w. refl) refl h f in
    record { reach = a.reach; within = a.within; same = if_holds lim side (is_binding side x) (catch_close bs x n) s (sign g.CloseParen m ∷ (y ++ r)) (binding_passes i) ∙ a.same }

-- the block of a try
try_opens : (lim : Limits) (side : Side) (b : Bool) (d : ℕ) (ss : Stmts) (x : List Lexeme) → ReadsBlock lim side d ss x → (s : List Frame) (r : List Lexeme) → Fit lim (suc (d + levels s)) → Gives (runs lim side start s (keyword k.Try b ∷ (x ++ r))) (suc (d + levels s)) (λ j. runs lim side (catch_next ss j) s r)
try_opens lim side b d ss x p s r f =
    let a = p try_open tried (here s) s r (λ c. refl) refl (omega arith) f in
    record { reach = a.reach; within = a.within; same = if_holds lim side (fits lim (here s)) try_open s (x ++ r) (f (here s) (omega arith)) ∙ a.same }

pub row_try_catch : (lim : Limits) (side : Side) (b : Bool) (d : ℕ) (bs : Stmts) (c : Catch) (x y : List Lexeme) → ReadsBlock lim side d bs x → ReadsCatch lim side d c y → ReadsStmt lim side start (suc d) (Try bs c no_last) (keyword k.Try b ∷ (x ++ y))
row_try_catch lim side b d bs c x y p q s r h f =
    let fit : Fit lim (suc (d + levels s)) = fit_less lim f (omega arith) in
    let a1 = try_opens lim side b d bs x p s (y ++ r) fit in
    let a2 = q bs a1.reach s r a1.within fit in
    record {
      reach = a2.reach;
      within = omega (arith, a2.within);
      same =
          ap (λ z. runs lim side start s (keyword k.Try b ∷ z)) (append_assoc x y r)
          ∙ a1.same
          ∙ a2.same
          ∙ finally_absent lim side bs c a2.reach s r false h;
    }

pub row_try_finally : (lim : Limits) (side : Side) (b c : Bool) (d : ℕ) (bs ls : Stmts) (x y : List Lexeme) → ReadsBlock lim side d bs x → ReadsBlock lim side d ls y → ReadsStmt lim side start (suc d) (Try bs no_catch (last ls)) (keyword k.Try b ∷ (x ++ keyword k.Finally c ∷ y))
row_try_finally lim side b c d bs ls x y p q s r h f =
    let fit : Fit lim (suc (d + levels s)) = fit_less lim f (omega arith) in
    let a1 = try_opens lim side b d bs x p s (keyword k.Finally c ∷ (y ++ r)) fit in
    let a2 = q (finally_open bs no_catch a1.reach) (finally bs no_catch) a1.reach s r (λ w. refl) refl a1.within fit in
    record {
      reach = a2.reach;
      within = omega (arith, a2.within);
      same =
          ap (λ z. runs lim side start s (keyword k.Try b ∷ z)) (append_assoc x (keyword k.Finally c ∷ y) r)
          ∙ a1.same
          ∙ a2.same;
    }

pub row_try_both : (lim : Limits) (side : Side) (b l : Bool) (d : ℕ) (bs ls : Stmts) (c : Catch) (x y z : List Lexeme) → ReadsBlock lim side d bs x → ReadsCatch lim side d c y → ReadsBlock lim side d ls z → ReadsStmt lim side start (suc d) (Try bs c (last ls)) (keyword k.Try b ∷ (x ++ y ++ keyword k.Finally l ∷ z))
row_try_both lim side b l d bs ls c x y z p q o s r h f =
    let fit : Fit lim (suc (d + levels s)) = fit_less lim f (omega arith) in
    let tail : List Lexeme = keyword k.Finally l ∷ z in
    let a1 = try_opens lim side b d bs x p s (y ++ (tail ++ r)) fit in
    let a2 = q bs a1.reach s (tail ++ r) a1.within fit in
    let a3 = o (finally_open bs c a2.reach) (finally bs c) a2.reach s r (λ w. refl) refl a2.within fit in
    record {
      reach = a3.reach;
      within = omega (arith, a3.within);
      same =
          ap (λ u. runs lim side start s (keyword k.Try b ∷ u)) (append_assoc (x ++ y) tail r ∙ append_assoc x y (tail ++ r))
          ∙ a1.same
          ∙ a2.same
          ∙ a3.same;
    }

-- SWITCH
-- clauses behind others
abbrev pub chained : Clauses → Clauses → Clauses
chained no_clauses cs = cs
chained (clause n ss ds) cs = clause n ss (chained ds cs)

chained_none : (ds : Clauses) → chained ds no_clauses ≡ ds
chained_none no_clauses = refl
chained_none (clause n ss ds) = ap (clause n ss) (chained_none ds)

chained_last : (ds : Clauses) (n : Option ℕ) (ss : Stmts) (cs : Clauses) → chained (with_clause ds n ss) cs ≡ chained ds (clause n ss cs)
chained_last no_clauses n ss cs = refl
chained_last (clause m rs ds) n ss cs = ap (clause m rs) (chained_last ds n ss cs)

abbrev pub ReadsClauses : Limits → Side → ℕ → Clauses → List Lexeme → Type 0
ReadsClauses lim side d cs x = (e : Expr) (ds : Clauses) (n : ℕ) (s : List Frame) (b : Bool) (r : List Lexeme) → n ≤ suc (d + levels s) → Fit lim (suc (d + levels s))
    → Gives (runs lim side (clause_next e ds n) s (x ++ sign g.CloseBrace b ∷ r)) (suc (d + levels s)) (λ j. runs lim side (have_stmt (Switch e (chained ds cs)) j) s r)

pub row_no_clauses : (lim : Limits) (side : Side) (d : ℕ) → ReadsClauses lim side d no_clauses []
row_no_clauses lim side d e ds n s b r h f =
    record { reach = n; within = h; same = ap (λ z. runs lim side (have_stmt (Switch e z) n) s r) (sym (chained_none ds)) }

pub row_default : (lim : Limits) (side : Side) (c l : Bool) (d : ℕ) (ss : Stmts) (x : List Lexeme) → ReadsStmts lim side d ss x → ReadsClauses lim side d (clause None ss no_clauses) (keyword k.Default c ∷ sign g.Colon l ∷ x)
row_default lim side c l d ss x p e ds n s b r h f =
    let a = p (clause_of e ds None) end n s (sign g.CloseBrace b ∷ r) tt (fit_less lim f (omega arith)) in
    record {
      reach = a.reach;
      within = omega (arith, a.within);
      same = a.same ∙ ap (λ z. runs lim side (have_stmt (Switch e z) a.reach) s r) (sym (chained_none (with_clause ds None ss)) ∙ chained_last ds None ss no_clauses);
    }

pub row_case : (lim : Limits) (side : Side) (c l m : Bool) (d number : ℕ) (ss : Stmts) (cs : Clauses) (x y : List Lexeme) → ((b : Bool) (r : List Lexeme) → Behind true (y ++ sign g.CloseBrace b ∷ r))
    → ((e : Expr) (ds : Clauses) (n : ℕ) (s : List Frame) (b : Bool) (r : List Lexeme) → runs lim side start (in_list (clause_of e ds (Some number)) ss n ∷ s) (y ++ sign g.CloseBrace b ∷ r) ≡ runs lim side (clause_next e (with_clause ds (Some number) ss) n) s (y ++ sign g.CloseBrace b ∷ r))
    → ReadsStmts lim side d ss x → ReadsClauses lim side d cs y → ReadsClauses lim side d (clause (Some number) ss cs) (keyword k.Case c ∷ lexeme (t.Number number) l ∷ sign g.Colon m ∷ (x ++ y))
row_case lim side c l m d number ss cs x y v w p q e ds n s b r h f =
    let last : List Lexeme = sign g.CloseBrace b ∷ r in
    let a1 = p (clause_of e ds (Some number)) end n s (y ++ last) (v b r) (fit_less lim f (omega arith)) in
    let a2 = q e (with_clause ds (Some number) ss) a1.reach s b r (omega (arith, a1.within)) f in
    record {
      reach = a2.reach;
      within = a2.within;
      same =
          ap (runs lim side start (in_list (clause_of e ds (Some number)) end n ∷ s)) (append_assoc x y last)
          ∙ a1.same
          ∙ w e ds a1.reach s b r
          ∙ a2.same
          ∙ ap (λ z. runs lim side (have_stmt (Switch e z) a2.reach) s r) (chained_last ds (Some number) ss cs);
    }

pub row_switch : (lim : Limits) (side : Side) (b c l m o : Bool) (d : ℕ) (e : Expr) (cs : Clauses) (x y : List Lexeme) → 1 ≤ d → side ≡ Plain → Operand lim side 1 d e x → ReadsClauses lim side d cs y
    → ReadsStmt lim side start (suc d) (Switch e cs) (keyword k.Switch b ∷ sign g.OpenParen c ∷ (x ++ sign g.CloseParen l ∷ sign g.OpenBrace m ∷ (y ++ sign g.CloseBrace o ∷ [])))
row_switch lim Plain b c l m o d e cs x y v i p q s r h f =
    let tail : List Lexeme = sign g.CloseParen l ∷ sign g.OpenBrace m ∷ (y ++ sign g.CloseBrace o ∷ []) in
    let a1 = p (in_switch ∷ s) (tail ++ r) (omega arith) (omega arith) (record { deep = fit_less lim f (omega arith); more = refl; starts = tt }) in
    let a2 = q e no_clauses a1.reach s o r (omega (arith, a1.within)) (fit_less lim f (omega arith)) in
    record {
      reach = a2.reach;
      within = omega (arith, a2.within);
      same =
          if_holds lim Plain (fits_below lim s) switch_open s (sign g.OpenParen c ∷ ((x ++ tail) ++ r)) (f (suc (here s)) (omega arith))
          ∙ ap (runs lim Plain need (in_switch ∷ s)) (append_assoc x tail r)
          ∙ a1.same
          ∙ ap (runs lim Plain (clause_next e no_clauses a1.reach) s) (append_assoc y (sign g.CloseBrace o ∷ []) r)
          ∙ a2.same;
    }
row_switch lim Source b c l m o d e cs x y v i p q s r h f = absurd (cc)
