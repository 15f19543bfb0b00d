-- Statements are read.
use Rattle.std.proofs.Common.{◌≡◌, ℕ, suc, max, ◌+◌, ◌≤◌, List, [], ◌∷◌, ◌++◌, Bool, true, false, cond, refl, sym, ◌∙◌, ap, subst, arith, append_assoc}
use Rattle.actx_grammar.specs.declared.side.Side.{Side}
use Rattle.actx_grammar.specs.declared.token.Keyword.TheVariants as k
use Rattle.actx_grammar.specs.declared.token.Sign.TheVariants as g
use Rattle.actx_grammar.specs.declared.token.TokenKind.TheVariants as t
use Rattle.actx_grammar.specs.Grammar.{StartsStatement, ends_open}
use Rattle.actx_grammar.specs.Lexemes.{Lexeme, sign, keyword, kinds, SameLine}
use Rattle.actx_grammar.specs.Parser.{move, end_list, with_stmt}
use Rattle.actx_grammar.specs.ParserOperands.{fits_below}
use Rattle.actx_grammar.specs.ParserState.{Limits, fits, of_statement, ListOwner, block, Frame, in_value, in_return, in_throw, in_if, in_while, in_do_test, yes_of, no_of, while_of, do_of, in_list, Mode, start, body_start, have_stmt, let_name, const_name, jump_end, return_next, throw_next, if_open, while_open, refuse, go, levels, here}
use Rattle.actx_grammar.specs.Tree.{Expr, no_expr, some_expr, LetItems, no_lets, ConstItems, no_consts, Stmt, Let, Const, Block, If, While, DoWhile, Break, Continue, Return, Throw, Value, Empty, no_stmt, some_stmt, Stmts, end, next}
use Rattle.actx_laws.proofs.ParseBegins.{BeginsValue}
use Rattle.actx_laws.proofs.ParseBehind.{weaker, yes_ends, closes_no, closes_while, closes, list_ends}
use Rattle.actx_laws.proofs.ParseCover.{start_begins, return_begins, throw_begins}
use Rattle.actx_laws.proofs.ParseItems.{ReadsLets, ReadsConsts}
use Rattle.actx_laws.proofs.ParseReads.{Operand, Behind, owner_levels, list_levels, joined, ReadsStmt, ReadsStmts}
use Rattle.actx_laws.proofs.ParseRuns.{runs, after, Gives, Fit, fit_less, if_holds}

-- LISTS
joined_end : (p : Stmts) → joined p end ≡ p
joined_end end = refl
joined_end (next st ss) = ap (next st) (joined_end ss)

joined_last : (p : Stmts) (st : Stmt) (q : Stmts) → joined (with_stmt p st) q ≡ joined p (next st q)
joined_last end st q = refl
joined_last (next sa ss) st q = ap (next sa) (joined_last ss st q)

pub row_end : (lim : Limits) (side : Side) (d : ℕ) → ReadsStmts lim side d end []
row_end lim side d owner bs n s r b f =
    record { reach = n; within = omega arith; same = ap (λ u. runs lim side start (in_list owner u n ∷ s) r) (sym (joined_end bs)) }

pub row_next : (lim : Limits) (side : Side) (d : ℕ) (st : Stmt) (ss : Stmts) (x y : List Lexeme) → ((r : List Lexeme) → Behind true r → Behind true (y ++ r)) → ReadsStmt lim side start d st x → ReadsStmts lim side d ss y → ReadsStmts lim side d (next st ss) (x ++ y)
row_next lim side d st ss x y v p q owner bs n s r b f =
    let a1 = p (in_list owner bs n ∷ s) (y ++ r) (weaker (ends_open st) (y ++ r) (v r b)) (fit_less lim f (omega (arith, list_levels owner bs n s))) in
    let m : ℕ = max n a1.reach in
    let a2 = q owner (with_stmt bs st) m s r b f in
    record {
      reach = a2.reach;
      within = omega (arith, a1.within, a2.within, list_levels owner bs n s);
      same =
          ap (runs lim side start (in_list owner bs n ∷ s)) (append_assoc x y r)
          ∙ a1.same
          ∙ list_ends lim side owner bs st n a1.reach s (y ++ r) (v r b)
          ∙ a2.same
          ∙ ap (λ u. runs lim side start (in_list owner u a2.reach ∷ s) r) (joined_last bs st ss);
    }

-- BLOCKS
-- a block where a brace opens its list
abbrev pub ReadsBlock : Limits → Side → ℕ → Stmts → List Lexeme → Type 0
ReadsBlock lim side d ss x = (m : Mode) (owner : ListOwner) (n : ℕ) (s : List Frame) (r : List Lexeme) → ((b : Bool) → move lim side m s (t.Sign g.OpenBrace) b ≡ go start (in_list owner end n ∷ s)) → owner_levels owner ≡ 1 → n ≤ suc (d + levels s) → Fit lim (suc (d + levels s))
    → Gives (runs lim side m s (x ++ r)) (suc (d + levels s)) (λ j. after lim side r (end_list owner ss j s))

pub row_braces : (lim : Limits) (side : Side) (b c : Bool) (d : ℕ) (ss : Stmts) (x : List Lexeme) → ReadsStmts lim side d ss x → ReadsBlock lim side d ss (sign g.OpenBrace b ∷ (x ++ sign g.CloseBrace c ∷ []))
row_braces lim side b c d ss x p m owner n s r on one i f =
    let a = p owner end n s (sign g.CloseBrace c ∷ r) tt (fit_less lim f (omega (arith, one))) in
    record {
      reach = a.reach;
      within = omega (arith, a.within, one);
      same =
          ap (after lim side ((x ++ sign g.CloseBrace c ∷ []) ++ r)) (on b)
          ∙ ap (runs lim side start (in_list owner end n ∷ s)) (append_assoc x (sign g.CloseBrace c ∷ []) r)
          ∙ a.same;
    }

pub row_block : (lim : Limits) (side : Side) (d : ℕ) (ss : Stmts) (x : List Lexeme) → ReadsBlock lim side d ss x → ReadsStmt lim side start (suc d) (Block ss) x
row_block lim side d ss x p s r h f =
    let a = p start block (here s) s r (λ b. ap (λ c. cond c (go start (in_list block end (here s) ∷ s)) refuse) (f (here s) (omega arith))) refl (omega arith) (fit_less lim f (omega arith)) in
    record { reach = a.reach; within = omega (arith, a.within); same = a.same }

-- DECLARATIONS
pub row_let : (lim : Limits) (side : Side) (b c : Bool) (d : ℕ) (is : LetItems) (x : List Lexeme) → ReadsLets lim side d is x → ReadsStmt lim side start (suc d) (Let is) (keyword k.Let b ∷ (x ++ sign g.Semicolon c ∷ []))
row_let lim side b c d is x p s r h f =
    let a = p of_statement (here s) s false c r (omega arith) (fit_less lim f (omega arith)) in
    record {
      reach = a.reach;
      within = omega (arith, a.within);
      same =
          if_holds lim side (fits lim (here s)) (let_name of_statement no_lets (here s)) s ((x ++ sign g.Semicolon c ∷ []) ++ r) (f (here s) (omega arith))
          ∙ ap (runs lim side (let_name of_statement no_lets (here s)) s) (append_assoc x (sign g.Semicolon c ∷ []) r)
          ∙ a.same;
    }

pub row_const : (lim : Limits) (side : Side) (b c : Bool) (d : ℕ) (is : ConstItems) (x : List Lexeme) → 1 ≤ d → ReadsConsts lim side d is x → ReadsStmt lim side start (suc d) (Const is) (keyword k.Const b ∷ (x ++ sign g.Semicolon c ∷ []))
row_const lim side b c d is x v p s r h f =
    let a = p of_statement (here s) s false c r (omega arith) (fit_less lim f (omega arith)) in
    record {
      reach = a.reach;
      within = omega (arith, a.within);
      same =
          if_holds lim side (fits_below lim s) (const_name of_statement no_consts (here s)) s ((x ++ sign g.Semicolon c ∷ []) ++ r) (f (suc (here s)) (omega arith))
          ∙ ap (runs lim side (const_name of_statement no_consts (here s)) s) (append_assoc x (sign g.Semicolon c ∷ []) r)
          ∙ a.same;
    }

-- BRANCHES AND LOOPS
-- a test in parentheses, up to what it governs
pub record Tested (lim : Limits) (side : Side) (m : Mode) (d : ℕ) (s : List Frame) (ts : List Lexeme) (f : ℕ → Frame) (r : List Lexeme) : Type 0 where
  pub reach : ℕ
  pub within : reach ≤ suc (d + levels s)
  pub same : runs lim side m s ts ≡ runs lim side body_start (f reach ∷ s) r

if_tested : (lim : Limits) (side : Side) (b c w : Bool) (d : ℕ) (e : Expr) (x : List Lexeme) → 1 ≤ d → Operand lim side 1 d e x → (s : List Frame) (r : List Lexeme) → Fit lim (suc (d + levels s))
    → Tested lim side start d s (keyword k.If b ∷ sign g.OpenParen c ∷ (x ++ sign g.CloseParen w ∷ r)) (yes_of e) r
if_tested lim side b c w d e x v p s r f =
    let a = p (in_if ∷ s) (sign g.CloseParen w ∷ r) (omega arith) (omega arith) (record { deep = fit_less lim f (omega arith); more = refl; starts = tt }) in
    record {
      reach = a.reach;
      within = omega (arith, a.within);
      same = if_holds lim side (fits_below lim s) if_open s (sign g.OpenParen c ∷ (x ++ sign g.CloseParen w ∷ r)) (f (suc (here s)) (omega arith)) ∙ a.same;
    }

pub row_if : (lim : Limits) (side : Side) (b c w : Bool) (d : ℕ) (e : Expr) (st : Stmt) (x y : List Lexeme) → 1 ≤ d → Operand lim side 1 d e x → ReadsStmt lim side body_start d st y
    → ReadsStmt lim side start (suc d) (If e st no_stmt) (keyword k.If b ∷ sign g.OpenParen c ∷ (x ++ sign g.CloseParen w ∷ y))
row_if lim side b c w d e st x y v p q s r h f =
    let a1 = if_tested lim side b c w d e x v p s (y ++ r) (fit_less lim f (omega arith)) in
    let a2 = q (yes_of e a1.reach ∷ s) r (weaker (ends_open st) r h) (fit_less lim f (omega arith)) in
    record {
      reach = max a1.reach a2.reach;
      within = omega (arith, a1.within, a2.within);
      same =
          ap (λ z. runs lim side start s (keyword k.If b ∷ sign g.OpenParen c ∷ z)) (append_assoc x (sign g.CloseParen w ∷ y) r)
          ∙ a1.same
          ∙ a2.same
          ∙ yes_ends lim side e st a1.reach a2.reach s r h;
    }

pub row_if_else : (lim : Limits) (side : Side) (b c w l : Bool) (d : ℕ) (e : Expr) (st dt : Stmt) (x y z : List Lexeme) → 1 ≤ d → ends_open st ≡ false → Operand lim side 1 d e x → ReadsStmt lim side body_start d st y → ReadsStmt lim side body_start d dt z
    → ReadsStmt lim side start (suc d) (If e st (some_stmt dt)) (keyword k.If b ∷ sign g.OpenParen c ∷ (x ++ sign g.CloseParen w ∷ (y ++ keyword k.Else l ∷ z)))
row_if_else lim side b c w l d e st dt x y z v o p q o2 s r h f =
    let tail : List Lexeme = keyword k.Else l ∷ (z ++ r) in
    let a1 = if_tested lim side b c w d e x v p s (y ++ tail) (fit_less lim f (omega arith)) in
    let a2 = q (yes_of e a1.reach ∷ s) tail (subst (λ u. Behind u tail) (sym o) tt) (fit_less lim f (omega arith)) in
    let m : ℕ = max a1.reach a2.reach in
    let a3 = o2 (no_of e st m ∷ s) r h (fit_less lim f (omega arith)) in
    record {
      reach = max m a3.reach;
      within = omega (arith, a1.within, a2.within, a3.within);
      same =
          ap (λ u. runs lim side start s (keyword k.If b ∷ sign g.OpenParen c ∷ u)) (append_assoc x (sign g.CloseParen w ∷ (y ++ keyword k.Else l ∷ z)) r)
          ∙ ap (λ u. runs lim side start s (keyword k.If b ∷ sign g.OpenParen c ∷ (x ++ sign g.CloseParen w ∷ u))) (append_assoc y (keyword k.Else l ∷ z) r)
          ∙ a1.same
          ∙ a2.same
          ∙ a3.same
          ∙ closes (closes_no e st dt m a3.reach) lim side s r;
    }

pub row_while : (lim : Limits) (side : Side) (b c w : Bool) (d : ℕ) (e : Expr) (st : Stmt) (x y : List Lexeme) → 1 ≤ d → Operand lim side 1 d e x → ReadsStmt lim side body_start d st y
    → ReadsStmt lim side start (suc d) (While e st) (keyword k.While b ∷ sign g.OpenParen c ∷ (x ++ sign g.CloseParen w ∷ y))
row_while lim side b c w d e st x y v p q s r h f =
    let a1 = p (in_while ∷ s) (sign g.CloseParen w ∷ (y ++ r)) (omega arith) (omega arith) (record { deep = fit_less lim f (omega arith); more = refl; starts = tt }) in
    let a2 = q (while_of e a1.reach ∷ s) r h (fit_less lim f (omega arith)) in
    record {
      reach = max a1.reach a2.reach;
      within = omega (arith, a1.within, a2.within);
      same =
          ap (λ z. runs lim side start s (keyword k.While b ∷ sign g.OpenParen c ∷ z)) (append_assoc x (sign g.CloseParen w ∷ y) r)
          ∙ if_holds lim side (fits_below lim s) while_open s (sign g.OpenParen c ∷ (x ++ sign g.CloseParen w ∷ (y ++ r))) (f (suc (here s)) (omega arith))
          ∙ a1.same
          ∙ a2.same
          ∙ closes (closes_while e st a1.reach a2.reach) lim side s r;
    }

pub row_do_while : (lim : Limits) (side : Side) (b c w l w2 : Bool) (d : ℕ) (e : Expr) (st : Stmt) (x y : List Lexeme) → 1 ≤ d → ReadsStmt lim side body_start d st x → Operand lim side 1 d e y
    → ReadsStmt lim side start (suc d) (DoWhile st e) (keyword k.Do b ∷ (x ++ keyword k.While c ∷ sign g.OpenParen w ∷ (y ++ sign g.CloseParen l ∷ sign g.Semicolon w2 ∷ [])))
row_do_while lim side b c w l w2 d e st x y v q p s r h f =
    let tail : List Lexeme = sign g.CloseParen l ∷ sign g.Semicolon w2 ∷ [] in
    let a1 = q (do_of ∷ s) (keyword k.While c ∷ sign g.OpenParen w ∷ (y ++ (tail ++ r))) tt (fit_less lim f (omega arith)) in
    let a2 = p (in_do_test st a1.reach ∷ s) (tail ++ r) (omega arith) (omega arith) (record { deep = fit_less lim f (omega arith); more = refl; starts = tt }) in
    record {
      reach = max a1.reach a2.reach;
      within = omega (arith, a1.within, a2.within);
      same =
          if_holds lim side (fits_below lim s) body_start (do_of ∷ s) ((x ++ keyword k.While c ∷ sign g.OpenParen w ∷ (y ++ tail)) ++ r) (f (suc (here s)) (omega arith))
          ∙ ap (runs lim side body_start (do_of ∷ s)) (append_assoc x (keyword k.While c ∷ sign g.OpenParen w ∷ (y ++ tail)) r)
          ∙ ap (λ z. runs lim side body_start (do_of ∷ s) (x ++ keyword k.While c ∷ sign g.OpenParen w ∷ z)) (append_assoc y tail r)
          ∙ a1.same
          ∙ a2.same;
    }

-- JUMPS
pub row_break : (lim : Limits) (side : Side) (b c : Bool) (d : ℕ) → ReadsStmt lim side start (suc d) Break (keyword k.Break b ∷ sign g.Semicolon c ∷ [])
row_break lim side b c d s r h f =
    record { reach = here s; within = omega arith; same = if_holds lim side (fits lim (here s)) (jump_end Break) s (sign g.Semicolon c ∷ r) (f (here s) (omega arith)) }

pub row_continue : (lim : Limits) (side : Side) (b c : Bool) (d : ℕ) → ReadsStmt lim side start (suc d) Continue (keyword k.Continue b ∷ sign g.Semicolon c ∷ [])
row_continue lim side b c d s r h f =
    record { reach = here s; within = omega arith; same = if_holds lim side (fits lim (here s)) (jump_end Continue) s (sign g.Semicolon c ∷ r) (f (here s) (omega arith)) }

pub row_return_nothing : (lim : Limits) (side : Side) (b c : Bool) (d : ℕ) → ReadsStmt lim side start (suc d) (Return no_expr) (keyword k.Return b ∷ sign g.Semicolon c ∷ [])
row_return_nothing lim side b c d s r h f =
    record { reach = here s; within = omega arith; same = if_holds lim side (fits lim (here s)) return_next s (sign g.Semicolon c ∷ r) (f (here s) (omega arith)) }

pub row_return : (lim : Limits) (side : Side) (b c : Bool) (d : ℕ) (e : Expr) (x : List Lexeme) → BeginsValue (kinds x) → SameLine x → Operand lim side 1 d e x → ReadsStmt lim side start (suc d) (Return (some_expr e)) (keyword k.Return b ∷ (x ++ sign g.Semicolon c ∷ []))
row_return lim side b c d e x v i p s r h f =
    let a = p (in_return ∷ s) (sign g.Semicolon c ∷ r) (omega arith) (omega arith) (record { deep = fit_less lim f (omega arith); more = refl; starts = tt }) in
    record {
      reach = a.reach;
      within = omega (arith, a.within);
      same =
          if_holds lim side (fits lim (here s)) return_next s ((x ++ sign g.Semicolon c ∷ []) ++ r) (f (here s) (omega arith))
          ∙ ap (runs lim side return_next s) (append_assoc x (sign g.Semicolon c ∷ []) r)
          ∙ return_begins lim side s x (sign g.Semicolon c ∷ r) v i
          ∙ a.same;
    }

pub row_throw : (lim : Limits) (side : Side) (b c : Bool) (d : ℕ) (e : Expr) (x : List Lexeme) → 1 ≤ d → BeginsValue (kinds x) → SameLine x → Operand lim side 1 d e x → ReadsStmt lim side start (suc d) (Throw e) (keyword k.Throw b ∷ (x ++ sign g.Semicolon c ∷ []))
row_throw lim side b c d e x w v i p s r h f =
    let a = p (in_throw ∷ s) (sign g.Semicolon c ∷ r) (omega arith) (omega arith) (record { deep = fit_less lim f (omega arith); more = refl; starts = tt }) in
    record {
      reach = a.reach;
      within = omega (arith, a.within);
      same =
          if_holds lim side (fits_below lim s) throw_next s ((x ++ sign g.Semicolon c ∷ []) ++ r) (f (suc (here s)) (omega arith))
          ∙ ap (runs lim side throw_next s) (append_assoc x (sign g.Semicolon c ∷ []) r)
          ∙ throw_begins lim side s x (sign g.Semicolon c ∷ r) v i
          ∙ a.same;
    }

-- EXPRESSIONS
pub row_value : (lim : Limits) (side : Side) (c : Bool) (d : ℕ) (e : Expr) (x : List Lexeme) → 1 ≤ d → BeginsValue (kinds x) → StartsStatement x → Operand lim side 1 d e x → ReadsStmt lim side start (suc d) (Value e) (x ++ sign g.Semicolon c ∷ [])
row_value lim side c d e x w v i p s r h f =
    let a = p (in_value ∷ s) (sign g.Semicolon c ∷ r) (omega arith) (omega arith) (record { deep = fit_less lim f (omega arith); more = refl; starts = i }) in
    record {
      reach = a.reach;
      within = omega (arith, a.within);
      same =
          ap (runs lim side start s) (append_assoc x (sign g.Semicolon c ∷ []) r)
          ∙ start_begins lim side s x (sign g.Semicolon c ∷ r) v i (f (here s) (omega arith)) (f (here (in_value ∷ s)) (omega arith))
          ∙ a.same;
    }

pub row_empty : (lim : Limits) (side : Side) (b : Bool) (d : ℕ) → ReadsStmt lim side start (suc d) Empty (sign g.Semicolon b ∷ [])
row_empty lim side b d s r h f =
    record { reach = here s; within = omega arith; same = if_holds lim side (fits lim (here s)) (have_stmt Empty (here s)) s r (f (here s) (omega arith)) }
