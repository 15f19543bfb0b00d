-- Functions with their bodies are read.
use Rattle.std.proofs.Common.{ℕ, suc, ◌≤◌, List, [], ◌∷◌, ◌++◌, Bool, false, Option, Some, None, refl, ◌∙◌, ap, subst, arith, append_assoc}
use Rattle.actx_grammar.specs.declared.operators.FunctionKind.{FunctionKind}
use Rattle.actx_grammar.specs.declared.side.Side.{Side}
use Rattle.actx_grammar.specs.declared.token.Sign.TheVariants as g
use Rattle.actx_grammar.specs.Grammar.{StartsBody, SpellsParams, SpellsHead, SpellsArrow}
use Rattle.actx_grammar.specs.Lexemes.{Lexeme, sign, kinds}
use Rattle.actx_grammar.specs.ParserState.{Limits, expression, declaration, arrow_head, function_head, body, in_arrow, in_list, start, need, here}
use Rattle.actx_grammar.specs.Tree.{Expr, Function, some_expr, code, Fun, Return, Stmts, end, next}
use Rattle.actx_laws.proofs.ParseBegins.{BeginsValue}
use Rattle.actx_laws.proofs.ParseCover.{body_begins}
use Rattle.actx_laws.proofs.ParseEnds.{ends}
use Rattle.actx_laws.proofs.ParseHeads.{head_read, declaration_read}
use Rattle.actx_laws.proofs.ParseParams.{arrow_read}
use Rattle.actx_laws.proofs.ParseReads.{Operand, ReadsStmt, ReadsStmts}
use Rattle.actx_laws.proofs.ParseRuns.{runs, fit_less}
use Rattle.actx_laws.proofs.ParseSteps.{Starts, whole_have, ends_arrow}

-- ARROWS
pub row_arrow : {side : Side} {kind : FunctionKind} {xs : List (List ℕ)} (lim : Limits) (b c : Bool) (l d : ℕ) (ss : Stmts) (x y : List Lexeme) → l ≤ 1 → SpellsArrow side lim.most kind xs x → ReadsStmts lim side d ss y
    → Operand lim side l (suc d) (Function (code None kind xs ss)) (x ++ sign g.Arrow false ∷ sign g.OpenBrace b ∷ (y ++ sign g.CloseBrace c ∷ []))
row_arrow {side = side} {kind = kind} {xs = xs} lim b c l d ss x y h q p s r i j m =
    let a = p (body (arrow_head kind) xs) end (here s) s (sign g.CloseBrace c ∷ r) tt (fit_less lim m.deep (omega arith)) in
    record {
      reach = a.reach;
      within = omega (arith, a.within);
      same =
          ap (runs lim side need s) (append_assoc x (sign g.Arrow false ∷ sign g.OpenBrace b ∷ (y ++ sign g.CloseBrace c ∷ [])) r)
          ∙ arrow_read lim q s (sign g.OpenBrace b ∷ ((y ++ sign g.CloseBrace c ∷ []) ++ r)) (m.deep (here s) (omega arith)) m.more (omega arith)
          ∙ ap (runs lim side start (in_list (body (arrow_head kind) xs) end (here s) ∷ s)) (append_assoc y (sign g.CloseBrace c ∷ []) r)
          ∙ a.same
          ∙ whole_have lim side (Function (code None kind xs ss)) a.reach s r (omega arith);
    }

pub row_short_arrow : {side : Side} {kind : FunctionKind} {xs : List (List ℕ)} (lim : Limits) (l d : ℕ) (e : Expr) (x y : List Lexeme) → l ≤ 1 → SpellsArrow side lim.most kind xs x → BeginsValue (kinds y) → StartsBody y → Operand lim side 1 d e y
    → Operand lim side l (suc (suc d)) (Function (code None kind xs (next (Return (some_expr e)) end))) (x ++ sign g.Arrow false ∷ y)
row_short_arrow {side = side} {kind = kind} {xs = xs} lim l d e x y h q v w p s r i j m =
    let a = p (in_arrow kind xs ∷ s) r (omega arith) (omega arith) (record { deep = fit_less lim m.deep (omega arith); more = refl; starts = tt }) in
    record {
      reach = a.reach;
      within = omega (arith, a.within);
      same =
          ap (runs lim side need s) (append_assoc x (sign g.Arrow false ∷ y) r)
          ∙ arrow_read lim q s (y ++ r) (m.deep (here s) (omega arith)) m.more (omega arith)
          ∙ body_begins lim side kind xs s y r v w
          ∙ a.same
          ∙ ends (ends_arrow kind xs e a.reach) lim side s r (omega arith) (omega arith);
    }

-- FUNCTIONS
pub row_function : {side : Side} {kind : FunctionKind} {name : Option (List ℕ)} {xs : List (List ℕ)} (lim : Limits) (b c : Bool) (l d : ℕ) (ss : Stmts) (x y z : List Lexeme) → SpellsHead side kind name x → SpellsParams side lim.most xs y → ReadsStmts lim side d ss z
    → Operand lim side l (suc d) (Function (code name kind xs ss)) (x ++ y ++ sign g.OpenBrace b ∷ (z ++ sign g.CloseBrace c ∷ []))
row_function {side = side} {kind = kind} {name = name} {xs = xs} lim b c l d ss x y z h q p s r i j m =
    let tail : List Lexeme = sign g.OpenBrace b ∷ (z ++ sign g.CloseBrace c ∷ []) in
    let a = p (body (function_head expression kind name) xs) end (here s) s (sign g.CloseBrace c ∷ r) tt (fit_less lim m.deep (omega arith)) in
    record {
      reach = a.reach;
      within = omega (arith, a.within);
      same =
          ap (runs lim side need s) (append_assoc (x ++ y) tail r ∙ append_assoc x y (tail ++ r))
          ∙ head_read lim h q (y ++ tail) s (tail ++ r) (m.deep (here s) (omega arith)) m.more (subst (λ w. Starts s w) (append_assoc x y tail) m.starts)
          ∙ ap (runs lim side start (in_list (body (function_head expression kind name) xs) end (here s) ∷ s)) (append_assoc z (sign g.CloseBrace c ∷ []) r)
          ∙ a.same;
    }

pub row_declaration : {side : Side} {kind : FunctionKind} {name : List ℕ} {xs : List (List ℕ)} (lim : Limits) (b c : Bool) (d : ℕ) (ss : Stmts) (x y z : List Lexeme) → SpellsHead side kind (Some name) x → SpellsParams side lim.most xs y → ReadsStmts lim side d ss z
    → ReadsStmt lim side start (suc d) (Fun (code (Some name) kind xs ss)) (x ++ y ++ sign g.OpenBrace b ∷ (z ++ sign g.CloseBrace c ∷ []))
row_declaration {side = side} {kind = kind} {name = name} {xs = xs} lim b c d ss x y z h q p s r i f =
    let tail : List Lexeme = sign g.OpenBrace b ∷ (z ++ sign g.CloseBrace c ∷ []) in
    let a = p (body (function_head declaration kind (Some name)) xs) end (here s) s (sign g.CloseBrace c ∷ r) tt (fit_less lim f (omega arith)) in
    record {
      reach = a.reach;
      within = omega (arith, a.within);
      same =
          ap (runs lim side start s) (append_assoc (x ++ y) tail r ∙ append_assoc x y (tail ++ r))
          ∙ declaration_read lim h q s (tail ++ r) (f (here s) (omega arith))
          ∙ ap (runs lim side start (in_list (body (function_head declaration kind (Some name)) xs) end (here s) ∷ s)) (append_assoc z (sign g.CloseBrace c ∷ []) r)
          ∙ a.same;
    }
