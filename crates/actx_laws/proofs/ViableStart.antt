-- A step where a statement begins, or within its head, keeps what was read in order.
use Rattle.std.proofs.Common.{◌≡◌, ℕ, suc, max, List, [], ◌∷◌, ◌++◌, Bool, true, false, Some, None, refl, ap, arith, append_assoc}
use Rattle.std.proofs.lemmas.List.{append-nil}
use Rattle.actx_grammar.specs.declared.side.Side.{Side}
use Rattle.actx_grammar.specs.declared.side.Side.TheVariants.{Source, Plain}
use Rattle.actx_grammar.specs.declared.token.Keyword.{Keyword}
use Rattle.actx_grammar.specs.declared.token.Keyword.TheVariants as k
use Rattle.actx_grammar.specs.declared.token.Sign.TheVariants as g
use Rattle.actx_grammar.specs.declared.token.TokenKind.{TokenKind}
use Rattle.actx_grammar.specs.declared.token.TokenKind.TheVariants as t
use Rattle.actx_grammar.specs.Grammar.{IsBody, ends_open, sp_body, sp_try_catch, sp_return_nothing, sp_empty, SpellsCatch, SpellsStmt}
use Rattle.actx_grammar.specs.Lexemes.{Lexeme, sign, keyword, lexeme}
use Rattle.actx_grammar.specs.Parser.{next_clause, statement_keyword, list_keyword, at_statement, at_start, at_body_start, Standing, standing, settle_stmt, with_stmt, behind_standing, behind_stmt, at_return, at_throw, at_finally}
use Rattle.actx_grammar.specs.ParserOperands.{fits_below, at_need}
use Rattle.actx_grammar.specs.ParserState.{Limits, fits, declaration, ItemsOf, of_statement, block, clause_of, Frame, in_value, in_return, in_throw, do_of, in_list, start, body_start, have_stmt, async_start, function_next, let_name, const_name, jump_end, return_next, throw_next, if_open, while_open, for_open, try_open, switch_open, do_while, here, go}
use Rattle.actx_grammar.specs.Tree.{no_lets, no_consts, no_expr, Stmt, Break, Continue, Return, Try, Empty, Stmts, Catch, no_last, end}
use Rattle.actx_grammar.specs.Words.{HasForm}
use Rattle.actx_laws.proofs.SpellDeeper.{deeper_block, deeper_catch}
use Rattle.actx_laws.proofs.ViableTests.{fits_less}
use Rattle.actx_laws.proofs.ViableParts.{Deep, InList, none_begun_lets, none_begun_consts}
use Rattle.actx_laws.proofs.ViableOpen.{Opens, op_value, op_return, op_throw, op_do, op_list, own_block, own_clause, Items, items_of_statement, in_lets, in_consts, Tried, tried_block, caught_some}
use Rattle.actx_laws.proofs.ViableModes.{role_declaration, Viable, v_body_start, v_have_stmt, v_async_start, v_function_next, v_let_name, v_const_name, v_break_end, v_continue_end, v_return_next, v_throw_next, v_if_open, v_while_open, v_do_while, v_for_open, v_try_open, v_finally_open, v_switch_open, v_case_number, v_default_colon, After, chosen, opens_along, viable_along}
use Rattle.actx_laws.proofs.ViableLists.{as_body}
use Rattle.actx_laws.proofs.ViableBehind.{here_deep}
use Rattle.actx_laws.proofs.ViableBegin.{chosen_move, need_viable}
use Rattle.actx_laws.proofs.ViableFunctions.{list_begun}
use Rattle.actx_laws.proofs.ViableStatements.{close_list_viable, switch_more, Stood, StandsAt, settle_stmt_viable, else_viable, list_more}

-- VALUES
value_viable : {lim : Limits} {side : Side} (s : List Frame) (v : TokenKind) (b : Bool) (p : List Lexeme) → Opens lim side s p → HasForm v → After lim side (at_need lim side (in_value ∷ s) v) (p ++ lexeme v b ∷ [])
value_viable s v b p o f = need_viable (in_value ∷ s) v b p (op_value o) (λ y i. i refl) f

fits_here : (lim : Limits) (s : List Frame) → fits_below lim s ≡ true → fits lim (here s) ≡ true
fits_here lim s w = fits_less lim (here s) (suc (here s)) w (omega arith)

-- STATEMENTS
keyword_viable : {lim : Limits} (side : Side) (s : List Frame) (key : Keyword) (b : Bool) (p : List Lexeme) → Opens lim side s p → After lim side (statement_keyword lim side s key) (p ++ keyword key b ∷ [])
keyword_viable {lim} side s k.If b p o = chosen lim side (fits_below lim s) if_open s (p ++ keyword k.If b ∷ []) (λ w. v_if_open b o)
keyword_viable {lim} side s k.While b p o = chosen lim side (fits_below lim s) while_open s (p ++ keyword k.While b ∷ []) (λ w. v_while_open b o)
keyword_viable {lim} side s k.Do b p o = chosen lim side (fits_below lim s) body_start (do_of ∷ s) (p ++ keyword k.Do b ∷ []) (λ w. v_body_start (op_do b o))
keyword_viable {lim} side s k.For b p o = chosen lim side (fits_below lim s) for_open s (p ++ keyword k.For b ∷ []) (λ w. v_for_open b o (fits_here lim s w))
keyword_viable {lim} side s k.Break b p o = chosen lim side (fits lim (here s)) (jump_end Break) s (p ++ keyword k.Break b ∷ []) (λ w. v_break_end b o w)
keyword_viable {lim} side s k.Continue b p o = chosen lim side (fits lim (here s)) (jump_end Continue) s (p ++ keyword k.Continue b ∷ []) (λ w. v_continue_end b o w)
keyword_viable {lim} side s k.Return b p o = chosen lim side (fits lim (here s)) return_next s (p ++ keyword k.Return b ∷ []) (λ w. v_return_next b o w)
keyword_viable {lim} side s k.Throw b p o = chosen lim side (fits_below lim s) throw_next s (p ++ keyword k.Throw b ∷ []) (λ w. v_throw_next b o)
keyword_viable {lim} side s k.Try b p o = chosen lim side (fits lim (here s)) try_open s (p ++ keyword k.Try b ∷ []) (λ w. v_try_open b o w)
keyword_viable {lim} Plain s k.Switch b p o = chosen lim Plain (fits_below lim s) switch_open s (p ++ keyword k.Switch b ∷ []) (λ w. v_switch_open b refl o)
keyword_viable Source s k.Switch b p o = value_viable s (t.Keyword k.Switch) b p o tt
keyword_viable side s k.Function b p o = tt
keyword_viable side s key b p o = value_viable s (t.Keyword key) b p o tt

next_case : {lim : Limits} {side : Side} (s : List Frame) (b : Bool) (p : List Lexeme) → Opens lim side s p → After lim side (next_clause true s) (p ++ keyword k.Case b ∷ [])
next_case (in_list (clause_of e cs (Some n)) ss r ∷ s) b p (op_list (own_clause i f h sw w) c d deep) = v_case_number b (switch_more ss i f h sw w c d (record { reach = omega (arith, deep.reach); within = deep.within }))
next_case (in_list (clause_of e cs None) ss r ∷ s) b p o = tt
next_case (in_list _ ss r ∷ s) b p o = tt
next_case [] b p o = tt
next_case (_ ∷ s) b p o = tt

next_default : {lim : Limits} {side : Side} (s : List Frame) (b : Bool) (p : List Lexeme) → Opens lim side s p → After lim side (next_clause false s) (p ++ keyword k.Default b ∷ [])
next_default (in_list (clause_of e cs (Some n)) ss r ∷ s) b p (op_list (own_clause i f h sw w) c d deep) = v_default_colon b (switch_more ss i f h sw w c d (record { reach = omega (arith, deep.reach); within = deep.within }))
next_default (in_list (clause_of e cs None) ss r ∷ s) b p o = tt
next_default (in_list _ ss r ∷ s) b p o = tt
next_default [] b p o = tt
next_default (_ ∷ s) b p o = tt

pub lets_begun : {lim : Limits} {side : Side} {of : ItemsOf} {s : List Frame} {q : List Lexeme} → Items lim side k.Let of s q → fits lim (here s) ≡ true → Viable lim side (let_name of no_lets (here s)) s q
lets_begun {q = q} it w = viable_along (append-nil q) (v_let_name (in_lets {n = 0} it none_begun_lets (here_deep w)))

pub consts_begun : {lim : Limits} {side : Side} {of : ItemsOf} {s : List Frame} {q : List Lexeme} → Items lim side k.Const of s q → fits lim (here s) ≡ true → Viable lim side (const_name of no_consts (here s)) s q
consts_begun {q = q} it w = viable_along (append-nil q) (v_const_name (in_consts {n = 0} it none_begun_consts (here_deep w)))

list_keyword_viable : {lim : Limits} (side : Side) (s : List Frame) (key : Keyword) (b : Bool) (p : List Lexeme) → Opens lim side s p → InList s → After lim side (list_keyword lim side s key) (p ++ keyword key b ∷ [])
list_keyword_viable {lim} side s k.Let b p o l = chosen lim side (fits lim (here s)) (let_name of_statement no_lets (here s)) s (p ++ keyword k.Let b ∷ []) (λ w. lets_begun (items_of_statement b o l) w)
list_keyword_viable {lim} side s k.Const b p o l = chosen lim side (fits_below lim s) (const_name of_statement no_consts (here s)) s (p ++ keyword k.Const b ∷ []) (λ w. consts_begun (items_of_statement b o l) (fits_here lim s w))
list_keyword_viable {lim} side s k.Function b p o l = chosen lim side (fits lim (here s)) (function_next declaration) s (p ++ keyword k.Function b ∷ []) (λ w. v_function_next b (role_declaration o l w))
list_keyword_viable {lim} Source s k.Async b p o l = chosen lim Source (fits lim (here s)) async_start s (p ++ keyword k.Async b ∷ []) (λ w. v_async_start b refl o l w)
list_keyword_viable Plain s k.Async b p o l = keyword_viable Plain s k.Async b p o
list_keyword_viable side s k.Case b p o l = next_case s b p o
list_keyword_viable side s k.Default b p o l = next_default s b p o
list_keyword_viable side s key b p o l = keyword_viable side s key b p o

sign_viable : {lim : Limits} {side : Side} (s : List Frame) (v : TokenKind) (b : Bool) (p : List Lexeme) → Opens lim side s p → HasForm v → After lim side (at_statement lim side s v) (p ++ lexeme v b ∷ [])
sign_viable {lim} {side} s (t.Sign g.OpenBrace) b p o f = chosen_move lim side (fits lim (here s)) (go start (in_list block end (here s) ∷ s)) (p ++ sign g.OpenBrace b ∷ []) (λ w. list_begun {c = 0} (own_block b o) (omega arith) (here_deep w))
sign_viable {lim} {side} s (t.Sign g.Semicolon) b p o f = chosen lim side (fits lim (here s)) (have_stmt Empty (here s)) s (p ++ sign g.Semicolon b ∷ []) (λ w. v_have_stmt {n = 1} o sp_empty (as_body s Empty tt) refl (here_deep w))
sign_viable s (t.Sign v) b p o f = value_viable s (t.Sign v) b p o f
sign_viable s (t.Name v) b p o f = value_viable s (t.Name v) b p o f
sign_viable s (t.Keyword v) b p o f = value_viable s (t.Keyword v) b p o f
sign_viable s (t.Number v) b p o f = value_viable s (t.Number v) b p o f
sign_viable s (t.Text v) b p o f = value_viable s (t.Text v) b p o f

pub start_viable : {lim : Limits} {side : Side} (s : List Frame) (v : TokenKind) (b : Bool) (p : List Lexeme) → Opens lim side s p → InList s → HasForm v → After lim side (at_start lim side s v) (p ++ lexeme v b ∷ [])
start_viable {lim} {side} s (t.Keyword key) b p o l f = list_keyword_viable side s key b p o l
start_viable s (t.Sign g.CloseBrace) b p o l f = close_list_viable s p b o
start_viable s (t.Sign v) b p o l f = sign_viable s (t.Sign v) b p o f
start_viable s (t.Name v) b p o l f = sign_viable s (t.Name v) b p o f
start_viable s (t.Number v) b p o l f = sign_viable s (t.Number v) b p o f
start_viable s (t.Text v) b p o l f = sign_viable s (t.Text v) b p o f

pub body_start_viable : {lim : Limits} {side : Side} (s : List Frame) (v : TokenKind) (b : Bool) (p : List Lexeme) → Opens lim side s p → HasForm v → After lim side (at_body_start lim side s v) (p ++ lexeme v b ∷ [])
body_start_viable {lim} {side} s (t.Keyword key) b p o f = keyword_viable side s key b p o
body_start_viable s (t.Sign v) b p o f = sign_viable s (t.Sign v) b p o f
body_start_viable s (t.Name v) b p o f = sign_viable s (t.Name v) b p o f
body_start_viable s (t.Number v) b p o f = sign_viable s (t.Number v) b p o f
body_start_viable s (t.Text v) b p o f = sign_viable s (t.Text v) b p o f

-- BEHIND A STATEMENT
do_made : {lim : Limits} {side : Side} {st : Stmt} {n r : ℕ} {s : List Frame} {q x : List Lexeme} (b : Bool) → Opens lim side (do_of ∷ s) q → SpellsStmt side lim.most n st x → IsBody st → Deep lim n (do_of ∷ s) r → Viable lim side (do_while st r) s ((q ++ x) ++ keyword k.While b ∷ [])
do_made {x = x} b (op_do {p = p} c o) h i w = viable_along (simp append_assoc) (v_do_while c b o (sp_body h i) (record { reach = omega (arith, w.reach); within = w.within }))

standing_viable : (lim : Limits) (side : Side) (v : Standing) (u : TokenKind) (b : Bool) (p : List Lexeme) → StandsAt lim side v p → HasForm u → After lim side (behind_standing lim side v u) (p ++ lexeme u b ∷ [])
standing_viable lim side (standing st r (in_list owner ss q ∷ s)) u b p h f = start_viable (in_list owner (with_stmt ss st) (max q r) ∷ s) u b p (opens_along h.all (list_more h.stack h.spells h.deep)) tt f
standing_viable lim side (standing st r (do_of ∷ s)) (t.Keyword k.While) b p h f = viable_along (ap (λ z. z ++ keyword k.While b ∷ []) h.all) (do_made b h.stack h.spells h.fit h.deep)
standing_viable lim side (standing st r (do_of ∷ s)) (t.Keyword _) b p h f = tt
standing_viable lim side (standing st r (do_of ∷ s)) _ b p h f = tt
standing_viable lim side (standing st r []) u b p h f = tt
standing_viable lim side (standing st r (_ ∷ s)) u b p h f = tt

pub behind_viable : {lim : Limits} {side : Side} (st : Stmt) (r : ℕ) (s : List Frame) (u : TokenKind) (b : Bool) (p : List Lexeme) → Stood lim side st r s p → ends_open st ≡ false → HasForm u → After lim side (behind_stmt lim side st r s u) (p ++ lexeme u b ∷ [])
behind_viable st r s (t.Keyword k.Else) b p h w f = else_viable st r s p b h w
behind_viable {lim} {side} st r s (t.Keyword v) b p h w f = standing_viable lim side (settle_stmt st r s) (t.Keyword v) b p (settle_stmt_viable st r s p h) f
behind_viable {lim} {side} st r s (t.Sign v) b p h w f = standing_viable lim side (settle_stmt st r s) (t.Sign v) b p (settle_stmt_viable st r s p h) f
behind_viable {lim} {side} st r s (t.Name v) b p h w f = standing_viable lim side (settle_stmt st r s) (t.Name v) b p (settle_stmt_viable st r s p h) f
behind_viable {lim} {side} st r s (t.Number v) b p h w f = standing_viable lim side (settle_stmt st r s) (t.Number v) b p (settle_stmt_viable st r s p h) f
behind_viable {lim} {side} st r s (t.Text v) b p h w f = standing_viable lim side (settle_stmt st r s) (t.Text v) b p (settle_stmt_viable st r s p h) f

-- TRY
pub try_ended : {lim : Limits} {side : Side} {bs : Stmts} {c : Catch} {n r : ℕ} {s : List Frame} {q x : List Lexeme} → Tried lim side bs r s q → SpellsCatch side lim.most n c x → Deep lim (suc n) s r → Stood lim side (Try bs c no_last) r s (q ++ x)
try_ended {n = n} {s = s} {x = x} (tried_block {p = p} {x = y} {n = m} b o bk bd) d deep =
    record { before = p; own = keyword k.Try b ∷ (y ++ x); height = suc (max m n); stack = o; spells = sp_try_catch b (deeper_block bk (omega arith)) (deeper_catch d (omega arith)); fit = as_body s _ tt; all = simp append_assoc; deep = record { reach = omega (arith, deep.reach, bd.reach); within = deep.within } }

pub finally_viable : {lim : Limits} {side : Side} {n : ℕ} (bs : Stmts) (c : Catch) (r : ℕ) (s : List Frame) (u : TokenKind) (b : Bool) (q x : List Lexeme) → Tried lim side bs r s q → SpellsCatch side lim.most n c x → Deep lim (suc n) s r → HasForm u → After lim side (at_finally lim side bs c r s u) ((q ++ x) ++ lexeme u b ∷ [])
finally_viable bs c r s (t.Keyword k.Finally) b q x o d deep f = v_finally_open b (caught_some o d deep)
finally_viable bs c r s (t.Keyword v) b q x o d deep f = behind_viable (Try bs c no_last) r s (t.Keyword v) b (q ++ x) (try_ended o d deep) refl f
finally_viable bs c r s (t.Sign v) b q x o d deep f = behind_viable (Try bs c no_last) r s (t.Sign v) b (q ++ x) (try_ended o d deep) refl f
finally_viable bs c r s (t.Name v) b q x o d deep f = behind_viable (Try bs c no_last) r s (t.Name v) b (q ++ x) (try_ended o d deep) refl f
finally_viable bs c r s (t.Number v) b q x o d deep f = behind_viable (Try bs c no_last) r s (t.Number v) b (q ++ x) (try_ended o d deep) refl f
finally_viable bs c r s (t.Text v) b q x o d deep f = behind_viable (Try bs c no_last) r s (t.Text v) b (q ++ x) (try_ended o d deep) refl f

-- RETURN AND THROW
return_need : {lim : Limits} {side : Side} (s : List Frame) (c : Bool) (u : TokenKind) (p : List Lexeme) → Opens lim side s p → HasForm u → After lim side (at_need lim side (in_return ∷ s) u) ((p ++ keyword k.Return c ∷ []) ++ lexeme u false ∷ [])
return_need s c u p o f = need_viable (in_return ∷ s) u false (p ++ keyword k.Return c ∷ []) (op_return c o) (λ y i. refl) f

pub return_viable : {lim : Limits} {side : Side} (s : List Frame) (c : Bool) (u : TokenKind) (b : Bool) (p : List Lexeme) → Opens lim side s p → fits lim (here s) ≡ true → HasForm u → After lim side (at_return lim side s u b) ((p ++ keyword k.Return c ∷ []) ++ lexeme u b ∷ [])
return_viable s c (t.Sign g.Semicolon) b p o w f = viable_along (simp append_assoc) (v_have_stmt {x = keyword k.Return c ∷ sign g.Semicolon b ∷ []} {n = 1} o sp_return_nothing (as_body s (Return no_expr) tt) refl (here_deep w))
return_viable s c (t.Sign v) false p o w f = return_need s c (t.Sign v) p o f
return_viable s c (t.Name v) false p o w f = return_need s c (t.Name v) p o f
return_viable s c (t.Keyword v) false p o w f = return_need s c (t.Keyword v) p o f
return_viable s c (t.Number v) false p o w f = return_need s c (t.Number v) p o f
return_viable s c (t.Text v) false p o w f = return_need s c (t.Text v) p o f
return_viable s c (t.Sign v) true p o w f = tt
return_viable s c _ true p o w f = tt

pub throw_viable : {lim : Limits} {side : Side} (s : List Frame) (c : Bool) (u : TokenKind) (b : Bool) (p : List Lexeme) → Opens lim side s p → HasForm u → After lim side (at_throw lim side s u b) ((p ++ keyword k.Throw c ∷ []) ++ lexeme u b ∷ [])
throw_viable s c u false p o f = need_viable (in_throw ∷ s) u false (p ++ keyword k.Throw c ∷ []) (op_throw c o) (λ y i. refl) f
throw_viable s c u true p o f = tt
