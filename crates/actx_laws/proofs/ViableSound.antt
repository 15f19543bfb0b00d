-- A step keeps what was read in order, and what is parsed is spelled.
use Rattle.std.proofs.Common.{◌≡◌, ℕ, suc, ◌≤◌, List, [], ◌∷◌, ◌++◌, Bool, Some, None, refl, sym, subst, arith, append_assoc}
use Rattle.actx_grammar.specs.declared.operators.FunctionKind.TheVariants.{Generator}
use Rattle.actx_grammar.specs.declared.side.Side.{Side}
use Rattle.actx_grammar.specs.declared.side.Side.TheVariants.{Plain}
use Rattle.actx_grammar.specs.declared.token.Keyword.TheVariants as k
use Rattle.actx_grammar.specs.declared.token.Sign.TheVariants as g
use Rattle.actx_grammar.specs.declared.token.TokenKind.{TokenKind}
use Rattle.actx_grammar.specs.declared.token.TokenKind.TheVariants as t
use Rattle.actx_grammar.specs.Grammar.{sp_generator_head, sp_break, sp_continue, sp_do_while}
use Rattle.actx_grammar.specs.Lexemes.{Lexeme, sign, keyword, lexeme}
use Rattle.actx_grammar.specs.Parser.{move, at_jump, at_open, at_paren, at_brace, at_do_end, at_catch, at_catch_open, at_catch_name, at_catch_close, at_switch, at_clause, at_case, at_case_colon}
use Rattle.actx_grammar.specs.Names.{IsBinding}
use Rattle.actx_grammar.specs.ParserFunctions.{at_words}
use Rattle.actx_grammar.specs.ParserOperands.{is_binding, at_operator}
use Rattle.actx_grammar.specs.ParserState.{Limits, ListOwner, tried, caught, finally, Frame, in_if, in_while, in_do_test, in_switch, in_list, for_next, Mode, need, start, have_stmt, catch_close, here}
use Rattle.actx_grammar.specs.Tree.{Expr, Clauses, Stmt, Stmts, Break, Continue, DoWhile, end}
use Rattle.actx_grammar.specs.Words.{HasForm, greatest_number}
use Rattle.actx_laws.proofs.ViableTests.{binding_is}
use Rattle.actx_laws.proofs.ViableParts.{Deep, no_cases}
use Rattle.actx_laws.proofs.ViableOpen.{Sp, Tried, InSwitch, Opens, op_if, op_while, op_do_test, op_switch, own_tried, own_caught, own_caught_name, own_finally, own_clause, own_default, caught_none, in_clauses}
use Rattle.actx_laws.proofs.ViableModes.{Held, Viable, v_start, v_body_start, v_have_stmt, v_need, v_have, v_have_member, v_have_name, v_have_bump, v_whole, v_opened, v_first_name, v_closed_name, v_bump_name, v_yield_next, v_async_next, v_async_start, v_function_next, v_name_next, v_params_open, v_param_next, v_param_behind, v_arrow_sign, v_arrow_body, v_body_open, v_key_next, v_key_behind, v_key_name, v_key_async, v_key_end, v_method_key, v_method_open, v_member_name, v_call_open, v_words_next, v_let_name, v_let_behind, v_const_name, v_const_behind, v_break_end, v_continue_end, v_return_next, v_throw_next, v_if_open, v_while_open, v_do_while, v_do_end, v_for_open, v_for_next, v_for_test, v_for_update, v_try_open, v_catch_next, v_catch_open, v_catch_name, v_catch_close, v_catch_block, v_finally_next, v_finally_open, v_switch_open, v_switch_brace, v_clause_next, v_case_number, v_case_colon, v_default_colon, After, chosen, opens_along, viable_along}
use Rattle.actx_laws.proofs.ViableLists.{as_body}
use Rattle.actx_laws.proofs.ViableRaised.{tried_deep, caught_deep, switch_deep}
use Rattle.actx_laws.proofs.ViableEnded.{whole_viable}
use Rattle.actx_laws.proofs.ViableBehind.{One, here_deep, operator_viable, have_viable, member_viable, name_viable}
use Rattle.actx_laws.proofs.ViableBegin.{need_viable, bump_viable, opened_viable, first_viable, closed_viable}
use Rattle.actx_laws.proofs.ViableFunctions.{param_viable, behind_param_viable, list_begun, arrow_sign_viable, arrow_body_viable, body_open_viable, params_open_viable, function_name_viable, function_viable, async_viable, async_start_viable, yield_viable}
use Rattle.actx_laws.proofs.ViableObjects.{key_next_viable, key_behind_viable, key_name_viable, key_async_viable, method_key_viable, method_viable, key_end_viable, member_name_viable, call_open_viable, words_viable}
use Rattle.actx_laws.proofs.ViableStatements.{switch_ended}
use Rattle.actx_laws.proofs.ViableStart.{start_viable, body_start_viable, behind_viable, finally_viable, return_viable, throw_viable}
use Rattle.actx_laws.proofs.ViableItems.{let_name_viable, let_behind_viable, const_name_viable, const_behind_viable, for_viable, for_test_viable, for_update_viable}

-- ONE SIGN
-- a move that only one sign makes
only_semicolon : {lim : Limits} {side : Side} (st : Stmt) (s : List Frame) (q : List Lexeme) (u : TokenKind) (b : Bool) → Viable lim side (have_stmt st (here s)) s (q ++ sign g.Semicolon b ∷ []) → After lim side (at_jump st s u) (q ++ lexeme u b ∷ [])
only_semicolon st s q (t.Sign g.Semicolon) b h = h
only_semicolon st s q (t.Sign _) b h = tt
only_semicolon st s q _ b h = tt

only_end : {lim : Limits} {side : Side} (st : Stmt) (e : Expr) (r : ℕ) (s : List Frame) (q : List Lexeme) (u : TokenKind) (b : Bool) → Viable lim side (have_stmt (DoWhile st e) r) s (q ++ sign g.Semicolon b ∷ []) → After lim side (at_do_end st e r s u) (q ++ lexeme u b ∷ [])
only_end st e r s q (t.Sign g.Semicolon) b h = h
only_end st e r s q (t.Sign _) b h = tt
only_end st e r s q _ b h = tt

only_open : {lim : Limits} {side : Side} (f : Frame) (s : List Frame) (q : List Lexeme) (u : TokenKind) (b : Bool) → Viable lim side need (f ∷ s) (q ++ sign g.OpenParen b ∷ []) → After lim side (at_open f s u) (q ++ lexeme u b ∷ [])
only_open f s q (t.Sign g.OpenParen) b h = h
only_open f s q (t.Sign _) b h = tt
only_open f s q _ b h = tt

only_paren : {lim : Limits} {side : Side} (m : Mode) (s : List Frame) (q : List Lexeme) (u : TokenKind) (b : Bool) → Viable lim side m s (q ++ sign g.OpenParen b ∷ []) → After lim side (at_paren m s u) (q ++ lexeme u b ∷ [])
only_paren m s q (t.Sign g.OpenParen) b h = h
only_paren m s q (t.Sign _) b h = tt
only_paren m s q _ b h = tt

only_brace : {lim : Limits} {side : Side} (owner : ListOwner) (r : ℕ) (s : List Frame) (q : List Lexeme) (u : TokenKind) (b : Bool) → Viable lim side start (in_list owner end r ∷ s) (q ++ sign g.OpenBrace b ∷ []) → After lim side (at_brace owner r s u) (q ++ lexeme u b ∷ [])
only_brace owner r s q (t.Sign g.OpenBrace) b h = h
only_brace owner r s q (t.Sign _) b h = tt
only_brace owner r s q _ b h = tt

-- TRY
catch_viable : {lim : Limits} {side : Side} (bs : Stmts) (r : ℕ) (s : List Frame) (q : List Lexeme) (u : TokenKind) (b : Bool) → Tried lim side bs r s q → After lim side (at_catch bs r s u) (q ++ lexeme u b ∷ [])
catch_viable bs r s q (t.Keyword k.Catch) b o = v_catch_open b o
catch_viable bs r s q (t.Keyword k.Finally) b o = v_finally_open b (caught_none o)
catch_viable bs r s q (t.Keyword _) b o = tt
catch_viable bs r s q _ b o = tt

catch_brace : {lim : Limits} {side : Side} {bs : Stmts} {r : ℕ} {s : List Frame} {q : List Lexeme} (c b : Bool) → Tried lim side bs r s q → Viable lim side start (in_list (caught bs None) end r ∷ s) ((q ++ keyword k.Catch c ∷ []) ++ sign g.OpenBrace b ∷ [])
catch_brace {r = r} c b o = viable_along (simp append_assoc) (list_begun {c = r} (own_caught c b o) (omega arith) (tried_deep o))

catch_open_viable : {lim : Limits} {side : Side} (bs : Stmts) (r : ℕ) (s : List Frame) (q : List Lexeme) (c : Bool) (u : TokenKind) (b : Bool) → Tried lim side bs r s q → After lim side (at_catch_open bs r s u) ((q ++ keyword k.Catch c ∷ []) ++ lexeme u b ∷ [])
catch_open_viable bs r s q c (t.Sign g.OpenParen) b o = viable_along (simp append_assoc) (v_catch_name c b o)
catch_open_viable bs r s q c (t.Sign g.OpenBrace) b o = catch_brace c b o
catch_open_viable bs r s q c (t.Sign _) b o = tt
catch_open_viable bs r s q c _ b o = tt

catch_name_viable : {lim : Limits} {side : Side} (bs : Stmts) (r : ℕ) (s : List Frame) (q : List Lexeme) (c i : Bool) (u : TokenKind) (b : Bool) → Tried lim side bs r s q → HasForm u → After lim side (at_catch_name side bs r s u) ((q ++ keyword k.Catch c ∷ sign g.OpenParen i ∷ []) ++ lexeme u b ∷ [])
catch_name_viable {lim} {side} bs r s q c i (t.Name x) b o f = chosen lim side (is_binding side x) (catch_close bs x r) s ((q ++ keyword k.Catch c ∷ sign g.OpenParen i ∷ []) ++ lexeme (t.Name x) b ∷ []) (λ w. viable_along (simp append_assoc) (v_catch_close c i b o (binding_is side x f w)))
catch_name_viable bs r s q c i _ b o f = tt

catch_close_viable : {lim : Limits} {side : Side} (bs : Stmts) (x : List ℕ) (r : ℕ) (s : List Frame) (q : List Lexeme) (c i j : Bool) (u : TokenKind) (b : Bool) → Tried lim side bs r s q → IsBinding side x → After lim side (at_catch_close bs x r s u) ((q ++ keyword k.Catch c ∷ sign g.OpenParen i ∷ lexeme (t.Name x) j ∷ []) ++ lexeme u b ∷ [])
catch_close_viable bs x r s q c i j (t.Sign g.CloseParen) b o n = viable_along (simp append_assoc) (v_catch_block c i j b o n)
catch_close_viable bs x r s q c i j (t.Sign _) b o n = tt
catch_close_viable bs x r s q c i j _ b o n = tt

-- SWITCH
switch_viable : {lim : Limits} {side : Side} {n : ℕ} (e : Expr) (r : ℕ) (s : List Frame) (p x : List Lexeme) (c i j : Bool) (u : TokenKind) (b : Bool) → side ≡ Plain → Opens lim side s p → Sp lim side 1 n e x → Deep lim (suc n) s r → After lim side (at_switch e r s u) ((p ++ keyword k.Switch c ∷ sign g.OpenParen i ∷ (x ++ sign g.CloseParen j ∷ [])) ++ lexeme u b ∷ [])
switch_viable e r s p x c i j (t.Sign g.OpenBrace) b plain o d deep = viable_along (simp append_assoc) (v_clause_next (in_clauses {y = []} c i j b plain o d no_cases deep))
switch_viable e r s p x c i j (t.Sign _) b plain o d deep = tt
switch_viable e r s p x c i j _ b plain o d deep = tt

clause_viable : {lim : Limits} {side : Side} (e : Expr) (cs : Clauses) (r : ℕ) (s : List Frame) (q : List Lexeme) (u : TokenKind) (b : Bool) → InSwitch lim side e cs r s q → After lim side (at_clause e cs r s u) (q ++ lexeme u b ∷ [])
clause_viable e cs r s q (t.Sign g.CloseBrace) b o = switch_ended b o
clause_viable e cs r s q (t.Keyword k.Case) b o = v_case_number b o
clause_viable e cs r s q (t.Keyword k.Default) b o = v_default_colon b o
clause_viable e cs r s q (t.Sign _) b o = tt
clause_viable e cs r s q (t.Keyword _) b o = tt
clause_viable e cs r s q _ b o = tt

case_viable : {lim : Limits} {side : Side} (e : Expr) (cs : Clauses) (r : ℕ) (s : List Frame) (q : List Lexeme) (c : Bool) (u : TokenKind) (b : Bool) → InSwitch lim side e cs r s q → HasForm u → After lim side (at_case e cs r s u) ((q ++ keyword k.Case c ∷ []) ++ lexeme u b ∷ [])
case_viable e cs r s q c (t.Number n) b o f = viable_along (simp append_assoc) (v_case_colon c b o f)
case_viable e cs r s q c _ b o f = tt

colon_viable : {lim : Limits} {side : Side} (e : Expr) (cs : Clauses) (n r : ℕ) (s : List Frame) (q : List Lexeme) (c i : Bool) (u : TokenKind) (b : Bool) → InSwitch lim side e cs r s q → n ≤ greatest_number → After lim side (at_case_colon e cs (Some n) r s u) ((q ++ keyword k.Case c ∷ lexeme (t.Number n) i ∷ []) ++ lexeme u b ∷ [])
colon_viable e cs n r s q c i (t.Sign g.Colon) b o w = viable_along (simp append_assoc) (list_begun {c = r} (own_clause c i b o w) (omega arith) (switch_deep o))
colon_viable e cs n r s q c i (t.Sign _) b o w = tt
colon_viable e cs n r s q c i _ b o w = tt

default_viable : {lim : Limits} {side : Side} (e : Expr) (cs : Clauses) (r : ℕ) (s : List Frame) (q : List Lexeme) (c : Bool) (u : TokenKind) (b : Bool) → InSwitch lim side e cs r s q → After lim side (at_case_colon e cs None r s u) ((q ++ keyword k.Default c ∷ []) ++ lexeme u b ∷ [])
default_viable e cs r s q c (t.Sign g.Colon) b o = viable_along (simp append_assoc) (list_begun {c = r} (own_default c b o) (omega arith) (switch_deep o))
default_viable e cs r s q c (t.Sign _) b o = tt
default_viable e cs r s q c _ b o = tt

-- ONE TOKEN
bump_at : {lim : Limits} {side : Side} (e : Expr) (s : List Frame) (p : List Lexeme) (u : TokenKind) (b : Bool) → Held lim side 10 e (here s) s p → After lim side (at_operator lim e (here s) s u) (p ++ lexeme u b ∷ [])
bump_at e s p u b h = operator_viable e (here s) s p u b h (omega arith)

pub step_viable : {lim : Limits} {side : Side} (one : One lim) (m : Mode) (s : List Frame) (p : List Lexeme) (u : TokenKind) (b : Bool) → Viable lim side m s p → HasForm u → After lim side (move lim side m s u b) (p ++ lexeme u b ∷ [])
step_viable one m s p u b (v_start o l) f = start_viable s u b p o l f
step_viable one m s p u b (v_body_start o) f = body_start_viable s u b p o f
step_viable one m s p u b (v_have_stmt {p = q} {x = x} {st = st} {n = n} {r = r} o d i w deep) f = behind_viable st r s u b (q ++ x) (record { before = q; own = x; height = n; stack = o; spells = d; fit = i; all = refl; deep = deep }) w f
step_viable one m s p u b (v_need o may) f = need_viable s u b p o (may (lexeme u b)) f
step_viable one m s p u b (v_have {e = e} {r = r} h) f = have_viable e r s p u b h
step_viable one m s p u b (v_have_member {p = q} {x = x} {y = y} {e = e} {key = key} {r = r} at d i deep) f = member_viable e key r s q x y u b at d i deep
step_viable one m s p u b (v_have_name {p = q} {x = x} c at n) f = name_viable x s q c u b one at n
step_viable one m s p u b (v_have_bump {e = e} h) f = bump_at e s p u b h
step_viable one m s p u b (v_whole {e = e} {r = r} low h) f = whole_viable e r s p u b h low
step_viable one m s p u b (v_opened {p = q} c at) f = opened_viable s c u b q at f
step_viable one m s p u b (v_first_name {p = q} {x = x} c i at n) f = first_viable x s c i u b q one at n
step_viable one m s p u b (v_closed_name {p = q} {x = x} c i j at n) f = closed_viable x s c i j u b q one at n
step_viable one m s p u b (v_bump_name {p = q} up c at) f = bump_viable up c s u b q at f
step_viable one m s p u b (v_yield_next {p = q} c i at low) f = yield_viable s q c u b i at low f
step_viable one m s p u b (v_async_next {p = q} c i o fit room may) f = async_viable s q c u b one i o fit room may f
step_viable one m s p u b (v_async_start {p = q} c i o l fit) f = async_start_viable s q c u b one i o l fit f
step_viable one m s p u b (v_function_next {p = q} {role = role} c at) f = function_viable role s q c u b at f
step_viable one m s p u b (v_name_next {p = q} {x = x} {role = role} {kind = kind} at h) f = function_name_viable role kind s q x u b at h f
step_viable one m s p u b (v_params_open {h = h} hd) f = params_open_viable h s p u b hd
step_viable one m s p u b (v_param_next {q = q} {y = y} {h = h} {xs = xs} c hd names) f = param_viable h xs s q y c u b hd names f
step_viable one m s p u b (v_param_behind {q = q} {y = y} {h = h} {xs = xs} c hd names w) f = behind_param_viable h xs s q y c u b hd names w
step_viable one m s p u b (v_arrow_sign {p = q} {x = x} {kind = kind} {xs = xs} at low d) f = arrow_sign_viable kind xs s q x u b at low d
step_viable one m s p u b (v_arrow_body {p = q} {x = x} {kind = kind} {xs = xs} at low d) f = arrow_body_viable kind xs s q x u b at low d f
step_viable one m s p u b (v_body_open {q = q} {y = y} {role = role} {kind = kind} {name = name} {xs = xs} h d) f = body_open_viable role kind name xs s q y u b h d
step_viable one m s p u b (v_key_next {ps = ps} {r = r} o) f = key_next_viable ps r s p u b o f
step_viable one m s p u b (v_key_behind {q = q} {x = x} {ps = ps} {key = key} {r = r} w o d deep) f = key_behind_viable ps key r s q x u b w o d deep
step_viable one m s p u b (v_key_name {q = q} {ps = ps} {x = x} {r = r} c w o n) f = key_name_viable ps x r s q c u b w o n
step_viable one m s p u b (v_key_async {q = q} {ps = ps} {r = r} c i w o) f = key_async_viable ps r s q c u b i w o f
step_viable one m s p u b (v_key_end {p = q} {y = y} {ps = ps} {r = r} c at d deep) f = key_end_viable ps r s q y c u b at d deep
step_viable one m s p u b (v_method_key {q = q} {ps = ps} {r = r} c i w o) f = method_key_viable ps Generator r s q (sign g.Star c ∷ []) u b w o (sp_generator_head i) tt f
step_viable one m s p u b (v_method_open {q = q} {w = w} {x = x} {ps = ps} {kind = kind} {key = key} {r = r} i o head d follows deep) f = method_viable ps kind key r s q w x u b i o head d follows deep
step_viable {side = side} one m s p u b (v_member_name {p = q} {x = x} {e = e} {r = r} c at d deep) f = member_name_viable side e r s q x c u b at d deep f
step_viable one m s p u b (v_call_open {p = q} {x = x} {e = e} {r = r} c i plain at d deep) f = call_open_viable e r s q x c i u b plain at d deep
step_viable {lim} {side} one m s p u b (v_words_next {p = q} {x = x} at i) f = subst (λ ws. After lim side (at_words lim side ws s u) ((q ++ x) ++ lexeme u b ∷ [])) (sym i) (words_viable s q x u b at)
step_viable one m s p u b (v_let_name {of = of} {is = is} {r = r} o) f = let_name_viable of is r s u b p o f
step_viable one m s p u b (v_let_behind {q = q} {of = of} {is = is} {x = x} {r = r} c o n) f = let_behind_viable of is x r s c u b q o n
step_viable one m s p u b (v_const_name {of = of} {is = is} {r = r} o) f = const_name_viable of is r s u b p o f
step_viable one m s p u b (v_const_behind {q = q} {of = of} {is = is} {x = x} {r = r} c o n) f = const_behind_viable of is x r s c u b q o n
step_viable one m s p u b (v_break_end {p = q} c o w) f = only_semicolon Break s (q ++ keyword k.Break c ∷ []) u b (viable_along (simp append_assoc) (v_have_stmt {x = keyword k.Break c ∷ sign g.Semicolon b ∷ []} {n = 1} o sp_break (as_body s Break tt) refl (here_deep w)))
step_viable one m s p u b (v_continue_end {p = q} c o w) f = only_semicolon Continue s (q ++ keyword k.Continue c ∷ []) u b (viable_along (simp append_assoc) (v_have_stmt {x = keyword k.Continue c ∷ sign g.Semicolon b ∷ []} {n = 1} o sp_continue (as_body s Continue tt) refl (here_deep w)))
step_viable one m s p u b (v_return_next {p = q} c o w) f = return_viable s c u b q o w f
step_viable one m s p u b (v_throw_next {p = q} c o) f = throw_viable s c u b q o f
step_viable one m s p u b (v_if_open {p = q} c o) f = only_open in_if s (q ++ keyword k.If c ∷ []) u b (v_need (opens_along (simp append_assoc) (op_if c b o)) (λ w y i. tt))
step_viable one m s p u b (v_while_open {p = q} c o) f = only_open in_while s (q ++ keyword k.While c ∷ []) u b (v_need (opens_along (simp append_assoc) (op_while c b o)) (λ w y i. tt))
step_viable one m s p u b (v_do_while {p = q} {x = x} {st = st} {r = r} c i o d deep) f = only_open (in_do_test st r) s (q ++ keyword k.Do c ∷ (x ++ keyword k.While i ∷ [])) u b (v_need (opens_along (simp append_assoc) (op_do_test c i b o d deep)) (λ w y j. tt))
step_viable one m s p u b (v_do_end {p = q} {x = x} {y = y} {st = st} {e = e} {r = r} c i j h o d test deep) f = only_end st e r s (q ++ keyword k.Do c ∷ (x ++ keyword k.While i ∷ sign g.OpenParen j ∷ (y ++ sign g.CloseParen h ∷ []))) u b (viable_along (simp append_assoc) (v_have_stmt o (sp_do_while c i j h b d test) (as_body s (DoWhile st e) tt) refl deep))
step_viable one m s p u b (v_for_open {p = q} c o w) f = only_paren for_next s (q ++ keyword k.For c ∷ []) u b (viable_along (simp append_assoc) (v_for_next c b o w))
step_viable one m s p u b (v_for_next {p = q} c i o w) f = for_viable s c i u b q o w f
step_viable one m s p u b (v_for_test {i = i} {r = r} o) f = for_test_viable i r s u b p o f
step_viable one m s p u b (v_for_update {i = i} {test = test} {r = r} o) f = for_update_viable i test r s u b p o f
step_viable one m s p u b (v_try_open {p = q} c o w) f = only_brace tried (here s) s (q ++ keyword k.Try c ∷ []) u b (viable_along (simp append_assoc) (list_begun {c = 0} (own_tried c b o) (omega arith) (here_deep w)))
step_viable one m s p u b (v_catch_next {bs = bs} {r = r} o) f = catch_viable bs r s p u b o
step_viable one m s p u b (v_catch_open {q = q} {bs = bs} {r = r} c o) f = catch_open_viable bs r s q c u b o
step_viable one m s p u b (v_catch_name {q = q} {bs = bs} {r = r} c i o) f = catch_name_viable bs r s q c i u b o f
step_viable one m s p u b (v_catch_close {q = q} {bs = bs} {x = x} {r = r} c i j o n) f = catch_close_viable bs x r s q c i j u b o n
step_viable one m s p u b (v_catch_block {q = q} {bs = bs} {x = x} {r = r} c i j h o n) f = only_brace (caught bs (Some x)) r s (q ++ keyword k.Catch c ∷ sign g.OpenParen i ∷ lexeme (t.Name x) j ∷ sign g.CloseParen h ∷ []) u b (viable_along (simp append_assoc) (list_begun {c = r} (own_caught_name c i j h b o n) (omega arith) (tried_deep o)))
step_viable one m s p u b (v_finally_next {q = q} {x = x} {bs = bs} {c = c} {r = r} o d deep) f = finally_viable bs c r s u b q x o d deep f
step_viable one m s p u b (v_finally_open {q = q} {bs = bs} {c = c} {r = r} i o) f = only_brace (finally bs c) r s (q ++ keyword k.Finally i ∷ []) u b (viable_along (simp append_assoc) (list_begun {c = r} (own_finally i b o) (omega arith) (caught_deep o)))
step_viable one m s p u b (v_switch_open {p = q} c plain o) f = only_open in_switch s (q ++ keyword k.Switch c ∷ []) u b (v_need (opens_along (simp append_assoc) (op_switch c b plain o)) (λ w y i. tt))
step_viable one m s p u b (v_switch_brace {p = q} {x = x} {e = e} {r = r} c i j plain o d deep) f = switch_viable e r s q x c i j u b plain o d deep
step_viable one m s p u b (v_clause_next {e = e} {cs = cs} {r = r} o) f = clause_viable e cs r s p u b o
step_viable one m s p u b (v_case_number {q = q} {e = e} {cs = cs} {r = r} c o) f = case_viable e cs r s q c u b o f
step_viable one m s p u b (v_case_colon {q = q} {e = e} {cs = cs} {n = n} {r = r} c i o w) f = colon_viable e cs n r s q c i u b o w
step_viable one m s p u b (v_default_colon {q = q} {e = e} {cs = cs} {r = r} c o) f = default_viable e cs r s q c u b o
