-- A step keeps what is open sound: the rest of statements, and every mode.
use Rattle.std.proofs.Common.{◌≡◌, ℕ, suc, List, [], ◌∷◌, Bool, true, false, Option, Some, None, codes, refl, sym, subst, arith}
use Rattle.actx_grammar.specs.declared.side.Side.{Side}
use Rattle.actx_grammar.specs.declared.side.Side.TheVariants.{Source, Plain}
use Rattle.actx_grammar.specs.declared.token.Keyword.TheVariants as k
use Rattle.actx_grammar.specs.declared.token.Sign.TheVariants as g
use Rattle.actx_grammar.specs.declared.token.TokenKind.{TokenKind}
use Rattle.actx_grammar.specs.declared.token.TokenKind.TheVariants as t
use Rattle.actx_grammar.specs.Grammar.{with_let}
use Rattle.actx_grammar.specs.ParserState.{Limits, fits, ItemsOf, of_statement, of_for, ListOwner, tried, caught, finally, clause_of, Frame, in_let, in_const, in_return, in_throw, in_if, in_while, in_do_test, in_for_init, in_for_test, in_for_update, in_for_over, in_switch, for_body, in_list, Mode, start, body_start, have_stmt, need, have, have_member, have_name, have_bump, whole, opened, first_name, closed_name, bump_name, yield_next, async_next, async_start, function_next, name_next, params_open, param_next, param_behind, arrow_sign, arrow_body, body_open, key_next, key_behind, key_name, key_async, key_end, method_key, method_open, member_name, call_open, words_next, let_name, let_behind, const_name, const_behind, jump_end, return_next, throw_next, if_open, while_open, do_while, do_end, for_open, for_next, for_test, for_update, try_open, catch_next, catch_open, catch_name, catch_close, catch_block, finally_next, finally_open, switch_open, switch_brace, clause_next, case_number, case_colon, refuse, frame_levels, here}
use Rattle.actx_grammar.specs.ParserOperands.{same_word, is_binding, fits_below, at_need, close_arguments}
use Rattle.actx_grammar.specs.Tree.{Expr, LetItems, no_lets, ConstItems, no_consts, MaybeExpr, no_expr, Init, Stmt, Try, Catch, no_last, Clauses, Stmts}
use Rattle.actx_laws.proofs.ReadyStates.{wants_expr, wants_stmt, is_list, Roomy, OfStatement, OfList, OfFrame, Sound, OfItems, OfMode, Ready, ReadyAfter}
use Rattle.actx_laws.proofs.ViableTests.{fits_less}
use Rattle.actx_grammar.specs.Names.{word_of}
use Rattle.actx_laws.proofs.ReadyOperands.{ready_if, end_lets_ready, on_frame, need_ready, bump_ready, whole_ready, operator_ready, have_ready, member_ready, reaches_here}
use Rattle.actx_laws.proofs.ReadyFunctions.{name_ready, opened_ready, first_ready, closed_ready, param_ready, behind_param_ready, arrow_sign_ready, arrow_body_ready, body_open_ready, params_open_ready, function_name_ready, function_ready, async_ready, async_start_ready, yield_ready, key_ready, behind_key_ready, key_name_ready, method_key_ready, key_async_ready, method_ready, key_end_ready, member_word_ready, call_ready, at_words_ready}
use Rattle.actx_grammar.specs.Parser.{at_let_name, at_of, let_of, at_let_behind, at_const_name, const_of, at_const_behind, at_jump, at_return, at_throw, at_open, at_paren, at_brace, at_do_end, at_for, at_for_test, at_for_update, at_catch, at_catch_open, at_catch_name, at_catch_close, at_finally, at_switch, at_clause, at_case, at_case_colon, move}
use Rattle.actx_laws.proofs.ReadyStatements.{opened_list, start_ready, body_start_ready, behind_ready}

-- THE REST OF STATEMENTS
part_here : {lim : Limits} {s : List Frame} (f : Frame) → frame_levels f ≡ 1 → Roomy lim s → OfStatement lim f s
part_here {lim} {s} f e h = record { wanted = h.wanted; part = fits_less lim (here (f ∷ s)) (suc (here s)) h.part (omega arith) }

items_wanted : (lim : Limits) (s : List Frame) (of : ItemsOf) → OfItems lim of s → wants_stmt s ≡ true
items_wanted lim s of_statement h = h
items_wanted lim s of_for h = h.wanted

let_name_ready : (lim : Limits) (side : Side) (of : ItemsOf) (is : LetItems) (r : ℕ) (s : List Frame) (w : TokenKind) → OfItems lim of s → Sound lim s → ReadyAfter lim side (at_let_name side of is r s w)
let_name_ready lim side of is r s (t.Name x) h z = ready_if lim side (is_binding side x) (let_behind of is x r) s (λ w. record { mode = h; stack = z })
let_name_ready lim side of is r s _ h z = tt

of_ready : (lim : Limits) (at side : Side) (constant : Bool) (x y : List ℕ) (s : List Frame) → Roomy lim s → Sound lim s → ReadyAfter lim at (at_of side constant x y s)
of_ready lim at Source constant x y s h z = ready_if lim at (same_word y (codes "of")) need (in_for_over constant x ∷ s) (λ w. record { mode = refl; stack = (part_here (in_for_over constant x) refl h, z) })
of_ready lim at Plain constant x y s h z = tt

let_of_ready : (lim : Limits) (at side : Side) (of : ItemsOf) (is : LetItems) (x y : List ℕ) (s : List Frame) → OfItems lim of s → Sound lim s → ReadyAfter lim at (let_of side of is x y s)
let_of_ready lim at side of_for no_lets x y s h z = of_ready lim at side false x y s h z
let_of_ready lim at side of_statement is x y s h z = tt
let_of_ready lim at side of_for _ x y s h z = tt

let_behind_ready : (lim : Limits) (side : Side) (of : ItemsOf) (is : LetItems) (x : List ℕ) (r : ℕ) (s : List Frame) (w : TokenKind) → OfItems lim of s → Sound lim s → ReadyAfter lim side (at_let_behind lim side of is x r s w)
let_behind_ready lim side of is x r s (t.Sign g.Assign) h z = ready_if lim side (fits_below lim s) need (in_let of is x r ∷ s) (λ w. record { mode = refl; stack = (part_here (in_let of is x r) refl (record { wanted = items_wanted lim s of h; part = w }), z) })
let_behind_ready lim side of is x r s (t.Sign g.Comma) h z = record { mode = h; stack = z }
let_behind_ready lim side of is x r s (t.Sign g.Semicolon) h z = end_lets_ready lim side of (with_let is x no_expr) r s h z
let_behind_ready lim side of is x r s (t.Name y) h z = let_of_ready lim side side of is x y s h z
let_behind_ready lim side of is x r s (t.Sign _) h z = tt
let_behind_ready lim side of is x r s _ h z = tt

const_name_ready : (lim : Limits) (side : Side) (of : ItemsOf) (is : ConstItems) (r : ℕ) (s : List Frame) (w : TokenKind) → Roomy lim s → Sound lim s → ReadyAfter lim side (at_const_name side of is r s w)
const_name_ready lim side of is r s (t.Name x) h z = ready_if lim side (is_binding side x) (const_behind of is x r) s (λ w. record { mode = h; stack = z })
const_name_ready lim side of is r s _ h z = tt

const_of_ready : (lim : Limits) (at side : Side) (of : ItemsOf) (is : ConstItems) (x y : List ℕ) (s : List Frame) → Roomy lim s → Sound lim s → ReadyAfter lim at (const_of side of is x y s)
const_of_ready lim at side of_for no_consts x y s h z = of_ready lim at side true x y s h z
const_of_ready lim at side of_statement is x y s h z = tt
const_of_ready lim at side of_for _ x y s h z = tt

const_behind_ready : (lim : Limits) (side : Side) (of : ItemsOf) (is : ConstItems) (x : List ℕ) (r : ℕ) (s : List Frame) (w : TokenKind) → Roomy lim s → Sound lim s → ReadyAfter lim side (at_const_behind side of is x r s w)
const_behind_ready lim side of is x r s (t.Sign g.Assign) h z = record { mode = refl; stack = (part_here (in_const of is x r) refl h, z) }
const_behind_ready lim side of is x r s (t.Name y) h z = const_of_ready lim side side of is x y s h z
const_behind_ready lim side of is x r s (t.Sign _) h z = tt
const_behind_ready lim side of is x r s _ h z = tt

jump_ready : (lim : Limits) (side : Side) (st : Stmt) (s : List Frame) (w : TokenKind) → wants_stmt s ≡ true → Sound lim s → ReadyAfter lim side (at_jump st s w)
jump_ready lim side st s (t.Sign g.Semicolon) h z = record { mode = h; stack = z }
jump_ready lim side st s (t.Sign _) h z = tt
jump_ready lim side st s _ h z = tt

-- an expression that begins a part of a statement
statement_need : (lim : Limits) (side : Side) (f : Frame) (s : List Frame) (w : TokenKind) → wants_expr (f ∷ s) ≡ true → (fits lim (here (f ∷ s)) ≡ true → OfFrame lim f s) → close_arguments (f ∷ s) ≡ refuse → Sound lim s → ReadyAfter lim side (at_need lim side (f ∷ s) w)
statement_need lim side f s w i j e z = on_frame lim side (f ∷ s) w i (λ y. (j y, z)) (subst (λ m. ReadyAfter lim side m) (sym e) tt)

return_need : (lim : Limits) (side : Side) (s : List Frame) (w : TokenKind) → wants_stmt s ≡ true → Sound lim s → ReadyAfter lim side (at_need lim side (in_return ∷ s) w)
return_need lim side s w h z = statement_need lim side in_return s w refl (λ i. record { wanted = h; part = i }) refl z

return_ready : (lim : Limits) (side : Side) (s : List Frame) (w : TokenKind) (b : Bool) → wants_stmt s ≡ true → Sound lim s → ReadyAfter lim side (at_return lim side s w b)
return_ready lim side s (t.Sign g.Semicolon) b h z = record { mode = h; stack = z }
return_ready lim side s (t.Sign w) false h z = return_need lim side s (t.Sign w) h z
return_ready lim side s (t.Name w) false h z = return_need lim side s (t.Name w) h z
return_ready lim side s (t.Keyword w) false h z = return_need lim side s (t.Keyword w) h z
return_ready lim side s (t.Number w) false h z = return_need lim side s (t.Number w) h z
return_ready lim side s (t.Text w) false h z = return_need lim side s (t.Text w) h z
return_ready lim side s (t.Sign w) true h z = tt
return_ready lim side s _ true h z = tt

throw_ready : (lim : Limits) (side : Side) (s : List Frame) (w : TokenKind) (b : Bool) → Roomy lim s → Sound lim s → ReadyAfter lim side (at_throw lim side s w b)
throw_ready lim side s w false h z = statement_need lim side in_throw s w refl (λ i. record { wanted = h.wanted; part = i }) refl z
throw_ready lim side s w true h z = tt

-- a parenthesis before an expression
open_ready : (lim : Limits) (side : Side) (f : Frame) (s : List Frame) (w : TokenKind) → wants_expr (f ∷ s) ≡ true → OfFrame lim f s → Sound lim s → ReadyAfter lim side (at_open f s w)
open_ready lim side f s (t.Sign g.OpenParen) e h z = record { mode = e; stack = (h, z) }
open_ready lim side f s (t.Sign _) e h z = tt
open_ready lim side f s _ e h z = tt

paren_ready : (lim : Limits) (side : Side) (m : Mode) (s : List Frame) (w : TokenKind) → OfMode lim side m s → Sound lim s → ReadyAfter lim side (at_paren m s w)
paren_ready lim side m s (t.Sign g.OpenParen) h z = record { mode = h; stack = z }
paren_ready lim side m s (t.Sign _) h z = tt
paren_ready lim side m s _ h z = tt

brace_ready : (lim : Limits) (side : Side) (owner : ListOwner) (r : ℕ) (s : List Frame) (w : TokenKind) → OfList lim owner r s → Sound lim s → ReadyAfter lim side (at_brace owner r s w)
brace_ready lim side owner r s (t.Sign g.OpenBrace) h z = opened_list lim side owner r s h z
brace_ready lim side owner r s (t.Sign _) h z = tt
brace_ready lim side owner r s _ h z = tt

do_end_ready : (lim : Limits) (side : Side) (st : Stmt) (e : Expr) (r : ℕ) (s : List Frame) (w : TokenKind) → wants_stmt s ≡ true → Sound lim s → ReadyAfter lim side (at_do_end st e r s w)
do_end_ready lim side st e r s (t.Sign g.Semicolon) h z = record { mode = h; stack = z }
do_end_ready lim side st e r s (t.Sign _) h z = tt
do_end_ready lim side st e r s _ h z = tt

init_need : (lim : Limits) (side : Side) (s : List Frame) (w : TokenKind) → Roomy lim s → Sound lim s → ReadyAfter lim side (at_need lim side (in_for_init ∷ s) w)
init_need lim side s w h z = statement_need lim side in_for_init s w refl (λ i. record { wanted = h.wanted; part = i }) refl z

for_ready : (lim : Limits) (side : Side) (s : List Frame) (w : TokenKind) → Roomy lim s → Sound lim s → ReadyAfter lim side (at_for lim side s w)
for_ready lim side s (t.Keyword k.Let) h z = record { mode = h; stack = z }
for_ready lim side s (t.Keyword k.Const) h z = record { mode = h; stack = z }
for_ready lim side s (t.Sign g.Semicolon) h z = record { mode = h; stack = z }
for_ready lim side s (t.Sign w) h z = init_need lim side s (t.Sign w) h z
for_ready lim side s (t.Keyword w) h z = init_need lim side s (t.Keyword w) h z
for_ready lim side s (t.Name w) h z = init_need lim side s (t.Name w) h z
for_ready lim side s (t.Number w) h z = init_need lim side s (t.Number w) h z
for_ready lim side s (t.Text w) h z = init_need lim side s (t.Text w) h z

test_need : (lim : Limits) (side : Side) (i : Init) (r : ℕ) (s : List Frame) (w : TokenKind) → Roomy lim s → Sound lim s → ReadyAfter lim side (at_need lim side (in_for_test i r ∷ s) w)
test_need lim side i r s w h z = statement_need lim side (in_for_test i r) s w refl (λ y. record { wanted = h.wanted; part = y }) refl z

for_test_ready : (lim : Limits) (side : Side) (i : Init) (r : ℕ) (s : List Frame) (w : TokenKind) → Roomy lim s → Sound lim s → ReadyAfter lim side (at_for_test lim side i r s w)
for_test_ready lim side i r s (t.Sign g.Semicolon) h z = record { mode = h; stack = z }
for_test_ready lim side i r s (t.Sign w) h z = test_need lim side i r s (t.Sign w) h z
for_test_ready lim side i r s (t.Keyword w) h z = test_need lim side i r s (t.Keyword w) h z
for_test_ready lim side i r s (t.Name w) h z = test_need lim side i r s (t.Name w) h z
for_test_ready lim side i r s (t.Number w) h z = test_need lim side i r s (t.Number w) h z
for_test_ready lim side i r s (t.Text w) h z = test_need lim side i r s (t.Text w) h z

update_need : (lim : Limits) (side : Side) (i : Init) (test : MaybeExpr) (r : ℕ) (s : List Frame) (w : TokenKind) → Roomy lim s → Sound lim s → ReadyAfter lim side (at_need lim side (in_for_update i test r ∷ s) w)
update_need lim side i test r s w h z = statement_need lim side (in_for_update i test r) s w refl (λ y. record { wanted = h.wanted; part = y }) refl z

for_update_ready : (lim : Limits) (side : Side) (i : Init) (test : MaybeExpr) (r : ℕ) (s : List Frame) (w : TokenKind) → Roomy lim s → Sound lim s → ReadyAfter lim side (at_for_update lim side i test r s w)
for_update_ready lim side i test r s (t.Sign g.CloseParen) h z = let a : OfStatement lim (for_body i test no_expr r) s = part_here (for_body i test no_expr r) refl h in record { mode = record { wanted = refl; fit = a.part }; stack = (a, z) }
for_update_ready lim side i test r s (t.Sign w) h z = update_need lim side i test r s (t.Sign w) h z
for_update_ready lim side i test r s (t.Keyword w) h z = update_need lim side i test r s (t.Keyword w) h z
for_update_ready lim side i test r s (t.Name w) h z = update_need lim side i test r s (t.Name w) h z
for_update_ready lim side i test r s (t.Number w) h z = update_need lim side i test r s (t.Number w) h z
for_update_ready lim side i test r s (t.Text w) h z = update_need lim side i test r s (t.Text w) h z

catch_ready : (lim : Limits) (side : Side) (bs : Stmts) (r : ℕ) (s : List Frame) (w : TokenKind) → wants_stmt s ≡ true → Sound lim s → ReadyAfter lim side (at_catch bs r s w)
catch_ready lim side bs r s (t.Keyword k.Catch) h z = record { mode = h; stack = z }
catch_ready lim side bs r s (t.Keyword k.Finally) h z = record { mode = h; stack = z }
catch_ready lim side bs r s (t.Keyword _) h z = tt
catch_ready lim side bs r s _ h z = tt

catch_open_ready : (lim : Limits) (side : Side) (bs : Stmts) (r : ℕ) (s : List Frame) (w : TokenKind) → wants_stmt s ≡ true → Sound lim s → ReadyAfter lim side (at_catch_open bs r s w)
catch_open_ready lim side bs r s (t.Sign g.OpenParen) h z = record { mode = h; stack = z }
catch_open_ready lim side bs r s (t.Sign w) h z = brace_ready lim side (caught bs None) r s (t.Sign w) h z
catch_open_ready lim side bs r s (t.Name w) h z = tt
catch_open_ready lim side bs r s (t.Keyword w) h z = tt
catch_open_ready lim side bs r s (t.Number w) h z = tt
catch_open_ready lim side bs r s (t.Text w) h z = tt

catch_name_ready : (lim : Limits) (side : Side) (bs : Stmts) (r : ℕ) (s : List Frame) (w : TokenKind) → wants_stmt s ≡ true → Sound lim s → ReadyAfter lim side (at_catch_name side bs r s w)
catch_name_ready lim side bs r s (t.Name x) h z = ready_if lim side (is_binding side x) (catch_close bs x r) s (λ w. record { mode = h; stack = z })
catch_name_ready lim side bs r s _ h z = tt

catch_close_ready : (lim : Limits) (side : Side) (bs : Stmts) (x : List ℕ) (r : ℕ) (s : List Frame) (w : TokenKind) → wants_stmt s ≡ true → Sound lim s → ReadyAfter lim side (at_catch_close bs x r s w)
catch_close_ready lim side bs x r s (t.Sign g.CloseParen) h z = record { mode = h; stack = z }
catch_close_ready lim side bs x r s (t.Sign _) h z = tt
catch_close_ready lim side bs x r s _ h z = tt

finally_ready : (lim : Limits) (side : Side) (bs : Stmts) (c : Catch) (r : ℕ) (s : List Frame) (w : TokenKind) → wants_stmt s ≡ true → Sound lim s → ReadyAfter lim side (at_finally lim side bs c r s w)
finally_ready lim side bs c r s (t.Keyword k.Finally) h z = record { mode = h; stack = z }
finally_ready lim side bs c r s (t.Keyword w) h z = behind_ready lim side (Try bs c no_last) r s (t.Keyword w) z
finally_ready lim side bs c r s (t.Sign w) h z = behind_ready lim side (Try bs c no_last) r s (t.Sign w) z
finally_ready lim side bs c r s (t.Name w) h z = behind_ready lim side (Try bs c no_last) r s (t.Name w) z
finally_ready lim side bs c r s (t.Number w) h z = behind_ready lim side (Try bs c no_last) r s (t.Number w) z
finally_ready lim side bs c r s (t.Text w) h z = behind_ready lim side (Try bs c no_last) r s (t.Text w) z

switch_ready : (lim : Limits) (side : Side) (e : Expr) (r : ℕ) (s : List Frame) (w : TokenKind) → wants_stmt s ≡ true → Sound lim s → ReadyAfter lim side (at_switch e r s w)
switch_ready lim side e r s (t.Sign g.OpenBrace) h z = record { mode = h; stack = z }
switch_ready lim side e r s (t.Sign _) h z = tt
switch_ready lim side e r s _ h z = tt

clause_ready : (lim : Limits) (side : Side) (e : Expr) (cs : Clauses) (r : ℕ) (s : List Frame) (w : TokenKind) → wants_stmt s ≡ true → Sound lim s → ReadyAfter lim side (at_clause e cs r s w)
clause_ready lim side e cs r s (t.Sign g.CloseBrace) h z = record { mode = h; stack = z }
clause_ready lim side e cs r s (t.Keyword k.Case) h z = record { mode = h; stack = z }
clause_ready lim side e cs r s (t.Keyword k.Default) h z = record { mode = h; stack = z }
clause_ready lim side e cs r s (t.Sign _) h z = tt
clause_ready lim side e cs r s (t.Keyword _) h z = tt
clause_ready lim side e cs r s _ h z = tt

case_ready : (lim : Limits) (side : Side) (e : Expr) (cs : Clauses) (r : ℕ) (s : List Frame) (w : TokenKind) → wants_stmt s ≡ true → Sound lim s → ReadyAfter lim side (at_case e cs r s w)
case_ready lim side e cs r s (t.Number n) h z = record { mode = h; stack = z }
case_ready lim side e cs r s _ h z = tt

case_colon_ready : (lim : Limits) (side : Side) (e : Expr) (cs : Clauses) (n : Option ℕ) (r : ℕ) (s : List Frame) (w : TokenKind) → wants_stmt s ≡ true → Sound lim s → ReadyAfter lim side (at_case_colon e cs n r s w)
case_colon_ready lim side e cs n r s (t.Sign g.Colon) h z = opened_list lim side (clause_of e cs n) r s h z
case_colon_ready lim side e cs n r s (t.Sign _) h z = tt
case_colon_ready lim side e cs n r s _ h z = tt

-- ONE TOKEN
list_wanted : (s : List Frame) → is_list s ≡ true → wants_stmt s ≡ true
list_wanted (in_list owner ss r ∷ s) h = refl
list_wanted [] h = absurd (cc)
list_wanted (_ ∷ s) h = absurd (cc)

pub step_ready : (lim : Limits) (side : Side) (m : Mode) (s : List Frame) (w : TokenKind) (b : Bool) → Ready lim side m s → ReadyAfter lim side (move lim side m s w b)
step_ready lim side start s w b h = start_ready lim side s w (list_wanted s h.mode) h.stack
step_ready lim side body_start s w b h = body_start_ready lim side s w h.mode.wanted h.stack
step_ready lim side (have_stmt st r) s w b h = behind_ready lim side st r s w h.stack
step_ready lim side need s w b h = need_ready lim side s w h.mode h.stack
step_ready lim side (have e r) s w b h = have_ready lim side e r s w h.mode h.stack
step_ready lim side (have_member e key r) s w b h = member_ready lim side e key r s w h.mode h.stack
step_ready lim side (have_name x) s w b h = name_ready lim side x s w b h.mode h.stack
step_ready lim side (have_bump e) s w b h = operator_ready lim side e (here s) s w (reaches_here h.mode) h.stack
step_ready lim side (whole e r) s w b h = whole_ready lim side e r s w h.mode h.stack
step_ready lim side opened s w b h = opened_ready lim side s w h.mode h.stack
step_ready lim side (first_name x) s w b h = first_ready lim side x s w b h.mode h.stack
step_ready lim side (closed_name x) s w b h = closed_ready lim side x s w b h.mode h.stack
step_ready lim side (bump_name up) s w b h = bump_ready lim side up s w h.mode h.stack
step_ready lim side yield_next s w b h = yield_ready lim side s w b h.mode h.stack
step_ready lim side async_next s w b h = async_ready lim side s w b h.mode h.stack
step_ready lim side async_start s w b h = async_start_ready lim side s w b h.mode h.stack
step_ready lim side (function_next role) s w b h = function_ready lim side role s w h.mode h.stack
step_ready lim side (name_next role kind) s w b h = function_name_ready lim side role kind s w h.mode h.stack
step_ready lim side (params_open i) s w b h = params_open_ready lim side i s w h.mode h.stack
step_ready lim side (param_next i xs) s w b h = param_ready lim side i xs s w h.mode h.stack
step_ready lim side (param_behind i xs) s w b h = behind_param_ready lim side i xs s w h.mode h.stack
step_ready lim side (arrow_sign kind xs) s w b h = arrow_sign_ready lim side kind xs s w b h.mode h.stack
step_ready lim side (arrow_body kind xs) s w b h = arrow_body_ready lim side kind xs s w h.mode h.stack
step_ready lim side (body_open i xs) s w b h = body_open_ready lim side i xs s w h.mode h.stack
step_ready lim side (key_next ps r) s w b h = key_ready lim side ps r s w h.mode h.stack
step_ready lim side (key_behind ps key r) s w b h = behind_key_ready lim side ps key r s w h.mode h.stack
step_ready lim side (key_name ps x r) s w b h = key_name_ready lim side ps x r s w h.mode h.stack
step_ready lim side (key_async ps r) s w b h = key_async_ready lim side ps r s w b h.mode h.stack
step_ready lim side (key_end ps r) s w b h = key_end_ready lim side ps r s w h.mode h.stack
step_ready lim side (method_key ps kind r) s w b h = method_key_ready lim side ps kind r s w h.mode h.stack
step_ready lim side (method_open ps kind key r) s w b h = method_ready lim side ps kind key r s w h.mode h.stack
step_ready lim side (member_name e r) s w b h = member_word_ready lim side side e (word_of w) r s h.mode h.stack
step_ready lim side (call_open e r) s w b h = call_ready lim side e r s w h.mode h.stack
step_ready lim side (words_next ws) s w b h = at_words_ready lim side ws s w h.mode h.stack
step_ready lim side (let_name of is r) s w b h = let_name_ready lim side of is r s w h.mode h.stack
step_ready lim side (let_behind of is x r) s w b h = let_behind_ready lim side of is x r s w h.mode h.stack
step_ready lim side (const_name of is r) s w b h = const_name_ready lim side of is r s w h.mode h.stack
step_ready lim side (const_behind of is x r) s w b h = const_behind_ready lim side of is x r s w h.mode h.stack
step_ready lim side (jump_end st) s w b h = jump_ready lim side st s w h.mode h.stack
step_ready lim side return_next s w b h = return_ready lim side s w b h.mode h.stack
step_ready lim side throw_next s w b h = throw_ready lim side s w b h.mode h.stack
step_ready lim side if_open s w b h = open_ready lim side in_if s w refl (part_here in_if refl h.mode) h.stack
step_ready lim side while_open s w b h = open_ready lim side in_while s w refl (part_here in_while refl h.mode) h.stack
step_ready lim side (do_while st r) s w b h = open_ready lim side (in_do_test st r) s w refl (part_here (in_do_test st r) refl h.mode) h.stack
step_ready lim side (do_end st e r) s w b h = do_end_ready lim side st e r s w h.mode h.stack
step_ready lim side for_open s w b h = paren_ready lim side for_next s w h.mode h.stack
step_ready lim side for_next s w b h = for_ready lim side s w h.mode h.stack
step_ready lim side (for_test i r) s w b h = for_test_ready lim side i r s w h.mode h.stack
step_ready lim side (for_update i test r) s w b h = for_update_ready lim side i test r s w h.mode h.stack
step_ready lim side try_open s w b h = brace_ready lim side tried (here s) s w h.mode h.stack
step_ready lim side (catch_next bs r) s w b h = catch_ready lim side bs r s w h.mode h.stack
step_ready lim side (catch_open bs r) s w b h = catch_open_ready lim side bs r s w h.mode h.stack
step_ready lim side (catch_name bs r) s w b h = catch_name_ready lim side bs r s w h.mode h.stack
step_ready lim side (catch_close bs x r) s w b h = catch_close_ready lim side bs x r s w h.mode h.stack
step_ready lim side (catch_block bs x r) s w b h = brace_ready lim side (caught bs (Some x)) r s w h.mode h.stack
step_ready lim side (finally_next bs c r) s w b h = finally_ready lim side bs c r s w h.mode h.stack
step_ready lim side (finally_open bs c r) s w b h = brace_ready lim side (finally bs c) r s w h.mode h.stack
step_ready lim side switch_open s w b h = open_ready lim side in_switch s w refl (part_here in_switch refl h.mode) h.stack
step_ready lim side (switch_brace e r) s w b h = switch_ready lim side e r s w h.mode h.stack
step_ready lim side (clause_next e cs r) s w b h = clause_ready lim side e cs r s w h.mode h.stack
step_ready lim side (case_number e cs r) s w b h = case_ready lim side e cs r s w h.mode h.stack
step_ready lim side (case_colon e cs n r) s w b h = case_colon_ready lim side e cs n r s w h.mode h.stack
