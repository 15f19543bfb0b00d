-- Every sound stack lets what stands on it go on to the end of a program.
use Rattle.std.proofs.Common.{◌≡◌, ℕ, suc, ◌≤◌, max, List, [], ◌∷◌, Bool, true, Option, Some, None, refl, arith}
use Rattle.actx_grammar.specs.declared.operators.Form.{Form}
use Rattle.actx_grammar.specs.declared.operators.FunctionKind.{FunctionKind}
use Rattle.actx_grammar.specs.declared.operators.FunctionKind.TheVariants.{Normal}
use Rattle.actx_grammar.specs.declared.side.Side.{Side}
use Rattle.actx_grammar.specs.declared.token.Keyword.TheVariants as k
use Rattle.actx_grammar.specs.declared.token.Sign.TheVariants as g
use Rattle.actx_grammar.specs.declared.token.TokenKind.TheVariants as t
use Rattle.actx_grammar.specs.Grammar.{count, with_last, with_let, with_const, with_property}
use Rattle.actx_grammar.specs.Parser.{with_stmt, with_clause, end_list}
use Rattle.actx_grammar.specs.ParserFunctions.{function_depth}
use Rattle.actx_grammar.specs.ParserOperands.{least_parts, most_parts}
use Rattle.actx_grammar.specs.ParserState.{Limits, at_most, fits, takes_more, Role, expression, declaration, method, Head, arrow_head, function_head, ItemsOf, of_statement, of_for, ListOwner, program, body, block, tried, caught, finally, clause_of, Frame, in_unary, in_await, in_binary, in_logic, in_choice, in_other, in_paren, in_call, in_form, in_set_name, in_set, in_change, in_index, in_computed, in_property, in_arrow, in_yield, in_yield_all, in_value, in_let, in_const, in_return, in_throw, in_if, in_while, in_do_test, in_for_init, in_for_test, in_for_update, in_for_over, in_switch, yes_of, no_of, while_of, do_of, for_body, for_of_body, in_list, Mode, start, body_start, have_stmt, need, have, whole, function_next, name_next, params_open, param_next, param_behind, arrow_sign, arrow_body, body_open, key_behind, key_end, method_open, do_while, for_test, for_update, catch_next, finally_next, finally_open, switch_brace, clause_next, go, frame_levels, here}
use Rattle.actx_grammar.specs.Tree.{Expr, Num, Unary, Binary, Logic, SetName, SetMember, Change, Member, Call, Object, Function, Yield, YieldAll, Await, Exprs, MaybeExpr, no_expr, some_expr, Index, PropKey, Computed, Properties, code, LetItems, ConstItems, Init, init_let, init_const, init_value, Stmt, Let, Const, Fun, Block, If, While, DoWhile, For, ForOf, Return, Throw, Try, Value, Empty, Switch, no_stmt, some_stmt, Catch, no_catch, catch, no_last, last, Clauses, no_clauses, Stmts, end, next}
use Rattle.actx_laws.proofs.ReadyStates.{wants_stmt, Stands, Deeper, Roomy, OfOperand, OfStatement, OfForm, OfList, Sound, OfRole, OfHead}
use Rattle.actx_laws.proofs.ViableTests.{and_right, fits_less}
use Rattle.actx_laws.proofs.ReadyEnds.{Goes, goes_to_end, goes_by, never, a_word, a_name, a_binding, if_goes, Closes, closes_by, have_goes, member_goes, whole_goes, number_goes, Ends, ends_program, ends_brace, ends_while, settled_ends, stmt_goes, caught_goes, Enough, reaching, operand_frame, statement_frame, through, settle_binary, settle_logic, other_closes, choice_closes, form_closes}
use Rattle.actx_laws.proofs.ReadyFunctions.{body_sound}
use Rattle.actx_laws.proofs.ReadyOperands.{roomy_of}
use Rattle.actx_laws.proofs.ReadyStatements.{list_deeper}

have_on : {lim : Limits} {side : Side} {s : List Frame} → Enough lim side s → Stands lim s → (e : Expr) (r : ℕ) → here s ≤ r → Goes lim side (have e r) s
have_on n h e r i = have_goes (n.expr h e r i)

-- a part one level below what stands here
pub fits_part : (lim : Limits) (s : List Frame) (f : Frame) → frame_levels f ≡ 1 → fits lim (suc (here s)) ≡ true → fits lim (here (f ∷ s)) ≡ true
fits_part lim s f e w = fits_less lim (here (f ∷ s)) (suc (here s)) w (omega arith)

-- PROPERTIES
property_closes : {lim : Limits} {side : Side} {s : List Frame} (ps : Properties) (key : PropKey) (q : ℕ) → Stands lim s → Enough lim side s → (e : Expr) (r : ℕ) → here s ≤ r → Closes lim side e r (in_property ps key q ∷ s)
property_closes ps key q h n e r i = closes_by g.CloseBrace tt refl (have_on n h (Object (with_property ps key e)) (max q r) (omega arith))

pub property_goes : {lim : Limits} {side : Side} {s : List Frame} (ps : Properties) (key : PropKey) (r : ℕ) → Deeper lim r s → Enough lim side s → Goes lim side need (in_property ps key r ∷ s)
property_goes {lim} {s = s} ps key r h n = number_goes (in_property ps key r ∷ s) (fits_part lim s (in_property ps key r) refl h.part) refl (property_closes ps key r h.stands n (Num 0) (here (in_property ps key r ∷ s)) (omega arith))

pub key_goes : {lim : Limits} {side : Side} {s : List Frame} (ps : Properties) (key : PropKey) (r : ℕ) → Deeper lim r s → Enough lim side s → Goes lim side (key_behind ps key r) s
key_goes ps key r h n = goes_by (t.Sign g.Colon) tt refl (property_goes ps key r h n)

-- LISTS
pub record Shut (lim : Limits) (side : Side) (owner : ListOwner) (ss : Stmts) (r : ℕ) (s : List Frame) : Type 0 where
  pub mode : Mode
  pub rest : List Frame
  pub is : end_list owner ss r s ≡ go mode rest
  pub goes : Goes lim side mode rest

start_on : {lim : Limits} {side : Side} {owner : ListOwner} {ss : Stmts} {r : ℕ} {s : List Frame} → Shut lim side owner ss r s → Goes lim side start (in_list owner ss r ∷ s)
start_on h = goes_by (t.Sign g.CloseBrace) tt h.is h.goes

shut_body : {lim : Limits} {side : Side} (h : Head) (xs : List (List ℕ)) (ss : Stmts) (r : ℕ) (s : List Frame) → OfList lim (body h xs) r s → Enough lim side s → Shut lim side (body h xs) ss r s
shut_body (arrow_head kind) xs ss r s i n = record { mode = whole (Function (code None kind xs ss)) r; rest = s; is = refl; goes = whole_goes (reaching n (Function (code None kind xs ss)) i) }
shut_body (function_head expression kind x) xs ss r s i n = record { mode = have (Function (code x kind xs ss)) r; rest = s; is = refl; goes = have_goes (reaching n (Function (code x kind xs ss)) i) }
shut_body (function_head declaration kind x) xs ss r s i n = record { mode = have_stmt (Fun (code x kind xs ss)) r; rest = s; is = refl; goes = stmt_goes (n.stmt i (Fun (code x kind xs ss)) r) }
shut_body (function_head (method ps key q) kind x) xs ss r s i n =
    let qs : Properties = with_property ps key (Function (code None kind xs ss)) in
    record { mode = key_end qs r; rest = s; is = refl; goes = goes_by (t.Sign g.CloseBrace) tt refl (have_goes (reaching n (Object qs) i)) }

shut_finally : {lim : Limits} {side : Side} (bs : Stmts) (c : Catch) (ss : Stmts) (r : ℕ) (s : List Frame) → wants_stmt s ≡ true → Enough lim side s → Shut lim side (finally bs c) ss r s
shut_finally bs c ss r s i n = record { mode = have_stmt (Try bs c (last ss)) r; rest = s; is = refl; goes = stmt_goes (n.stmt i (Try bs c (last ss)) r) }

-- a finally part ends a try
pub finally_goes : {lim : Limits} {side : Side} (bs : Stmts) (c : Catch) (r : ℕ) (s : List Frame) → wants_stmt s ≡ true → Enough lim side s → Goes lim side (finally_open bs c r) s
finally_goes bs c r s i n = goes_by (t.Sign g.OpenBrace) tt refl (start_on (shut_finally bs c end r s i n))

pub catch_goes : {lim : Limits} {side : Side} (bs : Stmts) (r : ℕ) (s : List Frame) → wants_stmt s ≡ true → Enough lim side s → Goes lim side (catch_next bs r) s
catch_goes bs r s i n = goes_by (t.Keyword k.Finally) tt refl (finally_goes bs no_catch r s i n)

abbrev pub NoProgram : ListOwner → Type 0
NoProgram program = ⊥
NoProgram _ = Unit {0}

pub shut : {lim : Limits} {side : Side} (owner : ListOwner) (ss : Stmts) (r : ℕ) (s : List Frame) → NoProgram owner → OfList lim owner r s → Enough lim side s → Shut lim side owner ss r s
shut program ss r s no_program i n = absurd no_program
shut (body h xs) ss r s w i n = shut_body h xs ss r s i n
shut block ss r s w i n = record { mode = have_stmt (Block ss) r; rest = s; is = refl; goes = stmt_goes (n.stmt i (Block ss) r) }
shut tried ss r s w i n = record { mode = catch_next ss r; rest = s; is = refl; goes = catch_goes ss r s i n }
shut (caught bs x) ss r s w i n = record { mode = finally_next bs (catch x ss) r; rest = s; is = refl; goes = caught_goes (n.stmt i (Try bs (catch x ss) no_last) r) }
shut (finally bs c) ss r s w i n = shut_finally bs c ss r s i n
shut (clause_of e cs m) ss r s w i n = record { mode = have_stmt (Switch e (with_clause cs m ss)) r; rest = s; is = refl; goes = stmt_goes (n.stmt i (Switch e (with_clause cs m ss)) r) }

list_on : {lim : Limits} {side : Side} (owner : ListOwner) (ss : Stmts) (q : ℕ) (s : List Frame) → NoProgram owner → OfList lim owner q s → Enough lim side s → (st : Stmt) (r : ℕ) → Ends lim side st r (in_list owner ss q ∷ s)
list_on {lim} owner ss q s w h n st r = let a = shut owner (with_stmt ss st) (max q r) s w (list_deeper lim owner q r s h) n in ends_brace a.is a.goes

list_ends : {lim : Limits} {side : Side} (owner : ListOwner) (ss : Stmts) (q : ℕ) (s : List Frame) → OfList lim owner q s → Enough lim side s → (st : Stmt) (r : ℕ) → Ends lim side st r (in_list owner ss q ∷ s)
list_ends program ss q [] h n st r = ends_program refl
list_ends program ss q (f ∷ s) h n st r = absurd (cc)
list_ends (body i xs) ss q s h n st r = list_on (body i xs) ss q s tt h n st r
list_ends block ss q s h n st r = list_on block ss q s tt h n st r
list_ends tried ss q s h n st r = list_on tried ss q s tt h n st r
list_ends (caught bs x) ss q s h n st r = list_on (caught bs x) ss q s tt h n st r
list_ends (finally bs c) ss q s h n st r = list_on (finally bs c) ss q s tt h n st r
list_ends (clause_of e cs m) ss q s h n st r = list_on (clause_of e cs m) ss q s tt h n st r

pub start_goes : {lim : Limits} {side : Side} (owner : ListOwner) (ss : Stmts) (r : ℕ) (s : List Frame) → OfList lim owner r s → Enough lim side s → Goes lim side start (in_list owner ss r ∷ s)
start_goes program ss r [] h n = goes_to_end refl
start_goes program ss r (f ∷ s) h n = absurd (cc)
start_goes (body i xs) ss r s h n = start_on (shut (body i xs) ss r s tt h n)
start_goes block ss r s h n = start_on (shut block ss r s tt h n)
start_goes tried ss r s h n = start_on (shut tried ss r s tt h n)
start_goes (caught bs x) ss r s h n = start_on (shut (caught bs x) ss r s tt h n)
start_goes (finally bs c) ss r s h n = start_on (shut (finally bs c) ss r s tt h n)
start_goes (clause_of e cs m) ss r s h n = start_on (shut (clause_of e cs m) ss r s tt h n)

-- FUNCTIONS
pub arrow_body_goes : {lim : Limits} {side : Side} (kind : FunctionKind) (xs : List (List ℕ)) (s : List Frame) → Stands lim s → Enough lim side s → Goes lim side (arrow_body kind xs) s
arrow_body_goes {lim} kind xs s h n = goes_by (t.Sign g.OpenBrace) tt refl (start_goes (body (arrow_head kind) xs) end (here s) s (body_sound lim (arrow_head kind) xs s h) n)

pub arrow_sign_goes : {lim : Limits} {side : Side} (kind : FunctionKind) (xs : List (List ℕ)) (s : List Frame) → Stands lim s → Enough lim side s → Goes lim side (arrow_sign kind xs) s
arrow_sign_goes kind xs s h n = goes_by (t.Sign g.Arrow) tt refl (arrow_body_goes kind xs s h n)

pub body_open_goes : {lim : Limits} {side : Side} (h : Head) (xs : List (List ℕ)) (s : List Frame) → OfHead lim h s → Enough lim side s → Goes lim side (body_open h xs) s
body_open_goes {lim} h xs s i n = goes_by (t.Sign g.OpenBrace) tt refl (start_goes (body h xs) end (function_depth h s) s (body_sound lim h xs s i) n)

pub params_goes : {lim : Limits} {side : Side} (h : Head) (xs : List (List ℕ)) (s : List Frame) → OfHead lim h s → Enough lim side s → Goes lim side (param_next h xs) s
params_goes (arrow_head kind) xs s i n = goes_by (t.Sign g.CloseParen) tt refl (arrow_sign_goes kind xs s i n)
params_goes (function_head role kind x) xs s i n = goes_by (t.Sign g.CloseParen) tt refl (body_open_goes (function_head role kind x) xs s i n)

pub behind_param_goes : {lim : Limits} {side : Side} (h : Head) (xs : List (List ℕ)) (s : List Frame) → OfHead lim h s → Enough lim side s → Goes lim side (param_behind h xs) s
behind_param_goes (arrow_head kind) xs s i n = goes_by (t.Sign g.CloseParen) tt refl (arrow_sign_goes kind xs s i n)
behind_param_goes (function_head role kind x) xs s i n = goes_by (t.Sign g.CloseParen) tt refl (body_open_goes (function_head role kind x) xs s i n)

pub params_open_goes : {lim : Limits} {side : Side} (h : Head) (s : List Frame) → OfHead lim h s → Enough lim side s → Goes lim side (params_open h) s
params_open_goes h s i n = goes_by (t.Sign g.OpenParen) tt refl (params_goes h [] s i n)

pub name_goes : {lim : Limits} {side : Side} (role : Role) (kind : FunctionKind) (s : List Frame) → OfRole lim role s → Enough lim side s → Goes lim side (name_next role kind) s
name_goes {side = side} role kind s i n = let h : Head = function_head role kind (Some a_word) in goes_by (t.Name a_word) a_name (if_goes (params_open h) s (a_binding side)) (params_open_goes h s i n)

pub function_goes : {lim : Limits} {side : Side} (role : Role) (s : List Frame) → OfRole lim role s → Enough lim side s → Goes lim side (function_next role) s
function_goes {side = side} role s i n = let h : Head = function_head role Normal (Some a_word) in goes_by (t.Name a_word) a_name (if_goes (params_open h) s (a_binding side)) (params_open_goes h s i n)

pub method_goes : {lim : Limits} {side : Side} (ps : Properties) (kind : FunctionKind) (key : PropKey) (r : ℕ) (s : List Frame) → Deeper lim r s → Enough lim side s → Goes lim side (method_open ps kind key r) s
method_goes ps kind key r s h n = goes_by (t.Sign g.OpenParen) tt refl (params_goes (function_head (method ps key r) kind None) [] s (record { stands = h.stands; reach = h.reach }) n)

-- STATEMENTS
pub body_goes : {lim : Limits} {side : Side} (s : List Frame) → fits lim (here s) ≡ true → Ends lim side Empty (here s) s → Goes lim side body_start s
body_goes s h on = goes_by (t.Sign g.Semicolon) tt (if_goes (have_stmt Empty (here s)) s h) (stmt_goes on)

pub update_goes : {lim : Limits} {side : Side} (i : Init) (test : MaybeExpr) (r : ℕ) (s : List Frame) → Roomy lim s → Enough lim side s → Goes lim side (for_update i test r) s
update_goes {lim} i test r s h n =
    let f : Frame = for_body i test no_expr r in
    goes_by (t.Sign g.CloseParen) tt refl (body_goes (f ∷ s) (fits_part lim s f refl h.part) (settled_ends refl (n.stmt h.wanted (For i test no_expr Empty) (max r (here (f ∷ s))))))

pub test_goes : {lim : Limits} {side : Side} (i : Init) (r : ℕ) (s : List Frame) → Roomy lim s → Enough lim side s → Goes lim side (for_test i r) s
test_goes i r s h n = goes_by (t.Sign g.Semicolon) tt refl (update_goes i no_expr r s h n)

do_closes : {lim : Limits} {side : Side} {s : List Frame} (st : Stmt) (q : ℕ) → wants_stmt s ≡ true → Enough lim side s → (e : Expr) (r : ℕ) → Closes lim side e r (in_do_test st q ∷ s)
do_closes st q h n e r = closes_by g.CloseParen tt refl (goes_by (t.Sign g.Semicolon) tt refl (stmt_goes (n.stmt h (DoWhile st e) (max q r))))

pub do_goes : {lim : Limits} {side : Side} (st : Stmt) (r : ℕ) (s : List Frame) → Roomy lim s → Enough lim side s → Goes lim side (do_while st r) s
do_goes {lim} st r s h n = goes_by (t.Sign g.OpenParen) tt refl (number_goes (in_do_test st r ∷ s) (fits_part lim s (in_do_test st r) refl h.part) refl (do_closes st r h.wanted n (Num 0) (here (in_do_test st r ∷ s))))

pub clause_goes : {lim : Limits} {side : Side} (e : Expr) (cs : Clauses) (r : ℕ) (s : List Frame) → wants_stmt s ≡ true → Enough lim side s → Goes lim side (clause_next e cs r) s
clause_goes e cs r s h n = goes_by (t.Sign g.CloseBrace) tt refl (stmt_goes (n.stmt h (Switch e cs) r))

pub switch_goes : {lim : Limits} {side : Side} (e : Expr) (r : ℕ) (s : List Frame) → wants_stmt s ≡ true → Enough lim side s → Goes lim side (switch_brace e r) s
switch_goes e r s h n = goes_by (t.Sign g.OpenBrace) tt refl (clause_goes e no_clauses r s h n)

-- FRAMES OF STATEMENTS whose expression ends
let_closes : {lim : Limits} {side : Side} {s : List Frame} (of : ItemsOf) (is : LetItems) (x : List ℕ) (q : ℕ) → Roomy lim s → Enough lim side s → (e : Expr) (r : ℕ) → Closes lim side e r (in_let of is x q ∷ s)
let_closes of_statement is x q h n e r = closes_by g.Semicolon tt refl (stmt_goes (n.stmt h.wanted (Let (with_let is x (some_expr e))) (max q r)))
let_closes {s = s} of_for is x q h n e r = closes_by g.Semicolon tt refl (test_goes (init_let (with_let is x (some_expr e))) (max q r) s h n)

const_closes : {lim : Limits} {side : Side} {s : List Frame} (of : ItemsOf) (is : ConstItems) (x : List ℕ) (q : ℕ) → Roomy lim s → Enough lim side s → (e : Expr) (r : ℕ) → Closes lim side e r (in_const of is x q ∷ s)
const_closes of_statement is x q h n e r = closes_by g.Semicolon tt refl (stmt_goes (n.stmt h.wanted (Const (with_const is x e)) (max q r)))
const_closes {s = s} of_for is x q h n e r = closes_by g.Semicolon tt refl (test_goes (init_const (with_const is x e)) (max q r) s h n)

if_closes : {lim : Limits} {side : Side} {s : List Frame} → OfStatement lim in_if s → Enough lim side s → (e : Expr) (r : ℕ) → Closes lim side e r (in_if ∷ s)
if_closes {s = s} h n e r = closes_by g.CloseParen tt refl (body_goes (yes_of e r ∷ s) h.part (settled_ends refl (n.stmt h.wanted (If e Empty no_stmt) (max r (here (yes_of e r ∷ s))))))

while_closes : {lim : Limits} {side : Side} {s : List Frame} → OfStatement lim in_while s → Enough lim side s → (e : Expr) (r : ℕ) → Closes lim side e r (in_while ∷ s)
while_closes {s = s} h n e r = closes_by g.CloseParen tt refl (body_goes (while_of e r ∷ s) h.part (settled_ends refl (n.stmt h.wanted (While e Empty) (max r (here (while_of e r ∷ s))))))

update_closes : {lim : Limits} {side : Side} {s : List Frame} (i : Init) (test : MaybeExpr) (q : ℕ) → OfStatement lim (in_for_update i test q) s → Enough lim side s → (e : Expr) (r : ℕ) → Closes lim side e r (in_for_update i test q ∷ s)
update_closes {s = s} i test q h n e r =
    let f : Frame = for_body i test (some_expr e) (max q r) in
    closes_by g.CloseParen tt refl (body_goes (f ∷ s) h.part (settled_ends refl (n.stmt h.wanted (For i test (some_expr e) Empty) (max (max q r) (here (f ∷ s))))))

over_closes : {lim : Limits} {side : Side} {s : List Frame} (constant : Bool) (x : List ℕ) → OfStatement lim (in_for_over constant x) s → Enough lim side s → (e : Expr) (r : ℕ) → Closes lim side e r (in_for_over constant x ∷ s)
over_closes {s = s} constant x h n e r =
    let f : Frame = for_of_body constant x e r in
    closes_by g.CloseParen tt refl (body_goes (f ∷ s) h.part (settled_ends refl (n.stmt h.wanted (ForOf constant x e Empty) (max r (here (f ∷ s))))))

index_closes : {lim : Limits} {side : Side} {s : List Frame} (b : Expr) (q : ℕ) → Stands lim s → Enough lim side s → (e : Expr) (r : ℕ) → here s ≤ r → Closes lim side e r (in_index b q ∷ s)
index_closes b q h n e r i = closes_by g.CloseBracket tt refl (member_goes (n.expr h (Member b (Index e)) (max q r) (omega arith)))

computed_closes : {lim : Limits} {side : Side} {s : List Frame} (ps : Properties) (kind : Option FunctionKind) (q : ℕ) → OfOperand lim (in_computed ps kind q) s → Enough lim side s → (e : Expr) (r : ℕ) → here s ≤ r → Closes lim side e r (in_computed ps kind q ∷ s)
computed_closes {lim} {s = s} ps None q h n e r i =
    closes_by g.CloseBracket tt refl (key_goes ps (Computed e) (max q r) (record { stands = h.stands; reach = omega arith; part = fits_less lim (suc (here s)) (here (in_computed ps None q ∷ s)) h.part (omega arith) }) n)
computed_closes {lim} {s = s} ps (Some kind) q h n e r i =
    closes_by g.CloseBracket tt refl (method_goes ps kind (Computed e) (max q r) s (record { stands = h.stands; reach = omega arith; part = fits_less lim (suc (here s)) (here (in_computed ps (Some kind) q ∷ s)) h.part (omega arith) }) n)

form_frame : {lim : Limits} {side : Side} {s : List Frame} (form : Form) (es : Exprs) (q : ℕ) → takes_more lim 3 ≡ true → OfForm lim form es q s → Enough lim side s → Enough lim side (in_form form es q ∷ s)
form_frame {lim} form es q lists h n =
    operand_frame (in_form form es q) refl (λ w e r i. form_closes (least_parts form) form es q e r lists h.stands n h.reach w.fit (and_right (takes_more lim (count es)) (at_most (most_parts form) (suc (count es))) w.room) (omega arith))

-- EVERY SOUND STACK
pub enough : (lim : Limits) (side : Side) → takes_more lim 3 ≡ true → (s : List Frame) → Sound lim s → Enough lim side s
enough lim side lists [] z = record { expr = λ h e r i. never h.wanted; stmt = λ h st r. never h }
enough lim side lists (in_unary op ∷ s) z = through (in_unary op) (λ e. Unary op e) (λ r. r) refl (λ r. omega arith) (λ e r. refl) z.0 (enough lim side lists s z.1)
enough lim side lists (in_await ∷ s) z = through in_await (λ e. Await e) (λ r. r) refl (λ r. omega arith) (λ e r. refl) z.0 (enough lim side lists s z.1)
enough lim side lists (in_binary op a q ∷ s) z = through (in_binary op a q) (λ e. Binary op a e) (λ r. max q r) refl (λ r. omega arith) (λ e r. settle_binary op a e q r s) z.0 (enough lim side lists s z.1)
enough lim side lists (in_logic op a q ∷ s) z = through (in_logic op a q) (λ e. Logic op a e) (λ r. max q r) refl (λ r. omega arith) (λ e r. settle_logic op a e q r s) z.0 (enough lim side lists s z.1)
enough lim side lists (in_choice a q ∷ s) z = let n : Enough lim side s = enough lim side lists s z.1 in operand_frame (in_choice a q) refl (λ h e r i. choice_closes a q z.0.stands n h e r)
enough lim side lists (in_other a y q ∷ s) z = let n : Enough lim side s = enough lim side lists s z.1 in operand_frame (in_other a y q) refl (λ h e r i. other_closes a y q z.0.stands n e r i)
enough lim side lists (in_paren ∷ s) z = let n : Enough lim side s = enough lim side lists s z.1 in operand_frame in_paren refl (λ h e r i. closes_by g.CloseParen tt refl (have_on n z.0.stands e r i))
enough lim side lists (in_call c es q ∷ s) z = let n : Enough lim side s = enough lim side lists s z.1 in operand_frame (in_call c es q) refl (λ h e r i. closes_by g.CloseParen tt refl (have_on n z.0.stands (Call c (with_last es e)) (max q r) (omega arith)))
enough lim side lists (in_form form es q ∷ s) z = form_frame form es q lists z.0 (enough lim side lists s z.1)
enough lim side lists (in_set_name x ∷ s) z = through (in_set_name x) (λ e. SetName x e) (λ r. r) refl (λ r. omega arith) (λ e r. refl) z.0 (enough lim side lists s z.1)
enough lim side lists (in_set b key q ∷ s) z = through (in_set b key q) (λ e. SetMember b key e) (λ r. max q r) refl (λ r. omega arith) (λ e r. refl) z.0 (enough lim side lists s z.1)
enough lim side lists (in_change x op ∷ s) z = through (in_change x op) (λ e. Change x op e) (λ r. r) refl (λ r. omega arith) (λ e r. refl) z.0 (enough lim side lists s z.1)
enough lim side lists (in_index b q ∷ s) z = let n : Enough lim side s = enough lim side lists s z.1 in operand_frame (in_index b q) refl (λ h e r i. index_closes b q z.0.stands n e r i)
enough lim side lists (in_computed ps kind q ∷ s) z = let n : Enough lim side s = enough lim side lists s z.1 in operand_frame (in_computed ps kind q) refl (λ h e r i. computed_closes ps kind q z.0 n e r i)
enough lim side lists (in_property ps key q ∷ s) z = let n : Enough lim side s = enough lim side lists s z.1 in operand_frame (in_property ps key q) refl (λ h e r i. property_closes ps key q z.0.stands n e r i)
enough lim side lists (in_arrow kind xs ∷ s) z = through (in_arrow kind xs) (λ e. Function (code None kind xs (next (Return (some_expr e)) end))) (λ r. r) refl (λ r. omega arith) (λ e r. refl) z.0 (enough lim side lists s z.1)
enough lim side lists (in_yield ∷ s) z = through in_yield (λ e. Yield (some_expr e)) (λ r. r) refl (λ r. omega arith) (λ e r. refl) z.0 (enough lim side lists s z.1)
enough lim side lists (in_yield_all ∷ s) z = through in_yield_all (λ e. YieldAll e) (λ r. r) refl (λ r. omega arith) (λ e r. refl) z.0 (enough lim side lists s z.1)
enough lim side lists (in_value ∷ s) z = let n : Enough lim side s = enough lim side lists s z.1 in operand_frame in_value refl (λ h e r i. closes_by g.Semicolon tt refl (stmt_goes (n.stmt z.0.wanted (Value e) r)))
enough lim side lists (in_let of is x q ∷ s) z = let n : Enough lim side s = enough lim side lists s z.1 in operand_frame (in_let of is x q) refl (λ h e r i. let_closes of is x q (roomy_of refl z.0) n e r)
enough lim side lists (in_const of is x q ∷ s) z = let n : Enough lim side s = enough lim side lists s z.1 in operand_frame (in_const of is x q) refl (λ h e r i. const_closes of is x q (roomy_of refl z.0) n e r)
enough lim side lists (in_return ∷ s) z = let n : Enough lim side s = enough lim side lists s z.1 in operand_frame in_return refl (λ h e r i. closes_by g.Semicolon tt refl (stmt_goes (n.stmt z.0.wanted (Return (some_expr e)) r)))
enough lim side lists (in_throw ∷ s) z = let n : Enough lim side s = enough lim side lists s z.1 in operand_frame in_throw refl (λ h e r i. closes_by g.Semicolon tt refl (stmt_goes (n.stmt z.0.wanted (Throw e) r)))
enough lim side lists (in_if ∷ s) z = let n : Enough lim side s = enough lim side lists s z.1 in operand_frame in_if refl (λ h e r i. if_closes z.0 n e r)
enough lim side lists (in_while ∷ s) z = let n : Enough lim side s = enough lim side lists s z.1 in operand_frame in_while refl (λ h e r i. while_closes z.0 n e r)
enough lim side lists (in_do_test st q ∷ s) z = let n : Enough lim side s = enough lim side lists s z.1 in operand_frame (in_do_test st q) refl (λ h e r i. do_closes st q z.0.wanted n e r)
enough lim side lists (in_for_init ∷ s) z = let n : Enough lim side s = enough lim side lists s z.1 in operand_frame in_for_init refl (λ h e r i. closes_by g.Semicolon tt refl (test_goes (init_value e) r s (roomy_of refl z.0) n))
enough lim side lists (in_for_test i q ∷ s) z = let n : Enough lim side s = enough lim side lists s z.1 in operand_frame (in_for_test i q) refl (λ h e r j. closes_by g.Semicolon tt refl (update_goes i (some_expr e) (max q r) s (roomy_of refl z.0) n))
enough lim side lists (in_for_update i test q ∷ s) z = let n : Enough lim side s = enough lim side lists s z.1 in operand_frame (in_for_update i test q) refl (λ h e r j. update_closes i test q z.0 n e r)
enough lim side lists (in_for_over constant x ∷ s) z = let n : Enough lim side s = enough lim side lists s z.1 in operand_frame (in_for_over constant x) refl (λ h e r j. over_closes constant x z.0 n e r)
enough lim side lists (in_switch ∷ s) z = let n : Enough lim side s = enough lim side lists s z.1 in operand_frame in_switch refl (λ h e r j. closes_by g.CloseParen tt refl (switch_goes e r s z.0.wanted n))
enough lim side lists (yes_of e q ∷ s) z = let n : Enough lim side s = enough lim side lists s z.1 in statement_frame (yes_of e q) refl (λ st r. settled_ends refl (n.stmt z.0.wanted (If e st no_stmt) (max q r)))
enough lim side lists (no_of e branch q ∷ s) z = let n : Enough lim side s = enough lim side lists s z.1 in statement_frame (no_of e branch q) refl (λ st r. settled_ends refl (n.stmt z.0.wanted (If e branch (some_stmt st)) (max q r)))
enough lim side lists (while_of e q ∷ s) z = let n : Enough lim side s = enough lim side lists s z.1 in statement_frame (while_of e q) refl (λ st r. settled_ends refl (n.stmt z.0.wanted (While e st) (max q r)))
enough lim side lists (do_of ∷ s) z = let n : Enough lim side s = enough lim side lists s z.1 in statement_frame do_of refl (λ st r. ends_while refl (do_goes st r s (roomy_of refl z.0) n))
enough lim side lists (for_body i test update q ∷ s) z = let n : Enough lim side s = enough lim side lists s z.1 in statement_frame (for_body i test update q) refl (λ st r. settled_ends refl (n.stmt z.0.wanted (For i test update st) (max q r)))
enough lim side lists (for_of_body constant x e q ∷ s) z = let n : Enough lim side s = enough lim side lists s z.1 in statement_frame (for_of_body constant x e q) refl (λ st r. settled_ends refl (n.stmt z.0.wanted (ForOf constant x e st) (max q r)))
enough lim side lists (in_list owner ss q ∷ s) z = let n : Enough lim side s = enough lim side lists s z.1 in statement_frame (in_list owner ss q) refl (λ st r. list_ends owner ss q s z.0 n st r)
