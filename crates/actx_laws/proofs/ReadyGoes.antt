-- Every state that is ready goes on to the end of a program.
use Rattle.std.proofs.Common.{◌≡◌, ℕ, suc, ◌≤◌, ◌⊎◌, inl, inr, List, [], ◌∷◌, ◌++◌, Bool, true, false, ◌&&◌, ◌||◌, nat_le, nat_eq, Option, Some, None, codes, cond, if◌then◌else◌, refl, sym, ap, ◌∙◌, subst, append_assoc, append-nil, arith}
use Rattle.std.proofs.lemmas.Bool.Decides.{nat_tests}
use Rattle.actx_grammar.specs.declared.operators.Form.{Form}
use Rattle.actx_grammar.specs.declared.operators.Form.TheVariants as f
use Rattle.actx_grammar.specs.declared.operators.FunctionKind.TheVariants.{Arrow, Async, AsyncArrow}
use Rattle.actx_grammar.specs.declared.side.Side.{Side}
use Rattle.actx_grammar.specs.declared.side.Side.TheVariants.{Source, Plain}
use Rattle.actx_grammar.specs.declared.token.Keyword.TheVariants as k
use Rattle.actx_grammar.specs.declared.token.Sign.{Sign}
use Rattle.actx_grammar.specs.declared.token.Sign.TheVariants as g
use Rattle.actx_grammar.specs.declared.token.TokenKind.{TokenKind}
use Rattle.actx_grammar.specs.declared.token.TokenKind.TheVariants as t
use Rattle.actx_grammar.specs.Forms.{form_words, HasWords}
use Rattle.actx_grammar.specs.Grammar.{count, with_let}
use Rattle.actx_grammar.specs.ParserFunctions.{at_name, in_parens, at_closed, at_yield, member_word, open_form}
use Rattle.actx_grammar.specs.ParserOperands.{is_binding, named, least_parts, most_parts, forms_of, begins_with, goes_on, form_with, takes_whole, begins_statement, has_room, fits_below, at_whole, at_operator, at_have}
use Rattle.actx_grammar.specs.ParserState.{Limits, at_most, fits, takes_more, expression, declaration, ItemsOf, of_statement, of_for, tried, caught, clause_of, Frame, in_paren, in_call, in_form, in_value, in_const, in_throw, in_if, in_while, in_switch, yes_of, no_of, while_of, do_of, for_body, for_of_body, in_list, Mode, start, body_start, have_stmt, need, have, have_member, have_name, have_bump, whole, opened, first_name, closed_name, bump_name, yield_next, async_next, async_start, function_next, name_next, params_open, param_next, param_behind, arrow_sign, arrow_body, body_open, key_next, key_behind, key_name, key_async, key_end, method_key, method_open, member_name, call_open, words_next, let_name, let_behind, const_name, const_behind, jump_end, return_next, throw_next, if_open, while_open, do_while, do_end, for_open, for_next, for_test, for_update, try_open, catch_next, catch_open, catch_name, catch_close, catch_block, finally_next, finally_open, switch_open, switch_brace, clause_next, case_number, case_colon, refuse, go, frame_levels, here}
use Rattle.actx_grammar.specs.Tree.{Expr, Num, Bump, Member, Call, Object, Yield, Built, Exprs, none, also, no_expr, Dot, Fixed, Properties, LetItems, ConstItems, init_nothing, init_let, Let, DoWhile, Return, Throw, Try, Empty, no_last, Clauses, Stmts, end}
use Rattle.actx_grammar.specs.Words.{word_units}
use Rattle.actx_laws.proofs.ParseNames.{le_true, le_from, both}
use Rattle.actx_laws.proofs.ReadyStates.{wants_expr, wants_stmt, is_list, Stands, Deeper, Opened, Roomy, OfStatement, OfForm, OfFrame, Sound, OfItems, OfWords, Ready}
use Rattle.actx_laws.proofs.ViableTests.{and_right}
use Rattle.actx_laws.proofs.ParseForms.{form_is, found_goes, word_move, before, begins_so, form_all_words, all_words, middle}
use Rattle.actx_laws.proofs.ReadyEnds.{Goes, goes_by, never, a_word, a_name, a_binding, if_goes, IsCloser, Closes, closes_by, have_goes, member_goes, whole_goes, number_goes, stmt_goes, caught_goes, Enough, reaching, form_closes, lacks_room, not_le}
use Rattle.actx_laws.proofs.ReadyFrames.{fits_part, property_goes, key_goes, finally_goes, catch_goes, start_goes, arrow_body_goes, arrow_sign_goes, body_open_goes, params_goes, behind_param_goes, params_open_goes, name_goes, function_goes, method_goes, body_goes, update_goes, test_goes, do_goes, clause_goes, switch_goes, enough}
use Rattle.actx_laws.proofs.ReadyWords.{Forms, forms_goes}
use Rattle.actx_laws.proofs.SpellWords.{Formed, words_formed}
use Rattle.actx_laws.proofs.ViableObjects.{worded}

-- AN OPERAND IS WANTED
form_shuts : {lim : Limits} {side : Side} (form : Form) (es : Exprs) (r : ℕ) (s : List Frame) → least_parts form ≤ count es → OfForm lim form es r s → Enough lim side s → Goes lim side need (in_form form es r ∷ s)
form_shuts form es r s i h n =
    goes_by (t.Sign g.CloseParen) tt (if_goes (have (Built form es) r) s (both (nat_le (least_parts form) (count es)) (at_most (most_parts form) (count es)) (le_true (least_parts form) (count es) i) h.taken))
    (have_goes (n.expr h.stands (Built form es) r h.reach))

form_fills : {lim : Limits} {side : Side} (form : Form) (es : Exprs) (r : ℕ) (s : List Frame) → takes_more lim 3 ≡ true → fits lim (here (in_form form es r ∷ s)) ≡ true → OfForm lim form es r s → Enough lim side s → Goes lim side need (in_form form es r ∷ s)
form_fills {lim} {side} form es r s lists w h n = pick (nat_le (least_parts form) (count es)) refl
  where
    pick : (b : Bool) → nat_le (least_parts form) (count es) ≡ b → Goes lim side need (in_form form es r ∷ s)
    pick true q = form_shuts form es r s (le_from (least_parts form) (count es) q) h n
    pick false q =
        let room : (takes_more lim (count es) && at_most (most_parts form) (suc (count es))) ≡ true = lacks_room lim form (count es) lists (not_le (least_parts form) (count es) q) in
        number_goes (in_form form es r ∷ s) w room
        (form_closes (least_parts form) form es r (Num 0) (here (in_form form es r ∷ s)) lists h.stands n h.reach w (and_right (takes_more lim (count es)) (at_most (most_parts form) (suc (count es))) room) (omega arith))

form_goes : {lim : Limits} {side : Side} (form : Form) (es : Exprs) (r : ℕ) (s : List Frame) → takes_more lim 3 ≡ true → OfForm lim form es r s → Enough lim side s → Goes lim side need (in_form form es r ∷ s)
form_goes {lim} {side} form es r s lists h n = pick h.lacks
  where
    pick : (least_parts form ≤ count es) ⊎ (fits lim (here (in_form form es r ∷ s)) ≡ true) → Goes lim side need (in_form form es r ∷ s)
    pick (inl i) = form_shuts form es r s i h n
    pick (inr w) = form_fills form es r s lists w h n

-- a number stands where nothing bounds the operands
operand_goes : {lim : Limits} {side : Side} (s : List Frame) → wants_expr s ≡ true → fits lim (here s) ≡ true → has_room lim s ≡ true → Enough lim side s → Goes lim side need s
operand_goes s h i j n = number_goes s i j (n.expr (record { wanted = h; fit = i; room = j }) (Num 0) (here s) (omega arith))

need_goes : (lim : Limits) (side : Side) → takes_more lim 3 ≡ true → (s : List Frame) → wants_expr s ≡ true → Sound lim s → Goes lim side need s
need_goes lim side lists [] h z = never h
need_goes lim side lists (in_call c es r ∷ s) h z = goes_by (t.Sign g.CloseParen) tt refl (have_goes (reaching (enough lim side lists s z.1) (Call c es) z.0))
need_goes lim side lists (in_form form es r ∷ s) h z = form_goes form es r s lists z.0 (enough lim side lists s z.1)
need_goes lim side lists (yes_of e r ∷ s) h z = never h
need_goes lim side lists (no_of e st r ∷ s) h z = never h
need_goes lim side lists (while_of e r ∷ s) h z = never h
need_goes lim side lists (do_of ∷ s) h z = never h
need_goes lim side lists (for_body i test update r ∷ s) h z = never h
need_goes lim side lists (for_of_body constant x e r ∷ s) h z = never h
need_goes lim side lists (in_list owner ss r ∷ s) h z = never h
need_goes lim side lists (f ∷ s) h z = operand_goes (f ∷ s) refl z.0.part refl (enough lim side lists (f ∷ s) z)

-- NAMES
closer_name : (lim : Limits) (x : List ℕ) (s : List Frame) (w : Sign) → IsCloser w → at_name lim x s (t.Sign w) false ≡ at_whole (named x) (here s) s (t.Sign w)
closer_name lim x s g.CloseParen c = refl
closer_name lim x s g.CloseBracket c = refl
closer_name lim x s g.CloseBrace c = refl
closer_name lim x s g.Comma c = refl
closer_name lim x s g.Semicolon c = refl
closer_name lim x s g.Colon c = refl
closer_name lim x s _ c = absurd c

name_closes : {lim : Limits} {side : Side} {x : List ℕ} {s : List Frame} → Closes lim side (named x) (here s) s → Goes lim side (have_name x) s
name_closes {lim} {x = x} {s = s} (closes_by w c i on) = goes_by (t.Sign w) tt (closer_name lim x s w c ∙ i) on

closer_bump : (lim : Limits) (e : Expr) (s : List Frame) (w : Sign) → IsCloser w → at_operator lim e (here s) s (t.Sign w) ≡ at_whole e (here s) s (t.Sign w)
closer_bump lim e s g.CloseParen c = refl
closer_bump lim e s g.CloseBracket c = refl
closer_bump lim e s g.CloseBrace c = refl
closer_bump lim e s g.Comma c = refl
closer_bump lim e s g.Semicolon c = refl
closer_bump lim e s g.Colon c = refl
closer_bump lim e s _ c = absurd c

bump_closes : {lim : Limits} {side : Side} {e : Expr} {s : List Frame} → Closes lim side e (here s) s → Goes lim side (have_bump e) s
bump_closes {lim} {e = e} {s = s} (closes_by w c i on) = goes_by (t.Sign w) tt (closer_bump lim e s w c ∙ i) on

closer_yield : (lim : Limits) (side : Side) (s : List Frame) (w : Sign) → IsCloser w → at_yield lim side s (t.Sign w) false ≡ at_whole (Yield no_expr) (here s) s (t.Sign w)
closer_yield lim side s g.CloseParen c = refl
closer_yield lim side s g.CloseBracket c = refl
closer_yield lim side s g.CloseBrace c = refl
closer_yield lim side s g.Comma c = refl
closer_yield lim side s g.Semicolon c = refl
closer_yield lim side s g.Colon c = refl
closer_yield lim side s _ c = absurd c

yield_closes : {lim : Limits} {side : Side} {s : List Frame} → Closes lim side (Yield no_expr) (here s) s → Goes lim side yield_next s
yield_closes {lim} {side} {s} (closes_by w c i on) = goes_by (t.Sign w) tt (closer_yield lim side s w c ∙ i) on

-- a name in parentheses
in_parens_move : (lim : Limits) (x : List ℕ) (s : List Frame) (w : TokenKind) → fits lim (here (in_paren ∷ s)) ≡ true → in_parens lim s (λ u. at_have lim (named x) (here u) s w) ≡ at_have lim (named x) (here (in_paren ∷ s)) s w
in_parens_move lim x s w h = ap (λ b. cond b (at_have lim (named x) (here (in_paren ∷ s)) s w) refuse) h

closer_closed : (lim : Limits) (x : List ℕ) (s : List Frame) (w : Sign) → IsCloser w → fits lim (here (in_paren ∷ s)) ≡ true → at_closed lim x s (t.Sign w) false ≡ at_whole (named x) (here (in_paren ∷ s)) s (t.Sign w)
closer_closed lim x s g.CloseParen c h = in_parens_move lim x s (t.Sign g.CloseParen) h
closer_closed lim x s g.CloseBracket c h = in_parens_move lim x s (t.Sign g.CloseBracket) h
closer_closed lim x s g.CloseBrace c h = in_parens_move lim x s (t.Sign g.CloseBrace) h
closer_closed lim x s g.Comma c h = in_parens_move lim x s (t.Sign g.Comma) h
closer_closed lim x s g.Semicolon c h = in_parens_move lim x s (t.Sign g.Semicolon) h
closer_closed lim x s g.Colon c h = in_parens_move lim x s (t.Sign g.Colon) h
closer_closed lim x s _ c h = absurd c

closed_closes : {lim : Limits} {side : Side} {x : List ℕ} {s : List Frame} → fits lim (here (in_paren ∷ s)) ≡ true → Closes lim side (named x) (here (in_paren ∷ s)) s → Goes lim side (closed_name x) s
closed_closes {lim} {x = x} {s = s} h (closes_by w c i on) = goes_by (t.Sign w) tt (closer_closed lim x s w c h ∙ i) on

or_rest : (b c : Bool) → (b || c) ≡ true → b ≡ false → c ≡ true
or_rest true c h q = absurd (cc)
or_rest false c h q = h

paren_fits : {lim : Limits} {s : List Frame} → Opened lim s → takes_whole s ≡ false → fits lim (here (in_paren ∷ s)) ≡ true
paren_fits {lim} {s} h q = fits_part lim s in_paren refl (or_rest (takes_whole s) (fits_below lim s) h.closes q)

closed_goes : {lim : Limits} {side : Side} (x : List ℕ) (s : List Frame) → Opened lim s → Enough lim side s → Goes lim side (closed_name x) s
closed_goes {lim} {side} x s h n = pick (takes_whole s) refl
  where
    pick : (b : Bool) → takes_whole s ≡ b → Goes lim side (closed_name x) s
    pick true q = goes_by (t.Sign g.Arrow) tt (if_goes (arrow_body Arrow (x ∷ [])) s (both (takes_whole s) true q refl)) (arrow_body_goes Arrow (x ∷ []) s h.stands n)
    pick false q = closed_closes (paren_fits h q) (n.expr h.stands (named x) (here (in_paren ∷ s)) (omega arith))

opened_goes : {lim : Limits} {side : Side} (s : List Frame) → Opened lim s → Enough lim side s → Goes lim side opened s
opened_goes {lim} {side} s h n = pick (takes_whole s) refl
  where
    pick : (b : Bool) → takes_whole s ≡ b → Goes lim side opened s
    pick true q = goes_by (t.Sign g.CloseParen) tt (if_goes (arrow_sign Arrow []) s q) (arrow_sign_goes Arrow [] s h.stands n)
    pick false q =
        let w : fits lim (here (in_paren ∷ s)) ≡ true = paren_fits h q in
        goes_by (t.Number 0) (omega arith) (ap (λ b. cond b (go (have (Num 0) (here (in_paren ∷ s))) (in_paren ∷ s)) refuse) (both (fits lim (here (in_paren ∷ s))) true w refl))
        (goes_by (t.Sign g.CloseParen) tt refl (have_goes (n.expr h.stands (Num 0) (here (in_paren ∷ s)) (omega arith))))

-- ASYNC
no_statement : (s : List Frame) → takes_whole s ≡ false → begins_statement s ≡ false
no_statement (in_value ∷ s) h = absurd (cc)
no_statement [] h = refl
no_statement (_ ∷ s) h = refl

async_goes : {lim : Limits} {side : Side} (s : List Frame) → Stands lim s → Enough lim side s → Goes lim side async_next s
async_goes {lim} {side} s h n = pick (takes_whole s) refl
  where
    pick : (b : Bool) → takes_whole s ≡ b → Goes lim side async_next s
    pick true q = goes_by (t.Name a_word) a_name (if_goes (arrow_sign AsyncArrow (a_word ∷ [])) s (both (takes_whole s) (is_binding side a_word) q (a_binding side))) (arrow_sign_goes AsyncArrow (a_word ∷ []) s h n)
    pick false q = goes_by (t.Keyword k.Function) tt (if_goes (name_next expression Async) s (ap (λ b. if b then false else true) (no_statement s q))) (name_goes expression Async s h n)

-- MEMBERS
member_word_goes : (lim : Limits) (at side : Side) (e : Expr) (r : ℕ) (s : List Frame) → member_word side e (Some a_word) r s ≡ go (have_member e (Dot a_word) r) s
member_word_goes lim at Source e r s = refl
member_word_goes lim at Plain e r s = refl

-- FORMS
formed_rest : (ws vs : List TokenKind) → Formed (ws ++ vs) → Formed vs
formed_rest [] vs h = h
formed_rest (w ∷ ws) vs h = formed_rest ws vs h.1

none_taken : (o : Option ℕ) → at_most o 0 ≡ true
none_taken None = refl
none_taken (Some m) = le_true 0 m (omega arith)

zero_test : (m : ℕ) → nat_eq m 0 ≡ true → m ≤ 0
zero_test m h = grind (arith, nat_tests)

form_room : (lim : Limits) (least depth : ℕ) → (nat_eq least 0 || fits lim depth) ≡ true → (least ≤ 0) ⊎ (fits lim depth ≡ true)
form_room lim least depth h = pick (nat_eq least 0) refl h
  where
    pick : (b : Bool) → nat_eq least 0 ≡ b → (b || fits lim depth) ≡ true → (least ≤ 0) ⊎ (fits lim depth ≡ true)
    pick true q i = inl (zero_test least q)
    pick false q i = inr i

fresh_form : {lim : Limits} {s : List Frame} (form : Form) → Stands lim s → (nat_eq (least_parts form) 0 || fits lim (suc (here s))) ≡ true → OfForm lim form none (here s) s
fresh_form {lim} {s} form h w = record { stands = h; reach = omega arith; taken = none_taken (most_parts form); lacks = pick (form_room lim (least_parts form) (suc (here s)) w) }
  where
    pick : (least_parts form ≤ 0) ⊎ (fits lim (suc (here s)) ≡ true) → (least_parts form ≤ count none) ⊎ (fits lim (here (in_form form none (here s) ∷ s)) ≡ true)
    pick (inl i) = inl i
    pick (inr v) = inr (fits_part lim s (in_form form none (here s)) refl v)

words_go_on : (lim : Limits) (side : Side) (form : Form) (ws vs : List TokenKind) (depth : ℕ) → HasWords side form → (nat_eq (least_parts form) 0 || fits lim (suc depth)) ≡ true → ws ++ vs ≡ form_words form → goes_on lim depth ws (forms_of side) ≡ true
words_go_on lim side form ws vs depth h j q = found_goes lim depth ws (form_words form) (forms_of side) form (form_is side form h) (subst (λ z. begins_with z ws ≡ true) q (begins_so ws vs (before ws vs (ap all_words q ∙ form_all_words form)))) j

words_goes : {lim : Limits} {side : Side} (form : Form) (ws vs : List TokenKind) (s : List Frame) → takes_more lim 3 ≡ true → HasWords side form → (nat_eq (least_parts form) 0 || fits lim (suc (here s))) ≡ true → ws ++ vs ≡ form_words form → Formed vs → Stands lim s → Enough lim side s → Goes lim side (words_next ws) s
words_goes {lim} {side} form ws [] s lists h j q f stands n =
    goes_by (t.Sign g.OpenParen) tt (ap (λ z. open_form (form_with z (forms_of side)) s) (sym (append-nil ws) ∙ q) ∙ ap (λ o. open_form o s) (form_is side form h)) (form_goes form none (here s) s lists (fresh_form form stands j) n)
words_goes {lim} {side} form ws (w ∷ vs) s lists h j q f stands n =
    let e : (ws ++ w ∷ []) ++ vs ≡ form_words form = append_assoc ws (w ∷ []) vs ∙ q in
    goes_by w f.0 (word_move lim side ws s w (middle ws w vs (ap all_words q ∙ form_all_words form)) ∙ if_goes (words_next (ws ++ w ∷ [])) s (words_go_on lim side form (ws ++ w ∷ []) vs (here s) h j e))
    (words_goes form (ws ++ w ∷ []) vs s lists h j e f.1 stands n)

form_words_goes : {lim : Limits} {side : Side} (ws : List TokenKind) (s : List Frame) → takes_more lim 3 ≡ true → OfWords lim side ws s → Enough lim side s → Goes lim side (words_next ws) s
form_words_goes {lim} {side} ws s lists h n =
    let a : Forms lim side (here s) ws = forms_goes lim side (here s) ws (forms_of side) (worded side) h.goes in
    words_goes a.form ws a.lacks s lists a.has a.room a.is (formed_rest ws a.lacks (subst (λ z. Formed z) (sym a.is) (words_formed side a.form a.has))) h.stands n

-- ITEMS
let_behind_goes : {lim : Limits} {side : Side} (of : ItemsOf) (is : LetItems) (x : List ℕ) (r : ℕ) (s : List Frame) → OfItems lim of s → Enough lim side s → Goes lim side (let_behind of is x r) s
let_behind_goes of_statement is x r s h n = goes_by (t.Sign g.Semicolon) tt refl (stmt_goes (n.stmt h (Let (with_let is x no_expr)) r))
let_behind_goes of_for is x r s h n = goes_by (t.Sign g.Semicolon) tt refl (test_goes (init_let (with_let is x no_expr)) r s h n)

const_behind_goes : {lim : Limits} {side : Side} (of : ItemsOf) (is : ConstItems) (x : List ℕ) (r : ℕ) (s : List Frame) → takes_more lim 3 ≡ true → Roomy lim s → Sound lim s → Goes lim side (const_behind of is x r) s
const_behind_goes {lim} {side} of is x r s lists h z =
    goes_by (t.Sign g.Assign) tt refl (need_goes lim side lists (in_const of is x r ∷ s) refl (record { wanted = h.wanted; part = fits_part lim s (in_const of is x r) refl h.part }, z))

-- an expression in a statement
part_goes : {lim : Limits} {side : Side} (f : Frame) (s : List Frame) → frame_levels f ≡ 1 → wants_expr (f ∷ s) ≡ true → (OfStatement lim f s → OfFrame lim f s) → takes_more lim 3 ≡ true → Roomy lim s → Sound lim s → Goes lim side need (f ∷ s)
part_goes {lim} {side} f s e i j lists h z = need_goes lim side lists (f ∷ s) i (j (record { wanted = h.wanted; part = fits_part lim s f e h.part }), z)

case_goes : {lim : Limits} {side : Side} (e : Expr) (cs : Clauses) (m : Option ℕ) (r : ℕ) (s : List Frame) → wants_stmt s ≡ true → Enough lim side s → Goes lim side (case_colon e cs m r) s
case_goes e cs m r s h n = goes_by (t.Sign g.Colon) tt refl (start_goes (clause_of e cs m) end r s h n)

-- a key whose name was read
named_goes : (lim : Limits) (side : Side) (ps : Properties) (x : List ℕ) (r : ℕ) (s : List Frame) → Deeper lim r s → Enough lim side s → Goes lim side (key_name ps x r) s
named_goes lim side ps x r s h n = goes_by (t.Sign g.Colon) tt refl (property_goes ps (Fixed (word_units x)) r h n)

named_goes_async : (lim : Limits) (side : Side) (ps : Properties) (r : ℕ) (s : List Frame) → Deeper lim r s → Enough lim side s → Goes lim side (key_async ps r) s
named_goes_async lim side ps r s h n = goes_by (t.Sign g.Colon) tt refl (property_goes ps (Fixed (codes "async")) r h n)

catch_close_goes : {lim : Limits} {side : Side} (bs : Stmts) (x : List ℕ) (r : ℕ) (s : List Frame) → wants_stmt s ≡ true → Enough lim side s → Goes lim side (catch_close bs x r) s
catch_close_goes bs x r s h n = goes_by (t.Sign g.CloseParen) tt refl (goes_by (t.Sign g.OpenBrace) tt refl (start_goes (caught bs (Some x)) end r s h n))

-- EVERY MODE
from_list : (lim : Limits) (side : Side) → takes_more lim 3 ≡ true → (s : List Frame) → is_list s ≡ true → Sound lim s → Goes lim side start s
from_list lim side lists (in_list owner ss r ∷ s) h z = start_goes owner ss r s z.0 (enough lim side lists s z.1)
from_list lim side lists [] h z = never h
from_list lim side lists (_ ∷ s) h z = never h

throw_goes : {lim : Limits} {side : Side} (s : List Frame) → Roomy lim s → Enough lim side s → Goes lim side throw_next s
throw_goes {lim} {side} s h n =
    let w : fits lim (here (in_throw ∷ s)) ≡ true = fits_part lim s in_throw refl h.part in
    goes_by (t.Number 0) (omega arith) (ap (λ b. cond b (go (have (Num 0) (here (in_throw ∷ s))) (in_throw ∷ s)) refuse) (both (fits lim (here (in_throw ∷ s))) true w refl))
    (goes_by (t.Sign g.Semicolon) tt refl (stmt_goes (n.stmt h.wanted (Throw (Num 0)) (here (in_throw ∷ s)))))

pub goes : (lim : Limits) (side : Side) → takes_more lim 3 ≡ true → (m : Mode) (s : List Frame) → Ready lim side m s → Goes lim side m s
goes lim side lists start s h = from_list lim side lists s h.mode h.stack
goes lim side lists body_start s h = let n : Enough lim side s = enough lim side lists s h.stack in body_goes s h.mode.fit (n.stmt h.mode.wanted Empty (here s))
goes lim side lists (have_stmt st r) s h = let n : Enough lim side s = enough lim side lists s h.stack in stmt_goes (n.stmt h.mode st r)
goes lim side lists need s h = need_goes lim side lists s h.mode h.stack
goes lim side lists (have e r) s h = have_goes (reaching (enough lim side lists s h.stack) e h.mode)
goes lim side lists (have_member e key r) s h = let n : Enough lim side s = enough lim side lists s h.stack in member_goes (n.expr h.mode.stands (Member e key) r h.mode.reach)
goes lim side lists (have_name x) s h = let n : Enough lim side s = enough lim side lists s h.stack in name_closes (n.expr h.mode (named x) (here s) (omega arith))
goes lim side lists (have_bump e) s h = let n : Enough lim side s = enough lim side lists s h.stack in bump_closes (n.expr h.mode e (here s) (omega arith))
goes lim side lists (whole e r) s h = whole_goes (reaching (enough lim side lists s h.stack) e h.mode)
goes lim side lists opened s h = opened_goes s h.mode (enough lim side lists s h.stack)
goes lim side lists (first_name x) s h = goes_by (t.Sign g.CloseParen) tt refl (closed_goes x s h.mode (enough lim side lists s h.stack))
goes lim side lists (closed_name x) s h = closed_goes x s h.mode (enough lim side lists s h.stack)
goes lim side lists (bump_name up) s h = let n : Enough lim side s = enough lim side lists s h.stack in goes_by (t.Name a_word) a_name (if_goes (have_bump (Bump a_word up true)) s (a_binding side)) (bump_closes (n.expr h.mode (Bump a_word up true) (here s) (omega arith)))
goes lim side lists yield_next s h = let n : Enough lim side s = enough lim side lists s h.stack in yield_closes (n.expr h.mode (Yield no_expr) (here s) (omega arith))
goes lim side lists async_next s h = async_goes s h.mode (enough lim side lists s h.stack)
goes lim side lists async_start s h = goes_by (t.Keyword k.Function) tt refl (name_goes declaration Async s h.mode (enough lim side lists s h.stack))
goes lim side lists (function_next role) s h = function_goes role s h.mode (enough lim side lists s h.stack)
goes lim side lists (name_next role kind) s h = name_goes role kind s h.mode (enough lim side lists s h.stack)
goes lim side lists (params_open i) s h = params_open_goes i s h.mode (enough lim side lists s h.stack)
goes lim side lists (param_next i xs) s h = params_goes i xs s h.mode (enough lim side lists s h.stack)
goes lim side lists (param_behind i xs) s h = behind_param_goes i xs s h.mode (enough lim side lists s h.stack)
goes lim side lists (arrow_sign kind xs) s h = arrow_sign_goes kind xs s h.mode (enough lim side lists s h.stack)
goes lim side lists (arrow_body kind xs) s h = arrow_body_goes kind xs s h.mode (enough lim side lists s h.stack)
goes lim side lists (body_open i xs) s h = body_open_goes i xs s h.mode (enough lim side lists s h.stack)
goes lim side lists (key_next ps r) s h = goes_by (t.Sign g.CloseBrace) tt refl (have_goes (reaching (enough lim side lists s h.stack) (Object ps) h.mode))
goes lim side lists (key_behind ps key r) s h = key_goes ps key r h.mode (enough lim side lists s h.stack)
goes lim side lists (key_name ps x r) s h = named_goes lim side ps x r s h.mode (enough lim side lists s h.stack)
goes lim side lists (key_async ps r) s h = named_goes_async lim side ps r s h.mode (enough lim side lists s h.stack)
goes lim side lists (key_end ps r) s h = goes_by (t.Sign g.CloseBrace) tt refl (have_goes (reaching (enough lim side lists s h.stack) (Object ps) h.mode))
goes lim side lists (method_key ps kind r) s h = goes_by (t.Name a_word) a_name refl (method_goes ps kind (Fixed (word_units a_word)) r s h.mode (enough lim side lists s h.stack))
goes lim side lists (method_open ps kind key r) s h = method_goes ps kind key r s h.mode (enough lim side lists s h.stack)
goes lim side lists (member_name e r) s h = let n : Enough lim side s = enough lim side lists s h.stack in goes_by (t.Name a_word) a_name (member_word_goes lim side side e r s) (member_goes (n.expr h.mode.stands (Member e (Dot a_word)) r h.mode.reach))
goes lim side lists (call_open e r) s h = goes_by (t.Sign g.OpenParen) tt refl (form_shuts f.CallWith (also e none) r s (omega arith) (record { stands = h.mode.stands; reach = h.mode.reach; taken = refl; lacks = inl (omega arith) }) (enough lim side lists s h.stack))
goes lim side lists (words_next ws) s h = form_words_goes ws s lists h.mode (enough lim side lists s h.stack)
goes lim side lists (let_name of is r) s h = goes_by (t.Name a_word) a_name (if_goes (let_behind of is a_word r) s (a_binding side)) (let_behind_goes of is a_word r s h.mode (enough lim side lists s h.stack))
goes lim side lists (let_behind of is x r) s h = let_behind_goes of is x r s h.mode (enough lim side lists s h.stack)
goes lim side lists (const_name of is r) s h = goes_by (t.Name a_word) a_name (if_goes (const_behind of is a_word r) s (a_binding side)) (const_behind_goes of is a_word r s lists h.mode h.stack)
goes lim side lists (const_behind of is x r) s h = const_behind_goes of is x r s lists h.mode h.stack
goes lim side lists (jump_end st) s h = let n : Enough lim side s = enough lim side lists s h.stack in goes_by (t.Sign g.Semicolon) tt refl (stmt_goes (n.stmt h.mode st (here s)))
goes lim side lists return_next s h = let n : Enough lim side s = enough lim side lists s h.stack in goes_by (t.Sign g.Semicolon) tt refl (stmt_goes (n.stmt h.mode (Return no_expr) (here s)))
goes lim side lists throw_next s h = throw_goes s h.mode (enough lim side lists s h.stack)
goes lim side lists if_open s h = goes_by (t.Sign g.OpenParen) tt refl (part_goes in_if s refl refl (λ y. y) lists h.mode h.stack)
goes lim side lists while_open s h = goes_by (t.Sign g.OpenParen) tt refl (part_goes in_while s refl refl (λ y. y) lists h.mode h.stack)
goes lim side lists (do_while st r) s h = do_goes st r s h.mode (enough lim side lists s h.stack)
goes lim side lists (do_end st e r) s h = let n : Enough lim side s = enough lim side lists s h.stack in goes_by (t.Sign g.Semicolon) tt refl (stmt_goes (n.stmt h.mode (DoWhile st e) r))
goes lim side lists for_open s h = goes_by (t.Sign g.OpenParen) tt refl (goes_by (t.Sign g.Semicolon) tt refl (test_goes init_nothing (here s) s h.mode (enough lim side lists s h.stack)))
goes lim side lists for_next s h = goes_by (t.Sign g.Semicolon) tt refl (test_goes init_nothing (here s) s h.mode (enough lim side lists s h.stack))
goes lim side lists (for_test i r) s h = test_goes i r s h.mode (enough lim side lists s h.stack)
goes lim side lists (for_update i test r) s h = update_goes i test r s h.mode (enough lim side lists s h.stack)
goes lim side lists try_open s h = goes_by (t.Sign g.OpenBrace) tt refl (start_goes tried end (here s) s h.mode (enough lim side lists s h.stack))
goes lim side lists (catch_next bs r) s h = catch_goes bs r s h.mode (enough lim side lists s h.stack)
goes lim side lists (catch_open bs r) s h = goes_by (t.Sign g.OpenBrace) tt refl (start_goes (caught bs None) end r s h.mode (enough lim side lists s h.stack))
goes lim side lists (catch_name bs r) s h = goes_by (t.Name a_word) a_name (if_goes (catch_close bs a_word r) s (a_binding side)) (catch_close_goes bs a_word r s h.mode (enough lim side lists s h.stack))
goes lim side lists (catch_close bs x r) s h = catch_close_goes bs x r s h.mode (enough lim side lists s h.stack)
goes lim side lists (catch_block bs x r) s h = goes_by (t.Sign g.OpenBrace) tt refl (start_goes (caught bs (Some x)) end r s h.mode (enough lim side lists s h.stack))
goes lim side lists (finally_next bs c r) s h = let n : Enough lim side s = enough lim side lists s h.stack in caught_goes (n.stmt h.mode (Try bs c no_last) r)
goes lim side lists (finally_open bs c r) s h = finally_goes bs c r s h.mode (enough lim side lists s h.stack)
goes lim side lists switch_open s h = goes_by (t.Sign g.OpenParen) tt refl (part_goes in_switch s refl refl (λ y. y) lists h.mode h.stack)
goes lim side lists (switch_brace e r) s h = switch_goes e r s h.mode (enough lim side lists s h.stack)
goes lim side lists (clause_next e cs r) s h = clause_goes e cs r s h.mode (enough lim side lists s h.stack)
goes lim side lists (case_number e cs r) s h = goes_by (t.Number 0) (omega arith) refl (case_goes e cs (Some 0) r s h.mode (enough lim side lists s h.stack))
goes lim side lists (case_colon e cs m r) s h = case_goes e cs m r s h.mode (enough lim side lists s h.stack)
