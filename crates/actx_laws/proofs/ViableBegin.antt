-- Where an operand is wanted, or a parenthesis began one, a step keeps what was read in order.
use Rattle.std.proofs.Common.{◌≡◌, ℕ, List, [], ◌∷◌, ◌++◌, Bool, true, false, ◌&&◌, ◌||◌, cond, refl, arith, append_assoc}
use Rattle.std.specs.Prelude.{if◌then◌else◌}
use Rattle.actx_grammar.specs.declared.operators.FunctionKind.TheVariants.{Arrow}
use Rattle.actx_grammar.specs.declared.operators.UnaryOp.{UnaryOp}
use Rattle.actx_grammar.specs.declared.operators.UnaryOp.TheVariants as u
use Rattle.actx_grammar.specs.declared.side.Side.{Side}
use Rattle.actx_grammar.specs.declared.token.Keyword.{Keyword}
use Rattle.actx_grammar.specs.declared.token.Keyword.TheVariants as k
use Rattle.actx_grammar.specs.declared.token.Sign.{Sign}
use Rattle.actx_grammar.specs.declared.token.Sign.TheVariants as g
use Rattle.actx_grammar.specs.declared.token.TokenKind.{TokenKind}
use Rattle.actx_grammar.specs.declared.token.TokenKind.TheVariants as t
use Rattle.actx_grammar.specs.Forms.{unary_word, bump_sign}
use Rattle.actx_grammar.specs.Grammar.{sp_one_name, sp_params, sp_no_params, sp_listed_params, sp_arrow_head, sp_bump_before, sp_number, sp_text, sp_true, sp_false, sp_null, sp_this, sp_paren}
use Rattle.actx_grammar.specs.Lexemes.{Lexeme, sign, keyword, lexeme}
use Rattle.actx_grammar.specs.Names.{IsBinding}
use Rattle.actx_grammar.specs.ParserFunctions.{in_parens, at_opened, at_first, at_closed, at_name}
use Rattle.actx_grammar.specs.ParserOperands.{is_built_in, is_binding, is_source, named, takes_whole, begins_statement, has_room, fits_below, prefix, words_go, goes_on, forms_of, key_operand, operand, begin_operand, at_need, at_bump_name, at_have}
use Rattle.actx_grammar.specs.ParserState.{Limits, fits, expression, arrow_head, Frame, in_unary, in_await, in_paren, need, have_name, have_bump, first_name, opened, yield_next, async_next, function_next, words_next, key_next, param_next, arrow_sign, arrow_body, Move, refuse, go, here}
use Rattle.actx_grammar.specs.Tree.{Expr, Bump, no_properties}
use Rattle.actx_grammar.specs.Words.{HasForm, IsName}
use Rattle.actx_laws.proofs.ViableTests.{and_left, and_right, whole_level, source_is, free_is, binding_is, named_spells}
use Rattle.actx_laws.proofs.ViableParts.{May, none_begun_properties, all_begun_names}
use Rattle.actx_laws.proofs.ViableOpen.{Sp, Opens, op_unary, op_await, op_paren, Place, place, in_object, head_arrow}
use Rattle.actx_laws.proofs.ViableModes.{Held, role_expression, v_need, v_have, v_have_name, v_have_bump, v_opened, v_first_name, v_closed_name, v_bump_name, v_yield_next, v_async_next, v_function_next, v_param_next, v_arrow_sign, v_arrow_body, v_key_next, v_words_next, After, chosen, fits_of, place_on, viable_along, after_along}
use Rattle.actx_laws.proofs.ViableClosed.{close_arguments_viable}
use Rattle.actx_laws.proofs.ViableBehind.{One, here_deep, have_viable, name_viable}

-- after a condition
pub chosen_move : (lim : Limits) (side : Side) (b : Bool) (m : Move) (p : List Lexeme) → (b ≡ true → After lim side m p) → After lim side (if b then m else refuse) p
chosen_move lim side true m p f = f refl
chosen_move lim side false m p f = tt

-- what begins no statement stands where none begins
pub inner : {b : Bool} → cond b false true ≡ true → b ≡ true → ⊥
inner {b = true} h i = absurd (cc)
inner {b = false} h i = absurd (cc)

-- where an operand may begin
pub record Room (lim : Limits) (side : Side) (s : List Frame) (p : List Lexeme) : Type 0 where
  pub stack : Opens lim side s p
  pub fit : fits lim (here s) ≡ true
  pub more : has_room lim s ≡ true

leaf : {lim : Limits} {side : Side} {s : List Frame} {p : List Lexeme} {w : Lexeme} {e : Expr} → Place lim side s (w ∷ []) p → Sp lim side 11 1 e (w ∷ []) → Held lim side 11 e (here s) s (p ++ w ∷ [])
leaf {p = p} {w = w} at d = record { before = p; own = w ∷ []; height = 1; at = at; spells = d; all = refl; deep = here_deep (fits_of at) }

prefix_viable : {lim : Limits} {side : Side} (op : UnaryOp) (s : List Frame) (p : List Lexeme) (b : Bool) → Place lim side s (lexeme (unary_word op) b ∷ []) p → After lim side (prefix lim op s) (p ++ lexeme (unary_word op) b ∷ [])
prefix_viable {lim} {side} op s p b at = chosen lim side (fits_below lim s) need (in_unary op ∷ s) (p ++ lexeme (unary_word op) b ∷ []) (λ w. v_need (op_unary op b at) (λ v y i. tt))

words_viable : {lim : Limits} {side : Side} (w : Lexeme) (s : List Frame) (p : List Lexeme) → Place lim side s (w ∷ []) p → After lim side (words_go lim side (w.kind ∷ []) s) (p ++ w ∷ [])
words_viable {lim} {side} w s p at = chosen lim side (goes_on lim (here s) (w.kind ∷ []) (forms_of side)) (words_next (w.kind ∷ [])) s (p ++ w ∷ []) (λ i. v_words_next at refl)

key_viable : {lim : Limits} {side : Side} (s : List Frame) (key : Keyword) (b : Bool) (p : List Lexeme) → Room lim side s p → May s (keyword key b) → After lim side (key_operand lim side s key) (p ++ keyword key b ∷ [])
key_viable s k.This b p m may = v_have (leaf (place m.stack m.fit m.more (λ y. may y (λ i. tt))) sp_this)
key_viable s k.True b p m may = v_have (leaf (place m.stack m.fit m.more (λ y. may y (λ i. tt))) sp_true)
key_viable s k.False b p m may = v_have (leaf (place m.stack m.fit m.more (λ y. may y (λ i. tt))) sp_false)
key_viable s k.Null b p m may = v_have (leaf (place m.stack m.fit m.more (λ y. may y (λ i. tt))) sp_null)
key_viable s k.New b p m may = words_viable (keyword k.New b) s p (place m.stack m.fit m.more (λ y. may y (λ i. tt)))
key_viable {lim} {side} s k.Function b p m may = chosen lim side (if begins_statement s then false else true) (function_next expression) s (p ++ keyword k.Function b ∷ []) (λ w. v_function_next b (role_expression (place m.stack m.fit m.more (λ y. may y (λ i. absurd (inner w i))))))
key_viable {lim} {side} s k.Async b p m may = chosen lim side (is_source side) async_next s (p ++ keyword k.Async b ∷ []) (λ w. v_async_next b (source_is w) m.stack m.fit m.more may)
key_viable {lim} {side} s k.Await b p m may = chosen lim side (is_source side && fits_below lim s) need (in_await ∷ s) (p ++ keyword k.Await b ∷ []) (λ w. v_need (op_await b (source_is (and_left (is_source side) (fits_below lim s) w)) (place m.stack m.fit m.more (λ y. may y (λ i. tt)))) (λ v y i. tt))
key_viable {lim} {side} s k.Yield b p m may = chosen lim side (is_source side && takes_whole s) yield_next s (p ++ keyword k.Yield b ∷ []) (λ w. v_yield_next b (source_is (and_left (is_source side) (takes_whole s) w)) (place m.stack m.fit m.more (λ y. may y (λ i. tt))) (whole_level s (and_right (is_source side) (takes_whole s) w)))
key_viable s k.Typeof b p m may = prefix_viable u.Typeof s p b (place m.stack m.fit m.more (λ y. may y (λ i. tt)))
key_viable s k.Void b p m may = prefix_viable u.Void s p b (place m.stack m.fit m.more (λ y. may y (λ i. tt)))
key_viable s _ b p m may = tt

sign_viable : {lim : Limits} {side : Side} (s : List Frame) (v : Sign) (b : Bool) (p : List Lexeme) → Room lim side s p → May s (sign v b) → After lim side (operand lim side s (t.Sign v)) (p ++ sign v b ∷ [])
sign_viable s g.Not b p m may = prefix_viable u.Not s p b (place m.stack m.fit m.more (λ y. may y (λ i. tt)))
sign_viable s g.Minus b p m may = prefix_viable u.Minus s p b (place m.stack m.fit m.more (λ y. may y (λ i. tt)))
sign_viable s g.Increment b p m may = v_bump_name true b (place m.stack m.fit m.more (λ y. may y (λ i. tt)))
sign_viable s g.Decrement b p m may = v_bump_name false b (place m.stack m.fit m.more (λ y. may y (λ i. tt)))
sign_viable {lim} {side} s g.OpenParen b p m may = chosen lim side (takes_whole s || fits_below lim s) opened s (p ++ sign g.OpenParen b ∷ []) (λ w. v_opened b (place m.stack m.fit m.more (λ y. may y (λ i. tt))))
sign_viable {lim} {side} s g.OpenBrace b p m may = chosen lim side (if begins_statement s then false else true) (key_next no_properties (here s)) s (p ++ sign g.OpenBrace b ∷ []) (λ w. v_key_next (in_object {n = 0} b (place m.stack m.fit m.more (λ y. may y (λ i. absurd (inner w i)))) none_begun_properties (here_deep m.fit)))
sign_viable s _ b p m may = tt

name_operand : {lim : Limits} {side : Side} (x : List ℕ) (s : List Frame) (b : Bool) (p : List Lexeme) → IsName x → Place lim side s (lexeme (t.Name x) b ∷ []) p → After lim side (operand lim side s (t.Name x)) (p ++ lexeme (t.Name x) b ∷ [])
name_operand {lim} {side} x s b p n at = pick (is_built_in side x) refl
  where
    pick : (c : Bool) → is_built_in side x ≡ c → After lim side (if c then words_go lim side (t.Name x ∷ []) s else go (have_name x) s) (p ++ lexeme (t.Name x) b ∷ [])
    pick true q = words_viable (lexeme (t.Name x) b) s p at
    pick false q = v_have_name b at (free_is side x n q)

operand_viable : {lim : Limits} {side : Side} (s : List Frame) (v : TokenKind) (b : Bool) (p : List Lexeme) → Room lim side s p → May s (lexeme v b) → HasForm v → After lim side (operand lim side s v) (p ++ lexeme v b ∷ [])
operand_viable s (t.Number n) b p m may f = v_have (leaf (place m.stack m.fit m.more (λ y. may y (λ i. tt))) (sp_number f))
operand_viable s (t.Text x) b p m may f = v_have (leaf (place m.stack m.fit m.more (λ y. may y (λ i. tt))) (sp_text f))
operand_viable s (t.Name x) b p m may f = name_operand x s b p f (place m.stack m.fit m.more (λ y. may y (λ i. tt)))
operand_viable s (t.Keyword key) b p m may f = key_viable s key b p m may
operand_viable s (t.Sign v) b p m may f = sign_viable s v b p m may

begin_viable : {lim : Limits} {side : Side} (s : List Frame) (v : TokenKind) (b : Bool) (p : List Lexeme) → Opens lim side s p → May s (lexeme v b) → HasForm v → After lim side (begin_operand lim side s v) (p ++ lexeme v b ∷ [])
begin_viable {lim} {side} s v b p o may f =
    chosen_move lim side (fits lim (here s) && has_room lim s) (operand lim side s v) (p ++ lexeme v b ∷ []) (λ w.
    operand_viable s v b p (record { stack = o; fit = and_left (fits lim (here s)) (has_room lim s) w; more = and_right (fits lim (here s)) (has_room lim s) w }) may f)

pub need_viable : {lim : Limits} {side : Side} (s : List Frame) (v : TokenKind) (b : Bool) (p : List Lexeme) → Opens lim side s p → May s (lexeme v b) → HasForm v → After lim side (at_need lim side s v) (p ++ lexeme v b ∷ [])
need_viable s (t.Sign g.CloseParen) b p o may f = close_arguments_viable s p b o
need_viable s (t.Sign v) b p o may f = begin_viable s (t.Sign v) b p o may f
need_viable s (t.Number n) b p o may f = begin_viable s (t.Number n) b p o may f
need_viable s (t.Text x) b p o may f = begin_viable s (t.Text x) b p o may f
need_viable s (t.Name x) b p o may f = begin_viable s (t.Name x) b p o may f
need_viable s (t.Keyword x) b p o may f = begin_viable s (t.Keyword x) b p o may f

pub bump_viable : {lim : Limits} {side : Side} (up c : Bool) (s : List Frame) (v : TokenKind) (b : Bool) (p : List Lexeme) → Place lim side s (sign (bump_sign up) c ∷ []) p → HasForm v → After lim side (at_bump_name side up s v) ((p ++ sign (bump_sign up) c ∷ []) ++ lexeme v b ∷ [])
bump_viable {lim} {side} up c s (t.Name x) b p at f = chosen lim side (is_binding side x) (have_bump (Bump x up true)) s ((p ++ sign (bump_sign up) c ∷ []) ++ lexeme (t.Name x) b ∷ []) (λ w. v_have_bump (record { before = p; own = sign (bump_sign up) c ∷ lexeme (t.Name x) b ∷ []; height = 1; at = place_on (lexeme (t.Name x) b ∷ []) at; spells = sp_bump_before (omega arith) (binding_is side x f w); all = simp append_assoc; deep = here_deep (fits_of at) }))
bump_viable up c s _ b p at f = tt

-- PARENTHESES
paren_need : {lim : Limits} {side : Side} (s : List Frame) (c : Bool) (v : TokenKind) (b : Bool) (p : List Lexeme) → Place lim side s (sign g.OpenParen c ∷ []) p → HasForm v → After lim side (at_need lim side (in_paren ∷ s) v) ((p ++ sign g.OpenParen c ∷ []) ++ lexeme v b ∷ [])
paren_need s c v b p at f = need_viable (in_paren ∷ s) v b (p ++ sign g.OpenParen c ∷ []) (op_paren c at) (λ y i. tt) f

pub opened_viable : {lim : Limits} {side : Side} (s : List Frame) (c : Bool) (v : TokenKind) (b : Bool) (p : List Lexeme) → Place lim side s (sign g.OpenParen c ∷ []) p → HasForm v → After lim side (at_opened lim side s v) ((p ++ sign g.OpenParen c ∷ []) ++ lexeme v b ∷ [])
opened_viable {lim} {side} s c (t.Sign g.CloseParen) b p at f = chosen lim side (takes_whole s) (arrow_sign Arrow []) s ((p ++ sign g.OpenParen c ∷ []) ++ sign g.CloseParen b ∷ []) (λ w. viable_along (simp append_assoc) (v_arrow_sign (place_on (sign g.CloseParen b ∷ []) at) (whole_level s w) (sp_arrow_head (sp_listed_params sp_no_params))))
opened_viable s c (t.Sign v) b p at f = paren_need s c (t.Sign v) b p at f
opened_viable {lim} {side} s c (t.Name x) b p at f = pick (is_binding side x) refl
  where
    pick : (i : Bool) → is_binding side x ≡ i → After lim side (if i then go (first_name x) s else at_need lim side (in_paren ∷ s) (t.Name x)) ((p ++ sign g.OpenParen c ∷ []) ++ lexeme (t.Name x) b ∷ [])
    pick true q = viable_along (simp append_assoc) (v_first_name c b at (binding_is side x f q))
    pick false q = paren_need s c (t.Name x) b p at f
opened_viable s c (t.Number v) b p at f = paren_need s c (t.Number v) b p at f
opened_viable s c (t.Text v) b p at f = paren_need s c (t.Text v) b p at f
opened_viable s c (t.Keyword v) b p at f = paren_need s c (t.Keyword v) b p at f

first_inside : {lim : Limits} {side : Side} (x : List ℕ) (s : List Frame) (c i : Bool) (v : TokenKind) (b : Bool) (p : List Lexeme) → One lim → Place lim side s (sign g.OpenParen c ∷ []) p → IsBinding side x
    → After lim side (in_parens lim s (λ z. at_name lim x z v b)) ((p ++ sign g.OpenParen c ∷ lexeme (t.Name x) i ∷ []) ++ lexeme v b ∷ [])
first_inside {lim} {side} x s c i v b p one at n =
    let group : ((p ++ sign g.OpenParen c ∷ []) ++ lexeme (t.Name x) i ∷ []) ++ lexeme v b ∷ [] ≡ (p ++ sign g.OpenParen c ∷ lexeme (t.Name x) i ∷ []) ++ lexeme v b ∷ [] = simp append_assoc in
    chosen_move lim side (fits lim (here (in_paren ∷ s))) (at_name lim x (in_paren ∷ s) v b) ((p ++ sign g.OpenParen c ∷ lexeme (t.Name x) i ∷ []) ++ lexeme v b ∷ []) (λ w.
    after_along lim side (at_name lim x (in_paren ∷ s) v b) group
    (name_viable x (in_paren ∷ s) (p ++ sign g.OpenParen c ∷ []) i v b one (place (op_paren c at) w refl (λ y. tt)) n))

pub first_viable : {lim : Limits} {side : Side} (x : List ℕ) (s : List Frame) (c i : Bool) (v : TokenKind) (b : Bool) (p : List Lexeme) → One lim → Place lim side s (sign g.OpenParen c ∷ []) p → IsBinding side x → After lim side (at_first lim x s v b) ((p ++ sign g.OpenParen c ∷ lexeme (t.Name x) i ∷ []) ++ lexeme v b ∷ [])
first_viable {lim} {side} x s c i (t.Sign g.Comma) b p one at n = chosen lim side (takes_whole s) (param_next (arrow_head Arrow) (x ∷ [])) s ((p ++ sign g.OpenParen c ∷ lexeme (t.Name x) i ∷ []) ++ sign g.Comma b ∷ []) (λ w. viable_along (simp append_assoc) (v_param_next c (head_arrow at (whole_level s w)) (all_begun_names {x = lexeme (t.Name x) i ∷ []} b (sp_one_name n) one)))
first_viable x s c i (t.Sign g.CloseParen) b p one at n = viable_along (simp append_assoc) (v_closed_name c i b at n)
first_viable x s c i (t.Sign v) b p one at n = first_inside x s c i (t.Sign v) b p one at n
first_viable x s c i (t.Name v) b p one at n = first_inside x s c i (t.Name v) b p one at n
first_viable x s c i (t.Keyword v) b p one at n = first_inside x s c i (t.Keyword v) b p one at n
first_viable x s c i (t.Number v) b p one at n = first_inside x s c i (t.Number v) b p one at n
first_viable x s c i (t.Text v) b p one at n = first_inside x s c i (t.Text v) b p one at n

paren_held : {lim : Limits} {side : Side} (x : List ℕ) {s : List Frame} (c i j : Bool) {p : List Lexeme} → Place lim side s (sign g.OpenParen c ∷ []) p → IsBinding side x → fits lim (here (in_paren ∷ s)) ≡ true → Held lim side 11 (named x) (here (in_paren ∷ s)) s (p ++ sign g.OpenParen c ∷ lexeme (t.Name x) i ∷ sign g.CloseParen j ∷ [])
paren_held x c i j {p = p} at n w = record { before = p; own = sign g.OpenParen c ∷ ((lexeme (t.Name x) i ∷ []) ++ sign g.CloseParen j ∷ []); height = 2; at = place_on (lexeme (t.Name x) i ∷ sign g.CloseParen j ∷ []) at; spells = sp_paren c j (named_spells 1 0 x i n); all = refl; deep = record { reach = omega arith; within = w } }

closed_inside : {lim : Limits} {side : Side} (x : List ℕ) (s : List Frame) (c i j : Bool) (v : TokenKind) (b : Bool) (p : List Lexeme) → Place lim side s (sign g.OpenParen c ∷ []) p → IsBinding side x
    → After lim side (in_parens lim s (λ z. at_have lim (named x) (here z) s v)) ((p ++ sign g.OpenParen c ∷ lexeme (t.Name x) i ∷ sign g.CloseParen j ∷ []) ++ lexeme v b ∷ [])
closed_inside {lim} {side} x s c i j v b p at n =
    chosen_move lim side (fits lim (here (in_paren ∷ s))) (at_have lim (named x) (here (in_paren ∷ s)) s v) ((p ++ sign g.OpenParen c ∷ lexeme (t.Name x) i ∷ sign g.CloseParen j ∷ []) ++ lexeme v b ∷ []) (λ w.
    have_viable (named x) (here (in_paren ∷ s)) s (p ++ sign g.OpenParen c ∷ lexeme (t.Name x) i ∷ sign g.CloseParen j ∷ []) v b (paren_held x c i j at n w))

pub closed_viable : {lim : Limits} {side : Side} (x : List ℕ) (s : List Frame) (c i j : Bool) (v : TokenKind) (b : Bool) (p : List Lexeme) → One lim → Place lim side s (sign g.OpenParen c ∷ []) p → IsBinding side x → After lim side (at_closed lim x s v b) ((p ++ sign g.OpenParen c ∷ lexeme (t.Name x) i ∷ sign g.CloseParen j ∷ []) ++ lexeme v b ∷ [])
closed_viable {lim} {side} x s c i j (t.Sign g.Arrow) false p one at n = chosen lim side (takes_whole s && true) (arrow_body Arrow (x ∷ [])) s ((p ++ sign g.OpenParen c ∷ lexeme (t.Name x) i ∷ sign g.CloseParen j ∷ []) ++ sign g.Arrow false ∷ []) (λ w.
    viable_along (simp append_assoc) (v_arrow_body (place_on (lexeme (t.Name x) i ∷ sign g.CloseParen j ∷ []) at) (whole_level s (and_left (takes_whole s) true w)) (sp_arrow_head (sp_listed_params (sp_params {y = lexeme (t.Name x) i ∷ []} c j (sp_one_name n) one)))))
closed_viable {lim} {side} x s c i j (t.Sign g.Arrow) true p one at n = chosen lim side (takes_whole s && false) (arrow_body Arrow (x ∷ [])) s ((p ++ sign g.OpenParen c ∷ lexeme (t.Name x) i ∷ sign g.CloseParen j ∷ []) ++ sign g.Arrow true ∷ []) (λ w. let no : false ≡ true = and_right (takes_whole s) false w in absurd (cc))
closed_viable x s c i j (t.Sign v) b p one at n = closed_inside x s c i j (t.Sign v) b p at n
closed_viable x s c i j (t.Name v) b p one at n = closed_inside x s c i j (t.Name v) b p at n
closed_viable x s c i j (t.Keyword v) b p one at n = closed_inside x s c i j (t.Keyword v) b p at n
closed_viable x s c i j (t.Number v) b p one at n = closed_inside x s c i j (t.Number v) b p at n
closed_viable x s c i j (t.Text v) b p one at n = closed_inside x s c i j (t.Text v) b p at n
