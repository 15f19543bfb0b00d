-- A step at an operand or behind one keeps what is open sound.
use Rattle.std.proofs.Common.{◌≡◌, ℕ, suc, ◌≤◌, inr, max, List, [], ◌∷◌, Bool, true, false, ◌&&◌, ◌||◌, nat_le, Option, Some, None, cond, if◌then◌else◌, refl, ap, ◌∙◌, arith}
use Rattle.actx_grammar.specs.declared.operators.BinaryOp.{BinaryOp}
use Rattle.actx_grammar.specs.declared.operators.BinaryOp.TheVariants as o
use Rattle.actx_grammar.specs.declared.operators.Form.{Form}
use Rattle.actx_grammar.specs.declared.operators.FunctionKind.{FunctionKind}
use Rattle.actx_grammar.specs.declared.operators.LogicOp.{LogicOp}
use Rattle.actx_grammar.specs.declared.operators.LogicOp.TheVariants.{And, Or, Coalesce}
use Rattle.actx_grammar.specs.declared.operators.UnaryOp.{UnaryOp}
use Rattle.actx_grammar.specs.declared.operators.UnaryOp.TheVariants as u
use Rattle.actx_grammar.specs.declared.side.Side.{Side}
use Rattle.actx_grammar.specs.declared.token.Keyword.{Keyword}
use Rattle.actx_grammar.specs.declared.token.Keyword.TheVariants as k
use Rattle.actx_grammar.specs.declared.token.Sign.TheVariants as g
use Rattle.actx_grammar.specs.declared.token.TokenKind.{TokenKind}
use Rattle.actx_grammar.specs.declared.token.TokenKind.TheVariants as t
use Rattle.actx_grammar.specs.Forms.{level_of}
use Rattle.actx_grammar.specs.Grammar.{count, with_last, with_let, with_const}
use Rattle.actx_grammar.specs.ParserState.{Limits, at_most, fits, takes_more, expression, ItemsOf, of_statement, of_for, Frame, in_unary, in_await, in_binary, in_logic, in_choice, in_other, in_paren, in_call, in_form, in_set_name, in_set, in_change, in_index, in_computed, in_property, in_arrow, in_yield, in_yield_all, in_value, in_let, in_const, in_return, in_throw, in_if, in_while, in_do_test, in_for_init, in_for_test, in_for_update, in_for_over, in_switch, yes_of, while_of, for_body, for_of_body, Mode, need, have, have_name, have_bump, opened, yield_next, async_next, function_next, key_next, member_name, words_next, Move, refuse, go, go_if, frame_levels, here, Settled, settled, logic_level, settle}
use Rattle.actx_grammar.specs.ParserOperands.{most_parts, suits, forms_of, goes_on, takes_whole, begins_statement, has_room, fits_below, prefix, words_go, key_operand, operand, begin_operand, close_arguments, at_need, at_bump_name, end_lets, end_consts, close_paren, after_computed, close_bracket, close_brace, comma, semicolon, colon, at_whole, binary, logic, unmixed, tighter, at_logic, choice, at_operator, at_have, at_member, is_built_in, is_binding, is_source}
use Rattle.actx_grammar.specs.Tree.{Expr, Num, Text, Truth, Null, This, Unary, Binary, Logic, Choice, SetName, SetMember, Change, Yield, YieldAll, Await, Function, Bump, Member, Built, none, some_expr, Exprs, Key, Properties, no_properties, LetItems, ConstItems, Return, end, next, code}
use Rattle.actx_laws.proofs.ParseNames.{count_last}
use Rattle.actx_laws.proofs.ReadyStates.{wants_expr, Stands, Reaches, Deeper, Roomy, OfOperand, OfStatement, OfForm, Sound, OfItems, Ready, ReadyAfter}
use Rattle.actx_laws.proofs.ViableTests.{and_left, and_right, fits_less}

-- TESTS
pub ready_if : (lim : Limits) (side : Side) (b : Bool) (m : Mode) (s : List Frame) → (b ≡ true → Ready lim side m s) → ReadyAfter lim side (go_if b m s)
ready_if lim side true m s f = f refl
ready_if lim side false m s f = tt

pub ready_when : (lim : Limits) (side : Side) (b : Bool) (v : Move) → (b ≡ true → ReadyAfter lim side v) → ReadyAfter lim side (cond b v refuse)
ready_when lim side true v f = f refl
ready_when lim side false v f = tt

pub ready_either : (lim : Limits) (side : Side) (b : Bool) (v w : Move) → (b ≡ true → ReadyAfter lim side v) → (b ≡ false → ReadyAfter lim side w) → ReadyAfter lim side (cond b v w)
ready_either lim side true v w f g = f refl
ready_either lim side false v w f g = g refl

-- OPERANDS
pub reaches_here : {lim : Limits} {s : List Frame} → Stands lim s → Reaches lim (here s) s
reaches_here h = record { stands = h; reach = omega arith }

whole_operand : {lim : Limits} {side : Side} (e : Expr) {s : List Frame} → Stands lim s → Sound lim s → Ready lim side (have e (here s)) s
whole_operand e h o = record { mode = reaches_here h; stack = o }

-- the part of an operand
pub below : {lim : Limits} {s : List Frame} (f : Frame) → frame_levels f ≡ 1 → Stands lim s → fits lim (suc (here s)) ≡ true → OfOperand lim f s
below {lim} {s} f e h w = record { stands = h; part = fits_less lim (here (f ∷ s)) (suc (here s)) w (omega arith) }

prefix_ready : (lim : Limits) (side : Side) (op : UnaryOp) (s : List Frame) → Stands lim s → Sound lim s → ReadyAfter lim side (prefix lim op s)
prefix_ready lim side op s h o = ready_if lim side (fits_below lim s) need (in_unary op ∷ s) (λ w. record { mode = refl; stack = (below (in_unary op) refl h w, o) })

pub words_ready : (lim : Limits) (side : Side) (ws : List TokenKind) (s : List Frame) → Stands lim s → Sound lim s → ReadyAfter lim side (words_go lim side ws s)
words_ready lim side ws s h o = ready_if lim side (goes_on lim (here s) ws (forms_of side)) (words_next ws) s (λ w. record { mode = record { stands = h; goes = w }; stack = o })

keyword_ready : (lim : Limits) (side : Side) (s : List Frame) (w : Keyword) → Stands lim s → Sound lim s → ReadyAfter lim side (key_operand lim side s w)
keyword_ready lim side s k.This h o = whole_operand This h o
keyword_ready lim side s k.True h o = whole_operand (Truth true) h o
keyword_ready lim side s k.False h o = whole_operand (Truth false) h o
keyword_ready lim side s k.Null h o = whole_operand Null h o
keyword_ready lim side s k.New h o = words_ready lim side (t.Keyword k.New ∷ []) s h o
keyword_ready lim side s k.Function h o = ready_if lim side (if begins_statement s then false else true) (function_next expression) s (λ w. record { mode = h; stack = o })
keyword_ready lim side s k.Async h o = ready_if lim side (is_source side) async_next s (λ w. record { mode = h; stack = o })
keyword_ready lim side s k.Await h o = ready_if lim side (is_source side && fits_below lim s) need (in_await ∷ s) (λ w. record { mode = refl; stack = (below in_await refl h (and_right (is_source side) (fits_below lim s) w), o) })
keyword_ready lim side s k.Yield h o = ready_if lim side (is_source side && takes_whole s) yield_next s (λ w. record { mode = h; stack = o })
keyword_ready lim side s k.Typeof h o = prefix_ready lim side u.Typeof s h o
keyword_ready lim side s k.Void h o = prefix_ready lim side u.Void s h o
keyword_ready lim side s _ h o = tt

operand_ready : (lim : Limits) (side : Side) (s : List Frame) (w : TokenKind) → Stands lim s → Sound lim s → ReadyAfter lim side (operand lim side s w)
operand_ready lim side s (t.Number n) h o = whole_operand (Num n) h o
operand_ready lim side s (t.Text u) h o = whole_operand (Text u) h o
operand_ready lim side s (t.Name x) h o = ready_either lim side (is_built_in side x) (words_go lim side (t.Name x ∷ []) s) (go (have_name x) s) (λ w. words_ready lim side (t.Name x ∷ []) s h o) (λ w. record { mode = h; stack = o })
operand_ready lim side s (t.Keyword v) h o = keyword_ready lim side s v h o
operand_ready lim side s (t.Sign g.Not) h o = prefix_ready lim side u.Not s h o
operand_ready lim side s (t.Sign g.Minus) h o = prefix_ready lim side u.Minus s h o
operand_ready lim side s (t.Sign g.Increment) h o = record { mode = h; stack = o }
operand_ready lim side s (t.Sign g.Decrement) h o = record { mode = h; stack = o }
operand_ready lim side s (t.Sign g.OpenParen) h o = ready_if lim side (takes_whole s || fits_below lim s) opened s (λ w. record { mode = record { stands = h; closes = w }; stack = o })
operand_ready lim side s (t.Sign g.OpenBrace) h o = ready_if lim side (if begins_statement s then false else true) (key_next no_properties (here s)) s (λ w. record { mode = reaches_here h; stack = o })
operand_ready lim side s (t.Sign _) h o = tt

-- where an operand may begin only if it fits, what is open is sound
begin_ready : (lim : Limits) (side : Side) (s : List Frame) (w : TokenKind) → wants_expr s ≡ true → (fits lim (here s) ≡ true → Sound lim s) → ReadyAfter lim side (begin_operand lim side s w)
begin_ready lim side s w h o =
    ready_when lim side (fits lim (here s) && has_room lim s) (operand lim side s w)
    (λ i. let j = and_left (fits lim (here s)) (has_room lim s) i in operand_ready lim side s w (record { wanted = h; fit = j; room = and_right (fits lim (here s)) (has_room lim s) i }) (o j))

pub on_frame : (lim : Limits) (side : Side) (s : List Frame) (w : TokenKind) → wants_expr s ≡ true → (fits lim (here s) ≡ true → Sound lim s) → ReadyAfter lim side (close_arguments s) → ReadyAfter lim side (at_need lim side s w)
on_frame lim side s (t.Sign g.CloseParen) h o c = c
on_frame lim side s (t.Sign v) h o c = begin_ready lim side s (t.Sign v) h o
on_frame lim side s (t.Name v) h o c = begin_ready lim side s (t.Name v) h o
on_frame lim side s (t.Keyword v) h o c = begin_ready lim side s (t.Keyword v) h o
on_frame lim side s (t.Number v) h o c = begin_ready lim side s (t.Number v) h o
on_frame lim side s (t.Text v) h o c = begin_ready lim side s (t.Text v) h o

close_ready : (lim : Limits) (side : Side) (s : List Frame) → Sound lim s → ReadyAfter lim side (close_arguments s)
close_ready lim side (in_call f es r ∷ s) o = record { mode = o.0; stack = o.1 }
close_ready lim side (in_form form es r ∷ s) o = ready_if lim side (suits form (count es)) (have (Built form es) r) s (λ w. record { mode = record { stands = o.0.stands; reach = o.0.reach }; stack = o.1 })
close_ready lim side [] o = tt
close_ready lim side (_ ∷ s) o = tt

pub need_ready : (lim : Limits) (side : Side) (s : List Frame) (w : TokenKind) → wants_expr s ≡ true → Sound lim s → ReadyAfter lim side (at_need lim side s w)
need_ready lim side s w h o = on_frame lim side s w h (λ _. o) (close_ready lim side s o)

pub bump_ready : (lim : Limits) (side : Side) (up : Bool) (s : List Frame) (w : TokenKind) → Stands lim s → Sound lim s → ReadyAfter lim side (at_bump_name side up s w)
bump_ready lim side up s (t.Name x) h o = ready_if lim side (is_binding side x) (have_bump (Bump x up true)) s (λ w. record { mode = h; stack = o })
bump_ready lim side up s _ h o = tt

-- WHAT AN OPERAND ENDS
abbrev pub AtRest : Limits → Settled → Type 0
AtRest lim (settled e r s) = Reaches lim r s × Sound lim s

rest_either : (lim : Limits) (b : Bool) (v w : Settled) → AtRest lim v → AtRest lim w → AtRest lim (cond b v w)
rest_either lim true v w g h = g
rest_either lim false v w g h = h

-- behind a frame of an operator
passed : {lim : Limits} {f : Frame} {s : List Frame} {r : ℕ} (q : ℕ) → r ≤ q → OfOperand lim f s → Reaches lim r (f ∷ s) → Reaches lim q s
passed {f = f} {s = s} q i h w = record { stands = h.stands; reach = omega (arith, w.reach) }

pub settle_ready : (lim : Limits) (l : ℕ) (e : Expr) (r : ℕ) (s : List Frame) → Reaches lim r s → Sound lim s → AtRest lim (settle l e r s)
settle_ready lim l e r (in_unary op ∷ s) h o = rest_either lim (nat_le l 9) (settle l (Unary op e) r s) (settled e r (in_unary op ∷ s)) (settle_ready lim l (Unary op e) r s (passed r (omega arith) o.0 h) o.1) (h, o)
settle_ready lim l e r (in_await ∷ s) h o = rest_either lim (nat_le l 9) (settle l (Await e) r s) (settled e r (in_await ∷ s)) (settle_ready lim l (Await e) r s (passed r (omega arith) o.0 h) o.1) (h, o)
settle_ready lim l e r (in_binary op a q ∷ s) h o = rest_either lim (nat_le l (level_of op)) (settle l (Binary op a e) (max q r) s) (settled e r (in_binary op a q ∷ s)) (settle_ready lim l (Binary op a e) (max q r) s (passed (max q r) (omega arith) o.0 h) o.1) (h, o)
settle_ready lim l e r (in_logic op a q ∷ s) h o = rest_either lim (nat_le l (logic_level op)) (settle l (Logic op a e) (max q r) s) (settled e r (in_logic op a q ∷ s)) (settle_ready lim l (Logic op a e) (max q r) s (passed (max q r) (omega arith) o.0 h) o.1) (h, o)
settle_ready lim l e r (in_other a y q ∷ s) h o = rest_either lim (nat_le l 2) (settle l (Choice a y e) (max q r) s) (settled e r (in_other a y q ∷ s)) (settle_ready lim l (Choice a y e) (max q r) s (passed (max q r) (omega arith) o.0 h) o.1) (h, o)
settle_ready lim l e r (in_set_name x ∷ s) h o = rest_either lim (nat_le l 1) (settle l (SetName x e) r s) (settled e r (in_set_name x ∷ s)) (settle_ready lim l (SetName x e) r s (passed r (omega arith) o.0 h) o.1) (h, o)
settle_ready lim l e r (in_set b key q ∷ s) h o = rest_either lim (nat_le l 1) (settle l (SetMember b key e) (max q r) s) (settled e r (in_set b key q ∷ s)) (settle_ready lim l (SetMember b key e) (max q r) s (passed (max q r) (omega arith) o.0 h) o.1) (h, o)
settle_ready lim l e r (in_change x op ∷ s) h o = rest_either lim (nat_le l 1) (settle l (Change x op e) r s) (settled e r (in_change x op ∷ s)) (settle_ready lim l (Change x op e) r s (passed r (omega arith) o.0 h) o.1) (h, o)
settle_ready lim l e r (in_arrow kind xs ∷ s) h o =
    rest_either lim (nat_le l 1) (settle l (Function (code None kind xs (next (Return (some_expr e)) end))) r s) (settled e r (in_arrow kind xs ∷ s))
    (settle_ready lim l (Function (code None kind xs (next (Return (some_expr e)) end))) r s (passed r (omega arith) o.0 h) o.1) (h, o)
settle_ready lim l e r (in_yield ∷ s) h o = rest_either lim (nat_le l 1) (settle l (Yield (some_expr e)) r s) (settled e r (in_yield ∷ s)) (settle_ready lim l (Yield (some_expr e)) r s (passed r (omega arith) o.0 h) o.1) (h, o)
settle_ready lim l e r (in_yield_all ∷ s) h o = rest_either lim (nat_le l 1) (settle l (YieldAll e) r s) (settled e r (in_yield_all ∷ s)) (settle_ready lim l (YieldAll e) r s (passed r (omega arith) o.0 h) o.1) (h, o)
settle_ready lim l e r [] h o = (h, o)
settle_ready lim l e r (_ ∷ s) h o = (h, o)

-- SIGNS BEHIND AN EXPRESSION
-- a statement goes on with other parts at the same depth
pub statement_part : {lim : Limits} {f : Frame} {s : List Frame} (v : Frame) → frame_levels f ≡ frame_levels v → OfStatement lim f s → OfStatement lim v s
statement_part {lim} {f} {s} v e h = record { wanted = h.wanted; part = fits_less lim (here (v ∷ s)) (here (f ∷ s)) h.part (omega arith) }

pub roomy_of : {lim : Limits} {f : Frame} {s : List Frame} → frame_levels f ≡ 1 → OfStatement lim f s → Roomy lim s
roomy_of {lim} {f} {s} e h = record { wanted = h.wanted; part = fits_less lim (suc (here s)) (here (f ∷ s)) h.part (omega arith) }

items_of : {lim : Limits} {f : Frame} {s : List Frame} (of : ItemsOf) → frame_levels f ≡ 1 → OfStatement lim f s → OfItems lim of s
items_of of_statement e h = h.wanted
items_of of_for e h = roomy_of e h

called : {lim : Limits} {f : Frame} {s : List Frame} {r : ℕ} (j q : ℕ) → here s ≤ q → r ≤ j → Stands lim s → Reaches lim r (f ∷ s) → Reaches lim (max q j) s
called j q i k h w = record { stands = h; reach = omega arith }

close_paren_ready : (lim : Limits) (side : Side) (v : Settled) → AtRest lim v → ReadyAfter lim side (close_paren v)
close_paren_ready lim side (settled e r (in_paren ∷ s)) h = record { mode = passed r (omega arith) h.1.0 h.0; stack = h.1.1 }
close_paren_ready lim side (settled e r (in_call f es q ∷ s)) h = record { mode = called r q h.1.0.reach (omega arith) h.1.0.stands h.0; stack = h.1.1 }
close_paren_ready lim side (settled e r (in_form form es q ∷ s)) h =
    ready_if lim side (suits form (suc (count es))) (have (Built form (with_last es e)) (max q r)) s (λ w. record { mode = called r q h.1.0.reach (omega arith) h.1.0.stands h.0; stack = h.1.1 })
close_paren_ready lim side (settled e r (in_if ∷ s)) h = let a : OfStatement lim (yes_of e r) s = statement_part (yes_of e r) refl h.1.0 in record { mode = record { wanted = refl; fit = a.part }; stack = (a, h.1.1) }
close_paren_ready lim side (settled e r (in_while ∷ s)) h = let a : OfStatement lim (while_of e r) s = statement_part (while_of e r) refl h.1.0 in record { mode = record { wanted = refl; fit = a.part }; stack = (a, h.1.1) }
close_paren_ready lim side (settled e r (in_do_test st q ∷ s)) h = record { mode = h.1.0.wanted; stack = h.1.1 }
close_paren_ready lim side (settled e r (in_for_update i test q ∷ s)) h =
    let f : Frame = for_body i test (some_expr e) (max q r) in let a : OfStatement lim f s = statement_part f refl h.1.0 in record { mode = record { wanted = refl; fit = a.part }; stack = (a, h.1.1) }
close_paren_ready lim side (settled e r (in_for_over constant x ∷ s)) h =
    let f : Frame = for_of_body constant x e r in let a : OfStatement lim f s = statement_part f refl h.1.0 in record { mode = record { wanted = refl; fit = a.part }; stack = (a, h.1.1) }
close_paren_ready lim side (settled e r (in_switch ∷ s)) h = record { mode = h.1.0.wanted; stack = h.1.1 }
close_paren_ready lim side (settled e r []) h = tt
close_paren_ready lim side (settled e r (_ ∷ s)) h = tt

-- behind the part of an operand whose frame makes one level
pub deeper_of : {lim : Limits} {f : Frame} {s : List Frame} {r : ℕ} (q : ℕ) → frame_levels f ≡ 1 → r ≤ q → OfOperand lim f s → Reaches lim r (f ∷ s) → Deeper lim q s
deeper_of {lim} {f} {s} q e i h w = record { stands = h.stands; reach = omega (arith, w.reach); part = fits_less lim (suc (here s)) (here (f ∷ s)) h.part (omega arith) }

computed_ready : (lim : Limits) (side : Side) (ps : Properties) (kind : Option FunctionKind) (e : Expr) (r : ℕ) (s : List Frame) → Deeper lim r s → Sound lim s → ReadyAfter lim side (after_computed ps kind e r s)
computed_ready lim side ps None e r s h o = record { mode = h; stack = o }
computed_ready lim side ps (Some kind) e r s h o = record { mode = h; stack = o }

close_bracket_ready : (lim : Limits) (side : Side) (v : Settled) → AtRest lim v → ReadyAfter lim side (close_bracket v)
close_bracket_ready lim side (settled e r (in_index b q ∷ s)) h = record { mode = deeper_of (max q r) refl (omega arith) h.1.0 h.0; stack = h.1.1 }
close_bracket_ready lim side (settled e r (in_computed ps kind q ∷ s)) h = computed_ready lim side ps kind e (max q r) s (deeper_of (max q r) refl (omega arith) h.1.0 h.0) h.1.1
close_bracket_ready lim side (settled e r []) h = tt
close_bracket_ready lim side (settled e r (_ ∷ s)) h = tt

close_brace_ready : (lim : Limits) (side : Side) (v : Settled) → AtRest lim v → ReadyAfter lim side (close_brace v)
close_brace_ready lim side (settled e r (in_property ps key q ∷ s)) h = record { mode = passed (max q r) (omega arith) h.1.0 h.0; stack = h.1.1 }
close_brace_ready lim side (settled e r []) h = tt
close_brace_ready lim side (settled e r (_ ∷ s)) h = tt

-- one more argument of a form is no more than it takes
pub form_more : {lim : Limits} {form : Form} {es : Exprs} {q : ℕ} {s : List Frame} (e : Expr) (r : ℕ) → Reaches lim r (in_form form es q ∷ s) → OfForm lim form es q s → OfForm lim form (with_last es e) (max q r) s
form_more {lim} {form} {es} {q} {s} e r w h =
    record {
      stands = h.stands;
      reach = omega (arith, h.reach);
      taken = ap (λ n. at_most (most_parts form) n) (count_last es e) ∙ and_right (takes_more lim (count es)) (at_most (most_parts form) (suc (count es))) w.stands.room;
      lacks = inr w.stands.fit;
    }

comma_ready : (lim : Limits) (side : Side) (v : Settled) → AtRest lim v → ReadyAfter lim side (comma v)
comma_ready lim side (settled e r (in_call f es q ∷ s)) h = record { mode = refl; stack = (called r q h.1.0.reach (omega arith) h.1.0.stands h.0, h.1.1) }
comma_ready lim side (settled e r (in_form form es q ∷ s)) h = record { mode = refl; stack = (form_more e r h.0 h.1.0, h.1.1) }
comma_ready lim side (settled e r (in_property ps key q ∷ s)) h = record { mode = passed (max q r) (omega arith) h.1.0 h.0; stack = h.1.1 }
comma_ready lim side (settled e r (in_let of is x q ∷ s)) h = record { mode = items_of of refl h.1.0; stack = h.1.1 }
comma_ready lim side (settled e r (in_const of is x q ∷ s)) h = record { mode = roomy_of refl h.1.0; stack = h.1.1 }
comma_ready lim side (settled e r []) h = tt
comma_ready lim side (settled e r (_ ∷ s)) h = tt

pub end_lets_ready : (lim : Limits) (side : Side) (of : ItemsOf) (is : LetItems) (r : ℕ) (s : List Frame) → OfItems lim of s → Sound lim s → ReadyAfter lim side (end_lets of is r s)
end_lets_ready lim side of_statement is r s h o = record { mode = h; stack = o }
end_lets_ready lim side of_for is r s h o = record { mode = h; stack = o }

end_consts_ready : (lim : Limits) (side : Side) (of : ItemsOf) (is : ConstItems) (r : ℕ) (s : List Frame) → Roomy lim s → Sound lim s → ReadyAfter lim side (end_consts of is r s)
end_consts_ready lim side of_statement is r s h o = record { mode = h.wanted; stack = o }
end_consts_ready lim side of_for is r s h o = record { mode = h; stack = o }

semicolon_ready : (lim : Limits) (side : Side) (v : Settled) → AtRest lim v → ReadyAfter lim side (semicolon v)
semicolon_ready lim side (settled e r (in_value ∷ s)) h = record { mode = h.1.0.wanted; stack = h.1.1 }
semicolon_ready lim side (settled e r (in_let of is x q ∷ s)) h = end_lets_ready lim side of (with_let is x (some_expr e)) (max q r) s (items_of of refl h.1.0) h.1.1
semicolon_ready lim side (settled e r (in_const of is x q ∷ s)) h = end_consts_ready lim side of (with_const is x e) (max q r) s (roomy_of refl h.1.0) h.1.1
semicolon_ready lim side (settled e r (in_return ∷ s)) h = record { mode = h.1.0.wanted; stack = h.1.1 }
semicolon_ready lim side (settled e r (in_throw ∷ s)) h = record { mode = h.1.0.wanted; stack = h.1.1 }
semicolon_ready lim side (settled e r (in_for_init ∷ s)) h = record { mode = roomy_of refl h.1.0; stack = h.1.1 }
semicolon_ready lim side (settled e r (in_for_test i q ∷ s)) h = record { mode = roomy_of refl h.1.0; stack = h.1.1 }
semicolon_ready lim side (settled e r []) h = tt
semicolon_ready lim side (settled e r (_ ∷ s)) h = tt

colon_ready : (lim : Limits) (side : Side) (v : Settled) → AtRest lim v → ReadyAfter lim side (colon v)
colon_ready lim side (settled e r (in_choice test q ∷ s)) h = record { mode = refl; stack = (record { stands = h.1.0.stands; part = h.1.0.part }, h.1.1) }
colon_ready lim side (settled e r []) h = tt
colon_ready lim side (settled e r (_ ∷ s)) h = tt

pub whole_ready : (lim : Limits) (side : Side) (e : Expr) (r : ℕ) (s : List Frame) (w : TokenKind) → Reaches lim r s → Sound lim s → ReadyAfter lim side (at_whole e r s w)
whole_ready lim side e r s (t.Sign g.CloseParen) h o = close_paren_ready lim side (settle 0 e r s) (settle_ready lim 0 e r s h o)
whole_ready lim side e r s (t.Sign g.CloseBracket) h o = close_bracket_ready lim side (settle 0 e r s) (settle_ready lim 0 e r s h o)
whole_ready lim side e r s (t.Sign g.CloseBrace) h o = close_brace_ready lim side (settle 0 e r s) (settle_ready lim 0 e r s h o)
whole_ready lim side e r s (t.Sign g.Comma) h o = comma_ready lim side (settle 0 e r s) (settle_ready lim 0 e r s h o)
whole_ready lim side e r s (t.Sign g.Semicolon) h o = semicolon_ready lim side (settle 0 e r s) (settle_ready lim 0 e r s h o)
whole_ready lim side e r s (t.Sign g.Colon) h o = colon_ready lim side (settle 0 e r s) (settle_ready lim 0 e r s h o)
whole_ready lim side e r s (t.Sign _) h o = tt
whole_ready lim side e r s _ h o = tt

-- OPERATORS BEHIND AN OPERAND
-- what stands behind an operand fits below it
pub part_behind : {lim : Limits} {r : ℕ} {s : List Frame} (f : Frame) → frame_levels f ≡ 1 → Reaches lim r s → fits lim (suc r) ≡ true → OfOperand lim f s
part_behind {lim} {r} {s} f e h w = record { stands = h.stands; part = fits_less lim (here (f ∷ s)) (suc r) w (omega (arith, h.reach)) }

binary_ready : (lim : Limits) (side : Side) (op : BinaryOp) (v : Settled) → AtRest lim v → ReadyAfter lim side (binary lim op v)
binary_ready lim side op (settled e r s) h = ready_if lim side (fits lim (suc r)) need (in_binary op e (suc r) ∷ s) (λ w. record { mode = refl; stack = (part_behind (in_binary op e (suc r)) refl h.0 w, h.1) })

logic_ready : (lim : Limits) (side : Side) (op : LogicOp) (v : Settled) → AtRest lim v → ReadyAfter lim side (logic lim op v)
logic_ready lim side op (settled e r s) h = ready_if lim side (fits lim (suc r)) need (in_logic op e (suc r) ∷ s) (λ w. record { mode = refl; stack = (part_behind (in_logic op e (suc r)) refl h.0 w, h.1) })

choice_ready : (lim : Limits) (side : Side) (v : Settled) → AtRest lim v → ReadyAfter lim side (choice lim v)
choice_ready lim side (settled e r s) h = ready_if lim side (fits lim (suc r)) need (in_choice e (suc r) ∷ s) (λ w. record { mode = refl; stack = (part_behind (in_choice e (suc r)) refl h.0 w, h.1) })

at_logic_ready : (lim : Limits) (side : Side) (op : LogicOp) (level : ℕ) (e : Expr) (r : ℕ) (s : List Frame) → Reaches lim r s → Sound lim s → ReadyAfter lim side (at_logic lim op level e r s)
at_logic_ready lim side op level e r s h o = ready_when lim side (unmixed op (settle (tighter op) e r s)) (logic lim op (settle level e r s)) (λ w. logic_ready lim side op (settle level e r s) (settle_ready lim level e r s h o))

pub operator_ready : (lim : Limits) (side : Side) (e : Expr) (r : ℕ) (s : List Frame) (w : TokenKind) → Reaches lim r s → Sound lim s → ReadyAfter lim side (at_operator lim e r s w)
operator_ready lim side e r s (t.Sign g.Plus) h z = binary_ready lim side o.Add (settle 7 e r s) (settle_ready lim 7 e r s h z)
operator_ready lim side e r s (t.Sign g.Minus) h z = binary_ready lim side o.Sub (settle 7 e r s) (settle_ready lim 7 e r s h z)
operator_ready lim side e r s (t.Sign g.Star) h z = binary_ready lim side o.Mul (settle 8 e r s) (settle_ready lim 8 e r s h z)
operator_ready lim side e r s (t.Sign g.Same) h z = binary_ready lim side o.Same (settle 5 e r s) (settle_ready lim 5 e r s h z)
operator_ready lim side e r s (t.Sign g.NotSame) h z = binary_ready lim side o.NotSame (settle 5 e r s) (settle_ready lim 5 e r s h z)
operator_ready lim side e r s (t.Sign g.Less) h z = binary_ready lim side o.Less (settle 6 e r s) (settle_ready lim 6 e r s h z)
operator_ready lim side e r s (t.Sign g.LessSame) h z = binary_ready lim side o.LessSame (settle 6 e r s) (settle_ready lim 6 e r s h z)
operator_ready lim side e r s (t.Sign g.More) h z = binary_ready lim side o.More (settle 6 e r s) (settle_ready lim 6 e r s h z)
operator_ready lim side e r s (t.Sign g.MoreSame) h z = binary_ready lim side o.MoreSame (settle 6 e r s) (settle_ready lim 6 e r s h z)
operator_ready lim side e r s (t.Sign g.And) h z = at_logic_ready lim side And 4 e r s h z
operator_ready lim side e r s (t.Sign g.Or) h z = at_logic_ready lim side Or 3 e r s h z
operator_ready lim side e r s (t.Sign g.Coalesce) h z = at_logic_ready lim side Coalesce 3 e r s h z
operator_ready lim side e r s (t.Sign g.Question) h z = choice_ready lim side (settle 3 e r s) (settle_ready lim 3 e r s h z)
operator_ready lim side e r s (t.Sign w) h z = whole_ready lim side e r s (t.Sign w) h z
operator_ready lim side e r s (t.Name w) h z = tt
operator_ready lim side e r s (t.Keyword w) h z = tt
operator_ready lim side e r s (t.Number w) h z = tt
operator_ready lim side e r s (t.Text w) h z = tt

deeper_behind : {lim : Limits} {r : ℕ} {s : List Frame} → Reaches lim r s → fits lim (suc r) ≡ true → Deeper lim (suc r) s
deeper_behind {lim} {r} {s} h w = record { stands = h.stands; reach = omega (arith, h.reach); part = fits_less lim (suc (here s)) (suc r) w (omega (arith, h.reach)) }

pub have_ready : (lim : Limits) (side : Side) (e : Expr) (r : ℕ) (s : List Frame) (w : TokenKind) → Reaches lim r s → Sound lim s → ReadyAfter lim side (at_have lim e r s w)
have_ready lim side e r s (t.Sign g.Dot) h o = ready_if lim side (fits lim (suc r)) (member_name e (suc r)) s (λ w. record { mode = deeper_behind h w; stack = o })
have_ready lim side e r s (t.Sign g.OpenBracket) h o = ready_if lim side (fits lim (suc r)) need (in_index e (suc r) ∷ s) (λ w. record { mode = refl; stack = (part_behind (in_index e (suc r)) refl h w, o) })
have_ready lim side e r s (t.Sign g.OpenParen) h o = ready_if lim side (fits lim (suc r)) need (in_call e none (suc r) ∷ s) (λ w. record { mode = refl; stack = (record { stands = h.stands; reach = omega (arith, h.reach) }, o) })
have_ready lim side e r s (t.Sign w) h o = operator_ready lim side e r s (t.Sign w) h o
have_ready lim side e r s (t.Name w) h o = tt
have_ready lim side e r s (t.Keyword w) h o = tt
have_ready lim side e r s (t.Number w) h o = tt
have_ready lim side e r s (t.Text w) h o = tt

pub reaches_of : {lim : Limits} {r : ℕ} {s : List Frame} → Deeper lim r s → Reaches lim r s
reaches_of h = record { stands = h.stands; reach = h.reach }

pub part_of : {lim : Limits} {r : ℕ} {s : List Frame} (f : Frame) → frame_levels f ≡ 1 → Deeper lim r s → OfOperand lim f s
part_of f e h = below f e h.stands h.part

pub member_ready : (lim : Limits) (side : Side) (b : Expr) (key : Key) (r : ℕ) (s : List Frame) (w : TokenKind) → Deeper lim r s → Sound lim s → ReadyAfter lim side (at_member lim b key r s w)
member_ready lim side b key r s (t.Sign g.Assign) h o = ready_if lim side (takes_whole s) need (in_set b key r ∷ s) (λ w. record { mode = refl; stack = (part_of (in_set b key r) refl h, o) })
member_ready lim side b key r s (t.Sign w) h o = have_ready lim side (Member b key) r s (t.Sign w) (reaches_of h) o
member_ready lim side b key r s (t.Name w) h o = tt
member_ready lim side b key r s (t.Keyword w) h o = tt
member_ready lim side b key r s (t.Number w) h o = tt
member_ready lim side b key r s (t.Text w) h o = tt
