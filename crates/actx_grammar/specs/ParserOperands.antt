-- The parser's moves at an operand and behind one.
use Rattle.std.specs.Prelude.{ℕ, suc, max, List, [], ◌∷◌, Bool, true, false, ◌==◌, ◌&&◌, ◌||◌, nat_le, nat_eq, Option, Some, None, codes, if◌then◌else◌}
use Rattle.std.specs.Cmp.Lexicographic.{pointwise}
use Rattle.actx_data.specs.declared.shown.ErrorName.TheVariants as n
use Rattle.actx_grammar.specs.declared.operators.BinaryOp.{BinaryOp}
use Rattle.actx_grammar.specs.declared.operators.BinaryOp.TheVariants as o
use Rattle.actx_grammar.specs.declared.operators.Form.{Form}
use Rattle.actx_grammar.specs.declared.operators.Form.TheVariants as f
use Rattle.actx_grammar.specs.declared.operators.FunctionKind.{FunctionKind}
use Rattle.actx_grammar.specs.declared.operators.LogicOp.{LogicOp}
use Rattle.actx_grammar.specs.declared.operators.LogicOp.TheVariants.{And, Or, Coalesce}
use Rattle.actx_grammar.specs.declared.operators.UnaryOp.{UnaryOp}
use Rattle.actx_grammar.specs.declared.operators.UnaryOp.TheVariants as u
use Rattle.actx_grammar.specs.declared.side.Side.{Side}
use Rattle.actx_grammar.specs.declared.side.Side.TheVariants.{Source, Plain}
use Rattle.actx_grammar.specs.declared.token.Keyword.{Keyword}
use Rattle.actx_grammar.specs.declared.token.Keyword.TheVariants as k
use Rattle.actx_grammar.specs.declared.token.Sign.TheVariants as g
use Rattle.actx_grammar.specs.declared.token.TokenKind.{TokenKind}
use Rattle.actx_grammar.specs.declared.token.TokenKind.TheVariants as t
use Rattle.actx_grammar.specs.Forms.{form_words}
use Rattle.actx_grammar.specs.Grammar.{count, with_last, with_let, with_const, with_property}
use Rattle.actx_grammar.specs.Names.{built_in}
use Rattle.actx_grammar.specs.ParserState.{Limits, at_most, fits, takes_more, expression, ItemsOf, of_statement, of_for, Frame, in_unary, in_await, in_binary, in_logic, in_choice, in_other, in_paren, in_call, in_form, in_set, in_index, in_computed, in_property, in_value, in_let, in_const, in_return, in_throw, in_if, in_while, in_do_test, in_for_init, in_for_test, in_for_update, in_for_over, in_switch, yes_of, while_of, for_body, for_of_body, body_start, have_stmt, need, have, have_member, have_name, have_bump, opened, bump_name, yield_next, async_next, function_next, key_next, key_behind, method_open, member_name, words_next, let_name, const_name, do_end, for_test, for_update, switch_brace, Move, refuse, go, go_if, here, Settled, settled, settle}
use Rattle.actx_grammar.specs.Tree.{Expr, Num, Text, Truth, Null, Undefined, This, Named, Bump, Member, Call, Object, Built, none, some_expr, Key, Index, Computed, Properties, no_properties, LetItems, ConstItems, init_let, init_const, init_value, Stmt, Let, Const, Return, Throw, Value}

-- NAMES
abbrev pub same_word : List ℕ → List ℕ → Bool
same_word = pointwise ◌==◌

abbrev pub is_one_of : List (List ℕ) → List ℕ → Bool
is_one_of [] x = false
is_one_of (y ∷ ys) x = same_word x y || is_one_of ys x

abbrev pub is_built_in : Side → List ℕ → Bool
is_built_in side x = is_one_of (built_in side) x

abbrev pub is_binding : Side → List ℕ → Bool
is_binding side x = if is_built_in side x then false else true

-- a name that is an expression
abbrev pub named : List ℕ → Expr
named x = if same_word x (codes "undefined") then Undefined else Named x

abbrev pub is_source : Side → Bool
is_source Source = true
is_source Plain = false

-- FORMS
abbrev pub least_parts : Form → ℕ
least_parts f.NewPromise = 1
least_parts f.Wrap = 1
least_parts f.QueueMicrotask = 1
least_parts f.HostOn = 2
least_parts f.Span = 2
least_parts f.Freeze = 1
least_parts f.CallWith = 1
least_parts f.Note = 4
least_parts f.On = 2
least_parts _ = 0

abbrev pub most_parts : Form → Option ℕ
most_parts f.Log = None
most_parts f.CallWith = None
most_parts f.PromiseResolve = Some 1
most_parts f.PromiseReject = Some 1
most_parts f.NewVariable = Some 1
most_parts (f.NewError name) = Some 1
most_parts form = Some (least_parts form)

abbrev pub suits : Form → ℕ → Bool
suits form n = nat_le (least_parts form) n && at_most (most_parts form) n

-- the forms that a side spells by their words
abbrev pub forms_of : Side → List Form
forms_of Source =
    f.Log ∷
    f.NewPromise ∷
    f.PromiseResolve ∷
    f.PromiseReject ∷
    f.NewVariable ∷
    f.NewSnapshot ∷
    f.Wrap ∷
    f.NewError n.Error ∷
    f.NewError n.TypeError ∷
    f.NewError n.RangeError ∷
    f.NewError n.ReferenceError ∷
    f.QueueMicrotask ∷
    f.HostOn ∷
    f.Span ∷
    f.CurrentSpan ∷ []
forms_of Plain =
    f.Log ∷
    f.NewError n.Error ∷
    f.NewError n.TypeError ∷
    f.NewError n.RangeError ∷
    f.NewError n.ReferenceError ∷
    f.QueueMicrotask ∷
    f.NewWeakMap ∷
    f.Freeze ∷
    f.Note ∷
    f.On ∷
    f.Leave ∷ []

-- two words of forms: names by their characters, signs and reserved words by kind
abbrev pub same_token : TokenKind → TokenKind → Bool
same_token (t.Name x) (t.Name y) = same_word x y
same_token (t.Keyword k.New) (t.Keyword k.New) = true
same_token (t.Sign g.Dot) (t.Sign g.Dot) = true
same_token _ _ = false

abbrev pub begins_with : List TokenKind → List TokenKind → Bool
begins_with ws [] = true
begins_with [] (v ∷ vs) = false
begins_with (w ∷ ws) (v ∷ vs) = same_token w v && begins_with ws vs

-- whether some form goes on from these words, with room for the arguments that it wants
abbrev pub goes_on : Limits → ℕ → List TokenKind → List Form → Bool
goes_on lim depth ws [] = false
goes_on lim depth ws (form ∷ forms) = (begins_with (form_words form) ws && (nat_eq (least_parts form) 0 || fits lim (suc depth))) || goes_on lim depth ws forms

-- the form that has exactly these words
abbrev pub form_with : List TokenKind → List Form → Option Form
form_with ws [] = None
form_with ws (form ∷ forms) = if begins_with (form_words form) ws && begins_with ws (form_words form) then Some form else form_with ws forms

-- PLACES
-- whether an operand of level 1 may stand on what is open: no operator waits for it
abbrev pub takes_whole : List Frame → Bool
takes_whole (in_unary op ∷ s) = false
takes_whole (in_await ∷ s) = false
takes_whole (in_binary op a r ∷ s) = false
takes_whole (in_logic op a r ∷ s) = false
takes_whole _ = true

-- whether an operand here begins a statement
abbrev pub begins_statement : List Frame → Bool
begins_statement (in_value ∷ s) = true
begins_statement _ = false

-- whether one more operand may stand on what is open
abbrev pub has_room : Limits → List Frame → Bool
has_room lim (in_call f es r ∷ s) = takes_more lim (count es)
has_room lim (in_form form es r ∷ s) = takes_more lim (count es) && at_most (most_parts form) (suc (count es))
has_room lim _ = true

-- whether what stands here may have parts
abbrev pub fits_below : Limits → List Frame → Bool
fits_below lim s = fits lim (suc (here s))

-- AN OPERAND BEGINS
abbrev pub prefix : Limits → UnaryOp → List Frame → Move
prefix lim op s = go_if (fits_below lim s) need (in_unary op ∷ s)

abbrev pub words_go : Limits → Side → List TokenKind → List Frame → Move
words_go lim side ws s = go_if (goes_on lim (here s) ws (forms_of side)) (words_next ws) s

abbrev pub key_operand : Limits → Side → List Frame → Keyword → Move
key_operand lim side s k.This = go (have This (here s)) s
key_operand lim side s k.True = go (have (Truth true) (here s)) s
key_operand lim side s k.False = go (have (Truth false) (here s)) s
key_operand lim side s k.Null = go (have Null (here s)) s
key_operand lim side s k.New = words_go lim side (t.Keyword k.New ∷ []) s
key_operand lim side s k.Function = go_if (if begins_statement s then false else true) (function_next expression) s
key_operand lim side s k.Async = go_if (is_source side) async_next s
key_operand lim side s k.Await = go_if (is_source side && fits_below lim s) need (in_await ∷ s)
key_operand lim side s k.Yield = go_if (is_source side && takes_whole s) yield_next s
key_operand lim side s k.Typeof = prefix lim u.Typeof s
key_operand lim side s k.Void = prefix lim u.Void s
key_operand lim side s _ = refuse

abbrev pub operand : Limits → Side → List Frame → TokenKind → Move
operand lim side s (t.Number n) = go (have (Num n) (here s)) s
operand lim side s (t.Text u) = go (have (Text u) (here s)) s
operand lim side s (t.Name x) = if is_built_in side x then words_go lim side (t.Name x ∷ []) s else go (have_name x) s
operand lim side s (t.Keyword k) = key_operand lim side s k
operand lim side s (t.Sign g.Not) = prefix lim u.Not s
operand lim side s (t.Sign g.Minus) = prefix lim u.Minus s
operand lim side s (t.Sign g.Increment) = go (bump_name true) s
operand lim side s (t.Sign g.Decrement) = go (bump_name false) s
operand lim side s (t.Sign g.OpenParen) = go_if (takes_whole s || fits_below lim s) opened s
operand lim side s (t.Sign g.OpenBrace) = go_if (if begins_statement s then false else true) (key_next no_properties (here s)) s
operand lim side s _ = refuse

abbrev pub begin_operand : Limits → Side → List Frame → TokenKind → Move
begin_operand lim side s t = if fits lim (here s) && has_room lim s then operand lim side s t else refuse

-- no further argument stands before the closing parenthesis
abbrev pub close_arguments : List Frame → Move
close_arguments (in_call f es r ∷ s) = go (have (Call f es) r) s
close_arguments (in_form form es r ∷ s) = go_if (suits form (count es)) (have (Built form es) r) s
close_arguments _ = refuse

abbrev pub at_need : Limits → Side → List Frame → TokenKind → Move
at_need lim side s (t.Sign g.CloseParen) = close_arguments s
at_need lim side s t = begin_operand lim side s t

abbrev pub at_bump_name : Side → Bool → List Frame → TokenKind → Move
at_bump_name side up s (t.Name x) = go_if (is_binding side x) (have_bump (Bump x up true)) s
at_bump_name side up s _ = refuse

-- WHAT ENDS AN EXPRESSION
abbrev pub ended : Stmt → ℕ → List Frame → Move
ended st reach s = go (have_stmt st reach) s

abbrev pub end_lets : ItemsOf → LetItems → ℕ → List Frame → Move
end_lets of_statement is r s = ended (Let is) r s
end_lets of_for is r s = go (for_test (init_let is) r) s

abbrev pub end_consts : ItemsOf → ConstItems → ℕ → List Frame → Move
end_consts of_statement is r s = ended (Const is) r s
end_consts of_for is r s = go (for_test (init_const is) r) s

abbrev pub close_paren : Settled → Move
close_paren (settled e r (in_paren ∷ s)) = go (have e r) s
close_paren (settled e r (in_call f es q ∷ s)) = go (have (Call f (with_last es e)) (max q r)) s
close_paren (settled e r (in_form form es q ∷ s)) = go_if (suits form (suc (count es))) (have (Built form (with_last es e)) (max q r)) s
close_paren (settled e r (in_if ∷ s)) = go body_start (yes_of e r ∷ s)
close_paren (settled e r (in_while ∷ s)) = go body_start (while_of e r ∷ s)
close_paren (settled e r (in_do_test st q ∷ s)) = go (do_end st e (max q r)) s
close_paren (settled e r (in_for_update i test q ∷ s)) = go body_start (for_body i test (some_expr e) (max q r) ∷ s)
close_paren (settled e r (in_for_over constant x ∷ s)) = go body_start (for_of_body constant x e r ∷ s)
close_paren (settled e r (in_switch ∷ s)) = go (switch_brace e r) s
close_paren _ = refuse

abbrev pub after_computed : Properties → Option FunctionKind → Expr → ℕ → List Frame → Move
after_computed ps None e r s = go (key_behind ps (Computed e) r) s
after_computed ps (Some kind) e r s = go (method_open ps kind (Computed e) r) s

abbrev pub close_bracket : Settled → Move
close_bracket (settled e r (in_index b q ∷ s)) = go (have_member b (Index e) (max q r)) s
close_bracket (settled e r (in_computed ps kind q ∷ s)) = after_computed ps kind e (max q r) s
close_bracket _ = refuse

abbrev pub close_brace : Settled → Move
close_brace (settled e r (in_property ps key q ∷ s)) = go (have (Object (with_property ps key e)) (max q r)) s
close_brace _ = refuse

abbrev pub comma : Settled → Move
comma (settled e r (in_call f es q ∷ s)) = go need (in_call f (with_last es e) (max q r) ∷ s)
comma (settled e r (in_form form es q ∷ s)) = go need (in_form form (with_last es e) (max q r) ∷ s)
comma (settled e r (in_property ps key q ∷ s)) = go (key_next (with_property ps key e) (max q r)) s
comma (settled e r (in_let of is x q ∷ s)) = go (let_name of (with_let is x (some_expr e)) (max q r)) s
comma (settled e r (in_const of is x q ∷ s)) = go (const_name of (with_const is x e) (max q r)) s
comma _ = refuse

abbrev pub semicolon : Settled → Move
semicolon (settled e r (in_value ∷ s)) = ended (Value e) r s
semicolon (settled e r (in_let of is x q ∷ s)) = end_lets of (with_let is x (some_expr e)) (max q r) s
semicolon (settled e r (in_const of is x q ∷ s)) = end_consts of (with_const is x e) (max q r) s
semicolon (settled e r (in_return ∷ s)) = ended (Return (some_expr e)) r s
semicolon (settled e r (in_throw ∷ s)) = ended (Throw e) r s
semicolon (settled e r (in_for_init ∷ s)) = go (for_test (init_value e) r) s
semicolon (settled e r (in_for_test i q ∷ s)) = go (for_update i (some_expr e) (max q r)) s
semicolon _ = refuse

abbrev pub colon : Settled → Move
colon (settled e r (in_choice test q ∷ s)) = go need (in_other test e (max q r) ∷ s)
colon _ = refuse

-- what may stand behind any expression
abbrev pub at_whole : Expr → ℕ → List Frame → TokenKind → Move
at_whole e r s (t.Sign g.CloseParen) = close_paren (settle 0 e r s)
at_whole e r s (t.Sign g.CloseBracket) = close_bracket (settle 0 e r s)
at_whole e r s (t.Sign g.CloseBrace) = close_brace (settle 0 e r s)
at_whole e r s (t.Sign g.Comma) = comma (settle 0 e r s)
at_whole e r s (t.Sign g.Semicolon) = semicolon (settle 0 e r s)
at_whole e r s (t.Sign g.Colon) = colon (settle 0 e r s)
at_whole e r s _ = refuse

-- OPERATORS BEHIND AN OPERAND
abbrev pub binary : Limits → BinaryOp → Settled → Move
binary lim op (settled e r s) = go_if (fits lim (suc r)) need (in_binary op e (suc r) ∷ s)

abbrev pub logic : Limits → LogicOp → Settled → Move
logic lim op (settled e r s) = go_if (fits lim (suc r)) need (in_logic op e (suc r) ∷ s)

-- && and || don't stand beside ?? without parentheses
abbrev pub mixes : LogicOp → List Frame → Bool
mixes Coalesce (in_logic Coalesce a r ∷ s) = false
mixes Coalesce (in_logic op a r ∷ s) = true
mixes op (in_logic Coalesce a r ∷ s) = true
mixes op _ = false

abbrev pub unmixed : LogicOp → Settled → Bool
unmixed op (settled e r s) = if mixes op s then false else true

-- the level of what is no such form on the left of an operator
abbrev pub tighter : LogicOp → ℕ
tighter And = 4
tighter Or = 4
tighter Coalesce = 5

abbrev pub at_logic : Limits → LogicOp → ℕ → Expr → ℕ → List Frame → Move
at_logic lim op level e r s = if unmixed op (settle (tighter op) e r s) then logic lim op (settle level e r s) else refuse

abbrev pub choice : Limits → Settled → Move
choice lim (settled e r s) = go_if (fits lim (suc r)) need (in_choice e (suc r) ∷ s)

abbrev pub at_operator : Limits → Expr → ℕ → List Frame → TokenKind → Move
at_operator lim e r s (t.Sign g.Plus) = binary lim o.Add (settle 7 e r s)
at_operator lim e r s (t.Sign g.Minus) = binary lim o.Sub (settle 7 e r s)
at_operator lim e r s (t.Sign g.Star) = binary lim o.Mul (settle 8 e r s)
at_operator lim e r s (t.Sign g.Same) = binary lim o.Same (settle 5 e r s)
at_operator lim e r s (t.Sign g.NotSame) = binary lim o.NotSame (settle 5 e r s)
at_operator lim e r s (t.Sign g.Less) = binary lim o.Less (settle 6 e r s)
at_operator lim e r s (t.Sign g.LessSame) = binary lim o.LessSame (settle 6 e r s)
at_operator lim e r s (t.Sign g.More) = binary lim o.More (settle 6 e r s)
at_operator lim e r s (t.Sign g.MoreSame) = binary lim o.MoreSame (settle 6 e r s)
at_operator lim e r s (t.Sign g.And) = at_logic lim And 4 e r s
at_operator lim e r s (t.Sign g.Or) = at_logic lim Or 3 e r s
at_operator lim e r s (t.Sign g.Coalesce) = at_logic lim Coalesce 3 e r s
at_operator lim e r s (t.Sign g.Question) = choice lim (settle 3 e r s)
at_operator lim e r s t = at_whole e r s t

abbrev pub at_have : Limits → Expr → ℕ → List Frame → TokenKind → Move
at_have lim e r s (t.Sign g.Dot) = go_if (fits lim (suc r)) (member_name e (suc r)) s
at_have lim e r s (t.Sign g.OpenBracket) = go_if (fits lim (suc r)) need (in_index e (suc r) ∷ s)
at_have lim e r s (t.Sign g.OpenParen) = go_if (fits lim (suc r)) need (in_call e none (suc r) ∷ s)
at_have lim e r s t = at_operator lim e r s t

-- a member: it is assigned, or read
abbrev pub at_member : Limits → Expr → Key → ℕ → List Frame → TokenKind → Move
at_member lim b key r s (t.Sign g.Assign) = go_if (takes_whole s) need (in_set b key r ∷ s)
at_member lim b key r s t = at_have lim (Member b key) r s t
