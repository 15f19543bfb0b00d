-- The parser's moves in names, functions and object literals.
use Rattle.std.specs.Prelude.{ℕ, suc, max, List, [], ◌∷◌, ◌++◌, length, Bool, true, false, ◌&&◌, Option, Some, None, codes, if◌then◌else◌}
use Rattle.actx_grammar.specs.declared.operators.BinaryOp.TheVariants as o
use Rattle.actx_grammar.specs.declared.operators.Form.{Form}
use Rattle.actx_grammar.specs.declared.operators.Form.TheVariants.{CallWith}
use Rattle.actx_grammar.specs.declared.operators.FunctionKind.{FunctionKind}
use Rattle.actx_grammar.specs.declared.operators.FunctionKind.TheVariants.{Normal, Arrow, Generator, Async, AsyncArrow}
use Rattle.actx_grammar.specs.declared.side.Side.{Side}
use Rattle.actx_grammar.specs.declared.side.Side.TheVariants.{Source, Plain}
use Rattle.actx_grammar.specs.declared.token.Keyword.{Keyword}
use Rattle.actx_grammar.specs.declared.token.Keyword.TheVariants as k
use Rattle.actx_grammar.specs.declared.token.Sign.TheVariants as g
use Rattle.actx_grammar.specs.declared.token.TokenKind.{TokenKind}
use Rattle.actx_grammar.specs.declared.token.TokenKind.TheVariants as t
use Rattle.actx_grammar.specs.Grammar.{with_property}
use Rattle.actx_grammar.specs.ParserOperands.{same_word, is_binding, is_source, named, forms_of, form_with, words_go, takes_whole, begins_statement, fits_below, at_need, at_whole, at_have}
use Rattle.actx_grammar.specs.ParserState.{Limits, fits, takes_more, Role, expression, declaration, method, Head, arrow_head, function_head, ListOwner, body, Frame, in_paren, in_form, in_set_name, in_change, in_computed, in_property, in_arrow, in_yield, in_yield_all, in_value, in_list, start, need, have, have_member, have_bump, first_name, closed_name, name_next, params_open, param_next, param_behind, arrow_sign, arrow_body, body_open, key_next, key_behind, key_name, key_async, method_key, method_open, call_open, Move, refuse, go, go_if, here}
use Rattle.actx_grammar.specs.Tree.{Expr, Bump, Object, Yield, none, also, no_expr, Dot, PropKey, Fixed, Properties, end}
use Rattle.actx_grammar.specs.Words.{keyword_text, word_units}

-- NAMES AND PARAMETERS
-- a name that is assigned
abbrev pub assign : Limits → Frame → List Frame → Move
assign lim f s = go_if (takes_whole s && fits_below lim s) need (f ∷ s)

abbrev pub at_name : Limits → List ℕ → List Frame → TokenKind → Bool → Move
at_name lim x s (t.Sign g.Arrow) false = go_if (takes_whole s) (arrow_body Arrow (x ∷ [])) s
at_name lim x s (t.Sign g.Arrow) true = refuse
at_name lim x s (t.Sign g.Increment) false = go (have_bump (Bump x true false)) s
at_name lim x s (t.Sign g.Increment) true = refuse
at_name lim x s (t.Sign g.Decrement) false = go (have_bump (Bump x false false)) s
at_name lim x s (t.Sign g.Decrement) true = refuse
at_name lim x s (t.Sign g.Assign) b = assign lim (in_set_name x) s
at_name lim x s (t.Sign g.AddAssign) b = assign lim (in_change x o.Add) s
at_name lim x s (t.Sign g.SubAssign) b = assign lim (in_change x o.Sub) s
at_name lim x s (t.Sign g.MulAssign) b = assign lim (in_change x o.Mul) s
at_name lim x s t b = at_have lim (named x) (here s) s t

-- the parenthesis was one round an expression
abbrev pub in_parens : Limits → List Frame → (List Frame → Move) → Move
in_parens lim s on = if fits lim (here (in_paren ∷ s)) then on (in_paren ∷ s) else refuse

abbrev pub at_opened : Limits → Side → List Frame → TokenKind → Move
at_opened lim side s (t.Sign g.CloseParen) = go_if (takes_whole s) (arrow_sign Arrow []) s
at_opened lim side s (t.Name x) = if is_binding side x then go (first_name x) s else at_need lim side (in_paren ∷ s) (t.Name x)
at_opened lim side s t = at_need lim side (in_paren ∷ s) t

abbrev pub at_first : Limits → List ℕ → List Frame → TokenKind → Bool → Move
at_first lim x s (t.Sign g.Comma) b = go_if (takes_whole s) (param_next (arrow_head Arrow) (x ∷ [])) s
at_first lim x s (t.Sign g.CloseParen) b = go (closed_name x) s
at_first lim x s t b = in_parens lim s (λ u. at_name lim x u t b)

abbrev pub at_closed : Limits → List ℕ → List Frame → TokenKind → Bool → Move
at_closed lim x s (t.Sign g.Arrow) b = go_if (takes_whole s && (if b then false else true)) (arrow_body Arrow (x ∷ [])) s
at_closed lim x s t b = in_parens lim s (λ u. at_have lim (named x) (here u) s t)

abbrev pub close_params : Head → List (List ℕ) → List Frame → Move
close_params (arrow_head kind) xs s = go (arrow_sign kind xs) s
close_params h xs s = go (body_open h xs) s

abbrev pub at_param : Limits → Side → Head → List (List ℕ) → List Frame → TokenKind → Move
at_param lim side h xs s (t.Name x) = go_if (is_binding side x && takes_more lim (length xs)) (param_behind h (xs ++ x ∷ [])) s
at_param lim side h xs s (t.Sign g.CloseParen) = close_params h xs s
at_param lim side h xs s _ = refuse

abbrev pub behind_param : Head → List (List ℕ) → List Frame → TokenKind → Move
behind_param h xs s (t.Sign g.Comma) = go (param_next h xs) s
behind_param h xs s (t.Sign g.CloseParen) = close_params h xs s
behind_param h xs s _ = refuse

abbrev pub at_arrow_sign : FunctionKind → List (List ℕ) → List Frame → TokenKind → Bool → Move
at_arrow_sign kind xs s (t.Sign g.Arrow) false = go (arrow_body kind xs) s
at_arrow_sign kind xs s _ _ = refuse

abbrev pub open_list : ListOwner → ℕ → List Frame → Move
open_list owner r s = go start (in_list owner end r ∷ s)

abbrev pub at_arrow_body : Limits → Side → FunctionKind → List (List ℕ) → List Frame → TokenKind → Move
at_arrow_body lim side kind xs s (t.Sign g.OpenBrace) = open_list (body (arrow_head kind) xs) (here s) s
at_arrow_body lim side kind xs s t = at_need lim side (in_arrow kind xs ∷ s) t

-- FUNCTIONS
-- the depth of the function whose body is read; of a method it is one below its object
abbrev pub function_depth : Head → List Frame → ℕ
function_depth (function_head (method ps key r) kind x) s = max r (suc (here s))
function_depth h s = here s

abbrev pub at_body_open : Head → List (List ℕ) → List Frame → TokenKind → Move
at_body_open h xs s (t.Sign g.OpenBrace) = open_list (body h xs) (function_depth h s) s
at_body_open h xs s _ = refuse

abbrev pub at_params_open : Head → List Frame → TokenKind → Move
at_params_open h s (t.Sign g.OpenParen) = go (param_next h []) s
at_params_open h s _ = refuse

-- a declaration has a name
abbrev pub nameless : Role → FunctionKind → List Frame → Move
nameless expression kind s = go (param_next (function_head expression kind None) []) s
nameless role kind s = refuse

abbrev pub at_function_name : Side → Role → FunctionKind → List Frame → TokenKind → Move
at_function_name side role kind s (t.Name x) = go_if (is_binding side x) (params_open (function_head role kind (Some x))) s
at_function_name side role kind s (t.Sign g.OpenParen) = nameless role kind s
at_function_name side role kind s _ = refuse

abbrev pub at_function : Side → Role → List Frame → TokenKind → Move
at_function side role s (t.Sign g.Star) = go_if (is_source side) (name_next role Generator) s
at_function side role s t = at_function_name side role Normal s t

abbrev pub at_async : Side → List Frame → TokenKind → Bool → Move
at_async side s (t.Keyword k.Function) false = go_if (if begins_statement s then false else true) (name_next expression Async) s
at_async side s (t.Sign g.OpenParen) false = go_if (takes_whole s) (param_next (arrow_head AsyncArrow) []) s
at_async side s (t.Name x) false = go_if (takes_whole s && is_binding side x) (arrow_sign AsyncArrow (x ∷ [])) s
at_async side s _ _ = refuse

abbrev pub at_async_start : Limits → Side → List Frame → TokenKind → Bool → Move
at_async_start lim side s (t.Keyword k.Function) false = go (name_next declaration Async) s
at_async_start lim side s t b = if fits lim (here (in_value ∷ s)) then at_async side (in_value ∷ s) t b else refuse

-- whether an operand begins so
abbrev pub begins_operand : TokenKind → Bool
begins_operand (t.Name x) = true
begins_operand (t.Number n) = true
begins_operand (t.Text u) = true
begins_operand (t.Keyword k.This) = true
begins_operand (t.Keyword k.True) = true
begins_operand (t.Keyword k.False) = true
begins_operand (t.Keyword k.Null) = true
begins_operand (t.Keyword k.New) = true
begins_operand (t.Keyword k.Function) = true
begins_operand (t.Keyword k.Async) = true
begins_operand (t.Keyword k.Await) = true
begins_operand (t.Keyword k.Yield) = true
begins_operand (t.Keyword k.Typeof) = true
begins_operand (t.Keyword k.Void) = true
begins_operand (t.Sign g.Not) = true
begins_operand (t.Sign g.Minus) = true
begins_operand (t.Sign g.Increment) = true
begins_operand (t.Sign g.Decrement) = true
begins_operand (t.Sign g.OpenParen) = true
begins_operand (t.Sign g.OpenBrace) = true
begins_operand _ = false

abbrev pub yield_operand : Limits → Side → Bool → List Frame → TokenKind → Move
yield_operand lim side true s t = at_need lim side (in_yield ∷ s) t
yield_operand lim side false s t = at_whole (Yield no_expr) (here s) s t

abbrev pub at_yield : Limits → Side → List Frame → TokenKind → Bool → Move
at_yield lim side s (t.Sign g.Star) false = go_if (fits_below lim s) need (in_yield_all ∷ s)
at_yield lim side s t b = yield_operand lim side (begins_operand t && (if b then false else true)) s t

-- OBJECT LITERALS
abbrev pub at_fixed : Limits → Properties → List ℕ → ℕ → List Frame → Move
at_fixed lim ps u r s = go_if (fits_below lim s) (key_behind ps (Fixed u) r) s

abbrev pub at_key_word : Limits → Side → Properties → Keyword → ℕ → List Frame → Move
at_key_word lim Source ps k.Async r s = go_if (fits_below lim s) (key_async ps r) s
at_key_word lim side ps key r s = at_fixed lim ps (word_units (keyword_text key)) r s

abbrev pub at_key : Limits → Side → Properties → ℕ → List Frame → TokenKind → Move
at_key lim side ps r s (t.Sign g.CloseBrace) = go (have (Object ps) r) s
at_key lim side ps r s (t.Name x) = go_if (fits_below lim s) (key_name ps x r) s
at_key lim side ps r s (t.Keyword key) = at_key_word lim side ps key r s
at_key lim side ps r s (t.Text u) = at_fixed lim ps u r s
at_key lim side ps r s (t.Sign g.OpenBracket) = go_if (fits_below lim s) need (in_computed ps None r ∷ s)
at_key lim side ps r s (t.Sign g.Star) = go_if (is_source side && fits_below lim s) (method_key ps Generator r) s
at_key lim side ps r s _ = refuse

abbrev pub behind_key : Properties → PropKey → ℕ → List Frame → TokenKind → Move
behind_key ps key r s (t.Sign g.Colon) = go need (in_property ps key r ∷ s)
behind_key ps key r s (t.Sign g.OpenParen) = go (param_next (function_head (method ps key r) Normal None) []) s
behind_key ps key r s _ = refuse

-- a name alone is the property with that name as its value
abbrev pub alone : Properties → List ℕ → Properties
alone ps x = with_property ps (Fixed (word_units x)) (named x)

abbrev pub behind_key_name : Side → Properties → List ℕ → ℕ → List Frame → TokenKind → Move
behind_key_name side ps x r s (t.Sign g.Comma) = go_if (is_binding side x) (key_next (alone ps x) (max r (suc (here s)))) s
behind_key_name side ps x r s (t.Sign g.CloseBrace) = go_if (is_binding side x) (have (Object (alone ps x)) (max r (suc (here s)))) s
behind_key_name side ps x r s t = behind_key ps (Fixed (word_units x)) r s t

abbrev pub at_method_key : Properties → FunctionKind → ℕ → List Frame → TokenKind → Move
at_method_key ps kind r s (t.Name x) = go (method_open ps kind (Fixed (word_units x)) r) s
at_method_key ps kind r s (t.Keyword key) = go (method_open ps kind (Fixed (word_units (keyword_text key))) r) s
at_method_key ps kind r s (t.Text u) = go (method_open ps kind (Fixed u) r) s
at_method_key ps kind r s (t.Sign g.OpenBracket) = go need (in_computed ps (Some kind) r ∷ s)
at_method_key ps kind r s _ = refuse

abbrev pub behind_async : Properties → ℕ → List Frame → TokenKind → Bool → Move
behind_async ps r s (t.Sign g.Colon) b = behind_key ps (Fixed (codes "async")) r s (t.Sign g.Colon)
behind_async ps r s (t.Sign g.OpenParen) b = behind_key ps (Fixed (codes "async")) r s (t.Sign g.OpenParen)
behind_async ps r s t false = at_method_key ps Async r s t
behind_async ps r s t true = refuse

abbrev pub at_method : Properties → FunctionKind → PropKey → ℕ → List Frame → TokenKind → Move
at_method ps kind key r s (t.Sign g.OpenParen) = go (param_next (function_head (method ps key r) kind None) []) s
at_method ps kind key r s _ = refuse

abbrev pub behind_property : Properties → ℕ → List Frame → TokenKind → Move
behind_property ps r s (t.Sign g.Comma) = go (key_next ps r) s
behind_property ps r s (t.Sign g.CloseBrace) = go (have (Object ps) r) s
behind_property ps r s _ = refuse

-- MEMBERS AND FORMS
abbrev pub member_word : Side → Expr → Option (List ℕ) → ℕ → List Frame → Move
member_word side e None r s = refuse
member_word Source e (Some x) r s = go (have_member e (Dot x) r) s
member_word Plain e (Some x) r s = if same_word x (codes "call") then go (call_open e r) s else go (have_member e (Dot x) r) s

abbrev pub at_call : Expr → ℕ → List Frame → TokenKind → Move
at_call e r s (t.Sign g.OpenParen) = go need (in_form CallWith (also e none) r ∷ s)
at_call e r s _ = refuse

abbrev pub open_form : Option Form → List Frame → Move
open_form None s = refuse
open_form (Some form) s = go need (in_form form none (here s) ∷ s)

abbrev pub at_words : Limits → Side → List TokenKind → List Frame → TokenKind → Move
at_words lim side ws s (t.Sign g.OpenParen) = open_form (form_with ws (forms_of side)) s
at_words lim side ws s t = words_go lim side (ws ++ t ∷ []) s
