-- What is read within limits is read alike within looser ones: names, functions, literals and statements.
use Rattle.std.proofs.Common.{ℕ, suc, max, List, [], ◌∷◌, ◌++◌, length, Bool, true, false, ◌&&◌, None, cond}
use Rattle.actx_grammar.specs.declared.operators.BinaryOp.TheVariants as o
use Rattle.actx_grammar.specs.declared.operators.FunctionKind.{FunctionKind}
use Rattle.actx_grammar.specs.declared.operators.FunctionKind.TheVariants.{Generator}
use Rattle.actx_grammar.specs.declared.side.Side.{Side}
use Rattle.actx_grammar.specs.declared.side.Side.TheVariants.{Source, Plain}
use Rattle.actx_grammar.specs.declared.token.Keyword.{Keyword}
use Rattle.actx_grammar.specs.declared.token.Keyword.TheVariants as k
use Rattle.actx_grammar.specs.declared.token.Sign.TheVariants as g
use Rattle.actx_grammar.specs.declared.token.TokenKind.{TokenKind}
use Rattle.actx_grammar.specs.declared.token.TokenKind.TheVariants as t
use Rattle.actx_grammar.specs.Parser.{move, with_parts, without_parts, statement_keyword, list_keyword, at_statement, at_start, at_body_start, Standing, standing, settle_stmt, behind_standing, behind_stmt, with_stmt, at_let_behind, at_return, at_throw, at_for, at_for_test, at_for_update, at_finally}
use Rattle.actx_grammar.specs.ParserFunctions.{assign, at_name, in_parens, at_opened, at_first, at_closed, at_param, at_arrow_body, at_async, at_async_start, yield_operand, begins_operand, at_yield, at_fixed, at_key_word, at_key, at_words, open_list}
use Rattle.actx_grammar.specs.ParserOperands.{is_binding, is_source, takes_whole, fits_below, named, at_need, at_whole, at_have}
use Rattle.actx_grammar.specs.ParserState.{Limits, fits, takes_more, Head, ItemsOf, of_statement, block, Frame, in_paren, in_set_name, in_change, in_arrow, in_yield, in_yield_all, in_computed, in_value, in_let, in_return, in_throw, in_for_init, in_for_test, in_for_update, do_of, in_list, Mode, start, body_start, have_stmt, need, have, have_member, have_name, have_bump, opened, first_name, closed_name, yield_next, async_start, function_next, param_next, param_behind, arrow_body, key_next, key_behind, key_name, key_async, method_key, words_next, let_name, let_behind, const_name, jump_end, return_next, throw_next, if_open, while_open, for_open, for_next, for_test, for_update, try_open, finally_next, switch_open, declaration, Move, refuse, go, here}
use Rattle.actx_grammar.specs.Tree.{Properties, Fixed, LetItems, no_lets, no_consts, Init, MaybeExpr, Stmt, Break, Continue, Empty, Try, no_last, Stmts, Catch, Yield, no_expr}
use Rattle.actx_grammar.specs.Words.{keyword_text, word_units}
use Rattle.actx_laws.proofs.ParseLooser.{Looser, Kept, Holds, same, kept_if, kept_when, kept_either, and_holds, holds_same, words_kept, need_kept, operator_kept, have_kept, member_kept}

-- NAMES AND FUNCTIONS
below : {lim lam : Limits} (l : Looser lim lam) (s : List Frame) → Holds (fits_below lim s) (fits_below lam s)
below l s = l.deeper (suc (here s))

assign_kept : {lim lam : Limits} (l : Looser lim lam) (f : Frame) (s : List Frame) → Kept (assign lim f s) (assign lam f s)
assign_kept {lim = lim} {lam = lam} l f s = kept_if (takes_whole s && fits_below lim s) (takes_whole s && fits_below lam s) (and_holds (takes_whole s) (fits_below lim s) (takes_whole s) (fits_below lam s) (holds_same (takes_whole s)) (below l s)) need (f ∷ s)

name_kept : {lim lam : Limits} (l : Looser lim lam) (x : List ℕ) (s : List Frame) (w : TokenKind) (b : Bool) → Kept (at_name lim x s w b) (at_name lam x s w b)
name_kept {lim = lim} l x s (t.Sign g.Arrow) b = same (at_name lim x s (t.Sign g.Arrow) b)
name_kept {lim = lim} l x s (t.Sign g.Increment) b = same (at_name lim x s (t.Sign g.Increment) b)
name_kept {lim = lim} l x s (t.Sign g.Decrement) b = same (at_name lim x s (t.Sign g.Decrement) b)
name_kept l x s (t.Sign g.Assign) b = assign_kept l (in_set_name x) s
name_kept l x s (t.Sign g.AddAssign) b = assign_kept l (in_change x o.Add) s
name_kept l x s (t.Sign g.SubAssign) b = assign_kept l (in_change x o.Sub) s
name_kept l x s (t.Sign g.MulAssign) b = assign_kept l (in_change x o.Mul) s
name_kept l x s (t.Sign w) b = have_kept l (named x) (here s) s (t.Sign w)
name_kept l x s w b = have_kept l (named x) (here s) s w

parens_kept : {lim lam : Limits} (l : Looser lim lam) (s : List Frame) (v w : List Frame → Move) → Kept (v (in_paren ∷ s)) (w (in_paren ∷ s)) → Kept (in_parens lim s v) (in_parens lam s w)
parens_kept {lim = lim} {lam = lam} l s v w h = kept_when (fits lim (here (in_paren ∷ s))) (fits lam (here (in_paren ∷ s))) (v (in_paren ∷ s)) (w (in_paren ∷ s)) (l.deeper (here (in_paren ∷ s))) h

opened_kept : {lim lam : Limits} (l : Looser lim lam) (side : Side) (s : List Frame) (w : TokenKind) → Kept (at_opened lim side s w) (at_opened lam side s w)
opened_kept {lim = lim} l side s (t.Sign g.CloseParen) = same (at_opened lim side s (t.Sign g.CloseParen))
opened_kept {lim = lim} {lam = lam} l side s (t.Name x) = kept_either (is_binding side x) (go (first_name x) s) (at_need lim side (in_paren ∷ s) (t.Name x)) (go (first_name x) s) (at_need lam side (in_paren ∷ s) (t.Name x)) (same (go (first_name x) s)) (need_kept l side (in_paren ∷ s) (t.Name x))
opened_kept l side s (t.Sign w) = need_kept l side (in_paren ∷ s) (t.Sign w)
opened_kept l side s w = need_kept l side (in_paren ∷ s) w

first_kept : {lim lam : Limits} (l : Looser lim lam) (x : List ℕ) (s : List Frame) (w : TokenKind) (b : Bool) → Kept (at_first lim x s w b) (at_first lam x s w b)
first_kept {lim = lim} l x s (t.Sign g.Comma) b = same (at_first lim x s (t.Sign g.Comma) b)
first_kept {lim = lim} l x s (t.Sign g.CloseParen) b = same (at_first lim x s (t.Sign g.CloseParen) b)
first_kept {lim = lim} {lam = lam} l x s (t.Sign w) b = parens_kept l s (λ v. at_name lim x v (t.Sign w) b) (λ v. at_name lam x v (t.Sign w) b) (name_kept l x (in_paren ∷ s) (t.Sign w) b)
first_kept {lim = lim} {lam = lam} l x s w b = parens_kept l s (λ v. at_name lim x v w b) (λ v. at_name lam x v w b) (name_kept l x (in_paren ∷ s) w b)

closed_kept : {lim lam : Limits} (l : Looser lim lam) (x : List ℕ) (s : List Frame) (w : TokenKind) (b : Bool) → Kept (at_closed lim x s w b) (at_closed lam x s w b)
closed_kept {lim = lim} l x s (t.Sign g.Arrow) b = same (at_closed lim x s (t.Sign g.Arrow) b)
closed_kept {lim = lim} {lam = lam} l x s (t.Sign w) b = parens_kept l s (λ v. at_have lim (named x) (here v) s (t.Sign w)) (λ v. at_have lam (named x) (here v) s (t.Sign w)) (have_kept l (named x) (here (in_paren ∷ s)) s (t.Sign w))
closed_kept {lim = lim} {lam = lam} l x s w b = parens_kept l s (λ v. at_have lim (named x) (here v) s w) (λ v. at_have lam (named x) (here v) s w) (have_kept l (named x) (here (in_paren ∷ s)) s w)

param_kept : {lim lam : Limits} (l : Looser lim lam) (side : Side) (h : Head) (xs : List (List ℕ)) (s : List Frame) (w : TokenKind) → Kept (at_param lim side h xs s w) (at_param lam side h xs s w)
param_kept {lim = lim} {lam = lam} l side h xs s (t.Name x) = kept_if (is_binding side x && takes_more lim (length xs)) (is_binding side x && takes_more lam (length xs)) (and_holds (is_binding side x) (takes_more lim (length xs)) (is_binding side x) (takes_more lam (length xs)) (holds_same (is_binding side x)) (l.longer (length xs))) (param_behind h (xs ++ x ∷ [])) s
param_kept {lim = lim} l side h xs s w = same (at_param lim side h xs s w)

arrow_kept : {lim lam : Limits} (l : Looser lim lam) (side : Side) (kind : FunctionKind) (xs : List (List ℕ)) (s : List Frame) (w : TokenKind) → Kept (at_arrow_body lim side kind xs s w) (at_arrow_body lam side kind xs s w)
arrow_kept {lim = lim} l side kind xs s (t.Sign g.OpenBrace) = same (at_arrow_body lim side kind xs s (t.Sign g.OpenBrace))
arrow_kept l side kind xs s (t.Sign w) = need_kept l side (in_arrow kind xs ∷ s) (t.Sign w)
arrow_kept l side kind xs s w = need_kept l side (in_arrow kind xs ∷ s) w

async_kept : {lim lam : Limits} (l : Looser lim lam) (side : Side) (s : List Frame) (w : TokenKind) (b : Bool) → Kept (at_async_start lim side s w b) (at_async_start lam side s w b)
async_kept {lim = lim} l side s (t.Keyword k.Function) false = same (at_async_start lim side s (t.Keyword k.Function) false)
async_kept {lim = lim} {lam = lam} l side s (t.Keyword k.Function) true = kept_when (fits lim (here (in_value ∷ s))) (fits lam (here (in_value ∷ s))) (at_async side (in_value ∷ s) (t.Keyword k.Function) true) (at_async side (in_value ∷ s) (t.Keyword k.Function) true) (l.deeper (here (in_value ∷ s))) (same (at_async side (in_value ∷ s) (t.Keyword k.Function) true))
async_kept {lim = lim} {lam = lam} l side s (t.Keyword w) b = kept_when (fits lim (here (in_value ∷ s))) (fits lam (here (in_value ∷ s))) (at_async side (in_value ∷ s) (t.Keyword w) b) (at_async side (in_value ∷ s) (t.Keyword w) b) (l.deeper (here (in_value ∷ s))) (same (at_async side (in_value ∷ s) (t.Keyword w) b))
async_kept {lim = lim} {lam = lam} l side s w b = kept_when (fits lim (here (in_value ∷ s))) (fits lam (here (in_value ∷ s))) (at_async side (in_value ∷ s) w b) (at_async side (in_value ∷ s) w b) (l.deeper (here (in_value ∷ s))) (same (at_async side (in_value ∷ s) w b))

yield_kept_if : {lim lam : Limits} (l : Looser lim lam) (side : Side) (c : Bool) (s : List Frame) (w : TokenKind) → Kept (yield_operand lim side c s w) (yield_operand lam side c s w)
yield_kept_if l side true s w = need_kept l side (in_yield ∷ s) w
yield_kept_if l side false s w = same (at_whole (Yield no_expr) (here s) s w)

yield_kept : {lim lam : Limits} (l : Looser lim lam) (side : Side) (s : List Frame) (w : TokenKind) (b : Bool) → Kept (at_yield lim side s w b) (at_yield lam side s w b)
yield_kept {lim = lim} {lam = lam} l side s (t.Sign g.Star) false = kept_if (fits_below lim s) (fits_below lam s) (below l s) need (in_yield_all ∷ s)
yield_kept l side s (t.Sign g.Star) true = yield_kept_if l side (begins_operand (t.Sign g.Star) && cond true false true) s (t.Sign g.Star)
yield_kept l side s (t.Sign w) b = yield_kept_if l side (begins_operand (t.Sign w) && cond b false true) s (t.Sign w)
yield_kept l side s w b = yield_kept_if l side (begins_operand w && cond b false true) s w

-- LITERALS
fixed_kept : {lim lam : Limits} (l : Looser lim lam) (ps : Properties) (x : List ℕ) (r : ℕ) (s : List Frame) → Kept (at_fixed lim ps x r s) (at_fixed lam ps x r s)
fixed_kept {lim = lim} {lam = lam} l ps x r s = kept_if (fits_below lim s) (fits_below lam s) (below l s) (key_behind ps (Fixed x) r) s

key_word_kept : {lim lam : Limits} (l : Looser lim lam) (side : Side) (ps : Properties) (w : Keyword) (r : ℕ) (s : List Frame) → Kept (at_key_word lim side ps w r s) (at_key_word lam side ps w r s)
key_word_kept {lim = lim} {lam = lam} l Source ps k.Async r s = kept_if (fits_below lim s) (fits_below lam s) (below l s) (key_async ps r) s
key_word_kept l Plain ps k.Async r s = fixed_kept l ps (word_units (keyword_text k.Async)) r s
key_word_kept l side ps w r s = fixed_kept l ps (word_units (keyword_text w)) r s

key_kept : {lim lam : Limits} (l : Looser lim lam) (side : Side) (ps : Properties) (r : ℕ) (s : List Frame) (w : TokenKind) → Kept (at_key lim side ps r s w) (at_key lam side ps r s w)
key_kept {lim = lim} {lam = lam} l side ps r s (t.Name x) = kept_if (fits_below lim s) (fits_below lam s) (below l s) (key_name ps x r) s
key_kept l side ps r s (t.Keyword w) = key_word_kept l side ps w r s
key_kept l side ps r s (t.Text x) = fixed_kept l ps x r s
key_kept {lim = lim} {lam = lam} l side ps r s (t.Sign g.OpenBracket) = kept_if (fits_below lim s) (fits_below lam s) (below l s) need (in_computed ps None r ∷ s)
key_kept {lim = lim} {lam = lam} l side ps r s (t.Sign g.Star) = kept_if (is_source side && fits_below lim s) (is_source side && fits_below lam s) (and_holds (is_source side) (fits_below lim s) (is_source side) (fits_below lam s) (holds_same (is_source side)) (below l s)) (method_key ps Generator r) s
key_kept {lim = lim} l side ps r s (t.Sign w) = same (at_key lim side ps r s (t.Sign w))
key_kept {lim = lim} l side ps r s w = same (at_key lim side ps r s w)

at_words_kept : {lim lam : Limits} (l : Looser lim lam) (side : Side) (ws : List TokenKind) (s : List Frame) (w : TokenKind) → Kept (at_words lim side ws s w) (at_words lam side ws s w)
at_words_kept {lim = lim} l side ws s (t.Sign g.OpenParen) = same (at_words lim side ws s (t.Sign g.OpenParen))
at_words_kept l side ws s (t.Sign w) = words_kept l side (ws ++ t.Sign w ∷ []) s
at_words_kept l side ws s w = words_kept l side (ws ++ w ∷ []) s

-- STATEMENTS
parts_kept : {lim lam : Limits} (l : Looser lim lam) (m : Mode) (s : List Frame) → Kept (with_parts lim m s) (with_parts lam m s)
parts_kept {lim = lim} {lam = lam} l m s = kept_if (fits_below lim s) (fits_below lam s) (below l s) m s

leaf_kept : {lim lam : Limits} (l : Looser lim lam) (m : Mode) (s : List Frame) → Kept (without_parts lim m s) (without_parts lam m s)
leaf_kept {lim = lim} {lam = lam} l m s = kept_if (fits lim (here s)) (fits lam (here s)) (l.deeper (here s)) m s

statement_kept : {lim lam : Limits} (l : Looser lim lam) (side : Side) (s : List Frame) (w : Keyword) → Kept (statement_keyword lim side s w) (statement_keyword lam side s w)
statement_kept l side s k.If = parts_kept l if_open s
statement_kept l side s k.While = parts_kept l while_open s
statement_kept {lim = lim} {lam = lam} l side s k.Do = kept_if (fits_below lim s) (fits_below lam s) (below l s) body_start (do_of ∷ s)
statement_kept l side s k.For = parts_kept l for_open s
statement_kept l side s k.Break = leaf_kept l (jump_end Break) s
statement_kept l side s k.Continue = leaf_kept l (jump_end Continue) s
statement_kept l side s k.Return = leaf_kept l return_next s
statement_kept l side s k.Throw = parts_kept l throw_next s
statement_kept l side s k.Try = leaf_kept l try_open s
statement_kept l Plain s k.Switch = parts_kept l switch_open s
statement_kept l Source s k.Switch = need_kept l Source (in_value ∷ s) (t.Keyword k.Switch)
statement_kept l side s k.Function = same refuse
statement_kept l side s w = need_kept l side (in_value ∷ s) (t.Keyword w)

list_kept : {lim lam : Limits} (l : Looser lim lam) (side : Side) (s : List Frame) (w : Keyword) → Kept (list_keyword lim side s w) (list_keyword lam side s w)
list_kept l side s k.Let = leaf_kept l (let_name of_statement no_lets (here s)) s
list_kept l side s k.Const = parts_kept l (const_name of_statement no_consts (here s)) s
list_kept l side s k.Function = leaf_kept l (function_next declaration) s
list_kept l Source s k.Async = leaf_kept l async_start s
list_kept l Plain s k.Async = statement_kept l Plain s k.Async
list_kept {lim = lim} l side s k.Case = same (list_keyword lim side s k.Case)
list_kept {lim = lim} l side s k.Default = same (list_keyword lim side s k.Default)
list_kept l side s w = statement_kept l side s w

at_statement_kept : {lim lam : Limits} (l : Looser lim lam) (side : Side) (s : List Frame) (w : TokenKind) → Kept (at_statement lim side s w) (at_statement lam side s w)
at_statement_kept {lim = lim} {lam = lam} l side s (t.Sign g.OpenBrace) = kept_when (fits lim (here s)) (fits lam (here s)) (open_list block (here s) s) (open_list block (here s) s) (l.deeper (here s)) (same (open_list block (here s) s))
at_statement_kept l side s (t.Sign g.Semicolon) = leaf_kept l (have_stmt Empty (here s)) s
at_statement_kept l side s (t.Sign w) = need_kept l side (in_value ∷ s) (t.Sign w)
at_statement_kept l side s w = need_kept l side (in_value ∷ s) w

start_kept : {lim lam : Limits} (l : Looser lim lam) (side : Side) (s : List Frame) (w : TokenKind) → Kept (at_start lim side s w) (at_start lam side s w)
start_kept l side s (t.Keyword w) = list_kept l side s w
start_kept {lim = lim} l side s (t.Sign g.CloseBrace) = same (at_start lim side s (t.Sign g.CloseBrace))
start_kept l side s (t.Sign w) = at_statement_kept l side s (t.Sign w)
start_kept l side s w = at_statement_kept l side s w

body_kept : {lim lam : Limits} (l : Looser lim lam) (side : Side) (s : List Frame) (w : TokenKind) → Kept (at_body_start lim side s w) (at_body_start lam side s w)
body_kept l side s (t.Keyword w) = statement_kept l side s w
body_kept l side s w = at_statement_kept l side s w

standing_kept : {lim lam : Limits} (l : Looser lim lam) (side : Side) (q : Standing) (w : TokenKind) → Kept (behind_standing lim side q w) (behind_standing lam side q w)
standing_kept l side (standing st r (in_list owner ss q ∷ s)) w = start_kept l side (in_list owner (with_stmt ss st) (max q r) ∷ s) w
standing_kept {lim = lim} l side (standing st r (do_of ∷ s)) (t.Keyword w) = same (behind_standing lim side (standing st r (do_of ∷ s)) (t.Keyword w))
standing_kept l side (standing st r (do_of ∷ s)) w = same refuse
standing_kept l side (standing st r []) w = same refuse
standing_kept l side (standing st r (_ ∷ s)) w = same refuse

behind_kept : {lim lam : Limits} (l : Looser lim lam) (side : Side) (st : Stmt) (r : ℕ) (s : List Frame) (w : TokenKind) → Kept (behind_stmt lim side st r s w) (behind_stmt lam side st r s w)
behind_kept {lim = lim} l side st r s (t.Keyword k.Else) = same (behind_stmt lim side st r s (t.Keyword k.Else))
behind_kept l side st r s (t.Keyword w) = standing_kept l side (settle_stmt st r s) (t.Keyword w)
behind_kept l side st r s w = standing_kept l side (settle_stmt st r s) w

let_kept : {lim lam : Limits} (l : Looser lim lam) (side : Side) (of : ItemsOf) (is : LetItems) (x : List ℕ) (r : ℕ) (s : List Frame) (w : TokenKind) → Kept (at_let_behind lim side of is x r s w) (at_let_behind lam side of is x r s w)
let_kept {lim = lim} {lam = lam} l side of is x r s (t.Sign g.Assign) = kept_if (fits_below lim s) (fits_below lam s) (below l s) need (in_let of is x r ∷ s)
let_kept {lim = lim} l side of is x r s (t.Sign w) = same (at_let_behind lim side of is x r s (t.Sign w))
let_kept {lim = lim} l side of is x r s w = same (at_let_behind lim side of is x r s w)

return_kept : {lim lam : Limits} (l : Looser lim lam) (side : Side) (s : List Frame) (w : TokenKind) (b : Bool) → Kept (at_return lim side s w b) (at_return lam side s w b)
return_kept {lim = lim} l side s (t.Sign g.Semicolon) b = same (at_return lim side s (t.Sign g.Semicolon) b)
return_kept l side s (t.Sign w) false = need_kept l side (in_return ∷ s) (t.Sign w)
return_kept l side s (t.Sign w) true = same refuse
return_kept l side s w false = need_kept l side (in_return ∷ s) w
return_kept l side s w true = same refuse

throw_kept : {lim lam : Limits} (l : Looser lim lam) (side : Side) (s : List Frame) (w : TokenKind) (b : Bool) → Kept (at_throw lim side s w b) (at_throw lam side s w b)
throw_kept l side s w false = need_kept l side (in_throw ∷ s) w
throw_kept l side s w true = same refuse

for_kept : {lim lam : Limits} (l : Looser lim lam) (side : Side) (s : List Frame) (w : TokenKind) → Kept (at_for lim side s w) (at_for lam side s w)
for_kept {lim = lim} l side s (t.Keyword k.Let) = same (at_for lim side s (t.Keyword k.Let))
for_kept {lim = lim} l side s (t.Keyword k.Const) = same (at_for lim side s (t.Keyword k.Const))
for_kept l side s (t.Keyword w) = need_kept l side (in_for_init ∷ s) (t.Keyword w)
for_kept {lim = lim} l side s (t.Sign g.Semicolon) = same (at_for lim side s (t.Sign g.Semicolon))
for_kept l side s (t.Sign w) = need_kept l side (in_for_init ∷ s) (t.Sign w)
for_kept l side s w = need_kept l side (in_for_init ∷ s) w

test_kept : {lim lam : Limits} (l : Looser lim lam) (side : Side) (i : Init) (r : ℕ) (s : List Frame) (w : TokenKind) → Kept (at_for_test lim side i r s w) (at_for_test lam side i r s w)
test_kept {lim = lim} l side i r s (t.Sign g.Semicolon) = same (at_for_test lim side i r s (t.Sign g.Semicolon))
test_kept l side i r s (t.Sign w) = need_kept l side (in_for_test i r ∷ s) (t.Sign w)
test_kept l side i r s w = need_kept l side (in_for_test i r ∷ s) w

update_kept : {lim lam : Limits} (l : Looser lim lam) (side : Side) (i : Init) (e : MaybeExpr) (r : ℕ) (s : List Frame) (w : TokenKind) → Kept (at_for_update lim side i e r s w) (at_for_update lam side i e r s w)
update_kept {lim = lim} l side i e r s (t.Sign g.CloseParen) = same (at_for_update lim side i e r s (t.Sign g.CloseParen))
update_kept l side i e r s (t.Sign w) = need_kept l side (in_for_update i e r ∷ s) (t.Sign w)
update_kept l side i e r s w = need_kept l side (in_for_update i e r ∷ s) w

finally_kept : {lim lam : Limits} (l : Looser lim lam) (side : Side) (bs : Stmts) (c : Catch) (r : ℕ) (s : List Frame) (w : TokenKind) → Kept (at_finally lim side bs c r s w) (at_finally lam side bs c r s w)
finally_kept {lim = lim} l side bs c r s (t.Keyword k.Finally) = same (at_finally lim side bs c r s (t.Keyword k.Finally))
finally_kept l side bs c r s (t.Keyword w) = behind_kept l side (Try bs c no_last) r s (t.Keyword w)
finally_kept l side bs c r s w = behind_kept l side (Try bs c no_last) r s w

-- ONE TOKEN
pub move_kept : {lim lam : Limits} (l : Looser lim lam) (side : Side) (m : Mode) (s : List Frame) (w : TokenKind) (b : Bool) → Kept (move lim side m s w b) (move lam side m s w b)
move_kept l side start s w b = start_kept l side s w
move_kept l side body_start s w b = body_kept l side s w
move_kept l side (have_stmt st r) s w b = behind_kept l side st r s w
move_kept l side need s w b = need_kept l side s w
move_kept l side (have e r) s w b = have_kept l e r s w
move_kept l side (have_member e key r) s w b = member_kept l e key r s w
move_kept l side (have_name x) s w b = name_kept l x s w b
move_kept l side (have_bump e) s w b = operator_kept l e (here s) s w
move_kept l side opened s w b = opened_kept l side s w
move_kept l side (first_name x) s w b = first_kept l x s w b
move_kept l side (closed_name x) s w b = closed_kept l x s w b
move_kept l side yield_next s w b = yield_kept l side s w b
move_kept l side async_start s w b = async_kept l side s w b
move_kept l side (param_next h xs) s w b = param_kept l side h xs s w
move_kept l side (arrow_body kind xs) s w b = arrow_kept l side kind xs s w
move_kept l side (key_next ps r) s w b = key_kept l side ps r s w
move_kept l side (words_next ws) s w b = at_words_kept l side ws s w
move_kept l side (let_behind of is x r) s w b = let_kept l side of is x r s w
move_kept l side return_next s w b = return_kept l side s w b
move_kept l side throw_next s w b = throw_kept l side s w b
move_kept l side for_next s w b = for_kept l side s w
move_kept l side (for_test i r) s w b = test_kept l side i r s w
move_kept l side (for_update i e r) s w b = update_kept l side i e r s w
move_kept l side (finally_next bs c r) s w b = finally_kept l side bs c r s w
move_kept {lim = lim} l side m s w b = same (move lim side m s w b)
