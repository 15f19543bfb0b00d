-- A step in a name, a function or a literal keeps what is open sound.
use Rattle.std.proofs.Common.{◌≡◌, ℕ, suc, ◌++◌, length, ◌≤◌, ◌⊎◌, inl, inr, max, List, [], ◌∷◌, Bool, true, false, ◌&&◌, Option, Some, None, codes, if◌then◌else◌, refl, arith}
use Rattle.actx_grammar.specs.declared.operators.Form.{Form}
use Rattle.actx_grammar.specs.declared.operators.FunctionKind.{FunctionKind}
use Rattle.actx_grammar.specs.declared.side.Side.{Side}
use Rattle.actx_grammar.specs.declared.side.Side.TheVariants.{Source, Plain}
use Rattle.actx_grammar.specs.declared.token.Keyword.{Keyword}
use Rattle.actx_grammar.specs.declared.token.Keyword.TheVariants as k
use Rattle.actx_grammar.specs.declared.token.Sign.TheVariants as g
use Rattle.actx_grammar.specs.declared.token.TokenKind.{TokenKind}
use Rattle.actx_grammar.specs.declared.token.TokenKind.TheVariants as t
use Rattle.actx_grammar.specs.Grammar.{count}
use Rattle.actx_grammar.specs.ParserState.{Limits, at_most, fits, takes_more, Role, expression, declaration, method, Head, arrow_head, function_head, body, Frame, in_paren, in_form, in_set_name, in_change, in_computed, in_property, in_arrow, in_yield, in_yield_all, in_value, need, have, have_member, first_name, name_next, params_open, param_next, param_behind, arrow_sign, arrow_body, key_next, key_behind, key_name, key_async, method_key, call_open, Move, refuse, go, frame_levels, here}
use Rattle.actx_grammar.specs.ParserOperands.{same_word, is_binding, is_source, named, forms_of, form_with, least_parts, most_parts, takes_whole, begins_statement, fits_below, at_need, at_have}
use Rattle.actx_grammar.specs.Tree.{Expr, Yield, Object, none, no_expr, Dot, PropKey, Fixed, Properties}
use Rattle.actx_laws.proofs.ParseNames.{le_true}
use Rattle.actx_laws.proofs.ReadyStates.{wants_expr, wants_stmt, Stands, Reaches, Deeper, Opened, OfOperand, OfForm, OfList, OfFrame, Sound, OfRole, OfHead, OfWords, ReadyAfter}
use Rattle.actx_laws.proofs.ViableTests.{and_right, fits_less}
use Rattle.actx_grammar.specs.declared.operators.BinaryOp.TheVariants as o
use Rattle.actx_grammar.specs.declared.operators.FunctionKind.TheVariants.{Normal, Arrow, Generator, Async, AsyncArrow}
use Rattle.actx_grammar.specs.Words.{keyword_text, word_units}
use Rattle.actx_grammar.specs.ParserFunctions.{assign, at_name, in_parens, at_opened, at_first, at_closed, close_params, at_param, behind_param, at_arrow_sign, at_arrow_body, function_depth, at_body_open, at_params_open, nameless, at_function_name, at_function, at_async, at_async_start, begins_operand, yield_operand, at_yield, at_fixed, at_key_word, at_key, behind_key, alone, behind_key_name, at_method_key, behind_async, at_method, behind_property, member_word, at_call, open_form, at_words}
use Rattle.actx_grammar.specs.Words.{keyword_text, word_units}
use Rattle.actx_laws.proofs.ReadyOperands.{ready_if, ready_when, ready_either, reaches_here, below, words_ready, on_frame, whole_ready, have_ready, reaches_of, part_of}
use Rattle.actx_laws.proofs.ReadyWords.{opened_form}

-- NAMES AND PARAMETERS
assign_ready : (lim : Limits) (side : Side) (f : Frame) (s : List Frame) → frame_levels f ≡ 1 → wants_expr (f ∷ s) ≡ true → (OfOperand lim f s → OfFrame lim f s) → Stands lim s → Sound lim s → ReadyAfter lim side (assign lim f s)
assign_ready lim side f s e i j h z = ready_if lim side (takes_whole s && fits_below lim s) need (f ∷ s) (λ w. record { mode = i; stack = (j (below f e h (and_right (takes_whole s) (fits_below lim s) w)), z) })

pub name_ready : (lim : Limits) (side : Side) (x : List ℕ) (s : List Frame) (w : TokenKind) (b : Bool) → Stands lim s → Sound lim s → ReadyAfter lim side (at_name lim x s w b)
name_ready lim side x s (t.Sign g.Arrow) false h z = ready_if lim side (takes_whole s) (arrow_body Arrow (x ∷ [])) s (λ w. record { mode = h; stack = z })
name_ready lim side x s (t.Sign g.Arrow) true h z = tt
name_ready lim side x s (t.Sign g.Increment) false h z = record { mode = h; stack = z }
name_ready lim side x s (t.Sign g.Increment) true h z = tt
name_ready lim side x s (t.Sign g.Decrement) false h z = record { mode = h; stack = z }
name_ready lim side x s (t.Sign g.Decrement) true h z = tt
name_ready lim side x s (t.Sign g.Assign) b h z = assign_ready lim side (in_set_name x) s refl refl (λ y. y) h z
name_ready lim side x s (t.Sign g.AddAssign) b h z = assign_ready lim side (in_change x o.Add) s refl refl (λ y. y) h z
name_ready lim side x s (t.Sign g.SubAssign) b h z = assign_ready lim side (in_change x o.Sub) s refl refl (λ y. y) h z
name_ready lim side x s (t.Sign g.MulAssign) b h z = assign_ready lim side (in_change x o.Mul) s refl refl (λ y. y) h z
name_ready lim side x s (t.Sign w) b h z = have_ready lim side (named x) (here s) s (t.Sign w) (reaches_here h) z
name_ready lim side x s (t.Name w) b h z = tt
name_ready lim side x s (t.Keyword w) b h z = tt
name_ready lim side x s (t.Number w) b h z = tt
name_ready lim side x s (t.Text w) b h z = tt

-- a parenthesis round an expression
paren_stands : {lim : Limits} {s : List Frame} → Stands lim s → fits lim (here (in_paren ∷ s)) ≡ true → Stands lim (in_paren ∷ s)
paren_stands h w = record { wanted = refl; fit = w; room = refl }

paren_sound : {lim : Limits} {s : List Frame} → Stands lim s → Sound lim s → fits lim (here (in_paren ∷ s)) ≡ true → Sound lim (in_paren ∷ s)
paren_sound h z w = (record { stands = h; part = w }, z)

opened_need : (lim : Limits) (side : Side) (s : List Frame) (w : TokenKind) → Stands lim s → Sound lim s → ReadyAfter lim side (at_need lim side (in_paren ∷ s) w)
opened_need lim side s w h z = on_frame lim side (in_paren ∷ s) w refl (paren_sound h z) tt

pub opened_ready : (lim : Limits) (side : Side) (s : List Frame) (w : TokenKind) → Opened lim s → Sound lim s → ReadyAfter lim side (at_opened lim side s w)
opened_ready lim side s (t.Sign g.CloseParen) h z = ready_if lim side (takes_whole s) (arrow_sign Arrow []) s (λ w. record { mode = h.stands; stack = z })
opened_ready lim side s (t.Name x) h z = ready_either lim side (is_binding side x) (go (first_name x) s) (at_need lim side (in_paren ∷ s) (t.Name x)) (λ w. record { mode = h; stack = z }) (λ w. opened_need lim side s (t.Name x) h.stands z)
opened_ready lim side s (t.Sign w) h z = opened_need lim side s (t.Sign w) h.stands z
opened_ready lim side s (t.Keyword w) h z = opened_need lim side s (t.Keyword w) h.stands z
opened_ready lim side s (t.Number w) h z = opened_need lim side s (t.Number w) h.stands z
opened_ready lim side s (t.Text w) h z = opened_need lim side s (t.Text w) h.stands z

parens_ready : (lim : Limits) (side : Side) (s : List Frame) (on : List Frame → Move) → (fits lim (here (in_paren ∷ s)) ≡ true → ReadyAfter lim side (on (in_paren ∷ s))) → ReadyAfter lim side (in_parens lim s on)
parens_ready lim side s on f = ready_when lim side (fits lim (here (in_paren ∷ s))) (on (in_paren ∷ s)) f

first_in_parens : (lim : Limits) (side : Side) (x : List ℕ) (s : List Frame) (w : TokenKind) (b : Bool) → Stands lim s → Sound lim s → ReadyAfter lim side (in_parens lim s (λ u. at_name lim x u w b))
first_in_parens lim side x s w b h z = parens_ready lim side s (λ u. at_name lim x u w b) (λ i. name_ready lim side x (in_paren ∷ s) w b (paren_stands h i) (paren_sound h z i))

pub first_ready : (lim : Limits) (side : Side) (x : List ℕ) (s : List Frame) (w : TokenKind) (b : Bool) → Opened lim s → Sound lim s → ReadyAfter lim side (at_first lim x s w b)
first_ready lim side x s (t.Sign g.Comma) b h z = ready_if lim side (takes_whole s) (param_next (arrow_head Arrow) (x ∷ [])) s (λ w. record { mode = h.stands; stack = z })
first_ready lim side x s (t.Sign g.CloseParen) b h z = record { mode = h; stack = z }
first_ready lim side x s (t.Sign w) b h z = first_in_parens lim side x s (t.Sign w) b h.stands z
first_ready lim side x s (t.Name w) b h z = first_in_parens lim side x s (t.Name w) b h.stands z
first_ready lim side x s (t.Keyword w) b h z = first_in_parens lim side x s (t.Keyword w) b h.stands z
first_ready lim side x s (t.Number w) b h z = first_in_parens lim side x s (t.Number w) b h.stands z
first_ready lim side x s (t.Text w) b h z = first_in_parens lim side x s (t.Text w) b h.stands z

closed_in_parens : (lim : Limits) (side : Side) (x : List ℕ) (s : List Frame) (w : TokenKind) → Stands lim s → Sound lim s → ReadyAfter lim side (in_parens lim s (λ u. at_have lim (named x) (here u) s w))
closed_in_parens lim side x s w h z = parens_ready lim side s (λ u. at_have lim (named x) (here u) s w) (λ i. have_ready lim side (named x) (here (in_paren ∷ s)) s w (record { stands = h; reach = omega arith }) z)

pub closed_ready : (lim : Limits) (side : Side) (x : List ℕ) (s : List Frame) (w : TokenKind) (b : Bool) → Opened lim s → Sound lim s → ReadyAfter lim side (at_closed lim x s w b)
closed_ready lim side x s (t.Sign g.Arrow) b h z = ready_if lim side (takes_whole s && (if b then false else true)) (arrow_body Arrow (x ∷ [])) s (λ w. record { mode = h.stands; stack = z })
closed_ready lim side x s (t.Sign w) b h z = closed_in_parens lim side x s (t.Sign w) h.stands z
closed_ready lim side x s (t.Name w) b h z = closed_in_parens lim side x s (t.Name w) h.stands z
closed_ready lim side x s (t.Keyword w) b h z = closed_in_parens lim side x s (t.Keyword w) h.stands z
closed_ready lim side x s (t.Number w) b h z = closed_in_parens lim side x s (t.Number w) h.stands z
closed_ready lim side x s (t.Text w) b h z = closed_in_parens lim side x s (t.Text w) h.stands z

params_closed : (lim : Limits) (side : Side) (h : Head) (xs : List (List ℕ)) (s : List Frame) → OfHead lim h s → Sound lim s → ReadyAfter lim side (close_params h xs s)
params_closed lim side (arrow_head kind) xs s h z = record { mode = h; stack = z }
params_closed lim side (function_head role kind x) xs s h z = record { mode = h; stack = z }

pub param_ready : (lim : Limits) (side : Side) (h : Head) (xs : List (List ℕ)) (s : List Frame) (w : TokenKind) → OfHead lim h s → Sound lim s → ReadyAfter lim side (at_param lim side h xs s w)
param_ready lim side h xs s (t.Name x) i z = ready_if lim side (is_binding side x && takes_more lim (length xs)) (param_behind h (xs ++ x ∷ [])) s (λ w. record { mode = i; stack = z })
param_ready lim side h xs s (t.Sign g.CloseParen) i z = params_closed lim side h xs s i z
param_ready lim side h xs s (t.Sign _) i z = tt
param_ready lim side h xs s _ i z = tt

pub behind_param_ready : (lim : Limits) (side : Side) (h : Head) (xs : List (List ℕ)) (s : List Frame) (w : TokenKind) → OfHead lim h s → Sound lim s → ReadyAfter lim side (behind_param h xs s w)
behind_param_ready lim side h xs s (t.Sign g.Comma) i z = record { mode = i; stack = z }
behind_param_ready lim side h xs s (t.Sign g.CloseParen) i z = params_closed lim side h xs s i z
behind_param_ready lim side h xs s (t.Sign _) i z = tt
behind_param_ready lim side h xs s _ i z = tt

pub arrow_sign_ready : (lim : Limits) (side : Side) (kind : FunctionKind) (xs : List (List ℕ)) (s : List Frame) (w : TokenKind) (b : Bool) → Stands lim s → Sound lim s → ReadyAfter lim side (at_arrow_sign kind xs s w b)
arrow_sign_ready lim side kind xs s (t.Sign g.Arrow) false h z = record { mode = h; stack = z }
arrow_sign_ready lim side kind xs s (t.Sign g.Arrow) true h z = tt
arrow_sign_ready lim side kind xs s (t.Sign _) b h z = tt
arrow_sign_ready lim side kind xs s _ b h z = tt

-- an arrow's body that is an expression
body_need : (lim : Limits) (side : Side) (kind : FunctionKind) (xs : List (List ℕ)) (s : List Frame) (w : TokenKind) → Stands lim s → Sound lim s → ReadyAfter lim side (at_need lim side (in_arrow kind xs ∷ s) w)
body_need lim side kind xs s w h z = on_frame lim side (in_arrow kind xs ∷ s) w refl (λ i. (record { stands = h; part = i }, z)) tt

pub arrow_body_ready : (lim : Limits) (side : Side) (kind : FunctionKind) (xs : List (List ℕ)) (s : List Frame) (w : TokenKind) → Stands lim s → Sound lim s → ReadyAfter lim side (at_arrow_body lim side kind xs s w)
arrow_body_ready lim side kind xs s (t.Sign g.OpenBrace) h z = record { mode = refl; stack = (reaches_here h, z) }
arrow_body_ready lim side kind xs s (t.Sign w) h z = body_need lim side kind xs s (t.Sign w) h z
arrow_body_ready lim side kind xs s (t.Name w) h z = body_need lim side kind xs s (t.Name w) h z
arrow_body_ready lim side kind xs s (t.Keyword w) h z = body_need lim side kind xs s (t.Keyword w) h z
arrow_body_ready lim side kind xs s (t.Number w) h z = body_need lim side kind xs s (t.Number w) h z
arrow_body_ready lim side kind xs s (t.Text w) h z = body_need lim side kind xs s (t.Text w) h z

-- FUNCTIONS
pub body_sound : (lim : Limits) (h : Head) (xs : List (List ℕ)) (s : List Frame) → OfHead lim h s → OfList lim (body h xs) (function_depth h s) s
body_sound lim (arrow_head kind) xs s i = reaches_here i
body_sound lim (function_head expression kind x) xs s i = reaches_here i
body_sound lim (function_head declaration kind x) xs s i = i
body_sound lim (function_head (method ps key r) kind x) xs s i = record { stands = i.stands; reach = omega arith }

pub body_open_ready : (lim : Limits) (side : Side) (h : Head) (xs : List (List ℕ)) (s : List Frame) (w : TokenKind) → OfHead lim h s → Sound lim s → ReadyAfter lim side (at_body_open h xs s w)
body_open_ready lim side h xs s (t.Sign g.OpenBrace) i z = record { mode = refl; stack = (body_sound lim h xs s i, z) }
body_open_ready lim side h xs s (t.Sign _) i z = tt
body_open_ready lim side h xs s _ i z = tt

pub params_open_ready : (lim : Limits) (side : Side) (h : Head) (s : List Frame) (w : TokenKind) → OfHead lim h s → Sound lim s → ReadyAfter lim side (at_params_open h s w)
params_open_ready lim side h s (t.Sign g.OpenParen) i z = record { mode = i; stack = z }
params_open_ready lim side h s (t.Sign _) i z = tt
params_open_ready lim side h s _ i z = tt

nameless_ready : (lim : Limits) (side : Side) (role : Role) (kind : FunctionKind) (s : List Frame) → OfRole lim role s → Sound lim s → ReadyAfter lim side (nameless role kind s)
nameless_ready lim side expression kind s h z = record { mode = h; stack = z }
nameless_ready lim side declaration kind s h z = tt
nameless_ready lim side (method ps key r) kind s h z = tt

pub function_name_ready : (lim : Limits) (side : Side) (role : Role) (kind : FunctionKind) (s : List Frame) (w : TokenKind) → OfRole lim role s → Sound lim s → ReadyAfter lim side (at_function_name side role kind s w)
function_name_ready lim side role kind s (t.Name x) h z = ready_if lim side (is_binding side x) (params_open (function_head role kind (Some x))) s (λ w. record { mode = h; stack = z })
function_name_ready lim side role kind s (t.Sign g.OpenParen) h z = nameless_ready lim side role kind s h z
function_name_ready lim side role kind s (t.Sign _) h z = tt
function_name_ready lim side role kind s _ h z = tt

pub function_ready : (lim : Limits) (side : Side) (role : Role) (s : List Frame) (w : TokenKind) → OfRole lim role s → Sound lim s → ReadyAfter lim side (at_function side role s w)
function_ready lim side role s (t.Sign g.Star) h z = ready_if lim side (is_source side) (name_next role Generator) s (λ w. record { mode = h; stack = z })
function_ready lim side role s (t.Sign w) h z = function_name_ready lim side role Normal s (t.Sign w) h z
function_ready lim side role s (t.Name w) h z = function_name_ready lim side role Normal s (t.Name w) h z
function_ready lim side role s (t.Keyword w) h z = tt
function_ready lim side role s (t.Number w) h z = tt
function_ready lim side role s (t.Text w) h z = tt

pub async_ready : (lim : Limits) (side : Side) (s : List Frame) (w : TokenKind) (b : Bool) → Stands lim s → Sound lim s → ReadyAfter lim side (at_async side s w b)
async_ready lim side s (t.Keyword k.Function) false h z = ready_if lim side (if begins_statement s then false else true) (name_next expression Async) s (λ w. record { mode = h; stack = z })
async_ready lim side s (t.Sign g.OpenParen) false h z = ready_if lim side (takes_whole s) (param_next (arrow_head AsyncArrow) []) s (λ w. record { mode = h; stack = z })
async_ready lim side s (t.Name x) false h z = ready_if lim side (takes_whole s && is_binding side x) (arrow_sign AsyncArrow (x ∷ [])) s (λ w. record { mode = h; stack = z })
async_ready lim side s (t.Keyword k.Function) true h z = tt
async_ready lim side s (t.Keyword _) b h z = tt
async_ready lim side s (t.Sign g.OpenParen) true h z = tt
async_ready lim side s (t.Sign _) b h z = tt
async_ready lim side s (t.Name x) true h z = tt
async_ready lim side s (t.Number n) b h z = tt
async_ready lim side s (t.Text u) b h z = tt

-- async begins an expression that is a statement
async_value : (lim : Limits) (side : Side) (s : List Frame) (w : TokenKind) (b : Bool) → wants_stmt s ≡ true → Sound lim s → ReadyAfter lim side (if fits lim (here (in_value ∷ s)) then at_async side (in_value ∷ s) w b else refuse)
async_value lim side s w b h z = ready_when lim side (fits lim (here (in_value ∷ s))) (at_async side (in_value ∷ s) w b) (λ i. async_ready lim side (in_value ∷ s) w b (record { wanted = refl; fit = i; room = refl }) (record { wanted = h; part = i }, z))

pub async_start_ready : (lim : Limits) (side : Side) (s : List Frame) (w : TokenKind) (b : Bool) → wants_stmt s ≡ true → Sound lim s → ReadyAfter lim side (at_async_start lim side s w b)
async_start_ready lim side s (t.Keyword k.Function) false h z = record { mode = h; stack = z }
async_start_ready lim side s (t.Keyword k.Function) true h z = async_value lim side s (t.Keyword k.Function) true h z
async_start_ready lim side s (t.Keyword w) b h z = async_value lim side s (t.Keyword w) b h z
async_start_ready lim side s (t.Sign w) b h z = async_value lim side s (t.Sign w) b h z
async_start_ready lim side s (t.Name w) b h z = async_value lim side s (t.Name w) b h z
async_start_ready lim side s (t.Number w) b h z = async_value lim side s (t.Number w) b h z
async_start_ready lim side s (t.Text w) b h z = async_value lim side s (t.Text w) b h z

yield_operand_ready : (lim : Limits) (side : Side) (c : Bool) (s : List Frame) (w : TokenKind) → Stands lim s → Sound lim s → ReadyAfter lim side (yield_operand lim side c s w)
yield_operand_ready lim side true s w h z = on_frame lim side (in_yield ∷ s) w refl (λ i. (record { stands = h; part = i }, z)) tt
yield_operand_ready lim side false s w h z = whole_ready lim side (Yield no_expr) (here s) s w (reaches_here h) z

yielded : (lim : Limits) (side : Side) (s : List Frame) (w : TokenKind) (b : Bool) → Stands lim s → Sound lim s → ReadyAfter lim side (yield_operand lim side (begins_operand w && (if b then false else true)) s w)
yielded lim side s w b h z = yield_operand_ready lim side (begins_operand w && (if b then false else true)) s w h z

pub yield_ready : (lim : Limits) (side : Side) (s : List Frame) (w : TokenKind) (b : Bool) → Stands lim s → Sound lim s → ReadyAfter lim side (at_yield lim side s w b)
yield_ready lim side s (t.Sign g.Star) false h z = ready_if lim side (fits_below lim s) need (in_yield_all ∷ s) (λ w. record { mode = refl; stack = (below in_yield_all refl h w, z) })
yield_ready lim side s (t.Sign g.Star) true h z = yielded lim side s (t.Sign g.Star) true h z
yield_ready lim side s (t.Sign w) b h z = yielded lim side s (t.Sign w) b h z
yield_ready lim side s (t.Name w) b h z = yielded lim side s (t.Name w) b h z
yield_ready lim side s (t.Keyword w) b h z = yielded lim side s (t.Keyword w) b h z
yield_ready lim side s (t.Number w) b h z = yielded lim side s (t.Number w) b h z
yield_ready lim side s (t.Text w) b h z = yielded lim side s (t.Text w) b h z

-- OBJECT LITERALS
deeper_with : {lim : Limits} {r : ℕ} {s : List Frame} → Reaches lim r s → fits_below lim s ≡ true → Deeper lim r s
deeper_with h w = record { stands = h.stands; reach = h.reach; part = w }

fixed_ready : (lim : Limits) (side : Side) (ps : Properties) (u : List ℕ) (r : ℕ) (s : List Frame) → Reaches lim r s → Sound lim s → ReadyAfter lim side (at_fixed lim ps u r s)
fixed_ready lim side ps u r s h z = ready_if lim side (fits_below lim s) (key_behind ps (Fixed u) r) s (λ w. record { mode = deeper_with h w; stack = z })

key_word_ready : (lim : Limits) (at side : Side) (ps : Properties) (key : Keyword) (r : ℕ) (s : List Frame) → Reaches lim r s → Sound lim s → ReadyAfter lim at (at_key_word lim side ps key r s)
key_word_ready lim at Source ps k.Async r s h z = ready_if lim at (fits_below lim s) (key_async ps r) s (λ w. record { mode = deeper_with h w; stack = z })
key_word_ready lim at Source ps key r s h z = fixed_ready lim at ps (word_units (keyword_text key)) r s h z
key_word_ready lim at Plain ps key r s h z = fixed_ready lim at ps (word_units (keyword_text key)) r s h z

pub key_ready : (lim : Limits) (side : Side) (ps : Properties) (r : ℕ) (s : List Frame) (w : TokenKind) → Reaches lim r s → Sound lim s → ReadyAfter lim side (at_key lim side ps r s w)
key_ready lim side ps r s (t.Sign g.CloseBrace) h z = record { mode = h; stack = z }
key_ready lim side ps r s (t.Name x) h z = ready_if lim side (fits_below lim s) (key_name ps x r) s (λ w. record { mode = deeper_with h w; stack = z })
key_ready lim side ps r s (t.Keyword key) h z = key_word_ready lim side side ps key r s h z
key_ready lim side ps r s (t.Text u) h z = fixed_ready lim side ps u r s h z
key_ready lim side ps r s (t.Sign g.OpenBracket) h z = ready_if lim side (fits_below lim s) need (in_computed ps None r ∷ s) (λ w. record { mode = refl; stack = (below (in_computed ps None r) refl h.stands w, z) })
key_ready lim side ps r s (t.Sign g.Star) h z = ready_if lim side (is_source side && fits_below lim s) (method_key ps Generator r) s (λ w. record { mode = deeper_with h (and_right (is_source side) (fits_below lim s) w); stack = z })
key_ready lim side ps r s (t.Sign _) h z = tt
key_ready lim side ps r s (t.Number n) h z = tt

pub behind_key_ready : (lim : Limits) (side : Side) (ps : Properties) (key : PropKey) (r : ℕ) (s : List Frame) (w : TokenKind) → Deeper lim r s → Sound lim s → ReadyAfter lim side (behind_key ps key r s w)
behind_key_ready lim side ps key r s (t.Sign g.Colon) h z = record { mode = refl; stack = (part_of (in_property ps key r) refl h, z) }
behind_key_ready lim side ps key r s (t.Sign g.OpenParen) h z = record { mode = reaches_of h; stack = z }
behind_key_ready lim side ps key r s (t.Sign _) h z = tt
behind_key_ready lim side ps key r s _ h z = tt

-- a name alone reaches one level below its literal
with_name : {lim : Limits} {r : ℕ} {s : List Frame} → Deeper lim r s → Reaches lim (max r (suc (here s))) s
with_name h = record { stands = h.stands; reach = omega arith }

pub key_name_ready : (lim : Limits) (side : Side) (ps : Properties) (x : List ℕ) (r : ℕ) (s : List Frame) (w : TokenKind) → Deeper lim r s → Sound lim s → ReadyAfter lim side (behind_key_name side ps x r s w)
key_name_ready lim side ps x r s (t.Sign g.Comma) h z = ready_if lim side (is_binding side x) (key_next (alone ps x) (max r (suc (here s)))) s (λ w. record { mode = with_name h; stack = z })
key_name_ready lim side ps x r s (t.Sign g.CloseBrace) h z = ready_if lim side (is_binding side x) (have (Object (alone ps x)) (max r (suc (here s)))) s (λ w. record { mode = with_name h; stack = z })
key_name_ready lim side ps x r s (t.Sign w) h z = behind_key_ready lim side ps (Fixed (word_units x)) r s (t.Sign w) h z
key_name_ready lim side ps x r s (t.Name w) h z = tt
key_name_ready lim side ps x r s (t.Keyword w) h z = tt
key_name_ready lim side ps x r s (t.Number w) h z = tt
key_name_ready lim side ps x r s (t.Text w) h z = tt

pub method_key_ready : (lim : Limits) (side : Side) (ps : Properties) (kind : FunctionKind) (r : ℕ) (s : List Frame) (w : TokenKind) → Deeper lim r s → Sound lim s → ReadyAfter lim side (at_method_key ps kind r s w)
method_key_ready lim side ps kind r s (t.Name x) h z = record { mode = h; stack = z }
method_key_ready lim side ps kind r s (t.Keyword key) h z = record { mode = h; stack = z }
method_key_ready lim side ps kind r s (t.Text u) h z = record { mode = h; stack = z }
method_key_ready lim side ps kind r s (t.Sign g.OpenBracket) h z = record { mode = refl; stack = (part_of (in_computed ps (Some kind) r) refl h, z) }
method_key_ready lim side ps kind r s (t.Sign _) h z = tt
method_key_ready lim side ps kind r s (t.Number n) h z = tt

pub key_async_ready : (lim : Limits) (side : Side) (ps : Properties) (r : ℕ) (s : List Frame) (w : TokenKind) (b : Bool) → Deeper lim r s → Sound lim s → ReadyAfter lim side (behind_async ps r s w b)
key_async_ready lim side ps r s (t.Sign g.Colon) b h z = behind_key_ready lim side ps (Fixed (codes "async")) r s (t.Sign g.Colon) h z
key_async_ready lim side ps r s (t.Sign g.OpenParen) b h z = behind_key_ready lim side ps (Fixed (codes "async")) r s (t.Sign g.OpenParen) h z
key_async_ready lim side ps r s (t.Sign w) false h z = method_key_ready lim side ps Async r s (t.Sign w) h z
key_async_ready lim side ps r s (t.Name w) false h z = method_key_ready lim side ps Async r s (t.Name w) h z
key_async_ready lim side ps r s (t.Keyword w) false h z = method_key_ready lim side ps Async r s (t.Keyword w) h z
key_async_ready lim side ps r s (t.Number w) false h z = tt
key_async_ready lim side ps r s (t.Text w) false h z = method_key_ready lim side ps Async r s (t.Text w) h z
key_async_ready lim side ps r s (t.Sign w) true h z = tt
key_async_ready lim side ps r s _ true h z = tt

pub method_ready : (lim : Limits) (side : Side) (ps : Properties) (kind : FunctionKind) (key : PropKey) (r : ℕ) (s : List Frame) (w : TokenKind) → Deeper lim r s → Sound lim s → ReadyAfter lim side (at_method ps kind key r s w)
method_ready lim side ps kind key r s (t.Sign g.OpenParen) h z = record { mode = reaches_of h; stack = z }
method_ready lim side ps kind key r s (t.Sign _) h z = tt
method_ready lim side ps kind key r s _ h z = tt

pub key_end_ready : (lim : Limits) (side : Side) (ps : Properties) (r : ℕ) (s : List Frame) (w : TokenKind) → Reaches lim r s → Sound lim s → ReadyAfter lim side (behind_property ps r s w)
key_end_ready lim side ps r s (t.Sign g.Comma) h z = record { mode = h; stack = z }
key_end_ready lim side ps r s (t.Sign g.CloseBrace) h z = record { mode = h; stack = z }
key_end_ready lim side ps r s (t.Sign _) h z = tt
key_end_ready lim side ps r s _ h z = tt

-- MEMBERS AND FORMS
pub member_word_ready : (lim : Limits) (at side : Side) (e : Expr) (x : Option (List ℕ)) (r : ℕ) (s : List Frame) → Deeper lim r s → Sound lim s → ReadyAfter lim at (member_word side e x r s)
member_word_ready lim at Source e (Some x) r s h z = record { mode = h; stack = z }
member_word_ready lim at Plain e (Some x) r s h z = ready_either lim at (same_word x (codes "call")) (go (call_open e r) s) (go (have_member e (Dot x) r) s) (λ w. record { mode = reaches_of h; stack = z }) (λ w. record { mode = h; stack = z })
member_word_ready lim at Source e None r s h z = tt
member_word_ready lim at Plain e None r s h z = tt

pub call_ready : (lim : Limits) (side : Side) (e : Expr) (r : ℕ) (s : List Frame) (w : TokenKind) → Reaches lim r s → Sound lim s → ReadyAfter lim side (at_call e r s w)
call_ready lim side e r s (t.Sign g.OpenParen) h z = record { mode = refl; stack = (record { stands = h.stands; reach = h.reach; taken = refl; lacks = inl (omega arith) }, z) }
call_ready lim side e r s (t.Sign _) h z = tt
call_ready lim side e r s _ h z = tt

open_form_ready : (lim : Limits) (side : Side) (found : Option Form) (s : List Frame) → ((form : Form) → found ≡ Some form → (least_parts form ≤ 0) ⊎ (fits lim (suc (here s)) ≡ true)) → Stands lim s → Sound lim s → ReadyAfter lim side (open_form found s)
open_form_ready lim side None s f h z = tt
open_form_ready lim side (Some form) s f h z = record { mode = refl; stack = (form_begins form s (f form refl) h, z) }
  where
    none_taken : (o : Option ℕ) → at_most o 0 ≡ true
    none_taken None = refl
    none_taken (Some n) = le_true 0 n (omega arith)

    room : (form : Form) (s : List Frame) → (least_parts form ≤ 0) ⊎ (fits lim (suc (here s)) ≡ true) → (least_parts form ≤ count none) ⊎ (fits lim (here (in_form form none (here s) ∷ s)) ≡ true)
    room form s (inl i) = inl i
    room form s (inr w) = inr (fits_less lim (here (in_form form none (here s) ∷ s)) (suc (here s)) w (omega arith))

    form_begins : (form : Form) (s : List Frame) → (least_parts form ≤ 0) ⊎ (fits lim (suc (here s)) ≡ true) → Stands lim s → OfForm lim form none (here s) s
    form_begins form s w h = record { stands = h; reach = omega arith; taken = none_taken (most_parts form); lacks = room form s w }

pub at_words_ready : (lim : Limits) (side : Side) (ws : List TokenKind) (s : List Frame) (w : TokenKind) → OfWords lim side ws s → Sound lim s → ReadyAfter lim side (at_words lim side ws s w)
at_words_ready lim side ws s (t.Sign g.OpenParen) h z = open_form_ready lim side (form_with ws (forms_of side)) s (λ form q. opened_form lim side (here s) ws form h.goes q) h.stands z
at_words_ready lim side ws s (t.Sign w) h z = words_ready lim side (ws ++ t.Sign w ∷ []) s h.stands z
at_words_ready lim side ws s (t.Name w) h z = words_ready lim side (ws ++ t.Name w ∷ []) s h.stands z
at_words_ready lim side ws s (t.Keyword w) h z = words_ready lim side (ws ++ t.Keyword w ∷ []) s h.stands z
at_words_ready lim side ws s (t.Number w) h z = words_ready lim side (ws ++ t.Number w ∷ []) s h.stands z
at_words_ready lim side ws s (t.Text w) h z = words_ready lim side (ws ++ t.Text w ∷ []) s h.stands z
