-- A step within parameters or the head of a function keeps what was read in order.
use Rattle.std.proofs.Common.{◌≡◌, ℕ, suc, ◌≤◌, List, [], ◌∷◌, ◌++◌, length, Bool, true, false, ◌&&◌, Option, Some, None, cond, refl, sym, arith, append_assoc}
use Rattle.std.proofs.lemmas.List.{append-nil}
use Rattle.std.specs.Prelude.{if◌then◌else◌}
use Rattle.actx_grammar.specs.declared.operators.FunctionKind.{FunctionKind}
use Rattle.actx_grammar.specs.declared.operators.FunctionKind.TheVariants.{Normal, Generator, Async, AsyncArrow}
use Rattle.actx_grammar.specs.declared.side.Side.{Side}
use Rattle.actx_grammar.specs.declared.side.Side.TheVariants.{Source}
use Rattle.actx_grammar.specs.declared.token.Keyword.TheVariants as k
use Rattle.actx_grammar.specs.declared.token.Sign.TheVariants as g
use Rattle.actx_grammar.specs.declared.token.TokenKind.{TokenKind}
use Rattle.actx_grammar.specs.declared.token.TokenKind.TheVariants as t
use Rattle.actx_grammar.specs.Grammar.{Allows, SpellsNames, SpellsParams, sp_params, SpellsHead, sp_normal, sp_normal_named, sp_generator, sp_generator_named, sp_async, sp_async_named, SpellsArrow, sp_arrow_head, sp_async_arrow_head, sp_bare_param, sp_listed_params, sp_yield_nothing, sp_end}
use Rattle.actx_grammar.specs.Lexemes.{Lexeme, sign, keyword, lexeme}
use Rattle.actx_grammar.specs.Names.{IsBinding}
use Rattle.actx_grammar.specs.ParserFunctions.{close_params, at_param, behind_param, at_arrow_sign, at_arrow_body, function_depth, at_body_open, at_params_open, nameless, at_function_name, at_function, at_async, at_async_start, begins_operand, yield_operand, at_yield}
use Rattle.actx_grammar.specs.ParserOperands.{is_binding, is_source, takes_whole, begins_statement, has_room, fits_below}
use Rattle.actx_grammar.specs.ParserState.{Limits, fits, takes_more, Role, expression, Head, arrow_head, function_head, ListOwner, body, Frame, in_arrow, in_yield, in_yield_all, in_value, in_list, start, need, name_next, params_open, param_next, param_behind, arrow_sign, refuse, here}
use Rattle.actx_grammar.specs.Tree.{Properties, Yield, no_expr, end}
use Rattle.actx_grammar.specs.Words.{HasForm}
use Rattle.actx_laws.proofs.ParseLevels.{level_in}
use Rattle.actx_laws.proofs.ParseReads.{owner_levels}
use Rattle.actx_laws.proofs.ViableTests.{and_left, and_right, one_allowed, fits_max, whole_level, source_is, binding_is}
use Rattle.actx_laws.proofs.ViableParts.{Deep, May, InList, BegunNames, none_begun_names, all_begun_names}
use Rattle.actx_laws.proofs.ViableOpen.{Opens, op_arrow, op_yield, op_yield_all, op_value, op_list, Owned, own_arrow, own_function, Place, place, InObject, in_object, Headed, head_arrow, head_async_arrow, head_expression, head_declaration, head_method}
use Rattle.actx_laws.proofs.ViableModes.{Heading, heading_normal, heading_generator, heading_async, RoleAt, role_expression, role_declaration, Viable, v_start, v_need, v_name_next, v_params_open, v_param_next, v_param_behind, v_arrow_sign, v_arrow_body, v_body_open, After, chosen, fits_of, place_on, opens_along, viable_along}
use Rattle.actx_laws.proofs.ViableLists.{names_more, params_done}
use Rattle.actx_laws.proofs.ViableEnded.{whole_viable}
use Rattle.actx_laws.proofs.ViableBehind.{One, here_deep}
use Rattle.actx_laws.proofs.ViableBegin.{chosen_move, inner, need_viable}

-- PARAMETERS
close_params_viable : {lim : Limits} {side : Side} {h : Head} {xs : List (List ℕ)} {s : List Frame} {q : List Lexeme} {b : Bool} (y : List Lexeme) (c : Bool) → Headed lim side h b s q → SpellsParams side lim.most xs (sign g.OpenParen b ∷ (y ++ sign g.CloseParen c ∷ [])) → After lim side (close_params h xs s) ((q ++ sign g.OpenParen b ∷ y) ++ sign g.CloseParen c ∷ [])
close_params_viable y c (head_arrow at low) d = viable_along (simp append_assoc) (v_arrow_sign (place_on (y ++ sign g.CloseParen c ∷ []) at) low (sp_arrow_head (sp_listed_params d)))
close_params_viable y c (head_async_arrow {p = p} i source at low) d = viable_along (simp append_assoc) (v_arrow_sign (place_on (y ++ sign g.CloseParen c ∷ []) at) low (sp_async_arrow_head {b = i} source (sp_listed_params d) refl))
close_params_viable y c (head_expression at h) d = viable_along (simp append_assoc) (v_body_open {b = false} (head_expression at h) d)
close_params_viable y c (head_declaration o l f h) d = viable_along (simp append_assoc) (v_body_open {b = false} (head_declaration o l f h) d)
close_params_viable y c (head_method f o h key w deep) d = viable_along (simp append_assoc) (v_body_open {b = false} (head_method f o h key w deep) d)

pub param_viable : {lim : Limits} {side : Side} (h : Head) (xs : List (List ℕ)) (s : List Frame) (q y : List Lexeme) (c : Bool) (v : TokenKind) (b : Bool) → Headed lim side h c s q → BegunNames side lim.most xs y → HasForm v → After lim side (at_param lim side h xs s v) ((q ++ sign g.OpenParen c ∷ y) ++ lexeme v b ∷ [])
param_viable {lim} {side} h xs s q y c (t.Name x) b hd names f = chosen lim side (is_binding side x && takes_more lim (length xs)) (param_behind h (xs ++ x ∷ [])) s ((q ++ sign g.OpenParen c ∷ y) ++ lexeme (t.Name x) b ∷ []) (λ w.
    let more = names_more x b names (binding_is side x f (and_left (is_binding side x) (takes_more lim (length xs)) w)) (one_allowed lim (length xs) (and_right (is_binding side x) (takes_more lim (length xs)) w)) in
    viable_along (simp append_assoc) (v_param_behind c hd more.spells more.allowed))
param_viable h xs s q y c (t.Sign g.CloseParen) b hd names f = close_params_viable y b hd (params_done c b names)
param_viable h xs s q y c (t.Sign _) b hd names f = tt
param_viable h xs s q y c _ b hd names f = tt

pub behind_param_viable : {lim : Limits} {side : Side} (h : Head) (xs : List (List ℕ)) (s : List Frame) (q y : List Lexeme) (c : Bool) (v : TokenKind) (b : Bool) → Headed lim side h c s q → SpellsNames side xs y → Allows lim.most (length xs) → After lim side (behind_param h xs s v) ((q ++ sign g.OpenParen c ∷ y) ++ lexeme v b ∷ [])
behind_param_viable h xs s q y c (t.Sign g.Comma) b hd names w = viable_along (simp append_assoc) (v_param_next c hd (all_begun_names b names w))
behind_param_viable h xs s q y c (t.Sign g.CloseParen) b hd names w = close_params_viable y b hd (sp_params c b names w)
behind_param_viable h xs s q y c (t.Sign _) b hd names w = tt
behind_param_viable h xs s q y c _ b hd names w = tt

-- ARROWS
-- no statement of a list was read
pub list_begun : {lim : Limits} {side : Side} {owner : ListOwner} {c r : ℕ} {s : List Frame} {p : List Lexeme} → Owned lim side owner c s p → c ≤ r → Deep lim (owner_levels owner) s r → Viable lim side start (in_list owner end r ∷ s) p
list_begun {p = p} o i d = v_start (opens_along (append-nil p) (op_list {n = 0} o i sp_end (record { reach = omega (arith, d.reach); within = d.within }))) tt

pub arrow_sign_viable : {lim : Limits} {side : Side} (kind : FunctionKind) (xs : List (List ℕ)) (s : List Frame) (p x : List Lexeme) (v : TokenKind) (b : Bool) → Place lim side s x p → level_in s ≤ 1 → SpellsArrow side lim.most kind xs x → After lim side (at_arrow_sign kind xs s v b) ((p ++ x) ++ lexeme v b ∷ [])
arrow_sign_viable kind xs s p x (t.Sign g.Arrow) false at low d = viable_along (simp append_assoc) (v_arrow_body at low d)
arrow_sign_viable kind xs s p x (t.Sign _) b at low d = tt
arrow_sign_viable kind xs s p x _ b at low d = tt

pub arrow_body_viable : {lim : Limits} {side : Side} (kind : FunctionKind) (xs : List (List ℕ)) (s : List Frame) (p x : List Lexeme) (v : TokenKind) (b : Bool) → Place lim side s x p → level_in s ≤ 1 → SpellsArrow side lim.most kind xs x → HasForm v → After lim side (at_arrow_body lim side kind xs s v) ((p ++ (x ++ sign g.Arrow false ∷ [])) ++ lexeme v b ∷ [])
arrow_body_viable kind xs s p x (t.Sign g.OpenBrace) b at low d f = viable_along (simp append_assoc) (list_begun {c = 0} (own_arrow b at low d) (omega arith) (here_deep (fits_of at)))
arrow_body_viable kind xs s p x (t.Sign v) b at low d f = need_viable (in_arrow kind xs ∷ s) (t.Sign v) b (p ++ (x ++ sign g.Arrow false ∷ [])) (op_arrow at low d) (λ y i. tt) f
arrow_body_viable kind xs s p x (t.Name v) b at low d f = need_viable (in_arrow kind xs ∷ s) (t.Name v) b (p ++ (x ++ sign g.Arrow false ∷ [])) (op_arrow at low d) (λ y i. tt) f
arrow_body_viable kind xs s p x (t.Keyword v) b at low d f = need_viable (in_arrow kind xs ∷ s) (t.Keyword v) b (p ++ (x ++ sign g.Arrow false ∷ [])) (op_arrow at low d) (λ y i. tt) f
arrow_body_viable kind xs s p x (t.Number v) b at low d f = need_viable (in_arrow kind xs ∷ s) (t.Number v) b (p ++ (x ++ sign g.Arrow false ∷ [])) (op_arrow at low d) (λ y i. tt) f
arrow_body_viable kind xs s p x (t.Text v) b at low d f = need_viable (in_arrow kind xs ∷ s) (t.Text v) b (p ++ (x ++ sign g.Arrow false ∷ [])) (op_arrow at low d) (λ y i. tt) f

-- BODIES
fits_in : {lim : Limits} {side : Side} {ps : Properties} {r : ℕ} {s : List Frame} {q : List Lexeme} → InObject lim side ps r s q → fits lim (here s) ≡ true
fits_in (in_object b at ps d) = fits_of at

body_begun : {lim : Limits} {side : Side} {role : Role} {kind : FunctionKind} {name : Option (List ℕ)} {xs : List (List ℕ)} {s : List Frame} {q y : List Lexeme} {c : Bool} (b : Bool) → Headed lim side (function_head role kind name) c s q → SpellsParams side lim.most xs y → Viable lim side start (in_list (body (function_head role kind name) xs) end (function_depth (function_head role kind name) s) ∷ s) ((q ++ y) ++ sign g.OpenBrace b ∷ [])
body_begun b (head_expression at h) d = viable_along (simp append_assoc) (list_begun {c = 0} (own_function {f = false} b (omega arith) (head_expression at h) d) (omega arith) (here_deep (fits_of at)))
body_begun b (head_declaration o l f h) d = viable_along (simp append_assoc) (list_begun {c = 0} (own_function {f = false} b (omega arith) (head_declaration o l f h) d) (omega arith) (here_deep f))
body_begun {lim} {s = s} b (head_method {r = r} f o h key w deep) d = viable_along (simp append_assoc) (list_begun {c = r} (own_function {f = false} b (omega arith) (head_method f o h key w deep) d) (omega arith) (record { reach = omega arith; within = fits_max lim r (suc (here s)) deep.within f }))

pub body_open_viable : {lim : Limits} {side : Side} (role : Role) (kind : FunctionKind) (name : Option (List ℕ)) (xs : List (List ℕ)) (s : List Frame) (q y : List Lexeme) {c : Bool} (v : TokenKind) (b : Bool) → Headed lim side (function_head role kind name) c s q → SpellsParams side lim.most xs y → After lim side (at_body_open (function_head role kind name) xs s v) ((q ++ y) ++ lexeme v b ∷ [])
body_open_viable role kind name xs s q y (t.Sign g.OpenBrace) b h d = body_begun b h d
body_open_viable role kind name xs s q y (t.Sign _) b h d = tt
body_open_viable role kind name xs s q y _ b h d = tt

-- HEADS
pub params_open_viable : {lim : Limits} {side : Side} (h : Head) (s : List Frame) (q : List Lexeme) (v : TokenKind) (b : Bool) → ((c : Bool) → Headed lim side h c s q) → After lim side (at_params_open h s v) (q ++ lexeme v b ∷ [])
params_open_viable h s q (t.Sign g.OpenParen) b hd = v_param_next b (hd b) none_begun_names
params_open_viable h s q (t.Sign _) b hd = tt
params_open_viable h s q _ b hd = tt

bare_head : {side : Side} {kind : FunctionKind} {x : List Lexeme} → Heading side kind x → SpellsHead side kind None x
bare_head heading_normal = sp_normal
bare_head (heading_generator q) = sp_generator q
bare_head (heading_async q) = sp_async q

named_head : {side : Side} {kind : FunctionKind} {x : List Lexeme} (y : List ℕ) (b : Bool) → Heading side kind x → IsBinding side y → SpellsHead side kind (Some y) (x ++ lexeme (t.Name y) b ∷ [])
named_head y b heading_normal n = sp_normal_named n
named_head y b (heading_generator q) n = sp_generator_named q n
named_head y b (heading_async q) n = sp_async_named q n

headed : {lim : Limits} {side : Side} {role : Role} {kind : FunctionKind} {s : List Frame} {p x : List Lexeme} (y : List ℕ) (b c : Bool) → RoleAt lim side role s x p → Heading side kind x → IsBinding side y → Headed lim side (function_head role kind (Some y)) c s (p ++ (x ++ lexeme (t.Name y) b ∷ []))
headed y b c (role_expression at) h n = head_expression (place_on (lexeme (t.Name y) b ∷ []) at) (named_head y b h n)
headed y b c (role_declaration o l f) h n = head_declaration o l f (named_head y b h n)

nameless_viable : {lim : Limits} {side : Side} {role : Role} {kind : FunctionKind} {s : List Frame} {p x : List Lexeme} (b : Bool) → RoleAt lim side role s x p → Heading side kind x → After lim side (nameless role kind s) ((p ++ x) ++ sign g.OpenParen b ∷ [])
nameless_viable b (role_expression at) h = v_param_next b (head_expression at (bare_head h)) none_begun_names
nameless_viable b (role_declaration o l f) h = tt

pub function_name_viable : {lim : Limits} {side : Side} (role : Role) (kind : FunctionKind) (s : List Frame) (p x : List Lexeme) (v : TokenKind) (b : Bool) → RoleAt lim side role s x p → Heading side kind x → HasForm v → After lim side (at_function_name side role kind s v) ((p ++ x) ++ lexeme v b ∷ [])
function_name_viable {lim} {side} role kind s p x (t.Name y) b at h f = chosen lim side (is_binding side y) (params_open (function_head role kind (Some y))) s ((p ++ x) ++ lexeme (t.Name y) b ∷ []) (λ w. viable_along (sym (append_assoc p x (lexeme (t.Name y) b ∷ []))) (v_params_open (λ c. headed y b c at h (binding_is side y f w))))
function_name_viable role kind s p x (t.Sign g.OpenParen) b at h f = nameless_viable b at h
function_name_viable role kind s p x (t.Sign _) b at h f = tt
function_name_viable role kind s p x _ b at h f = tt

role_on : {lim : Limits} {side : Side} {role : Role} {s : List Frame} {x p : List Lexeme} (y : List Lexeme) → RoleAt lim side role s x p → RoleAt lim side role s (x ++ y) p
role_on y (role_expression at) = role_expression (place_on y at)
role_on y (role_declaration o l f) = role_declaration o l f

pub function_viable : {lim : Limits} {side : Side} (role : Role) (s : List Frame) (p : List Lexeme) (c : Bool) (v : TokenKind) (b : Bool) → RoleAt lim side role s (keyword k.Function c ∷ []) p → HasForm v → After lim side (at_function side role s v) ((p ++ keyword k.Function c ∷ []) ++ lexeme v b ∷ [])
function_viable {lim} {side} role s p c (t.Sign g.Star) b at f = chosen lim side (is_source side) (name_next role Generator) s ((p ++ keyword k.Function c ∷ []) ++ sign g.Star b ∷ []) (λ w. viable_along (simp append_assoc) (v_name_next (role_on (sign g.Star b ∷ []) at) (heading_generator (source_is w))))
function_viable role s p c (t.Sign v) b at f = function_name_viable role Normal s p (keyword k.Function c ∷ []) (t.Sign v) b at heading_normal f
function_viable role s p c (t.Name v) b at f = function_name_viable role Normal s p (keyword k.Function c ∷ []) (t.Name v) b at heading_normal f
function_viable role s p c (t.Keyword v) b at f = function_name_viable role Normal s p (keyword k.Function c ∷ []) (t.Keyword v) b at heading_normal f
function_viable role s p c (t.Number v) b at f = function_name_viable role Normal s p (keyword k.Function c ∷ []) (t.Number v) b at heading_normal f
function_viable role s p c (t.Text v) b at f = function_name_viable role Normal s p (keyword k.Function c ∷ []) (t.Text v) b at heading_normal f

-- ASYNC
pub async_viable : {lim : Limits} {side : Side} (s : List Frame) (p : List Lexeme) (c : Bool) (v : TokenKind) (b : Bool) → One lim → side ≡ Source → Opens lim side s p → fits lim (here s) ≡ true → has_room lim s ≡ true → May s (keyword k.Async c) → HasForm v → After lim side (at_async side s v b) ((p ++ keyword k.Async c ∷ []) ++ lexeme v b ∷ [])
async_viable {lim} {side} s p c (t.Keyword k.Function) false one q o fit room may f = chosen lim side (if begins_statement s then false else true) (name_next expression Async) s ((p ++ keyword k.Async c ∷ []) ++ keyword k.Function false ∷ []) (λ w. viable_along (simp append_assoc) (v_name_next (role_expression (place o fit room (λ y. may (keyword k.Function false ∷ y) (λ i. absurd (inner w i))))) (heading_async q)))
async_viable {lim} {side} s p c (t.Sign g.OpenParen) false one q o fit room may f = chosen lim side (takes_whole s) (param_next (arrow_head AsyncArrow) []) s ((p ++ keyword k.Async c ∷ []) ++ sign g.OpenParen false ∷ []) (λ w. v_param_next false (head_async_arrow c q (place o fit room (λ y. may (sign g.OpenParen false ∷ y) (λ i. tt))) (whole_level s w)) none_begun_names)
async_viable {lim} {side} s p c (t.Name x) false one q o fit room may f = chosen lim side (takes_whole s && is_binding side x) (arrow_sign AsyncArrow (x ∷ [])) s ((p ++ keyword k.Async c ∷ []) ++ lexeme (t.Name x) false ∷ []) (λ w.
    viable_along (simp append_assoc) (v_arrow_sign (place o fit room (λ y. may (lexeme (t.Name x) false ∷ y) (λ i. tt))) (whole_level s (and_left (takes_whole s) (is_binding side x) w)) (sp_async_arrow_head {b = c} q (sp_bare_param (binding_is side x f (and_right (takes_whole s) (is_binding side x) w)) one) refl)))
async_viable s p c (t.Keyword _) b one q o fit room may f = tt
async_viable s p c (t.Sign _) b one q o fit room may f = tt
async_viable s p c (t.Name x) true one q o fit room may f = tt
async_viable s p c _ b one q o fit room may f = tt

async_value : {lim : Limits} {side : Side} (s : List Frame) (p : List Lexeme) (c : Bool) (v : TokenKind) (b : Bool) → One lim → side ≡ Source → Opens lim side s p → HasForm v → After lim side (if fits lim (here (in_value ∷ s)) then at_async side (in_value ∷ s) v b else refuse) ((p ++ keyword k.Async c ∷ []) ++ lexeme v b ∷ [])
async_value {lim} {side} s p c v b one q o f = chosen_move lim side (fits lim (here (in_value ∷ s))) (at_async side (in_value ∷ s) v b) ((p ++ keyword k.Async c ∷ []) ++ lexeme v b ∷ []) (λ w. async_viable (in_value ∷ s) p c v b one q (op_value o) w refl (λ y i. i refl) f)

pub async_start_viable : {lim : Limits} {side : Side} (s : List Frame) (p : List Lexeme) (c : Bool) (v : TokenKind) (b : Bool) → One lim → side ≡ Source → Opens lim side s p → InList s → fits lim (here s) ≡ true → HasForm v → After lim side (at_async_start lim side s v b) ((p ++ keyword k.Async c ∷ []) ++ lexeme v b ∷ [])
async_start_viable s p c (t.Keyword k.Function) false one q o l fit f = viable_along (simp append_assoc) (v_name_next (role_declaration {x = keyword k.Async c ∷ keyword k.Function false ∷ []} o l fit) (heading_async q))
async_start_viable s p c (t.Keyword k.Function) true one q o l fit f = async_value s p c (t.Keyword k.Function) true one q o f
async_start_viable s p c (t.Keyword v) b one q o l fit f = async_value s p c (t.Keyword v) b one q o f
async_start_viable s p c (t.Sign v) b one q o l fit f = async_value s p c (t.Sign v) b one q o f
async_start_viable s p c (t.Name v) b one q o l fit f = async_value s p c (t.Name v) b one q o f
async_start_viable s p c (t.Number v) b one q o l fit f = async_value s p c (t.Number v) b one q o f
async_start_viable s p c (t.Text v) b one q o l fit f = async_value s p c (t.Text v) b one q o f

-- YIELD
same_line : (a b : Bool) → (a && cond b false true) ≡ true → b ≡ false
same_line a true h = let no : false ≡ true = and_right a false h in absurd (cc)
same_line a false h = refl

yield_inside : {lim : Limits} {side : Side} (s : List Frame) (p : List Lexeme) (c : Bool) (v : TokenKind) (b : Bool) → side ≡ Source → Place lim side s (keyword k.Yield c ∷ []) p → level_in s ≤ 1 → HasForm v
    → After lim side (yield_operand lim side (begins_operand v && (if b then false else true)) s v) ((p ++ keyword k.Yield c ∷ []) ++ lexeme v b ∷ [])
yield_inside {lim} {side} s p c v b q at low f = pick (begins_operand v && (if b then false else true)) refl
  where
    pick : (i : Bool) → (begins_operand v && (if b then false else true)) ≡ i → After lim side (yield_operand lim side i s v) ((p ++ keyword k.Yield c ∷ []) ++ lexeme v b ∷ [])
    pick true w = need_viable (in_yield ∷ s) v b (p ++ keyword k.Yield c ∷ []) (op_yield c q at low) (λ y i. same_line (begins_operand v) b w) f
    pick false w = whole_viable {l = 1} (Yield no_expr) (here s) s (p ++ keyword k.Yield c ∷ []) v b (record { before = p; own = keyword k.Yield c ∷ []; height = 1; at = at; spells = sp_yield_nothing q (omega arith); all = refl; deep = here_deep (fits_of at) }) low

pub yield_viable : {lim : Limits} {side : Side} (s : List Frame) (p : List Lexeme) (c : Bool) (v : TokenKind) (b : Bool) → side ≡ Source → Place lim side s (keyword k.Yield c ∷ []) p → level_in s ≤ 1 → HasForm v → After lim side (at_yield lim side s v b) ((p ++ keyword k.Yield c ∷ []) ++ lexeme v b ∷ [])
yield_viable {lim} {side} s p c (t.Sign g.Star) false q at low f = chosen lim side (fits_below lim s) need (in_yield_all ∷ s) ((p ++ keyword k.Yield c ∷ []) ++ sign g.Star false ∷ []) (λ w. v_need (opens_along (simp append_assoc) (op_yield_all c q at low)) (λ y z i. tt))
yield_viable s p c (t.Sign g.Star) true q at low f = yield_inside s p c (t.Sign g.Star) true q at low f
yield_viable s p c (t.Sign v) b q at low f = yield_inside s p c (t.Sign v) b q at low f
yield_viable s p c (t.Name v) b q at low f = yield_inside s p c (t.Name v) b q at low f
yield_viable s p c (t.Keyword v) b q at low f = yield_inside s p c (t.Keyword v) b q at low f
yield_viable s p c (t.Number v) b q at low f = yield_inside s p c (t.Number v) b q at low f
yield_viable s p c (t.Text v) b q at low f = yield_inside s p c (t.Text v) b q at low f
