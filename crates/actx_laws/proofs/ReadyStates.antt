-- The states that the parser's machine reaches: all that is open has room for what it wants, so that a program goes on.
use Rattle.std.proofs.Common.{◌≡◌, ℕ, suc, ◌≤◌, ◌⊎◌, List, [], ◌∷◌, Bool, true, false, ◌||◌}
use Rattle.actx_grammar.specs.declared.operators.Form.{Form}
use Rattle.actx_grammar.specs.declared.side.Side.{Side}
use Rattle.actx_grammar.specs.declared.token.TokenKind.{TokenKind}
use Rattle.actx_grammar.specs.Grammar.{count}
use Rattle.actx_grammar.specs.ParserOperands.{least_parts, most_parts, forms_of, goes_on, takes_whole, has_room, fits_below}
use Rattle.actx_grammar.specs.ParserState.{Limits, at_most, fits, Role, expression, declaration, method, Head, arrow_head, function_head, ItemsOf, of_statement, of_for, ListOwner, program, body, Frame, in_call, in_form, in_value, in_let, in_const, in_return, in_throw, in_if, in_while, in_do_test, in_for_init, in_for_test, in_for_update, in_for_over, in_switch, yes_of, no_of, while_of, do_of, for_body, for_of_body, in_list, Mode, start, body_start, have_stmt, need, have, have_member, have_name, have_bump, whole, opened, first_name, closed_name, bump_name, yield_next, async_next, async_start, function_next, name_next, params_open, param_next, param_behind, arrow_sign, arrow_body, body_open, key_next, key_behind, key_name, key_async, key_end, method_key, method_open, member_name, call_open, words_next, let_name, let_behind, const_name, const_behind, jump_end, return_next, throw_next, if_open, while_open, do_while, do_end, for_open, for_next, for_test, for_update, try_open, catch_next, catch_open, catch_name, catch_close, catch_block, finally_next, finally_open, switch_open, switch_brace, clause_next, case_number, case_colon, Move, refuse, go, here}
use Rattle.actx_grammar.specs.Tree.{Exprs}

-- WHAT IS WANTED
-- an expression, a statement, a statement of a list
abbrev pub wants_expr : List Frame → Bool
wants_expr [] = false
wants_expr (yes_of e r ∷ s) = false
wants_expr (no_of e st r ∷ s) = false
wants_expr (while_of e r ∷ s) = false
wants_expr (do_of ∷ s) = false
wants_expr (for_body i test update r ∷ s) = false
wants_expr (for_of_body constant x e r ∷ s) = false
wants_expr (in_list owner ss r ∷ s) = false
wants_expr _ = true

abbrev pub wants_stmt : List Frame → Bool
wants_stmt (yes_of e r ∷ s) = true
wants_stmt (no_of e st r ∷ s) = true
wants_stmt (while_of e r ∷ s) = true
wants_stmt (do_of ∷ s) = true
wants_stmt (for_body i test update r ∷ s) = true
wants_stmt (for_of_body constant x e r ∷ s) = true
wants_stmt (in_list owner ss r ∷ s) = true
wants_stmt _ = false

abbrev pub is_list : List Frame → Bool
is_list (in_list owner ss r ∷ s) = true
is_list _ = false

-- PLACES
-- an operand stands here
pub record Stands (lim : Limits) (s : List Frame) : Type 0 where
  pub wanted : wants_expr s ≡ true
  pub fit : fits lim (here s) ≡ true
  pub room : has_room lim s ≡ true

-- and reaches so deep
pub record Reaches (lim : Limits) (r : ℕ) (s : List Frame) : Type 0 where
  pub stands : Stands lim s
  pub reach : here s ≤ r

-- and may have parts
pub record Deeper (lim : Limits) (r : ℕ) (s : List Frame) : Type 0 where
  pub stands : Stands lim s
  pub reach : here s ≤ r
  pub part : fits lim (suc (here s)) ≡ true

-- a parenthesis stands here, of an arrow or round an expression
pub record Opened (lim : Limits) (s : List Frame) : Type 0 where
  pub stands : Stands lim s
  pub closes : (takes_whole s || fits_below lim s) ≡ true

-- a statement stands here, and one that may have parts
pub record Placed (lim : Limits) (s : List Frame) : Type 0 where
  pub wanted : wants_stmt s ≡ true
  pub fit : fits lim (here s) ≡ true

pub record Roomy (lim : Limits) (s : List Frame) : Type 0 where
  pub wanted : wants_stmt s ≡ true
  pub part : fits lim (suc (here s)) ≡ true

-- FRAMES
-- an operand whose part is wanted, and a statement
pub record OfOperand (lim : Limits) (f : Frame) (s : List Frame) : Type 0 where
  pub stands : Stands lim s
  pub part : fits lim (here (f ∷ s)) ≡ true

pub record OfStatement (lim : Limits) (f : Frame) (s : List Frame) : Type 0 where
  pub wanted : wants_stmt s ≡ true
  pub part : fits lim (here (f ∷ s)) ≡ true

-- a form's arguments are no more than it takes, and there is room for those that it lacks
pub record OfForm (lim : Limits) (form : Form) (es : Exprs) (r : ℕ) (s : List Frame) : Type 0 where
  pub stands : Stands lim s
  pub reach : here s ≤ r
  pub taken : at_most (most_parts form) (count es) ≡ true
  pub lacks : (least_parts form ≤ count es) ⊎ (fits lim (here (in_form form es r ∷ s)) ≡ true)

abbrev pub OfList : Limits → ListOwner → ℕ → List Frame → Type 0
OfList lim program r s = s ≡ []
OfList lim (body (function_head declaration kind x) xs) r s = wants_stmt s ≡ true
OfList lim (body h xs) r s = Reaches lim r s
OfList lim _ r s = wants_stmt s ≡ true

abbrev pub OfFrame : Limits → Frame → List Frame → Type 0
OfFrame lim (in_call f es r) s = Reaches lim r s
OfFrame lim (in_form form es r) s = OfForm lim form es r s
OfFrame lim (in_list owner ss r) s = OfList lim owner r s
OfFrame lim in_value s = OfStatement lim in_value s
OfFrame lim (in_let of is x reach) s = OfStatement lim (in_let of is x reach) s
OfFrame lim (in_const of is x reach) s = OfStatement lim (in_const of is x reach) s
OfFrame lim in_return s = OfStatement lim in_return s
OfFrame lim in_throw s = OfStatement lim in_throw s
OfFrame lim in_if s = OfStatement lim in_if s
OfFrame lim in_while s = OfStatement lim in_while s
OfFrame lim (in_do_test st reach) s = OfStatement lim (in_do_test st reach) s
OfFrame lim in_for_init s = OfStatement lim in_for_init s
OfFrame lim (in_for_test i reach) s = OfStatement lim (in_for_test i reach) s
OfFrame lim (in_for_update i test reach) s = OfStatement lim (in_for_update i test reach) s
OfFrame lim (in_for_over constant x) s = OfStatement lim (in_for_over constant x) s
OfFrame lim in_switch s = OfStatement lim in_switch s
OfFrame lim (yes_of test reach) s = OfStatement lim (yes_of test reach) s
OfFrame lim (no_of test branch reach) s = OfStatement lim (no_of test branch reach) s
OfFrame lim (while_of test reach) s = OfStatement lim (while_of test reach) s
OfFrame lim do_of s = OfStatement lim do_of s
OfFrame lim (for_body i test update reach) s = OfStatement lim (for_body i test update reach) s
OfFrame lim (for_of_body constant x over reach) s = OfStatement lim (for_of_body constant x over reach) s
OfFrame lim f s = OfOperand lim f s

abbrev pub Sound : Limits → List Frame → Type 0
Sound lim [] = Unit {0}
Sound lim (f ∷ s) = OfFrame lim f s × Sound lim s

-- MODES
abbrev pub OfRole : Limits → Role → List Frame → Type 0
OfRole lim expression s = Stands lim s
OfRole lim declaration s = wants_stmt s ≡ true
OfRole lim (method ps key r) s = Reaches lim r s

abbrev pub OfHead : Limits → Head → List Frame → Type 0
OfHead lim (arrow_head kind) s = Stands lim s
OfHead lim (function_head role kind x) s = OfRole lim role s

-- a for goes on with its body
abbrev pub OfItems : Limits → ItemsOf → List Frame → Type 0
OfItems lim of_statement s = wants_stmt s ≡ true
OfItems lim of_for s = Roomy lim s

pub record OfWords (lim : Limits) (side : Side) (ws : List TokenKind) (s : List Frame) : Type 0 where
  pub stands : Stands lim s
  pub goes : goes_on lim (here s) ws (forms_of side) ≡ true

abbrev pub OfMode : Limits → Side → Mode → List Frame → Type 0
OfMode lim side start s = is_list s ≡ true
OfMode lim side body_start s = Placed lim s
OfMode lim side (have_stmt st r) s = wants_stmt s ≡ true
OfMode lim side need s = wants_expr s ≡ true
OfMode lim side (have e r) s = Reaches lim r s
OfMode lim side (have_member e key r) s = Deeper lim r s
OfMode lim side (have_name x) s = Stands lim s
OfMode lim side (have_bump e) s = Stands lim s
OfMode lim side (whole e r) s = Reaches lim r s
OfMode lim side opened s = Opened lim s
OfMode lim side (first_name x) s = Opened lim s
OfMode lim side (closed_name x) s = Opened lim s
OfMode lim side (bump_name up) s = Stands lim s
OfMode lim side yield_next s = Stands lim s
OfMode lim side async_next s = Stands lim s
OfMode lim side async_start s = wants_stmt s ≡ true
OfMode lim side (function_next role) s = OfRole lim role s
OfMode lim side (name_next role kind) s = OfRole lim role s
OfMode lim side (params_open h) s = OfHead lim h s
OfMode lim side (param_next h xs) s = OfHead lim h s
OfMode lim side (param_behind h xs) s = OfHead lim h s
OfMode lim side (arrow_sign kind xs) s = Stands lim s
OfMode lim side (arrow_body kind xs) s = Stands lim s
OfMode lim side (body_open h xs) s = OfHead lim h s
OfMode lim side (key_next ps r) s = Reaches lim r s
OfMode lim side (key_behind ps key r) s = Deeper lim r s
OfMode lim side (key_name ps x r) s = Deeper lim r s
OfMode lim side (key_async ps r) s = Deeper lim r s
OfMode lim side (key_end ps r) s = Reaches lim r s
OfMode lim side (method_key ps kind r) s = Deeper lim r s
OfMode lim side (method_open ps kind key r) s = Deeper lim r s
OfMode lim side (member_name e r) s = Deeper lim r s
OfMode lim side (call_open e r) s = Reaches lim r s
OfMode lim side (words_next ws) s = OfWords lim side ws s
OfMode lim side (let_name of is r) s = OfItems lim of s
OfMode lim side (let_behind of is x r) s = OfItems lim of s
OfMode lim side (const_name of is r) s = Roomy lim s
OfMode lim side (const_behind of is x r) s = Roomy lim s
OfMode lim side (jump_end st) s = wants_stmt s ≡ true
OfMode lim side return_next s = wants_stmt s ≡ true
OfMode lim side throw_next s = Roomy lim s
OfMode lim side if_open s = Roomy lim s
OfMode lim side while_open s = Roomy lim s
OfMode lim side (do_while st r) s = Roomy lim s
OfMode lim side (do_end st e r) s = wants_stmt s ≡ true
OfMode lim side for_open s = Roomy lim s
OfMode lim side for_next s = Roomy lim s
OfMode lim side (for_test i r) s = Roomy lim s
OfMode lim side (for_update i test r) s = Roomy lim s
OfMode lim side try_open s = wants_stmt s ≡ true
OfMode lim side (catch_next bs r) s = wants_stmt s ≡ true
OfMode lim side (catch_open bs r) s = wants_stmt s ≡ true
OfMode lim side (catch_name bs r) s = wants_stmt s ≡ true
OfMode lim side (catch_close bs x r) s = wants_stmt s ≡ true
OfMode lim side (catch_block bs x r) s = wants_stmt s ≡ true
OfMode lim side (finally_next bs c r) s = wants_stmt s ≡ true
OfMode lim side (finally_open bs c r) s = wants_stmt s ≡ true
OfMode lim side switch_open s = Roomy lim s
OfMode lim side (switch_brace e r) s = wants_stmt s ≡ true
OfMode lim side (clause_next e cs r) s = wants_stmt s ≡ true
OfMode lim side (case_number e cs r) s = wants_stmt s ≡ true
OfMode lim side (case_colon e cs n r) s = wants_stmt s ≡ true

-- what is wanted next, on what is open
pub record Ready (lim : Limits) (side : Side) (m : Mode) (s : List Frame) : Type 0 where
  pub mode : OfMode lim side m s
  pub stack : Sound lim s

abbrev pub ReadyAfter : Limits → Side → Move → Type 0
ReadyAfter lim side refuse = Unit {0}
ReadyAfter lim side (go m s) = Ready lim side m s
