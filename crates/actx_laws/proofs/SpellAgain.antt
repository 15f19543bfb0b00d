-- What some tokens spell is spelled by its own tokens too, within its own depth.
use Rattle.std.proofs.Common.{ℕ, false, List, Option, Some, None, codes}
use Rattle.actx_grammar.specs.declared.operators.FunctionKind.{FunctionKind}
use Rattle.actx_grammar.specs.declared.side.Side.{Side}
use Rattle.actx_grammar.specs.declared.token.TokenKind.TheVariants as t
use Rattle.actx_grammar.specs.Lexemes.{Lexeme}
use Rattle.actx_grammar.specs.Names.{IsBinding}
use Rattle.actx_grammar.specs.Tree.{Expr, Exprs, MaybeExpr, Key, PropKey, Properties, Code, LetItems, ConstItems, Init, Stmt, Catch, Clauses, Stmts, Undefined, Named, Function, none, no_expr, some_expr, Fixed, no_properties, code, init_nothing, init_let, init_const, init_value, Fun, Break, Continue, Return, Empty, catch, no_clauses, end, next}
use Rattle.actx_grammar.specs.Grammar.{SpellsHead, SpellsArrow, Spells, SpellsOr, SpellsCoalesce, SpellsKey, SpellsArguments, SpellsList, SpellsPropKey, SpellsProperty, SpellsProperties, SpellsSome, SpellsFunction, SpellsLet, SpellsLets, SpellsConsts, SpellsMaybe, SpellsInit, SpellsStmt, SpellsBlock, SpellsBody, SpellsCatch, SpellsClauses, SpellsStmts, sp_arrow, sp_short_arrow, sp_yield_nothing, sp_yield, sp_yield_all, sp_set_name, sp_set_member, sp_change, sp_choice, sp_or, sp_coalesce, sp_and, sp_binary, sp_unary, sp_await, sp_bump_before, sp_bump_behind, sp_member, sp_call, sp_form, sp_call_with, sp_name, sp_number, sp_text, sp_true, sp_false, sp_null, sp_undefined, sp_this, sp_object, sp_function, sp_paren, sp_first_or, sp_more_or, sp_first_coalesce, sp_more_coalesce, sp_dot, sp_index, sp_no_arguments, sp_arguments, sp_arguments_comma, sp_one, sp_more, sp_fixed, sp_computed, sp_key_value, sp_name_alone, sp_undefined_alone, sp_method, sp_no_properties, sp_properties, sp_properties_comma, sp_one_property, sp_more_properties, sp_code, sp_let_alone, sp_let_value, sp_one_let, sp_more_lets, sp_one_const, sp_more_consts, sp_absent, sp_present, sp_init_nothing, sp_init_let, sp_init_const, sp_init_value, sp_let, sp_const, sp_fun, sp_block, sp_if, sp_if_else, sp_while, sp_do_while, sp_for, sp_for_of_let, sp_for_of_const, sp_break, sp_continue, sp_return_nothing, sp_return, sp_throw, sp_try_catch, sp_try_finally, sp_try_both, sp_value, sp_empty, sp_switch, sp_braces, sp_body, sp_catch, sp_catch_name, sp_no_clauses, sp_default, sp_case, sp_end, sp_next}
use Rattle.actx_grammar.specs.Spell.{inner}
use Rattle.actx_laws.proofs.SpellSaid.{Said, OrSaid, CoalesceSaid, Exact, KeySaid, ListSaid, ArgumentsSaid, PropKeySaid, PropertySaid, SomeSaid, PropertiesSaid, LetSaid, LetsSaid, ConstsSaid, MaybeSaid, InitSaid, StmtSaid, BodySaid, StmtsSaid, BlockSaid, CatchSaid, ClausesSaid}
use Rattle.actx_laws.proofs.SpellChains.{or_more, or_first, or_exact, coalesce_more, coalesce_first, coalesce_exact}
use Rattle.actx_laws.proofs.SpellLasts.{has_list, has_properties, has_lets, has_consts}
use Rattle.actx_laws.proofs.SpellHeads.{ParamsSaid, params_again, function_exact, arrow_exact}
use Rattle.actx_laws.proofs.SpellRows.{number_exact, text_exact, true_exact, false_exact, null_exact, undefined_exact, this_exact, name_exact, object_exact, yield_nothing_exact, yield_exact, yield_all_exact, await_exact, unary_exact, set_name_exact, change_exact, bump_before_exact, bump_behind_exact, binary_exact, and_exact, choice_exact, member_exact, set_member_exact, call_exact, call_with_exact, form_exact}
use Rattle.actx_laws.proofs.SpellParts.{dot_said, index_said, fixed_said, computed_said, one_said, list_grows, arguments_said, property_said, one_property_said, properties_grow, some_said, method_said, undefined_key, let_alone_said, let_value_said, one_let_said, lets_grow, one_const_said, consts_grow}
use Rattle.actx_laws.proofs.SpellStatements.{let_said, const_said, fun_said, block_said, block_stmt_said, body_said, if_said, if_else_said, while_said, do_while_said, for_said, for_of_let_said, for_of_const_said, return_said, throw_said, value_said, try_catch_said, try_finally_said, try_both_said, switch_said, default_said, case_said, next_said}

-- WITHOUT PARTS
said_of : {side : Side} {most : Option ℕ} {e : Expr} → Exact side most e → Said side most e
said_of p = p.said

no_arguments_said : {side : Side} {most : Option ℕ} → ArgumentsSaid side most none
no_arguments_said b = sp_no_arguments

no_properties_said : {side : Side} {most : Option ℕ} → PropertiesSaid side most no_properties
no_properties_said b = sp_no_properties

absent_said : {side : Side} {most : Option ℕ} → MaybeSaid side most no_expr
absent_said b = sp_absent

present_said : {side : Side} {most : Option ℕ} (e : Expr) → Said side most e → MaybeSaid side most (some_expr e)
present_said e p b = sp_present (p b inner 1)

init_nothing_said : {side : Side} {most : Option ℕ} → InitSaid side most init_nothing
init_nothing_said b = sp_init_nothing

init_let_said : {side : Side} {most : Option ℕ} (is : LetItems) → LetsSaid side most is → InitSaid side most (init_let is)
init_let_said is p b = sp_init_let (p false)

init_const_said : {side : Side} {most : Option ℕ} (is : ConstItems) → ConstsSaid side most is → InitSaid side most (init_const is)
init_const_said is p b = sp_init_const (p false)

init_value_said : {side : Side} {most : Option ℕ} (e : Expr) → Said side most e → InitSaid side most (init_value e)
init_value_said e p b = sp_init_value (p b inner 1)

break_said : {side : Side} {most : Option ℕ} → StmtSaid side most Break
break_said b = sp_break

continue_said : {side : Side} {most : Option ℕ} → StmtSaid side most Continue
continue_said b = sp_continue

return_nothing_said : {side : Side} {most : Option ℕ} → StmtSaid side most (Return no_expr)
return_nothing_said b = sp_return_nothing

empty_said : {side : Side} {most : Option ℕ} → StmtSaid side most Empty
empty_said b = sp_empty

catch_alone_said : {side : Side} {most : Option ℕ} (ss : Stmts) → BlockSaid side most ss → CatchSaid side most (catch None ss)
catch_alone_said ss p b = sp_catch (p false)

catch_name_said : {side : Side} {most : Option ℕ} (x : List ℕ) (ss : Stmts) → IsBinding side x → BlockSaid side most ss → CatchSaid side most (catch (Some x) ss)
catch_name_said x ss h p b = sp_catch_name h (p false)

no_clauses_said : {side : Side} {most : Option ℕ} → ClausesSaid side most no_clauses
no_clauses_said b = sp_no_clauses

end_said : {side : Side} {most : Option ℕ} → StmtsSaid side most end
end_said b = sp_end

-- FUNCTIONS
-- an arrow's body that is an expression is printed as a return
short_exact : {side : Side} {most : Option ℕ} {kind : FunctionKind} {xs : List (List ℕ)} {x : List Lexeme} (e : Expr) → SpellsArrow side most kind xs x → Exact side most e → Exact side most (Function (code None kind xs (next (Return (some_expr e)) end)))
short_exact e ps p = arrow_exact (next (Return (some_expr e)) end) ps (next_said (Return (some_expr e)) end (return_said e p.said) end_said)

abbrev Declared : Side → Option ℕ → Code → Type 0
Declared side most (code None kind xs ss) = Unit {0}
Declared side most (code (Some x) kind xs ss) = StmtSaid side most (Fun (code (Some x) kind xs ss))

declared_again : {side : Side} {most : Option ℕ} {kind : FunctionKind} {h : List Lexeme} (name : Option (List ℕ)) (xs : List (List ℕ)) (ss : Stmts) → SpellsHead side kind name h → ParamsSaid side most xs → StmtsSaid side most ss → Declared side most (code name kind xs ss)
declared_again None xs ss h ps p = tt
declared_again (Some x) xs ss h ps p = fun_said x xs ss h ps p

mutual
  exact : {side : Side} {most : Option ℕ} {l d : ℕ} {e : Expr} {x : List Lexeme} → Spells side most l d e x → Exact side most e
  exact (sp_arrow {ss = ss} b c h ps p) = arrow_exact ss ps (stmts_said p)
  exact (sp_short_arrow {e = e} h ps p s) = short_exact e ps (exact p)
  exact (sp_yield_nothing q h) = yield_nothing_exact q
  exact (sp_yield {e = e} q h p s) = yield_exact e q (said_of (exact p))
  exact (sp_yield_all {e = e} q h p) = yield_all_exact e q (said_of (exact p))
  exact (sp_set_name {x = x} {e = e} h n p) = set_name_exact x e n (said_of (exact p))
  exact (sp_set_member {e = e} {v = v} {key = key} b h p k q) = set_member_exact e key v (said_of (exact p)) (key_said k) (said_of (exact q))
  exact (sp_change {x = x} {op = op} {e = e} {sg = sg} h n c p) = change_exact x op sg e n c (said_of (exact p))
  exact (sp_choice {e = e} {f = f} {g = v} b c h p q r) = choice_exact e f v (said_of (exact p)) (said_of (exact q)) (said_of (exact r))
  exact (sp_or {e = e} {f = f} h p) = or_exact e f (or_said p)
  exact (sp_coalesce {e = e} {f = f} h p) = coalesce_exact e f (coalesce_said p)
  exact (sp_and {e = e} {f = f} b h p q) = and_exact e f (said_of (exact p)) (said_of (exact q))
  exact (sp_binary {e = e} {f = f} op b h p q) = binary_exact op e f (said_of (exact p)) (said_of (exact q))
  exact (sp_unary {e = e} op h p) = unary_exact op e (said_of (exact p))
  exact (sp_await {e = e} s h p) = await_exact e s (said_of (exact p))
  exact (sp_bump_before {x = x} {up = up} h n) = bump_before_exact x up n
  exact (sp_bump_behind {x = x} {up = up} h n) = bump_behind_exact x up n
  exact (sp_member {e = e} {key = key} h p k) = member_exact e key (said_of (exact p)) (key_said k)
  exact (sp_call {f = f} {es = es} h p a) = call_exact f es (said_of (exact p)) (arguments_again a)
  exact (sp_form {es = es} form x h w q a s) = form_exact form es w (arguments_again a) s
  exact (sp_call_with {f = f} {es = es} b c s h p a) = call_with_exact f es s (said_of (exact p)) (arguments_again a)
  exact (sp_name {x = x} h) = name_exact x h
  exact (sp_number {n = n} h) = number_exact n h
  exact (sp_text {u = u} h) = text_exact u h
  exact sp_true = true_exact
  exact sp_false = false_exact
  exact sp_null = null_exact
  exact sp_undefined = undefined_exact
  exact sp_this = this_exact
  exact (sp_object {ps = ps} b c p) = object_exact ps (properties_said p)
  exact (sp_function p) = function_said p
  exact (sp_paren b c p) = exact p

  or_said : {side : Side} {most : Option ℕ} {d : ℕ} {e f : Expr} {x : List Lexeme} → SpellsOr side most d e f x → OrSaid side most e f
  or_said (sp_first_or {e = e} {f = f} b p q) = or_first e f (exact p) (said_of (exact q))
  or_said (sp_more_or {e = e} {f = f} {g = v} b p q) = or_more e f v (or_said p) (said_of (exact q))

  coalesce_said : {side : Side} {most : Option ℕ} {d : ℕ} {e f : Expr} {x : List Lexeme} → SpellsCoalesce side most d e f x → CoalesceSaid side most e f
  coalesce_said (sp_first_coalesce {e = e} {f = f} b p q) = coalesce_first e f (exact p) (said_of (exact q))
  coalesce_said (sp_more_coalesce {e = e} {f = f} {g = v} b p q) = coalesce_more e f v (coalesce_said p) (said_of (exact q))

  key_said : {side : Side} {most : Option ℕ} {d : ℕ} {key : Key} {x : List Lexeme} → SpellsKey side most d key x → KeySaid side most key
  key_said (sp_dot {x = x} {w = w} q h k) = dot_said w.kind x q h k
  key_said (sp_index {e = e} b c p) = index_said e (said_of (exact p))

  arguments_again : {side : Side} {most : Option ℕ} {d : ℕ} {es : Exprs} {x : List Lexeme} → SpellsArguments side most d es x → ArgumentsSaid side most es
  arguments_again sp_no_arguments = no_arguments_said
  arguments_again (sp_arguments {es = es} b c p a) = arguments_said es (list_said p) a
  arguments_again (sp_arguments_comma {es = es} b c f p a) = arguments_said es (list_said p) a

  list_said : {side : Side} {most : Option ℕ} {d : ℕ} {es : Exprs} {x : List Lexeme} → SpellsList side most d es x → ListSaid side most es
  list_said (sp_one {e = e} p) = one_said e (said_of (exact p))
  list_said (sp_more {es = es} {e = e} b ps p) = list_grows es e (has_list ps) (list_said ps) (said_of (exact p))

  prop_key_said : {side : Side} {most : Option ℕ} {d : ℕ} {key : PropKey} {x : List Lexeme} → SpellsPropKey side most d key x → PropKeySaid side most key
  prop_key_said (sp_fixed {u = u} {w = w} h q) = fixed_said w.kind u h q
  prop_key_said (sp_computed {e = e} b c p) = computed_said e (said_of (exact p))

  property_again : {side : Side} {most : Option ℕ} {d : ℕ} {key : PropKey} {e : Expr} {x : List Lexeme} → SpellsProperty side most d key e x → PropertySaid side most key e
  property_again (sp_key_value {key = key} {e = e} b k p) = property_said key e (prop_key_said k) (said_of (exact p))
  property_again (sp_name_alone {x = x} {u = u} q h) = property_said (Fixed u) (Named x) (fixed_said (t.Name x) u h.name q) (said_of (name_exact x h))
  property_again sp_undefined_alone = property_said (Fixed (codes "undefined")) Undefined undefined_key (said_of undefined_exact)
  property_again (sp_method {key = key} {xs = xs} {ss = ss} b c h k s ps p) = method_said key xs ss h (prop_key_said k) (params_again ps) (stmts_said p)

  properties_said : {side : Side} {most : Option ℕ} {d : ℕ} {ps : Properties} {x : List Lexeme} → SpellsProperties side most d ps x → PropertiesSaid side most ps
  properties_said sp_no_properties = no_properties_said
  properties_said (sp_properties {ps = ps} p) = some_said ps (some_again p)
  properties_said (sp_properties_comma {ps = ps} b p) = some_said ps (some_again p)

  some_again : {side : Side} {most : Option ℕ} {d : ℕ} {ps : Properties} {x : List Lexeme} → SpellsSome side most d ps x → SomeSaid side most ps
  some_again (sp_one_property {key = key} {e = e} p) = one_property_said key e (property_again p)
  some_again (sp_more_properties {ps = ps} {key = key} {e = e} b os p) = properties_grow ps key e (has_properties os) (some_again os) (property_again p)

  function_said : {side : Side} {most : Option ℕ} {d : ℕ} {f : Code} {x : List Lexeme} → SpellsFunction side most d f x → Exact side most (Function f)
  function_said (sp_code {xs = xs} {ss = ss} b c h ps p) = function_exact xs ss h (params_again ps) (stmts_said p)

  declared_said : {side : Side} {most : Option ℕ} {d : ℕ} {f : Code} {x : List Lexeme} → SpellsFunction side most d f x → Declared side most f
  declared_said (sp_code {name = name} {xs = xs} {ss = ss} b c h ps p) = declared_again name xs ss h (params_again ps) (stmts_said p)

  let_again : {side : Side} {most : Option ℕ} {d : ℕ} {x : List ℕ} {v : MaybeExpr} {y : List Lexeme} → SpellsLet side most d x v y → LetSaid side most x v
  let_again (sp_let_alone {x = x} h) = let_alone_said x h
  let_again (sp_let_value {x = x} {e = e} h p) = let_value_said x e h (said_of (exact p))

  lets_said : {side : Side} {most : Option ℕ} {d : ℕ} {is : LetItems} {x : List Lexeme} → SpellsLets side most d is x → LetsSaid side most is
  lets_said (sp_one_let {x = x} {v = v} p) = one_let_said x v (let_again p)
  lets_said (sp_more_lets {is = is} {x = x} {v = v} b ps p) = lets_grow is x v (has_lets ps) (lets_said ps) (let_again p)

  consts_said : {side : Side} {most : Option ℕ} {d : ℕ} {is : ConstItems} {x : List Lexeme} → SpellsConsts side most d is x → ConstsSaid side most is
  consts_said (sp_one_const {x = x} {e = e} h p) = one_const_said x e h (said_of (exact p))
  consts_said (sp_more_consts {is = is} {x = x} {e = e} b c f ps h p) = consts_grow is x e (has_consts ps) (consts_said ps) h (said_of (exact p))

  maybe_said : {side : Side} {most : Option ℕ} {d : ℕ} {v : MaybeExpr} {x : List Lexeme} → SpellsMaybe side most d v x → MaybeSaid side most v
  maybe_said sp_absent = absent_said
  maybe_said (sp_present {e = e} p) = present_said e (said_of (exact p))

  init_said : {side : Side} {most : Option ℕ} {d : ℕ} {i : Init} {x : List Lexeme} → SpellsInit side most d i x → InitSaid side most i
  init_said sp_init_nothing = init_nothing_said
  init_said (sp_init_let {is = is} p) = init_let_said is (lets_said p)
  init_said (sp_init_const {is = is} p) = init_const_said is (consts_said p)
  init_said (sp_init_value {e = e} p) = init_value_said e (said_of (exact p))

  stmt_said : {side : Side} {most : Option ℕ} {d : ℕ} {st : Stmt} {x : List Lexeme} → SpellsStmt side most d st x → StmtSaid side most st
  stmt_said (sp_let {is = is} b c p) = let_said is (lets_said p)
  stmt_said (sp_const {is = is} b c p) = const_said is (consts_said p)
  stmt_said (sp_fun p) = declared_said p
  stmt_said (sp_block {ss = ss} p) = block_stmt_said ss (block_again p)
  stmt_said (sp_if {e = e} {yes = branch} b c f p q) = if_said e branch (said_of (exact p)) (body_again q)
  stmt_said (sp_if_else {e = e} {yes = branch} {no = other} b c f g p q h r) = if_else_said e branch other (said_of (exact p)) (body_again q) h (body_again r)
  stmt_said (sp_while {e = e} {body = st} b c f p q) = while_said e st (said_of (exact p)) (body_again q)
  stmt_said (sp_do_while {e = e} {body = st} b c f g h q p) = do_while_said st e (body_again q) (said_of (exact p))
  stmt_said (sp_for {i = i} {test = test} {update = update} {body = st} b c f g h p q r s) = for_said i test update st (init_said p) (maybe_said q) (maybe_said r) (body_again s)
  stmt_said (sp_for_of_let {x = x} {over = over} {body = st} b c f g h i s n p q) = for_of_let_said x over st s n (said_of (exact p)) (body_again q)
  stmt_said (sp_for_of_const {x = x} {over = over} {body = st} b c f g h i s n p q) = for_of_const_said x over st s n (said_of (exact p)) (body_again q)
  stmt_said sp_break = break_said
  stmt_said sp_continue = continue_said
  stmt_said sp_return_nothing = return_nothing_said
  stmt_said (sp_return {e = e} b c p s) = return_said e (said_of (exact p))
  stmt_said (sp_throw {e = e} b c p s) = throw_said e (said_of (exact p))
  stmt_said (sp_try_catch {block = ss} {c = c} b p q) = try_catch_said ss c (block_again p) (catch_said q)
  stmt_said (sp_try_finally {block = ss} {final = fs} b f p q) = try_finally_said ss fs (block_again p) (block_again q)
  stmt_said (sp_try_both {block = ss} {final = fs} {c = c} b f p q r) = try_both_said ss fs c (block_again p) (catch_said q) (block_again r)
  stmt_said (sp_value {e = e} b p s) = value_said e (said_of (exact p))
  stmt_said sp_empty = empty_said
  stmt_said (sp_switch {e = e} {cs = cs} b c f g h s p q) = switch_said e cs s (said_of (exact p)) (clauses_said q)

  block_again : {side : Side} {most : Option ℕ} {d : ℕ} {ss : Stmts} {x : List Lexeme} → SpellsBlock side most d ss x → BlockSaid side most ss
  block_again (sp_braces {ss = ss} b c p) = block_said ss (stmts_said p)

  body_again : {side : Side} {most : Option ℕ} {d : ℕ} {st : Stmt} {x : List Lexeme} → SpellsBody side most d st x → BodySaid side most st
  body_again (sp_body {st = st} p h) = body_said st (stmt_said p) h

  catch_said : {side : Side} {most : Option ℕ} {d : ℕ} {c : Catch} {x : List Lexeme} → SpellsCatch side most d c x → CatchSaid side most c
  catch_said (sp_catch {ss = ss} p) = catch_alone_said ss (block_again p)
  catch_said (sp_catch_name {x = x} {ss = ss} h p) = catch_name_said x ss h (block_again p)

  clauses_said : {side : Side} {most : Option ℕ} {d : ℕ} {cs : Clauses} {x : List Lexeme} → SpellsClauses side most d cs x → ClausesSaid side most cs
  clauses_said sp_no_clauses = no_clauses_said
  clauses_said (sp_default {ss = ss} p) = default_said ss (stmts_said p)
  clauses_said (sp_case {n = n} {ss = ss} {cs = cs} b c f h p q) = case_said n ss cs h (stmts_said p) (clauses_said q)

  pub stmts_said : {side : Side} {most : Option ℕ} {d : ℕ} {ss : Stmts} {x : List Lexeme} → SpellsStmts side most d ss x → StmtsSaid side most ss
  stmts_said sp_end = end_said
  stmts_said (sp_next {st = st} {ss = ss} p ps) = next_said st ss (stmt_said p) (stmts_said ps)
