-- Each node of a program that tokens spell has its place among them.
use Rattle.std.proofs.Common.{◌≡◌, ℕ, suc, ◌+◌, List, [], ◌∷◌, ◌++◌, length, Option, refl, ap, arith, length-append}
use Rattle.actx_grammar.specs.declared.side.Side.{Side}
use Rattle.actx_grammar.specs.declared.operators.FunctionKind.{FunctionKind}
use Rattle.actx_grammar.specs.Lexemes.{Lexeme}
use Rattle.actx_grammar.specs.Tree.{Expr, Exprs, MaybeExpr, Key, PropKey, Properties, Code, LetItems, ConstItems, Init, Stmt, Catch, Clauses, Stmts, none, also, no_properties, property, no_lets, let_item, no_consts, const_item}
use Rattle.actx_grammar.specs.Grammar.{with_last, with_let, with_const, with_property, Spells, SpellsArguments, SpellsArrow, SpellsArrowParams, SpellsBlock, SpellsBody, SpellsCatch, SpellsClauses, SpellsCoalesce, SpellsConsts, SpellsFunction, SpellsHead, SpellsInit, SpellsKey, SpellsLet, SpellsLets, SpellsList, SpellsMaybe, SpellsNames, SpellsOr, SpellsParams, SpellsPropKey, SpellsProperties, SpellsProperty, SpellsSome, SpellsStmt, SpellsStmts, sp_absent, sp_and, sp_arguments, sp_arguments_comma, sp_arrow, sp_arrow_head, sp_async, sp_async_arrow_head, sp_async_named, sp_await, sp_bare_param, sp_binary, sp_block, sp_body, sp_braces, sp_break, sp_bump_before, sp_bump_behind, sp_call, sp_call_with, sp_case, sp_catch, sp_catch_name, sp_change, sp_choice, sp_coalesce, sp_code, sp_computed, sp_const, sp_continue, sp_default, sp_do_while, sp_dot, sp_empty, sp_end, sp_false, sp_first_coalesce, sp_first_or, sp_fixed, sp_for, sp_for_of_const, sp_for_of_let, sp_form, sp_fun, sp_function, sp_generator, sp_generator_named, sp_if, sp_if_else, sp_index, sp_init_const, sp_init_let, sp_init_nothing, sp_init_value, sp_key_value, sp_let, sp_let_alone, sp_let_value, sp_listed_params, sp_member, sp_method, sp_more, sp_more_coalesce, sp_more_consts, sp_more_lets, sp_more_names, sp_more_or, sp_more_properties, sp_name, sp_name_alone, sp_next, sp_no_arguments, sp_no_clauses, sp_no_params, sp_no_properties, sp_normal, sp_normal_named, sp_null, sp_number, sp_object, sp_one, sp_one_const, sp_one_let, sp_one_name, sp_one_property, sp_or, sp_params, sp_params_comma, sp_paren, sp_present, sp_properties, sp_properties_comma, sp_return, sp_return_nothing, sp_set_member, sp_set_name, sp_short_arrow, sp_switch, sp_text, sp_this, sp_throw, sp_true, sp_try_both, sp_try_catch, sp_try_finally, sp_unary, sp_undefined, sp_undefined_alone, sp_value, sp_while, sp_yield, sp_yield_all, sp_yield_nothing}
use Rattle.actx_grammar.specs.InOrder.{EveryNodeHasAPlace}
use Rattle.actx_grammar.specs.Nodes.{name_nodes, expr_nodes, exprs_nodes, maybe_nodes, key_nodes, prop_key_nodes, properties_nodes, code_nodes, lets_nodes, consts_nodes, init_nodes, stmt_nodes, catch_nodes, clauses_nodes, stmts_nodes}
use Rattle.actx_grammar.specs.Places.{names_places, params_places, arrow_params_places, arrow_places, head_places, expr_places, or_places, coalesce_places, key_places, arguments_places, list_places, prop_key_places, property_places, properties_places, some_places, function_places, let_places, lets_places, consts_places, maybe_places, init_places, stmt_places, block_places, body_places, catch_places, clauses_places, stmts_places}

-- a list of so many numbers
record Sized (xs : List ℕ) (a : ℕ) : Type 0 where
  is : length xs ≡ a

nothing : Sized [] 0
nothing = record { is = refl }

one : {x : ℕ} → Sized (x ∷ []) 1
one = record { is = refl }

first : {x : ℕ} {xs : List ℕ} {a : ℕ} → Sized xs a → Sized (x ∷ xs) (suc a)
first h = record { is = ap suc h.is }

as_many : {xs : List ℕ} {a b : ℕ} → Sized xs a → a ≡ b → Sized xs b
as_many h e = record { is = omega (arith, h.is) }

and_nothing : {xs : List ℕ} {a : ℕ} → Sized xs a → Sized xs (a + 0)
and_nothing h = as_many h (omega arith)

two : {xs ys : List ℕ} {a b : ℕ} → Sized xs a → Sized ys b → Sized (xs ++ ys) (a + b)
two {xs} {ys} g h = record { is = omega (arith, length-append xs ys, g.is, h.is) }

three : {xs ys zs : List ℕ} {a b c : ℕ} → Sized xs a → Sized ys b → Sized zs c → Sized (xs ++ ys ++ zs) (a + b + c)
three f g h = two (two f g) h

four : {ws xs ys zs : List ℕ} {a b c d : ℕ} → Sized ws a → Sized xs b → Sized ys c → Sized zs d → Sized (ws ++ xs ++ ys ++ zs) (a + b + c + d)
four f g h i = two (three f g h) i

-- LISTS THAT GROW AT THEIR END
last_nodes : (es : Exprs) (e : Expr) → exprs_nodes es + expr_nodes e ≡ exprs_nodes (with_last es e)
last_nodes none e = omega arith
last_nodes (also f es) e = omega (arith, last_nodes es e)

last_property_nodes : (ps : Properties) (key : PropKey) (e : Expr) → properties_nodes ps + (prop_key_nodes key + expr_nodes e) ≡ properties_nodes (with_property ps key e)
last_property_nodes no_properties key e = omega arith
last_property_nodes (property j f ps) key e = omega (arith, last_property_nodes ps key e)

last_let_nodes : (is : LetItems) (x : List ℕ) (v : MaybeExpr) → lets_nodes is + suc (maybe_nodes v) ≡ lets_nodes (with_let is x v)
last_let_nodes no_lets x v = omega arith
last_let_nodes (let_item y w is) x v = omega (arith, last_let_nodes is x v)

last_const_nodes : (is : ConstItems) (x : List ℕ) (e : Expr) → consts_nodes is + suc (expr_nodes e) ≡ consts_nodes (with_const is x e)
last_const_nodes no_consts x e = omega arith
last_const_nodes (const_item y f is) x e = omega (arith, last_const_nodes is x e)

last_name : (xs : List (List ℕ)) (x : List ℕ) → length xs + 1 ≡ length (xs ++ x ∷ [])
last_name xs x = omega (arith, length-append xs (x ∷ []))

-- NAMES
names_sized : {side : Side} {xs : List (List ℕ)} {ts : List Lexeme} → (n : ℕ) (h : SpellsNames side xs ts) → Sized (names_places n h) (length xs)
names_sized n (sp_one_name i) = one
names_sized n (sp_more_names {xs = xs} {x = x} {y = y} b c p i) = as_many (two (names_sized n p) one) (last_name xs x)

params_sized : {side : Side} {most : Option ℕ} {xs : List (List ℕ)} {ts : List Lexeme} → (n : ℕ) (h : SpellsParams side most xs ts) → Sized (params_places n h) (length xs)
params_sized n sp_no_params = nothing
params_sized n (sp_params b c p i) = names_sized _ p
params_sized n (sp_params_comma b c f p i) = names_sized _ p

arrow_params_sized : {side : Side} {most : Option ℕ} {xs : List (List ℕ)} {ts : List Lexeme} → (n : ℕ) (h : SpellsArrowParams side most xs ts) → Sized (arrow_params_places n h) (length xs)
arrow_params_sized n (sp_bare_param i a) = one
arrow_params_sized n (sp_listed_params p) = params_sized n p

arrow_sized : {side : Side} {most : Option ℕ} {kind : FunctionKind} {xs : List (List ℕ)} {ts : List Lexeme} → (n : ℕ) (h : SpellsArrow side most kind xs ts) → Sized (arrow_places n h) (length xs)
arrow_sized n (sp_arrow_head p) = arrow_params_sized n p
arrow_sized n (sp_async_arrow_head s p i) = arrow_params_sized _ p

-- a function's own name
head_sized : {side : Side} {kind : FunctionKind} {x : Option (List ℕ)} {ts : List Lexeme} → (n : ℕ) (h : SpellsHead side kind x ts) → Sized (head_places n h) (name_nodes x)
head_sized n sp_normal = nothing
head_sized n (sp_normal_named i) = one
head_sized n (sp_generator s) = nothing
head_sized n (sp_generator_named s i) = one
head_sized n (sp_async s) = nothing
head_sized n (sp_async_named s i) = one

mutual
  -- EXPRESSIONS
  expr_sized : {side : Side} {most : Option ℕ} {l d : ℕ} {e : Expr} {ts : List Lexeme} → (n : ℕ) (h : Spells side most l d e ts) → Sized (expr_places n h) (expr_nodes e)
  expr_sized n (sp_arrow b c i a p) = first (three nothing (arrow_sized n a) (stmts_sized _ p))
  expr_sized n (sp_short_arrow i a p s) = first (three nothing (arrow_sized n a) (and_nothing (first (expr_sized _ p))))
  expr_sized n (sp_yield_nothing s i) = one
  expr_sized n (sp_yield s i p q) = first (expr_sized _ p)
  expr_sized n (sp_yield_all s i p) = first (expr_sized _ p)
  expr_sized n (sp_set_name i j p) = first (expr_sized _ p)
  expr_sized n (sp_set_member b i p k q) = first (three (expr_sized n p) (key_sized _ k) (expr_sized _ q))
  expr_sized n (sp_change i j c p) = first (expr_sized _ p)
  expr_sized n (sp_choice b c i p q r) = first (three (expr_sized n p) (expr_sized _ q) (expr_sized _ r))
  expr_sized n (sp_or i p) = first (or_sized n p)
  expr_sized n (sp_coalesce i p) = first (coalesce_sized n p)
  expr_sized n (sp_and b i p q) = first (two (expr_sized n p) (expr_sized _ q))
  expr_sized n (sp_binary op b i p q) = first (two (expr_sized n p) (expr_sized _ q))
  expr_sized n (sp_unary op i p) = first (expr_sized _ p)
  expr_sized n (sp_await s i p) = first (expr_sized _ p)
  expr_sized n (sp_bump_before i j) = one
  expr_sized n (sp_bump_behind i j) = one
  expr_sized n (sp_member i p k) = first (two (expr_sized n p) (key_sized _ k))
  expr_sized n (sp_call i p a) = first (two (expr_sized n p) (arguments_sized _ a))
  expr_sized n (sp_form form x i h w a u) = first (arguments_sized _ a)
  expr_sized n (sp_call_with b c s i p a) = first (two (expr_sized n p) (arguments_sized _ a))
  expr_sized n (sp_name i) = one
  expr_sized n (sp_number i) = one
  expr_sized n (sp_text i) = one
  expr_sized n sp_true = one
  expr_sized n sp_false = one
  expr_sized n sp_null = one
  expr_sized n sp_undefined = one
  expr_sized n sp_this = one
  expr_sized n (sp_object b c p) = first (properties_sized _ p)
  expr_sized n (sp_function p) = first (function_sized n p)
  expr_sized n (sp_paren b c p) = expr_sized _ p

  -- the operands of || and ??; a chain's left operand is a node that begins where the chain does
  or_sized : {side : Side} {most : Option ℕ} {d : ℕ} {e f : Expr} {ts : List Lexeme} → (n : ℕ) (h : SpellsOr side most d e f ts) → Sized (or_places n h) (expr_nodes e + expr_nodes f)
  or_sized n (sp_first_or b p q) = two (expr_sized n p) (expr_sized _ q)
  or_sized n (sp_more_or b p q) = two (first (or_sized n p)) (expr_sized _ q)

  coalesce_sized : {side : Side} {most : Option ℕ} {d : ℕ} {e f : Expr} {ts : List Lexeme} → (n : ℕ) (h : SpellsCoalesce side most d e f ts) → Sized (coalesce_places n h) (expr_nodes e + expr_nodes f)
  coalesce_sized n (sp_first_coalesce b p q) = two (expr_sized n p) (expr_sized _ q)
  coalesce_sized n (sp_more_coalesce b p q) = two (first (coalesce_sized n p)) (expr_sized _ q)

  -- the key of a member, behind its dot
  key_sized : {side : Side} {most : Option ℕ} {d : ℕ} {key : Key} {ts : List Lexeme} → (n : ℕ) (h : SpellsKey side most d key ts) → Sized (key_places n h) (key_nodes key)
  key_sized n (sp_dot w h i) = one
  key_sized n (sp_index b c p) = expr_sized _ p

  arguments_sized : {side : Side} {most : Option ℕ} {d : ℕ} {es : Exprs} {ts : List Lexeme} → (n : ℕ) (h : SpellsArguments side most d es ts) → Sized (arguments_places n h) (exprs_nodes es)
  arguments_sized n sp_no_arguments = nothing
  arguments_sized n (sp_arguments b c p i) = list_sized _ p
  arguments_sized n (sp_arguments_comma b c f p i) = list_sized _ p

  list_sized : {side : Side} {most : Option ℕ} {d : ℕ} {es : Exprs} {ts : List Lexeme} → (n : ℕ) (h : SpellsList side most d es ts) → Sized (list_places n h) (exprs_nodes es)
  list_sized n (sp_one p) = and_nothing (expr_sized n p)
  list_sized n (sp_more {es = es} {e = e} {x = x} b p q) = as_many (two (list_sized n p) (expr_sized _ q)) (last_nodes es e)

  prop_key_sized : {side : Side} {most : Option ℕ} {d : ℕ} {key : PropKey} {ts : List Lexeme} → (n : ℕ) (h : SpellsPropKey side most d key ts) → Sized (prop_key_places n h) (prop_key_nodes key)
  prop_key_sized n (sp_fixed h k) = one
  prop_key_sized n (sp_computed b c p) = expr_sized _ p

  property_sized : {side : Side} {most : Option ℕ} {d : ℕ} {key : PropKey} {e : Expr} {ts : List Lexeme} → (n : ℕ) (h : SpellsProperty side most d key e ts) → Sized (property_places n h) (prop_key_nodes key + expr_nodes e)
  property_sized n (sp_key_value b k p) = two (prop_key_sized n k) (expr_sized _ p)
  property_sized n (sp_name_alone k i) = two one one
  property_sized n sp_undefined_alone = two one one
  property_sized n (sp_method b c h k f a p) = two (prop_key_sized _ k) (first (three nothing (params_sized _ a) (stmts_sized _ p)))

  properties_sized : {side : Side} {most : Option ℕ} {d : ℕ} {ps : Properties} {ts : List Lexeme} → (n : ℕ) (h : SpellsProperties side most d ps ts) → Sized (properties_places n h) (properties_nodes ps)
  properties_sized n sp_no_properties = nothing
  properties_sized n (sp_properties p) = some_sized n p
  properties_sized n (sp_properties_comma b p) = some_sized n p

  some_sized : {side : Side} {most : Option ℕ} {d : ℕ} {ps : Properties} {ts : List Lexeme} → (n : ℕ) (h : SpellsSome side most d ps ts) → Sized (some_places n h) (properties_nodes ps)
  some_sized n (sp_one_property p) = and_nothing (property_sized n p)
  some_sized n (sp_more_properties {ps = ps} {key = key} {e = e} {x = x} b p q) = as_many (two (some_sized n p) (property_sized _ q)) (last_property_nodes ps key e)

  -- what stands in a function: its own name, its parameters and its body
  function_sized : {side : Side} {most : Option ℕ} {d : ℕ} {f : Code} {ts : List Lexeme} → (n : ℕ) (h : SpellsFunction side most d f ts) → Sized (function_places n h) (code_nodes f)
  function_sized n (sp_code b c h a p) = three (head_sized n h) (params_sized _ a) (stmts_sized _ p)

  -- the items of a let and of a const
  let_sized : {side : Side} {most : Option ℕ} {d : ℕ} {x : List ℕ} {v : MaybeExpr} {ts : List Lexeme} → (n : ℕ) (h : SpellsLet side most d x v ts) → Sized (let_places n h) (suc (maybe_nodes v))
  let_sized n (sp_let_alone i) = one
  let_sized n (sp_let_value i p) = first (expr_sized _ p)

  lets_sized : {side : Side} {most : Option ℕ} {d : ℕ} {is : LetItems} {ts : List Lexeme} → (n : ℕ) (h : SpellsLets side most d is ts) → Sized (lets_places n h) (lets_nodes is)
  lets_sized n (sp_one_let p) = as_many (let_sized n p) (omega arith)
  lets_sized n (sp_more_lets {is = is} {x = x} {v = v} b p q) = as_many (two (lets_sized n p) (let_sized _ q)) (last_let_nodes is x v)

  consts_sized : {side : Side} {most : Option ℕ} {d : ℕ} {is : ConstItems} {ts : List Lexeme} → (n : ℕ) (h : SpellsConsts side most d is ts) → Sized (consts_places n h) (consts_nodes is)
  consts_sized n (sp_one_const i p) = first (and_nothing (expr_sized _ p))
  consts_sized n (sp_more_consts {is = is} {x = x} {e = e} b c f p i q) = as_many (two (consts_sized n p) (first (expr_sized _ q))) (last_const_nodes is x e)

  maybe_sized : {side : Side} {most : Option ℕ} {d : ℕ} {e : MaybeExpr} {ts : List Lexeme} → (n : ℕ) (h : SpellsMaybe side most d e ts) → Sized (maybe_places n h) (maybe_nodes e)
  maybe_sized n sp_absent = nothing
  maybe_sized n (sp_present p) = expr_sized n p

  init_sized : {side : Side} {most : Option ℕ} {d : ℕ} {i : Init} {ts : List Lexeme} → (n : ℕ) (h : SpellsInit side most d i ts) → Sized (init_places n h) (init_nodes i)
  init_sized n sp_init_nothing = nothing
  init_sized n (sp_init_let p) = lets_sized _ p
  init_sized n (sp_init_const p) = consts_sized _ p
  init_sized n (sp_init_value p) = expr_sized n p

  -- STATEMENTS
  stmt_sized : {side : Side} {most : Option ℕ} {d : ℕ} {st : Stmt} {ts : List Lexeme} → (n : ℕ) (h : SpellsStmt side most d st ts) → Sized (stmt_places n h) (stmt_nodes st)
  stmt_sized n (sp_let b c p) = first (lets_sized _ p)
  stmt_sized n (sp_const b c p) = first (consts_sized _ p)
  stmt_sized n (sp_fun p) = first (function_sized n p)
  stmt_sized n (sp_block p) = first (block_sized n p)
  stmt_sized n (sp_if b c f p q) = first (and_nothing (two (expr_sized _ p) (body_sized _ q)))
  stmt_sized n (sp_if_else b c f g p q o r) = first (three (expr_sized _ p) (body_sized _ q) (body_sized _ r))
  stmt_sized n (sp_while b c f p q) = first (two (expr_sized _ p) (body_sized _ q))
  stmt_sized n (sp_do_while b c f g h p q) = first (two (body_sized _ p) (expr_sized _ q))
  stmt_sized n (sp_for b c f g h i t u p) = first (four (init_sized _ i) (maybe_sized _ t) (maybe_sized _ u) (body_sized _ p))
  stmt_sized n (sp_for_of_let b c f g h i s j p q) = first (first (two (expr_sized _ p) (body_sized _ q)))
  stmt_sized n (sp_for_of_const b c f g h i s j p q) = first (first (two (expr_sized _ p) (body_sized _ q)))
  stmt_sized n sp_break = one
  stmt_sized n sp_continue = one
  stmt_sized n sp_return_nothing = one
  stmt_sized n (sp_return b c p i) = first (expr_sized _ p)
  stmt_sized n (sp_throw b c p i) = first (expr_sized _ p)
  stmt_sized n (sp_try_catch b p q) = first (and_nothing (two (block_sized _ p) (catch_sized _ q)))
  stmt_sized n (sp_try_finally b f p q) = first (as_many (two (block_sized _ p) (block_sized _ q)) (omega arith))
  stmt_sized n (sp_try_both b f p q r) = first (three (block_sized _ p) (catch_sized _ q) (block_sized _ r))
  stmt_sized n (sp_value b p i) = first (expr_sized n p)
  stmt_sized n sp_empty = one
  stmt_sized n (sp_switch b c f g h s p q) = first (two (expr_sized _ p) (clauses_sized _ q))

  block_sized : {side : Side} {most : Option ℕ} {d : ℕ} {ss : Stmts} {ts : List Lexeme} → (n : ℕ) (h : SpellsBlock side most d ss ts) → Sized (block_places n h) (stmts_nodes ss)
  block_sized n (sp_braces b c p) = stmts_sized _ p

  body_sized : {side : Side} {most : Option ℕ} {d : ℕ} {st : Stmt} {ts : List Lexeme} → (n : ℕ) (h : SpellsBody side most d st ts) → Sized (body_places n h) (stmt_nodes st)
  body_sized n (sp_body p i) = stmt_sized n p

  catch_sized : {side : Side} {most : Option ℕ} {d : ℕ} {c : Catch} {ts : List Lexeme} → (n : ℕ) (h : SpellsCatch side most d c ts) → Sized (catch_places n h) (catch_nodes c)
  catch_sized n (sp_catch p) = two nothing (block_sized _ p)
  catch_sized n (sp_catch_name i p) = two one (block_sized _ p)

  -- the clauses of a switch; their numbers are no nodes
  clauses_sized : {side : Side} {most : Option ℕ} {d : ℕ} {cs : Clauses} {ts : List Lexeme} → (n : ℕ) (h : SpellsClauses side most d cs ts) → Sized (clauses_places n h) (clauses_nodes cs)
  clauses_sized n sp_no_clauses = nothing
  clauses_sized n (sp_default p) = and_nothing (stmts_sized _ p)
  clauses_sized n (sp_case b c f i p q) = two (stmts_sized _ p) (clauses_sized _ q)

  stmts_sized : {side : Side} {most : Option ℕ} {d : ℕ} {ss : Stmts} {ts : List Lexeme} → (n : ℕ) (h : SpellsStmts side most d ss ts) → Sized (stmts_places n h) (stmts_nodes ss)
  stmts_sized n sp_end = nothing
  stmts_sized n (sp_next p q) = two (stmt_sized n p) (stmts_sized _ q)

pub places : EveryNodeHasAPlace
places side most d n p ts h = (stmts_sized n h).is
