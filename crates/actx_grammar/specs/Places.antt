-- Where nodes begin: the number of the first token of each node, in the order of their numbers. Parentheses round an
-- expression don't count; the function of a method begins where its property does, and the return of an arrow's short body
-- where that body does, a parenthesis included.
use Rattle.std.specs.Prelude.{ℕ, suc, ◌+◌, List, [], ◌∷◌, ◌++◌, length, Option}
use Rattle.actx_grammar.specs.declared.side.Side.{Side}
use Rattle.actx_grammar.specs.declared.operators.FunctionKind.{FunctionKind}
use Rattle.actx_grammar.specs.Lexemes.{Lexeme}
use Rattle.actx_grammar.specs.Tree.{Expr, Exprs, MaybeExpr, Key, PropKey, Properties, Code, LetItems, ConstItems, Init, Stmt, Catch, Clauses, Stmts}
use Rattle.actx_grammar.specs.Grammar.{Spells, SpellsArguments, SpellsArrow, SpellsArrowParams, SpellsBlock, SpellsBody, SpellsCatch, SpellsClauses, SpellsCoalesce, SpellsConsts, SpellsFunction, SpellsHead, SpellsInit, SpellsKey, SpellsLet, SpellsLets, SpellsList, SpellsMaybe, SpellsNames, SpellsOr, SpellsParams, SpellsPropKey, SpellsProperties, SpellsProperty, SpellsSome, SpellsStmt, SpellsStmts, sp_absent, sp_and, sp_arguments, sp_arguments_comma, sp_arrow, sp_arrow_head, sp_async, sp_async_arrow_head, sp_async_named, sp_await, sp_bare_param, sp_binary, sp_block, sp_body, sp_braces, sp_break, sp_bump_before, sp_bump_behind, sp_call, sp_call_with, sp_case, sp_catch, sp_catch_name, sp_change, sp_choice, sp_coalesce, sp_code, sp_computed, sp_const, sp_continue, sp_default, sp_do_while, sp_dot, sp_empty, sp_end, sp_false, sp_first_coalesce, sp_first_or, sp_fixed, sp_for, sp_for_of_const, sp_for_of_let, sp_form, sp_fun, sp_function, sp_generator, sp_generator_named, sp_if, sp_if_else, sp_index, sp_init_const, sp_init_let, sp_init_nothing, sp_init_value, sp_key_value, sp_let, sp_let_alone, sp_let_value, sp_listed_params, sp_member, sp_method, sp_more, sp_more_coalesce, sp_more_consts, sp_more_lets, sp_more_names, sp_more_or, sp_more_properties, sp_name, sp_name_alone, sp_next, sp_no_arguments, sp_no_clauses, sp_no_params, sp_no_properties, sp_normal, sp_normal_named, sp_null, sp_number, sp_object, sp_one, sp_one_const, sp_one_let, sp_one_name, sp_one_property, sp_or, sp_params, sp_params_comma, sp_paren, sp_present, sp_properties, sp_properties_comma, sp_return, sp_return_nothing, sp_set_member, sp_set_name, sp_short_arrow, sp_switch, sp_text, sp_this, sp_throw, sp_true, sp_try_both, sp_try_catch, sp_try_finally, sp_unary, sp_undefined, sp_undefined_alone, sp_value, sp_while, sp_yield, sp_yield_all, sp_yield_nothing}

-- NAMES: parameters, and what stands before them; n is the number of the first token
abbrev pub names_places : {side : Side} {xs : List (List ℕ)} {ts : List Lexeme} → ℕ → SpellsNames side xs ts → List ℕ
names_places n (sp_one_name i) = n ∷ []
names_places n (sp_more_names {y = y} b c p i) = names_places n p ++ suc (n + length y) ∷ []

abbrev pub params_places : {side : Side} {most : Option ℕ} {xs : List (List ℕ)} {ts : List Lexeme} → ℕ → SpellsParams side most xs ts → List ℕ
params_places n sp_no_params = []
params_places n (sp_params b c p i) = names_places (suc n) p
params_places n (sp_params_comma b c f p i) = names_places (suc n) p

abbrev pub arrow_params_places : {side : Side} {most : Option ℕ} {xs : List (List ℕ)} {ts : List Lexeme} → ℕ → SpellsArrowParams side most xs ts → List ℕ
arrow_params_places n (sp_bare_param i a) = n ∷ []
arrow_params_places n (sp_listed_params p) = params_places n p

abbrev pub arrow_places : {side : Side} {most : Option ℕ} {kind : FunctionKind} {xs : List (List ℕ)} {ts : List Lexeme} → ℕ → SpellsArrow side most kind xs ts → List ℕ
arrow_places n (sp_arrow_head p) = arrow_params_places n p
arrow_places n (sp_async_arrow_head s p i) = arrow_params_places (suc n) p

-- a function's own name
abbrev pub head_places : {side : Side} {kind : FunctionKind} {x : Option (List ℕ)} {ts : List Lexeme} → ℕ → SpellsHead side kind x ts → List ℕ
head_places n sp_normal = []
head_places n (sp_normal_named i) = suc n ∷ []
head_places n (sp_generator s) = []
head_places n (sp_generator_named s i) = suc (suc n) ∷ []
head_places n (sp_async s) = []
head_places n (sp_async_named s i) = suc (suc n) ∷ []

abbrev mutual
  -- EXPRESSIONS
  pub expr_places : {side : Side} {most : Option ℕ} {l d : ℕ} {e : Expr} {ts : List Lexeme} → ℕ → Spells side most l d e ts → List ℕ
  expr_places n (sp_arrow {x = x} b c i a p) = n ∷ (arrow_places n a ++ stmts_places (suc (suc (n + length x))) p)
  expr_places n (sp_short_arrow {x = x} i a p s) = n ∷ (arrow_places n a ++ suc (n + length x) ∷ expr_places (suc (n + length x)) p)
  expr_places n (sp_yield_nothing s i) = n ∷ []
  expr_places n (sp_yield s i p q) = n ∷ expr_places (suc n) p
  expr_places n (sp_yield_all s i p) = n ∷ expr_places (suc (suc n)) p
  expr_places n (sp_set_name i j p) = n ∷ expr_places (suc (suc n)) p
  expr_places n (sp_set_member {x = x} {y = y} b i p k q) = n ∷ (expr_places n p ++ key_places (n + length x) k ++ expr_places (suc (n + length x + length y)) q)
  expr_places n (sp_change i j c p) = n ∷ expr_places (suc (suc n)) p
  expr_places n (sp_choice {x = x} {y = y} b c i p q r) = n ∷ (expr_places n p ++ expr_places (suc (n + length x)) q ++ expr_places (suc (suc (n + length x + length y))) r)
  expr_places n (sp_or i p) = n ∷ or_places n p
  expr_places n (sp_coalesce i p) = n ∷ coalesce_places n p
  expr_places n (sp_and {x = x} b i p q) = n ∷ (expr_places n p ++ expr_places (suc (n + length x)) q)
  expr_places n (sp_binary {x = x} op b i p q) = n ∷ (expr_places n p ++ expr_places (suc (n + length x)) q)
  expr_places n (sp_unary op i p) = n ∷ expr_places (suc n) p
  expr_places n (sp_await s i p) = n ∷ expr_places (suc n) p
  expr_places n (sp_bump_before i j) = n ∷ []
  expr_places n (sp_bump_behind i j) = n ∷ []
  expr_places n (sp_member {x = x} i p k) = n ∷ (expr_places n p ++ key_places (n + length x) k)
  expr_places n (sp_call {x = x} i p a) = n ∷ (expr_places n p ++ arguments_places (n + length x) a)
  expr_places n (sp_form form x i h w a u) = n ∷ arguments_places (n + length x) a
  expr_places n (sp_call_with {x = x} b c s i p a) = n ∷ (expr_places n p ++ arguments_places (suc (suc (n + length x))) a)
  expr_places n (sp_name i) = n ∷ []
  expr_places n (sp_number i) = n ∷ []
  expr_places n (sp_text i) = n ∷ []
  expr_places n sp_true = n ∷ []
  expr_places n sp_false = n ∷ []
  expr_places n sp_null = n ∷ []
  expr_places n sp_undefined = n ∷ []
  expr_places n sp_this = n ∷ []
  expr_places n (sp_object b c p) = n ∷ properties_places (suc n) p
  expr_places n (sp_function p) = n ∷ function_places n p
  expr_places n (sp_paren b c p) = expr_places (suc n) p

  -- the operands of || and ??; a chain's left operand is a node that begins where the chain does
  pub or_places : {side : Side} {most : Option ℕ} {d : ℕ} {e f : Expr} {ts : List Lexeme} → ℕ → SpellsOr side most d e f ts → List ℕ
  or_places n (sp_first_or {x = x} b p q) = expr_places n p ++ expr_places (suc (n + length x)) q
  or_places n (sp_more_or {x = x} b p q) = n ∷ (or_places n p ++ expr_places (suc (n + length x)) q)

  pub coalesce_places : {side : Side} {most : Option ℕ} {d : ℕ} {e f : Expr} {ts : List Lexeme} → ℕ → SpellsCoalesce side most d e f ts → List ℕ
  coalesce_places n (sp_first_coalesce {x = x} b p q) = expr_places n p ++ expr_places (suc (n + length x)) q
  coalesce_places n (sp_more_coalesce {x = x} b p q) = n ∷ (coalesce_places n p ++ expr_places (suc (n + length x)) q)

  -- the key of a member, behind its dot
  pub key_places : {side : Side} {most : Option ℕ} {d : ℕ} {key : Key} {ts : List Lexeme} → ℕ → SpellsKey side most d key ts → List ℕ
  key_places n (sp_dot w h i) = suc n ∷ []
  key_places n (sp_index b c p) = expr_places (suc n) p

  pub arguments_places : {side : Side} {most : Option ℕ} {d : ℕ} {es : Exprs} {ts : List Lexeme} → ℕ → SpellsArguments side most d es ts → List ℕ
  arguments_places n sp_no_arguments = []
  arguments_places n (sp_arguments b c p i) = list_places (suc n) p
  arguments_places n (sp_arguments_comma b c f p i) = list_places (suc n) p

  pub list_places : {side : Side} {most : Option ℕ} {d : ℕ} {es : Exprs} {ts : List Lexeme} → ℕ → SpellsList side most d es ts → List ℕ
  list_places n (sp_one p) = expr_places n p
  list_places n (sp_more {x = x} b p q) = list_places n p ++ expr_places (suc (n + length x)) q

  pub prop_key_places : {side : Side} {most : Option ℕ} {d : ℕ} {key : PropKey} {ts : List Lexeme} → ℕ → SpellsPropKey side most d key ts → List ℕ
  prop_key_places n (sp_fixed h k) = n ∷ []
  prop_key_places n (sp_computed b c p) = expr_places (suc n) p

  pub property_places : {side : Side} {most : Option ℕ} {d : ℕ} {key : PropKey} {e : Expr} {ts : List Lexeme} → ℕ → SpellsProperty side most d key e ts → List ℕ
  property_places n (sp_key_value {x = x} b k p) = prop_key_places n k ++ expr_places (suc (n + length x)) p
  property_places n (sp_name_alone k i) = n ∷ n ∷ []
  property_places n sp_undefined_alone = n ∷ n ∷ []
  property_places n (sp_method {w = w} {x = x} {y = y} b c h k f a p) =
      prop_key_places (n + length w) k ++ n ∷ (params_places (n + length w + length x) a ++ stmts_places (suc (n + length w + length x + length y)) p)

  pub properties_places : {side : Side} {most : Option ℕ} {d : ℕ} {ps : Properties} {ts : List Lexeme} → ℕ → SpellsProperties side most d ps ts → List ℕ
  properties_places n sp_no_properties = []
  properties_places n (sp_properties p) = some_places n p
  properties_places n (sp_properties_comma b p) = some_places n p

  pub some_places : {side : Side} {most : Option ℕ} {d : ℕ} {ps : Properties} {ts : List Lexeme} → ℕ → SpellsSome side most d ps ts → List ℕ
  some_places n (sp_one_property p) = property_places n p
  some_places n (sp_more_properties {x = x} b p q) = some_places n p ++ property_places (suc (n + length x)) q

  -- what stands in a function: its own name, its parameters and its body
  pub function_places : {side : Side} {most : Option ℕ} {d : ℕ} {f : Code} {ts : List Lexeme} → ℕ → SpellsFunction side most d f ts → List ℕ
  function_places n (sp_code {x = x} {y = y} b c h a p) = head_places n h ++ params_places (n + length x) a ++ stmts_places (suc (n + length x + length y)) p

  -- the items of a let and of a const
  pub let_places : {side : Side} {most : Option ℕ} {d : ℕ} {x : List ℕ} {v : MaybeExpr} {ts : List Lexeme} → ℕ → SpellsLet side most d x v ts → List ℕ
  let_places n (sp_let_alone i) = n ∷ []
  let_places n (sp_let_value i p) = n ∷ expr_places (suc (suc n)) p

  pub lets_places : {side : Side} {most : Option ℕ} {d : ℕ} {is : LetItems} {ts : List Lexeme} → ℕ → SpellsLets side most d is ts → List ℕ
  lets_places n (sp_one_let p) = let_places n p
  lets_places n (sp_more_lets {y = y} b p q) = lets_places n p ++ let_places (suc (n + length y)) q

  pub consts_places : {side : Side} {most : Option ℕ} {d : ℕ} {is : ConstItems} {ts : List Lexeme} → ℕ → SpellsConsts side most d is ts → List ℕ
  consts_places n (sp_one_const i p) = n ∷ expr_places (suc (suc n)) p
  consts_places n (sp_more_consts {y = y} b c f p i q) = consts_places n p ++ suc (n + length y) ∷ expr_places (suc (suc (suc (n + length y)))) q

  pub maybe_places : {side : Side} {most : Option ℕ} {d : ℕ} {e : MaybeExpr} {ts : List Lexeme} → ℕ → SpellsMaybe side most d e ts → List ℕ
  maybe_places n sp_absent = []
  maybe_places n (sp_present p) = expr_places n p

  pub init_places : {side : Side} {most : Option ℕ} {d : ℕ} {i : Init} {ts : List Lexeme} → ℕ → SpellsInit side most d i ts → List ℕ
  init_places n sp_init_nothing = []
  init_places n (sp_init_let p) = lets_places (suc n) p
  init_places n (sp_init_const p) = consts_places (suc n) p
  init_places n (sp_init_value p) = expr_places n p

  -- STATEMENTS
  pub stmt_places : {side : Side} {most : Option ℕ} {d : ℕ} {st : Stmt} {ts : List Lexeme} → ℕ → SpellsStmt side most d st ts → List ℕ
  stmt_places n (sp_let b c p) = n ∷ lets_places (suc n) p
  stmt_places n (sp_const b c p) = n ∷ consts_places (suc n) p
  stmt_places n (sp_fun p) = n ∷ function_places n p
  stmt_places n (sp_block p) = n ∷ block_places n p
  stmt_places n (sp_if {x = x} b c f p q) = n ∷ (expr_places (suc (suc n)) p ++ body_places (suc (suc (suc (n + length x)))) q)
  stmt_places n (sp_if_else {x = x} {y = y} b c f g p q o r) =
      n ∷ (expr_places (suc (suc n)) p ++ body_places (suc (suc (suc (n + length x)))) q ++ body_places (suc (suc (suc (suc (n + length x + length y))))) r)
  stmt_places n (sp_while {x = x} b c f p q) = n ∷ (expr_places (suc (suc n)) p ++ body_places (suc (suc (suc (n + length x)))) q)
  stmt_places n (sp_do_while {x = x} b c f g h p q) = n ∷ (body_places (suc n) p ++ expr_places (suc (suc (suc (n + length x)))) q)
  stmt_places n (sp_for {w = w} {x = x} {y = y} b c f g h i t u p) =
      n ∷ (init_places (suc (suc n)) i ++ maybe_places (suc (suc (suc (n + length w)))) t
      ++ maybe_places (suc (suc (suc (suc (n + length w + length x))))) u
      ++ body_places (suc (suc (suc (suc (suc (n + length w + length x + length y)))))) p)
  stmt_places n (sp_for_of_let {y = y} b c f g h i s j p q) = n ∷ (n + 3) ∷ (expr_places (n + 5) p ++ body_places (n + 6 + length y) q)
  stmt_places n (sp_for_of_const {y = y} b c f g h i s j p q) = n ∷ (n + 3) ∷ (expr_places (n + 5) p ++ body_places (n + 6 + length y) q)
  stmt_places n sp_break = n ∷ []
  stmt_places n sp_continue = n ∷ []
  stmt_places n sp_return_nothing = n ∷ []
  stmt_places n (sp_return b c p i) = n ∷ expr_places (suc n) p
  stmt_places n (sp_throw b c p i) = n ∷ expr_places (suc n) p
  stmt_places n (sp_try_catch {x = x} b p q) = n ∷ (block_places (suc n) p ++ catch_places (suc (n + length x)) q)
  stmt_places n (sp_try_finally {x = x} b f p q) = n ∷ (block_places (suc n) p ++ block_places (suc (suc (n + length x))) q)
  stmt_places n (sp_try_both {x = x} {y = y} b f p q r) = n ∷ (block_places (suc n) p ++ catch_places (suc (n + length x)) q ++ block_places (suc (suc (n + length x + length y))) r)
  stmt_places n (sp_value b p i) = n ∷ expr_places n p
  stmt_places n sp_empty = n ∷ []
  stmt_places n (sp_switch {x = x} b c f g h s p q) = n ∷ (expr_places (suc (suc n)) p ++ clauses_places (suc (suc (suc (suc (n + length x))))) q)

  pub block_places : {side : Side} {most : Option ℕ} {d : ℕ} {ss : Stmts} {ts : List Lexeme} → ℕ → SpellsBlock side most d ss ts → List ℕ
  block_places n (sp_braces b c p) = stmts_places (suc n) p

  pub body_places : {side : Side} {most : Option ℕ} {d : ℕ} {st : Stmt} {ts : List Lexeme} → ℕ → SpellsBody side most d st ts → List ℕ
  body_places n (sp_body p i) = stmt_places n p

  pub catch_places : {side : Side} {most : Option ℕ} {d : ℕ} {c : Catch} {ts : List Lexeme} → ℕ → SpellsCatch side most d c ts → List ℕ
  catch_places n (sp_catch p) = block_places (suc n) p
  catch_places n (sp_catch_name i p) = suc (suc n) ∷ block_places (n + 4) p

  -- the clauses of a switch; their numbers are no nodes
  pub clauses_places : {side : Side} {most : Option ℕ} {d : ℕ} {cs : Clauses} {ts : List Lexeme} → ℕ → SpellsClauses side most d cs ts → List ℕ
  clauses_places n sp_no_clauses = []
  clauses_places n (sp_default p) = stmts_places (suc (suc n)) p
  clauses_places n (sp_case {x = x} b c f i p q) = stmts_places (n + 3) p ++ clauses_places (n + 3 + length x) q

  pub stmts_places : {side : Side} {most : Option ℕ} {d : ℕ} {ss : Stmts} {ts : List Lexeme} → ℕ → SpellsStmts side most d ss ts → List ℕ
  stmts_places n sp_end = []
  stmts_places n (sp_next {x = x} p q) = stmt_places n p ++ stmts_places (n + length x) q
