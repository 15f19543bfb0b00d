-- What is spelled is read: by induction on the derivation, over whatever is open.
use Rattle.std.proofs.Common.{◌≡◌, ℕ, suc, ◌≤◌, List, ◌++◌, true, false, Option, Some, None, refl, ◌∙◌, arith}
use Rattle.actx_grammar.specs.declared.operators.LogicOp.TheVariants.{Or, Coalesce}
use Rattle.actx_grammar.specs.declared.side.Side.{Side}
use Rattle.actx_grammar.specs.declared.side.Side.TheVariants.{Plain}
use Rattle.actx_grammar.specs.declared.token.Keyword.TheVariants as k
use Rattle.actx_grammar.specs.declared.token.TokenKind.TheVariants as t
use Rattle.actx_grammar.specs.Grammar.{Allows, count, Spells, SpellsOr, SpellsCoalesce, SpellsKey, SpellsArguments, SpellsList, SpellsPropKey, SpellsProperty, SpellsProperties, SpellsSome, SpellsFunction, SpellsLet, SpellsLets, SpellsConsts, SpellsMaybe, SpellsInit, SpellsStmt, SpellsBlock, SpellsBody, SpellsCatch, SpellsClauses, SpellsStmts, sp_arrow, sp_short_arrow, sp_yield_nothing, sp_yield, sp_yield_all, sp_set_name, sp_set_member, sp_change, sp_choice, sp_or, sp_coalesce, sp_and, sp_binary, sp_unary, sp_await, sp_bump_before, sp_bump_behind, sp_member, sp_call, sp_form, sp_call_with, sp_name, sp_number, sp_text, sp_true, sp_false, sp_null, sp_undefined, sp_this, sp_object, sp_function, sp_paren, sp_first_or, sp_more_or, sp_first_coalesce, sp_more_coalesce, sp_dot, sp_index, sp_no_arguments, sp_arguments, sp_arguments_comma, sp_one, sp_more, sp_fixed, sp_computed, sp_key_value, sp_name_alone, sp_undefined_alone, sp_method, sp_no_properties, sp_properties, sp_properties_comma, sp_one_property, sp_more_properties, sp_code, sp_let_alone, sp_let_value, sp_one_let, sp_more_lets, sp_one_const, sp_more_consts, sp_absent, sp_present, sp_init_nothing, sp_init_let, sp_init_const, sp_init_value, sp_let, sp_const, sp_fun, sp_block, sp_if, sp_if_else, sp_while, sp_do_while, sp_for, sp_for_of_let, sp_for_of_const, sp_break, sp_continue, sp_return_nothing, sp_return, sp_throw, sp_try_catch, sp_try_finally, sp_try_both, sp_value, sp_empty, sp_switch, sp_braces, sp_body, sp_catch, sp_catch_name, sp_no_clauses, sp_default, sp_case, sp_end, sp_next}
use Rattle.actx_grammar.specs.Lexemes.{Lexeme}
use Rattle.actx_grammar.specs.ParserState.{Limits, start, body_start}
use Rattle.actx_grammar.specs.Tree.{Expr, Num, Text, Truth, Null, This, Function, Exprs, MaybeExpr, Key, PropKey, Properties, Code, LetItems, ConstItems, Init, Stmt, Catch, Clauses, Stmts}
use Rattle.actx_laws.proofs.ParseBegins.{value_begins, some_depth}
use Rattle.actx_laws.proofs.ParseBehind.{stmts_behind, clauses_behind, clause_ends, body_same}
use Rattle.actx_laws.proofs.ParseBodies.{row_arrow, row_short_arrow, row_function, row_declaration}
use Rattle.actx_laws.proofs.ParseItems.{ReadsLet, ReadsLets, ReadsConsts, row_let_alone, row_let_value, row_one_let, row_more_lets, row_one_const, row_more_consts}
use Rattle.actx_laws.proofs.ParseKeys.{ReadsPropKey, ReadsMethodKey, row_fixed, row_method_fixed, row_computed, row_method_computed, async_key}
use Rattle.actx_laws.proofs.ParseLevels.{binds, level_small}
use Rattle.actx_laws.proofs.ParseLoops.{ReadsInit, ReadsTest, ReadsUpdate, ReadsCatch, ReadsClauses, row_init_nothing, row_init_let, row_init_const, row_init_value, row_test_absent, row_test, row_update_absent, row_update, row_for, row_for_of_let, row_for_of_const, row_catch, row_catch_name, row_try_catch, row_try_finally, row_try_both, row_no_clauses, row_default, row_case, row_switch}
use Rattle.actx_laws.proofs.ParseMembers.{row_dot, row_index, row_one, row_more, row_no_arguments, row_arguments, row_arguments_comma, row_member, row_set_member, row_call, row_form, row_call_with}
use Rattle.actx_laws.proofs.ParseObjects.{ReadsProperty, ReadsSome, ReadsProperties, row_key_value, row_name_alone, row_undefined_alone, row_method, row_one_property, row_more_properties, row_no_properties, row_properties, row_properties_comma, row_object}
use Rattle.actx_laws.proofs.ParseReads.{Operand, ReadsChain, ReadsKey, ReadsArguments, ReadsList, ReadsStmt, ReadsStmts}
use Rattle.actx_laws.proofs.ParseRows.{row_leaf, row_binary, row_and, row_first_or, row_more_or, row_first_coalesce, row_more_coalesce, row_or, row_coalesce, row_choice}
use Rattle.actx_laws.proofs.ParseStatements.{ReadsBlock, row_end, row_next, row_braces, row_block, row_let, row_const, row_if, row_if_else, row_while, row_do_while, row_break, row_continue, row_return_nothing, row_return, row_throw, row_value, row_empty}
use Rattle.actx_laws.proofs.ParseUnary.{row_unary, row_await, row_yield_nothing, row_yield, row_yield_all, row_paren, row_name, row_undefined, row_set_name, row_change, row_bump_before, row_bump_behind}

-- WHAT THE ROWS ASK
key_binds : {side : Side} {most : Option ℕ} {d : ℕ} {key : Key} {y : List Lexeme} → SpellsKey side most d key y → (r : List Lexeme) → binds (y ++ r) ≤ 11
key_binds (sp_dot q h i) r = omega arith
key_binds (sp_index b c p) r = omega arith

arguments_bind : {side : Side} {most : Option ℕ} {d : ℕ} {es : Exprs} {y : List Lexeme} → SpellsArguments side most d es y → (r : List Lexeme) → binds (y ++ r) ≤ 11
arguments_bind sp_no_arguments r = omega arith
arguments_bind (sp_arguments b c p a) r = omega arith
arguments_bind (sp_arguments_comma b c f p a) r = omega arith

none_allowed : (o : Option ℕ) → Allows o 0
none_allowed None = tt
none_allowed (Some m) = omega arith

arguments_allowed : {side : Side} {most : Option ℕ} {d : ℕ} {es : Exprs} {y : List Lexeme} → SpellsArguments side most d es y → Allows most (count es)
arguments_allowed {most = most} sp_no_arguments = none_allowed most
arguments_allowed (sp_arguments b c p a) = a
arguments_allowed (sp_arguments_comma b c f p a) = a

list_deep : {side : Side} {most : Option ℕ} {d : ℕ} {es : Exprs} {y : List Lexeme} → SpellsList side most d es y → 1 ≤ d
list_deep (sp_one p) = some_depth p
list_deep (sp_more b ps p) = some_depth p

arguments_deep : {side : Side} {most : Option ℕ} {d : ℕ} {es : Exprs} {y : List Lexeme} → SpellsArguments side most d es y → 1 ≤ count es → 1 ≤ d
arguments_deep sp_no_arguments h = absurd (omega arith)
arguments_deep (sp_arguments b c p a) h = list_deep p
arguments_deep (sp_arguments_comma b c f p a) h = list_deep p

consts_deep : {side : Side} {most : Option ℕ} {d : ℕ} {is : ConstItems} {y : List Lexeme} → SpellsConsts side most d is y → 1 ≤ d
consts_deep (sp_one_const h p) = some_depth p
consts_deep (sp_more_consts b c f ps h p) = some_depth p

stmt_deep : {side : Side} {most : Option ℕ} {d : ℕ} {st : Stmt} {y : List Lexeme} → SpellsStmt side most d st y → 1 ≤ d
stmt_deep (sp_break) = omega arith
stmt_deep _ = omega arith

body_deep : {side : Side} {most : Option ℕ} {d : ℕ} {st : Stmt} {y : List Lexeme} → SpellsBody side most d st y → 1 ≤ d
body_deep (sp_body p h) = stmt_deep p

-- on the plain side no list has a bound
abbrev pub Free : Option ℕ → Side → Type 0
Free most side = side ≡ Plain → most ≡ None

abbrev pub bounds : Option ℕ → Option ℕ → Limits
bounds depth most = record { depth = depth; most = most }

mutual
  pub complete : {side : Side} {most : Option ℕ} {l d : ℕ} {e : Expr} {x : List Lexeme} (depth : Option ℕ) (free : Free most side) (p : Spells side most l d e x) → l ≤ 12 → Operand (bounds depth most) side l d e x
  complete {side = side} {most = most} depth free (sp_arrow {l = l} {d = d} {ss = ss} {x = x} {y = y} b c h q p) m = row_arrow (bounds depth most) b c l d ss x y h q (complete_stmts depth free p)
  complete {side = side} {most = most} depth free (sp_short_arrow {l = l} {d = d} {e = e} {x = x} {y = y} h q p i) m = row_short_arrow (bounds depth most) l d e x y h q (value_begins p) i (complete depth free p (omega arith))
  complete {side = side} {most = most} depth free (sp_yield_nothing {l = l} {d = d} {b = b} q h) m = row_yield_nothing (bounds depth most) side b l d q h
  complete {side = side} {most = most} depth free (sp_yield {l = l} {d = d} {e = e} {x = x} {b = b} q h p i) m = row_yield (bounds depth most) side b l d e x (value_begins p) i q h (complete depth free p (omega arith))
  complete {side = side} {most = most} depth free (sp_yield_all {l = l} {d = d} {e = e} {x = x} {b = b} q h p) m = row_yield_all (bounds depth most) side b l d e x (some_depth p) q h (complete depth free p (omega arith))
  complete {side = side} {most = most} depth free (sp_set_name {l = l} {d = d} {x = x} {e = e} {y = y} {b = b} {c = c} h n p) m = row_set_name (bounds depth most) side x b c l d e y (some_depth p) h n (complete depth free p (omega arith))
  complete {side = side} {most = most} depth free (sp_set_member {l = l} {d = d} {e = e} {v = v} {key = key} {x = x} {y = y} {z = z} b h p q o) m =
      row_set_member (bounds depth most) side b l d e v key x y z h (key_binds q) (complete depth free p (omega arith)) (complete_key depth free q) (complete depth free o (omega arith))
  complete {side = side} {most = most} depth free (sp_change {l = l} {d = d} {x = x} {op = op} {e = e} {y = y} {b = b} {c = c} {sg = sg} h n q p) m = row_change (bounds depth most) side x op sg b c l d e y (some_depth p) h n q (complete depth free p (omega arith))
  complete {side = side} {most = most} depth free (sp_choice {l = l} {d = d} {e = e} {f = f} {g = w} {x = x} {y = y} {z = z} b c h p q o) m =
      row_choice (bounds depth most) side b c l d e f w x y z h (complete depth free p (omega arith)) (complete depth free q (omega arith)) (complete depth free o (omega arith))
  complete {side = side} {most = most} depth free (sp_or {l = l} {d = d} {e = e} {f = f} {x = x} h p) m = row_or (bounds depth most) side l d e f x h (complete_or depth free p)
  complete {side = side} {most = most} depth free (sp_coalesce {l = l} {d = d} {e = e} {f = f} {x = x} h p) m = row_coalesce (bounds depth most) side l d e f x h (complete_coalesce depth free p)
  complete {side = side} {most = most} depth free (sp_and {l = l} {d = d} {e = e} {f = f} {x = x} {y = y} b h p q) m = row_and (bounds depth most) side b l d e f x y h (complete depth free p (omega arith)) (complete depth free q (omega arith))
  complete {side = side} {most = most} depth free (sp_binary {l = l} {d = d} {e = e} {f = f} {x = x} {y = y} op b h p q) m =
      row_binary (bounds depth most) side op b l d e f x y h (complete depth free p (omega (arith, level_small op))) (complete depth free q (omega (arith, level_small op)))
  complete {side = side} {most = most} depth free (sp_unary {l = l} {d = d} {e = e} {x = x} {b = b} op h p) m = row_unary (bounds depth most) side op b l d e x (some_depth p) h (complete depth free p (omega arith))
  complete {side = side} {most = most} depth free (sp_await {l = l} {d = d} {e = e} {x = x} {b = b} q h p) m = row_await (bounds depth most) side b l d e x (some_depth p) q h (complete depth free p (omega arith))
  complete {side = side} {most = most} depth free (sp_bump_before {l = l} {d = d} {x = x} {up = up} {b = b} {c = c} h n) m = row_bump_before (bounds depth most) side x up b c l d h n
  complete {side = side} {most = most} depth free (sp_bump_behind {l = l} {d = d} {x = x} {up = up} {b = b} h n) m = row_bump_behind (bounds depth most) side x up b l d h n
  complete {side = side} {most = most} depth free (sp_member {l = l} {d = d} {e = e} {key = key} {x = x} {y = y} h p q) m = row_member (bounds depth most) side l d e key x y h (key_binds q) (complete depth free p (omega arith)) (complete_key depth free q)
  complete {side = side} {most = most} depth free (sp_call {l = l} {d = d} {f = f} {es = es} {x = x} {y = y} h p q) m = row_call (bounds depth most) side l d f es x y h (arguments_bind q) (arguments_allowed q) (complete depth free p (omega arith)) (complete_arguments depth free q)
  complete {side = side} {most = most} depth free (sp_form {l = l} {d = d} {es = es} {y = y} form x h w q p i) m = row_form (bounds depth most) side form l d es x y h w q i (arguments_allowed p) (arguments_deep p) (complete_arguments depth free p)
  complete {side = side} {most = most} depth free (sp_call_with {l = l} {d = d} {f = f} {es = es} {x = x} {y = y} b c o h p q) m = row_call_with (bounds depth most) side b c l d f es x y o (free o) h (complete depth free p (omega arith)) (complete_arguments depth free q)
  complete {side = side} {most = most} depth free (sp_name {l = l} {d = d} {x = x} {b = b} h) m = row_name (bounds depth most) side x b l d m h
  complete {side = side} {most = most} depth free (sp_number {l = l} {d = d} {n = n} {b = b} h) m = row_leaf (bounds depth most) side l d (t.Number n) b (Num n) (λ s. refl) (λ s. refl)
  complete {side = side} {most = most} depth free (sp_text {l = l} {d = d} {u = w} {b = b} h) m = row_leaf (bounds depth most) side l d (t.Text w) b (Text w) (λ s. refl) (λ s. refl)
  complete {side = side} {most = most} depth free (sp_true {l = l} {d = d} {b = b}) m = row_leaf (bounds depth most) side l d (t.Keyword k.True) b (Truth true) (λ s. refl) (λ s. refl)
  complete {side = side} {most = most} depth free (sp_false {l = l} {d = d} {b = b}) m = row_leaf (bounds depth most) side l d (t.Keyword k.False) b (Truth false) (λ s. refl) (λ s. refl)
  complete {side = side} {most = most} depth free (sp_null {l = l} {d = d} {b = b}) m = row_leaf (bounds depth most) side l d (t.Keyword k.Null) b Null (λ s. refl) (λ s. refl)
  complete {side = side} {most = most} depth free (sp_undefined {l = l} {d = d} {b = b}) m = row_undefined (bounds depth most) side b l d m
  complete {side = side} {most = most} depth free (sp_this {l = l} {d = d} {b = b}) m = row_leaf (bounds depth most) side l d (t.Keyword k.This) b This (λ s. refl) (λ s. refl)
  complete {side = side} {most = most} depth free (sp_object {l = l} {d = d} {ps = ps} {x = x} b c p) m = row_object (bounds depth most) side b c l d ps x (complete_properties depth free p)
  complete {side = side} {most = most} depth free (sp_function {l = l} p) m = complete_function depth free l p
  complete {side = side} {most = most} depth free (sp_paren {l = l} {d = d} {e = e} {x = x} b c p) m = row_paren (bounds depth most) side b c l d e x m (some_depth p) (value_begins p) (complete depth free p (omega arith))

  complete_or : {side : Side} {most : Option ℕ} {d : ℕ} {e f : Expr} {x : List Lexeme} (depth : Option ℕ) (free : Free most side) (p : SpellsOr side most d e f x) → ReadsChain (bounds depth most) side Or 4 d e f x
  complete_or {side = side} {most = most} depth free (sp_first_or {d = d} {e = e} {f = f} {x = x} {y = y} b p q) = row_first_or (bounds depth most) side b d e f x y (complete depth free p (omega arith)) (complete depth free q (omega arith))
  complete_or {side = side} {most = most} depth free (sp_more_or {d = d} {e = e} {f = f} {g = w} {x = x} {y = y} b p q) = row_more_or (bounds depth most) side b d e f w x y (complete_or depth free p) (complete depth free q (omega arith))

  complete_coalesce : {side : Side} {most : Option ℕ} {d : ℕ} {e f : Expr} {x : List Lexeme} (depth : Option ℕ) (free : Free most side) (p : SpellsCoalesce side most d e f x) → ReadsChain (bounds depth most) side Coalesce 5 d e f x
  complete_coalesce {side = side} {most = most} depth free (sp_first_coalesce {d = d} {e = e} {f = f} {x = x} {y = y} b p q) = row_first_coalesce (bounds depth most) side b d e f x y (complete depth free p (omega arith)) (complete depth free q (omega arith))
  complete_coalesce {side = side} {most = most} depth free (sp_more_coalesce {d = d} {e = e} {f = f} {g = w} {x = x} {y = y} b p q) = row_more_coalesce (bounds depth most) side b d e f w x y (complete_coalesce depth free p) (complete depth free q (omega arith))

  complete_key : {side : Side} {most : Option ℕ} {d : ℕ} {key : Key} {x : List Lexeme} (depth : Option ℕ) (free : Free most side) (p : SpellsKey side most d key x) → ReadsKey (bounds depth most) side d key x
  complete_key {side = side} {most = most} depth free (sp_dot {d = d} {x = x} {w = w} {b = b} q h i) = row_dot (bounds depth most) side b w x d q i
  complete_key {side = side} {most = most} depth free (sp_index {d = d} {e = e} {x = x} b c p) = row_index (bounds depth most) side b c d e x (complete depth free p (omega arith))

  complete_arguments : {side : Side} {most : Option ℕ} {d : ℕ} {es : Exprs} {x : List Lexeme} (depth : Option ℕ) (free : Free most side) (p : SpellsArguments side most d es x) → ReadsArguments (bounds depth most) side d es x
  complete_arguments {side = side} {most = most} depth free (sp_no_arguments {d = d} {b = b} {c = c}) = row_no_arguments (bounds depth most) side b c d
  complete_arguments {side = side} {most = most} depth free (sp_arguments {d = d} {es = es} {x = x} b c p a) = row_arguments (bounds depth most) side b c d es x (complete_list depth free p)
  complete_arguments {side = side} {most = most} depth free (sp_arguments_comma {d = d} {es = es} {x = x} b c f p a) = row_arguments_comma (bounds depth most) side b c f d es x (complete_list depth free p)

  complete_list : {side : Side} {most : Option ℕ} {d : ℕ} {es : Exprs} {x : List Lexeme} (depth : Option ℕ) (free : Free most side) (p : SpellsList side most d es x) → ReadsList (bounds depth most) side d es x
  complete_list {side = side} {most = most} depth free (sp_one {d = d} {e = e} {x = x} p) = row_one (bounds depth most) side d e x (complete depth free p (omega arith))
  complete_list {side = side} {most = most} depth free (sp_more {d = d} {es = es} {e = e} {x = x} {y = y} b ps p) = row_more (bounds depth most) side b d es e x y (complete_list depth free ps) (complete depth free p (omega arith))

  complete_prop_key : {side : Side} {most : Option ℕ} {d : ℕ} {key : PropKey} {x : List Lexeme} (depth : Option ℕ) (free : Free most side) (p : SpellsPropKey side most d key x) → ReadsPropKey (bounds depth most) side d key x
  complete_prop_key {side = side} {most = most} depth free (sp_fixed {d = d} {u = w} {w = v} h q) = row_fixed (bounds depth most) side v w d q
  complete_prop_key {side = side} {most = most} depth free (sp_computed {d = d} {e = e} {x = x} b c p) = row_computed (bounds depth most) side b c d e x (complete depth free p (omega arith))

  complete_method_key : {side : Side} {most : Option ℕ} {d : ℕ} {key : PropKey} {x : List Lexeme} (depth : Option ℕ) (free : Free most side) (p : SpellsPropKey side most d key x) → ReadsMethodKey (bounds depth most) side d key x
  complete_method_key {side = side} {most = most} depth free (sp_fixed {d = d} {u = w} {w = v} h q) = row_method_fixed (bounds depth most) side v w d q
  complete_method_key {side = side} {most = most} depth free (sp_computed {d = d} {e = e} {x = x} b c p) = row_method_computed (bounds depth most) side b c d e x (complete depth free p (omega arith))

  complete_property : {side : Side} {most : Option ℕ} {d : ℕ} {key : PropKey} {e : Expr} {x : List Lexeme} (depth : Option ℕ) (free : Free most side) (p : SpellsProperty side most d key e x) → ReadsProperty (bounds depth most) side d key e x
  complete_property {side = side} {most = most} depth free (sp_key_value {d = d} {key = key} {e = e} {x = x} {y = y} b q p) = row_key_value (bounds depth most) side b d key e x y (some_depth p) (complete_prop_key depth free q) (complete depth free p (omega arith))
  complete_property {side = side} {most = most} depth free (sp_name_alone {d = d} {x = x} {u = w} {b = b} q h) = row_name_alone (bounds depth most) side b d x w q h
  complete_property {side = side} {most = most} depth free (sp_undefined_alone {d = d} {b = b}) = row_undefined_alone (bounds depth most) side b d
  complete_property {side = side} {most = most} depth free (sp_method {d = d} {key = key} {ss = ss} {w = w} {x = x} {y = y} {z = z} b c h q i ps p) =
      row_method (bounds depth most) b c d key ss w x y z h ps i (complete_prop_key depth free q) (complete_method_key depth free q) (async_key (bounds depth most) q) (complete_stmts depth free p)

  complete_properties : {side : Side} {most : Option ℕ} {d : ℕ} {ps : Properties} {x : List Lexeme} (depth : Option ℕ) (free : Free most side) (p : SpellsProperties side most d ps x) → ReadsProperties (bounds depth most) side d ps x
  complete_properties {side = side} {most = most} depth free (sp_no_properties {d = d}) = row_no_properties (bounds depth most) side d
  complete_properties {side = side} {most = most} depth free (sp_properties {d = d} {ps = ps} {x = x} p) = row_properties (bounds depth most) side d ps x (complete_some depth free p)
  complete_properties {side = side} {most = most} depth free (sp_properties_comma {d = d} {ps = ps} {x = x} b p) = row_properties_comma (bounds depth most) side b d ps x (complete_some depth free p)

  complete_some : {side : Side} {most : Option ℕ} {d : ℕ} {ps : Properties} {x : List Lexeme} (depth : Option ℕ) (free : Free most side) (p : SpellsSome side most d ps x) → ReadsSome (bounds depth most) side d ps x
  complete_some {side = side} {most = most} depth free (sp_one_property {d = d} {key = key} {e = e} {x = x} p) = row_one_property (bounds depth most) side d key e x (complete_property depth free p)
  complete_some {side = side} {most = most} depth free (sp_more_properties {d = d} {ps = ps} {key = key} {e = e} {x = x} {y = y} b q p) = row_more_properties (bounds depth most) side b d ps key e x y (complete_some depth free q) (complete_property depth free p)

  complete_function : {side : Side} {most : Option ℕ} {d : ℕ} {f : Code} {x : List Lexeme} (depth : Option ℕ) (free : Free most side) (l : ℕ) (p : SpellsFunction side most d f x) → Operand (bounds depth most) side l (suc d) (Function f) x
  complete_function {side = side} {most = most} depth free l (sp_code {d = d} {ss = ss} {x = x} {y = y} {z = z} b c h q p) = row_function (bounds depth most) b c l d ss x y z h q (complete_stmts depth free p)

  complete_let : {side : Side} {most : Option ℕ} {d : ℕ} {n : List ℕ} {v : MaybeExpr} {x : List Lexeme} (depth : Option ℕ) (free : Free most side) (p : SpellsLet side most d n v x) → ReadsLet (bounds depth most) side d n v x
  complete_let {side = side} {most = most} depth free (sp_let_alone {d = d} {x = x} {b = b} h) = row_let_alone (bounds depth most) side b d x h
  complete_let {side = side} {most = most} depth free (sp_let_value {d = d} {x = x} {e = e} {y = y} {b = b} {c = c} h p) = row_let_value (bounds depth most) side b c d x e y (some_depth p) h (complete depth free p (omega arith))

  complete_lets : {side : Side} {most : Option ℕ} {d : ℕ} {is : LetItems} {x : List Lexeme} (depth : Option ℕ) (free : Free most side) (p : SpellsLets side most d is x) → ReadsLets (bounds depth most) side d is x
  complete_lets {side = side} {most = most} depth free (sp_one_let {d = d} {x = x} {v = v} {y = y} p) = row_one_let (bounds depth most) side d x v y (complete_let depth free p)
  complete_lets {side = side} {most = most} depth free (sp_more_lets {d = d} {is = is} {x = x} {v = v} {y = y} {z = z} b q p) = row_more_lets (bounds depth most) side b d is x v y z (complete_lets depth free q) (complete_let depth free p)

  complete_consts : {side : Side} {most : Option ℕ} {d : ℕ} {is : ConstItems} {x : List Lexeme} (depth : Option ℕ) (free : Free most side) (p : SpellsConsts side most d is x) → ReadsConsts (bounds depth most) side d is x
  complete_consts {side = side} {most = most} depth free (sp_one_const {d = d} {x = x} {e = e} {y = y} {b = b} {c = c} h p) = row_one_const (bounds depth most) side b c d x e y h (complete depth free p (omega arith))
  complete_consts {side = side} {most = most} depth free (sp_more_consts {d = d} {is = is} {x = x} {e = e} {y = y} {z = z} b c f q h p) = row_more_consts (bounds depth most) side b c f d is x e y z (complete_consts depth free q) h (complete depth free p (omega arith))

  complete_test : {side : Side} {most : Option ℕ} {d : ℕ} {v : MaybeExpr} {x : List Lexeme} (depth : Option ℕ) (free : Free most side) (p : SpellsMaybe side most d v x) → ReadsTest (bounds depth most) side d v x
  complete_test {side = side} {most = most} depth free (sp_absent {d = d}) = row_test_absent (bounds depth most) side d
  complete_test {side = side} {most = most} depth free (sp_present {d = d} {e = e} {x = x} p) = row_test (bounds depth most) side d e x (value_begins p) (complete depth free p (omega arith))

  complete_update : {side : Side} {most : Option ℕ} {d : ℕ} {v : MaybeExpr} {x : List Lexeme} (depth : Option ℕ) (free : Free most side) (p : SpellsMaybe side most d v x) → ReadsUpdate (bounds depth most) side d v x
  complete_update {side = side} {most = most} depth free (sp_absent {d = d}) = row_update_absent (bounds depth most) side d
  complete_update {side = side} {most = most} depth free (sp_present {d = d} {e = e} {x = x} p) = row_update (bounds depth most) side d e x (value_begins p) (complete depth free p (omega arith))

  complete_init : {side : Side} {most : Option ℕ} {d : ℕ} {i : Init} {x : List Lexeme} (depth : Option ℕ) (free : Free most side) (p : SpellsInit side most d i x) → ReadsInit (bounds depth most) side d i x
  complete_init {side = side} {most = most} depth free (sp_init_nothing {d = d}) = row_init_nothing (bounds depth most) side d
  complete_init {side = side} {most = most} depth free (sp_init_let {d = d} {is = is} {x = x} {b = b} p) = row_init_let (bounds depth most) side b d is x (complete_lets depth free p)
  complete_init {side = side} {most = most} depth free (sp_init_const {d = d} {is = is} {x = x} {b = b} p) = row_init_const (bounds depth most) side b d is x (complete_consts depth free p)
  complete_init {side = side} {most = most} depth free (sp_init_value {d = d} {e = e} {x = x} p) = row_init_value (bounds depth most) side d e x (value_begins p) (complete depth free p (omega arith))

  pub complete_stmt : {side : Side} {most : Option ℕ} {d : ℕ} {st : Stmt} {x : List Lexeme} (depth : Option ℕ) (free : Free most side) (p : SpellsStmt side most d st x) → ReadsStmt (bounds depth most) side start d st x
  complete_stmt {side = side} {most = most} depth free (sp_let {d = d} {is = is} {x = x} b c p) = row_let (bounds depth most) side b c d is x (complete_lets depth free p)
  complete_stmt {side = side} {most = most} depth free (sp_const {d = d} {is = is} {x = x} b c p) = row_const (bounds depth most) side b c d is x (consts_deep p) (complete_consts depth free p)
  complete_stmt {side = side} {most = most} depth free (sp_fun (sp_code {d = d} {ss = ss} {x = x} {y = y} {z = z} b c h q p)) = row_declaration (bounds depth most) b c d ss x y z h q (complete_stmts depth free p)
  complete_stmt {side = side} {most = most} depth free (sp_block {d = d} {ss = ss} {x = x} p) = row_block (bounds depth most) side d ss x (complete_block depth free p)
  complete_stmt {side = side} {most = most} depth free (sp_if {d = d} {e = e} {yes = st} {x = x} {y = y} b c f p q) = row_if (bounds depth most) side b c f d e st x y (some_depth p) (complete depth free p (omega arith)) (complete_body depth free q)
  complete_stmt {side = side} {most = most} depth free (sp_if_else {d = d} {e = e} {yes = st} {no = dt} {x = x} {y = y} {z = z} b c f w p q h o) =
      row_if_else (bounds depth most) side b c f w d e st dt x y z (some_depth p) h (complete depth free p (omega arith)) (complete_body depth free q) (complete_body depth free o)
  complete_stmt {side = side} {most = most} depth free (sp_while {d = d} {e = e} {body = st} {x = x} {y = y} b c f p q) = row_while (bounds depth most) side b c f d e st x y (some_depth p) (complete depth free p (omega arith)) (complete_body depth free q)
  complete_stmt {side = side} {most = most} depth free (sp_do_while {d = d} {e = e} {body = st} {x = x} {y = y} b c f w h q p) = row_do_while (bounds depth most) side b c f w h d e st x y (some_depth p) (complete_body depth free q) (complete depth free p (omega arith))
  complete_stmt {side = side} {most = most} depth free (sp_for {d = d} {i = i} {test = test} {update = update} {body = st} {w = w} {x = x} {y = y} {z = z} b c f v h p q o s) =
      row_for (bounds depth most) side b c f v h d i test update st w x y z (body_deep s) (complete_init depth free p) (complete_test depth free q) (complete_update depth free o) (complete_body depth free s)
  complete_stmt {side = side} {most = most} depth free (sp_for_of_let {d = d} {x = x} {over = e} {body = st} {y = y} {z = z} b c f v h i o n p q) =
      row_for_of_let (bounds depth most) side b c f v h i d x e st y z (some_depth p) o n (complete depth free p (omega arith)) (complete_body depth free q)
  complete_stmt {side = side} {most = most} depth free (sp_for_of_const {d = d} {x = x} {over = e} {body = st} {y = y} {z = z} b c f v h i o n p q) =
      row_for_of_const (bounds depth most) side b c f v h i d x e st y z (some_depth p) o n (complete depth free p (omega arith)) (complete_body depth free q)
  complete_stmt {side = side} {most = most} depth free (sp_break {d = d} {b = b} {c = c}) = row_break (bounds depth most) side b c d
  complete_stmt {side = side} {most = most} depth free (sp_continue {d = d} {b = b} {c = c}) = row_continue (bounds depth most) side b c d
  complete_stmt {side = side} {most = most} depth free (sp_return_nothing {d = d} {b = b} {c = c}) = row_return_nothing (bounds depth most) side b c d
  complete_stmt {side = side} {most = most} depth free (sp_return {d = d} {e = e} {x = x} b c p i) = row_return (bounds depth most) side b c d e x (value_begins p) i (complete depth free p (omega arith))
  complete_stmt {side = side} {most = most} depth free (sp_throw {d = d} {e = e} {x = x} b c p i) = row_throw (bounds depth most) side b c d e x (some_depth p) (value_begins p) i (complete depth free p (omega arith))
  complete_stmt {side = side} {most = most} depth free (sp_try_catch {d = d} {block = bs} {c = c} {x = x} {y = y} b p q) = row_try_catch (bounds depth most) side b d bs c x y (complete_block depth free p) (complete_catch depth free q)
  complete_stmt {side = side} {most = most} depth free (sp_try_finally {d = d} {block = bs} {final = ls} {x = x} {y = y} b f p q) = row_try_finally (bounds depth most) side b f d bs ls x y (complete_block depth free p) (complete_block depth free q)
  complete_stmt {side = side} {most = most} depth free (sp_try_both {d = d} {block = bs} {final = ls} {c = c} {x = x} {y = y} {z = z} b f p q o) =
      row_try_both (bounds depth most) side b f d bs ls c x y z (complete_block depth free p) (complete_catch depth free q) (complete_block depth free o)
  complete_stmt {side = side} {most = most} depth free (sp_value {d = d} {e = e} {x = x} b p i) = row_value (bounds depth most) side b d e x (some_depth p) (value_begins p) i (complete depth free p (omega arith))
  complete_stmt {side = side} {most = most} depth free (sp_empty {d = d} {b = b}) = row_empty (bounds depth most) side b d
  complete_stmt {side = side} {most = most} depth free (sp_switch {d = d} {e = e} {cs = cs} {x = x} {y = y} b c f w h o p q) = row_switch (bounds depth most) side b c f w h d e cs x y (some_depth p) o (complete depth free p (omega arith)) (complete_clauses depth free q)

  complete_block : {side : Side} {most : Option ℕ} {d : ℕ} {ss : Stmts} {x : List Lexeme} (depth : Option ℕ) (free : Free most side) (p : SpellsBlock side most d ss x) → ReadsBlock (bounds depth most) side d ss x
  complete_block {side = side} {most = most} depth free (sp_braces {d = d} {ss = ss} {x = x} b c p) = row_braces (bounds depth most) side b c d ss x (complete_stmts depth free p)

  complete_body : {side : Side} {most : Option ℕ} {d : ℕ} {st : Stmt} {x : List Lexeme} (depth : Option ℕ) (free : Free most side) (p : SpellsBody side most d st x) → ReadsStmt (bounds depth most) side body_start d st x
  complete_body {side = side} {most = most} depth free (sp_body p h) s r i f =
      let a = complete_stmt depth free p s r i f in
      record { reach = a.reach; within = a.within; same = body_same (bounds depth most) p h s r f ∙ a.same }

  complete_catch : {side : Side} {most : Option ℕ} {d : ℕ} {c : Catch} {x : List Lexeme} (depth : Option ℕ) (free : Free most side) (p : SpellsCatch side most d c x) → ReadsCatch (bounds depth most) side d c x
  complete_catch {side = side} {most = most} depth free (sp_catch {d = d} {ss = ss} {x = x} {b = b} p) = row_catch (bounds depth most) side b d ss x (complete_block depth free p)
  complete_catch {side = side} {most = most} depth free (sp_catch_name {d = d} {x = x} {ss = ss} {y = y} {b = b} {c = c} {f = f} {g = w} h p) = row_catch_name (bounds depth most) side b c f w d x ss y h (complete_block depth free p)

  complete_clauses : {side : Side} {most : Option ℕ} {d : ℕ} {cs : Clauses} {x : List Lexeme} (depth : Option ℕ) (free : Free most side) (p : SpellsClauses side most d cs x) → ReadsClauses (bounds depth most) side d cs x
  complete_clauses {side = side} {most = most} depth free (sp_no_clauses {d = d}) = row_no_clauses (bounds depth most) side d
  complete_clauses {side = side} {most = most} depth free (sp_default {d = d} {ss = ss} {x = x} {b = b} {c = c} p) = row_default (bounds depth most) side b c d ss x (complete_stmts depth free p)
  complete_clauses {side = side} {most = most} depth free (sp_case {d = d} {n = n} {ss = ss} {cs = cs} {x = x} {y = y} b c f h p q) =
      row_case (bounds depth most) side b c f d n ss cs x y (clauses_behind q) (λ e ds m s b r. clause_ends (bounds depth most) q e ds n ss m s b r) (complete_stmts depth free p) (complete_clauses depth free q)

  pub complete_stmts : {side : Side} {most : Option ℕ} {d : ℕ} {ss : Stmts} {x : List Lexeme} (depth : Option ℕ) (free : Free most side) (p : SpellsStmts side most d ss x) → ReadsStmts (bounds depth most) side d ss x
  complete_stmts {side = side} {most = most} depth free (sp_end {d = d}) = row_end (bounds depth most) side d
  complete_stmts {side = side} {most = most} depth free (sp_next {d = d} {st = st} {ss = ss} {x = x} {y = y} p ps) = row_next (bounds depth most) side d st ss x y (stmts_behind ps) (complete_stmt depth free p) (complete_stmts depth free ps)
