-- A tree's own tokens go no deeper than any that spell it.
use Rattle.std.proofs.Common.{ℕ, suc, ◌≤◌, max, List, [], ◌∷◌, ◌++◌, Option, None, refl, arith, codes}
use Rattle.actx_grammar.specs.declared.operators.FunctionKind.{FunctionKind}
use Rattle.actx_grammar.specs.declared.operators.LogicOp.TheVariants.{Or, Coalesce}
use Rattle.actx_grammar.specs.declared.side.Side.{Side}
use Rattle.actx_grammar.specs.declared.token.Sign.TheVariants as g
use Rattle.actx_grammar.specs.declared.token.TokenKind.TheVariants as t
use Rattle.actx_grammar.specs.Forms.{level_of, sign_of}
use Rattle.actx_grammar.specs.Lexemes.{Lexeme, sign, lexeme}
use Rattle.actx_grammar.specs.Tree.{Expr, Exprs, MaybeExpr, Key, PropKey, Properties, Code, LetItems, ConstItems, Init, Stmt, Catch, Clauses, Stmts, Logic, Function, none, also, some_expr, no_properties, property, code, no_lets, let_item, no_consts, const_item, Return, end, next}
use Rattle.actx_grammar.specs.Grammar.{with_last, with_let, with_const, with_property, StartsStatement, SpellsMethodHead, Spells, SpellsOr, SpellsCoalesce, SpellsKey, SpellsArguments, SpellsList, SpellsPropKey, SpellsProperty, SpellsProperties, SpellsSome, SpellsFunction, SpellsLet, SpellsLets, SpellsConsts, SpellsMaybe, SpellsInit, SpellsStmt, SpellsBlock, SpellsBody, SpellsCatch, SpellsClauses, SpellsStmts, sp_method_head, sp_generator_head, sp_async_head, sp_arrow, sp_short_arrow, sp_yield_nothing, sp_yield, sp_yield_all, sp_set_name, sp_set_member, sp_change, sp_choice, sp_or, sp_coalesce, sp_and, sp_binary, sp_unary, sp_await, sp_bump_before, sp_bump_behind, sp_member, sp_call, sp_form, sp_call_with, sp_name, sp_number, sp_text, sp_true, sp_false, sp_null, sp_undefined, sp_this, sp_object, sp_function, sp_paren, sp_first_or, sp_more_or, sp_first_coalesce, sp_more_coalesce, sp_dot, sp_index, sp_no_arguments, sp_arguments, sp_arguments_comma, sp_one, sp_more, sp_fixed, sp_computed, sp_key_value, sp_name_alone, sp_undefined_alone, sp_method, sp_no_properties, sp_properties, sp_properties_comma, sp_one_property, sp_more_properties, sp_code, sp_let_alone, sp_let_value, sp_one_let, sp_more_lets, sp_one_const, sp_more_consts, sp_absent, sp_present, sp_init_nothing, sp_init_let, sp_init_const, sp_init_value, sp_let, sp_const, sp_fun, sp_block, sp_if, sp_if_else, sp_while, sp_do_while, sp_for, sp_for_of_let, sp_for_of_const, sp_break, sp_continue, sp_return_nothing, sp_return, sp_throw, sp_try_catch, sp_try_finally, sp_try_both, sp_value, sp_empty, sp_switch, sp_braces, sp_body, sp_catch, sp_catch_name, sp_no_clauses, sp_default, sp_case, sp_end, sp_next}
use Rattle.actx_grammar.specs.Spell.{left_level, inner, statement}
use Rattle.actx_grammar.specs.Depth.{depth, depth_key, depth_list, depth_prop_key, depth_properties, depth_maybe, depth_lets, depth_consts, depth_init, depth_stmt, depth_catch, depth_clauses, depth_program}
use Rattle.actx_laws.proofs.SpellPlaces.{may_front}
use Rattle.actx_laws.proofs.SpellBounds.{Bound, left_bound, inner_bound, leaf_bound, object_bound, code_bound, arrow_bound, form_bound, paren_bound, within_bound, lower_bound}

-- A PART AND SEVERAL PARTS
one_most : {d : ℕ} (e : Expr) {l : ℕ} {x : List Lexeme} → Bound (suc l) d e x → depth inner e 1 ≤ d
one_most e p = within_bound p 1 (omega arith)

begun_most : {d : ℕ} (e : Expr) {x : List Lexeme} → Bound 1 d e x → StartsStatement x → depth statement e 1 ≤ d
begun_most e p s = p.bare statement 1 (omega arith) s

two_most : {m n d : ℕ} → m ≤ d → n ≤ d → max m n ≤ d
two_most h i = omega arith

deeper_by_one : {m d : ℕ} → m ≤ d → suc m ≤ suc d
deeper_by_one h = omega arith

-- an arrow's body that is an expression counts as a return
short_most : (e : Expr) {d : ℕ} → depth inner e 1 ≤ d → depth_program (next (Return (some_expr e)) end) ≤ suc d
short_most e h = omega arith

or_small : (e : Expr) → left_level Or e ≤ 4
or_small (Logic Or a b) = omega arith
or_small _ = omega arith

coalesce_small : (e : Expr) → left_level Coalesce e ≤ 5
coalesce_small (Logic Coalesce a b) = omega arith
coalesce_small _ = omega arith

method_most : {side : Side} {d : ℕ} {kind : FunctionKind} {x : List Lexeme} (xs : List (List ℕ)) (ss : Stmts) → SpellsMethodHead side kind x → depth_program ss ≤ d → depth inner (Function (code None kind xs ss)) 1 ≤ suc d
method_most xs ss sp_method_head h = omega arith
method_most xs ss (sp_generator_head s) h = omega arith
method_most xs ss (sp_async_head s) h = omega arith

abbrev depth_code : Code → ℕ
depth_code (code x kind xs ss) = depth_program ss

-- LISTS THAT GROW AT THEIR END
list_most : {d : ℕ} (es : Exprs) (e : Expr) → depth_list es ≤ d → depth inner e 1 ≤ d → depth_list (with_last es e) ≤ d
list_most none e h i = omega arith
list_most (also f es) e h i = two_most (omega arith) (list_most es e (omega arith) i)

properties_most : {d : ℕ} (ps : Properties) (key : PropKey) (e : Expr) → depth_properties ps ≤ d → max (depth_prop_key key) (depth inner e 1) ≤ d → depth_properties (with_property ps key e) ≤ d
properties_most no_properties key e h i = omega arith
properties_most (property j f ps) key e h i = two_most (omega arith) (properties_most ps key e (omega arith) i)

lets_most : {d : ℕ} (is : LetItems) (x : List ℕ) (v : MaybeExpr) → depth_lets is ≤ d → depth_maybe v ≤ d → depth_lets (with_let is x v) ≤ d
lets_most no_lets x v h i = omega arith
lets_most (let_item y w is) x v h i = two_most (omega arith) (lets_most is x v (omega arith) i)

consts_most : {d : ℕ} (is : ConstItems) (x : List ℕ) (e : Expr) → depth_consts is ≤ d → depth inner e 1 ≤ d → depth_consts (with_const is x e) ≤ d
consts_most no_consts x e h i = omega arith
consts_most (const_item y f is) x e h i = two_most (omega arith) (consts_most is x e (omega arith) i)

mutual
  bound : {side : Side} {most : Option ℕ} {l d : ℕ} {e : Expr} {x : List Lexeme} → Spells side most l d e x → Bound l d e x
  bound (sp_arrow {ss = ss} b c h ps p) = arrow_bound ss h ps (bound_stmts p)
  bound (sp_short_arrow {e = e} h ps p s) = arrow_bound (next (Return (some_expr e)) end) h ps (short_most e (one_most e (bound p)))
  bound (sp_yield_nothing q h) = inner_bound 1 0 h (λ st m. refl) (omega arith)
  bound (sp_yield {e = e} q h p s) = inner_bound 1 (depth inner e 1) h (λ st m. refl) (one_most e (bound p))
  bound (sp_yield_all {e = e} q h p) = inner_bound 1 (depth inner e 1) h (λ st m. refl) (one_most e (bound p))
  bound (sp_set_name {e = e} h n p) = inner_bound 1 (depth inner e 1) h (λ st m. refl) (one_most e (bound p))
  bound (sp_set_member {e = e} {v = v} {key = key} {x = x} {y = y} {z = z} b h p k q) =
      left_bound 1 11 (max (depth_key key) (depth inner v 1)) h (λ st m. refl) (bound p) (omega arith) (λ st a. may_front st x y (may_front st (x ++ y) (sign g.Assign b ∷ z) a)) (two_most (bound_key k) (one_most v (bound q)))
  bound (sp_change {e = e} h n c p) = inner_bound 1 (depth inner e 1) h (λ st m. refl) (one_most e (bound p))
  bound (sp_choice {f = f} {g = v} {x = x} {y = y} {z = z} b c h p q r) =
      left_bound 2 3 (max (depth inner f 1) (depth inner v 1)) h (λ st m. refl) (bound p) (omega arith) (λ st a. may_front st x (sign g.Question b ∷ (y ++ sign g.Colon c ∷ z)) a) (two_most (one_most f (bound q)) (one_most v (bound r)))
  bound (sp_or h p) = lower_bound h (bound_or p)
  bound (sp_coalesce h p) = lower_bound h (bound_coalesce p)
  bound (sp_and {f = f} {x = x} {y = y} b h p q) = left_bound 4 4 (depth inner f 5) h (λ st m. refl) (bound p) (omega arith) (λ st a. may_front st x (sign g.And b ∷ y) a) (within_bound (bound q) 5 (omega arith))
  bound (sp_binary {f = f} {x = x} {y = y} op b h p q) = left_bound (level_of op) (level_of op) (depth inner f (suc (level_of op))) h (λ st m. refl) (bound p) (omega arith) (λ st a. may_front st x (sign (sign_of op) b ∷ y) a) (within_bound (bound q) (suc (level_of op)) (omega arith))
  bound (sp_unary {e = e} op h p) = inner_bound 9 (depth inner e 9) h (λ st m. refl) (within_bound (bound p) 9 (omega arith))
  bound (sp_await {e = e} s h p) = inner_bound 9 (depth inner e 9) h (λ st m. refl) (within_bound (bound p) 9 (omega arith))
  bound (sp_bump_before h n) = inner_bound 10 0 h (λ st m. refl) (omega arith)
  bound (sp_bump_behind h n) = inner_bound 10 0 h (λ st m. refl) (omega arith)
  bound (sp_member {key = key} {x = x} {y = y} h p k) = left_bound 11 11 (depth_key key) h (λ st m. refl) (bound p) (omega arith) (λ st a. may_front st x y a) (bound_key k)
  bound (sp_call {es = es} {x = x} {y = y} h p a) = left_bound 11 11 (depth_list es) h (λ st m. refl) (bound p) (omega arith) (λ st a. may_front st x y a) (bound_arguments a)
  bound {side = side} (sp_form {es = es} form x h w q a s) = form_bound side form es h w (bound_arguments a)
  bound (sp_call_with {es = es} {x = x} {y = y} b c s h p a) = left_bound 11 11 (depth_list es) h (λ st m. refl) (bound p) (omega arith) (λ st a. may_front st x (sign g.Dot b ∷ lexeme (t.Name (codes "call")) c ∷ y) a) (bound_arguments a)
  bound (sp_name h) = leaf_bound (λ st m. refl)
  bound (sp_number h) = leaf_bound (λ st m. refl)
  bound (sp_text h) = leaf_bound (λ st m. refl)
  bound sp_true = leaf_bound (λ st m. refl)
  bound sp_false = leaf_bound (λ st m. refl)
  bound sp_null = leaf_bound (λ st m. refl)
  bound sp_undefined = leaf_bound (λ st m. refl)
  bound sp_this = leaf_bound (λ st m. refl)
  bound (sp_object {ps = ps} {x = x} b c p) = object_bound ps (x ++ sign g.CloseBrace c ∷ []) b (bound_properties p)
  bound (sp_function p) = bound_function p
  bound (sp_paren b c p) = paren_bound (bound p)

  bound_or : {side : Side} {most : Option ℕ} {d : ℕ} {e f : Expr} {x : List Lexeme} → SpellsOr side most d e f x → Bound 3 (suc d) (Logic Or e f) x
  bound_or (sp_first_or {e = e} {f = f} {x = x} {y = y} b p q) = left_bound 3 (left_level Or e) (depth inner f 4) (omega arith) (λ st m. refl) (bound p) (or_small e) (λ st a. may_front st x (sign g.Or b ∷ y) a) (within_bound (bound q) 4 (omega arith))
  bound_or (sp_more_or {g = v} {x = x} {y = y} b p q) = left_bound 3 3 (depth inner v 4) (omega arith) (λ st m. refl) (bound_or p) (omega arith) (λ st a. may_front st x (sign g.Or b ∷ y) a) (within_bound (bound q) 4 (omega arith))

  bound_coalesce : {side : Side} {most : Option ℕ} {d : ℕ} {e f : Expr} {x : List Lexeme} → SpellsCoalesce side most d e f x → Bound 3 (suc d) (Logic Coalesce e f) x
  bound_coalesce (sp_first_coalesce {e = e} {f = f} {x = x} {y = y} b p q) = left_bound 3 (left_level Coalesce e) (depth inner f 5) (omega arith) (λ st m. refl) (bound p) (coalesce_small e) (λ st a. may_front st x (sign g.Coalesce b ∷ y) a) (within_bound (bound q) 5 (omega arith))
  bound_coalesce (sp_more_coalesce {g = v} {x = x} {y = y} b p q) = left_bound 3 3 (depth inner v 5) (omega arith) (λ st m. refl) (bound_coalesce p) (omega arith) (λ st a. may_front st x (sign g.Coalesce b ∷ y) a) (within_bound (bound q) 5 (omega arith))

  bound_key : {side : Side} {most : Option ℕ} {d : ℕ} {key : Key} {x : List Lexeme} → SpellsKey side most d key x → depth_key key ≤ d
  bound_key (sp_dot w h k) = omega arith
  bound_key (sp_index {e = e} b c p) = one_most e (bound p)

  bound_arguments : {side : Side} {most : Option ℕ} {d : ℕ} {es : Exprs} {x : List Lexeme} → SpellsArguments side most d es x → depth_list es ≤ d
  bound_arguments sp_no_arguments = omega arith
  bound_arguments (sp_arguments b c p a) = bound_list p
  bound_arguments (sp_arguments_comma b c f p a) = bound_list p

  bound_list : {side : Side} {most : Option ℕ} {d : ℕ} {es : Exprs} {x : List Lexeme} → SpellsList side most d es x → depth_list es ≤ d
  bound_list (sp_one {e = e} p) = two_most (one_most e (bound p)) (omega arith)
  bound_list (sp_more {es = es} {e = e} b ps p) = list_most es e (bound_list ps) (one_most e (bound p))

  bound_prop_key : {side : Side} {most : Option ℕ} {d : ℕ} {key : PropKey} {x : List Lexeme} → SpellsPropKey side most d key x → depth_prop_key key ≤ d
  bound_prop_key (sp_fixed h q) = omega arith
  bound_prop_key (sp_computed {e = e} b c p) = one_most e (bound p)

  bound_property : {side : Side} {most : Option ℕ} {d : ℕ} {key : PropKey} {e : Expr} {x : List Lexeme} → SpellsProperty side most d key e x → max (depth_prop_key key) (depth inner e 1) ≤ d
  bound_property (sp_key_value {e = e} b k p) = two_most (bound_prop_key k) (one_most e (bound p))
  bound_property (sp_name_alone q h) = omega arith
  bound_property sp_undefined_alone = omega arith
  bound_property (sp_method {key = key} {xs = xs} {ss = ss} b c h k s ps p) = two_most (bound_prop_key k) (method_most xs ss h (bound_stmts p))

  bound_properties : {side : Side} {most : Option ℕ} {d : ℕ} {ps : Properties} {x : List Lexeme} → SpellsProperties side most d ps x → depth_properties ps ≤ d
  bound_properties sp_no_properties = omega arith
  bound_properties (sp_properties p) = bound_some p
  bound_properties (sp_properties_comma b p) = bound_some p

  bound_some : {side : Side} {most : Option ℕ} {d : ℕ} {ps : Properties} {x : List Lexeme} → SpellsSome side most d ps x → depth_properties ps ≤ d
  bound_some (sp_one_property p) = two_most (bound_property p) (omega arith)
  bound_some (sp_more_properties {ps = ps} {key = key} {e = e} b os p) = properties_most ps key e (bound_some os) (bound_property p)

  bound_function : {side : Side} {most : Option ℕ} {l d : ℕ} {f : Code} {x : List Lexeme} → SpellsFunction side most d f x → Bound l (suc d) (Function f) x
  bound_function {side = side} (sp_code {ss = ss} {x = x} {y = y} {z = z} b c h ps p) = code_bound side ss h (λ a. may_front statement x y (may_front statement (x ++ y) (sign g.OpenBrace b ∷ (z ++ sign g.CloseBrace c ∷ [])) a)) (bound_stmts p)

  bound_code : {side : Side} {most : Option ℕ} {d : ℕ} {f : Code} {x : List Lexeme} → SpellsFunction side most d f x → depth_code f ≤ d
  bound_code (sp_code b c h ps p) = bound_stmts p

  bound_let : {side : Side} {most : Option ℕ} {d : ℕ} {x : List ℕ} {v : MaybeExpr} {y : List Lexeme} → SpellsLet side most d x v y → depth_maybe v ≤ d
  bound_let (sp_let_alone h) = omega arith
  bound_let (sp_let_value {e = e} h p) = one_most e (bound p)

  bound_lets : {side : Side} {most : Option ℕ} {d : ℕ} {is : LetItems} {x : List Lexeme} → SpellsLets side most d is x → depth_lets is ≤ d
  bound_lets (sp_one_let p) = two_most (bound_let p) (omega arith)
  bound_lets (sp_more_lets {is = is} {x = x} {v = v} b ps p) = lets_most is x v (bound_lets ps) (bound_let p)

  bound_consts : {side : Side} {most : Option ℕ} {d : ℕ} {is : ConstItems} {x : List Lexeme} → SpellsConsts side most d is x → depth_consts is ≤ d
  bound_consts (sp_one_const {e = e} h p) = two_most (one_most e (bound p)) (omega arith)
  bound_consts (sp_more_consts {is = is} {x = x} {e = e} b c f ps h p) = consts_most is x e (bound_consts ps) (one_most e (bound p))

  bound_maybe : {side : Side} {most : Option ℕ} {d : ℕ} {v : MaybeExpr} {x : List Lexeme} → SpellsMaybe side most d v x → depth_maybe v ≤ d
  bound_maybe sp_absent = omega arith
  bound_maybe (sp_present {e = e} p) = one_most e (bound p)

  bound_init : {side : Side} {most : Option ℕ} {d : ℕ} {i : Init} {x : List Lexeme} → SpellsInit side most d i x → depth_init i ≤ d
  bound_init sp_init_nothing = omega arith
  bound_init (sp_init_let p) = bound_lets p
  bound_init (sp_init_const p) = bound_consts p
  bound_init (sp_init_value {e = e} p) = one_most e (bound p)

  bound_stmt : {side : Side} {most : Option ℕ} {d : ℕ} {st : Stmt} {x : List Lexeme} → SpellsStmt side most d st x → depth_stmt st ≤ d
  bound_stmt (sp_let b c p) = deeper_by_one (bound_lets p)
  bound_stmt (sp_const b c p) = deeper_by_one (bound_consts p)
  bound_stmt (sp_fun p) = deeper_by_one (bound_code p)
  bound_stmt (sp_block p) = deeper_by_one (bound_block p)
  bound_stmt (sp_if {e = e} b c f p q) = deeper_by_one (two_most (one_most e (bound p)) (two_most (bound_body q) (omega arith)))
  bound_stmt (sp_if_else {e = e} b c f g p q h r) = deeper_by_one (two_most (one_most e (bound p)) (two_most (bound_body q) (bound_body r)))
  bound_stmt (sp_while {e = e} b c f p q) = deeper_by_one (two_most (one_most e (bound p)) (bound_body q))
  bound_stmt (sp_do_while {e = e} b c f g h q p) = deeper_by_one (two_most (bound_body q) (one_most e (bound p)))
  bound_stmt (sp_for b c f g h i p q r) = deeper_by_one (two_most (two_most (bound_init i) (bound_maybe p)) (two_most (bound_maybe q) (bound_body r)))
  bound_stmt (sp_for_of_let {over = e} b c f g h i s n p q) = deeper_by_one (two_most (one_most e (bound p)) (bound_body q))
  bound_stmt (sp_for_of_const {over = e} b c f g h i s n p q) = deeper_by_one (two_most (one_most e (bound p)) (bound_body q))
  bound_stmt sp_break = omega arith
  bound_stmt sp_continue = omega arith
  bound_stmt sp_return_nothing = omega arith
  bound_stmt (sp_return {e = e} b c p s) = deeper_by_one (one_most e (bound p))
  bound_stmt (sp_throw {e = e} b c p s) = deeper_by_one (one_most e (bound p))
  bound_stmt (sp_try_catch b p q) = deeper_by_one (two_most (bound_block p) (two_most (bound_catch q) (omega arith)))
  bound_stmt (sp_try_finally b f p q) = deeper_by_one (two_most (bound_block p) (two_most (omega arith) (bound_block q)))
  bound_stmt (sp_try_both b f p q r) = deeper_by_one (two_most (bound_block p) (two_most (bound_catch q) (bound_block r)))
  bound_stmt (sp_value {e = e} b p s) = deeper_by_one (begun_most e (bound p) s)
  bound_stmt sp_empty = omega arith
  bound_stmt (sp_switch {e = e} b c f g h s p q) = deeper_by_one (two_most (one_most e (bound p)) (bound_clauses q))

  bound_block : {side : Side} {most : Option ℕ} {d : ℕ} {ss : Stmts} {x : List Lexeme} → SpellsBlock side most d ss x → depth_program ss ≤ d
  bound_block (sp_braces b c p) = bound_stmts p

  bound_body : {side : Side} {most : Option ℕ} {d : ℕ} {st : Stmt} {x : List Lexeme} → SpellsBody side most d st x → depth_stmt st ≤ d
  bound_body (sp_body p h) = bound_stmt p

  bound_catch : {side : Side} {most : Option ℕ} {d : ℕ} {c : Catch} {x : List Lexeme} → SpellsCatch side most d c x → depth_catch c ≤ d
  bound_catch (sp_catch p) = bound_block p
  bound_catch (sp_catch_name h p) = bound_block p

  bound_clauses : {side : Side} {most : Option ℕ} {d : ℕ} {cs : Clauses} {x : List Lexeme} → SpellsClauses side most d cs x → depth_clauses cs ≤ d
  bound_clauses sp_no_clauses = omega arith
  bound_clauses (sp_default p) = two_most (bound_stmts p) (omega arith)
  bound_clauses (sp_case b c f h p q) = two_most (bound_stmts p) (bound_clauses q)

  pub bound_stmts : {side : Side} {most : Option ℕ} {d : ℕ} {ss : Stmts} {x : List Lexeme} → SpellsStmts side most d ss x → depth_program ss ≤ d
  bound_stmts sp_end = omega arith
  bound_stmts (sp_next p ps) = two_most (bound_stmt p) (bound_stmts ps)
