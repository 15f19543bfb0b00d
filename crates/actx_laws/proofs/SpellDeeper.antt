-- What is spelled within a depth is spelled within every greater one.
use Rattle.std.proofs.Common.{◌≡◌, ℕ, zero, suc, ◌<◌, ◌≤◌, ◌⊎◌, inl, inr, List, Option, subst, arith, eq-or-lt_of_le}
use Rattle.actx_grammar.specs.declared.side.Side.{Side}
use Rattle.actx_grammar.specs.Lexemes.{Lexeme}
use Rattle.actx_grammar.specs.Tree.{Expr, Exprs, MaybeExpr, Key, PropKey, Properties, Code, LetItems, ConstItems, Init, Stmt, Catch, Clauses, Stmts}
use Rattle.actx_grammar.specs.Grammar.{Spells, SpellsOr, SpellsCoalesce, SpellsKey, SpellsArguments, SpellsList, SpellsPropKey, SpellsProperty, SpellsProperties, SpellsSome, SpellsFunction, SpellsLet, SpellsLets, SpellsConsts, SpellsMaybe, SpellsInit, SpellsStmt, SpellsBlock, SpellsBody, SpellsCatch, SpellsClauses, SpellsStmts, sp_arrow, sp_short_arrow, sp_yield_nothing, sp_yield, sp_yield_all, sp_set_name, sp_set_member, sp_change, sp_choice, sp_or, sp_coalesce, sp_and, sp_binary, sp_unary, sp_await, sp_bump_before, sp_bump_behind, sp_member, sp_call, sp_form, sp_call_with, sp_name, sp_number, sp_text, sp_true, sp_false, sp_null, sp_undefined, sp_this, sp_object, sp_function, sp_paren, sp_first_or, sp_more_or, sp_first_coalesce, sp_more_coalesce, sp_dot, sp_index, sp_no_arguments, sp_arguments, sp_arguments_comma, sp_one, sp_more, sp_fixed, sp_computed, sp_key_value, sp_name_alone, sp_undefined_alone, sp_method, sp_no_properties, sp_properties, sp_properties_comma, sp_one_property, sp_more_properties, sp_code, sp_let_alone, sp_let_value, sp_one_let, sp_more_lets, sp_one_const, sp_more_consts, sp_absent, sp_present, sp_init_nothing, sp_init_let, sp_init_const, sp_init_value, sp_let, sp_const, sp_fun, sp_block, sp_if, sp_if_else, sp_while, sp_do_while, sp_for, sp_for_of_let, sp_for_of_const, sp_break, sp_continue, sp_return_nothing, sp_return, sp_throw, sp_try_catch, sp_try_finally, sp_try_both, sp_value, sp_empty, sp_switch, sp_braces, sp_body, sp_catch, sp_catch_name, sp_no_clauses, sp_default, sp_case, sp_end, sp_next}

-- WITHIN ONE LEVEL MORE
mutual
  one : {side : Side} {most : Option ℕ} {l d : ℕ} {e : Expr} {x : List Lexeme} → Spells side most l d e x → Spells side most l (suc d) e x
  one (sp_arrow b c h ps p) = sp_arrow b c h ps (one_stmts p)
  one (sp_short_arrow h ps p s) = sp_short_arrow h ps (one p) s
  one (sp_yield_nothing q h) = sp_yield_nothing q h
  one (sp_yield q h p s) = sp_yield q h (one p) s
  one (sp_yield_all q h p) = sp_yield_all q h (one p)
  one (sp_set_name h n p) = sp_set_name h n (one p)
  one (sp_set_member b h p k q) = sp_set_member b h (one p) (one_key k) (one q)
  one (sp_change h n c p) = sp_change h n c (one p)
  one (sp_choice b c h p q r) = sp_choice b c h (one p) (one q) (one r)
  one (sp_or h p) = sp_or h (one_or p)
  one (sp_coalesce h p) = sp_coalesce h (one_coalesce p)
  one (sp_and b h p q) = sp_and b h (one p) (one q)
  one (sp_binary op b h p q) = sp_binary op b h (one p) (one q)
  one (sp_unary op h p) = sp_unary op h (one p)
  one (sp_await s h p) = sp_await s h (one p)
  one (sp_bump_before h n) = sp_bump_before h n
  one (sp_bump_behind h n) = sp_bump_behind h n
  one (sp_member h p k) = sp_member h (one p) (one_key k)
  one (sp_call h p a) = sp_call h (one p) (one_arguments a)
  one (sp_form form x h w q a s) = sp_form form x h w q (one_arguments a) s
  one (sp_call_with b c s h p a) = sp_call_with b c s h (one p) (one_arguments a)
  one (sp_name h) = sp_name h
  one (sp_number h) = sp_number h
  one (sp_text h) = sp_text h
  one sp_true = sp_true
  one sp_false = sp_false
  one sp_null = sp_null
  one sp_undefined = sp_undefined
  one sp_this = sp_this
  one (sp_object b c p) = sp_object b c (one_properties p)
  one (sp_function p) = sp_function (one_function p)
  one (sp_paren b c p) = sp_paren b c (one p)

  one_or : {side : Side} {most : Option ℕ} {d : ℕ} {e f : Expr} {x : List Lexeme} → SpellsOr side most d e f x → SpellsOr side most (suc d) e f x
  one_or (sp_first_or b p q) = sp_first_or b (one p) (one q)
  one_or (sp_more_or b p q) = sp_more_or b (one_or p) (one q)

  one_coalesce : {side : Side} {most : Option ℕ} {d : ℕ} {e f : Expr} {x : List Lexeme} → SpellsCoalesce side most d e f x → SpellsCoalesce side most (suc d) e f x
  one_coalesce (sp_first_coalesce b p q) = sp_first_coalesce b (one p) (one q)
  one_coalesce (sp_more_coalesce b p q) = sp_more_coalesce b (one_coalesce p) (one q)

  one_key : {side : Side} {most : Option ℕ} {d : ℕ} {key : Key} {x : List Lexeme} → SpellsKey side most d key x → SpellsKey side most (suc d) key x
  one_key (sp_dot w h k) = sp_dot w h k
  one_key (sp_index b c p) = sp_index b c (one p)

  one_arguments : {side : Side} {most : Option ℕ} {d : ℕ} {es : Exprs} {x : List Lexeme} → SpellsArguments side most d es x → SpellsArguments side most (suc d) es x
  one_arguments sp_no_arguments = sp_no_arguments
  one_arguments (sp_arguments b c p a) = sp_arguments b c (one_list p) a
  one_arguments (sp_arguments_comma b c f p a) = sp_arguments_comma b c f (one_list p) a

  one_list : {side : Side} {most : Option ℕ} {d : ℕ} {es : Exprs} {x : List Lexeme} → SpellsList side most d es x → SpellsList side most (suc d) es x
  one_list (sp_one p) = sp_one (one p)
  one_list (sp_more b ps p) = sp_more b (one_list ps) (one p)

  one_prop_key : {side : Side} {most : Option ℕ} {d : ℕ} {key : PropKey} {x : List Lexeme} → SpellsPropKey side most d key x → SpellsPropKey side most (suc d) key x
  one_prop_key (sp_fixed h q) = sp_fixed h q
  one_prop_key (sp_computed b c p) = sp_computed b c (one p)

  one_property : {side : Side} {most : Option ℕ} {d : ℕ} {key : PropKey} {e : Expr} {x : List Lexeme} → SpellsProperty side most d key e x → SpellsProperty side most (suc d) key e x
  one_property (sp_key_value b k p) = sp_key_value b (one_prop_key k) (one p)
  one_property (sp_name_alone q h) = sp_name_alone q h
  one_property sp_undefined_alone = sp_undefined_alone
  one_property (sp_method b c h k s ps p) = sp_method b c h (one_prop_key k) s ps (one_stmts p)

  one_properties : {side : Side} {most : Option ℕ} {d : ℕ} {ps : Properties} {x : List Lexeme} → SpellsProperties side most d ps x → SpellsProperties side most (suc d) ps x
  one_properties sp_no_properties = sp_no_properties
  one_properties (sp_properties p) = sp_properties (one_some p)
  one_properties (sp_properties_comma b p) = sp_properties_comma b (one_some p)

  one_some : {side : Side} {most : Option ℕ} {d : ℕ} {ps : Properties} {x : List Lexeme} → SpellsSome side most d ps x → SpellsSome side most (suc d) ps x
  one_some (sp_one_property p) = sp_one_property (one_property p)
  one_some (sp_more_properties b ps p) = sp_more_properties b (one_some ps) (one_property p)

  one_function : {side : Side} {most : Option ℕ} {d : ℕ} {f : Code} {x : List Lexeme} → SpellsFunction side most d f x → SpellsFunction side most (suc d) f x
  one_function (sp_code b c h ps p) = sp_code b c h ps (one_stmts p)

  one_let : {side : Side} {most : Option ℕ} {d : ℕ} {x : List ℕ} {v : MaybeExpr} {y : List Lexeme} → SpellsLet side most d x v y → SpellsLet side most (suc d) x v y
  one_let (sp_let_alone h) = sp_let_alone h
  one_let (sp_let_value h p) = sp_let_value h (one p)

  one_lets : {side : Side} {most : Option ℕ} {d : ℕ} {is : LetItems} {x : List Lexeme} → SpellsLets side most d is x → SpellsLets side most (suc d) is x
  one_lets (sp_one_let p) = sp_one_let (one_let p)
  one_lets (sp_more_lets b ps p) = sp_more_lets b (one_lets ps) (one_let p)

  one_consts : {side : Side} {most : Option ℕ} {d : ℕ} {is : ConstItems} {x : List Lexeme} → SpellsConsts side most d is x → SpellsConsts side most (suc d) is x
  one_consts (sp_one_const h p) = sp_one_const h (one p)
  one_consts (sp_more_consts b c f ps h p) = sp_more_consts b c f (one_consts ps) h (one p)

  one_maybe : {side : Side} {most : Option ℕ} {d : ℕ} {v : MaybeExpr} {x : List Lexeme} → SpellsMaybe side most d v x → SpellsMaybe side most (suc d) v x
  one_maybe sp_absent = sp_absent
  one_maybe (sp_present p) = sp_present (one p)

  one_init : {side : Side} {most : Option ℕ} {d : ℕ} {i : Init} {x : List Lexeme} → SpellsInit side most d i x → SpellsInit side most (suc d) i x
  one_init sp_init_nothing = sp_init_nothing
  one_init (sp_init_let p) = sp_init_let (one_lets p)
  one_init (sp_init_const p) = sp_init_const (one_consts p)
  one_init (sp_init_value p) = sp_init_value (one p)

  one_stmt : {side : Side} {most : Option ℕ} {d : ℕ} {st : Stmt} {x : List Lexeme} → SpellsStmt side most d st x → SpellsStmt side most (suc d) st x
  one_stmt (sp_let b c p) = sp_let b c (one_lets p)
  one_stmt (sp_const b c p) = sp_const b c (one_consts p)
  one_stmt (sp_fun p) = sp_fun (one_function p)
  one_stmt (sp_block p) = sp_block (one_block p)
  one_stmt (sp_if b c f p q) = sp_if b c f (one p) (one_body q)
  one_stmt (sp_if_else b c f g p q h r) = sp_if_else b c f g (one p) (one_body q) h (one_body r)
  one_stmt (sp_while b c f p q) = sp_while b c f (one p) (one_body q)
  one_stmt (sp_do_while b c f g h q p) = sp_do_while b c f g h (one_body q) (one p)
  one_stmt (sp_for b c f g h i p q r) = sp_for b c f g h (one_init i) (one_maybe p) (one_maybe q) (one_body r)
  one_stmt (sp_for_of_let b c f g h i s n p q) = sp_for_of_let b c f g h i s n (one p) (one_body q)
  one_stmt (sp_for_of_const b c f g h i s n p q) = sp_for_of_const b c f g h i s n (one p) (one_body q)
  one_stmt sp_break = sp_break
  one_stmt sp_continue = sp_continue
  one_stmt sp_return_nothing = sp_return_nothing
  one_stmt (sp_return b c p s) = sp_return b c (one p) s
  one_stmt (sp_throw b c p s) = sp_throw b c (one p) s
  one_stmt (sp_try_catch b p q) = sp_try_catch b (one_block p) (one_catch q)
  one_stmt (sp_try_finally b f p q) = sp_try_finally b f (one_block p) (one_block q)
  one_stmt (sp_try_both b f p q r) = sp_try_both b f (one_block p) (one_catch q) (one_block r)
  one_stmt (sp_value b p s) = sp_value b (one p) s
  one_stmt sp_empty = sp_empty
  one_stmt (sp_switch b c f g h s p q) = sp_switch b c f g h s (one p) (one_clauses q)

  one_block : {side : Side} {most : Option ℕ} {d : ℕ} {ss : Stmts} {x : List Lexeme} → SpellsBlock side most d ss x → SpellsBlock side most (suc d) ss x
  one_block (sp_braces b c p) = sp_braces b c (one_stmts p)

  one_body : {side : Side} {most : Option ℕ} {d : ℕ} {st : Stmt} {x : List Lexeme} → SpellsBody side most d st x → SpellsBody side most (suc d) st x
  one_body (sp_body p h) = sp_body (one_stmt p) h

  one_catch : {side : Side} {most : Option ℕ} {d : ℕ} {c : Catch} {x : List Lexeme} → SpellsCatch side most d c x → SpellsCatch side most (suc d) c x
  one_catch (sp_catch p) = sp_catch (one_block p)
  one_catch (sp_catch_name h p) = sp_catch_name h (one_block p)

  one_clauses : {side : Side} {most : Option ℕ} {d : ℕ} {cs : Clauses} {x : List Lexeme} → SpellsClauses side most d cs x → SpellsClauses side most (suc d) cs x
  one_clauses sp_no_clauses = sp_no_clauses
  one_clauses (sp_default p) = sp_default (one_stmts p)
  one_clauses (sp_case b c f h p q) = sp_case b c f h (one_stmts p) (one_clauses q)

  one_stmts : {side : Side} {most : Option ℕ} {d : ℕ} {ss : Stmts} {x : List Lexeme} → SpellsStmts side most d ss x → SpellsStmts side most (suc d) ss x
  one_stmts sp_end = sp_end
  one_stmts (sp_next p ps) = sp_next (one_stmt p) (one_stmts ps)

-- WITHIN EVERY GREATER DEPTH
grown : (P : ℕ → Type 0) (d n : ℕ) → (P n → P (suc n)) → (d < suc n → P n) → P d → (d ≡ suc n) ⊎ (d < suc n) → P (suc n)
grown P d n step below p (inl q) = subst P q p
grown P d n step below p (inr i) = step (below i)

climb : (P : ℕ → Type 0) → ((d : ℕ) → P d → P (suc d)) → (d n : ℕ) → d ≤ n → P d → P n
climb P step d zero h p = let q : d ≡ 0 = omega arith in subst P q p
climb P step d (suc n) h p = grown P d n (step n) (λ i. climb P step d n (omega arith) p) p (eq-or-lt_of_le h)

pub deeper : {side : Side} {most : Option ℕ} {d n : ℕ} {l : ℕ} {e : Expr} {x : List Lexeme} → Spells side most l d e x → d ≤ n → Spells side most l n e x
deeper {side} {most} {d} {n} {l} {e} {x} p h = climb (λ k. Spells side most l k e x) (λ k. one) d n h p

pub deeper_or : {side : Side} {most : Option ℕ} {d n : ℕ} {e f : Expr} {x : List Lexeme} → SpellsOr side most d e f x → d ≤ n → SpellsOr side most n e f x
deeper_or {side} {most} {d} {n} {e} {f} {x} p h = climb (λ k. SpellsOr side most k e f x) (λ k. one_or) d n h p

pub deeper_coalesce : {side : Side} {most : Option ℕ} {d n : ℕ} {e f : Expr} {x : List Lexeme} → SpellsCoalesce side most d e f x → d ≤ n → SpellsCoalesce side most n e f x
deeper_coalesce {side} {most} {d} {n} {e} {f} {x} p h = climb (λ k. SpellsCoalesce side most k e f x) (λ k. one_coalesce) d n h p

pub deeper_key : {side : Side} {most : Option ℕ} {d n : ℕ} {key : Key} {x : List Lexeme} → SpellsKey side most d key x → d ≤ n → SpellsKey side most n key x
deeper_key {side} {most} {d} {n} {key} {x} p h = climb (λ k. SpellsKey side most k key x) (λ k. one_key) d n h p

pub deeper_arguments : {side : Side} {most : Option ℕ} {d n : ℕ} {es : Exprs} {x : List Lexeme} → SpellsArguments side most d es x → d ≤ n → SpellsArguments side most n es x
deeper_arguments {side} {most} {d} {n} {es} {x} p h = climb (λ k. SpellsArguments side most k es x) (λ k. one_arguments) d n h p

pub deeper_list : {side : Side} {most : Option ℕ} {d n : ℕ} {es : Exprs} {x : List Lexeme} → SpellsList side most d es x → d ≤ n → SpellsList side most n es x
deeper_list {side} {most} {d} {n} {es} {x} p h = climb (λ k. SpellsList side most k es x) (λ k. one_list) d n h p

pub deeper_prop_key : {side : Side} {most : Option ℕ} {d n : ℕ} {key : PropKey} {x : List Lexeme} → SpellsPropKey side most d key x → d ≤ n → SpellsPropKey side most n key x
deeper_prop_key {side} {most} {d} {n} {key} {x} p h = climb (λ k. SpellsPropKey side most k key x) (λ k. one_prop_key) d n h p

pub deeper_property : {side : Side} {most : Option ℕ} {d n : ℕ} {key : PropKey} {e : Expr} {x : List Lexeme} → SpellsProperty side most d key e x → d ≤ n → SpellsProperty side most n key e x
deeper_property {side} {most} {d} {n} {key} {e} {x} p h = climb (λ k. SpellsProperty side most k key e x) (λ k. one_property) d n h p

pub deeper_properties : {side : Side} {most : Option ℕ} {d n : ℕ} {ps : Properties} {x : List Lexeme} → SpellsProperties side most d ps x → d ≤ n → SpellsProperties side most n ps x
deeper_properties {side} {most} {d} {n} {ps} {x} p h = climb (λ k. SpellsProperties side most k ps x) (λ k. one_properties) d n h p

pub deeper_some : {side : Side} {most : Option ℕ} {d n : ℕ} {ps : Properties} {x : List Lexeme} → SpellsSome side most d ps x → d ≤ n → SpellsSome side most n ps x
deeper_some {side} {most} {d} {n} {ps} {x} p h = climb (λ k. SpellsSome side most k ps x) (λ k. one_some) d n h p

pub deeper_let : {side : Side} {most : Option ℕ} {d n : ℕ} {x : List ℕ} {v : MaybeExpr} {y : List Lexeme} → SpellsLet side most d x v y → d ≤ n → SpellsLet side most n x v y
deeper_let {side} {most} {d} {n} {x} {v} {y} p h = climb (λ k. SpellsLet side most k x v y) (λ k. one_let) d n h p

pub deeper_lets : {side : Side} {most : Option ℕ} {d n : ℕ} {is : LetItems} {x : List Lexeme} → SpellsLets side most d is x → d ≤ n → SpellsLets side most n is x
deeper_lets {side} {most} {d} {n} {is} {x} p h = climb (λ k. SpellsLets side most k is x) (λ k. one_lets) d n h p

pub deeper_consts : {side : Side} {most : Option ℕ} {d n : ℕ} {is : ConstItems} {x : List Lexeme} → SpellsConsts side most d is x → d ≤ n → SpellsConsts side most n is x
deeper_consts {side} {most} {d} {n} {is} {x} p h = climb (λ k. SpellsConsts side most k is x) (λ k. one_consts) d n h p

pub deeper_maybe : {side : Side} {most : Option ℕ} {d n : ℕ} {v : MaybeExpr} {x : List Lexeme} → SpellsMaybe side most d v x → d ≤ n → SpellsMaybe side most n v x
deeper_maybe {side} {most} {d} {n} {v} {x} p h = climb (λ k. SpellsMaybe side most k v x) (λ k. one_maybe) d n h p

pub deeper_init : {side : Side} {most : Option ℕ} {d n : ℕ} {i : Init} {x : List Lexeme} → SpellsInit side most d i x → d ≤ n → SpellsInit side most n i x
deeper_init {side} {most} {d} {n} {i} {x} p h = climb (λ k. SpellsInit side most k i x) (λ k. one_init) d n h p

pub deeper_stmt : {side : Side} {most : Option ℕ} {d n : ℕ} {st : Stmt} {x : List Lexeme} → SpellsStmt side most d st x → d ≤ n → SpellsStmt side most n st x
deeper_stmt {side} {most} {d} {n} {st} {x} p h = climb (λ k. SpellsStmt side most k st x) (λ k. one_stmt) d n h p

pub deeper_block : {side : Side} {most : Option ℕ} {d n : ℕ} {ss : Stmts} {x : List Lexeme} → SpellsBlock side most d ss x → d ≤ n → SpellsBlock side most n ss x
deeper_block {side} {most} {d} {n} {ss} {x} p h = climb (λ k. SpellsBlock side most k ss x) (λ k. one_block) d n h p

pub deeper_catch : {side : Side} {most : Option ℕ} {d n : ℕ} {c : Catch} {x : List Lexeme} → SpellsCatch side most d c x → d ≤ n → SpellsCatch side most n c x
deeper_catch {side} {most} {d} {n} {c} {x} p h = climb (λ k. SpellsCatch side most k c x) (λ k. one_catch) d n h p

pub deeper_clauses : {side : Side} {most : Option ℕ} {d n : ℕ} {cs : Clauses} {x : List Lexeme} → SpellsClauses side most d cs x → d ≤ n → SpellsClauses side most n cs x
deeper_clauses {side} {most} {d} {n} {cs} {x} p h = climb (λ k. SpellsClauses side most k cs x) (λ k. one_clauses) d n h p

pub deeper_stmts : {side : Side} {most : Option ℕ} {d n : ℕ} {ss : Stmts} {x : List Lexeme} → SpellsStmts side most d ss x → d ≤ n → SpellsStmts side most n ss x
deeper_stmts {side} {most} {d} {n} {ss} {x} p h = climb (λ k. SpellsStmts side most k ss x) (λ k. one_stmts) d n h p
