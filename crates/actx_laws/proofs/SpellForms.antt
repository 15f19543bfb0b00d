-- All tokens that spell something have their kinds' forms.
use Rattle.std.proofs.Common.{ℕ, Bool, false, List, [], ◌∷◌, ◌++◌, Option, subst, codes}
use Rattle.actx_grammar.specs.declared.operators.FunctionKind.{FunctionKind}
use Rattle.actx_grammar.specs.declared.side.Side.{Side}
use Rattle.actx_grammar.specs.declared.token.Keyword.TheVariants as k
use Rattle.actx_grammar.specs.declared.token.Sign.{Sign}
use Rattle.actx_grammar.specs.declared.token.Sign.TheVariants as g
use Rattle.actx_grammar.specs.declared.token.TokenKind.TheVariants as t
use Rattle.actx_grammar.specs.Forms.{sign_of}
use Rattle.actx_grammar.specs.Lexemes.{Lexeme, sign, keyword, lexeme, kinds}
use Rattle.actx_grammar.specs.Tree.{Expr, Exprs, MaybeExpr, Key, PropKey, Properties, Code, LetItems, ConstItems, Init, Stmt, Catch, Clauses, Stmts}
use Rattle.actx_grammar.specs.Grammar.{SpellsNames, SpellsParams, SpellsArrowParams, SpellsHead, SpellsMethodHead, SpellsArrow, Spells, SpellsOr, SpellsCoalesce, SpellsKey, SpellsArguments, SpellsList, SpellsPropKey, SpellsProperty, SpellsProperties, SpellsSome, SpellsFunction, SpellsLet, SpellsLets, SpellsConsts, SpellsMaybe, SpellsInit, SpellsStmt, SpellsBlock, SpellsBody, SpellsCatch, SpellsClauses, SpellsStmts, sp_one_name, sp_more_names, sp_no_params, sp_params, sp_params_comma, sp_bare_param, sp_listed_params, sp_normal, sp_normal_named, sp_generator, sp_generator_named, sp_async, sp_async_named, sp_method_head, sp_generator_head, sp_async_head, sp_arrow_head, sp_async_arrow_head, sp_arrow, sp_short_arrow, sp_yield_nothing, sp_yield, sp_yield_all, sp_set_name, sp_set_member, sp_change, sp_choice, sp_or, sp_coalesce, sp_and, sp_binary, sp_unary, sp_await, sp_bump_before, sp_bump_behind, sp_member, sp_call, sp_form, sp_call_with, sp_name, sp_number, sp_text, sp_true, sp_false, sp_null, sp_undefined, sp_this, sp_object, sp_function, sp_paren, sp_first_or, sp_more_or, sp_first_coalesce, sp_more_coalesce, sp_dot, sp_index, sp_no_arguments, sp_arguments, sp_arguments_comma, sp_one, sp_more, sp_fixed, sp_computed, sp_key_value, sp_name_alone, sp_undefined_alone, sp_method, sp_no_properties, sp_properties, sp_properties_comma, sp_one_property, sp_more_properties, sp_code, sp_let_alone, sp_let_value, sp_one_let, sp_more_lets, sp_one_const, sp_more_consts, sp_absent, sp_present, sp_init_nothing, sp_init_let, sp_init_const, sp_init_value, sp_let, sp_const, sp_fun, sp_block, sp_if, sp_if_else, sp_while, sp_do_while, sp_for, sp_for_of_let, sp_for_of_const, sp_break, sp_continue, sp_return_nothing, sp_return, sp_throw, sp_try_catch, sp_try_finally, sp_try_both, sp_value, sp_empty, sp_switch, sp_braces, sp_body, sp_catch, sp_catch_name, sp_no_clauses, sp_default, sp_case, sp_end, sp_next}
use Rattle.actx_laws.proofs.SpellParts.{undefined_name}
use Rattle.actx_laws.proofs.SpellWords.{Formed, call_name, of_name, words_formed, unary_formed}

-- PARTS
joined : (x y : List Lexeme) → Formed (kinds x) → Formed (kinds y) → Formed (kinds (x ++ y))
joined [] y h i = i
joined (w ∷ x) y h i = (h.0, joined x y h.1 i)

closed : (x : List Lexeme) (s : Sign) (b : Bool) → Formed (kinds x) → Formed (kinds (x ++ sign s b ∷ []))
closed x s b h = joined x (sign s b ∷ []) h (tt, tt)

enclosed : (s : Sign) (b : Bool) (x : List Lexeme) (r : Sign) (c : Bool) → Formed (kinds x) → Formed (kinds (sign s b ∷ (x ++ sign r c ∷ [])))
enclosed s b x r c h = (tt, closed x r c h)

separated : (x : List Lexeme) (s : Sign) (b : Bool) (y : List Lexeme) → Formed (kinds x) → Formed (kinds y) → Formed (kinds (x ++ sign s b ∷ y))
separated x s b y h i = joined x (sign s b ∷ y) h (tt, i)

-- PARAMETERS AND HEADS
names_formed : {side : Side} {xs : List (List ℕ)} {y : List Lexeme} → SpellsNames side xs y → Formed (kinds y)
names_formed (sp_one_name h) = (h.name, tt)
names_formed (sp_more_names {x = x} {y = y} b c n h) = separated y g.Comma b (lexeme (t.Name x) c ∷ []) (names_formed n) (h.name, tt)

params_formed : {side : Side} {most : Option ℕ} {xs : List (List ℕ)} {x : List Lexeme} → SpellsParams side most xs x → Formed (kinds x)
params_formed sp_no_params = (tt, (tt, tt))
params_formed (sp_params {y = y} b c n a) = enclosed g.OpenParen b y g.CloseParen c (names_formed n)
params_formed (sp_params_comma {y = y} b c d n a) = (tt, joined y (sign g.Comma c ∷ sign g.CloseParen d ∷ []) (names_formed n) (tt, (tt, tt)))

arrow_params_formed : {side : Side} {most : Option ℕ} {xs : List (List ℕ)} {x : List Lexeme} → SpellsArrowParams side most xs x → Formed (kinds x)
arrow_params_formed (sp_bare_param h a) = (h.name, tt)
arrow_params_formed (sp_listed_params p) = params_formed p

arrow_formed : {side : Side} {most : Option ℕ} {kind : FunctionKind} {xs : List (List ℕ)} {x : List Lexeme} → SpellsArrow side most kind xs x → Formed (kinds x)
arrow_formed (sp_arrow_head p) = arrow_params_formed p
arrow_formed (sp_async_arrow_head s p r) = (tt, arrow_params_formed p)

head_formed : {side : Side} {kind : FunctionKind} {name : Option (List ℕ)} {x : List Lexeme} → SpellsHead side kind name x → Formed (kinds x)
head_formed sp_normal = (tt, tt)
head_formed (sp_normal_named n) = (tt, (n.name, tt))
head_formed (sp_generator s) = (tt, (tt, tt))
head_formed (sp_generator_named s n) = (tt, (tt, (n.name, tt)))
head_formed (sp_async s) = (tt, (tt, tt))
head_formed (sp_async_named s n) = (tt, (tt, (n.name, tt)))

method_formed : {side : Side} {kind : FunctionKind} {x : List Lexeme} → SpellsMethodHead side kind x → Formed (kinds x)
method_formed sp_method_head = tt
method_formed (sp_generator_head s) = (tt, tt)
method_formed (sp_async_head s) = (tt, tt)

mutual
  forms : {side : Side} {most : Option ℕ} {l d : ℕ} {e : Expr} {x : List Lexeme} → Spells side most l d e x → Formed (kinds x)
  forms (sp_arrow {x = x} {y = y} b c h ps p) = joined x (sign g.Arrow false ∷ sign g.OpenBrace b ∷ (y ++ sign g.CloseBrace c ∷ [])) (arrow_formed ps) (tt, enclosed g.OpenBrace b y g.CloseBrace c (forms_stmts p))
  forms (sp_short_arrow {x = x} {y = y} h ps p s) = joined x (sign g.Arrow false ∷ y) (arrow_formed ps) (tt, forms p)
  forms (sp_yield_nothing q h) = (tt, tt)
  forms (sp_yield q h p s) = (tt, forms p)
  forms (sp_yield_all q h p) = (tt, (tt, forms p))
  forms (sp_set_name h n p) = (n.name, (tt, forms p))
  forms (sp_set_member {x = x} {y = y} {z = z} b h p k q) = joined (x ++ y) (sign g.Assign b ∷ z) (joined x y (forms p) (forms_key k)) (tt, forms q)
  forms (sp_change h n c p) = (n.name, (tt, forms p))
  forms (sp_choice {x = x} {y = y} {z = z} b c h p q r) = joined x (sign g.Question b ∷ (y ++ sign g.Colon c ∷ z)) (forms p) (tt, separated y g.Colon c z (forms q) (forms r))
  forms (sp_or h p) = forms_or p
  forms (sp_coalesce h p) = forms_coalesce p
  forms (sp_and {x = x} {y = y} b h p q) = separated x g.And b y (forms p) (forms q)
  forms (sp_binary {x = x} {y = y} op b h p q) = separated x (sign_of op) b y (forms p) (forms q)
  forms (sp_unary op h p) = (unary_formed op, forms p)
  forms (sp_await s h p) = (tt, forms p)
  forms (sp_bump_before h n) = (tt, (n.name, tt))
  forms (sp_bump_behind h n) = (n.name, (tt, tt))
  forms (sp_member {x = x} {y = y} h p k) = joined x y (forms p) (forms_key k)
  forms (sp_call {x = x} {y = y} h p a) = joined x y (forms p) (forms_arguments a)
  forms {side = side} (sp_form {y = y} form x h w q a s) = joined x y (subst Formed q (words_formed side form w)) (forms_arguments a)
  forms (sp_call_with {x = x} {y = y} b c s h p a) = joined x (sign g.Dot b ∷ lexeme (t.Name (codes "call")) c ∷ y) (forms p) (tt, (call_name, forms_arguments a))
  forms (sp_name h) = (h.name, tt)
  forms (sp_number h) = (h, tt)
  forms (sp_text h) = (h, tt)
  forms sp_true = (tt, tt)
  forms sp_false = (tt, tt)
  forms sp_null = (tt, tt)
  forms sp_undefined = (undefined_name, tt)
  forms sp_this = (tt, tt)
  forms (sp_object {x = x} b c p) = enclosed g.OpenBrace b x g.CloseBrace c (forms_properties p)
  forms (sp_function p) = forms_function p
  forms (sp_paren {x = x} b c p) = enclosed g.OpenParen b x g.CloseParen c (forms p)

  forms_or : {side : Side} {most : Option ℕ} {d : ℕ} {e f : Expr} {x : List Lexeme} → SpellsOr side most d e f x → Formed (kinds x)
  forms_or (sp_first_or {x = x} {y = y} b p q) = separated x g.Or b y (forms p) (forms q)
  forms_or (sp_more_or {x = x} {y = y} b p q) = separated x g.Or b y (forms_or p) (forms q)

  forms_coalesce : {side : Side} {most : Option ℕ} {d : ℕ} {e f : Expr} {x : List Lexeme} → SpellsCoalesce side most d e f x → Formed (kinds x)
  forms_coalesce (sp_first_coalesce {x = x} {y = y} b p q) = separated x g.Coalesce b y (forms p) (forms q)
  forms_coalesce (sp_more_coalesce {x = x} {y = y} b p q) = separated x g.Coalesce b y (forms_coalesce p) (forms q)

  forms_key : {side : Side} {most : Option ℕ} {d : ℕ} {key : Key} {x : List Lexeme} → SpellsKey side most d key x → Formed (kinds x)
  forms_key (sp_dot q h k) = (tt, (h, tt))
  forms_key (sp_index {x = x} b c p) = enclosed g.OpenBracket b x g.CloseBracket c (forms p)

  forms_arguments : {side : Side} {most : Option ℕ} {d : ℕ} {es : Exprs} {x : List Lexeme} → SpellsArguments side most d es x → Formed (kinds x)
  forms_arguments sp_no_arguments = (tt, (tt, tt))
  forms_arguments (sp_arguments {x = x} b c p a) = enclosed g.OpenParen b x g.CloseParen c (forms_list p)
  forms_arguments (sp_arguments_comma {x = x} b c f p a) = (tt, joined x (sign g.Comma c ∷ sign g.CloseParen f ∷ []) (forms_list p) (tt, (tt, tt)))

  forms_list : {side : Side} {most : Option ℕ} {d : ℕ} {es : Exprs} {x : List Lexeme} → SpellsList side most d es x → Formed (kinds x)
  forms_list (sp_one p) = forms p
  forms_list (sp_more {x = x} {y = y} b ps p) = separated x g.Comma b y (forms_list ps) (forms p)

  forms_prop_key : {side : Side} {most : Option ℕ} {d : ℕ} {key : PropKey} {x : List Lexeme} → SpellsPropKey side most d key x → Formed (kinds x)
  forms_prop_key (sp_fixed h q) = (h, tt)
  forms_prop_key (sp_computed {x = x} b c p) = enclosed g.OpenBracket b x g.CloseBracket c (forms p)

  forms_property : {side : Side} {most : Option ℕ} {d : ℕ} {key : PropKey} {e : Expr} {x : List Lexeme} → SpellsProperty side most d key e x → Formed (kinds x)
  forms_property (sp_key_value {x = x} {y = y} b k p) = separated x g.Colon b y (forms_prop_key k) (forms p)
  forms_property (sp_name_alone q h) = (h.name, tt)
  forms_property sp_undefined_alone = (undefined_name, tt)
  forms_property (sp_method {w = w} {x = x} {y = y} {z = z} b c h k s ps p) = joined (w ++ x ++ y) (sign g.OpenBrace b ∷ (z ++ sign g.CloseBrace c ∷ [])) (joined (w ++ x) y (joined w x (method_formed h) (forms_prop_key k)) (params_formed ps)) (enclosed g.OpenBrace b z g.CloseBrace c (forms_stmts p))

  forms_properties : {side : Side} {most : Option ℕ} {d : ℕ} {ps : Properties} {x : List Lexeme} → SpellsProperties side most d ps x → Formed (kinds x)
  forms_properties sp_no_properties = tt
  forms_properties (sp_properties p) = forms_some p
  forms_properties (sp_properties_comma {x = x} b p) = closed x g.Comma b (forms_some p)

  forms_some : {side : Side} {most : Option ℕ} {d : ℕ} {ps : Properties} {x : List Lexeme} → SpellsSome side most d ps x → Formed (kinds x)
  forms_some (sp_one_property p) = forms_property p
  forms_some (sp_more_properties {x = x} {y = y} b os p) = separated x g.Comma b y (forms_some os) (forms_property p)

  forms_function : {side : Side} {most : Option ℕ} {d : ℕ} {f : Code} {x : List Lexeme} → SpellsFunction side most d f x → Formed (kinds x)
  forms_function (sp_code {x = x} {y = y} {z = z} b c h ps p) = joined (x ++ y) (sign g.OpenBrace b ∷ (z ++ sign g.CloseBrace c ∷ [])) (joined x y (head_formed h) (params_formed ps)) (enclosed g.OpenBrace b z g.CloseBrace c (forms_stmts p))

  forms_let : {side : Side} {most : Option ℕ} {d : ℕ} {n : List ℕ} {v : MaybeExpr} {x : List Lexeme} → SpellsLet side most d n v x → Formed (kinds x)
  forms_let (sp_let_alone h) = (h.name, tt)
  forms_let (sp_let_value h p) = (h.name, (tt, forms p))

  forms_lets : {side : Side} {most : Option ℕ} {d : ℕ} {is : LetItems} {x : List Lexeme} → SpellsLets side most d is x → Formed (kinds x)
  forms_lets (sp_one_let p) = forms_let p
  forms_lets (sp_more_lets {y = y} {z = z} b ps p) = separated y g.Comma b z (forms_lets ps) (forms_let p)

  forms_consts : {side : Side} {most : Option ℕ} {d : ℕ} {is : ConstItems} {x : List Lexeme} → SpellsConsts side most d is x → Formed (kinds x)
  forms_consts (sp_one_const h p) = (h.name, (tt, forms p))
  forms_consts (sp_more_consts {x = x} {y = y} {z = z} b c f ps h p) = separated y g.Comma b (lexeme (t.Name x) c ∷ sign g.Assign f ∷ z) (forms_consts ps) (h.name, (tt, forms p))

  forms_maybe : {side : Side} {most : Option ℕ} {d : ℕ} {v : MaybeExpr} {x : List Lexeme} → SpellsMaybe side most d v x → Formed (kinds x)
  forms_maybe sp_absent = tt
  forms_maybe (sp_present p) = forms p

  forms_init : {side : Side} {most : Option ℕ} {d : ℕ} {i : Init} {x : List Lexeme} → SpellsInit side most d i x → Formed (kinds x)
  forms_init sp_init_nothing = tt
  forms_init (sp_init_let p) = (tt, forms_lets p)
  forms_init (sp_init_const p) = (tt, forms_consts p)
  forms_init (sp_init_value p) = forms p

  forms_stmt : {side : Side} {most : Option ℕ} {d : ℕ} {st : Stmt} {x : List Lexeme} → SpellsStmt side most d st x → Formed (kinds x)
  forms_stmt (sp_let {x = x} b c p) = (tt, closed x g.Semicolon c (forms_lets p))
  forms_stmt (sp_const {x = x} b c p) = (tt, closed x g.Semicolon c (forms_consts p))
  forms_stmt (sp_fun p) = forms_function p
  forms_stmt (sp_block p) = forms_block p
  forms_stmt (sp_if {x = x} {y = y} b c f p q) = (tt, (tt, separated x g.CloseParen f y (forms p) (forms_body q)))
  forms_stmt (sp_if_else {x = x} {y = y} {z = z} b c f j p q h r) = (tt, (tt, separated x g.CloseParen f (y ++ keyword k.Else j ∷ z) (forms p) (joined y (keyword k.Else j ∷ z) (forms_body q) (tt, forms_body r))))
  forms_stmt (sp_while {x = x} {y = y} b c f p q) = (tt, (tt, separated x g.CloseParen f y (forms p) (forms_body q)))
  forms_stmt (sp_do_while {x = x} {y = y} b c f j h q p) = (tt, joined x (keyword k.While c ∷ sign g.OpenParen f ∷ (y ++ sign g.CloseParen j ∷ sign g.Semicolon h ∷ [])) (forms_body q) (tt, (tt, joined y (sign g.CloseParen j ∷ sign g.Semicolon h ∷ []) (forms p) (tt, (tt, tt)))))
  forms_stmt (sp_for {w = w} {x = x} {y = y} {z = z} b c f j h p q r s) = (tt, (tt, separated w g.Semicolon f (x ++ sign g.Semicolon j ∷ (y ++ sign g.CloseParen h ∷ z)) (forms_init p) (separated x g.Semicolon j (y ++ sign g.CloseParen h ∷ z) (forms_maybe q) (separated y g.CloseParen h z (forms_maybe r) (forms_body s)))))
  forms_stmt (sp_for_of_let {y = y} {z = z} b c f j h i s n p q) = (tt, (tt, (tt, (n.name, (of_name, separated y g.CloseParen i z (forms p) (forms_body q))))))
  forms_stmt (sp_for_of_const {y = y} {z = z} b c f j h i s n p q) = (tt, (tt, (tt, (n.name, (of_name, separated y g.CloseParen i z (forms p) (forms_body q))))))
  forms_stmt sp_break = (tt, (tt, tt))
  forms_stmt sp_continue = (tt, (tt, tt))
  forms_stmt sp_return_nothing = (tt, (tt, tt))
  forms_stmt (sp_return {x = x} b c p s) = (tt, closed x g.Semicolon c (forms p))
  forms_stmt (sp_throw {x = x} b c p s) = (tt, closed x g.Semicolon c (forms p))
  forms_stmt (sp_try_catch {x = x} {y = y} b p q) = (tt, joined x y (forms_block p) (forms_catch q))
  forms_stmt (sp_try_finally {x = x} {y = y} b f p q) = (tt, joined x (keyword k.Finally f ∷ y) (forms_block p) (tt, forms_block q))
  forms_stmt (sp_try_both {x = x} {y = y} {z = z} b f p q r) = (tt, joined (x ++ y) (keyword k.Finally f ∷ z) (joined x y (forms_block p) (forms_catch q)) (tt, forms_block r))
  forms_stmt (sp_value {x = x} b p s) = closed x g.Semicolon b (forms p)
  forms_stmt sp_empty = (tt, tt)
  forms_stmt (sp_switch {x = x} {y = y} b c f j h s p q) = (tt, (tt, separated x g.CloseParen f (sign g.OpenBrace j ∷ (y ++ sign g.CloseBrace h ∷ [])) (forms p) (enclosed g.OpenBrace j y g.CloseBrace h (forms_clauses q))))

  forms_block : {side : Side} {most : Option ℕ} {d : ℕ} {ss : Stmts} {x : List Lexeme} → SpellsBlock side most d ss x → Formed (kinds x)
  forms_block (sp_braces {x = x} b c p) = enclosed g.OpenBrace b x g.CloseBrace c (forms_stmts p)

  forms_body : {side : Side} {most : Option ℕ} {d : ℕ} {st : Stmt} {x : List Lexeme} → SpellsBody side most d st x → Formed (kinds x)
  forms_body (sp_body p h) = forms_stmt p

  forms_catch : {side : Side} {most : Option ℕ} {d : ℕ} {c : Catch} {x : List Lexeme} → SpellsCatch side most d c x → Formed (kinds x)
  forms_catch (sp_catch p) = (tt, forms_block p)
  forms_catch (sp_catch_name h p) = (tt, (tt, (h.name, (tt, forms_block p))))

  forms_clauses : {side : Side} {most : Option ℕ} {d : ℕ} {cs : Clauses} {x : List Lexeme} → SpellsClauses side most d cs x → Formed (kinds x)
  forms_clauses sp_no_clauses = tt
  forms_clauses (sp_default p) = (tt, (tt, forms_stmts p))
  forms_clauses (sp_case {x = x} {y = y} b c f h p q) = (tt, (h, (tt, joined x y (forms_stmts p) (forms_clauses q))))

  pub forms_stmts : {side : Side} {most : Option ℕ} {d : ℕ} {ss : Stmts} {x : List Lexeme} → SpellsStmts side most d ss x → Formed (kinds x)
  forms_stmts sp_end = tt
  forms_stmts (sp_next {x = x} {y = y} p ps) = joined x y (forms_stmt p) (forms_stmts ps)
