-- What some tokens spell on a side is a tree of that side.
use Rattle.std.proofs.Common.{◌≡◌, ℕ, false, List, [], ◌∷◌, Option, Some, None, All, refl, sym, ap, subst, ◌∙◌, codes, true≢false, inl, inr}
use Rattle.std.proofs.lemmas.List.Elements.{All-nil, All-cons, All-append}
use Rattle.actx_grammar.specs.declared.operators.Form.{Form}
use Rattle.actx_grammar.specs.declared.operators.Form.TheVariants as f
use Rattle.actx_grammar.specs.declared.operators.FunctionKind.{FunctionKind}
use Rattle.actx_grammar.specs.declared.side.Side.{Side}
use Rattle.actx_grammar.specs.declared.side.Side.TheVariants.{Source, Plain}
use Rattle.actx_grammar.specs.declared.token.Sign.{Sign}
use Rattle.actx_grammar.specs.declared.token.TokenKind.{TokenKind}
use Rattle.actx_grammar.specs.declared.token.TokenKind.TheVariants as t
use Rattle.actx_grammar.specs.Forms.{change_of, HasWords, Suits}
use Rattle.actx_grammar.specs.Lexemes.{Lexeme}
use Rattle.actx_grammar.specs.Names.{IsBinding, word_of}
use Rattle.actx_grammar.specs.Words.{keyword_text, IsName, HasForm}
use Rattle.actx_grammar.specs.Tree.{Expr, Exprs, MaybeExpr, Key, PropKey, Properties, Code, LetItems, ConstItems, Init, Stmt, Catch, Clauses, Stmts, Function, Fun, Try, none, also, no_properties, property, code, no_lets, let_item, no_consts, const_item, no_catch, catch, no_last, last}
use Rattle.actx_grammar.specs.Grammar.{SpellsNames, SpellsParams, SpellsArrowParams, SpellsHead, SpellsMethodHead, SpellsArrow, Spells, SpellsOr, SpellsCoalesce, SpellsKey, SpellsArguments, SpellsList, SpellsPropKey, SpellsProperty, SpellsProperties, SpellsSome, SpellsFunction, SpellsLet, SpellsLets, SpellsConsts, SpellsMaybe, SpellsInit, SpellsStmt, SpellsBlock, SpellsBody, SpellsCatch, SpellsClauses, SpellsStmts, sp_one_name, sp_more_names, sp_no_params, sp_params, sp_params_comma, sp_bare_param, sp_listed_params, sp_normal, sp_normal_named, sp_generator, sp_generator_named, sp_async, sp_async_named, sp_method_head, sp_generator_head, sp_async_head, sp_arrow_head, sp_async_arrow_head, sp_arrow, sp_short_arrow, sp_yield_nothing, sp_yield, sp_yield_all, sp_set_name, sp_set_member, sp_change, sp_choice, sp_or, sp_coalesce, sp_and, sp_binary, sp_unary, sp_await, sp_bump_before, sp_bump_behind, sp_member, sp_call, sp_form, sp_call_with, sp_name, sp_number, sp_text, sp_true, sp_false, sp_null, sp_undefined, sp_this, sp_object, sp_function, sp_paren, sp_first_or, sp_more_or, sp_first_coalesce, sp_more_coalesce, sp_dot, sp_index, sp_no_arguments, sp_arguments, sp_arguments_comma, sp_one, sp_more, sp_fixed, sp_computed, sp_key_value, sp_name_alone, sp_undefined_alone, sp_method, sp_no_properties, sp_properties, sp_properties_comma, sp_one_property, sp_more_properties, sp_code, sp_let_alone, sp_let_value, sp_one_let, sp_more_lets, sp_one_const, sp_more_consts, sp_absent, sp_present, sp_init_nothing, sp_init_let, sp_init_const, sp_init_value, sp_let, sp_const, sp_fun, sp_block, sp_if, sp_if_else, sp_while, sp_do_while, sp_for, sp_for_of_let, sp_for_of_const, sp_break, sp_continue, sp_return_nothing, sp_return, sp_throw, sp_try_catch, sp_try_finally, sp_try_both, sp_value, sp_empty, sp_switch, sp_braces, sp_body, sp_catch, sp_catch_name, sp_no_clauses, sp_default, sp_case, sp_end, sp_next}
use Rattle.actx_grammar.specs.Grammar.{count, with_last, with_let, with_const, with_property, IsBody}
use Rattle.actx_grammar.specs.Sides.{IsWord, IsDeclared, IsShape, IsFormOf, ExprOn, ExprsOn, MaybeOn, KeyOn, PropKeyOn, PropertiesOn, LetsOn, ConstsOn, InitOn, StmtOn, CatchOn, ClausesOn, StmtsOn}
use Rattle.actx_laws.proofs.SpellLasts.{no_let, no_const, has_lets, has_consts}
use Rattle.actx_laws.proofs.SpellNames.{key_formed}
use Rattle.actx_laws.proofs.SpellParts.{undefined_name}

-- LISTS THAT GROW AT THEIR END
exprs_last : (side : Side) (es : Exprs) (e : Expr) → ExprsOn side es → ExprOn side e → ExprsOn side (with_last es e)
exprs_last side none e p q = (q, tt)
exprs_last side (also v es) e p q = (p.0, exprs_last side es e p.1 q)

properties_last : (side : Side) (ps : Properties) (key : PropKey) (e : Expr) → PropertiesOn side ps → PropKeyOn side key × ExprOn side e → PropertiesOn side (with_property ps key e)
properties_last side no_properties key e p q = (q.0, q.1, tt)
properties_last side (property j v ps) key e p q = (p.0, p.1, properties_last side ps key e p.2 q)

lets_last : (side : Side) (is : LetItems) (x : List ℕ) (v : MaybeExpr) → LetsOn side is → IsBinding side x × MaybeOn side v → LetsOn side (with_let is x v)
lets_last side no_lets x v p q = (q.0, q.1, tt)
lets_last side (let_item y w is) x v p q = (p.0, p.1, lets_last side is x v p.2 q)

consts_last : (side : Side) (is : ConstItems) (x : List ℕ) (e : Expr) → ConstsOn side is → IsBinding side x × ExprOn side e → ConstsOn side (with_const is x e)
consts_last side no_consts x e p q = (q.0, q.1, tt)
consts_last side (const_item y v is) x e p q = (p.0, p.1, consts_last side is x e p.2 q)

some_lets : (is : LetItems) → no_let is ≡ false → is ≡ no_lets → ⊥
some_lets is h q = true≢false (sym (ap no_let q) ∙ h)

some_consts : (is : ConstItems) → no_const is ≡ false → is ≡ no_consts → ⊥
some_consts is h q = true≢false (sym (ap no_const q) ∙ h)

-- NAMES AND FORMS
some_sign : (o : Option Sign) (s : Sign) → o ≡ Some s → o ≡ None → ⊥
some_sign o s p q = absurd (cc)

word_on : (u : TokenKind) (x : List ℕ) → word_of u ≡ Some x → HasForm u → IsWord x
word_on (t.Name y) x q h = let e : y ≡ x = cc in inl (subst IsName e h)
word_on (t.Keyword w) x q h = let e : x ≡ keyword_text w = cc in inr (w, e)
word_on (t.Number n) x q h = absurd (cc)
word_on (t.Text n) x q h = absurd (cc)
word_on (t.Sign n) x q h = absurd (cc)

form_on : (side : Side) (form : Form) (es : Exprs) → HasWords side form → Suits form (count es) → IsFormOf side form es
form_on Source form es w s = (w, s)
form_on Plain f.CallWith es w s = absurd w
form_on Plain f.Log es w s = (w, s)
form_on Plain _ es w s = (w, s)

call_with_on : (side : Side) (e : Expr) (es : Exprs) → side ≡ Plain → IsFormOf side f.CallWith (also e es)
call_with_on Plain e es s = tt
call_with_on Source e es s = absurd (cc)

-- PARAMETERS AND HEADS
names_on : {side : Side} {xs : List (List ℕ)} {y : List Lexeme} → SpellsNames side xs y → All (IsBinding side) xs
names_on {side = side} (sp_one_name {x = x} h) = All-cons (IsBinding side) x [] h (All-nil (IsBinding side))
names_on {side = side} (sp_more_names {xs = xs} {x = x} b c n h) = All-append (IsBinding side) xs (x ∷ []) (names_on n) (All-cons (IsBinding side) x [] h (All-nil (IsBinding side)))

params_on : {side : Side} {most : Option ℕ} {xs : List (List ℕ)} {x : List Lexeme} → SpellsParams side most xs x → All (IsBinding side) xs
params_on {side = side} sp_no_params = All-nil (IsBinding side)
params_on (sp_params b c n a) = names_on n
params_on (sp_params_comma b c d n a) = names_on n

arrow_params_on : {side : Side} {most : Option ℕ} {xs : List (List ℕ)} {x : List Lexeme} → SpellsArrowParams side most xs x → All (IsBinding side) xs
arrow_params_on {side = side} (sp_bare_param {x = x} h a) = All-cons (IsBinding side) x [] h (All-nil (IsBinding side))
arrow_params_on (sp_listed_params p) = params_on p

arrow_on : {side : Side} {most : Option ℕ} {kind : FunctionKind} {xs : List (List ℕ)} {x : List Lexeme} → SpellsArrow side most kind xs x → IsShape side kind None × All (IsBinding side) xs
arrow_on (sp_arrow_head p) = (tt, arrow_params_on p)
arrow_on (sp_async_arrow_head s p r) = (s, arrow_params_on p)

head_on : {side : Side} {kind : FunctionKind} {name : Option (List ℕ)} {x : List Lexeme} → SpellsHead side kind name x → IsShape side kind name
head_on sp_normal = (tt, tt)
head_on (sp_normal_named n) = (tt, n)
head_on (sp_generator s) = (s, tt)
head_on (sp_generator_named s n) = (s, n)
head_on (sp_async s) = (s, tt)
head_on (sp_async_named s n) = (s, n)

method_on : {side : Side} {kind : FunctionKind} {x : List Lexeme} → SpellsMethodHead side kind x → IsShape side kind None
method_on sp_method_head = (tt, tt)
method_on (sp_generator_head s) = (s, tt)
method_on (sp_async_head s) = (s, tt)

named_on : {side : Side} {kind : FunctionKind} {x : List ℕ} {y : List Lexeme} → SpellsHead side kind (Some x) y → IsDeclared side kind × IsBinding side x
named_on (sp_normal_named n) = (tt, n)
named_on (sp_generator_named s n) = (s, n)
named_on (sp_async_named s n) = (s, n)

abbrev DeclaredOn : Side → Code → Type 0
DeclaredOn side (code None kind xs ss) = Unit {0}
DeclaredOn side (code (Some x) kind xs ss) = StmtOn side (Fun (code (Some x) kind xs ss))

declared_on : {side : Side} {kind : FunctionKind} {y : List Lexeme} (name : Option (List ℕ)) (xs : List (List ℕ)) (ss : Stmts) → SpellsHead side kind name y → All (IsBinding side) xs → StmtsOn side ss → DeclaredOn side (code name kind xs ss)
declared_on None xs ss h ps p = tt
declared_on (Some x) xs ss h ps p = let q = named_on h in (q.0, q.1, ps, p)

-- TRY
try_catch_on : {side : Side} {most : Option ℕ} {d : ℕ} {c : Catch} {y : List Lexeme} (ss : Stmts) → SpellsCatch side most d c y → StmtsOn side ss → CatchOn side c → StmtOn side (Try ss c no_last)
try_catch_on ss (sp_catch q) p k = (p, k, tt)
try_catch_on ss (sp_catch_name h q) p k = (p, k, tt)

try_both_on : (side : Side) (c : Catch) (ss final : Stmts) → StmtsOn side ss → CatchOn side c → StmtsOn side final → StmtOn side (Try ss c (last final))
try_both_on side no_catch ss final p k q = (p, k, q)
try_both_on side (catch x bs) ss final p k q = (p, k, q)

mutual
  expr_on : {side : Side} {most : Option ℕ} {l d : ℕ} {e : Expr} {x : List Lexeme} → Spells side most l d e x → ExprOn side e
  expr_on (sp_arrow b c h ps p) = let q = arrow_on ps in (q.0, q.1, stmts_on p)
  expr_on (sp_short_arrow h ps p s) = let q = arrow_on ps in (q.0, q.1, (expr_on p, tt))
  expr_on (sp_yield_nothing q h) = (q, tt)
  expr_on (sp_yield q h p s) = (q, expr_on p)
  expr_on (sp_yield_all q h p) = (q, expr_on p)
  expr_on (sp_set_name h n p) = (n, expr_on p)
  expr_on (sp_set_member b h p k q) = (expr_on p, key_on k, expr_on q)
  expr_on (sp_change {op = op} {sg = sg} h n c p) = (n, some_sign (change_of op) sg c, expr_on p)
  expr_on (sp_choice b c h p q r) = (expr_on p, expr_on q, expr_on r)
  expr_on (sp_or h p) = or_on p
  expr_on (sp_coalesce h p) = coalesce_on p
  expr_on (sp_and b h p q) = (expr_on p, expr_on q)
  expr_on (sp_binary op b h p q) = (expr_on p, expr_on q)
  expr_on (sp_unary op h p) = expr_on p
  expr_on (sp_await s h p) = (s, expr_on p)
  expr_on (sp_bump_before h n) = n
  expr_on (sp_bump_behind h n) = n
  expr_on (sp_member h p k) = (expr_on p, key_on k)
  expr_on (sp_call h p a) = (expr_on p, arguments_on a)
  expr_on {side = side} (sp_form {es = es} form x h w q a s) = (form_on side form es w s, arguments_on a)
  expr_on {side = side} (sp_call_with {f = e} {es = es} b c s h p a) = (call_with_on side e es s, (expr_on p, arguments_on a))
  expr_on (sp_name h) = h
  expr_on (sp_number h) = h
  expr_on (sp_text h) = h
  expr_on sp_true = tt
  expr_on sp_false = tt
  expr_on sp_null = tt
  expr_on sp_undefined = tt
  expr_on sp_this = tt
  expr_on (sp_object b c p) = properties_on p
  expr_on (sp_function p) = function_on p
  expr_on (sp_paren b c p) = expr_on p

  or_on : {side : Side} {most : Option ℕ} {d : ℕ} {e f : Expr} {x : List Lexeme} → SpellsOr side most d e f x → ExprOn side e × ExprOn side f
  or_on (sp_first_or b p q) = (expr_on p, expr_on q)
  or_on (sp_more_or b p q) = (or_on p, expr_on q)

  coalesce_on : {side : Side} {most : Option ℕ} {d : ℕ} {e f : Expr} {x : List Lexeme} → SpellsCoalesce side most d e f x → ExprOn side e × ExprOn side f
  coalesce_on (sp_first_coalesce b p q) = (expr_on p, expr_on q)
  coalesce_on (sp_more_coalesce b p q) = (coalesce_on p, expr_on q)

  key_on : {side : Side} {most : Option ℕ} {d : ℕ} {key : Key} {x : List Lexeme} → SpellsKey side most d key x → KeyOn side key
  key_on (sp_dot {x = x} {w = w} q h k) = (word_on w.kind x q h, k)
  key_on (sp_index b c p) = expr_on p

  arguments_on : {side : Side} {most : Option ℕ} {d : ℕ} {es : Exprs} {x : List Lexeme} → SpellsArguments side most d es x → ExprsOn side es
  arguments_on sp_no_arguments = tt
  arguments_on (sp_arguments b c p a) = list_on p
  arguments_on (sp_arguments_comma b c f p a) = list_on p

  list_on : {side : Side} {most : Option ℕ} {d : ℕ} {es : Exprs} {x : List Lexeme} → SpellsList side most d es x → ExprsOn side es
  list_on (sp_one p) = (expr_on p, tt)
  list_on {side = side} (sp_more {es = es} {e = e} b ps p) = exprs_last side es e (list_on ps) (expr_on p)

  prop_key_on : {side : Side} {most : Option ℕ} {d : ℕ} {key : PropKey} {x : List Lexeme} → SpellsPropKey side most d key x → PropKeyOn side key
  prop_key_on (sp_fixed {u = u} {w = w} h q) = key_formed w.kind u h q
  prop_key_on (sp_computed b c p) = expr_on p

  property_on : {side : Side} {most : Option ℕ} {d : ℕ} {key : PropKey} {e : Expr} {x : List Lexeme} → SpellsProperty side most d key e x → PropKeyOn side key × ExprOn side e
  property_on (sp_key_value b k p) = (prop_key_on k, expr_on p)
  property_on (sp_name_alone {x = x} {u = u} q h) = (key_formed (t.Name x) u h.name q, h)
  property_on sp_undefined_alone = (key_formed (t.Name (codes "undefined")) (codes "undefined") undefined_name refl, tt)
  property_on (sp_method b c h k s ps p) = (prop_key_on k, (method_on h, params_on ps, stmts_on p))

  properties_on : {side : Side} {most : Option ℕ} {d : ℕ} {ps : Properties} {x : List Lexeme} → SpellsProperties side most d ps x → PropertiesOn side ps
  properties_on sp_no_properties = tt
  properties_on (sp_properties p) = some_on p
  properties_on (sp_properties_comma b p) = some_on p

  some_on : {side : Side} {most : Option ℕ} {d : ℕ} {ps : Properties} {x : List Lexeme} → SpellsSome side most d ps x → PropertiesOn side ps
  some_on (sp_one_property p) = let q = property_on p in (q.0, q.1, tt)
  some_on {side = side} (sp_more_properties {ps = ps} {key = key} {e = e} b os p) = properties_last side ps key e (some_on os) (property_on p)

  function_on : {side : Side} {most : Option ℕ} {d : ℕ} {f : Code} {x : List Lexeme} → SpellsFunction side most d f x → ExprOn side (Function f)
  function_on (sp_code b c h ps p) = (head_on h, params_on ps, stmts_on p)

  named_function_on : {side : Side} {most : Option ℕ} {d : ℕ} {f : Code} {x : List Lexeme} → SpellsFunction side most d f x → DeclaredOn side f
  named_function_on (sp_code {name = name} {xs = xs} {ss = ss} b c h ps p) = declared_on name xs ss h (params_on ps) (stmts_on p)

  let_on : {side : Side} {most : Option ℕ} {d : ℕ} {x : List ℕ} {v : MaybeExpr} {y : List Lexeme} → SpellsLet side most d x v y → IsBinding side x × MaybeOn side v
  let_on (sp_let_alone h) = (h, tt)
  let_on (sp_let_value h p) = (h, expr_on p)

  lets_on : {side : Side} {most : Option ℕ} {d : ℕ} {is : LetItems} {x : List Lexeme} → SpellsLets side most d is x → LetsOn side is
  lets_on (sp_one_let p) = let q = let_on p in (q.0, q.1, tt)
  lets_on {side = side} (sp_more_lets {is = is} {x = x} {v = v} b ps p) = lets_last side is x v (lets_on ps) (let_on p)

  consts_on : {side : Side} {most : Option ℕ} {d : ℕ} {is : ConstItems} {x : List Lexeme} → SpellsConsts side most d is x → ConstsOn side is
  consts_on (sp_one_const h p) = (h, expr_on p, tt)
  consts_on {side = side} (sp_more_consts {is = is} {x = x} {e = e} b c f ps h p) = consts_last side is x e (consts_on ps) (h, expr_on p)

  maybe_on : {side : Side} {most : Option ℕ} {d : ℕ} {v : MaybeExpr} {x : List Lexeme} → SpellsMaybe side most d v x → MaybeOn side v
  maybe_on sp_absent = tt
  maybe_on (sp_present p) = expr_on p

  init_on : {side : Side} {most : Option ℕ} {d : ℕ} {i : Init} {x : List Lexeme} → SpellsInit side most d i x → InitOn side i
  init_on sp_init_nothing = tt
  init_on (sp_init_let {is = is} p) = (some_lets is (has_lets p), lets_on p)
  init_on (sp_init_const {is = is} p) = (some_consts is (has_consts p), consts_on p)
  init_on (sp_init_value p) = expr_on p

  stmt_on : {side : Side} {most : Option ℕ} {d : ℕ} {st : Stmt} {x : List Lexeme} → SpellsStmt side most d st x → StmtOn side st
  stmt_on (sp_let {is = is} b c p) = (some_lets is (has_lets p), lets_on p)
  stmt_on (sp_const {is = is} b c p) = (some_consts is (has_consts p), consts_on p)
  stmt_on (sp_fun p) = named_function_on p
  stmt_on (sp_block p) = block_on p
  stmt_on (sp_if b c f p q) = let i = body_on q in (expr_on p, i.0, i.1)
  stmt_on (sp_if_else b c f g p q h r) = let i = body_on r in (expr_on p, body_on q, h, i.0, i.1)
  stmt_on (sp_while b c f p q) = let i = body_on q in (expr_on p, i.0, i.1)
  stmt_on (sp_do_while b c f g h q p) = (body_on q, expr_on p)
  stmt_on (sp_for b c f g h p q r s) = let k = body_on s in (init_on p, maybe_on q, maybe_on r, k.0, k.1)
  stmt_on (sp_for_of_let b c f g h i s n p q) = let k = body_on q in (s, n, expr_on p, k.0, k.1)
  stmt_on (sp_for_of_const b c f g h i s n p q) = let k = body_on q in (s, n, expr_on p, k.0, k.1)
  stmt_on sp_break = tt
  stmt_on sp_continue = tt
  stmt_on sp_return_nothing = tt
  stmt_on (sp_return b c p s) = expr_on p
  stmt_on (sp_throw b c p s) = expr_on p
  stmt_on (sp_try_catch {block = ss} b p q) = try_catch_on ss q (block_on p) (catch_on q)
  stmt_on (sp_try_finally b f p q) = (block_on p, tt, block_on q)
  stmt_on {side = side} (sp_try_both {block = ss} {final = fs} {c = c} b f p q r) = try_both_on side c ss fs (block_on p) (catch_on q) (block_on r)
  stmt_on (sp_value b p s) = expr_on p
  stmt_on sp_empty = tt
  stmt_on (sp_switch b c f g h s p q) = (s, expr_on p, clauses_on q)

  block_on : {side : Side} {most : Option ℕ} {d : ℕ} {ss : Stmts} {x : List Lexeme} → SpellsBlock side most d ss x → StmtsOn side ss
  block_on (sp_braces b c p) = stmts_on p

  body_on : {side : Side} {most : Option ℕ} {d : ℕ} {st : Stmt} {x : List Lexeme} → SpellsBody side most d st x → IsBody st × StmtOn side st
  body_on (sp_body p h) = (h, stmt_on p)

  catch_on : {side : Side} {most : Option ℕ} {d : ℕ} {c : Catch} {x : List Lexeme} → SpellsCatch side most d c x → CatchOn side c
  catch_on (sp_catch p) = (tt, block_on p)
  catch_on (sp_catch_name h p) = (h, block_on p)

  clauses_on : {side : Side} {most : Option ℕ} {d : ℕ} {cs : Clauses} {x : List Lexeme} → SpellsClauses side most d cs x → ClausesOn side cs
  clauses_on sp_no_clauses = tt
  clauses_on (sp_default p) = stmts_on p
  clauses_on (sp_case b c f h p q) = (h, stmts_on p, clauses_on q)

  pub stmts_on : {side : Side} {most : Option ℕ} {d : ℕ} {ss : Stmts} {x : List Lexeme} → SpellsStmts side most d ss x → StmtsOn side ss
  stmts_on sp_end = tt
  stmts_on (sp_next p ps) = (stmt_on p, stmts_on ps)
