-- The machine's walk over each tree passes its nodes, links its names, and keeps its first offence.
use Rattle.std.proofs.Common.{ℕ, suc, ◌+◌, List, [], ◌∷◌, ◌++◌, length, Option, Some, None, refl, sym, ◌∙◌, ap, append_assoc, arith}
use Rattle.actx_grammar.specs.declared.operators.FunctionKind.{FunctionKind}
use Rattle.actx_grammar.specs.Nodes.{name_nodes, expr_nodes, exprs_nodes, maybe_nodes, key_nodes, prop_key_nodes, properties_nodes, code_nodes, lets_nodes, consts_nodes, init_nodes, stmt_nodes, maybe_stmt_nodes, catch_nodes, last_nodes, clauses_nodes, stmts_nodes}
use Rattle.actx_grammar.specs.Static.{Declared, declared, Offence, Place, alone, inside, in_body, behind, all_behind, looped, names_of, own_declared, params_declared, lets_declared, consts_declared, list_declared, init_declared, stmt_declared, own_offences, params_offences, binding_offences, unless, expr_offences, exprs_offences, maybe_offences, key_offences, prop_key_offences, properties_offences, function_offences, lets_offences, consts_offences, init_offences, stmt_offences, maybe_stmt_offences, catch_offences, last_offences, clauses_offences, stmts_offences}
use Rattle.actx_grammar.specs.Tree.{Expr, Num, Text, Truth, Null, Undefined, This, Named, Unary, Binary, Logic, Choice, SetName, SetMember, Change, Bump, Member, Call, Object, Function, Yield, YieldAll, Await, Built, Exprs, none, also, MaybeExpr, no_expr, some_expr, Key, Dot, Index, PropKey, Fixed, Computed, Properties, no_properties, property, Code, code, LetItems, no_lets, let_item, ConstItems, no_consts, const_item, Init, init_nothing, init_let, init_const, init_value, Stmt, Let, Const, Fun, Block, If, While, DoWhile, For, ForOf, ForAwait, Break, Continue, Return, Throw, Try, Value, Empty, Switch, MaybeStmt, no_stmt, some_stmt, Catch, no_catch, catch, Last, no_last, last, Clauses, no_clauses, clause, Stmts, end, next}
use Rattle.actx_scope.specs.declared.link.Link.{Link}
use Rattle.actx_scope.specs.declared.link.Link.TheVariants.{Nothing}
use Rattle.actx_scope.specs.Links.{own_links, params_links, expr_links, exprs_links, maybe_links, key_links, prop_key_links, properties_links, function_links, lets_links, consts_links, init_links, stmt_links, maybe_stmt_links, catch_links, last_links, clauses_links, stmts_links}
use Rattle.actx_scope.specs.Machine.{State, bound, entered, entered_declaration, entered_expression, bound_alone, dotted, fixed, outside_function, outside_loop, outside_generator, outside_async, without_this, nothing_declared, name_declared, catch_declared, stmts_declared, init_names, own_walk, named_walk, params_walk, expr_walk, exprs_walk, maybe_walk, key_walk, prop_key_walk, properties_walk, function_walk, declaration_walk, lets_walk, consts_walk, init_walk, stmt_walk, maybe_stmt_walk, catch_walk, last_walk, clauses_walk, stmts_walk, scoped, part, loop_part}
use Rattle.actx_scope.proofs.Runs.{Runs, same, seq, seq_from, like, ends, passed_runs, offending_runs, used_runs, targeted_runs, bound_runs, params_runs, nothing_runs, scope_runs, part_runs, loop_runs}
use Rattle.actx_scope.proofs.Unbound.{expr_unbound, maybe_unbound, params_alike, behind_left}

-- NAMES OF FUNCTIONS
own_runs : (x : Option (List ℕ)) → Runs (own_walk x) (λ p n. own_offences (alone p) n x) same (λ n. n + name_nodes x) (λ ks n. own_links x)
own_runs None = ends (λ n. omega arith) nothing_runs
own_runs (Some x) = ends (λ n. omega arith) (offending_runs (bound_alone x))

named_runs : (x : Option (List ℕ)) → Runs (named_walk x) (λ p n. own_offences p n x) (λ p n. all_behind (names_of (own_declared n x)) p) (λ n. n + name_nodes x) (λ ks n. own_links x)
named_runs None = ends (λ n. omega arith) nothing_runs
named_runs (Some x) = ends (λ n. omega arith) (bound_runs x)

-- where a list of statements ends
abbrev stmts_place : Place → ℕ → Stmts → Place
stmts_place p n end = p
stmts_place p n (next st ss) = stmts_place (all_behind (names_of (stmt_declared n st)) p) (n + stmt_nodes st) ss

-- a list in a scope of its own
module _ (ss : Stmts) (x : Runs (stmts_walk ss) (λ p n. stmts_offences p n ss) (λ p n. stmts_place p n ss) (λ n. n + stmts_nodes ss) (λ ks n. stmts_links ks n ss)) where
  pub block_runs : Runs (scoped (entered (stmts_declared ss)) (stmts_walk ss)) (λ p n. stmts_offences (inside (list_declared n ss) [] p) n ss) same (λ n. n + stmts_nodes ss) (λ ks n. stmts_links (list_declared n ss ++ ks) n ss)
  unfolding entered
  block_runs = scope_runs (stmts_walk ss) _ _ _ _ (λ p n. inside (list_declared n ss) [] p) (λ n. list_declared n ss) (λ p n. refl) x

  clause_runs : Runs (scoped (entered nothing_declared) (stmts_walk ss)) (λ p n. stmts_offences (alone p) n ss) same (λ n. n + stmts_nodes ss) (λ ks n. stmts_links ks n ss)
  unfolding entered
  clause_runs = scope_runs (stmts_walk ss) _ _ _ _ (λ p n. inside [] [] p) (λ n. []) (λ p n. refl) x

  caught_runs : (x : List ℕ) → Runs (scoped (entered (catch_declared x ss)) (λ t. stmts_walk ss (bound x t)))
      (λ p n. binding_offences (alone p) n x ++ stmts_offences (inside (declared x n ∷ list_declared (suc n) ss) (x ∷ []) p) (suc n) ss) same (λ n. suc n + stmts_nodes ss) (λ ks n. Nothing ∷ stmts_links (declared x n ∷ (list_declared (suc n) ss ++ ks)) (suc n) ss)
  unfolding entered
  caught_runs y = scope_runs (λ t. stmts_walk ss (bound y t)) _ _ _ _ (λ p n. inside (declared y n ∷ list_declared (suc n) ss) [] p) (λ n. declared y n ∷ list_declared (suc n) ss) (λ p n. refl) (seq (bound_runs y) x)

  -- parameters and a body
  inner_runs : (xs : List (List ℕ)) → Runs (λ t. stmts_walk ss (params_walk xs t)) (λ p n. params_offences p n xs ++ stmts_offences (all_behind xs p) (n + length xs) ss) (λ p n. stmts_place (all_behind xs p) (n + length xs) ss) (λ n. n + length xs + stmts_nodes ss) (λ ks n. params_links xs ++ stmts_links ks (n + length xs) ss)
  inner_runs xs = seq (params_runs xs) x

  expression_runs : (x : Option (List ℕ)) (kind : FunctionKind) (xs : List (List ℕ)) (k : ℕ) → Runs (scoped (entered_expression k x (code x kind xs ss)) (λ t. stmts_walk ss (params_walk xs t)))
      (λ p n. params_offences (alone p) n xs ++ stmts_offences (all_behind xs (in_body kind (params_declared n xs ++ list_declared (n + length xs) ss ++ own_declared k x) p)) (n + length xs) ss) same (λ n. n + length xs + stmts_nodes ss)
      (λ ks n. params_links xs ++ stmts_links (params_declared n xs ++ list_declared (n + length xs) ss ++ own_declared k x ++ ks) (n + length xs) ss)
  unfolding entered_expression
  expression_runs y kind xs k =
      like (λ p n. ap (λ (os : List Offence). os ++ stmts_offences (all_behind xs (in_body kind (params_declared n xs ++ list_declared (n + length xs) ss ++ own_declared k y) p)) (n + length xs) ss) (params_alike _ _ n xs refl)) (λ p n. refl) (λ n. refl) (λ p n. refl)
      (scope_runs (λ t. stmts_walk ss (params_walk xs t)) _ _ _ _ (λ p n. in_body kind (params_declared n xs ++ list_declared (n + length xs) ss ++ own_declared k y) p) (λ n. params_declared n xs ++ list_declared (n + length xs) ss ++ own_declared k y) (λ p n. refl) (inner_runs xs))

  declaration_inner : (x : Option (List ℕ)) (kind : FunctionKind) (xs : List (List ℕ)) → Runs (scoped (entered_declaration (code x kind xs ss)) (λ t. stmts_walk ss (params_walk xs t)))
      (λ p n. params_offences (alone p) n xs ++ stmts_offences (all_behind xs (in_body kind (params_declared n xs ++ list_declared (n + length xs) ss) p)) (n + length xs) ss) same (λ n. n + length xs + stmts_nodes ss)
      (λ ks n. params_links xs ++ stmts_links (params_declared n xs ++ list_declared (n + length xs) ss ++ ks) (n + length xs) ss)
  unfolding entered_declaration
  declaration_inner y kind xs =
      like (λ p n. ap (λ (os : List Offence). os ++ stmts_offences (all_behind xs (in_body kind (params_declared n xs ++ list_declared (n + length xs) ss) p)) (n + length xs) ss) (params_alike _ _ n xs refl)) (λ p n. refl) (λ n. refl) (λ p n. refl)
      (scope_runs (λ t. stmts_walk ss (params_walk xs t)) _ _ _ _ (λ p n. in_body kind (params_declared n xs ++ list_declared (n + length xs) ss) p) (λ n. params_declared n xs ++ list_declared (n + length xs) ss) (λ p n. refl) (inner_runs xs))

  -- what a declaration's body offends, and what it refers to, by the node of its name
  abbrev body_offences : Option (List ℕ) → FunctionKind → List (List ℕ) → Place → ℕ → List Offence
  body_offences x kind xs p n = stmts_offences (all_behind xs (in_body kind (params_declared (n + name_nodes x) xs ++ list_declared (n + name_nodes x + length xs) ss) p)) (n + name_nodes x + length xs) ss

  abbrev body_links : Option (List ℕ) → List (List ℕ) → List Declared → ℕ → List Link
  body_links x xs ks n = stmts_links (params_declared (n + name_nodes x) xs ++ list_declared (n + name_nodes x + length xs) ss ++ ks) (n + name_nodes x + length xs) ss

  declared_runs : (x : Option (List ℕ)) (kind : FunctionKind) (xs : List (List ℕ)) → Runs (declaration_walk (code x kind xs ss))
      (λ p n. own_offences p n x ++ params_offences (alone p) (n + name_nodes x) xs ++ body_offences x kind xs p n)
      (λ p n. all_behind (names_of (own_declared n x)) p) (λ n. n + code_nodes (code x kind xs ss))
      (λ ks n. own_links x ++ params_links xs ++ body_links x xs ks n)
  declared_runs None kind xs = ends (λ n. omega arith) (seq (named_runs None) (declaration_inner None kind xs))
  declared_runs (Some y) kind xs =
      like (λ p n. sym (append_assoc (own_offences p n (Some y)) (params_offences (alone p) (n + 1) xs) (body_offences (Some y) kind xs p n))) (λ p n. refl) (λ n. omega arith)
      (λ ks n. sym (append_assoc (own_links (Some y)) (params_links xs) (body_links (Some y) xs ks n)))
      (seq (named_runs (Some y)) (declaration_inner (Some y) kind xs))

-- a statement that is a part of another, and the body of a loop
module _ (st : Stmt) (x : Runs (stmt_walk st) (λ p n. stmt_offences p n st) (λ p n. all_behind (names_of (stmt_declared n st)) p) (λ n. n + stmt_nodes st) (λ ks n. stmt_links ks n st)) where
  stmt_part : Runs (part (stmt_walk st)) (λ p n. stmt_offences p n st) same (λ n. n + stmt_nodes st) (λ ks n. stmt_links ks n st)
  stmt_part = part_runs (stmt_walk st) _ _ _ _ (λ p n. behind_left (names_of (stmt_declared n st)) p) x

  stmt_loop : Runs (loop_part (stmt_walk st)) (λ p n. stmt_offences (looped p) n st) same (λ n. n + stmt_nodes st) (λ ks n. stmt_links ks n st)
  stmt_loop = loop_runs (stmt_walk st) _ _ _ _ (λ p n. behind_left (names_of (stmt_declared n st)) p) x

-- what stands in the scope of a loop that declares names
module _ {w : State → State} {o : Place → ℕ → List Offence} {m : ℕ → ℕ} {l : List Declared → ℕ → List Link} where
  for_runs : (i : Init) → Runs w o same m l → Runs (scoped (entered (init_names i)) w) (λ p n. o (inside (init_declared n i) [] p) n) same m (λ ks n. l (init_declared n i ++ ks) n)
  unfolding entered
  for_runs i x = scope_runs w o same m l (λ p n. inside (init_declared n i) [] p) (λ n. init_declared n i) (λ p n. refl) x

  each_runs : (y : List ℕ) → Runs w o same m l → Runs (scoped (entered (name_declared y)) w) (λ p n. o (inside (declared y n ∷ []) [] p) n) same m (λ ks n. l (declared y n ∷ ks) n)
  unfolding entered
  each_runs y x = scope_runs w o same m l (λ p n. inside (declared y n ∷ []) [] p) (λ n. declared y n ∷ []) (λ p n. refl) x

-- WHOLE TREES
mutual
  pub expr_runs : (e : Expr) → Runs (expr_walk e) (λ p n. expr_offences p n e) same (λ n. n + expr_nodes e) (λ ks n. expr_links ks n e)
  expr_runs (Num m) = ends (λ n. omega arith) passed_runs
  expr_runs (Text u) = ends (λ n. omega arith) passed_runs
  expr_runs (Truth t) = ends (λ n. omega arith) passed_runs
  expr_runs Null = ends (λ n. omega arith) passed_runs
  expr_runs Undefined = ends (λ n. omega arith) passed_runs
  expr_runs This = ends (λ n. omega arith) (offending_runs without_this)
  expr_runs (Named x) = ends (λ n. omega arith) (used_runs x)
  expr_runs (Unary op e) = ends (λ n. omega arith) (seq passed_runs (expr_runs e))
  expr_runs (Binary op a b) = ends (λ n. omega arith) (seq (seq passed_runs (expr_runs a)) (expr_runs b))
  expr_runs (Logic op a b) = ends (λ n. omega arith) (seq (seq passed_runs (expr_runs a)) (expr_runs b))
  expr_runs (Choice e a b) = ends (λ n. omega arith) (seq (seq (seq passed_runs (expr_runs e)) (expr_runs a)) (expr_runs b))
  expr_runs (SetName x e) = ends (λ n. omega arith) (seq (targeted_runs x) (expr_runs e))
  expr_runs (SetMember b key e) = ends (λ n. omega arith) (seq (seq (seq passed_runs (expr_runs b)) (key_runs key)) (expr_runs e))
  expr_runs (Change x op e) = ends (λ n. omega arith) (seq (targeted_runs x) (expr_runs e))
  expr_runs (Bump x up before) = ends (λ n. omega arith) (targeted_runs x)
  expr_runs (Member b key) = ends (λ n. omega arith) (seq (seq passed_runs (expr_runs b)) (key_runs key))
  expr_runs (Call f es) = ends (λ n. omega arith) (seq (seq passed_runs (expr_runs f)) (exprs_runs es))
  expr_runs (Object ps) = ends (λ n. omega arith) (seq passed_runs (properties_runs ps))
  expr_runs (Function f) = ends (λ n. omega arith) (seq passed_runs (function_runs f))
  expr_runs (Yield o) = ends (λ n. omega arith) (seq (offending_runs outside_generator) (maybe_runs o))
  expr_runs (YieldAll e) = ends (λ n. omega arith) (seq (offending_runs outside_generator) (expr_runs e))
  expr_runs (Await e) = ends (λ n. omega arith) (seq (offending_runs outside_async) (expr_runs e))
  expr_runs (Built form es) = ends (λ n. omega arith) (seq passed_runs (exprs_runs es))

  pub exprs_runs : (es : Exprs) → Runs (exprs_walk es) (λ p n. exprs_offences p n es) same (λ n. n + exprs_nodes es) (λ ks n. exprs_links ks n es)
  exprs_runs none = ends (λ n. omega arith) nothing_runs
  exprs_runs (also e es) = ends (λ n. omega arith) (seq (expr_runs e) (exprs_runs es))

  pub maybe_runs : (o : MaybeExpr) → Runs (maybe_walk o) (λ p n. maybe_offences p n o) same (λ n. n + maybe_nodes o) (λ ks n. maybe_links ks n o)
  maybe_runs no_expr = ends (λ n. omega arith) nothing_runs
  maybe_runs (some_expr e) = expr_runs e

  pub key_runs : (key : Key) → Runs (key_walk key) (λ p n. key_offences p n key) same (λ n. n + key_nodes key) (λ ks n. key_links ks n key)
  key_runs (Dot x) = ends (λ n. omega arith) (offending_runs (dotted x))
  key_runs (Index e) = expr_runs e

  pub prop_key_runs : (key : PropKey) → Runs (prop_key_walk key) (λ p n. prop_key_offences p n key) same (λ n. n + prop_key_nodes key) (λ ks n. prop_key_links ks n key)
  prop_key_runs (Fixed u) = ends (λ n. omega arith) (offending_runs (fixed u))
  prop_key_runs (Computed e) = expr_runs e

  pub properties_runs : (ps : Properties) → Runs (properties_walk ps) (λ p n. properties_offences p n ps) same (λ n. n + properties_nodes ps) (λ ks n. properties_links ks n ps)
  properties_runs no_properties = ends (λ n. omega arith) nothing_runs
  properties_runs (property key e ps) = ends (λ n. omega arith) (seq (seq (prop_key_runs key) (expr_runs e)) (properties_runs ps))

  pub function_runs : (f : Code) → Runs (function_walk f) (λ p n. function_offences p n f) same (λ n. n + code_nodes f) (λ ks n. function_links ks n f)
  function_runs (code x kind xs ss) =
      like (λ p n. sym (append_assoc (own_offences (alone p) n x) (params_offences (alone p) (n + name_nodes x) xs)
      (stmts_offences (all_behind xs (in_body kind (params_declared (n + name_nodes x) xs ++ list_declared (n + name_nodes x + length xs) ss ++ own_declared n x) p)) (n + name_nodes x + length xs) ss)))
      (λ p n. refl) (λ n. omega arith)
      (λ ks n. sym (append_assoc (own_links x) (params_links xs)
      (stmts_links (params_declared (n + name_nodes x) xs ++ list_declared (n + name_nodes x + length xs) ss ++ own_declared n x ++ ks) (n + name_nodes x + length xs) ss)))
      (seq_from (own_runs x) (λ k. expression_runs ss (stmts_runs ss) x kind xs k))

  pub lets_runs : (is : LetItems) → Runs (lets_walk is) (λ p n. lets_offences p n is) (λ p n. all_behind (names_of (lets_declared n is)) p) (λ n. n + lets_nodes is) (λ ks n. lets_links ks n is)
  lets_runs no_lets = ends (λ n. omega arith) nothing_runs
  lets_runs (let_item x v is) =
      like (λ p n. ap (λ (os : List Offence). binding_offences p n x ++ os ++ lets_offences (behind x p) (suc n + maybe_nodes v) is) (maybe_unbound (x ∷ p.bound) p (suc n) v)) (λ p n. refl) (λ n. omega arith) (λ p n. refl)
      (seq (seq (bound_runs x) (maybe_runs v)) (lets_runs is))

  pub consts_runs : (is : ConstItems) → Runs (consts_walk is) (λ p n. consts_offences p n is) (λ p n. all_behind (names_of (consts_declared n is)) p) (λ n. n + consts_nodes is) (λ ks n. consts_links ks n is)
  consts_runs no_consts = ends (λ n. omega arith) nothing_runs
  consts_runs (const_item x e is) =
      like (λ p n. ap (λ (os : List Offence). binding_offences p n x ++ os ++ consts_offences (behind x p) (suc n + expr_nodes e) is) (expr_unbound (x ∷ p.bound) p (suc n) e)) (λ p n. refl) (λ n. omega arith) (λ p n. refl)
      (seq (seq (bound_runs x) (expr_runs e)) (consts_runs is))

  pub init_runs : (i : Init) → Runs (init_walk i) (λ p n. init_offences p n i) same (λ n. n + init_nodes i) (λ ks n. init_links ks n i)
  init_runs init_nothing = ends (λ n. omega arith) nothing_runs
  init_runs (init_let is) = part_runs (lets_walk is) _ _ _ _ (λ p n. behind_left (names_of (lets_declared n is)) p) (lets_runs is)
  init_runs (init_const is) = part_runs (consts_walk is) _ _ _ _ (λ p n. behind_left (names_of (consts_declared n is)) p) (consts_runs is)
  init_runs (init_value e) = expr_runs e

  pub stmt_runs : (st : Stmt) → Runs (stmt_walk st) (λ p n. stmt_offences p n st) (λ p n. all_behind (names_of (stmt_declared n st)) p) (λ n. n + stmt_nodes st) (λ ks n. stmt_links ks n st)
  stmt_runs (Let is) = ends (λ n. omega arith) (seq passed_runs (lets_runs is))
  stmt_runs (Const is) = ends (λ n. omega arith) (seq passed_runs (consts_runs is))
  stmt_runs (Fun (code x kind xs ss)) = ends (λ n. omega arith) (seq passed_runs (declared_runs ss (stmts_runs ss) x kind xs))
  stmt_runs (Block ss) = ends (λ n. omega arith) (seq passed_runs (block_runs ss (stmts_runs ss)))
  stmt_runs (If e branch other) = ends (λ n. omega arith) (seq (seq (seq passed_runs (expr_runs e)) (stmt_part branch (stmt_runs branch))) (maybe_stmt_runs other))
  stmt_runs (While e body) = ends (λ n. omega arith) (seq (seq passed_runs (expr_runs e)) (stmt_loop body (stmt_runs body)))
  stmt_runs (DoWhile body e) = ends (λ n. omega arith) (seq (seq passed_runs (stmt_loop body (stmt_runs body))) (expr_runs e))
  stmt_runs (For i test update body) =
      ends (λ n. omega arith) (seq passed_runs (for_runs i (seq (seq (seq (init_runs i) (maybe_runs test)) (maybe_runs update)) (stmt_loop body (stmt_runs body)))))
  stmt_runs (ForOf constant x over body) =
      ends (λ n. omega arith) (seq passed_runs (each_runs x (seq (seq (offending_runs (bound_alone x)) (expr_runs over)) (stmt_loop body (stmt_runs body)))))
  stmt_runs (ForAwait constant x over body) =
      like (λ p n.
      let inner : Place = inside (declared x (suc n) ∷ []) [] p in
      let over_offences : List Offence = expr_offences inner (suc (suc n)) over in
      let body_offends : List Offence = stmt_offences (looped inner) (suc (suc n) + expr_nodes over) body in
      sym (append_assoc (unless p.in_async n) (binding_offences (alone p) (suc n) x ++ over_offences) body_offends)
      ∙ ap (λ (os : List Offence). os ++ body_offends) (sym (append_assoc (unless p.in_async n) (binding_offences (alone p) (suc n) x) over_offences)))
      (λ p n. refl) (λ n. omega arith) (λ ks n. refl)
      (seq (offending_runs outside_async) (each_runs x (seq (seq (offending_runs (bound_alone x)) (expr_runs over)) (stmt_loop body (stmt_runs body)))))
  stmt_runs Break = ends (λ n. omega arith) (offending_runs outside_loop)
  stmt_runs Continue = ends (λ n. omega arith) (offending_runs outside_loop)
  stmt_runs (Return o) = ends (λ n. omega arith) (seq (offending_runs outside_function) (maybe_runs o))
  stmt_runs (Throw e) = ends (λ n. omega arith) (seq passed_runs (expr_runs e))
  stmt_runs (Try block c final) = ends (λ n. omega arith) (seq (seq (seq passed_runs (block_runs block (stmts_runs block))) (catch_runs c)) (last_runs final))
  stmt_runs (Value e) = ends (λ n. omega arith) (seq passed_runs (expr_runs e))
  stmt_runs Empty = ends (λ n. omega arith) passed_runs
  stmt_runs (Switch e cs) = ends (λ n. omega arith) (seq (seq passed_runs (expr_runs e)) (clauses_runs cs))

  pub maybe_stmt_runs : (o : MaybeStmt) → Runs (maybe_stmt_walk o) (λ p n. maybe_stmt_offences p n o) same (λ n. n + maybe_stmt_nodes o) (λ ks n. maybe_stmt_links ks n o)
  maybe_stmt_runs no_stmt = ends (λ n. omega arith) nothing_runs
  maybe_stmt_runs (some_stmt st) = stmt_part st (stmt_runs st)

  pub catch_runs : (c : Catch) → Runs (catch_walk c) (λ p n. catch_offences p n c) same (λ n. n + catch_nodes c) (λ ks n. catch_links ks n c)
  catch_runs no_catch = ends (λ n. omega arith) nothing_runs
  catch_runs (catch None ss) = ends (λ n. omega arith) (block_runs ss (stmts_runs ss))
  catch_runs (catch (Some x) ss) = ends (λ n. omega arith) (caught_runs ss (stmts_runs ss) x)

  pub last_runs : (f : Last) → Runs (last_walk f) (λ p n. last_offences p n f) same (λ n. n + last_nodes f) (λ ks n. last_links ks n f)
  last_runs no_last = ends (λ n. omega arith) nothing_runs
  last_runs (last ss) = block_runs ss (stmts_runs ss)

  pub clauses_runs : (cs : Clauses) → Runs (clauses_walk cs) (λ p n. clauses_offences (alone p) n cs) same (λ n. n + clauses_nodes cs) (λ ks n. clauses_links ks n cs)
  clauses_runs no_clauses = ends (λ n. omega arith) nothing_runs
  clauses_runs (clause number ss cs) = ends (λ n. omega arith) (seq (clause_runs ss (stmts_runs ss)) (clauses_runs cs))

  pub stmts_runs : (ss : Stmts) → Runs (stmts_walk ss) (λ p n. stmts_offences p n ss) (λ p n. stmts_place p n ss) (λ n. n + stmts_nodes ss) (λ ks n. stmts_links ks n ss)
  stmts_runs end = ends (λ n. omega arith) nothing_runs
  stmts_runs (next st ss) = ends (λ n. omega arith) (seq (stmt_runs st) (stmts_runs ss))
