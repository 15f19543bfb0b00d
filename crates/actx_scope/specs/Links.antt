-- What the nodes of a tree refer to, in order: at a use of a name the node that declares it or, where no declaration of the
-- name is in scope, the name itself; and at any other node nothing.
use Rattle.std.specs.Prelude.{ℕ, suc, ◌+◌, List, [], ◌∷◌, ◌++◌, length, Option, Some, None, slice_get, if◌then◌else◌}
use Rattle.actx_grammar.specs.Nodes.{name_nodes, expr_nodes, maybe_nodes, key_nodes, prop_key_nodes, init_nodes, stmt_nodes, stmts_nodes, catch_nodes}
use Rattle.actx_grammar.specs.Static.{Declared, declared, is_among, own_declared, params_declared, list_declared, init_declared}
use Rattle.actx_grammar.specs.Tree.{Expr, Num, Text, Truth, Null, Undefined, This, Named, Unary, Binary, Logic, Choice, SetName, SetMember, Change, Bump, Member, Call, Object, Function, Yield, YieldAll, Await, Built, Exprs, none, also, MaybeExpr, no_expr, some_expr, Key, Dot, Index, PropKey, Fixed, Computed, Properties, no_properties, property, Code, code, LetItems, no_lets, let_item, ConstItems, no_consts, const_item, Init, init_nothing, init_let, init_const, init_value, Stmt, Let, Const, Fun, Block, If, While, DoWhile, For, ForOf, ForAwait, Break, Continue, Return, Throw, Try, Value, Empty, Switch, MaybeStmt, no_stmt, some_stmt, Catch, no_catch, catch, Last, no_last, last, Clauses, no_clauses, clause, Stmts, end, next}
use Rattle.actx_scope.specs.declared.link.Link.{Link}
use Rattle.actx_scope.specs.declared.link.Link.TheVariants.{Nothing, To, Free}
use Rattle.actx_scope.specs.Found.{found}

-- a use of a name, by what is found for it
abbrev pub linked : List ℕ → Option ℕ → Link
linked x None = Free x
linked x (Some n) = To n

abbrev pub link_of : List Declared → List ℕ → Link
link_of ks x = linked x (found ks x)

-- names that are bound
abbrev pub own_links : Option (List ℕ) → List Link
own_links None = []
own_links (Some x) = Nothing ∷ []

abbrev pub params_links : List (List ℕ) → List Link
params_links [] = []
params_links (x ∷ xs) = Nothing ∷ params_links xs

-- trees whose first node has the number n, where some declarations are known
abbrev mutual
  pub expr_links : List Declared → ℕ → Expr → List Link
  expr_links ks n (Num m) = Nothing ∷ []
  expr_links ks n (Text u) = Nothing ∷ []
  expr_links ks n (Truth t) = Nothing ∷ []
  expr_links ks n Null = Nothing ∷ []
  expr_links ks n Undefined = Nothing ∷ []
  expr_links ks n This = Nothing ∷ []
  expr_links ks n (Named x) = link_of ks x ∷ []
  expr_links ks n (Unary op e) = Nothing ∷ expr_links ks (suc n) e
  expr_links ks n (Binary op a b) = Nothing ∷ (expr_links ks (suc n) a ++ expr_links ks (suc n + expr_nodes a) b)
  expr_links ks n (Logic op a b) = Nothing ∷ (expr_links ks (suc n) a ++ expr_links ks (suc n + expr_nodes a) b)
  expr_links ks n (Choice e a b) = Nothing ∷ (expr_links ks (suc n) e ++ expr_links ks (suc n + expr_nodes e) a ++ expr_links ks (suc n + expr_nodes e + expr_nodes a) b)
  expr_links ks n (SetName x e) = link_of ks x ∷ expr_links ks (suc n) e
  expr_links ks n (SetMember b key e) = Nothing ∷ (expr_links ks (suc n) b ++ key_links ks (suc n + expr_nodes b) key ++ expr_links ks (suc n + expr_nodes b + key_nodes key) e)
  expr_links ks n (Change x op e) = link_of ks x ∷ expr_links ks (suc n) e
  expr_links ks n (Bump x up before) = link_of ks x ∷ []
  expr_links ks n (Member b key) = Nothing ∷ (expr_links ks (suc n) b ++ key_links ks (suc n + expr_nodes b) key)
  expr_links ks n (Call f es) = Nothing ∷ (expr_links ks (suc n) f ++ exprs_links ks (suc n + expr_nodes f) es)
  expr_links ks n (Object ps) = Nothing ∷ properties_links ks (suc n) ps
  expr_links ks n (Function f) = Nothing ∷ function_links ks (suc n) f
  expr_links ks n (Yield o) = Nothing ∷ maybe_links ks (suc n) o
  expr_links ks n (YieldAll e) = Nothing ∷ expr_links ks (suc n) e
  expr_links ks n (Await e) = Nothing ∷ expr_links ks (suc n) e
  expr_links ks n (Built form es) = Nothing ∷ exprs_links ks (suc n) es

  pub exprs_links : List Declared → ℕ → Exprs → List Link
  exprs_links ks n none = []
  exprs_links ks n (also e es) = expr_links ks n e ++ exprs_links ks (n + expr_nodes e) es

  pub maybe_links : List Declared → ℕ → MaybeExpr → List Link
  maybe_links ks n no_expr = []
  maybe_links ks n (some_expr e) = expr_links ks n e

  pub key_links : List Declared → ℕ → Key → List Link
  key_links ks n (Dot x) = Nothing ∷ []
  key_links ks n (Index e) = expr_links ks n e

  pub prop_key_links : List Declared → ℕ → PropKey → List Link
  prop_key_links ks n (Fixed u) = Nothing ∷ []
  prop_key_links ks n (Computed e) = expr_links ks n e

  pub properties_links : List Declared → ℕ → Properties → List Link
  properties_links ks n no_properties = []
  properties_links ks n (property key e ps) =
      prop_key_links ks n key ++ expr_links ks (n + prop_key_nodes key) e ++ properties_links ks (n + prop_key_nodes key + expr_nodes e) ps

  -- a function expression's own name is known round its parameters and its body
  pub function_links : List Declared → ℕ → Code → List Link
  function_links ks n (code x kind xs ss) =
      own_links x ++ params_links xs
      ++ stmts_links (params_declared (n + name_nodes x) xs ++ list_declared (n + name_nodes x + length xs) ss ++ own_declared n x ++ ks) (n + name_nodes x + length xs) ss

  pub lets_links : List Declared → ℕ → LetItems → List Link
  lets_links ks n no_lets = []
  lets_links ks n (let_item x v is) = Nothing ∷ (maybe_links ks (suc n) v ++ lets_links ks (suc n + maybe_nodes v) is)

  pub consts_links : List Declared → ℕ → ConstItems → List Link
  consts_links ks n no_consts = []
  consts_links ks n (const_item x e is) = Nothing ∷ (expr_links ks (suc n) e ++ consts_links ks (suc n + expr_nodes e) is)

  pub init_links : List Declared → ℕ → Init → List Link
  init_links ks n init_nothing = []
  init_links ks n (init_let is) = lets_links ks n is
  init_links ks n (init_const is) = consts_links ks n is
  init_links ks n (init_value e) = expr_links ks n e

  pub stmt_links : List Declared → ℕ → Stmt → List Link
  stmt_links ks n (Let is) = Nothing ∷ lets_links ks (suc n) is
  stmt_links ks n (Const is) = Nothing ∷ consts_links ks (suc n) is
  stmt_links ks n (Fun (code x kind xs ss)) =
      Nothing ∷ (own_links x ++ params_links xs
      ++ stmts_links (params_declared (suc n + name_nodes x) xs ++ list_declared (suc n + name_nodes x + length xs) ss ++ ks) (suc n + name_nodes x + length xs) ss)
  stmt_links ks n (Block ss) = Nothing ∷ stmts_links (list_declared (suc n) ss ++ ks) (suc n) ss
  stmt_links ks n (If e branch other) = Nothing ∷ (expr_links ks (suc n) e ++ stmt_links ks (suc n + expr_nodes e) branch ++ maybe_stmt_links ks (suc n + expr_nodes e + stmt_nodes branch) other)
  stmt_links ks n (While e body) = Nothing ∷ (expr_links ks (suc n) e ++ stmt_links ks (suc n + expr_nodes e) body)
  stmt_links ks n (DoWhile body e) = Nothing ∷ (stmt_links ks (suc n) body ++ expr_links ks (suc n + stmt_nodes body) e)
  stmt_links ks n (For i test update body) =
      Nothing ∷ (init_links (init_declared (suc n) i ++ ks) (suc n) i
      ++ maybe_links (init_declared (suc n) i ++ ks) (suc n + init_nodes i) test
      ++ maybe_links (init_declared (suc n) i ++ ks) (suc n + init_nodes i + maybe_nodes test) update
      ++ stmt_links (init_declared (suc n) i ++ ks) (suc n + init_nodes i + maybe_nodes test + maybe_nodes update) body)
  stmt_links ks n (ForOf constant x over body) = Nothing ∷ (Nothing ∷ (expr_links (declared x (suc n) ∷ ks) (suc (suc n)) over ++ stmt_links (declared x (suc n) ∷ ks) (suc (suc n) + expr_nodes over) body))
  stmt_links ks n (ForAwait constant x over body) = Nothing ∷ (Nothing ∷ (expr_links (declared x (suc n) ∷ ks) (suc (suc n)) over ++ stmt_links (declared x (suc n) ∷ ks) (suc (suc n) + expr_nodes over) body))
  stmt_links ks n Break = Nothing ∷ []
  stmt_links ks n Continue = Nothing ∷ []
  stmt_links ks n (Return o) = Nothing ∷ maybe_links ks (suc n) o
  stmt_links ks n (Throw e) = Nothing ∷ expr_links ks (suc n) e
  stmt_links ks n (Try block c final) =
      Nothing ∷ (stmts_links (list_declared (suc n) block ++ ks) (suc n) block
      ++ catch_links ks (suc n + stmts_nodes block) c
      ++ last_links ks (suc n + stmts_nodes block + catch_nodes c) final)
  stmt_links ks n (Value e) = Nothing ∷ expr_links ks (suc n) e
  stmt_links ks n Empty = Nothing ∷ []
  stmt_links ks n (Switch e cs) = Nothing ∷ (expr_links ks (suc n) e ++ clauses_links ks (suc n + expr_nodes e) cs)

  pub maybe_stmt_links : List Declared → ℕ → MaybeStmt → List Link
  maybe_stmt_links ks n no_stmt = []
  maybe_stmt_links ks n (some_stmt st) = stmt_links ks n st

  pub catch_links : List Declared → ℕ → Catch → List Link
  catch_links ks n no_catch = []
  catch_links ks n (catch None ss) = stmts_links (list_declared n ss ++ ks) n ss
  catch_links ks n (catch (Some x) ss) = Nothing ∷ stmts_links (declared x n ∷ (list_declared (suc n) ss ++ ks)) (suc n) ss

  pub last_links : List Declared → ℕ → Last → List Link
  last_links ks n no_last = []
  last_links ks n (last ss) = stmts_links (list_declared n ss ++ ks) n ss

  pub clauses_links : List Declared → ℕ → Clauses → List Link
  clauses_links ks n no_clauses = []
  clauses_links ks n (clause number ss cs) = stmts_links ks n ss ++ clauses_links ks (n + stmts_nodes ss) cs

  pub stmts_links : List Declared → ℕ → Stmts → List Link
  stmts_links ks n end = []
  stmts_links ks n (next st ss) = stmt_links ks n st ++ stmts_links ks (n + stmt_nodes st) ss

-- what the nodes of a program refer to
abbrev pub links : Stmts → List Link
links ss = stmts_links (list_declared 0 ss) 0 ss

-- the declaration that a node refers to, where it is a use of a name that is declared
abbrev pub target_of : Option Link → Option ℕ
target_of None = None
target_of (Some Nothing) = None
target_of (Some (To n)) = Some n
target_of (Some (Free x)) = None

abbrev pub link_at : List Link → ℕ → Option ℕ
link_at ls n = target_of (slice_get ls n)

-- FREE NAMES
-- the names that are used and not declared, one for each use
abbrev pub free_of : List Link → List (List ℕ)
free_of [] = []
free_of (Nothing ∷ ls) = free_of ls
free_of (To n ∷ ls) = free_of ls
free_of (Free x ∷ ls) = x ∷ free_of ls

-- some names, and those of others that aren't among them, each once
abbrev pub with_name : List (List ℕ) → List ℕ → List (List ℕ)
with_name xs x = if is_among xs x then xs else xs ++ x ∷ []

abbrev pub with_names : List (List ℕ) → List (List ℕ) → List (List ℕ)
with_names xs [] = xs
with_names xs (y ∷ ys) = with_names (with_name xs y) ys

-- the names that a function uses and doesn't declare, each once, in the order of their first uses
abbrev pub free_names : Code → List (List ℕ)
free_names f = with_names [] (free_of (function_links [] 0 f))
