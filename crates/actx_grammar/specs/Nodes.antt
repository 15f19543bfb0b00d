-- Nodes of a tree, numbered from 0 as they stand in the text: each statement and expression, and each name that is bound, key
-- after a dot and fixed key of a literal. The program itself is no node; a name that is assigned is none beside its form.
use Rattle.std.specs.Prelude.{ℕ, suc, ◌+◌, List, length, Option, Some, None}
use Rattle.actx_grammar.specs.Tree.{Expr, Num, Text, Truth, Null, Undefined, This, Named, Unary, Binary, Logic, Choice, SetName, SetMember, Change, Bump, Member, Call, Object, Function, Yield, YieldAll, Await, Built, Exprs, none, also, MaybeExpr, no_expr, some_expr, Key, Dot, Index, PropKey, Fixed, Computed, Properties, no_properties, property, Code, code, LetItems, no_lets, let_item, ConstItems, no_consts, const_item, Init, init_nothing, init_let, init_const, init_value, Stmt, Let, Const, Fun, Block, If, While, DoWhile, For, ForOf, ForAwait, Break, Continue, Return, Throw, Try, Value, Empty, Switch, MaybeStmt, no_stmt, some_stmt, Catch, no_catch, catch, Last, no_last, last, Clauses, no_clauses, clause, Stmts, end, next}

-- a name that is there is one node
abbrev pub name_nodes : Option (List ℕ) → ℕ
name_nodes None = 0
name_nodes (Some x) = 1

-- how many nodes a tree has
abbrev mutual
  pub expr_nodes : Expr → ℕ
  expr_nodes (Num n) = 1
  expr_nodes (Text u) = 1
  expr_nodes (Truth t) = 1
  expr_nodes Null = 1
  expr_nodes Undefined = 1
  expr_nodes This = 1
  expr_nodes (Named x) = 1
  expr_nodes (Unary op e) = suc (expr_nodes e)
  expr_nodes (Binary op a b) = suc (expr_nodes a + expr_nodes b)
  expr_nodes (Logic op a b) = suc (expr_nodes a + expr_nodes b)
  expr_nodes (Choice e a b) = suc (expr_nodes e + expr_nodes a + expr_nodes b)
  expr_nodes (SetName x e) = suc (expr_nodes e)
  expr_nodes (SetMember b key e) = suc (expr_nodes b + key_nodes key + expr_nodes e)
  expr_nodes (Change x op e) = suc (expr_nodes e)
  expr_nodes (Bump x up before) = 1
  expr_nodes (Member b key) = suc (expr_nodes b + key_nodes key)
  expr_nodes (Call f es) = suc (expr_nodes f + exprs_nodes es)
  expr_nodes (Object ps) = suc (properties_nodes ps)
  expr_nodes (Function f) = suc (code_nodes f)
  expr_nodes (Yield o) = suc (maybe_nodes o)
  expr_nodes (YieldAll e) = suc (expr_nodes e)
  expr_nodes (Await e) = suc (expr_nodes e)
  expr_nodes (Built form es) = suc (exprs_nodes es)

  pub exprs_nodes : Exprs → ℕ
  exprs_nodes none = 0
  exprs_nodes (also e es) = expr_nodes e + exprs_nodes es

  pub maybe_nodes : MaybeExpr → ℕ
  maybe_nodes no_expr = 0
  maybe_nodes (some_expr e) = expr_nodes e

  pub key_nodes : Key → ℕ
  key_nodes (Dot x) = 1
  key_nodes (Index e) = expr_nodes e

  pub prop_key_nodes : PropKey → ℕ
  prop_key_nodes (Fixed u) = 1
  prop_key_nodes (Computed e) = expr_nodes e

  pub properties_nodes : Properties → ℕ
  properties_nodes no_properties = 0
  properties_nodes (property key e ps) = prop_key_nodes key + expr_nodes e + properties_nodes ps

  -- what stands in a function: its own name, its parameters and its body
  pub code_nodes : Code → ℕ
  code_nodes (code x kind xs ss) = name_nodes x + length xs + stmts_nodes ss

  pub lets_nodes : LetItems → ℕ
  lets_nodes no_lets = 0
  lets_nodes (let_item x v is) = suc (maybe_nodes v + lets_nodes is)

  pub consts_nodes : ConstItems → ℕ
  consts_nodes no_consts = 0
  consts_nodes (const_item x e is) = suc (expr_nodes e + consts_nodes is)

  pub init_nodes : Init → ℕ
  init_nodes init_nothing = 0
  init_nodes (init_let is) = lets_nodes is
  init_nodes (init_const is) = consts_nodes is
  init_nodes (init_value e) = expr_nodes e

  pub stmt_nodes : Stmt → ℕ
  stmt_nodes (Let is) = suc (lets_nodes is)
  stmt_nodes (Const is) = suc (consts_nodes is)
  stmt_nodes (Fun f) = suc (code_nodes f)
  stmt_nodes (Block ss) = suc (stmts_nodes ss)
  stmt_nodes (If e yes_part no_part) = suc (expr_nodes e + stmt_nodes yes_part + maybe_stmt_nodes no_part)
  stmt_nodes (While e body) = suc (expr_nodes e + stmt_nodes body)
  stmt_nodes (DoWhile body e) = suc (stmt_nodes body + expr_nodes e)
  stmt_nodes (For i test update body) = suc (init_nodes i + maybe_nodes test + maybe_nodes update + stmt_nodes body)
  stmt_nodes (ForOf constant x over body) = suc (suc (expr_nodes over + stmt_nodes body))
  stmt_nodes (ForAwait constant x over body) = suc (suc (expr_nodes over + stmt_nodes body))
  stmt_nodes Break = 1
  stmt_nodes Continue = 1
  stmt_nodes (Return o) = suc (maybe_nodes o)
  stmt_nodes (Throw e) = suc (expr_nodes e)
  stmt_nodes (Try block c final) = suc (stmts_nodes block + catch_nodes c + last_nodes final)
  stmt_nodes (Value e) = suc (expr_nodes e)
  stmt_nodes Empty = 1
  stmt_nodes (Switch e cs) = suc (expr_nodes e + clauses_nodes cs)

  pub maybe_stmt_nodes : MaybeStmt → ℕ
  maybe_stmt_nodes no_stmt = 0
  maybe_stmt_nodes (some_stmt st) = stmt_nodes st

  pub catch_nodes : Catch → ℕ
  catch_nodes no_catch = 0
  catch_nodes (catch x ss) = name_nodes x + stmts_nodes ss

  pub last_nodes : Last → ℕ
  last_nodes no_last = 0
  last_nodes (last ss) = stmts_nodes ss

  pub clauses_nodes : Clauses → ℕ
  clauses_nodes no_clauses = 0
  clauses_nodes (clause n ss cs) = stmts_nodes ss + clauses_nodes cs

  pub stmts_nodes : Stmts → ℕ
  stmts_nodes end = 0
  stmts_nodes (next st ss) = stmt_nodes st + stmts_nodes ss
