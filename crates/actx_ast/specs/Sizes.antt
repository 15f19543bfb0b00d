-- How much is printed of a tree at most: what bounds the work over a list of what is left to print.
use Rattle.std.specs.Prelude.{ℕ, ◌+◌}
use Rattle.actx_grammar.specs.Tree.{Expr, Num, Text, Truth, Null, Undefined, This, Named, Unary, Binary, Logic, Choice, SetName, SetMember, Change, Bump, Member, Call, Object, Function, Yield, YieldAll, Await, Built, Exprs, none, also, MaybeExpr, no_expr, some_expr, Key, Dot, Index, PropKey, Fixed, Computed, Properties, no_properties, property, Code, code, LetItems, no_lets, let_item, ConstItems, no_consts, const_item, Init, init_nothing, init_let, init_const, init_value, Stmt, Let, Const, Fun, Block, If, While, DoWhile, For, ForOf, ForAwait, Break, Continue, Return, Throw, Try, Value, Empty, Switch, MaybeStmt, no_stmt, some_stmt, Catch, no_catch, catch, Last, no_last, last, Clauses, no_clauses, clause, Stmts, end, next}

-- a node is at least as much as its own tokens and the places of its parts
abbrev mutual
  pub expr_size : Expr → ℕ
  expr_size (Num n) = 24
  expr_size (Text u) = 24
  expr_size (Truth t) = 24
  expr_size Null = 24
  expr_size Undefined = 24
  expr_size This = 24
  expr_size (Named x) = 24
  expr_size (Unary op e) = 24 + expr_size e
  expr_size (Binary op a b) = 24 + expr_size a + expr_size b
  expr_size (Logic op a b) = 24 + expr_size a + expr_size b
  expr_size (Choice e a b) = 24 + expr_size e + expr_size a + expr_size b
  expr_size (SetName x e) = 24 + expr_size e
  expr_size (SetMember b key e) = 24 + expr_size b + key_size key + expr_size e
  expr_size (Change x op e) = 24 + expr_size e
  expr_size (Bump x up before) = 24
  expr_size (Member b key) = 24 + expr_size b + key_size key
  expr_size (Call f es) = 24 + expr_size f + exprs_size es
  expr_size (Object ps) = 24 + properties_size ps
  expr_size (Function f) = 24 + code_size f
  expr_size (Yield o) = 24 + maybe_size o
  expr_size (YieldAll e) = 24 + expr_size e
  expr_size (Await e) = 24 + expr_size e
  expr_size (Built form es) = 24 + exprs_size es

  pub exprs_size : Exprs → ℕ
  exprs_size none = 0
  exprs_size (also e es) = 24 + expr_size e + exprs_size es

  pub maybe_size : MaybeExpr → ℕ
  maybe_size no_expr = 0
  maybe_size (some_expr e) = 24 + expr_size e

  pub key_size : Key → ℕ
  key_size (Dot x) = 24
  key_size (Index e) = 24 + expr_size e

  pub prop_key_size : PropKey → ℕ
  prop_key_size (Fixed u) = 24
  prop_key_size (Computed e) = 24 + expr_size e

  pub properties_size : Properties → ℕ
  properties_size no_properties = 0
  properties_size (property key e ps) = 24 + prop_key_size key + expr_size e + properties_size ps

  pub code_size : Code → ℕ
  code_size (code x kind xs ss) = 24 + stmts_size ss

  pub lets_size : LetItems → ℕ
  lets_size no_lets = 0
  lets_size (let_item x v is) = 24 + maybe_size v + lets_size is

  pub consts_size : ConstItems → ℕ
  consts_size no_consts = 0
  consts_size (const_item x e is) = 24 + expr_size e + consts_size is

  pub init_size : Init → ℕ
  init_size init_nothing = 0
  init_size (init_let is) = 24 + lets_size is
  init_size (init_const is) = 24 + consts_size is
  init_size (init_value e) = 24 + expr_size e

  pub stmt_size : Stmt → ℕ
  stmt_size (Let is) = 24 + lets_size is
  stmt_size (Const is) = 24 + consts_size is
  stmt_size (Fun f) = 24 + code_size f
  stmt_size (Block ss) = 24 + stmts_size ss
  stmt_size (If e branch other) = 24 + expr_size e + stmt_size branch + other_size other
  stmt_size (While e body) = 24 + expr_size e + stmt_size body
  stmt_size (DoWhile body e) = 24 + stmt_size body + expr_size e
  stmt_size (For i test update body) = 24 + init_size i + maybe_size test + maybe_size update + stmt_size body
  stmt_size (ForOf constant x over body) = 24 + expr_size over + stmt_size body
  stmt_size (ForAwait constant x over body) = 24 + expr_size over + stmt_size body
  stmt_size Break = 24
  stmt_size Continue = 24
  stmt_size (Return o) = 24 + maybe_size o
  stmt_size (Throw e) = 24 + expr_size e
  stmt_size (Try block c final) = 24 + stmts_size block + catch_size c + last_size final
  stmt_size (Value e) = 24 + expr_size e
  stmt_size Empty = 24
  stmt_size (Switch e cs) = 24 + expr_size e + clauses_size cs

  pub other_size : MaybeStmt → ℕ
  other_size no_stmt = 0
  other_size (some_stmt st) = 24 + stmt_size st

  pub catch_size : Catch → ℕ
  catch_size no_catch = 0
  catch_size (catch x ss) = 24 + stmts_size ss

  pub last_size : Last → ℕ
  last_size no_last = 0
  last_size (last ss) = 24 + stmts_size ss

  pub clauses_size : Clauses → ℕ
  clauses_size no_clauses = 0
  clauses_size (clause n ss cs) = 24 + stmts_size ss + clauses_size cs

  pub stmts_size : Stmts → ℕ
  stmts_size end = 0
  stmts_size (next st ss) = 24 + stmt_size st + stmts_size ss
