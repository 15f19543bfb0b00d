-- THE NODES OF A PROGRAM, in the order of their numbers: each before its parts, and these as they stand in the text.
use Rattle.std.specs.Prelude.{ℕ, List, [], ◌∷◌, ◌++◌, Option, Some, None, map}
use Rattle.actx_grammar.specs.Tree as t
use Rattle.actx_grammar.specs.Tree.{Expr, Exprs, MaybeExpr, Key, PropKey, Properties, Code, LetItems, ConstItems, Init, Stmt, MaybeStmt, Catch, Last, Clauses, Stmts}
use Rattle.actx_nodes.specs.Node.{Node, ExprNode, StmtNode, NameNode, KeyNode, LetNode, ConstNode}

abbrev pub name_nodes : Option (List ℕ) → List Node
name_nodes None = []
name_nodes (Some x) = NameNode x ∷ []

abbrev mutual
  pub expr_nodes : Expr → List Node
  expr_nodes (t.Num n) = ExprNode (t.Num n) ∷ []
  expr_nodes (t.Text u) = ExprNode (t.Text u) ∷ []
  expr_nodes (t.Truth b) = ExprNode (t.Truth b) ∷ []
  expr_nodes t.Null = ExprNode t.Null ∷ []
  expr_nodes t.Undefined = ExprNode t.Undefined ∷ []
  expr_nodes t.This = ExprNode t.This ∷ []
  expr_nodes (t.Named x) = ExprNode (t.Named x) ∷ []
  expr_nodes (t.Unary op a) = ExprNode (t.Unary op a) ∷ expr_nodes a
  expr_nodes (t.Binary op a b) = ExprNode (t.Binary op a b) ∷ (expr_nodes a ++ expr_nodes b)
  expr_nodes (t.Logic op a b) = ExprNode (t.Logic op a b) ∷ (expr_nodes a ++ expr_nodes b)
  expr_nodes (t.Choice e a b) = ExprNode (t.Choice e a b) ∷ (expr_nodes e ++ (expr_nodes a ++ expr_nodes b))
  expr_nodes (t.SetName x a) = ExprNode (t.SetName x a) ∷ expr_nodes a
  expr_nodes (t.SetMember b key a) = ExprNode (t.SetMember b key a) ∷ (expr_nodes b ++ (key_nodes key ++ expr_nodes a))
  expr_nodes (t.Change x op a) = ExprNode (t.Change x op a) ∷ expr_nodes a
  expr_nodes (t.Bump x up before) = ExprNode (t.Bump x up before) ∷ []
  expr_nodes (t.Member b key) = ExprNode (t.Member b key) ∷ (expr_nodes b ++ key_nodes key)
  expr_nodes (t.Call f es) = ExprNode (t.Call f es) ∷ (expr_nodes f ++ exprs_nodes es)
  expr_nodes (t.Object ps) = ExprNode (t.Object ps) ∷ properties_nodes ps
  expr_nodes (t.Function f) = ExprNode (t.Function f) ∷ code_nodes f
  expr_nodes (t.Yield o) = ExprNode (t.Yield o) ∷ maybe_nodes o
  expr_nodes (t.YieldAll a) = ExprNode (t.YieldAll a) ∷ expr_nodes a
  expr_nodes (t.Await a) = ExprNode (t.Await a) ∷ expr_nodes a
  expr_nodes (t.Built form es) = ExprNode (t.Built form es) ∷ exprs_nodes es

  pub exprs_nodes : Exprs → List Node
  exprs_nodes t.none = []
  exprs_nodes (t.also e es) = expr_nodes e ++ exprs_nodes es

  pub maybe_nodes : MaybeExpr → List Node
  maybe_nodes t.no_expr = []
  maybe_nodes (t.some_expr e) = expr_nodes e

  pub key_nodes : Key → List Node
  key_nodes (t.Dot x) = NameNode x ∷ []
  key_nodes (t.Index e) = expr_nodes e

  pub prop_key_nodes : PropKey → List Node
  prop_key_nodes (t.Fixed u) = KeyNode u ∷ []
  prop_key_nodes (t.Computed e) = expr_nodes e

  pub properties_nodes : Properties → List Node
  properties_nodes t.no_properties = []
  properties_nodes (t.property key e ps) = prop_key_nodes key ++ (expr_nodes e ++ properties_nodes ps)

  pub code_nodes : Code → List Node
  code_nodes (t.code x kind xs ss) = name_nodes x ++ (map NameNode xs ++ stmts_nodes ss)

  pub lets_nodes : LetItems → List Node
  lets_nodes t.no_lets = []
  lets_nodes (t.let_item x e is) = LetNode x e ∷ (maybe_nodes e ++ lets_nodes is)

  pub consts_nodes : ConstItems → List Node
  consts_nodes t.no_consts = []
  consts_nodes (t.const_item x e is) = ConstNode x e ∷ (expr_nodes e ++ consts_nodes is)

  pub init_nodes : Init → List Node
  init_nodes t.init_nothing = []
  init_nodes (t.init_let is) = lets_nodes is
  init_nodes (t.init_const is) = consts_nodes is
  init_nodes (t.init_value e) = expr_nodes e

  pub stmt_nodes : Stmt → List Node
  stmt_nodes (t.Let is) = StmtNode (t.Let is) ∷ lets_nodes is
  stmt_nodes (t.Const is) = StmtNode (t.Const is) ∷ consts_nodes is
  stmt_nodes (t.Fun f) = StmtNode (t.Fun f) ∷ code_nodes f
  stmt_nodes (t.Block ss) = StmtNode (t.Block ss) ∷ stmts_nodes ss
  stmt_nodes (t.If e st other) = StmtNode (t.If e st other) ∷ (expr_nodes e ++ (stmt_nodes st ++ other_nodes other))
  stmt_nodes (t.While e st) = StmtNode (t.While e st) ∷ (expr_nodes e ++ stmt_nodes st)
  stmt_nodes (t.DoWhile st e) = StmtNode (t.DoWhile st e) ∷ (stmt_nodes st ++ expr_nodes e)
  stmt_nodes (t.For i test update st) = StmtNode (t.For i test update st) ∷ (init_nodes i ++ (maybe_nodes test ++ (maybe_nodes update ++ stmt_nodes st)))
  stmt_nodes (t.ForOf constant x e st) = StmtNode (t.ForOf constant x e st) ∷ NameNode x ∷ (expr_nodes e ++ stmt_nodes st)
  stmt_nodes (t.ForAwait constant x e st) = StmtNode (t.ForAwait constant x e st) ∷ NameNode x ∷ (expr_nodes e ++ stmt_nodes st)
  stmt_nodes t.Break = StmtNode t.Break ∷ []
  stmt_nodes t.Continue = StmtNode t.Continue ∷ []
  stmt_nodes (t.Return o) = StmtNode (t.Return o) ∷ maybe_nodes o
  stmt_nodes (t.Throw e) = StmtNode (t.Throw e) ∷ expr_nodes e
  stmt_nodes (t.Try ss catcher ending) = StmtNode (t.Try ss catcher ending) ∷ (stmts_nodes ss ++ (catch_nodes catcher ++ last_nodes ending))
  stmt_nodes (t.Value e) = StmtNode (t.Value e) ∷ expr_nodes e
  stmt_nodes t.Empty = StmtNode t.Empty ∷ []
  stmt_nodes (t.Switch e cs) = StmtNode (t.Switch e cs) ∷ (expr_nodes e ++ clauses_nodes cs)

  pub other_nodes : MaybeStmt → List Node
  other_nodes t.no_stmt = []
  other_nodes (t.some_stmt st) = stmt_nodes st

  pub catch_nodes : Catch → List Node
  catch_nodes t.no_catch = []
  catch_nodes (t.catch x ss) = name_nodes x ++ stmts_nodes ss

  pub last_nodes : Last → List Node
  last_nodes t.no_last = []
  last_nodes (t.last ss) = stmts_nodes ss

  pub clauses_nodes : Clauses → List Node
  clauses_nodes t.no_clauses = []
  clauses_nodes (t.clause n ss cs) = stmts_nodes ss ++ clauses_nodes cs

  pub stmts_nodes : Stmts → List Node
  stmts_nodes t.end = []
  stmts_nodes (t.next st ss) = stmt_nodes st ++ stmts_nodes ss
