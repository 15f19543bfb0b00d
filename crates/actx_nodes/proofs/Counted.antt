-- There are as many nodes as the grammar counts in a tree.
use Rattle.std.proofs.Common.{◌≡◌, ℕ, suc, ◌+◌, List, [], ◌∷◌, ◌++◌, Option, Some, None, length, map, refl, ap, arith, length-append}
use Rattle.actx_grammar.specs.Nodes as g
use Rattle.actx_grammar.specs.Tree as t
use Rattle.actx_grammar.specs.Tree.{Expr, Exprs, MaybeExpr, Key, PropKey, Properties, Code, LetItems, ConstItems, Init, Stmt, MaybeStmt, Catch, Last, Clauses, Stmts}
use Rattle.actx_nodes.specs.Forest.{Entry, forest}
use Rattle.actx_nodes.specs.Node.{Node, NameNode}
use Rattle.actx_nodes.specs.Preorder as n

two : (xs ys : List Node) (k m : ℕ) → length xs ≡ k → length ys ≡ m → length (xs ++ ys) ≡ k + m
two xs ys k m h q = omega (arith, h, q, length-append xs ys)

name : (o : Option (List ℕ)) → length (n.name_nodes o) ≡ g.name_nodes o
name None = refl
name (Some x) = refl

names : (xs : List (List ℕ)) → length (map NameNode xs) ≡ length xs
names [] = refl
names (x ∷ xs) = ap suc (names xs)

mutual
  expr : (a : Expr) → length (n.expr_nodes a) ≡ g.expr_nodes a
  expr (t.Num m) = refl
  expr (t.Text u) = refl
  expr (t.Truth b) = refl
  expr t.Null = refl
  expr t.Undefined = refl
  expr t.This = refl
  expr (t.Named x) = refl
  expr (t.Unary op a) = ap suc (expr a)
  expr (t.Binary op a b) = ap suc (two (n.expr_nodes a) (n.expr_nodes b) (g.expr_nodes a) (g.expr_nodes b) (expr a) (expr b))
  expr (t.Logic op a b) = ap suc (two (n.expr_nodes a) (n.expr_nodes b) (g.expr_nodes a) (g.expr_nodes b) (expr a) (expr b))
  expr (t.Choice e a b) = omega (arith, expr e, two (n.expr_nodes a) (n.expr_nodes b) (g.expr_nodes a) (g.expr_nodes b) (expr a) (expr b), length-append (n.expr_nodes e) (n.expr_nodes a ++ n.expr_nodes b))
  expr (t.SetName x a) = ap suc (expr a)
  expr (t.SetMember b k a) = omega (arith, expr b, two (n.key_nodes k) (n.expr_nodes a) (g.key_nodes k) (g.expr_nodes a) (key k) (expr a), length-append (n.expr_nodes b) (n.key_nodes k ++ n.expr_nodes a))
  expr (t.Change x op a) = ap suc (expr a)
  expr (t.Bump x up before) = refl
  expr (t.Member b k) = ap suc (two (n.expr_nodes b) (n.key_nodes k) (g.expr_nodes b) (g.key_nodes k) (expr b) (key k))
  expr (t.Call f es) = ap suc (two (n.expr_nodes f) (n.exprs_nodes es) (g.expr_nodes f) (g.exprs_nodes es) (expr f) (exprs es))
  expr (t.Object ps) = ap suc (properties ps)
  expr (t.Function f) = ap suc (code f)
  expr (t.Yield o) = ap suc (maybe o)
  expr (t.YieldAll a) = ap suc (expr a)
  expr (t.Await a) = ap suc (expr a)
  expr (t.Built form es) = ap suc (exprs es)

  exprs : (es : Exprs) → length (n.exprs_nodes es) ≡ g.exprs_nodes es
  exprs t.none = refl
  exprs (t.also a es) = two (n.expr_nodes a) (n.exprs_nodes es) (g.expr_nodes a) (g.exprs_nodes es) (expr a) (exprs es)

  maybe : (o : MaybeExpr) → length (n.maybe_nodes o) ≡ g.maybe_nodes o
  maybe t.no_expr = refl
  maybe (t.some_expr a) = expr a

  key : (k : Key) → length (n.key_nodes k) ≡ g.key_nodes k
  key (t.Dot x) = refl
  key (t.Index a) = expr a

  prop_key : (k : PropKey) → length (n.prop_key_nodes k) ≡ g.prop_key_nodes k
  prop_key (t.Fixed u) = refl
  prop_key (t.Computed a) = expr a

  properties : (ps : Properties) → length (n.properties_nodes ps) ≡ g.properties_nodes ps
  properties t.no_properties = refl
  properties (t.property k a ps) = omega (arith, prop_key k, two (n.expr_nodes a) (n.properties_nodes ps) (g.expr_nodes a) (g.properties_nodes ps) (expr a) (properties ps), length-append (n.prop_key_nodes k) (n.expr_nodes a ++ n.properties_nodes ps))

  code : (f : Code) → length (n.code_nodes f) ≡ g.code_nodes f
  code (t.code x kind xs ss) = omega (arith, name x, two (map NameNode xs) (n.stmts_nodes ss) (length xs) (g.stmts_nodes ss) (names xs) (stmts ss), length-append (n.name_nodes x) (map NameNode xs ++ n.stmts_nodes ss))

  lets : (is : LetItems) → length (n.lets_nodes is) ≡ g.lets_nodes is
  lets t.no_lets = refl
  lets (t.let_item x o is) = ap suc (two (n.maybe_nodes o) (n.lets_nodes is) (g.maybe_nodes o) (g.lets_nodes is) (maybe o) (lets is))

  consts : (is : ConstItems) → length (n.consts_nodes is) ≡ g.consts_nodes is
  consts t.no_consts = refl
  consts (t.const_item x a is) = ap suc (two (n.expr_nodes a) (n.consts_nodes is) (g.expr_nodes a) (g.consts_nodes is) (expr a) (consts is))

  init : (i : Init) → length (n.init_nodes i) ≡ g.init_nodes i
  init t.init_nothing = refl
  init (t.init_let is) = lets is
  init (t.init_const is) = consts is
  init (t.init_value a) = expr a

  stmt : (st : Stmt) → length (n.stmt_nodes st) ≡ g.stmt_nodes st
  stmt (t.Let is) = ap suc (lets is)
  stmt (t.Const is) = ap suc (consts is)
  stmt (t.Fun f) = ap suc (code f)
  stmt (t.Block ss) = ap suc (stmts ss)
  stmt (t.If e st o) = omega (arith, expr e, two (n.stmt_nodes st) (n.other_nodes o) (g.stmt_nodes st) (g.maybe_stmt_nodes o) (stmt st) (other o), length-append (n.expr_nodes e) (n.stmt_nodes st ++ n.other_nodes o))
  stmt (t.While e st) = ap suc (two (n.expr_nodes e) (n.stmt_nodes st) (g.expr_nodes e) (g.stmt_nodes st) (expr e) (stmt st))
  stmt (t.DoWhile st e) = ap suc (two (n.stmt_nodes st) (n.expr_nodes e) (g.stmt_nodes st) (g.expr_nodes e) (stmt st) (expr e))
  stmt (t.For i test update st) = omega (arith, init i, maybe test, two (n.maybe_nodes update) (n.stmt_nodes st) (g.maybe_nodes update) (g.stmt_nodes st) (maybe update) (stmt st), length-append (n.maybe_nodes test) (n.maybe_nodes update ++ n.stmt_nodes st), length-append (n.init_nodes i) (n.maybe_nodes test ++ (n.maybe_nodes update ++ n.stmt_nodes st)))
  stmt (t.ForOf constant x e st) = ap (λ k. suc (suc k)) (two (n.expr_nodes e) (n.stmt_nodes st) (g.expr_nodes e) (g.stmt_nodes st) (expr e) (stmt st))
  stmt (t.ForAwait constant x e st) = ap (λ k. suc (suc k)) (two (n.expr_nodes e) (n.stmt_nodes st) (g.expr_nodes e) (g.stmt_nodes st) (expr e) (stmt st))
  stmt t.Break = refl
  stmt t.Continue = refl
  stmt (t.Return o) = ap suc (maybe o)
  stmt (t.Throw a) = ap suc (expr a)
  stmt (t.Try ss c o) = omega (arith, stmts ss, two (n.catch_nodes c) (n.last_nodes o) (g.catch_nodes c) (g.last_nodes o) (catcher c) (ending o), length-append (n.stmts_nodes ss) (n.catch_nodes c ++ n.last_nodes o))
  stmt (t.Value a) = ap suc (expr a)
  stmt t.Empty = refl
  stmt (t.Switch a cs) = ap suc (two (n.expr_nodes a) (n.clauses_nodes cs) (g.expr_nodes a) (g.clauses_nodes cs) (expr a) (clauses cs))

  other : (o : MaybeStmt) → length (n.other_nodes o) ≡ g.maybe_stmt_nodes o
  other t.no_stmt = refl
  other (t.some_stmt st) = stmt st

  catcher : (c : Catch) → length (n.catch_nodes c) ≡ g.catch_nodes c
  catcher t.no_catch = refl
  catcher (t.catch x ss) = two (n.name_nodes x) (n.stmts_nodes ss) (g.name_nodes x) (g.stmts_nodes ss) (name x) (stmts ss)

  ending : (o : Last) → length (n.last_nodes o) ≡ g.last_nodes o
  ending t.no_last = refl
  ending (t.last ss) = stmts ss

  clauses : (cs : Clauses) → length (n.clauses_nodes cs) ≡ g.clauses_nodes cs
  clauses t.no_clauses = refl
  clauses (t.clause m ss cs) = two (n.stmts_nodes ss) (n.clauses_nodes cs) (g.stmts_nodes ss) (g.clauses_nodes cs) (stmts ss) (clauses cs)

  pub stmts : (ss : Stmts) → length (n.stmts_nodes ss) ≡ g.stmts_nodes ss
  stmts t.end = refl
  stmts (t.next st ss) = two (n.stmt_nodes st) (n.stmts_nodes ss) (g.stmt_nodes st) (g.stmts_nodes ss) (stmt st) (stmts ss)

-- a table has a row for each node
pub rows : (es : List Entry) → length es ≡ length (forest es)
rows [] = refl
rows (e ∷ es) = ap suc (rows es)
