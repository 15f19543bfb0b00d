-- What the nodes of a tree are and how many parts each has, in the order of their numbers.
use Rattle.std.specs.Prelude.{ℕ, suc, ◌+◌, Bool, true, false, List, [], ◌∷◌, ◌++◌, length, Option, Some, None}
use Rattle.actx_grammar.specs.Tree as t
use Rattle.actx_grammar.specs.Tree.{Expr, Exprs, MaybeExpr, Key, PropKey, Properties, Code, LetItems, ConstItems, Init, Stmt, MaybeStmt, Catch, Last, Clauses, Stmts}
use Rattle.actx_nodes.specs.Build.{one, catch_parts, init_parts}
use Rattle.actx_nodes.specs.declared.label.Head.{Head}
use Rattle.actx_nodes.specs.declared.label.Label.{Label}
use Rattle.actx_nodes.specs.declared.label.Label.TheVariants as l
use Rattle.actx_nodes.specs.declared.label.ExprLabel.{ExprLabel}
use Rattle.actx_nodes.specs.declared.label.ExprLabel.TheVariants as e
use Rattle.actx_nodes.specs.declared.label.StmtLabel.{StmtLabel}
use Rattle.actx_nodes.specs.declared.label.StmtLabel.TheVariants as s
use Rattle.actx_nodes.specs.declared.label.FunctionLabel.{FunctionLabel}
use Rattle.actx_nodes.specs.declared.label.ForLabel.{ForLabel}
use Rattle.actx_nodes.specs.declared.label.InitLabel.{InitLabel}
use Rattle.actx_nodes.specs.declared.label.InitLabel.TheVariants as i
use Rattle.actx_nodes.specs.declared.label.TryLabel.{TryLabel}
use Rattle.actx_nodes.specs.declared.label.CatchLabel.{CatchLabel}
use Rattle.actx_nodes.specs.declared.label.ClauseLabel.{ClauseLabel}

-- HOW MANY
abbrev pub exprs_count : Exprs → ℕ
exprs_count t.none = 0
exprs_count (t.also e es) = suc (exprs_count es)

abbrev pub maybe_count : MaybeExpr → ℕ
maybe_count t.no_expr = 0
maybe_count (t.some_expr e) = 1

abbrev pub properties_count : Properties → ℕ
properties_count t.no_properties = 0
properties_count (t.property key e ps) = suc (suc (properties_count ps))

abbrev pub lets_count : LetItems → ℕ
lets_count t.no_lets = 0
lets_count (t.let_item x e is) = suc (lets_count is)

abbrev pub consts_count : ConstItems → ℕ
consts_count t.no_consts = 0
consts_count (t.const_item x e is) = suc (consts_count is)

abbrev pub stmts_count : Stmts → ℕ
stmts_count t.end = 0
stmts_count (t.next st ss) = suc (stmts_count ss)

abbrev pub other_count : MaybeStmt → ℕ
other_count t.no_stmt = 0
other_count (t.some_stmt st) = 1

abbrev pub clauses_count : Clauses → ℕ
clauses_count t.no_clauses = 0
clauses_count (t.clause n ss cs) = stmts_count ss + clauses_count cs

abbrev pub last_count : Last → ℕ
last_count t.no_last = 0
last_count (t.last ss) = stmts_count ss

-- LABELS
abbrev pub is_some : {A : Type 0} → Option A → Bool
is_some None = false
is_some (Some a) = true

abbrev pub is_expr : MaybeExpr → Bool
is_expr t.no_expr = false
is_expr (t.some_expr e) = true

abbrev pub is_last : Last → Bool
is_last t.no_last = false
is_last (t.last ss) = true

abbrev pub function_label : Code → FunctionLabel
function_label (t.code x kind xs ss) = record { kind = kind; named = is_some x; params = length xs }

abbrev pub function_count : Code → ℕ
function_count (t.code x kind xs ss) = one (is_some x) + (length xs + stmts_count ss)

abbrev pub init_label : Init → InitLabel
init_label t.init_nothing = i.Nothing
init_label (t.init_let is) = i.Let (lets_count is)
init_label (t.init_const is) = i.Const (consts_count is)
init_label (t.init_value e) = i.Value

abbrev pub for_label : Init → MaybeExpr → MaybeExpr → ForLabel
for_label i test update = record { init = init_label i; test = is_expr test; update = is_expr update }

abbrev pub for_count : Init → MaybeExpr → MaybeExpr → ℕ
for_count i test update = init_parts (init_label i) + (maybe_count test + (maybe_count update + 1))

abbrev pub catch_label : Catch → Option CatchLabel
catch_label t.no_catch = None
catch_label (t.catch x ss) = Some (record { named = is_some x; body = stmts_count ss })

abbrev pub try_label : Stmts → Catch → Last → TryLabel
try_label ss catcher ending = record { block = stmts_count ss; catcher = catch_label catcher; last = is_last ending }

abbrev pub try_count : Stmts → Catch → Last → ℕ
try_count ss catcher ending = stmts_count ss + (catch_parts (catch_label catcher) + last_count ending)

-- the clauses of a switch, whose first statement is the part with this number
abbrev pub clause_labels : ℕ → Clauses → List ClauseLabel
clause_labels start t.no_clauses = []
clause_labels start (t.clause n ss cs) = record { number = n; start = start; body = stmts_count ss } ∷ clause_labels (start + stmts_count ss) cs

-- HEADS
abbrev pub head : Label → ℕ → Head
head label parts = record { label = label; parts = parts }

abbrev pub expr_head : ExprLabel → ℕ → Head
expr_head label parts = head (l.Expr label) parts

abbrev pub stmt_head : StmtLabel → ℕ → Head
stmt_head label parts = head (l.Stmt label) parts

abbrev pub name_heads : Option (List ℕ) → List Head
name_heads None = []
name_heads (Some x) = head (l.Name x) 0 ∷ []

abbrev pub names_heads : List (List ℕ) → List Head
names_heads [] = []
names_heads (x ∷ xs) = head (l.Name x) 0 ∷ names_heads xs

abbrev mutual
  pub expr_heads : Expr → List Head
  expr_heads (t.Num n) = expr_head (e.Num n) 0 ∷ []
  expr_heads (t.Text u) = expr_head (e.Text u) 0 ∷ []
  expr_heads (t.Truth b) = expr_head (e.Truth b) 0 ∷ []
  expr_heads t.Null = expr_head e.Null 0 ∷ []
  expr_heads t.Undefined = expr_head e.Undefined 0 ∷ []
  expr_heads t.This = expr_head e.This 0 ∷ []
  expr_heads (t.Named x) = expr_head (e.Named x) 0 ∷ []
  expr_heads (t.Unary op a) = expr_head (e.Unary op) 1 ∷ expr_heads a
  expr_heads (t.Binary op a b) = expr_head (e.Binary op) 2 ∷ (expr_heads a ++ expr_heads b)
  expr_heads (t.Logic op a b) = expr_head (e.Logic op) 2 ∷ (expr_heads a ++ expr_heads b)
  expr_heads (t.Choice test a b) = expr_head e.Choice 3 ∷ (expr_heads test ++ (expr_heads a ++ expr_heads b))
  expr_heads (t.SetName x a) = expr_head (e.SetName x) 1 ∷ expr_heads a
  expr_heads (t.SetMember b key a) = expr_head e.SetMember 3 ∷ (expr_heads b ++ (key_heads key ++ expr_heads a))
  expr_heads (t.Change x op a) = expr_head (e.Change x op) 1 ∷ expr_heads a
  expr_heads (t.Bump x up before) = expr_head (e.Bump x up before) 0 ∷ []
  expr_heads (t.Member b key) = expr_head e.Member 2 ∷ (expr_heads b ++ key_heads key)
  expr_heads (t.Call f es) = expr_head e.Call (suc (exprs_count es)) ∷ (expr_heads f ++ exprs_heads es)
  expr_heads (t.Object ps) = expr_head e.Object (properties_count ps) ∷ properties_heads ps
  expr_heads (t.Function f) = expr_head (e.Function (function_label f)) (function_count f) ∷ code_heads f
  expr_heads (t.Yield o) = expr_head e.Yield (maybe_count o) ∷ maybe_heads o
  expr_heads (t.YieldAll a) = expr_head e.YieldAll 1 ∷ expr_heads a
  expr_heads (t.Await a) = expr_head e.Await 1 ∷ expr_heads a
  expr_heads (t.Built form es) = expr_head (e.Form form) (exprs_count es) ∷ exprs_heads es

  pub exprs_heads : Exprs → List Head
  exprs_heads t.none = []
  exprs_heads (t.also a es) = expr_heads a ++ exprs_heads es

  pub maybe_heads : MaybeExpr → List Head
  maybe_heads t.no_expr = []
  maybe_heads (t.some_expr a) = expr_heads a

  pub key_heads : Key → List Head
  key_heads (t.Dot x) = head (l.Name x) 0 ∷ []
  key_heads (t.Index a) = expr_heads a

  pub prop_key_heads : PropKey → List Head
  prop_key_heads (t.Fixed u) = head (l.Key u) 0 ∷ []
  prop_key_heads (t.Computed a) = expr_heads a

  pub properties_heads : Properties → List Head
  properties_heads t.no_properties = []
  properties_heads (t.property key a ps) = prop_key_heads key ++ (expr_heads a ++ properties_heads ps)

  pub code_heads : Code → List Head
  code_heads (t.code x kind xs ss) = name_heads x ++ (names_heads xs ++ stmts_heads ss)

  pub lets_heads : LetItems → List Head
  lets_heads t.no_lets = []
  lets_heads (t.let_item x o is) = head (l.LetItem x) (maybe_count o) ∷ (maybe_heads o ++ lets_heads is)

  pub consts_heads : ConstItems → List Head
  consts_heads t.no_consts = []
  consts_heads (t.const_item x a is) = head (l.ConstItem x) 1 ∷ (expr_heads a ++ consts_heads is)

  pub init_heads : Init → List Head
  init_heads t.init_nothing = []
  init_heads (t.init_let is) = lets_heads is
  init_heads (t.init_const is) = consts_heads is
  init_heads (t.init_value a) = expr_heads a

  pub stmt_heads : Stmt → List Head
  stmt_heads (t.Let is) = stmt_head s.Let (lets_count is) ∷ lets_heads is
  stmt_heads (t.Const is) = stmt_head s.Const (consts_count is) ∷ consts_heads is
  stmt_heads (t.Fun f) = stmt_head (s.Fun (function_label f)) (function_count f) ∷ code_heads f
  stmt_heads (t.Block ss) = stmt_head s.Block (stmts_count ss) ∷ stmts_heads ss
  stmt_heads (t.If test st other) = stmt_head s.If (2 + other_count other) ∷ (expr_heads test ++ (stmt_heads st ++ other_heads other))
  stmt_heads (t.While test st) = stmt_head s.While 2 ∷ (expr_heads test ++ stmt_heads st)
  stmt_heads (t.DoWhile st test) = stmt_head s.DoWhile 2 ∷ (stmt_heads st ++ expr_heads test)
  stmt_heads (t.For i test update st) = stmt_head (s.For (for_label i test update)) (for_count i test update) ∷ (init_heads i ++ (maybe_heads test ++ (maybe_heads update ++ stmt_heads st)))
  stmt_heads (t.ForOf constant x over st) = stmt_head (s.ForOf constant) 3 ∷ head (l.Name x) 0 ∷ (expr_heads over ++ stmt_heads st)
  stmt_heads (t.ForAwait constant x over st) = stmt_head (s.ForAwait constant) 3 ∷ head (l.Name x) 0 ∷ (expr_heads over ++ stmt_heads st)
  stmt_heads t.Break = stmt_head s.Break 0 ∷ []
  stmt_heads t.Continue = stmt_head s.Continue 0 ∷ []
  stmt_heads (t.Return o) = stmt_head s.Return (maybe_count o) ∷ maybe_heads o
  stmt_heads (t.Throw a) = stmt_head s.Throw 1 ∷ expr_heads a
  stmt_heads (t.Try ss catcher ending) = stmt_head (s.Try (try_label ss catcher ending)) (try_count ss catcher ending) ∷ (stmts_heads ss ++ (catch_heads catcher ++ last_heads ending))
  stmt_heads (t.Value a) = stmt_head s.Value 1 ∷ expr_heads a
  stmt_heads t.Empty = stmt_head s.Empty 0 ∷ []
  stmt_heads (t.Switch a cs) = stmt_head (s.Switch (clause_labels 1 cs)) (suc (clauses_count cs)) ∷ (expr_heads a ++ clauses_heads cs)

  pub other_heads : MaybeStmt → List Head
  other_heads t.no_stmt = []
  other_heads (t.some_stmt st) = stmt_heads st

  pub catch_heads : Catch → List Head
  catch_heads t.no_catch = []
  catch_heads (t.catch x ss) = name_heads x ++ stmts_heads ss

  pub last_heads : Last → List Head
  last_heads t.no_last = []
  last_heads (t.last ss) = stmts_heads ss

  pub clauses_heads : Clauses → List Head
  clauses_heads t.no_clauses = []
  clauses_heads (t.clause n ss cs) = stmts_heads ss ++ clauses_heads cs

  pub stmts_heads : Stmts → List Head
  stmts_heads t.end = []
  stmts_heads (t.next st ss) = stmt_heads st ++ stmts_heads ss
