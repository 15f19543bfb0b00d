-- The program that is emitted: the prelude, and then the program with its names renamed and its forms as calls of the prelude.
use Rattle.std.specs.Prelude.{◌≡◌, ℕ, List, [], ◌∷◌, Option, Some, None, codes, if◌then◌else◌}
use Rattle.actx_grammar.specs.declared.operators.Form.{Form}
use Rattle.actx_grammar.specs.declared.operators.Form.TheVariants.{NewVariable}
use Rattle.actx_grammar.specs.Tree as t
use Rattle.actx_grammar.specs.Tree.{Expr, Exprs, MaybeExpr, Key, PropKey, Properties, Code, LetItems, ConstItems, Init, Stmt, MaybeStmt, Catch, Last, Clauses, Stmts}
use Rattle.actx_heap.specs.Texts.{same_text}
use Rattle.actx_table.specs.Prelude.{prelude, name_variable}

-- a name of the program is emitted with p_ before it
abbrev pub p_ : List ℕ → List ℕ
p_ x = 112 ∷ 95 ∷ x

abbrev pub names_renamed : List (List ℕ) → List (List ℕ)
names_renamed [] = []
names_renamed (x ∷ xs) = p_ x ∷ names_renamed xs

abbrev pub own_renamed : Option (List ℕ) → Option (List ℕ)
own_renamed None = None
own_renamed (Some x) = Some (p_ x)

-- a form of the source as a call of the prelude's function for it, and any other form as it is
abbrev pub form_emitted : Form → Exprs → Expr
form_emitted NewVariable es = t.Call (t.Named name_variable) es
form_emitted form es = t.Built form es

-- a property called `call` stands in brackets, since a plain text has a form of this name
abbrev pub dot_emitted : List ℕ → Key
dot_emitted x = if same_text x (codes "call") then t.Index (t.Text x) else t.Dot x

abbrev mutual
  pub renamed : Expr → Expr
  renamed (t.Num n) = t.Num n
  renamed (t.Text u) = t.Text u
  renamed (t.Truth b) = t.Truth b
  renamed t.Null = t.Null
  renamed t.Undefined = t.Undefined
  renamed t.This = t.This
  renamed (t.Named x) = t.Named (p_ x)
  renamed (t.Unary op e) = t.Unary op (renamed e)
  renamed (t.Binary op a b) = t.Binary op (renamed a) (renamed b)
  renamed (t.Logic op a b) = t.Logic op (renamed a) (renamed b)
  renamed (t.Choice e a b) = t.Choice (renamed e) (renamed a) (renamed b)
  renamed (t.SetName x e) = t.SetName (p_ x) (renamed e)
  renamed (t.SetMember b key e) = t.SetMember (renamed b) (key_renamed key) (renamed e)
  renamed (t.Change x op e) = t.Change (p_ x) op (renamed e)
  renamed (t.Bump x up before) = t.Bump (p_ x) up before
  renamed (t.Member e key) = t.Member (renamed e) (key_renamed key)
  renamed (t.Call f es) = t.Call (renamed f) (all_renamed es)
  renamed (t.Object ps) = t.Object (properties_renamed ps)
  renamed (t.Function f) = t.Function (code_renamed f)
  renamed (t.Yield e) = t.Yield (maybe_renamed e)
  renamed (t.YieldAll e) = t.YieldAll (renamed e)
  renamed (t.Await e) = t.Await (renamed e)
  renamed (t.Built form es) = form_emitted form (all_renamed es)

  pub key_renamed : Key → Key
  key_renamed (t.Dot x) = dot_emitted x
  key_renamed (t.Index e) = t.Index (renamed e)

  pub prop_key_renamed : PropKey → PropKey
  prop_key_renamed (t.Fixed u) = t.Fixed u
  prop_key_renamed (t.Computed e) = t.Computed (renamed e)

  pub code_renamed : Code → Code
  code_renamed (t.code x kind xs ss) = t.code (own_renamed x) kind (names_renamed xs) (program_renamed ss)

  pub maybe_renamed : MaybeExpr → MaybeExpr
  maybe_renamed t.no_expr = t.no_expr
  maybe_renamed (t.some_expr e) = t.some_expr (renamed e)

  pub all_renamed : Exprs → Exprs
  all_renamed t.none = t.none
  all_renamed (t.also e es) = t.also (renamed e) (all_renamed es)

  pub properties_renamed : Properties → Properties
  properties_renamed t.no_properties = t.no_properties
  properties_renamed (t.property key e ps) = t.property (prop_key_renamed key) (renamed e) (properties_renamed ps)

  pub lets_renamed : LetItems → LetItems
  lets_renamed t.no_lets = t.no_lets
  lets_renamed (t.let_item x e is) = t.let_item (p_ x) (maybe_renamed e) (lets_renamed is)

  pub consts_renamed : ConstItems → ConstItems
  consts_renamed t.no_consts = t.no_consts
  consts_renamed (t.const_item x e is) = t.const_item (p_ x) (renamed e) (consts_renamed is)

  pub init_renamed : Init → Init
  init_renamed t.init_nothing = t.init_nothing
  init_renamed (t.init_let is) = t.init_let (lets_renamed is)
  init_renamed (t.init_const is) = t.init_const (consts_renamed is)
  init_renamed (t.init_value e) = t.init_value (renamed e)

  pub stmt_renamed : Stmt → Stmt
  stmt_renamed (t.Let is) = t.Let (lets_renamed is)
  stmt_renamed (t.Const is) = t.Const (consts_renamed is)
  stmt_renamed (t.Fun f) = t.Fun (code_renamed f)
  stmt_renamed (t.Block ss) = t.Block (program_renamed ss)
  stmt_renamed (t.If e st other) = t.If (renamed e) (stmt_renamed st) (branch_renamed other)
  stmt_renamed (t.While e st) = t.While (renamed e) (stmt_renamed st)
  stmt_renamed (t.DoWhile st e) = t.DoWhile (stmt_renamed st) (renamed e)
  stmt_renamed (t.For init test update st) = t.For (init_renamed init) (maybe_renamed test) (maybe_renamed update) (stmt_renamed st)
  stmt_renamed (t.ForOf constant x e st) = t.ForOf constant (p_ x) (renamed e) (stmt_renamed st)
  stmt_renamed (t.ForAwait constant x e st) = t.ForAwait constant (p_ x) (renamed e) (stmt_renamed st)
  stmt_renamed t.Break = t.Break
  stmt_renamed t.Continue = t.Continue
  stmt_renamed (t.Return e) = t.Return (maybe_renamed e)
  stmt_renamed (t.Throw e) = t.Throw (renamed e)
  stmt_renamed (t.Try ss catcher ending) = t.Try (program_renamed ss) (catch_renamed catcher) (last_renamed ending)
  stmt_renamed (t.Value e) = t.Value (renamed e)
  stmt_renamed t.Empty = t.Empty
  stmt_renamed (t.Switch e cs) = t.Switch (renamed e) (clauses_renamed cs)

  pub branch_renamed : MaybeStmt → MaybeStmt
  branch_renamed t.no_stmt = t.no_stmt
  branch_renamed (t.some_stmt st) = t.some_stmt (stmt_renamed st)

  pub catch_renamed : Catch → Catch
  catch_renamed t.no_catch = t.no_catch
  catch_renamed (t.catch x ss) = t.catch (own_renamed x) (program_renamed ss)

  pub last_renamed : Last → Last
  last_renamed t.no_last = t.no_last
  last_renamed (t.last ss) = t.last (program_renamed ss)

  pub clauses_renamed : Clauses → Clauses
  clauses_renamed t.no_clauses = t.no_clauses
  clauses_renamed (t.clause n ss cs) = t.clause n (program_renamed ss) (clauses_renamed cs)

  pub program_renamed : Stmts → Stmts
  program_renamed t.end = t.end
  program_renamed (t.next st ss) = t.next (stmt_renamed st) (program_renamed ss)

-- one list of statements behind another
abbrev pub followed_by : Stmts → Stmts → Stmts
followed_by t.end ts = ts
followed_by (t.next st ss) ts = t.next st (followed_by ss ts)

-- the emitted program
abbrev pub low : Stmts → Stmts
low p = followed_by prelude (program_renamed p)

-- the emitted program is the prelude, and then the program's own statements in their order
pub record OwnPart (p q : Stmts) : Type 0 where
  pub rest : Stmts
  pub begins : q ≡ followed_by prelude rest
  pub own : rest ≡ program_renamed p
