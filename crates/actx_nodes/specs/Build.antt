-- A node, built of what it is and of its parts.
use Rattle.std.specs.Prelude.{ℕ, ◌+◌, Bool, true, false, List, [], ◌∷◌, Option, Some, None, take, drop, map}
use Rattle.actx_grammar.specs.Tree as t
use Rattle.actx_grammar.specs.Tree.{Expr, MaybeExpr, Code, Clauses, Catch, Last, Init, Stmt}
use Rattle.actx_nodes.specs.Node.{Node, ExprNode, StmtNode, NameNode, KeyNode, LetNode, ConstNode, expr_in, stmt_in, name_in, key_in, nth, exprs_in, maybe_in, maybe_stmt_in, stmts_in, properties_in, lets_in, consts_in}
use Rattle.actx_nodes.specs.declared.label.Label.{Label}
use Rattle.actx_nodes.specs.declared.label.Label.TheVariants as l
use Rattle.actx_nodes.specs.declared.label.ExprLabel.{ExprLabel}
use Rattle.actx_nodes.specs.declared.label.ExprLabel.TheVariants as e
use Rattle.actx_nodes.specs.declared.label.StmtLabel.{StmtLabel}
use Rattle.actx_nodes.specs.declared.label.StmtLabel.TheVariants as s
use Rattle.actx_nodes.specs.declared.label.FunctionLabel.{FunctionLabel}
use Rattle.actx_nodes.specs.declared.label.ForLabel.{ForLabel}
use Rattle.actx_nodes.specs.declared.label.InitLabel.{InitLabel}
use Rattle.actx_nodes.specs.declared.label.InitLabel.TheVariants as i
use Rattle.actx_nodes.specs.declared.label.TryLabel.{TryLabel}
use Rattle.actx_nodes.specs.declared.label.CatchLabel.{CatchLabel}
use Rattle.actx_nodes.specs.declared.label.ClauseLabel.{ClauseLabel}

-- the one part that is there, or none
abbrev pub one : Bool → ℕ
one true = 1
one false = 0

-- so many of the parts, from a place on
abbrev pub some_of : ℕ → ℕ → List Node → List Node
some_of start count ns = take count (drop start ns)

abbrev pub name_of : Bool → List Node → Option (List ℕ)
name_of true ns = Some (name_in (nth ns 0))
name_of false ns = None

-- FUNCTIONS: the own name, the parameters, the body
abbrev pub body_start : FunctionLabel → ℕ
body_start f = one f.named + f.params

abbrev pub code_in : FunctionLabel → List Node → Code
code_in f ns = t.code (name_of f.named ns) f.kind (map name_in (some_of (one f.named) f.params ns)) (stmts_in (drop (body_start f) ns))

-- EXPRESSIONS
abbrev pub expr_of : ExprLabel → List Node → Expr
expr_of (e.Num n) ns = t.Num n
expr_of (e.Text u) ns = t.Text u
expr_of (e.Truth b) ns = t.Truth b
expr_of e.Null ns = t.Null
expr_of e.Undefined ns = t.Undefined
expr_of e.This ns = t.This
expr_of (e.Named x) ns = t.Named x
expr_of (e.Unary op) ns = t.Unary op (expr_in (nth ns 0))
expr_of (e.Binary op) ns = t.Binary op (expr_in (nth ns 0)) (expr_in (nth ns 1))
expr_of (e.Logic op) ns = t.Logic op (expr_in (nth ns 0)) (expr_in (nth ns 1))
expr_of e.Choice ns = t.Choice (expr_in (nth ns 0)) (expr_in (nth ns 1)) (expr_in (nth ns 2))
expr_of (e.SetName x) ns = t.SetName x (expr_in (nth ns 0))
expr_of e.SetMember ns = t.SetMember (expr_in (nth ns 0)) (key_in (nth ns 1)) (expr_in (nth ns 2))
expr_of (e.Change x op) ns = t.Change x op (expr_in (nth ns 0))
expr_of (e.Bump x up before) ns = t.Bump x up before
expr_of e.Member ns = t.Member (expr_in (nth ns 0)) (key_in (nth ns 1))
expr_of e.Call ns = t.Call (expr_in (nth ns 0)) (exprs_in (drop 1 ns))
expr_of e.Object ns = t.Object (properties_in ns)
expr_of (e.Function f) ns = t.Function (code_in f ns)
expr_of e.Yield ns = t.Yield (maybe_in ns)
expr_of e.YieldAll ns = t.YieldAll (expr_in (nth ns 0))
expr_of e.Await ns = t.Await (expr_in (nth ns 0))
expr_of (e.Form form) ns = t.Built form (exprs_in ns)

-- STATEMENTS
-- an expression that is there or not, and what stands behind it
abbrev pub maybe_of : Bool → List Node → MaybeExpr
maybe_of true ns = t.some_expr (expr_in (nth ns 0))
maybe_of false ns = t.no_expr

-- what a for begins with
abbrev pub init_parts : InitLabel → ℕ
init_parts i.Nothing = 0
init_parts (i.Let n) = n
init_parts (i.Const n) = n
init_parts i.Value = 1

abbrev pub init_of : InitLabel → List Node → Init
init_of i.Nothing ns = t.init_nothing
init_of (i.Let n) ns = t.init_let (lets_in (take n ns))
init_of (i.Const n) ns = t.init_const (consts_in (take n ns))
init_of i.Value ns = t.init_value (expr_in (nth ns 0))

-- where its test, its update and its body stand
abbrev pub test_start : ForLabel → ℕ
test_start f = init_parts f.init

abbrev pub update_start : ForLabel → ℕ
update_start f = test_start f + one f.test

abbrev pub loop_start : ForLabel → ℕ
loop_start f = update_start f + one f.update

abbrev pub for_of : ForLabel → List Node → Stmt
for_of f ns = t.For (init_of f.init ns) (maybe_of f.test (drop (test_start f) ns)) (maybe_of f.update (drop (update_start f) ns)) (stmt_in (nth ns (loop_start f)))

-- a try
abbrev pub catch_parts : Option CatchLabel → ℕ
catch_parts None = 0
catch_parts (Some c) = one c.named + c.body

abbrev pub catch_of : Option CatchLabel → List Node → Catch
catch_of None ns = t.no_catch
catch_of (Some c) ns = t.catch (name_of c.named ns) (stmts_in (some_of (one c.named) c.body ns))

abbrev pub last_start : TryLabel → ℕ
last_start l = l.block + catch_parts l.catcher

abbrev pub last_of : Bool → List Node → Last
last_of true ns = t.last (stmts_in ns)
last_of false ns = t.no_last

abbrev pub try_of : TryLabel → List Node → Stmt
try_of l ns = t.Try (stmts_in (take l.block ns)) (catch_of l.catcher (drop l.block ns)) (last_of l.last (drop (last_start l) ns))

abbrev pub clauses_of : List ClauseLabel → List Node → Clauses
clauses_of [] ns = t.no_clauses
clauses_of (c ∷ cs) ns = t.clause c.number (stmts_in (some_of c.start c.body ns)) (clauses_of cs ns)

abbrev pub stmt_of : StmtLabel → List Node → Stmt
stmt_of s.Let ns = t.Let (lets_in ns)
stmt_of s.Const ns = t.Const (consts_in ns)
stmt_of (s.Fun f) ns = t.Fun (code_in f ns)
stmt_of s.Block ns = t.Block (stmts_in ns)
stmt_of s.If ns = t.If (expr_in (nth ns 0)) (stmt_in (nth ns 1)) (maybe_stmt_in (drop 2 ns))
stmt_of s.While ns = t.While (expr_in (nth ns 0)) (stmt_in (nth ns 1))
stmt_of s.DoWhile ns = t.DoWhile (stmt_in (nth ns 0)) (expr_in (nth ns 1))
stmt_of (s.For f) ns = for_of f ns
stmt_of (s.ForOf constant) ns = t.ForOf constant (name_in (nth ns 0)) (expr_in (nth ns 1)) (stmt_in (nth ns 2))
stmt_of (s.ForAwait constant) ns = t.ForAwait constant (name_in (nth ns 0)) (expr_in (nth ns 1)) (stmt_in (nth ns 2))
stmt_of s.Break ns = t.Break
stmt_of s.Continue ns = t.Continue
stmt_of s.Return ns = t.Return (maybe_in ns)
stmt_of s.Throw ns = t.Throw (expr_in (nth ns 0))
stmt_of (s.Try l) ns = try_of l ns
stmt_of s.Value ns = t.Value (expr_in (nth ns 0))
stmt_of s.Empty ns = t.Empty
stmt_of (s.Switch cs) ns = t.Switch (expr_in (nth ns 0)) (clauses_of cs ns)

-- ANY NODE
abbrev pub build : Label → List Node → Node
build (l.Expr e) ns = ExprNode (expr_of e ns)
build (l.Stmt s) ns = StmtNode (stmt_of s ns)
build (l.Name x) ns = NameNode x
build (l.Key u) ns = KeyNode u
build (l.LetItem x) ns = LetNode x (maybe_in ns)
build (l.ConstItem x) ns = ConstNode x (expr_in (nth ns 0))
