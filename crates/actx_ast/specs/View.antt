-- What the code's trees stand for.
use Rattle.std.specs.Prelude.{ℕ, List, [], ◌∷◌, map, Option, Some, None, option_map}
use Rattle.actx_grammar.specs.Tree as t
use Rattle.actx_ast.specs.declared.tree.Expr.{Expr, fold-Expr}
use Rattle.actx_ast.specs.declared.tree.Expr.TheOpen.{Expr-F, ForInit-F, Key-F, PropKey-F, Stmt-F, Catcher-F, Clause-F, ConstItem-F, Function-F, LetItem-F, Property-F}
use Rattle.actx_ast.specs.declared.tree.ForInit.{ForInit, fold-ForInit}
use Rattle.actx_ast.specs.declared.tree.Key.{Key, fold-Key}
use Rattle.actx_ast.specs.declared.tree.PropKey.{PropKey, fold-PropKey}
use Rattle.actx_ast.specs.declared.tree.Stmt.{Stmt, fold-Stmt}
use Rattle.actx_ast.specs.declared.tree.Catcher.{Catcher, fold-Catcher}
use Rattle.actx_ast.specs.declared.tree.Clause.{Clause, fold-Clause}
use Rattle.actx_ast.specs.declared.tree.ConstItem.{ConstItem, fold-ConstItem}
use Rattle.actx_ast.specs.declared.tree.Function.{Function, fold-Function}
use Rattle.actx_ast.specs.declared.tree.LetItem.{LetItem, fold-LetItem}
use Rattle.actx_ast.specs.declared.tree.Property.{Property, fold-Property}
use Rattle.actx_ast.specs.declared.tree.Program.{Program}

-- LISTS AND OPTIONS
abbrev pub exprs_of : List t.Expr → t.Exprs
exprs_of [] = t.none
exprs_of (e ∷ es) = t.also e (exprs_of es)

abbrev pub maybe_expr : Option t.Expr → t.MaybeExpr
maybe_expr None = t.no_expr
maybe_expr (Some e) = t.some_expr e

abbrev pub maybe_stmt : Option t.Stmt → t.MaybeStmt
maybe_stmt None = t.no_stmt
maybe_stmt (Some st) = t.some_stmt st

abbrev pub stmts_of : List t.Stmt → t.Stmts
stmts_of [] = t.end
stmts_of (st ∷ ss) = t.next st (stmts_of ss)

-- a property, an item, a catcher and a clause without the rest of their lists
abbrev pub SeenProperty : Type 0
SeenProperty = t.PropKey × t.Expr

abbrev pub SeenLet : Type 0
SeenLet = List ℕ × t.MaybeExpr

abbrev pub SeenConst : Type 0
SeenConst = List ℕ × t.Expr

abbrev pub SeenClause : Type 0
SeenClause = Option ℕ × t.Stmts

abbrev pub properties_of : List SeenProperty → t.Properties
properties_of [] = t.no_properties
properties_of (p ∷ ps) = t.property p.0 p.1 (properties_of ps)

abbrev pub lets_of : List SeenLet → t.LetItems
lets_of [] = t.no_lets
lets_of (i ∷ is) = t.let_item i.0 i.1 (lets_of is)

abbrev pub consts_of : List SeenConst → t.ConstItems
consts_of [] = t.no_consts
consts_of (i ∷ is) = t.const_item i.0 i.1 (consts_of is)

abbrev pub clauses_of : List SeenClause → t.Clauses
clauses_of [] = t.no_clauses
clauses_of (c ∷ cs) = t.clause c.0 c.1 (clauses_of cs)

abbrev pub last_of : Option (List t.Stmt) → t.Last
last_of None = t.no_last
last_of (Some ss) = t.last (stmts_of ss)

abbrev pub catch_of : Option t.Catch → t.Catch
catch_of None = t.no_catch
catch_of (Some c) = c

-- ONE LEVEL, whose parts are seen already
abbrev pub expr_step : Expr-F t.Expr t.Init t.Key t.PropKey t.Stmt t.Catch SeenClause SeenConst t.Code SeenLet SeenProperty → t.Expr
expr_step (Expr-F.Num n) = t.Num n
expr_step (Expr-F.Text u) = t.Text u
expr_step (Expr-F.Truth b) = t.Truth b
expr_step Expr-F.Null = t.Null
expr_step Expr-F.Undefined = t.Undefined
expr_step Expr-F.This = t.This
expr_step (Expr-F.Named x) = t.Named x
expr_step (Expr-F.Unary op e) = t.Unary op e.value
expr_step (Expr-F.Binary op a b) = t.Binary op a.value b.value
expr_step (Expr-F.Logic op a b) = t.Logic op a.value b.value
expr_step (Expr-F.Choice e a b) = t.Choice e.value a.value b.value
expr_step (Expr-F.SetName x e) = t.SetName x e.value
expr_step (Expr-F.SetMember e key v) = t.SetMember e.value key v.value
expr_step (Expr-F.Change x op e) = t.Change x op e.value
expr_step (Expr-F.Bump x up before) = t.Bump x up before
expr_step (Expr-F.Member e key) = t.Member e.value key
expr_step (Expr-F.Call f es) = t.Call f.value (exprs_of es.items)
expr_step (Expr-F.Object ps) = t.Object (properties_of ps.items)
expr_step (Expr-F.Function f) = t.Function f.value
expr_step (Expr-F.Yield o) = t.Yield (maybe_expr (option_map (λ b. b.value) o))
expr_step (Expr-F.YieldAll e) = t.YieldAll e.value
expr_step (Expr-F.Await e) = t.Await e.value
expr_step (Expr-F.Form form es) = t.Built form (exprs_of es.items)

abbrev pub init_step : ForInit-F t.Expr t.Init t.Key t.PropKey t.Stmt t.Catch SeenClause SeenConst t.Code SeenLet SeenProperty → t.Init
init_step ForInit-F.Nothing = t.init_nothing
init_step (ForInit-F.ForInit::Let is) = t.init_let (lets_of is.items)
init_step (ForInit-F.ForInit::Const is) = t.init_const (consts_of is.items)
init_step (ForInit-F.ForInit::Value e) = t.init_value e.value

abbrev pub key_step : Key-F t.Expr t.Init t.Key t.PropKey t.Stmt t.Catch SeenClause SeenConst t.Code SeenLet SeenProperty → t.Key
key_step (Key-F.Dot x) = t.Dot x
key_step (Key-F.Index e) = t.Index e.value

abbrev pub prop_key_step : PropKey-F t.Expr t.Init t.Key t.PropKey t.Stmt t.Catch SeenClause SeenConst t.Code SeenLet SeenProperty → t.PropKey
prop_key_step (PropKey-F.Fixed u) = t.Fixed u
prop_key_step (PropKey-F.Computed e) = t.Computed e.value

abbrev pub stmt_step : Stmt-F t.Expr t.Init t.Key t.PropKey t.Stmt t.Catch SeenClause SeenConst t.Code SeenLet SeenProperty → t.Stmt
stmt_step (Stmt-F.Stmt::Let is) = t.Let (lets_of is.items)
stmt_step (Stmt-F.Stmt::Const is) = t.Const (consts_of is.items)
stmt_step (Stmt-F.Fun f) = t.Fun f
stmt_step (Stmt-F.Block ss) = t.Block (stmts_of ss.items)
stmt_step (Stmt-F.If e then other) = t.If e.value then.value (maybe_stmt (option_map (λ b. b.value) other))
stmt_step (Stmt-F.While e body) = t.While e.value body.value
stmt_step (Stmt-F.DoWhile body e) = t.DoWhile body.value e.value
stmt_step (Stmt-F.For i test update body) = t.For i (maybe_expr (option_map (λ b. b.value) test)) (maybe_expr (option_map (λ b. b.value) update)) body.value
stmt_step (Stmt-F.ForOf constant x over body) = t.ForOf constant x over.value body.value
stmt_step (Stmt-F.ForAwait constant x over body) = t.ForAwait constant x over.value body.value
stmt_step Stmt-F.Break = t.Break
stmt_step Stmt-F.Continue = t.Continue
stmt_step (Stmt-F.Return o) = t.Return (maybe_expr (option_map (λ b. b.value) o))
stmt_step (Stmt-F.Throw e) = t.Throw e.value
stmt_step (Stmt-F.Try block catcher final) = t.Try (stmts_of block.items) (catch_of catcher) (last_of (option_map (λ ss. ss.items) final))
stmt_step (Stmt-F.Stmt::Value e) = t.Value e.value
stmt_step Stmt-F.Empty = t.Empty
stmt_step (Stmt-F.Switch e cs) = t.Switch e.value (clauses_of cs.items)

abbrev pub catcher_step : Catcher-F t.Expr t.Init t.Key t.PropKey t.Stmt t.Catch SeenClause SeenConst t.Code SeenLet SeenProperty → t.Catch
catcher_step c = t.catch c.name (stmts_of c.body.items)

abbrev pub clause_step : Clause-F t.Expr t.Init t.Key t.PropKey t.Stmt t.Catch SeenClause SeenConst t.Code SeenLet SeenProperty → SeenClause
clause_step c = (c.number, stmts_of c.body.items)

abbrev pub const_step : ConstItem-F t.Expr t.Init t.Key t.PropKey t.Stmt t.Catch SeenClause SeenConst t.Code SeenLet SeenProperty → SeenConst
const_step i = (i.name, i.value)

abbrev pub function_step : Function-F t.Expr t.Init t.Key t.PropKey t.Stmt t.Catch SeenClause SeenConst t.Code SeenLet SeenProperty → t.Code
function_step f = t.code f.name f.kind f.params.items (stmts_of f.body.items)

abbrev pub let_step : LetItem-F t.Expr t.Init t.Key t.PropKey t.Stmt t.Catch SeenClause SeenConst t.Code SeenLet SeenProperty → SeenLet
let_step i = (i.name, maybe_expr (option_map (λ b. b.value) i.value))

abbrev pub property_step : Property-F t.Expr t.Init t.Key t.PropKey t.Stmt t.Catch SeenClause SeenConst t.Code SeenLet SeenProperty → SeenProperty
property_step p = (p.key, p.value)

-- WHOLE TREES
abbrev pub expr_view : Expr → t.Expr
expr_view = fold-Expr t.Expr t.Init t.Key t.PropKey t.Stmt t.Catch SeenClause SeenConst t.Code SeenLet SeenProperty expr_step init_step key_step prop_key_step stmt_step catcher_step clause_step const_step function_step let_step property_step

abbrev pub init_view : ForInit → t.Init
init_view = fold-ForInit t.Expr t.Init t.Key t.PropKey t.Stmt t.Catch SeenClause SeenConst t.Code SeenLet SeenProperty expr_step init_step key_step prop_key_step stmt_step catcher_step clause_step const_step function_step let_step property_step

abbrev pub key_view : Key → t.Key
key_view = fold-Key t.Expr t.Init t.Key t.PropKey t.Stmt t.Catch SeenClause SeenConst t.Code SeenLet SeenProperty expr_step init_step key_step prop_key_step stmt_step catcher_step clause_step const_step function_step let_step property_step

abbrev pub prop_key_view : PropKey → t.PropKey
prop_key_view = fold-PropKey t.Expr t.Init t.Key t.PropKey t.Stmt t.Catch SeenClause SeenConst t.Code SeenLet SeenProperty expr_step init_step key_step prop_key_step stmt_step catcher_step clause_step const_step function_step let_step property_step

abbrev pub stmt_view : Stmt → t.Stmt
stmt_view = fold-Stmt t.Expr t.Init t.Key t.PropKey t.Stmt t.Catch SeenClause SeenConst t.Code SeenLet SeenProperty expr_step init_step key_step prop_key_step stmt_step catcher_step clause_step const_step function_step let_step property_step

abbrev pub catcher_view : Catcher → t.Catch
catcher_view = fold-Catcher t.Expr t.Init t.Key t.PropKey t.Stmt t.Catch SeenClause SeenConst t.Code SeenLet SeenProperty expr_step init_step key_step prop_key_step stmt_step catcher_step clause_step const_step function_step let_step property_step

abbrev pub clause_view : Clause → SeenClause
clause_view = fold-Clause t.Expr t.Init t.Key t.PropKey t.Stmt t.Catch SeenClause SeenConst t.Code SeenLet SeenProperty expr_step init_step key_step prop_key_step stmt_step catcher_step clause_step const_step function_step let_step property_step

abbrev pub const_view : ConstItem → SeenConst
const_view = fold-ConstItem t.Expr t.Init t.Key t.PropKey t.Stmt t.Catch SeenClause SeenConst t.Code SeenLet SeenProperty expr_step init_step key_step prop_key_step stmt_step catcher_step clause_step const_step function_step let_step property_step

abbrev pub function_view : Function → t.Code
function_view = fold-Function t.Expr t.Init t.Key t.PropKey t.Stmt t.Catch SeenClause SeenConst t.Code SeenLet SeenProperty expr_step init_step key_step prop_key_step stmt_step catcher_step clause_step const_step function_step let_step property_step

abbrev pub let_view : LetItem → SeenLet
let_view = fold-LetItem t.Expr t.Init t.Key t.PropKey t.Stmt t.Catch SeenClause SeenConst t.Code SeenLet SeenProperty expr_step init_step key_step prop_key_step stmt_step catcher_step clause_step const_step function_step let_step property_step

abbrev pub property_view : Property → SeenProperty
property_view = fold-Property t.Expr t.Init t.Key t.PropKey t.Stmt t.Catch SeenClause SeenConst t.Code SeenLet SeenProperty expr_step init_step key_step prop_key_step stmt_step catcher_step clause_step const_step function_step let_step property_step

abbrev pub exprs_view : List Expr → t.Exprs
exprs_view es = exprs_of (map expr_view es)

abbrev pub lets_view : List LetItem → t.LetItems
lets_view is = lets_of (map let_view is)

abbrev pub consts_view : List ConstItem → t.ConstItems
consts_view is = consts_of (map const_view is)

abbrev pub properties_view : List Property → t.Properties
properties_view ps = properties_of (map property_view ps)

abbrev pub clauses_view : List Clause → t.Clauses
clauses_view cs = clauses_of (map clause_view cs)

abbrev pub stmts_view : List Stmt → t.Stmts
stmts_view ss = stmts_of (map stmt_view ss)

abbrev pub program_view : Program → t.Stmts
program_view p = stmts_view p.body.items
