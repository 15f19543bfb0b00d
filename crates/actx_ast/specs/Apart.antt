-- Trees taken apart: how much is left to do, and how deep a part may be.
use Rattle.std.specs.Prelude.{ℕ, ◌+◌, ◌<◌, All, List, [], ◌∷◌, map, Option, Some, None, option_map}
use Rattle.actx_ast.specs.declared.tree.Expr.{Expr, fold-Expr, size-Expr}
use Rattle.actx_ast.specs.declared.tree.Expr.TheOpen.{Expr-F, ForInit-F, Key-F, PropKey-F, Stmt-F, Catcher-F, Clause-F, ConstItem-F, Function-F, LetItem-F, Property-F}
use Rattle.actx_ast.specs.declared.tree.ForInit.{ForInit, fold-ForInit}
use Rattle.actx_ast.specs.declared.tree.Key.{Key, fold-Key}
use Rattle.actx_ast.specs.declared.tree.Stmt.{Stmt, fold-Stmt, size-Stmt}
use Rattle.actx_ast.specs.declared.tree.Catcher.{Catcher, fold-Catcher}
use Rattle.actx_ast.specs.declared.tree.Clause.{Clause, fold-Clause, size-Clause}
use Rattle.actx_ast.specs.declared.tree.ConstItem.{ConstItem, fold-ConstItem, size-ConstItem}
use Rattle.actx_ast.specs.declared.tree.Function.{Function, fold-Function, size-Function}
use Rattle.actx_ast.specs.declared.tree.LetItem.{LetItem, fold-LetItem, size-LetItem}
use Rattle.actx_ast.specs.declared.tree.Property.{Property, fold-Property, size-Property}
use Rattle.actx_ast.specs.declared.tree.drop.Part.{Part}
use Rattle.actx_ast.specs.declared.tree.drop.Part.TheVariants as p

-- LISTS AND OPTIONS
-- one for each item and one for the end
abbrev pub listed : List ℕ → ℕ
listed [] = 1
listed (n ∷ ns) = 1 + n + listed ns

abbrev pub maybe_work : Option ℕ → ℕ
maybe_work None = 0
maybe_work (Some n) = n

abbrev pub boxed_work : Option ℕ → ℕ
boxed_work None = 0
boxed_work (Some n) = 1 + n

-- ONE LEVEL: one for each box and what its content takes
abbrev pub expr_step : Expr-F ℕ ℕ ℕ ℕ ℕ ℕ ℕ ℕ ℕ ℕ ℕ → ℕ
expr_step (Expr-F.Num n) = 0
expr_step (Expr-F.Text u) = 0
expr_step (Expr-F.Truth b) = 0
expr_step Expr-F.Null = 0
expr_step Expr-F.Undefined = 0
expr_step Expr-F.This = 0
expr_step (Expr-F.Named x) = 0
expr_step (Expr-F.Unary op e) = 1 + e.value
expr_step (Expr-F.Binary op a b) = 2 + a.value + b.value
expr_step (Expr-F.Logic op a b) = 2 + a.value + b.value
expr_step (Expr-F.Choice e a b) = 3 + e.value + a.value + b.value
expr_step (Expr-F.SetName x e) = 1 + e.value
expr_step (Expr-F.SetMember e key v) = 2 + e.value + key + v.value
expr_step (Expr-F.Change x op e) = 1 + e.value
expr_step (Expr-F.Bump x up before) = 0
expr_step (Expr-F.Member e key) = 1 + e.value + key
expr_step (Expr-F.Call f es) = 1 + f.value + listed es.items
expr_step (Expr-F.Object ps) = listed ps.items
expr_step (Expr-F.Function f) = 1 + f.value
expr_step (Expr-F.Yield o) = boxed_work (option_map (λ b. b.value) o)
expr_step (Expr-F.YieldAll e) = 1 + e.value
expr_step (Expr-F.Await e) = 1 + e.value
expr_step (Expr-F.Form form es) = listed es.items

abbrev pub init_step : ForInit-F ℕ ℕ ℕ ℕ ℕ ℕ ℕ ℕ ℕ ℕ ℕ → ℕ
init_step ForInit-F.Nothing = 0
init_step (ForInit-F.ForInit::Let is) = listed is.items
init_step (ForInit-F.ForInit::Const is) = listed is.items
init_step (ForInit-F.ForInit::Value e) = 1 + e.value

abbrev pub key_step : Key-F ℕ ℕ ℕ ℕ ℕ ℕ ℕ ℕ ℕ ℕ ℕ → ℕ
key_step (Key-F.Dot x) = 0
key_step (Key-F.Index e) = 1 + e.value

abbrev pub prop_key_step : PropKey-F ℕ ℕ ℕ ℕ ℕ ℕ ℕ ℕ ℕ ℕ ℕ → ℕ
prop_key_step (PropKey-F.Fixed u) = 0
prop_key_step (PropKey-F.Computed e) = 1 + e.value

abbrev pub stmt_step : Stmt-F ℕ ℕ ℕ ℕ ℕ ℕ ℕ ℕ ℕ ℕ ℕ → ℕ
stmt_step (Stmt-F.Stmt::Let is) = listed is.items
stmt_step (Stmt-F.Stmt::Const is) = listed is.items
stmt_step (Stmt-F.Fun f) = f
stmt_step (Stmt-F.Block ss) = listed ss.items
stmt_step (Stmt-F.If e then other) = 2 + e.value + then.value + boxed_work (option_map (λ b. b.value) other)
stmt_step (Stmt-F.While e body) = 2 + e.value + body.value
stmt_step (Stmt-F.DoWhile body e) = 2 + e.value + body.value
stmt_step (Stmt-F.For i test update body) = 1 + i + boxed_work (option_map (λ b. b.value) test) + boxed_work (option_map (λ b. b.value) update) + body.value
stmt_step (Stmt-F.ForOf constant x over body) = 2 + over.value + body.value
stmt_step (Stmt-F.ForAwait constant x over body) = 2 + over.value + body.value
stmt_step Stmt-F.Break = 0
stmt_step Stmt-F.Continue = 0
stmt_step (Stmt-F.Return o) = boxed_work (option_map (λ b. b.value) o)
stmt_step (Stmt-F.Throw e) = 1 + e.value
stmt_step (Stmt-F.Try block catcher final) = listed block.items + maybe_work catcher + maybe_work (option_map (λ ss. listed ss.items) final)
stmt_step (Stmt-F.Stmt::Value e) = 1 + e.value
stmt_step Stmt-F.Empty = 0
stmt_step (Stmt-F.Switch e cs) = 1 + e.value + listed cs.items

abbrev pub catcher_step : Catcher-F ℕ ℕ ℕ ℕ ℕ ℕ ℕ ℕ ℕ ℕ ℕ → ℕ
catcher_step c = listed c.body.items

abbrev pub clause_step : Clause-F ℕ ℕ ℕ ℕ ℕ ℕ ℕ ℕ ℕ ℕ ℕ → ℕ
clause_step c = listed c.body.items

abbrev pub const_step : ConstItem-F ℕ ℕ ℕ ℕ ℕ ℕ ℕ ℕ ℕ ℕ ℕ → ℕ
const_step i = i.value

abbrev pub function_step : Function-F ℕ ℕ ℕ ℕ ℕ ℕ ℕ ℕ ℕ ℕ ℕ → ℕ
function_step f = listed f.body.items

abbrev pub let_step : LetItem-F ℕ ℕ ℕ ℕ ℕ ℕ ℕ ℕ ℕ ℕ ℕ → ℕ
let_step i = boxed_work (option_map (λ b. b.value) i.value)

abbrev pub property_step : Property-F ℕ ℕ ℕ ℕ ℕ ℕ ℕ ℕ ℕ ℕ ℕ → ℕ
property_step p = p.key + p.value

-- WHOLE TREES
abbrev pub expr_work : Expr → ℕ
expr_work = fold-Expr ℕ ℕ ℕ ℕ ℕ ℕ ℕ ℕ ℕ ℕ ℕ expr_step init_step key_step prop_key_step stmt_step catcher_step clause_step const_step function_step let_step property_step

abbrev pub init_work : ForInit → ℕ
init_work = fold-ForInit ℕ ℕ ℕ ℕ ℕ ℕ ℕ ℕ ℕ ℕ ℕ expr_step init_step key_step prop_key_step stmt_step catcher_step clause_step const_step function_step let_step property_step

abbrev pub key_work : Key → ℕ
key_work = fold-Key ℕ ℕ ℕ ℕ ℕ ℕ ℕ ℕ ℕ ℕ ℕ expr_step init_step key_step prop_key_step stmt_step catcher_step clause_step const_step function_step let_step property_step

abbrev pub stmt_work : Stmt → ℕ
stmt_work = fold-Stmt ℕ ℕ ℕ ℕ ℕ ℕ ℕ ℕ ℕ ℕ ℕ expr_step init_step key_step prop_key_step stmt_step catcher_step clause_step const_step function_step let_step property_step

abbrev pub catcher_work : Catcher → ℕ
catcher_work = fold-Catcher ℕ ℕ ℕ ℕ ℕ ℕ ℕ ℕ ℕ ℕ ℕ expr_step init_step key_step prop_key_step stmt_step catcher_step clause_step const_step function_step let_step property_step

abbrev pub clause_work : Clause → ℕ
clause_work = fold-Clause ℕ ℕ ℕ ℕ ℕ ℕ ℕ ℕ ℕ ℕ ℕ expr_step init_step key_step prop_key_step stmt_step catcher_step clause_step const_step function_step let_step property_step

abbrev pub const_work : ConstItem → ℕ
const_work = fold-ConstItem ℕ ℕ ℕ ℕ ℕ ℕ ℕ ℕ ℕ ℕ ℕ expr_step init_step key_step prop_key_step stmt_step catcher_step clause_step const_step function_step let_step property_step

abbrev pub function_work : Function → ℕ
function_work = fold-Function ℕ ℕ ℕ ℕ ℕ ℕ ℕ ℕ ℕ ℕ ℕ expr_step init_step key_step prop_key_step stmt_step catcher_step clause_step const_step function_step let_step property_step

abbrev pub let_work : LetItem → ℕ
let_work = fold-LetItem ℕ ℕ ℕ ℕ ℕ ℕ ℕ ℕ ℕ ℕ ℕ expr_step init_step key_step prop_key_step stmt_step catcher_step clause_step const_step function_step let_step property_step

abbrev pub property_work : Property → ℕ
property_work = fold-Property ℕ ℕ ℕ ℕ ℕ ℕ ℕ ℕ ℕ ℕ ℕ expr_step init_step key_step prop_key_step stmt_step catcher_step clause_step const_step function_step let_step property_step

-- PARTS
abbrev pub weight : Part → ℕ
weight (p.Expr b) = 1 + expr_work b.value
weight (p.Stmt b) = 1 + stmt_work b.value
weight (p.Function b) = 1 + function_work b.value
weight (p.Exprs v) = listed (map expr_work v.items)
weight (p.Stmts v) = listed (map stmt_work v.items)
weight (p.Properties v) = listed (map property_work v.items)
weight (p.Lets v) = listed (map let_work v.items)
weight (p.Consts v) = listed (map const_work v.items)
weight (p.Clauses v) = listed (map clause_work v.items)

abbrev pub weigh : List Part → ℕ
weigh [] = 0
weigh (q ∷ qs) = weight q + weigh qs

-- the trees in the part are of a depth below n
abbrev pub IsBelow : ℕ → Part → Type 0
IsBelow n (p.Expr b) = size-Expr b.value < n
IsBelow n (p.Stmt b) = size-Stmt b.value < n
IsBelow n (p.Function b) = size-Function b.value < n
IsBelow n (p.Exprs v) = All (λ x. size-Expr x < n) v.items
IsBelow n (p.Stmts v) = All (λ x. size-Stmt x < n) v.items
IsBelow n (p.Properties v) = All (λ x. size-Property x < n) v.items
IsBelow n (p.Lets v) = All (λ x. size-LetItem x < n) v.items
IsBelow n (p.Consts v) = All (λ x. size-ConstItem x < n) v.items
IsBelow n (p.Clauses v) = All (λ x. size-Clause x < n) v.items

unfoldable pub AllBelow : ℕ → List Part → Type 0
AllBelow n ps = All (IsBelow n) ps
