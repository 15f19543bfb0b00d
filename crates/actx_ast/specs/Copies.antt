-- Copies over lists: the nodes of a tree, each before its parts, and what is made of them from the last.
use Rattle.std.specs.Prelude.{ℕ, ◌+◌, ◌*◌, List, [], ◌∷◌, map}
use Rattle.actx_ast.specs.Apart.{catcher_step, clause_step, clause_work, const_step, const_work, expr_step, expr_work, function_step, init_step, key_step, let_step, let_work, listed, prop_key_step, property_step, property_work, stmt_step, stmt_work}
use Rattle.actx_ast.specs.declared.tree.PropKey.{PropKey, fold-PropKey}
use Rattle.actx_grammar.specs.Tree as t
use Rattle.actx_ast.specs.View.{SeenClause, SeenConst, SeenLet, SeenProperty, clause_view, clauses_view, const_view, consts_view, expr_view, exprs_view, let_view, lets_view, properties_view, property_view, stmt_view, stmts_view}
use Rattle.actx_ast.specs.declared.copy.done.Copied.{Copied}
use Rattle.actx_ast.specs.declared.copy.done.Copied.TheVariants as c
use Rattle.actx_ast.specs.declared.copy.order.Node.{Node}
use Rattle.actx_ast.specs.declared.copy.order.Node.TheVariants as n
use Rattle.actx_ast.specs.declared.copy.order.Work.{Work}
use Rattle.actx_ast.specs.declared.copy.order.Work.TheVariants as w

-- a tree, or a list of parts
pub data Seen : Type 0 where
  an_expr : (e : t.Expr) → Seen
  a_stmt : (st : t.Stmt) → Seen
  some_exprs : (es : t.Exprs) → Seen
  some_stmts : (ss : t.Stmts) → Seen
  some_properties : (ps : t.Properties) → Seen
  some_lets : (is : t.LetItems) → Seen
  some_consts : (is : t.ConstItems) → Seen
  some_clauses : (cs : t.Clauses) → Seen

-- LISTS WITH ONE MORE AT THE END
abbrev pub exprs_end : t.Exprs → t.Expr → t.Exprs
exprs_end t.none x = t.also x t.none
exprs_end (t.also e es) x = t.also e (exprs_end es x)

abbrev pub stmts_end : t.Stmts → t.Stmt → t.Stmts
stmts_end t.end x = t.next x t.end
stmts_end (t.next st ss) x = t.next st (stmts_end ss x)

abbrev pub properties_end : t.Properties → SeenProperty → t.Properties
properties_end t.no_properties x = t.property x.0 x.1 t.no_properties
properties_end (t.property key value ps) x = t.property key value (properties_end ps x)

abbrev pub lets_end : t.LetItems → SeenLet → t.LetItems
lets_end t.no_lets x = t.let_item x.0 x.1 t.no_lets
lets_end (t.let_item name value is) x = t.let_item name value (lets_end is x)

abbrev pub consts_end : t.ConstItems → SeenConst → t.ConstItems
consts_end t.no_consts x = t.const_item x.0 x.1 t.no_consts
consts_end (t.const_item name value is) x = t.const_item name value (consts_end is x)

abbrev pub clauses_end : t.Clauses → SeenClause → t.Clauses
clauses_end t.no_clauses x = t.clause x.0 x.1 t.no_clauses
clauses_end (t.clause number body cs) x = t.clause number body (clauses_end cs x)

-- THE FIRST OF A LIST, of one kind
abbrev pub with_expr : (t.Expr → List Seen → List Seen) → List Seen → List Seen
with_expr k (an_expr x ∷ s) = k x s
with_expr k _ = []

abbrev pub with_stmt : (t.Stmt → List Seen → List Seen) → List Seen → List Seen
with_stmt k (a_stmt x ∷ s) = k x s
with_stmt k _ = []

abbrev pub with_exprs : (t.Exprs → List Seen → List Seen) → List Seen → List Seen
with_exprs k (some_exprs x ∷ s) = k x s
with_exprs k _ = []

abbrev pub with_stmts : (t.Stmts → List Seen → List Seen) → List Seen → List Seen
with_stmts k (some_stmts x ∷ s) = k x s
with_stmts k _ = []

abbrev pub with_properties : (t.Properties → List Seen → List Seen) → List Seen → List Seen
with_properties k (some_properties x ∷ s) = k x s
with_properties k _ = []

abbrev pub with_lets : (t.LetItems → List Seen → List Seen) → List Seen → List Seen
with_lets k (some_lets x ∷ s) = k x s
with_lets k _ = []

abbrev pub with_consts : (t.ConstItems → List Seen → List Seen) → List Seen → List Seen
with_consts k (some_consts x ∷ s) = k x s
with_consts k _ = []

abbrev pub with_clauses : (t.Clauses → List Seen → List Seen) → List Seen → List Seen
with_clauses k (some_clauses x ∷ s) = k x s
with_clauses k _ = []

-- WHAT IS LIKE A GIVEN TREE, made of the first of a list; and the parts of a tree before a list
abbrev pub with_key : t.Key → (t.Key → List Seen → List Seen) → List Seen → List Seen
with_key (t.Dot x) k = k (t.Dot x)
with_key (t.Index e) k = with_expr (λ e. k (t.Index e))

abbrev pub key_onto : t.Key → List Seen → List Seen
key_onto (t.Dot x) s = s
key_onto (t.Index e) s = an_expr e ∷ s

abbrev pub with_prop_key : t.PropKey → (t.PropKey → List Seen → List Seen) → List Seen → List Seen
with_prop_key (t.Fixed u) k = k (t.Fixed u)
with_prop_key (t.Computed e) k = with_expr (λ e. k (t.Computed e))

abbrev pub prop_key_onto : t.PropKey → List Seen → List Seen
prop_key_onto (t.Fixed u) s = s
prop_key_onto (t.Computed e) s = an_expr e ∷ s

abbrev pub with_maybe : t.MaybeExpr → (t.MaybeExpr → List Seen → List Seen) → List Seen → List Seen
with_maybe t.no_expr k = k t.no_expr
with_maybe (t.some_expr e) k = with_expr (λ e. k (t.some_expr e))

abbrev pub maybe_onto : t.MaybeExpr → List Seen → List Seen
maybe_onto t.no_expr s = s
maybe_onto (t.some_expr e) s = an_expr e ∷ s

abbrev pub with_maybe_stmt : t.MaybeStmt → (t.MaybeStmt → List Seen → List Seen) → List Seen → List Seen
with_maybe_stmt t.no_stmt k = k t.no_stmt
with_maybe_stmt (t.some_stmt st) k = with_stmt (λ st. k (t.some_stmt st))

abbrev pub maybe_stmt_onto : t.MaybeStmt → List Seen → List Seen
maybe_stmt_onto t.no_stmt s = s
maybe_stmt_onto (t.some_stmt st) s = a_stmt st ∷ s

abbrev pub with_code : t.Code → (t.Code → List Seen → List Seen) → List Seen → List Seen
with_code (t.code name kind params body) k = with_stmts (λ body. k (t.code name kind params body))

abbrev pub code_onto : t.Code → List Seen → List Seen
code_onto (t.code name kind params body) s = some_stmts body ∷ s

abbrev pub with_init : t.Init → (t.Init → List Seen → List Seen) → List Seen → List Seen
with_init t.init_nothing k = k t.init_nothing
with_init (t.init_let is) k = with_lets (λ is. k (t.init_let is))
with_init (t.init_const is) k = with_consts (λ is. k (t.init_const is))
with_init (t.init_value e) k = with_expr (λ e. k (t.init_value e))

abbrev pub init_onto : t.Init → List Seen → List Seen
init_onto t.init_nothing s = s
init_onto (t.init_let is) s = some_lets is ∷ s
init_onto (t.init_const is) s = some_consts is ∷ s
init_onto (t.init_value e) s = an_expr e ∷ s

abbrev pub with_catch : t.Catch → (t.Catch → List Seen → List Seen) → List Seen → List Seen
with_catch t.no_catch k = k t.no_catch
with_catch (t.catch x body) k = with_stmts (λ body. k (t.catch x body))

abbrev pub catch_onto : t.Catch → List Seen → List Seen
catch_onto t.no_catch s = s
catch_onto (t.catch x body) s = some_stmts body ∷ s

abbrev pub with_last : t.Last → (t.Last → List Seen → List Seen) → List Seen → List Seen
with_last t.no_last k = k t.no_last
with_last (t.last ss) k = with_stmts (λ ss. k (t.last ss))

abbrev pub last_onto : t.Last → List Seen → List Seen
last_onto t.no_last s = s
last_onto (t.last ss) s = some_stmts ss ∷ s

abbrev pub expr_made : t.Expr → List Seen → List Seen
expr_made (t.Num n) s = an_expr (t.Num n) ∷ s
expr_made (t.Text u) s = an_expr (t.Text u) ∷ s
expr_made (t.Truth b) s = an_expr (t.Truth b) ∷ s
expr_made t.Null s = an_expr t.Null ∷ s
expr_made t.Undefined s = an_expr t.Undefined ∷ s
expr_made t.This s = an_expr t.This ∷ s
expr_made (t.Named x) s = an_expr (t.Named x) ∷ s
expr_made (t.Unary op e) s = with_expr (λ e s. an_expr (t.Unary op e) ∷ s) s
expr_made (t.Binary op a b) s = with_expr (λ a. with_expr (λ b s. an_expr (t.Binary op a b) ∷ s)) s
expr_made (t.Logic op a b) s = with_expr (λ a. with_expr (λ b s. an_expr (t.Logic op a b) ∷ s)) s
expr_made (t.Choice e a b) s = with_expr (λ e. with_expr (λ a. with_expr (λ b s. an_expr (t.Choice e a b) ∷ s))) s
expr_made (t.SetName x e) s = with_expr (λ e s. an_expr (t.SetName x e) ∷ s) s
expr_made (t.SetMember e key v) s = with_expr (λ e. with_expr (λ v. with_key key (λ key s. an_expr (t.SetMember e key v) ∷ s))) s
expr_made (t.Change x op e) s = with_expr (λ e s. an_expr (t.Change x op e) ∷ s) s
expr_made (t.Bump x up before) s = an_expr (t.Bump x up before) ∷ s
expr_made (t.Member e key) s = with_expr (λ e. with_key key (λ key s. an_expr (t.Member e key) ∷ s)) s
expr_made (t.Call f es) s = with_expr (λ f. with_exprs (λ es s. an_expr (t.Call f es) ∷ s)) s
expr_made (t.Object ps) s = with_properties (λ ps s. an_expr (t.Object ps) ∷ s) s
expr_made (t.Function f) s = with_code f (λ f s. an_expr (t.Function f) ∷ s) s
expr_made (t.Yield o) s = with_maybe o (λ o s. an_expr (t.Yield o) ∷ s) s
expr_made (t.YieldAll e) s = with_expr (λ e s. an_expr (t.YieldAll e) ∷ s) s
expr_made (t.Await e) s = with_expr (λ e s. an_expr (t.Await e) ∷ s) s
expr_made (t.Built form es) s = with_exprs (λ es s. an_expr (t.Built form es) ∷ s) s

abbrev pub expr_onto : t.Expr → List Seen → List Seen
expr_onto (t.Num n) s = s
expr_onto (t.Text u) s = s
expr_onto (t.Truth b) s = s
expr_onto t.Null s = s
expr_onto t.Undefined s = s
expr_onto t.This s = s
expr_onto (t.Named x) s = s
expr_onto (t.Unary op e) s = an_expr e ∷ s
expr_onto (t.Binary op a b) s = an_expr a ∷ an_expr b ∷ s
expr_onto (t.Logic op a b) s = an_expr a ∷ an_expr b ∷ s
expr_onto (t.Choice e a b) s = an_expr e ∷ an_expr a ∷ an_expr b ∷ s
expr_onto (t.SetName x e) s = an_expr e ∷ s
expr_onto (t.SetMember e key v) s = an_expr e ∷ an_expr v ∷ key_onto key s
expr_onto (t.Change x op e) s = an_expr e ∷ s
expr_onto (t.Bump x up before) s = s
expr_onto (t.Member e key) s = an_expr e ∷ key_onto key s
expr_onto (t.Call f es) s = an_expr f ∷ some_exprs es ∷ s
expr_onto (t.Object ps) s = some_properties ps ∷ s
expr_onto (t.Function f) s = code_onto f s
expr_onto (t.Yield o) s = maybe_onto o s
expr_onto (t.YieldAll e) s = an_expr e ∷ s
expr_onto (t.Await e) s = an_expr e ∷ s
expr_onto (t.Built form es) s = some_exprs es ∷ s

abbrev pub stmt_made : t.Stmt → List Seen → List Seen
stmt_made (t.Let is) s = with_lets (λ is s. a_stmt (t.Let is) ∷ s) s
stmt_made (t.Const is) s = with_consts (λ is s. a_stmt (t.Const is) ∷ s) s
stmt_made (t.Fun f) s = with_code f (λ f s. a_stmt (t.Fun f) ∷ s) s
stmt_made (t.Block ss) s = with_stmts (λ ss s. a_stmt (t.Block ss) ∷ s) s
stmt_made (t.If e then other) s = with_expr (λ e. with_stmt (λ then. with_maybe_stmt other (λ other s. a_stmt (t.If e then other) ∷ s))) s
stmt_made (t.While e body) s = with_expr (λ e. with_stmt (λ body s. a_stmt (t.While e body) ∷ s)) s
stmt_made (t.DoWhile body e) s = with_expr (λ e. with_stmt (λ body s. a_stmt (t.DoWhile body e) ∷ s)) s
stmt_made (t.For i test update body) s = with_stmt (λ body. with_init i (λ i. with_maybe test (λ test. with_maybe update (λ update s. a_stmt (t.For i test update body) ∷ s)))) s
stmt_made (t.ForOf constant x over body) s = with_expr (λ over. with_stmt (λ body s. a_stmt (t.ForOf constant x over body) ∷ s)) s
stmt_made (t.ForAwait constant x over body) s = with_expr (λ over. with_stmt (λ body s. a_stmt (t.ForAwait constant x over body) ∷ s)) s
stmt_made t.Break s = a_stmt t.Break ∷ s
stmt_made t.Continue s = a_stmt t.Continue ∷ s
stmt_made (t.Return o) s = with_maybe o (λ o s. a_stmt (t.Return o) ∷ s) s
stmt_made (t.Throw e) s = with_expr (λ e s. a_stmt (t.Throw e) ∷ s) s
stmt_made (t.Try block catcher final) s = with_stmts (λ block. with_catch catcher (λ catcher. with_last final (λ final s. a_stmt (t.Try block catcher final) ∷ s))) s
stmt_made (t.Value e) s = with_expr (λ e s. a_stmt (t.Value e) ∷ s) s
stmt_made t.Empty s = a_stmt t.Empty ∷ s
stmt_made (t.Switch e cs) s = with_expr (λ e. with_clauses (λ cs s. a_stmt (t.Switch e cs) ∷ s)) s

abbrev pub stmt_onto : t.Stmt → List Seen → List Seen
stmt_onto (t.Let is) s = some_lets is ∷ s
stmt_onto (t.Const is) s = some_consts is ∷ s
stmt_onto (t.Fun f) s = code_onto f s
stmt_onto (t.Block ss) s = some_stmts ss ∷ s
stmt_onto (t.If e then other) s = an_expr e ∷ a_stmt then ∷ maybe_stmt_onto other s
stmt_onto (t.While e body) s = an_expr e ∷ a_stmt body ∷ s
stmt_onto (t.DoWhile body e) s = an_expr e ∷ a_stmt body ∷ s
stmt_onto (t.For i test update body) s = a_stmt body ∷ init_onto i (maybe_onto test (maybe_onto update s))
stmt_onto (t.ForOf constant x over body) s = an_expr over ∷ a_stmt body ∷ s
stmt_onto (t.ForAwait constant x over body) s = an_expr over ∷ a_stmt body ∷ s
stmt_onto t.Break s = s
stmt_onto t.Continue s = s
stmt_onto (t.Return o) s = maybe_onto o s
stmt_onto (t.Throw e) s = an_expr e ∷ s
stmt_onto (t.Try block catcher final) s = some_stmts block ∷ catch_onto catcher (last_onto final s)
stmt_onto (t.Value e) s = an_expr e ∷ s
stmt_onto t.Empty s = s
stmt_onto (t.Switch e cs) s = an_expr e ∷ some_clauses cs ∷ s

-- ITEMS, each onto the list before it
abbrev pub property_made : SeenProperty → List Seen → List Seen
property_made p s = with_properties (λ ps. with_expr (λ e. with_prop_key p.0 (λ key s. some_properties (properties_end ps (key, e)) ∷ s))) s

abbrev pub property_onto : SeenProperty → List Seen → List Seen
property_onto p s = an_expr p.1 ∷ prop_key_onto p.0 s

abbrev pub let_made : SeenLet → List Seen → List Seen
let_made i s = with_lets (λ is. with_maybe i.1 (λ v s. some_lets (lets_end is (i.0, v)) ∷ s)) s

abbrev pub const_made : SeenConst → List Seen → List Seen
const_made i s = with_consts (λ is. with_expr (λ e s. some_consts (consts_end is (i.0, e)) ∷ s)) s

abbrev pub clause_made : SeenClause → List Seen → List Seen
clause_made i s = with_clauses (λ cs. with_stmts (λ ss s. some_clauses (clauses_end cs (i.0, ss)) ∷ s)) s

-- NODES, the last made first
abbrev pub made : Node → List Seen → List Seen
made (n.Expr e) s = expr_made (expr_view e.now) s
made (n.Stmt st) s = stmt_made (stmt_view st.now) s
made n.NoExprs s = some_exprs t.none ∷ s
made n.AddExpr s = with_exprs (λ es. with_expr (λ e s. some_exprs (exprs_end es e) ∷ s)) s
made n.NoStmts s = some_stmts t.end ∷ s
made n.AddStmt s = with_stmts (λ ss. with_stmt (λ st s. some_stmts (stmts_end ss st) ∷ s)) s
made n.NoProperties s = some_properties t.no_properties ∷ s
made (n.AddProperty p) s = property_made (property_view p.now) s
made n.NoLets s = some_lets t.no_lets ∷ s
made (n.AddLet i) s = let_made (let_view i.now) s
made n.NoConsts s = some_consts t.no_consts ∷ s
made (n.AddConst i) s = const_made (const_view i.now) s
made n.NoClauses s = some_clauses t.no_clauses ∷ s
made (n.AddClause i) s = clause_made (clause_view i.now) s

unfoldable pub built : List Node → List Seen → List Seen
built [] s = s
built (m ∷ ms) s = made m (built ms s)

-- WHAT WAITS AND WHAT IS DONE, the last first
abbrev pub work_seen : Work → Seen
work_seen (w.Expr e) = an_expr (expr_view e.now)
work_seen (w.Stmt st) = a_stmt (stmt_view st.now)
work_seen (w.Exprs xs) = some_exprs (exprs_view xs.now)
work_seen (w.Stmts xs) = some_stmts (stmts_view xs.now)
work_seen (w.Properties xs) = some_properties (properties_view xs.now)
work_seen (w.Lets xs) = some_lets (lets_view xs.now)
work_seen (w.Consts xs) = some_consts (consts_view xs.now)
work_seen (w.Clauses xs) = some_clauses (clauses_view xs.now)

abbrev pub waiting_onto : List Work → List Seen → List Seen
waiting_onto [] s = s
waiting_onto (q ∷ qs) s = waiting_onto qs (work_seen q ∷ s)

unfoldable pub waiting : List Work → List Seen
waiting qs = waiting_onto qs []

abbrev pub copy_seen : Copied → Seen
copy_seen (c.Expr e) = an_expr (expr_view e)
copy_seen (c.Stmt st) = a_stmt (stmt_view st)
copy_seen (c.Exprs xs) = some_exprs (exprs_view xs.items)
copy_seen (c.Stmts xs) = some_stmts (stmts_view xs.items)
copy_seen (c.Properties xs) = some_properties (properties_view xs.items)
copy_seen (c.Lets xs) = some_lets (lets_view xs.items)
copy_seen (c.Consts xs) = some_consts (consts_view xs.items)
copy_seen (c.Clauses xs) = some_clauses (clauses_view xs.items)

abbrev pub copied_onto : List Copied → List Seen → List Seen
copied_onto [] s = s
copied_onto (q ∷ qs) s = copied_onto qs (copy_seen q ∷ s)

unfoldable pub copied : List Copied → List Seen
copied qs = copied_onto qs []

-- HOW MUCH WAITS
abbrev pub prop_key_work : PropKey → ℕ
prop_key_work = fold-PropKey ℕ ℕ ℕ ℕ ℕ ℕ ℕ ℕ ℕ ℕ ℕ expr_step init_step key_step prop_key_step stmt_step catcher_step clause_step const_step function_step let_step property_step

abbrev pub work_weight : Work → ℕ
work_weight (w.Expr e) = 1 + 4 * expr_work e.now
work_weight (w.Stmt st) = 3 + 4 * stmt_work st.now
work_weight (w.Exprs xs) = 4 * listed (map expr_work xs.now)
work_weight (w.Stmts xs) = 4 * listed (map stmt_work xs.now)
work_weight (w.Properties xs) = 4 * listed (map property_work xs.now)
work_weight (w.Lets xs) = 4 * listed (map let_work xs.now)
work_weight (w.Consts xs) = 4 * listed (map const_work xs.now)
work_weight (w.Clauses xs) = 4 * listed (map clause_work xs.now)

abbrev pub work_weigh : List Work → ℕ
work_weigh [] = 0
work_weigh (q ∷ qs) = work_weight q + work_weigh qs
