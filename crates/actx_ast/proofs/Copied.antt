-- The lists of a copy: the last first, and a node made of its own parts.
use Rattle.std.proofs.Common.{◌≡◌, ◌+◌, List, [], ◌∷◌, ◌++◌, refl, ap, arith, ◌∙◌}
use Rattle.actx_ast.specs.Copies.{Seen, a_stmt, an_expr, built, catch_onto, clauses_end, code_onto, consts_end, copied, copied_onto, copy_seen, expr_made, expr_onto, exprs_end, init_onto, key_onto, last_onto, lets_end, made, maybe_onto, maybe_stmt_onto, prop_key_onto, properties_end, stmt_made, stmt_onto, stmts_end, waiting, waiting_onto, with_catch, with_code, with_init, with_key, with_last, with_maybe, with_maybe_stmt, with_prop_key, work_seen, work_weigh, work_weight}
use Rattle.actx_grammar.specs.Tree as t
use Rattle.actx_ast.specs.View.{clause_view, clauses_view, const_view, consts_view, expr_view, exprs_view, let_view, lets_view, properties_view, property_view, stmt_view, stmts_view}
use Rattle.actx_ast.specs.declared.copy.done.Copied.{Copied}
use Rattle.actx_ast.specs.declared.copy.order.Node.{Node}
use Rattle.actx_ast.specs.declared.copy.order.Work.{Work}
use Rattle.actx_ast.specs.declared.tree.Clause.{Clause}
use Rattle.actx_ast.specs.declared.tree.ConstItem.{ConstItem}
use Rattle.actx_ast.specs.declared.tree.Expr.{Expr}
use Rattle.actx_ast.specs.declared.tree.LetItem.{LetItem}
use Rattle.actx_ast.specs.declared.tree.Property.{Property}
use Rattle.actx_ast.specs.declared.tree.Stmt.{Stmt}

pub built_last : (ms : List Node) (m : Node) (s : List Seen) → built (ms ++ m ∷ []) s ≡ built ms (made m s)
unfolding built
built_last [] m s = refl
built_last (q ∷ ms) m s = ap (made q) (built_last ms m s)

pub built_none : (s : List Seen) → built [] s ≡ s
unfolding built
built_none s = refl

pub waiting_onto_last : (ws : List Work) (w : Work) (s : List Seen) → waiting_onto (ws ++ w ∷ []) s ≡ work_seen w ∷ waiting_onto ws s
waiting_onto_last [] w s = refl
waiting_onto_last (v ∷ ws) w s = waiting_onto_last ws w (work_seen v ∷ s)

pub waiting_last : (ws : List Work) (w : Work) → waiting (ws ++ w ∷ []) ≡ work_seen w ∷ waiting ws
unfolding waiting
waiting_last ws w = waiting_onto_last ws w []

pub waiting_none : waiting [] ≡ []
unfolding waiting
waiting_none = refl

pub weigh_last : (ws : List Work) (w : Work) → work_weigh (ws ++ w ∷ []) ≡ work_weigh ws + work_weight w
weigh_last [] w = omega arith
weigh_last (v ∷ ws) w = omega (arith, weigh_last ws w)

pub copied_onto_last : (cs : List Copied) (c : Copied) (s : List Seen) → copied_onto (cs ++ c ∷ []) s ≡ copy_seen c ∷ copied_onto cs s
copied_onto_last [] c s = refl
copied_onto_last (v ∷ cs) c s = copied_onto_last cs c (copy_seen v ∷ s)

pub copied_last : (cs : List Copied) (c : Copied) → copied (cs ++ c ∷ []) ≡ copy_seen c ∷ copied cs
unfolding copied
copied_last cs c = copied_onto_last cs c []

pub copied_none : copied [] ≡ []
unfolding copied
copied_none = refl

-- A LIST WITH ONE MORE AT THE END
pub exprs_last : (qs : List Expr) (x : Expr) → exprs_view (qs ++ x ∷ []) ≡ exprs_end (exprs_view qs) (expr_view x)
exprs_last [] x = refl
exprs_last (q ∷ qs) x = ap (t.also (expr_view q)) (exprs_last qs x)

pub stmts_last : (qs : List Stmt) (x : Stmt) → stmts_view (qs ++ x ∷ []) ≡ stmts_end (stmts_view qs) (stmt_view x)
stmts_last [] x = refl
stmts_last (q ∷ qs) x = ap (t.next (stmt_view q)) (stmts_last qs x)

pub properties_last : (qs : List Property) (x : Property) → properties_view (qs ++ x ∷ []) ≡ properties_end (properties_view qs) (property_view x)
properties_last [] x = refl
properties_last (q ∷ qs) x = ap (t.property (property_view q).0 (property_view q).1) (properties_last qs x)

pub lets_last : (qs : List LetItem) (x : LetItem) → lets_view (qs ++ x ∷ []) ≡ lets_end (lets_view qs) (let_view x)
lets_last [] x = refl
lets_last (q ∷ qs) x = ap (t.let_item (let_view q).0 (let_view q).1) (lets_last qs x)

pub consts_last : (qs : List ConstItem) (x : ConstItem) → consts_view (qs ++ x ∷ []) ≡ consts_end (consts_view qs) (const_view x)
consts_last [] x = refl
consts_last (q ∷ qs) x = ap (t.const_item (const_view q).0 (const_view q).1) (consts_last qs x)

pub clauses_last : (qs : List Clause) (x : Clause) → clauses_view (qs ++ x ∷ []) ≡ clauses_end (clauses_view qs) (clause_view x)
clauses_last [] x = refl
clauses_last (q ∷ qs) x = ap (t.clause (clause_view q).0 (clause_view q).1) (clauses_last qs x)

-- A NODE MADE OF ITS OWN PARTS
pub key_again : (y : t.Key) (k : t.Key → List Seen → List Seen) (s : List Seen) → with_key y k (key_onto y s) ≡ k y s
key_again (t.Dot x) k s = refl
key_again (t.Index e) k s = refl

pub prop_key_again : (y : t.PropKey) (k : t.PropKey → List Seen → List Seen) (s : List Seen) → with_prop_key y k (prop_key_onto y s) ≡ k y s
prop_key_again (t.Fixed u) k s = refl
prop_key_again (t.Computed e) k s = refl

pub maybe_again : (y : t.MaybeExpr) (k : t.MaybeExpr → List Seen → List Seen) (s : List Seen) → with_maybe y k (maybe_onto y s) ≡ k y s
maybe_again t.no_expr k s = refl
maybe_again (t.some_expr e) k s = refl

pub maybe_stmt_again : (y : t.MaybeStmt) (k : t.MaybeStmt → List Seen → List Seen) (s : List Seen) → with_maybe_stmt y k (maybe_stmt_onto y s) ≡ k y s
maybe_stmt_again t.no_stmt k s = refl
maybe_stmt_again (t.some_stmt st) k s = refl

pub code_again : (y : t.Code) (k : t.Code → List Seen → List Seen) (s : List Seen) → with_code y k (code_onto y s) ≡ k y s
code_again (t.code name kind params body) k s = refl

pub init_again : (y : t.Init) (k : t.Init → List Seen → List Seen) (s : List Seen) → with_init y k (init_onto y s) ≡ k y s
init_again t.init_nothing k s = refl
init_again (t.init_let is) k s = refl
init_again (t.init_const is) k s = refl
init_again (t.init_value e) k s = refl

pub catch_again : (y : t.Catch) (k : t.Catch → List Seen → List Seen) (s : List Seen) → with_catch y k (catch_onto y s) ≡ k y s
catch_again t.no_catch k s = refl
catch_again (t.catch x body) k s = refl

pub last_again : (y : t.Last) (k : t.Last → List Seen → List Seen) (s : List Seen) → with_last y k (last_onto y s) ≡ k y s
last_again t.no_last k s = refl
last_again (t.last ss) k s = refl

pub expr_again : (y : t.Expr) (s : List Seen) → expr_made y (expr_onto y s) ≡ an_expr y ∷ s
expr_again (t.Num n) s = refl
expr_again (t.Text u) s = refl
expr_again (t.Truth b) s = refl
expr_again t.Null s = refl
expr_again t.Undefined s = refl
expr_again t.This s = refl
expr_again (t.Named x) s = refl
expr_again (t.Unary op e) s = refl
expr_again (t.Binary op a b) s = refl
expr_again (t.Logic op a b) s = refl
expr_again (t.Choice e a b) s = refl
expr_again (t.SetName x e) s = refl
expr_again (t.SetMember e key v) s = key_again key (λ key s. an_expr (t.SetMember e key v) ∷ s) s
expr_again (t.Change x op e) s = refl
expr_again (t.Bump x up before) s = refl
expr_again (t.Member e key) s = key_again key (λ key s. an_expr (t.Member e key) ∷ s) s
expr_again (t.Call f es) s = refl
expr_again (t.Object ps) s = refl
expr_again (t.Function f) s = code_again f (λ f s. an_expr (t.Function f) ∷ s) s
expr_again (t.Yield o) s = maybe_again o (λ o s. an_expr (t.Yield o) ∷ s) s
expr_again (t.YieldAll e) s = refl
expr_again (t.Await e) s = refl
expr_again (t.Built form es) s = refl

pub stmt_again : (y : t.Stmt) (s : List Seen) → stmt_made y (stmt_onto y s) ≡ a_stmt y ∷ s
stmt_again (t.Let is) s = refl
stmt_again (t.Const is) s = refl
stmt_again (t.Fun f) s = code_again f (λ f s. a_stmt (t.Fun f) ∷ s) s
stmt_again (t.Block ss) s = refl
stmt_again (t.If e then other) s = maybe_stmt_again other (λ other s. a_stmt (t.If e then other) ∷ s) s
stmt_again (t.While e body) s = refl
stmt_again (t.DoWhile body e) s = refl
stmt_again (t.For i test update body) s = init_again i _ _ ∙ maybe_again test _ _ ∙ maybe_again update _ _
stmt_again (t.ForOf constant x over body) s = refl
stmt_again (t.ForAwait constant x over body) s = refl
stmt_again t.Break s = refl
stmt_again t.Continue s = refl
stmt_again (t.Return o) s = maybe_again o (λ o s. a_stmt (t.Return o) ∷ s) s
stmt_again (t.Throw e) s = refl
stmt_again (t.Try block catcher final) s = catch_again catcher _ _ ∙ last_again final _ _
stmt_again (t.Value e) s = refl
stmt_again t.Empty s = refl
stmt_again (t.Switch e cs) s = refl
