-- Steps of a copy: a node listed and its parts waiting, and a node made of the copies of its parts.
use Rattle.std.proofs.Common.{◌≡◌, ◌+◌, List, [], ◌∷◌, ◌++◌, map, ap, sym, ◌∙◌}
use Rattle.actx_ast.specs.Apart.{clause_work, const_work, expr_work, let_work, listed, property_work, stmt_work}
use Rattle.actx_ast.specs.Copies.{Seen, a_stmt, an_expr, built, catch_onto, clauses_end, consts_end, expr_made, expr_onto, exprs_end, init_onto, last_onto, lets_end, maybe_onto, properties_end, stmt_made, stmt_onto, stmts_end, with_catch, with_init, with_last, with_maybe}
use Rattle.actx_grammar.specs.Tree as t
use Rattle.actx_ast.specs.View.{clause_view, clauses_view, const_view, consts_view, expr_view, exprs_view, let_view, lets_view, properties_view, property_view, stmt_view, stmts_view}
use Rattle.actx_ast.proofs.Copied.{expr_again, stmt_again, exprs_last, stmts_last, properties_last, lets_last, consts_last, clauses_last}
use Rattle.actx_ast.proofs.Parts.{listed_last}
use Rattle.actx_ast.specs.declared.copy.order.Node.{Node}
use Rattle.actx_ast.specs.declared.tree.Clause.{Clause}
use Rattle.actx_ast.specs.declared.tree.ConstItem.{ConstItem}
use Rattle.actx_ast.specs.declared.tree.Expr.{Expr}
use Rattle.actx_ast.specs.declared.tree.LetItem.{LetItem}
use Rattle.actx_ast.specs.declared.tree.Property.{Property}
use Rattle.actx_ast.specs.declared.tree.Stmt.{Stmt}

-- LISTED
pub expr_seen : (new old : List Node) (y : t.Expr) (w v : List Seen) → ((s : List Seen) → built new s ≡ built old (expr_made y s)) → w ≡ expr_onto y v → built new w ≡ built old (an_expr y ∷ v)
expr_seen new old y w v lists waits = lists w ∙ ap (λ s. built old (expr_made y s)) waits ∙ ap (built old) (expr_again y v)

pub expr_copied : (y r : t.Expr) (w n v : List Seen) → w ≡ expr_onto r v → ((s : List Seen) → expr_made y (expr_onto r s) ≡ an_expr r ∷ s) → n ≡ an_expr r ∷ v → n ≡ expr_made y w
expr_copied y r w n v parts like is = is ∙ sym (like v) ∙ ap (expr_made y) (sym parts)

pub stmt_seen : (new old : List Node) (y : t.Stmt) (w v : List Seen) → ((s : List Seen) → built new s ≡ built old (stmt_made y s)) → w ≡ stmt_onto y v → built new w ≡ built old (a_stmt y ∷ v)
stmt_seen new old y w v lists waits = lists w ∙ ap (λ s. built old (stmt_made y s)) waits ∙ ap (built old) (stmt_again y v)

pub stmt_copied : (y r : t.Stmt) (w n v : List Seen) → w ≡ stmt_onto r v → ((s : List Seen) → stmt_made y (stmt_onto r s) ≡ a_stmt r ∷ s) → n ≡ a_stmt r ∷ v → n ≡ stmt_made y w
stmt_copied y r w n v parts like is = is ∙ sym (like v) ∙ ap (stmt_made y) (sym parts)

-- the view of a list whose last part is known
pub exprs_split : (xs rest : List Expr) (x : Expr) → xs ≡ rest ++ x ∷ [] → exprs_end (exprs_view rest) (expr_view x) ≡ exprs_view xs
exprs_split xs rest x e = sym (ap exprs_view e ∙ exprs_last rest x)

pub stmts_split : (xs rest : List Stmt) (x : Stmt) → xs ≡ rest ++ x ∷ [] → stmts_end (stmts_view rest) (stmt_view x) ≡ stmts_view xs
stmts_split xs rest x e = sym (ap stmts_view e ∙ stmts_last rest x)

pub properties_split : (xs rest : List Property) (x : Property) → xs ≡ rest ++ x ∷ [] → properties_end (properties_view rest) (property_view x) ≡ properties_view xs
properties_split xs rest x e = sym (ap properties_view e ∙ properties_last rest x)

pub lets_split : (xs rest : List LetItem) (x : LetItem) → xs ≡ rest ++ x ∷ [] → lets_end (lets_view rest) (let_view x) ≡ lets_view xs
lets_split xs rest x e = sym (ap lets_view e ∙ lets_last rest x)

pub consts_split : (xs rest : List ConstItem) (x : ConstItem) → xs ≡ rest ++ x ∷ [] → consts_end (consts_view rest) (const_view x) ≡ consts_view xs
consts_split xs rest x e = sym (ap consts_view e ∙ consts_last rest x)

pub clauses_split : (xs rest : List Clause) (x : Clause) → xs ≡ rest ++ x ∷ [] → clauses_end (clauses_view rest) (clause_view x) ≡ clauses_view xs
clauses_split xs rest x e = sym (ap clauses_view e ∙ clauses_last rest x)

-- how much a list is whose last part is known
pub exprs_more : (xs rest : List Expr) (x : Expr) → xs ≡ rest ++ x ∷ [] → listed (map expr_work xs) ≡ listed (map expr_work rest) + (1 + expr_work x)
exprs_more xs rest x e = ap (λ l. listed (map expr_work l)) e ∙ listed_last expr_work rest x

pub stmts_more : (xs rest : List Stmt) (x : Stmt) → xs ≡ rest ++ x ∷ [] → listed (map stmt_work xs) ≡ listed (map stmt_work rest) + (1 + stmt_work x)
stmts_more xs rest x e = ap (λ l. listed (map stmt_work l)) e ∙ listed_last stmt_work rest x

pub properties_more : (xs rest : List Property) (x : Property) → xs ≡ rest ++ x ∷ [] → listed (map property_work xs) ≡ listed (map property_work rest) + (1 + property_work x)
properties_more xs rest x e = ap (λ l. listed (map property_work l)) e ∙ listed_last property_work rest x

pub lets_more : (xs rest : List LetItem) (x : LetItem) → xs ≡ rest ++ x ∷ [] → listed (map let_work xs) ≡ listed (map let_work rest) + (1 + let_work x)
lets_more xs rest x e = ap (λ l. listed (map let_work l)) e ∙ listed_last let_work rest x

pub consts_more : (xs rest : List ConstItem) (x : ConstItem) → xs ≡ rest ++ x ∷ [] → listed (map const_work xs) ≡ listed (map const_work rest) + (1 + const_work x)
consts_more xs rest x e = ap (λ l. listed (map const_work l)) e ∙ listed_last const_work rest x

pub clauses_more : (xs rest : List Clause) (x : Clause) → xs ≡ rest ++ x ∷ [] → listed (map clause_work xs) ≡ listed (map clause_work rest) + (1 + clause_work x)
clauses_more xs rest x e = ap (λ l. listed (map clause_work l)) e ∙ listed_last clause_work rest x

-- MADE
-- a statement whose parts are made of what stands before a list
pub for_like : (i i' : t.Init) (test test' update update' : t.MaybeExpr) (body body' : t.Stmt) → ((k : t.Init → List Seen → List Seen) (s : List Seen) → with_init i k (init_onto i' s) ≡ k i' s) → ((k : t.MaybeExpr → List Seen → List Seen) (s : List Seen) → with_maybe test k (maybe_onto test' s) ≡ k test' s) → ((k : t.MaybeExpr → List Seen → List Seen) (s : List Seen) → with_maybe update k (maybe_onto update' s) ≡ k update' s) → (s : List Seen) → stmt_made (t.For i test update body) (stmt_onto (t.For i' test' update' body') s) ≡ a_stmt (t.For i' test' update' body') ∷ s
for_like i i' test test' update update' body body' like_init like_test like_update s = like_init _ _ ∙ like_test _ _ ∙ like_update _ _

pub try_like : (block block' : t.Stmts) (c c' : t.Catch) (final final' : t.Last) → ((k : t.Catch → List Seen → List Seen) (s : List Seen) → with_catch c k (catch_onto c' s) ≡ k c' s) → ((k : t.Last → List Seen → List Seen) (s : List Seen) → with_last final k (last_onto final' s) ≡ k final' s) → (s : List Seen) → stmt_made (t.Try block c final) (stmt_onto (t.Try block' c' final') s) ≡ a_stmt (t.Try block' c' final') ∷ s
try_like block block' c c' final final' like_catch like_last s = like_catch _ _ ∙ like_last _ _

pub like_seen : (y y' r : t.Stmt) → y ≡ y' → ((s : List Seen) → stmt_made y' (stmt_onto r s) ≡ a_stmt r ∷ s) → (s : List Seen) → stmt_made y (stmt_onto r s) ≡ a_stmt r ∷ s
like_seen y y' r seen like s = ap (λ z. stmt_made z (stmt_onto r s)) seen ∙ like s
