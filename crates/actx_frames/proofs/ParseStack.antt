-- The stack, whose last frame is the innermost, and lists that grow at their end.
use Rattle.std.proofs.Common.{◌≡◌, ℕ, suc, ◌≤◌, ◌*◌, List, [], ◌∷◌, ◌++◌, length, ◌+◌, refl, ap, arith, ◌-◌, zero, Some, None}
use Rattle.std.specs.Prelude.{slice_get}
use Rattle.actx_ast.specs.declared.tree.Clause.{Clause}
use Rattle.actx_ast.specs.declared.tree.ConstItem.{ConstItem}
use Rattle.actx_ast.specs.declared.tree.Expr.{Expr}
use Rattle.actx_ast.specs.declared.tree.LetItem.{LetItem}
use Rattle.actx_ast.specs.declared.tree.Property.{Property}
use Rattle.actx_ast.specs.declared.tree.Stmt.{Stmt}
use Rattle.actx_grammar.specs.Grammar.{count, with_last, with_let, with_const, with_property}
use Rattle.actx_grammar.specs.Parser.{with_stmt, with_clause}
use Rattle.actx_grammar.specs.ParserState as m
use Rattle.actx_grammar.specs.ParserState.{levels, frame_levels, role_levels}
use Rattle.actx_grammar.specs.Tree as t
use Rattle.actx_ast.specs.View.{expr_view, exprs_view, const_view, consts_view, let_view, lets_view, property_view, properties_view, stmt_view, stmts_view, clause_view, clauses_view}
use Rattle.actx_frames.specs.ParserView.{frame_view, onto, stack_view}
use Rattle.actx_frames.specs.declared.state.Frame.{Frame}

pub onto_last : (xs : List Frame) (x : Frame) (s : List Frame) → onto (xs ++ x ∷ []) s ≡ x ∷ onto xs s
onto_last [] x s = refl
onto_last (y ∷ ys) x s = onto_last ys x (y ∷ s)

pub one_more : (es : List Expr) (e : Expr) → exprs_view (es ++ e ∷ []) ≡ with_last (exprs_view es) (expr_view e)
one_more [] e = refl
one_more (f ∷ es) e = ap (t.also (expr_view f)) (one_more es e)

pub how_many : (es : List Expr) → count (exprs_view es) ≡ length es
how_many [] = refl
how_many (e ∷ es) = ap suc (how_many es)

pub count_last : (es : t.Exprs) (e : t.Expr) → count (with_last es e) ≡ suc (count es)
count_last t.none e = refl
count_last (t.also f es) e = ap suc (count_last es e)

pub let_more : (is : List LetItem) (i : LetItem) → lets_view (is ++ i ∷ []) ≡ with_let (lets_view is) (let_view i).0 (let_view i).1
let_more [] i = refl
let_more (j ∷ is) i = ap (t.let_item (let_view j).0 (let_view j).1) (let_more is i)

pub const_more : (is : List ConstItem) (i : ConstItem) → consts_view (is ++ i ∷ []) ≡ with_const (consts_view is) (const_view i).0 (const_view i).1
const_more [] i = refl
const_more (j ∷ is) i = ap (t.const_item (const_view j).0 (const_view j).1) (const_more is i)

pub property_more : (ps : List Property) (p : Property) → properties_view (ps ++ p ∷ []) ≡ with_property (properties_view ps) (property_view p).0 (property_view p).1
property_more [] p = refl
property_more (q ∷ ps) p = ap (t.property (property_view q).0 (property_view q).1) (property_more ps p)

pub stmt_more : (ss : List Stmt) (st : Stmt) → stmts_view (ss ++ st ∷ []) ≡ with_stmt (stmts_view ss) (stmt_view st)
stmt_more [] st = refl
stmt_more (sa ∷ ss) st = ap (t.next (stmt_view sa)) (stmt_more ss st)

pub clause_more : (cs : List Clause) (c : Clause) → clauses_view (cs ++ c ∷ []) ≡ with_clause (clauses_view cs) (clause_view c).0 (clause_view c).1
clause_more [] c = refl
clause_more (d ∷ cs) c = ap (t.clause (clause_view d).0 (clause_view d).1) (clause_more cs c)

-- no frame makes more than two levels
head_levels : (h : m.Head) → role_levels h ≤ 2
head_levels (m.function_head (m.method ps key r) kind x) = omega arith
head_levels (m.function_head _ kind x) = omega arith
head_levels (m.arrow_head kind) = omega arith

owner_levels : (o : m.ListOwner) (ss : t.Stmts) (r : ℕ) → frame_levels (m.in_list o ss r) ≤ 2
owner_levels m.program ss r = omega arith
owner_levels (m.body h xs) ss r = head_levels h
owner_levels _ ss r = omega arith

few_levels : (f : m.Frame) → frame_levels f ≤ 2
few_levels (m.in_list o ss r) = owner_levels o ss r
few_levels (m.in_arrow kind xs) = omega arith
few_levels _ = omega arith

levels_onto : (xs s : List Frame) → levels (stack_view (onto xs s)) ≤ 2 * length xs + levels (stack_view s)
levels_onto [] s = omega arith
levels_onto (x ∷ xs) s = omega (arith, levels_onto xs (x ∷ s), few_levels (frame_view x))

pub levels_most : (xs : List Frame) → levels (stack_view (onto xs [])) ≤ 2 * length xs
levels_most xs = omega (arith, levels_onto xs [])

top_at : (xs s : List Frame) (n : ℕ) (f : Frame) → suc n ≡ length xs → Some f ≡ slice_get xs n → (rest : List Frame) × (onto xs s ≡ f ∷ rest)
top_at [] s n f q e = absurd (omega arith)
top_at (x ∷ []) s zero f q e = let same : x ≡ f = cc in (s, ap (λ z. z ∷ s) same)
top_at (x ∷ []) s (suc n) f q e = absurd (omega arith)
top_at (x ∷ y ∷ ys) s zero f q e = absurd (omega arith)
top_at (x ∷ y ∷ ys) s (suc n) f q e = top_at (y ∷ ys) (x ∷ s) n f (omega arith) e

-- the last frame is the innermost
pub top_last : (xs : List Frame) (f : Frame) → Some f ≡ slice_get xs (length xs - 1) → (rest : List Frame) × (onto xs [] ≡ f ∷ rest)
top_last [] f e = absurd (cc)
top_last (x ∷ xs) f e = top_at (x ∷ xs) [] (length (x ∷ xs) - 1) f (omega arith) e

none_at : (xs s : List Frame) (n : ℕ) → suc n ≡ length xs → None ≡ slice_get xs n → ⊥
none_at [] s n q e = absurd (omega arith)
none_at (x ∷ []) s zero q e = absurd (cc)
none_at (x ∷ []) s (suc n) q e = absurd (omega arith)
none_at (x ∷ y ∷ ys) s zero q e = absurd (omega arith)
none_at (x ∷ y ∷ ys) s (suc n) q e = none_at (y ∷ ys) s n (omega arith) e

-- where there is no last frame, there is none
pub no_last : (xs : List Frame) → None ≡ slice_get xs (length xs - 1) → onto xs [] ≡ []
no_last [] e = refl
no_last (x ∷ xs) e = absurd (none_at (x ∷ xs) [] (length (x ∷ xs) - 1) (omega arith) e)
