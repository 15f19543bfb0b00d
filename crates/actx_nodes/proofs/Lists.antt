-- Lists that a loop makes, with one more at their end.
use Rattle.std.proofs.Common.{◌≡◌, ℕ, ◌+◌, List, [], ◌∷◌, ◌++◌, refl, ap, ◌∙◌, arith}
use Rattle.actx_ast.specs.declared.tree.Clause.{Clause}
use Rattle.actx_ast.specs.View.{clause_view, clauses_view}
use Rattle.actx_nodes.specs.Heads.{head, names_heads, clause_labels, clauses_count, stmts_count}
use Rattle.actx_nodes.specs.declared.label.Label.TheVariants as l
use Rattle.actx_nodes.specs.declared.label.ClauseLabel.{ClauseLabel}

pub names_last : (xs : List (List ℕ)) (x : List ℕ) → names_heads (xs ++ x ∷ []) ≡ names_heads xs ++ head (l.Name x) 0 ∷ []
names_last [] x = refl
names_last (y ∷ xs) x = ap (λ hs. head (l.Name y) 0 ∷ hs) (names_last xs x)

abbrev pub row : Clause → ℕ → ClauseLabel
row c start = record { number = (clause_view c).0; start = start; body = stmts_count (clause_view c).1 }

pub rows_last : (n : ℕ) (cs : List Clause) (c : Clause) → clause_labels n (clauses_view (cs ++ c ∷ [])) ≡ clause_labels n (clauses_view cs) ++ row c (n + clauses_count (clauses_view cs)) ∷ []
rows_last n [] c = ap (λ m. row c m ∷ []) (omega arith)
rows_last n (d ∷ cs) c =
    let start : n + stmts_count (clause_view d).1 + clauses_count (clauses_view cs) ≡ n + (stmts_count (clause_view d).1 + clauses_count (clauses_view cs)) = omega arith in
    ap (λ rs. row d n ∷ rs) (rows_last (n + stmts_count (clause_view d).1) cs c)
    ∙ ap (λ m. row d n ∷ (clause_labels (n + stmts_count (clause_view d).1) (clauses_view cs) ++ row c m ∷ [])) start

pub count_last : (cs : List Clause) (c : Clause) → clauses_count (clauses_view (cs ++ c ∷ [])) ≡ clauses_count (clauses_view cs) + stmts_count (clause_view c).1
count_last [] c = omega arith
count_last (d ∷ cs) c = omega (arith, count_last cs c)
