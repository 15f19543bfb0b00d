use Rattle.std.proofs.Common.{◌≡◌, ◌++◌, ◌∷◌, [], ap, sym, ◌∙◌, take, ◌+◌, rules, arith}
use Rattle.actx_ast.specs.declared.tree.Clause.{the_lemmas}
use Rattle.std.proofs.lemmas.List.{take_more}
use Rattle.actx_ast.specs.View.{clauses_view, clause_view}
use Rattle.actx_nodes.specs.Heads.{clause_labels, clauses_count, stmts_count}
use Rattle.actx_nodes.proofs.Lists.{row, rows_last, count_last}
use Rattle.actx_nodes.proofs.walk.stmts.clause_table.Goals as goal

pub loop-row-preserved : goal.loop-row-preserved
loop-row-preserved c =
    let turn = c.loop-row in
    let xs = c.args.rows.now in
    let x = c.row-item.result in
    let ys = take turn.row-index xs in
    let grown : take (turn.row-index + 1) xs ≡ ys ++ x ∷ [] = take_more xs turn.row-index x c.loop-row-test.true ∙ ap (λ z. ys ++ z ∷ []) (sym c.row-item.is) in
    let before = clause_labels 1 (clauses_view ys) in
    let body : c.count_stmts-body.result ≡ stmts_count (clause_view x).1 = search (rules, the_lemmas) in
    let number : c.row-item.result.number ≡ (clause_view x).0 = search (rules, the_lemmas) in (
      c.in_ok-push.ensures.items
          ∙ ap (λ z. z ++ record { number = c.row-item.result.number; start = turn.start; body = c.count_stmts-body.result } ∷ []) turn.invariant.0
          ∙ ap (λ n. before ++ record { number = n; start = turn.start; body = c.count_stmts-body.result } ∷ []) number
          ∙ ap (λ n. before ++ record { number = (clause_view x).0; start = turn.start; body = n } ∷ []) body
          ∙ ap (λ n. before ++ row x n ∷ []) turn.invariant.1
          ∙ sym (ap (λ zs. clause_labels 1 (clauses_view zs)) grown ∙ rows_last 1 ys x),
      c.in_ok-start.ensures ∙ omega (arith, turn.invariant.1, body, count_last ys x) ∙ sym (ap (λ zs. 1 + clauses_count (clauses_view zs)) grown),
    )
