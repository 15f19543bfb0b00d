-- What a walk has yet to do: pieces, the last of them first.
use Rattle.std.specs.Prelude.{ℕ, ◌+◌, Bool, true, false, List, [], ◌∷◌}
use Rattle.actx_ast.specs.Sizes.{expr_size, exprs_size, properties_size, lets_size, consts_size, stmt_size, stmts_size, clauses_size}
use Rattle.actx_ast.specs.View.{expr_view, exprs_view, properties_view, lets_view, consts_view, stmt_view, stmts_view, clauses_view}
use Rattle.actx_places.specs.declared.places.Item.{Item}
use Rattle.actx_places.specs.declared.places.Item.TheVariants as i
use Rattle.actx_places.specs.declared.places.Manner.TheVariants as m
use Rattle.actx_places.specs.Walk as w

abbrev pub act : Item → w.Walk → w.Walk
act i.Step v = w.step v
act (i.Pass k) v = w.pass k v
act i.Comma v = w.comma v
act i.Mark v = w.mark v
act (i.Settle node) v = w.settle node v
act i.Close v = w.close v
act i.Leave v = w.leave v
act (i.Exprs es) v = w.more_exprs (exprs_view es.now) v
act (i.Properties ps) v = w.more_properties (properties_view ps.now) v
act (i.Expr m.Whole e) v = w.leave (w.spine (expr_view e.now) (w.begin v))
act (i.Expr m.Spine e) v = w.spine (expr_view e.now) v
act (i.Expr (m.Value n) e) v = w.value (expr_view e.now) n v
act (i.Lets is) v = w.more_lets (lets_view is.now) v
act (i.Consts is) v = w.more_consts (consts_view is.now) v
act (i.Stmt st) v = w.stmt (stmt_view st.now) v
act (i.Stmts true ss) v = w.arrow_body (stmts_view ss.now) v
act (i.Stmts false ss) v = w.stmts (stmts_view ss.now) v
act (i.Clauses cs) v = w.clauses (clauses_view cs.now) v

abbrev pub acts : List Item → w.Walk → w.Walk
acts [] v = v
acts (p ∷ ps) v = act p (acts ps v)

-- how much a piece is
abbrev pub weight : Item → ℕ
weight i.Step = 1
weight (i.Pass k) = 1
weight i.Comma = 1
weight i.Mark = 1
weight (i.Settle node) = 1
weight i.Close = 1
weight i.Leave = 1
weight (i.Expr m.Whole e) = 2 + expr_size (expr_view e.now)
weight (i.Expr m.Spine e) = expr_size (expr_view e.now)
weight (i.Expr (m.Value n) e) = 4 + expr_size (expr_view e.now)
weight (i.Exprs es) = 1 + exprs_size (exprs_view es.now)
weight (i.Properties ps) = 1 + properties_size (properties_view ps.now)
weight (i.Lets is) = 1 + lets_size (lets_view is.now)
weight (i.Consts is) = 1 + consts_size (consts_view is.now)
weight (i.Stmt st) = stmt_size (stmt_view st.now)
weight (i.Stmts true ss) = 4 + stmts_size (stmts_view ss.now)
weight (i.Stmts false ss) = 1 + stmts_size (stmts_view ss.now)
weight (i.Clauses cs) = 1 + clauses_size (clauses_view cs.now)

abbrev pub weigh : List Item → ℕ
weigh [] = 0
weigh (p ∷ ps) = weight p + weigh ps
