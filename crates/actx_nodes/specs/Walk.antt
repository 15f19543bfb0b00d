-- What is left of a walk over a tree: pieces, the last of them first.
use Rattle.std.specs.Prelude.{ℕ, ◌+◌, List, [], ◌∷◌, ◌++◌}
use Rattle.actx_ast.specs.Sizes.{expr_size, exprs_size, properties_size, lets_size, consts_size, stmt_size, stmts_size, clauses_size}
use Rattle.actx_ast.specs.View.{expr_view, exprs_view, properties_view, lets_view, consts_view, stmt_view, stmts_view, clauses_view}
use Rattle.actx_nodes.specs.Heads.{expr_heads, exprs_heads, properties_heads, lets_heads, consts_heads, stmt_heads, stmts_heads, clauses_heads, names_heads}
use Rattle.actx_nodes.specs.declared.label.Head.{Head}
use Rattle.actx_nodes.specs.declared.walk.Piece.{Piece}
use Rattle.actx_nodes.specs.declared.walk.Piece.TheVariants as w

-- the heads of a piece
abbrev pub heads : Piece → List Head
heads (w.Head h) = h ∷ []
heads (w.Expr e) = expr_heads (expr_view e.now)
heads (w.Stmt st) = stmt_heads (stmt_view st.now)
heads (w.Names xs) = names_heads xs.now
heads (w.Exprs es) = exprs_heads (exprs_view es.now)
heads (w.Properties ps) = properties_heads (properties_view ps.now)
heads (w.Lets is) = lets_heads (lets_view is.now)
heads (w.Consts is) = consts_heads (consts_view is.now)
heads (w.Stmts ss) = stmts_heads (stmts_view ss.now)
heads (w.Clauses cs) = clauses_heads (clauses_view cs.now)

abbrev pub rest_onto : List Piece → List Head → List Head
rest_onto [] r = r
rest_onto (p ∷ ps) r = rest_onto ps (heads p ++ r)

abbrev pub rest_of : List Piece → List Head
rest_of ps = rest_onto ps []

-- how much a piece is
abbrev pub weight : Piece → ℕ
weight (w.Head h) = 1
weight (w.Expr e) = expr_size (expr_view e.now)
weight (w.Stmt st) = stmt_size (stmt_view st.now)
weight (w.Names xs) = 1
weight (w.Exprs es) = 1 + exprs_size (exprs_view es.now)
weight (w.Properties ps) = 1 + properties_size (properties_view ps.now)
weight (w.Lets is) = 1 + lets_size (lets_view is.now)
weight (w.Consts is) = 1 + consts_size (consts_view is.now)
weight (w.Stmts ss) = 1 + stmts_size (stmts_view ss.now)
weight (w.Clauses cs) = 1 + clauses_size (clauses_view cs.now)

abbrev pub weigh : List Piece → ℕ
weigh [] = 0
weigh (p ∷ ps) = weight p + weigh ps
