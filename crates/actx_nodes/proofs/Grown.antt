-- The heads of a tree make its nodes, in order, and what stands behind them is left as it is.
use Rattle.std.proofs.Common.{◌≡◌, ℕ, suc, ◌+◌, List, [], ◌∷◌, ◌++◌, Option, Some, None, length, map, take, drop, refl, sym, ap, ◌∙◌, arith, append_assoc, length-append}
use Rattle.std.proofs.lemmas.List.{append-nil}
use Rattle.actx_grammar.specs.Tree as t
use Rattle.actx_grammar.specs.Tree.{Expr, Exprs, MaybeExpr, Key, PropKey, Properties, Code, LetItems, ConstItems, Init, Stmt, MaybeStmt, Catch, Last, Clauses, Stmts}
use Rattle.actx_nodes.specs.Build.{build, one, name_of, some_of, catch_of, last_of, try_of, for_of, maybe_of, init_parts, catch_parts}
use Rattle.actx_nodes.specs.Forest.{gathered, built}
use Rattle.actx_nodes.specs.Heads as h
use Rattle.actx_nodes.specs.Heads.{head, exprs_count, properties_count, lets_count, consts_count, stmts_count, other_count, clauses_count, clause_labels, is_some, is_expr, is_last, maybe_count, last_count, init_label, catch_label}
use Rattle.actx_nodes.specs.Node.{Node, ExprNode, StmtNode, NameNode, KeyNode, LetNode, ConstNode, stmt_in, nth, stmts_in}
use Rattle.actx_nodes.specs.Preorder as n
use Rattle.actx_nodes.specs.declared.label.Head.{Head}
use Rattle.actx_nodes.specs.declared.label.Label.{Label}
use Rattle.actx_nodes.specs.declared.label.Label.TheVariants as l
use Rattle.actx_nodes.specs.declared.label.ExprLabel.TheVariants as e
use Rattle.actx_nodes.specs.declared.label.StmtLabel.TheVariants as s
use Rattle.actx_nodes.proofs.Parts as p
use Rattle.actx_nodes.proofs.Parts.{taken, left, middle, behind, nth_behind}

-- heads make these parts, and all these nodes
pub record Grows (hs : List Head) (ps all : List Node) : Type 0 where
  pub parts : (r : List Head) → gathered (hs ++ r) ≡ ps ++ gathered r
  pub nodes : (r : List Head) → built (hs ++ r) ≡ all ++ built r

nothing : Grows [] [] []
nothing = record { parts = λ r. refl; nodes = λ r. refl }

both : {xs ys : List Head} {ps qs ms ns : List Node} → Grows xs ps ms → Grows ys qs ns → Grows (xs ++ ys) (ps ++ qs) (ms ++ ns)
both {xs} {ys} {ps} {qs} {ms} {ns} g k = record {
  parts = λ r. ap gathered (append_assoc xs ys r) ∙ g.parts (ys ++ r) ∙ ap (λ z. ps ++ z) (k.parts r) ∙ sym (append_assoc ps qs (gathered r));
  nodes = λ r. ap built (append_assoc xs ys r) ∙ g.nodes (ys ++ r) ∙ ap (λ z. ms ++ z) (k.nodes r) ∙ sym (append_assoc ms ns (built r));
}

-- a node whose parts are made behind its head
node : (label : Label) (count : ℕ) {hs : List Head} {ps ms : List Node} (x : Node) → Grows hs ps ms → count ≡ length ps → build label ps ≡ x → Grows (head label count ∷ hs) (x ∷ []) (x ∷ ms)
node label count {hs} {ps} {ms} x g c b = record {
  parts = λ r. ap (λ ys. build label (take count ys) ∷ drop count ys) (g.parts r) ∙ ap (λ ys. build label ys ∷ drop count (ps ++ gathered r)) (taken count ps (gathered r) c) ∙ ap (λ ys. build label ps ∷ ys) (left count ps (gathered r) c) ∙ ap (λ y. y ∷ gathered r) b;
  nodes = λ r. ap (λ ys. build label (take count ys) ∷ built (hs ++ r)) (g.parts r) ∙ ap (λ ys. build label ys ∷ built (hs ++ r)) (taken count ps (gathered r) c) ∙ ap (λ y. y ∷ built (hs ++ r)) b ∙ ap (λ ys. x ∷ ys) (g.nodes r);
}

leaf : (label : Label) (x : Node) → build label [] ≡ x → Grows (head label 0 ∷ []) (x ∷ []) (x ∷ [])
leaf label x b = node label 0 x nothing refl b

-- NAMES
name : (o : Option (List ℕ)) → Grows (h.name_heads o) (p.name_parts o) (n.name_nodes o)
name None = nothing
name (Some x) = leaf (l.Name x) (NameNode x) refl

names : (xs : List (List ℕ)) → Grows (h.names_heads xs) (map NameNode xs) (map NameNode xs)
names [] = nothing
names (x ∷ xs) = both (leaf (l.Name x) (NameNode x) refl) (names xs)

-- TRIES AND FORS, read again
maybe_read : (o : MaybeExpr) (ns : List Node) → maybe_of (is_expr o) (p.maybe_parts o ++ ns) ≡ o
maybe_read t.no_expr ns = refl
maybe_read (t.some_expr a) ns = refl

maybe_one : (o : MaybeExpr) → one (is_expr o) ≡ length (p.maybe_parts o)
maybe_one t.no_expr = refl
maybe_one (t.some_expr a) = refl

last_read : (o : Last) → last_of (is_last o) (p.last_parts o) ≡ o
last_read t.no_last = refl
last_read (t.last ss) = ap t.last (p.stmts_read ss)

catch_length : (c : Catch) → catch_parts (catch_label c) ≡ length (p.catch_nodes c)
catch_length t.no_catch = refl
catch_length (t.catch x ss) = omega (arith, p.name_length x, p.stmts_length ss, length-append (p.name_parts x) (p.stmts_parts ss))

catch_name : (x : Option (List ℕ)) (ns : List Node) → name_of (is_some x) (p.name_parts x ++ ns) ≡ x
catch_name None ns = refl
catch_name (Some x) ns = refl

catch_read : (c : Catch) (ns : List Node) → catch_of (catch_label c) (p.catch_nodes c ++ ns) ≡ c
catch_read t.no_catch ns = refl
catch_read (t.catch x ss) ns =
    let all : (p.name_parts x ++ p.stmts_parts ss) ++ ns ≡ p.name_parts x ++ (p.stmts_parts ss ++ ns) = append_assoc (p.name_parts x) (p.stmts_parts ss) ns in
    ap (λ ys. t.catch (name_of (is_some x) ys) (stmts_in (some_of (one (is_some x)) (stmts_count ss) ys))) all
    ∙ ap (λ y. t.catch y (stmts_in (some_of (one (is_some x)) (stmts_count ss) (p.name_parts x ++ (p.stmts_parts ss ++ ns))))) (catch_name x (p.stmts_parts ss ++ ns))
    ∙ ap (λ ys. t.catch x (stmts_in ys)) (middle (one (is_some x)) (stmts_count ss) (p.name_parts x) (p.stmts_parts ss) ns (p.name_length x) (p.stmts_length ss))
    ∙ ap (t.catch x) (p.stmts_read ss)

abbrev try_parts : Stmts → Catch → Last → List Node
try_parts ss c o = p.stmts_parts ss ++ (p.catch_nodes c ++ p.last_parts o)

try_read : (ss : Stmts) (c : Catch) (o : Last) → try_of (h.try_label ss c o) (p.stmts_parts ss ++ (p.catch_nodes c ++ p.last_parts o)) ≡ t.Try ss c o
try_read ss c o =
    let all = p.stmts_parts ss ++ (p.catch_nodes c ++ p.last_parts o) in
    let block : stmts_in (take (stmts_count ss) all) ≡ ss = ap stmts_in (taken (stmts_count ss) (p.stmts_parts ss) (p.catch_nodes c ++ p.last_parts o) (p.stmts_length ss)) ∙ p.stmts_read ss in
    let caught : catch_of (catch_label c) (drop (stmts_count ss) all) ≡ c = ap (catch_of (catch_label c)) (left (stmts_count ss) (p.stmts_parts ss) (p.catch_nodes c ++ p.last_parts o) (p.stmts_length ss)) ∙ catch_read c (p.last_parts o) in
    let ending : last_of (is_last o) (drop (stmts_count ss + catch_parts (catch_label c)) all) ≡ o = ap (last_of (is_last o)) (behind (stmts_count ss) (catch_parts (catch_label c)) (p.stmts_parts ss) (p.catch_nodes c) (p.last_parts o) (p.stmts_length ss) (catch_length c)) ∙ last_read o in
    ap (λ x. t.Try x (catch_of (catch_label c) (drop (stmts_count ss) all)) (last_of (is_last o) (drop (stmts_count ss + catch_parts (catch_label c)) all))) block
    ∙ ap (λ x. t.Try ss x (last_of (is_last o) (drop (stmts_count ss + catch_parts (catch_label c)) all))) caught
    ∙ ap (t.Try ss c) ending

for_read : (i : Init) (test update : MaybeExpr) (st : Stmt) → for_of (h.for_label i test update) (p.init_nodes i ++ (p.maybe_parts test ++ (p.maybe_parts update ++ StmtNode st ∷ []))) ≡ t.For i test update st
for_read i test update st =
    let last = p.maybe_parts update ++ StmtNode st ∷ [] in
    let rest = p.maybe_parts test ++ last in
    let all = p.init_nodes i ++ rest in
    let m = init_parts (init_label i) in
    let to_test : drop m all ≡ rest = left m (p.init_nodes i) rest (p.init_length i) in
    let to_update : drop (m + one (is_expr test)) all ≡ last = behind m (one (is_expr test)) (p.init_nodes i) (p.maybe_parts test) last (p.init_length i) (maybe_one test) in
    let body : nth all (m + one (is_expr test) + one (is_expr update)) ≡ StmtNode st = nth_behind (m + one (is_expr test)) (one (is_expr update)) all (p.maybe_parts update) (StmtNode st) to_update (maybe_one update) in
    let testing : maybe_of (is_expr test) (drop m all) ≡ test = ap (maybe_of (is_expr test)) to_test ∙ maybe_read test last in
    let updating : maybe_of (is_expr update) (drop (m + one (is_expr test)) all) ≡ update = ap (maybe_of (is_expr update)) to_update ∙ maybe_read update (StmtNode st ∷ []) in
    ap (λ x. t.For x (maybe_of (is_expr test) (drop m all)) (maybe_of (is_expr update) (drop (m + one (is_expr test)) all)) (stmt_in (nth all (m + one (is_expr test) + one (is_expr update))))) (p.init_read i rest)
    ∙ ap (λ x. t.For i x (maybe_of (is_expr update) (drop (m + one (is_expr test)) all)) (stmt_in (nth all (m + one (is_expr test) + one (is_expr update))))) testing
    ∙ ap (λ x. t.For i test x (stmt_in (nth all (m + one (is_expr test) + one (is_expr update))))) updating
    ∙ ap (λ x. t.For i test update (stmt_in x)) body

for_length : (i : Init) (test update : MaybeExpr) (st : Stmt) → h.for_count i test update ≡ length (p.init_nodes i ++ (p.maybe_parts test ++ (p.maybe_parts update ++ StmtNode st ∷ [])))
for_length i test update st =
    omega (arith, p.init_length i, p.maybe_length test, p.maybe_length update, length-append (p.init_nodes i) (p.maybe_parts test ++ (p.maybe_parts update ++ StmtNode st ∷ [])), length-append (p.maybe_parts test) (p.maybe_parts update ++ StmtNode st ∷ []), length-append (p.maybe_parts update) (StmtNode st ∷ []))

try_length : (ss : Stmts) (c : Catch) (o : Last) → h.try_count ss c o ≡ length (try_parts ss c o)
try_length ss c o =
    omega (arith, p.stmts_length ss, catch_length c, p.last_length o, length-append (p.stmts_parts ss) (p.catch_nodes c ++ p.last_parts o), length-append (p.catch_nodes c) (p.last_parts o))

-- EVERY TREE
mutual
  expr : (a : Expr) → Grows (h.expr_heads a) (ExprNode a ∷ []) (n.expr_nodes a)
  expr (t.Num m) = leaf (l.Expr (e.Num m)) (ExprNode (t.Num m)) refl
  expr (t.Text u) = leaf (l.Expr (e.Text u)) (ExprNode (t.Text u)) refl
  expr (t.Truth b) = leaf (l.Expr (e.Truth b)) (ExprNode (t.Truth b)) refl
  expr t.Null = leaf (l.Expr e.Null) (ExprNode t.Null) refl
  expr t.Undefined = leaf (l.Expr e.Undefined) (ExprNode t.Undefined) refl
  expr t.This = leaf (l.Expr e.This) (ExprNode t.This) refl
  expr (t.Named x) = leaf (l.Expr (e.Named x)) (ExprNode (t.Named x)) refl
  expr (t.Unary op a) = node (l.Expr (e.Unary op)) 1 (ExprNode (t.Unary op a)) (expr a) refl refl
  expr (t.Binary op a b) = node (l.Expr (e.Binary op)) 2 (ExprNode (t.Binary op a b)) (both (expr a) (expr b)) refl refl
  expr (t.Logic op a b) = node (l.Expr (e.Logic op)) 2 (ExprNode (t.Logic op a b)) (both (expr a) (expr b)) refl refl
  expr (t.Choice test a b) = node (l.Expr e.Choice) 3 (ExprNode (t.Choice test a b)) (both (expr test) (both (expr a) (expr b))) refl refl
  expr (t.SetName x a) = node (l.Expr (e.SetName x)) 1 (ExprNode (t.SetName x a)) (expr a) refl refl
  expr (t.SetMember b k a) = node (l.Expr e.SetMember) 3 (ExprNode (t.SetMember b k a)) (both (expr b) (both (key k) (expr a))) refl (ap (λ y. ExprNode (t.SetMember b y a)) (p.key_read k))
  expr (t.Change x op a) = node (l.Expr (e.Change x op)) 1 (ExprNode (t.Change x op a)) (expr a) refl refl
  expr (t.Bump x up before) = leaf (l.Expr (e.Bump x up before)) (ExprNode (t.Bump x up before)) refl
  expr (t.Member b k) = node (l.Expr e.Member) 2 (ExprNode (t.Member b k)) (both (expr b) (key k)) refl (ap (λ y. ExprNode (t.Member b y)) (p.key_read k))
  expr (t.Call f es) = node (l.Expr e.Call) (suc (exprs_count es)) (ExprNode (t.Call f es)) (both (expr f) (exprs es)) (ap suc (p.exprs_length es)) (ap (λ y. ExprNode (t.Call f y)) (p.exprs_read es))
  expr (t.Object ps) = node (l.Expr e.Object) (properties_count ps) (ExprNode (t.Object ps)) (properties ps) (p.properties_length ps) (ap (λ y. ExprNode (t.Object y)) (p.properties_read ps))
  expr (t.Function f) = node (l.Expr (e.Function (h.function_label f))) (h.function_count f) (ExprNode (t.Function f)) (code f) (p.code_length f) (ap (λ y. ExprNode (t.Function y)) (p.code_read f))
  expr (t.Yield o) = node (l.Expr e.Yield) (maybe_count o) (ExprNode (t.Yield o)) (maybe o) (p.maybe_length o) (ap (λ y. ExprNode (t.Yield y)) (p.maybe_read o))
  expr (t.YieldAll a) = node (l.Expr e.YieldAll) 1 (ExprNode (t.YieldAll a)) (expr a) refl refl
  expr (t.Await a) = node (l.Expr e.Await) 1 (ExprNode (t.Await a)) (expr a) refl refl
  expr (t.Built form es) = node (l.Expr (e.Form form)) (exprs_count es) (ExprNode (t.Built form es)) (exprs es) (p.exprs_length es) (ap (λ y. ExprNode (t.Built form y)) (p.exprs_read es))

  exprs : (es : Exprs) → Grows (h.exprs_heads es) (p.exprs_parts es) (n.exprs_nodes es)
  exprs t.none = nothing
  exprs (t.also a es) = both (expr a) (exprs es)

  maybe : (o : MaybeExpr) → Grows (h.maybe_heads o) (p.maybe_parts o) (n.maybe_nodes o)
  maybe t.no_expr = nothing
  maybe (t.some_expr a) = expr a

  key : (k : Key) → Grows (h.key_heads k) (p.key_part k ∷ []) (n.key_nodes k)
  key (t.Dot x) = leaf (l.Name x) (NameNode x) refl
  key (t.Index a) = expr a

  prop_key : (k : PropKey) → Grows (h.prop_key_heads k) (p.prop_key_part k ∷ []) (n.prop_key_nodes k)
  prop_key (t.Fixed u) = leaf (l.Key u) (KeyNode u) refl
  prop_key (t.Computed a) = expr a

  properties : (ps : Properties) → Grows (h.properties_heads ps) (p.properties_parts ps) (n.properties_nodes ps)
  properties t.no_properties = nothing
  properties (t.property k a ps) = both (prop_key k) (both (expr a) (properties ps))

  code : (f : Code) → Grows (h.code_heads f) (p.code_parts f) (n.code_nodes f)
  code (t.code x kind xs ss) = both (name x) (both (names xs) (stmts ss))

  lets : (is : LetItems) → Grows (h.lets_heads is) (p.lets_parts is) (n.lets_nodes is)
  lets t.no_lets = nothing
  lets (t.let_item x o is) = both (node (l.LetItem x) (maybe_count o) (LetNode x o) (maybe o) (p.maybe_length o) (ap (LetNode x) (p.maybe_read o))) (lets is)

  consts : (is : ConstItems) → Grows (h.consts_heads is) (p.consts_parts is) (n.consts_nodes is)
  consts t.no_consts = nothing
  consts (t.const_item x a is) = both (node (l.ConstItem x) 1 (ConstNode x a) (expr a) refl refl) (consts is)

  init : (i : Init) → Grows (h.init_heads i) (p.init_nodes i) (n.init_nodes i)
  init t.init_nothing = nothing
  init (t.init_let is) = lets is
  init (t.init_const is) = consts is
  init (t.init_value a) = expr a

  stmt : (st : Stmt) → Grows (h.stmt_heads st) (StmtNode st ∷ []) (n.stmt_nodes st)
  stmt (t.Let is) = node (l.Stmt s.Let) (lets_count is) (StmtNode (t.Let is)) (lets is) (p.lets_length is) (ap (λ y. StmtNode (t.Let y)) (p.lets_read is))
  stmt (t.Const is) = node (l.Stmt s.Const) (consts_count is) (StmtNode (t.Const is)) (consts is) (p.consts_length is) (ap (λ y. StmtNode (t.Const y)) (p.consts_read is))
  stmt (t.Fun f) = node (l.Stmt (s.Fun (h.function_label f))) (h.function_count f) (StmtNode (t.Fun f)) (code f) (p.code_length f) (ap (λ y. StmtNode (t.Fun y)) (p.code_read f))
  stmt (t.Block ss) = node (l.Stmt s.Block) (stmts_count ss) (StmtNode (t.Block ss)) (stmts ss) (p.stmts_length ss) (ap (λ y. StmtNode (t.Block y)) (p.stmts_read ss))
  stmt (t.If test st o) = node (l.Stmt s.If) (2 + other_count o) (StmtNode (t.If test st o)) (both (expr test) (both (stmt st) (other o))) (omega (arith, p.other_length o)) (ap (λ y. StmtNode (t.If test st y)) (p.other_read o))
  stmt (t.While test st) = node (l.Stmt s.While) 2 (StmtNode (t.While test st)) (both (expr test) (stmt st)) refl refl
  stmt (t.DoWhile st test) = node (l.Stmt s.DoWhile) 2 (StmtNode (t.DoWhile st test)) (both (stmt st) (expr test)) refl refl
  stmt (t.For i test update st) = node (l.Stmt (s.For (h.for_label i test update))) (h.for_count i test update) (StmtNode (t.For i test update st)) (both (init i) (both (maybe test) (both (maybe update) (stmt st)))) (for_length i test update st) (ap StmtNode (for_read i test update st))
  stmt (t.ForOf constant x over st) = node (l.Stmt (s.ForOf constant)) 3 (StmtNode (t.ForOf constant x over st)) (both (leaf (l.Name x) (NameNode x) refl) (both (expr over) (stmt st))) refl refl
  stmt (t.ForAwait constant x over st) = node (l.Stmt (s.ForAwait constant)) 3 (StmtNode (t.ForAwait constant x over st)) (both (leaf (l.Name x) (NameNode x) refl) (both (expr over) (stmt st))) refl refl
  stmt t.Break = leaf (l.Stmt s.Break) (StmtNode t.Break) refl
  stmt t.Continue = leaf (l.Stmt s.Continue) (StmtNode t.Continue) refl
  stmt (t.Return o) = node (l.Stmt s.Return) (maybe_count o) (StmtNode (t.Return o)) (maybe o) (p.maybe_length o) (ap (λ y. StmtNode (t.Return y)) (p.maybe_read o))
  stmt (t.Throw a) = node (l.Stmt s.Throw) 1 (StmtNode (t.Throw a)) (expr a) refl refl
  stmt (t.Try ss c o) = node (l.Stmt (s.Try (h.try_label ss c o))) (h.try_count ss c o) (StmtNode (t.Try ss c o)) (both (stmts ss) (both (catcher c) (ending o))) (try_length ss c o) (ap StmtNode (try_read ss c o))
  stmt (t.Value a) = node (l.Stmt s.Value) 1 (StmtNode (t.Value a)) (expr a) refl refl
  stmt t.Empty = leaf (l.Stmt s.Empty) (StmtNode t.Empty) refl
  stmt (t.Switch a cs) = node (l.Stmt (s.Switch (clause_labels 1 cs))) (suc (clauses_count cs)) (StmtNode (t.Switch a cs)) (both (expr a) (clauses cs)) (ap suc (p.clauses_length cs)) (ap (λ y. StmtNode (t.Switch a y)) (p.clauses_read (ExprNode a ∷ []) 1 cs refl))

  other : (o : MaybeStmt) → Grows (h.other_heads o) (p.other_parts o) (n.other_nodes o)
  other t.no_stmt = nothing
  other (t.some_stmt st) = stmt st

  catcher : (c : Catch) → Grows (h.catch_heads c) (p.catch_nodes c) (n.catch_nodes c)
  catcher t.no_catch = nothing
  catcher (t.catch x ss) = both (name x) (stmts ss)

  ending : (o : Last) → Grows (h.last_heads o) (p.last_parts o) (n.last_nodes o)
  ending t.no_last = nothing
  ending (t.last ss) = stmts ss

  clauses : (cs : Clauses) → Grows (h.clauses_heads cs) (p.clauses_parts cs) (n.clauses_nodes cs)
  clauses t.no_clauses = nothing
  clauses (t.clause m ss cs) = both (stmts ss) (clauses cs)

  stmts : (ss : Stmts) → Grows (h.stmts_heads ss) (p.stmts_parts ss) (n.stmts_nodes ss)
  stmts t.end = nothing
  stmts (t.next st ss) = both (stmt st) (stmts ss)

-- A WHOLE PROGRAM
pub all_nodes : (ss : Stmts) → built (h.stmts_heads ss) ≡ n.stmts_nodes ss
all_nodes ss = ap built (sym (append-nil (h.stmts_heads ss))) ∙ (stmts ss).nodes [] ∙ append-nil (n.stmts_nodes ss)

pub all_parts : (ss : Stmts) → stmts_in (gathered (h.stmts_heads ss)) ≡ ss
all_parts ss = ap (λ hs. stmts_in (gathered hs)) (sym (append-nil (h.stmts_heads ss))) ∙ ap stmts_in ((stmts ss).parts [] ∙ append-nil (p.stmts_parts ss)) ∙ p.stmts_read ss
