-- The parts of lists, and what they are read as.
use Rattle.std.proofs.Common.{◌≡◌, ℕ, zero, suc, ◌+◌, List, [], ◌∷◌, ◌++◌, Option, Some, None, length, map, take, drop, refl, sym, ap, ◌∙◌, arith, append_assoc, length-append}
use Rattle.std.proofs.Math.Seq.{drop-append_seam, take-append_seam, drop-append-add}
use Rattle.std.proofs.lemmas.List.{drop-drop}
use Rattle.actx_grammar.specs.Tree as t
use Rattle.actx_grammar.specs.Tree.{Exprs, MaybeExpr, PropKey, Key, Properties, LetItems, ConstItems, Init, Stmts, MaybeStmt, Catch, Last, Clauses, Code}
use Rattle.actx_nodes.specs.Build.{one, some_of, name_of, code_in, clauses_of, init_parts, init_of}
use Rattle.actx_nodes.specs.Heads.{exprs_count, maybe_count, properties_count, lets_count, consts_count, stmts_count, other_count, clauses_count, last_count, is_some, function_label, function_count, init_label, clause_labels}
use Rattle.actx_nodes.specs.Node.{Node, ExprNode, StmtNode, NameNode, KeyNode, LetNode, ConstNode, name_in, key_in, nth, exprs_in, maybe_in, maybe_stmt_in, stmts_in, properties_in, lets_in, consts_in}

-- PARTS
abbrev pub name_parts : Option (List ℕ) → List Node
name_parts None = []
name_parts (Some x) = NameNode x ∷ []

abbrev pub key_part : Key → Node
key_part (t.Dot x) = NameNode x
key_part (t.Index e) = ExprNode e

abbrev pub prop_key_part : PropKey → Node
prop_key_part (t.Fixed u) = KeyNode u
prop_key_part (t.Computed e) = ExprNode e

abbrev pub exprs_parts : Exprs → List Node
exprs_parts t.none = []
exprs_parts (t.also e es) = ExprNode e ∷ exprs_parts es

abbrev pub maybe_parts : MaybeExpr → List Node
maybe_parts t.no_expr = []
maybe_parts (t.some_expr e) = ExprNode e ∷ []

abbrev pub properties_parts : Properties → List Node
properties_parts t.no_properties = []
properties_parts (t.property key e ps) = prop_key_part key ∷ ExprNode e ∷ properties_parts ps

abbrev pub lets_parts : LetItems → List Node
lets_parts t.no_lets = []
lets_parts (t.let_item x e is) = LetNode x e ∷ lets_parts is

abbrev pub consts_parts : ConstItems → List Node
consts_parts t.no_consts = []
consts_parts (t.const_item x e is) = ConstNode x e ∷ consts_parts is

abbrev pub init_nodes : Init → List Node
init_nodes t.init_nothing = []
init_nodes (t.init_let is) = lets_parts is
init_nodes (t.init_const is) = consts_parts is
init_nodes (t.init_value e) = ExprNode e ∷ []

abbrev pub stmts_parts : Stmts → List Node
stmts_parts t.end = []
stmts_parts (t.next st ss) = StmtNode st ∷ stmts_parts ss

abbrev pub other_parts : MaybeStmt → List Node
other_parts t.no_stmt = []
other_parts (t.some_stmt st) = StmtNode st ∷ []

abbrev pub catch_nodes : Catch → List Node
catch_nodes t.no_catch = []
catch_nodes (t.catch x ss) = name_parts x ++ stmts_parts ss

abbrev pub last_parts : Last → List Node
last_parts t.no_last = []
last_parts (t.last ss) = stmts_parts ss

abbrev pub clauses_parts : Clauses → List Node
clauses_parts t.no_clauses = []
clauses_parts (t.clause n ss cs) = stmts_parts ss ++ clauses_parts cs

abbrev pub code_parts : Code → List Node
code_parts (t.code x kind xs ss) = name_parts x ++ (map NameNode xs ++ stmts_parts ss)

-- HOW MANY
pub exprs_length : (es : Exprs) → exprs_count es ≡ length (exprs_parts es)
exprs_length t.none = refl
exprs_length (t.also e es) = ap suc (exprs_length es)

pub maybe_length : (o : MaybeExpr) → maybe_count o ≡ length (maybe_parts o)
maybe_length t.no_expr = refl
maybe_length (t.some_expr e) = refl

pub properties_length : (ps : Properties) → properties_count ps ≡ length (properties_parts ps)
properties_length t.no_properties = refl
properties_length (t.property key e ps) = ap (λ n. suc (suc n)) (properties_length ps)

pub lets_length : (is : LetItems) → lets_count is ≡ length (lets_parts is)
lets_length t.no_lets = refl
lets_length (t.let_item x e is) = ap suc (lets_length is)

pub consts_length : (is : ConstItems) → consts_count is ≡ length (consts_parts is)
consts_length t.no_consts = refl
consts_length (t.const_item x e is) = ap suc (consts_length is)

pub stmts_length : (ss : Stmts) → stmts_count ss ≡ length (stmts_parts ss)
stmts_length t.end = refl
stmts_length (t.next st ss) = ap suc (stmts_length ss)

pub other_length : (o : MaybeStmt) → other_count o ≡ length (other_parts o)
other_length t.no_stmt = refl
other_length (t.some_stmt st) = refl

pub last_length : (l : Last) → last_count l ≡ length (last_parts l)
last_length t.no_last = refl
last_length (t.last ss) = stmts_length ss

pub clauses_length : (cs : Clauses) → clauses_count cs ≡ length (clauses_parts cs)
clauses_length t.no_clauses = refl
clauses_length (t.clause n ss cs) = omega (arith, stmts_length ss, clauses_length cs, length-append (stmts_parts ss) (clauses_parts cs))

pub name_length : (x : Option (List ℕ)) → one (is_some x) ≡ length (name_parts x)
name_length None = refl
name_length (Some x) = refl

pub init_length : (i : Init) → init_parts (init_label i) ≡ length (init_nodes i)
init_length t.init_nothing = refl
init_length (t.init_let is) = lets_length is
init_length (t.init_const is) = consts_length is
init_length (t.init_value e) = refl

names_length : (xs : List (List ℕ)) → length xs ≡ length (map NameNode xs)
names_length [] = refl
names_length (x ∷ xs) = ap suc (names_length xs)

pub code_length : (f : Code) → function_count f ≡ length (code_parts f)
code_length (t.code x kind xs ss) =
    omega (arith, name_length x, names_length xs, stmts_length ss, length-append (name_parts x) (map NameNode xs ++ stmts_parts ss), length-append (map NameNode xs) (stmts_parts ss))

-- READ AGAIN
pub exprs_read : (es : Exprs) → exprs_in (exprs_parts es) ≡ es
exprs_read t.none = refl
exprs_read (t.also e es) = ap (t.also e) (exprs_read es)

pub maybe_read : (o : MaybeExpr) → maybe_in (maybe_parts o) ≡ o
maybe_read t.no_expr = refl
maybe_read (t.some_expr e) = refl

pub key_read : (key : Key) → key_in (key_part key) ≡ key
key_read (t.Dot x) = refl
key_read (t.Index e) = refl

pub properties_read : (ps : Properties) → properties_in (properties_parts ps) ≡ ps
properties_read t.no_properties = refl
properties_read (t.property (t.Fixed u) e ps) = ap (t.property (t.Fixed u) e) (properties_read ps)
properties_read (t.property (t.Computed k) e ps) = ap (t.property (t.Computed k) e) (properties_read ps)

pub lets_read : (is : LetItems) → lets_in (lets_parts is) ≡ is
lets_read t.no_lets = refl
lets_read (t.let_item x e is) = ap (t.let_item x e) (lets_read is)

pub consts_read : (is : ConstItems) → consts_in (consts_parts is) ≡ is
consts_read t.no_consts = refl
consts_read (t.const_item x e is) = ap (t.const_item x e) (consts_read is)

pub stmts_read : (ss : Stmts) → stmts_in (stmts_parts ss) ≡ ss
stmts_read t.end = refl
stmts_read (t.next st ss) = ap (t.next st) (stmts_read ss)

pub other_read : (o : MaybeStmt) → maybe_stmt_in (other_parts o) ≡ o
other_read t.no_stmt = refl
other_read (t.some_stmt st) = refl

names_read : (xs : List (List ℕ)) → map name_in (map NameNode xs) ≡ xs
names_read [] = refl
names_read (x ∷ xs) = ap (λ ys. x ∷ ys) (names_read xs)

-- FROM A PLACE ON
pub taken : (n : ℕ) (xs ys : List Node) → n ≡ length xs → take n (xs ++ ys) ≡ xs
taken n xs ys h = ap (λ m. take m (xs ++ ys)) h ∙ take-append_seam xs ys

pub left : (n : ℕ) (xs ys : List Node) → n ≡ length xs → drop n (xs ++ ys) ≡ ys
left n xs ys h = ap (λ m. drop m (xs ++ ys)) h ∙ drop-append_seam xs ys

-- the middle of three
pub middle : (n m : ℕ) (xs ys zs : List Node) → n ≡ length xs → m ≡ length ys → some_of n m (xs ++ (ys ++ zs)) ≡ ys
middle n m xs ys zs h k = ap (take m) (left n xs (ys ++ zs) h) ∙ taken m ys zs k

-- the last of three
pub behind : (n m : ℕ) (xs ys zs : List Node) → n ≡ length xs → m ≡ length ys → drop (n + m) (xs ++ (ys ++ zs)) ≡ zs
behind n m xs ys zs h k =
    ap (λ i. drop (i + m) (xs ++ (ys ++ zs))) h ∙ drop-append-add xs (ys ++ zs) m ∙ left m ys zs k

own_name : (x : Option (List ℕ)) (ns : List Node) → name_of (is_some x) (name_parts x ++ ns) ≡ x
own_name None ns = refl
own_name (Some x) ns = refl

pub code_read : (f : Code) → code_in (function_label f) (code_parts f) ≡ f
code_read (t.code x kind xs ss) =
    ap (λ y. t.code y kind (map name_in (some_of (one (is_some x)) (length xs) (code_parts (t.code x kind xs ss)))) (stmts_in (drop (one (is_some x) + length xs) (code_parts (t.code x kind xs ss))))) (own_name x (map NameNode xs ++ stmts_parts ss))
    ∙ ap (λ ys. t.code x kind (map name_in ys) (stmts_in (drop (one (is_some x) + length xs) (code_parts (t.code x kind xs ss))))) (middle (one (is_some x)) (length xs) (name_parts x) (map NameNode xs) (stmts_parts ss) (name_length x) (names_length xs))
    ∙ ap (λ ys. t.code x kind ys (stmts_in (drop (one (is_some x) + length xs) (code_parts (t.code x kind xs ss))))) (names_read xs)
    ∙ ap (λ ys. t.code x kind xs (stmts_in ys)) (behind (one (is_some x)) (length xs) (name_parts x) (map NameNode xs) (stmts_parts ss) (name_length x) (names_length xs))
    ∙ ap (t.code x kind xs) (stmts_read ss)

-- the clauses of a switch, behind other parts
pub clauses_read : (ns : List Node) (n : ℕ) (cs : Clauses) → n ≡ length ns → clauses_of (clause_labels n cs) (ns ++ clauses_parts cs) ≡ cs
clauses_read ns n t.no_clauses h = refl
clauses_read ns n (t.clause number ss cs) h =
    let body : some_of n (stmts_count ss) (ns ++ (stmts_parts ss ++ clauses_parts cs)) ≡ stmts_parts ss = middle n (stmts_count ss) ns (stmts_parts ss) (clauses_parts cs) h (stmts_length ss) in
    let next : n + stmts_count ss ≡ length (ns ++ stmts_parts ss) = omega (arith, h, stmts_length ss, length-append ns (stmts_parts ss)) in
    let rest : clauses_of (clause_labels (n + stmts_count ss) cs) (ns ++ (stmts_parts ss ++ clauses_parts cs)) ≡ cs =
    ap (clauses_of (clause_labels (n + stmts_count ss) cs)) (sym (append_assoc ns (stmts_parts ss) (clauses_parts cs))) ∙ clauses_read (ns ++ stmts_parts ss) (n + stmts_count ss) cs next in
    ap (λ ys. t.clause number (stmts_in ys) (clauses_of (clause_labels (n + stmts_count ss) cs) (ns ++ (stmts_parts ss ++ clauses_parts cs)))) body
    ∙ ap (λ xs. t.clause number xs (clauses_of (clause_labels (n + stmts_count ss) cs) (ns ++ (stmts_parts ss ++ clauses_parts cs)))) (stmts_read ss)
    ∙ ap (t.clause number ss) rest

pub init_read : (i : Init) (ns : List Node) → init_of (init_label i) (init_nodes i ++ ns) ≡ i
init_read t.init_nothing ns = refl
init_read (t.init_let is) ns = ap (λ ys. t.init_let (lets_in ys)) (taken (lets_count is) (lets_parts is) ns (lets_length is)) ∙ ap t.init_let (lets_read is)
init_read (t.init_const is) ns = ap (λ ys. t.init_const (consts_in ys)) (taken (consts_count is) (consts_parts is) ns (consts_length is)) ∙ ap t.init_const (consts_read is)
init_read (t.init_value e) ns = refl

-- a part behind others
nth_drop : (n : ℕ) (xs : List Node) (k : ℕ) → nth xs (n + k) ≡ nth (drop n xs) k
nth_drop zero xs k = ap (nth xs) (omega arith)
nth_drop (suc n) [] k = refl
nth_drop (suc n) (x ∷ xs) k = ap (nth (x ∷ xs)) (count n k) ∙ nth_drop n xs k
  where
    count : (n k : ℕ) → suc n + k ≡ suc (n + k)
    count n k = omega arith

pub nth_behind : (n m : ℕ) (xs ys : List Node) (z : Node) → drop n xs ≡ ys ++ z ∷ [] → m ≡ length ys → nth xs (n + m) ≡ z
nth_behind n m xs ys z h c =
    let at_end : nth xs (n + m) ≡ nth (drop (n + m) xs) 0 = ap (nth xs) (omega arith) ∙ nth_drop (n + m) xs 0 in
    at_end ∙ ap (λ ws. nth ws 0) (sym (drop-drop m n xs) ∙ ap (drop m) h ∙ left m ys (z ∷ []) c)
