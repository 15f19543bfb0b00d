-- A program's offences stand in the order of their nodes, each at a node of its own.
use Rattle.std.proofs.Common.{◌≡◌, ℕ, suc, ◌+◌, ◌<◌, ◌≤◌, List, [], ◌∷◌, ◌++◌, length, Bool, true, false, if◌then◌else◌, Option, Some, None, All, refl, codes, arith}
use Rattle.std.proofs.lemmas.List.Elements.{All-nil, All-cons, All-weaker}
use Rattle.actx_grammar.specs.InOrder.{Ascending, OffencesAreInOrder}
use Rattle.actx_grammar.specs.Nodes.{name_nodes, expr_nodes, exprs_nodes, maybe_nodes, key_nodes, prop_key_nodes, properties_nodes, code_nodes, lets_nodes, consts_nodes, init_nodes, stmt_nodes, maybe_stmt_nodes, catch_nodes, last_nodes, clauses_nodes, stmts_nodes}
use Rattle.actx_grammar.specs.Static.{Kind, undeclared, twice, reserved, misplaced, Offence, offends_if, same_name, inherited, is_among, names_of, unusable, unbindable, Place, outermost, inside, behind, all_behind, looped, alone, in_body, declared, own_declared, params_declared, list_declared, init_declared, stmt_declared, use_offences, target_offences, binding_offences, own_offences, params_offences, unless, expr_offences, exprs_offences, maybe_offences, key_offences, prop_key_offences, properties_offences, function_offences, lets_offences, consts_offences, init_offences, stmt_offences, maybe_stmt_offences, catch_offences, last_offences, clauses_offences, stmts_offences, offences}
use Rattle.actx_grammar.specs.Tree.{Expr, Num, Text, Truth, Null, Undefined, This, Named, Unary, Binary, Logic, Choice, SetName, SetMember, Change, Bump, Member, Call, Object, Function, Yield, YieldAll, Await, Built, Exprs, none, also, MaybeExpr, no_expr, some_expr, Key, Dot, Index, PropKey, Fixed, Computed, Properties, no_properties, property, Code, code, LetItems, no_lets, let_item, ConstItems, no_consts, const_item, Init, init_nothing, init_let, init_const, init_value, Stmt, Let, Const, Fun, Block, If, While, DoWhile, For, ForOf, ForAwait, Break, Continue, Return, Throw, Try, Value, Empty, Switch, MaybeStmt, no_stmt, some_stmt, Catch, no_catch, catch, Last, no_last, last, Clauses, no_clauses, clause, Stmts, end, next}

-- RUNS: offences at rising nodes between two
data Run (high : ℕ) : ℕ → List Offence → Type 0 where
  ended : {low : ℕ} → Run high low []
  further : {low : ℕ} {o : Offence} {os : List Offence} → low ≤ o.node → o.node < high → Run high (suc o.node) os → Run high low (o ∷ os)

wider : {high higher low : ℕ} {os : List Offence} (lower : ℕ) → lower ≤ low → high ≤ higher → Run high low os → Run higher lower os
wider lower g h ended = ended
wider lower g h (further {o = o} i j r) = further (omega arith) (omega arith) (wider (suc o.node) (omega arith) h r)

joined : {middle high low : ℕ} {os qs : List Offence} → low ≤ middle → middle ≤ high → Run middle low os → Run high middle qs → Run high low (os ++ qs)
joined {low = low} g h ended s = wider low g (omega arith) s
joined g h (further i j r) s = further i (omega arith) (joined (omega arith) h r s)

above : {high low : ℕ} {os : List Offence} (least : ℕ) → least ≤ low → Run high low os → All (λ q. least ≤ q.node) os
above least g ended = All-nil (λ q. least ≤ q.node)
above least g (further {o = o} {os = os} i j r) = All-cons (λ q. least ≤ q.node) o os (omega arith) (above least (omega arith) r)

below : {high low : ℕ} {os : List Offence} → Run high low os → All (λ q. q.node < high) os
below {high} ended = All-nil (λ q. q.node < high)
below {high} (further {o = o} {os = os} i j r) = All-cons (λ q. q.node < high) o os j (below r)

ascending : {high low : ℕ} {os : List Offence} → Run high low os → Ascending os
ascending ended = tt
ascending (further {o = o} i j r) = (above (suc o.node) (omega arith) r, ascending r)

-- SPANS: offences among so many nodes from one on
record Span (n k : ℕ) (os : List Offence) : Type 0 where
  run : Run (n + k) n os

quiet : {n k : ℕ} → Span n k []
quiet = record { run = ended }

as_many : {n j k : ℕ} {os : List Offence} → Span n j os → j ≡ k → Span n k os
as_many {n} h e = record { run = wider n (omega arith) (omega arith) h.run }

-- behind a node that has none
inner : {n k : ℕ} {os : List Offence} → Span (suc n) k os → Span n (suc k) os
inner {n} h = record { run = wider n (omega arith) (omega arith) h.run }

-- a node's own, and those behind it
under : {n k : ℕ} {os qs : List Offence} → Span n 1 os → Span (suc n) k qs → Span n (suc k) (os ++ qs)
under {n} g h = record { run = joined {middle = n + 1} (omega arith) (omega arith) g.run (wider (n + 1) (omega arith) (omega arith) h.run) }

two : {n m a b : ℕ} {os qs : List Offence} → Span n a os → Span m b qs → n + a ≡ m → Span n (a + b) (os ++ qs)
two {n} {m} g h e = record { run = joined {middle = m} (omega arith) (omega arith) (wider n (omega arith) (omega arith) g.run) (wider m (omega arith) (omega arith) h.run) }

next_to : {n a b : ℕ} {os qs : List Offence} → Span n a os → Span (n + a) b qs → Span n (a + b) (os ++ qs)
next_to g h = two g h refl

three : {n a b c : ℕ} {os qs us : List Offence} → Span n a os → Span (n + a) b qs → Span (n + a + b) c us → Span n (a + b + c) (os ++ qs ++ us)
three f g h = two (next_to f g) h (omega arith)

four : {n a b c d : ℕ} {os qs us vs : List Offence} → Span n a os → Span (n + a) b qs → Span (n + a + b) c us → Span (n + a + b + c) d vs → Span n (a + b + c + d) (os ++ qs ++ us ++ vs)
four f g h i = two (three f g h) i (omega arith)

-- a name's, and those of two parts behind it
name_first : {n a b : ℕ} {os qs us : List Offence} → Span n 1 os → Span (suc n) a qs → Span (suc n + a) b us → Span n (suc (a + b)) (os ++ qs ++ us)
name_first f g h = as_many (two (under f g) h (omega arith)) (omega arith)

-- a node's, those of a name behind it, and those of two parts behind that
waiting : {n a b : ℕ} {os qs us vs : List Offence} → Span n 1 os → Span (suc n) 1 qs → Span (suc (suc n)) a us → Span (suc (suc n) + a) b vs → Span n (suc (suc (a + b))) (os ++ qs ++ us ++ vs)
waiting f g h i = as_many (two (two (under f g) h (omega arith)) i (omega arith)) (omega arith)

-- ONE NODE
if_it_offends : (b : Bool) (n : ℕ) (kind : Kind) → Span n 1 (offends_if b n kind)
if_it_offends true n kind = record { run = further (omega arith) (omega arith) ended }
if_it_offends false n kind = quiet

chosen : {n k : ℕ} {os qs : List Offence} (b : Bool) → Span n k os → Span n k qs → Span n k (if b then os else qs)
chosen true g h = g
chosen false g h = h

used : (p : Place) (n : ℕ) (x : List ℕ) → Span n 1 (use_offences p n x)
used p n x = chosen (is_among unusable x) (if_it_offends true n reserved) (if_it_offends (if is_among (names_of p.known) x then false else true) n undeclared)

target : (p : Place) (n : ℕ) (x : List ℕ) → Span n 1 (target_offences p n x)
target p n x = chosen (is_among unbindable x) (if_it_offends true n reserved) (used p n x)

binding : (p : Place) (n : ℕ) (x : List ℕ) → Span n 1 (binding_offences p n x)
binding p n x = chosen (is_among p.bound x) (if_it_offends true n twice) (if_it_offends (is_among unbindable x) n reserved)

needed : (good : Bool) (n : ℕ) → Span n 1 (unless good n)
needed good n = if_it_offends (if good then false else true) n misplaced

own : (p : Place) (n : ℕ) (x : Option (List ℕ)) → Span n (name_nodes x) (own_offences p n x)
own p n None = quiet
own p n (Some x) = binding p n x

params : (p : Place) (n : ℕ) (xs : List (List ℕ)) → Span n (length xs) (params_offences p n xs)
params p n [] = quiet
params p n (x ∷ xs) = under (binding p n x) (params (behind x p) (suc n) xs)

mutual
  -- EXPRESSIONS
  expr : (p : Place) (n : ℕ) (e : Expr) → Span n (expr_nodes e) (expr_offences p n e)
  expr p n (Num m) = quiet
  expr p n (Text u) = quiet
  expr p n (Truth t) = quiet
  expr p n Null = quiet
  expr p n Undefined = quiet
  expr p n This = needed p.has_this n
  expr p n (Named x) = used p n x
  expr p n (Unary op e) = inner (expr p (suc n) e)
  expr p n (Binary op a b) = inner (next_to (expr p (suc n) a) (expr p _ b))
  expr p n (Logic op a b) = inner (next_to (expr p (suc n) a) (expr p _ b))
  expr p n (Choice e a b) = inner (three (expr p (suc n) e) (expr p _ a) (expr p _ b))
  expr p n (SetName x e) = under (target p n x) (expr p (suc n) e)
  expr p n (SetMember b key e) = inner (three (expr p (suc n) b) (member_key p _ key) (expr p _ e))
  expr p n (Change x op e) = under (target p n x) (expr p (suc n) e)
  expr p n (Bump x up before) = target p n x
  expr p n (Member b key) = inner (next_to (expr p (suc n) b) (member_key p _ key))
  expr p n (Call f es) = inner (next_to (expr p (suc n) f) (exprs p _ es))
  expr p n (Object ps) = inner (properties p (suc n) ps)
  expr p n (Function f) = inner (function p (suc n) f)
  expr p n (Yield o) = under (needed p.in_generator n) (maybe p (suc n) o)
  expr p n (YieldAll e) = under (needed p.in_generator n) (expr p (suc n) e)
  expr p n (Await e) = under (needed p.in_async n) (expr p (suc n) e)
  expr p n (Built form es) = inner (exprs p (suc n) es)

  exprs : (p : Place) (n : ℕ) (es : Exprs) → Span n (exprs_nodes es) (exprs_offences p n es)
  exprs p n none = quiet
  exprs p n (also e es) = next_to (expr p n e) (exprs p _ es)

  maybe : (p : Place) (n : ℕ) (e : MaybeExpr) → Span n (maybe_nodes e) (maybe_offences p n e)
  maybe p n no_expr = quiet
  maybe p n (some_expr e) = expr p n e

  member_key : (p : Place) (n : ℕ) (key : Key) → Span n (key_nodes key) (key_offences p n key)
  member_key p n (Dot x) = if_it_offends (is_among inherited x) n reserved
  member_key p n (Index e) = expr p n e

  prop_key : (p : Place) (n : ℕ) (key : PropKey) → Span n (prop_key_nodes key) (prop_key_offences p n key)
  prop_key p n (Fixed u) = if_it_offends (same_name u (codes "__proto__")) n reserved
  prop_key p n (Computed e) = expr p n e

  properties : (p : Place) (n : ℕ) (ps : Properties) → Span n (properties_nodes ps) (properties_offences p n ps)
  properties p n no_properties = quiet
  properties p n (property key e ps) = three (prop_key p n key) (expr p _ e) (properties p _ ps)

  function : (p : Place) (n : ℕ) (f : Code) → Span n (code_nodes f) (function_offences p n f)
  function p n (code x kind xs ss) =
      three (own (alone p) n x) (params (alone p) (n + name_nodes x) xs)
      (stmts (all_behind xs (in_body kind (params_declared (n + name_nodes x) xs ++ list_declared (n + name_nodes x + length xs) ss ++ own_declared n x) p)) (n + name_nodes x + length xs) ss)

  lets : (p : Place) (n : ℕ) (is : LetItems) → Span n (lets_nodes is) (lets_offences p n is)
  lets p n no_lets = quiet
  lets p n (let_item x v is) = name_first (binding p n x) (maybe p (suc n) v) (lets (behind x p) _ is)

  consts : (p : Place) (n : ℕ) (is : ConstItems) → Span n (consts_nodes is) (consts_offences p n is)
  consts p n no_consts = quiet
  consts p n (const_item x e is) = name_first (binding p n x) (expr p (suc n) e) (consts (behind x p) _ is)

  init : (p : Place) (n : ℕ) (i : Init) → Span n (init_nodes i) (init_offences p n i)
  init p n init_nothing = quiet
  init p n (init_let is) = lets p n is
  init p n (init_const is) = consts p n is
  init p n (init_value e) = expr p n e

  -- STATEMENTS
  stmt : (p : Place) (n : ℕ) (st : Stmt) → Span n (stmt_nodes st) (stmt_offences p n st)
  stmt p n (Let is) = inner (lets p (suc n) is)
  stmt p n (Const is) = inner (consts p (suc n) is)
  stmt p n (Fun (code x kind xs ss)) =
      inner (three (own p (suc n) x) (params (alone p) (suc n + name_nodes x) xs)
      (stmts (all_behind xs (in_body kind (params_declared (suc n + name_nodes x) xs ++ list_declared (suc n + name_nodes x + length xs) ss) p)) (suc n + name_nodes x + length xs) ss))
  stmt p n (Block ss) = inner (stmts (inside (list_declared (suc n) ss) [] p) (suc n) ss)
  stmt p n (If e branch other) = inner (three (expr p (suc n) e) (stmt p _ branch) (maybe_stmt p _ other))
  stmt p n (While e body) = inner (next_to (expr p (suc n) e) (stmt (looped p) _ body))
  stmt p n (DoWhile body e) = inner (next_to (stmt (looped p) (suc n) body) (expr p _ e))
  stmt p n (For i test update body) =
      let q = inside (init_declared (suc n) i) [] p in
      inner (four (init q (suc n) i) (maybe q _ test) (maybe q _ update) (stmt (looped q) _ body))
  stmt p n (ForOf constant x over body) =
      let q = inside (declared x (suc n) ∷ []) [] p in
      inner (name_first (binding (alone p) (suc n) x) (expr q _ over) (stmt (looped q) _ body))
  stmt p n (ForAwait constant x over body) =
      let q = inside (declared x (suc n) ∷ []) [] p in
      waiting (needed p.in_async n) (binding (alone p) (suc n) x) (expr q _ over) (stmt (looped q) _ body)
  stmt p n Break = needed p.in_loop n
  stmt p n Continue = needed p.in_loop n
  stmt p n (Return o) = under (needed p.in_function n) (maybe p (suc n) o)
  stmt p n (Throw e) = inner (expr p (suc n) e)
  stmt p n (Try block c final) = inner (three (stmts (inside (list_declared (suc n) block) [] p) (suc n) block) (catcher p _ c) (final_part p _ final))
  stmt p n (Value e) = inner (expr p (suc n) e)
  stmt p n Empty = quiet
  stmt p n (Switch e cs) = inner (next_to (expr p (suc n) e) (clauses (alone p) _ cs))

  maybe_stmt : (p : Place) (n : ℕ) (o : MaybeStmt) → Span n (maybe_stmt_nodes o) (maybe_stmt_offences p n o)
  maybe_stmt p n no_stmt = quiet
  maybe_stmt p n (some_stmt st) = stmt p n st

  catcher : (p : Place) (n : ℕ) (c : Catch) → Span n (catch_nodes c) (catch_offences p n c)
  catcher p n no_catch = quiet
  catcher p n (catch None ss) = as_many (stmts (inside (list_declared n ss) [] p) n ss) (omega arith)
  catcher p n (catch (Some x) ss) = as_many (under (binding (alone p) n x) (stmts (inside (declared x n ∷ list_declared (suc n) ss) (x ∷ []) p) (suc n) ss)) (omega arith)

  final_part : (p : Place) (n : ℕ) (l : Last) → Span n (last_nodes l) (last_offences p n l)
  final_part p n no_last = quiet
  final_part p n (last ss) = stmts (inside (list_declared n ss) [] p) n ss

  clauses : (p : Place) (n : ℕ) (cs : Clauses) → Span n (clauses_nodes cs) (clauses_offences p n cs)
  clauses p n no_clauses = quiet
  clauses p n (clause number ss cs) = next_to (stmts p n ss) (clauses p _ cs)

  stmts : (p : Place) (n : ℕ) (ss : Stmts) → Span n (stmts_nodes ss) (stmts_offences p n ss)
  stmts p n end = quiet
  stmts p n (next st ss) = next_to (stmt p n st) (stmts (all_behind (names_of (stmt_declared n st)) p) _ ss)

-- A PROGRAM
run_of : (p : Stmts) → Run (0 + stmts_nodes p) 0 (offences p)
run_of p = (stmts (inside (list_declared 0 p) [] outermost) 0 p).run

pub in_order : OffencesAreInOrder
in_order p = (All-weaker (λ o. o.node < 0 + stmts_nodes p) (λ o. o.node < stmts_nodes p) (λ o h. omega arith) (offences p) (below (run_of p)), ascending (run_of p))
