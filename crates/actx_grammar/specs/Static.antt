-- THE STATIC RULES (ECMA-262, 8.6.1, 13.1.1, 14.2.1, 14.3.1.1, 14.9.1, 14.10.1, 14.15.1, 15.1.1 and 16.1.1, restricted): the
-- offences of a program in the order of their nodes.
use Rattle.std.specs.Prelude.{◌≡◌, ℕ, suc, ◌+◌, List, [], ◌∷◌, ◌++◌, length, Bool, true, false, ◌==◌, ◌||◌, Option, Some, None, codes, if◌then◌else◌}
use Rattle.std.specs.Cmp.Lexicographic.{pointwise}
use Rattle.actx_grammar.specs.declared.operators.FunctionKind.{FunctionKind}
use Rattle.actx_grammar.specs.declared.operators.FunctionKind.TheVariants.{Arrow, Generator, Async, AsyncArrow, AsyncGenerator}
use Rattle.actx_grammar.specs.Nodes.{name_nodes, expr_nodes, maybe_nodes, key_nodes, prop_key_nodes, init_nodes, stmt_nodes, stmts_nodes, catch_nodes}
use Rattle.actx_grammar.specs.Tree.{Expr, Num, Text, Truth, Null, Undefined, This, Named, Unary, Binary, Logic, Choice, SetName, SetMember, Change, Bump, Member, Call, Object, Function, Yield, YieldAll, Await, Built, Exprs, none, also, MaybeExpr, no_expr, some_expr, Key, Dot, Index, PropKey, Fixed, Computed, Properties, no_properties, property, Code, code, LetItems, no_lets, let_item, ConstItems, no_consts, const_item, Init, init_nothing, init_let, init_const, init_value, Stmt, Let, Const, Fun, Block, If, While, DoWhile, For, ForOf, ForAwait, Break, Continue, Return, Throw, Try, Value, Empty, Switch, MaybeStmt, no_stmt, some_stmt, Catch, no_catch, catch, Last, no_last, last, Clauses, no_clauses, clause, Stmts, end, next}

-- OFFENCES
pub data Kind : Type 0 where
  -- a name that isn't declared in scope
  undeclared : Kind
  -- a name that its scope binds already
  twice : Kind
  -- a name or key that is no program's
  reserved : Kind
  -- a statement or expression outside of what it belongs to
  misplaced : Kind

pub record Offence : Type 0 where
  pub node : ℕ
  pub kind : Kind

abbrev pub offends_if : Bool → ℕ → Kind → List Offence
offends_if true n kind = record { node = n; kind = kind } ∷ []
offends_if false n kind = []

-- NAMES
abbrev pub same_name : List ℕ → List ℕ → Bool
same_name = pointwise ◌==◌

abbrev pub is_among : List (List ℕ) → List ℕ → Bool
is_among [] x = false
is_among (y ∷ ys) x = same_name x y || is_among ys x

-- no program binds or uses these
abbrev pub unusable : List (List ℕ)
unusable = codes "eval" ∷ codes "arguments" ∷ codes "NaN" ∷ codes "Infinity" ∷ []

-- nor binds or assigns `undefined`
abbrev pub unbindable : List (List ℕ)
unbindable = codes "undefined" ∷ unusable

-- the properties that every object inherits, and its prototype
abbrev pub inherited : List (List ℕ)
inherited =
    codes "constructor" ∷
    codes "hasOwnProperty" ∷
    codes "isPrototypeOf" ∷
    codes "propertyIsEnumerable" ∷
    codes "toLocaleString" ∷
    codes "toString" ∷
    codes "valueOf" ∷
    codes "__proto__" ∷
    codes "__defineGetter__" ∷
    codes "__defineSetter__" ∷
    codes "__lookupGetter__" ∷
    codes "__lookupSetter__" ∷ []

-- DECLARATIONS: names with the nodes that declare them, in text order; n is the number of the first node
pub record Declared : Type 0 where
  pub name : List ℕ
  pub node : ℕ

abbrev pub declared : List ℕ → ℕ → Declared
declared x n = record { name = x; node = n }

abbrev pub names_of : List Declared → List (List ℕ)
names_of [] = []
names_of (d ∷ ds) = d.name ∷ names_of ds

abbrev pub lets_declared : ℕ → LetItems → List Declared
lets_declared n no_lets = []
lets_declared n (let_item x v is) = declared x n ∷ lets_declared (suc n + maybe_nodes v) is

abbrev pub consts_declared : ℕ → ConstItems → List Declared
consts_declared n no_consts = []
consts_declared n (const_item x e is) = declared x n ∷ consts_declared (suc n + expr_nodes e) is

abbrev pub own_declared : ℕ → Option (List ℕ) → List Declared
own_declared n None = []
own_declared n (Some x) = declared x n ∷ []

abbrev pub params_declared : ℕ → List (List ℕ) → List Declared
params_declared n [] = []
params_declared n (x ∷ xs) = declared x n ∷ params_declared (suc n) xs

-- what a statement of a list declares there (8.2.4)
abbrev pub stmt_declared : ℕ → Stmt → List Declared
stmt_declared n (Let is) = lets_declared (suc n) is
stmt_declared n (Const is) = consts_declared (suc n) is
stmt_declared n (Fun (code x kind xs ss)) = own_declared (suc n) x
stmt_declared n _ = []

abbrev pub list_declared : ℕ → Stmts → List Declared
list_declared n end = []
list_declared n (next st ss) = stmt_declared n st ++ list_declared (n + stmt_nodes st) ss

abbrev pub init_declared : ℕ → Init → List Declared
init_declared n (init_let is) = lets_declared n is
init_declared n (init_const is) = consts_declared n is
init_declared n _ = []

-- PLACES
-- what is known at a place: the names in scope, the innermost first, and what stands round it
pub record Place : Type 0 where
  pub known : List Declared
  -- names of the same scope that stand before: a binding of one of them is the second
  pub bound : List (List ℕ)
  pub in_loop : Bool
  pub in_function : Bool
  pub in_generator : Bool
  pub in_async : Bool
  -- a function that is no arrow stands round it
  pub has_this : Bool

abbrev pub outermost : Place
outermost = record { known = []; bound = []; in_loop = false; in_function = false; in_generator = false; in_async = false; has_this = false }

-- a scope of its own, where some names are bound and some stand before
abbrev pub inside : List Declared → List (List ℕ) → Place → Place
inside ds bound p = record { known = ds ++ p.known; bound = bound; in_loop = p.in_loop; in_function = p.in_function; in_generator = p.in_generator; in_async = p.in_async; has_this = p.has_this }

-- behind a name of the same scope
abbrev pub behind : List ℕ → Place → Place
behind x p = record { known = p.known; bound = x ∷ p.bound; in_loop = p.in_loop; in_function = p.in_function; in_generator = p.in_generator; in_async = p.in_async; has_this = p.has_this }

abbrev pub all_behind : List (List ℕ) → Place → Place
all_behind [] p = p
all_behind (x ∷ xs) p = all_behind xs (behind x p)

abbrev pub looped : Place → Place
looped p = record { known = p.known; bound = p.bound; in_loop = true; in_function = p.in_function; in_generator = p.in_generator; in_async = p.in_async; has_this = p.has_this }

abbrev pub is_generator : FunctionKind → Bool
is_generator Generator = true
is_generator AsyncGenerator = true
is_generator _ = false

abbrev pub is_async : FunctionKind → Bool
is_async Async = true
is_async AsyncArrow = true
is_async AsyncGenerator = true
is_async _ = false

abbrev pub is_arrow : FunctionKind → Bool
is_arrow Arrow = true
is_arrow AsyncArrow = true
is_arrow _ = false

-- a function's own scope
abbrev pub in_body : FunctionKind → List Declared → Place → Place
in_body kind ds p = record { known = ds ++ p.known; bound = []; in_loop = false; in_function = true; in_generator = is_generator kind; in_async = is_async kind; has_this = if is_arrow kind then p.has_this else true }

-- THE RULES AT ONE NODE
abbrev pub use_offences : Place → ℕ → List ℕ → List Offence
use_offences p n x = if is_among unusable x then offends_if true n reserved else offends_if (if is_among (names_of p.known) x then false else true) n undeclared

abbrev pub target_offences : Place → ℕ → List ℕ → List Offence
target_offences p n x = if is_among unbindable x then offends_if true n reserved else use_offences p n x

abbrev pub binding_offences : Place → ℕ → List ℕ → List Offence
binding_offences p n x = if is_among p.bound x then offends_if true n twice else offends_if (is_among unbindable x) n reserved

abbrev pub own_offences : Place → ℕ → Option (List ℕ) → List Offence
own_offences p n None = []
own_offences p n (Some x) = binding_offences p n x

abbrev pub params_offences : Place → ℕ → List (List ℕ) → List Offence
params_offences p n [] = []
params_offences p n (x ∷ xs) = binding_offences p n x ++ params_offences (behind x p) (suc n) xs

-- nothing of the same scope stands before
abbrev pub alone : Place → Place
alone p = record { known = p.known; bound = []; in_loop = p.in_loop; in_function = p.in_function; in_generator = p.in_generator; in_async = p.in_async; has_this = p.has_this }

abbrev pub unless : Bool → ℕ → List Offence
unless good n = offends_if (if good then false else true) n misplaced

-- ALL OFFENCES of a tree whose first node has the number n
abbrev mutual
  pub expr_offences : Place → ℕ → Expr → List Offence
  expr_offences p n (Num m) = []
  expr_offences p n (Text u) = []
  expr_offences p n (Truth t) = []
  expr_offences p n Null = []
  expr_offences p n Undefined = []
  expr_offences p n This = unless p.has_this n
  expr_offences p n (Named x) = use_offences p n x
  expr_offences p n (Unary op e) = expr_offences p (suc n) e
  expr_offences p n (Binary op a b) = expr_offences p (suc n) a ++ expr_offences p (suc n + expr_nodes a) b
  expr_offences p n (Logic op a b) = expr_offences p (suc n) a ++ expr_offences p (suc n + expr_nodes a) b
  expr_offences p n (Choice e a b) = expr_offences p (suc n) e ++ expr_offences p (suc n + expr_nodes e) a ++ expr_offences p (suc n + expr_nodes e + expr_nodes a) b
  expr_offences p n (SetName x e) = target_offences p n x ++ expr_offences p (suc n) e
  expr_offences p n (SetMember b key e) = expr_offences p (suc n) b ++ key_offences p (suc n + expr_nodes b) key ++ expr_offences p (suc n + expr_nodes b + key_nodes key) e
  expr_offences p n (Change x op e) = target_offences p n x ++ expr_offences p (suc n) e
  expr_offences p n (Bump x up before) = target_offences p n x
  expr_offences p n (Member b key) = expr_offences p (suc n) b ++ key_offences p (suc n + expr_nodes b) key
  expr_offences p n (Call f es) = expr_offences p (suc n) f ++ exprs_offences p (suc n + expr_nodes f) es
  expr_offences p n (Object ps) = properties_offences p (suc n) ps
  expr_offences p n (Function f) = function_offences p (suc n) f
  expr_offences p n (Yield o) = unless p.in_generator n ++ maybe_offences p (suc n) o
  expr_offences p n (YieldAll e) = unless p.in_generator n ++ expr_offences p (suc n) e
  expr_offences p n (Await e) = unless p.in_async n ++ expr_offences p (suc n) e
  expr_offences p n (Built form es) = exprs_offences p (suc n) es

  pub exprs_offences : Place → ℕ → Exprs → List Offence
  exprs_offences p n none = []
  exprs_offences p n (also e es) = expr_offences p n e ++ exprs_offences p (n + expr_nodes e) es

  pub maybe_offences : Place → ℕ → MaybeExpr → List Offence
  maybe_offences p n no_expr = []
  maybe_offences p n (some_expr e) = expr_offences p n e

  pub key_offences : Place → ℕ → Key → List Offence
  key_offences p n (Dot x) = offends_if (is_among inherited x) n reserved
  key_offences p n (Index e) = expr_offences p n e

  pub prop_key_offences : Place → ℕ → PropKey → List Offence
  prop_key_offences p n (Fixed u) = offends_if (same_name u (codes "__proto__")) n reserved
  prop_key_offences p n (Computed e) = expr_offences p n e

  pub properties_offences : Place → ℕ → Properties → List Offence
  properties_offences p n no_properties = []
  properties_offences p n (property key e ps) =
      prop_key_offences p n key ++ expr_offences p (n + prop_key_nodes key) e ++ properties_offences p (n + prop_key_nodes key + expr_nodes e) ps

  -- a function expression's own name is bound round its parameters
  pub function_offences : Place → ℕ → Code → List Offence
  function_offences p n (code x kind xs ss) =
      own_offences (alone p) n x ++ params_offences (alone p) (n + name_nodes x) xs
      ++ stmts_offences (all_behind xs (in_body kind (params_declared (n + name_nodes x) xs ++ list_declared (n + name_nodes x + length xs) ss ++ own_declared n x) p)) (n + name_nodes x + length xs) ss

  pub lets_offences : Place → ℕ → LetItems → List Offence
  lets_offences p n no_lets = []
  lets_offences p n (let_item x v is) = binding_offences p n x ++ maybe_offences p (suc n) v ++ lets_offences (behind x p) (suc n + maybe_nodes v) is

  pub consts_offences : Place → ℕ → ConstItems → List Offence
  consts_offences p n no_consts = []
  consts_offences p n (const_item x e is) = binding_offences p n x ++ expr_offences p (suc n) e ++ consts_offences (behind x p) (suc n + expr_nodes e) is

  pub init_offences : Place → ℕ → Init → List Offence
  init_offences p n init_nothing = []
  init_offences p n (init_let is) = lets_offences p n is
  init_offences p n (init_const is) = consts_offences p n is
  init_offences p n (init_value e) = expr_offences p n e

  pub stmt_offences : Place → ℕ → Stmt → List Offence
  stmt_offences p n (Let is) = lets_offences p (suc n) is
  stmt_offences p n (Const is) = consts_offences p (suc n) is
  -- a declaration's name is bound in its list
  stmt_offences p n (Fun (code x kind xs ss)) =
      own_offences p (suc n) x ++ params_offences (alone p) (suc n + name_nodes x) xs
      ++ stmts_offences (all_behind xs (in_body kind (params_declared (suc n + name_nodes x) xs ++ list_declared (suc n + name_nodes x + length xs) ss) p)) (suc n + name_nodes x + length xs) ss
  stmt_offences p n (Block ss) = stmts_offences (inside (list_declared (suc n) ss) [] p) (suc n) ss
  stmt_offences p n (If e branch other) = expr_offences p (suc n) e ++ stmt_offences p (suc n + expr_nodes e) branch ++ maybe_stmt_offences p (suc n + expr_nodes e + stmt_nodes branch) other
  stmt_offences p n (While e body) = expr_offences p (suc n) e ++ stmt_offences (looped p) (suc n + expr_nodes e) body
  stmt_offences p n (DoWhile body e) = stmt_offences (looped p) (suc n) body ++ expr_offences p (suc n + stmt_nodes body) e
  -- a for's names are a scope of their own round all its parts
  stmt_offences p n (For i test update body) =
      init_offences (inside (init_declared (suc n) i) [] p) (suc n) i
      ++ maybe_offences (inside (init_declared (suc n) i) [] p) (suc n + init_nodes i) test
      ++ maybe_offences (inside (init_declared (suc n) i) [] p) (suc n + init_nodes i + maybe_nodes test) update
      ++ stmt_offences (looped (inside (init_declared (suc n) i) [] p)) (suc n + init_nodes i + maybe_nodes test + maybe_nodes update) body
  stmt_offences p n (ForOf constant x over body) =
      binding_offences (alone p) (suc n) x
      ++ expr_offences (inside (declared x (suc n) ∷ []) [] p) (suc (suc n)) over
      ++ stmt_offences (looped (inside (declared x (suc n) ∷ []) [] p)) (suc (suc n) + expr_nodes over) body
  stmt_offences p n (ForAwait constant x over body) =
      unless p.in_async n ++ binding_offences (alone p) (suc n) x
      ++ expr_offences (inside (declared x (suc n) ∷ []) [] p) (suc (suc n)) over
      ++ stmt_offences (looped (inside (declared x (suc n) ∷ []) [] p)) (suc (suc n) + expr_nodes over) body
  stmt_offences p n Break = unless p.in_loop n
  stmt_offences p n Continue = unless p.in_loop n
  stmt_offences p n (Return o) = unless p.in_function n ++ maybe_offences p (suc n) o
  stmt_offences p n (Throw e) = expr_offences p (suc n) e
  stmt_offences p n (Try block c final) =
      stmts_offences (inside (list_declared (suc n) block) [] p) (suc n) block
      ++ catch_offences p (suc n + stmts_nodes block) c
      ++ last_offences p (suc n + stmts_nodes block + catch_nodes c) final
  stmt_offences p n (Value e) = expr_offences p (suc n) e
  stmt_offences p n Empty = []
  stmt_offences p n (Switch e cs) = expr_offences p (suc n) e ++ clauses_offences (alone p) (suc n + expr_nodes e) cs

  pub maybe_stmt_offences : Place → ℕ → MaybeStmt → List Offence
  maybe_stmt_offences p n no_stmt = []
  maybe_stmt_offences p n (some_stmt st) = stmt_offences p n st

  -- a catch name and its block are one scope
  pub catch_offences : Place → ℕ → Catch → List Offence
  catch_offences p n no_catch = []
  catch_offences p n (catch None ss) = stmts_offences (inside (list_declared n ss) [] p) n ss
  catch_offences p n (catch (Some x) ss) = binding_offences (alone p) n x ++ stmts_offences (inside (declared x n ∷ list_declared (suc n) ss) (x ∷ []) p) (suc n) ss

  pub last_offences : Place → ℕ → Last → List Offence
  last_offences p n no_last = []
  last_offences p n (last ss) = stmts_offences (inside (list_declared n ss) [] p) n ss

  -- no source text has a switch
  pub clauses_offences : Place → ℕ → Clauses → List Offence
  clauses_offences p n no_clauses = []
  clauses_offences p n (clause number ss cs) = stmts_offences p n ss ++ clauses_offences p (n + stmts_nodes ss) cs

  -- a list, in a scope whose names are known; each binds its names before the next
  pub stmts_offences : Place → ℕ → Stmts → List Offence
  stmts_offences p n end = []
  stmts_offences p n (next st ss) = stmt_offences p n st ++ stmts_offences (all_behind (names_of (stmt_declared n st)) p) (n + stmt_nodes st) ss

-- the offences of a program, in the order of their nodes
abbrev pub offences : Stmts → List Offence
offences ss = stmts_offences (inside (list_declared 0 ss) [] outermost) 0 ss

-- no offence stands in the program
abbrev pub Clean : Stmts → Type 0
Clean ss = offences ss ≡ []

-- the first offence
abbrev pub first_offence : Stmts → Option Offence
first_offence ss = first (offences ss)
  where
    first : List Offence → Option Offence
    first [] = None
    first (o ∷ os) = Some o
