-- The walk over a program as a machine: what it keeps, what it does at a node, and how it goes over each tree. An offence
-- doesn't stop it: the first is kept.
use Rattle.std.specs.Prelude.{ℕ, suc, ◌+◌, List, [], ◌∷◌, ◌++◌, length, Bool, true, Option, Some, None, codes}
use Rattle.actx_grammar.specs.declared.operators.FunctionKind.{FunctionKind}
use Rattle.actx_grammar.specs.Static.{Declared, declared, Offence, Place, outermost, inside, in_body, same_name, is_among, unbindable, inherited, offends_if, unless, reserved, use_offences, target_offences, binding_offences, own_declared, params_declared, list_declared, init_declared}
use Rattle.actx_grammar.specs.Tree.{Expr, Num, Text, Truth, Null, Undefined, This, Named, Unary, Binary, Logic, Choice, SetName, SetMember, Change, Bump, Member, Call, Object, Function, Yield, YieldAll, Await, Built, Exprs, none, also, MaybeExpr, no_expr, some_expr, Key, Dot, Index, PropKey, Fixed, Computed, Properties, no_properties, property, Code, code, LetItems, no_lets, let_item, ConstItems, no_consts, const_item, Init, init_nothing, init_let, init_const, init_value, Stmt, Let, Const, Fun, Block, If, While, DoWhile, For, ForOf, ForAwait, Break, Continue, Return, Throw, Try, Value, Empty, Switch, MaybeStmt, no_stmt, some_stmt, Catch, no_catch, catch, Last, no_last, last, Clauses, no_clauses, clause, Stmts, end, next}
use Rattle.actx_scope.specs.declared.fault.CheckFault.{CheckFault}
use Rattle.actx_scope.specs.declared.place.Outer.{Outer}
use Rattle.actx_scope.specs.Faults.{first_fault, first_some}
use Rattle.actx_scope.specs.declared.link.Link.{Link}
use Rattle.actx_scope.specs.declared.link.Link.TheVariants.{Nothing}
use Rattle.actx_scope.specs.Found.{grown, outer_part}
use Rattle.actx_scope.specs.Links.{link_of}

-- the place, the next node's number, the links so far and the first offence
pub record State : Type 0 where
  pub place : Place
  pub at : ℕ
  pub links : List Link
  pub fault : Option CheckFault

abbrev pub start : State
start = record { place = outermost; at = 0; links = []; fault = None }

-- AT A NODE
unfoldable pub passed : Link → State → State
passed link s = record s { at = suc s.at; links = s.links ++ link ∷ [] }

abbrev pub with_fault : Option CheckFault → State → State
with_fault f s = record s { fault = first_some s.fault f }

-- a node that may offend
unfoldable pub offending : (Place → ℕ → List Offence) → State → State
offending os s = record s { at = suc s.at; links = s.links ++ Nothing ∷ []; fault = first_some s.fault (first_fault (os s.place s.at)) }

-- a name that is read, and one that is written
unfoldable pub used : List ℕ → State → State
used x s = record s { at = suc s.at; links = s.links ++ link_of s.place.known x ∷ []; fault = first_some s.fault (first_fault (use_offences s.place s.at x)) }

unfoldable pub targeted : List ℕ → State → State
targeted x s = record s { at = suc s.at; links = s.links ++ link_of s.place.known x ∷ []; fault = first_some s.fault (first_fault (target_offences s.place s.at x)) }

-- a name that the scope binds
unfoldable pub bound : List ℕ → State → State
bound x s = record { place = record s.place { bound = grown s.place.bound x }; at = suc s.at; links = s.links ++ Nothing ∷ []; fault = first_some s.fault (first_fault (binding_offences s.place s.at x)) }

-- what offends at a node
abbrev pub never : Place → ℕ → List Offence
never p n = []

abbrev pub bound_alone : List ℕ → Place → ℕ → List Offence
bound_alone x p n = offends_if (is_among unbindable x) n reserved

abbrev pub dotted : List ℕ → Place → ℕ → List Offence
dotted x p n = offends_if (is_among inherited x) n reserved

abbrev pub fixed : List ℕ → Place → ℕ → List Offence
fixed u p n = offends_if (same_name u (codes "__proto__")) n reserved

abbrev pub outside_function : Place → ℕ → List Offence
outside_function p n = unless p.in_function n

abbrev pub outside_loop : Place → ℕ → List Offence
outside_loop p n = unless p.in_loop n

abbrev pub outside_generator : Place → ℕ → List Offence
outside_generator p n = unless p.in_generator n

abbrev pub outside_async : Place → ℕ → List Offence
outside_async p n = unless p.in_async n

abbrev pub without_this : Place → ℕ → List Offence
without_this p n = unless p.has_this n

-- SCOPES
unfoldable pub outside : State → Outer
outside s = record { depth = length s.place.known; bound = s.place.bound; around = record { in_loop = s.place.in_loop; in_function = s.place.in_function; in_generator = s.place.in_generator; in_async = s.place.in_async; has_this = s.place.has_this } }

unfoldable pub left : Outer → State → State
left o s = record s { place = record { known = outer_part o.depth s.place.known; bound = o.bound; in_loop = o.around.in_loop; in_function = o.around.in_function; in_generator = o.around.in_generator; in_async = o.around.in_async; has_this = o.around.has_this } }

unfoldable pub entered : (ℕ → List Declared) → State → State
entered ds s = record s { place = inside (ds s.at) [] s.place }

abbrev pub code_declared : Code → ℕ → List Declared
code_declared (code x kind xs ss) n = params_declared n xs ++ list_declared (n + length xs) ss

abbrev pub code_kind : Code → FunctionKind
code_kind (code x kind xs ss) = kind

-- a declaration's function, and one whose own name is known at a node
unfoldable pub entered_declaration : Code → State → State
entered_declaration f s = record s { place = in_body (code_kind f) (code_declared f s.at) s.place }

unfoldable pub entered_expression : ℕ → Option (List ℕ) → Code → State → State
entered_expression n x f s = record s { place = in_body (code_kind f) (code_declared f s.at ++ own_declared n x) s.place }

abbrev pub scoped : (State → State) → (State → State) → State → State
scoped enter walk s = left (outside s) (walk (enter s))

-- the names that a part binds are left behind it
unfoldable pub bound_count : State → ℕ
bound_count s = length s.place.bound

unfoldable pub forgotten : ℕ → State → State
forgotten count s = record s { place = record s.place { bound = outer_part count s.place.bound } }

abbrev pub part : (State → State) → State → State
part walk s = forgotten (bound_count s) (walk s)

unfoldable pub is_looped : State → Bool
is_looped s = s.place.in_loop

unfoldable pub with_loop : Bool → State → State
with_loop b s = record s { place = record s.place { in_loop = b } }

abbrev pub loop_part : (State → State) → State → State
loop_part walk s = with_loop (is_looped s) (part walk (with_loop true s))

-- nothing of the same scope stands before
abbrev pub nothing_declared : ℕ → List Declared
nothing_declared n = []

abbrev pub name_declared : List ℕ → ℕ → List Declared
name_declared x n = declared x n ∷ []

abbrev pub catch_declared : List ℕ → Stmts → ℕ → List Declared
catch_declared x ss n = declared x n ∷ list_declared (suc n) ss

abbrev pub stmts_declared : Stmts → ℕ → List Declared
stmts_declared ss n = list_declared n ss

abbrev pub init_names : Init → ℕ → List Declared
init_names i n = init_declared n i

-- TREES
abbrev pub own_walk : Option (List ℕ) → State → State
own_walk None s = s
own_walk (Some x) s = offending (bound_alone x) s

abbrev pub named_walk : Option (List ℕ) → State → State
named_walk None s = s
named_walk (Some x) s = bound x s

abbrev pub params_walk : List (List ℕ) → State → State
params_walk [] s = s
params_walk (x ∷ xs) s = params_walk xs (bound x s)

abbrev mutual
  pub expr_walk : Expr → State → State
  expr_walk (Num m) s = passed Nothing s
  expr_walk (Text u) s = passed Nothing s
  expr_walk (Truth t) s = passed Nothing s
  expr_walk Null s = passed Nothing s
  expr_walk Undefined s = passed Nothing s
  expr_walk This s = offending without_this s
  expr_walk (Named x) s = used x s
  expr_walk (Unary op e) s = expr_walk e (passed Nothing s)
  expr_walk (Binary op a b) s = expr_walk b (expr_walk a (passed Nothing s))
  expr_walk (Logic op a b) s = expr_walk b (expr_walk a (passed Nothing s))
  expr_walk (Choice e a b) s = expr_walk b (expr_walk a (expr_walk e (passed Nothing s)))
  expr_walk (SetName x e) s = expr_walk e (targeted x s)
  expr_walk (SetMember b key e) s = expr_walk e (key_walk key (expr_walk b (passed Nothing s)))
  expr_walk (Change x op e) s = expr_walk e (targeted x s)
  expr_walk (Bump x up before) s = targeted x s
  expr_walk (Member b key) s = key_walk key (expr_walk b (passed Nothing s))
  expr_walk (Call f es) s = exprs_walk es (expr_walk f (passed Nothing s))
  expr_walk (Object ps) s = properties_walk ps (passed Nothing s)
  expr_walk (Function f) s = function_walk f (passed Nothing s)
  expr_walk (Yield o) s = maybe_walk o (offending outside_generator s)
  expr_walk (YieldAll e) s = expr_walk e (offending outside_generator s)
  expr_walk (Await e) s = expr_walk e (offending outside_async s)
  expr_walk (Built form es) s = exprs_walk es (passed Nothing s)

  pub exprs_walk : Exprs → State → State
  exprs_walk none s = s
  exprs_walk (also e es) s = exprs_walk es (expr_walk e s)

  pub maybe_walk : MaybeExpr → State → State
  maybe_walk no_expr s = s
  maybe_walk (some_expr e) s = expr_walk e s

  pub key_walk : Key → State → State
  key_walk (Dot x) s = offending (dotted x) s
  key_walk (Index e) s = expr_walk e s

  pub prop_key_walk : PropKey → State → State
  prop_key_walk (Fixed u) s = offending (fixed u) s
  prop_key_walk (Computed e) s = expr_walk e s

  pub properties_walk : Properties → State → State
  properties_walk no_properties s = s
  properties_walk (property key e ps) s = properties_walk ps (expr_walk e (prop_key_walk key s))

  pub function_walk : Code → State → State
  function_walk (code x kind xs ss) s =
      scoped (entered_expression s.at x (code x kind xs ss)) (λ t. stmts_walk ss (params_walk xs t)) (own_walk x s)

  pub declaration_walk : Code → State → State
  declaration_walk (code x kind xs ss) s = scoped (entered_declaration (code x kind xs ss)) (λ t. stmts_walk ss (params_walk xs t)) (named_walk x s)

  pub lets_walk : LetItems → State → State
  lets_walk no_lets s = s
  lets_walk (let_item x v is) s = lets_walk is (maybe_walk v (bound x s))

  pub consts_walk : ConstItems → State → State
  consts_walk no_consts s = s
  consts_walk (const_item x e is) s = consts_walk is (expr_walk e (bound x s))

  pub init_walk : Init → State → State
  init_walk init_nothing s = s
  init_walk (init_let is) s = part (lets_walk is) s
  init_walk (init_const is) s = part (consts_walk is) s
  init_walk (init_value e) s = expr_walk e s

  pub stmt_walk : Stmt → State → State
  stmt_walk (Let is) s = lets_walk is (passed Nothing s)
  stmt_walk (Const is) s = consts_walk is (passed Nothing s)
  stmt_walk (Fun f) s = declaration_walk f (passed Nothing s)
  stmt_walk (Block ss) s = scoped (entered (stmts_declared ss)) (stmts_walk ss) (passed Nothing s)
  stmt_walk (If e branch other) s = maybe_stmt_walk other (part (stmt_walk branch) (expr_walk e (passed Nothing s)))
  stmt_walk (While e body) s = loop_part (stmt_walk body) (expr_walk e (passed Nothing s))
  stmt_walk (DoWhile body e) s = expr_walk e (loop_part (stmt_walk body) (passed Nothing s))
  stmt_walk (For i test update body) s =
      scoped (entered (init_names i)) (λ t. loop_part (stmt_walk body) (maybe_walk update (maybe_walk test (init_walk i t)))) (passed Nothing s)
  stmt_walk (ForOf constant x over body) s =
      scoped (entered (name_declared x)) (λ t. loop_part (stmt_walk body) (expr_walk over (offending (bound_alone x) t))) (passed Nothing s)
  stmt_walk (ForAwait constant x over body) s =
      scoped (entered (name_declared x)) (λ t. loop_part (stmt_walk body) (expr_walk over (offending (bound_alone x) t))) (offending outside_async s)
  stmt_walk Break s = offending outside_loop s
  stmt_walk Continue s = offending outside_loop s
  stmt_walk (Return o) s = maybe_walk o (offending outside_function s)
  stmt_walk (Throw e) s = expr_walk e (passed Nothing s)
  stmt_walk (Try block c final) s = last_walk final (catch_walk c (scoped (entered (stmts_declared block)) (stmts_walk block) (passed Nothing s)))
  stmt_walk (Value e) s = expr_walk e (passed Nothing s)
  stmt_walk Empty s = passed Nothing s
  stmt_walk (Switch e cs) s = clauses_walk cs (expr_walk e (passed Nothing s))

  pub maybe_stmt_walk : MaybeStmt → State → State
  maybe_stmt_walk no_stmt s = s
  maybe_stmt_walk (some_stmt st) s = part (stmt_walk st) s

  pub catch_walk : Catch → State → State
  catch_walk no_catch s = s
  catch_walk (catch None ss) s = scoped (entered (stmts_declared ss)) (stmts_walk ss) s
  catch_walk (catch (Some x) ss) s = scoped (entered (catch_declared x ss)) (λ t. stmts_walk ss (bound x t)) s

  pub last_walk : Last → State → State
  last_walk no_last s = s
  last_walk (last ss) s = scoped (entered (stmts_declared ss)) (stmts_walk ss) s

  pub clauses_walk : Clauses → State → State
  clauses_walk no_clauses s = s
  clauses_walk (clause number ss cs) s = clauses_walk cs (scoped (entered nothing_declared) (stmts_walk ss) s)

  pub stmts_walk : Stmts → State → State
  stmts_walk end s = s
  stmts_walk (next st ss) s = stmts_walk ss (stmt_walk st s)

abbrev pub block_walk : Stmts → State → State
block_walk ss s = scoped (entered (stmts_declared ss)) (stmts_walk ss) s

abbrev pub clause_walk : Stmts → State → State
clause_walk ss s = scoped (entered nothing_declared) (stmts_walk ss) s
