-- A tree of a side is spelled by its own tokens there.
use Rattle.std.proofs.Common.{◌≡◌, ℕ, true, false, List, Option, Some, None, All, Bool, refl, sym, ap, inl, inr}
use Rattle.actx_grammar.specs.declared.operators.BinaryOp.{BinaryOp}
use Rattle.actx_grammar.specs.declared.operators.BinaryOp.TheVariants as o
use Rattle.actx_grammar.specs.declared.operators.Form.{Form}
use Rattle.actx_grammar.specs.declared.operators.Form.TheVariants as f
use Rattle.actx_grammar.specs.declared.operators.FunctionKind.{FunctionKind}
use Rattle.actx_grammar.specs.declared.operators.FunctionKind.TheVariants.{Normal, Arrow, Generator, Async, AsyncArrow, AsyncGenerator}
use Rattle.actx_grammar.specs.declared.operators.LogicOp.TheVariants.{And, Or, Coalesce}
use Rattle.actx_grammar.specs.declared.side.Side.{Side}
use Rattle.actx_grammar.specs.declared.side.Side.TheVariants.{Source, Plain}
use Rattle.actx_grammar.specs.declared.token.Sign.TheVariants as g
use Rattle.actx_grammar.specs.declared.token.TokenKind.TheVariants as t
use Rattle.actx_grammar.specs.Forms.{change_of}
use Rattle.actx_grammar.specs.Lexemes.{Lexeme}
use Rattle.actx_grammar.specs.Names.{IsBinding, IsOwnName, IsKey}
use Rattle.actx_grammar.specs.Words.{keyword_text}
use Rattle.actx_grammar.specs.Tree.{Expr, Num, Text, Truth, Null, Undefined, This, Named, Unary, Binary, Logic, Choice, SetName, SetMember, Change, Bump, Member, Call, Object, Function, Yield, YieldAll, Await, Built, Exprs, none, also, MaybeExpr, no_expr, some_expr, Key, Dot, Index, PropKey, Fixed, Computed, Properties, no_properties, property, code, LetItems, no_lets, let_item, ConstItems, no_consts, const_item, Init, init_nothing, init_let, init_const, init_value, Stmt, Let, Const, Fun, Block, If, While, DoWhile, For, ForOf, ForAwait, Break, Continue, Return, Throw, Try, Value, Empty, Switch, no_stmt, some_stmt, no_catch, catch, no_last, last, Clauses, no_clauses, clause, Stmts, end, next}
use Rattle.actx_grammar.specs.Grammar.{SpellsHead, sp_normal, sp_normal_named, sp_generator, sp_generator_named, sp_async, sp_async_named, sp_arrow_head, sp_async_arrow_head, sp_listed_params, sp_no_arguments, sp_no_properties, sp_absent, sp_present, sp_init_nothing, sp_init_let, sp_init_const, sp_init_value, sp_break, sp_continue, sp_return_nothing, sp_empty, sp_catch, sp_catch_name, sp_no_clauses, sp_end}
use Rattle.actx_grammar.specs.Sides.{IsWord, IsDeclared, IsShape, IsFormOf, ExprOn, ExprsOn, MaybeOn, KeyOn, PropKeyOn, PropertiesOn, LetsOn, ConstsOn, InitOn, StmtOn, ClausesOn, StmtsOn}
use Rattle.actx_grammar.specs.Spell.{inner, spell_params}
use Rattle.actx_laws.proofs.SpellSaid.{Said, Exact, KeySaid, ListSaid, ArgumentsSaid, PropKeySaid, PropertySaid, SomeSaid, PropertiesSaid, LetSaid, LetsSaid, ConstsSaid, MaybeSaid, InitSaid, StmtSaid, BodySaid, StmtsSaid, BlockSaid, CatchSaid, ClausesSaid}
use Rattle.actx_laws.proofs.SpellChains.{or_first, or_exact, coalesce_first, coalesce_exact}
use Rattle.actx_laws.proofs.SpellHeads.{function_exact, arrow_exact}
use Rattle.actx_laws.proofs.SpellLaid.{same_line}
use Rattle.actx_laws.proofs.SpellRows.{number_exact, text_exact, true_exact, false_exact, null_exact, undefined_exact, this_exact, name_exact, object_exact, yield_nothing_exact, yield_exact, yield_all_exact, await_exact, unary_exact, set_name_exact, change_exact, bump_before_exact, bump_behind_exact, binary_exact, and_exact, choice_exact, member_exact, set_member_exact, call_exact, call_with_exact, form_exact}
use Rattle.actx_laws.proofs.SpellParts.{dot_said, index_said, fixed_said, computed_said, one_said, arguments_said, property_said, one_property_said, some_said, let_alone_said, let_value_said, one_let_said, one_const_said}
use Rattle.actx_laws.proofs.SpellStatements.{let_said, const_said, fun_said, block_said, block_stmt_said, body_said, if_said, if_else_said, while_said, do_while_said, for_said, for_of_let_said, for_of_const_said, return_said, throw_said, value_said, try_catch_said, try_finally_said, try_both_said, switch_said, default_said, case_said, next_said}
use Rattle.actx_laws.proofs.SideLists.{params_spelled, list_begins, properties_begin, lets_begin, consts_begin}

-- NAMES AND FORMS
word_spelled : {side : Side} (x : List ℕ) → IsWord x → IsKey side x → KeySaid side None (Dot x)
word_spelled x (inl n) k = dot_said (t.Name x) x refl n k
word_spelled x (inr w) k = let e : Some (keyword_text w.0) ≡ Some x = ap Some (sym w.1) in dot_said (t.Keyword w.0) x e tt k

change_spelled : {side : Side} (x : List ℕ) (op : BinaryOp) (e : Expr) → IsBinding side x → (change_of op ≡ None → ⊥) → Said side None e → Exact side None (Change x op e)
change_spelled x o.Add e n h p = change_exact x o.Add g.AddAssign e n refl p
change_spelled x o.Sub e n h p = change_exact x o.Sub g.SubAssign e n refl p
change_spelled x o.Mul e n h p = change_exact x o.Mul g.MulAssign e n refl p
change_spelled x _ e n h p = absurd (h refl)

-- all but the first of the parts
abbrev RestSaid : Side → Exprs → Type 0
RestSaid side none = Unit {0}
RestSaid side (also e es) = Said side None e × ArgumentsSaid side None es

form_spelled : (side : Side) (form : Form) (es : Exprs) → IsFormOf side form es → ArgumentsSaid side None es → RestSaid side es → Exact side None (Built form es)
form_spelled Source form es w a r = form_exact form es w.0 a w.1
form_spelled Plain f.CallWith none w a r = absurd w.0
form_spelled Plain f.CallWith (also e es) w a r = call_with_exact e es refl r.0 r.1
form_spelled Plain f.Log es w a r = form_exact f.Log es w.0 a w.1
form_spelled Plain form es w a r = form_exact form es w.0 a w.1

-- LISTS, which are spelled where they have parts
abbrev SomeList : Side → Exprs → Type 0
SomeList side none = Unit {0}
SomeList side (also e es) = ListSaid side None (also e es)

list_more : {side : Side} (e : Expr) (es : Exprs) → Said side None e → SomeList side es → ListSaid side None (also e es)
list_more e none p ps = one_said e p
list_more e (also v es) p ps = list_begins e v es p ps

listed : {side : Side} (es : Exprs) → SomeList side es → ArgumentsSaid side None es
listed none ps b = sp_no_arguments
listed (also e es) ps b = arguments_said (also e es) ps tt b

abbrev SomeProperties : Side → Properties → Type 0
SomeProperties side no_properties = Unit {0}
SomeProperties side (property key e ps) = SomeSaid side None (property key e ps)

properties_more : {side : Side} (key : PropKey) (e : Expr) (ps : Properties) → PropertySaid side None key e → SomeProperties side ps → SomeSaid side None (property key e ps)
properties_more key e no_properties p ps = one_property_said key e p
properties_more key e (property j v qs) p ps = properties_begin key e j v qs p ps

propertied : {side : Side} (ps : Properties) → SomeProperties side ps → PropertiesSaid side None ps
propertied no_properties p b = sp_no_properties
propertied (property key e ps) p b = some_said (property key e ps) p b

abbrev SomeLets : Side → LetItems → Type 0
SomeLets side no_lets = Unit {0}
SomeLets side (let_item x v is) = LetsSaid side None (let_item x v is)

lets_more : {side : Side} (x : List ℕ) (v : MaybeExpr) (is : LetItems) → LetSaid side None x v → SomeLets side is → LetsSaid side None (let_item x v is)
lets_more x v no_lets p ps = one_let_said x v p
lets_more x v (let_item y w is) p ps = lets_begin x v y w is p ps

some_lets : {side : Side} (is : LetItems) → (is ≡ no_lets → ⊥) → SomeLets side is → LetsSaid side None is
some_lets no_lets h p = absurd (h refl)
some_lets (let_item x v is) h p = p

abbrev SomeConsts : Side → ConstItems → Type 0
SomeConsts side no_consts = Unit {0}
SomeConsts side (const_item x e is) = ConstsSaid side None (const_item x e is)

consts_more : {side : Side} (x : List ℕ) (e : Expr) (is : ConstItems) → IsBinding side x → Said side None e → SomeConsts side is → ConstsSaid side None (const_item x e is)
consts_more x e no_consts n p ps = one_const_said x e n p
consts_more x e (const_item y v is) n p ps = consts_begin x e y v is n p ps

some_consts : {side : Side} (is : ConstItems) → (is ≡ no_consts → ⊥) → SomeConsts side is → ConstsSaid side None is
some_consts no_consts h p = absurd (h refl)
some_consts (const_item x e is) h p = p

-- HEADS
-- some tokens are the head
record HasHead (side : Side) (kind : FunctionKind) (name : Option (List ℕ)) : Type 0 where
  tokens : List Lexeme
  spelled : SpellsHead side kind name tokens

head : {side : Side} {kind : FunctionKind} {name : Option (List ℕ)} {x : List Lexeme} → SpellsHead side kind name x → HasHead side kind name
head {x = x} h = record { tokens = x; spelled = h }

head_spelled : (side : Side) (kind : FunctionKind) (name : Option (List ℕ)) → IsDeclared side kind → IsOwnName side name → HasHead side kind name
head_spelled side Normal None h n = head (sp_normal {b = false})
head_spelled side Normal (Some x) h n = head (sp_normal_named {b = false} {c = false} n)
head_spelled side Generator None h n = head (sp_generator {b = false} {c = false} h)
head_spelled side Generator (Some x) h n = head (sp_generator_named {b = false} {c = false} {d = false} h n)
head_spelled side Async None h n = head (sp_async {b = false} h)
head_spelled side Async (Some x) h n = head (sp_async_named {b = false} {c = false} h n)
head_spelled side Arrow name h n = absurd h
head_spelled side AsyncArrow name h n = absurd h
head_spelled side AsyncGenerator name h n = absurd h

headed : {side : Side} (kind : FunctionKind) (name : Option (List ℕ)) (xs : List (List ℕ)) (ss : Stmts) → HasHead side kind name → All (IsBinding side) xs → StmtsSaid side None ss → Exact side None (Function (code name kind xs ss))
headed {side} kind name xs ss h a p = function_exact xs ss h.spelled (params_spelled side xs a) p

function_spelled : (side : Side) (kind : FunctionKind) (name : Option (List ℕ)) (xs : List (List ℕ)) (ss : Stmts) → IsShape side kind name → All (IsBinding side) xs → StmtsSaid side None ss → Exact side None (Function (code name kind xs ss))
function_spelled side Arrow None xs ss h a p = arrow_exact ss (sp_arrow_head (sp_listed_params (params_spelled side xs a false))) p
function_spelled side Arrow (Some x) xs ss h a p = absurd h
function_spelled side AsyncArrow None xs ss h a p = arrow_exact ss (sp_async_arrow_head {b = false} h (sp_listed_params (params_spelled side xs a false)) (same_line (spell_params xs))) p
function_spelled side AsyncArrow (Some x) xs ss h a p = absurd h
function_spelled side Normal name xs ss h a p = headed Normal name xs ss (head_spelled side Normal name h.0 h.1) a p
function_spelled side Generator name xs ss h a p = headed Generator name xs ss (head_spelled side Generator name h.0 h.1) a p
function_spelled side Async name xs ss h a p = headed Async name xs ss (head_spelled side Async name h.0 h.1) a p
function_spelled side AsyncGenerator name xs ss h a p = absurd h.0

declared_spelled : {side : Side} (kind : FunctionKind) (x : List ℕ) (xs : List (List ℕ)) (ss : Stmts) → HasHead side kind (Some x) → All (IsBinding side) xs → StmtsSaid side None ss → StmtSaid side None (Fun (code (Some x) kind xs ss))
declared_spelled {side} kind x xs ss h a p = fun_said x xs ss h.spelled (params_spelled side xs a) p

for_of_spelled : {side : Side} (constant : Bool) (x : List ℕ) (over : Expr) (st : Stmt) → side ≡ Source → IsBinding side x → Said side None over → BodySaid side None st → StmtSaid side None (ForOf constant x over st)
for_of_spelled true x over st s h p q = for_of_const_said x over st s h p q
for_of_spelled false x over st s h p q = for_of_let_said x over st s h p q

catch_spelled : {side : Side} (x : Option (List ℕ)) (ss : Stmts) → IsOwnName side x → BlockSaid side None ss → CatchSaid side None (catch x ss)
catch_spelled None ss n p b = sp_catch (p false)
catch_spelled (Some x) ss n p b = sp_catch_name n (p false)

said_of : {side : Side} {e : Expr} → Exact side None e → Said side None e
said_of p = p.said

mutual
  exact : (side : Side) (e : Expr) → ExprOn side e → Exact side None e
  exact side (Num n) h = number_exact n h
  exact side (Text u) h = text_exact u h
  exact side (Truth true) h = true_exact
  exact side (Truth false) h = false_exact
  exact side Null h = null_exact
  exact side Undefined h = undefined_exact
  exact side This h = this_exact
  exact side (Named x) h = name_exact x h
  exact side (Unary op e) h = unary_exact op e (said_of (exact side e h))
  exact side (Binary op a b) h = binary_exact op a b (said_of (exact side a h.0)) (said_of (exact side b h.1))
  exact side (Logic And a b) h = and_exact a b (said_of (exact side a h.0)) (said_of (exact side b h.1))
  exact side (Logic Or a b) h = or_exact a b (or_first a b (exact side a h.0) (said_of (exact side b h.1)))
  exact side (Logic Coalesce a b) h = coalesce_exact a b (coalesce_first a b (exact side a h.0) (said_of (exact side b h.1)))
  exact side (Choice e a b) h = choice_exact e a b (said_of (exact side e h.0)) (said_of (exact side a h.1)) (said_of (exact side b h.2))
  exact side (SetName x e) h = set_name_exact x e h.0 (said_of (exact side e h.1))
  exact side (SetMember e key v) h = set_member_exact e key v (said_of (exact side e h.0)) (key_said side key h.1) (said_of (exact side v h.2))
  exact side (Change x op e) h = change_spelled x op e h.0 h.1 (said_of (exact side e h.2))
  exact side (Bump x up true) h = bump_before_exact x up h
  exact side (Bump x up false) h = bump_behind_exact x up h
  exact side (Member e key) h = member_exact e key (said_of (exact side e h.0)) (key_said side key h.1)
  exact side (Call v es) h = call_exact v es (said_of (exact side v h.0)) (listed es (list_said side es h.1))
  exact side (Object ps) h = object_exact ps (propertied ps (properties_said side ps h))
  exact side (Function (code x kind xs ss)) h = function_spelled side kind x xs ss h.0 h.1 (stmts_said side ss h.2)
  exact side (Yield no_expr) h = yield_nothing_exact h.0
  exact side (Yield (some_expr e)) h = yield_exact e h.0 (said_of (exact side e h.1))
  exact side (YieldAll e) h = yield_all_exact e h.0 (said_of (exact side e h.1))
  exact side (Await e) h = await_exact e h.0 (said_of (exact side e h.1))
  exact side (Built form es) h = form_spelled side form es h.0 (listed es (list_said side es h.1)) (rest_spelled side es h.1)

  key_said : (side : Side) (key : Key) → KeyOn side key → KeySaid side None key
  key_said side (Dot x) h = word_spelled x h.0 h.1
  key_said side (Index e) h = index_said e (said_of (exact side e h))

  list_said : (side : Side) (es : Exprs) → ExprsOn side es → SomeList side es
  list_said side none h = tt
  list_said side (also e es) h = list_more e es (said_of (exact side e h.0)) (list_said side es h.1)

  rest_spelled : (side : Side) (es : Exprs) → ExprsOn side es → RestSaid side es
  rest_spelled side none h = tt
  rest_spelled side (also e es) h = (said_of (exact side e h.0), listed es (list_said side es h.1))

  prop_key_said : (side : Side) (key : PropKey) → PropKeyOn side key → PropKeySaid side None key
  prop_key_said side (Fixed u) h = fixed_said (t.Text u) u h refl
  prop_key_said side (Computed e) h = computed_said e (said_of (exact side e h))

  properties_said : (side : Side) (ps : Properties) → PropertiesOn side ps → SomeProperties side ps
  properties_said side no_properties h = tt
  properties_said side (property key e ps) h = properties_more key e ps (property_said key e (prop_key_said side key h.0) (said_of (exact side e h.1))) (properties_said side ps h.2)

  let_spelled : (side : Side) (x : List ℕ) (v : MaybeExpr) → IsBinding side x → MaybeOn side v → LetSaid side None x v
  let_spelled side x no_expr n h = let_alone_said x n
  let_spelled side x (some_expr e) n h = let_value_said x e n (said_of (exact side e h))

  lets_said : (side : Side) (is : LetItems) → LetsOn side is → SomeLets side is
  lets_said side no_lets h = tt
  lets_said side (let_item x v is) h = lets_more x v is (let_spelled side x v h.0 h.1) (lets_said side is h.2)

  consts_said : (side : Side) (is : ConstItems) → ConstsOn side is → SomeConsts side is
  consts_said side no_consts h = tt
  consts_said side (const_item x e is) h = consts_more x e is h.0 (said_of (exact side e h.1)) (consts_said side is h.2)

  maybe_said : (side : Side) (v : MaybeExpr) → MaybeOn side v → MaybeSaid side None v
  maybe_said side no_expr h b = sp_absent
  maybe_said side (some_expr e) h b = sp_present (said_of (exact side e h) b inner 1)

  init_said : (side : Side) (i : Init) → InitOn side i → InitSaid side None i
  init_said side init_nothing h b = sp_init_nothing
  init_said side (init_let is) h b = sp_init_let (some_lets is h.0 (lets_said side is h.1) false)
  init_said side (init_const is) h b = sp_init_const (some_consts is h.0 (consts_said side is h.1) false)
  init_said side (init_value e) h b = sp_init_value (said_of (exact side e h) b inner 1)

  stmt_said : (side : Side) (st : Stmt) → StmtOn side st → StmtSaid side None st
  stmt_said side (Let is) h b = let_said is (some_lets is h.0 (lets_said side is h.1)) b
  stmt_said side (Const is) h b = const_said is (some_consts is h.0 (consts_said side is h.1)) b
  stmt_said side (Fun (code None kind xs ss)) h b = absurd h
  stmt_said side (Fun (code (Some x) kind xs ss)) h b = declared_spelled kind x xs ss (head_spelled side kind (Some x) h.0 h.1) h.2 (stmts_said side ss h.3) b
  stmt_said side (Block ss) h b = block_stmt_said ss (block_said ss (stmts_said side ss h)) b
  stmt_said side (If e branch no_stmt) h b = if_said e branch (said_of (exact side e h.0)) (body_said branch (stmt_said side branch h.2) h.1) b
  stmt_said side (If e branch (some_stmt other)) h b = if_else_said e branch other (said_of (exact side e h.0)) (body_said branch (stmt_said side branch h.1.1) h.1.0) h.2 (body_said other (stmt_said side other h.4) h.3) b
  stmt_said side (While e st) h b = while_said e st (said_of (exact side e h.0)) (body_said st (stmt_said side st h.2) h.1) b
  stmt_said side (DoWhile st e) h b = do_while_said st e (body_said st (stmt_said side st h.0.1) h.0.0) (said_of (exact side e h.1)) b
  stmt_said side (For i test update st) h b = for_said i test update st (init_said side i h.0) (maybe_said side test h.1) (maybe_said side update h.2) (body_said st (stmt_said side st h.4) h.3) b
  stmt_said side (ForOf constant x over st) h b = for_of_spelled constant x over st h.0 h.1 (said_of (exact side over h.2)) (body_said st (stmt_said side st h.4) h.3) b
  stmt_said side (ForAwait constant x over st) h b = absurd h
  stmt_said side Break h b = sp_break
  stmt_said side Continue h b = sp_continue
  stmt_said side (Return no_expr) h b = sp_return_nothing
  stmt_said side (Return (some_expr e)) h b = return_said e (said_of (exact side e h)) b
  stmt_said side (Throw e) h b = throw_said e (said_of (exact side e h)) b
  stmt_said side (Try ss no_catch no_last) h b = absurd h
  stmt_said side (Try ss no_catch (last fs)) h b = try_finally_said ss fs (block_said ss (stmts_said side ss h.0)) (block_said fs (stmts_said side fs h.2)) b
  stmt_said side (Try ss (catch x bs) no_last) h b = try_catch_said ss (catch x bs) (block_said ss (stmts_said side ss h.0)) (catch_spelled x bs h.1.0 (block_said bs (stmts_said side bs h.1.1))) b
  stmt_said side (Try ss (catch x bs) (last fs)) h b = try_both_said ss fs (catch x bs) (block_said ss (stmts_said side ss h.0)) (catch_spelled x bs h.1.0 (block_said bs (stmts_said side bs h.1.1))) (block_said fs (stmts_said side fs h.2)) b
  stmt_said side (Value e) h b = value_said e (said_of (exact side e h)) b
  stmt_said side Empty h b = sp_empty
  stmt_said side (Switch e cs) h b = switch_said e cs h.0 (said_of (exact side e h.1)) (clauses_said side cs h.2) b

  clauses_said : (side : Side) (cs : Clauses) → ClausesOn side cs → ClausesSaid side None cs
  clauses_said side no_clauses h b = sp_no_clauses
  clauses_said side (clause None ss no_clauses) h b = default_said ss (stmts_said side ss h) b
  clauses_said side (clause None ss (clause n rs cs)) h b = absurd h
  clauses_said side (clause (Some n) ss cs) h b = case_said n ss cs h.0 (stmts_said side ss h.1) (clauses_said side cs h.2) b

  pub stmts_said : (side : Side) (ss : Stmts) → StmtsOn side ss → StmtsSaid side None ss
  stmts_said side end h b = sp_end
  stmts_said side (next st ss) h b = next_said st ss (stmt_said side st h.0) (stmts_said side ss h.1) b
