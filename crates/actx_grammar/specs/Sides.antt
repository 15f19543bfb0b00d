-- Which trees a side spells, by their parts: what some tokens spell on a side, limits put aside, is told by the tree alone.
use Rattle.std.specs.Prelude.{◌≡◌, ℕ, ◌≤◌, List, All, false, Option, Some, None, ◌⊎◌, ◌↔◌}
use Rattle.actx_grammar.specs.declared.operators.Form.{Form}
use Rattle.actx_grammar.specs.declared.operators.Form.TheVariants.{CallWith}
use Rattle.actx_grammar.specs.declared.operators.FunctionKind.{FunctionKind}
use Rattle.actx_grammar.specs.declared.operators.FunctionKind.TheVariants.{Normal, Arrow, Generator, Async, AsyncArrow}
use Rattle.actx_grammar.specs.declared.side.Side.{Side}
use Rattle.actx_grammar.specs.declared.side.Side.TheVariants.{Source, Plain}
use Rattle.actx_grammar.specs.declared.token.Keyword.{Keyword}
use Rattle.actx_grammar.specs.declared.token.TokenKind.TheVariants as t
use Rattle.actx_grammar.specs.Forms.{change_of, HasWords, Suits}
use Rattle.actx_grammar.specs.Grammar.{count, IsBody, ends_open, HasSpelling}
use Rattle.actx_grammar.specs.Names.{IsBinding, IsReference, IsOwnName, IsKey}
use Rattle.actx_grammar.specs.Tree.{Expr, Num, Text, Truth, Null, Undefined, This, Named, Unary, Binary, Logic, Choice, SetName, SetMember, Change, Bump, Member, Call, Object, Function, Yield, YieldAll, Await, Built, Exprs, none, also, MaybeExpr, no_expr, some_expr, Key, Dot, Index, PropKey, Fixed, Computed, Properties, no_properties, property, code, LetItems, no_lets, let_item, ConstItems, no_consts, const_item, Init, init_nothing, init_let, init_const, init_value, Stmt, Let, Const, Fun, Block, If, While, DoWhile, For, ForOf, ForAwait, Break, Continue, Return, Throw, Try, Value, Empty, Switch, no_stmt, some_stmt, Catch, no_catch, catch, Last, no_last, last, Clauses, no_clauses, clause, Stmts, end, next}
use Rattle.actx_grammar.specs.Words.{IsName, HasForm, keyword_text, greatest_number}

-- a word after a dot: a name, or a reserved word
abbrev pub IsWord : List ℕ → Type 0
IsWord x = IsName x ⊎ ((k : Keyword) × (x ≡ keyword_text k))

-- the kinds of functions that a declaration, an expression and an arrow have
abbrev pub IsDeclared : Side → FunctionKind → Type 0
IsDeclared side Normal = Unit {0}
IsDeclared side Generator = side ≡ Source
IsDeclared side Async = side ≡ Source
IsDeclared side _ = ⊥

abbrev pub IsShape : Side → FunctionKind → Option (List ℕ) → Type 0
IsShape side Arrow None = Unit {0}
IsShape side AsyncArrow None = side ≡ Source
IsShape side Arrow (Some x) = ⊥
IsShape side AsyncArrow (Some x) = ⊥
IsShape side kind x = IsDeclared side kind × IsOwnName side x

-- a form that a side spells: by its words, or as .call
abbrev pub IsFormOf : Side → Form → Exprs → Type 0
IsFormOf Plain CallWith (also f es) = Unit {0}
IsFormOf side form es = HasWords side form × Suits form (count es)

abbrev mutual
  pub ExprOn : Side → Expr → Type 0
  ExprOn side (Num n) = n ≤ greatest_number
  ExprOn side (Text u) = HasForm (t.Text u)
  ExprOn side (Truth value) = Unit {0}
  ExprOn side Null = Unit {0}
  ExprOn side Undefined = Unit {0}
  ExprOn side This = Unit {0}
  ExprOn side (Named x) = IsReference side x
  ExprOn side (Unary op e) = ExprOn side e
  ExprOn side (Binary op a b) = ExprOn side a × ExprOn side b
  ExprOn side (Logic op a b) = ExprOn side a × ExprOn side b
  ExprOn side (Choice e a b) = ExprOn side e × ExprOn side a × ExprOn side b
  ExprOn side (SetName x e) = IsBinding side x × ExprOn side e
  ExprOn side (SetMember b key e) = ExprOn side b × KeyOn side key × ExprOn side e
  ExprOn side (Change x op e) = IsBinding side x × (change_of op ≡ None → ⊥) × ExprOn side e
  ExprOn side (Bump x up before) = IsBinding side x
  ExprOn side (Member b key) = ExprOn side b × KeyOn side key
  ExprOn side (Call f es) = ExprOn side f × ExprsOn side es
  ExprOn side (Object ps) = PropertiesOn side ps
  ExprOn side (Function (code x kind xs ss)) = IsShape side kind x × All (IsBinding side) xs × StmtsOn side ss
  ExprOn side (Yield o) = (side ≡ Source) × MaybeOn side o
  ExprOn side (YieldAll e) = (side ≡ Source) × ExprOn side e
  ExprOn side (Await e) = (side ≡ Source) × ExprOn side e
  ExprOn side (Built form es) = IsFormOf side form es × ExprsOn side es

  pub ExprsOn : Side → Exprs → Type 0
  ExprsOn side none = Unit {0}
  ExprsOn side (also e es) = ExprOn side e × ExprsOn side es

  pub MaybeOn : Side → MaybeExpr → Type 0
  MaybeOn side no_expr = Unit {0}
  MaybeOn side (some_expr e) = ExprOn side e

  pub KeyOn : Side → Key → Type 0
  KeyOn side (Dot x) = IsWord x × IsKey side x
  KeyOn side (Index e) = ExprOn side e

  pub PropKeyOn : Side → PropKey → Type 0
  PropKeyOn side (Fixed u) = HasForm (t.Text u)
  PropKeyOn side (Computed e) = ExprOn side e

  pub PropertiesOn : Side → Properties → Type 0
  PropertiesOn side no_properties = Unit {0}
  PropertiesOn side (property key e ps) = PropKeyOn side key × ExprOn side e × PropertiesOn side ps

  pub LetsOn : Side → LetItems → Type 0
  LetsOn side no_lets = Unit {0}
  LetsOn side (let_item x v is) = IsBinding side x × MaybeOn side v × LetsOn side is

  pub ConstsOn : Side → ConstItems → Type 0
  ConstsOn side no_consts = Unit {0}
  ConstsOn side (const_item x e is) = IsBinding side x × ExprOn side e × ConstsOn side is

  pub InitOn : Side → Init → Type 0
  InitOn side init_nothing = Unit {0}
  InitOn side (init_let is) = (is ≡ no_lets → ⊥) × LetsOn side is
  InitOn side (init_const is) = (is ≡ no_consts → ⊥) × ConstsOn side is
  InitOn side (init_value e) = ExprOn side e

  pub StmtOn : Side → Stmt → Type 0
  StmtOn side (Let is) = (is ≡ no_lets → ⊥) × LetsOn side is
  StmtOn side (Const is) = (is ≡ no_consts → ⊥) × ConstsOn side is
  StmtOn side (Fun (code None kind xs ss)) = ⊥
  StmtOn side (Fun (code (Some x) kind xs ss)) = IsDeclared side kind × IsBinding side x × All (IsBinding side) xs × StmtsOn side ss
  StmtOn side (Block ss) = StmtsOn side ss
  StmtOn side (If e branch no_stmt) = ExprOn side e × IsBody branch × StmtOn side branch
  StmtOn side (If e branch (some_stmt other)) = ExprOn side e × (IsBody branch × StmtOn side branch) × (ends_open branch ≡ false) × IsBody other × StmtOn side other
  StmtOn side (While e body) = ExprOn side e × IsBody body × StmtOn side body
  StmtOn side (DoWhile body e) = (IsBody body × StmtOn side body) × ExprOn side e
  StmtOn side (For i test update body) = InitOn side i × MaybeOn side test × MaybeOn side update × IsBody body × StmtOn side body
  StmtOn side (ForOf constant x over body) = (side ≡ Source) × IsBinding side x × ExprOn side over × IsBody body × StmtOn side body
  StmtOn side (ForAwait constant x over body) = ⊥
  StmtOn side Break = Unit {0}
  StmtOn side Continue = Unit {0}
  StmtOn side (Return o) = MaybeOn side o
  StmtOn side (Throw e) = ExprOn side e
  StmtOn side (Try block no_catch no_last) = ⊥
  StmtOn side (Try block c final) = StmtsOn side block × CatchOn side c × LastOn side final
  StmtOn side (Value e) = ExprOn side e
  StmtOn side Empty = Unit {0}
  StmtOn side (Switch e cs) = (side ≡ Plain) × ExprOn side e × ClausesOn side cs

  pub CatchOn : Side → Catch → Type 0
  CatchOn side no_catch = Unit {0}
  CatchOn side (catch x ss) = IsOwnName side x × StmtsOn side ss

  pub LastOn : Side → Last → Type 0
  LastOn side no_last = Unit {0}
  LastOn side (last ss) = StmtsOn side ss

  -- a default stands last
  pub ClausesOn : Side → Clauses → Type 0
  ClausesOn side no_clauses = Unit {0}
  ClausesOn side (clause None ss no_clauses) = StmtsOn side ss
  ClausesOn side (clause None ss (clause n rs cs)) = ⊥
  ClausesOn side (clause (Some n) ss cs) = n ≤ greatest_number × StmtsOn side ss × ClausesOn side cs

  pub StmtsOn : Side → Stmts → Type 0
  StmtsOn side end = Unit {0}
  StmtsOn side (next st ss) = StmtOn side st × StmtsOn side ss

-- LAWS
abbrev pub ToldByTheTree : Type 0
ToldByTheTree = (side : Side) (p : Stmts) → StmtsOn side p ↔ HasSpelling side p
