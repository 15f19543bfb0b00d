-- The program that is emitted: the prelude, and then the program with its names renamed and its forms as calls of the prelude.
use Rattle.std.specs.Prelude.{◌≡◌, ℕ, List, [], ◌∷◌, Option, Some, None}
use Rattle.actx_grammar.specs.declared.operators.Form.{Form}
use Rattle.actx_grammar.specs.declared.operators.Form.TheVariants.{NewVariable}
use Rattle.actx_grammar.specs.Tree.{Expr, Num, Text, Undefined, This, Named, Binary, Member, SetMember, Call, Object, Function, Built, Exprs, none, also, MaybeExpr, no_expr, some_expr, Key, Dot, Index, PropKey, Fixed, Computed, Properties, no_properties, property, Code, code, ConstItems, no_consts, const_item, Stmt, Const, Value, Return, Empty, Stmts, end, next}
use Rattle.actx_rules.specs.Prelude.{prelude, name_variable}

-- a name of the program is emitted with p_ before it
abbrev pub p_ : List ℕ → List ℕ
p_ x = 112 ∷ 95 ∷ x

abbrev pub names_renamed : List (List ℕ) → List (List ℕ)
names_renamed [] = []
names_renamed (x ∷ xs) = p_ x ∷ names_renamed xs

abbrev pub own_renamed : Option (List ℕ) → Option (List ℕ)
own_renamed None = None
own_renamed (Some x) = Some (p_ x)

-- a form of the source as a call of the prelude's function for it, and any other form as it is
abbrev pub form_emitted : Form → Exprs → Expr
form_emitted NewVariable es = Call (Named name_variable) es
form_emitted form es = Built form es

-- what isn't taken has nothing in its place
abbrev mutual
  pub renamed : Expr → Expr
  renamed (Num n) = Num n
  renamed (Text u) = Text u
  renamed Undefined = Undefined
  renamed This = This
  renamed (Named x) = Named (p_ x)
  renamed (Binary op a b) = Binary op (renamed a) (renamed b)
  renamed (Member e key) = Member (renamed e) (key_renamed key)
  renamed (Call f es) = Call (renamed f) (all_renamed es)
  renamed (Object ps) = Object (properties_renamed ps)
  renamed (Function f) = Function (code_renamed f)
  renamed (Built form es) = form_emitted form (all_renamed es)
  renamed _ = Undefined

  pub key_renamed : Key → Key
  key_renamed (Dot x) = Dot x
  key_renamed (Index e) = Index (renamed e)

  pub prop_key_renamed : PropKey → PropKey
  prop_key_renamed (Fixed u) = Fixed u
  prop_key_renamed (Computed e) = Computed (renamed e)

  pub code_renamed : Code → Code
  code_renamed (code x kind xs ss) = code (own_renamed x) kind (names_renamed xs) (program_renamed ss)

  pub value_renamed : MaybeExpr → MaybeExpr
  value_renamed no_expr = no_expr
  value_renamed (some_expr e) = some_expr (renamed e)

  pub all_renamed : Exprs → Exprs
  all_renamed none = none
  all_renamed (also e es) = also (renamed e) (all_renamed es)

  pub properties_renamed : Properties → Properties
  properties_renamed no_properties = no_properties
  properties_renamed (property key e ps) = property (prop_key_renamed key) (renamed e) (properties_renamed ps)

  pub items_renamed : ConstItems → ConstItems
  items_renamed no_consts = no_consts
  items_renamed (const_item x e is) = const_item (p_ x) (renamed e) (items_renamed is)

  pub stmt_renamed : Stmt → Stmt
  stmt_renamed (Const is) = Const (items_renamed is)
  stmt_renamed (Value e) = Value (renamed e)
  stmt_renamed (Return o) = Return (value_renamed o)
  stmt_renamed _ = Empty

  pub program_renamed : Stmts → Stmts
  program_renamed end = end
  program_renamed (next st ss) = next (stmt_renamed st) (program_renamed ss)

-- one list of statements behind another
abbrev pub followed_by : Stmts → Stmts → Stmts
followed_by end ts = ts
followed_by (next st ss) ts = next st (followed_by ss ts)

-- the emitted program
abbrev pub low : Stmts → Stmts
low p = followed_by prelude (program_renamed p)

-- the emitted program is the prelude, and then the program's own statements in their order
pub record OwnPart (p q : Stmts) : Type 0 where
  pub rest : Stmts
  pub begins : q ≡ followed_by prelude rest
  pub own : rest ≡ program_renamed p
