-- The nodes of a program, each with all that stands in it, and what a list of them is read as.
use Rattle.std.specs.Prelude.{ℕ, List, [], ◌∷◌, Option, Some, None, slice_get}
use Rattle.actx_grammar.specs.Tree as t
use Rattle.actx_grammar.specs.Tree.{Expr, Exprs, MaybeExpr, Key, PropKey, Properties, LetItems, ConstItems, Stmt, MaybeStmt, Stmts}

pub data Node : Type 0 where
  ExprNode : (e : Expr) → Node
  StmtNode : (st : Stmt) → Node
  -- a name that is bound, or the key after a dot
  NameNode : (x : List ℕ) → Node
  -- the fixed key of a property
  KeyNode : (u : List ℕ) → Node
  -- an item of a let and of a const
  LetNode : (x : List ℕ) (value : MaybeExpr) → Node
  ConstNode : (x : List ℕ) (value : Expr) → Node

-- what stands for a node where there is none
abbrev pub no_node : Node
no_node = ExprNode t.Undefined

abbrev pub node_or : Option Node → Node
node_or (Some n) = n
node_or None = no_node

-- READ AS WHAT A PLACE ASKS FOR
abbrev pub expr_in : Node → Expr
expr_in (ExprNode e) = e
expr_in _ = t.Undefined

abbrev pub stmt_in : Node → Stmt
stmt_in (StmtNode st) = st
stmt_in _ = t.Empty

abbrev pub name_in : Node → List ℕ
name_in (NameNode x) = x
name_in _ = []

abbrev pub key_in : Node → Key
key_in (NameNode x) = t.Dot x
key_in n = t.Index (expr_in n)

abbrev pub prop_key_in : Node → PropKey
prop_key_in (KeyNode u) = t.Fixed u
prop_key_in n = t.Computed (expr_in n)

abbrev pub let_name : Node → List ℕ
let_name (LetNode x e) = x
let_name _ = []

abbrev pub let_value : Node → MaybeExpr
let_value (LetNode x e) = e
let_value _ = t.no_expr

abbrev pub const_name : Node → List ℕ
const_name (ConstNode x e) = x
const_name _ = []

abbrev pub const_value : Node → Expr
const_value (ConstNode x e) = e
const_value _ = t.Undefined

-- LISTS
abbrev pub nth : List Node → ℕ → Node
nth ns i = node_or (slice_get ns i)

abbrev pub exprs_in : List Node → Exprs
exprs_in [] = t.none
exprs_in (n ∷ ns) = t.also (expr_in n) (exprs_in ns)

abbrev pub maybe_in : List Node → MaybeExpr
maybe_in [] = t.no_expr
maybe_in (n ∷ ns) = t.some_expr (expr_in n)

abbrev pub maybe_stmt_in : List Node → MaybeStmt
maybe_stmt_in [] = t.no_stmt
maybe_stmt_in (n ∷ ns) = t.some_stmt (stmt_in n)

abbrev pub stmts_in : List Node → Stmts
stmts_in [] = t.end
stmts_in (n ∷ ns) = t.next (stmt_in n) (stmts_in ns)

-- key and value, one pair behind another
abbrev pub properties_in : List Node → Properties
properties_in [] = t.no_properties
properties_in (k ∷ []) = t.no_properties
properties_in (k ∷ n ∷ ns) = t.property (prop_key_in k) (expr_in n) (properties_in ns)

abbrev pub lets_in : List Node → LetItems
lets_in [] = t.no_lets
lets_in (n ∷ ns) = t.let_item (let_name n) (let_value n) (lets_in ns)

abbrev pub consts_in : List Node → ConstItems
consts_in [] = t.no_consts
consts_in (n ∷ ns) = t.const_item (const_name n) (const_value n) (consts_in ns)
