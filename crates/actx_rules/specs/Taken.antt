-- THE FORMS THAT RUN: the first node of a tree that doesn't, by its number; n is the number of the tree's first node.
use Rattle.std.specs.Prelude.{◌≡◌, ℕ, suc, ◌+◌, nat_le, List, [], ◌∷◌, length, Bool, true, false, Option, Some, None, codes}
use Rattle.actx_grammar.specs.declared.operators.BinaryOp.{BinaryOp}
use Rattle.actx_grammar.specs.declared.operators.BinaryOp.TheVariants as o
use Rattle.actx_grammar.specs.declared.operators.Form.TheVariants.{Log, NewVariable}
use Rattle.actx_grammar.specs.declared.operators.FunctionKind.TheVariants.{Arrow}
use Rattle.actx_grammar.specs.Grammar.{count}
use Rattle.actx_grammar.specs.Nodes.{expr_nodes, prop_key_nodes, stmt_nodes}
use Rattle.actx_grammar.specs.Static.{is_among}
use Rattle.actx_grammar.specs.Tree.{Expr, Num, Text, Undefined, Named, Binary, Member, Call, Object, Function, Built, Exprs, none, also, MaybeExpr, no_expr, some_expr, Key, Dot, Index, PropKey, Fixed, Computed, Properties, no_properties, property, Code, code, ConstItems, no_consts, const_item, Stmt, Const, Value, Return, Stmts, end, next}
use Rattle.actx_rules.specs.State.{or_else}

-- the properties that a program of today reads
abbrev pub member_names : List (List ℕ)
member_names = codes "get" ∷ codes "run" ∷ codes "name" ∷ []

-- the greatest number of units of a text
abbrev pub longest_text : ℕ
longest_text = 1048576

abbrev pub is_operator : BinaryOp → Bool
is_operator o.Add = true
is_operator o.Sub = true
is_operator o.Mul = true
is_operator _ = false

-- the node, unless it is taken
abbrev pub unless : Bool → ℕ → Option ℕ
unless true n = None
unless false n = Some n

abbrev pub untaken_key : ℕ → Key → Option ℕ
untaken_key n (Dot x) = unless (is_among member_names x) n
untaken_key n (Index e) = Some n

abbrev pub untaken_prop_key : ℕ → PropKey → Option ℕ
untaken_prop_key n (Fixed u) = None
untaken_prop_key n (Computed e) = Some n

-- an object literal stands as a variable's options alone
abbrev mutual
  pub untaken : ℕ → Expr → Option ℕ
  untaken n (Num m) = None
  untaken n (Text u) = unless (nat_le (length u) longest_text) n
  untaken n Undefined = None
  untaken n (Named x) = None
  untaken n (Binary op a b) = or_else (unless (is_operator op) n) (or_else (untaken (suc n) a) (untaken (suc n + expr_nodes a) b))
  untaken n (Member b key) = or_else (untaken (suc n) b) (untaken_key (suc n + expr_nodes b) key)
  untaken n (Call f es) = or_else (unless (nat_le (count es) 8) n) (or_else (untaken (suc n) f) (untaken_list (suc n + expr_nodes f) es))
  untaken n (Function (code None Arrow xs ss)) = untaken_stmts (suc n + length xs) ss
  untaken n (Built Log es) = untaken_list (suc n) es
  untaken n (Built NewVariable es) = untaken_options n es
  untaken n _ = Some n

  -- the parts of a variable's constructor, whose node is n
  pub untaken_options : ℕ → Exprs → Option ℕ
  untaken_options n none = None
  untaken_options n (also e none) = untaken_literal (suc n) e
  untaken_options n (also e (also f es)) = Some n

  pub untaken_literal : ℕ → Expr → Option ℕ
  untaken_literal n (Object ps) = untaken_properties (suc n) ps
  untaken_literal n _ = Some n

  pub untaken_list : ℕ → Exprs → Option ℕ
  untaken_list n none = None
  untaken_list n (also e es) = or_else (untaken n e) (untaken_list (n + expr_nodes e) es)

  pub untaken_properties : ℕ → Properties → Option ℕ
  untaken_properties n no_properties = None
  untaken_properties n (property key e ps) = or_else (untaken_prop_key n key) (or_else (untaken (n + prop_key_nodes key) e) (untaken_properties (n + prop_key_nodes key + expr_nodes e) ps))

  pub untaken_items : ℕ → ConstItems → Option ℕ
  untaken_items n no_consts = None
  untaken_items n (const_item x e is) = or_else (untaken (suc n) e) (untaken_items (suc n + expr_nodes e) is)

  pub untaken_value : ℕ → MaybeExpr → Option ℕ
  untaken_value n no_expr = None
  untaken_value n (some_expr e) = untaken n e

  pub untaken_stmt : ℕ → Stmt → Option ℕ
  untaken_stmt n (Const is) = untaken_items (suc n) is
  untaken_stmt n (Value e) = untaken (suc n) e
  untaken_stmt n (Return o) = untaken_value (suc n) o
  untaken_stmt n _ = Some n

  pub untaken_stmts : ℕ → Stmts → Option ℕ
  untaken_stmts n end = None
  untaken_stmts n (next st ss) = or_else (untaken_stmt n st) (untaken_stmts (n + stmt_nodes st) ss)

-- the first node of a program that isn't taken
abbrev pub first_untaken : Stmts → Option ℕ
first_untaken p = untaken_stmts 0 p

-- all forms of the program run
abbrev pub IsTaken : Stmts → Type 0
IsTaken p = first_untaken p ≡ None
