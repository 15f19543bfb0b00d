-- THE FORMS THAT RUN: the first node of a tree that doesn't, by its number; n is the number of the tree's first node.
use Rattle.std.specs.Prelude.{◌≡◌, ℕ, suc, ◌+◌, nat_le, length, Bool, true, false, Option, Some, None}
use Rattle.actx_grammar.specs.declared.operators.Form.{Form}
use Rattle.actx_grammar.specs.declared.operators.Form.TheVariants.{Log, NewVariable, NewError}
use Rattle.actx_grammar.specs.Grammar.{count}
use Rattle.actx_grammar.specs.Nodes.{name_nodes, expr_nodes, maybe_nodes, key_nodes, prop_key_nodes, init_nodes, stmt_nodes, catch_nodes, stmts_nodes}
use Rattle.actx_grammar.specs.ParserOperands.{suits}
use Rattle.actx_grammar.specs.Tree as t
use Rattle.actx_grammar.specs.Tree.{Expr, Exprs, MaybeExpr, Key, PropKey, Properties, Code, LetItems, ConstItems, Init, Stmt, MaybeStmt, Catch, Last, Stmts}
use Rattle.actx_table.specs.Expressions.{runs_at_once}
use Rattle.actx_table.specs.Scopes.{or_else}

-- the greatest number of a call's arguments
abbrev pub most_arguments : ℕ
most_arguments = 8

-- the node, unless it is taken
abbrev pub unless : Bool → ℕ → Option ℕ
unless true n = None
unless false n = Some n

-- the built-in forms that run, with so many parts
abbrev pub takes_form : Form → ℕ → Bool
takes_form Log n = true
takes_form NewVariable n = suits NewVariable n
takes_form (NewError name) n = suits (NewError name) n
takes_form _ n = false

abbrev mutual
  pub untaken : ℕ → Expr → Option ℕ
  untaken n (t.Num m) = None
  untaken n (t.Text u) = None
  untaken n (t.Truth b) = None
  untaken n t.Null = None
  untaken n t.Undefined = None
  untaken n t.This = None
  untaken n (t.Named x) = None
  untaken n (t.Unary op e) = untaken (suc n) e
  untaken n (t.Binary op a b) = or_else (untaken (suc n) a) (untaken (suc n + expr_nodes a) b)
  untaken n (t.Logic op a b) = or_else (untaken (suc n) a) (untaken (suc n + expr_nodes a) b)
  untaken n (t.Choice e a b) = or_else (untaken (suc n) e) (or_else (untaken (suc n + expr_nodes e) a) (untaken (suc n + expr_nodes e + expr_nodes a) b))
  untaken n (t.SetName x e) = untaken (suc n) e
  untaken n (t.SetMember b key e) = or_else (untaken (suc n) b) (or_else (untaken_key (suc n + expr_nodes b) key) (untaken (suc n + expr_nodes b + key_nodes key) e))
  untaken n (t.Change x op e) = untaken (suc n) e
  untaken n (t.Bump x up before) = None
  untaken n (t.Member b key) = or_else (untaken (suc n) b) (untaken_key (suc n + expr_nodes b) key)
  untaken n (t.Call f es) = or_else (unless (nat_le (count es) most_arguments) n) (or_else (untaken (suc n) f) (untaken_list (suc n + expr_nodes f) es))
  untaken n (t.Object ps) = untaken_properties (suc n) ps
  untaken n (t.Function f) = untaken_code n f
  untaken n (t.Yield o) = Some n
  untaken n (t.YieldAll e) = Some n
  untaken n (t.Await e) = Some n
  untaken n (t.Built form es) = or_else (unless (takes_form form (count es)) n) (untaken_list (suc n) es)

  pub untaken_list : ℕ → Exprs → Option ℕ
  untaken_list n t.none = None
  untaken_list n (t.also e es) = or_else (untaken n e) (untaken_list (n + expr_nodes e) es)

  pub untaken_maybe : ℕ → MaybeExpr → Option ℕ
  untaken_maybe n t.no_expr = None
  untaken_maybe n (t.some_expr e) = untaken n e

  pub untaken_key : ℕ → Key → Option ℕ
  untaken_key n (t.Dot x) = None
  untaken_key n (t.Index e) = untaken n e

  pub untaken_prop_key : ℕ → PropKey → Option ℕ
  untaken_prop_key n (t.Fixed u) = None
  untaken_prop_key n (t.Computed e) = untaken n e

  pub untaken_properties : ℕ → Properties → Option ℕ
  untaken_properties n t.no_properties = None
  untaken_properties n (t.property key e ps) = or_else (untaken_prop_key n key) (or_else (untaken (n + prop_key_nodes key) e) (untaken_properties (n + prop_key_nodes key + expr_nodes e) ps))

  -- a function, whose node is n
  pub untaken_code : ℕ → Code → Option ℕ
  untaken_code n (t.code x kind xs ss) = or_else (unless (runs_at_once kind) n) (untaken_stmts (suc n + name_nodes x + length xs) ss)

  pub untaken_lets : ℕ → LetItems → Option ℕ
  untaken_lets n t.no_lets = None
  untaken_lets n (t.let_item x e is) = or_else (untaken_maybe (suc n) e) (untaken_lets (suc n + maybe_nodes e) is)

  pub untaken_consts : ℕ → ConstItems → Option ℕ
  untaken_consts n t.no_consts = None
  untaken_consts n (t.const_item x e is) = or_else (untaken (suc n) e) (untaken_consts (suc n + expr_nodes e) is)

  pub untaken_init : ℕ → Init → Option ℕ
  untaken_init n t.init_nothing = None
  untaken_init n (t.init_let is) = untaken_lets n is
  untaken_init n (t.init_const is) = untaken_consts n is
  untaken_init n (t.init_value e) = untaken n e

  pub untaken_stmt : ℕ → Stmt → Option ℕ
  untaken_stmt n (t.Let is) = untaken_lets (suc n) is
  untaken_stmt n (t.Const is) = untaken_consts (suc n) is
  untaken_stmt n (t.Fun f) = untaken_code n f
  untaken_stmt n (t.Block ss) = untaken_stmts (suc n) ss
  untaken_stmt n (t.If e st other) = or_else (untaken (suc n) e) (or_else (untaken_stmt (suc n + expr_nodes e) st) (untaken_branch (suc n + expr_nodes e + stmt_nodes st) other))
  untaken_stmt n (t.While e st) = or_else (untaken (suc n) e) (untaken_stmt (suc n + expr_nodes e) st)
  untaken_stmt n (t.DoWhile st e) = or_else (untaken_stmt (suc n) st) (untaken (suc n + stmt_nodes st) e)
  untaken_stmt n (t.For i test update st) =
      or_else (untaken_init (suc n) i)
      (or_else (untaken_maybe (suc n + init_nodes i) test)
      (or_else (untaken_maybe (suc n + init_nodes i + maybe_nodes test) update) (untaken_stmt (suc n + init_nodes i + maybe_nodes test + maybe_nodes update) st)))
  untaken_stmt n (t.ForOf constant x e st) = Some n
  untaken_stmt n (t.ForAwait constant x e st) = Some n
  untaken_stmt n t.Break = None
  untaken_stmt n t.Continue = None
  untaken_stmt n (t.Return o) = untaken_maybe (suc n) o
  untaken_stmt n (t.Throw e) = untaken (suc n) e
  untaken_stmt n (t.Try ss catcher ending) =
      or_else (untaken_stmts (suc n) ss) (or_else (untaken_catch (suc n + stmts_nodes ss) catcher) (untaken_last (suc n + stmts_nodes ss + catch_nodes catcher) ending))
  untaken_stmt n (t.Value e) = untaken (suc n) e
  untaken_stmt n t.Empty = None
  untaken_stmt n (t.Switch e cs) = Some n

  pub untaken_branch : ℕ → MaybeStmt → Option ℕ
  untaken_branch n t.no_stmt = None
  untaken_branch n (t.some_stmt st) = untaken_stmt n st

  pub untaken_catch : ℕ → Catch → Option ℕ
  untaken_catch n t.no_catch = None
  untaken_catch n (t.catch x ss) = untaken_stmts (n + name_nodes x) ss

  pub untaken_last : ℕ → Last → Option ℕ
  untaken_last n t.no_last = None
  untaken_last n (t.last ss) = untaken_stmts n ss

  pub untaken_stmts : ℕ → Stmts → Option ℕ
  untaken_stmts n t.end = None
  untaken_stmts n (t.next st ss) = or_else (untaken_stmt n st) (untaken_stmts (n + stmt_nodes st) ss)

-- the first node of a program that isn't taken
abbrev pub first_untaken : Stmts → Option ℕ
first_untaken p = untaken_stmts 0 p

-- all forms of the program run
abbrev pub IsTaken : Stmts → Type 0
IsTaken p = first_untaken p ≡ None
