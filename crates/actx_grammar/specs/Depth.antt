-- How deep the tokens of a tree go, as the grammar counts: a node is one deeper than its parent, parentheses are a level, and a
-- list has the greatest depth of its parts.
use Rattle.std.specs.Prelude.{ℕ, suc, max, ◌≤◌, List, Bool, true, false, nat_lt, Option}
use Rattle.actx_grammar.specs.declared.operators.Form.TheVariants.{CallWith}
use Rattle.actx_grammar.specs.declared.side.Side.{Side}
use Rattle.actx_grammar.specs.Forms.{level_of}
use Rattle.actx_grammar.specs.Grammar.{SpellsStmts}
use Rattle.actx_grammar.specs.Layout.{laid}
use Rattle.actx_grammar.specs.Lexemes.{Lexeme}
use Rattle.actx_grammar.specs.Spell.{Start, inner, statement, begins, within, wrapped, logic_level, left_level, right_level, spell_program}
use Rattle.actx_grammar.specs.Tree.{Expr, Num, Text, Truth, Null, Undefined, This, Named, Unary, Binary, Logic, Choice, SetName, SetMember, Change, Bump, Member, Call, Object, Function, Yield, YieldAll, Await, Built, Exprs, none, also, MaybeExpr, no_expr, some_expr, Key, Dot, Index, PropKey, Fixed, Computed, Properties, no_properties, property, code, LetItems, no_lets, let_item, ConstItems, no_consts, const_item, Init, init_nothing, init_let, init_const, init_value, Stmt, Let, Const, Fun, Block, If, While, DoWhile, For, ForOf, ForAwait, Break, Continue, Return, Throw, Try, Value, Empty, Switch, MaybeStmt, no_stmt, some_stmt, Catch, no_catch, catch, Last, no_last, last, Clauses, no_clauses, clause, Stmts, end, next}

-- parentheses are a level
abbrev pub with_parens : Bool → ℕ → ℕ
with_parens true n = suc n
with_parens false n = n

abbrev mutual
  pub depth : Start → Expr → ℕ → ℕ
  depth st (Num n) l = 1
  depth st (Text u) l = 1
  depth st (Truth b) l = 1
  depth st Null l = 1
  depth st Undefined l = 1
  depth st This l = 1
  depth st (Named x) l = 1
  depth st (Unary op e) l = with_parens (nat_lt 9 l) (suc (depth inner e 9))
  depth st (Binary op a b) l = with_parens (nat_lt (level_of op) l) (suc (max (depth (within (nat_lt (level_of op) l) st) a (level_of op)) (depth inner b (suc (level_of op)))))
  depth st (Logic op a b) l = with_parens (nat_lt (logic_level op) l) (suc (max (depth (within (nat_lt (logic_level op) l) st) a (left_level op a)) (depth inner b (right_level op))))
  depth st (Choice e a b) l = with_parens (nat_lt 2 l) (suc (max (depth (within (nat_lt 2 l) st) e 3) (max (depth inner a 1) (depth inner b 1))))
  depth st (SetName x e) l = with_parens (nat_lt 1 l) (suc (depth inner e 1))
  depth st (SetMember e key v) l = with_parens (nat_lt 1 l) (suc (max (depth (within (nat_lt 1 l) st) e 11) (max (depth_key key) (depth inner v 1))))
  depth st (Change x op e) l = with_parens (nat_lt 1 l) (suc (depth inner e 1))
  depth st (Bump x up before) l = with_parens (nat_lt 10 l) 1
  depth st (Member e key) l = with_parens (nat_lt 11 l) (suc (max (depth (within (nat_lt 11 l) st) e 11) (depth_key key)))
  depth st (Call f es) l = with_parens (nat_lt 11 l) (suc (max (depth (within (nat_lt 11 l) st) f 11) (depth_list es)))
  depth st (Object ps) l = with_parens (begins st) (suc (depth_properties ps))
  depth st (Function (code x kind xs ss)) l = with_parens (wrapped kind st l) (suc (depth_program ss))
  depth st (Yield e) l = with_parens (nat_lt 1 l) (suc (depth_maybe e))
  depth st (YieldAll e) l = with_parens (nat_lt 1 l) (suc (depth inner e 1))
  depth st (Await e) l = with_parens (nat_lt 9 l) (suc (depth inner e 9))
  depth st (Built CallWith (also f es)) l = with_parens (nat_lt 11 l) (suc (max (depth (within (nat_lt 11 l) st) f 11) (depth_list es)))
  depth st (Built form es) l = with_parens (nat_lt 11 l) (suc (depth_list es))

  pub depth_key : Key → ℕ
  depth_key (Dot x) = 0
  depth_key (Index e) = depth inner e 1

  pub depth_list : Exprs → ℕ
  depth_list none = 0
  depth_list (also e es) = max (depth inner e 1) (depth_list es)

  pub depth_prop_key : PropKey → ℕ
  depth_prop_key (Fixed u) = 0
  depth_prop_key (Computed e) = depth inner e 1

  pub depth_properties : Properties → ℕ
  depth_properties no_properties = 0
  depth_properties (property key e ps) = max (max (depth_prop_key key) (depth inner e 1)) (depth_properties ps)

  pub depth_maybe : MaybeExpr → ℕ
  depth_maybe no_expr = 0
  depth_maybe (some_expr e) = depth inner e 1

  pub depth_lets : LetItems → ℕ
  depth_lets no_lets = 0
  depth_lets (let_item x v is) = max (depth_maybe v) (depth_lets is)

  pub depth_consts : ConstItems → ℕ
  depth_consts no_consts = 0
  depth_consts (const_item x e is) = max (depth inner e 1) (depth_consts is)

  pub depth_init : Init → ℕ
  depth_init init_nothing = 0
  depth_init (init_let is) = depth_lets is
  depth_init (init_const is) = depth_consts is
  depth_init (init_value e) = depth inner e 1

  pub depth_stmt : Stmt → ℕ
  depth_stmt (Let is) = suc (depth_lets is)
  depth_stmt (Const is) = suc (depth_consts is)
  depth_stmt (Fun (code x kind xs ss)) = suc (depth_program ss)
  depth_stmt (Block ss) = suc (depth_program ss)
  depth_stmt (If e branch other) = suc (max (depth inner e 1) (max (depth_stmt branch) (depth_branch other)))
  depth_stmt (While e st) = suc (max (depth inner e 1) (depth_stmt st))
  depth_stmt (DoWhile st e) = suc (max (depth_stmt st) (depth inner e 1))
  depth_stmt (For i test update st) = suc (max (max (depth_init i) (depth_maybe test)) (max (depth_maybe update) (depth_stmt st)))
  depth_stmt (ForOf constant x over st) = suc (max (depth inner over 1) (depth_stmt st))
  depth_stmt (ForAwait constant x over st) = suc (max (depth inner over 1) (depth_stmt st))
  depth_stmt Break = 1
  depth_stmt Continue = 1
  depth_stmt (Return e) = suc (depth_maybe e)
  depth_stmt (Throw e) = suc (depth inner e 1)
  depth_stmt (Try block c final) = suc (max (depth_program block) (max (depth_catch c) (depth_last final)))
  depth_stmt (Value e) = suc (depth statement e 1)
  depth_stmt Empty = 1
  depth_stmt (Switch e cs) = suc (max (depth inner e 1) (depth_clauses cs))

  pub depth_branch : MaybeStmt → ℕ
  depth_branch no_stmt = 0
  depth_branch (some_stmt st) = depth_stmt st

  pub depth_catch : Catch → ℕ
  depth_catch no_catch = 0
  depth_catch (catch x ss) = depth_program ss

  pub depth_last : Last → ℕ
  depth_last no_last = 0
  depth_last (last ss) = depth_program ss

  pub depth_clauses : Clauses → ℕ
  depth_clauses no_clauses = 0
  depth_clauses (clause n ss cs) = max (depth_program ss) (depth_clauses cs)

  pub depth_program : Stmts → ℕ
  depth_program end = 0
  depth_program (next st ss) = max (depth_stmt st) (depth_program ss)

-- LAW
-- a program's own tokens go no deeper than any that spell it, and spell it within their own depth
abbrev pub Shallowest : Type 0
Shallowest =
    (side : Side) (most : Option ℕ) (d : ℕ) (p : Stmts) (ts : List Lexeme)
    → SpellsStmts side most d p ts
    → (depth_program p ≤ d) × SpellsStmts side most (depth_program p) p (laid (spell_program p))
