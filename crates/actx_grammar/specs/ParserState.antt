-- The parser as a machine: a token at a time, over a stack of all that is open, the innermost first.
use Rattle.std.specs.Prelude.{ℕ, suc, ◌+◌, max, List, [], ◌∷◌, Bool, true, false, nat_le, Option, Some, None, if◌then◌else◌}
use Rattle.actx_grammar.specs.declared.operators.BinaryOp.{BinaryOp}
use Rattle.actx_grammar.specs.declared.operators.Form.{Form}
use Rattle.actx_grammar.specs.declared.operators.FunctionKind.{FunctionKind}
use Rattle.actx_grammar.specs.declared.operators.LogicOp.{LogicOp}
use Rattle.actx_grammar.specs.declared.operators.LogicOp.TheVariants.{And, Or, Coalesce}
use Rattle.actx_grammar.specs.declared.operators.UnaryOp.{UnaryOp}
use Rattle.actx_grammar.specs.declared.token.TokenKind.{TokenKind}
use Rattle.actx_grammar.specs.Forms.{level_of}
use Rattle.actx_grammar.specs.Tree.{Expr, Logic, Unary, Binary, Choice, SetName, SetMember, Change, Yield, YieldAll, Await, Function, some_expr, Exprs, Key, PropKey, Properties, code, MaybeExpr, LetItems, ConstItems, Init, Stmt, Return, Catch, Clauses, Stmts, end, next}

-- LIMITS
-- the greatest depth, and how many parameters or arguments a list takes; none where they are put aside
pub record Limits : Type 0 where
  pub depth : Option ℕ
  pub most : Option ℕ

abbrev pub at_most : Option ℕ → ℕ → Bool
at_most None n = true
at_most (Some m) n = nat_le n m

abbrev pub fits : Limits → ℕ → Bool
fits lim reach = at_most lim.depth reach

-- whether one more argument or parameter is taken behind so many
abbrev pub takes_more : Limits → ℕ → Bool
takes_more lim n = at_most lim.most (suc n)

-- FUNCTIONS UNDER WAY
-- what a function that is read is: an expression, a declaration, or the method of a key behind some properties
pub data Role : Type 0 where
  expression : Role
  declaration : Role
  method : (ps : Properties) (key : PropKey) (reach : ℕ) → Role

-- what stands before its parameters; an arrow has neither name nor role
pub data Head : Type 0 where
  arrow_head : (kind : FunctionKind) → Head
  function_head : (role : Role) (kind : FunctionKind) (name : Option (List ℕ)) → Head

-- whose items a let or const has: a statement's or a for's
pub data ItemsOf : Type 0 where
  of_statement : ItemsOf
  of_for : ItemsOf

-- LISTS OF STATEMENTS UNDER WAY
pub data ListOwner : Type 0 where
  program : ListOwner
  body : (h : Head) (xs : List (List ℕ)) → ListOwner
  block : ListOwner
  tried : ListOwner
  -- the catch part behind a block
  caught : (block : Stmts) (x : Option (List ℕ)) → ListOwner
  -- the finally part behind a block and its catch part
  finally : (block : Stmts) (c : Catch) → ListOwner
  -- a clause of a switch, behind others
  clause_of : (e : Expr) (cs : Clauses) (number : Option ℕ) → ListOwner

-- WHAT IS OPEN; the reach of what is held is the depth of its deepest part in the whole text
pub data Frame : Type 0 where
  -- an operator and its left operand
  in_unary : (op : UnaryOp) → Frame
  in_await : Frame
  in_binary : (op : BinaryOp) (left : Expr) (reach : ℕ) → Frame
  in_logic : (op : LogicOp) (left : Expr) (reach : ℕ) → Frame
  -- what stands between ? and : behind a test, and what stands behind both
  in_choice : (test : Expr) (reach : ℕ) → Frame
  in_other : (test yes : Expr) (reach : ℕ) → Frame
  in_paren : Frame
  in_call : (callee : Expr) (es : Exprs) (reach : ℕ) → Frame
  in_form : (form : Form) (es : Exprs) (reach : ℕ) → Frame
  -- the value that is assigned
  in_set_name : (x : List ℕ) → Frame
  in_set : (base : Expr) (key : Key) (reach : ℕ) → Frame
  in_change : (x : List ℕ) (op : BinaryOp) → Frame
  -- an expression in brackets: of a member, of a property's key behind what stands before a method's
  in_index : (base : Expr) (reach : ℕ) → Frame
  in_computed : (ps : Properties) (kind : Option FunctionKind) (reach : ℕ) → Frame
  -- the value of a key behind some properties
  in_property : (ps : Properties) (key : PropKey) (reach : ℕ) → Frame
  -- the expression that is an arrow's body
  in_arrow : (kind : FunctionKind) (xs : List (List ℕ)) → Frame
  in_yield : Frame
  in_yield_all : Frame
  -- the expressions of statements
  in_value : Frame
  in_let : (of : ItemsOf) (is : LetItems) (x : List ℕ) (reach : ℕ) → Frame
  in_const : (of : ItemsOf) (is : ConstItems) (x : List ℕ) (reach : ℕ) → Frame
  in_return : Frame
  in_throw : Frame
  in_if : Frame
  in_while : Frame
  in_do_test : (body : Stmt) (reach : ℕ) → Frame
  in_for_init : Frame
  in_for_test : (i : Init) (reach : ℕ) → Frame
  in_for_update : (i : Init) (test : MaybeExpr) (reach : ℕ) → Frame
  in_for_over : (constant : Bool) (x : List ℕ) → Frame
  in_switch : Frame
  -- the statements in statements
  yes_of : (test : Expr) (reach : ℕ) → Frame
  no_of : (test : Expr) (yes : Stmt) (reach : ℕ) → Frame
  while_of : (test : Expr) (reach : ℕ) → Frame
  do_of : Frame
  for_body : (i : Init) (test update : MaybeExpr) (reach : ℕ) → Frame
  for_of_body : (constant : Bool) (x : List ℕ) (over : Expr) (reach : ℕ) → Frame
  -- the statements of a list so far
  in_list : (owner : ListOwner) (ss : Stmts) (reach : ℕ) → Frame

-- WHAT IS WANTED NEXT
pub data Mode : Type 0 where
  -- a statement or the end of the list; a statement that is no declaration; what may stand behind a statement
  start : Mode
  body_start : Mode
  have_stmt : (st : Stmt) (reach : ℕ) → Mode
  -- an operand
  need : Mode
  -- something behind an operand; behind a member, which may be assigned; behind a name; behind ++ and --
  have : (e : Expr) (reach : ℕ) → Mode
  have_member : (base : Expr) (key : Key) (reach : ℕ) → Mode
  have_name : (x : List ℕ) → Mode
  have_bump : (e : Expr) → Mode
  -- something behind an expression that no operator goes on
  whole : (e : Expr) (reach : ℕ) → Mode
  -- behind a parenthesis where an operand begins, behind a name there, and behind a name in parentheses
  opened : Mode
  first_name : (x : List ℕ) → Mode
  closed_name : (x : List ℕ) → Mode
  -- the name behind ++ or --
  bump_name : (up : Bool) → Mode
  yield_next : Mode
  -- behind async: of an expression, or where a statement begins
  async_next : Mode
  async_start : Mode
  -- the rest of what stands before parameters
  function_next : (role : Role) → Mode
  name_next : (role : Role) (kind : FunctionKind) → Mode
  params_open : (h : Head) → Mode
  -- a parameter or the end of the list; something behind a parameter
  param_next : (h : Head) (xs : List (List ℕ)) → Mode
  param_behind : (h : Head) (xs : List (List ℕ)) → Mode
  arrow_sign : (kind : FunctionKind) (xs : List (List ℕ)) → Mode
  arrow_body : (kind : FunctionKind) (xs : List (List ℕ)) → Mode
  body_open : (h : Head) (xs : List (List ℕ)) → Mode
  -- a key or the end of a literal; something behind a key, behind a name, behind async; the key of a method
  key_next : (ps : Properties) (reach : ℕ) → Mode
  key_behind : (ps : Properties) (key : PropKey) (reach : ℕ) → Mode
  key_name : (ps : Properties) (x : List ℕ) (reach : ℕ) → Mode
  key_async : (ps : Properties) (reach : ℕ) → Mode
  key_end : (ps : Properties) (reach : ℕ) → Mode
  method_key : (ps : Properties) (kind : FunctionKind) (reach : ℕ) → Mode
  method_open : (ps : Properties) (kind : FunctionKind) (key : PropKey) (reach : ℕ) → Mode
  -- the word behind a dot, and behind .call
  member_name : (e : Expr) (reach : ℕ) → Mode
  call_open : (e : Expr) (reach : ℕ) → Mode
  -- behind some words of a form
  words_next : (ws : List TokenKind) → Mode
  -- the name of an item, and something behind it
  let_name : (of : ItemsOf) (is : LetItems) (reach : ℕ) → Mode
  let_behind : (of : ItemsOf) (is : LetItems) (x : List ℕ) (reach : ℕ) → Mode
  const_name : (of : ItemsOf) (is : ConstItems) (reach : ℕ) → Mode
  const_behind : (of : ItemsOf) (is : ConstItems) (x : List ℕ) (reach : ℕ) → Mode
  -- the rest of a statement
  jump_end : (st : Stmt) → Mode
  return_next : Mode
  throw_next : Mode
  if_open : Mode
  while_open : Mode
  do_while : (body : Stmt) (reach : ℕ) → Mode
  do_end : (body : Stmt) (test : Expr) (reach : ℕ) → Mode
  for_open : Mode
  for_next : Mode
  for_test : (i : Init) (reach : ℕ) → Mode
  for_update : (i : Init) (test : MaybeExpr) (reach : ℕ) → Mode
  try_open : Mode
  catch_next : (block : Stmts) (reach : ℕ) → Mode
  catch_open : (block : Stmts) (reach : ℕ) → Mode
  catch_name : (block : Stmts) (reach : ℕ) → Mode
  catch_close : (block : Stmts) (x : List ℕ) (reach : ℕ) → Mode
  catch_block : (block : Stmts) (x : List ℕ) (reach : ℕ) → Mode
  finally_next : (block : Stmts) (c : Catch) (reach : ℕ) → Mode
  finally_open : (block : Stmts) (c : Catch) (reach : ℕ) → Mode
  switch_open : Mode
  switch_brace : (e : Expr) (reach : ℕ) → Mode
  clause_next : (e : Expr) (cs : Clauses) (reach : ℕ) → Mode
  case_number : (e : Expr) (cs : Clauses) (reach : ℕ) → Mode
  case_colon : (e : Expr) (cs : Clauses) (number : Option ℕ) (reach : ℕ) → Mode

-- what a token leads to
pub data Move : Type 0 where
  refuse : Move
  go : Mode → List Frame → Move

abbrev pub go_if : Bool → Mode → List Frame → Move
go_if true m s = go m s
go_if false m s = refuse

-- DEPTH
-- how many levels of the depth a frame makes; of a method also its object
abbrev pub role_levels : Head → ℕ
role_levels (function_head (method ps key r) kind x) = 2
role_levels _ = 1

abbrev pub frame_levels : Frame → ℕ
frame_levels (in_arrow kind xs) = 2
frame_levels (in_list program ss r) = 0
frame_levels (in_list (body h xs) ss r) = role_levels h
frame_levels _ = 1

abbrev pub levels : List Frame → ℕ
levels [] = 0
levels (f ∷ s) = frame_levels f + levels s

-- the depth of a node that stands here
abbrev pub here : List Frame → ℕ
here s = suc (levels s)

-- OPERANDS THAT END
-- an operand with what it ends
pub data Settled : Type 0 where
  settled : (e : Expr) (reach : ℕ) (s : List Frame) → Settled

abbrev pub logic_level : LogicOp → ℕ
logic_level And = 4
logic_level Or = 3
logic_level Coalesce = 3

-- what binds at the level at least is ended
abbrev pub settle : ℕ → Expr → ℕ → List Frame → Settled
settle l e r (in_unary op ∷ s) = if nat_le l 9 then settle l (Unary op e) r s else settled e r (in_unary op ∷ s)
settle l e r (in_await ∷ s) = if nat_le l 9 then settle l (Await e) r s else settled e r (in_await ∷ s)
settle l e r (in_binary op a q ∷ s) = if nat_le l (level_of op) then settle l (Binary op a e) (max q r) s else settled e r (in_binary op a q ∷ s)
settle l e r (in_logic op a q ∷ s) = if nat_le l (logic_level op) then settle l (Logic op a e) (max q r) s else settled e r (in_logic op a q ∷ s)
settle l e r (in_other t y q ∷ s) = if nat_le l 2 then settle l (Choice t y e) (max q r) s else settled e r (in_other t y q ∷ s)
settle l e r (in_set_name x ∷ s) = if nat_le l 1 then settle l (SetName x e) r s else settled e r (in_set_name x ∷ s)
settle l e r (in_set b key q ∷ s) = if nat_le l 1 then settle l (SetMember b key e) (max q r) s else settled e r (in_set b key q ∷ s)
settle l e r (in_change x op ∷ s) = if nat_le l 1 then settle l (Change x op e) r s else settled e r (in_change x op ∷ s)
settle l e r (in_arrow kind xs ∷ s) = if nat_le l 1 then settle l (Function (code None kind xs (next (Return (some_expr e)) end))) r s else settled e r (in_arrow kind xs ∷ s)
settle l e r (in_yield ∷ s) = if nat_le l 1 then settle l (Yield (some_expr e)) r s else settled e r (in_yield ∷ s)
settle l e r (in_yield_all ∷ s) = if nat_le l 1 then settle l (YieldAll e) r s else settled e r (in_yield_all ∷ s)
settle l e r s = settled e r s
