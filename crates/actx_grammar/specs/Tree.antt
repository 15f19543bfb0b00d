-- Trees of programs, as the rules and passes speak of them (ECMA-262, 13 to 15).
use Rattle.std.specs.Prelude.{ℕ, List, Bool, Option}
use Rattle.actx_grammar.specs.declared.operators.BinaryOp.{BinaryOp}
use Rattle.actx_grammar.specs.declared.operators.Form.{Form}
use Rattle.actx_grammar.specs.declared.operators.FunctionKind.{FunctionKind}
use Rattle.actx_grammar.specs.declared.operators.LogicOp.{LogicOp}
use Rattle.actx_grammar.specs.declared.operators.UnaryOp.{UnaryOp}

mutual
  pub data Expr : Type 0 where
    Num : (n : ℕ) → Expr
    Text : (units : List ℕ) → Expr
    Truth : (value : Bool) → Expr
    Null : Expr
    Undefined : Expr
    This : Expr
    Named : (x : List ℕ) → Expr
    Unary : (op : UnaryOp) (e : Expr) → Expr
    Binary : (op : BinaryOp) (left right : Expr) → Expr
    Logic : (op : LogicOp) (left right : Expr) → Expr
    Choice : (test yes no : Expr) → Expr
    -- a = e
    SetName : (x : List ℕ) (value : Expr) → Expr
    -- a.b = e and a[b] = e
    SetMember : (base : Expr) (key : Key) (value : Expr) → Expr
    -- a += e and its like
    Change : (x : List ℕ) (op : BinaryOp) (value : Expr) → Expr
    -- ++a, a-- and their like
    Bump : (x : List ℕ) (up before : Bool) → Expr
    Member : (base : Expr) (key : Key) → Expr
    Call : (callee : Expr) (args : Exprs) → Expr
    Object : (properties : Properties) → Expr
    Function : (f : Code) → Expr
    Yield : (value : MaybeExpr) → Expr
    YieldAll : (value : Expr) → Expr
    Await : (value : Expr) → Expr
    -- a built-in form with its parts
    Built : (form : Form) (parts : Exprs) → Expr

  pub data Exprs : Type 0 where
    none : Exprs
    also : (e : Expr) (es : Exprs) → Exprs

  pub data MaybeExpr : Type 0 where
    no_expr : MaybeExpr
    some_expr : (e : Expr) → MaybeExpr

  -- the key of a member: the name after a dot, or the expression in brackets
  pub data Key : Type 0 where
    Dot : (x : List ℕ) → Key
    Index : (e : Expr) → Key

  pub data PropKey : Type 0 where
    Fixed : (units : List ℕ) → PropKey
    Computed : (e : Expr) → PropKey

  -- the properties of an object literal, each a key and its value
  pub data Properties : Type 0 where
    no_properties : Properties
    property : (key : PropKey) (value : Expr) (ps : Properties) → Properties

  -- a function: of a declaration, an expression, an arrow or a method
  pub data Code : Type 0 where
    code : (name : Option (List ℕ)) (kind : FunctionKind) (params : List (List ℕ)) (body : Stmts) → Code

  -- the items of a let and of a const
  pub data LetItems : Type 0 where
    no_lets : LetItems
    let_item : (x : List ℕ) (value : MaybeExpr) (is : LetItems) → LetItems

  pub data ConstItems : Type 0 where
    no_consts : ConstItems
    const_item : (x : List ℕ) (value : Expr) (is : ConstItems) → ConstItems

  -- what a for begins with
  pub data Init : Type 0 where
    init_nothing : Init
    init_let : (is : LetItems) → Init
    init_const : (is : ConstItems) → Init
    init_value : (e : Expr) → Init

  pub data Stmt : Type 0 where
    Let : (is : LetItems) → Stmt
    Const : (is : ConstItems) → Stmt
    Fun : (f : Code) → Stmt
    Block : (ss : Stmts) → Stmt
    If : (test : Expr) (yes : Stmt) (no : MaybeStmt) → Stmt
    While : (test : Expr) (body : Stmt) → Stmt
    DoWhile : (body : Stmt) (test : Expr) → Stmt
    For : (init : Init) (test update : MaybeExpr) (body : Stmt) → Stmt
    ForOf : (constant : Bool) (x : List ℕ) (over : Expr) (body : Stmt) → Stmt
    ForAwait : (constant : Bool) (x : List ℕ) (over : Expr) (body : Stmt) → Stmt
    Break : Stmt
    Continue : Stmt
    Return : (value : MaybeExpr) → Stmt
    Throw : (value : Expr) → Stmt
    Try : (block : Stmts) (catcher : Catch) (last : Last) → Stmt
    Value : (e : Expr) → Stmt
    Empty : Stmt
    Switch : (e : Expr) (cs : Clauses) → Stmt

  pub data MaybeStmt : Type 0 where
    no_stmt : MaybeStmt
    some_stmt : (st : Stmt) → MaybeStmt

  -- the catch part of a try, with the name of what was thrown or without
  pub data Catch : Type 0 where
    no_catch : Catch
    catch : (x : Option (List ℕ)) (body : Stmts) → Catch

  -- the finally part of a try
  pub data Last : Type 0 where
    no_last : Last
    last : (ss : Stmts) → Last

  -- the clauses of a switch, each with its number, or none of the default
  pub data Clauses : Type 0 where
    no_clauses : Clauses
    clause : (number : Option ℕ) (body : Stmts) (cs : Clauses) → Clauses

  pub data Stmts : Type 0 where
    end : Stmts
    next : (st : Stmt) (ss : Stmts) → Stmts
