-- Trees that correspond: what a program of the forms that run and its emitted program have at the same place.
use Rattle.std.specs.Prelude.{◌≡◌, ℕ, ◌≤◌, Bool, true, List, [], ◌∷◌, Option, Some, None}
use Rattle.actx_data.specs.declared.shown.ErrorName.{ErrorName}
use Rattle.actx_grammar.specs.declared.operators.BinaryOp.{BinaryOp}
use Rattle.actx_grammar.specs.declared.operators.Form.TheVariants.{Log, NewVariable, NewError}
use Rattle.actx_grammar.specs.declared.operators.FunctionKind.{FunctionKind}
use Rattle.actx_grammar.specs.declared.operators.FunctionKind.TheVariants.{Normal as normal_kind, Arrow as arrow_kind}
use Rattle.actx_grammar.specs.declared.operators.LogicOp.{LogicOp}
use Rattle.actx_grammar.specs.declared.operators.UnaryOp.{UnaryOp}
use Rattle.actx_grammar.specs.Grammar.{count}
use Rattle.actx_grammar.specs.ParserOperands.{suits}
use Rattle.actx_grammar.specs.Tree as t
use Rattle.actx_grammar.specs.Tree.{Expr, Exprs, MaybeExpr, Key, PropKey, Properties, Code, LetItems, ConstItems, Init, Stmt, MaybeStmt, Catch, Last, Stmts}
use Rattle.actx_table.specs.Low.{p_}
use Rattle.actx_table.specs.Prelude.{name_variable}

pub data NamesAre : List (List ℕ) → List (List ℕ) → Type 0 where
  no_names : NamesAre [] []
  more_names : (x : List ℕ) {xs ys : List (List ℕ)} → NamesAre xs ys → NamesAre (x ∷ xs) (p_ x ∷ ys)

pub data NameIs : Option (List ℕ) → Option (List ℕ) → Type 0 where
  no_name : NameIs None None
  some_name : (x : List ℕ) → NameIs (Some x) (Some (p_ x))

-- the kinds of function that run at once
pub data RunsAtOnce : FunctionKind → Type 0 where
  normal_runs : RunsAtOnce normal_kind
  arrow_runs : RunsAtOnce arrow_kind

mutual
  pub data ExprIs : Expr → Expr → Type 0 where
    num_expr : (n : ℕ) → ExprIs (t.Num n) (t.Num n)
    text_expr : (u : List ℕ) → ExprIs (t.Text u) (t.Text u)
    truth_expr : (b : Bool) → ExprIs (t.Truth b) (t.Truth b)
    null_expr : ExprIs t.Null t.Null
    undefined_expr : ExprIs t.Undefined t.Undefined
    this_expr : ExprIs t.This t.This
    named_expr : (x : List ℕ) → ExprIs (t.Named x) (t.Named (p_ x))
    unary_expr : (op : UnaryOp) {e d : Expr} → ExprIs e d → ExprIs (t.Unary op e) (t.Unary op d)
    binary_expr : (op : BinaryOp) {a b c d : Expr} → ExprIs a c → ExprIs b d → ExprIs (t.Binary op a b) (t.Binary op c d)
    logic_expr : (op : LogicOp) {a b c d : Expr} → ExprIs a c → ExprIs b d → ExprIs (t.Logic op a b) (t.Logic op c d)
    choice_expr : {e a b d x y : Expr} → ExprIs e d → ExprIs a x → ExprIs b y → ExprIs (t.Choice e a b) (t.Choice d x y)
    set_name_expr : (x : List ℕ) {e d : Expr} → ExprIs e d → ExprIs (t.SetName x e) (t.SetName (p_ x) d)
    set_member_expr : {b c e d : Expr} {key lock : Key} → ExprIs b c → KeyIs key lock → ExprIs e d → ExprIs (t.SetMember b key e) (t.SetMember c lock d)
    change_expr : (x : List ℕ) (op : BinaryOp) {e d : Expr} → ExprIs e d → ExprIs (t.Change x op e) (t.Change (p_ x) op d)
    bump_expr : (x : List ℕ) (up before : Bool) → ExprIs (t.Bump x up before) (t.Bump (p_ x) up before)
    member_expr : {e d : Expr} {key lock : Key} → ExprIs e d → KeyIs key lock → ExprIs (t.Member e key) (t.Member d lock)
    call_expr : {f g : Expr} {es ds : Exprs} → count es ≤ 8 → ExprIs f g → ExprsAre es ds → ExprIs (t.Call f es) (t.Call g ds)
    object_expr : {ps qs : Properties} → PropertiesAre ps qs → ExprIs (t.Object ps) (t.Object qs)
    function_expr : {f g : Code} → CodeIs f g → ExprIs (t.Function f) (t.Function g)
    log_expr : {es ds : Exprs} → ExprsAre es ds → ExprIs (t.Built Log es) (t.Built Log ds)
    error_expr : (name : ErrorName) {es ds : Exprs} → ExprsAre es ds → ExprIs (t.Built (NewError name) es) (t.Built (NewError name) ds)
    -- a variable's constructor is a call of the prelude's function
    variable_expr : {es ds : Exprs} → suits NewVariable (count es) ≡ true → ExprsAre es ds → ExprIs (t.Built NewVariable es) (t.Call (t.Named name_variable) ds)

  pub data KeyIs : Key → Key → Type 0 where
    dot_key : (x : List ℕ) → KeyIs (t.Dot x) (t.Dot x)
    -- a name that no plain text has after a dot
    bracket_key : (x : List ℕ) → KeyIs (t.Dot x) (t.Index (t.Text x))
    index_key : {e d : Expr} → ExprIs e d → KeyIs (t.Index e) (t.Index d)

  pub data ExprsAre : Exprs → Exprs → Type 0 where
    no_exprs : ExprsAre t.none t.none
    more_exprs : {e d : Expr} {es ds : Exprs} → ExprIs e d → ExprsAre es ds → ExprsAre (t.also e es) (t.also d ds)

  pub data MaybeIs : MaybeExpr → MaybeExpr → Type 0 where
    nothing_is : MaybeIs t.no_expr t.no_expr
    something_is : {e d : Expr} → ExprIs e d → MaybeIs (t.some_expr e) (t.some_expr d)

  pub data PropertiesAre : Properties → Properties → Type 0 where
    no_properties_are : PropertiesAre t.no_properties t.no_properties
    fixed_property : (key : List ℕ) {e d : Expr} {ps qs : Properties} → ExprIs e d → PropertiesAre ps qs → PropertiesAre (t.property (t.Fixed key) e ps) (t.property (t.Fixed key) d qs)
    computed_property : {k l e d : Expr} {ps qs : Properties} → ExprIs k l → ExprIs e d → PropertiesAre ps qs → PropertiesAre (t.property (t.Computed k) e ps) (t.property (t.Computed l) d qs)

  pub data CodeIs : Code → Code → Type 0 where
    code_is : {x y : Option (List ℕ)} {kind : FunctionKind} {xs ys : List (List ℕ)} {ss ts : Stmts} → RunsAtOnce kind → NameIs x y → NamesAre xs ys → StmtsAre ss ts → CodeIs (t.code x kind xs ss) (t.code y kind ys ts)

  pub data LetsAre : LetItems → LetItems → Type 0 where
    no_lets_are : LetsAre t.no_lets t.no_lets
    more_lets : (x : List ℕ) {e d : MaybeExpr} {is js : LetItems} → MaybeIs e d → LetsAre is js → LetsAre (t.let_item x e is) (t.let_item (p_ x) d js)

  pub data ConstsAre : ConstItems → ConstItems → Type 0 where
    no_consts_are : ConstsAre t.no_consts t.no_consts
    more_consts : (x : List ℕ) {e d : Expr} {is js : ConstItems} → ExprIs e d → ConstsAre is js → ConstsAre (t.const_item x e is) (t.const_item (p_ x) d js)

  pub data InitIs : Init → Init → Type 0 where
    init_nothing_is : InitIs t.init_nothing t.init_nothing
    init_let_is : {is js : LetItems} → LetsAre is js → InitIs (t.init_let is) (t.init_let js)
    init_const_is : {is js : ConstItems} → ConstsAre is js → InitIs (t.init_const is) (t.init_const js)
    init_value_is : {e d : Expr} → ExprIs e d → InitIs (t.init_value e) (t.init_value d)

  pub data StmtIs : Stmt → Stmt → Type 0 where
    let_stmt : {is js : LetItems} → LetsAre is js → StmtIs (t.Let is) (t.Let js)
    const_stmt : {is js : ConstItems} → ConstsAre is js → StmtIs (t.Const is) (t.Const js)
    fun_stmt : {f g : Code} → CodeIs f g → StmtIs (t.Fun f) (t.Fun g)
    block_stmt : {ss ts : Stmts} → StmtsAre ss ts → StmtIs (t.Block ss) (t.Block ts)
    if_stmt : {e d : Expr} {st dt : Stmt} {other another : MaybeStmt} → ExprIs e d → StmtIs st dt → BranchIs other another → StmtIs (t.If e st other) (t.If d dt another)
    while_stmt : {e d : Expr} {st dt : Stmt} → ExprIs e d → StmtIs st dt → StmtIs (t.While e st) (t.While d dt)
    do_while_stmt : {e d : Expr} {st dt : Stmt} → StmtIs st dt → ExprIs e d → StmtIs (t.DoWhile st e) (t.DoWhile dt d)
    for_stmt : {i j : Init} {test text update change : MaybeExpr} {st dt : Stmt} → InitIs i j → MaybeIs test text → MaybeIs update change → StmtIs st dt → StmtIs (t.For i test update st) (t.For j text change dt)
    break_stmt : StmtIs t.Break t.Break
    continue_stmt : StmtIs t.Continue t.Continue
    return_stmt : {e d : MaybeExpr} → MaybeIs e d → StmtIs (t.Return e) (t.Return d)
    throw_stmt : {e d : Expr} → ExprIs e d → StmtIs (t.Throw e) (t.Throw d)
    try_stmt : {ss ts : Stmts} {c d : Catch} {l m : Last} → StmtsAre ss ts → CatchIs c d → LastIs l m → StmtIs (t.Try ss c l) (t.Try ts d m)
    value_stmt : {e d : Expr} → ExprIs e d → StmtIs (t.Value e) (t.Value d)
    empty_stmt : StmtIs t.Empty t.Empty

  pub data BranchIs : MaybeStmt → MaybeStmt → Type 0 where
    no_branch : BranchIs t.no_stmt t.no_stmt
    some_branch : {st dt : Stmt} → StmtIs st dt → BranchIs (t.some_stmt st) (t.some_stmt dt)

  pub data CatchIs : Catch → Catch → Type 0 where
    no_catch_is : CatchIs t.no_catch t.no_catch
    some_catch : {x y : Option (List ℕ)} {ss ts : Stmts} → NameIs x y → StmtsAre ss ts → CatchIs (t.catch x ss) (t.catch y ts)

  pub data LastIs : Last → Last → Type 0 where
    no_last_is : LastIs t.no_last t.no_last
    some_last : {ss ts : Stmts} → StmtsAre ss ts → LastIs (t.last ss) (t.last ts)

  pub data StmtsAre : Stmts → Stmts → Type 0 where
    no_stmts : StmtsAre t.end t.end
    more_stmts : {st dt : Stmt} {ss ts : Stmts} → StmtIs st dt → StmtsAre ss ts → StmtsAre (t.next st ss) (t.next dt ts)
