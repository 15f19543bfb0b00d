-- A walk over a tree along the tokens that spell it, which notes where each node begins. An expression and its leftmost operands
-- share the parentheses before the first token that is none: which of them stand round which is told by those behind.
use Rattle.std.specs.Prelude.{ℕ, zero, suc, ◌+◌, ◌-◌, nat_lt, slice_set, List, [], ◌∷◌, ◌++◌, length, Bool, true, false, ◌||◌, ◌&&◌, Option, Some, None, if◌then◌else◌}
use Rattle.actx_grammar.specs.declared.operators.Form.{Form}
use Rattle.actx_grammar.specs.declared.operators.Form.TheVariants.{CallWith}
use Rattle.actx_grammar.specs.declared.operators.FunctionKind.{FunctionKind}
use Rattle.actx_grammar.specs.declared.operators.FunctionKind.TheVariants.{Normal, Arrow, Generator, Async, AsyncArrow, AsyncGenerator}
use Rattle.actx_grammar.specs.declared.token.Keyword.TheVariants as k
use Rattle.actx_grammar.specs.declared.token.Sign.{Sign}
use Rattle.actx_grammar.specs.declared.token.Sign.TheVariants as g
use Rattle.actx_grammar.specs.declared.token.TokenKind.{TokenKind}
use Rattle.actx_grammar.specs.declared.token.TokenKind.TheVariants as t
use Rattle.actx_grammar.specs.Forms.{form_words}
use Rattle.actx_grammar.specs.Lexemes.{Lexeme}
use Rattle.actx_grammar.specs.Tree.{Expr, Num, Text, Truth, Null, Undefined, This, Named, Unary, Binary, Logic, Choice, SetName, SetMember, Change, Bump, Member, Call, Object, Function, Yield, YieldAll, Await, Built, Exprs, none, also, MaybeExpr, no_expr, some_expr, Key, Dot, Index, PropKey, Fixed, Computed, Properties, no_properties, property, Code, code, LetItems, no_lets, let_item, ConstItems, no_consts, const_item, Init, init_nothing, init_let, init_const, init_value, Stmt, Let, Const, Fun, Block, If, While, DoWhile, For, ForOf, ForAwait, Break, Continue, Return, Throw, Try, Value, Empty, Switch, MaybeStmt, no_stmt, some_stmt, Catch, no_catch, catch, Last, no_last, last, Clauses, no_clauses, clause, Stmts, end, next}

-- where an expression begins with its parentheses, and where those end that are still open
pub data Group : Type 0 where
  group : (start inner : ℕ) → Group

-- the number of the next token, the tokens from there on, the places so far, and the expressions that have begun
pub data Walk : Type 0 where
  walk : (at : ℕ) (rest : List Lexeme) (places : List ℕ) (groups : List Group) → Walk

abbrev pub at : Walk → ℕ
at (walk n ts ps gs) = n

abbrev pub rest : Walk → List Lexeme
rest (walk n ts ps gs) = ts

abbrev pub places : Walk → List ℕ
places (walk n ts ps gs) = ps

-- TOKENS
abbrev pub is_sign : Sign → TokenKind → Bool
is_sign g.OpenParen (t.Sign g.OpenParen) = true
is_sign g.CloseParen (t.Sign g.CloseParen) = true
is_sign g.OpenBrace (t.Sign g.OpenBrace) = true
is_sign g.Comma (t.Sign g.Comma) = true
is_sign g.Colon (t.Sign g.Colon) = true
is_sign g.Star (t.Sign g.Star) = true
is_sign s t = false

abbrev pub is_name : TokenKind → Bool
is_name (t.Name x) = true
is_name t = false

abbrev pub is_async : TokenKind → Bool
is_async (t.Keyword k.Async) = true
is_async t = false

abbrev pub starts_with : Sign → List Lexeme → Bool
starts_with s [] = false
starts_with s (t ∷ ts) = is_sign s t.kind

abbrev pub step : Walk → Walk
step (walk n [] ps gs) = walk n [] ps gs
step (walk n (t ∷ ts) ps gs) = walk (suc n) ts ps gs

abbrev pub pass : ℕ → Walk → Walk
pass zero w = w
pass (suc k) w = pass k (step w)

-- one that may be left out
abbrev pub pass_if : Bool → Walk → Walk
pass_if true w = step w
pass_if false w = w

abbrev pub comma : Walk → Walk
comma w = pass_if (starts_with g.Comma (rest w)) w

-- NODES
-- a node begins at the token
abbrev pub mark_at : ℕ → Walk → Walk
mark_at m (walk n ts ps gs) = walk n ts (ps ++ m ∷ []) gs

abbrev pub mark : Walk → Walk
mark w = mark_at (at w) w

-- a node begins somewhere among the parentheses here
abbrev pub later : Walk → Walk
later w = mark_at 0 w

-- the node with number i begins behind the parentheses that are still open
abbrev pub settle : ℕ → Walk → Walk
settle i (walk n ts ps (group c o ∷ gs)) = walk n ts (slice_set ps i o) (group c o ∷ gs)
settle i (walk n ts ps []) = walk n ts ps []

-- PARENTHESES
abbrev pub begin : Walk → Walk
begin (walk n ts ps gs) = walk n ts ps (group n n ∷ gs)

abbrev pub leave : Walk → Walk
leave (walk n ts ps []) = walk n ts ps []
leave (walk n ts ps (q ∷ gs)) = walk n ts ps gs

abbrev pub close_some : ℕ → ℕ → ℕ → List Lexeme → List ℕ → List Group → Walk
close_some c o n [] ps gs = walk n [] ps (group c o ∷ gs)
close_some c o n (t ∷ ts) ps gs = if nat_lt c o && is_sign g.CloseParen t.kind then close_some c (o - 1) (suc n) ts ps gs else walk n (t ∷ ts) ps (group c o ∷ gs)

-- those that end here
abbrev pub close : Walk → Walk
close (walk n ts ps []) = walk n ts ps []
close (walk n ts ps (group c o ∷ gs)) = close_some c o n ts ps gs

-- one that begins here
abbrev pub open_more : Walk → Walk
open_more (walk n [] ps gs) = walk n [] ps gs
open_more (walk n (t ∷ ts) ps []) = walk (suc n) ts ps []
open_more (walk n (t ∷ ts) ps (group c o ∷ gs)) = walk (suc n) ts ps (group c (suc n) ∷ gs)

-- all before a first token that is none
abbrev pub open_all : List Lexeme → Walk → Walk
open_all [] w = w
open_all (t ∷ ts) w = if is_sign g.OpenParen t.kind then open_all ts (open_more w) else w

-- an arrow's own parenthesis stands before its parameters
abbrev pub begins_params : List Lexeme → Bool
begins_params [] = false
begins_params (t ∷ ts) = is_sign g.CloseParen t.kind || (is_name t.kind && (starts_with g.Comma ts || starts_with g.CloseParen ts))

-- a parenthesis round an arrow
abbrev pub opens_round : List Lexeme → Bool
opens_round [] = false
opens_round (t ∷ ts) = is_sign g.OpenParen t.kind && (if begins_params ts then false else true)

abbrev pub open_arrow : List Lexeme → Walk → Walk
open_arrow [] w = w
open_arrow (t ∷ ts) w = if opens_round (t ∷ ts) then open_arrow ts (open_more w) else w

-- an expression that begins with no other begins behind all parentheses
abbrev pub own : Walk → Walk
own w = mark (open_all (rest w) w)

abbrev pub own_arrow : FunctionKind → Walk → Walk
own_arrow Arrow w = mark (open_arrow (rest w) w)
own_arrow kind w = own w

-- PARAMETERS AND HEADS
abbrev pub more_names : List (List ℕ) → Walk → Walk
more_names [] w = w
more_names (x ∷ xs) w = more_names xs (step (mark (step w)))

abbrev pub names : List (List ℕ) → Walk → Walk
names [] w = w
names (x ∷ xs) w = more_names xs (step (mark w))

abbrev pub params : List (List ℕ) → Walk → Walk
params xs w = step (comma (names xs (step w)))

abbrev pub arrow_params : List (List ℕ) → Walk → Walk
arrow_params xs w = if starts_with g.OpenParen (rest w) then params xs w else names xs w

abbrev pub own_name : Option (List ℕ) → Walk → Walk
own_name None w = w
own_name (Some x) w = step (mark w)

-- how many words stand before a function's name
abbrev pub head_words : FunctionKind → ℕ
head_words Normal = 1
head_words Arrow = 0
head_words Generator = 2
head_words Async = 2
head_words AsyncArrow = 1
head_words AsyncGenerator = 3

abbrev pub is_arrow : FunctionKind → Bool
is_arrow Arrow = true
is_arrow AsyncArrow = true
is_arrow kind = false

-- whether the word async stands before a key: it is a key itself before a colon
abbrev pub begins_async : List Lexeme → Bool
begins_async [] = false
begins_async (t ∷ ts) = is_async t.kind && (if starts_with g.Colon ts then false else true)

-- whether a word stands before a method's key
abbrev pub has_head : Expr → List Lexeme → Bool
has_head (Function (code x Generator xs ss)) ts = starts_with g.Star ts
has_head (Function (code x Async xs ss)) ts = begins_async ts
has_head e ts = false

-- behind a key: a colon and a value, the parameters of a method, or nothing behind a name alone
abbrev pub by_next : (Walk → Walk) → (Walk → Walk) → (Walk → Walk) → Walk → Walk
by_next colon open_paren alone w = if starts_with g.Colon (rest w) then colon w else (if starts_with g.OpenParen (rest w) then open_paren w else alone w)

abbrev mutual
  -- EXPRESSIONS
  -- an expression behind those round it, and what closes there
  pub spine : Expr → Walk → Walk
  spine (Num n) w = close (step (own w))
  spine (Text u) w = close (step (own w))
  spine (Truth b) w = close (step (own w))
  spine Null w = close (step (own w))
  spine Undefined w = close (step (own w))
  spine This w = close (step (own w))
  spine (Named x) w = close (step (own w))
  spine (Unary op e) w = close (leave (spine e (begin (step (own w)))))
  spine (Binary op a b) w = close (leave (spine b (begin (step (settle (length (places w)) (spine a (later w)))))))
  spine (Logic op a b) w = close (leave (spine b (begin (step (settle (length (places w)) (spine a (later w)))))))
  spine (Choice e a b) w = close (leave (spine b (begin (step (leave (spine a (begin (step (settle (length (places w)) (spine e (later w)))))))))))
  spine (SetName x e) w = close (leave (spine e (begin (pass 2 (own w)))))
  spine (SetMember b key e) w = close (leave (spine e (begin (step (member_key key (settle (length (places w)) (spine b (later w))))))))
  spine (Change x op e) w = close (leave (spine e (begin (pass 2 (own w)))))
  spine (Bump x up before) w = close (pass 2 (own w))
  spine (Member b key) w = close (member_key key (settle (length (places w)) (spine b (later w))))
  spine (Call f es) w = close (step (comma (exprs es (step (settle (length (places w)) (spine f (later w)))))))
  spine (Object ps) w = close (step (comma (properties ps (step (own w)))))
  spine (Function (code x kind xs ss)) w = close (if is_arrow kind then arrow_body ss (step (arrow_params xs (pass (head_words kind) (own_arrow kind w)))) else step (stmts ss (step (params xs (own_name x (pass (head_words kind) (own w)))))))
  spine (Yield e) w = close (maybe e (step (own w)))
  spine (YieldAll e) w = close (leave (spine e (begin (pass 2 (own w)))))
  spine (Await e) w = close (leave (spine e (begin (step (own w)))))
  spine (Built CallWith (also f es)) w = close (step (comma (exprs es (step (pass 2 (settle (length (places w)) (spine f (later w))))))))
  spine (Built form es) w = close (step (comma (exprs es (step (pass (length (form_words form)) (own w))))))

  pub maybe : MaybeExpr → Walk → Walk
  maybe no_expr w = w
  maybe (some_expr e) w = leave (spine e (begin w))

  pub member_key : Key → Walk → Walk
  member_key (Dot x) w = step (mark (step w))
  member_key (Index e) w = step (leave (spine e (begin (step w))))

  pub exprs : Exprs → Walk → Walk
  exprs none w = w
  exprs (also e es) w = more_exprs es (leave (spine e (begin w)))

  pub more_exprs : Exprs → Walk → Walk
  more_exprs none w = w
  more_exprs (also e es) w = more_exprs es (leave (spine e (begin (step w))))

  -- PROPERTIES
  pub properties : Properties → Walk → Walk
  properties no_properties w = w
  properties (property key e ps) w = more_properties ps (by_next (λ v. leave (spine e (begin (step v)))) (method e (at w)) (mark_at (at w)) (prop_key key (pass_if (has_head e (rest w)) w)))

  pub more_properties : Properties → Walk → Walk
  more_properties no_properties w = w
  more_properties (property key e ps) w = more_properties ps (by_next (λ v. leave (spine e (begin (step v)))) (method e (at (step w))) (mark_at (at (step w))) (prop_key key (pass_if (has_head e (rest (step w))) (step w))))

  pub prop_key : PropKey → Walk → Walk
  prop_key (Fixed u) w = step (mark w)
  prop_key (Computed e) w = step (leave (spine e (begin (step w))))

  -- a method that begins at a token before
  pub method : Expr → ℕ → Walk → Walk
  method (Function (code x kind xs ss)) n w = step (stmts ss (step (params xs (mark_at n w))))
  method e n w = w

  -- the body of an arrow: a list, or an expression, whose return begins with it
  pub arrow_body : Stmts → Walk → Walk
  arrow_body end w = pass 2 w
  arrow_body (next st ss) w = if starts_with g.OpenBrace (rest w) then step (stmts ss (stmt st (step w))) else short st w

  pub short : Stmt → Walk → Walk
  short (Return e) w = short_value e w
  short st w = w

  pub short_value : MaybeExpr → Walk → Walk
  short_value no_expr w = w
  short_value (some_expr e) w = leave (spine e (begin (mark w)))

  -- ITEMS
  pub lets : LetItems → Walk → Walk
  lets no_lets w = w
  lets (let_item x v is) w = more_lets is (let_value v (step (mark w)))

  pub more_lets : LetItems → Walk → Walk
  more_lets no_lets w = w
  more_lets (let_item x v is) w = more_lets is (let_value v (step (mark (step w))))

  pub let_value : MaybeExpr → Walk → Walk
  let_value no_expr w = w
  let_value (some_expr e) w = leave (spine e (begin (step w)))

  pub consts : ConstItems → Walk → Walk
  consts no_consts w = w
  consts (const_item x e is) w = more_consts is (leave (spine e (begin (pass 2 (mark w)))))

  pub more_consts : ConstItems → Walk → Walk
  more_consts no_consts w = w
  more_consts (const_item x e is) w = more_consts is (leave (spine e (begin (pass 2 (mark (step w))))))

  pub init : Init → Walk → Walk
  init init_nothing w = w
  init (init_let is) w = lets is (step w)
  init (init_const is) w = consts is (step w)
  init (init_value e) w = leave (spine e (begin w))

  -- STATEMENTS
  pub stmt : Stmt → Walk → Walk
  stmt (Let is) w = step (lets is (step (mark w)))
  stmt (Const is) w = step (consts is (step (mark w)))
  stmt (Fun (code x kind xs ss)) w = step (stmts ss (step (params xs (own_name x (pass (head_words kind) (mark w))))))
  stmt (Block ss) w = step (stmts ss (step (mark w)))
  stmt (If e branch alternative) w = other alternative (stmt branch (step (leave (spine e (begin (pass 2 (mark w)))))))
  stmt (While e body) w = stmt body (step (leave (spine e (begin (pass 2 (mark w))))))
  stmt (DoWhile body e) w = pass 2 (leave (spine e (begin (pass 2 (stmt body (step (mark w)))))))
  stmt (For i test update body) w = stmt body (step (maybe update (step (maybe test (step (init i (pass 2 (mark w))))))))
  stmt (ForOf constant x over body) w = stmt body (step (leave (spine over (begin (pass 2 (mark (pass 3 (mark w))))))))
  stmt (ForAwait constant x over body) w = w
  stmt Break w = pass 2 (mark w)
  stmt Continue w = pass 2 (mark w)
  stmt (Return e) w = step (maybe e (step (mark w)))
  stmt (Throw e) w = step (leave (spine e (begin (step (mark w)))))
  stmt (Try block c final) w = finally final (caught c (step (stmts block (step (step (mark w))))))
  stmt (Value e) w = step (leave (spine e (begin (mark w))))
  stmt Empty w = step (mark w)
  stmt (Switch e cs) w = step (clauses cs (pass 2 (leave (spine e (begin (pass 2 (mark w)))))))

  pub other : MaybeStmt → Walk → Walk
  other no_stmt w = w
  other (some_stmt st) w = stmt st (step w)

  pub caught : Catch → Walk → Walk
  caught no_catch w = w
  caught (catch None ss) w = step (stmts ss (step (step w)))
  caught (catch (Some x) ss) w = step (stmts ss (step (pass 2 (mark (pass 2 w)))))

  pub finally : Last → Walk → Walk
  finally no_last w = w
  finally (last ss) w = step (stmts ss (step (step w)))

  pub clauses : Clauses → Walk → Walk
  clauses no_clauses w = w
  clauses (clause None ss cs) w = clauses cs (stmts ss (pass 2 w))
  clauses (clause (Some n) ss cs) w = clauses cs (stmts ss (pass 3 w))

  pub stmts : Stmts → Walk → Walk
  stmts end w = w
  stmts (next st ss) w = stmts ss (stmt st w)

-- an expression with its own parentheses
abbrev pub expr : Expr → Walk → Walk
expr e w = leave (spine e (begin w))

abbrev pub arguments : Exprs → Walk → Walk
arguments es w = step (comma (exprs es (step w)))

-- a call by the word `call`
abbrev pub call_with : Exprs → Walk → Walk
call_with none w = close (arguments none (own w))
call_with (also f es) w = close (arguments es (pass 2 (settle (length (places w)) (spine f (later w)))))

abbrev pub braces : Stmts → Walk → Walk
braces ss w = step (stmts ss (step w))

abbrev pub function : Option (List ℕ) → FunctionKind → List (List ℕ) → Stmts → Walk → Walk
function x kind xs ss w = braces ss (params xs (own_name x (pass (head_words kind) w)))

abbrev pub arrow : FunctionKind → List (List ℕ) → Stmts → Walk → Walk
arrow kind xs ss w = arrow_body ss (step (arrow_params xs (pass (head_words kind) w)))

abbrev pub value : Expr → ℕ → Walk → Walk
value e n w = by_next (λ v. expr e (step v)) (method e n) (mark_at n) w

-- what stands before the block of a catch
abbrev pub catch_head : Option (List ℕ) → Walk → Walk
catch_head None w = step w
catch_head (Some x) w = pass 2 (mark (pass 2 w))

-- how many tokens stand before a clause's statements
abbrev pub clause_words : Option ℕ → ℕ
clause_words None = 2
clause_words (Some n) = 3

-- a loop over a generator
abbrev pub stmt_of : Expr → Stmt → Walk → Walk
stmt_of over body w = stmt body (step (expr over (pass 2 (mark (pass 3 (mark w))))))

-- the places of a program's nodes
abbrev pub places_of : Stmts → List Lexeme → List ℕ
places_of p ts = places (stmts p (walk 0 ts [] []))
