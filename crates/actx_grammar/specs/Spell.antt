-- The tokens of a tree, with parentheses only where they are needed: where the place binds more tightly, and round what
-- would begin a statement or an arrow's body as another one. Arrow functions have their parameters in parentheses and a list
-- of statements as their body; fixed keys are texts.
use Rattle.std.specs.Prelude.{ℕ, suc, List, [], ◌∷◌, ◌++◌, Bool, true, false, ◌==◌, nat_lt, Option, Some, None, codes, All, if◌then◌else◌}
use Rattle.std.specs.Cmp.Lexicographic.{pointwise}
use Rattle.actx_grammar.specs.declared.operators.BinaryOp.{BinaryOp}
use Rattle.actx_grammar.specs.declared.operators.Form.TheVariants.{CallWith}
use Rattle.actx_grammar.specs.declared.operators.FunctionKind.{FunctionKind}
use Rattle.actx_grammar.specs.declared.operators.FunctionKind.TheVariants.{Normal, Arrow, Generator, Async, AsyncArrow, AsyncGenerator}
use Rattle.actx_grammar.specs.declared.operators.LogicOp.{LogicOp}
use Rattle.actx_grammar.specs.declared.operators.LogicOp.TheVariants.{And, Or, Coalesce}
use Rattle.actx_grammar.specs.declared.side.Side.{Side}
use Rattle.actx_grammar.specs.declared.token.Keyword.{Keyword}
use Rattle.actx_grammar.specs.declared.token.Keyword.TheVariants as k
use Rattle.actx_grammar.specs.declared.token.Sign.{Sign}
use Rattle.actx_grammar.specs.declared.token.Sign.TheVariants as s
use Rattle.actx_grammar.specs.declared.token.TokenKind.{TokenKind}
use Rattle.actx_grammar.specs.declared.token.TokenKind.TheVariants as t
use Rattle.actx_grammar.specs.Forms.{unary_word, level_of, sign_of, change_of, bump_sign, form_words}
use Rattle.actx_grammar.specs.Grammar.{SpellsStmts}
use Rattle.actx_grammar.specs.Layout.{laid}
use Rattle.actx_grammar.specs.Lexemes.{Lexeme}
use Rattle.actx_grammar.specs.Tree.{Expr, Num, Text, Truth, Null, Undefined, This, Named, Unary, Binary, Logic, Choice, SetName, SetMember, Change, Bump, Member, Call, Object, Function, Yield, YieldAll, Await, Built, Exprs, none, also, MaybeExpr, no_expr, some_expr, Key, Dot, Index, PropKey, Fixed, Computed, Properties, no_properties, property, code, LetItems, no_lets, let_item, ConstItems, no_consts, const_item, Init, init_nothing, init_let, init_const, init_value, Stmt, Let, Const, Fun, Block, If, While, DoWhile, For, ForOf, ForAwait, Break, Continue, Return, Throw, Try, Value, Empty, Switch, no_stmt, some_stmt, Catch, no_catch, catch, Last, no_last, last, Clauses, no_clauses, clause, Stmts, end, next}
use Rattle.actx_grammar.specs.Words.{keyword_text, keywords, HasForm}

-- WORDS
-- the token that is written so: a reserved word, or else a name
abbrev pub word_among : List Keyword → List ℕ → TokenKind
word_among [] x = t.Name x
word_among (k ∷ ks) x = if pointwise ◌==◌ (keyword_text k) x then t.Keyword k else word_among ks x

abbrev pub word_token : List ℕ → TokenKind
word_token x = word_among keywords x

-- PLACES
-- what stands before an expression on its left: something, the beginning of an arrow's body, or of a statement
pub data Start : Type 0 where
  inner : Start
  body : Start
  statement : Start

abbrev pub begins : Start → Bool
begins inner = false
begins _ = true

abbrev pub begins_statement : Start → Bool
begins_statement statement = true
begins_statement _ = false

-- inside parentheses nothing begins
abbrev pub within : Bool → Start → Start
within true st = inner
within false st = st

-- between parentheses, brackets and braces
abbrev pub round : List TokenKind → List TokenKind
round x = t.Sign s.OpenParen ∷ (x ++ t.Sign s.CloseParen ∷ [])

abbrev pub square : List TokenKind → List TokenKind
square x = t.Sign s.OpenBracket ∷ (x ++ t.Sign s.CloseBracket ∷ [])

abbrev pub braced : List TokenKind → List TokenKind
braced x = t.Sign s.OpenBrace ∷ (x ++ t.Sign s.CloseBrace ∷ [])

abbrev pub in_parens : Bool → List TokenKind → List TokenKind
in_parens true x = round x
in_parens false x = x

-- PARAMETERS AND HEADS
-- names, each with a comma before it
abbrev pub spell_more_names : List (List ℕ) → List TokenKind
spell_more_names [] = []
spell_more_names (x ∷ xs) = t.Sign s.Comma ∷ t.Name x ∷ spell_more_names xs

abbrev pub spell_names : List (List ℕ) → List TokenKind
spell_names [] = []
spell_names (x ∷ xs) = t.Name x ∷ spell_more_names xs

abbrev pub spell_params : List (List ℕ) → List TokenKind
spell_params xs = round (spell_names xs)

abbrev pub own_name : Option (List ℕ) → List TokenKind
own_name None = []
own_name (Some x) = t.Name x ∷ []

-- what stands before a function's body
abbrev pub spell_head : FunctionKind → Option (List ℕ) → List (List ℕ) → List TokenKind
spell_head Normal x xs = t.Keyword k.Function ∷ (own_name x ++ spell_params xs)
spell_head Arrow x xs = spell_params xs ++ t.Sign s.Arrow ∷ []
spell_head Generator x xs = t.Keyword k.Function ∷ t.Sign s.Star ∷ (own_name x ++ spell_params xs)
spell_head Async x xs = t.Keyword k.Async ∷ t.Keyword k.Function ∷ (own_name x ++ spell_params xs)
spell_head AsyncArrow x xs = t.Keyword k.Async ∷ (spell_params xs ++ t.Sign s.Arrow ∷ [])
spell_head AsyncGenerator x xs = t.Keyword k.Async ∷ t.Keyword k.Function ∷ t.Sign s.Star ∷ (own_name x ++ spell_params xs)

-- whether a function of the kind needs parentheses at a level and a place
abbrev pub wrapped : FunctionKind → Start → ℕ → Bool
wrapped Arrow st l = nat_lt 1 l
wrapped AsyncArrow st l = nat_lt 1 l
wrapped _ st l = begins_statement st

-- OPERATORS
abbrev pub logic_sign : LogicOp → Sign
logic_sign And = s.And
logic_sign Or = s.Or
logic_sign Coalesce = s.Coalesce

abbrev pub logic_level : LogicOp → ℕ
logic_level And = 4
logic_level Or = 3
logic_level Coalesce = 3

-- the level at which the left operand stands: a chain of || or ?? goes on without parentheses, and neither stands in the other
abbrev pub left_level : LogicOp → Expr → ℕ
left_level And e = 4
left_level Or (Logic Or a b) = 3
left_level Or e = 4
left_level Coalesce (Logic Coalesce a b) = 3
left_level Coalesce e = 5

abbrev pub right_level : LogicOp → ℕ
right_level And = 5
right_level Or = 4
right_level Coalesce = 5

-- `=` with its operator; only +, - and * have one
abbrev pub change_sign : BinaryOp → Sign
change_sign op = change_else (change_of op)
  where
    change_else : Option Sign → Sign
    change_else (Some s) = s
    change_else None = s.Assign

abbrev pub declares : Bool → Keyword
declares true = k.Const
declares false = k.Let

-- TREES
abbrev mutual
  pub spell : Start → Expr → ℕ → List TokenKind
  spell st (Num n) l = t.Number n ∷ []
  spell st (Text u) l = t.Text u ∷ []
  spell st (Truth true) l = t.Keyword k.True ∷ []
  spell st (Truth false) l = t.Keyword k.False ∷ []
  spell st Null l = t.Keyword k.Null ∷ []
  spell st Undefined l = t.Name (codes "undefined") ∷ []
  spell st This l = t.Keyword k.This ∷ []
  spell st (Named x) l = t.Name x ∷ []
  spell st (Unary op e) l = in_parens (nat_lt 9 l) (unary_word op ∷ spell inner e 9)
  spell st (Binary op a b) l =
      in_parens (nat_lt (level_of op) l) (spell (within (nat_lt (level_of op) l) st) a (level_of op) ++ t.Sign (sign_of op) ∷ spell inner b (suc (level_of op)))
  spell st (Logic op a b) l =
      in_parens (nat_lt (logic_level op) l) (spell (within (nat_lt (logic_level op) l) st) a (left_level op a) ++ t.Sign (logic_sign op) ∷ spell inner b (right_level op))
  spell st (Choice e a b) l =
      in_parens (nat_lt 2 l) (spell (within (nat_lt 2 l) st) e 3 ++ t.Sign s.Question ∷ (spell inner a 1 ++ t.Sign s.Colon ∷ spell inner b 1))
  spell st (SetName x e) l = in_parens (nat_lt 1 l) (t.Name x ∷ t.Sign s.Assign ∷ spell inner e 1)
  spell st (SetMember e key v) l =
      in_parens (nat_lt 1 l) (spell (within (nat_lt 1 l) st) e 11 ++ spell_key key ++ t.Sign s.Assign ∷ spell inner v 1)
  spell st (Change x op e) l = in_parens (nat_lt 1 l) (t.Name x ∷ t.Sign (change_sign op) ∷ spell inner e 1)
  spell st (Bump x up true) l = in_parens (nat_lt 10 l) (t.Sign (bump_sign up) ∷ t.Name x ∷ [])
  spell st (Bump x up false) l = in_parens (nat_lt 10 l) (t.Name x ∷ t.Sign (bump_sign up) ∷ [])
  spell st (Member e key) l = in_parens (nat_lt 11 l) (spell (within (nat_lt 11 l) st) e 11 ++ spell_key key)
  spell st (Call f es) l = in_parens (nat_lt 11 l) (spell (within (nat_lt 11 l) st) f 11 ++ round (spell_list es))
  spell st (Object ps) l = in_parens (begins st) (braced (spell_properties ps))
  spell st (Function (code x kind xs ss)) l = in_parens (wrapped kind st l) (spell_head kind x xs ++ braced (spell_program ss))
  spell st (Yield no_expr) l = in_parens (nat_lt 1 l) (t.Keyword k.Yield ∷ [])
  spell st (Yield (some_expr e)) l = in_parens (nat_lt 1 l) (t.Keyword k.Yield ∷ spell inner e 1)
  spell st (YieldAll e) l = in_parens (nat_lt 1 l) (t.Keyword k.Yield ∷ t.Sign s.Star ∷ spell inner e 1)
  spell st (Await e) l = in_parens (nat_lt 9 l) (t.Keyword k.Await ∷ spell inner e 9)
  spell st (Built CallWith (also f es)) l =
      in_parens (nat_lt 11 l) (spell (within (nat_lt 11 l) st) f 11 ++ t.Sign s.Dot ∷ t.Name (codes "call") ∷ round (spell_list es))
  spell st (Built form es) l = in_parens (nat_lt 11 l) (form_words form ++ round (spell_list es))

  pub spell_key : Key → List TokenKind
  spell_key (Dot x) = t.Sign s.Dot ∷ word_token x ∷ []
  spell_key (Index e) = square (spell inner e 1)

  pub spell_list : Exprs → List TokenKind
  spell_list none = []
  spell_list (also e es) = spell inner e 1 ++ spell_more es

  -- each with a comma before it
  pub spell_more : Exprs → List TokenKind
  spell_more none = []
  spell_more (also e es) = t.Sign s.Comma ∷ (spell inner e 1 ++ spell_more es)

  pub spell_prop_key : PropKey → List TokenKind
  spell_prop_key (Fixed u) = t.Text u ∷ []
  spell_prop_key (Computed e) = square (spell inner e 1)

  pub spell_properties : Properties → List TokenKind
  spell_properties no_properties = []
  spell_properties (property key e ps) = spell_prop_key key ++ t.Sign s.Colon ∷ (spell inner e 1 ++ spell_more_properties ps)

  pub spell_more_properties : Properties → List TokenKind
  spell_more_properties no_properties = []
  spell_more_properties (property key e ps) = t.Sign s.Comma ∷ (spell_prop_key key ++ t.Sign s.Colon ∷ (spell inner e 1 ++ spell_more_properties ps))

  pub spell_maybe : MaybeExpr → List TokenKind
  spell_maybe no_expr = []
  spell_maybe (some_expr e) = spell inner e 1

  pub spell_let : MaybeExpr → List TokenKind
  spell_let no_expr = []
  spell_let (some_expr e) = t.Sign s.Assign ∷ spell inner e 1

  pub spell_lets : LetItems → List TokenKind
  spell_lets no_lets = []
  spell_lets (let_item x v is) = t.Name x ∷ (spell_let v ++ spell_more_lets is)

  pub spell_more_lets : LetItems → List TokenKind
  spell_more_lets no_lets = []
  spell_more_lets (let_item x v is) = t.Sign s.Comma ∷ t.Name x ∷ (spell_let v ++ spell_more_lets is)

  pub spell_consts : ConstItems → List TokenKind
  spell_consts no_consts = []
  spell_consts (const_item x e is) = t.Name x ∷ t.Sign s.Assign ∷ (spell inner e 1 ++ spell_more_consts is)

  pub spell_more_consts : ConstItems → List TokenKind
  spell_more_consts no_consts = []
  spell_more_consts (const_item x e is) = t.Sign s.Comma ∷ t.Name x ∷ t.Sign s.Assign ∷ (spell inner e 1 ++ spell_more_consts is)

  pub spell_init : Init → List TokenKind
  spell_init init_nothing = []
  spell_init (init_let is) = t.Keyword k.Let ∷ spell_lets is
  spell_init (init_const is) = t.Keyword k.Const ∷ spell_consts is
  spell_init (init_value e) = spell inner e 1

  pub spell_stmt : Stmt → List TokenKind
  spell_stmt (Let is) = t.Keyword k.Let ∷ (spell_lets is ++ t.Sign s.Semicolon ∷ [])
  spell_stmt (Const is) = t.Keyword k.Const ∷ (spell_consts is ++ t.Sign s.Semicolon ∷ [])
  spell_stmt (Fun (code x kind xs ss)) = spell_head kind x xs ++ braced (spell_program ss)
  spell_stmt (Block ss) = braced (spell_program ss)
  spell_stmt (If e branch no_stmt) = t.Keyword k.If ∷ (round (spell inner e 1) ++ spell_stmt branch)
  spell_stmt (If e branch (some_stmt other)) =
      t.Keyword k.If ∷ (round (spell inner e 1) ++ spell_stmt branch ++ t.Keyword k.Else ∷ spell_stmt other)
  spell_stmt (While e st) = t.Keyword k.While ∷ (round (spell inner e 1) ++ spell_stmt st)
  spell_stmt (DoWhile st e) = t.Keyword k.Do ∷ (spell_stmt st ++ t.Keyword k.While ∷ (round (spell inner e 1) ++ t.Sign s.Semicolon ∷ []))
  spell_stmt (For i test update st) =
      t.Keyword k.For ∷ t.Sign s.OpenParen ∷ (spell_init i ++ t.Sign s.Semicolon ∷ (spell_maybe test ++ t.Sign s.Semicolon ∷ (spell_maybe update ++ t.Sign s.CloseParen ∷ spell_stmt st)))
  spell_stmt (ForOf constant x over st) =
      t.Keyword k.For ∷ t.Sign s.OpenParen ∷ t.Keyword (declares constant) ∷ t.Name x ∷ t.Name (codes "of") ∷ (spell inner over 1 ++ t.Sign s.CloseParen ∷ spell_stmt st)
  spell_stmt (ForAwait constant x over st) =
      t.Keyword k.For ∷ t.Keyword k.Await ∷ t.Sign s.OpenParen ∷ t.Keyword (declares constant) ∷ t.Name x ∷ t.Name (codes "of") ∷ (spell inner over 1 ++ t.Sign s.CloseParen ∷ spell_stmt st)
  spell_stmt Break = t.Keyword k.Break ∷ t.Sign s.Semicolon ∷ []
  spell_stmt Continue = t.Keyword k.Continue ∷ t.Sign s.Semicolon ∷ []
  spell_stmt (Return no_expr) = t.Keyword k.Return ∷ t.Sign s.Semicolon ∷ []
  spell_stmt (Return (some_expr e)) = t.Keyword k.Return ∷ (spell inner e 1 ++ t.Sign s.Semicolon ∷ [])
  spell_stmt (Throw e) = t.Keyword k.Throw ∷ (spell inner e 1 ++ t.Sign s.Semicolon ∷ [])
  spell_stmt (Try block c final) = t.Keyword k.Try ∷ (braced (spell_program block) ++ spell_catch c ++ spell_last final)
  spell_stmt (Value e) = spell statement e 1 ++ t.Sign s.Semicolon ∷ []
  spell_stmt Empty = t.Sign s.Semicolon ∷ []
  spell_stmt (Switch e cs) =
      t.Keyword k.Switch ∷ (round (spell inner e 1) ++ braced (spell_clauses cs))

  pub spell_catch : Catch → List TokenKind
  spell_catch no_catch = []
  spell_catch (catch None ss) = t.Keyword k.Catch ∷ braced (spell_program ss)
  spell_catch (catch (Some x) ss) = t.Keyword k.Catch ∷ t.Sign s.OpenParen ∷ t.Name x ∷ t.Sign s.CloseParen ∷ braced (spell_program ss)

  pub spell_last : Last → List TokenKind
  spell_last no_last = []
  spell_last (last ss) = t.Keyword k.Finally ∷ braced (spell_program ss)

  pub spell_clauses : Clauses → List TokenKind
  spell_clauses no_clauses = []
  spell_clauses (clause None ss cs) = t.Keyword k.Default ∷ t.Sign s.Colon ∷ (spell_program ss ++ spell_clauses cs)
  spell_clauses (clause (Some n) ss cs) = t.Keyword k.Case ∷ t.Number n ∷ t.Sign s.Colon ∷ (spell_program ss ++ spell_clauses cs)

  pub spell_program : Stmts → List TokenKind
  spell_program end = []
  spell_program (next st ss) = spell_stmt st ++ spell_program ss

-- LAWS
-- a program that some tokens spell is spelled by its own tokens too, within the same depth
abbrev pub SpelledAgain : Type 0
SpelledAgain = (side : Side) (most : Option ℕ) (d : ℕ) (p : Stmts) (ts : List Lexeme) → SpellsStmts side most d p ts → SpellsStmts side most d p (laid (spell_program p))

-- and each of them is of its kind's form
abbrev pub SpelledInForm : Type 0
SpelledInForm = (side : Side) (most : Option ℕ) (d : ℕ) (p : Stmts) (ts : List Lexeme) → SpellsStmts side most d p ts → All HasForm (spell_program p)
