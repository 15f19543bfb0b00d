-- THE GRAMMAR of both sides: which tokens spell which tree (ECMA-262, 13 to 15, restricted). The level says how tightly the
-- place binds, the depth how many levels the tree and its parentheses may have; a list of parameters or arguments may be
-- bounded.
use Rattle.std.specs.Prelude.{◌≡◌, ℕ, suc, ◌≤◌, Bool, true, false, List, [], ◌∷◌, ◌++◌, length, Option, Some, None, codes}
use Rattle.actx_grammar.specs.declared.operators.BinaryOp.{BinaryOp}
use Rattle.actx_grammar.specs.declared.operators.Form.{Form}
use Rattle.actx_grammar.specs.declared.operators.Form.TheVariants.{CallWith}
use Rattle.actx_grammar.specs.declared.operators.FunctionKind.{FunctionKind}
use Rattle.actx_grammar.specs.declared.operators.FunctionKind.TheVariants.{Normal, Arrow, Generator, Async, AsyncArrow}
use Rattle.actx_grammar.specs.declared.operators.LogicOp.TheVariants.{And, Or, Coalesce}
use Rattle.actx_grammar.specs.declared.operators.UnaryOp.{UnaryOp}
use Rattle.actx_grammar.specs.declared.side.Side.{Side}
use Rattle.actx_grammar.specs.declared.side.Side.TheVariants.{Source, Plain}
use Rattle.actx_grammar.specs.declared.token.Keyword.TheVariants as k
use Rattle.actx_grammar.specs.declared.token.Sign.{Sign}
use Rattle.actx_grammar.specs.declared.token.Sign.TheVariants as s
use Rattle.actx_grammar.specs.declared.token.TokenKind.{TokenKind}
use Rattle.actx_grammar.specs.declared.token.TokenKind.TheVariants as t
use Rattle.actx_grammar.specs.Forms.{unary_word, level_of, sign_of, change_of, bump_sign, form_words, HasWords, Suits}
use Rattle.actx_grammar.specs.Lexemes.{Lexeme, sign, keyword, lexeme, kinds, SameLine}
use Rattle.actx_grammar.specs.Names.{IsBinding, IsReference, word_of, IsKey, key_of}
use Rattle.actx_grammar.specs.Tree.{Expr, Num, Text, Truth, Null, Undefined, This, Named, Unary, Binary, Logic, Choice, SetName, SetMember, Change, Bump, Member, Call, Object, Function, Yield, YieldAll, Await, Built, Exprs, none, also, MaybeExpr, no_expr, some_expr, Key, Dot, Index, PropKey, Fixed, Computed, Properties, no_properties, property, Code, code, LetItems, no_lets, let_item, ConstItems, no_consts, const_item, Init, init_nothing, init_let, init_const, init_value, Stmt, Let, Const, Fun, Block, If, While, DoWhile, For, ForOf, ForAwait, Break, Continue, Return, Throw, Try, Value, Empty, Switch, no_stmt, some_stmt, Catch, no_catch, catch, no_last, last, Clauses, no_clauses, clause, Stmts, end, next}
use Rattle.actx_grammar.specs.Words.{HasForm, greatest_number}

-- LIMITS
abbrev pub deepest : Side → ℕ
deepest Source = 200
deepest Plain = 32768

-- how many parameters or arguments one list of a text may have
abbrev pub most : Side → Option ℕ
most Source = Some 8
most Plain = None

abbrev pub Allows : Option ℕ → ℕ → Type 0
Allows None n = Unit {0}
Allows (Some m) n = n ≤ m

abbrev pub count : Exprs → ℕ
count none = 0
count (also e es) = suc (count es)

-- LISTS THAT GROW AT THEIR END
abbrev pub with_last : Exprs → Expr → Exprs
with_last none e = also e none
with_last (also f es) e = also f (with_last es e)

abbrev pub with_let : LetItems → List ℕ → MaybeExpr → LetItems
with_let no_lets x v = let_item x v no_lets
with_let (let_item y w is) x v = let_item y w (with_let is x v)

abbrev pub with_const : ConstItems → List ℕ → Expr → ConstItems
with_const no_consts x e = const_item x e no_consts
with_const (const_item y f is) x e = const_item y f (with_const is x e)

abbrev pub with_property : Properties → PropKey → Expr → Properties
with_property no_properties key e = property key e no_properties
with_property (property j f ps) key e = property j f (with_property ps key e)

-- FIRST TOKENS
abbrev pub IsStatementStart : List TokenKind → Type 0
IsStatementStart (t.Sign s.OpenBrace ∷ x) = ⊥
IsStatementStart (t.Keyword k.Function ∷ x) = ⊥
IsStatementStart (t.Keyword k.Async ∷ t.Keyword k.Function ∷ x) = ⊥
IsStatementStart _ = Unit {0}

abbrev pub IsBodyStart : List TokenKind → Type 0
IsBodyStart (t.Sign s.OpenBrace ∷ x) = ⊥
IsBodyStart _ = Unit {0}

-- an expression that begins so is no statement of its own
abbrev pub StartsStatement : List Lexeme → Type 0
StartsStatement ts = IsStatementStart (kinds ts)

-- an arrow's body that begins so is a list of statements
abbrev pub StartsBody : List Lexeme → Type 0
StartsBody ts = IsBodyStart (kinds ts)

-- STATEMENTS IN STATEMENTS
-- a declaration is no branch or body of its own
abbrev pub IsBody : Stmt → Type 0
IsBody (Let is) = ⊥
IsBody (Const is) = ⊥
IsBody (Fun f) = ⊥
IsBody _ = Unit {0}

-- whether a statement ends in an if without else, so that an else behind it would belong to that
abbrev pub ends_open : Stmt → Bool
ends_open (If e branch no_stmt) = true
ends_open (If e branch (some_stmt other)) = ends_open other
ends_open (While e body) = ends_open body
ends_open (For i test update body) = ends_open body
ends_open (ForOf constant x over body) = ends_open body
ends_open (ForAwait constant x over body) = ends_open body
ends_open _ = false

-- PARAMETERS
pub data SpellsNames (side : Side) : List (List ℕ) → List Lexeme → Type 0 where
  sp_one_name : {x : List ℕ} {b : Bool} → IsBinding side x → SpellsNames side (x ∷ []) (lexeme (t.Name x) b ∷ [])
  sp_more_names : {xs : List (List ℕ)} {x : List ℕ} {y : List Lexeme} (b c : Bool) → SpellsNames side xs y → IsBinding side x → SpellsNames side (xs ++ x ∷ []) (y ++ sign s.Comma b ∷ lexeme (t.Name x) c ∷ [])

-- none, or some, maybe with a comma at their end
pub data SpellsParams (side : Side) (most : Option ℕ) : List (List ℕ) → List Lexeme → Type 0 where
  sp_no_params : {b c : Bool} → SpellsParams side most [] (sign s.OpenParen b ∷ sign s.CloseParen c ∷ [])
  sp_params : {xs : List (List ℕ)} {y : List Lexeme} (b c : Bool) → SpellsNames side xs y → Allows most (length xs) → SpellsParams side most xs (sign s.OpenParen b ∷ (y ++ sign s.CloseParen c ∷ []))
  sp_params_comma : {xs : List (List ℕ)} {y : List Lexeme} (b c d : Bool) → SpellsNames side xs y → Allows most (length xs) → SpellsParams side most xs (sign s.OpenParen b ∷ (y ++ sign s.Comma c ∷ sign s.CloseParen d ∷ []))

-- those of an arrow: also one name alone
pub data SpellsArrowParams (side : Side) (most : Option ℕ) : List (List ℕ) → List Lexeme → Type 0 where
  sp_bare_param : {x : List ℕ} {b : Bool} → IsBinding side x → Allows most 1 → SpellsArrowParams side most (x ∷ []) (lexeme (t.Name x) b ∷ [])
  sp_listed_params : {xs : List (List ℕ)} {y : List Lexeme} → SpellsParams side most xs y → SpellsArrowParams side most xs y

-- what stands before the parameters of a function, with its name or without
pub data SpellsHead (side : Side) : FunctionKind → Option (List ℕ) → List Lexeme → Type 0 where
  sp_normal : {b : Bool} → SpellsHead side Normal None (keyword k.Function b ∷ [])
  sp_normal_named : {x : List ℕ} {b c : Bool} → IsBinding side x → SpellsHead side Normal (Some x) (keyword k.Function b ∷ lexeme (t.Name x) c ∷ [])
  sp_generator : {b c : Bool} → side ≡ Source → SpellsHead side Generator None (keyword k.Function b ∷ sign s.Star c ∷ [])
  sp_generator_named : {x : List ℕ} {b c d : Bool} → side ≡ Source → IsBinding side x → SpellsHead side Generator (Some x) (keyword k.Function b ∷ sign s.Star c ∷ lexeme (t.Name x) d ∷ [])
  sp_async : {b : Bool} → side ≡ Source → SpellsHead side Async None (keyword k.Async b ∷ keyword k.Function false ∷ [])
  sp_async_named : {x : List ℕ} {b c : Bool} → side ≡ Source → IsBinding side x → SpellsHead side Async (Some x) (keyword k.Async b ∷ keyword k.Function false ∷ lexeme (t.Name x) c ∷ [])

-- what stands before the key of a method
pub data SpellsMethodHead (side : Side) : FunctionKind → List Lexeme → Type 0 where
  sp_method_head : SpellsMethodHead side Normal []
  sp_generator_head : {b : Bool} → side ≡ Source → SpellsMethodHead side Generator (sign s.Star b ∷ [])
  sp_async_head : {b : Bool} → side ≡ Source → SpellsMethodHead side Async (keyword k.Async b ∷ [])

-- the key behind async stands on its line
abbrev pub KeyFollows : FunctionKind → List Lexeme → Type 0
KeyFollows Async x = SameLine x
KeyFollows _ x = Unit {0}

-- what stands before an arrow: its parameters, and async
pub data SpellsArrow (side : Side) (most : Option ℕ) : FunctionKind → List (List ℕ) → List Lexeme → Type 0 where
  sp_arrow_head : {xs : List (List ℕ)} {x : List Lexeme} → SpellsArrowParams side most xs x → SpellsArrow side most Arrow xs x
  sp_async_arrow_head : {xs : List (List ℕ)} {x : List Lexeme} {b : Bool} → side ≡ Source → SpellsArrowParams side most xs x → SameLine x → SpellsArrow side most AsyncArrow xs (keyword k.Async b ∷ x)

mutual
  -- EXPRESSIONS at a level and within a depth
  pub data Spells (side : Side) (most : Option ℕ) : ℕ → ℕ → Expr → List Lexeme → Type 0 where
    -- level 1
    sp_arrow : {l d : ℕ} {kind : FunctionKind} {xs : List (List ℕ)} {ss : Stmts} {x y : List Lexeme} (b c : Bool) → l ≤ 1 → SpellsArrow side most kind xs x → SpellsStmts side most d ss y → Spells side most l (suc d) (Function (code None kind xs ss)) (x ++ sign s.Arrow false ∷ sign s.OpenBrace b ∷ (y ++ sign s.CloseBrace c ∷ []))
    sp_short_arrow : {l d : ℕ} {kind : FunctionKind} {xs : List (List ℕ)} {e : Expr} {x y : List Lexeme} → l ≤ 1 → SpellsArrow side most kind xs x → Spells side most 1 d e y → StartsBody y → Spells side most l (suc (suc d)) (Function (code None kind xs (next (Return (some_expr e)) end))) (x ++ sign s.Arrow false ∷ y)
    sp_yield_nothing : {l d : ℕ} {b : Bool} → side ≡ Source → l ≤ 1 → Spells side most l (suc d) (Yield no_expr) (keyword k.Yield b ∷ [])
    sp_yield : {l d : ℕ} {e : Expr} {x : List Lexeme} {b : Bool} → side ≡ Source → l ≤ 1 → Spells side most 1 d e x → SameLine x → Spells side most l (suc d) (Yield (some_expr e)) (keyword k.Yield b ∷ x)
    sp_yield_all : {l d : ℕ} {e : Expr} {x : List Lexeme} {b : Bool} → side ≡ Source → l ≤ 1 → Spells side most 1 d e x → Spells side most l (suc d) (YieldAll e) (keyword k.Yield b ∷ sign s.Star false ∷ x)
    sp_set_name : {l d : ℕ} {x : List ℕ} {e : Expr} {y : List Lexeme} {b c : Bool} → l ≤ 1 → IsBinding side x → Spells side most 1 d e y → Spells side most l (suc d) (SetName x e) (lexeme (t.Name x) b ∷ sign s.Assign c ∷ y)
    sp_set_member : {l d : ℕ} {e v : Expr} {key : Key} {x y z : List Lexeme} (b : Bool) → l ≤ 1 → Spells side most 11 d e x → SpellsKey side most d key y → Spells side most 1 d v z → Spells side most l (suc d) (SetMember e key v) (x ++ y ++ sign s.Assign b ∷ z)
    sp_change : {l d : ℕ} {x : List ℕ} {op : BinaryOp} {e : Expr} {y : List Lexeme} {b c : Bool} {sg : Sign} → l ≤ 1 → IsBinding side x → change_of op ≡ Some sg → Spells side most 1 d e y → Spells side most l (suc d) (Change x op e) (lexeme (t.Name x) b ∷ sign sg c ∷ y)
    -- level 2
    sp_choice : {l d : ℕ} {e f g : Expr} {x y z : List Lexeme} (b c : Bool) → l ≤ 2 → Spells side most 3 d e x → Spells side most 1 d f y → Spells side most 1 d g z → Spells side most l (suc d) (Choice e f g) (x ++ sign s.Question b ∷ (y ++ sign s.Colon c ∷ z))
    -- level 3
    sp_or : {l d : ℕ} {e f : Expr} {x : List Lexeme} → l ≤ 3 → SpellsOr side most d e f x → Spells side most l (suc d) (Logic Or e f) x
    sp_coalesce : {l d : ℕ} {e f : Expr} {x : List Lexeme} → l ≤ 3 → SpellsCoalesce side most d e f x → Spells side most l (suc d) (Logic Coalesce e f) x
    -- level 4
    sp_and : {l d : ℕ} {e f : Expr} {x y : List Lexeme} (b : Bool) → l ≤ 4 → Spells side most 4 d e x → Spells side most 5 d f y → Spells side most l (suc d) (Logic And e f) (x ++ sign s.And b ∷ y)
    -- levels 5 to 8
    sp_binary : {l d : ℕ} {e f : Expr} {x y : List Lexeme} (op : BinaryOp) (b : Bool) → l ≤ level_of op → Spells side most (level_of op) d e x → Spells side most (suc (level_of op)) d f y → Spells side most l (suc d) (Binary op e f) (x ++ sign (sign_of op) b ∷ y)
    -- level 9
    sp_unary : {l d : ℕ} {e : Expr} {x : List Lexeme} {b : Bool} (op : UnaryOp) → l ≤ 9 → Spells side most 9 d e x → Spells side most l (suc d) (Unary op e) (lexeme (unary_word op) b ∷ x)
    sp_await : {l d : ℕ} {e : Expr} {x : List Lexeme} {b : Bool} → side ≡ Source → l ≤ 9 → Spells side most 9 d e x → Spells side most l (suc d) (Await e) (keyword k.Await b ∷ x)
    -- level 10
    sp_bump_before : {l d : ℕ} {x : List ℕ} {up b c : Bool} → l ≤ 10 → IsBinding side x → Spells side most l (suc d) (Bump x up true) (sign (bump_sign up) b ∷ lexeme (t.Name x) c ∷ [])
    sp_bump_behind : {l d : ℕ} {x : List ℕ} {up b : Bool} → l ≤ 10 → IsBinding side x → Spells side most l (suc d) (Bump x up false) (lexeme (t.Name x) b ∷ sign (bump_sign up) false ∷ [])
    -- level 11
    sp_member : {l d : ℕ} {e : Expr} {key : Key} {x y : List Lexeme} → l ≤ 11 → Spells side most 11 d e x → SpellsKey side most d key y → Spells side most l (suc d) (Member e key) (x ++ y)
    sp_call : {l d : ℕ} {f : Expr} {es : Exprs} {x y : List Lexeme} → l ≤ 11 → Spells side most 11 d f x → SpellsArguments side most d es y → Spells side most l (suc d) (Call f es) (x ++ y)
    sp_form : {l d : ℕ} {es : Exprs} {y : List Lexeme} (form : Form) (x : List Lexeme) → l ≤ 11 → HasWords side form → form_words form ≡ kinds x → SpellsArguments side most d es y → Suits form (count es) → Spells side most l (suc d) (Built form es) (x ++ y)
    sp_call_with : {l d : ℕ} {f : Expr} {es : Exprs} {x y : List Lexeme} (b c : Bool) → side ≡ Plain → l ≤ 11 → Spells side most 11 d f x → SpellsArguments side most d es y → Spells side most l (suc d) (Built CallWith (also f es)) (x ++ sign s.Dot b ∷ lexeme (t.Name (codes "call")) c ∷ y)
    -- level 12
    sp_name : {l d : ℕ} {x : List ℕ} {b : Bool} → IsReference side x → Spells side most l (suc d) (Named x) (lexeme (t.Name x) b ∷ [])
    sp_number : {l d n : ℕ} {b : Bool} → n ≤ greatest_number → Spells side most l (suc d) (Num n) (lexeme (t.Number n) b ∷ [])
    sp_text : {l d : ℕ} {u : List ℕ} {b : Bool} → HasForm (t.Text u) → Spells side most l (suc d) (Text u) (lexeme (t.Text u) b ∷ [])
    sp_true : {l d : ℕ} {b : Bool} → Spells side most l (suc d) (Truth true) (keyword k.True b ∷ [])
    sp_false : {l d : ℕ} {b : Bool} → Spells side most l (suc d) (Truth false) (keyword k.False b ∷ [])
    sp_null : {l d : ℕ} {b : Bool} → Spells side most l (suc d) Null (keyword k.Null b ∷ [])
    sp_undefined : {l d : ℕ} {b : Bool} → Spells side most l (suc d) Undefined (lexeme (t.Name (codes "undefined")) b ∷ [])
    sp_this : {l d : ℕ} {b : Bool} → Spells side most l (suc d) This (keyword k.This b ∷ [])
    sp_object : {l d : ℕ} {ps : Properties} {x : List Lexeme} (b c : Bool) → SpellsProperties side most d ps x → Spells side most l (suc d) (Object ps) (sign s.OpenBrace b ∷ (x ++ sign s.CloseBrace c ∷ []))
    sp_function : {l d : ℕ} {f : Code} {x : List Lexeme} → SpellsFunction side most d f x → Spells side most l (suc d) (Function f) x
    sp_paren : {l d : ℕ} {e : Expr} {x : List Lexeme} (b c : Bool) → Spells side most 1 d e x → Spells side most l (suc d) e (sign s.OpenParen b ∷ (x ++ sign s.CloseParen c ∷ []))

  -- left || right: left is such a form too or binds tighter, and is no left ?? right
  pub data SpellsOr (side : Side) (most : Option ℕ) : ℕ → Expr → Expr → List Lexeme → Type 0 where
    sp_first_or : {d : ℕ} {e f : Expr} {x y : List Lexeme} (b : Bool) → Spells side most 4 d e x → Spells side most 4 d f y → SpellsOr side most d e f (x ++ sign s.Or b ∷ y)
    sp_more_or : {d : ℕ} {e f g : Expr} {x y : List Lexeme} (b : Bool) → SpellsOr side most d e f x → Spells side most 4 (suc d) g y → SpellsOr side most (suc d) (Logic Or e f) g (x ++ sign s.Or b ∷ y)

  -- left ?? right: left is such a form too or binds tighter than && and ||
  pub data SpellsCoalesce (side : Side) (most : Option ℕ) : ℕ → Expr → Expr → List Lexeme → Type 0 where
    sp_first_coalesce : {d : ℕ} {e f : Expr} {x y : List Lexeme} (b : Bool) → Spells side most 5 d e x → Spells side most 5 d f y → SpellsCoalesce side most d e f (x ++ sign s.Coalesce b ∷ y)
    sp_more_coalesce : {d : ℕ} {e f g : Expr} {x y : List Lexeme} (b : Bool) → SpellsCoalesce side most d e f x → Spells side most 5 (suc d) g y → SpellsCoalesce side most (suc d) (Logic Coalesce e f) g (x ++ sign s.Coalesce b ∷ y)

  -- the key of a member
  pub data SpellsKey (side : Side) (most : Option ℕ) : ℕ → Key → List Lexeme → Type 0 where
    sp_dot : {d : ℕ} {x : List ℕ} {w : Lexeme} {b : Bool} → word_of w.kind ≡ Some x → HasForm w.kind → IsKey side x → SpellsKey side most d (Dot x) (sign s.Dot b ∷ w ∷ [])
    sp_index : {d : ℕ} {e : Expr} {x : List Lexeme} (b c : Bool) → Spells side most 1 d e x → SpellsKey side most d (Index e) (sign s.OpenBracket b ∷ (x ++ sign s.CloseBracket c ∷ []))

  -- arguments in parentheses: none, or some, maybe with a comma at their end
  pub data SpellsArguments (side : Side) (most : Option ℕ) : ℕ → Exprs → List Lexeme → Type 0 where
    sp_no_arguments : {d : ℕ} {b c : Bool} → SpellsArguments side most d none (sign s.OpenParen b ∷ sign s.CloseParen c ∷ [])
    sp_arguments : {d : ℕ} {es : Exprs} {x : List Lexeme} (b c : Bool) → SpellsList side most d es x → Allows most (count es) → SpellsArguments side most d es (sign s.OpenParen b ∷ (x ++ sign s.CloseParen c ∷ []))
    sp_arguments_comma : {d : ℕ} {es : Exprs} {x : List Lexeme} (b c f : Bool) → SpellsList side most d es x → Allows most (count es) → SpellsArguments side most d es (sign s.OpenParen b ∷ (x ++ sign s.Comma c ∷ sign s.CloseParen f ∷ []))

  -- one or more with a comma between two
  pub data SpellsList (side : Side) (most : Option ℕ) : ℕ → Exprs → List Lexeme → Type 0 where
    sp_one : {d : ℕ} {e : Expr} {x : List Lexeme} → Spells side most 1 d e x → SpellsList side most d (also e none) x
    sp_more : {d : ℕ} {es : Exprs} {e : Expr} {x y : List Lexeme} (b : Bool) → SpellsList side most d es x → Spells side most 1 d e y → SpellsList side most d (with_last es e) (x ++ sign s.Comma b ∷ y)

  -- the key of a property
  pub data SpellsPropKey (side : Side) (most : Option ℕ) : ℕ → PropKey → List Lexeme → Type 0 where
    sp_fixed : {d : ℕ} {u : List ℕ} {w : Lexeme} → HasForm w.kind → key_of w.kind ≡ Some u → SpellsPropKey side most d (Fixed u) (w ∷ [])
    sp_computed : {d : ℕ} {e : Expr} {x : List Lexeme} (b c : Bool) → Spells side most 1 d e x → SpellsPropKey side most d (Computed e) (sign s.OpenBracket b ∷ (x ++ sign s.CloseBracket c ∷ []))

  -- a property: a key with its value, a name alone, or a method
  pub data SpellsProperty (side : Side) (most : Option ℕ) : ℕ → PropKey → Expr → List Lexeme → Type 0 where
    sp_key_value : {d : ℕ} {key : PropKey} {e : Expr} {x y : List Lexeme} (b : Bool) → SpellsPropKey side most d key x → Spells side most 1 d e y → SpellsProperty side most d key e (x ++ sign s.Colon b ∷ y)
    sp_name_alone : {d : ℕ} {x u : List ℕ} {b : Bool} → key_of (t.Name x) ≡ Some u → IsReference side x → SpellsProperty side most (suc d) (Fixed u) (Named x) (lexeme (t.Name x) b ∷ [])
    sp_undefined_alone : {d : ℕ} {b : Bool} → SpellsProperty side most (suc d) (Fixed (codes "undefined")) Undefined (lexeme (t.Name (codes "undefined")) b ∷ [])
    sp_method : {d : ℕ} {kind : FunctionKind} {key : PropKey} {xs : List (List ℕ)} {ss : Stmts} {w x y z : List Lexeme} (b c : Bool) → SpellsMethodHead side kind w → SpellsPropKey side most (suc d) key x → KeyFollows kind x → SpellsParams side most xs y → SpellsStmts side most d ss z → SpellsProperty side most (suc d) key (Function (code None kind xs ss)) (w ++ x ++ y ++ sign s.OpenBrace b ∷ (z ++ sign s.CloseBrace c ∷ []))

  -- none, or some, maybe with a comma at their end
  pub data SpellsProperties (side : Side) (most : Option ℕ) : ℕ → Properties → List Lexeme → Type 0 where
    sp_no_properties : {d : ℕ} → SpellsProperties side most d no_properties []
    sp_properties : {d : ℕ} {ps : Properties} {x : List Lexeme} → SpellsSome side most d ps x → SpellsProperties side most d ps x
    sp_properties_comma : {d : ℕ} {ps : Properties} {x : List Lexeme} (b : Bool) → SpellsSome side most d ps x → SpellsProperties side most d ps (x ++ sign s.Comma b ∷ [])

  pub data SpellsSome (side : Side) (most : Option ℕ) : ℕ → Properties → List Lexeme → Type 0 where
    sp_one_property : {d : ℕ} {key : PropKey} {e : Expr} {x : List Lexeme} → SpellsProperty side most d key e x → SpellsSome side most d (property key e no_properties) x
    sp_more_properties : {d : ℕ} {ps : Properties} {key : PropKey} {e : Expr} {x y : List Lexeme} (b : Bool) → SpellsSome side most d ps x → SpellsProperty side most d key e y → SpellsSome side most d (with_property ps key e) (x ++ sign s.Comma b ∷ y)

  -- a function with its head and body: of a declaration or an expression
  pub data SpellsFunction (side : Side) (most : Option ℕ) : ℕ → Code → List Lexeme → Type 0 where
    sp_code : {d : ℕ} {name : Option (List ℕ)} {kind : FunctionKind} {xs : List (List ℕ)} {ss : Stmts} {x y z : List Lexeme} (b c : Bool) → SpellsHead side kind name x → SpellsParams side most xs y → SpellsStmts side most d ss z → SpellsFunction side most d (code name kind xs ss) (x ++ y ++ sign s.OpenBrace b ∷ (z ++ sign s.CloseBrace c ∷ []))

  -- the items of a let and of a const
  pub data SpellsLet (side : Side) (most : Option ℕ) : ℕ → List ℕ → MaybeExpr → List Lexeme → Type 0 where
    sp_let_alone : {d : ℕ} {x : List ℕ} {b : Bool} → IsBinding side x → SpellsLet side most d x no_expr (lexeme (t.Name x) b ∷ [])
    sp_let_value : {d : ℕ} {x : List ℕ} {e : Expr} {y : List Lexeme} {b c : Bool} → IsBinding side x → Spells side most 1 d e y → SpellsLet side most d x (some_expr e) (lexeme (t.Name x) b ∷ sign s.Assign c ∷ y)

  pub data SpellsLets (side : Side) (most : Option ℕ) : ℕ → LetItems → List Lexeme → Type 0 where
    sp_one_let : {d : ℕ} {x : List ℕ} {v : MaybeExpr} {y : List Lexeme} → SpellsLet side most d x v y → SpellsLets side most d (let_item x v no_lets) y
    sp_more_lets : {d : ℕ} {is : LetItems} {x : List ℕ} {v : MaybeExpr} {y z : List Lexeme} (b : Bool) → SpellsLets side most d is y → SpellsLet side most d x v z → SpellsLets side most d (with_let is x v) (y ++ sign s.Comma b ∷ z)

  pub data SpellsConsts (side : Side) (most : Option ℕ) : ℕ → ConstItems → List Lexeme → Type 0 where
    sp_one_const : {d : ℕ} {x : List ℕ} {e : Expr} {y : List Lexeme} {b c : Bool} → IsBinding side x → Spells side most 1 d e y → SpellsConsts side most d (const_item x e no_consts) (lexeme (t.Name x) b ∷ sign s.Assign c ∷ y)
    sp_more_consts : {d : ℕ} {is : ConstItems} {x : List ℕ} {e : Expr} {y z : List Lexeme} (b c f : Bool) → SpellsConsts side most d is y → IsBinding side x → Spells side most 1 d e z → SpellsConsts side most d (with_const is x e) (y ++ sign s.Comma b ∷ lexeme (t.Name x) c ∷ sign s.Assign f ∷ z)

  -- an expression or none
  pub data SpellsMaybe (side : Side) (most : Option ℕ) : ℕ → MaybeExpr → List Lexeme → Type 0 where
    sp_absent : {d : ℕ} → SpellsMaybe side most d no_expr []
    sp_present : {d : ℕ} {e : Expr} {x : List Lexeme} → Spells side most 1 d e x → SpellsMaybe side most d (some_expr e) x

  pub data SpellsInit (side : Side) (most : Option ℕ) : ℕ → Init → List Lexeme → Type 0 where
    sp_init_nothing : {d : ℕ} → SpellsInit side most d init_nothing []
    sp_init_let : {d : ℕ} {is : LetItems} {x : List Lexeme} {b : Bool} → SpellsLets side most d is x → SpellsInit side most d (init_let is) (keyword k.Let b ∷ x)
    sp_init_const : {d : ℕ} {is : ConstItems} {x : List Lexeme} {b : Bool} → SpellsConsts side most d is x → SpellsInit side most d (init_const is) (keyword k.Const b ∷ x)
    sp_init_value : {d : ℕ} {e : Expr} {x : List Lexeme} → Spells side most 1 d e x → SpellsInit side most d (init_value e) x

  -- STATEMENTS within a depth
  pub data SpellsStmt (side : Side) (most : Option ℕ) : ℕ → Stmt → List Lexeme → Type 0 where
    sp_let : {d : ℕ} {is : LetItems} {x : List Lexeme} (b c : Bool) → SpellsLets side most d is x → SpellsStmt side most (suc d) (Let is) (keyword k.Let b ∷ (x ++ sign s.Semicolon c ∷ []))
    sp_const : {d : ℕ} {is : ConstItems} {x : List Lexeme} (b c : Bool) → SpellsConsts side most d is x → SpellsStmt side most (suc d) (Const is) (keyword k.Const b ∷ (x ++ sign s.Semicolon c ∷ []))
    sp_fun : {d : ℕ} {x : List ℕ} {kind : FunctionKind} {xs : List (List ℕ)} {ss : Stmts} {y : List Lexeme} → SpellsFunction side most d (code (Some x) kind xs ss) y → SpellsStmt side most (suc d) (Fun (code (Some x) kind xs ss)) y
    sp_block : {d : ℕ} {ss : Stmts} {x : List Lexeme} → SpellsBlock side most d ss x → SpellsStmt side most (suc d) (Block ss) x
    sp_if : {d : ℕ} {e : Expr} {yes : Stmt} {x y : List Lexeme} (b c f : Bool) → Spells side most 1 d e x → SpellsBody side most d yes y → SpellsStmt side most (suc d) (If e yes no_stmt) (keyword k.If b ∷ sign s.OpenParen c ∷ (x ++ sign s.CloseParen f ∷ y))
    sp_if_else : {d : ℕ} {e : Expr} {yes no : Stmt} {x y z : List Lexeme} (b c f g : Bool) → Spells side most 1 d e x → SpellsBody side most d yes y → ends_open yes ≡ false → SpellsBody side most d no z → SpellsStmt side most (suc d) (If e yes (some_stmt no)) (keyword k.If b ∷ sign s.OpenParen c ∷ (x ++ sign s.CloseParen f ∷ (y ++ keyword k.Else g ∷ z)))
    sp_while : {d : ℕ} {e : Expr} {body : Stmt} {x y : List Lexeme} (b c f : Bool) → Spells side most 1 d e x → SpellsBody side most d body y → SpellsStmt side most (suc d) (While e body) (keyword k.While b ∷ sign s.OpenParen c ∷ (x ++ sign s.CloseParen f ∷ y))
    sp_do_while : {d : ℕ} {e : Expr} {body : Stmt} {x y : List Lexeme} (b c f g h : Bool) → SpellsBody side most d body x → Spells side most 1 d e y → SpellsStmt side most (suc d) (DoWhile body e) (keyword k.Do b ∷ (x ++ keyword k.While c ∷ sign s.OpenParen f ∷ (y ++ sign s.CloseParen g ∷ sign s.Semicolon h ∷ [])))
    sp_for : {d : ℕ} {i : Init} {test update : MaybeExpr} {body : Stmt} {w x y z : List Lexeme} (b c f g h : Bool) → SpellsInit side most d i w → SpellsMaybe side most d test x → SpellsMaybe side most d update y → SpellsBody side most d body z → SpellsStmt side most (suc d) (For i test update body) (keyword k.For b ∷ sign s.OpenParen c ∷ (w ++ sign s.Semicolon f ∷ (x ++ sign s.Semicolon g ∷ (y ++ sign s.CloseParen h ∷ z))))
    sp_for_of_let : {d : ℕ} {x : List ℕ} {over : Expr} {body : Stmt} {y z : List Lexeme} (b c f g h i : Bool) → side ≡ Source → IsBinding side x → Spells side most 1 d over y → SpellsBody side most d body z → SpellsStmt side most (suc d) (ForOf false x over body) (keyword k.For b ∷ sign s.OpenParen c ∷ keyword k.Let f ∷ lexeme (t.Name x) g ∷ lexeme (t.Name (codes "of")) h ∷ (y ++ sign s.CloseParen i ∷ z))
    sp_for_of_const : {d : ℕ} {x : List ℕ} {over : Expr} {body : Stmt} {y z : List Lexeme} (b c f g h i : Bool) → side ≡ Source → IsBinding side x → Spells side most 1 d over y → SpellsBody side most d body z → SpellsStmt side most (suc d) (ForOf true x over body) (keyword k.For b ∷ sign s.OpenParen c ∷ keyword k.Const f ∷ lexeme (t.Name x) g ∷ lexeme (t.Name (codes "of")) h ∷ (y ++ sign s.CloseParen i ∷ z))
    sp_break : {d : ℕ} {b c : Bool} → SpellsStmt side most (suc d) Break (keyword k.Break b ∷ sign s.Semicolon c ∷ [])
    sp_continue : {d : ℕ} {b c : Bool} → SpellsStmt side most (suc d) Continue (keyword k.Continue b ∷ sign s.Semicolon c ∷ [])
    sp_return_nothing : {d : ℕ} {b c : Bool} → SpellsStmt side most (suc d) (Return no_expr) (keyword k.Return b ∷ sign s.Semicolon c ∷ [])
    sp_return : {d : ℕ} {e : Expr} {x : List Lexeme} (b c : Bool) → Spells side most 1 d e x → SameLine x → SpellsStmt side most (suc d) (Return (some_expr e)) (keyword k.Return b ∷ (x ++ sign s.Semicolon c ∷ []))
    sp_throw : {d : ℕ} {e : Expr} {x : List Lexeme} (b c : Bool) → Spells side most 1 d e x → SameLine x → SpellsStmt side most (suc d) (Throw e) (keyword k.Throw b ∷ (x ++ sign s.Semicolon c ∷ []))
    sp_try_catch : {d : ℕ} {block : Stmts} {c : Catch} {x y : List Lexeme} (b : Bool) → SpellsBlock side most d block x → SpellsCatch side most d c y → SpellsStmt side most (suc d) (Try block c no_last) (keyword k.Try b ∷ (x ++ y))
    sp_try_finally : {d : ℕ} {block final : Stmts} {x y : List Lexeme} (b f : Bool) → SpellsBlock side most d block x → SpellsBlock side most d final y → SpellsStmt side most (suc d) (Try block no_catch (last final)) (keyword k.Try b ∷ (x ++ keyword k.Finally f ∷ y))
    sp_try_both : {d : ℕ} {block final : Stmts} {c : Catch} {x y z : List Lexeme} (b f : Bool) → SpellsBlock side most d block x → SpellsCatch side most d c y → SpellsBlock side most d final z → SpellsStmt side most (suc d) (Try block c (last final)) (keyword k.Try b ∷ (x ++ y ++ keyword k.Finally f ∷ z))
    sp_value : {d : ℕ} {e : Expr} {x : List Lexeme} (b : Bool) → Spells side most 1 d e x → StartsStatement x → SpellsStmt side most (suc d) (Value e) (x ++ sign s.Semicolon b ∷ [])
    sp_empty : {d : ℕ} {b : Bool} → SpellsStmt side most (suc d) Empty (sign s.Semicolon b ∷ [])
    sp_switch : {d : ℕ} {e : Expr} {cs : Clauses} {x y : List Lexeme} (b c f g h : Bool) → side ≡ Plain → Spells side most 1 d e x → SpellsClauses side most d cs y → SpellsStmt side most (suc d) (Switch e cs) (keyword k.Switch b ∷ sign s.OpenParen c ∷ (x ++ sign s.CloseParen f ∷ sign s.OpenBrace g ∷ (y ++ sign s.CloseBrace h ∷ [])))

  pub data SpellsBlock (side : Side) (most : Option ℕ) : ℕ → Stmts → List Lexeme → Type 0 where
    sp_braces : {d : ℕ} {ss : Stmts} {x : List Lexeme} (b c : Bool) → SpellsStmts side most d ss x → SpellsBlock side most d ss (sign s.OpenBrace b ∷ (x ++ sign s.CloseBrace c ∷ []))

  -- a branch or body of one statement
  pub data SpellsBody (side : Side) (most : Option ℕ) : ℕ → Stmt → List Lexeme → Type 0 where
    sp_body : {d : ℕ} {st : Stmt} {x : List Lexeme} → SpellsStmt side most d st x → IsBody st → SpellsBody side most d st x

  pub data SpellsCatch (side : Side) (most : Option ℕ) : ℕ → Catch → List Lexeme → Type 0 where
    sp_catch : {d : ℕ} {ss : Stmts} {x : List Lexeme} {b : Bool} → SpellsBlock side most d ss x → SpellsCatch side most d (catch None ss) (keyword k.Catch b ∷ x)
    sp_catch_name : {d : ℕ} {x : List ℕ} {ss : Stmts} {y : List Lexeme} {b c f g : Bool} → IsBinding side x → SpellsBlock side most d ss y → SpellsCatch side most d (catch (Some x) ss) (keyword k.Catch b ∷ sign s.OpenParen c ∷ lexeme (t.Name x) f ∷ sign s.CloseParen g ∷ y)

  -- clauses with numbers, and once and last a default
  pub data SpellsClauses (side : Side) (most : Option ℕ) : ℕ → Clauses → List Lexeme → Type 0 where
    sp_no_clauses : {d : ℕ} → SpellsClauses side most d no_clauses []
    sp_default : {d : ℕ} {ss : Stmts} {x : List Lexeme} {b c : Bool} → SpellsStmts side most d ss x → SpellsClauses side most d (clause None ss no_clauses) (keyword k.Default b ∷ sign s.Colon c ∷ x)
    sp_case : {d n : ℕ} {ss : Stmts} {cs : Clauses} {x y : List Lexeme} (b c f : Bool) → n ≤ greatest_number → SpellsStmts side most d ss x → SpellsClauses side most d cs y → SpellsClauses side most d (clause (Some n) ss cs) (keyword k.Case b ∷ lexeme (t.Number n) c ∷ sign s.Colon f ∷ (x ++ y))

  pub data SpellsStmts (side : Side) (most : Option ℕ) : ℕ → Stmts → List Lexeme → Type 0 where
    sp_end : {d : ℕ} → SpellsStmts side most d end []
    sp_next : {d : ℕ} {st : Stmt} {ss : Stmts} {x y : List Lexeme} → SpellsStmt side most d st x → SpellsStmts side most d ss y → SpellsStmts side most d (next st ss) (x ++ y)

-- PROGRAMS
-- the tokens spell the program within the limits of the side
abbrev pub IsSpelled : Side → Stmts → List Lexeme → Type 0
IsSpelled side p ts = SpellsStmts side (most side) (deepest side) p ts

-- some tokens spell the program on the side, limits put aside
pub record HasSpelling (side : Side) (p : Stmts) : Type 0 where
  pub depth : ℕ
  pub tokens : List Lexeme
  pub spelled : SpellsStmts side None depth p tokens

-- no tokens spell two programs
abbrev pub OneTree : Type 0
OneTree = (side : Side) (p q : Stmts) (ts : List Lexeme) → IsSpelled side p ts → IsSpelled side q ts → p ≡ q
