-- How an expression begins.
use Rattle.std.proofs.Common.{◌≡◌, ℕ, ◌≤◌, List, [], ◌∷◌, ◌++◌, Bool, true, false, Option, Some, refl, sym, ap, subst, arith}
use Rattle.std.specs.Prelude.{codes}
use Rattle.actx_grammar.specs.declared.operators.BinaryOp.{BinaryOp}
use Rattle.actx_grammar.specs.declared.operators.BinaryOp.TheVariants as o
use Rattle.actx_grammar.specs.declared.operators.Form.{Form}
use Rattle.actx_grammar.specs.declared.operators.Form.TheVariants as f
use Rattle.actx_grammar.specs.declared.operators.FunctionKind.{FunctionKind}
use Rattle.actx_grammar.specs.declared.operators.UnaryOp.{UnaryOp}
use Rattle.actx_grammar.specs.declared.operators.UnaryOp.TheVariants as u
use Rattle.actx_grammar.specs.declared.side.Side.{Side}
use Rattle.actx_grammar.specs.declared.side.Side.TheVariants.{Source, Plain}
use Rattle.actx_grammar.specs.declared.token.Keyword.TheVariants as k
use Rattle.actx_grammar.specs.declared.token.Sign.{Sign}
use Rattle.actx_grammar.specs.declared.token.Sign.TheVariants as g
use Rattle.actx_grammar.specs.declared.token.TokenKind.{TokenKind}
use Rattle.actx_grammar.specs.declared.token.TokenKind.TheVariants as t
use Rattle.actx_grammar.specs.Forms.{unary_word, sign_of, change_of, bump_sign, form_words, HasWords}
use Rattle.actx_grammar.specs.Grammar.{IsStatementStart, StartsStatement, SpellsParams, sp_no_params, sp_params, sp_params_comma, SpellsArrowParams, sp_bare_param, sp_listed_params, SpellsHead, sp_normal, sp_normal_named, sp_generator, sp_generator_named, sp_async, sp_async_named, SpellsArrow, sp_arrow_head, sp_async_arrow_head, Spells, SpellsOr, SpellsCoalesce, SpellsKey, SpellsArguments, SpellsFunction, sp_arrow, sp_short_arrow, sp_yield_nothing, sp_yield, sp_yield_all, sp_set_name, sp_set_member, sp_change, sp_choice, sp_or, sp_coalesce, sp_and, sp_binary, sp_unary, sp_await, sp_bump_before, sp_bump_behind, sp_member, sp_call, sp_form, sp_call_with, sp_name, sp_number, sp_text, sp_true, sp_false, sp_null, sp_undefined, sp_this, sp_object, sp_function, sp_paren, sp_first_or, sp_more_or, sp_first_coalesce, sp_more_coalesce, sp_dot, sp_index, sp_no_arguments, sp_arguments, sp_arguments_comma, sp_code}
use Rattle.actx_grammar.specs.Lexemes.{Lexeme, sign, keyword, lexeme, kinds}
use Rattle.actx_grammar.specs.ParserFunctions.{begins_operand}
use Rattle.actx_grammar.specs.Tree.{Expr, Key, Exprs, Code}

-- what stands behind a name that begins an expression
abbrev pub GoesOn : List TokenKind → Type 0
GoesOn (t.Sign g.Comma ∷ x) = ⊥
GoesOn (t.Sign g.CloseParen ∷ x) = ⊥
GoesOn _ = Unit {0}

abbrev pub BeginsValue : List TokenKind → Type 0
BeginsValue [] = ⊥
BeginsValue (t.Name y ∷ x) = GoesOn x
BeginsValue (t.Keyword k.Async ∷ []) = ⊥
BeginsValue (t.Keyword k.Async ∷ w ∷ x) = Unit {0}
BeginsValue (w ∷ x) = begins_operand w ≡ true

pub first_operand : (w : TokenKind) (x : List TokenKind) → BeginsValue (w ∷ x) → begins_operand w ≡ true
first_operand (t.Name y) x h = refl
first_operand (t.Keyword k.Async) x h = refl
first_operand (t.Keyword _) x h = h
first_operand (t.Number n) x h = refl
first_operand (t.Text n) x h = refl
first_operand (t.Sign _) x h = h

goes_more : (x y : List TokenKind) → GoesOn x → GoesOn y → GoesOn (x ++ y)
goes_more [] y h i = i
goes_more (t.Sign g.Comma ∷ x) y h i = absurd h
goes_more (t.Sign g.CloseParen ∷ x) y h i = absurd h
goes_more (t.Sign _ ∷ x) y h i = tt
goes_more (_ ∷ x) y h i = tt

begins_on : (x y : List TokenKind) → BeginsValue x → GoesOn y → BeginsValue (x ++ y)
begins_on [] y h i = absurd h
begins_on (t.Name w ∷ x) y h i = goes_more x y h i
begins_on (t.Keyword k.Async ∷ []) y h i = absurd h
begins_on (t.Keyword k.Async ∷ w ∷ x) y h i = tt
begins_on (t.Keyword _ ∷ x) y h i = h
begins_on (t.Number n ∷ x) y h i = h
begins_on (t.Text n ∷ x) y h i = h
begins_on (t.Sign _ ∷ x) y h i = h

pub kinds_append : (x y : List Lexeme) → kinds (x ++ y) ≡ kinds x ++ kinds y
kinds_append [] y = refl
kinds_append (w ∷ x) y = ap (λ z. w.kind ∷ z) (kinds_append x y)

from : (x y : List Lexeme) → BeginsValue (kinds x) → GoesOn (kinds y) → BeginsValue (kinds (x ++ y))
from x y h i = subst BeginsValue (sym (kinds_append x y)) (begins_on (kinds x) (kinds y) h i)

-- WHAT GOES ON
op_goes_on : (op : BinaryOp) (b : Bool) (y : List Lexeme) → GoesOn (kinds (sign (sign_of op) b ∷ y))
op_goes_on o.Same b y = tt
op_goes_on _ b y = tt

change_goes_on : (op : BinaryOp) (sg : Sign) (c : Bool) (y : List Lexeme) → change_of op ≡ Some sg → GoesOn (kinds (sign sg c ∷ y))
change_goes_on o.Add sg c y h = let e : g.AddAssign ≡ sg = cc in subst (λ z. GoesOn (kinds (sign z c ∷ y))) e tt
change_goes_on o.Sub sg c y h = let e : g.SubAssign ≡ sg = cc in subst (λ z. GoesOn (kinds (sign z c ∷ y))) e tt
change_goes_on o.Mul sg c y h = let e : g.MulAssign ≡ sg = cc in subst (λ z. GoesOn (kinds (sign z c ∷ y))) e tt
change_goes_on _ sg c y h = absurd (cc)

key_goes_on : {side : Side} {most : Option ℕ} {d : ℕ} {key : Key} {y : List Lexeme} → SpellsKey side most d key y → GoesOn (kinds y)
key_goes_on (sp_dot q h i) = tt
key_goes_on (sp_index b c p) = tt

arguments_go_on : {side : Side} {most : Option ℕ} {d : ℕ} {es : Exprs} {y : List Lexeme} → SpellsArguments side most d es y → GoesOn (kinds y)
arguments_go_on sp_no_arguments = tt
arguments_go_on (sp_arguments b c p a) = tt
arguments_go_on (sp_arguments_comma b c f p a) = tt

bump_goes_on : (up b : Bool) (y : List Lexeme) → GoesOn (kinds (sign (bump_sign up) b ∷ y))
bump_goes_on true b y = tt
bump_goes_on false b y = tt

-- WHAT BEGINS
params_begin : {side : Side} {most : Option ℕ} {xs : List (List ℕ)} {x : List Lexeme} → SpellsParams side most xs x → (y : List Lexeme) → BeginsValue (kinds (x ++ y))
params_begin sp_no_params y = refl
params_begin (sp_params b c n a) y = refl
params_begin (sp_params_comma b c d n a) y = refl

arrow_params_begin : {side : Side} {most : Option ℕ} {xs : List (List ℕ)} {x : List Lexeme} → SpellsArrowParams side most xs x → (y : List Lexeme) → BeginsValue (kinds (x ++ sign g.Arrow false ∷ y))
arrow_params_begin (sp_bare_param h a) y = tt
arrow_params_begin (sp_listed_params p) y = params_begin p (sign g.Arrow false ∷ y)

async_begins : {side : Side} {most : Option ℕ} {xs : List (List ℕ)} {x : List Lexeme} → SpellsArrowParams side most xs x → (b : Bool) (y : List Lexeme) → BeginsValue (kinds (keyword k.Async b ∷ (x ++ y)))
async_begins (sp_bare_param h a) b y = tt
async_begins (sp_listed_params sp_no_params) b y = tt
async_begins (sp_listed_params (sp_params c e n a)) b y = tt
async_begins (sp_listed_params (sp_params_comma c e i n a)) b y = tt

arrow_begins : {side : Side} {most : Option ℕ} {kind : FunctionKind} {xs : List (List ℕ)} {x : List Lexeme} → SpellsArrow side most kind xs x → (y : List Lexeme) → BeginsValue (kinds (x ++ sign g.Arrow false ∷ y))
arrow_begins (sp_arrow_head p) y = arrow_params_begin p y
arrow_begins (sp_async_arrow_head {b = b} h p i) y = async_begins p b (sign g.Arrow false ∷ y)

head_begins : {side : Side} {kind : FunctionKind} {name : Option (List ℕ)} {x : List Lexeme} → SpellsHead side kind name x → (y z : List Lexeme) → BeginsValue (kinds (x ++ y ++ z))
head_begins sp_normal y z = refl
head_begins (sp_normal_named n) y z = refl
head_begins (sp_generator h) y z = refl
head_begins (sp_generator_named h n) y z = refl
head_begins (sp_async h) y z = tt
head_begins (sp_async_named h n) y z = tt

words_begin : (side : Side) (form : Form) → HasWords side form → (y : List TokenKind) → GoesOn y → BeginsValue (form_words form ++ y)
words_begin side f.Log h y i = tt
words_begin side (f.NewError name) h y i = refl
words_begin side f.QueueMicrotask h y i = i
words_begin Source f.NewPromise h y i = refl
words_begin Source f.PromiseResolve h y i = tt
words_begin Source f.PromiseReject h y i = tt
words_begin Source f.NewVariable h y i = refl
words_begin Source f.NewSnapshot h y i = refl
words_begin Source f.Wrap h y i = tt
words_begin Source f.HostOn h y i = tt
words_begin Source f.Span h y i = tt
words_begin Source f.CurrentSpan h y i = tt
words_begin Plain f.NewWeakMap h y i = refl
words_begin Plain f.Freeze h y i = tt
words_begin Plain f.Note h y i = tt
words_begin Plain f.On h y i = tt
words_begin Plain f.Leave h y i = tt
words_begin Source _ h y i = absurd h
words_begin Plain _ h y i = absurd h

unary_value : (op : UnaryOp) (x : List TokenKind) → BeginsValue (unary_word op ∷ x)
unary_value u.Not x = refl
unary_value _ x = refl

bump_value : (up : Bool) (x : List TokenKind) → BeginsValue (t.Sign (bump_sign up) ∷ x)
bump_value true x = refl
bump_value false x = refl

mutual
  pub value_begins : {side : Side} {most : Option ℕ} {l d : ℕ} {e : Expr} {x : List Lexeme} → Spells side most l d e x → BeginsValue (kinds x)
  value_begins (sp_arrow {y = y} b c h ps p) = arrow_begins ps (sign g.OpenBrace b ∷ (y ++ sign g.CloseBrace c ∷ []))
  value_begins (sp_short_arrow {y = y} h ps p s) = arrow_begins ps y
  value_begins (sp_yield_nothing q h) = refl
  value_begins (sp_yield q h p s) = refl
  value_begins (sp_yield_all q h p) = refl
  value_begins (sp_set_name h n p) = tt
  value_begins (sp_set_member {x = x} {y = y} {z = z} b h p k q) = from (x ++ y) (sign g.Assign b ∷ z) (from x y (value_begins p) (key_goes_on k)) tt
  value_begins (sp_change {op = op} {y = y} {c = c} {sg = sg} h n q p) = change_goes_on op sg c y q
  value_begins (sp_choice {x = x} {y = y} {z = z} b c h p q r) = from x (sign g.Question b ∷ (y ++ sign g.Colon c ∷ z)) (value_begins p) tt
  value_begins (sp_or h p) = or_begins p
  value_begins (sp_coalesce h p) = coalesce_begins p
  value_begins (sp_and {x = x} {y = y} b h p q) = from x (sign g.And b ∷ y) (value_begins p) tt
  value_begins (sp_binary {x = x} {y = y} op b h p q) = from x (sign (sign_of op) b ∷ y) (value_begins p) (op_goes_on op b y)
  value_begins (sp_unary {x = x} op h p) = unary_value op (kinds x)
  value_begins (sp_await s h p) = refl
  value_begins (sp_bump_before {x = x} {up = up} {c = c} h n) = bump_value up (kinds (lexeme (t.Name x) c ∷ []))
  value_begins (sp_bump_behind {up = up} h n) = bump_goes_on up false []
  value_begins (sp_member {x = x} {y = y} h p k) = from x y (value_begins p) (key_goes_on k)
  value_begins (sp_call {x = x} {y = y} h p a) = from x y (value_begins p) (arguments_go_on a)
  value_begins {side = side} (sp_form {y = y} form x h w q a s) =
      subst BeginsValue (sym (kinds_append x y)) (subst (λ z. BeginsValue (z ++ kinds y)) q (words_begin side form w (kinds y) (arguments_go_on a)))
  value_begins (sp_call_with {x = x} {y = y} b c s h p a) = from x (sign g.Dot b ∷ lexeme (t.Name (codes "call")) c ∷ y) (value_begins p) tt
  value_begins (sp_name h) = tt
  value_begins (sp_number h) = refl
  value_begins (sp_text h) = refl
  value_begins sp_true = refl
  value_begins sp_false = refl
  value_begins sp_null = refl
  value_begins sp_undefined = tt
  value_begins sp_this = refl
  value_begins (sp_object b c p) = refl
  value_begins (sp_function p) = function_begins p
  value_begins (sp_paren b c p) = refl

  or_begins : {side : Side} {most : Option ℕ} {d : ℕ} {e f : Expr} {x : List Lexeme} → SpellsOr side most d e f x → BeginsValue (kinds x)
  or_begins (sp_first_or {x = x} {y = y} b p q) = from x (sign g.Or b ∷ y) (value_begins p) tt
  or_begins (sp_more_or {x = x} {y = y} b p q) = from x (sign g.Or b ∷ y) (or_begins p) tt

  coalesce_begins : {side : Side} {most : Option ℕ} {d : ℕ} {e f : Expr} {x : List Lexeme} → SpellsCoalesce side most d e f x → BeginsValue (kinds x)
  coalesce_begins (sp_first_coalesce {x = x} {y = y} b p q) = from x (sign g.Coalesce b ∷ y) (value_begins p) tt
  coalesce_begins (sp_more_coalesce {x = x} {y = y} b p q) = from x (sign g.Coalesce b ∷ y) (coalesce_begins p) tt

  function_begins : {side : Side} {most : Option ℕ} {d : ℕ} {c : Code} {x : List Lexeme} → SpellsFunction side most d c x → BeginsValue (kinds x)
  function_begins (sp_code {y = y} {z = z} b c h ps p) = head_begins h y (sign g.OpenBrace b ∷ (z ++ sign g.CloseBrace c ∷ []))

-- an expression has some depth
pub some_depth : {side : Side} {most : Option ℕ} {l d : ℕ} {e : Expr} {x : List Lexeme} → Spells side most l d e x → 1 ≤ d
some_depth (sp_or h p) = omega arith
some_depth _ = omega arith

-- what begins both does so by its first part
pub start_left : (x y : List Lexeme) → StartsStatement (x ++ y) → StartsStatement x
start_left x y h = left_kinds (kinds x) (kinds y) (subst IsStatementStart (kinds_append x y) h)
  where
    left_kinds : (x y : List TokenKind) → IsStatementStart (x ++ y) → IsStatementStart x
    left_kinds [] y h = tt
    left_kinds (t.Sign g.OpenBrace ∷ x) y h = absurd h
    left_kinds (t.Keyword k.Function ∷ x) y h = absurd h
    left_kinds (t.Keyword k.Async ∷ []) y h = tt
    left_kinds (t.Keyword k.Async ∷ t.Keyword k.Function ∷ x) y h = absurd h
    left_kinds (t.Keyword k.Async ∷ t.Keyword _ ∷ x) y h = tt
    left_kinds (t.Keyword k.Async ∷ _ ∷ x) y h = tt
    left_kinds (t.Keyword _ ∷ x) y h = tt
    left_kinds (t.Sign _ ∷ x) y h = tt
    left_kinds (_ ∷ x) y h = tt
