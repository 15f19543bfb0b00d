-- Where an expression may begin, and parentheses that may hold an expression or an arrow's parameters.
use Rattle.std.proofs.Common.{◌≡◌, ℕ, ◌≤◌, List, [], ◌∷◌, ◌++◌, Bool, true, false, ◌&&◌, cond, refl, sym, ◌∙◌, ap, arith}
use Rattle.actx_grammar.specs.declared.operators.FunctionKind.{FunctionKind}
use Rattle.actx_grammar.specs.declared.side.Side.{Side}
use Rattle.actx_grammar.specs.declared.side.Side.TheVariants.{Source, Plain}
use Rattle.actx_grammar.specs.declared.token.Keyword.TheVariants as k
use Rattle.actx_grammar.specs.declared.token.Sign.TheVariants as g
use Rattle.actx_grammar.specs.declared.token.TokenKind.{TokenKind}
use Rattle.actx_grammar.specs.declared.token.TokenKind.TheVariants as t
use Rattle.actx_grammar.specs.Grammar.{IsStatementStart, IsBodyStart, StartsStatement, StartsBody}
use Rattle.actx_grammar.specs.Lexemes.{Lexeme, sign, kinds, SameLine}
use Rattle.actx_grammar.specs.Parser.{move}
use Rattle.actx_grammar.specs.ParserFunctions.{begins_operand, yield_operand, at_async, at_name}
use Rattle.actx_grammar.specs.ParserOperands.{is_built_in, is_binding, named, words_go, operand, at_have, at_need}
use Rattle.actx_grammar.specs.ParserState.{Limits, fits, Frame, in_paren, in_arrow, in_value, in_return, in_throw, in_yield, in_for_init, in_for_test, in_for_update, Mode, start, body_start, need, have, have_name, opened, first_name, closed_name, yield_next, async_next, async_start, arrow_body, return_next, throw_next, for_next, for_test, for_update, refuse, go, here}
use Rattle.actx_grammar.specs.Tree.{Init, MaybeExpr}
use Rattle.actx_laws.proofs.ParseBegins.{GoesOn, BeginsValue, first_operand}
use Rattle.actx_laws.proofs.ParseLevels.{grip, binds}
use Rattle.actx_laws.proofs.ParseRuns.{runs, after, if_holds}
use Rattle.actx_laws.proofs.ParseSteps.{opens, swap}

-- WHERE AN EXPRESSION MAY BEGIN
enter : (lim : Limits) (side : Side) (m : Mode) (f : Frame) (s : List Frame) (x r : List Lexeme) → BeginsValue (kinds x) → ((t : TokenKind) (b : Bool) → begins_operand t ≡ true → move lim side m s t b ≡ move lim side need (f ∷ s) t b)
    → runs lim side m s (x ++ r) ≡ runs lim side need (f ∷ s) (x ++ r)
enter lim side m f s [] r h on = absurd h
enter lim side m f s (w ∷ x) r h on = ap (after lim side (x ++ r)) (on w.kind w.line_before (first_operand w.kind (kinds x) h))

-- on the line of what stands before
enter_line : (lim : Limits) (side : Side) (m : Mode) (f : Frame) (s : List Frame) (x r : List Lexeme) → BeginsValue (kinds x) → SameLine x → ((t : TokenKind) → begins_operand t ≡ true → move lim side m s t false ≡ move lim side need (f ∷ s) t false)
    → runs lim side m s (x ++ r) ≡ runs lim side need (f ∷ s) (x ++ r)
enter_line lim side m f s [] r h i on = absurd h
enter_line lim side m f s (w ∷ x) r h i on =
    ap (λ b. after lim side (x ++ r) (move lim side m s w.kind b)) i
    ∙ ap (after lim side (x ++ r)) (on w.kind (first_operand w.kind (kinds x) h))

init_move : (lim : Limits) (side : Side) (s : List Frame) (t : TokenKind) (b : Bool) → begins_operand t ≡ true → move lim side for_next s t b ≡ move lim side need (in_for_init ∷ s) t b
init_move lim side s (t.Keyword k.Let) b h = absurd (cc)
init_move lim side s (t.Keyword k.Const) b h = absurd (cc)
init_move lim side s (t.Keyword _) b h = refl
init_move lim side s (t.Sign g.Semicolon) b h = absurd (cc)
init_move lim side s (t.Sign _) b h = refl
init_move lim side s _ b h = refl

pub init_begins : (lim : Limits) (side : Side) (s : List Frame) (x r : List Lexeme) → BeginsValue (kinds x) → runs lim side for_next s (x ++ r) ≡ runs lim side need (in_for_init ∷ s) (x ++ r)
init_begins lim side s x r h = enter lim side for_next in_for_init s x r h (init_move lim side s)

test_move : (lim : Limits) (side : Side) (i : Init) (n : ℕ) (s : List Frame) (t : TokenKind) (b : Bool) → begins_operand t ≡ true → move lim side (for_test i n) s t b ≡ move lim side need (in_for_test i n ∷ s) t b
test_move lim side i n s (t.Sign g.Semicolon) b h = absurd (cc)
test_move lim side i n s (t.Sign _) b h = refl
test_move lim side i n s _ b h = refl

pub test_begins : (lim : Limits) (side : Side) (i : Init) (n : ℕ) (s : List Frame) (x r : List Lexeme) → BeginsValue (kinds x) → runs lim side (for_test i n) s (x ++ r) ≡ runs lim side need (in_for_test i n ∷ s) (x ++ r)
test_begins lim side i n s x r h = enter lim side (for_test i n) (in_for_test i n) s x r h (test_move lim side i n s)

update_move : (lim : Limits) (side : Side) (i : Init) (e : MaybeExpr) (n : ℕ) (s : List Frame) (t : TokenKind) (b : Bool) → begins_operand t ≡ true → move lim side (for_update i e n) s t b ≡ move lim side need (in_for_update i e n ∷ s) t b
update_move lim side i e n s (t.Sign g.CloseParen) b h = absurd (cc)
update_move lim side i e n s (t.Sign _) b h = refl
update_move lim side i e n s _ b h = refl

pub update_begins : (lim : Limits) (side : Side) (i : Init) (e : MaybeExpr) (n : ℕ) (s : List Frame) (x r : List Lexeme) → BeginsValue (kinds x) → runs lim side (for_update i e n) s (x ++ r) ≡ runs lim side need (in_for_update i e n ∷ s) (x ++ r)
update_begins lim side i e n s x r h = enter lim side (for_update i e n) (in_for_update i e n) s x r h (update_move lim side i e n s)

return_move : (lim : Limits) (side : Side) (s : List Frame) (t : TokenKind) → begins_operand t ≡ true → move lim side return_next s t false ≡ move lim side need (in_return ∷ s) t false
return_move lim side s (t.Sign g.Semicolon) h = absurd (cc)
return_move lim side s (t.Sign _) h = refl
return_move lim side s _ h = refl

pub return_begins : (lim : Limits) (side : Side) (s : List Frame) (x r : List Lexeme) → BeginsValue (kinds x) → SameLine x → runs lim side return_next s (x ++ r) ≡ runs lim side need (in_return ∷ s) (x ++ r)
return_begins lim side s x r h i = enter_line lim side return_next in_return s x r h i (return_move lim side s)

pub throw_begins : (lim : Limits) (side : Side) (s : List Frame) (x r : List Lexeme) → BeginsValue (kinds x) → SameLine x → runs lim side throw_next s (x ++ r) ≡ runs lim side need (in_throw ∷ s) (x ++ r)
throw_begins lim side s x r h i = enter_line lim side throw_next in_throw s x r h i (λ t j. refl)

yield_move : (lim : Limits) (side : Side) (s : List Frame) (t : TokenKind) → begins_operand t ≡ true → move lim side yield_next s t false ≡ move lim side need (in_yield ∷ s) t false
yield_move lim side s (t.Sign g.Star) h = absurd (cc)
yield_move lim side s (t.Sign w) h = ap (λ c. yield_operand lim side (c && true) s (t.Sign w)) h
yield_move lim side s t h = ap (λ c. yield_operand lim side (c && true) s t) h

pub yield_begins : (lim : Limits) (side : Side) (s : List Frame) (x r : List Lexeme) → BeginsValue (kinds x) → SameLine x → runs lim side yield_next s (x ++ r) ≡ runs lim side need (in_yield ∷ s) (x ++ r)
yield_begins lim side s x r h i = enter_line lim side yield_next in_yield s x r h i (yield_move lim side s)

body_move : (lim : Limits) (side : Side) (kind : FunctionKind) (xs : List (List ℕ)) (s : List Frame) (t : TokenKind) (x : List TokenKind) (b : Bool) → IsBodyStart (t ∷ x) → move lim side (arrow_body kind xs) s t b ≡ move lim side need (in_arrow kind xs ∷ s) t b
body_move lim side kind xs s (t.Sign g.OpenBrace) x b h = absurd h
body_move lim side kind xs s (t.Sign _) x b h = refl
body_move lim side kind xs s _ x b h = refl

pub body_begins : (lim : Limits) (side : Side) (kind : FunctionKind) (xs : List (List ℕ)) (s : List Frame) (x r : List Lexeme) → BeginsValue (kinds x) → StartsBody x → runs lim side (arrow_body kind xs) s (x ++ r) ≡ runs lim side need (in_arrow kind xs ∷ s) (x ++ r)
body_begins lim side kind xs s [] r h i = absurd h
body_begins lim side kind xs s (w ∷ x) r h i = ap (after lim side (x ++ r)) (body_move lim side kind xs s w.kind (kinds x) w.line_before i)

-- STATEMENTS THAT ARE EXPRESSIONS
branch_move : (lim : Limits) (side : Side) (s : List Frame) (t : TokenKind) (x : List TokenKind) (b : Bool) → begins_operand t ≡ true → IsStatementStart (t ∷ x) → move lim side body_start s t b ≡ move lim side need (in_value ∷ s) t b
branch_move lim side s (t.Keyword k.Function) x b h i = absurd i
branch_move lim side s (t.Keyword k.This) x b h i = refl
branch_move lim side s (t.Keyword k.True) x b h i = refl
branch_move lim side s (t.Keyword k.False) x b h i = refl
branch_move lim side s (t.Keyword k.Null) x b h i = refl
branch_move lim side s (t.Keyword k.New) x b h i = refl
branch_move lim side s (t.Keyword k.Async) x b h i = refl
branch_move lim side s (t.Keyword k.Await) x b h i = refl
branch_move lim side s (t.Keyword k.Yield) x b h i = refl
branch_move lim side s (t.Keyword k.Typeof) x b h i = refl
branch_move lim side s (t.Keyword k.Void) x b h i = refl
branch_move lim side s (t.Keyword _) x b h i = absurd (cc)
branch_move lim side s (t.Sign g.OpenBrace) x b h i = absurd i
branch_move lim side s (t.Sign g.Semicolon) x b h i = absurd (cc)
branch_move lim side s (t.Sign _) x b h i = refl
branch_move lim side s _ x b h i = refl

pub branch_begins : (lim : Limits) (side : Side) (s : List Frame) (x r : List Lexeme) → BeginsValue (kinds x) → StartsStatement x → runs lim side body_start s (x ++ r) ≡ runs lim side need (in_value ∷ s) (x ++ r)
branch_begins lim side s [] r h i = absurd h
branch_begins lim side s (w ∷ x) r h i = ap (after lim side (x ++ r)) (branch_move lim side s w.kind (kinds x) w.line_before (first_operand w.kind (kinds x) h) i)

start_move : (lim : Limits) (side : Side) (s : List Frame) (u : TokenKind) (x : List TokenKind) (b : Bool) → begins_operand u ≡ true → IsStatementStart (u ∷ x) → (u ≡ t.Keyword k.Async → ⊥) → move lim side start s u b ≡ move lim side need (in_value ∷ s) u b
start_move lim side s (t.Keyword k.Function) x b h i j = absurd i
start_move lim side s (t.Keyword k.This) x b h i j = refl
start_move lim side s (t.Keyword k.True) x b h i j = refl
start_move lim side s (t.Keyword k.False) x b h i j = refl
start_move lim side s (t.Keyword k.Null) x b h i j = refl
start_move lim side s (t.Keyword k.New) x b h i j = refl
start_move lim side s (t.Keyword k.Async) x b h i j = absurd (j refl)
start_move lim side s (t.Keyword k.Await) x b h i j = refl
start_move lim side s (t.Keyword k.Yield) x b h i j = refl
start_move lim side s (t.Keyword k.Typeof) x b h i j = refl
start_move lim side s (t.Keyword k.Void) x b h i j = refl
start_move lim side s (t.Keyword _) x b h i j = absurd (cc)
start_move lim side s (t.Sign g.OpenBrace) x b h i j = absurd i
start_move lim side s (t.Sign g.Semicolon) x b h i j = absurd (cc)
start_move lim side s (t.Sign g.CloseBrace) x b h i j = absurd (cc)
start_move lim side s (t.Sign _) x b h i j = refl
start_move lim side s _ x b h i j = refl

async_move : (lim : Limits) (s : List Frame) (u : TokenKind) (x : List TokenKind) (b : Bool) → fits lim (here (in_value ∷ s)) ≡ true → IsStatementStart (t.Keyword k.Async ∷ u ∷ x) → move lim Source async_start s u b ≡ move lim Source async_next (in_value ∷ s) u b
async_move lim s (t.Keyword k.Function) x b h i = absurd i
async_move lim s (t.Keyword w) x b h i = ap (λ c. cond c (at_async Source (in_value ∷ s) (t.Keyword w) b) refuse) h
async_move lim s t x b h i = ap (λ c. cond c (at_async Source (in_value ∷ s) t b) refuse) h

async_first : (lim : Limits) (s : List Frame) (x r : List Lexeme) → BeginsValue (t.Keyword k.Async ∷ kinds x) → IsStatementStart (t.Keyword k.Async ∷ kinds x) → fits lim (here (in_value ∷ s)) ≡ true
    → runs lim Source async_start s (x ++ r) ≡ runs lim Source async_next (in_value ∷ s) (x ++ r)
async_first lim s [] r h i j = absurd h
async_first lim s (w ∷ x) r h i j = ap (after lim Source (x ++ r)) (async_move lim s w.kind (kinds x) w.line_before j i)

start_first : (lim : Limits) (side : Side) (s : List Frame) (t : TokenKind) (b : Bool) (x r : List Lexeme) → BeginsValue (t ∷ kinds x) → IsStatementStart (t ∷ kinds x) → fits lim (here s) ≡ true → fits lim (here (in_value ∷ s)) ≡ true
    → after lim side (x ++ r) (move lim side start s t b) ≡ after lim side (x ++ r) (move lim side need (in_value ∷ s) t b)
start_first lim Source s (t.Keyword k.Async) b x r h i j w =
    if_holds lim Source (fits lim (here s)) async_start s (x ++ r) j
    ∙ async_first lim s x r h i w
    ∙ sym (ap (after lim Source (x ++ r)) (opens lim Source (in_value ∷ s) (t.Keyword k.Async) w refl))
start_first lim Plain s (t.Keyword k.Async) b x r h i j w = refl
start_first lim side s (t.Keyword u) b x r h i j w = ap (after lim side (x ++ r)) (start_move lim side s (t.Keyword u) (kinds x) b (first_operand (t.Keyword u) (kinds x) h) i (λ e. cc))
start_first lim side s u b x r h i j w = ap (after lim side (x ++ r)) (start_move lim side s u (kinds x) b (first_operand u (kinds x) h) i (λ e. cc))

pub start_begins : (lim : Limits) (side : Side) (s : List Frame) (x r : List Lexeme) → BeginsValue (kinds x) → StartsStatement x → fits lim (here s) ≡ true → fits lim (here (in_value ∷ s)) ≡ true
    → runs lim side start s (x ++ r) ≡ runs lim side need (in_value ∷ s) (x ++ r)
start_begins lim side s [] r h i j w = absurd h
start_begins lim side s (c ∷ x) r h i j w = start_first lim side s c.kind c.line_before x r h i j w

-- PARENTHESES
-- a name in parentheses that no arrow follows
closed_move : (lim : Limits) (side : Side) (x : List ℕ) (s : List Frame) → fits lim (here (in_paren ∷ s)) ≡ true → (t : TokenKind) (b : Bool) → grip t ≤ 12 → move lim side (closed_name x) s t b ≡ move lim side (have (named x) (here (in_paren ∷ s))) s t b
closed_move lim side x s h (t.Sign g.Arrow) b i = absurd (omega arith)
closed_move lim side x s h (t.Sign w) b i = ap (λ c. cond c (at_have lim (named x) (here (in_paren ∷ s)) s (t.Sign w)) refuse) h
closed_move lim side x s h t b i = ap (λ c. cond c (at_have lim (named x) (here (in_paren ∷ s)) s t) refuse) h

closed_have : (lim : Limits) (side : Side) (x : List ℕ) (s : List Frame) (r : List Lexeme) → fits lim (here (in_paren ∷ s)) ≡ true → binds r ≤ 12 → runs lim side (closed_name x) s r ≡ runs lim side (have (named x) (here (in_paren ∷ s))) s r
closed_have lim side x s r h i = swap lim side (closed_name x) (have (named x) (here (in_paren ∷ s))) s s r 12 refl (closed_move lim side x s h) i

first_move : (lim : Limits) (side : Side) (x : List ℕ) (s : List Frame) (t : TokenKind) (y : List TokenKind) (b : Bool) → fits lim (here (in_paren ∷ s)) ≡ true → GoesOn (t ∷ y) → move lim side (first_name x) s t b ≡ move lim side (have_name x) (in_paren ∷ s) t b
first_move lim side x s (t.Sign g.Comma) y b h i = absurd i
first_move lim side x s (t.Sign g.CloseParen) y b h i = absurd i
first_move lim side x s (t.Sign w) y b h i = ap (λ c. cond c (at_name lim x (in_paren ∷ s) (t.Sign w) b) refuse) h
first_move lim side x s t y b h i = ap (λ c. cond c (at_name lim x (in_paren ∷ s) t b) refuse) h

first_same : (lim : Limits) (side : Side) (x : List ℕ) (s : List Frame) (y : List Lexeme) (b : Bool) (r : List Lexeme) → fits lim (here (in_paren ∷ s)) ≡ true → GoesOn (kinds y) → binds r ≤ 12
    → runs lim side (first_name x) s (y ++ sign g.CloseParen b ∷ r) ≡ runs lim side (have_name x) (in_paren ∷ s) (y ++ sign g.CloseParen b ∷ r)
first_same lim side x s [] b r h i j = closed_have lim side x s r h j
first_same lim side x s (w ∷ y) b r h i j = ap (after lim side (y ++ sign g.CloseParen b ∷ r)) (first_move lim side x s w.kind (kinds y) w.line_before h i)

no_clash : (b : Bool) → cond b false true ≡ true → b ≡ false
no_clash true h = absurd (cc)
no_clash false h = refl

-- a name that may be bound is an operand
pub name_opens : (lim : Limits) (side : Side) (s : List Frame) (x : List ℕ) → is_built_in side x ≡ false → operand lim side s (t.Name x) ≡ go (have_name x) s
name_opens lim side s x h = ap (λ b. cond b (words_go lim side (t.Name x ∷ []) s) (go (have_name x) s)) h

name_same : (lim : Limits) (side : Side) (c : Bool) (x : List ℕ) (s : List Frame) (y : List Lexeme) (b : Bool) (r : List Lexeme) → is_binding side x ≡ c → fits lim (here (in_paren ∷ s)) ≡ true → GoesOn (kinds y) → binds r ≤ 12
    → after lim side (y ++ sign g.CloseParen b ∷ r) (cond c (go (first_name x) s) (at_need lim side (in_paren ∷ s) (t.Name x))) ≡ after lim side (y ++ sign g.CloseParen b ∷ r) (at_need lim side (in_paren ∷ s) (t.Name x))
name_same lim side false x s y b r q h i j = refl
name_same lim side true x s y b r q h i j =
    first_same lim side x s y b r h i j
    ∙ sym (ap (after lim side (y ++ sign g.CloseParen b ∷ r)) (opens lim side (in_paren ∷ s) (t.Name x) h refl ∙ name_opens lim side (in_paren ∷ s) x (no_clash (is_built_in side x) q)))

opened_first : (lim : Limits) (side : Side) (s : List Frame) (t : TokenKind) (c : Bool) (x : List Lexeme) (b : Bool) (r : List Lexeme) → fits lim (here (in_paren ∷ s)) ≡ true → BeginsValue (t ∷ kinds x) → binds r ≤ 12
    → after lim side (x ++ sign g.CloseParen b ∷ r) (move lim side opened s t c) ≡ after lim side (x ++ sign g.CloseParen b ∷ r) (move lim side need (in_paren ∷ s) t c)
opened_first lim side s (t.Sign g.CloseParen) c x b r h i j = absurd (cc)
opened_first lim side s (t.Sign _) c x b r h i j = refl
opened_first lim side s (t.Name y) c x b r h i j = name_same lim side (is_binding side y) y s x b r refl h i j
opened_first lim side s _ c x b r h i j = refl

-- an expression in parentheses is read as one
pub opened_same : (lim : Limits) (side : Side) (s : List Frame) (x : List Lexeme) (b : Bool) (r : List Lexeme) → fits lim (here (in_paren ∷ s)) ≡ true → BeginsValue (kinds x) → binds r ≤ 12
    → runs lim side opened s (x ++ sign g.CloseParen b ∷ r) ≡ runs lim side need (in_paren ∷ s) (x ++ sign g.CloseParen b ∷ r)
opened_same lim side s [] b r h i j = absurd i
opened_same lim side s (w ∷ x) b r h i j = opened_first lim side s w.kind w.line_before x b r h i j
