-- Single steps of the parser: operands that begin, what stands behind them, and what ends what is open.
use Rattle.std.proofs.Common.{◌≡◌, ℕ, suc, max, ◌+◌, ◌≤◌, List, [], ◌∷◌, Bool, true, false, ◌&&◌, None, cond, refl, ◌∙◌, ap, arith}
use Rattle.std.specs.Prelude.{nat_le}
use Rattle.actx_grammar.specs.declared.operators.BinaryOp.{BinaryOp}
use Rattle.actx_grammar.specs.declared.operators.FunctionKind.{FunctionKind}
use Rattle.actx_grammar.specs.declared.operators.LogicOp.{LogicOp}
use Rattle.actx_grammar.specs.declared.operators.LogicOp.TheVariants.{And, Or, Coalesce}
use Rattle.actx_grammar.specs.declared.operators.UnaryOp.{UnaryOp}
use Rattle.actx_grammar.specs.declared.side.Side.{Side}
use Rattle.actx_grammar.specs.declared.token.Sign.TheVariants as g
use Rattle.actx_grammar.specs.declared.token.TokenKind.{TokenKind}
use Rattle.actx_grammar.specs.declared.token.TokenKind.TheVariants as t
use Rattle.actx_grammar.specs.Forms.{level_of}
use Rattle.actx_grammar.specs.Grammar.{StartsStatement}
use Rattle.actx_grammar.specs.Lexemes.{Lexeme}
use Rattle.actx_grammar.specs.Parser.{move, finish}
use Rattle.actx_grammar.specs.ParserOperands.{named, takes_whole, begins_statement, has_room, operand, begin_operand}
use Rattle.actx_grammar.specs.ParserState.{Limits, fits, Frame, in_unary, in_await, in_binary, in_logic, in_other, in_set_name, in_set, in_change, in_arrow, in_yield, in_yield_all, in_value, Mode, have, have_member, have_name, have_bump, whole, yield_next, refuse, levels, here, logic_level, settled, settle}
use Rattle.actx_grammar.specs.Tree.{Expr, Unary, Binary, Logic, Choice, SetName, SetMember, Change, Member, Function, Yield, YieldAll, Await, no_expr, some_expr, Key, code, Return, end, next}
use Rattle.actx_laws.proofs.ParseLevels.{level_in, grip, binds, level_great}
use Rattle.actx_laws.proofs.ParseNames.{le_true, le_false}
use Rattle.actx_laws.proofs.ParseRuns.{runs, after, Fit}

-- PLACES
-- what begins a statement begins no other one
abbrev pub Starts : List Frame → List Lexeme → Type 0
Starts (in_value ∷ s) x = StartsStatement x
Starts _ x = Unit {0}

-- there is room for an operand of this depth and these tokens
pub record Room (lim : Limits) (d : ℕ) (s : List Frame) (x : List Lexeme) : Type 0 where
  pub deep : Fit lim (d + levels s)
  pub more : has_room lim s ≡ true
  pub starts : Starts s x

pub inside : (s : List Frame) (x : List Lexeme) → (StartsStatement x → ⊥) → Starts s x → begins_statement s ≡ false
inside (in_value ∷ s) x h i = absurd (h i)
inside [] x h i = refl
inside (_ ∷ s) x h i = refl

pub whole_taken : (s : List Frame) → level_in s ≤ 1 → takes_whole s ≡ true
whole_taken [] h = refl
whole_taken (in_unary op ∷ s) h = absurd (omega arith)
whole_taken (in_await ∷ s) h = absurd (omega arith)
whole_taken (in_binary op a r ∷ s) h = absurd (omega (arith, level_great op))
whole_taken (in_logic And a r ∷ s) h = absurd (omega arith)
whole_taken (in_logic Or a r ∷ s) h = absurd (omega arith)
whole_taken (in_logic Coalesce a r ∷ s) h = absurd (omega arith)
whole_taken (_ ∷ s) h = refl

-- an operand begins
pub opens : (lim : Limits) (side : Side) (s : List Frame) (t : TokenKind) → fits lim (here s) ≡ true → has_room lim s ≡ true → begin_operand lim side s t ≡ operand lim side s t
opens lim side s t h room =
    ap (λ b. cond (b && has_room lim s) (operand lim side s t) refuse) h
    ∙ ap (λ b. cond b (operand lim side s t) refuse) room

-- WHAT STANDS BEHIND
-- two places go on alike where nothing follows that binds tighter
pub swap : (lim : Limits) (side : Side) (m n : Mode) (s u : List Frame) (r : List Lexeme) (k : ℕ) → finish m s ≡ finish n u → ((t : TokenKind) (b : Bool) → grip t ≤ k → move lim side m s t b ≡ move lim side n u t b) → binds r ≤ k
    → runs lim side m s r ≡ runs lim side n u r
swap lim side m n s u [] k f h i = f
swap lim side m n s u (w ∷ r) k f h i = ap (after lim side r) (h w.kind w.line_before i)

name_move : (lim : Limits) (side : Side) (x : List ℕ) (s : List Frame) (t : TokenKind) (b : Bool) → grip t ≤ 12 → move lim side (have_name x) s t b ≡ move lim side (have (named x) (here s)) s t b
name_move lim side x s (t.Sign g.Arrow) b h = absurd (omega arith)
name_move lim side x s (t.Sign g.Increment) b h = absurd (omega arith)
name_move lim side x s (t.Sign g.Decrement) b h = absurd (omega arith)
name_move lim side x s (t.Sign g.Assign) b h = absurd (omega arith)
name_move lim side x s (t.Sign g.AddAssign) b h = absurd (omega arith)
name_move lim side x s (t.Sign g.SubAssign) b h = absurd (omega arith)
name_move lim side x s (t.Sign g.MulAssign) b h = absurd (omega arith)
name_move lim side x s (t.Sign _) b h = refl
name_move lim side x s _ b h = absurd (omega arith)

pub name_have : (lim : Limits) (side : Side) (x : List ℕ) (s : List Frame) (r : List Lexeme) → binds r ≤ 12 → runs lim side (have_name x) s r ≡ runs lim side (have (named x) (here s)) s r
name_have lim side x s r h = swap lim side (have_name x) (have (named x) (here s)) s s r 12 refl (name_move lim side x s) h

member_move : (lim : Limits) (side : Side) (e : Expr) (key : Key) (n : ℕ) (s : List Frame) (t : TokenKind) (b : Bool) → grip t ≤ 12 → move lim side (have_member e key n) s t b ≡ move lim side (have (Member e key) n) s t b
member_move lim side e key n s (t.Sign g.Assign) b h = absurd (omega arith)
member_move lim side e key n s (t.Sign _) b h = refl
member_move lim side e key n s _ b h = absurd (omega arith)

pub member_have : (lim : Limits) (side : Side) (e : Expr) (key : Key) (n : ℕ) (s : List Frame) (r : List Lexeme) → binds r ≤ 12 → runs lim side (have_member e key n) s r ≡ runs lim side (have (Member e key) n) s r
member_have lim side e key n s r h = swap lim side (have_member e key n) (have (Member e key) n) s s r 12 refl (member_move lim side e key n s) h

bump_move : (lim : Limits) (side : Side) (e : Expr) (s : List Frame) (t : TokenKind) (b : Bool) → grip t ≤ 10 → move lim side (have_bump e) s t b ≡ move lim side (have e (here s)) s t b
bump_move lim side e s (t.Sign g.Dot) b h = absurd (omega arith)
bump_move lim side e s (t.Sign g.OpenBracket) b h = absurd (omega arith)
bump_move lim side e s (t.Sign g.OpenParen) b h = absurd (omega arith)
bump_move lim side e s (t.Sign _) b h = refl
bump_move lim side e s _ b h = absurd (omega arith)

pub bump_have : (lim : Limits) (side : Side) (e : Expr) (s : List Frame) (r : List Lexeme) → binds r ≤ 10 → runs lim side (have_bump e) s r ≡ runs lim side (have e (here s)) s r
bump_have lim side e s r h = swap lim side (have_bump e) (have e (here s)) s s r 10 refl (bump_move lim side e s) h

whole_move : (lim : Limits) (side : Side) (e : Expr) (n : ℕ) (s : List Frame) (t : TokenKind) (b : Bool) → grip t ≤ 1 → move lim side (whole e n) s t b ≡ move lim side (have e n) s t b
whole_move lim side e n s (t.Sign g.CloseParen) b h = refl
whole_move lim side e n s (t.Sign g.CloseBracket) b h = refl
whole_move lim side e n s (t.Sign g.CloseBrace) b h = refl
whole_move lim side e n s (t.Sign g.Comma) b h = refl
whole_move lim side e n s (t.Sign g.Semicolon) b h = refl
whole_move lim side e n s (t.Sign g.Colon) b h = refl
whole_move lim side e n s (t.Sign _) b h = absurd (omega arith)
whole_move lim side e n s _ b h = absurd (omega arith)

pub whole_have : (lim : Limits) (side : Side) (e : Expr) (n : ℕ) (s : List Frame) (r : List Lexeme) → binds r ≤ 1 → runs lim side (whole e n) s r ≡ runs lim side (have e n) s r
whole_have lim side e n s r h = swap lim side (whole e n) (have e n) s s r 1 refl (whole_move lim side e n s) h

yield_move : (lim : Limits) (side : Side) (s : List Frame) (t : TokenKind) (b : Bool) → grip t ≤ 1 → move lim side yield_next s t b ≡ move lim side (have (Yield no_expr) (here s)) s t b
yield_move lim side s (t.Sign g.CloseParen) b h = refl
yield_move lim side s (t.Sign g.CloseBracket) b h = refl
yield_move lim side s (t.Sign g.CloseBrace) b h = refl
yield_move lim side s (t.Sign g.Comma) b h = refl
yield_move lim side s (t.Sign g.Semicolon) b h = refl
yield_move lim side s (t.Sign g.Colon) b h = refl
yield_move lim side s (t.Sign _) b h = absurd (omega arith)
yield_move lim side s _ b h = absurd (omega arith)

pub yield_have : (lim : Limits) (side : Side) (s : List Frame) (r : List Lexeme) → binds r ≤ 1 → runs lim side yield_next s r ≡ runs lim side (have (Yield no_expr) (here s)) s r
yield_have lim side s r h = swap lim side yield_next (have (Yield no_expr) (here s)) s s r 1 refl (yield_move lim side s) h

-- WHAT IS ENDED
-- what binds at the level and stands innermost is ended
pub data Ends : ℕ → Frame → Expr → ℕ → Expr → ℕ → Type 0 where
  ends_unary : (op : UnaryOp) (e : Expr) (n : ℕ) → Ends 9 (in_unary op) e n (Unary op e) n
  ends_await : (e : Expr) (n : ℕ) → Ends 9 in_await e n (Await e) n
  ends_binary : (op : BinaryOp) (a e : Expr) (m n : ℕ) → Ends (level_of op) (in_binary op a m) e n (Binary op a e) (max m n)
  ends_logic : (op : LogicOp) (a e : Expr) (m n : ℕ) → Ends (logic_level op) (in_logic op a m) e n (Logic op a e) (max m n)
  ends_other : (a c e : Expr) (m n : ℕ) → Ends 2 (in_other a c m) e n (Choice a c e) (max m n)
  ends_set_name : (x : List ℕ) (e : Expr) (n : ℕ) → Ends 1 (in_set_name x) e n (SetName x e) n
  ends_set : (a : Expr) (key : Key) (e : Expr) (m n : ℕ) → Ends 1 (in_set a key m) e n (SetMember a key e) (max m n)
  ends_change : (x : List ℕ) (op : BinaryOp) (e : Expr) (n : ℕ) → Ends 1 (in_change x op) e n (Change x op e) n
  ends_arrow : (kind : FunctionKind) (xs : List (List ℕ)) (e : Expr) (n : ℕ) → Ends 1 (in_arrow kind xs) e n (Function (code None kind xs (next (Return (some_expr e)) end))) n
  ends_yield : (e : Expr) (n : ℕ) → Ends 1 in_yield e n (Yield (some_expr e)) n
  ends_yield_all : (e : Expr) (n : ℕ) → Ends 1 in_yield_all e n (YieldAll e) n

popped : (k l n m : ℕ) (f : Frame) (e c : Expr) (s : List Frame) → l ≤ k → cond (nat_le l k) (settle l c m s) (settled e n (f ∷ s)) ≡ settle l c m s
popped k l n m f e c s h = ap (λ b. cond b (settle l c m s) (settled e n (f ∷ s))) (le_true l k h)

pub settle_pops : {k n m : ℕ} {f : Frame} {e c : Expr} (p : Ends k f e n c m) (l : ℕ) (s : List Frame) → l ≤ k → settle l e n (f ∷ s) ≡ settle l c m s
settle_pops (ends_unary op e n) l s h = popped 9 l n n (in_unary op) e (Unary op e) s h
settle_pops (ends_await e n) l s h = popped 9 l n n in_await e (Await e) s h
settle_pops (ends_binary op a e m n) l s h = popped (level_of op) l n (max m n) (in_binary op a m) e (Binary op a e) s h
settle_pops (ends_logic op a e m n) l s h = popped (logic_level op) l n (max m n) (in_logic op a m) e (Logic op a e) s h
settle_pops (ends_other a c e m n) l s h = popped 2 l n (max m n) (in_other a c m) e (Choice a c e) s h
settle_pops (ends_set_name x e n) l s h = popped 1 l n n (in_set_name x) e (SetName x e) s h
settle_pops (ends_set a key e m n) l s h = popped 1 l n (max m n) (in_set a key m) e (SetMember a key e) s h
settle_pops (ends_change x op e n) l s h = popped 1 l n n (in_change x op) e (Change x op e) s h
settle_pops (ends_arrow kind xs e n) l s h = popped 1 l n n (in_arrow kind xs) e (Function (code None kind xs (next (Return (some_expr e)) end))) s h
settle_pops (ends_yield e n) l s h = popped 1 l n n in_yield e (Yield (some_expr e)) s h
settle_pops (ends_yield_all e n) l s h = popped 1 l n n in_yield_all e (YieldAll e) s h

-- what binds less tightly stays open
stays : (k l n m : ℕ) (f : Frame) (e c : Expr) (s : List Frame) → suc k ≤ l → cond (nat_le l k) (settle l c m s) (settled e n (f ∷ s)) ≡ settled e n (f ∷ s)
stays k l n m f e c s h = ap (λ b. cond b (settle l c m s) (settled e n (f ∷ s))) (le_false l k h)

pub settle_stays : (l : ℕ) (e : Expr) (n : ℕ) (s : List Frame) → 3 ≤ l → l ≤ 8 → level_in s ≤ l → settle l e n s ≡ settled e n s
settle_stays l e n [] k j h = refl
settle_stays l e n (in_unary op ∷ s) k j h = absurd (omega arith)
settle_stays l e n (in_await ∷ s) k j h = absurd (omega arith)
settle_stays l e n (in_binary op a m ∷ s) k j h = stays (level_of op) l n (max m n) (in_binary op a m) e (Binary op a e) s h
settle_stays l e n (in_logic And a m ∷ s) k j h = stays 4 l n (max m n) (in_logic And a m) e (Logic And a e) s h
settle_stays l e n (in_logic Or a m ∷ s) k j h = stays 3 l n (max m n) (in_logic Or a m) e (Logic Or a e) s h
settle_stays l e n (in_logic Coalesce a m ∷ s) k j h = stays 3 l n (max m n) (in_logic Coalesce a m) e (Logic Coalesce a e) s (omega arith)
settle_stays l e n (in_other a c m ∷ s) k j h = stays 2 l n (max m n) (in_other a c m) e (Choice a c e) s k
settle_stays l e n (in_set_name x ∷ s) k j h = stays 1 l n n (in_set_name x) e (SetName x e) s (omega arith)
settle_stays l e n (in_set a key m ∷ s) k j h = stays 1 l n (max m n) (in_set a key m) e (SetMember a key e) s (omega arith)
settle_stays l e n (in_change x op ∷ s) k j h = stays 1 l n n (in_change x op) e (Change x op e) s (omega arith)
settle_stays l e n (in_arrow kind xs ∷ s) k j h = stays 1 l n n (in_arrow kind xs) e (Function (code None kind xs (next (Return (some_expr e)) end))) s (omega arith)
settle_stays l e n (in_yield ∷ s) k j h = stays 1 l n n in_yield e (Yield (some_expr e)) s (omega arith)
settle_stays l e n (in_yield_all ∷ s) k j h = stays 1 l n n in_yield_all e (YieldAll e) s (omega arith)
settle_stays l e n (_ ∷ s) k j h = refl
