-- What stands behind an operand keeps what was read in order.
use Rattle.std.proofs.Common.{◌≡◌, ℕ, suc, max, ◌≤◌, inl, inr, ◌&&◌, List, [], ◌∷◌, ◌++◌, Bool, true, false, Some, refl, sym, ◌∙◌, ap, subst, arith, append_assoc}
use Rattle.std.specs.Prelude.{if◌then◌else◌}
use Rattle.actx_grammar.specs.declared.operators.BinaryOp.{BinaryOp}
use Rattle.actx_grammar.specs.declared.operators.BinaryOp.TheVariants as o
use Rattle.actx_grammar.specs.declared.operators.FunctionKind.TheVariants.{Arrow}
use Rattle.actx_grammar.specs.declared.operators.LogicOp.{LogicOp}
use Rattle.actx_grammar.specs.declared.operators.LogicOp.TheVariants.{And, Or, Coalesce}
use Rattle.actx_grammar.specs.declared.side.Side.{Side}
use Rattle.actx_grammar.specs.declared.token.Sign.{Sign}
use Rattle.actx_grammar.specs.declared.token.Sign.TheVariants as g
use Rattle.actx_grammar.specs.declared.token.TokenKind.{TokenKind}
use Rattle.actx_grammar.specs.declared.token.TokenKind.TheVariants as t
use Rattle.actx_grammar.specs.Forms.{level_of, sign_of, change_of, bump_sign}
use Rattle.actx_grammar.specs.Grammar.{Allows, SpellsKey, sp_member, sp_bump_behind, sp_bare_param, sp_arrow_head}
use Rattle.actx_grammar.specs.Lexemes.{Lexeme, sign, lexeme}
use Rattle.actx_grammar.specs.Names.{IsBinding}
use Rattle.actx_grammar.specs.ParserFunctions.{assign, at_name}
use Rattle.actx_grammar.specs.ParserOperands.{named, takes_whole, fits_below, binary, logic, unmixed, tighter, at_logic, choice, at_operator, at_have, at_member}
use Rattle.actx_grammar.specs.ParserState.{Limits, fits, Frame, in_unary, in_await, in_binary, in_logic, in_choice, in_call, in_set_name, in_set, in_change, in_index, have_bump, need, member_name, arrow_body, Move, refuse, here, logic_level, Settled, settled, settle}
use Rattle.actx_grammar.specs.Tree.{Expr, Unary, Await, Binary, Logic, Member, Bump, none, Key}
use Rattle.actx_laws.proofs.ParseLevels.{level_in, level_great}
use Rattle.actx_laws.proofs.ParseSteps.{ends_binary, settle_pops, settle_stays}
use Rattle.actx_laws.proofs.ViableTests.{and_left, none_allowed, whole_level, level_in_small, looser, named_spells, fits_max}
use Rattle.actx_laws.proofs.ViableParts.{Deep, Left, left_or, left_ors, left_coalesce, left_coalesces, none_begun}
use Rattle.actx_laws.proofs.ViableOpen.{Sp, logic_sign, Opens, op_binary, op_logic, op_choice, op_call, op_set_name, op_set, op_change, op_index, Place}
use Rattle.actx_laws.proofs.ViableModes.{Held, Viable, v_need, v_have_bump, v_member_name, v_arrow_body, After, chosen, opens_of, fits_of, place_on, opens_along, viable_along}
use Rattle.actx_laws.proofs.ViableSettle.{unary_up, await_up, binary_up, logic_up, or_joined, coalesce_joined, SettledAt, settle_viable}
use Rattle.actx_laws.proofs.ViableEnded.{whole_viable}

-- more tokens behind those of an operand
grown : {lim : Limits} {side : Side} {l : ℕ} {e : Expr} {r : ℕ} {s : List Frame} {p : List Lexeme} (h : Held lim side l e r s p) (z : List Lexeme) → h.before ++ (h.own ++ z) ≡ p ++ z
grown h z = sym (append_assoc h.before h.own z) ∙ ap (λ y. y ++ z) h.all

one_deeper : {lim : Limits} {n r : ℕ} {s : List Frame} → Deep lim n s r → fits lim (suc r) ≡ true → Deep lim (suc n) s (suc r)
one_deeper d w = record { reach = omega (arith, d.reach); within = w }

-- BINARY OPERATORS
binary_viable : (lim : Limits) (side : Side) (op : BinaryOp) (v : Settled) (p : List Lexeme) (b : Bool) → SettledAt lim side (level_of op) v p → After lim side (binary lim op v) (p ++ sign (sign_of op) b ∷ [])
binary_viable lim side op (settled e r s) p b h =
    chosen lim side (fits lim (suc r)) need (in_binary op e (suc r) ∷ s) (p ++ sign (sign_of op) b ∷ []) (λ w.
    v_need (opens_along (grown h.4 (sign (sign_of op) b ∷ [])) (op_binary b h.4.at (omega (arith, h.3, level_great op)) (looser h.4.spells h.2) (one_deeper h.4.deep w))) (λ u y i. tt))

binary_from : {lim : Limits} {side : Side} {l : ℕ} (op : BinaryOp) (e : Expr) (r : ℕ) (s : List Frame) (p : List Lexeme) (b : Bool) → Held lim side l e r s p → level_in s ≤ l → level_of op ≤ l → After lim side (binary lim op (settle (level_of op) e r s)) (p ++ sign (sign_of op) b ∷ [])
binary_from {lim} {side} {l} op e r s p b h m i = binary_viable lim side op (settle (level_of op) e r s) p b (settle_viable s l (level_of op) e r p h m i (inr (level_great op)))

-- CHOICES
low_in : (s : List Frame) → level_in s ≤ 3 → level_in s ≤ 1
low_in (in_unary op ∷ s) h = absurd (omega arith)
low_in (in_await ∷ s) h = absurd (omega arith)
low_in (in_binary op a r ∷ s) h = absurd (omega (arith, level_great op))
low_in (in_logic And a r ∷ s) h = absurd (omega arith)
low_in (in_logic Or a r ∷ s) h = absurd (omega arith)
low_in (in_logic Coalesce a r ∷ s) h = absurd (omega arith)
low_in [] h = omega arith
low_in (_ ∷ s) h = omega arith

choice_viable : (lim : Limits) (side : Side) (v : Settled) (p : List Lexeme) (b : Bool) → SettledAt lim side 3 v p → After lim side (choice lim v) (p ++ sign g.Question b ∷ [])
choice_viable lim side (settled e r s) p b h =
    chosen lim side (fits lim (suc r)) need (in_choice e (suc r) ∷ s) (p ++ sign g.Question b ∷ []) (λ w.
    let low : level_in s ≤ 1 = low_in s h.3 in
    v_need (opens_along (grown h.4 (sign g.Question b ∷ [])) (op_choice b h.4.at (omega (arith, low)) (looser h.4.spells h.2) (one_deeper h.4.deep w))) (λ u y i. tt))

-- LOGIC
-- a left operand behind what is open
record LeftHeld (lim : Limits) (side : Side) (op : LogicOp) (e : Expr) (r : ℕ) (s : List Frame) (p : List Lexeme) : Type 0 where
  pub before : List Lexeme
  pub own : List Lexeme
  pub height : ℕ
  pub at : Place lim side s own before
  pub left : Left side lim.most op height e own
  pub all : before ++ own ≡ p
  pub deep : Deep lim height s r
  pub low : level_in s ≤ logic_level op

logic_viable : (lim : Limits) (side : Side) (op : LogicOp) (e : Expr) (r : ℕ) (s : List Frame) (p : List Lexeme) (b : Bool) → LeftHeld lim side op e r s p → After lim side (logic lim op (settled e r s)) (p ++ sign (logic_sign op) b ∷ [])
logic_viable lim side op e r s p b h =
    chosen lim side (fits lim (suc r)) need (in_logic op e (suc r) ∷ s) (p ++ sign (logic_sign op) b ∷ []) (λ w.
    v_need (opens_along (sym (append_assoc h.before h.own (sign (logic_sign op) b ∷ [])) ∙ ap (λ y. y ++ sign (logic_sign op) b ∷ []) h.all) (op_logic b h.at h.low h.left (one_deeper h.deep w))) (λ u y i. tt))

left_of : {lim : Limits} {side : Side} {l : ℕ} (op : LogicOp) {e : Expr} {r : ℕ} {s : List Frame} {p : List Lexeme} → Held lim side l e r s p → tighter op ≤ l → level_in s ≤ logic_level op → LeftHeld lim side op e r s p
left_of And h i m = record { before = h.before; own = h.own; height = h.height; at = h.at; left = looser h.spells i; all = h.all; deep = h.deep; low = m }
left_of Or h i m = record { before = h.before; own = h.own; height = h.height; at = h.at; left = left_or (looser h.spells i); all = h.all; deep = h.deep; low = m }
left_of Coalesce h i m = record { before = h.before; own = h.own; height = h.height; at = h.at; left = left_coalesce (looser h.spells i); all = h.all; deep = h.deep; low = m }

or_grown : {lim : Limits} {side : Side} {s : List Frame} {q x : List Lexeme} {a e : Expr} {j m r : ℕ} → Opens lim side (in_logic Or a j ∷ s) q → Sp lim side 4 m e x → Deep lim m (in_logic Or a j ∷ s) r → LeftHeld lim side Or (Logic Or a e) (max j r) s (q ++ x)
or_grown {lim = lim} {x = x} {j = j} {m = m} {r = r} (op_logic {p = p} {x = y} {n = n} b at h w f) c d =
    record { before = p; own = y ++ sign g.Or b ∷ x; height = suc (max n m); at = place_on (sign g.Or b ∷ x) at; left = left_ors (or_joined (max n m) b w c (omega arith) (omega arith)); all = simp append_assoc; deep = record { reach = omega (arith, f.reach, d.reach); within = fits_max lim j r f.within d.within }; low = h }

coalesce_grown : {lim : Limits} {side : Side} {s : List Frame} {q x : List Lexeme} {a e : Expr} {j m r : ℕ} → Opens lim side (in_logic Coalesce a j ∷ s) q → Sp lim side 5 m e x → Deep lim m (in_logic Coalesce a j ∷ s) r → LeftHeld lim side Coalesce (Logic Coalesce a e) (max j r) s (q ++ x)
coalesce_grown {lim = lim} {x = x} {j = j} {m = m} {r = r} (op_logic {p = p} {x = y} {n = n} b at h w f) c d =
    record { before = p; own = y ++ sign g.Coalesce b ∷ x; height = suc (max n m); at = place_on (sign g.Coalesce b ∷ x) at; left = left_coalesces (coalesce_joined (max n m) b w c (omega arith) (omega arith)); all = simp append_assoc; deep = record { reach = omega (arith, f.reach, d.reach); within = fits_max lim j r f.within d.within }; low = h }

left_along : {lim : Limits} {side : Side} {op : LogicOp} {e : Expr} {r : ℕ} {s : List Frame} {x y : List Lexeme} → x ≡ y → LeftHeld lim side op e r s x → LeftHeld lim side op e r s y
left_along {lim} {side} {op} {e} {r} {s} q d = subst (λ z. LeftHeld lim side op e r s z) q d

-- where the two ends of the left operand are known
abbrev logic_of : Limits → LogicOp → Settled → Settled → Move
logic_of lim op v w = if unmixed op v then logic lim op w else refuse

logic_along : (lim : Limits) (side : Side) (op : LogicOp) (p : List Lexeme) {v a w b : Settled} → v ≡ a → w ≡ b → After lim side (logic_of lim op a b) p → After lim side (logic_of lim op v w) p
logic_along lim side op p {v = v} {a = a} {w = w} {b = b} i j h = subst (λ z. After lim side (logic_of lim op z w) p) (sym i) (subst (λ z. After lim side (logic_of lim op a z) p) (sym j) h)

binary_both : (lim : Limits) (side : Side) (op : LogicOp) (i j : ℕ) (o : BinaryOp) (a e : Expr) (m n : ℕ) (s : List Frame) (p : List Lexeme) → i ≤ 5 → j ≤ 5 → After lim side (logic_of lim op (settle i (Binary o a e) (max m n) s) (settle j (Binary o a e) (max m n) s)) p
    → After lim side (logic_of lim op (settle i e n (in_binary o a m ∷ s)) (settle j e n (in_binary o a m ∷ s))) p
binary_both lim side op i j o a e m n s p h k d =
    logic_along lim side op p (settle_pops (ends_binary o a e m n) i s (omega (arith, level_great o))) (settle_pops (ends_binary o a e m n) j s (omega (arith, level_great o))) d

and_viable : {lim : Limits} {side : Side} (s : List Frame) (l : ℕ) (e : Expr) (r : ℕ) (p : List Lexeme) (b : Bool) → Held lim side l e r s p → level_in s ≤ l → 4 ≤ l → After lim side (at_logic lim And 4 e r s) (p ++ sign g.And b ∷ [])
and_viable (in_unary op ∷ s) l e r p b h m i = let u = unary_up h m in and_viable s 9 (Unary op e) r p b u.held u.low (omega arith)
and_viable (in_await ∷ s) l e r p b h m i = let u = await_up h m in and_viable s 9 (Await e) r p b u.held u.low (omega arith)
and_viable {lim} {side} (in_binary o a j ∷ s) l e r p b h m i = let u = binary_up h m in binary_both lim side And 4 4 o a e j r s (p ++ sign g.And b ∷ []) (omega arith) (omega arith) (and_viable s (level_of o) (Binary o a e) (max j r) p b u.held u.low (omega (arith, level_great o)))
and_viable (in_logic And a j ∷ s) l e r p b h m i = let u = logic_up And h m in and_viable s 4 (Logic And a e) (max j r) p b u.held u.low (omega arith)
and_viable {lim} {side} (in_logic Or a j ∷ s) l e r p b h m i = logic_viable lim side And e r (in_logic Or a j ∷ s) p b (left_of And h i (omega arith))
and_viable (in_logic Coalesce a j ∷ s) l e r p b h m i = tt
and_viable {lim} {side} [] l e r p b h m i = logic_viable lim side And e r [] p b (left_of And h i (omega arith))
and_viable {lim} {side} (f ∷ s) l e r p b h m i = logic_viable lim side And e r (f ∷ s) p b (left_of And h i (omega arith))

or_viable : {lim : Limits} {side : Side} (s : List Frame) (l : ℕ) (e : Expr) (r : ℕ) (p : List Lexeme) (b : Bool) → Held lim side l e r s p → level_in s ≤ l → 4 ≤ l → After lim side (at_logic lim Or 3 e r s) (p ++ sign g.Or b ∷ [])
or_viable (in_unary op ∷ s) l e r p b h m i = let u = unary_up h m in or_viable s 9 (Unary op e) r p b u.held u.low (omega arith)
or_viable (in_await ∷ s) l e r p b h m i = let u = await_up h m in or_viable s 9 (Await e) r p b u.held u.low (omega arith)
or_viable {lim} {side} (in_binary o a j ∷ s) l e r p b h m i = let u = binary_up h m in binary_both lim side Or 4 3 o a e j r s (p ++ sign g.Or b ∷ []) (omega arith) (omega arith) (or_viable s (level_of o) (Binary o a e) (max j r) p b u.held u.low (omega (arith, level_great o)))
or_viable (in_logic And a j ∷ s) l e r p b h m i = let u = logic_up And h m in or_viable s 4 (Logic And a e) (max j r) p b u.held u.low (omega arith)
or_viable {lim} {side} (in_logic Or a j ∷ s) l e r p b h m i =
    let u = left_along h.all (or_grown (opens_of h.at) (looser h.spells i) h.deep) in
    logic_along lim side Or (p ++ sign g.Or b ∷ []) {v = settled e r (in_logic Or a j ∷ s)} refl (settle_stays 3 (Logic Or a e) (max j r) s (omega arith) (omega arith) u.low) (logic_viable lim side Or (Logic Or a e) (max j r) s p b u)
or_viable (in_logic Coalesce a j ∷ s) l e r p b h m i = tt
or_viable {lim} {side} [] l e r p b h m i = logic_viable lim side Or e r [] p b (left_of Or h i (omega arith))
or_viable {lim} {side} (f ∷ s) l e r p b h m i = logic_viable lim side Or e r (f ∷ s) p b (left_of Or h i (omega arith))

coalesce_viable : {lim : Limits} {side : Side} (s : List Frame) (l : ℕ) (e : Expr) (r : ℕ) (p : List Lexeme) (b : Bool) → Held lim side l e r s p → level_in s ≤ l → 5 ≤ l → After lim side (at_logic lim Coalesce 3 e r s) (p ++ sign g.Coalesce b ∷ [])
coalesce_viable (in_unary op ∷ s) l e r p b h m i = let u = unary_up h m in coalesce_viable s 9 (Unary op e) r p b u.held u.low (omega arith)
coalesce_viable (in_await ∷ s) l e r p b h m i = let u = await_up h m in coalesce_viable s 9 (Await e) r p b u.held u.low (omega arith)
coalesce_viable {lim} {side} (in_binary o a j ∷ s) l e r p b h m i = let u = binary_up h m in binary_both lim side Coalesce 5 3 o a e j r s (p ++ sign g.Coalesce b ∷ []) (omega arith) (omega arith) (coalesce_viable s (level_of o) (Binary o a e) (max j r) p b u.held u.low (omega (arith, level_great o)))
coalesce_viable (in_logic And a j ∷ s) l e r p b h m i = tt
coalesce_viable (in_logic Or a j ∷ s) l e r p b h m i = tt
coalesce_viable {lim} {side} (in_logic Coalesce a j ∷ s) l e r p b h m i =
    let u = left_along h.all (coalesce_grown (opens_of h.at) (looser h.spells i) h.deep) in
    logic_along lim side Coalesce (p ++ sign g.Coalesce b ∷ []) {v = settled e r (in_logic Coalesce a j ∷ s)} refl (settle_stays 3 (Logic Coalesce a e) (max j r) s (omega arith) (omega arith) u.low) (logic_viable lim side Coalesce (Logic Coalesce a e) (max j r) s p b u)
coalesce_viable {lim} {side} [] l e r p b h m i = logic_viable lim side Coalesce e r [] p b (left_of Coalesce h i (omega arith))
coalesce_viable {lim} {side} (f ∷ s) l e r p b h m i = logic_viable lim side Coalesce e r (f ∷ s) p b (left_of Coalesce h i (omega arith))

-- BEHIND AN OPERAND
pub operator_viable : {lim : Limits} {side : Side} {l : ℕ} (e : Expr) (r : ℕ) (s : List Frame) (p : List Lexeme) (u : TokenKind) (b : Bool) → Held lim side l e r s p → 9 ≤ l → After lim side (at_operator lim e r s u) (p ++ lexeme u b ∷ [])
operator_viable e r s p (t.Sign g.Plus) b h i = binary_from o.Add e r s p b h (omega (arith, level_in_small s)) (omega arith)
operator_viable e r s p (t.Sign g.Minus) b h i = binary_from o.Sub e r s p b h (omega (arith, level_in_small s)) (omega arith)
operator_viable e r s p (t.Sign g.Star) b h i = binary_from o.Mul e r s p b h (omega (arith, level_in_small s)) (omega arith)
operator_viable e r s p (t.Sign g.Same) b h i = binary_from o.Same e r s p b h (omega (arith, level_in_small s)) (omega arith)
operator_viable e r s p (t.Sign g.NotSame) b h i = binary_from o.NotSame e r s p b h (omega (arith, level_in_small s)) (omega arith)
operator_viable e r s p (t.Sign g.Less) b h i = binary_from o.Less e r s p b h (omega (arith, level_in_small s)) (omega arith)
operator_viable e r s p (t.Sign g.LessSame) b h i = binary_from o.LessSame e r s p b h (omega (arith, level_in_small s)) (omega arith)
operator_viable e r s p (t.Sign g.More) b h i = binary_from o.More e r s p b h (omega (arith, level_in_small s)) (omega arith)
operator_viable e r s p (t.Sign g.MoreSame) b h i = binary_from o.MoreSame e r s p b h (omega (arith, level_in_small s)) (omega arith)
operator_viable {l = l} e r s p (t.Sign g.And) b h i = and_viable s l e r p b h (omega (arith, level_in_small s)) (omega arith)
operator_viable {l = l} e r s p (t.Sign g.Or) b h i = or_viable s l e r p b h (omega (arith, level_in_small s)) (omega arith)
operator_viable {l = l} e r s p (t.Sign g.Coalesce) b h i = coalesce_viable s l e r p b h (omega (arith, level_in_small s)) (omega arith)
operator_viable {lim} {side} {l} e r s p (t.Sign g.Question) b h i = choice_viable lim side (settle 3 e r s) p b (settle_viable s l 3 e r p h (omega (arith, level_in_small s)) (omega arith) (inl (omega arith)))
operator_viable e r s p (t.Sign w) b h i = whole_viable e r s p (t.Sign w) b h (omega (arith, level_in_small s))
operator_viable e r s p (t.Name x) b h i = whole_viable e r s p (t.Name x) b h (omega (arith, level_in_small s))
operator_viable e r s p (t.Keyword x) b h i = whole_viable e r s p (t.Keyword x) b h (omega (arith, level_in_small s))
operator_viable e r s p (t.Number x) b h i = whole_viable e r s p (t.Number x) b h (omega (arith, level_in_small s))
operator_viable e r s p (t.Text x) b h i = whole_viable e r s p (t.Text x) b h (omega (arith, level_in_small s))

pub have_viable : {lim : Limits} {side : Side} (e : Expr) (r : ℕ) (s : List Frame) (p : List Lexeme) (u : TokenKind) (b : Bool) → Held lim side 11 e r s p → After lim side (at_have lim e r s u) (p ++ lexeme u b ∷ [])
have_viable {lim} {side} e r s p (t.Sign g.Dot) b h = chosen lim side (fits lim (suc r)) (member_name e (suc r)) s (p ++ sign g.Dot b ∷ []) (λ w. viable_along (grown h (sign g.Dot b ∷ [])) (v_member_name b h.at h.spells (one_deeper h.deep w)))
have_viable {lim} {side} e r s p (t.Sign g.OpenBracket) b h = chosen lim side (fits lim (suc r)) need (in_index e (suc r) ∷ s) (p ++ sign g.OpenBracket b ∷ []) (λ w. v_need (opens_along (grown h (sign g.OpenBracket b ∷ [])) (op_index b h.at h.spells (one_deeper h.deep w))) (λ u y i. tt))
have_viable {lim} {side} e r s p (t.Sign g.OpenParen) b h = chosen lim side (fits lim (suc r)) need (in_call e none (suc r) ∷ s) (p ++ sign g.OpenParen b ∷ []) (λ w. v_need (opens_along (grown h (sign g.OpenParen b ∷ [])) (op_call b h.at h.spells none_begun (none_allowed lim.most) (one_deeper h.deep w))) (λ u y i. tt))
have_viable e r s p (t.Sign w) b h = operator_viable e r s p (t.Sign w) b h (omega arith)
have_viable e r s p (t.Name x) b h = operator_viable e r s p (t.Name x) b h (omega arith)
have_viable e r s p (t.Keyword x) b h = operator_viable e r s p (t.Keyword x) b h (omega arith)
have_viable e r s p (t.Number x) b h = operator_viable e r s p (t.Number x) b h (omega arith)
have_viable e r s p (t.Text x) b h = operator_viable e r s p (t.Text x) b h (omega arith)

-- MEMBERS
member_held : {lim : Limits} {side : Side} {e : Expr} {key : Key} {n r : ℕ} {s : List Frame} {p x y : List Lexeme} → Place lim side s x p → Sp lim side 11 n e x → SpellsKey side lim.most n key y → Deep lim (suc n) s r → Held lim side 11 (Member e key) r s (p ++ (x ++ y))
member_held {n = n} {p = p} {x = x} {y = y} at d k w = record { before = p; own = x ++ y; height = suc n; at = place_on y at; spells = sp_member (omega arith) d k; all = refl; deep = w }

pub member_viable : {lim : Limits} {side : Side} {n : ℕ} (e : Expr) (key : Key) (r : ℕ) (s : List Frame) (p x y : List Lexeme) (u : TokenKind) (b : Bool) → Place lim side s x p → Sp lim side 11 n e x → SpellsKey side lim.most n key y → Deep lim (suc n) s r → After lim side (at_member lim e key r s u) ((p ++ (x ++ y)) ++ lexeme u b ∷ [])
member_viable {lim} {side} e key r s p x y (t.Sign g.Assign) b at d k w = chosen lim side (takes_whole s) need (in_set e key r ∷ s) ((p ++ (x ++ y)) ++ sign g.Assign b ∷ []) (λ i. v_need (opens_along (simp append_assoc) (op_set b at (whole_level s i) d k w)) (λ u z j. tt))
member_viable e key r s p x y (t.Sign v) b at d k w = have_viable (Member e key) r s (p ++ (x ++ y)) (t.Sign v) b (member_held at d k w)
member_viable e key r s p x y (t.Name v) b at d k w = have_viable (Member e key) r s (p ++ (x ++ y)) (t.Name v) b (member_held at d k w)
member_viable e key r s p x y (t.Keyword v) b at d k w = have_viable (Member e key) r s (p ++ (x ++ y)) (t.Keyword v) b (member_held at d k w)
member_viable e key r s p x y (t.Number v) b at d k w = have_viable (Member e key) r s (p ++ (x ++ y)) (t.Number v) b (member_held at d k w)
member_viable e key r s p x y (t.Text v) b at d k w = have_viable (Member e key) r s (p ++ (x ++ y)) (t.Text v) b (member_held at d k w)

-- NAMES
pub here_deep : {lim : Limits} {s : List Frame} → fits lim (here s) ≡ true → Deep lim 1 s (here s)
here_deep w = record { reach = omega arith; within = w }

named_held : {lim : Limits} {side : Side} (x : List ℕ) {s : List Frame} {p : List Lexeme} (c : Bool) → Place lim side s (lexeme (t.Name x) c ∷ []) p → IsBinding side x → Held lim side 11 (named x) (here s) s (p ++ lexeme (t.Name x) c ∷ [])
named_held x {p = p} c at n = record { before = p; own = lexeme (t.Name x) c ∷ []; height = 1; at = at; spells = named_spells 11 0 x c n; all = refl; deep = here_deep (fits_of at) }

bumped : {lim : Limits} {side : Side} (x : List ℕ) (up : Bool) {s : List Frame} {p : List Lexeme} (c : Bool) → Place lim side s (lexeme (t.Name x) c ∷ []) p → IsBinding side x → Viable lim side (have_bump (Bump x up false)) s ((p ++ lexeme (t.Name x) c ∷ []) ++ sign (bump_sign up) false ∷ [])
bumped x up {p = p} c at n = v_have_bump (record { before = p; own = lexeme (t.Name x) c ∷ sign (bump_sign up) false ∷ []; height = 1; at = place_on (sign (bump_sign up) false ∷ []) at; spells = sp_bump_behind (omega arith) n; all = simp append_assoc; deep = here_deep (fits_of at) })

-- one parameter alone is allowed
abbrev pub One : Limits → Type 0
One lim = Allows lim.most 1

change_viable : {lim : Limits} {side : Side} (op : BinaryOp) (sg : Sign) (x : List ℕ) (s : List Frame) (p : List Lexeme) (c b : Bool) → change_of op ≡ Some sg → Place lim side s (lexeme (t.Name x) c ∷ []) p → IsBinding side x → After lim side (assign lim (in_change x op) s) ((p ++ lexeme (t.Name x) c ∷ []) ++ sign sg b ∷ [])
change_viable {lim} {side} op sg x s p c b q at n = chosen lim side (takes_whole s && fits_below lim s) need (in_change x op ∷ s) ((p ++ lexeme (t.Name x) c ∷ []) ++ sign sg b ∷ []) (λ w. v_need (opens_along (simp append_assoc) (op_change c b at (whole_level s (and_left (takes_whole s) (fits_below lim s) w)) n q)) (λ u y i. tt))

pub name_viable : {lim : Limits} {side : Side} (x : List ℕ) (s : List Frame) (p : List Lexeme) (c : Bool) (u : TokenKind) (b : Bool) → One lim → Place lim side s (lexeme (t.Name x) c ∷ []) p → IsBinding side x → After lim side (at_name lim x s u b) ((p ++ lexeme (t.Name x) c ∷ []) ++ lexeme u b ∷ [])
name_viable {lim} {side} x s p c (t.Sign g.Arrow) false one at n = chosen lim side (takes_whole s) (arrow_body Arrow (x ∷ [])) s ((p ++ lexeme (t.Name x) c ∷ []) ++ sign g.Arrow false ∷ []) (λ w. viable_along (simp append_assoc) (v_arrow_body at (whole_level s w) (sp_arrow_head (sp_bare_param n one))))
name_viable x s p c (t.Sign g.Arrow) true one at n = tt
name_viable x s p c (t.Sign g.Increment) false one at n = bumped x true c at n
name_viable x s p c (t.Sign g.Increment) true one at n = tt
name_viable x s p c (t.Sign g.Decrement) false one at n = bumped x false c at n
name_viable x s p c (t.Sign g.Decrement) true one at n = tt
name_viable {lim} {side} x s p c (t.Sign g.Assign) b one at n = chosen lim side (takes_whole s && fits_below lim s) need (in_set_name x ∷ s) ((p ++ lexeme (t.Name x) c ∷ []) ++ sign g.Assign b ∷ []) (λ w. v_need (opens_along (simp append_assoc) (op_set_name c b at (whole_level s (and_left (takes_whole s) (fits_below lim s) w)) n)) (λ u y i. tt))
name_viable x s p c (t.Sign g.AddAssign) b one at n = change_viable o.Add g.AddAssign x s p c b refl at n
name_viable x s p c (t.Sign g.SubAssign) b one at n = change_viable o.Sub g.SubAssign x s p c b refl at n
name_viable x s p c (t.Sign g.MulAssign) b one at n = change_viable o.Mul g.MulAssign x s p c b refl at n
name_viable x s p c (t.Sign v) b one at n = have_viable (named x) (here s) s (p ++ lexeme (t.Name x) c ∷ []) (t.Sign v) b (named_held x c at n)
name_viable x s p c (t.Name v) b one at n = have_viable (named x) (here s) s (p ++ lexeme (t.Name x) c ∷ []) (t.Name v) b (named_held x c at n)
name_viable x s p c (t.Keyword v) b one at n = have_viable (named x) (here s) s (p ++ lexeme (t.Name x) c ∷ []) (t.Keyword v) b (named_held x c at n)
name_viable x s p c (t.Number v) b one at n = have_viable (named x) (here s) s (p ++ lexeme (t.Name x) c ∷ []) (t.Number v) b (named_held x c at n)
name_viable x s p c (t.Text v) b one at n = have_viable (named x) (here s) s (p ++ lexeme (t.Name x) c ∷ []) (t.Text v) b (named_held x c at n)
