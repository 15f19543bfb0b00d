-- What an operand ends keeps what was read in order.
use Rattle.std.proofs.Common.{◌≡◌, ℕ, zero, suc, max, ◌≤◌, ◌<◌, ◌⊎◌, inl, inr, List, [], ◌∷◌, ◌++◌, Bool, true, false, Option, None, cond, refl, subst, arith, append_assoc}
use Rattle.std.proofs.lemmas.Bool.Decides.{nat_tests}
use Rattle.std.proofs.lemmas.List.{append-nil}
use Rattle.std.specs.Prelude.{nat_le}
use Rattle.actx_grammar.specs.declared.operators.BinaryOp.{BinaryOp}
use Rattle.actx_grammar.specs.declared.operators.FunctionKind.{FunctionKind}
use Rattle.actx_grammar.specs.declared.operators.LogicOp.{LogicOp}
use Rattle.actx_grammar.specs.declared.operators.LogicOp.TheVariants.{And, Or, Coalesce}
use Rattle.actx_grammar.specs.declared.operators.UnaryOp.{UnaryOp}
use Rattle.actx_grammar.specs.declared.side.Side.{Side}
use Rattle.actx_grammar.specs.declared.token.Keyword.TheVariants as k
use Rattle.actx_grammar.specs.declared.token.Sign.TheVariants as g
use Rattle.actx_grammar.specs.declared.token.TokenKind.TheVariants as t
use Rattle.actx_grammar.specs.Forms.{unary_word, level_of, sign_of}
use Rattle.actx_grammar.specs.Grammar.{StartsBody, Spells, SpellsOr, SpellsCoalesce, sp_short_arrow, sp_yield, sp_yield_all, sp_set_name, sp_set_member, sp_change, sp_choice, sp_or, sp_coalesce, sp_and, sp_binary, sp_unary, sp_await, sp_first_or, sp_more_or, sp_first_coalesce, sp_more_coalesce}
use Rattle.actx_grammar.specs.Lexemes.{Lexeme, sign, keyword, lexeme, SameLine}
use Rattle.actx_grammar.specs.ParserState.{Limits, Frame, in_unary, in_await, in_binary, in_logic, in_other, in_set_name, in_set, in_change, in_arrow, in_yield, in_yield_all, logic_level, Settled, settled, settle}
use Rattle.actx_grammar.specs.Tree.{Expr, Unary, Binary, Logic, Choice, SetName, SetMember, Change, Function, Yield, YieldAll, Await, some_expr, Key, code, Return, end, next}
use Rattle.actx_laws.proofs.ParseLevels.{level_in, right_level}
use Rattle.actx_laws.proofs.SpellDeeper.{deeper, deeper_or, deeper_coalesce, deeper_key}
use Rattle.actx_laws.proofs.ViableTests.{fits_max, level_in_small, looser}
use Rattle.actx_laws.proofs.ViableParts.{Deep, Starts, LeftOr, left_or, left_ors, LeftCoalesce, left_coalesce, left_coalesces}
use Rattle.actx_laws.proofs.ViableOpen.{Sp, Opens, op_unary, op_await, op_binary, op_logic, op_other, op_set_name, op_set, op_change, op_arrow, op_yield, op_yield_all}
use Rattle.actx_laws.proofs.ViableModes.{Held, opens_of, starts_of, place_on}

-- an operand that ended with what it stood in
pub record Popped (lim : Limits) (side : Side) (l : ℕ) (e : Expr) (r : ℕ) (s : List Frame) (p : List Lexeme) : Type 0 where
  pub held : Held lim side l e r s p
  pub low : level_in s ≤ l

popped_along : {lim : Limits} {side : Side} {l : ℕ} {e : Expr} {r : ℕ} {s : List Frame} {x y : List Lexeme} → x ≡ y → Popped lim side l e r s x → Popped lim side l e r s y
popped_along {lim} {side} {l} {e} {r} {s} q d = subst (λ z. Popped lim side l e r s z) q d

-- FIRST TOKENS
starts_body : (kind : FunctionKind) (xs : List (List ℕ)) (s : List Frame) (x : List Lexeme) → Starts (in_arrow kind xs ∷ s) x → StartsBody x
starts_body kind xs s x h = subst (λ z. StartsBody z) (append-nil x) (h [])

starts_line : (s : List Frame) (x : List Lexeme) → Starts (in_yield ∷ s) x → SameLine x
starts_line s x h = subst (λ z. SameLine z) (append-nil x) (h [])

-- CHAINS
pub or_joined : {side : Side} {most : Option ℕ} {n m : ℕ} {a e : Expr} {x y : List Lexeme} (d : ℕ) (b : Bool) → LeftOr side most n a x → Spells side most 4 m e y → n ≤ d → m ≤ d → SpellsOr side most d a e (x ++ sign g.Or b ∷ y)
or_joined d b (left_or p) q i j = sp_first_or b (deeper p i) (deeper q j)
or_joined zero b (left_ors p) q i j = absurd (omega arith)
or_joined (suc d) b (left_ors p) q i j = sp_more_or b (deeper_or p (omega arith)) (deeper q j)

pub coalesce_joined : {side : Side} {most : Option ℕ} {n m : ℕ} {a e : Expr} {x y : List Lexeme} (d : ℕ) (b : Bool) → LeftCoalesce side most n a x → Spells side most 5 m e y → n ≤ d → m ≤ d → SpellsCoalesce side most d a e (x ++ sign g.Coalesce b ∷ y)
coalesce_joined d b (left_coalesce p) q i j = sp_first_coalesce b (deeper p i) (deeper q j)
coalesce_joined zero b (left_coalesces p) q i j = absurd (omega arith)
coalesce_joined (suc d) b (left_coalesces p) q i j = sp_more_coalesce b (deeper_coalesce p (omega arith)) (deeper q j)

-- OPERATIONS
unary_made : {lim : Limits} {side : Side} {s : List Frame} {q x : List Lexeme} {op : UnaryOp} {e : Expr} {m r : ℕ} → Opens lim side (in_unary op ∷ s) q → Sp lim side 9 m e x → Deep lim m (in_unary op ∷ s) r → Popped lim side 9 (Unary op e) r s (q ++ x)
unary_made {s = s} {x = x} {m = m} (op_unary {p = p} op b at) c d =
    record { low = level_in_small s; held = record { before = p; own = lexeme (unary_word op) b ∷ x; height = suc m; at = place_on x at; spells = sp_unary op (omega arith) c; all = simp append_assoc; deep = record { reach = omega (arith, d.reach); within = d.within } } }

await_made : {lim : Limits} {side : Side} {s : List Frame} {q x : List Lexeme} {e : Expr} {m r : ℕ} → Opens lim side (in_await ∷ s) q → Sp lim side 9 m e x → Deep lim m (in_await ∷ s) r → Popped lim side 9 (Await e) r s (q ++ x)
await_made {s = s} {x = x} {m = m} (op_await {p = p} b i at) c d =
    record { low = level_in_small s; held = record { before = p; own = keyword k.Await b ∷ x; height = suc m; at = place_on x at; spells = sp_await i (omega arith) c; all = simp append_assoc; deep = record { reach = omega (arith, d.reach); within = d.within } } }

binary_made : {lim : Limits} {side : Side} {s : List Frame} {q x : List Lexeme} {op : BinaryOp} {a e : Expr} {j m r : ℕ} → Opens lim side (in_binary op a j ∷ s) q → Sp lim side (suc (level_of op)) m e x → Deep lim m (in_binary op a j ∷ s) r → Popped lim side (level_of op) (Binary op a e) (max j r) s (q ++ x)
binary_made {lim = lim} {x = x} {op = op} {j = j} {m = m} {r = r} (op_binary {p = p} {x = y} {n = n} b at h w f) c d =
    record { low = h; held = record { before = p; own = y ++ sign (sign_of op) b ∷ x; height = suc (max n m); at = place_on (sign (sign_of op) b ∷ x) at; spells = sp_binary op b (omega arith) (deeper w (omega arith)) (deeper c (omega arith)); all = simp append_assoc; deep = record { reach = omega (arith, f.reach, d.reach); within = fits_max lim j r f.within d.within } } }

and_made : {lim : Limits} {side : Side} {s : List Frame} {q x : List Lexeme} {a e : Expr} {j m r : ℕ} → Opens lim side (in_logic And a j ∷ s) q → Sp lim side 5 m e x → Deep lim m (in_logic And a j ∷ s) r → Popped lim side 4 (Logic And a e) (max j r) s (q ++ x)
and_made {lim = lim} {x = x} {j = j} {m = m} {r = r} (op_logic {p = p} {x = y} {n = n} b at h w f) c d =
    record { low = h; held = record { before = p; own = y ++ sign g.And b ∷ x; height = suc (max n m); at = place_on (sign g.And b ∷ x) at; spells = sp_and b (omega arith) (deeper w (omega arith)) (deeper c (omega arith)); all = simp append_assoc; deep = record { reach = omega (arith, f.reach, d.reach); within = fits_max lim j r f.within d.within } } }

or_made : {lim : Limits} {side : Side} {s : List Frame} {q x : List Lexeme} {a e : Expr} {j m r : ℕ} → Opens lim side (in_logic Or a j ∷ s) q → Sp lim side 4 m e x → Deep lim m (in_logic Or a j ∷ s) r → Popped lim side 3 (Logic Or a e) (max j r) s (q ++ x)
or_made {lim = lim} {x = x} {j = j} {m = m} {r = r} (op_logic {p = p} {x = y} {n = n} b at h w f) c d =
    record { low = h; held = record { before = p; own = y ++ sign g.Or b ∷ x; height = suc (max n m); at = place_on (sign g.Or b ∷ x) at; spells = sp_or (omega arith) (or_joined (max n m) b w c (omega arith) (omega arith)); all = simp append_assoc; deep = record { reach = omega (arith, f.reach, d.reach); within = fits_max lim j r f.within d.within } } }

coalesce_made : {lim : Limits} {side : Side} {s : List Frame} {q x : List Lexeme} {a e : Expr} {j m r : ℕ} → Opens lim side (in_logic Coalesce a j ∷ s) q → Sp lim side 5 m e x → Deep lim m (in_logic Coalesce a j ∷ s) r → Popped lim side 3 (Logic Coalesce a e) (max j r) s (q ++ x)
coalesce_made {lim = lim} {x = x} {j = j} {m = m} {r = r} (op_logic {p = p} {x = y} {n = n} b at h w f) c d =
    record { low = h; held = record { before = p; own = y ++ sign g.Coalesce b ∷ x; height = suc (max n m); at = place_on (sign g.Coalesce b ∷ x) at; spells = sp_coalesce (omega arith) (coalesce_joined (max n m) b w c (omega arith) (omega arith)); all = simp append_assoc; deep = record { reach = omega (arith, f.reach, d.reach); within = fits_max lim j r f.within d.within } } }

choice_made : {lim : Limits} {side : Side} {s : List Frame} {q x : List Lexeme} {a c e : Expr} {j m r : ℕ} → Opens lim side (in_other a c j ∷ s) q → Sp lim side 1 m e x → Deep lim m (in_other a c j ∷ s) r → Popped lim side 2 (Choice a c e) (max j r) s (q ++ x)
choice_made {lim = lim} {x = x} {j = j} {m = m} {r = r} (op_other {p = p} {x = y} {y = z} {n = n} b i at h w v f) c d =
    record { low = h; held = record { before = p; own = y ++ sign g.Question b ∷ (z ++ sign g.Colon i ∷ x); height = suc (max n m); at = place_on (sign g.Question b ∷ (z ++ sign g.Colon i ∷ x)) at; spells = sp_choice b i (omega arith) (deeper w (omega arith)) (deeper v (omega arith)) (deeper c (omega arith)); all = simp append_assoc; deep = record { reach = omega (arith, f.reach, d.reach); within = fits_max lim j r f.within d.within } } }

set_name_made : {lim : Limits} {side : Side} {s : List Frame} {q x : List Lexeme} {y : List ℕ} {e : Expr} {m r : ℕ} → Opens lim side (in_set_name y ∷ s) q → Sp lim side 1 m e x → Deep lim m (in_set_name y ∷ s) r → Popped lim side 1 (SetName y e) r s (q ++ x)
set_name_made {x = x} {y = y} {m = m} (op_set_name {p = p} b i at h n) c d =
    record { low = h; held = record { before = p; own = lexeme (t.Name y) b ∷ sign g.Assign i ∷ x; height = suc m; at = place_on (sign g.Assign i ∷ x) at; spells = sp_set_name (omega arith) n c; all = simp append_assoc; deep = record { reach = omega (arith, d.reach); within = d.within } } }

set_made : {lim : Limits} {side : Side} {s : List Frame} {q x : List Lexeme} {a : Expr} {key : Key} {e : Expr} {j m r : ℕ} → Opens lim side (in_set a key j ∷ s) q → Sp lim side 1 m e x → Deep lim m (in_set a key j ∷ s) r → Popped lim side 1 (SetMember a key e) (max j r) s (q ++ x)
set_made {lim = lim} {x = x} {j = j} {m = m} {r = r} (op_set {p = p} {x = y} {y = z} {n = n} b at h w v f) c d =
    record { low = h; held = record { before = p; own = y ++ z ++ sign g.Assign b ∷ x; height = suc (max n m); at = place_on (sign g.Assign b ∷ x) (place_on z at); spells = sp_set_member b (omega arith) (deeper w (omega arith)) (deeper_key v (omega arith)) (deeper c (omega arith)); all = simp append_assoc; deep = record { reach = omega (arith, f.reach, d.reach); within = fits_max lim j r f.within d.within } } }

change_made : {lim : Limits} {side : Side} {s : List Frame} {q x : List Lexeme} {y : List ℕ} {op : BinaryOp} {e : Expr} {m r : ℕ} → Opens lim side (in_change y op ∷ s) q → Sp lim side 1 m e x → Deep lim m (in_change y op ∷ s) r → Popped lim side 1 (Change y op e) r s (q ++ x)
change_made {x = x} {y = y} {m = m} (op_change {p = p} {sg = sg} b i at h n w) c d =
    record { low = h; held = record { before = p; own = lexeme (t.Name y) b ∷ sign sg i ∷ x; height = suc m; at = place_on (sign sg i ∷ x) at; spells = sp_change (omega arith) n w c; all = simp append_assoc; deep = record { reach = omega (arith, d.reach); within = d.within } } }

arrow_made : {lim : Limits} {side : Side} {s : List Frame} {q x : List Lexeme} {kind : FunctionKind} {xs : List (List ℕ)} {e : Expr} {m r : ℕ} → Opens lim side (in_arrow kind xs ∷ s) q → Sp lim side 1 m e x → StartsBody x → Deep lim m (in_arrow kind xs ∷ s) r → Popped lim side 1 (Function (code None kind xs (next (Return (some_expr e)) end))) r s (q ++ x)
arrow_made {x = x} {m = m} (op_arrow {p = p} {x = y} at h ps) c w d =
    record { low = h; held = record { before = p; own = y ++ sign g.Arrow false ∷ x; height = suc (suc m); at = place_on (sign g.Arrow false ∷ x) at; spells = sp_short_arrow (omega arith) ps c w; all = simp append_assoc; deep = record { reach = omega (arith, d.reach); within = d.within } } }

yield_made : {lim : Limits} {side : Side} {s : List Frame} {q x : List Lexeme} {e : Expr} {m r : ℕ} → Opens lim side (in_yield ∷ s) q → Sp lim side 1 m e x → SameLine x → Deep lim m (in_yield ∷ s) r → Popped lim side 1 (Yield (some_expr e)) r s (q ++ x)
yield_made {x = x} {m = m} (op_yield {p = p} b i at h) c w d =
    record { low = h; held = record { before = p; own = keyword k.Yield b ∷ x; height = suc m; at = place_on x at; spells = sp_yield i (omega arith) c w; all = simp append_assoc; deep = record { reach = omega (arith, d.reach); within = d.within } } }

yield_all_made : {lim : Limits} {side : Side} {s : List Frame} {q x : List Lexeme} {e : Expr} {m r : ℕ} → Opens lim side (in_yield_all ∷ s) q → Sp lim side 1 m e x → Deep lim m (in_yield_all ∷ s) r → Popped lim side 1 (YieldAll e) r s (q ++ x)
yield_all_made {x = x} {m = m} (op_yield_all {p = p} b i at h) c d =
    record { low = h; held = record { before = p; own = keyword k.Yield b ∷ sign g.Star false ∷ x; height = suc m; at = place_on (sign g.Star false ∷ x) at; spells = sp_yield_all i (omega arith) c; all = simp append_assoc; deep = record { reach = omega (arith, d.reach); within = d.within } } }

-- the operand at hand ends what it stands in
pub unary_up : {lim : Limits} {side : Side} {l : ℕ} {op : UnaryOp} {e : Expr} {r : ℕ} {s : List Frame} {p : List Lexeme} (h : Held lim side l e r (in_unary op ∷ s) p) → 9 ≤ l → Popped lim side 9 (Unary op e) r s p
unary_up h m = popped_along h.all (unary_made (opens_of h.at) (looser h.spells m) h.deep)

pub await_up : {lim : Limits} {side : Side} {l : ℕ} {e : Expr} {r : ℕ} {s : List Frame} {p : List Lexeme} (h : Held lim side l e r (in_await ∷ s) p) → 9 ≤ l → Popped lim side 9 (Await e) r s p
await_up h m = popped_along h.all (await_made (opens_of h.at) (looser h.spells m) h.deep)

pub binary_up : {lim : Limits} {side : Side} {l : ℕ} {op : BinaryOp} {a e : Expr} {j r : ℕ} {s : List Frame} {p : List Lexeme} (h : Held lim side l e r (in_binary op a j ∷ s) p) → suc (level_of op) ≤ l → Popped lim side (level_of op) (Binary op a e) (max j r) s p
binary_up h m = popped_along h.all (binary_made (opens_of h.at) (looser h.spells m) h.deep)

pub logic_up : {lim : Limits} {side : Side} {l : ℕ} (op : LogicOp) {a e : Expr} {j r : ℕ} {s : List Frame} {p : List Lexeme} (h : Held lim side l e r (in_logic op a j ∷ s) p) → right_level op ≤ l → Popped lim side (logic_level op) (Logic op a e) (max j r) s p
logic_up And h m = popped_along h.all (and_made (opens_of h.at) (looser h.spells m) h.deep)
logic_up Or h m = popped_along h.all (or_made (opens_of h.at) (looser h.spells m) h.deep)
logic_up Coalesce h m = popped_along h.all (coalesce_made (opens_of h.at) (looser h.spells m) h.deep)

choice_up : {lim : Limits} {side : Side} {l : ℕ} {a c e : Expr} {j r : ℕ} {s : List Frame} {p : List Lexeme} (h : Held lim side l e r (in_other a c j ∷ s) p) → 1 ≤ l → Popped lim side 2 (Choice a c e) (max j r) s p
choice_up h m = popped_along h.all (choice_made (opens_of h.at) (looser h.spells m) h.deep)

set_name_up : {lim : Limits} {side : Side} {l : ℕ} {x : List ℕ} {e : Expr} {r : ℕ} {s : List Frame} {p : List Lexeme} (h : Held lim side l e r (in_set_name x ∷ s) p) → 1 ≤ l → Popped lim side 1 (SetName x e) r s p
set_name_up h m = popped_along h.all (set_name_made (opens_of h.at) (looser h.spells m) h.deep)

set_up : {lim : Limits} {side : Side} {l : ℕ} {a : Expr} {key : Key} {e : Expr} {j r : ℕ} {s : List Frame} {p : List Lexeme} (h : Held lim side l e r (in_set a key j ∷ s) p) → 1 ≤ l → Popped lim side 1 (SetMember a key e) (max j r) s p
set_up h m = popped_along h.all (set_made (opens_of h.at) (looser h.spells m) h.deep)

change_up : {lim : Limits} {side : Side} {l : ℕ} {x : List ℕ} {op : BinaryOp} {e : Expr} {r : ℕ} {s : List Frame} {p : List Lexeme} (h : Held lim side l e r (in_change x op ∷ s) p) → 1 ≤ l → Popped lim side 1 (Change x op e) r s p
change_up h m = popped_along h.all (change_made (opens_of h.at) (looser h.spells m) h.deep)

arrow_up : {lim : Limits} {side : Side} {l : ℕ} {kind : FunctionKind} {xs : List (List ℕ)} {e : Expr} {r : ℕ} {s : List Frame} {p : List Lexeme} (h : Held lim side l e r (in_arrow kind xs ∷ s) p) → 1 ≤ l → Popped lim side 1 (Function (code None kind xs (next (Return (some_expr e)) end))) r s p
arrow_up {kind = kind} {xs = xs} {s = s} h m = popped_along h.all (arrow_made (opens_of h.at) (looser h.spells m) (starts_body kind xs s h.own (starts_of h.at)) h.deep)

yield_up : {lim : Limits} {side : Side} {l : ℕ} {e : Expr} {r : ℕ} {s : List Frame} {p : List Lexeme} (h : Held lim side l e r (in_yield ∷ s) p) → 1 ≤ l → Popped lim side 1 (Yield (some_expr e)) r s p
yield_up {s = s} h m = popped_along h.all (yield_made (opens_of h.at) (looser h.spells m) (starts_line s h.own (starts_of h.at)) h.deep)

yield_all_up : {lim : Limits} {side : Side} {l : ℕ} {e : Expr} {r : ℕ} {s : List Frame} {p : List Lexeme} (h : Held lim side l e r (in_yield_all ∷ s) p) → 1 ≤ l → Popped lim side 1 (YieldAll e) r s p
yield_all_up h m = popped_along h.all (yield_all_made (opens_of h.at) (looser h.spells m) h.deep)

-- ALL THAT IT ENDS
abbrev pub SettledAt : Limits → Side → ℕ → Settled → List Lexeme → Type 0
SettledAt lim side j (settled e r s) p = (l : ℕ) × (level_in s ≤ l) × (j ≤ l) × (level_in s ≤ max j 1) × Held lim side l e r s p

pick : (lim : Limits) (side : Side) (p : List Lexeme) (j i : ℕ) (a b : Settled) → (j ≤ i → SettledAt lim side j a p) → (i < j → SettledAt lim side j b p) → SettledAt lim side j (cond (nat_le j i) a b) p
pick lim side p j i a b up stay = by (nat_le j i) refl
  where
    by : (c : Bool) → nat_le j i ≡ c → SettledAt lim side j (cond c a b) p
    by true q = up (grind (arith, nat_tests))
    by false q = stay (grind (arith, nat_tests))

far : {j : ℕ} → 3 < j → (j ≤ 3) ⊎ (5 ≤ j) → 5 ≤ j
far i (inl h) = absurd (omega arith)
far i (inr h) = h

pub settle_viable : {lim : Limits} {side : Side} (s : List Frame) (l j : ℕ) (e : Expr) (r : ℕ) (p : List Lexeme) → Held lim side l e r s p → level_in s ≤ l → j ≤ l → (j ≤ 3) ⊎ (5 ≤ j) → SettledAt lim side j (settle j e r s) p
settle_viable {lim} {side} (in_unary op ∷ s) l j e r p h m i q = pick lim side p j 9 (settle j (Unary op e) r s) (settled e r (in_unary op ∷ s)) (λ w. let a = unary_up h m in settle_viable s 9 j (Unary op e) r p a.held a.low w q) (λ w. (l, m, i, omega arith, h))
settle_viable {lim} {side} (in_await ∷ s) l j e r p h m i q = pick lim side p j 9 (settle j (Await e) r s) (settled e r (in_await ∷ s)) (λ w. let a = await_up h m in settle_viable s 9 j (Await e) r p a.held a.low w q) (λ w. (l, m, i, omega arith, h))
settle_viable {lim} {side} (in_binary op a n ∷ s) l j e r p h m i q = pick lim side p j (level_of op) (settle j (Binary op a e) (max n r) s) (settled e r (in_binary op a n ∷ s)) (λ w. let u = binary_up h m in settle_viable s (level_of op) j (Binary op a e) (max n r) p u.held u.low w q) (λ w. (l, m, i, omega arith, h))
settle_viable {lim} {side} (in_logic And a n ∷ s) l j e r p h m i q = pick lim side p j 4 (settle j (Logic And a e) (max n r) s) (settled e r (in_logic And a n ∷ s)) (λ w. let u = logic_up And h m in settle_viable s 4 j (Logic And a e) (max n r) p u.held u.low w q) (λ w. (l, m, i, omega arith, h))
settle_viable {lim} {side} (in_logic Or a n ∷ s) l j e r p h m i q = pick lim side p j 3 (settle j (Logic Or a e) (max n r) s) (settled e r (in_logic Or a n ∷ s)) (λ w. let u = logic_up Or h m in settle_viable s 3 j (Logic Or a e) (max n r) p u.held u.low w q) (λ w. (l, m, i, omega arith, h))
settle_viable {lim} {side} (in_logic Coalesce a n ∷ s) l j e r p h m i q = pick lim side p j 3 (settle j (Logic Coalesce a e) (max n r) s) (settled e r (in_logic Coalesce a n ∷ s)) (λ w. let u = logic_up Coalesce h m in settle_viable s 3 j (Logic Coalesce a e) (max n r) p u.held u.low w q) (λ w. (l, m, i, omega (arith, far w q), h))
settle_viable {lim} {side} (in_other a c n ∷ s) l j e r p h m i q = pick lim side p j 2 (settle j (Choice a c e) (max n r) s) (settled e r (in_other a c n ∷ s)) (λ w. let u = choice_up h m in settle_viable s 2 j (Choice a c e) (max n r) p u.held u.low w q) (λ w. (l, m, i, omega arith, h))
settle_viable {lim} {side} (in_set_name x ∷ s) l j e r p h m i q = pick lim side p j 1 (settle j (SetName x e) r s) (settled e r (in_set_name x ∷ s)) (λ w. let u = set_name_up h m in settle_viable s 1 j (SetName x e) r p u.held u.low w q) (λ w. (l, m, i, omega arith, h))
settle_viable {lim} {side} (in_set a key n ∷ s) l j e r p h m i q = pick lim side p j 1 (settle j (SetMember a key e) (max n r) s) (settled e r (in_set a key n ∷ s)) (λ w. let u = set_up h m in settle_viable s 1 j (SetMember a key e) (max n r) p u.held u.low w q) (λ w. (l, m, i, omega arith, h))
settle_viable {lim} {side} (in_change x op ∷ s) l j e r p h m i q = pick lim side p j 1 (settle j (Change x op e) r s) (settled e r (in_change x op ∷ s)) (λ w. let u = change_up h m in settle_viable s 1 j (Change x op e) r p u.held u.low w q) (λ w. (l, m, i, omega arith, h))
settle_viable {lim} {side} (in_arrow kind xs ∷ s) l j e r p h m i q = pick lim side p j 1 (settle j (Function (code None kind xs (next (Return (some_expr e)) end))) r s) (settled e r (in_arrow kind xs ∷ s)) (λ w. let u = arrow_up h m in settle_viable s 1 j (Function (code None kind xs (next (Return (some_expr e)) end))) r p u.held u.low w q) (λ w. (l, m, i, omega arith, h))
settle_viable {lim} {side} (in_yield ∷ s) l j e r p h m i q = pick lim side p j 1 (settle j (Yield (some_expr e)) r s) (settled e r (in_yield ∷ s)) (λ w. let u = yield_up h m in settle_viable s 1 j (Yield (some_expr e)) r p u.held u.low w q) (λ w. (l, m, i, omega arith, h))
settle_viable {lim} {side} (in_yield_all ∷ s) l j e r p h m i q = pick lim side p j 1 (settle j (YieldAll e) r s) (settled e r (in_yield_all ∷ s)) (λ w. let u = yield_all_up h m in settle_viable s 1 j (YieldAll e) r p u.held u.low w q) (λ w. (l, m, i, omega arith, h))
settle_viable [] l j e r p h m i q = (l, m, i, omega arith, h)
settle_viable (_ ∷ s) l j e r p h m i q = (l, m, i, omega arith, h)

-- a whole expression, with all that it ended
abbrev pub EndedAt : Limits → Side → Settled → List Lexeme → Type 0
EndedAt lim side (settled e r s) p = Held lim side 1 e r s p

level_some : (s : List Frame) → 1 ≤ level_in s
level_some (in_logic And a r ∷ s) = omega arith
level_some (in_logic Or a r ∷ s) = omega arith
level_some (in_logic Coalesce a r ∷ s) = omega arith
level_some [] = omega arith
level_some (_ ∷ s) = omega arith

pub held_looser : {lim : Limits} {side : Side} {l : ℕ} {e : Expr} {r : ℕ} {s : List Frame} {p : List Lexeme} (j : ℕ) (h : Held lim side l e r s p) → j ≤ l → Held lim side j e r s p
held_looser j h i = record { before = h.before; own = h.own; height = h.height; at = h.at; spells = looser h.spells i; all = h.all; deep = h.deep }

ended_at : (lim : Limits) (side : Side) (q : Settled) (p : List Lexeme) → SettledAt lim side 0 q p → EndedAt lim side q p
ended_at lim side (settled e r s) p h = held_looser 1 h.4 (omega (arith, h.1, level_some s))

pub settle_ended : {lim : Limits} {side : Side} {l : ℕ} (e : Expr) (r : ℕ) (s : List Frame) (p : List Lexeme) → Held lim side l e r s p → level_in s ≤ l → EndedAt lim side (settle 0 e r s) p
settle_ended {lim} {side} {l} e r s p h m = ended_at lim side (settle 0 e r s) p (settle_viable s l 0 e r p h m (omega arith) (inl (omega arith)))
