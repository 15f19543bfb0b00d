-- Commas, semicolons and colons behind an expression keep what was read in order.
use Rattle.std.proofs.Common.{◌≡◌, ℕ, suc, max, ◌≤◌, List, [], ◌∷◌, ◌++◌, Bool, true, refl, sym, ap, subst, arith, append_assoc}
use Rattle.actx_grammar.specs.declared.side.Side.{Side}
use Rattle.actx_grammar.specs.declared.token.Keyword.TheVariants as k
use Rattle.actx_grammar.specs.declared.token.Sign.TheVariants as g
use Rattle.actx_grammar.specs.declared.token.TokenKind.{TokenKind}
use Rattle.actx_grammar.specs.declared.token.TokenKind.TheVariants as t
use Rattle.actx_grammar.specs.Grammar.{count, with_let, with_const, with_property, sp_key_value, sp_let_value, SpellsLets, SpellsConsts, sp_present, sp_init_let, sp_init_const, sp_init_value, sp_let, sp_const, sp_return, sp_throw, sp_value}
use Rattle.actx_grammar.specs.Lexemes.{Lexeme, sign, keyword, lexeme}
use Rattle.actx_grammar.specs.ParserOperands.{has_room, most_parts, comma, semicolon, colon, end_lets, end_consts, at_whole}
use Rattle.actx_grammar.specs.ParserState.{Limits, at_most, fits, takes_more, ItemsOf, Frame, in_choice, in_call, in_form, in_property, in_value, in_let, in_const, in_return, in_throw, in_for_init, in_for_test, key_next, Settled, settled, settle}
use Rattle.actx_grammar.specs.Tree.{Expr, some_expr, LetItems, ConstItems, Let, Const, Value, Return, Throw}
use Rattle.actx_laws.proofs.ParseLevels.{level_in}
use Rattle.actx_laws.proofs.SpellDeeper.{deeper, deeper_prop_key}
use Rattle.actx_laws.proofs.ViableTests.{fits_max, and_left}
use Rattle.actx_laws.proofs.ViableParts.{Deep, Starts, all_begun_lets, all_begun_consts}
use Rattle.actx_laws.proofs.ViableOpen.{Sp, Opens, op_choice, op_other, op_property, op_value, op_let, op_const, op_return, op_throw, op_for_init, op_for_test, Items, items_of_statement, items_of_for, in_lets, in_consts, in_for, in_test}
use Rattle.actx_laws.proofs.ViableModes.{Held, Viable, v_have_stmt, v_need, v_let_name, v_const_name, v_for_test, v_for_update, After, opens_of, room_of, starts_of, opens_along, viable_along, after_along}
use Rattle.actx_laws.proofs.ViableSettle.{EndedAt, settle_ended}
use Rattle.actx_laws.proofs.ViableLists.{below, deep_max, raised, as_body, any_body, starts_statement, starts_return, starts_throw, lets_more, consts_more}
use Rattle.actx_laws.proofs.ViableRaised.{for_within, for_raised}
use Rattle.actx_laws.proofs.ViableClosed.{call_more, form_more, object_more, paren_ended, bracket_ended, brace_ended}

-- COMMAS
comma_on : {lim : Limits} {side : Side} (e : Expr) (r : ℕ) (s : List Frame) (c : Bool) {q : List Lexeme} (x : List Lexeme) {m : ℕ} → Opens lim side s q → has_room lim s ≡ true → Sp lim side 1 m e x → Deep lim m s r → After lim side (comma (settled e r s)) ((q ++ x) ++ sign g.Comma c ∷ [])
comma_on e r (in_call f es j ∷ s) c x o room d h = v_need (call_more c o room d h) (λ w y i. tt)
comma_on {lim} e r (in_form form es j ∷ s) c x o room d h = v_need (form_more c o (and_left (takes_more lim (count es)) (at_most (most_parts form) (suc (count es))) room) d h) (λ w y i. tt)
comma_on {lim} {side} e r (in_property ps key j ∷ s) c x {m} (op_property {q = q} {x = y} {n = n} b o i deep) room d h =
    viable_along (simp append_assoc) (reached (object_more c o (sp_key_value b (deeper_prop_key i (omega arith)) (deeper d (omega arith))) (deep_max deep h refl)))
  where
    reached : {u : List Lexeme} → Viable lim side (key_next (with_property ps key e) (max j (max j r))) s u → Viable lim side (key_next (with_property ps key e) (max j r)) s u
    reached {u} a = subst (λ i. Viable lim side (key_next (with_property ps key e) i) s u) (omega arith) a
comma_on e r (in_let of is z j ∷ s) c x {m} (op_let b i (in_lets {q = q} {y = y} {n = n} it ls deep) binding) room d h =
    viable_along (simp append_assoc) (v_let_name (in_lets {n = max n m} it (all_begun_lets c (lets_more (max n m) ls (sp_let_value {b = b} {c = i} binding d) (omega arith) (omega arith))) (deep_max deep h refl)))
comma_on e r (in_const of is z j ∷ s) c x {m} (op_const b i (in_consts {q = q} {y = y} {n = n} it ls deep) binding) room d h =
    viable_along (simp append_assoc) (v_const_name (in_consts {n = max n m} it (all_begun_consts c (consts_more (max n m) b i ls binding d (omega arith) (omega arith))) (deep_max deep h refl)))
comma_on e r [] c x o room d h = tt
comma_on e r (_ ∷ s) c x o room d h = tt

comma_ended : (lim : Limits) (side : Side) (v : Settled) (p : List Lexeme) (c : Bool) → EndedAt lim side v p → After lim side (comma v) (p ++ sign g.Comma c ∷ [])
comma_ended lim side (settled e r s) p c h = after_along lim side (comma (settled e r s)) (ap (λ z. z ++ sign g.Comma c ∷ []) h.all) (comma_on e r s c h.own (opens_of h.at) (room_of h.at) h.spells h.deep)

-- SEMICOLONS
pub end_lets_viable : {lim : Limits} {side : Side} {of : ItemsOf} {is : LetItems} {n r : ℕ} {s : List Frame} {q y : List Lexeme} (c : Bool) → Items lim side k.Let of s q → SpellsLets side lim.most n is y → Deep lim (suc n) s r → After lim side (end_lets of is r s) ((q ++ y) ++ sign g.Semicolon c ∷ [])
end_lets_viable {is = is} {s = s} {y = y} c (items_of_statement {p = p} b o i) ls d = viable_along (simp append_assoc) (v_have_stmt o (sp_let b c ls) (any_body s (Let is) i) refl d)
end_lets_viable {y = y} c (items_of_for {p = p} b i f o) ls d = viable_along (simp append_assoc) (v_for_test (in_for {w = keyword k.Let f ∷ y} b i c o (sp_init_let ls) d))

end_consts_viable : {lim : Limits} {side : Side} {of : ItemsOf} {is : ConstItems} {n r : ℕ} {s : List Frame} {q y : List Lexeme} (c : Bool) → Items lim side k.Const of s q → SpellsConsts side lim.most n is y → Deep lim (suc n) s r → After lim side (end_consts of is r s) ((q ++ y) ++ sign g.Semicolon c ∷ [])
end_consts_viable {is = is} {s = s} {y = y} c (items_of_statement {p = p} b o i) ls d = viable_along (simp append_assoc) (v_have_stmt o (sp_const b c ls) (any_body s (Const is) i) refl d)
end_consts_viable {y = y} c (items_of_for {p = p} b i f o) ls d = viable_along (simp append_assoc) (v_for_test (in_for {w = keyword k.Const f ∷ y} b i c o (sp_init_const ls) d))

semicolon_on : {lim : Limits} {side : Side} (e : Expr) (r : ℕ) (s : List Frame) (c : Bool) {q : List Lexeme} (x : List Lexeme) {m : ℕ} → Opens lim side s q → Starts s x → Sp lim side 1 m e x → Deep lim m s r → After lim side (semicolon (settled e r s)) ((q ++ x) ++ sign g.Semicolon c ∷ [])
semicolon_on e r (in_value ∷ s) c {q} x (op_value o) st d h = viable_along (sym (append_assoc q x (sign g.Semicolon c ∷ []))) (v_have_stmt o (sp_value c d (starts_statement s x st)) (as_body s (Value e) tt) refl (below h refl))
semicolon_on {lim} {side} e r (in_let of is z j ∷ s) c x {m} (op_let b i (in_lets {q = q} {y = y} {n = n} it ls deep) binding) st d h =
    after_along lim side (end_lets of (with_let is z (some_expr e)) (max j r) s) (simp append_assoc) (end_lets_viable c it (lets_more (max n m) ls (sp_let_value {b = b} {c = i} binding d) (omega arith) (omega arith)) (deep_max deep h refl))
semicolon_on {lim} {side} e r (in_const of is z j ∷ s) c x {m} (op_const b i (in_consts {q = q} {y = y} {n = n} it ls deep) binding) st d h =
    after_along lim side (end_consts of (with_const is z e) (max j r) s) (simp append_assoc) (end_consts_viable c it (consts_more (max n m) b i ls binding d (omega arith) (omega arith)) (deep_max deep h refl))
semicolon_on e r (in_return ∷ s) c x (op_return {p = p} b o) st d h = viable_along (simp append_assoc) (v_have_stmt o (sp_return b c d (starts_return s x st)) (as_body s (Return (some_expr e)) tt) refl (below h refl))
semicolon_on e r (in_throw ∷ s) c x (op_throw {p = p} b o) st d h = viable_along (simp append_assoc) (v_have_stmt o (sp_throw b c d (starts_throw s x st)) (as_body s (Throw e) tt) refl (below h refl))
semicolon_on e r (in_for_init ∷ s) c x (op_for_init {p = p} b i o) st d h = viable_along (simp append_assoc) (v_for_test (in_for b i c o (sp_init_value d) (below h refl)))
semicolon_on {lim} e r (in_for_test i j ∷ s) c x {m} (op_for_test o) st d h =
    let w : fits lim (max j r) ≡ true = fits_max lim j r (for_within o) h.within in
    viable_along (simp append_assoc) (v_for_update (in_test c (for_raised (max j r) o (omega arith) w) (sp_present d) (raised (max j r) (below h refl) (omega arith) w)))
semicolon_on e r [] c x o st d h = tt
semicolon_on e r (_ ∷ s) c x o st d h = tt

semicolon_ended : (lim : Limits) (side : Side) (v : Settled) (p : List Lexeme) (c : Bool) → EndedAt lim side v p → After lim side (semicolon v) (p ++ sign g.Semicolon c ∷ [])
semicolon_ended lim side (settled e r s) p c h = after_along lim side (semicolon (settled e r s)) (ap (λ z. z ++ sign g.Semicolon c ∷ []) h.all) (semicolon_on e r s c h.own (opens_of h.at) (starts_of h.at) h.spells h.deep)

-- COLONS
colon_on : {lim : Limits} {side : Side} (e : Expr) (r : ℕ) (s : List Frame) (c : Bool) {q : List Lexeme} (x : List Lexeme) {m : ℕ} → Opens lim side s q → Sp lim side 1 m e x → Deep lim m s r → After lim side (colon (settled e r s)) ((q ++ x) ++ sign g.Colon c ∷ [])
colon_on e r (in_choice test j ∷ s) c x {m} (op_choice {p = p} {x = y} {n = n} b at low d deep) f h = v_need (opens_along (simp append_assoc) (op_other {n = max n m} b c at low (deeper d (omega arith)) (deeper f (omega arith)) (deep_max deep h refl))) (λ w y i. tt)
colon_on e r [] c x o d h = tt
colon_on e r (_ ∷ s) c x o d h = tt

colon_ended : (lim : Limits) (side : Side) (v : Settled) (p : List Lexeme) (c : Bool) → EndedAt lim side v p → After lim side (colon v) (p ++ sign g.Colon c ∷ [])
colon_ended lim side (settled e r s) p c h = after_along lim side (colon (settled e r s)) (ap (λ z. z ++ sign g.Colon c ∷ []) h.all) (colon_on e r s c h.own (opens_of h.at) h.spells h.deep)

-- BEHIND ANY EXPRESSION
pub whole_viable : {lim : Limits} {side : Side} {l : ℕ} (e : Expr) (r : ℕ) (s : List Frame) (p : List Lexeme) (u : TokenKind) (b : Bool) → Held lim side l e r s p → level_in s ≤ l → After lim side (at_whole e r s u) (p ++ lexeme u b ∷ [])
whole_viable {lim} {side} e r s p (t.Sign g.CloseParen) b h m = paren_ended lim side (settle 0 e r s) p b (settle_ended e r s p h m)
whole_viable {lim} {side} e r s p (t.Sign g.CloseBracket) b h m = bracket_ended lim side (settle 0 e r s) p b (settle_ended e r s p h m)
whole_viable {lim} {side} e r s p (t.Sign g.CloseBrace) b h m = brace_ended lim side (settle 0 e r s) p b (settle_ended e r s p h m)
whole_viable {lim} {side} e r s p (t.Sign g.Comma) b h m = comma_ended lim side (settle 0 e r s) p b (settle_ended e r s p h m)
whole_viable {lim} {side} e r s p (t.Sign g.Semicolon) b h m = semicolon_ended lim side (settle 0 e r s) p b (settle_ended e r s p h m)
whole_viable {lim} {side} e r s p (t.Sign g.Colon) b h m = colon_ended lim side (settle 0 e r s) p b (settle_ended e r s p h m)
whole_viable e r s p (t.Sign _) b h m = tt
whole_viable e r s p _ b h m = tt
