-- Commas, colons and what closes parentheses, brackets and literals keep what was read in order.
use Rattle.std.proofs.Common.{◌≡◌, ℕ, suc, max, List, [], ◌∷◌, ◌++◌, Bool, true, Some, None, refl, sym, ap, subst, arith, append_assoc}
use Rattle.std.specs.Prelude.{codes}
use Rattle.actx_grammar.specs.declared.operators.Form.{Form}
use Rattle.actx_grammar.specs.declared.operators.Form.TheVariants.{CallWith}
use Rattle.actx_grammar.specs.declared.operators.FunctionKind.{FunctionKind}
use Rattle.actx_grammar.specs.declared.operators.FunctionKind.TheVariants.{Async}
use Rattle.actx_grammar.specs.declared.side.Side.{Side}
use Rattle.actx_grammar.specs.declared.side.Side.TheVariants.{Plain}
use Rattle.actx_grammar.specs.declared.token.Sign.TheVariants as g
use Rattle.actx_grammar.specs.declared.token.TokenKind.TheVariants as t
use Rattle.actx_grammar.specs.Forms.{form_words, HasWords, Suits}
use Rattle.actx_grammar.specs.Grammar.{Allows, count, with_last, with_property, KeyFollows, SpellsProperty, SpellsProperties, SpellsArguments, sp_call, sp_form, sp_call_with, sp_object, sp_paren, sp_index, sp_arguments, sp_computed, sp_key_value, sp_properties, sp_present}
use Rattle.actx_grammar.specs.Lexemes.{Lexeme, sign, lexeme, kinds}
use Rattle.actx_grammar.specs.ParserOperands.{has_room, most_parts, suits, close_arguments, close_paren, close_bracket, close_brace}
use Rattle.actx_grammar.specs.ParserState.{Limits, at_most, fits, takes_more, Frame, in_paren, in_call, in_form, in_index, in_computed, in_property, in_if, in_while, in_do_test, in_for_update, in_for_over, in_switch, have, key_next, here, Settled, settled}
use Rattle.actx_grammar.specs.Tree.{Expr, Call, Object, Built, Exprs, also, Properties, PropKey}
use Rattle.actx_laws.proofs.ParseNames.{count_last, at_most_less}
use Rattle.actx_laws.proofs.SpellDeeper.{deeper, deeper_arguments, deeper_prop_key}
use Rattle.actx_laws.proofs.ViableTests.{one_allowed, suits_is, fits_less, fits_max, and_left}
use Rattle.actx_laws.proofs.ViableParts.{Deep, all_begun, all_begun_properties, opening_key, opening_method}
use Rattle.actx_laws.proofs.ViableOpen.{Sp, Opens, op_paren, op_call, op_form, op_call_with, op_index, op_computed, op_property, op_if, op_while, op_do_test, op_for_update, op_for_over, op_switch, op_yes, op_while_of, op_for, op_for_of, Place, InObject, in_object}
use Rattle.actx_laws.proofs.ViableModes.{Held, Viable, v_body_start, v_have, v_have_member, v_key_next, v_key_behind, v_method_open, v_do_end, v_switch_brace, After, chosen, opens_of, fits_of, room_of, place_on, opens_along, held_along, viable_along, after_along}
use Rattle.actx_laws.proofs.ViableSettle.{EndedAt}
use Rattle.actx_laws.proofs.ViableRaised.{object_within, object_raised, test_within, test_raised}
use Rattle.actx_laws.proofs.ViableLists.{below, deep_max, raised, deeper_body, list_more, properties_more, arguments_done}

-- CALLS
call_made : {lim : Limits} {side : Side} {f : Expr} {es : Exprs} {n m r : ℕ} {s : List Frame} {p x z : List Lexeme} → Place lim side s x p → Sp lim side 11 n f x → SpellsArguments side lim.most m es z → Deep lim (suc (max n m)) s r → Held lim side 11 (Call f es) r s (p ++ (x ++ z))
call_made {n = n} {m = m} {p = p} {x = x} {z = z} at d a w = record { before = p; own = x ++ z; height = suc (max n m); at = place_on z at; spells = sp_call (omega arith) (deeper d (omega arith)) (deeper_arguments a (omega arith)); all = refl; deep = w }

form_made : {lim : Limits} {side : Side} {form : Form} {es : Exprs} {m r : ℕ} {s : List Frame} {p x z : List Lexeme} → HasWords side form → form_words form ≡ kinds x → Place lim side s x p → SpellsArguments side lim.most m es z → Suits form (count es) → Deep lim (suc m) s r → Held lim side 11 (Built form es) r s (p ++ (x ++ z))
form_made {form = form} {m = m} {p = p} {x = x} {z = z} has q at a suit w = record { before = p; own = x ++ z; height = suc m; at = place_on z at; spells = sp_form form x (omega arith) has q a suit; all = refl; deep = w }

with_made : {lim : Limits} {side : Side} {f : Expr} {es : Exprs} {n m r : ℕ} {s : List Frame} {p x z : List Lexeme} (b c : Bool) → side ≡ Plain → Place lim side s x p → Sp lim side 11 n f x → SpellsArguments side lim.most m es z → Deep lim (suc (max n m)) s r → Held lim side 11 (Built CallWith (also f es)) r s (p ++ (x ++ sign g.Dot b ∷ lexeme (t.Name (codes "call")) c ∷ z))
with_made {n = n} {m = m} {p = p} {x = x} {z = z} b c plain at d a w =
    record { before = p; own = x ++ sign g.Dot b ∷ lexeme (t.Name (codes "call")) c ∷ z; height = suc (max n m); at = place_on (sign g.Dot b ∷ lexeme (t.Name (codes "call")) c ∷ z) at; spells = sp_call_with b c plain (omega arith) (deeper d (omega arith)) (deeper_arguments a (omega arith)); all = refl; deep = w }

allowed_last : (lim : Limits) (es : Exprs) (e : Expr) → takes_more lim (count es) ≡ true → Allows lim.most (count (with_last es e))
allowed_last lim es e h = subst (Allows lim.most) (sym (count_last es e)) (one_allowed lim (count es) h)

suits_last : (side : Side) (form : Form) (es : Exprs) (e : Expr) → HasWords side form → suits form (suc (count es)) ≡ true → Suits form (count (with_last es e))
suits_last side form es e w h = subst (Suits form) (sym (count_last es e)) (suits_is side form (suc (count es)) w h)

-- fewer arguments are allowed too
fewer : (lim : Limits) (n : ℕ) → takes_more lim (suc n) ≡ true → takes_more lim n ≡ true
fewer lim n h = at_most_less lim.most (suc n) (suc (suc n)) (omega arith) h

same_deep : {lim : Limits} {n r : ℕ} {s : List Frame} → Deep lim (suc n) s r → Deep lim (suc (max n n)) s r
same_deep d = record { reach = omega (arith, d.reach); within = d.within }

call_done : {lim : Limits} {side : Side} {f : Expr} {es : Exprs} {j : ℕ} {s : List Frame} {q : List Lexeme} (c : Bool) → Opens lim side (in_call f es j ∷ s) q → Held lim side 11 (Call f es) j s (q ++ sign g.CloseParen c ∷ [])
call_done c (op_call {p = p} {x = x} {y = y} b at d args w deep) = held_along (simp append_assoc) (call_made at d (arguments_done b c args w) (same_deep deep))

call_closed : {lim : Limits} {side : Side} {f e : Expr} {es : Exprs} {j m r : ℕ} {s : List Frame} {q x : List Lexeme} (c : Bool) → Opens lim side (in_call f es j ∷ s) q → takes_more lim (count es) ≡ true → Sp lim side 1 m e x → Deep lim m (in_call f es j ∷ s) r → Held lim side 11 (Call f (with_last es e)) (max j r) s ((q ++ x) ++ sign g.CloseParen c ∷ [])
call_closed {lim} {e = e} {es = es} {m = m} {x = z} c (op_call {p = p} {x = x} {y = y} {n = n} b at d args w deep) more a h =
    held_along (simp append_assoc) (call_made at (deeper d (omega arith)) (sp_arguments b c (list_more (max n m) args a (omega arith) (omega arith)) (allowed_last lim es e more)) (same_deep (deep_max deep h refl)))

pub call_more : {lim : Limits} {side : Side} {f e : Expr} {es : Exprs} {j m r : ℕ} {s : List Frame} {q x : List Lexeme} (c : Bool) → Opens lim side (in_call f es j ∷ s) q → takes_more lim (count es) ≡ true → Sp lim side 1 m e x → Deep lim m (in_call f es j ∷ s) r → Opens lim side (in_call f (with_last es e) (max j r) ∷ s) ((q ++ x) ++ sign g.Comma c ∷ [])
call_more {lim} {e = e} {es = es} {m = m} {x = z} c (op_call {p = p} {x = x} {y = y} {n = n} b at d args w deep) more a h =
    opens_along (simp append_assoc) (op_call {n = max n m} b at (deeper d (omega arith)) (all_begun c (list_more (max n m) args a (omega arith) (omega arith))) (allowed_last lim es e more) (deep_max deep h refl))

form_done : {lim : Limits} {side : Side} {form : Form} {es : Exprs} {j : ℕ} {s : List Frame} {q : List Lexeme} (c : Bool) → Opens lim side (in_form form es j ∷ s) q → suits form (count es) ≡ true → Held lim side 11 (Built form es) j s (q ++ sign g.CloseParen c ∷ [])
form_done {side = side} {form = form} {es = es} c (op_form {p = p} {x = x} {y = y} b has o at args w deep) suit = held_along (simp append_assoc) (form_made has o at (arguments_done b c args w) (suits_is side form (count es) has suit) deep)
form_done c (op_call_with {p = p} {x = x} {y = y} b i h plain at d args w deep) suit = held_along (simp append_assoc) (with_made b i plain at d (arguments_done h c args w) (same_deep deep))

form_closed : {lim : Limits} {side : Side} {form : Form} {e : Expr} {es : Exprs} {j m r : ℕ} {s : List Frame} {q x : List Lexeme} (c : Bool) → Opens lim side (in_form form es j ∷ s) q → takes_more lim (count es) ≡ true → suits form (suc (count es)) ≡ true → Sp lim side 1 m e x → Deep lim m (in_form form es j ∷ s) r → Held lim side 11 (Built form (with_last es e)) (max j r) s ((q ++ x) ++ sign g.CloseParen c ∷ [])
form_closed {lim} {side} {form = form} {e = e} {es = es} {m = m} {x = z} c (op_form {p = p} {x = x} {y = y} {n = n} b has o at args w deep) more suit a h =
    held_along (simp append_assoc) (form_made has o at (sp_arguments b c (list_more (max n m) args a (omega arith) (omega arith)) (allowed_last lim es e more)) (suits_last side form es e has suit) (deep_max deep h refl))
form_closed {lim} {e = e} {m = m} {x = z} c (op_call_with {p = p} {x = x} {y = y} {es = es} {n = n} b i u plain at d args w deep) more suit a h =
    held_along (simp append_assoc) (with_made b i plain at (deeper d (omega arith)) (sp_arguments u c (list_more (max n m) args a (omega arith) (omega arith)) (allowed_last lim es e (fewer lim (count es) more))) (same_deep (deep_max deep h refl)))

pub form_more : {lim : Limits} {side : Side} {form : Form} {e : Expr} {es : Exprs} {j m r : ℕ} {s : List Frame} {q x : List Lexeme} (c : Bool) → Opens lim side (in_form form es j ∷ s) q → takes_more lim (count es) ≡ true → Sp lim side 1 m e x → Deep lim m (in_form form es j ∷ s) r → Opens lim side (in_form form (with_last es e) (max j r) ∷ s) ((q ++ x) ++ sign g.Comma c ∷ [])
form_more {lim} {e = e} {es = es} {m = m} {x = z} c (op_form {p = p} {x = x} {y = y} {n = n} b has o at args w deep) more a h =
    opens_along (simp append_assoc) (op_form {n = max n m} b has o at (all_begun c (list_more (max n m) args a (omega arith) (omega arith))) (allowed_last lim es e more) (deep_max deep h refl))
form_more {lim} {e = e} {m = m} {x = z} c (op_call_with {p = p} {x = x} {y = y} {es = es} {n = n} b i u plain at d args w deep) more a h =
    opens_along (simp append_assoc) (op_call_with {n = max n m} b i u plain at (deeper d (omega arith)) (all_begun c (list_more (max n m) args a (omega arith) (omega arith))) (allowed_last lim es e (fewer lim (count es) more)) (deep_max deep h refl))

pub close_arguments_viable : {lim : Limits} {side : Side} (s : List Frame) (p : List Lexeme) (c : Bool) → Opens lim side s p → After lim side (close_arguments s) (p ++ sign g.CloseParen c ∷ [])
close_arguments_viable (in_call f es r ∷ s) p c o = v_have (call_done c o)
close_arguments_viable {lim} {side} (in_form form es r ∷ s) p c o = chosen lim side (suits form (count es)) (have (Built form es) r) s (p ++ sign g.CloseParen c ∷ []) (λ w. v_have (form_done c o w))
close_arguments_viable [] p c o = tt
close_arguments_viable (_ ∷ s) p c o = tt

-- CLOSING PARENTHESES
paren_on : {lim : Limits} {side : Side} (e : Expr) (r : ℕ) (s : List Frame) (c : Bool) {q : List Lexeme} (x : List Lexeme) {m : ℕ} → Opens lim side s q → has_room lim s ≡ true → Sp lim side 1 m e x → Deep lim m s r → After lim side (close_paren (settled e r s)) ((q ++ x) ++ sign g.CloseParen c ∷ [])
paren_on e r (in_paren ∷ s) c x {m} (op_paren {p = p} b at) room d h = v_have (record { before = p; own = sign g.OpenParen b ∷ (x ++ sign g.CloseParen c ∷ []); height = suc m; at = place_on (x ++ sign g.CloseParen c ∷ []) at; spells = sp_paren b c d; all = simp append_assoc; deep = below h refl })
paren_on e r (in_call f es j ∷ s) c x o room d h = v_have (call_closed c o room d h)
paren_on {lim} {side} e r (in_form form es j ∷ s) c {q} x o room d h =
    chosen lim side (suits form (suc (count es))) (have (Built form (with_last es e)) (max j r)) s ((q ++ x) ++ sign g.CloseParen c ∷ []) (λ w. v_have (form_closed c o (and_left (takes_more lim (count es)) (at_most (most_parts form) (suc (count es))) room) w d h))
paren_on e r (in_if ∷ s) c x (op_if {p = p} b i o) room d h = v_body_start (opens_along (simp append_assoc) (op_yes b i c o d (below h refl)))
paren_on e r (in_while ∷ s) c x (op_while {p = p} b i o) room d h = v_body_start (opens_along (simp append_assoc) (op_while_of b i c o d (below h refl)))
paren_on e r (in_do_test st j ∷ s) c x {m} (op_do_test {p = p} {x = y} {n = n} b i f o body deep) room d h = viable_along (simp append_assoc) (v_do_end {n = max n m} b i f c o (deeper_body body (omega arith)) (deeper d (omega arith)) (deep_max deep h refl))
paren_on {lim} e r (in_for_update i test j ∷ s) c {q} x {m} (op_for_update t) room d h =
    let w : fits lim (max j r) ≡ true = fits_max lim j r (test_within t) h.within in
    v_body_start (opens_along (simp append_assoc) (op_for {y = x} {n = m} c (test_raised (max j r) t (omega arith) w) (sp_present d) (raised (max j r) (below h refl) (omega arith) w)))
paren_on e r (in_for_over constant y ∷ s) c x (op_for_over {p = p} b i f u j source binding o) room d h = v_body_start (opens_along (simp append_assoc) (op_for_of b i f u j c source binding o d (below h refl)))
paren_on e r (in_switch ∷ s) c x (op_switch {p = p} b i plain o) room d h = viable_along (simp append_assoc) (v_switch_brace b i c plain o d (below h refl))
paren_on e r [] c x o room d h = tt
paren_on e r (_ ∷ s) c x o room d h = tt

pub paren_ended : (lim : Limits) (side : Side) (v : Settled) (p : List Lexeme) (c : Bool) → EndedAt lim side v p → After lim side (close_paren v) (p ++ sign g.CloseParen c ∷ [])
paren_ended lim side (settled e r s) p c h = after_along lim side (close_paren (settled e r s)) (ap (λ z. z ++ sign g.CloseParen c ∷ []) h.all) (paren_on e r s c h.own (opens_of h.at) (room_of h.at) h.spells h.deep)

-- CLOSING BRACKETS AND BRACES
follows_on : (kind : FunctionKind) (b : Bool) (x : List Lexeme) → KeyFollows kind (sign g.OpenBracket b ∷ []) → KeyFollows kind (sign g.OpenBracket b ∷ x)
follows_on Async b x h = h
follows_on _ b x h = tt

bracket_on : {lim : Limits} {side : Side} (e : Expr) (r : ℕ) (s : List Frame) (c : Bool) {q : List Lexeme} (x : List Lexeme) {m : ℕ} → Opens lim side s q → fits lim (here s) ≡ true → Sp lim side 1 m e x → Deep lim m s r → After lim side (close_bracket (settled e r s)) ((q ++ x) ++ sign g.CloseBracket c ∷ [])
bracket_on e r (in_index a j ∷ s) c x {m} (op_index {p = p} {x = y} {n = n} b at base deep) w d h = viable_along (simp append_assoc) (v_have_member {n = max n m} at (deeper base (omega arith)) (sp_index b c (deeper d (omega arith))) (deep_max deep h refl))
bracket_on {lim} e r (in_computed ps None j ∷ s) c x {m} (op_computed {q = q} b o opening_key) w d h =
    let v : fits lim (max j r) ≡ true = fits_max lim j r (object_within o) h.within in
    viable_along (simp append_assoc) (v_key_behind (fits_less lim (suc (here s)) (here (in_computed ps None j ∷ s)) w (omega arith)) (object_raised (max j r) o (omega arith) v) (sp_computed b c d) (raised (max j r) (below h refl) (omega arith) v))
bracket_on {lim} e r (in_computed ps (Some kind) j ∷ s) c x {m} (op_computed {q = q} {w = y} b o (opening_method head follows)) w d h =
    let v : fits lim (max j r) ≡ true = fits_max lim j r (object_within o) h.within in
    viable_along (simp append_assoc) (v_method_open (fits_less lim (suc (here s)) (here (in_computed ps (Some kind) j ∷ s)) w (omega arith)) (object_raised (max j r) o (omega arith) v) head (sp_computed b c d) (follows_on kind b (x ++ sign g.CloseBracket c ∷ []) follows) (raised (max j r) (below h refl) (omega arith) v))
bracket_on e r [] c x o w d h = tt
bracket_on e r (_ ∷ s) c x o w d h = tt

pub bracket_ended : (lim : Limits) (side : Side) (v : Settled) (p : List Lexeme) (c : Bool) → EndedAt lim side v p → After lim side (close_bracket v) (p ++ sign g.CloseBracket c ∷ [])
bracket_ended lim side (settled e r s) p c h = after_along lim side (close_bracket (settled e r s)) (ap (λ z. z ++ sign g.CloseBracket c ∷ []) h.all) (bracket_on e r s c h.own (opens_of h.at) (fits_of h.at) h.spells h.deep)

-- a literal with a property more
pub property_deep : {lim : Limits} {n m j r : ℕ} {s : List Frame} → Deep lim (suc n) s j → Deep lim (suc m) s r → Deep lim (suc (max n m)) s (max j r)
property_deep {lim} {j = j} {r = r} d h = record { reach = omega (arith, d.reach, h.reach); within = fits_max lim j r d.within h.within }

pub object_made : {lim : Limits} {side : Side} {ps : Properties} {n r : ℕ} {s : List Frame} {p y : List Lexeme} (b c : Bool) → Place lim side s (sign g.OpenBrace b ∷ []) p → SpellsProperties side lim.most n ps y → Deep lim (suc n) s r → Held lim side 11 (Object ps) r s ((p ++ sign g.OpenBrace b ∷ y) ++ sign g.CloseBrace c ∷ [])
object_made {n = n} {p = p} {y = y} b c at ps d = record { before = p; own = sign g.OpenBrace b ∷ (y ++ sign g.CloseBrace c ∷ []); height = suc n; at = place_on (y ++ sign g.CloseBrace c ∷ []) at; spells = sp_object b c ps; all = simp append_assoc; deep = d }

pub object_closed : {lim : Limits} {side : Side} {ps : Properties} {key : PropKey} {e : Expr} {m j r : ℕ} {s : List Frame} {q z : List Lexeme} (c : Bool) → InObject lim side ps j s q → SpellsProperty side lim.most m key e z → Deep lim (suc m) s r → Held lim side 11 (Object (with_property ps key e)) (max j r) s ((q ++ z) ++ sign g.CloseBrace c ∷ [])
object_closed {m = m} {z = z} c (in_object {p = p} {y = y} {n = n} b at ps deep) d h = held_along (simp append_assoc) (object_made b c at (sp_properties (properties_more (max n m) ps d (omega arith) (omega arith))) (property_deep deep h))

pub object_more : {lim : Limits} {side : Side} {ps : Properties} {key : PropKey} {e : Expr} {m j r : ℕ} {s : List Frame} {q z : List Lexeme} (c : Bool) → InObject lim side ps j s q → SpellsProperty side lim.most m key e z → Deep lim (suc m) s r → Viable lim side (key_next (with_property ps key e) (max j r)) s ((q ++ z) ++ sign g.Comma c ∷ [])
object_more {m = m} {z = z} c (in_object {p = p} {y = y} {n = n} b at ps deep) d h = viable_along (simp append_assoc) (v_key_next (in_object {n = max n m} b at (all_begun_properties c (properties_more (max n m) ps d (omega arith) (omega arith))) (property_deep deep h)))

brace_on : {lim : Limits} {side : Side} (e : Expr) (r : ℕ) (s : List Frame) (c : Bool) {q : List Lexeme} (x : List Lexeme) {m : ℕ} → Opens lim side s q → Sp lim side 1 m e x → Deep lim m s r → After lim side (close_brace (settled e r s)) ((q ++ x) ++ sign g.CloseBrace c ∷ [])
brace_on {lim} {side} e r (in_property ps key j ∷ s) c x {m} (op_property {q = q} {x = y} {n = n} b o k deep) d h =
    v_have (held_along (simp append_assoc) (reached (object_closed c o (sp_key_value b (deeper_prop_key k (omega arith)) (deeper d (omega arith))) (deep_max deep h refl))))
  where
    reached : {l : ℕ} {f : Expr} {u : List Lexeme} → Held lim side l f (max j (max j r)) s u → Held lim side l f (max j r) s u
    reached {l} {f} {u} a = subst (λ i. Held lim side l f i s u) (omega arith) a
brace_on e r [] c x o d h = tt
brace_on e r (_ ∷ s) c x o d h = tt

pub brace_ended : (lim : Limits) (side : Side) (v : Settled) (p : List Lexeme) (c : Bool) → EndedAt lim side v p → After lim side (close_brace v) (p ++ sign g.CloseBrace c ∷ [])
brace_ended lim side (settled e r s) p c h = after_along lim side (close_brace (settled e r s)) (ap (λ z. z ++ sign g.CloseBrace c ∷ []) h.all) (brace_on e r s c h.own (opens_of h.at) h.spells h.deep)
