-- What ends a statement or a list of statements keeps what was read in order.
use Rattle.std.proofs.Common.{◌≡◌, ℕ, suc, max, ◌+◌, ◌-◌, ◌≤◌, List, [], ◌∷◌, ◌++◌, Bool, true, false, Option, Some, None, refl, sym, ◌∙◌, ap, subst, arith, append_assoc}
use Rattle.std.specs.Prelude.{codes}
use Rattle.actx_grammar.specs.declared.operators.FunctionKind.{FunctionKind}
use Rattle.actx_grammar.specs.declared.side.Side.{Side}
use Rattle.actx_grammar.specs.declared.token.Keyword.TheVariants as k
use Rattle.actx_grammar.specs.declared.token.Sign.TheVariants as g
use Rattle.actx_grammar.specs.declared.token.TokenKind.TheVariants as t
use Rattle.actx_grammar.specs.Grammar.{IsBody, ends_open, SpellsParams, sp_arrow, sp_function, sp_code, sp_method, sp_fun, sp_block, sp_braces, sp_body, sp_if, sp_if_else, sp_while, sp_for, sp_for_of_let, sp_for_of_const, sp_try_finally, sp_try_both, sp_catch, sp_catch_name, sp_default, sp_switch, SpellsStmt, SpellsStmts}
use Rattle.actx_grammar.specs.Lexemes.{Lexeme, sign, keyword, lexeme}
use Rattle.actx_grammar.specs.Parser.{with_stmt, with_clause, end_body, end_list, close_list, Standing, standing, settle_stmt, to_else}
use Rattle.actx_grammar.specs.ParserState.{Limits, Role, function_head, ListOwner, body, Frame, yes_of, no_of, while_of, for_body, for_of_body, in_list, have_stmt, levels}
use Rattle.actx_grammar.specs.Tree.{Expr, MaybeExpr, Init, Catch, Clauses, code, Stmt, Stmts, Fun, Block, If, While, For, ForOf, Try, Switch, no_stmt, some_stmt, last}
use Rattle.actx_grammar.specs.Words.{greatest_number}
use Rattle.actx_laws.proofs.ParseReads.{owner_levels, list_levels}
use Rattle.actx_laws.proofs.SpellDeeper.{deeper, deeper_prop_key, deeper_init, deeper_maybe, deeper_block, deeper_catch, deeper_stmts}
use Rattle.actx_laws.proofs.ViableTests.{fits_max}
use Rattle.actx_laws.proofs.ViableParts.{Deep, AsBody}
use Rattle.actx_laws.proofs.ViableOpen.{Opens, op_yes, op_no, op_while_of, op_for, op_for_of, op_list, Owned, own_program, own_arrow, own_function, own_block, own_tried, own_caught, own_caught_name, own_finally, own_clause, own_default, role_reach, in_object, in_for, in_test, tried_block, Caught, caught_none, caught_some, InSwitch, in_clauses, Headed, head_expression, head_declaration, head_method}
use Rattle.actx_laws.proofs.ViableModes.{Viable, v_body_start, v_have_stmt, v_have, v_whole, v_key_end, v_catch_next, v_finally_next, After, place_on, opens_along, viable_along}
use Rattle.actx_laws.proofs.ViableLists.{as_body, any_body, deeper_body, properties_more, stmts_more, cases_last, cases_more, cases_done}
use Rattle.actx_laws.proofs.ViableRaised.{tried_raised, caught_raised}

-- LISTS THAT END
method_group : (p w z x y : List Lexeme) (b c : Lexeme) → p ++ (w ++ z ++ x ++ b ∷ (y ++ c ∷ [])) ≡ (((p ++ (w ++ z)) ++ (x ++ b ∷ [])) ++ y) ++ c ∷ []
method_group p w z x y b c = simp append_assoc

function_ended : {lim : Limits} {side : Side} {role : Role} {kind : FunctionKind} {name : Option (List ℕ)} {xs : List (List ℕ)} {f : Bool} {n r : ℕ} {s : List Frame} {q x y : List Lexeme} (ss : Stmts) (b i : Bool) → Headed lim side (function_head role kind name) f s q → SpellsParams side lim.most xs x → SpellsStmts side lim.most n ss y → role_reach role ≤ r → Deep lim (n + owner_levels (body (function_head role kind name) xs)) s r
    → After lim side (end_body (function_head role kind name) xs ss r s) (((q ++ (x ++ sign g.OpenBrace b ∷ [])) ++ y) ++ sign g.CloseBrace i ∷ [])
function_ended {n = n} {x = x} {y = y} ss b i (head_expression {p = p} {x = z} at h) ps d m deep =
    v_have (record { before = p; own = z ++ x ++ sign g.OpenBrace b ∷ (y ++ sign g.CloseBrace i ∷ []); height = suc n; at = place_on (sign g.OpenBrace b ∷ (y ++ sign g.CloseBrace i ∷ [])) (place_on x at); spells = sp_function (sp_code b i h ps d); all = simp append_assoc; deep = record { reach = omega (arith, deep.reach); within = deep.within } })
function_ended {kind = kind} {name = name} {xs = xs} {n = n} {s = s} {x = x} {y = y} ss b i (head_declaration {p = p} {x = z} {name = w} o l fit h) ps d m deep =
    viable_along (simp append_assoc) (v_have_stmt o (sp_fun (sp_code b i h ps d)) (any_body s (Fun (code (Some w) kind xs ss)) l) refl (record { reach = omega (arith, deep.reach); within = deep.within }))
function_ended {xs = xs} {n = n} {r = r} {x = x} {y = y} ss b i (head_method {w = w} {x = z} {n = v} fit (in_object {p = p} {y = u} {n = j} c at props pd) head key follows kd) ps d m deep =
    viable_along (sym (append_assoc p (sign g.OpenBrace c ∷ u) (w ++ z ++ x ++ sign g.OpenBrace b ∷ (y ++ sign g.CloseBrace i ∷ []))) ∙ method_group (p ++ sign g.OpenBrace c ∷ u) w z x y (sign g.OpenBrace b) (sign g.CloseBrace i)) (v_key_end {n = suc (max n (max (v - 1) (j - 1)))} c at (properties_more (suc (max n (max (v - 1) (j - 1)))) props (sp_method {d = max n (max (v - 1) (j - 1))} b i head (deeper_prop_key key (omega arith)) follows ps (deeper_stmts d (omega arith))) (omega arith) (omega arith)) (record { reach = omega (arith, deep.reach, pd.reach, kd.reach, m); within = deep.within }))

part_group : (p z y : List Lexeme) (b f i : Lexeme) → p ++ (z ++ b ∷ f ∷ (y ++ i ∷ [])) ≡ (((p ++ z) ++ b ∷ f ∷ []) ++ y) ++ i ∷ []
part_group p z y b f i = simp append_assoc

try_group : (p x z y : List Lexeme) (c b f i : Lexeme) → p ++ c ∷ (x ++ z ++ b ∷ f ∷ (y ++ i ∷ [])) ≡ ((((p ++ c ∷ x) ++ z) ++ b ∷ f ∷ []) ++ y) ++ i ∷ []
try_group p x z y c b f i =
    ap (λ u. p ++ c ∷ u) (append_assoc x z (b ∷ f ∷ (y ++ i ∷ [])))
    ∙ sym (append_assoc p (c ∷ x) (z ++ b ∷ f ∷ (y ++ i ∷ [])))
    ∙ part_group (p ++ c ∷ x) z y b f i

caught_ended : {lim : Limits} {side : Side} {bs : Stmts} {ct : Catch} {n r : ℕ} {s : List Frame} {q y : List Lexeme} (ss : Stmts) (b f i : Bool) → Caught lim side bs ct r s q → SpellsStmts side lim.most n ss y → Deep lim (suc n) s r → Viable lim side (have_stmt (Try bs ct (last ss)) r) s (((q ++ keyword k.Finally b ∷ sign g.OpenBrace f ∷ []) ++ y) ++ sign g.CloseBrace i ∷ [])
caught_ended {bs = bs} {n = n} {s = s} {y = y} ss b f i (caught_none (tried_block {p = p} {x = x} {n = m} c o bk bd)) d deep =
    viable_along (simp append_assoc) (v_have_stmt {n = suc (max n m)} o (sp_try_finally c b (deeper_block bk (omega arith)) (deeper_block (sp_braces f i d) (omega arith))) (as_body s _ tt) refl (record { reach = omega (arith, deep.reach, bd.reach); within = deep.within }))
caught_ended {n = n} {s = s} {y = y} ss b f i (caught_some {x = z} {n = v} (tried_block {p = p} {x = x} {n = m} c o bk bd) ct cd) d deep =
    viable_along (try_group p x z y (keyword k.Try c) (keyword k.Finally b) (sign g.OpenBrace f) (sign g.CloseBrace i)) (v_have_stmt {n = suc (max n (max m v))} o (sp_try_both c b (deeper_block bk (omega arith)) (deeper_catch ct (omega arith)) (deeper_block (sp_braces f i d) (omega arith))) (as_body s _ tt) refl (record { reach = omega (arith, deep.reach, bd.reach, cd.reach); within = deep.within }))

-- a numbered clause more
pub switch_more : {lim : Limits} {side : Side} {e : Expr} {cs : Clauses} {number n c r : ℕ} {s : List Frame} {q y : List Lexeme} (ss : Stmts) (b f h : Bool) → InSwitch lim side e cs c s q → number ≤ greatest_number → c ≤ r → SpellsStmts side lim.most n ss y → Deep lim (suc n) s r → InSwitch lim side e (with_clause cs (Some number) ss) r s ((q ++ keyword k.Case b ∷ lexeme (t.Number number) f ∷ sign g.Colon h ∷ []) ++ y)
switch_more {lim} {side} {e} {cs} {number} {n} {r = r} {s = s} {y = y} ss b f h (in_clauses {p = p} {x = x} {y = z} {n = m} i j l o plain op d cases sd) w v ds deep =
    subst (λ u. InSwitch lim side e (with_clause cs (Some number) ss) r s u) (simp append_assoc) (in_clauses {n = max n m} i j l o plain op (deeper d (omega arith)) (cases_more (max n m) b f h cases w (deeper_stmts ds (omega arith)) (omega arith)) (record { reach = omega (arith, deep.reach, sd.reach); within = deep.within }))

pub switch_ended : {lim : Limits} {side : Side} {e : Expr} {cs : Clauses} {r : ℕ} {s : List Frame} {q : List Lexeme} (i : Bool) → InSwitch lim side e cs r s q → Viable lim side (have_stmt (Switch e cs) r) s (q ++ sign g.CloseBrace i ∷ [])
switch_ended {s = s} i (in_clauses {p = p} {x = x} {y = y} {n = n} b c f h plain o d cases sd) = viable_along (simp append_assoc) (v_have_stmt {n = suc n} o (sp_switch b c f h i plain d (cases_done cases)) (as_body s _ tt) refl sd)

default_ended : {lim : Limits} {side : Side} {e : Expr} {cs : Clauses} {n c r : ℕ} {s : List Frame} {q y : List Lexeme} (ss : Stmts) (b f i : Bool) → InSwitch lim side e cs c s q → c ≤ r → SpellsStmts side lim.most n ss y → Deep lim (suc n) s r → Viable lim side (have_stmt (Switch e (with_clause cs None ss)) r) s (((q ++ keyword k.Default b ∷ sign g.Colon f ∷ []) ++ y) ++ sign g.CloseBrace i ∷ [])
default_ended {n = n} {s = s} {y = y} ss b f i (in_clauses {p = p} {x = x} {y = z} {n = m} j l u o plain op d cases sd) w ds deep =
    viable_along (simp append_assoc) (v_have_stmt {n = suc (max n m)} op (sp_switch j l u o i plain (deeper d (omega arith)) (cases_last (max n m) cases (sp_default {b = b} {c = f} (deeper_stmts ds (omega arith))) (omega arith))) (as_body s _ tt) refl (record { reach = omega (arith, deep.reach, sd.reach); within = deep.within }))

end_viable : {lim : Limits} {side : Side} {owner : ListOwner} {c r n : ℕ} {s : List Frame} {p y : List Lexeme} (ss : Stmts) (i : Bool) → Owned lim side owner c s p → c ≤ r → SpellsStmts side lim.most n ss y → Deep lim (n + owner_levels owner) s r → After lim side (end_list owner ss r s) ((p ++ y) ++ sign g.CloseBrace i ∷ [])
end_viable ss i own_program h d deep = tt
end_viable {n = n} {y = y} ss i (own_arrow {p = p} {x = x} b at low ps) h d deep =
    v_whole low (record { before = p; own = x ++ sign g.Arrow false ∷ sign g.OpenBrace b ∷ (y ++ sign g.CloseBrace i ∷ []); height = suc n; at = place_on (sign g.Arrow false ∷ sign g.OpenBrace b ∷ (y ++ sign g.CloseBrace i ∷ [])) at; spells = sp_arrow b i (omega arith) ps d; all = simp append_assoc; deep = record { reach = omega (arith, deep.reach); within = deep.within } })
end_viable ss i (own_function b m hd ps) h d deep = function_ended ss b i hd ps d (omega arith) deep
end_viable {n = n} {s = s} {y = y} ss i (own_block {p = p} b o) h d deep = viable_along (simp append_assoc) (v_have_stmt {n = suc n} o (sp_block (sp_braces b i d)) (as_body s (Block ss) tt) refl (record { reach = omega (arith, deep.reach); within = deep.within }))
end_viable {n = n} {y = y} ss i (own_tried {p = p} b f o) h d deep = viable_along (simp append_assoc) (v_catch_next (tried_block b o (sp_braces f i d) (record { reach = omega (arith, deep.reach); within = deep.within })))
end_viable {r = r} {n = n} {y = y} ss i (own_caught {q = q} b f tr) h d deep = viable_along (simp append_assoc) (v_finally_next {n = n} (tried_raised r tr h deep.within) (sp_catch {b = b} (sp_braces f i d)) (record { reach = omega (arith, deep.reach); within = deep.within }))
end_viable {r = r} {n = n} {y = y} ss i (own_caught_name {q = q} b f u v w tr name) h d deep = viable_along (simp append_assoc) (v_finally_next {n = n} (tried_raised r tr h deep.within) (sp_catch_name {b = b} {c = f} {f = u} {g = v} name (sp_braces w i d)) (record { reach = omega (arith, deep.reach); within = deep.within }))
end_viable {r = r} {n = n} ss i (own_finally b f ct) h d deep = caught_ended ss b f i (caught_raised r ct h deep.within) d (record { reach = omega (arith, deep.reach); within = deep.within })
end_viable {n = n} ss i (own_clause b f u sw w) h d deep = switch_ended i (switch_more ss b f u sw w h d (record { reach = omega (arith, deep.reach); within = deep.within }))
end_viable {n = n} ss i (own_default b f sw) h d deep = default_ended ss b f i sw h d (record { reach = omega (arith, deep.reach); within = deep.within })

pub close_list_viable : {lim : Limits} {side : Side} (s : List Frame) (p : List Lexeme) (i : Bool) → Opens lim side s p → After lim side (close_list s) (p ++ sign g.CloseBrace i ∷ [])
close_list_viable (in_list owner ss r ∷ s) p i (op_list o h d deep) = end_viable ss i o h d deep
close_list_viable [] p i o = tt
close_list_viable (_ ∷ s) p i o = tt

-- A STATEMENT BEHIND WHAT IS OPEN
pub record Stood (lim : Limits) (side : Side) (st : Stmt) (r : ℕ) (s : List Frame) (p : List Lexeme) : Type 0 where
  pub before : List Lexeme
  pub own : List Lexeme
  pub height : ℕ
  pub stack : Opens lim side s before
  pub spells : SpellsStmt side lim.most height st own
  pub fit : AsBody s st
  pub all : before ++ own ≡ p
  pub deep : Deep lim height s r

stood_along : {lim : Limits} {side : Side} {st : Stmt} {r : ℕ} {s : List Frame} {x y : List Lexeme} → x ≡ y → Stood lim side st r s x → Stood lim side st r s y
stood_along {lim} {side} {st} {r} {s} q d = subst (λ z. Stood lim side st r s z) q d

yes_up : {lim : Limits} {side : Side} {e : Expr} {st : Stmt} {j n r : ℕ} {s : List Frame} {q x : List Lexeme} → Opens lim side (yes_of e j ∷ s) q → SpellsStmt side lim.most n st x → IsBody st → Deep lim n (yes_of e j ∷ s) r → Stood lim side (If e st no_stmt) (max j r) s (q ++ x)
yes_up {lim} {j = j} {n = n} {r = r} {s = s} {x = x} (op_yes {p = p} {x = y} {n = m} b c f o d deep) h i w =
    record { before = p; own = keyword k.If b ∷ sign g.OpenParen c ∷ (y ++ sign g.CloseParen f ∷ x); height = suc (max m n); stack = o; spells = sp_if b c f (deeper d (omega arith)) (deeper_body (sp_body h i) (omega arith)); fit = as_body s _ tt; all = simp append_assoc; deep = record { reach = omega (arith, deep.reach, w.reach); within = fits_max lim j r deep.within w.within } }

no_up : {lim : Limits} {side : Side} {e : Expr} {st branch : Stmt} {j n r : ℕ} {s : List Frame} {q x : List Lexeme} → Opens lim side (no_of e branch j ∷ s) q → SpellsStmt side lim.most n st x → IsBody st → Deep lim n (no_of e branch j ∷ s) r → Stood lim side (If e branch (some_stmt st)) (max j r) s (q ++ x)
no_up {lim} {j = j} {n = n} {r = r} {s = s} {x = x} (op_no {p = p} {x = y} {y = z} {n = m} b c f u o d ye ends deep) h i w =
    record { before = p; own = keyword k.If b ∷ sign g.OpenParen c ∷ (y ++ sign g.CloseParen f ∷ (z ++ keyword k.Else u ∷ x)); height = suc (max m n); stack = o; spells = sp_if_else b c f u (deeper d (omega arith)) (deeper_body ye (omega arith)) ends (deeper_body (sp_body h i) (omega arith)); fit = as_body s _ tt; all = simp append_assoc; deep = record { reach = omega (arith, deep.reach, w.reach); within = fits_max lim j r deep.within w.within } }

while_up : {lim : Limits} {side : Side} {e : Expr} {st : Stmt} {j n r : ℕ} {s : List Frame} {q x : List Lexeme} → Opens lim side (while_of e j ∷ s) q → SpellsStmt side lim.most n st x → IsBody st → Deep lim n (while_of e j ∷ s) r → Stood lim side (While e st) (max j r) s (q ++ x)
while_up {lim} {j = j} {n = n} {r = r} {s = s} {x = x} (op_while_of {p = p} {x = y} {n = m} b c f o d deep) h i w =
    record { before = p; own = keyword k.While b ∷ sign g.OpenParen c ∷ (y ++ sign g.CloseParen f ∷ x); height = suc (max m n); stack = o; spells = sp_while b c f (deeper d (omega arith)) (deeper_body (sp_body h i) (omega arith)); fit = as_body s _ tt; all = simp append_assoc; deep = record { reach = omega (arith, deep.reach, w.reach); within = fits_max lim j r deep.within w.within } }

for_up : {lim : Limits} {side : Side} {i : Init} {test update : MaybeExpr} {st : Stmt} {j n r : ℕ} {s : List Frame} {q x : List Lexeme} → Opens lim side (for_body i test update j ∷ s) q → SpellsStmt side lim.most n st x → IsBody st → Deep lim n (for_body i test update j ∷ s) r → Stood lim side (For i test update st) (max j r) s (q ++ x)
for_up {lim} {j = j} {n = n} {r = r} {s = s} {x = x} (op_for {y = y} {n = m} f (in_test {x = z} {n = u} v (in_for {p = p} {w = a} {n = l} b c h o init id) test td) update deep) d i w =
    record { before = p; own = keyword k.For b ∷ sign g.OpenParen c ∷ (a ++ sign g.Semicolon h ∷ (z ++ sign g.Semicolon v ∷ (y ++ sign g.CloseParen f ∷ x))); height = suc (max (max m n) (max u l)); stack = o; spells = sp_for b c h v f (deeper_init init (omega arith)) (deeper_maybe test (omega arith)) (deeper_maybe update (omega arith)) (deeper_body (sp_body d i) (omega arith)); fit = as_body s _ tt; all = simp append_assoc; deep = record { reach = omega (arith, deep.reach, td.reach, id.reach, w.reach); within = fits_max lim j r deep.within w.within } }

for_of_up : {lim : Limits} {side : Side} {constant : Bool} {y : List ℕ} {e : Expr} {st : Stmt} {j n r : ℕ} {s : List Frame} {q x : List Lexeme} → Opens lim side (for_of_body constant y e j ∷ s) q → SpellsStmt side lim.most n st x → IsBody st → Deep lim n (for_of_body constant y e j ∷ s) r → Stood lim side (ForOf constant y e st) (max j r) s (q ++ x)
for_of_up {lim} {constant = false} {y = name} {j = j} {n = n} {r = r} {s = s} {x = x} (op_for_of {p = p} {y = y} {n = m} b c f h u i source binding o d deep) v a w =
    record { before = p; own = keyword k.For b ∷ sign g.OpenParen c ∷ keyword k.Let f ∷ lexeme (t.Name name) h ∷ lexeme (t.Name (codes "of")) u ∷ (y ++ sign g.CloseParen i ∷ x); height = suc (max m n); stack = o; spells = sp_for_of_let b c f h u i source binding (deeper d (omega arith)) (deeper_body (sp_body v a) (omega arith)); fit = as_body s _ tt; all = simp append_assoc; deep = record { reach = omega (arith, deep.reach, w.reach); within = fits_max lim j r deep.within w.within } }
for_of_up {lim} {constant = true} {y = name} {j = j} {n = n} {r = r} {s = s} {x = x} (op_for_of {p = p} {y = y} {n = m} b c f h u i source binding o d deep) v a w =
    record { before = p; own = keyword k.For b ∷ sign g.OpenParen c ∷ keyword k.Const f ∷ lexeme (t.Name name) h ∷ lexeme (t.Name (codes "of")) u ∷ (y ++ sign g.CloseParen i ∷ x); height = suc (max m n); stack = o; spells = sp_for_of_const b c f h u i source binding (deeper d (omega arith)) (deeper_body (sp_body v a) (omega arith)); fit = as_body s _ tt; all = simp append_assoc; deep = record { reach = omega (arith, deep.reach, w.reach); within = fits_max lim j r deep.within w.within } }

abbrev pub StandsAt : Limits → Side → Standing → List Lexeme → Type 0
StandsAt lim side (standing st r s) p = Stood lim side st r s p

pub settle_stmt_viable : {lim : Limits} {side : Side} (st : Stmt) (r : ℕ) (s : List Frame) (p : List Lexeme) → Stood lim side st r s p → StandsAt lim side (settle_stmt st r s) p
settle_stmt_viable st r (yes_of e q ∷ s) p h = settle_stmt_viable (If e st no_stmt) (max q r) s p (stood_along h.all (yes_up h.stack h.spells h.fit h.deep))
settle_stmt_viable st r (no_of e branch q ∷ s) p h = settle_stmt_viable (If e branch (some_stmt st)) (max q r) s p (stood_along h.all (no_up h.stack h.spells h.fit h.deep))
settle_stmt_viable st r (while_of e q ∷ s) p h = settle_stmt_viable (While e st) (max q r) s p (stood_along h.all (while_up h.stack h.spells h.fit h.deep))
settle_stmt_viable st r (for_body i test update q ∷ s) p h = settle_stmt_viable (For i test update st) (max q r) s p (stood_along h.all (for_up h.stack h.spells h.fit h.deep))
settle_stmt_viable st r (for_of_body constant x e q ∷ s) p h = settle_stmt_viable (ForOf constant x e st) (max q r) s p (stood_along h.all (for_of_up h.stack h.spells h.fit h.deep))
settle_stmt_viable st r [] p h = h
settle_stmt_viable st r (_ ∷ s) p h = h

-- an else behind it
yes_else : {lim : Limits} {side : Side} {e : Expr} {st : Stmt} {j n r : ℕ} {s : List Frame} {q x : List Lexeme} (b : Bool) → Opens lim side (yes_of e j ∷ s) q → SpellsStmt side lim.most n st x → IsBody st → ends_open st ≡ false → Deep lim n (yes_of e j ∷ s) r → Opens lim side (no_of e st (max j r) ∷ s) ((q ++ x) ++ keyword k.Else b ∷ [])
yes_else {lim} {j = j} {n = n} {r = r} {x = x} u (op_yes {p = p} {x = y} {n = m} b c f o d deep) h i ends w =
    opens_along (simp append_assoc) (op_no {n = max m n} b c f u o (deeper d (omega arith)) (deeper_body (sp_body h i) (omega arith)) ends (record { reach = omega (arith, deep.reach, w.reach); within = fits_max lim j r deep.within w.within }))

pub else_viable : {lim : Limits} {side : Side} (st : Stmt) (r : ℕ) (s : List Frame) (p : List Lexeme) (b : Bool) → Stood lim side st r s p → ends_open st ≡ false → After lim side (to_else st r s) (p ++ keyword k.Else b ∷ [])
else_viable st r (yes_of e q ∷ s) p b h w = v_body_start (opens_along (ap (λ z. z ++ keyword k.Else b ∷ []) h.all) (yes_else b h.stack h.spells h.fit w h.deep))
else_viable st r (no_of e branch q ∷ s) p b h w = else_viable (If e branch (some_stmt st)) (max q r) s p b (stood_along h.all (no_up h.stack h.spells h.fit h.deep)) w
else_viable st r (while_of e q ∷ s) p b h w = else_viable (While e st) (max q r) s p b (stood_along h.all (while_up h.stack h.spells h.fit h.deep)) w
else_viable st r (for_body i test update q ∷ s) p b h w = else_viable (For i test update st) (max q r) s p b (stood_along h.all (for_up h.stack h.spells h.fit h.deep)) w
else_viable st r (for_of_body constant x e q ∷ s) p b h w = else_viable (ForOf constant x e st) (max q r) s p b (stood_along h.all (for_of_up h.stack h.spells h.fit h.deep)) w
else_viable st r [] p b h w = tt
else_viable st r (_ ∷ s) p b h w = tt

-- a statement stands in its list
pub list_more : {lim : Limits} {side : Side} {owner : ListOwner} {ss : Stmts} {st : Stmt} {n j r : ℕ} {s : List Frame} {p x : List Lexeme} → Opens lim side (in_list owner ss j ∷ s) p → SpellsStmt side lim.most n st x → Deep lim n (in_list owner ss j ∷ s) r → Opens lim side (in_list owner (with_stmt ss st) (max j r) ∷ s) (p ++ x)
list_more {lim} {owner = owner} {ss = ss} {n = n} {j = j} {r = r} {s = s} {x = x} (op_list {p = p} {y = y} {n = m} o c d deep) h w =
    let same : levels (in_list owner ss j ∷ s) ≡ owner_levels owner + levels s = list_levels owner ss j s in
    let high : n + levels (in_list owner ss j ∷ s) ≤ r = w.reach in
    let far : n + (owner_levels owner + levels s) ≤ r = subst (λ z. n + z ≤ r) same high in
    opens_along (sym (append_assoc p y x)) (op_list {n = max m n} o (omega arith) (stmts_more (max m n) d h (omega arith) (omega arith)) (record { reach = omega (arith, far, deep.reach); within = fits_max lim j r deep.within w.within }))
