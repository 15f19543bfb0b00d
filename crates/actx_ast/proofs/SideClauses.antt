-- Clauses of a switch: a default stands last, and each is of the side.
use Rattle.std.proofs.Common.{◌≡◌, ◌↔◌, ℕ, suc, ◌+◌, ◌<◌, Bool, false, List, [], ◌∷◌, length, drop, get_or, Some, None, IsTrue, refl, sym, subst, arith, rules, nat_lt}
use Rattle.std.proofs.lemmas.Bool.Decides.{nat_tests}
use Rattle.std.proofs.lemmas.Grind.{common_steps}
use Rattle.std.proofs.lemmas.List.{at_drop_more}
use Rattle.actx_grammar.specs.declared.side.Side.{Side}
use Rattle.actx_ast.specs.declared.tree.Clause.{Clause}
use Rattle.actx_ast.specs.declared.tree.ConstItem.{ConstItem}
use Rattle.actx_ast.specs.declared.tree.LetItem.{LetItem}
use Rattle.actx_ast.specs.Clauses.{DefaultLast, EachOn}
use Rattle.actx_grammar.specs.Sides.{ClausesOn}
use Rattle.actx_grammar.specs.Tree.{Clauses, Stmts, no_clauses, clause, no_lets, no_consts}
use Rattle.actx_ast.specs.View.{clause_view, clauses_view, lets_view, consts_view}

joined : (side : Side) (cs : Clauses) → DefaultLast cs → EachOn side cs → ClausesOn side cs
joined side no_clauses d h = tt
joined side (clause (Some n) ss cs) d h = (h.0, h.1, joined side cs d h.2)
joined side (clause None ss no_clauses) d h = h.1
joined side (clause None ss (clause n rs cs)) d h = absurd d

last : (side : Side) (cs : Clauses) → ClausesOn side cs → DefaultLast cs
last side no_clauses h = tt
last side (clause (Some n) ss cs) h = last side cs h.2
last side (clause None ss no_clauses) h = tt
last side (clause None ss (clause n rs cs)) h = h

each : (side : Side) (cs : Clauses) → ClausesOn side cs → EachOn side cs
each side no_clauses h = tt
each side (clause (Some n) ss cs) h = (h.0, h.1, each side cs h.2)
each side (clause None ss no_clauses) h = (tt, h, tt)
each side (clause None ss (clause n rs cs)) h = absurd h

-- where a default stands last, the clauses are of the side if each is
pub where_last : (side : Side) (cs : Clauses) (r : Bool) → DefaultLast cs → IsTrue r ↔ EachOn side cs → IsTrue r ↔ ClausesOn side cs
where_last side cs r d h = (λ i. joined side cs d (h.0 i), λ i. h.1 (each side cs i))

-- and elsewhere they are not
pub elsewhere : (side : Side) (cs : Clauses) (r : Bool) → IsTrue r ↔ DefaultLast cs → r ≡ false → IsTrue r ↔ ClausesOn side cs
elsewhere side cs r h e = (λ i. absurd (cc), λ i. h.1 (last side cs i))

-- a default that stands early, and a clause that stands well
pub default_early : (ss : Stmts) (cs : List Clause) → 0 < length cs → DefaultLast (clause None ss (clauses_view cs)) → ⊥
default_early ss [] h p = absurd (omega arith)
default_early ss (c ∷ cs) h p = p

some_drop : (n : ℕ) (xs : List Clause) → n < length xs → 0 < length (drop n xs)
some_drop n xs h = grind (arith, common_steps)

pub early_refused : (xs : List Clause) (i : ℕ) (x : Clause) → i < length xs → x ≡ get_or xs i x → (clause_view x).0 ≡ None → i + 1 < length xs → DefaultLast (clauses_view (drop i xs)) → ⊥
early_refused xs i x lt here e more p =
    let opened : drop i xs ≡ get_or xs i x ∷ drop (i + 1) xs = at_drop_more (λ ys. ys) xs i x lt in
    let q = subst (λ ys. DefaultLast (clauses_view ys)) opened p in
    let r = subst (λ y. DefaultLast (clauses_view (y ∷ drop (i + 1) xs))) (sym here) q in
    default_early (clause_view x).1 (drop (i + 1) xs) (some_drop (i + 1) xs more) (subst (λ n. DefaultLast (clause n (clause_view x).1 (clauses_view (drop (i + 1) xs)))) e r)

-- LISTS OF ITEMS
none_tested : (n : ℕ) → n ≡ 0 → IsTrue (nat_lt 0 n) → ⊥
none_tested n e h = grind (arith, nat_tests)

some_tested : (n m : ℕ) → n ≡ suc m → IsTrue (nat_lt 0 n)
some_tested n m e = search rules

pub lets_tested : (is : List LetItem) (n : ℕ) → n ≡ length is → IsTrue (nat_lt 0 n) ↔ (lets_view is ≡ no_lets → ⊥)
lets_tested [] n e = (λ h q. none_tested n e h, λ h. absurd (h refl))
lets_tested (i ∷ is) n e = (λ h q. absurd (cc), λ h. some_tested n (length is) e)

pub consts_tested : (is : List ConstItem) (n : ℕ) → n ≡ length is → IsTrue (nat_lt 0 n) ↔ (consts_view is ≡ no_consts → ⊥)
consts_tested [] n e = (λ h q. none_tested n e h, λ h. absurd (h refl))
consts_tested (i ∷ is) n e = (λ h q. absurd (cc), λ h. some_tested n (length is) e)
