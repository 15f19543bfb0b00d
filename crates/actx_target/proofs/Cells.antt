-- A scope's list and table of names, and the list of its cells.
use Rattle.std.proofs.lemmas.Bool.Decides.{nat_tests}
use Rattle.std.proofs.Common.{arith, suc, ◌≡◌, ℕ, List, [], ◌∷◌, ◌++◌, map, Option, Some, None, Bool, true, false, refl, ap, sym, ◌∙◌, if◌then◌else◌}
use Rattle.std.specs.Prelude.{option_map, position, ◌+◌, length, cond, not, nat_lt, slice_set, slice_index_or}
use Rattle.std.specs.List.{position_or_len}
use Rattle.std.specs.Map.{lookup}
use Rattle.indexmap.specs.IndexMap.{insert_entry}
use Rattle.actx_data.specs.declared.value.Value.{Value}
use Rattle.actx_rules.specs.Texts.{same_text}
use Rattle.actx_rules.specs.State.{Cell, cell_of, set_cell, with_cell, given_cell, or_else}
use Rattle.actx_target.specs.Cells.{cell_in, named_cell, slot_of}
use Rattle.actx_target.specs.View.{standing_of}
use Rattle.actx_target.specs.declared.scope.Standing.TheVariants as t
use Rattle.actx_target.specs.declared.scope.Named.{Named}
use Rattle.actx_target.specs.declared.scope.Slot.{Slot}

abbrev Entry : Type 0
Entry = List ℕ × Slot

-- a name is put into the table as its cell is put into the list
pub inserted : (es : List Entry) (x : List ℕ) (s : Slot) → map cell_in (insert_entry same_text es x s) ≡ with_cell (cell_in (x, s)) (map cell_in es)
inserted [] x s = refl
inserted (e ∷ es) x s = by_test (same_text x e.0) (inserted es x s)
  where
    by_test : (b : Bool) → map cell_in (insert_entry same_text es x s) ≡ with_cell (cell_in (x, s)) (map cell_in es) → map cell_in (if b then (e.0, s) ∷ es else e ∷ insert_entry same_text es x s) ≡ (if b then cell_in (e.0, s) ∷ map cell_in es else cell_in e ∷ with_cell (cell_in (x, s)) (map cell_in es))
    by_test true ih = refl
    by_test false ih = ap (λ z. cell_in e ∷ z) ih

-- a look-up in the table finds the cell's slot
pub looked_up : (es : List Entry) (x : List ℕ) → lookup (same_text x) es ≡ option_map slot_of (cell_of x (map cell_in es))
looked_up [] x = refl
looked_up (e ∷ es) x = by_test (same_text x e.0) (looked_up es x)
  where
    by_test : (b : Bool) → lookup (same_text x) es ≡ option_map slot_of (cell_of x (map cell_in es)) → (if b then Some e.1 else lookup (same_text x) es) ≡ option_map slot_of (if b then Some (cell_in e) else cell_of x (map cell_in es))
    by_test true ih = refl
    by_test false ih = ih

-- a name is looked up in what stands in front, and then behind
pub cell_of_both : (x : List ℕ) (cs ds : List Cell) → cell_of x (cs ++ ds) ≡ or_else (cell_of x cs) (cell_of x ds)
cell_of_both x [] ds = refl
cell_of_both x (c ∷ cs) ds = by_test (same_text x c.name) (cell_of_both x cs ds)
  where
    by_test : (b : Bool) → cell_of x (cs ++ ds) ≡ or_else (cell_of x cs) (cell_of x ds) → (if b then Some c else cell_of x (cs ++ ds)) ≡ or_else (if b then Some c else cell_of x cs) (cell_of x ds)
    by_test true ih = refl
    by_test false ih = ih

pub slot_in_front : (x : List ℕ) (cs ds : List Cell) (s : Slot) → Some s ≡ option_map slot_of (cell_of x cs) → Some s ≡ option_map slot_of (cell_of x (cs ++ ds))
slot_in_front x cs ds s h = by_cell (cell_of x cs) h ∙ ap (λ q. option_map slot_of q) (sym (cell_of_both x cs ds))
  where
    by_cell : (o : Option Cell) → Some s ≡ option_map slot_of o → Some s ≡ option_map slot_of (or_else o (cell_of x ds))
    by_cell None k = absurd cc
    by_cell (Some c) k = k

pub slot_behind : (x : List ℕ) (cs ds : List Cell) → None ≡ option_map slot_of (cell_of x cs) → option_map slot_of (cell_of x ds) ≡ option_map slot_of (cell_of x (cs ++ ds))
slot_behind x cs ds h = by_cell (cell_of x cs) h ∙ ap (λ q. option_map slot_of q) (sym (cell_of_both x cs ds))
  where
    by_cell : (o : Option Cell) → None ≡ option_map slot_of o → option_map slot_of (cell_of x ds) ≡ option_map slot_of (or_else o (cell_of x ds))
    by_cell None k = refl
    by_cell (Some c) k = absurd cc

-- REPLACING A SLOT
zero_below : (n : ℕ) → nat_lt 0 (suc n) ≡ true
zero_below n = grind (arith, nat_tests)

one_further : (m n : ℕ) → nat_lt (1 + m) (suc n) ≡ nat_lt m n
one_further m n = grind (arith, nat_tests)

-- the place of what passes a test is the first, or one further than in the rest
first_place : (p : Named → Bool) (e : Named) (es : List Named) → true ≡ p e → position p (e ∷ es) ≡ Some 0
first_place p e es h = by_test (p e) h
  where
    by_test : (b : Bool) → true ≡ b → cond (nat_lt (cond (not b) (1 + position_or_len p es) 0) (suc (length es))) (Some (cond (not b) (1 + position_or_len p es) 0)) None ≡ Some 0
    by_test true k = ap (λ q. cond q (Some 0) None) (zero_below (length es))
    by_test false k = absurd cc

further_place : (p : Named → Bool) (e : Named) (es : List Named) → false ≡ p e → position p (e ∷ es) ≡ option_map (λ i. suc i) (position p es)
further_place p e es h = by_test (p e) h
  where
    m : ℕ
    m = position_or_len p es

    one : 1 + m ≡ suc m
    one = omega (arith)

    by_order : (b : Bool) → cond b (Some (1 + m)) None ≡ option_map (λ i. suc i) (cond b (Some m) None)
    by_order true = ap (λ i. Some i) one
    by_order false = refl

    by_test : (b : Bool) → false ≡ b → cond (nat_lt (cond (not b) (1 + m) 0) (suc (length es))) (Some (cond (not b) (1 + m) 0)) None ≡ option_map (λ i. suc i) (position p es)
    by_test true k = absurd cc
    by_test false k = ap (λ q. cond q (Some (1 + m)) None) (one_further m (length es)) ∙ by_order (nat_lt m (length es))

-- where the list has the name, its cell is replaced
pub replaced_placed : (x : List ℕ) (s : Slot) (es : List Named) (i : ℕ) (old new : Named) → Some i ≡ position (λ n. same_text x n.name) es → old ≡ slice_index_or es i old → named_cell new ≡ cell_in (old.name, s) → (ds : List Cell) → map named_cell (slice_set es i new) ++ ds ≡ with_cell (cell_in (x, s)) (map named_cell es ++ ds)
replaced_placed x s [] i old new h at given ds = absurd cc
replaced_placed x s (e ∷ es) i old new h at given ds = by_test (same_text x e.name) refl (λ j k a. replaced_placed x s es j old new k a given ds)
  where
    p : Named → Bool
    p n = same_text x n.name

    Behind : Type 0
    Behind = (j : ℕ) → Some j ≡ position p es → old ≡ slice_index_or es j old → map named_cell (slice_set es j new) ++ ds ≡ with_cell (cell_in (x, s)) (map named_cell es ++ ds)

    by_place : (o : Option ℕ) → o ≡ position p es → Some i ≡ option_map (λ j. suc j) o → Behind → map named_cell (slice_set (e ∷ es) i new) ++ ds ≡ named_cell e ∷ with_cell (cell_in (x, s)) (map named_cell es ++ ds)
    by_place None k q ih = absurd cc
    by_place (Some j) k q ih =
        let r : i ≡ suc j = cc in
        ap (λ z. map named_cell (slice_set (e ∷ es) z new) ++ ds) r
        ∙ ap (λ z. named_cell e ∷ z) (ih j k (at ∙ ap (λ z. slice_index_or (e ∷ es) z old) r))

    by_test : (b : Bool) → b ≡ p e → Behind → map named_cell (slice_set (e ∷ es) i new) ++ ds ≡ (if b then cell_in (e.name, s) ∷ (map named_cell es ++ ds) else named_cell e ∷ with_cell (cell_in (x, s)) (map named_cell es ++ ds))
    by_test true k ih =
        let q : Some i ≡ Some 0 = h ∙ first_place p e es k in
        let r : i ≡ 0 = cc in
        let same : old ≡ e = at ∙ ap (λ z. slice_index_or (e ∷ es) z old) r in
        ap (λ z. map named_cell (slice_set (e ∷ es) z new) ++ ds) r
        ∙ ap (λ z. z ∷ (map named_cell es ++ ds)) (given ∙ ap (λ z. cell_in (z.name, s)) same)
    by_test false k ih = by_place (position p es) refl (h ∙ further_place p e es k) ih

-- and where it hasn't, the cells behind are dealt with
pub replaced_behind : (x : List ℕ) (s : Slot) (es : List Named) → None ≡ position (λ n. same_text x n.name) es → (ds : List Cell) → map named_cell es ++ with_cell (cell_in (x, s)) ds ≡ with_cell (cell_in (x, s)) (map named_cell es ++ ds)
replaced_behind x s [] h ds = refl
replaced_behind x s (e ∷ es) h ds = by_test (same_text x e.name) refl (λ k. replaced_behind x s es k ds)
  where
    p : Named → Bool
    p n = same_text x n.name

    Behind : Type 0
    Behind = map named_cell es ++ with_cell (cell_in (x, s)) ds ≡ with_cell (cell_in (x, s)) (map named_cell es ++ ds)

    by_place : (o : Option ℕ) → o ≡ position p es → None ≡ option_map (λ j. suc j) o → (None ≡ position p es → Behind) → Behind
    by_place None k q ih = ih k
    by_place (Some j) k q ih = absurd cc

    by_test : (b : Bool) → b ≡ p e → (None ≡ position p es → Behind) → named_cell e ∷ (map named_cell es ++ with_cell (cell_in (x, s)) ds) ≡ (if b then cell_in (e.name, s) ∷ (map named_cell es ++ ds) else named_cell e ∷ with_cell (cell_in (x, s)) (map named_cell es ++ ds))
    by_test true k ih =
        let q : ◌≡◌ {A = Option ℕ} None (Some 0) = h ∙ first_place p e es k in
        absurd cc
    by_test false k ih = ap (λ z. named_cell e ∷ z) (by_place (position p es) refl (h ∙ further_place p e es k) ih)

-- GIVING A VALUE
stands_fixed : (v : Value) (e : Cell) (cs : List Cell) → t.Fixed ≡ standing_of (Some (slot_of e)) → e ∷ cs ≡ given_cell v e e.value ∷ cs
stands_fixed v e cs h = by_slot e.name e.value e.constant h
  where
    by_slot : (x : List ℕ) (o : Option Value) (b : Bool) → t.Fixed ≡ standing_of (Some (record { value = o; constant = b })) → record { name = x; value = o; constant = b } ∷ cs ≡ given_cell v (record { name = x; value = o; constant = b }) o ∷ cs
    by_slot x None b k = absurd cc
    by_slot x (Some w) true k = refl
    by_slot x (Some w) false k = absurd cc

-- a name that is fixed stays as it is
pub set_fixed : (cs : List Cell) (x : List ℕ) (v : Value) → t.Fixed ≡ standing_of (option_map slot_of (cell_of x cs)) → cs ≡ set_cell x v cs
set_fixed [] x v h = refl
set_fixed (c ∷ cs) x v h = by_test (same_text x c.name) h (λ k. set_fixed cs x v k)
  where
    by_test : (b : Bool) → t.Fixed ≡ standing_of (option_map slot_of (if b then Some c else cell_of x cs)) → (t.Fixed ≡ standing_of (option_map slot_of (cell_of x cs)) → cs ≡ set_cell x v cs) → c ∷ cs ≡ (if b then given_cell v c c.value ∷ cs else c ∷ set_cell x v cs)
    by_test true k ih = stands_fixed v c cs k
    by_test false k ih = ap (λ z. c ∷ z) (ih k)

stands_open : (v : Value) (b : Bool) (e : Cell) (cs : List Cell) → t.Open b ≡ standing_of (Some (slot_of e)) → record { name = e.name; value = Some v; constant = b } ∷ cs ≡ given_cell v e e.value ∷ cs
stands_open v c e cs h = by_slot e.name e.value e.constant h
  where
    by_slot : (x : List ℕ) (o : Option Value) (b : Bool) → t.Open c ≡ standing_of (Some (record { value = o; constant = b })) → record { name = x; value = Some v; constant = c } ∷ cs ≡ given_cell v (record { name = x; value = o; constant = b }) o ∷ cs
    by_slot x None b k = let q : c ≡ b = cc in ap (λ z. record { name = x; value = Some v; constant = z } ∷ cs) q
    by_slot x (Some w) true k = absurd cc
    by_slot x (Some w) false k = let q : c ≡ false = cc in ap (λ z. record { name = x; value = Some v; constant = z } ∷ cs) q

-- a name that is open has its slot replaced
pub set_open : (cs : List Cell) (x : List ℕ) (v : Value) (b : Bool) → t.Open b ≡ standing_of (option_map slot_of (cell_of x cs)) → with_cell (record { name = x; value = Some v; constant = b }) cs ≡ set_cell x v cs
set_open [] x v b h = absurd cc
set_open (c ∷ cs) x v constant h = by_test (same_text x c.name) h (λ k. set_open cs x v constant k)
  where
    by_test : (b : Bool) → t.Open constant ≡ standing_of (option_map slot_of (if b then Some c else cell_of x cs)) → (t.Open constant ≡ standing_of (option_map slot_of (cell_of x cs)) → with_cell (record { name = x; value = Some v; constant = constant }) cs ≡ set_cell x v cs) → (if b then record { name = c.name; value = Some v; constant = constant } ∷ cs else c ∷ with_cell (record { name = x; value = Some v; constant = constant }) cs) ≡ (if b then given_cell v c c.value ∷ cs else c ∷ set_cell x v cs)
    by_test true k ih = stands_open v constant c cs k
    by_test false k ih = ap (λ z. c ∷ z) (ih k)
