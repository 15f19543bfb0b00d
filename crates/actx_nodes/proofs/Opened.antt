-- A node is what its label and its parts make of it.
use Rattle.std.proofs.Common.{◌≡◌, ◌⊎◌, inl, inr, ℕ, zero, suc, min, ◌+◌, ◌^◌, ◌<◌, ◌≤◌, List, [], ◌∷◌, length, map, Option, Some, None, option_map, slice_get, refl, sym, ap, ◌∙◌, arith}
use Rattle.std.proofs.lemmas.Bool.{cases_lt}
use Rattle.std.proofs.lemmas.Option.{slice_get-map}
use Rattle.actx_nodes.specs.declared.label.Label.{Label}
use Rattle.actx_nodes.specs.declared.label.Label.TheVariants as l
use Rattle.actx_nodes.specs.declared.label.ExprLabel.TheVariants as e
use Rattle.actx_nodes.specs.Build.{build}
use Rattle.actx_nodes.specs.Forest.{Entry, Table, forest, entry_or, entry_at, label_or, node_at, label_at, parts_at, roots_of}
use Rattle.actx_nodes.specs.Node.{Node, nth, no_node, node_or}

map_same : {A B : Type 0} (f g : A → B) → ((a : A) → f a ≡ g a) → (xs : List A) → map f xs ≡ map g xs
map_same f g h [] = refl
map_same f g h (x ∷ xs) = ap (λ y. y ∷ map f xs) (h x) ∙ ap (λ ys. g x ∷ ys) (map_same f g h xs)

opened_row : (es : List Entry) (n : ℕ) → nth (forest es) n ≡ build (entry_or (slice_get es n)).label (map (λ d. nth (forest es) (n + 1 + d)) (entry_or (slice_get es n)).parts)
opened_row [] n = refl
opened_row (e ∷ es) zero = ap (build e.label) (map_same (nth (forest es)) (λ d. nth (forest (e ∷ es)) (0 + 1 + d)) (λ d. ap (nth (forest (e ∷ es))) (count d)) e.parts)
  where
    count : (d : ℕ) → suc d ≡ 0 + 1 + d
    count d = omega arith
opened_row (e ∷ es) (suc n) =
    opened_row es n
    ∙ ap (build (entry_or (slice_get es n)).label) (map_same (λ d. nth (forest es) (n + 1 + d)) (λ d. nth (forest (e ∷ es)) (suc n + 1 + d)) (λ d. ap (nth (forest (e ∷ es))) (count n d)) (entry_or (slice_get es n)).parts)
  where
    count : (n d : ℕ) → suc (n + 1 + d) ≡ suc n + 1 + d
    count n d = omega arith

pub opened : (t : Table) (n : ℕ) → node_at t n ≡ build (label_at t n) (parts_at t n)
opened t n = opened_row t.rows n

-- BEYOND THE END
never : {A : Type 0} → ⊥ → A
never = elim [ ]

beyond_row : (es : List Entry) (n : ℕ) → length es ≤ n → nth (forest es) n ≡ no_node
beyond_row [] n h = refl
beyond_row (e ∷ es) zero h = never (omega (arith, h))
beyond_row (e ∷ es) (suc n) h = beyond_row es n (omega (arith, h))

pub beyond : (t : Table) (n : ℕ) → length t.rows ≤ n → node_at t n ≡ no_node
beyond t n h = beyond_row t.rows n h

pub nth_map : (f : ℕ → Node) (xs : List ℕ) (i : ℕ) (x : ℕ) → slice_get xs i ≡ Some x → nth (map f xs) i ≡ f x
nth_map f xs i x h = ap node_or (slice_get-map f xs i ∙ ap (λ o. option_map f o) h)

pub nth_none : (f : ℕ → Node) (xs : List ℕ) (i : ℕ) → slice_get xs i ≡ None → nth (map f xs) i ≡ no_node
nth_none f xs i h = ap node_or (slice_get-map f xs i ∙ ap (λ o. option_map f o) h)

-- THE PARTS OF A NODE, found by their places
pub label_is : (t : Table) (n : ℕ) (label : Label) → label ≡ l.Expr e.Undefined → label_or label (slice_get t.rows n) ≡ label_at t n
label_is t n label h = ap (λ x. label_or x (slice_get t.rows n)) h ∙ labels (slice_get t.rows n)
  where
    labels : (o : Option Entry) → label_or (l.Expr e.Undefined) o ≡ (entry_or o).label
    labels None = refl
    labels (Some row) = refl

pub part_none : (t : Table) (n i : ℕ) → length t.rows < 2 ^ 64 → slice_get (entry_at t n).parts i ≡ None → node_at t 18446744073709551615 ≡ nth (parts_at t n) i
part_none t n i h k = beyond t 18446744073709551615 (omega (arith, h)) ∙ sym (nth_none (λ d. node_at t (n + 1 + d)) (entry_at t n).parts i k)

pub root_none : (t : Table) (i : ℕ) → length t.rows < 2 ^ 64 → slice_get t.roots i ≡ None → node_at t 18446744073709551615 ≡ nth (roots_of t) i
root_none t i h k = beyond t 18446744073709551615 (omega (arith, h)) ∙ sym (nth_none (node_at t) t.roots i k)

pub root_there : (t : Table) (i n : ℕ) → slice_get t.roots i ≡ Some n → node_at t n ≡ nth (roots_of t) i
root_there t i n h = sym (nth_map (node_at t) t.roots i n h)

-- the greatest number is no node's, and a sum that is cut there is none either
greatest_none : (t : Table) → length t.rows < 2 ^ 64 → node_at t 18446744073709551615 ≡ no_node
greatest_none t h = beyond t 18446744073709551615 (omega (arith, h))

cut_sum : (t : Table) (m n : ℕ) → length t.rows < 2 ^ 64 → (m ≡ n) ⊎ ((m ≡ 18446744073709551615) × (18446744073709551615 ≤ n)) → node_at t m ≡ node_at t n
cut_sum t m n h (inl q) = ap (node_at t) q
cut_sum t m n h (inr q) = ap (node_at t) q.0 ∙ greatest_none t h ∙ sym (beyond t n (omega (arith, h, q.1)))

cut_either : (n d : ℕ) → (n + 1 + d < 18446744073709551615) ⊎ (18446744073709551615 ≤ n + 1 + d) → (min (min (n + 1) 18446744073709551615 + d) 18446744073709551615 ≡ n + 1 + d) ⊎ ((min (min (n + 1) 18446744073709551615 + d) 18446744073709551615 ≡ 18446744073709551615) × (18446744073709551615 ≤ n + 1 + d))
cut_either n d (inl q) = inl (omega (arith, q))
cut_either n d (inr q) = inr (omega (arith, q), q)

saturated : (t : Table) (n d : ℕ) → length t.rows < 2 ^ 64 → node_at t (min (min (n + 1) 18446744073709551615 + d) 18446744073709551615) ≡ node_at t (n + 1 + d)
saturated t n d h = cut_sum t (min (min (n + 1) 18446744073709551615 + d) 18446744073709551615) (n + 1 + d) h (cut_either n d (cases_lt (n + 1 + d) 18446744073709551615))

pub part_there : (t : Table) (n i d : ℕ) → length t.rows < 2 ^ 64 → slice_get (entry_at t n).parts i ≡ Some d
    → node_at t (min (min (n + 1) 18446744073709551615 + d) 18446744073709551615) ≡ nth (parts_at t n) i
part_there t n i d h k = saturated t n d h ∙ sym (nth_map (λ e. node_at t (n + 1 + e)) (entry_at t n).parts i d k)
