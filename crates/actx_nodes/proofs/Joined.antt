-- A row more stands for a head more.
use Rattle.std.proofs.Common.{◌≡◌, ℕ, suc, ◌<◌, List, [], ◌∷◌, length, map, take, drop, All, ◌++◌, reverse, subst, refl, sym, ap, ◌∙◌, arith}
use Rattle.std.proofs.lemmas.List.{take-map, drop-map, length-reverse}
use Rattle.std.proofs.lemmas.List.Elements.{All-drop, All-head, All-tail, All-cons}
use Rattle.actx_nodes.specs.Build.{build}
use Rattle.actx_nodes.specs.Forest.{Entry, entry, forest, gathered, built, distance, Stands}
use Rattle.actx_nodes.specs.Node.{Node, nth}
use Rattle.actx_nodes.specs.declared.label.Head.{Head}
use Rattle.actx_nodes.proofs.Places.{dropped}

pub stands_nothing : Stands [] [] []
stands_nothing = record { all = refl; tops = refl; below = λ k d q. omega (arith, q) }

map_map : {A B C : Type 0} (g : B → C) (f : A → B) (xs : List A) → map g (map f xs) ≡ map (λ x. g (f x)) xs
map_map g f [] = refl
map_map g f (x ∷ xs) = ap (λ ys. g (f x) ∷ ys) (map_map g f xs)

-- one row more in front moves every place
moved : (n : ℕ) (ns : List Node) (x : Node) (ps : List ℕ) → All (λ p. p < n) ps → map (λ p. nth (x ∷ ns) (distance (suc n) p)) ps ≡ map (λ p. nth ns (distance n p)) ps
moved n ns x [] h = refl
moved n ns x (p ∷ ps) h =
    let under : p < n = All-head (λ q. q < n) p ps h in
    let far : distance (suc n) p ≡ suc (distance n p) = omega (arith, under) in
    ap (λ d. nth (x ∷ ns) d ∷ map (λ q. nth (x ∷ ns) (distance (suc n) q)) ps) far ∙ ap (λ ys. nth ns (distance n p) ∷ ys) (moved n ns x ps (All-tail (λ q. q < n) p ps h))

weaker : (n : ℕ) (ps : List ℕ) → All (λ p. p < n) ps → All (λ p. p < suc n) ps
weaker n ps h = λ k d q. omega (arith, h k d q)

both : (x y : Node) (ns ms : List Node) → x ≡ y → ns ≡ ms → x ∷ ns ≡ y ∷ ms
both x y ns ms p q = ap (λ z. z ∷ ns) p ∙ ap (λ zs. y ∷ zs) q

pub stands_more : (h : Head) (hs : List Head) (es : List Entry) (ps : List ℕ) → Stands hs es ps → Stands (h ∷ hs) (entry h.label (map (distance (length es)) (take h.parts ps)) ∷ es) (length es ∷ drop h.parts ps)
stands_more h hs es ps s =
    let n = length es in
    let pick : ℕ → Node = λ p. nth (forest es) (distance n p) in
    let parts : map (nth (forest es)) (map (distance n) (take h.parts ps)) ≡ take h.parts (gathered hs) =
    map_map (nth (forest es)) (distance n) (take h.parts ps) ∙ sym (take-map pick h.parts ps) ∙ ap (take h.parts) s.tops in
    let x = build h.label (map (nth (forest es)) (map (distance n) (take h.parts ps))) in
    let same : x ≡ build h.label (take h.parts (gathered hs)) = ap (build h.label) parts in
    let here : distance (suc n) n ≡ 0 = omega arith in
    let rest : map (λ p. nth (x ∷ forest es) (distance (suc n) p)) (drop h.parts ps) ≡ drop h.parts (gathered hs) =
    moved n (forest es) x (drop h.parts ps) (All-drop (λ p. p < n) h.parts ps s.below) ∙ sym (drop-map pick h.parts ps) ∙ ap (drop h.parts) s.tops in
    record {
      all = both x (build h.label (take h.parts (gathered hs))) (forest es) (built hs) same s.all;
      tops = ap (λ d. nth (x ∷ forest es) d ∷ map (λ p. nth (x ∷ forest es) (distance (suc n) p)) (drop h.parts ps)) here ∙ both x (build h.label (take h.parts (gathered hs))) (map (λ p. nth (x ∷ forest es) (distance (suc n) p)) (drop h.parts ps)) (drop h.parts (gathered hs)) same rest;
      below = All-cons (λ p. p < suc n) n (drop h.parts ps) (omega arith) (weaker n (drop h.parts ps) (All-drop (λ p. p < n) h.parts ps s.below));
    }

-- one turn of the loop: a head is taken off the end
pub stands_popped : (all old new : List Head) (h : Head) (rows fs : List Entry) (ps qs : List ℕ)
    → Stands (drop (length old) all) (reverse rows) ps → old ≡ new ++ h ∷ [] → old ≡ take (length old) all
    → fs ≡ entry h.label (map (distance (length rows)) (take h.parts ps)) ∷ reverse rows → qs ≡ length rows ∷ drop h.parts ps
    → Stands (drop (length new) all) fs qs
stands_popped all old new h rows fs ps qs s e t f q =
    let n : length (reverse rows) ≡ length rows = length-reverse rows in
    let more = stands_more h (drop (length old) all) (reverse rows) ps s in
    let at_rows = subst (λ m. Stands (h ∷ drop (length old) all) (entry h.label (map (distance m) (take h.parts ps)) ∷ reverse rows) (m ∷ drop h.parts ps)) n more in
    let at_heads = subst (λ hs. Stands hs (entry h.label (map (distance (length rows)) (take h.parts ps)) ∷ reverse rows) (length rows ∷ drop h.parts ps)) (sym (dropped all old new h e t)) at_rows in
    subst (λ xs. Stands (drop (length new) all) xs qs) (sym f) (subst (λ ys. Stands (drop (length new) all) (entry h.label (map (distance (length rows)) (take h.parts ps)) ∷ reverse rows) ys) (sym q) at_heads)

-- at the end the places are the numbers of the first nodes
pub stands_roots : (hs : List Head) (rows : List Entry) (ps : List ℕ) → Stands hs (reverse rows) ps → map (nth (forest (reverse rows))) (map (distance (length rows)) ps) ≡ gathered hs
stands_roots hs rows ps s =
    map_map (nth (forest (reverse rows))) (distance (length rows)) ps ∙ ap (λ n. map (λ p. nth (forest (reverse rows)) (distance n p)) ps) (sym (length-reverse rows)) ∙ s.tops
