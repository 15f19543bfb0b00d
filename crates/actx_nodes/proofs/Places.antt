-- Lists from their ends: what a pop leaves, and what stands behind it.
use Rattle.std.proofs.Common.{◌≡◌, ◌⊎◌, inl, inr, ℕ, ◌-◌, ◌<◌, ◌≤◌, List, [], ◌∷◌, ◌++◌, length, take, drop, reverse, sym, ap, ◌∙◌, arith, append_assoc}
use Rattle.std.proofs.Math.Seq.{drop-append_seam, take-append_seam}
use Rattle.std.proofs.lemmas.Bool.{cases_lt}
use Rattle.std.proofs.lemmas.List.{take-append-drop, reverse-append, length-reverse, length-drop, drop_all}

-- after a pop: the rest of a list stands behind what is left
pub behind : {A : Type 0} (all old new : List A) (h : A) → old ≡ new ++ h ∷ [] → old ≡ take (length old) all → all ≡ new ++ h ∷ drop (length old) all
behind all old new h e t = sym (take-append-drop (length old) all) ∙ ap (λ xs. xs ++ drop (length old) all) (sym t ∙ e) ∙ append_assoc new (h ∷ []) (drop (length old) all)

pub dropped : {A : Type 0} (all old new : List A) (h : A) → old ≡ new ++ h ∷ [] → old ≡ take (length old) all → drop (length new) all ≡ h ∷ drop (length old) all
dropped all old new h e t = ap (drop (length new)) (behind all old new h e t) ∙ drop-append_seam new (h ∷ drop (length old) all)

pub taken : {A : Type 0} (all old new : List A) (h : A) → old ≡ new ++ h ∷ [] → old ≡ take (length old) all → new ≡ take (length new) all
taken all old new h e t = sym (ap (take (length new)) (behind all old new h e t) ∙ take-append_seam new (h ∷ drop (length old) all))

-- a list without its last ones is the reversed one without its first
cut : {A : Type 0} (k : ℕ) (xs : List A) → reverse xs ≡ reverse (drop k xs) ++ reverse (take k xs)
cut k xs = ap reverse (sym (take-append-drop k xs)) ∙ reverse-append (take k xs) (drop k xs)

cut_length : {A : Type 0} (k : ℕ) (xs : List A) → length (reverse (drop k xs)) ≡ length xs - k
cut_length k xs = length-reverse (drop k xs) ∙ length-drop k xs

cut_few : {A : Type 0} (n : ℕ) (xs : List A) → n ≤ length xs → reverse (take (length xs - n) xs) ≡ drop n (reverse xs)
cut_few n xs h =
    let k = length xs - n in
    let q : length (reverse (drop k xs)) ≡ n = cut_length k xs ∙ omega (arith, h) in
    sym (ap (drop n) (cut k xs) ∙ ap (λ m. drop m (reverse (drop k xs) ++ reverse (take k xs))) (sym q) ∙ drop-append_seam (reverse (drop k xs)) (reverse (take k xs)))

cut_all : {A : Type 0} (n : ℕ) (xs : List A) → length xs < n → reverse (take (length xs - n) xs) ≡ drop n (reverse xs)
cut_all n xs h =
    let zero_left : length xs - n ≡ 0 = omega (arith, h) in
    let short : length (reverse xs) ≤ n = omega (arith, h, length-reverse xs) in
    ap (λ k. reverse (take k xs)) zero_left ∙ sym (drop_all n (reverse xs) short)

cut_either : {A : Type 0} (n : ℕ) (xs : List A) → (length xs < n) ⊎ (n ≤ length xs) → reverse (take (length xs - n) xs) ≡ drop n (reverse xs)
cut_either n xs (inl h) = cut_all n xs h
cut_either n xs (inr h) = cut_few n xs h

pub truncated : {A : Type 0} (n : ℕ) (xs : List A) → reverse (take (length xs - n) xs) ≡ drop n (reverse xs)
truncated n xs = cut_either n xs (cases_lt (length xs) n)
