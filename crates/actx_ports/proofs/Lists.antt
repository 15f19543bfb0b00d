use Rattle.std.proofs.Common.{◌≡◌, ◌≤◌, ◌+◌, ◌-◌, ℕ, List, [], ◌∷◌, ◌++◌, length, take, drop, Some, arith, append_assoc, ◌⊎◌, inl, inr}
use Rattle.std.specs.Prelude.{string_bytes}
use Rattle.std.proofs.lemmas.Grind.{common_steps}
use Rattle.std.proofs.lemmas.List.{take-append-drop, take-append-le, drop-take, take_all, length-drop}
use Rattle.std.proofs.lemmas.List.Quantifiers.{position-Some}
use Rattle.std.proofs.lemmas.Option.{slice_get-get_or}
use Rattle.std.proofs.lemmas.Slice.Eq.{bytes_eq-Decides}
use Rattle.std.specs.Str.{bytes_eq}
use Rattle.actx_ports.specs.Memory.{File, place_of, name_at}

-- a first part and the next n are a longer first part
pub take_then : (i n : ℕ) (xs : List ℕ) → i + n ≤ length xs → take i xs ++ take n (drop i xs) ≡ take (i + n) xs
take_then i n xs h = rw (← drop-take i n xs) (grind (arith, common_steps, take-append-drop i (take (i + n) xs)))

-- the file at the place of a name has the name
pub name_at_place : (fs : List File) (name : List ℕ) (i : ℕ) → place_of fs name ≡ Some i → name_at fs (Some i) ≡ name
name_at_place [] name i is = absurd cc
name_at_place (d ∷ fs) name i is =
    let found = position-Some (λ (f : File). bytes_eq (string_bytes f.0) name) (d ∷ fs) i d is in
    rw (slice_get-get_or (d ∷ fs) i d found.0) ((bytes_eq-Decides _ _).0 found.1)

-- a slice from i on
pub rest_is : (i : ℕ) (xs : List ℕ) → take (length xs - i) (drop i xs) ≡ drop i xs
rest_is i xs = take_all _ _ (omega (arith, length-drop i xs))

-- a first part that reaches the limit or the end is the first part up to the limit
pub take_front : (limit : ℕ) (xs ys : List ℕ) → length xs ≤ limit → (length xs ≡ limit) ⊎ (ys ≡ []) → take limit (xs ++ ys) ≡ xs
take_front limit xs ys h (inl e) = rw (← e) (grind (arith, common_steps))
take_front limit xs ys h (inr e) = rw e (grind (arith, common_steps, take_all limit xs h))

-- n bytes of a buffer that went from what was left to the text
pub moves_on : (n : ℕ) (bs text got tail rest left after : List ℕ) → n ≤ length got → bs ≡ text ++ left → left ≡ take n got ++ rest → after ≡ text ++ take n (got ++ tail) → bs ≡ after ++ rest
moves_on n bs text got tail rest left after fits told gave took =
    let cut : take n (got ++ tail) ≡ take n got = rw take-append-le in
    rw (took, cut, append_assoc, ← gave) told
