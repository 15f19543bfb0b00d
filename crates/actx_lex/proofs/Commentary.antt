-- What stands between tokens begins no token, and ends at one place.
use Rattle.std.proofs.Common.{◌≡◌, ◌≢◌, inl, inr, ℕ, zero, suc, ◌+◌, ◌<◌, ◌≤◌, false, not, IsTrue, List, [], ◌∷◌, ◌++◌, length, get_or, take, drop, refl, sym, ◌∙◌, ap, subst, arith, lit<}
use Rattle.std.specs.List.{prefix_len}
use Rattle.std.proofs.lemmas.Bool.{both_ways, or_parts, or_from, cases_order, not-true, not-false, cond_both, false≢true}
use Rattle.std.proofs.lemmas.List.{append_assoc, length-append, length-take, get_or_at, get_or_append_left, get_or-append-add, take-append-drop, take_at, drop_at, drop_more}
use Rattle.actx_lex.specs.Characters.{is_line_end}
use Rattle.actx_lex.specs.Lexical.{line_comment, block_comment, has_line_end, begins_line_end}
use Rattle.actx_lex.specs.Lexeme.{Gap, blank, comment, IsGap, NoGap, is_inside_line, EndsAt, FirstEnd, no_end, first_end}
use Rattle.actx_lex.proofs.Classes.{is_blank}

-- the characters that end a block comment, and those before
ends_at : (cs rest : List ℕ) → EndsAt (cs ++ 42 ∷ 47 ∷ rest) (length cs)
ends_at cs rest = (get_or_at cs 42 (47 ∷ rest) 0 (length cs) refl, get_or-append-add cs (42 ∷ 47 ∷ rest) 1 0)

-- no end stands before the first
abbrev NoneInside : List ℕ → Type 0
NoneInside cs = (x y : List ℕ) → cs ++ 42 ∷ [] ≡ x ++ 42 ∷ 47 ∷ y → ⊥

within : (text : List ℕ) (i : ℕ) → 0 < get_or text i 0 → i < length text
within [] i h = absurd (omega arith)
within (c ∷ text) zero h = omega arith
within (c ∷ text) (suc i) h = let r = within text i h in omega arith

-- where an end stands, the text is cut there
end_cut : (text : List ℕ) (k : ℕ) → EndsAt text k → text ≡ take k text ++ 42 ∷ 47 ∷ drop (k + 2) text
end_cut text k e =
    let lt : k + 1 < length text = within text (k + 1) (let f = e.1 in omega arith) in
    let one = drop_more text k 0 (omega arith) in
    let two = drop_more text (k + 1) 0 lt in
    let same : k + 1 + 1 ≡ k + 2 = omega arith in
    sym (take-append-drop k text) ∙ ap (λ v. take k text ++ v) (one ∙ ap (λ v. get_or text k 0 ∷ v) two ∙ ap (λ i. get_or text k 0 ∷ get_or text (k + 1) 0 ∷ drop i text) same ∙ ap (λ v. v ∷ get_or text (k + 1) 0 ∷ drop (k + 2) text) e.0 ∙ ap (λ v. 42 ∷ v ∷ drop (k + 2) text) e.1)

none_inside : (text : List ℕ) (k : ℕ) → EndsAt text k → ((j : ℕ) → j < k → EndsAt text j → ⊥) → NoneInside (take k text)
none_inside text k e first x y f =
    let cut = end_cut text k e in
    let lt : k + 1 < length text = within text (k + 1) (let g = e.1 in omega arith) in
    let long : length (take k text) ≡ k = omega (arith, length-take k text) in
    let sizes = ap length f in
    let left = length-append (take k text) (42 ∷ []) in
    let right = length-append x (42 ∷ 47 ∷ y) in
    let j = length x in
    let low : j < k = omega arith in
    let whole : text ≡ (take k text ++ 42 ∷ []) ++ 47 ∷ drop (k + 2) text = cut ∙ sym (append_assoc (take k text) (42 ∷ []) (47 ∷ drop (k + 2) text)) in
    let again : text ≡ x ++ 42 ∷ 47 ∷ (y ++ 47 ∷ drop (k + 2) text) = whole ∙ ap (λ v. v ++ 47 ∷ drop (k + 2) text) f ∙ append_assoc x (42 ∷ 47 ∷ y) (47 ∷ drop (k + 2) text) in
    first j low (subst (λ v. EndsAt v j) (sym again) (ends_at x (y ++ 47 ∷ drop (k + 2) text)))

inside_none : (cs rest : List ℕ) (j : ℕ) → NoneInside cs → j < length cs → EndsAt (cs ++ 42 ∷ 47 ∷ rest) j → ⊥
inside_none cs rest j n lt e =
    let at : (i : ℕ) → i < length cs + 1 → get_or ((cs ++ 42 ∷ []) ++ 47 ∷ rest) i 0 ≡ get_or (cs ++ 42 ∷ []) i 0 = λ i h. get_or_append_left (cs ++ 42 ∷ []) (47 ∷ rest) 0 i (omega (arith, length-append cs (42 ∷ []))) in
    let regroup : (cs ++ 42 ∷ []) ++ 47 ∷ rest ≡ cs ++ 42 ∷ 47 ∷ rest = append_assoc cs (42 ∷ []) (47 ∷ rest) in
    let star : get_or (cs ++ 42 ∷ []) j 0 ≡ 42 = sym (at j (omega arith)) ∙ ap (λ v. get_or v j 0) regroup ∙ e.0 in
    let slash : get_or (cs ++ 42 ∷ []) (j + 1) 0 ≡ 47 = sym (at (j + 1) (omega arith)) ∙ ap (λ v. get_or v (j + 1) 0) regroup ∙ e.1 in
    n (take j (cs ++ 42 ∷ [])) (drop (j + 2) (cs ++ 42 ∷ [])) (end_cut (cs ++ 42 ∷ []) j (star, slash))

-- GAPS, AS THE CODE FINDS THEM
pub blank_gap : (text : List ℕ) → 0 < length text → IsTrue (is_blank (get_or text 0 0)) → IsGap text 1
blank_gap [] some h = absurd (omega arith)
blank_gap (c ∷ text) some h = record { fits = omega arith; gap = blank h }

two_first : (text : List ℕ) (b : ℕ) → 0 < b → get_or text 0 0 ≡ 47 → get_or text 1 0 ≡ b → text ≡ 47 ∷ b ∷ drop 2 text
two_first [] b h e f = absurd (omega arith)
two_first (a ∷ []) b h e f = absurd (omega arith)
two_first (a ∷ c ∷ text) b h e f = ap (λ v. v ∷ c ∷ text) e ∙ ap (λ v. 47 ∷ v ∷ text) f

run_inside : (text : List ℕ) → has_line_end (take (prefix_len is_inside_line text) text) ≡ false
run_inside [] = refl
run_inside (c ∷ text) =
    cond_both (not (is_line_end c)) (1 + prefix_len is_inside_line text) 0 (λ n. has_line_end (take n (c ∷ text)) ≡ false)
    (λ e. ap (λ n. has_line_end (take n (c ∷ text))) (one_more (prefix_len is_inside_line text)) ∙ or_from (is_line_end c) (has_line_end (take (prefix_len is_inside_line text) text)) (not-true (is_line_end c) e) (run_inside text))
    (λ _. refl)
  where
    one_more : (n : ℕ) → 1 + n ≡ suc n
    one_more n = omega arith

run_ends : (text : List ℕ) → IsTrue (begins_line_end (drop (prefix_len is_inside_line text) text))
run_ends [] = refl
run_ends (c ∷ text) =
    cond_both (not (is_line_end c)) (1 + prefix_len is_inside_line text) 0 (λ n. IsTrue (begins_line_end (drop n (c ∷ text))))
    (λ e. subst (λ n. IsTrue (begins_line_end (drop n (c ∷ text)))) (one_more (prefix_len is_inside_line text)) (run_ends text))
    (λ e. not-false (is_line_end c) e)
  where
    one_more : (n : ℕ) → suc n ≡ 1 + n
    one_more n = omega arith

take_two : (a b : ℕ) (rest : List ℕ) (n : ℕ) → take (n + 2) (a ∷ b ∷ rest) ≡ a ∷ b ∷ take n rest
take_two a b rest n = ap (λ i. take i (a ∷ b ∷ rest)) (two_more n)
  where
    two_more : (n : ℕ) → n + 2 ≡ suc (suc n)
    two_more n = omega arith

drop_two : (a b : ℕ) (rest : List ℕ) (n : ℕ) → drop (n + 2) (a ∷ b ∷ rest) ≡ drop n rest
drop_two a b rest n = ap (λ i. drop i (a ∷ b ∷ rest)) (two_more n)
  where
    two_more : (n : ℕ) → n + 2 ≡ suc (suc n)
    two_more n = omega arith

line_gap_of : (rest : List ℕ) (n : ℕ) → n ≡ prefix_len is_inside_line rest → n ≤ length rest → IsGap (47 ∷ 47 ∷ rest) (n + 2)
line_gap_of rest n e fits = record {
  fits = omega arith;
  gap = subst (λ v. Gap v (drop (n + 2) (47 ∷ 47 ∷ rest))) (sym (take_two 47 47 rest n)) (subst (Gap (47 ∷ 47 ∷ take n rest)) (sym (drop_two 47 47 rest n))
      (comment (line_comment (ap (λ i. has_line_end (take i rest)) e ∙ run_inside rest) (subst (λ i. IsTrue (begins_line_end (drop i rest))) (sym e) (run_ends rest)))));
}

pub line_gap : (text rest : List ℕ) (n : ℕ) → rest ≡ drop 2 text → get_or text 0 0 ≡ 47 → get_or text 1 0 ≡ 47 → n ≡ prefix_len is_inside_line rest → n ≤ length rest → IsGap text (n + 2)
line_gap text rest n d e f run fits = subst (λ v. IsGap v (n + 2)) (ap (λ v. 47 ∷ 47 ∷ v) d ∙ sym (two_first text 47 (lit< tt) e f)) (line_gap_of rest n run fits)

block_of : (rest : List ℕ) (k : ℕ) → EndsAt rest k → ((j : ℕ) → j < k → EndsAt rest j → ⊥) → IsGap (47 ∷ 42 ∷ rest) (k + 4)
block_of rest k e first =
    let lt : k + 1 < length rest = within rest (k + 1) (let f = e.1 in omega arith) in
    let cut = end_cut rest k e in
    let front : take (k + 4) (47 ∷ 42 ∷ rest) ≡ 47 ∷ 42 ∷ (take k rest ++ 42 ∷ 47 ∷ []) =
    ap (λ i. take i (47 ∷ 42 ∷ rest)) (two_more k) ∙ take_two 47 42 rest (k + 2)
    ∙ ap (λ v. 47 ∷ 42 ∷ v) (ap (take (k + 2)) (cut ∙ sym (append_assoc (take k rest) (42 ∷ 47 ∷ []) (drop (k + 2) rest))) ∙ take_at (take k rest ++ 42 ∷ 47 ∷ []) (drop (k + 2) rest) (k + 2) (omega (arith, length-append (take k rest) (42 ∷ 47 ∷ []), length-take k rest))) in
    record {
      fits = omega arith;
      gap = subst (λ v. Gap v (drop (k + 4) (47 ∷ 42 ∷ rest))) (sym front) (comment (block_comment (take k rest) (none_inside rest k e first)));
    }
  where
    two_more : (k : ℕ) → k + 4 ≡ k + 2 + 2
    two_more k = omega arith

block_from : (rest : List ℕ) (n : ℕ) → 0 < n → FirstEnd rest n → IsGap (47 ∷ 42 ∷ rest) n
block_from rest n some (no_end h) = absurd (omega arith)
block_from rest n some (first_end k e first) = block_of rest k e first

pub block_gap : (text rest : List ℕ) (n : ℕ) → rest ≡ drop 2 text → get_or text 0 0 ≡ 47 → get_or text 1 0 ≡ 42 → 0 < n → FirstEnd rest n → IsGap text n
block_gap text rest n d e f some h = subst (λ v. IsGap v n) (ap (λ v. 47 ∷ 42 ∷ v) d ∙ sym (two_first text 42 (lit< tt) e f)) (block_from rest n some h)

-- how a gap begins
pub data GapStart (text : List ℕ) : Type 0 where
  with_blank : IsTrue (is_blank (get_or text 0 0)) → GapStart text
  with_line : get_or text 0 0 ≡ 47 → get_or text 1 0 ≡ 47 → GapStart text
  with_block : get_or text 0 0 ≡ 47 → get_or text 1 0 ≡ 42 → (k : ℕ) → EndsAt (drop 2 text) k → GapStart text

pub gap_start : {w rest : List ℕ} → Gap w rest → GapStart (w ++ rest)
gap_start (blank h) = with_blank h
gap_start (comment (line_comment h e)) = with_line refl refl
gap_start {rest} (comment (block_comment cs n)) = with_block refl refl (length cs) (subst (λ v. EndsAt v (length cs)) (sym (append_assoc cs (42 ∷ 47 ∷ []) rest)) (ends_at cs rest))

pub no_gap : (text : List ℕ) → (GapStart text → ⊥) → NoGap text
no_gap text n w rest e g = n (subst GapStart (sym e) (gap_start g))

pub other_start : (text : List ℕ) → is_blank (get_or text 0 0) ≡ false → get_or text 0 0 ≢ 47 → GapStart text → ⊥
other_start text b n (with_blank h) = both_ways (is_blank (get_or text 0 0)) b h
other_start text b n (with_line e f) = n e
other_start text b n (with_block e f k h) = n e

pub slash_start : (text : List ℕ) → get_or text 0 0 ≡ 47 → get_or text 1 0 ≢ 47 → get_or text 1 0 ≢ 42 → GapStart text → ⊥
slash_start text e a b (with_blank h) = both_ways (is_blank (get_or text 0 0)) (ap is_blank e) h
slash_start text e a b (with_line f g) = a g
slash_start text e a b (with_block f g k h) = b g

pub open_start : (text rest : List ℕ) (n : ℕ) → rest ≡ drop 2 text → get_or text 0 0 ≡ 47 → get_or text 1 0 ≡ 42 → n ≡ 0 → FirstEnd rest n → GapStart text → ⊥
open_start text rest n d e f z (first_end k g h) s = omega arith
open_start text rest n d e f z (no_end none) (with_blank h) = both_ways (is_blank (get_or text 0 0)) (ap is_blank e) h
open_start text rest n d e f z (no_end none) (with_line g h) = omega arith
open_start text rest n d e f z (no_end none) (with_block g h k i) = none k (subst (λ v. EndsAt v k) (sym d) i)

-- ONE GAP
pub gap_some : {w rest : List ℕ} → Gap w rest → 0 < length w
gap_some (blank h) = lit< tt
gap_some (comment (line_comment h e)) = omega arith
gap_some (comment (block_comment cs n)) = omega arith

lines_once : (cs ds x y : List ℕ) → has_line_end cs ≡ false → has_line_end ds ≡ false → IsTrue (begins_line_end x) → IsTrue (begins_line_end y) → cs ++ x ≡ ds ++ y → (cs ≡ ds) × (x ≡ y)
lines_once [] [] x y a b h g e = (refl, e)
lines_once [] (d ∷ ds) x y a b h g e =
    let f : IsTrue (is_line_end d) = subst (λ v. IsTrue (begins_line_end v)) e h in
    absurd (both_ways (is_line_end d) (or_parts (is_line_end d) (has_line_end ds) b).0 f)
lines_once (c ∷ cs) [] x y a b h g e =
    let f : IsTrue (is_line_end c) = subst (λ v. IsTrue (begins_line_end v)) (sym e) g in
    absurd (both_ways (is_line_end c) (or_parts (is_line_end c) (has_line_end cs) a).0 f)
lines_once (c ∷ cs) (d ∷ ds) x y a b h g e =
    let r = lines_once cs ds x y (or_parts (is_line_end c) (has_line_end cs) a).1 (or_parts (is_line_end d) (has_line_end ds) b).1 h g (ap (drop 1) e) in
    let f : c ≡ d = ap (λ v. get_or v 0 0) e in
    let z = r.0 in (cc, r.1)

same_cut : (w v x y : List ℕ) → length w ≡ length v → w ++ x ≡ v ++ y → (w ≡ v) × (x ≡ y)
same_cut w v x y e f = (
  sym (take_at w x (length w) refl) ∙ ap (take (length w)) f ∙ take_at v y (length w) (sym e),
  sym (drop_at w x (length w) refl) ∙ ap (drop (length w)) f ∙ drop_at v y (length w) (sym e),
)

blocks_once : (cs ds x y : List ℕ) → NoneInside cs → NoneInside ds → cs ++ 42 ∷ 47 ∷ x ≡ ds ++ 42 ∷ 47 ∷ y → (cs ≡ ds) × (x ≡ y)
blocks_once cs ds x y a b e =
    elim (cases_order (length cs) (length ds)) [
      | inl same ↦ let r = same_cut cs ds (42 ∷ 47 ∷ x) (42 ∷ 47 ∷ y) same e in (r.0, ap (drop 2) r.1)
      | inr o ↦ elim o [
        | inl lt ↦ absurd (inside_none ds y (length cs) b lt (subst (λ v. EndsAt v (length cs)) e (ends_at cs x)))
        | inr gt ↦ absurd (inside_none cs x (length ds) a gt (subst (λ v. EndsAt v (length ds)) (sym e) (ends_at ds y)))
      ]
    ]

-- a gap by its form
pub data Form (w rest : List ℕ) : Type 0 where
  of_blank : (c : ℕ) → w ≡ c ∷ [] → IsTrue (is_blank c) → Form w rest
  of_line : (cs : List ℕ) → w ≡ 47 ∷ 47 ∷ cs → has_line_end cs ≡ false → IsTrue (begins_line_end rest) → Form w rest
  of_block : (cs : List ℕ) → w ≡ 47 ∷ 42 ∷ (cs ++ 42 ∷ 47 ∷ []) → NoneInside cs → Form w rest

form_of : {w rest : List ℕ} → Gap w rest → Form w rest
form_of (blank {c} h) = of_blank c refl h
form_of (comment (line_comment {cs} h e)) = of_line cs refl h e
form_of (comment (block_comment cs n)) = of_block cs refl n

clash : (a b : ℕ) → a ≡ 47 → b ≡ 42 → a ≡ b → ⊥
clash a b e f g = omega arith

forms_once : (w v x y : List ℕ) → w ++ x ≡ v ++ y → Form w x → Form v y → (w ≡ v) × (x ≡ y)
forms_once w v x y e (of_blank c p h) (of_blank d q g) =
    same_cut w v x y (ap length p ∙ sym (ap length q)) e
forms_once w v x y e (of_blank c p h) (of_line ds q g m) =
    let f : c ≡ 47 = ap (λ u. get_or u 0 0) (ap (λ u. u ++ x) (sym p) ∙ e ∙ ap (λ u. u ++ y) q) in absurd (false≢true (subst (λ u. IsTrue (is_blank u)) f h))
forms_once w v x y e (of_blank c p h) (of_block ds q g) =
    let f : c ≡ 47 = ap (λ u. get_or u 0 0) (ap (λ u. u ++ x) (sym p) ∙ e ∙ ap (λ u. u ++ y) q) in absurd (false≢true (subst (λ u. IsTrue (is_blank u)) f h))
forms_once w v x y e (of_line cs p h l) (of_blank d q g) =
    let f : d ≡ 47 = ap (λ u. get_or u 0 0) (ap (λ u. u ++ y) (sym q) ∙ sym e ∙ ap (λ u. u ++ x) p) in absurd (false≢true (subst (λ u. IsTrue (is_blank u)) f g))
forms_once w v x y e (of_line cs p h l) (of_line ds q g m) =
    let r = lines_once cs ds x y h g l m (ap (drop 2) (ap (λ u. u ++ x) (sym p) ∙ e ∙ ap (λ u. u ++ y) q)) in
    (p ∙ ap (λ u. 47 ∷ 47 ∷ u) r.0 ∙ sym q, r.1)
forms_once w v x y e (of_line cs p h l) (of_block ds q g) =
    absurd (clash 47 42 refl refl (ap (λ u. get_or u 1 0) (ap (λ u. u ++ x) (sym p) ∙ e ∙ ap (λ u. u ++ y) q)))
forms_once w v x y e (of_block cs p h) (of_blank d q g) =
    let f : d ≡ 47 = ap (λ u. get_or u 0 0) (ap (λ u. u ++ y) (sym q) ∙ sym e ∙ ap (λ u. u ++ x) p) in absurd (false≢true (subst (λ u. IsTrue (is_blank u)) f g))
forms_once w v x y e (of_block cs p h) (of_line ds q g m) =
    absurd (clash 47 42 refl refl (sym (ap (λ u. get_or u 1 0) (ap (λ u. u ++ x) (sym p) ∙ e ∙ ap (λ u. u ++ y) q))))
forms_once w v x y e (of_block cs p h) (of_block ds q g) =
    let f : cs ++ 42 ∷ 47 ∷ x ≡ ds ++ 42 ∷ 47 ∷ y = sym (append_assoc cs (42 ∷ 47 ∷ []) x) ∙ ap (drop 2) (ap (λ u. u ++ x) (sym p) ∙ e ∙ ap (λ u. u ++ y) q) ∙ append_assoc ds (42 ∷ 47 ∷ []) y in
    let r = blocks_once cs ds x y h g f in
    (p ∙ ap (λ u. 47 ∷ 42 ∷ (u ++ 42 ∷ 47 ∷ [])) r.0 ∙ sym q, r.1)

pub one_gap : (w v x y : List ℕ) → w ++ x ≡ v ++ y → Gap w x → Gap v y → (w ≡ v) × (x ≡ y)
one_gap w v x y e a b = forms_once w v x y e (form_of a) (form_of b)
