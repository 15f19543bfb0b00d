-- The text of tokens, one after another.
use Rattle.std.proofs.Common.{◌≡◌, ℕ, ◌+◌, ◌<◌, inl, inr, Bool, false, cond, List, [], ◌∷◌, ◌++◌, length, get_or, drop, refl, sym, ◌∙◌, ap, subst, arith, eqb, encode_utf8, flat_map, Result, Ok, Err}
use Rattle.std.specs.Prelude.{IfOk, OnOk, is_ok, if◌then◌else◌}
use Rattle.std.specs.Str.{encode_utf8_all}
use Rattle.std.proofs.lemmas.Bool.{cases_eq, eq-eqb, ne_eqb, cond-false}
use Rattle.std.proofs.lemmas.List.{drop_more, length-drop, append_assoc, append-nil}
use Rattle.std.proofs.lemmas.Str.{encodes-append}
use Rattle.actx_grammar.specs.declared.token.TokenKind.{TokenKind}
use Rattle.actx_emit.specs.Layout.{layout, token_text, gap_after}

-- the text of what is left, which is nothing where no token is
abbrev pub left : List TokenKind → List ℕ
left [] = []
left (t ∷ ts) = layout (t ∷ ts)

left_one : (t : TokenKind) (ts : List TokenKind) → left (t ∷ ts) ≡ token_text t ++ cond (eqb (length ts) 0) 10 (gap_after t) ∷ left ts
left_one t [] = refl
left_one t (u ∷ ts) =
    let apart : eqb (length (u ∷ ts)) 0 ≡ false = ne_eqb (length (u ∷ ts)) 0 (λ e. omega arith) in
    ap (λ g. token_text t ++ g ∷ left (u ∷ ts)) (sym (cond-false (eqb (length (u ∷ ts)) 0) 10 (gap_after t) apart))

last_is : (ts : List TokenKind) (i : ℕ) → i < length ts → eqb (length (drop (i + 1) ts)) 0 ≡ eqb (i + 1) (length ts)
last_is ts i lt =
    let long = length-drop (i + 1) ts in
    elim (cases_eq (i + 1) (length ts)) [
      | inl e ↦ eq-eqb (length (drop (i + 1) ts)) 0 (omega arith) ∙ sym (eq-eqb (i + 1) (length ts) e)
      | inr n ↦ ne_eqb (length (drop (i + 1) ts)) 0 (λ e. n (omega arith)) ∙ sym (ne_eqb (i + 1) (length ts) n)
    ]

-- one token more, with what stands behind it
left_more : (ts : List TokenKind) (i : ℕ) (t : TokenKind) → i < length ts → t ≡ get_or ts i t → left (drop i ts) ≡ token_text t ++ cond (eqb (i + 1) (length ts)) 10 (gap_after t) ∷ left (drop (i + 1) ts)
left_more ts i t lt at =
    ap left (drop_more ts i t lt ∙ ap (λ u. u ∷ drop (i + 1) ts) (sym at))
    ∙ left_one t (drop (i + 1) ts)
    ∙ ap (λ b. token_text t ++ cond b 10 (gap_after t) ∷ left (drop (i + 1) ts)) (last_is ts i lt)

-- the same with what the code pushes
pub left_pushed : (whole done mid text : List ℕ) (ts : List TokenKind) (i g : ℕ) (t : TokenKind) → i < length ts → t ≡ get_or ts i t → done ++ encode_utf8_all (left (drop i ts)) ≡ whole → mid ≡ done ++ encode_utf8_all (token_text t) → g ≡ cond (eqb (i + 1) (length ts)) 10 (gap_after t) → text ≡ mid ++ encode_utf8 g → text ++ encode_utf8_all (left (drop (i + 1) ts)) ≡ whole
left_pushed whole done mid text ts i g t lt at e m gap all =
    let rest = encode_utf8_all (left (drop (i + 1) ts)) in
    let h = cond (eqb (i + 1) (length ts)) 10 (gap_after t) in
    let next : encode_utf8_all (left (drop i ts)) ≡ encode_utf8_all (token_text t) ++ (encode_utf8 h ++ rest) = ap encode_utf8_all (left_more ts i t lt at) ∙ encodes-append (token_text t) (h ∷ left (drop (i + 1) ts)) in
    ap (λ v. v ++ rest) all
    ∙ append_assoc mid (encode_utf8 g) rest
    ∙ ap (λ v. v ++ (encode_utf8 g ++ rest)) m
    ∙ append_assoc done (encode_utf8_all (token_text t)) (encode_utf8 g ++ rest)
    ∙ ap (λ v. done ++ (encode_utf8_all (token_text t) ++ (encode_utf8 v ++ rest))) gap
    ∙ ap (λ v. done ++ v) (sym next)
    ∙ e

-- IN A TOKEN
-- a character more, and the text of a unit more
pub char_pushed : (done start : List ℕ) (xs text : List ℕ) (c : ℕ) → done ≡ start ++ encode_utf8_all xs → text ≡ done ++ encode_utf8 c → text ≡ start ++ encode_utf8_all (xs ++ c ∷ [])
char_pushed done start xs text c e h =
    h ∙ ap (λ v. v ++ encode_utf8 c) e
    ∙ append_assoc start (encode_utf8_all xs) (encode_utf8 c)
    ∙ ap (λ v. start ++ (encode_utf8_all xs ++ v)) (sym (append-nil (encode_utf8 c)))
    ∙ ap (λ v. start ++ v) (sym (encodes-append xs (c ∷ [])))

flat_map_last : (f : ℕ → List ℕ) (xs : List ℕ) (x : ℕ) → flat_map f (xs ++ x ∷ []) ≡ flat_map f xs ++ f x
flat_map_last f [] x = append-nil (f x)
flat_map_last f (y ∷ xs) x = ap (λ v. f y ++ v) (flat_map_last f xs x) ∙ sym (append_assoc (f y) (flat_map f xs) (f x))

pub unit_pushed : (f : ℕ → List ℕ) (done start : List ℕ) (xs text : List ℕ) (x : ℕ) → done ≡ start ++ encode_utf8_all (flat_map f xs) → text ≡ done ++ encode_utf8_all (f x) → text ≡ start ++ encode_utf8_all (flat_map f (xs ++ x ∷ []))
unit_pushed f done start xs text x e h =
    h ∙ ap (λ v. v ++ encode_utf8_all (f x)) e
    ∙ append_assoc start (encode_utf8_all (flat_map f xs)) (encode_utf8_all (f x))
    ∙ ap (λ v. start ++ v) (sym (ap encode_utf8_all (flat_map_last f xs x) ∙ encodes-append (flat_map f xs) (f x)))

-- between quotes
pub quoted_pushed : (start one two three us : List ℕ) → one ≡ start ++ encode_utf8 34 → two ≡ one ++ encode_utf8_all us → three ≡ two ++ encode_utf8 34 → three ≡ start ++ encode_utf8_all (34 ∷ (us ++ 34 ∷ []))
quoted_pushed start one two three us a b c =
    let q = encode_utf8 34 in
    let w = encode_utf8_all us in
    let groups : ((start ++ q) ++ w) ++ q ≡ start ++ (q ++ (w ++ q)) = simp append_assoc in
    c ∙ ap (λ v. v ++ q) (b ∙ ap (λ v. v ++ w) a) ∙ groups
    ∙ ap (λ v. start ++ (q ++ (w ++ v))) (sym (append-nil q))
    ∙ ap (λ v. start ++ (q ++ v)) (sym (encodes-append us (34 ∷ [])))

-- what holds on an Ok, carried on
pub on_ok : {T E : Type 0} (P Q : Type 0) (r : Result T E) → (P → Q) → OnOk r P → OnOk r Q
on_ok P Q (Ok t) f h = f h
on_ok P Q (Err e) f h = tt

-- what is so where a call was Ok
pub told_ok : {T E : Type 0} (r : Result T E) (x a b : List ℕ) → x ≡ (if is_ok r then a else b) → OnOk r (x ≡ a)
told_ok (Ok t) x a b h = h
told_ok (Err e) x a b h = tt

pub if_ok : {T E : Type 0} (P Q : T → Type 0) (r : Result T E) → ((v : T) → P v → Q v) → IfOk r P → IfOk r Q
if_ok P Q (Ok t) f h = f t h
if_ok P Q (Err e) f h = tt
