-- Bytes of a text at which a character begins, as its tokens do.
use Rattle.std.proofs.Common.{◌≡◌, ℕ, zero, suc, ◌+◌, ◌≤◌, ◌<◌, List, [], ◌∷◌, ◌++◌, length, take, Bool, true, false, refl, sym, ◌∙◌, ap, subst, append_assoc, ⊎_elim, arith}
use Rattle.std.specs.Prelude.{◌&&◌}
use Rattle.std.specs.Str.{encode_utf8_all, all_scalars}
use Rattle.std.proofs.Math.Utf8.{scalar}
use Rattle.std.proofs.lemmas.Bool.{cases_lt, and_parts}
use Rattle.std.proofs.lemmas.List.{length-append, take_all}
use Rattle.std.proofs.lemmas.Str.{encodes-append}
use Rattle.std.proofs.Math.Seq.{take-append_seam}
use Rattle.actx_lex.proofs.Sizes.{size_append}
use Rattle.actx_lex.specs.declared.token.Token.{Token}
use Rattle.actx_lex.specs.Lexical.{size, Place, start, passed, behind, Reads, here, blank, comment, token, IsText, NotText, Tokens, Stuck}
use Rattle.actx_top.specs.Refusals.{byte_of, Cause, not_utf8, bad_token, bad_number, is_unexpected, is_too_deep, are_too_many, not_declared, bound_twice, is_reserved, is_misplaced, not_yet, Refuses, RefusedAt, too_long, within}
use Rattle.actx_lex.specs.Places.{IsPlace}

-- a character begins at the byte, or the text ends there
pub record IsBoundary (text : List ℕ) (at : ℕ) : Type 0 where
  pub within : at ≤ length text
  pub chars : List ℕ
  pub front : IsText (take at text) chars

-- THE CHARACTERS IN FRONT
record Front (cs left : List ℕ) (before behind : ℕ) : Type 0 where
  pub front : List ℕ
  pub is : cs ≡ front ++ left
  pub at : behind ≡ before + size front

more_front : (w cs left : List ℕ) (before behind : ℕ) → Front cs left (before + size w) behind → Front (w ++ cs) left before behind
more_front w cs left before behind f = record {
  front = w ++ f.front;
  is = ap (λ z. w ++ z) f.is ∙ sym (append_assoc w f.front left);
  at = let e = f.at in omega (arith, size_append w f.front);
}

reads_front : {p r : Place} {cs left : List ℕ} {ts : List Token} → Reads p cs ts r left → Front cs left p.at r.at
reads_front {p} {r} {cs} {left} {ts} here = record { front = []; is = refl; at = omega arith }
reads_front (blank {p = p} {r = r} {c = c} {cs = cs} {left = left} s more) = more_front (c ∷ []) cs left p.at r.at (reads_front more)
reads_front (comment {p = p} {r = r} {w = w} {cs = cs} {left = left} s more) = more_front w cs left p.at r.at (reads_front more)
reads_front (token {p = p} {r = r} {k = k} {w = w} {cs = cs} {left = left} t l m more) = more_front w cs left p.at r.at (reads_front more)

record Within (cs : List ℕ) (before at : ℕ) : Type 0 where
  pub front : List ℕ
  pub rest : List ℕ
  pub is : cs ≡ front ++ rest
  pub place : at ≡ before + size front

more_within : (w cs : List ℕ) (before at : ℕ) → Within cs (before + size w) at → Within (w ++ cs) before at
more_within w cs before at f = record {
  front = w ++ f.front;
  rest = f.rest;
  is = ap (λ z. w ++ z) f.is ∙ sym (append_assoc w f.front f.rest);
  place = let e = f.place in omega (arith, size_append w f.front);
}

token_within : {p r : Place} {cs left : List ℕ} {ts : List Token} (end i : ℕ) → Reads p cs ts r left → i < length ts → Within cs p.at (byte_of ts end i)
token_within end i here h = absurd (omega (arith, h))
token_within end i (blank {p = p} {c = c} {cs = cs} {ts = ts} s more) h = more_within (c ∷ []) cs p.at (byte_of ts end i) (token_within end i more h)
token_within end i (comment {p = p} {w = w} {cs = cs} {ts = ts} s more) h = more_within w cs p.at (byte_of ts end i) (token_within end i more h)
token_within end zero (token {p = p} {w = w} {cs = cs} t l m more) h = record { front = []; rest = w ++ cs; is = refl; place = omega arith }
token_within end (suc i) (token {p = p} {w = w} {cs = cs} {ts = ts} t l m more) h = more_within w cs p.at (byte_of ts end i) (token_within end i more (omega (arith, h)))

-- CHARACTERS OF A FRONT
scalars_front : (xs ys : List ℕ) → all_scalars (xs ++ ys) ≡ true → all_scalars xs ≡ true
scalars_front [] ys h = refl
scalars_front (x ∷ xs) ys h =
    let p = and_parts (scalar x) (all_scalars (xs ++ ys)) h in
    ap (λ b. b && all_scalars xs) p.0 ∙ scalars_front xs ys p.1

pub front_boundary : (text chars front rest : List ℕ) (at : ℕ) → IsText text chars → chars ≡ front ++ rest → at ≡ size front → IsBoundary text at
front_boundary text chars front rest at t e h =
    let whole : text ≡ encode_utf8_all front ++ encode_utf8_all rest = t.encoded ∙ ap encode_utf8_all e ∙ encodes-append front rest in
    let long = ap length whole in
    record {
      within = omega (arith, long, length-append (encode_utf8_all front) (encode_utf8_all rest), h);
      chars = front;
      front = record {
        scalars = scalars_front front rest (sym (ap all_scalars e) ∙ t.scalars);
        encoded = ap (λ n. take n text) h ∙ ap (λ z. take (size front) z) whole ∙ take-append_seam (encode_utf8_all front) (encode_utf8_all rest);
      };
    }

-- THE BYTES OF REFUSALS
pub text_begins : (text : List ℕ) → IsBoundary text 0
text_begins text = record { within = omega arith; chars = []; front = record { scalars = refl; encoded = refl } }

text_ends : (text chars : List ℕ) (at : ℕ) → IsText text chars → at ≡ length text → IsBoundary text at
text_ends text chars at t e = record {
  within = omega (arith, e);
  chars = chars;
  front = record { scalars = t.scalars; encoded = ap (λ n. take n text) e ∙ take_all (length text) text (omega arith) ∙ t.encoded };
}

-- where a token begins, or the text ends
pub byte_past : (ts : List Token) (end i : ℕ) → length ts ≤ i → byte_of ts end i ≡ end
byte_past [] end i h = refl
byte_past (t ∷ ts) end zero h = absurd (omega (arith, h))
byte_past (t ∷ ts) end (suc i) h = byte_past ts end i (omega (arith, h))

pub token_boundary : (text : List ℕ) (ts : List Token) (i : ℕ) → Tokens text ts → IsBoundary text (byte_of ts (length text) i)
token_boundary text ts i t =
    ⊎_elim
    (λ lt. let w = token_within (length text) i t.reads lt in
    let place = w.place in
    front_boundary text t.chars w.front w.rest (byte_of ts (length text) i) t.is w.is (omega (arith, place)))
    (λ le. text_ends text t.chars (byte_of ts (length text) i) t.is (byte_past ts (length text) i le))
    (cases_lt i (length ts))

pub stuck_boundary : (text : List ℕ) (number : Bool) (at : ℕ) → Stuck text number at → IsBoundary text at
stuck_boundary text number at s =
    let f = reads_front s.reads in
    let place = f.at in
    let same = s.at in
    front_boundary text s.chars f.front s.left at s.is f.is (omega (arith, place, same))

pub not_text_boundary : (text : List ℕ) (at : ℕ) → NotText text at → IsBoundary text at
not_text_boundary text at h = record { within = h.within; chars = h.chars; front = h.front }

cause_boundary : (text : List ℕ) (number at : ℕ) → Cause text number at → IsBoundary text at
cause_boundary text number at c = boundary c
  where
    of_tokens : {at : ℕ} (ts : List Token) (i : ℕ) → Tokens text ts → at ≡ byte_of ts (length text) i → IsBoundary text at
    of_tokens {at} ts i t e = subst (λ z. IsBoundary text z) (sym e) (token_boundary text ts i t)

    boundary : {number at : ℕ} → Cause text number at → IsBoundary text at
    boundary (not_utf8 at h) = not_text_boundary text at h
    boundary (bad_token at h) = stuck_boundary text false at h
    boundary (bad_number at h) = stuck_boundary text true at h
    boundary (is_unexpected at h) = of_tokens h.tokens h.token h.cut h.place
    boundary (is_too_deep at h) = of_tokens h.tokens h.token h.cut h.place
    boundary (are_too_many at h) = of_tokens h.tokens h.token h.cut h.place
    boundary (not_declared at h) = of_tokens h.tokens h.token h.cut h.place
    boundary (bound_twice at h) = of_tokens h.tokens h.token h.cut h.place
    boundary (is_reserved at h) = of_tokens h.tokens h.token h.cut h.place
    boundary (is_misplaced at h) = of_tokens h.tokens h.token h.cut h.place
    boundary (not_yet at h) = of_tokens h.accepted.tokens h.token h.accepted.cut h.place

pub refusal_boundary : (text : List ℕ) (number at : ℕ) → Refuses text number at → IsBoundary text at
refusal_boundary text number at r = of_refusal r
  where
    of_refusal : {number at : ℕ} → Refuses text number at → IsBoundary text at
    of_refusal (too_long l) = text_begins text
    of_refusal (within {number} {at} short c) = cause_boundary text number at c

-- what the place of a refusal's byte needs
pub refusal_within : (text : List ℕ) (number at : ℕ) → Refuses text number at → at ≤ length text
refusal_within text number at r = (refusal_boundary text number at r).within

pub refusal_front : (text : List ℕ) (number at : ℕ) → Refuses text number at → (cs : List ℕ) × IsText (take at text) cs
refusal_front text number at r = let b = refusal_boundary text number at r in (b.chars, b.front)

pub refused_at : (text : List ℕ) (number at line column : ℕ) → Refuses text number at → IsPlace text at line column → RefusedAt text number line column
refused_at text number at line column r p = record { at = at; refuses = r; place = p }
