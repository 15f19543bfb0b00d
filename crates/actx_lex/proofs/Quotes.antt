-- Texts in quotes: each piece that the code reads stands between quotes, and where it reads none no text goes on.
use Rattle.std.proofs.Common.{◌≡◌, ◌≢◌, ℕ, zero, suc, ◌+◌, ◌<◌, ◌≤◌, Bool, true, false, not, cond, ◌&&◌, ◌||◌, List, [], ◌∷◌, ◌++◌, Option, Some, None, length, get_or, take, drop, refl, sym, ◌∙◌, ap, subst, arith, IsTrue, eqb, ltb, leb}
use Rattle.std.specs.List.{prefix_len, list_all}
use Rattle.std.proofs.lemmas.Bool.{cond_both, cond-false, or_parts, and_parts, eqb-true, eqb-false, leb-true, not-true}
use Rattle.std.proofs.lemmas.List.{append_assoc, length-append, length-take, take-append-drop, drop_at, take_more}
use Rattle.std.proofs.lemmas.List.Sums.{AllPass-from_list_all, prefix_len-le-length}
use Rattle.actx_grammar.specs.Words.{units_of}
use Rattle.actx_lex.specs.declared.escapes.Piece.{Piece}
use Rattle.actx_lex.specs.Characters.{AllPass, is_line_end, is_digit, is_hex, hex_on, single_escape, is_escaped, begins_digit, Inside, itself, single, zero, two_hex, four_hex, braced_hex, line_end, crlf}
use Rattle.actx_lex.specs.Pieces.{hex_number, piece, by_number, fixed, braced, escape, piece_of, units_in}
use Rattle.actx_lex.proofs.Hexadecimals.{hex_small}
use Rattle.actx_lex.proofs.Insides.{Run, ended, on, small_units}

-- a piece of a text fits, and stands before what goes on between quotes
pub record Sound (q : ℕ) (text : List ℕ) (p : Piece) : Type 0 where
  pub some : 0 < p.len
  pub fits : p.len ≤ length text
  pub before : (cs us x : List ℕ) → drop p.len text ≡ cs ++ q ∷ x → Inside q cs us → Inside q (take p.len text ++ cs) (units_in p.code ++ us)

abbrev IfSound : ℕ → List ℕ → Option Piece → Type 0
IfSound q text None = Unit {0}
IfSound q text (Some p) = Sound q text p

number_parts : (w : List ℕ) → (list_all is_hex w && leb (hex_on 0 w) 1114111) ≡ true → AllPass is_hex w × (hex_on 0 w ≤ 1114111)
number_parts w e =
    let p = and_parts (list_all is_hex w) (leb (hex_on 0 w) 1114111) e in
    (AllPass-from_list_all is_hex w p.0, leb-true (hex_on 0 w) 1114111 p.1)

-- an escape by a number, where the digits are w
by_number_sound : (q : ℕ) (text w : List ℕ) (n : ℕ) → (AllPass is_hex w → hex_on 0 w ≤ 1114111 → Sound q text (record { len = n; code = Some (hex_on 0 w) })) → IfSound q text (by_number n (hex_number w))
by_number_sound q text w n f =
    cond_both (list_all is_hex w && leb (hex_on 0 w) 1114111) (Some (hex_on 0 w)) None (λ o. IfSound q text (by_number n o))
    (λ e. let p = number_parts w e in f p.0 p.1) (λ _. tt)

two_sound : (q : ℕ) (rest : List ℕ) → IfSound q (92 ∷ 120 ∷ rest) (fixed rest 2)
two_sound q [] = tt
two_sound q (a ∷ []) = tt
two_sound q (a ∷ b ∷ rest) =
    cond_both (ltb (length (a ∷ b ∷ rest)) 2) None _ (IfSound q (92 ∷ 120 ∷ a ∷ b ∷ rest)) (λ _. tt) (λ _.
    by_number_sound q (92 ∷ 120 ∷ a ∷ b ∷ rest) (a ∷ b ∷ []) 4 (λ h l. record {
      some = omega arith;
      fits = omega arith;
      before = λ cs us x e i. subst (λ ws. Inside q (92 ∷ 120 ∷ a ∷ b ∷ cs) (ws ++ us)) (sym (small_units (hex_on 0 (a ∷ b ∷ [])) (hex_small (a ∷ b ∷ []) 2 refl (omega arith) h))) (two_hex h i);
    }))

four_sound : (q : ℕ) (rest : List ℕ) → IfSound q (92 ∷ 117 ∷ rest) (fixed rest 4)
four_sound q [] = tt
four_sound q (a ∷ []) = tt
four_sound q (a ∷ b ∷ []) = tt
four_sound q (a ∷ b ∷ c ∷ []) = tt
four_sound q (a ∷ b ∷ c ∷ d ∷ rest) =
    cond_both (ltb (length (a ∷ b ∷ c ∷ d ∷ rest)) 4) None _ (IfSound q (92 ∷ 117 ∷ a ∷ b ∷ c ∷ d ∷ rest)) (λ _. tt) (λ _.
    by_number_sound q (92 ∷ 117 ∷ a ∷ b ∷ c ∷ d ∷ rest) (a ∷ b ∷ c ∷ d ∷ []) 6 (λ h l. record {
      some = omega arith;
      fits = omega arith;
      before = λ cs us x e i. subst (λ ws. Inside q (92 ∷ 117 ∷ a ∷ b ∷ c ∷ d ∷ cs) (ws ++ us)) (sym (small_units (hex_on 0 (a ∷ b ∷ c ∷ d ∷ [])) (hex_small (a ∷ b ∷ c ∷ d ∷ []) 4 refl (omega arith) h))) (four_hex h i);
    }))

-- behind a brace: the digits, the brace that ends them, and what follows
past_end : (rest : List ℕ) (n : ℕ) → n ≤ length rest → get_or rest n 0 ≡ 125 → n < length rest
past_end [] n l e = absurd (omega arith)
past_end (c ∷ rest) zero l e = omega arith
past_end (c ∷ rest) (suc n) l e = let m = past_end rest n (omega arith) e in omega arith

braced_front : (rest : List ℕ) (n : ℕ) → n < length rest → get_or rest n 0 ≡ 125 → take (n + 4) (92 ∷ 117 ∷ 123 ∷ rest) ≡ 92 ∷ 117 ∷ 123 ∷ (take n rest ++ 125 ∷ [])
braced_front rest n lt e =
    ap (λ i. take i (92 ∷ 117 ∷ 123 ∷ rest)) (more n)
    ∙ ap (λ v. 92 ∷ 117 ∷ 123 ∷ v) (take_more rest n 0 lt ∙ ap (λ v. take n rest ++ v ∷ []) e)
  where
    more : (n : ℕ) → n + 4 ≡ suc (suc (suc (n + 1)))
    more n = omega arith

split_first : (w : List ℕ) → 0 < length w → w ≡ get_or w 0 0 ∷ drop 1 w
split_first [] h = absurd (omega arith)
split_first (c ∷ w) h = refl

braced_inside : (q : ℕ) (w : List ℕ) {cs us : List ℕ} → 0 < length w → AllPass is_hex w → hex_on 0 w ≤ 1114111 → Inside q cs us → Inside q ((92 ∷ 117 ∷ 123 ∷ (w ++ 125 ∷ [])) ++ cs) (units_of (hex_on 0 w) ++ us)
braced_inside q [] h a l i = absurd (omega arith)
braced_inside q (c ∷ w) {cs} {us} h a l i = subst (λ v. Inside q (92 ∷ 117 ∷ 123 ∷ c ∷ v) (units_of (hex_on 0 (c ∷ w)) ++ us)) (sym (append_assoc w (125 ∷ []) cs)) (braced_hex w a l i)

braced_sound : (q : ℕ) (rest : List ℕ) → IfSound q (92 ∷ 117 ∷ 123 ∷ rest) (braced rest)
braced_sound q rest =
    let n = prefix_len is_hex rest in
    cond_both (eqb n 0 || not (eqb (get_or rest n 0) 125)) None _ (IfSound q (92 ∷ 117 ∷ 123 ∷ rest)) (λ _. tt) (λ e.
    let p = or_parts (eqb n 0) (not (eqb (get_or rest n 0) 125)) e in
    let some : 0 < n = let z = eqb-false n 0 p.0 in omega arith in
    let ends : get_or rest n 0 ≡ 125 = eqb-true (get_or rest n 0) 125 (unless (eqb (get_or rest n 0) 125) p.1) in
    let lt = past_end rest n (prefix_len-le-length is_hex rest) ends in
    by_number_sound q (92 ∷ 117 ∷ 123 ∷ rest) (take n rest) (n + 4) (λ h l. record {
      some = omega arith;
      fits = omega arith;
      before = λ cs us x f i. subst (λ v. Inside q (v ++ cs) (units_of (hex_on 0 (take n rest)) ++ us)) (sym (braced_front rest n lt ends)) (braced_inside q (take n rest) (omega (arith, length-take n rest)) h l i);
    }))
  where
    unless : (b : Bool) → not b ≡ false → b ≡ true
    unless true e = refl
    unless false e = sym e

-- a backslash and one character
lone_sound : (q c : ℕ) (rest : List ℕ) (code : Option ℕ) → ((cs us x : List ℕ) → rest ≡ cs ++ q ∷ x → Inside q cs us → Inside q (92 ∷ c ∷ cs) (units_in code ++ us)) → Sound q (92 ∷ c ∷ rest) (record { len = 2; code = code })
lone_sound q c rest code f = record { some = omega arith; fits = omega arith; before = f }

escaped_from : (c : ℕ) → is_line_end c ≡ false → is_digit c ≡ false → eqb c 120 ≡ false → eqb c 117 ≡ false → IsTrue (is_escaped c)
escaped_from c a b d e = cond-false (is_line_end c || is_digit c || eqb c 120 || eqb c 117) false true (neither (neither (neither a b) d) e)
  where
    neither : {x y : Bool} → x ≡ false → y ≡ false → (x || y) ≡ false
    neither {x = true} e f = e
    neither {x = false} e f = f

digit_free : (q : ℕ) (cs x rest : List ℕ) → rest ≡ cs ++ q ∷ x → is_digit (get_or rest 0 0) ≡ false → begins_digit cs ≡ false
digit_free q [] x rest e f = refl
digit_free q (c ∷ cs) x rest e f = sym (ap (λ v. is_digit (get_or v 0 0)) e) ∙ f

feed_sound : (q : ℕ) (rest : List ℕ) → get_or rest 0 0 ≡ 10 → Sound q (92 ∷ 13 ∷ rest) (record { len = 3; code = None })
feed_sound q [] e = absurd (omega arith)
feed_sound q (c ∷ rest) e = record {
  some = omega arith;
  fits = omega arith;
  before = λ cs us x f i. subst (λ v. Inside q (92 ∷ 13 ∷ v ∷ cs) us) (sym e) (crlf i);
}

letter_sound : (q c : ℕ) (rest : List ℕ) → eqb c 120 ≡ false → eqb c 117 ≡ false → IfSound q (92 ∷ c ∷ rest) (cond (eqb c 13 && eqb (get_or rest 0 0) 10) (piece 3 None) (cond (is_line_end c) (piece 2 None) (cond (eqb c 48 && not (is_digit (get_or rest 0 0))) (piece 2 (Some 0)) (cond (is_digit c) None (piece 2 (Some (single_escape c)))))))
letter_sound q c rest nx nu =
    cond_both (eqb c 13 && eqb (get_or rest 0 0) 10) (piece 3 None) _ (IfSound q (92 ∷ c ∷ rest))
    (λ e. let p = and_parts (eqb c 13) (eqb (get_or rest 0 0) 10) e in subst (λ v. Sound q (92 ∷ v ∷ rest) (record { len = 3; code = None })) (sym (eqb-true c 13 p.0)) (feed_sound q rest (eqb-true (get_or rest 0 0) 10 p.1)))
    (λ _. cond_both (is_line_end c) (piece 2 None) _ (IfSound q (92 ∷ c ∷ rest))
    (λ e. lone_sound q c rest None (λ cs us x f i. line_end e i))
    (λ nl. cond_both (eqb c 48 && not (is_digit (get_or rest 0 0))) (piece 2 (Some 0)) _ (IfSound q (92 ∷ c ∷ rest))
    (λ e. let p = and_parts (eqb c 48) (not (is_digit (get_or rest 0 0))) e in
    subst (λ v. Sound q (92 ∷ v ∷ rest) (record { len = 2; code = Some 0 })) (sym (eqb-true c 48 p.0))
    (lone_sound q 48 rest (Some 0) (λ cs us x f i. zero (cond-false (begins_digit cs) false true (digit_free q cs x rest f (not-true (is_digit (get_or rest 0 0)) p.1))) i)))
    (λ _. cond_both (is_digit c) None _ (IfSound q (92 ∷ c ∷ rest)) (λ _. tt)
    (λ nd. lone_sound q c rest (Some (single_escape c)) (λ cs us x f i. single (escaped_from c nl nd nx nu) i)))))

brace_sound : (q : ℕ) (rest : List ℕ) → get_or rest 0 0 ≡ 123 → IfSound q (92 ∷ 117 ∷ rest) (braced (drop 1 rest))
brace_sound q [] e = absurd (omega arith)
brace_sound q (c ∷ rest) e = subst (λ v. IfSound q (92 ∷ 117 ∷ v ∷ rest) (braced rest)) (sym e) (braced_sound q rest)

escape_sound : (q c : ℕ) (rest : List ℕ) → IfSound q (92 ∷ c ∷ rest) (escape c rest)
escape_sound q c rest =
    cond_both (eqb c 120) (fixed rest 2) _ (IfSound q (92 ∷ c ∷ rest))
    (λ e. subst (λ v. IfSound q (92 ∷ v ∷ rest) (fixed rest 2)) (sym (eqb-true c 120 e)) (two_sound q rest))
    (λ nx. cond_both (eqb c 117 && eqb (get_or rest 0 0) 123) (braced (drop 1 rest)) _ (IfSound q (92 ∷ c ∷ rest))
    (λ e. let p = and_parts (eqb c 117) (eqb (get_or rest 0 0) 123) e in subst (λ v. IfSound q (92 ∷ v ∷ rest) (braced (drop 1 rest))) (sym (eqb-true c 117 p.0)) (brace_sound q rest (eqb-true (get_or rest 0 0) 123 p.1)))
    (λ _. cond_both (eqb c 117) (fixed rest 4) _ (IfSound q (92 ∷ c ∷ rest))
    (λ e. subst (λ v. IfSound q (92 ∷ v ∷ rest) (fixed rest 4)) (sym (eqb-true c 117 e)) (four_sound q rest))
    (λ nu. letter_sound q c rest nx nu)))

backslash_sound : (q c : ℕ) (rest : List ℕ) → c ≡ 92 → IfSound q (c ∷ rest) (cond (ltb (length (c ∷ rest)) 2) None (escape (get_or (c ∷ rest) 1 0) (drop 2 (c ∷ rest))))
backslash_sound q c [] e = tt
backslash_sound q c (d ∷ rest) e =
    cond_both (ltb (length (c ∷ d ∷ rest)) 2) None _ (IfSound q (c ∷ d ∷ rest)) (λ _. tt)
    (λ _. subst (λ v. IfSound q (v ∷ d ∷ rest) (escape d rest)) (sym e) (escape_sound q d rest))

plain_sound : (q c : ℕ) (rest : List ℕ) → c ≢ q → c ≢ 92 → c ≢ 10 → c ≢ 13 → Sound q (c ∷ rest) (record { len = 1; code = Some c })
plain_sound q c rest a b d e = record { some = omega arith; fits = omega arith; before = λ cs us x f i. itself a b d e i }

piece_if_sound : (q : ℕ) (text : List ℕ) → 0 < length text → get_or text 0 0 ≢ q → IfSound q text (piece_of text)
piece_if_sound q [] some n = absurd (omega arith)
piece_if_sound q (c ∷ rest) some n =
    cond_both (eqb c 92) _ _ (IfSound q (c ∷ rest)) (λ e. backslash_sound q c rest (eqb-true c 92 e))
    (λ nb. cond_both (eqb c 10 || eqb c 13) None _ (IfSound q (c ∷ rest)) (λ _. tt)
    (λ nl. let p = or_parts (eqb c 10) (eqb c 13) nl in plain_sound q c rest n (eqb-false c 92 nb) (eqb-false c 10 p.0) (eqb-false c 13 p.1)))

pub piece_sound : (q : ℕ) (text : List ℕ) (p : Piece) → 0 < length text → get_or text 0 0 ≢ q → piece_of text ≡ Some p → Sound q text p
piece_sound q text p some n e = subst (IfSound q text) e (piece_if_sound q text some n)

-- READING ON
-- what is left of the characters behind the first quote, behind pieces that stand for these units
pub record InQuotes (q : ℕ) (inner rest units : List ℕ) : Type 0 where
  pub done : List ℕ
  pub is : inner ≡ done ++ rest
  pub front : (cs us x : List ℕ) → rest ≡ cs ++ q ∷ x → Inside q cs us → Inside q (done ++ cs) (units ++ us)
  pub back : (cs us x : List ℕ) → inner ≡ cs ++ q ∷ x → Run q cs us → (ds : List ℕ) × (vs : List ℕ) × (rest ≡ ds ++ q ∷ x) × Run q ds vs

pub at_quote : (q : ℕ) (inner : List ℕ) → InQuotes q inner inner []
at_quote q inner = record { done = []; is = refl; front = λ cs us x e i. i; back = λ cs us x e r. (cs, us, e, r) }

goes_back : (q : ℕ) (rest ds vs x : List ℕ) (p : Piece) → get_or rest 0 0 ≢ q → piece_of rest ≡ Some p → rest ≡ ds ++ q ∷ x → Run q ds vs → (es : List ℕ) × (ws : List ℕ) × (drop p.len rest ≡ es ++ q ∷ x) × Run q es ws
goes_back q rest ds vs x p n e f ended = absurd (n (ap (λ v. get_or v 0 0) f))
goes_back q rest ds vs x p n e f (on w {cs} {us} code s r) =
    let g : rest ≡ w ++ (cs ++ q ∷ x) = f ∙ append_assoc w cs (q ∷ x) in
    let same = same_piece_len p (length w) code (sym e ∙ ap piece_of g ∙ s.is x) in
    (cs, us, ap (λ i. drop i rest) same ∙ ap (drop (length w)) g ∙ drop_at w (cs ++ q ∷ x) (length w) refl, r)
  where
    len_of : Option Piece → ℕ
    len_of None = 0
    len_of (Some p) = p.len

    same_piece_len : (p : Piece) (n : ℕ) (code : Option ℕ) → Some p ≡ piece n code → p.len ≡ n
    same_piece_len p n code e = ap len_of e

pub goes_on : (q : ℕ) (inner rest units : List ℕ) (p : Piece) → 0 < length rest → get_or rest 0 0 ≢ q → piece_of rest ≡ Some p → InQuotes q inner rest units → InQuotes q inner (drop p.len rest) (units ++ units_in p.code)
goes_on q inner rest units p some n e c =
    let s = piece_sound q rest p some n e in
    record {
      done = c.done ++ take p.len rest;
      is = c.is ∙ ap (λ v. c.done ++ v) (sym (take-append-drop p.len rest)) ∙ sym (append_assoc c.done (take p.len rest) (drop p.len rest));
      front = λ cs us x f i.
          let whole : rest ≡ (take p.len rest ++ cs) ++ q ∷ x = sym (take-append-drop p.len rest) ∙ ap (λ v. take p.len rest ++ v) f ∙ sym (append_assoc (take p.len rest) cs (q ∷ x)) in
          let more = c.front (take p.len rest ++ cs) (units_in p.code ++ us) x whole (s.before cs us x f i) in
          subst (λ v. Inside q v ((units ++ units_in p.code) ++ us)) (sym (append_assoc c.done (take p.len rest) cs))
          (subst (Inside q (c.done ++ (take p.len rest ++ cs))) (sym (append_assoc units (units_in p.code) us)) more);
      back = λ cs us x f r. let b = c.back cs us x f r in goes_back q rest b.0 b.1 x p n e b.2 b.3;
    }

-- no text in quotes goes on where none of the pieces does
pub stops_back : (q : ℕ) (rest ds vs x : List ℕ) → get_or rest 0 0 ≢ q → piece_of rest ≡ None → rest ≡ ds ++ q ∷ x → Run q ds vs → ⊥
stops_back q rest ds vs x n e f ended = n (ap (λ v. get_or v 0 0) f)
stops_back q rest ds vs x n e f (on w {cs} {us} code s r) =
    let g : rest ≡ w ++ (cs ++ q ∷ x) = f ∙ append_assoc w cs (q ∷ x) in
    let same : None ≡ piece (length w) code = sym e ∙ ap piece_of g ∙ s.is x in cc

pub ends_back : (q : ℕ) (rest ds x : List ℕ) → length rest ≡ 0 → rest ≡ ds ++ q ∷ x → ⊥
ends_back q rest ds x e f = omega (arith, ap length f, length-append ds (q ∷ x))
