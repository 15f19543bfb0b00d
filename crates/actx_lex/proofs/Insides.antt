-- What stands between quotes is read in one way: Inside as a run of pieces.
use Rattle.std.proofs.Common.{◌≡◌, ◌≢◌, inl, inr, ℕ, ◌+◌, ◌<◌, ◌≤◌, Bool, true, false, not, cond, ◌&&◌, ◌||◌, List, [], ◌∷◌, ◌++◌, Option, Some, None, length, get_or, take, drop, refl, sym, ◌∙◌, ap, subst, arith, IsTrue, eqb, ltb, lit<}
use Rattle.std.specs.List.{prefix_len}
use Rattle.std.proofs.lemmas.Bool.{cond-true, cond-false, or_parts, and_left, and_right, or_from, ne_eqb, both_ways, le-ltb, lt-ltb, false≢true}
use Rattle.std.proofs.lemmas.List.{append_assoc, length-append, get_or_at, take_at, drop_at}
use Rattle.std.proofs.lemmas.List.Elements.{All-head, All-tail}
use Rattle.actx_grammar.specs.Words.{units_of}
use Rattle.actx_lex.specs.declared.escapes.Piece.{Piece}
use Rattle.actx_lex.specs.Characters.{AllPass, is_line_end, is_digit, is_hex, hex_on, single_escape, is_escaped, begins_digit, Inside, nothing, itself, single, zero, two_hex, four_hex, braced_hex, line_end, crlf}
use Rattle.actx_lex.specs.Lexical.{IsQuote}
use Rattle.actx_lex.specs.Pieces.{hex_number, piece, by_number, fixed, braced, escape, piece_of, units_in}
use Rattle.actx_lex.proofs.Hexadecimals.{hex_found, all_hex, hex_small}

-- a piece, before more characters and the quote
pub record Step (q : ℕ) (w : List ℕ) (code : Option ℕ) (cs : List ℕ) : Type 0 where
  pub some : 0 < length w
  pub first : get_or w 0 0 ≢ q
  pub is : (x : List ℕ) → piece_of (w ++ (cs ++ q ∷ x)) ≡ piece (length w) code

pub data Run (q : ℕ) : List ℕ → List ℕ → Type 0 where
  ended : Run q [] []
  on : (w : List ℕ) {cs us : List ℕ} (code : Option ℕ) → Step q w code cs → Run q cs us → Run q (w ++ cs) (units_in code ++ us)

-- ESCAPES, AS THEY ARE READ
pub escaped : (c : ℕ) (rest : List ℕ) → piece_of (92 ∷ c ∷ rest) ≡ escape c rest
escaped c rest = cond-false (ltb (length (92 ∷ c ∷ rest)) 2) None (escape c rest) (le-ltb (length (92 ∷ c ∷ rest)) 2 (omega arith))

backslash_apart : (q : ℕ) → IsQuote q → 92 ≢ q
backslash_apart q (inl h) e = omega arith
backslash_apart q (inr h) e = omega arith

quote_no_digit : (q : ℕ) → IsQuote q → is_digit q ≡ false
quote_no_digit q (inl h) = ap is_digit h
quote_no_digit q (inr h) = ap is_digit h

-- a character that is escaped by a backslash alone
not_letters : (c : ℕ) (rest : List ℕ) (b : Bool) → eqb c 120 ≡ false → eqb c 117 ≡ false → escape c rest ≡ cond (eqb c 13 && eqb (get_or rest 0 0) 10) (piece 3 None) (cond (is_line_end c) (piece 2 None) (cond (eqb c 48 && not (is_digit (get_or rest 0 0))) (piece 2 (Some 0)) (cond (is_digit c) None (piece 2 (Some (single_escape c))))))
not_letters c rest b x u =
    cond-false (eqb c 120) (fixed rest 2) _ x
    ∙ cond-false (eqb c 117 && eqb (get_or rest 0 0) 123) (braced (drop 1 rest)) _ (and_left (eqb c 117) _ u)
    ∙ cond-false (eqb c 117) (fixed rest 4) _ u

escape_single : (c : ℕ) (rest : List ℕ) → IsTrue (is_escaped c) → escape c rest ≡ piece 2 (Some (single_escape c))
escape_single c rest h =
    let all : (((is_line_end c || is_digit c) || eqb c 120) || eqb c 117) ≡ false = none h in
    let a = or_parts ((is_line_end c || is_digit c) || eqb c 120) (eqb c 117) all in
    let b = or_parts (is_line_end c || is_digit c) (eqb c 120) a.0 in
    let d = or_parts (is_line_end c) (is_digit c) b.0 in
    let return : eqb c 13 ≡ false = no_return d.0 in
    let zero : eqb c 48 ≡ false = no_zero d.1 in
    not_letters c rest true b.1 a.1
    ∙ cond-false (eqb c 13 && eqb (get_or rest 0 0) 10) (piece 3 None) _ (and_left (eqb c 13) _ return)
    ∙ cond-false (is_line_end c) (piece 2 None) _ d.0
    ∙ cond-false (eqb c 48 && not (is_digit (get_or rest 0 0))) (piece 2 (Some 0)) _ (and_left (eqb c 48) _ zero)
    ∙ cond-false (is_digit c) None _ d.1
  where
    none : {b : Bool} → cond b false true ≡ true → b ≡ false
    none {b = true} e = absurd (false≢true e)
    none {b = false} e = refl

    no_return : is_line_end c ≡ false → eqb c 13 ≡ false
    no_return e = grind arith

    no_zero : is_digit c ≡ false → eqb c 48 ≡ false
    no_zero e = ne_eqb c 48 (λ f. both_ways (is_digit c) e (ap is_digit f))

escape_line_end : (c : ℕ) (rest : List ℕ) → IsTrue (is_line_end c) → get_or rest 0 0 ≢ 10 → escape c rest ≡ piece 2 None
escape_line_end c rest h n =
    let x : eqb c 120 ≡ false = grind arith in
    let u : eqb c 117 ≡ false = grind arith in
    not_letters c rest true x u
    ∙ cond-false (eqb c 13 && eqb (get_or rest 0 0) 10) (piece 3 None) _ (and_right (eqb c 13) _ (ne_eqb (get_or rest 0 0) 10 n))
    ∙ cond-true (is_line_end c) (piece 2 None) _ h

escape_zero : (rest : List ℕ) → is_digit (get_or rest 0 0) ≡ false → escape 48 rest ≡ piece 2 (Some 0)
escape_zero rest e = cond-true (not (is_digit (get_or rest 0 0))) (piece 2 (Some 0)) _ (ap not e)

fixed_found : (w rest : List ℕ) (n : ℕ) → length w ≡ n → n ≤ 4 → AllPass is_hex w → fixed (w ++ rest) n ≡ piece (n + 2) (Some (hex_on 0 w))
fixed_found w rest n e small h =
    cond-false (ltb (length (w ++ rest)) n) None _ (le-ltb (length (w ++ rest)) n (omega (arith, length-append w rest)))
    ∙ ap (λ v. by_number (n + 2) (hex_number v)) (take_at w rest n e)
    ∙ ap (by_number (n + 2)) (hex_found w (all_hex w h) (omega (arith, hex_small w n e small h)))

hex_apart : (a : ℕ) → IsTrue (is_hex a) → eqb a 123 ≡ false
hex_apart a h = grind arith

hex_run : (cs r : List ℕ) → AllPass is_hex cs → prefix_len is_hex (cs ++ 125 ∷ r) ≡ length cs
hex_run [] r h = refl
hex_run (c ∷ cs) r h =
    let one : is_hex c ≡ true = All-head (λ c. IsTrue (is_hex c)) c cs h in
    let two = hex_run cs r (All-tail (λ c. IsTrue (is_hex c)) c cs h) in
    grind arith

braced_found : (w rest : List ℕ) → 0 < length w → AllPass is_hex w → hex_on 0 w ≤ 1114111 → braced (w ++ 125 ∷ rest) ≡ piece (length w + 4) (Some (hex_on 0 w))
braced_found w rest some h small =
    subst (λ n. cond (eqb n 0 || not (eqb (get_or (w ++ 125 ∷ rest) n 0) 125)) None (by_number (n + 4) (hex_number (take n (w ++ 125 ∷ rest)))) ≡ piece (length w + 4) (Some (hex_on 0 w))) (sym (hex_run w rest h))
    (cond-false (eqb (length w) 0 || not (eqb (get_or (w ++ 125 ∷ rest) (length w) 0) 125)) None _ (or_from _ _ (ne_eqb (length w) 0 (λ e. omega arith)) (ap (λ v. not (eqb v 125)) (get_or_at w 125 rest 0 (length w) refl)))
    ∙ ap (λ v. by_number (length w + 4) (hex_number v)) (take_at w (125 ∷ rest) (length w) refl)
    ∙ ap (by_number (length w + 4)) (hex_found w (all_hex w h) small))

-- INSIDE AS A RUN
plain_piece : (c : ℕ) (rest : List ℕ) → c ≢ 92 → c ≢ 10 → c ≢ 13 → piece_of (c ∷ rest) ≡ piece 1 (Some c)
plain_piece c rest a b d =
    cond-false (eqb c 92) _ _ (ne_eqb c 92 a) ∙ cond-false (eqb c 10 || eqb c 13) None _ (or_from (eqb c 10) (eqb c 13) (ne_eqb c 10 b) (ne_eqb c 13 d))

no_digit : (q : ℕ) (cs x : List ℕ) → IsQuote q → begins_digit cs ≡ false → is_digit (get_or (cs ++ q ∷ x) 0 0) ≡ false
no_digit q [] x h e = quote_no_digit q h
no_digit q (c ∷ cs) x h e = e

quote_no_feed : (q : ℕ) → IsQuote q → q ≢ 10
quote_no_feed q (inl h) e = omega arith
quote_no_feed q (inr h) e = omega arith

no_feed : {q : ℕ} {cs us : List ℕ} (x : List ℕ) → IsQuote q → Inside q cs us → get_or (cs ++ q ∷ x) 0 0 ≢ 10
no_feed {q} x h nothing e = quote_no_feed q h e
no_feed x h (itself a b c d i) e = c e
no_feed x h (single i j) e = omega arith
no_feed x h (zero i j) e = omega arith
no_feed x h (two_hex i j) e = omega arith
no_feed x h (four_hex i j) e = omega arith
no_feed x h (braced_hex hs i l j) e = omega arith
no_feed x h (line_end i j) e = omega arith
no_feed x h (crlf j) e = omega arith

pub small_units : (c : ℕ) → c < 65536 → units_of c ≡ c ∷ []
small_units c h = cond-true (ltb c 65536) (c ∷ []) _ (lt-ltb c 65536 h)

none_true : (b : Bool) → cond b false true ≡ true → b ≡ false
none_true true e = absurd (false≢true e)
none_true false e = refl

pub run_of : {q : ℕ} {cs us : List ℕ} → IsQuote q → Inside q cs us → Run q cs us
run_of h nothing = ended
run_of {q} h (itself {c} {cs} a b d e i) = on (c ∷ []) (Some c) (record { some = lit< tt; first = a; is = λ x. plain_piece c (cs ++ q ∷ x) b d e }) (run_of h i)
run_of {q} h (single {c} {cs} e i) = on (92 ∷ c ∷ []) (Some (single_escape c)) (record { some = lit< tt; first = backslash_apart q h; is = λ x. escaped c (cs ++ q ∷ x) ∙ escape_single c (cs ++ q ∷ x) e }) (run_of h i)
run_of {q} h (zero {cs} e i) = on (92 ∷ 48 ∷ []) (Some 0) (record { some = lit< tt; first = backslash_apart q h; is = λ x. escaped 48 (cs ++ q ∷ x) ∙ escape_zero (cs ++ q ∷ x) (no_digit q cs x h (none_true (begins_digit cs) e)) }) (run_of h i)
run_of {q} h (two_hex {a} {b} {cs} {us} e i) =
    let v = hex_on 0 (a ∷ b ∷ []) in
    let small : v < 65536 = hex_small (a ∷ b ∷ []) 2 refl (omega arith) e in
    subst (λ ws. Run q (92 ∷ 120 ∷ a ∷ b ∷ cs) (ws ++ us)) (small_units v small)
    (on (92 ∷ 120 ∷ a ∷ b ∷ []) (Some v) (record { some = lit< tt; first = backslash_apart q h; is = λ x. escaped 120 (a ∷ b ∷ (cs ++ q ∷ x)) ∙ fixed_found (a ∷ b ∷ []) (cs ++ q ∷ x) 2 refl (omega arith) e }) (run_of h i))
run_of {q} h (four_hex {a} {b} {c} {d} {cs} {us} e i) =
    let v = hex_on 0 (a ∷ b ∷ c ∷ d ∷ []) in
    let small : v < 65536 = hex_small (a ∷ b ∷ c ∷ d ∷ []) 4 refl (omega arith) e in
    let apart : eqb a 123 ≡ false = hex_apart a (All-head (λ c. IsTrue (is_hex c)) a (b ∷ c ∷ d ∷ []) e) in
    subst (λ ws. Run q (92 ∷ 117 ∷ a ∷ b ∷ c ∷ d ∷ cs) (ws ++ us)) (small_units v small)
    (on (92 ∷ 117 ∷ a ∷ b ∷ c ∷ d ∷ []) (Some v) (record {
      some = lit< tt;
      first = backslash_apart q h;
      is = λ x.
          escaped 117 (a ∷ b ∷ c ∷ d ∷ (cs ++ q ∷ x)) ∙ cond-false (eqb a 123) _ _ apart ∙ fixed_found (a ∷ b ∷ c ∷ d ∷ []) (cs ++ q ∷ x) 4 refl (omega arith) e;
    }) (run_of h i))
run_of {q} h (braced_hex {h = f} hs {cs} {us} e l i) =
    let w = f ∷ hs in
    let regroup : (r : List ℕ) → (hs ++ 125 ∷ []) ++ r ≡ hs ++ 125 ∷ r = λ r. append_assoc hs (125 ∷ []) r in
    let long : length (92 ∷ 117 ∷ 123 ∷ f ∷ (hs ++ 125 ∷ [])) ≡ length w + 4 = omega (arith, length-append hs (125 ∷ [])) in
    subst (λ r. Run q (92 ∷ 117 ∷ 123 ∷ f ∷ r) (units_of (hex_on 0 w) ++ us)) (regroup cs)
    (on (92 ∷ 117 ∷ 123 ∷ f ∷ (hs ++ 125 ∷ [])) (Some (hex_on 0 w)) (record {
      some = omega arith;
      first = backslash_apart q h;
      is = λ x.
          escaped 117 (123 ∷ f ∷ ((hs ++ 125 ∷ []) ++ (cs ++ q ∷ x))) ∙ ap (λ r. braced (f ∷ r)) (regroup (cs ++ q ∷ x)) ∙ braced_found w (cs ++ q ∷ x) (omega arith) e l ∙ ap (λ n. piece n (Some (hex_on 0 w))) (sym long);
    }) (run_of h i))
run_of {q} h (line_end {c} {cs} e i) = on (92 ∷ c ∷ []) None (record { some = lit< tt; first = backslash_apart q h; is = λ x. escaped c (cs ++ q ∷ x) ∙ escape_line_end c (cs ++ q ∷ x) e (no_feed x h i) }) (run_of h i)
run_of {q} h (crlf {cs} i) = on (92 ∷ 13 ∷ 10 ∷ []) None (record { some = lit< tt; first = backslash_apart q h; is = λ x. escaped 13 (10 ∷ (cs ++ q ∷ x)) }) (run_of h i)

-- ONE WAY
abbrev len_of : Option Piece → ℕ
len_of None = 0
len_of (Some p) = p.len

abbrev code_of : Option Piece → Option ℕ
code_of None = None
code_of (Some p) = p.code

pub same_piece : (w v : List ℕ) (code mode : Option ℕ) → piece (length w) code ≡ piece (length v) mode → (length w ≡ length v) × (code ≡ mode)
same_piece w v code mode e = (ap len_of e, ap code_of e)

same_front : (w v x y : List ℕ) → length w ≡ length v → w ++ x ≡ v ++ y → (w ≡ v) × (x ≡ y)
same_front w v x y e f = (
  sym (take_at w x (length w) refl) ∙ ap (take (length w)) f ∙ take_at v y (length w) (sym e),
  sym (drop_at w x (length w) refl) ∙ ap (drop (length w)) f ∙ drop_at v y (length w) (sym e),
)

first_of : (w rest : List ℕ) → 0 < length w → get_or (w ++ rest) 0 0 ≡ get_or w 0 0
first_of [] rest h = absurd (omega arith)
first_of (c ∷ w) rest h = refl

pub apart : (q : ℕ) (w cs x : List ℕ) (code : Option ℕ) (y : List ℕ) → Step q w code cs → q ∷ y ≡ (w ++ cs) ++ x → ⊥
apart q w cs x code y s e = s.first (sym (first_of w (cs ++ x) s.some) ∙ ap (λ v. get_or v 0 0) (sym (append_assoc w cs x)) ∙ ap (λ v. get_or v 0 0) (sym e))

pub record Same (cs ds us vs x y : List ℕ) : Type 0 where
  pub chars : cs ≡ ds
  pub units : us ≡ vs
  pub rest : x ≡ y

runs_once : {q : ℕ} {cs us ds vs : List ℕ} (x y : List ℕ) → Run q cs us → Run q ds vs → cs ++ q ∷ x ≡ ds ++ q ∷ y → Same cs ds us vs x y
runs_once x y ended ended e = record { chars = refl; units = refl; rest = ap (drop 1) e }
runs_once {q} x y ended (on w {cs} code s r) e = absurd (apart q w cs (q ∷ y) code x s e)
runs_once {q} x y (on w {cs} code s r) ended e = absurd (apart q w cs (q ∷ x) code y s (sym e))
runs_once {q} x y (on w {cs} {us} code s r) (on v {cs = ds} {us = vs} mode t p) e =
    let f : w ++ (cs ++ q ∷ x) ≡ v ++ (ds ++ q ∷ y) = sym (append_assoc w cs (q ∷ x)) ∙ e ∙ append_assoc v ds (q ∷ y) in
    let g = same_piece w v code mode (sym (s.is x) ∙ ap piece_of f ∙ t.is y) in
    let k = same_front w v (cs ++ q ∷ x) (ds ++ q ∷ y) g.0 f in
    let i = runs_once x y r p k.1 in
    let a = k.0 in
    let b = g.1 in
    let c = i.chars in
    let d = i.units in
    record { chars = cc; units = cc; rest = i.rest }

pub once : (q : ℕ) (cs ds us vs x y : List ℕ) → IsQuote q → Inside q cs us → Inside q ds vs → cs ++ q ∷ x ≡ ds ++ q ∷ y → (cs ≡ ds) × (us ≡ vs) × (x ≡ y)
once q cs ds us vs x y h a b e = let s = runs_once x y (run_of h a) (run_of h b) e in (s.chars, s.units, s.rest)
