-- Words and numbers are read to the end of their runs.
use Rattle.std.proofs.Common.{◌≡◌, ◌≢◌, ℕ, ◌+◌, ◌<◌, ◌≤◌, Bool, false, List, [], ◌∷◌, ◌++◌, length, get_or, take, drop, refl, sym, ◌∙◌, ap, subst, arith, IsTrue}
use Rattle.std.specs.List.{prefix_len}
use Rattle.std.proofs.lemmas.Bool.{both_ways}
use Rattle.std.proofs.lemmas.List.{length-take, length-drop, length-append, get_or-take, get_or-drop, get_or_append_left, get_or-append_right}
use Rattle.std.proofs.lemmas.List.Sums.{prefix_len_passes, prefix_len_stops}
use Rattle.actx_lex.specs.Characters.{AllPass}
use Rattle.actx_lex.specs.Lexical.{IsLexeme, IsLongest}
use Rattle.actx_lex.proofs.Classes.{Class, class_of}

pub run_passes : (p : ℕ → Bool) (text : List ℕ) (n : ℕ) → n ≡ prefix_len p text → n ≤ length text → AllPass p (take n text)
run_passes p text n e fits = λ k d lt.
    let len = length-take n text in
    let below : k < n = omega arith in
    let low : k < prefix_len p text = omega arith in
    subst (λ v. IsTrue (p v)) (sym (get_or-take n text k d below)) (prefix_len_passes p text k d low)

pub run_some : (p : ℕ → Bool) (text : List ℕ) (n : ℕ) → IsTrue (p (get_or text 0 0)) → n ≡ prefix_len p text → 0 < length text → 0 < n
run_some p [] n h e some = absurd (omega arith)
run_some p (c ∷ cs) n h e some = grind (arith, prefix_len_stops)

-- a longer lexeme of characters that pass would have gone on with one that doesn't
pub longest_run : (p : ℕ → Bool) (text : List ℕ) (n : ℕ) (c : Class) → n ≡ prefix_len p text → n ≤ length text → 0 < n → class_of (get_or text 0 0) ≡ c → ((v r : List ℕ) → IsLexeme v r → class_of (get_or v 0 0) ≡ c → AllPass p v) → IsLongest (take n text) (drop n text)
longest_run p text n c e fits pos first all x y cut some lexeme =
    let len : length (take n text) ≡ n = omega (arith, length-take n text) in
    let head : get_or (take n text ++ x) 0 0 ≡ get_or text 0 0 = get_or_append_left (take n text) x 0 0 (omega arith) ∙ get_or-take n text 0 0 pos in
    let more : 0 < length x = nonempty x some in
    let rest : length x + length y ≡ length (drop n text) = sym (ap length cut ∙ length-append x y) in
    let left = length-drop n text in
    let lt : n < length text = omega arith in
    let whole = length-append (take n text) x in
    let passes : IsTrue (p (get_or (take n text ++ x) n 0)) = all (take n text ++ x) y lexeme (ap class_of head ∙ first) n 0 (omega arith) in
    let low : prefix_len p text < length text = omega arith in
    let stops : p (get_or text n 0) ≡ false = subst (λ i. p (get_or text i 0) ≡ false) (sym e) (prefix_len_stops p text 0 low) in
    let one : get_or (take n text ++ x) n 0 ≡ get_or x 0 0 = get_or-append_right (take n text) x n n 0 len (omega arith) ∙ ap (λ i. get_or x i 0) (omega arith) in
    let two : get_or x 0 0 ≡ get_or (drop n text) 0 0 = sym (get_or_append_left x y 0 0 more) ∙ ap (λ v. get_or v 0 0) (sym cut) in
    let three : get_or (drop n text) 0 0 ≡ get_or text n 0 = get_or-drop n text 0 0 ∙ ap (λ i. get_or text i 0) (omega arith) in
    both_ways (p (get_or text n 0)) stops (subst (λ v. IsTrue (p v)) (one ∙ two ∙ three) passes)
  where
    nonempty : (x : List ℕ) → x ≢ [] → 0 < length x
    nonempty [] h = absurd (h refl)
    nonempty (c ∷ cs) h = omega arith
