-- Words of forms, one at a time.
use Rattle.std.proofs.Common.{◌≡◌, ℕ, zero, suc, ◌≤◌, ◌+◌, List, [], ◌∷◌, length, drop, get_or, ◌<◌, Bool, true, false, ◌&&◌, refl, sym, ◌∙◌, ap, arith}
use Rattle.std.specs.Prelude.{nat_eq}
use Rattle.std.proofs.lemmas.Bool.Decides.{nat_tests}
use Rattle.actx_grammar.specs.declared.token.TokenKind.{TokenKind}
use Rattle.actx_grammar.specs.declared.token.TokenKind.TheVariants as t
use Rattle.actx_grammar.specs.declared.token.Keyword.TheVariants as k
use Rattle.actx_grammar.specs.declared.token.Sign.TheVariants as g
use Rattle.actx_grammar.specs.ParserOperands.{same_word, same_token, begins_with}
use Rattle.actx_laws.proofs.ParseNames.{same_decides}
use Rattle.actx_frames.specs.ParserView.{is_word_at}

pub past_words : (ws : List TokenKind) (n : ℕ) (t : TokenKind) → length ws ≤ n → is_word_at ws n t ≡ false
past_words [] n t h = refl
past_words (w ∷ ws) zero t h = absurd (omega arith)
past_words (w ∷ ws) (suc n) t h = past_words ws n t (omega arith)

-- one word more
begins_at : (ws : List TokenKind) (n : ℕ) (t : TokenKind) (vs : List TokenKind) → begins_with (drop n ws) (t ∷ vs) ≡ is_word_at ws n t && begins_with (drop (suc n) ws) vs
begins_at [] zero t vs = refl
begins_at [] (suc n) t vs = refl
begins_at (w ∷ ws) zero t vs = refl
begins_at (w ∷ ws) (suc n) t vs = begins_at ws n t vs

-- which words are the same doesn't depend on their order
word_is : (x y : List ℕ) → same_word x y ≡ true → x ≡ y
word_is x y h = (same_decides x y).0 h

token_is : (a b : TokenKind) → same_token a b ≡ true → a ≡ b
token_is (t.Name x) (t.Name y) h = ap t.Name (word_is x y h)
token_is (t.Keyword k.New) (t.Keyword k.New) h = refl
token_is (t.Sign g.Dot) (t.Sign g.Dot) h = refl
token_is _ _ h = absurd (cc)

turned_true : (a b : TokenKind) → same_token a b ≡ true → same_token b a ≡ true
turned_true a b h = let e : a ≡ b = token_is a b h in ap (same_token b) e ∙ ap (λ z. same_token z b) (sym e) ∙ h

same_tests : (b c : Bool) → (b ≡ true → c ≡ true) → (c ≡ true → b ≡ true) → b ≡ c
same_tests true c f g = sym (f refl)
same_tests false true f g = g refl
same_tests false false f g = refl

token_turned : (a b : TokenKind) → same_token a b ≡ same_token b a
token_turned a b = same_tests (same_token a b) (same_token b a) (turned_true a b) (turned_true b a)

both : (b c d e f : Bool) → b ≡ c → d && e ≡ d && f → (b && d) && (c && e) ≡ (b && d) && f
both true true d e f q h = h
both true false d e f q h = absurd (cc)
both false true d e f q h = absurd (cc)
both false false d e f q h = refl

less_false : (n : ℕ) → nat_eq (suc n) 0 ≡ false
less_false n = grind (arith, nat_tests)

more_false : (n : ℕ) → nat_eq 0 (suc n) ≡ false
more_false n = grind (arith, nat_tests)

next_same : (m n : ℕ) → nat_eq (suc m) (suc n) ≡ nat_eq m n
next_same m n = grind (arith, nat_tests)

-- where each list begins with the other, they are as long
pub both_begin : (ws vs : List TokenKind) → begins_with ws vs && begins_with vs ws ≡ begins_with ws vs && nat_eq (length vs) (length ws)
both_begin [] [] = refl
both_begin (w ∷ ws) [] = sym (more_false (length ws))
both_begin [] (v ∷ vs) = refl
both_begin (w ∷ ws) (v ∷ vs) =
    both (same_token w v) (same_token v w) (begins_with ws vs) (begins_with vs ws) (nat_eq (length vs) (length ws)) (token_turned w v) (both_begin ws vs)
    ∙ ap (λ x. (same_token w v && begins_with ws vs) && x) (sym (next_same (length vs) (length ws)))

drop_at : (ws : List TokenKind) (n : ℕ) (t : TokenKind) → n < length ws → t ≡ get_or ws n t → drop n ws ≡ t ∷ drop (suc n) ws
drop_at [] n t l e = absurd (omega arith)
drop_at (w ∷ ws) zero t l e = ap (λ x. x ∷ ws) (sym e)
drop_at (w ∷ ws) (suc n) t l e = drop_at ws n t (omega arith) e

fits_at : (vs ws : List TokenKind) (n : ℕ) (t : TokenKind) → n < length ws → t ≡ get_or ws n t → is_word_at vs n t ≡ true → begins_with (drop n vs) (drop n ws) ≡ begins_with (drop (suc n) vs) (drop (suc n) ws)
fits_at vs ws n t l e h = ap (begins_with (drop n vs)) (drop_at ws n t l e) ∙ begins_at vs n t (drop (suc n) ws) ∙ ap (λ b. b && begins_with (drop (suc n) vs) (drop (suc n) ws)) h

-- a word that fits is passed over
pub begins_more : (vs ws : List TokenKind) (n : ℕ) (t : TokenKind) → n < length ws → t ≡ get_or ws n t → is_word_at vs n t ≡ true → begins_with (drop n vs) (drop n ws) ≡ begins_with (drop (n + 1) vs) (drop (n + 1) ws)
begins_more vs ws n t l e h = let m : suc n ≡ n + 1 = omega arith in fits_at vs ws n t l e h ∙ ap (λ k. begins_with (drop k vs) (drop k ws)) m

-- one that doesn't fit ends it
pub begins_none : (vs ws : List TokenKind) (n : ℕ) (t : TokenKind) → n < length ws → t ≡ get_or ws n t → is_word_at vs n t ≡ false → begins_with (drop n vs) (drop n ws) ≡ false
begins_none vs ws n t l e h = ap (begins_with (drop n vs)) (drop_at ws n t l e) ∙ begins_at vs n t (drop (suc n) ws) ∙ ap (λ b. b && begins_with (drop (suc n) vs) (drop (suc n) ws)) h
