-- A word that no reserved word is written as is a name.
use Rattle.std.proofs.Common.{◌≡◌, ◌≢◌, ℕ, ◌==◌, false, List, [], ◌∷◌, refl, sym, ◌∙◌}
use Rattle.std.proofs.lemmas.Bool.{cond-false, false_from_ne_true}
use Rattle.std.specs.Cmp.Lexicographic.{pointwise, same_text}
use Rattle.actx_grammar.specs.declared.token.Keyword.{Keyword}
use Rattle.actx_grammar.specs.declared.token.TokenKind.TheVariants as t
use Rattle.actx_grammar.specs.Spell.{word_among, word_token}
use Rattle.actx_grammar.specs.Words.{keyword_text, keywords}

words_free : (ws : List Keyword) (x : List ℕ) → ((q : Keyword) → x ≢ keyword_text q) → word_among ws x ≡ t.Name x
words_free [] x h = refl
words_free (w ∷ ws) x h =
    let apart : pointwise ◌==◌ (keyword_text w) x ≡ false = false_from_ne_true (pointwise ◌==◌ (keyword_text w) x) (λ e. h w (sym (same_text (keyword_text w) x (sym e)))) in
    cond-false (pointwise ◌==◌ (keyword_text w) x) (t.Keyword w) (word_among ws x) apart ∙ words_free ws x h

pub word_free : (x : List ℕ) → ((q : Keyword) → x ≢ keyword_text q) → word_token x ≡ t.Name x
word_free x h = words_free keywords x h
