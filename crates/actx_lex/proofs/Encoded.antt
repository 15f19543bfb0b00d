-- A text and its characters.
use Rattle.std.proofs.Common.{◌≡◌, ℕ, Bool, List, length, sym, ap, arith}
use Rattle.std.specs.Str.{chars, IsUtf8, IsValidUpTo}
use Rattle.std.proofs.lemmas.Str.{scalars-chars, encodes-chars}
use Rattle.actx_lex.specs.declared.token.Token.{Token}
use Rattle.actx_lex.specs.Lexical.{size, IsText, NotText, Tokens, Stuck}
use Rattle.actx_lex.specs.Lexeme.{Cut, StuckAt}

pub text_of_chars : (text : List ℕ) → IsUtf8 text → IsText text (chars text)
text_of_chars text u = record { scalars = scalars-chars text u; encoded = sym (encodes-chars text u) }

pub size_chars : (text : List ℕ) → IsUtf8 text → size (chars text) ≡ length text
size_chars text u = ap length (encodes-chars text u)

utf8_from : {text cs : List ℕ} → IsText text cs → IsUtf8 text
utf8_from {text} {cs} t = (cs, (t.scalars, sym t.encoded))

pub not_text : (text : List ℕ) (n : ℕ) → (IsUtf8 text → ⊥) → IsValidUpTo text n → NotText text n
not_text text n never v = record {
  none = λ cs t. never (utf8_from t);
  within = let short = v.short in omega arith;
  chars = v.front.0;
  front = record { scalars = v.front.1.0; encoded = sym v.front.1.1 };
  longest = λ m cs lt le t. v.longest m lt (utf8_from t);
}

pub tokens_of : (text cs : List ℕ) (ts : List Token) → IsText text cs → Cut cs ts → Tokens text ts
tokens_of text cs ts t c = record { chars = cs; is = t; last = c.last; reads = c.reads }

pub stuck_at : (text cs : List ℕ) (number : Bool) (n : ℕ) → IsText text cs → StuckAt cs number n → Stuck text number n
stuck_at text cs number n t s = record { chars = cs; is = t; tokens = s.tokens; place = s.place; left = s.left; reads = s.reads; at = s.at; nothing = s.nothing; kind = s.kind }
