-- TOKENS OF A TEXT (ECMA-262, 12, restricted): the text is cut into white space, line ends, comments and tokens, each
-- token the longest that begins at its place.
use Rattle.std.specs.Prelude.{◌≡◌, ◌≢◌, ℕ, ◌+◌, ◌≤◌, ◌<◌, Bool, true, false, ◌==◌, ◌&&◌, ◌||◌, IsTrue, List, [], ◌∷◌, ◌++◌, length, Contains, ◌⊎◌, codes, take, if◌then◌else◌}
use Rattle.std.specs.Str.{encode_utf8_all, all_scalars}
use Rattle.std.specs.Str.Parse.{digits_value}
use Rattle.actx_grammar.specs.declared.token.Keyword.{Keyword}
use Rattle.actx_grammar.specs.declared.token.Sign.{Sign}
use Rattle.actx_grammar.specs.declared.token.Sign.TheVariants as s
use Rattle.actx_grammar.specs.declared.token.TokenKind.{TokenKind}
use Rattle.actx_grammar.specs.declared.token.TokenKind.TheVariants as t
use Rattle.actx_grammar.specs.Words.{keyword_text, sign_text, is_name_part, IsName, greatest_number}
use Rattle.actx_lex.specs.declared.token.Token.{Token}
use Rattle.actx_lex.specs.Characters.{AllPass, is_line_end, is_space, is_digit, begins_digit, Inside}

-- the punctuators of ECMA-262 of which no token is made, and `<!--` (B.1.1); they are read whole all the same
abbrev pub refused_signs : List (List ℕ)
refused_signs =
    codes "..." ∷
    codes "?." ∷
    codes "==" ∷
    codes "!=" ∷
    codes "**" ∷
    codes "%" ∷
    codes "&" ∷
    codes "|" ∷
    codes "^" ∷
    codes "~" ∷
    codes "<<" ∷
    codes ">>" ∷
    codes ">>>" ∷
    codes "**=" ∷
    codes "%=" ∷
    codes "&=" ∷
    codes "|=" ∷
    codes "^=" ∷
    codes "<<=" ∷
    codes ">>=" ∷
    codes ">>>=" ∷
    codes "/" ∷
    codes "/=" ∷
    codes "&&=" ∷
    codes "||=" ∷
    codes "??=" ∷
    codes "#" ∷
    codes "@" ∷
    codes "`" ∷
    codes "<!--" ∷ []

-- TOKENS
-- 0, or digits that don't begin with 0 (12.9.3)
pub data IsDecimal : List ℕ → Type 0 where
  just_zero : IsDecimal (48 ∷ [])
  digits_on : {c : ℕ} {cs : List ℕ} → IsTrue (is_digit c) → c ≢ 48 → AllPass is_digit cs → IsDecimal (c ∷ cs)

abbrev pub IsQuote : ℕ → Type 0
IsQuote q = (q ≡ 34) ⊎ (q ≡ 39)

-- the characters are a token of this kind
pub data IsToken : TokenKind → List ℕ → Type 0 where
  name_token : {x : List ℕ} → IsName x → IsToken (t.Name x) x
  keyword_token : (k : Keyword) → IsToken (t.Keyword k) (keyword_text k)
  number_token : {w : List ℕ} → IsDecimal w → digits_value 10 w ≤ greatest_number → IsToken (t.Number (digits_value 10 w)) w
  text_token : {q : ℕ} {cs us : List ℕ} → IsQuote q → Inside q cs us → IsToken (t.Text us) (q ∷ (cs ++ q ∷ []))
  sign_token : (s : Sign) → IsToken (t.Sign s) (sign_text s)

-- what is read whole before some characters: a token, or a punctuator of which no token is made; `?.` is none before a
-- digit (12.8, OptionalChainingPunctuator)
abbrev pub IsLexeme : List ℕ → List ℕ → Type 0
IsLexeme w rest = ((k : TokenKind) × IsToken k w) ⊎ (Contains refused_signs w × (w ≡ codes "?." → begins_digit rest ≡ false))

-- no longer lexeme begins here
abbrev pub IsLongest : List ℕ → List ℕ → Type 0
IsLongest w rest = (x y : List ℕ) → rest ≡ x ++ y → x ≢ [] → IsLexeme (w ++ x) y → ⊥

-- a number has no name character, digit or dot directly after it (12.9.3)
abbrev pub begins_free : List ℕ → Bool
begins_free [] = true
begins_free (c ∷ cs) = if is_name_part c || (c == 46) then false else true

abbrev pub begins_more : List ℕ → Bool
begins_more [] = false
begins_more (c ∷ cs) = c == 62

-- a dot before a digit begins a number, and `-->` is no token where only white space and comments stand before it on its
-- line (B.1.1)
abbrev pub MayFollow : Bool → TokenKind → List ℕ → Type 0
MayFollow fresh (t.Number n) rest = IsTrue (begins_free rest)
MayFollow fresh (t.Sign s.Dot) rest = begins_digit rest ≡ false
MayFollow fresh (t.Sign s.Decrement) rest = IsTrue fresh → begins_more rest ≡ false
MayFollow fresh k rest = Unit {0}

-- COMMENTS (12.4)
-- the end of the text, or a line end
abbrev pub begins_line_end : List ℕ → Bool
begins_line_end [] = true
begins_line_end (c ∷ cs) = is_line_end c

abbrev pub has_line_end : List ℕ → Bool
has_line_end [] = false
has_line_end (c ∷ cs) = is_line_end c || has_line_end cs

-- a comment begins with these characters and goes on with those behind it
pub data IsComment : List ℕ → List ℕ → Type 0 where
  line_comment : {cs rest : List ℕ} → has_line_end cs ≡ false → IsTrue (begins_line_end rest) → IsComment (47 ∷ 47 ∷ cs) rest
  -- it ends with the first */
  block_comment : (cs : List ℕ) {rest : List ℕ} → ((x y : List ℕ) → cs ++ 42 ∷ [] ≡ x ++ 42 ∷ 47 ∷ y → ⊥) → IsComment (47 ∷ 42 ∷ (cs ++ 42 ∷ 47 ∷ [])) rest

-- PLACES
-- how many bytes some characters take in UTF-8
abbrev pub size : List ℕ → ℕ
size cs = length (encode_utf8_all cs)

-- where the reading of a text stands: its byte place, whether a line end stands between it and the last token, and
-- whether it is on the first token's line with no token before it
pub record Place : Type 0 where
  pub at : ℕ
  pub line_before : Bool
  pub first : Bool

abbrev pub start : Place
start = record { at = 0; line_before = false; first = true }

-- whether only white space and comments stand before the place on its line
abbrev pub is_fresh : Place → Bool
is_fresh p = p.line_before || p.first

-- behind characters that are no token
abbrev pub passed : Place → List ℕ → Place
passed p cs = record { at = p.at + size cs; line_before = p.line_before || has_line_end cs; first = p.first }

-- behind a token
abbrev pub behind : Place → List ℕ → Place
behind p cs = record { at = p.at + size cs; line_before = false; first = false }

abbrev pub token_at : TokenKind → Place → Token
token_at k p = record { kind = k; at = p.at; line_before = p.line_before }

-- READING
-- the first characters from a place on are cut into these tokens up to another place, where those characters are left
pub data Reads : Place → List ℕ → List Token → Place → List ℕ → Type 0 where
  here : {p : Place} {cs : List ℕ} → Reads p cs [] p cs
  blank : {p r : Place} {c : ℕ} {cs left : List ℕ} {ts : List Token} → IsTrue (is_space c || is_line_end c) → Reads (passed p (c ∷ [])) cs ts r left → Reads p (c ∷ cs) ts r left
  comment : {p r : Place} {w cs left : List ℕ} {ts : List Token} → IsComment w cs → Reads (passed p w) cs ts r left → Reads p (w ++ cs) ts r left
  token : {p r : Place} {k : TokenKind} {w cs left : List ℕ} {ts : List Token} → IsToken k w → IsLongest w cs → MayFollow (is_fresh p) k cs → Reads (behind p w) cs ts r left → Reads p (w ++ cs) (token_at k p ∷ ts) r left

-- nothing that may stand here begins with these characters
pub record Nothing (p : Place) (cs : List ℕ) : Type 0 where
  pub more : cs ≢ []
  pub no_blank : (c : ℕ) (rest : List ℕ) → cs ≡ c ∷ rest → is_space c || is_line_end c ≡ false
  pub no_comment : (w rest : List ℕ) → cs ≡ w ++ rest → IsComment w rest → ⊥
  pub no_token : (k : TokenKind) (w rest : List ℕ) → cs ≡ w ++ rest → IsToken k w → IsLongest w rest → MayFollow (is_fresh p) k rest → ⊥

-- a number begins here, though maybe none that is taken: a digit, or a dot before one
abbrev pub begins_number : List ℕ → Bool
begins_number [] = false
begins_number (c ∷ cs) = is_digit c || ((c == 46) && begins_digit cs)

-- TEXTS
-- the text is the characters in UTF-8, each of which is a Unicode scalar value
pub record IsText (text cs : List ℕ) : Type 0 where
  pub scalars : all_scalars cs ≡ true
  pub encoded : text ≡ encode_utf8_all cs

-- the text is no characters in UTF-8, and its first n bytes are the most that are
pub record NotText (text : List ℕ) (n : ℕ) : Type 0 where
  pub none : (cs : List ℕ) → IsText text cs → ⊥
  pub within : n ≤ length text
  pub chars : List ℕ
  pub front : IsText (take n text) chars
  pub longest : (m : ℕ) (cs : List ℕ) → n < m → m ≤ length text → IsText (take m text) cs → ⊥

-- the tokens of a text
pub record Tokens (text : List ℕ) (ts : List Token) : Type 0 where
  pub chars : List ℕ
  pub is : IsText text chars
  pub last : Place
  pub reads : Reads start chars ts last []

-- after some tokens no token stands at byte n, where a number begins or doesn't
pub record Stuck (text : List ℕ) (number : Bool) (n : ℕ) : Type 0 where
  pub chars : List ℕ
  pub is : IsText text chars
  pub tokens : List Token
  pub place : Place
  pub left : List ℕ
  pub reads : Reads start chars tokens place left
  pub at : place.at ≡ n
  pub nothing : Nothing place left
  pub kind : begins_number left ≡ number

abbrev pub kinds_of : List Token → List TokenKind
kinds_of [] = []
kinds_of (t ∷ ts) = t.kind ∷ kinds_of ts

-- LAWS
-- no text has two lists of tokens, or has one and is stuck, or is stuck at two places
abbrev pub OneCut : Type 0
OneCut = (text : List ℕ) (ts us : List Token) → Tokens text ts → Tokens text us → ts ≡ us

abbrev pub NotStuck : Type 0
NotStuck = (text : List ℕ) (ts : List Token) (number : Bool) (n : ℕ) → Tokens text ts → Stuck text number n → ⊥

abbrev pub OneStop : Type 0
OneStop = (text : List ℕ) (number other : Bool) (n m : ℕ) → Stuck text number n → Stuck text other m → (number ≡ other) × (n ≡ m)
