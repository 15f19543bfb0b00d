-- How a text begins: with which token, or with what stands between tokens.
use Rattle.std.specs.Prelude.{◌≡◌, ℕ, ◌+◌, ◌≤◌, ◌<◌, Bool, true, false, ◌==◌, ◌&&◌, ◌||◌, not, IsTrue, List, [], ◌∷◌, ◌++◌, length, take, drop, slice_index, Option, Some, None, nat_le, if◌then◌else◌}
use Rattle.std.specs.Str.Parse.{digits_value}
use Rattle.actx_grammar.specs.declared.token.Sign.{Sign}
use Rattle.actx_grammar.specs.declared.token.Sign.TheVariants as s
use Rattle.actx_grammar.specs.declared.token.TokenKind.{TokenKind}
use Rattle.actx_grammar.specs.Words.{greatest_number}
use Rattle.actx_lex.specs.declared.lex.LexFault.{LexFault}
use Rattle.actx_lex.specs.declared.lex.LexFault.TheVariants as fault
use Rattle.actx_lex.specs.declared.token.Token.{Token}
use Rattle.actx_lex.specs.Characters.{is_line_end, is_space, is_digit}
use Rattle.actx_lex.specs.Lexical.{IsToken, IsLongest, MayFollow, IsComment, Place, start, Reads, Nothing, begins_number}

-- the text begins with a token of this kind, which is n characters long
pub record Begins (fresh : Bool) (text : List ℕ) (k : TokenKind) (n : ℕ) : Type 0 where
  pub fits : n ≤ length text
  pub token : IsToken k (take n text)
  pub longest : IsLongest (take n text) (drop n text)
  pub follows : MayFollow fresh k (drop n text)

abbrev pub NoToken : Bool → List ℕ → Type 0
NoToken fresh text = (k : TokenKind) (n : ℕ) → Begins fresh text k n → ⊥

-- GAPS
-- white space, a line end or a comment, before what is left
pub data Gap : List ℕ → List ℕ → Type 0 where
  blank : {c : ℕ} {rest : List ℕ} → IsTrue (is_space c || is_line_end c) → Gap (c ∷ []) rest
  comment : {w rest : List ℕ} → IsComment w rest → Gap w rest

pub record IsGap (text : List ℕ) (n : ℕ) : Type 0 where
  pub fits : n ≤ length text
  pub gap : Gap (take n text) (drop n text)

abbrev pub NoGap : List ℕ → Type 0
NoGap text = (w rest : List ℕ) → text ≡ w ++ rest → Gap w rest → ⊥

abbrev pub is_inside_line : ℕ → Bool
is_inside_line c = not (is_line_end c)

-- the characters that end a block comment stand at k
abbrev pub EndsAt : List ℕ → ℕ → Type 0
EndsAt text k = (slice_index text k ≡ 42) × (slice_index text (k + 1) ≡ 47)

-- a block comment that goes on with these characters is n long, or has no end and n is 0
pub data FirstEnd (text : List ℕ) : ℕ → Type 0 where
  no_end : ((k : ℕ) → EndsAt text k → ⊥) → FirstEnd text 0
  first_end : (k : ℕ) → EndsAt text k → ((j : ℕ) → j < k → EndsAt text j → ⊥) → FirstEnd text (k + 4)

-- SIGNS: which sign the longest punctuator is that begins with a character and goes on with b, c and d
-- `.`
abbrev pub dot_sign : ℕ → ℕ → Option Sign
dot_sign b c = if (b == 46) && (c == 46) then None else Some s.Dot

-- `?`
abbrev pub question_sign : ℕ → ℕ → Option Sign
question_sign b c = if (b == 46) && not (is_digit c) then None else (if (b == 63) && (c == 61) then None else (if b == 63 then Some s.Coalesce else Some s.Question))

-- `=`
abbrev pub equals_sign : ℕ → ℕ → Option Sign
equals_sign b c = if (b == 61) && (c == 61) then Some s.Same else (if b == 61 then None else (if b == 62 then Some s.Arrow else Some s.Assign))

-- `+`
abbrev pub plus_sign : ℕ → Option Sign
plus_sign b = if b == 61 then Some s.AddAssign else (if b == 43 then Some s.Increment else Some s.Plus)

-- `-`
abbrev pub minus_sign : ℕ → Option Sign
minus_sign b = if b == 61 then Some s.SubAssign else (if b == 45 then Some s.Decrement else Some s.Minus)

-- `*`
abbrev pub star_sign : ℕ → Option Sign
star_sign b = if b == 61 then Some s.MulAssign else (if b == 42 then None else Some s.Star)

-- `!`
abbrev pub not_sign : ℕ → ℕ → Option Sign
not_sign b c = if (b == 61) && (c == 61) then Some s.NotSame else (if b == 61 then None else Some s.Not)

-- `<`
abbrev pub less_sign : ℕ → ℕ → ℕ → Option Sign
less_sign b c d = if b == 60 then None else (if (b == 33) && ((c == 45) && (d == 45)) then None else (if b == 61 then Some s.LessSame else Some s.Less))

-- `>`
abbrev pub more_sign : ℕ → Option Sign
more_sign b = if b == 62 then None else (if b == 61 then Some s.MoreSame else Some s.More)

-- `&`
abbrev pub and_sign : ℕ → ℕ → Option Sign
and_sign b c = if (b == 38) && (c == 61) then None else (if b == 38 then Some s.And else None)

-- `|`
abbrev pub or_sign : ℕ → ℕ → Option Sign
or_sign b c = if (b == 124) && (c == 61) then None else (if b == 124 then Some s.Or else None)

-- the sign that begins with these four, or None where none does or a longer punctuator that is no sign begins there
abbrev pub longest_sign : ℕ → ℕ → ℕ → ℕ → Option Sign
longest_sign a b c d =
    if a == 123 then Some s.OpenBrace
    else (if a == 125 then Some s.CloseBrace
    else (if a == 40 then Some s.OpenParen
    else (if a == 41 then Some s.CloseParen
    else (if a == 91 then Some s.OpenBracket
    else (if a == 93 then Some s.CloseBracket
    else (if a == 44 then Some s.Comma
    else (if a == 59 then Some s.Semicolon
    else (if a == 58 then Some s.Colon
    else (if a == 46 then dot_sign b c
    else (if a == 63 then question_sign b c
    else (if a == 61 then equals_sign b c
    else (if a == 43 then plus_sign b
    else (if a == 45 then minus_sign b
    else (if a == 42 then star_sign b
    else (if a == 33 then not_sign b c
    else (if a == 60 then less_sign b c d
    else (if a == 62 then more_sign b
    else (if a == 38 then and_sign b c
    else (if a == 124 then or_sign b c
    else None)))))))))))))))))))

-- whether a sign may stand before what follows its first character, b and c
abbrev pub may_follow : Bool → Sign → ℕ → ℕ → Bool
may_follow fresh s.Dot b c = not (is_digit b)
may_follow fresh s.Decrement b c = not (fresh && (c == 62))
may_follow fresh r b c = true

-- NUMBERS
-- the number that digits write, or None where it is too great
abbrev pub number_of : List ℕ → Option ℕ
number_of w = if nat_le (digits_value 10 w) greatest_number then Some (digits_value 10 w) else None

-- FAULTS
-- no token begins the text, which stands at a byte place
abbrev pub NoTokenAt : Bool → List ℕ → ℕ → LexFault → Type 0
NoTokenAt fresh text at (fault.BadToken n) = NoToken fresh text × (begins_number text ≡ false) × (at ≡ n)
NoTokenAt fresh text at (fault.BadNumber n) = NoToken fresh text × (begins_number text ≡ true) × (at ≡ n)
NoTokenAt fresh text at fault.NoMemory = Unit {0}
NoTokenAt fresh text at (fault.NotUtf8 n) = ⊥
NoTokenAt fresh text at fault.TooLong = ⊥

abbrev pub fault_at : List ℕ → ℕ → LexFault
fault_at text at = if begins_number text then fault.BadNumber at else fault.BadToken at

-- the characters are cut into these tokens
pub record Cut (chars : List ℕ) (ts : List Token) : Type 0 where
  pub last : Place
  pub reads : Reads start chars ts last []

-- after some tokens of the characters none stands at byte n, where a number begins or doesn't
pub record StuckAt (chars : List ℕ) (number : Bool) (n : ℕ) : Type 0 where
  pub tokens : List Token
  pub place : Place
  pub left : List ℕ
  pub reads : Reads start chars tokens place left
  pub at : place.at ≡ n
  pub nothing : Nothing place left
  pub kind : begins_number left ≡ number

abbrev pub CutFault : List ℕ → LexFault → Type 0
CutFault chars (fault.BadToken n) = StuckAt chars false n
CutFault chars (fault.BadNumber n) = StuckAt chars true n
CutFault chars fault.NoMemory = Unit {0}
CutFault chars (fault.NotUtf8 n) = ⊥
CutFault chars fault.TooLong = ⊥
