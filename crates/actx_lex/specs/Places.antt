-- LINES AND COLUMNS of a text's characters, both from 1. Line ends are LF, CR, CR LF, U+2028 and U+2029 (ECMA-262, 12.3).
use Rattle.std.specs.Prelude.{◌≡◌, ℕ, ◌+◌, Bool, ◌==◌, ◌&&◌, not, IsTrue, List, [], ◌∷◌, ◌++◌, length, take, slice_index, ◌⊎◌, if◌then◌else◌}
use Rattle.actx_lex.specs.Characters.{is_line_end}
use Rattle.actx_lex.specs.Lexical.{IsText}

-- whether a LF comes next: among these characters or, where there is none, behind them
abbrev pub feeds : Bool → List ℕ → Bool
feeds lf [] = lf
feeds lf (c ∷ cs) = c == 10

-- whether a line end ends with a character: CR LF ends with its LF alone
abbrev pub is_last : ℕ → Bool → Bool
is_last c lf = is_line_end c && not ((c == 13) && lf)

-- how many line ends end among the characters, behind which a LF comes or doesn't
abbrev pub line_ends : Bool → List ℕ → ℕ
line_ends lf [] = 0
line_ends lf (c ∷ cs) = (if is_last c (feeds lf cs) then 1 else 0) + line_ends lf cs

-- the characters behind the last of these line ends
pub record IsLine (lf : Bool) (cs : List ℕ) (line : List ℕ) : Type 0 where
  pub before : List ℕ
  pub is : cs ≡ before ++ line
  pub unbroken : line_ends lf line ≡ 0
  pub begins : (before ≡ []) ⊎ ((x : List ℕ) × (c : ℕ) × (before ≡ x ++ c ∷ []) × IsTrue (is_last c (feeds lf line)))

-- the place behind the characters
pub record StandsAt (lf : Bool) (cs : List ℕ) (line column : ℕ) : Type 0 where
  pub lines : line ≡ line_ends lf cs + 1
  pub text : List ℕ
  pub is_line : IsLine lf cs text
  pub columns : column ≡ length text + 1

-- the place of a byte of a text
pub record IsPlace (text : List ℕ) (at line column : ℕ) : Type 0 where
  pub chars : List ℕ
  pub is : IsText (take at text) chars
  pub stands : StandsAt (slice_index text at == 10) chars line column
