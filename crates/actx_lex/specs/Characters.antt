-- Characters of a text, and what a text in quotes stands for (ECMA-262, 12). A character is its code point.
use Rattle.std.specs.Prelude.{◌≢◌, ℕ, ◌+◌, ◌*◌, ◌≤◌, ◌-◌, ◌/◌, ◌%◌, Bool, true, false, ◌==◌, ◌&&◌, ◌||◌, nat_le, nat_lt, IsTrue, List, [], ◌∷◌, ◌++◌, All, if◌then◌else◌}
use Rattle.actx_grammar.specs.Words.{units_of}

abbrev pub AllPass : (ℕ → Bool) → List ℕ → Type 0
AllPass p cs = All (λ c. IsTrue (p c)) cs

-- line terminators (12.3): LF, CR, U+2028 and U+2029
abbrev pub is_line_end : ℕ → Bool
is_line_end c = (c == 10) || (c == 13) || (c == 8232) || (c == 8233)

-- white space (12.2): TAB, VT, FF, space, U+00A0 and U+FEFF
abbrev pub is_space : ℕ → Bool
is_space c = (c == 9) || (c == 11) || (c == 12) || (c == 32) || (c == 160) || (c == 65279)

abbrev pub is_digit : ℕ → Bool
is_digit c = nat_le 48 c && nat_le c 57

-- HexDigit (12.9.3)
abbrev pub is_hex : ℕ → Bool
is_hex c = is_digit c || (nat_le 65 c && nat_le c 70) || (nat_le 97 c && nat_le c 102)

abbrev pub hex_value : ℕ → ℕ
hex_value c = if is_digit c then c - 48 else (if nat_le c 70 then c - 55 else c - 87)

-- the number that hexadecimal digits write, behind a number that is read already
abbrev pub hex_on : ℕ → List ℕ → ℕ
hex_on n [] = n
hex_on n (c ∷ cs) = hex_on (n * 16 + hex_value c) cs

-- what a letter behind a backslash stands for (12.9.4, SingleEscapeCharacter); any other character stands for itself
abbrev pub single_escape : ℕ → ℕ
single_escape c =
    if c == 98 then 8
    else (if c == 116 then 9
    else (if c == 110 then 10
    else (if c == 118 then 11
    else (if c == 102 then 12
    else (if c == 114 then 13
    else c)))))

-- a character that may stand alone behind a backslash: no line end, no digit, neither x nor u
abbrev pub is_escaped : ℕ → Bool
is_escaped c = if is_line_end c || is_digit c || (c == 120) || (c == 117) then false else true

abbrev pub begins_digit : List ℕ → Bool
begins_digit [] = false
begins_digit (c ∷ cs) = is_digit c

-- the characters between two quotes q, and the units that they stand for (12.9.4)
pub data Inside (q : ℕ) : List ℕ → List ℕ → Type 0 where
  nothing : Inside q [] []
  -- a character that stands for itself: no quote q, no backslash, neither LF nor CR
  itself : {c : ℕ} {cs us : List ℕ} → c ≢ q → c ≢ 92 → c ≢ 10 → c ≢ 13 → Inside q cs us → Inside q (c ∷ cs) (units_of c ++ us)
  -- \n and its like, and a backslash before any other character
  single : {c : ℕ} {cs us : List ℕ} → IsTrue (is_escaped c) → Inside q cs us → Inside q (92 ∷ c ∷ cs) (units_of (single_escape c) ++ us)
  -- \0 with no digit after it
  zero : {cs us : List ℕ} → IsTrue (if begins_digit cs then false else true) → Inside q cs us → Inside q (92 ∷ 48 ∷ cs) (0 ∷ us)
  -- \xHH
  two_hex : {a b : ℕ} {cs us : List ℕ} → AllPass is_hex (a ∷ b ∷ []) → Inside q cs us → Inside q (92 ∷ 120 ∷ a ∷ b ∷ cs) (hex_on 0 (a ∷ b ∷ []) ∷ us)
  -- \uHHHH
  four_hex : {a b c d : ℕ} {cs us : List ℕ} → AllPass is_hex (a ∷ b ∷ c ∷ d ∷ []) → Inside q cs us → Inside q (92 ∷ 117 ∷ a ∷ b ∷ c ∷ d ∷ cs) (hex_on 0 (a ∷ b ∷ c ∷ d ∷ []) ∷ us)
  -- \u{H..}, up to 10FFFF
  braced_hex : {h : ℕ} (hs : List ℕ) {cs us : List ℕ} → AllPass is_hex (h ∷ hs) → hex_on 0 (h ∷ hs) ≤ 1114111 → Inside q cs us → Inside q (92 ∷ 117 ∷ 123 ∷ h ∷ (hs ++ 125 ∷ cs)) (units_of (hex_on 0 (h ∷ hs)) ++ us)
  -- a backslash before a line end adds nothing; CR LF is one line end
  line_end : {c : ℕ} {cs us : List ℕ} → IsTrue (is_line_end c) → Inside q cs us → Inside q (92 ∷ c ∷ cs) us
  crlf : {cs us : List ℕ} → Inside q cs us → Inside q (92 ∷ 13 ∷ 10 ∷ cs) us
