-- The text of tokens: one space between two, one LF instead after `;`, `{` and `}`, and one LF at the end.
use Rattle.std.specs.Prelude.{ℕ, ◌+◌, ◌/◌, ◌%◌, List, [], ◌∷◌, ◌++◌, ◌==◌, ◌||◌, ◌&&◌, nat_le, nat_lt, if◌then◌else◌, flat_map, decimal}
use Rattle.actx_grammar.specs.declared.token.TokenKind.{TokenKind}
use Rattle.actx_grammar.specs.declared.token.TokenKind.TheVariants as t
use Rattle.actx_grammar.specs.Layout.{ends_line}
use Rattle.actx_grammar.specs.Words.{keyword_text, sign_text}

-- a lower-case hexadecimal digit
abbrev pub hex_digit : ℕ → ℕ
hex_digit n = if nat_lt n 10 then 48 + n else 87 + n

-- a unit of a text: itself from 0x20 to 0x7E, with " and \ after a backslash, and \u with four digits otherwise
abbrev pub unit_text : ℕ → List ℕ
unit_text u =
    if (u == 34) || (u == 92) then 92 ∷ u ∷ []
    else (if nat_le 32 u && nat_le u 126 then u ∷ []
    else 92 ∷ 117 ∷ hex_digit (u / 4096) ∷ hex_digit (u / 256 % 16) ∷ hex_digit (u / 16 % 16) ∷ hex_digit (u % 16) ∷ [])

-- a text in quotes
abbrev pub quoted : List ℕ → List ℕ
quoted us = 34 ∷ (flat_map unit_text us ++ 34 ∷ [])

-- the characters of a token
abbrev pub token_text : TokenKind → List ℕ
token_text (t.Name x) = x
token_text (t.Keyword k) = keyword_text k
token_text (t.Number n) = decimal n
token_text (t.Text us) = quoted us
token_text (t.Sign s) = sign_text s

abbrev pub gap_after : TokenKind → ℕ
gap_after t = if ends_line t then 10 else 32

-- the characters of a text
abbrev pub layout : List TokenKind → List ℕ
layout [] = 10 ∷ []
layout (t ∷ []) = token_text t ++ 10 ∷ []
layout (t ∷ u ∷ ts) = token_text t ++ gap_after t ∷ layout (u ∷ ts)
