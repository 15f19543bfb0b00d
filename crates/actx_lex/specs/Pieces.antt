-- What stands for one character between quotes (ECMA-262, 12.9.4), by the characters that a text begins with.
use Rattle.std.specs.Prelude.{ℕ, ◌+◌, ◌==◌, ◌&&◌, ◌||◌, not, nat_le, nat_lt, List, [], length, take, drop, slice_index, Option, Some, None, if◌then◌else◌}
use Rattle.std.specs.List.{prefix_len, list_all}
use Rattle.actx_grammar.specs.Words.{units_of}
use Rattle.actx_lex.specs.declared.escapes.Piece.{Piece}
use Rattle.actx_lex.specs.Characters.{is_line_end, is_digit, is_hex, hex_on, single_escape}

-- the code point that hexadecimal digits write, or None where another character is among them or it is too great
abbrev pub hex_number : List ℕ → Option ℕ
hex_number w = if list_all is_hex w && nat_le (hex_on 0 w) 1114111 then Some (hex_on 0 w) else None

abbrev pub piece : ℕ → Option ℕ → Option Piece
piece n code = Some (record { len = n; code = code })

-- an escape of n characters by a number, where there is one
abbrev pub by_number : ℕ → Option ℕ → Option Piece
by_number n None = None
by_number n (Some v) = piece n (Some v)

-- \xHH and \uHHHH, behind the letter
abbrev pub fixed : List ℕ → ℕ → Option Piece
fixed rest n = if nat_lt (length rest) n then None else by_number (n + 2) (hex_number (take n rest))

-- \u{H..}, behind the brace
abbrev pub braced : List ℕ → Option Piece
braced rest =
    if (prefix_len is_hex rest == 0) || not (slice_index rest (prefix_len is_hex rest) == 125) then None
    else by_number (prefix_len is_hex rest + 4) (hex_number (take (prefix_len is_hex rest) rest))

-- the escape of a backslash, a character and what follows
abbrev pub escape : ℕ → List ℕ → Option Piece
escape c rest =
    if c == 120 then fixed rest 2
    else (if (c == 117) && (slice_index rest 0 == 123) then braced (drop 1 rest)
    else (if c == 117 then fixed rest 4
    else (if (c == 13) && (slice_index rest 0 == 10) then piece 3 None
    else (if is_line_end c then piece 2 None
    else (if (c == 48) && not (is_digit (slice_index rest 0)) then piece 2 (Some 0)
    else (if is_digit c then None
    else piece 2 (Some (single_escape c))))))))

-- the character or escape that a text begins with
abbrev pub piece_of : List ℕ → Option Piece
piece_of text =
    if slice_index text 0 == 92 then (if nat_lt (length text) 2 then None else escape (slice_index text 1) (drop 2 text))
    else (if (slice_index text 0 == 10) || (slice_index text 0 == 13) then None
    else piece 1 (Some (slice_index text 0)))

-- the same, where a text begins with no quote
abbrev pub next_piece : ℕ → List ℕ → Option Piece
next_piece quote text = if (length text == 0) || (slice_index text 0 == quote) then None else piece_of text

-- the units of a code point, or none
abbrev pub units_in : Option ℕ → List ℕ
units_in None = []
units_in (Some c) = units_of c
