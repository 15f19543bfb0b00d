-- Lines and columns, a character at a time.
use Rattle.std.specs.Prelude.{ℕ, ◌+◌, Bool, ◌==◌, ◌&&◌, not, if◌then◌else◌}
use Rattle.actx_lex.specs.declared.lines.Place.{Place}
use Rattle.actx_lex.specs.Characters.{is_line_end}

abbrev pub next_line : Place → Place
next_line p = record { line = p.line + 1; column = 1 }

-- behind a CR, if there is one, where a LF follows or doesn't
abbrev pub settled : Place → Bool → Bool → Place
settled p returned feeds = if returned && not feeds then next_line p else p

-- behind one character more, a CR being taken for a part of CR LF
abbrev pub next_place : Place → ℕ → Place
next_place p c = if not (c == 13) && is_line_end c then next_line p else record { line = p.line; column = p.column + 1 }
