use Rattle.std.proofs.Common.{◌≡◌, ℕ, ◌<◌, get_or, true}
use Rattle.actx_lex.specs.Characters.{is_hex}
use Rattle.actx_lex.proofs.escapes.hex_len.Given as goal

abbrev pub invariant-loop-i : goal.invariant-loop-i
invariant-loop-i l = (k : ℕ) → k < l.i → is_hex (get_or l.text k 0) ≡ true
