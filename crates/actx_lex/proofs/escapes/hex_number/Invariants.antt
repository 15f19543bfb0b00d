use Rattle.std.proofs.Common.{◌≡◌, ◌≤◌, drop}
use Rattle.std.specs.List.{list_all}
use Rattle.actx_lex.specs.Characters.{is_hex, hex_on}
use Rattle.actx_lex.proofs.escapes.hex_number.Given as goal

abbrev pub invariant-loop-digit : goal.invariant-loop-digit
invariant-loop-digit l = record {
  value : hex_on l.value (drop l.digit-index l.digits) ≡ hex_on 0 l.digits;
  all : list_all is_hex (drop l.digit-index l.digits) ≡ list_all is_hex l.digits;
  small : l.value ≤ 1114111;
}
