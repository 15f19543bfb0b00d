-- Where the reading of a text stands, as the code keeps it.
use Rattle.actx_lex.specs.declared.spot.Spot.{Spot}
use Rattle.actx_lex.specs.Lexical.{Place}

abbrev pub place_of : Spot → Place
place_of s = record { at = s.at; line_before = s.line_before; first = s.first }
