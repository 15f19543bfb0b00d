-- THE HEADLINE
-- For every accepted program whose forms run and every list of host events, the emitted text parses as the plain subset, and the two
-- runs match in both directions: for every bound on the steps of the one there is a bound of the other with the same
-- trace (the lines printed and the values read from variables) and the same end (going, ended, threw or left the
-- profile).
use Rattle.std.specs.Prelude.{◌≡◌, ℕ, List}
use Rattle.std.specs.Str.{encode_utf8_all}
use Rattle.actx_top.specs.Accepts.{Takes, ReadsPlain}
use Rattle.actx_emit.specs.Layout.{layout}
use Rattle.actx_grammar.specs.Spell.{spell_program}
use Rattle.actx_grammar.specs.Tree.{Stmts}
use Rattle.actx_rules.specs.Low.{low, OwnPart}
use Rattle.actx_rules.specs.Meaning.{Same}

-- the text that is emitted for a program
abbrev pub emitted : Stmts → List ℕ
emitted p = encode_utf8_all (layout (spell_program (low p)))

-- what is promised of a program p, whose emitted program is q
pub record Matches (p q : Stmts) : Type 0 where
  -- the emitted text parses to q
  pub reads : ReadsPlain (emitted p) q
  -- the run of p and the run of q match in both directions, for every list of host events
  pub same : Same p q
  -- q is the prelude, and then the statements of p with their names renamed
  pub own : OwnPart p q

-- a text is lowered to this one
pub record IsLowered (text made : List ℕ) : Type 0 where
  pub program : Stmts
  pub takes : Takes text program
  pub is : made ≡ emitted program
  pub matches : Matches program (low program)

-- every text that is a program of forms that run has its emitted program
abbrev pub Headline : Type 0
Headline = (text : List ℕ) (p : Stmts) → Takes text p → Matches p (low p)
