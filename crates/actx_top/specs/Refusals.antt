-- WHY AND WHERE A TEXT IS NOT LOWERED: each number of a refusal with its cause, and the byte at which it stands.
use Rattle.std.specs.Prelude.{◌≡◌, ℕ, zero, suc, ◌≤◌, ◌<◌, List, [], ◌∷◌, length, true, false, Some, slice_get}
use Rattle.actx_grammar.specs.declared.side.Side.TheVariants.{Source}
use Rattle.actx_grammar.specs.Exact.{IsFirst, IsReason}
use Rattle.actx_grammar.specs.Grammar.{IsSpelled}
use Rattle.actx_grammar.specs.Parser.{Reason, unexpected, too_deep, too_many}
use Rattle.actx_grammar.specs.Places.{stmts_places}
use Rattle.actx_grammar.specs.Static.{Kind, undeclared, twice, reserved, misplaced, first_offence}
use Rattle.actx_grammar.specs.Tree.{Stmts}
use Rattle.actx_lex.specs.declared.token.Token.{Token}
use Rattle.actx_lex.specs.Lexical.{NotText, Stuck, Tokens}
use Rattle.actx_lex.specs.Lexemes.{lexemes}
use Rattle.actx_lex.specs.Places.{IsPlace}
use Rattle.actx_top.specs.Accepts.{longest_source, Accepts}
use Rattle.actx_rules.specs.Taken.{first_untaken}

-- BYTES
-- the first byte of the token with this number, or the text's end where there is none
abbrev pub byte_of : List Token → ℕ → ℕ → ℕ
byte_of [] end i = end
byte_of (t ∷ ts) end zero = t.at
byte_of (t ∷ ts) end (suc i) = byte_of ts end i

-- a node of a program that the tokens spell begins at the token with this number
abbrev pub BeginsAt : Stmts → List Token → ℕ → ℕ → Type 0
BeginsAt p ts node token = (d : IsSpelled Source p (lexemes ts)) → slice_get (stmts_places 0 d) node ≡ Some token

-- the byte is that of the token at which a node begins, where the node has a place
abbrev pub IsByteOf : List Token → List ℕ → (end node at : ℕ) → Type 0
IsByteOf ts places end node at = (i : ℕ) → slice_get places node ≡ Some i → at ≡ byte_of ts end i

-- CAUSES
-- the text has tokens, which spell no program: of them or their end the first with which no program goes on, for this reason
pub record NoProgram (text : List ℕ) (why : Reason) (at : ℕ) : Type 0 where
  pub tokens : List Token
  pub cut : Tokens text tokens
  pub none : (p : Stmts) → IsSpelled Source p (lexemes tokens) → ⊥
  pub token : ℕ
  pub first : IsFirst Source (lexemes tokens) token
  pub reason : IsReason Source (lexemes tokens) token why
  pub place : at ≡ byte_of tokens (length text) token

-- the text is spelled as a program whose first offence is of this kind
pub record Offends (text : List ℕ) (kind : Kind) (at : ℕ) : Type 0 where
  pub tokens : List Token
  pub cut : Tokens text tokens
  pub program : Stmts
  pub spelled : IsSpelled Source program (lexemes tokens)
  pub node : ℕ
  pub first : first_offence program ≡ Some (record { node = node; kind = kind })
  pub token : ℕ
  pub begins : BeginsAt program tokens node token
  pub place : at ≡ byte_of tokens (length text) token

-- the text is accepted as a program with a node whose form doesn't run yet
pub record Waits (text : List ℕ) (at : ℕ) : Type 0 where
  pub program : Stmts
  pub accepted : Accepts text program
  pub node : ℕ
  pub first : first_untaken program ≡ Some node
  pub token : ℕ
  pub begins : BeginsAt program accepted.tokens node token
  pub place : at ≡ byte_of accepted.tokens (length text) token

-- the cause of a number, at a byte
pub data Cause (text : List ℕ) : ℕ → ℕ → Type 0 where
  not_utf8 : (at : ℕ) → NotText text at → Cause text 1 at
  bad_token : (at : ℕ) → Stuck text false at → Cause text 2 at
  bad_number : (at : ℕ) → Stuck text true at → Cause text 4 at
  is_unexpected : (at : ℕ) → NoProgram text unexpected at → Cause text 5 at
  is_too_deep : (at : ℕ) → NoProgram text too_deep at → Cause text 6 at
  are_too_many : (at : ℕ) → NoProgram text too_many at → Cause text 7 at
  not_declared : (at : ℕ) → Offends text undeclared at → Cause text 8 at
  bound_twice : (at : ℕ) → Offends text twice at → Cause text 9 at
  is_reserved : (at : ℕ) → Offends text reserved at → Cause text 10 at
  is_misplaced : (at : ℕ) → Offends text misplaced at → Cause text 11 at
  not_yet : (at : ℕ) → Waits text at → Cause text 13 at

-- REFUSALS
-- the refusal of a text with this number, at a byte
pub data Refuses (text : List ℕ) : ℕ → ℕ → Type 0 where
  too_long : longest_source < length text → Refuses text 3 0
  within : {number at : ℕ} → length text ≤ longest_source → Cause text number at → Refuses text number at

-- with the line and the column of its byte
pub record RefusedAt (text : List ℕ) (number line column : ℕ) : Type 0 where
  pub at : ℕ
  pub refuses : Refuses text number at
  pub place : IsPlace text at line column
