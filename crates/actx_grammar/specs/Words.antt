-- The reserved words and punctuators as they are written (ECMA-262, 12.7.2 and 12.8), and the forms of tokens.
use Rattle.std.specs.Prelude.{◌≡◌, ◌≢◌, ℕ, ◌+◌, ◌-◌, ◌/◌, ◌%◌, ◌<◌, ◌≤◌, nat_lt, Bool, ◌==◌, ◌||◌, IsTrue, List, [], ◌∷◌, All, codes, flat_map, if◌then◌else◌}
use Rattle.unicode_ident.specs.Ident.{is_xid_start, is_xid_continue}
use Rattle.actx_grammar.specs.declared.token.Keyword.{Keyword}
use Rattle.actx_grammar.specs.declared.token.Keyword.TheVariants as k
use Rattle.actx_grammar.specs.declared.token.Sign.{Sign}
use Rattle.actx_grammar.specs.declared.token.Sign.TheVariants as s
use Rattle.actx_grammar.specs.declared.token.TokenKind.{TokenKind}
use Rattle.actx_grammar.specs.declared.token.TokenKind.TheVariants as t

-- the reserved words (12.7.2), `async` and `await` among them
abbrev pub keyword_text : Keyword → List ℕ
keyword_text k.Async = codes "async"
keyword_text k.Await = codes "await"
keyword_text k.Break = codes "break"
keyword_text k.Case = codes "case"
keyword_text k.Catch = codes "catch"
keyword_text k.Class = codes "class"
keyword_text k.Const = codes "const"
keyword_text k.Continue = codes "continue"
keyword_text k.Debugger = codes "debugger"
keyword_text k.Default = codes "default"
keyword_text k.Delete = codes "delete"
keyword_text k.Do = codes "do"
keyword_text k.Else = codes "else"
keyword_text k.Enum = codes "enum"
keyword_text k.Export = codes "export"
keyword_text k.Extends = codes "extends"
keyword_text k.False = codes "false"
keyword_text k.Finally = codes "finally"
keyword_text k.For = codes "for"
keyword_text k.Function = codes "function"
keyword_text k.If = codes "if"
keyword_text k.Implements = codes "implements"
keyword_text k.Import = codes "import"
keyword_text k.In = codes "in"
keyword_text k.Instanceof = codes "instanceof"
keyword_text k.Interface = codes "interface"
keyword_text k.Let = codes "let"
keyword_text k.New = codes "new"
keyword_text k.Null = codes "null"
keyword_text k.Package = codes "package"
keyword_text k.Private = codes "private"
keyword_text k.Protected = codes "protected"
keyword_text k.Public = codes "public"
keyword_text k.Return = codes "return"
keyword_text k.Static = codes "static"
keyword_text k.Super = codes "super"
keyword_text k.Switch = codes "switch"
keyword_text k.This = codes "this"
keyword_text k.Throw = codes "throw"
keyword_text k.True = codes "true"
keyword_text k.Try = codes "try"
keyword_text k.Typeof = codes "typeof"
keyword_text k.Var = codes "var"
keyword_text k.Void = codes "void"
keyword_text k.While = codes "while"
keyword_text k.With = codes "with"
keyword_text k.Yield = codes "yield"

abbrev pub keywords : List Keyword
keywords =
    k.Async ∷
    k.Await ∷
    k.Break ∷
    k.Case ∷
    k.Catch ∷
    k.Class ∷
    k.Const ∷
    k.Continue ∷
    k.Debugger ∷
    k.Default ∷
    k.Delete ∷
    k.Do ∷
    k.Else ∷
    k.Enum ∷
    k.Export ∷
    k.Extends ∷
    k.False ∷
    k.Finally ∷
    k.For ∷
    k.Function ∷
    k.If ∷
    k.Implements ∷
    k.Import ∷
    k.In ∷
    k.Instanceof ∷
    k.Interface ∷
    k.Let ∷
    k.New ∷
    k.Null ∷
    k.Package ∷
    k.Private ∷
    k.Protected ∷
    k.Public ∷
    k.Return ∷
    k.Static ∷
    k.Super ∷
    k.Switch ∷
    k.This ∷
    k.Throw ∷
    k.True ∷
    k.Try ∷
    k.Typeof ∷
    k.Var ∷
    k.Void ∷
    k.While ∷
    k.With ∷
    k.Yield ∷ []

-- the punctuators (12.8)
abbrev pub sign_text : Sign → List ℕ
sign_text s.OpenBrace = codes "{"
sign_text s.CloseBrace = codes "}"
sign_text s.OpenParen = codes "("
sign_text s.CloseParen = codes ")"
sign_text s.OpenBracket = codes "["
sign_text s.CloseBracket = codes "]"
sign_text s.Dot = codes "."
sign_text s.Comma = codes ","
sign_text s.Semicolon = codes ";"
sign_text s.Colon = codes ":"
sign_text s.Question = codes "?"
sign_text s.Arrow = codes "=>"
sign_text s.Assign = codes "="
sign_text s.AddAssign = codes "+="
sign_text s.SubAssign = codes "-="
sign_text s.MulAssign = codes "*="
sign_text s.Increment = codes "++"
sign_text s.Decrement = codes "--"
sign_text s.Plus = codes "+"
sign_text s.Minus = codes "-"
sign_text s.Star = codes "*"
sign_text s.Not = codes "!"
sign_text s.Less = codes "<"
sign_text s.LessSame = codes "<="
sign_text s.More = codes ">"
sign_text s.MoreSame = codes ">="
sign_text s.Same = codes "==="
sign_text s.NotSame = codes "!=="
sign_text s.And = codes "&&"
sign_text s.Or = codes "||"
sign_text s.Coalesce = codes "??"

-- NAMES (12.7), without escapes: IdentifierStart and IdentifierPart
abbrev pub is_name_start : ℕ → Bool
is_name_start c = (c == 36) || (c == 95) || is_xid_start c

abbrev pub is_name_part : ℕ → Bool
is_name_part c = (c == 36) || is_xid_continue c

-- a name, which is no reserved word
pub record IsName (x : List ℕ) : Type 0 where
  pub first : ℕ
  pub more : List ℕ
  pub is : x ≡ first ∷ more
  pub starts : IsTrue (is_name_start first)
  pub goes_on : All (λ c. IsTrue (is_name_part c)) more
  pub free : (k : Keyword) → x ≢ keyword_text k

-- a character as UTF-16 code units (11.1.1), and a word so
abbrev pub units_of : ℕ → List ℕ
units_of c = if nat_lt c 65536 then c ∷ [] else (55296 + (c - 65536) / 1024) ∷ (56320 + (c - 65536) % 1024) ∷ []

abbrev pub word_units : List ℕ → List ℕ
word_units x = flat_map units_of x

-- FORMS OF TOKENS
-- the greatest number that is written, 2^53 - 1 (21.1.2.6)
abbrev pub greatest_number : ℕ
greatest_number = 9007199254740991

-- a token of its kind's form; the units of a text have 16 bits
abbrev pub HasForm : TokenKind → Type 0
HasForm (t.Name x) = IsName x
HasForm (t.Keyword k) = Unit {0}
HasForm (t.Number n) = n ≤ greatest_number
HasForm (t.Text us) = All (λ u. u < 65536) us
HasForm (t.Sign s) = Unit {0}
