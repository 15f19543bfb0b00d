-- Operators and built-in forms in the grammar: their signs, words and arguments.
use Rattle.std.specs.Prelude.{ℕ, ◌≤◌, List, [], ◌∷◌, Bool, true, false, Option, Some, None, codes}
use Rattle.actx_data.specs.declared.shown.ErrorName.{ErrorName}
use Rattle.actx_data.specs.declared.shown.ErrorName.TheVariants as n
use Rattle.actx_grammar.specs.declared.operators.BinaryOp.{BinaryOp}
use Rattle.actx_grammar.specs.declared.operators.BinaryOp.TheVariants as o
use Rattle.actx_grammar.specs.declared.operators.Form.{Form}
use Rattle.actx_grammar.specs.declared.operators.Form.TheVariants as f
use Rattle.actx_grammar.specs.declared.operators.UnaryOp.{UnaryOp}
use Rattle.actx_grammar.specs.declared.operators.UnaryOp.TheVariants as u
use Rattle.actx_grammar.specs.declared.side.Side.{Side}
use Rattle.actx_grammar.specs.declared.side.Side.TheVariants.{Source, Plain}
use Rattle.actx_grammar.specs.declared.token.Keyword.TheVariants as k
use Rattle.actx_grammar.specs.declared.token.Sign.{Sign}
use Rattle.actx_grammar.specs.declared.token.Sign.TheVariants as s
use Rattle.actx_grammar.specs.declared.token.TokenKind.{TokenKind}
use Rattle.actx_grammar.specs.declared.token.TokenKind.TheVariants as t

-- OPERATORS
abbrev pub unary_word : UnaryOp → TokenKind
unary_word u.Not = t.Sign s.Not
unary_word u.Minus = t.Sign s.Minus
unary_word u.Typeof = t.Keyword k.Typeof
unary_word u.Void = t.Keyword k.Void

abbrev pub level_of : BinaryOp → ℕ
level_of o.Same = 5
level_of o.NotSame = 5
level_of o.Less = 6
level_of o.LessSame = 6
level_of o.More = 6
level_of o.MoreSame = 6
level_of o.Add = 7
level_of o.Sub = 7
level_of o.Mul = 8

abbrev pub sign_of : BinaryOp → Sign
sign_of o.Same = s.Same
sign_of o.NotSame = s.NotSame
sign_of o.Less = s.Less
sign_of o.LessSame = s.LessSame
sign_of o.More = s.More
sign_of o.MoreSame = s.MoreSame
sign_of o.Add = s.Plus
sign_of o.Sub = s.Minus
sign_of o.Mul = s.Star

-- += and its like
abbrev pub change_of : BinaryOp → Option Sign
change_of o.Add = Some s.AddAssign
change_of o.Sub = Some s.SubAssign
change_of o.Mul = Some s.MulAssign
change_of _ = None

abbrev pub bump_sign : Bool → Sign
bump_sign true = s.Increment
bump_sign false = s.Decrement

-- FORMS
abbrev pub error_text : ErrorName → List ℕ
error_text n.Error = codes "Error"
error_text n.TypeError = codes "TypeError"
error_text n.RangeError = codes "RangeError"
error_text n.ReferenceError = codes "ReferenceError"

abbrev pub word : List ℕ → TokenKind
word x = t.Name x

abbrev pub dot : TokenKind
dot = t.Sign s.Dot

-- the tokens before the arguments of a form that is spelled by its words
abbrev pub form_words : Form → List TokenKind
form_words f.Log = word (codes "console") ∷ dot ∷ word (codes "log") ∷ []
form_words (f.NewError name) = t.Keyword k.New ∷ word (error_text name) ∷ []
form_words f.QueueMicrotask = word (codes "queueMicrotask") ∷ []
form_words f.NewPromise = t.Keyword k.New ∷ word (codes "Promise") ∷ []
form_words f.PromiseResolve = word (codes "Promise") ∷ dot ∷ word (codes "resolve") ∷ []
form_words f.PromiseReject = word (codes "Promise") ∷ dot ∷ word (codes "reject") ∷ []
form_words f.NewVariable = t.Keyword k.New ∷ word (codes "AsyncContext") ∷ dot ∷ word (codes "Variable") ∷ []
form_words f.NewSnapshot = t.Keyword k.New ∷ word (codes "AsyncContext") ∷ dot ∷ word (codes "Snapshot") ∷ []
form_words f.Wrap = word (codes "AsyncContext") ∷ dot ∷ word (codes "Snapshot") ∷ dot ∷ word (codes "wrap") ∷ []
form_words f.HostOn = word (codes "Host") ∷ dot ∷ word (codes "on") ∷ []
form_words f.Span = word (codes "Trace") ∷ dot ∷ word (codes "span") ∷ []
form_words f.CurrentSpan = word (codes "Trace") ∷ dot ∷ word (codes "current") ∷ []
form_words f.NewWeakMap = t.Keyword k.New ∷ word (codes "WeakMap") ∷ []
form_words f.Freeze = word (codes "Object") ∷ dot ∷ word (codes "freeze") ∷ []
form_words f.Note = word (codes "__actx") ∷ dot ∷ word (codes "note") ∷ []
form_words f.On = word (codes "__actx") ∷ dot ∷ word (codes "on") ∷ []
form_words f.Leave = word (codes "__actx") ∷ dot ∷ word (codes "leave") ∷ []
form_words _ = []

-- which forms a side spells by their words
abbrev pub HasWords : Side → Form → Type 0
HasWords side f.Log = Unit {0}
HasWords side (f.NewError name) = Unit {0}
HasWords side f.QueueMicrotask = Unit {0}
HasWords Source f.NewPromise = Unit {0}
HasWords Source f.PromiseResolve = Unit {0}
HasWords Source f.PromiseReject = Unit {0}
HasWords Source f.NewVariable = Unit {0}
HasWords Source f.NewSnapshot = Unit {0}
HasWords Source f.Wrap = Unit {0}
HasWords Source f.HostOn = Unit {0}
HasWords Source f.Span = Unit {0}
HasWords Source f.CurrentSpan = Unit {0}
HasWords Plain f.NewWeakMap = Unit {0}
HasWords Plain f.Freeze = Unit {0}
HasWords Plain f.Note = Unit {0}
HasWords Plain f.On = Unit {0}
HasWords Plain f.Leave = Unit {0}
HasWords _ _ = ⊥

-- how many parts a form takes; the kind of a coroutine is none
abbrev pub Suits : Form → ℕ → Type 0
Suits f.Log n = Unit {0}
Suits f.NewPromise n = 1 ≤ n × n ≤ 1
Suits f.PromiseResolve n = n ≤ 1
Suits f.PromiseReject n = n ≤ 1
Suits f.NewVariable n = n ≤ 1
Suits f.NewSnapshot n = n ≤ 0
Suits f.Wrap n = 1 ≤ n × n ≤ 1
Suits (f.NewError name) n = n ≤ 1
Suits f.QueueMicrotask n = 1 ≤ n × n ≤ 1
Suits f.HostOn n = 2 ≤ n × n ≤ 2
Suits f.Span n = 2 ≤ n × n ≤ 2
Suits f.CurrentSpan n = n ≤ 0
Suits f.NewWeakMap n = n ≤ 0
Suits f.Freeze n = 1 ≤ n × n ≤ 1
Suits f.CallWith n = 1 ≤ n
Suits f.Note n = 4 ≤ n × n ≤ 4
Suits f.On n = 2 ≤ n × n ≤ 2
Suits f.Leave n = n ≤ 0
Suits f.Iterate n = 1 ≤ n × n ≤ 1
Suits f.NewCell n = n ≤ 0
Suits f.ReadCell n = 1 ≤ n × n ≤ 1
Suits f.SetCell n = 2 ≤ n × n ≤ 2
Suits (f.Coroutine kind) n = 1 ≤ n × n ≤ 1
