-- Names in the grammar: of built-in things, of bindings, of references and of properties.
use Rattle.std.specs.Prelude.{◌≢◌, ℕ, List, [], ◌∷◌, Option, Some, None, codes, Contains}
use Rattle.actx_grammar.specs.declared.side.Side.{Side}
use Rattle.actx_grammar.specs.declared.side.Side.TheVariants.{Source, Plain}
use Rattle.actx_grammar.specs.declared.token.TokenKind.{TokenKind}
use Rattle.actx_grammar.specs.declared.token.TokenKind.TheVariants as t
use Rattle.actx_grammar.specs.Words.{IsName, keyword_text, word_units}

-- the names of built-in things, which are neither bindings nor references
abbrev pub built_in : Side → List (List ℕ)
built_in Source =
    codes "Promise" ∷
    codes "AsyncContext" ∷
    codes "console" ∷
    codes "Trace" ∷
    codes "Host" ∷
    codes "Error" ∷
    codes "TypeError" ∷
    codes "RangeError" ∷
    codes "ReferenceError" ∷
    codes "queueMicrotask" ∷ []
built_in Plain =
    codes "console" ∷
    codes "Error" ∷
    codes "TypeError" ∷
    codes "RangeError" ∷
    codes "ReferenceError" ∷
    codes "queueMicrotask" ∷
    codes "WeakMap" ∷
    codes "Object" ∷
    codes "__actx" ∷ []

-- a name where a binding stands, or what is assigned to
pub record IsBinding (side : Side) (x : List ℕ) : Type 0 where
  pub name : IsName x
  pub own : Contains (built_in side) x → ⊥

-- a name where an expression stands: `undefined` always is the value
pub record IsReference (side : Side) (x : List ℕ) : Type 0 where
  pub name : IsName x
  pub own : Contains (built_in side) x → ⊥
  pub not_undefined : x ≢ codes "undefined"

-- a function's own name, or none
abbrev pub IsOwnName : Side → Option (List ℕ) → Type 0
IsOwnName side None = Unit {0}
IsOwnName side (Some x) = IsBinding side x

-- the name that a token is after a dot: a name or a reserved word
abbrev pub word_of : TokenKind → Option (List ℕ)
word_of (t.Name x) = Some x
word_of (t.Keyword k) = Some (keyword_text k)
word_of _ = None

-- on the plain side `call` after a dot belongs to a form
abbrev pub IsKey : Side → List ℕ → Type 0
IsKey Source x = Unit {0}
IsKey Plain x = x ≢ codes "call"

-- the fixed key of a literal that a token is
abbrev pub key_of : TokenKind → Option (List ℕ)
key_of (t.Name x) = Some (word_units x)
key_of (t.Keyword k) = Some (word_units (keyword_text k))
key_of (t.Text u) = Some u
key_of _ = None
