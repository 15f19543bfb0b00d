-- Reserved words and signs by their texts.
use Rattle.std.proofs.Common.{◌≡◌, ℕ, cond, List, [], ◌∷◌, Option, Some, None, get_or, refl, sym, ◌∙◌, ap, bytes_eq}
use Rattle.actx_grammar.specs.declared.token.Keyword.{Keyword}
use Rattle.actx_grammar.specs.declared.token.Keyword.TheVariants as k
use Rattle.actx_grammar.specs.Words.{keyword_text}
use Rattle.actx_lex.proofs.Classes.{word, class_of}

pub keyword_class : (q : Keyword) → class_of (get_or (keyword_text q) 0 0) ≡ word
keyword_class k.Async = refl
keyword_class k.Await = refl
keyword_class k.Break = refl
keyword_class k.Case = refl
keyword_class k.Catch = refl
keyword_class k.Class = refl
keyword_class k.Const = refl
keyword_class k.Continue = refl
keyword_class k.Debugger = refl
keyword_class k.Default = refl
keyword_class k.Delete = refl
keyword_class k.Do = refl
keyword_class k.Else = refl
keyword_class k.Enum = refl
keyword_class k.Export = refl
keyword_class k.Extends = refl
keyword_class k.False = refl
keyword_class k.Finally = refl
keyword_class k.For = refl
keyword_class k.Function = refl
keyword_class k.If = refl
keyword_class k.Implements = refl
keyword_class k.Import = refl
keyword_class k.In = refl
keyword_class k.Instanceof = refl
keyword_class k.Interface = refl
keyword_class k.Let = refl
keyword_class k.New = refl
keyword_class k.Null = refl
keyword_class k.Package = refl
keyword_class k.Private = refl
keyword_class k.Protected = refl
keyword_class k.Public = refl
keyword_class k.Return = refl
keyword_class k.Static = refl
keyword_class k.Super = refl
keyword_class k.Switch = refl
keyword_class k.This = refl
keyword_class k.Throw = refl
keyword_class k.True = refl
keyword_class k.Try = refl
keyword_class k.Typeof = refl
keyword_class k.Var = refl
keyword_class k.Void = refl
keyword_class k.While = refl
keyword_class k.With = refl
keyword_class k.Yield = refl

abbrev find_keyword : List Keyword → List ℕ → Option Keyword
find_keyword [] w = None
find_keyword (q ∷ qs) w = cond (bytes_eq (keyword_text q) w) (Some q) (find_keyword qs w)

abbrev all_keywords : List Keyword
all_keywords = k.Async ∷ k.Await ∷ k.Break ∷ k.Case ∷ k.Catch ∷ k.Class ∷ k.Const ∷ k.Continue ∷ k.Debugger ∷ k.Default ∷ k.Delete ∷ k.Do ∷ k.Else ∷ k.Enum ∷ k.Export ∷ k.Extends ∷ k.False ∷ k.Finally ∷ k.For ∷ k.Function ∷ k.If ∷ k.Implements ∷ k.Import ∷ k.In ∷ k.Instanceof ∷ k.Interface ∷ k.Let ∷ k.New ∷ k.Null ∷ k.Package ∷ k.Private ∷ k.Protected ∷ k.Public ∷ k.Return ∷ k.Static ∷ k.Super ∷ k.Switch ∷ k.This ∷ k.Throw ∷ k.True ∷ k.Try ∷ k.Typeof ∷ k.Var ∷ k.Void ∷ k.While ∷ k.With ∷ k.Yield ∷ []

found_keyword : (q : Keyword) → find_keyword all_keywords (keyword_text q) ≡ Some q
found_keyword k.Async = refl
found_keyword k.Await = refl
found_keyword k.Break = refl
found_keyword k.Case = refl
found_keyword k.Catch = refl
found_keyword k.Class = refl
found_keyword k.Const = refl
found_keyword k.Continue = refl
found_keyword k.Debugger = refl
found_keyword k.Default = refl
found_keyword k.Delete = refl
found_keyword k.Do = refl
found_keyword k.Else = refl
found_keyword k.Enum = refl
found_keyword k.Export = refl
found_keyword k.Extends = refl
found_keyword k.False = refl
found_keyword k.Finally = refl
found_keyword k.For = refl
found_keyword k.Function = refl
found_keyword k.If = refl
found_keyword k.Implements = refl
found_keyword k.Import = refl
found_keyword k.In = refl
found_keyword k.Instanceof = refl
found_keyword k.Interface = refl
found_keyword k.Let = refl
found_keyword k.New = refl
found_keyword k.Null = refl
found_keyword k.Package = refl
found_keyword k.Private = refl
found_keyword k.Protected = refl
found_keyword k.Public = refl
found_keyword k.Return = refl
found_keyword k.Static = refl
found_keyword k.Super = refl
found_keyword k.Switch = refl
found_keyword k.This = refl
found_keyword k.Throw = refl
found_keyword k.True = refl
found_keyword k.Try = refl
found_keyword k.Typeof = refl
found_keyword k.Var = refl
found_keyword k.Void = refl
found_keyword k.While = refl
found_keyword k.With = refl
found_keyword k.Yield = refl

pub one_keyword : (q r : Keyword) → keyword_text q ≡ keyword_text r → q ≡ r
one_keyword q r e = let f : Some q ≡ Some r = sym (found_keyword q) ∙ ap (find_keyword all_keywords) e ∙ found_keyword r in cc
