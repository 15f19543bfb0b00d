use Rattle.std.proofs.Common.{◌≡◌, ℕ, ◌<◌, inl, inr, get_or, refl, sym, ◌∙◌, ap, arith, lit<}
use Rattle.std.proofs.lemmas.Bool.{cases_lt, iff_false}
use Rattle.std.proofs.lemmas.List.{get_or_default}
use Rattle.actx_grammar.specs.declared.token.Keyword.{Keyword}
use Rattle.actx_grammar.specs.declared.token.Keyword.TheVariants as key
use Rattle.actx_grammar.specs.declared.keywords.TheConstants.{KEYWORDS}
use Rattle.actx_grammar.specs.Words.{keyword_text}
use Rattle.actx_grammar.proofs.keywords.keyword_of.Goals as goal

-- where a reserved word stands in the table
place : (q : Keyword) → (i : ℕ) × (i < 47) × (get_or KEYWORDS i q ≡ q)
place key.Async = (0, lit< tt, refl)
place key.Await = (1, lit< tt, refl)
place key.Break = (2, lit< tt, refl)
place key.Case = (3, lit< tt, refl)
place key.Catch = (4, lit< tt, refl)
place key.Class = (5, lit< tt, refl)
place key.Const = (6, lit< tt, refl)
place key.Continue = (7, lit< tt, refl)
place key.Debugger = (8, lit< tt, refl)
place key.Default = (9, lit< tt, refl)
place key.Delete = (10, lit< tt, refl)
place key.Do = (11, lit< tt, refl)
place key.Else = (12, lit< tt, refl)
place key.Enum = (13, lit< tt, refl)
place key.Export = (14, lit< tt, refl)
place key.Extends = (15, lit< tt, refl)
place key.False = (16, lit< tt, refl)
place key.Finally = (17, lit< tt, refl)
place key.For = (18, lit< tt, refl)
place key.Function = (19, lit< tt, refl)
place key.If = (20, lit< tt, refl)
place key.Implements = (21, lit< tt, refl)
place key.Import = (22, lit< tt, refl)
place key.In = (23, lit< tt, refl)
place key.Instanceof = (24, lit< tt, refl)
place key.Interface = (25, lit< tt, refl)
place key.Let = (26, lit< tt, refl)
place key.New = (27, lit< tt, refl)
place key.Null = (28, lit< tt, refl)
place key.Package = (29, lit< tt, refl)
place key.Private = (30, lit< tt, refl)
place key.Protected = (31, lit< tt, refl)
place key.Public = (32, lit< tt, refl)
place key.Return = (33, lit< tt, refl)
place key.Static = (34, lit< tt, refl)
place key.Super = (35, lit< tt, refl)
place key.Switch = (36, lit< tt, refl)
place key.This = (37, lit< tt, refl)
place key.Throw = (38, lit< tt, refl)
place key.True = (39, lit< tt, refl)
place key.Try = (40, lit< tt, refl)
place key.Typeof = (41, lit< tt, refl)
place key.Var = (42, lit< tt, refl)
place key.Void = (43, lit< tt, refl)
place key.While = (44, lit< tt, refl)
place key.With = (45, lit< tt, refl)
place key.Yield = (46, lit< tt, refl)

pub loop-keyword-preserved : goal.loop-keyword-preserved
loop-keyword-preserved c = λ k d lt e.
    let i = c.loop-keyword.keyword-index in
    elim (cases_lt k i) [
      | inl l ↦ c.loop-keyword.invariant k d l e
      | inr g ↦
          let same : k ≡ i = omega arith in
          let text : c.keyword_text.result.now ≡ keyword_text (get_or KEYWORDS i key.Async) = c.keyword_text.ensures in
          let any : get_or KEYWORDS i key.Async ≡ get_or KEYWORDS i d = get_or_default KEYWORDS i key.Async d c.loop-keyword-test.true in
          iff_false c.is_written.ensures c.if-is_written.false (e ∙ ap (λ j. keyword_text (get_or KEYWORDS j d)) same ∙ ap keyword_text (sym any) ∙ sym text ∙ sym c.as_bytes.ensures.value)
    ]

pub returns : goal.returns
returns c = λ q e.
    let p = place q in
    c.loop-keyword.invariant p.0 q (omega (arith, p.1)) (e ∙ ap keyword_text (sym p.2))
