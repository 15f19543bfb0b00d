use Rattle.std.proofs.Common.{◌≢◌, ℕ, ◌<◌, get_or}
use Rattle.actx_grammar.specs.declared.token.Keyword.{Keyword}
use Rattle.actx_grammar.specs.declared.keywords.TheConstants.{KEYWORDS}
use Rattle.actx_grammar.specs.Words.{keyword_text}
use Rattle.actx_grammar.proofs.keywords.keyword_of.Given as goal

abbrev pub invariant-loop-keyword : goal.invariant-loop-keyword
invariant-loop-keyword l = (k : ℕ) (d : Keyword) → k < l.keyword-index → l.word ≢ keyword_text (get_or KEYWORDS k d)
