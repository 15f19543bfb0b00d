-- The match of both runs, by the laws of the prelude.
use Rattle.std.proofs.Common.{List}
use Rattle.actx_match.specs.Matching.{WithinFactor}
use Rattle.actx_data.specs.declared.event.Event.{Event}
use Rattle.actx_grammar.specs.declared.side.Side.TheVariants.{Source, Plain}
use Rattle.actx_grammar.specs.Tree.{Stmts}
use Rattle.actx_table.specs.Low.{low}
use Rattle.actx_table.specs.Meaning.{Same, shows}
use Rattle.actx_table.specs.Taken.{IsTaken}
use Rattle.actx_table.specs.Weight.{source_cost}
use Rattle.actx_table.proofs.PreludeLaws.Whole.{laws}
use Rattle.actx_table.proofs.Same.Theorem as by_laws

pub same : (p : Stmts) → IsTaken p → Same p (low p)
same = by_laws.same laws

pub work_bounded : (p : Stmts) → IsTaken p → (events : List Event) → WithinFactor 1024 (shows Source p events) (shows Plain (low p) events) (source_cost p events) (λ m. m)
work_bounded = by_laws.work_bounded laws
