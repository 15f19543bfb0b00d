use Rattle.actx_grammar.specs.declared.side.Side.TheVariants.{Source}
use Rattle.actx_lex.specs.Lexemes.{lexemes}
use Rattle.actx_parse.proofs.ParseAnswers as answers
use Rattle.actx_parse.proofs.parse.parse_source.Goals as goal

pub returns-clause-found : goal.returns-clause-found
returns-clause-found c = answers.spelled Source c.args.tokens.now.list.items c.placed.result c.requires c.placed.ensures.found

pub returns-clause-only : goal.returns-clause-only
returns-clause-only c = answers.only_one Source (lexemes c.args.tokens.now.list.items) c.placed.result c.placed.ensures.found

pub returns-clause-places : goal.returns-clause-places
returns-clause-places c = answers.where_nodes_begin Source (lexemes c.args.tokens.now.list.items) c.placed.result c.placed.ensures.walked

pub returns-clause-first : goal.returns-clause-first
returns-clause-first c = answers.refused_first Source c.args.tokens.now.list.items c.placed.result c.requires c.placed.ensures.told

pub returns-clause-told : goal.returns-clause-told
returns-clause-told c = c.placed.ensures.told

pub returns-clause-stops : goal.returns-clause-stops
returns-clause-stops c = answers.stopped Source (lexemes c.args.tokens.now.list.items) c.placed.result c.placed.ensures.told

pub returns-clause-unexpected : goal.returns-clause-unexpected
returns-clause-unexpected c = answers.stops_unexpected Source (lexemes c.args.tokens.now.list.items) c.placed.result c.placed.ensures.told

pub returns-clause-too_deep : goal.returns-clause-too_deep
returns-clause-too_deep c = answers.stops_deep Source (lexemes c.args.tokens.now.list.items) c.placed.result c.placed.ensures.told
