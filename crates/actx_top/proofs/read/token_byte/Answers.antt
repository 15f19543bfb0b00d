use Rattle.actx_top.proofs.Placed.{byte_read, byte_none}
use Rattle.actx_top.proofs.read.token_byte.Goals as goal

pub returns-in-Some : goal.returns-in-Some
returns-in-Some c = let found = c.in-Some.ensures.lookup in byte_read c.deref.result.now c.args.tokens.now.list.items c.in-Some.token.now c.args.tokens.now.end c.args.number c.deref.ensures.value found.3.0 found.1

pub returns-in-None : goal.returns-in-None
returns-in-None c = let found = c.in-None.ensures.lookup in byte_none c.deref.result.now c.args.tokens.now.list.items c.args.tokens.now.end c.args.number c.deref.ensures.value found.3
