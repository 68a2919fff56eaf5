use Rattle.std.proofs.Common.{rules}
use Rattle.mailcore.proofs.ContentLemmas.{no_nul_found}
use Rattle.mailcore.proofs.content.fit.Goals as goal

pub returns-then-is_none : goal.returns-then-is_none
returns-then-is_none c =
    let free = no_nul_found c.args.message.now c.memchr.result c.memchr.ensures (search rules) in
    rw (c.in-Near.is, free, c.content_fits.ensures)
