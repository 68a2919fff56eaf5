use Rattle.std.proofs.Common.{◌≡◌, true, arith}
use Rattle.imap_session.specs.Servers.{is_logged_in}
use Rattle.imap_server.proofs.AppendLemmas.{append_ok}
use Rattle.imap_server.proofs.service.Service.append.Goals as goal

pub returns-in-Some-clause-ok : goal.returns-in-Some-clause-ok
returns-in-Some-clause-ok c =
    let on : is_logged_in c.args.self.now.condition ≡ true = grind arith in
    append_ok c.append_at.result c.args.self.now c.append_at.new.self c.args.tag c.args.name.now c.as_slice-in-Some.result.now c.args.names.now c.args.message c.args.out.now.items c.append_at.new.out.items
    on c.as_slice-in-Some.ensures.same c.append_at.ensures.ok
