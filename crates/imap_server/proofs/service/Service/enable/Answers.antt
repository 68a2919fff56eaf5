use Rattle.std.proofs.Common.{◌≡◌, true, arith}
use Rattle.imap_session.specs.Servers.{is_logged_in}
use Rattle.imap_server.proofs.CommandLemmas.{enable_answered}
use Rattle.imap_server.proofs.service.Service.enable.Goals as goal

pub returns : goal.returns
returns c =
    let on : is_logged_in c.args.self.now.condition ≡ true = grind arith in
    enable_answered c.args.self.now c.args.tag c.args.names.now c.enabled.result c.args.out.now.items c.say.new.out.items c.say_done.new.out.items
    on c.enabled.ensures c.in_ok-say.ensures c.in_ok-say_done.ensures
