use Rattle.imap_server.proofs.ListedLemmas.{listed_wrote}
use Rattle.imap_server.proofs.mailbox_commands.say_listed.Goals as goal

pub returns : goal.returns
returns c =
    listed_wrote c.args.name.now c.args.out.now.items c.extend_from_slice.new.self.items c.extend_from_slice-2.new.self.items c.extend_from_slice-3.new.self.items c.requires
    c.in_ok-extend_from_slice.ensures.items c.in_ok-extend_from_slice-2.ensures.items c.in_ok-extend_from_slice-3.ensures.items
