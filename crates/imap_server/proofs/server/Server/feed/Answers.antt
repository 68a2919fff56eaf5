use Rattle.std.proofs.Common.{◌∙◌, ap}
use Rattle.std.specs.Option.{option_map}
use Rattle.imap_server.specs.declared.server.Server.TheInside.{Inside}
use Rattle.imap_server.specs.Unreads.{kept_of}
use Rattle.imap_server.proofs.HostLemmas.{fed_by, lost_by}
use Rattle.imap_server.proofs.UnreadFew.{bounded_by}
use Rattle.imap_server.proofs.server.Server.feed.Goals as goal

pub returns-in-Ok-clause-ok : goal.returns-in-Ok-clause-ok
returns-in-Ok-clause-ok c =
    fed_by c.args.self.now _ _ c.take.result _ c.in-Some.unread (ap (λ (i : Inside). record { server = i.service; connection = option_map kept_of i.unread; is_lost = i.is_lost }) c.self-inside.view_is ∙ c.self.view_is) c.take.ensures.value c.in-Some.is
    c.args.piece.now c.new-out.result.items c.read.new.out.items c.read.new.self c.in-Ok.after c.new-out.ensures.items c.in-Ok.ensures.ok

pub returns-in-Err-clause-no_memory : goal.returns-in-Err-clause-no_memory
returns-in-Err-clause-no_memory c is =
    lost_by c.args.self.now _ _ c.take.result _ c.in-Some.unread (ap (λ (i : Inside). record { server = i.service; connection = option_map kept_of i.unread; is_lost = i.is_lost }) c.self-inside.view_is ∙ c.self.view_is) c.take.ensures.value c.in-Some.is
    c.args.piece.now c.read.new.self c.take.new.self c.take.ensures.after c.in-Err.ensures.err

pub returns-in-Ok-clause-bounded : goal.returns-in-Ok-clause-bounded
returns-in-Ok-clause-bounded c = bounded_by c.read.new.self c.in-Ok.after c.in-Ok.ensures.ok.sound

pub returns-in-Ok-clause-served : goal.returns-in-Ok-clause-served
returns-in-Ok-clause-served c = c.is_served.ensures

pub returns-in-Err-clause-served : goal.returns-in-Err-clause-served
returns-in-Err-clause-served c = c.is_served-in-Err.ensures
