use Rattle.std.proofs.Common.{◌≡◌, true, ℕ, List, sym, ◌∙◌, ap, subst, arith}
use Rattle.imap_session.specs.Mailboxes.{mailbox_at}
use Rattle.imap_session.specs.Servers.{Condition, Server, is_logged_in}
use Rattle.imap_session.specs.MailboxCommands.{closes}
use Rattle.imap_session.specs.Boxes.{far_of}
use Rattle.imap_server.specs.Writing.{Wrote}
use Rattle.imap_server.proofs.CommandLemmas.{select_there, select_none}
use Rattle.imap_server.proofs.service.Service.select.Goals as goal

pub returns-in_ok-say_opening-in-Some-clause-ok : goal.returns-in_ok-say_opening-in-Some-clause-ok
returns-in_ok-say_opening-in-Some-clause-ok c =
    let on : is_logged_in c.args.self.now.condition ≡ true = grind arith in
    let closed = subst (λ (k : Condition). Wrote (closes k) c.args.out.now.items c.say_closed.new.out.items) (ap (λ (v : Server). v.condition) c.self.view_is) c.in_ok-say_closed.ensures in
    let named : mailbox_at c.args.name c.args.self.now.mailboxes ≡ mailbox_at c.as_slice.result.now c.args.self.now.mailboxes
    = ap (λ (n : List ℕ). mailbox_at n c.args.self.now.mailboxes) (sym c.as_slice.ensures.same) in
    select_there c.args.self.now c.enter.new.self c.args.tag c.args.name c.args.out.now.items c.say_closed.new.out.items c.say_opening.new.out.items on closed
    c.self.inside.keywords (far_of c.mailbox.result.now) (ap (λ (v : Server). v.keywords) c.self.view_is) (named ∙ c.in-Some.ensures.found ∙ c.mailbox.ensures.there) c.in_ok-say_opening-in-Some.ensures c.enter.ensures

pub returns-in_ok-say_no_with-in-None-clause-ok : goal.returns-in_ok-say_no_with-in-None-clause-ok
returns-in_ok-say_no_with-in-None-clause-ok c =
    let on : is_logged_in c.args.self.now.condition ≡ true = grind arith in
    let closed = subst (λ (k : Condition). Wrote (closes k) c.args.out.now.items c.say_closed.new.out.items) (ap (λ (v : Server). v.condition) c.self.view_is) c.in_ok-say_closed.ensures in
    let named : mailbox_at c.args.name c.args.self.now.mailboxes ≡ mailbox_at c.as_slice.result.now c.args.self.now.mailboxes
    = ap (λ (n : List ℕ). mailbox_at n c.args.self.now.mailboxes) (sym c.as_slice.ensures.same) in
    select_none c.args.self.now c.enter-in-None.new.self c.args.tag c.args.name c.args.out.now.items c.say_closed.new.out.items c.say_no_with.new.out.items on closed
    (named ∙ c.in-None.ensures) c.in_ok-say_no_with-in-None.ensures c.enter-in-None.ensures
