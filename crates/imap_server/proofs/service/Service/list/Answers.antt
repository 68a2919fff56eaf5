use Rattle.std.proofs.Common.{◌≡◌, ◌∙◌, true, ℕ, List, Bor, map, sym, ap, subst, arith}
use Rattle.mailcore.specs.declared.mailbox.StoredMailbox.{StoredMailbox}
use Rattle.imap_session.specs.Servers.{Server, is_logged_in}
use Rattle.imap_session.specs.MailboxCommands.{names_matched}
use Rattle.imap_session.specs.Boxes.{all_of, AreServed}
use Rattle.imap_server.proofs.ListLemmas.{are_names, list_answered}
use Rattle.imap_server.proofs.service.Service.list.Goals as goal

pub say_names-requires : goal.say_names-requires
say_names-requires c =
    are_names (λ (n : Bor (List ℕ)). n.now) c.deref-2.result.now c.bytes.result.now (all_of c.deref.result.now)
    (ap (map (λ (n : Bor (List ℕ)). n.now)) c.deref-2.ensures.value ∙ c.in_ok-names.ensures)
    (subst (λ (ms : List StoredMailbox). AreServed (all_of ms)) (sym c.deref.ensures.value) c.self.invariant)

pub returns : goal.returns
returns c =
    let on : is_logged_in c.args.self.now.condition ≡ true = grind arith in
    let boxes : all_of c.deref.result.now ≡ c.args.self.now.mailboxes = ap all_of c.deref.ensures.value ∙ ap (λ (s : Server). s.mailboxes) c.self.view_is in
    list_answered c.args.self.now c.args.tag c.args.pattern.now (map (λ (n : Bor (List ℕ)). n.now) c.deref-2.result.now) c.args.out.now.items c.say_names.new.out.items c.say_done.new.out.items on
    (ap (map (λ (n : Bor (List ℕ)). n.now)) c.deref-2.ensures.value ∙ c.in_ok-names.ensures ∙ ap (λ (p : List ℕ). names_matched p (all_of c.deref.result.now)) c.bytes.ensures.same
    ∙ ap (names_matched c.args.pattern.now) boxes)
    c.in_ok-say_names.ensures c.in_ok-say_done.ensures
