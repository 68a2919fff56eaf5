use Rattle.std.proofs.Common.{◌∙◌, ℕ, List, ap, sym}
use Rattle.wire_tokens.specs.declared.uid_set.SetItem.{SetItem}
use Rattle.imap_commands.specs.declared.command.StoreMode.TheVariants as modes
use Rattle.imap_session.specs.Mailboxes.{FarMailbox, changed}
use Rattle.imap_session.specs.NamedMessages.{stored, swept}
use Rattle.imap_session.specs.Servers.{Server}
use Rattle.imap_server.specs.Acts.{taken_away, one}
use Rattle.imap_server.proofs.Acting.{changed_nowhere, done_twice, still_there}
use Rattle.imap_server.proofs.service.Service.remove.Goals as goal

pub returns-in_default-clause-ok : goal.returns-in_default-clause-ok
returns-in_default-clause-ok c =
    let s = c.args.self.now in
    ap (λ (l : List FarMailbox). let next : Server = record s { mailboxes = l } in next)
    (sym (changed_nowhere (taken_away c.args.uid) c.args.name.now s.mailboxes c.in_default.ensures))

pub expunge_at-requires : goal.expunge_at-requires
expunge_at-requires c = still_there c.args.self.now c.store_at.new.self c.in-Some.place _ c.in-Some.ensures.within c.store_at.ensures

pub returns-clause-ok : goal.returns-clause-ok
returns-clause-ok c =
    let s = c.args.self.now in
    let next : List SetItem → ℕ → Server = λ l a. record s { mailboxes = changed (λ x. swept l (stored modes.Add a l x)) c.args.name.now s.mailboxes } in
    done_twice s c.store_at.new.self c.expunge_at.new.self c.args.name.now c.in-Some.place _ _ c.in-Some.ensures c.store_at.ensures c.expunge_at.ensures
    ∙ ap (λ (l : List SetItem). next l c.only.result) c.in_ok-one.ensures
    ∙ ap (λ (a : ℕ). next (one c.args.uid) a) c.only.ensures
