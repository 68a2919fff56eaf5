use Rattle.std.proofs.Common.{◌∙◌, ℕ, List, ap, sym}
use Rattle.mailcore.specs.KeywordNames.{kept}
use Rattle.mailcore.specs.declared.keywords.Keyword.{Keyword}
use Rattle.wire_tokens.specs.declared.uid_set.SetItem.{SetItem}
use Rattle.imap_commands.specs.declared.command.StoreMode.TheVariants as modes
use Rattle.imap_session.specs.Mailboxes.{FarMailbox, changed}
use Rattle.imap_session.specs.NamedMessages.{stored}
use Rattle.imap_session.specs.Servers.{Server}
use Rattle.imap_server.specs.Acts.{re_flagged, one}
use Rattle.imap_server.proofs.Acting.{changed_nowhere, done_twice, still_there}
use Rattle.imap_server.proofs.service.Service.flag.Goals as goal

pub returns-in_default-clause-ok : goal.returns-in_default-clause-ok
returns-in_default-clause-ok c =
    let s = c.args.self.now in
    ap (λ (l : List FarMailbox). let next : Server = record s { mailboxes = l } in next)
    (sym (changed_nowhere (re_flagged c.args.uid (kept s.keywords c.args.set) (kept s.keywords c.args.clear)) c.args.name.now s.mailboxes c.in_default.ensures))

pub store_at-requires-2 : goal.store_at-requires-2
store_at-requires-2 c = still_there c.args.self.now c.store_at.new.self c.in-Some.place _ c.in-Some.ensures.within c.store_at.ensures

pub returns-clause-ok : goal.returns-clause-ok
returns-clause-ok c =
    let s = c.args.self.now in
    let map = ap (λ (v : Server). v.keywords) c.self.view_is in
    let set = c.kept-set.ensures ∙ ap (λ (k : List Keyword). kept k c.args.set) map in
    let clear = c.kept-clear.ensures ∙ ap (λ (k : List Keyword). kept k c.args.clear) map in
    let next : List SetItem → ℕ → ℕ → Server = λ l a b. record s { mailboxes = changed (λ x. stored modes.Remove b l (stored modes.Add a l x)) c.args.name.now s.mailboxes } in
    done_twice s c.store_at.new.self c.store_at-2.new.self c.args.name.now c.in-Some.place _ _ c.in-Some.ensures c.store_at.ensures c.store_at-2.ensures
    ∙ ap (λ (l : List SetItem). next l c.kept-set.result c.kept-clear.result) c.in_ok-one.ensures
    ∙ ap (λ (a : ℕ). next (one c.args.uid) a c.kept-clear.result) set
    ∙ ap (λ (b : ℕ). next (one c.args.uid) (kept s.keywords c.args.set) b) clear
