use Rattle.std.proofs.Common.{◌≡◌, ◌<◌, ◌^◌, ◌+◌, ℕ, List, OnOk, sym, ◌∙◌, ap, subst, arith}
use Rattle.mailcore.specs.KeywordNames.{named_set}
use Rattle.mailcore.specs.Operations.{added}
use Rattle.imap_session.specs.Servers.{Server}
use Rattle.imap_session.specs.Boxes.{far_of}
use Rattle.imap_server.specs.Places.{changed_there}
use Rattle.imap_server.specs.Services.{condition_of}
use Rattle.imap_server.proofs.AppendLemmas.{append_at_ok}
use Rattle.imap_server.proofs.service.Service.append_at.Goals as goal

pub returns-in_ok-say_appended-in-Some-clause-ok : goal.returns-in_ok-say_appended-in-Some-clause-ok
returns-in_ok-say_appended-in-Some-clause-ok c =
    let found = c.in-Some.ensures in
    let fits = found.0.1 in
    let same = found.1 in
    let below : c.in-Some.uid + 1 < 2 ^ 32 = omega arith in
    let set : c.named-flags.result ≡ named_set c.args.self.now.keywords c.args.names.now =
    c.named-flags.ensures ∙ ap (named_set c.self.inside.keywords) c.names.ensures ∙ ap (λ (v : Server). named_set v.keywords c.args.names.now) c.self.view_is in
    append_at_ok c.add.result c.args.self.now c.add.new.self c.args.tag c.args.name.now c.args.names.now c.named-flags.result c.args.message (far_of c.mailbox-mailbox.result.now) c.args.place c.in-Some.uid
    c.count_of-count.result c.number-validity.result (condition_of c.self.inside.condition) c.args.out.now.items c.say_grown.new.out.items c.say_appended.new.out.items
    set c.requires c.mailbox-mailbox.ensures.there (sym found.1) below (ap (λ (v : Server). v.condition) c.self.view_is) c.count_of-count.ensures.count c.number-validity.ensures
    c.in_ok-say_grown-in-Some.ensures c.in_ok-say_appended-in-Some.ensures
    (subst (λ (l : List ℕ). OnOk c.add.result (c.add.new.self ≡ record c.args.self.now { mailboxes = changed_there (added c.in-Some.uid c.named-flags.result l) c.args.place c.args.self.now.mailboxes }))
    c.into_vec.ensures.same c.add.ensures.ok)
