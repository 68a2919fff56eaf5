use Rattle.std.proofs.Common.{◌<◌, ◌∙◌, List, ap, subst}
use Rattle.std.specs.Prelude.{AllPairs}
use Rattle.mailcore.specs.declared.mailbox.Message.{Message}
use Rattle.near_box.specs.Mailboxes.{by_uid, messages_in}
use Rattle.run_trial.proofs.ContentsLemmas.{messages_sorted}
use Rattle.run_trial.proofs.contents.messages_in.Goals as goal

pub returns-then-rise : goal.returns-then-rise
returns-then-rise c =
    let rising : AllPairs (λ a b. a.uid < b.uid) c.sort_unstable_by_key.new.self.items =
    subst (λ (l : List Message). AllPairs (λ a b. a.uid < b.uid) l) c.deref.ensures.value (c.rise.ensures c.if-rise.true) in
    messages_sorted c.in_ok-messages.messages.items c.sort_unstable_by_key.new.self.items c.sort_unstable_by_key.ensures.permutation rising
    ∙ ap by_uid (c.in_ok-messages.ensures ∙ ap (messages_in c.args.keywords.now) c.files.ensures)
