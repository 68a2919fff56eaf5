use Rattle.std.proofs.lemmas.List.Elements.{All-same}
use Rattle.mailcore.specs.declared.mailbox.Message.{Message}
use Rattle.mailcore.specs.KeywordNames.{IsWithin}
use Rattle.mem_mailbox.proofs.Within.{named_within, seen_named}
use Rattle.mem_mailbox.proofs.mem_mailbox.MemMailbox.closed.Goals as goal

pub invariant_of-result : goal.invariant_of-result
invariant_of-result g c =
    let keywords = c.args.keywords in
    record {
      within = All-same (λ (m : Message). IsWithin keywords m.flags) _ _ c.name_flags.ensures (named_within keywords c.args.store.messages.items);
      waiting_within = All-same (λ (m : Message). IsWithin keywords m.flags) _ _ c.name_flags-2.ensures (named_within keywords c.args.waiting.items);
    }

pub returns-clause-seen : goal.returns-clause-seen
returns-clause-seen g c =
    let s = c.args.store in
    seen_named c.args.keywords s.validity s.next s.messages.items c.name_flags.new.messages.items c.args.waiting.items c.name_flags-2.new.messages.items c.args.condition c.name_flags.ensures c.name_flags-2.ensures
