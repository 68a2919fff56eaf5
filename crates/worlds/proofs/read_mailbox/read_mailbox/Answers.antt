use Rattle.std.proofs.Common.{◌≡◌, ◌++◌, ◌∷◌, [], rules, arith}
use Rattle.std.specs.Prelude.{decimal}
use Rattle.worlds.proofs.NamedLemmas.{message_more}
use Rattle.worlds.proofs.TextLemmas.{mailbox_begins, mailbox_more}
use Rattle.worlds.proofs.read_mailbox.read_mailbox.Goals as goal

pub loop-line-init : goal.loop-line-init
loop-line-init c =
    let words : c.in_ok-line.line.text.now ≡ decimal c.in_ok-validity.validity ++ 32 ∷ decimal c.in_ok-validity.next = search rules in
    let made = c.new-mailbox.ensures in
    record {
      start = c.line_starts.ensures.1;
      text = mailbox_begins c.args.side c.new-mailbox.result c.in_ok-validity.validity c.in_ok-validity.next _ _ _ _ c.line_starts.ensures.0 c.in_ok-line.ensures.line words (search rules) (search rules) (search rules);
      named = search rules;
      count = omega arith;
    }

pub loop-line-preserved : goal.loop-line-preserved
loop-line-preserved c =
    let old = c.loop-line.mailbox in
    let new = c.push.new.self in
    let message = c.in_ok-message.message in
    let is : new.messages ≡ old.messages ++ message ∷ [] = search rules in
    let same : (new.validity ≡ old.validity) × (new.next ≡ old.next) = search rules in
    record {
      start = c.loop-line.invariant.start;
      text = mailbox_more c.args.side old new message _ _ _ _ _ c.loop-line.invariant.start c.in-Some.ensures.line c.in_ok-message.ensures.words is same.0 same.1 c.loop-line.invariant.text;
      named = message_more c.args.keywords.now old.messages new.messages message [] c.loop-line.invariant.named c.in_ok-message.ensures.named is;
      count = omega arith;
    }
