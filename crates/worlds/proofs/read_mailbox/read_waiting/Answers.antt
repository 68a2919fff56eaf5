use Rattle.std.proofs.Common.{◌≡◌, ◌++◌, ◌∷◌, [], map, sym, ◌∙◌, rules, arith}
use Rattle.worlds.specs.declared.world.Waiting.TheVariants.{Kept, Admitted}
use Rattle.worlds.specs.Admission.{message_of}
use Rattle.worlds.specs.Worlds.{waiting_of}
use Rattle.worlds.proofs.NamedLemmas.{file_more, message_more}
use Rattle.worlds.proofs.TextLemmas.{files_more}
use Rattle.worlds.proofs.read_mailbox.read_waiting.Goals as goal

pub loop-line-preserved-in-Continue-branch-2 : goal.loop-line-preserved-in-Continue-branch-2
loop-line-preserved-in-Continue-branch-2 c =
    let old = c.loop-line.kept.items in
    let new = c.push.new.self.items in
    let file = c.in_ok-file.file in
    let is : new ≡ old ++ file ∷ [] = search rules in
    record {
      text = λ kept. let so_far = c.loop-line.invariant.text kept in
          (files_more old new file _ _ _ _ c.in-Some.ensures.line c.in_ok-file.ensures.words is so_far.0, so_far.1);
      named = λ h. file_more c.args.keywords.now c.loop-line.near.messages old new file (c.loop-line.invariant.named h) c.in_ok-file.ensures.named is;
      count = omega arith;
    }

pub loop-line-preserved : goal.loop-line-preserved
loop-line-preserved c =
    let old = c.loop-line.near.messages in
    let new = c.admit.new.near.messages in
    let message = message_of c.loop-line.near.next c.in_ok-file.file in
    let is : new ≡ old ++ message ∷ [] = search rules in
    record {
      text = λ kept. let never : Kept ≡ Admitted = sym kept ∙ c.in-Admitted.is in cc;
      named = λ h. message_more c.args.keywords.now old new message (map waiting_of c.loop-line.kept.items) (c.loop-line.invariant.named h) c.in_ok-file.ensures.named is;
      count = omega arith;
    }
