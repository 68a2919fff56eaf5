use Rattle.std.proofs.Common.{Bool, ◌≡◌, ◌+◌, ◌∙◌, ◌<◌, ◌≤◌, ℕ, List, ◌∷◌, [], ◌++◌, length, take, sym, ap, subst, arith}
use Rattle.std.proofs.lemmas.List.{take_more, length-take-le}
use Rattle.mailcore.specs.declared.mailbox.Message.{Message}
use Rattle.wire_tokens.specs.Sets.{names}
use Rattle.imap_session.specs.NamedMessages.{greatest, named_in, goes}
use Rattle.imap_session.specs.MessageCommands.{removed}
use Rattle.imap_session.specs.Boxes.{store_of}
use Rattle.imap_session.specs.Naming.{IsReach}
use Rattle.imap_server.specs.Writing.{Wrote}
use Rattle.imap_server.proofs.CommandLemmas.{count_fits}
use Rattle.imap_server.proofs.ExpungeLemmas.{left_at_most, left_going, left_staying, wrote_going, wrote_staying}
use Rattle.imap_server.proofs.ReachLemmas.{left_before, removed_before, removed_within}
use Rattle.imap_server.proofs.message_commands.say_removed.Goals as goal
use Rattle.imap_server.proofs.message_commands.say_removed.Goals.{then-goes+in_ok-say_expunged, else-goes}

pub overflow_cast-place : goal.overflow_cast-place
overflow_cast-place c =
    let fits = count_fits c.args.mailbox.now.messages c.args.mailbox.now.next c.requires.range.next.positive c.requires.store.rising c.requires.range.messages.uids c.requires.store.below in
    let below = c.requires.range.next.below in
    let same : length c.as_slice-messages.result.now ≡ length c.args.mailbox.now.messages = ap length c.as_slice-messages.ensures.all in
    let order = c.reach-start.ensures.order in
    let within = c.reach-start.ensures.within in
    omega arith

pub overflow_add-place : goal.overflow_add-place
overflow_add-place c =
    let fits = count_fits c.args.mailbox.now.messages c.args.mailbox.now.next c.requires.range.next.positive c.requires.store.rising c.requires.range.messages.uids c.requires.store.below in
    let below = c.requires.range.next.below in
    let same : length c.as_slice-messages.result.now ≡ length c.args.mailbox.now.messages = ap length c.as_slice-messages.ensures.all in
    let order = c.reach-start.ensures.order in
    let within = c.reach-start.ensures.within in
    omega arith

pub loop-index-init : goal.loop-index-init
loop-index-init c =
    let named : ℕ → Bool = named_in (store_of c.args.mailbox.now) c.args.set.now in
    let ms = c.as_slice-messages.result.now in
    let start = c.reach-start.result.0 in
    let end = c.reach-start.result.1 in
    let order = c.reach-start.ensures.order in
    let within = c.reach-start.ensures.within in
    let reach : IsReach named ms start end =
    subst (λ (l : List Message). IsReach (names (greatest l) c.args.set.now) ms start end) c.as_slice-messages.ensures.all (c.reach-start.ensures.named (greatest ms) c.greatest-top.ensures) in
    let inside : start ≤ length ms = omega arith in
    let first = left_before named ms start end reach inside in
    record { place = omega (arith, first); wrote = removed_before named ms start end reach c.args.out.now.items inside }

pub overflow_add-place-else-goes : goal.overflow_add-place-else-goes
overflow_add-place-else-goes c =
    let ms = c.as_slice-messages.result.now in
    let fits = count_fits c.args.mailbox.now.messages c.args.mailbox.now.next c.requires.range.next.positive c.requires.store.rising c.requires.range.messages.uids c.requires.store.below in
    let below = c.requires.range.next.below in
    let same : length c.as_slice-messages.result.now ≡ length c.args.mailbox.now.messages = ap length c.as_slice-messages.ensures.all in
    let order = c.reach-start.ensures.order in
    let within = c.reach-start.ensures.within in
    let at = c.loop-index.invariant.place in
    let here = c.loop-index-test.true in
    let few = left_at_most (named_in (store_of c.args.mailbox.now) c.args.set.now) (take c.loop-index.index ms) in
    let long : length (take c.loop-index.index ms) ≡ c.loop-index.index = length-take-le c.loop-index.index ms (omega arith) in
    omega arith

pub loop-index-preserved : goal.loop-index-preserved
loop-index-preserved c =
    let named : ℕ → Bool = named_in (store_of c.args.mailbox.now) c.args.set.now in
    let ms = c.as_slice-messages.result.now in
    let i = c.loop-index.index in
    let item : Message = c.index-messages-index.result in
    let within = c.reach-start.ensures.within in
    let here = c.loop-index-test.true in
    let inside : i < length ms = omega arith in
    let more : take (i + 1) ms ≡ take i ms ++ item ∷ [] = take_more ms i item inside ∙ ap (λ (m : Message). take i ms ++ m ∷ []) (sym c.index-messages-index.is) in
    let at = c.loop-index.invariant.place in
    let test : c.goes.result ≡ goes named item =
    c.goes.ensures (greatest ms) c.greatest-top.ensures ∙ ap (λ (l : List Message). goes (names (greatest l) c.args.set.now) item) c.as_slice-messages.ensures.all in
    elim c.if-goes.branch [
      | then-goes+in_ok-say_expunged w ↦
          let same = left_going named (take i ms) (take (i + 1) ms) item c.goes.result more test w.if-goes.true in
          let place = w.place-is in
          record {
            place = omega arith;
            wrote = rw w.out-is (wrote_going named (take i ms) (take (i + 1) ms) item c.goes.result more test c.loop-index.place
                c.args.out.now.items c.loop-index.out.items w.say_expunged.new.out.items at w.if-goes.true c.loop-index.invariant.wrote w.in_ok-say_expunged.ensures);
          }
      | else-goes w ↦
          let same = left_staying named (take i ms) (take (i + 1) ms) item c.goes.result more test w.if-goes.false in
          let place = w.place-is in
          record {
            place = omega arith;
            wrote = rw w.out-is (wrote_staying named (take i ms) (take (i + 1) ms) item c.goes.result more test
                c.args.out.now.items c.loop-index.out.items w.if-goes.false c.loop-index.invariant.wrote);
          }
    ]

pub returns : goal.returns
returns c =
    let named : ℕ → Bool = named_in (store_of c.args.mailbox.now) c.args.set.now in
    let ms = c.as_slice-messages.result.now in
    let start = c.reach-start.result.0 in
    let end = c.reach-start.result.1 in
    let past = c.loop-index-test.false in
    let reach : IsReach named ms start end =
    subst (λ (l : List Message). IsReach (names (greatest l) c.args.set.now) ms start end) c.as_slice-messages.ensures.all (c.reach-start.ensures.named (greatest ms) c.greatest-top.ensures) in
    subst (λ (l : List Message). Wrote (removed named 1 l) c.args.out.now.items c.loop-index.out.items) c.as_slice-messages.ensures.all
    (removed_within named ms start end reach c.loop-index.index c.args.out.now.items c.loop-index.out.items (omega arith) c.loop-index.invariant.wrote)
