use Rattle.std.proofs.Common.{Bool, ◌≡◌, ◌+◌, ◌∙◌, ◌<◌, ℕ, List, ◌∷◌, [], ◌++◌, length, take, sym, ap, subst, arith}
use Rattle.std.proofs.lemmas.List.{take_more, length-take-le}
use Rattle.mailcore.specs.declared.mailbox.Message.{Message}
use Rattle.wire_tokens.specs.Sets.{names}
use Rattle.imap_session.specs.NamedMessages.{greatest, named_in}
use Rattle.imap_session.specs.MessageCommands.{fetched}
use Rattle.imap_session.specs.Boxes.{store_of}
use Rattle.imap_session.specs.Naming.{IsReach}
use Rattle.imap_server.specs.Writing.{Wrote}
use Rattle.imap_server.proofs.CommandLemmas.{count_fits}
use Rattle.imap_server.proofs.FetchLemmas.{wrote_named, wrote_unnamed}
use Rattle.imap_server.proofs.ReachLemmas.{wrote_before, wrote_within}
use Rattle.imap_server.proofs.message_commands.say_messages.Goals as goal
use Rattle.imap_server.proofs.message_commands.say_messages.Goals.{then-is_named+in_ok-say_message, else-is_named}

pub loop-index-init : goal.loop-index-init
loop-index-init c =
    let named : ℕ → Bool = named_in (store_of c.args.mailbox.now) c.args.set.now in
    let ms = c.as_slice-messages.result.now in
    let start = c.reach-start.result.0 in
    let end = c.reach-start.result.1 in
    let order = c.reach-start.ensures.order in
    let within = c.reach-start.ensures.within in
    let reach : IsReach named ms start end =
    subst (λ (l : List Message). IsReach (names (greatest l) c.args.set.now) ms start end) c.as_slice-messages.ensures.all (c.reach-start.ensures.named (greatest ms) c.greatest-top.ensures) in
    wrote_before c.args.keywords.now named c.args.items ms start end c.args.out.now.items reach (omega arith)

pub overflow_cast-index : goal.overflow_cast-index
overflow_cast-index c =
    let fits = count_fits c.args.mailbox.now.messages c.args.mailbox.now.next c.requires.range.next.positive c.requires.store.rising c.requires.range.messages.uids c.requires.store.below in
    let below = c.requires.range.next.below in
    let same : length c.as_slice-messages.result.now ≡ length c.args.mailbox.now.messages = ap length c.as_slice-messages.ensures.all in
    let within = c.reach-start.ensures.within in
    let here = c.loop-index-test.true in
    omega arith

pub overflow_add-index : goal.overflow_add-index
overflow_add-index c =
    let fits = count_fits c.args.mailbox.now.messages c.args.mailbox.now.next c.requires.range.next.positive c.requires.store.rising c.requires.range.messages.uids c.requires.store.below in
    let below = c.requires.range.next.below in
    let same : length c.as_slice-messages.result.now ≡ length c.args.mailbox.now.messages = ap length c.as_slice-messages.ensures.all in
    let within = c.reach-start.ensures.within in
    let here = c.loop-index-test.true in
    omega arith

pub loop-index-preserved : goal.loop-index-preserved
loop-index-preserved c =
    let named : ℕ → Bool = named_in (store_of c.args.mailbox.now) c.args.set.now in
    let ms = c.as_slice-messages.result.now in
    let i = c.loop-index.index in
    let item : Message = c.index-messages-index.result in
    let within = c.reach-start.ensures.within in
    let here = c.loop-index-test.true in
    let inside : i < length ms = omega arith in
    let more : take (i + 1) ms ≡ take i ms ++ item ∷ [] = take_more ms i item inside ∙ ap (λ (m : Message). take i ms ++ m ∷ []) (sym c.index-messages-index.is) in
    let long : length (take i ms) ≡ i = length-take-le i ms (omega arith) in
    let place : i + 1 ≡ 1 + length (take i ms) = omega arith in
    let test : c.is_named.result ≡ named item.uid =
    c.is_named.ensures (greatest ms) c.greatest-top.ensures ∙ ap (λ (l : List Message). names (greatest l) c.args.set.now item.uid) c.as_slice-messages.ensures.all in
    elim c.if-is_named.branch [
      | then-is_named+in_ok-say_message w ↦
          rw w.out-is (wrote_named c.args.keywords.now named c.args.items (take i ms) (take (i + 1) ms) item (i + 1) c.is_named.result
          c.args.out.now.items c.loop-index.out.items w.say_message.new.out.items more place test w.if-is_named.true c.loop-index.invariant w.in_ok-say_message.ensures)
      | else-is_named w ↦
          rw w.out-is (wrote_unnamed c.args.keywords.now named c.args.items (take i ms) (take (i + 1) ms) item c.is_named.result
          c.args.out.now.items c.loop-index.out.items more test w.if-is_named.false c.loop-index.invariant)
    ]

pub returns : goal.returns
returns c =
    let named : ℕ → Bool = named_in (store_of c.args.mailbox.now) c.args.set.now in
    let ms = c.as_slice-messages.result.now in
    let start = c.reach-start.result.0 in
    let end = c.reach-start.result.1 in
    let past = c.loop-index-test.false in
    let reach : IsReach named ms start end =
    subst (λ (l : List Message). IsReach (names (greatest l) c.args.set.now) ms start end) c.as_slice-messages.ensures.all (c.reach-start.ensures.named (greatest ms) c.greatest-top.ensures) in
    subst (λ (l : List Message). Wrote (fetched c.args.keywords.now named c.args.items 1 l) c.args.out.now.items c.loop-index.out.items) c.as_slice-messages.ensures.all
    (wrote_within c.args.keywords.now named c.args.items ms start end c.loop-index.index c.args.out.now.items c.loop-index.out.items reach (omega arith) c.loop-index.invariant)
