use Rattle.std.proofs.Common.{◌≡◌, ◌∙◌, ◌<◌, ℕ, Bool, length, get_or, ap, arith}
use Rattle.mailcore.specs.declared.mailbox.Message.{Message}
use Rattle.wire_tokens.specs.Sets.{names}
use Rattle.imap_session.specs.NamedMessages.{greatest}
use Rattle.imap_session.proofs.ReachLemmas.{given_before, given_within}
use Rattle.imap_session.proofs.StoreLemmas.{gives, leaves}
use Rattle.imap_session.proofs.changing.give_flags.Goals as goal
use Rattle.imap_session.proofs.changing.give_flags.Goals.{then-is_named, else-is_named}

pub loop-index-init : goal.loop-index-init
loop-index-init c =
    let xs = c.args.list.now in
    let order = c.reach-start.ensures.order in
    let within = c.reach-start.ensures.within in
    given_before (names (greatest xs) c.args.set.now) c.args.mode c.args.flags xs c.reach-start.result.0 c.reach-start.result.1
    (c.reach-start.ensures.named (greatest xs) c.greatest-top.ensures) (omega arith)

pub loop-index-preserved : goal.loop-index-preserved
loop-index-preserved c =
    let xs = c.args.list.now in
    let named : ℕ → Bool = names (greatest xs) c.args.set.now in
    let list = c.loop-index.list in
    let i = c.loop-index.index in
    let item : Message = get_or list i c.index-list-index.result in
    let at : item ≡ get_or list i item = ap (get_or list i) c.index-list-index.is in
    let test : c.is_named.result ≡ named item.uid = c.is_named.ensures (greatest xs) c.greatest-top.ensures in
    let within = c.reach-start.ensures.within in
    let here = c.loop-index-test.true in
    let inside : i < length xs = omega arith in
    elim c.if-is_named.branch [
      | then-is_named w ↦
          w.list-is ∙ gives named c.args.mode c.args.flags xs list i item c.is_named.result inside c.loop-index.invariant at test
          w.new_flags-message.result w.if-is_named.true w.new_flags-message.ensures
      | else-is_named w ↦
          w.list-is ∙ leaves named c.args.mode c.args.flags xs list i item c.is_named.result inside c.loop-index.invariant at test w.if-is_named.false
    ]

pub returns : goal.returns
returns c =
    let xs = c.args.list.now in
    let past = c.loop-index-test.false in
    c.loop-index.invariant
    ∙ given_within (names (greatest xs) c.args.set.now) c.args.mode c.args.flags xs c.reach-start.result.0 c.reach-start.result.1 c.loop-index.index
    (c.reach-start.ensures.named (greatest xs) c.greatest-top.ensures) (omega arith)
