use Rattle.std.proofs.Common.{◌≡◌, ◌∙◌, ◌+◌, ◌<◌, ◌≤◌, ℕ, Bool, List, ◌++◌, length, take, drop, cond, get_or, sym, ap, subst, arith, rules}
use Rattle.std.proofs.lemmas.Fn.{filter_same}
use Rattle.mailcore.specs.declared.mailbox.Message.{Message}
use Rattle.wire_tokens.specs.Sets.{names}
use Rattle.imap_session.specs.NamedMessages.{greatest, goes}
use Rattle.imap_session.specs.Changing.{stays}
use Rattle.imap_session.specs.Naming.{IsReach, IsTop}
use Rattle.imap_session.proofs.ExpungeLemmas.{none_goes, one_goes}
use Rattle.imap_session.proofs.changing.keep_staying.Goals as goal
use Rattle.imap_session.proofs.changing.keep_staying.Goals.{else-start-end-via-then-start-end+else-goes, else-start-end-via-else-start-end}

pub returns-then-end-start-gt1 : goal.returns-then-end-start-gt1
returns-then-end-start-gt1 c =
    let top : IsTop (greatest c.args.list.now.items) c.greatest-top.result = subst (λ (l : List Message). IsTop (greatest l) c.greatest-top.result) c.deref.ensures.value c.greatest-top.ensures in
    filter_same _ (stays (names (greatest c.args.list.now.items) c.args.set.now)) _ (λ x b f' k. search (rules, top)) _ _ c.retain.ensures.filtered

pub returns-then-goes : goal.returns-then-goes
returns-then-goes c =
    let ms = c.args.list.now.items in
    let named : ℕ → Bool = names (greatest ms) c.args.set.now in
    let start = c.reach-start.result.0 in
    let end = c.reach-start.result.1 in
    let top : IsTop (greatest ms) c.greatest-top.result = subst (λ (l : List Message). IsTop (greatest l) c.greatest-top.result) c.deref.ensures.value c.greatest-top.ensures in
    let reach : IsReach named ms start end = subst (λ (l : List Message). IsReach named l start end) c.deref-2.ensures.value (c.reach-start.ensures.named (greatest ms) top) in
    let within = c.reach-start.ensures.within in
    let long : length c.deref-2.result.now ≡ length ms = ap length c.deref-2.ensures.value in
    let here = c.if-start-end.true in
    let alone = c.if-end-start-gt1.false in
    c.remove.ensures.by_index.2
    ∙ ap (λ (b : Bool). cond b (take start ms ++ drop (start + 1) ms) ms) (sym c.if-goes.true)
    ∙ sym (one_goes named ms start end reach (omega arith) c.index.result.now c.goes.result (omega arith) (omega arith) c.index.ensures (c.goes.ensures (greatest ms) top))

pub returns-else-start-end : goal.returns-else-start-end
returns-else-start-end c =
    let ms = c.args.list.now.items in
    let named : ℕ → Bool = names (greatest ms) c.args.set.now in
    let start = c.reach-start.result.0 in
    let end = c.reach-start.result.1 in
    let top : IsTop (greatest ms) c.greatest-top.result = subst (λ (l : List Message). IsTop (greatest l) c.greatest-top.result) c.deref.ensures.value c.greatest-top.ensures in
    let reach : IsReach named ms start end = subst (λ (l : List Message). IsReach named l start end) c.deref-2.ensures.value (c.reach-start.ensures.named (greatest ms) top) in
    let within = c.reach-start.ensures.within in
    let order = c.reach-start.ensures.order in
    let long : length c.deref-2.result.now ≡ length ms = ap length c.deref-2.ensures.value in
    let alone = c.if-end-start-gt1.false in
    elim c.else-start-end.branch [
      | else-start-end-via-then-start-end+else-goes w ↦
          let here = w.if-start-end.true in
          ap (λ (b : Bool). cond b (take start ms ++ drop (start + 1) ms) ms) (sym w.if-goes.false)
          ∙ sym (one_goes named ms start end reach (omega arith) w.index.result.now w.goes.result (omega arith) (omega arith) w.index.ensures (w.goes.ensures (greatest ms) top))
      | else-start-end-via-else-start-end w ↦
          let empty = w.if-start-end.false in
          sym (none_goes named ms start end reach (omega arith) (omega arith))
    ]
