use Rattle.std.proofs.Common.{◌≡◌, ◌<◌, ◌+◌, ◌^◌, ◌⊎◌, length, ap, ◌∙◌, arith, subst}
use Rattle.std.proofs.lemmas.Result.{err_from_is_err_and}
use Rattle.near_box.specs.declared.survey.Survey.{Survey}
use Rattle.mailcore.specs.Mailboxes.{all_admitted}
use Rattle.near_box.specs.Mailboxes.{IsMailbox, near_of}
use Rattle.near_box.specs.NearEffects.{Admitting, admitted_all, set_aside_all}
use Rattle.near_box.specs.Surveys.{Surveys}
use Rattle.near_box.proofs.AdmissionLemmas.{admission_stopped, admitted_surveys, admitted_whole, given, none_of_length, nothing_to_admit}
use Rattle.near_box.proofs.KeptMailboxes.{admission_mailbox, whole_mailbox}
use Rattle.near_box.proofs.MailboxLemmas.{mailbox_same}
use Rattle.near_box.proofs.NewUidLemmas.{surveys_same}
use Rattle.near_box.proofs.near_box.NearBox.admit.Goals.{then-count-gt0+in_ok-give_uids, else-count-gt0+else-not-self}
use Rattle.near_box.proofs.near_box.NearBox.admit.Goals as goal

pub returns-clause-was_honest : goal.returns-clause-was_honest
returns-clause-was_honest g c = λ honest.
    elim c.if-count-gt0.branch as (λ _. g.F.Folder.honest c.args.self.now.folder) [
      | then-count-gt0+in_ok-give_uids w ↦ c.begin.ensures.was_honest (w.give_uids.ensures.was_honest (subst (λ b. g.F.Folder.honest b.folder) w.self-is honest))
      | else-count-gt0+else-not-self w ↦ c.begin.ensures.was_honest (subst (λ b. g.F.Folder.honest b.folder) w.self-is honest)
    ]

pub returns-in_err-give_uids-clause-effect : goal.returns-in_err-give_uids-clause-effect
returns-in_err-give_uids-clause-effect g c = λ honest.
    let e = err_from_is_err_and c.from_residual-in_err-give_uids.result c.from_residual-in_err-give_uids.ensures.1 in
    let box = c.args.self.now in
    let begun = c.begin.new.self in
    let s = (g.F.Folder.seen box.folder).stored in
    let after = (g.F.Folder.seen c.give_uids.new.self.folder).stored in
    let surveys : Surveys box.survey box.fresh box.keywords s = box.surveys c.in_ok-begin.ensures.ready (c.begin.ensures.was_honest (c.give_uids.ensures.was_honest honest)) in
    let room_begun : begun.survey.meta.next + length begun.survey.waiting.items < 2 ^ 32 = omega (arith, c.in-Some.ensures.0, c.len.ensures) in
    let room : box.survey.meta.next + length box.survey.waiting.items < 2 ^ 32 = subst (λ (v : Survey). v.meta.next + length v.waiting.items < 2 ^ 32) c.begin.ensures.same.0 room_begun in
    let left = subst (λ f. (after ≡ (g.F.Folder.seen f).stored) ⊎ Admitting box.survey.waiting.items box.survey.meta (g.F.Folder.seen f).stored after) c.begin.ensures.folder
    (subst (λ (v : Survey). (after ≡ (g.F.Folder.seen begun.folder).stored) ⊎ Admitting v.waiting.items v.meta (g.F.Folder.seen begun.folder).stored after) c.begin.ensures.same.0
    (c.in_err-give_uids.ensures.effect honest)) in
    rw (e.1) (admission_stopped box.survey box.fresh box.keywords s surveys box.has_fresh.0 box.has_fresh.1 room after left)

pub returns-clause-effect : goal.returns-clause-effect
returns-clause-effect g c = λ honest.
    let box = c.args.self.now in
    let begun = c.begin.new.self in
    let s = (g.F.Folder.seen box.folder).stored in
    let surveys : Surveys box.survey box.fresh box.keywords s = box.surveys c.in_ok-begin.ensures.ready (returns-clause-was_honest g c honest) in
    let room_begun : begun.survey.meta.next + length begun.survey.waiting.items < 2 ^ 32 = omega (arith, c.in-Some.ensures.0, c.len.ensures) in
    let room : box.survey.meta.next + length box.survey.waiting.items < 2 ^ 32 = subst (λ (v : Survey). v.meta.next + length v.waiting.items < 2 ^ 32) c.begin.ensures.same.0 room_begun in
    elim c.if-count-gt0.branch as (λ _. near_of box.fresh box.keywords (g.F.Folder.seen c.if-count-gt0.self.folder).stored ≡ all_admitted (near_of box.fresh box.keywords s)) [
      | then-count-gt0+in_ok-give_uids w ↦
          ap (λ b. near_of box.fresh box.keywords (g.F.Folder.seen b.folder).stored) w.self-is
          ∙ ap (near_of box.fresh box.keywords) (w.in_ok-give_uids.ensures.effect (subst (λ b. g.F.Folder.honest b.folder) w.self-is honest))
          ∙ ap (λ (v : Survey). near_of box.fresh box.keywords (admitted_all v.waiting.items v.meta.next (set_aside_all v.waiting.items v.meta (g.F.Folder.seen begun.folder).stored))) c.begin.ensures.same.0
          ∙ ap (λ f. near_of box.fresh box.keywords (admitted_all box.survey.waiting.items box.survey.meta.next (set_aside_all box.survey.waiting.items box.survey.meta (g.F.Folder.seen f).stored))) c.begin.ensures.folder
          ∙ admitted_whole box.survey box.fresh box.keywords s surveys box.has_fresh.0 box.has_fresh.1 room
      | else-count-gt0+else-not-self w ↦
          let number : length begun.survey.waiting.items ≡ 0 = omega (arith, c.in-Some.ensures.1, c.len.ensures, w.if-count-gt0.false) in
          let none = none_of_length box.survey.waiting.items (subst (λ (v : Survey). length v.waiting.items ≡ 0) c.begin.ensures.same.0 number) in
          ap (λ b. near_of box.fresh box.keywords (g.F.Folder.seen b.folder).stored) w.self-is
          ∙ ap (λ f. near_of box.fresh box.keywords (g.F.Folder.seen f).stored) c.begin.ensures.folder
          ∙ nothing_to_admit box.survey box.fresh box.keywords s surveys box.has_fresh.0 box.has_fresh.1 room none
    ]

pub returns-in_err-give_uids-clause-mailbox : goal.returns-in_err-give_uids-clause-mailbox
returns-in_err-give_uids-clause-mailbox g c = λ honest is.
    let box = c.args.self.now in
    let begun = c.begin.new.self in
    let s = (g.F.Folder.seen box.folder).stored in
    let after = (g.F.Folder.seen c.give_uids.new.self.folder).stored in
    let surveys : Surveys box.survey box.fresh box.keywords s = box.surveys c.in_ok-begin.ensures.ready (c.begin.ensures.was_honest (c.give_uids.ensures.was_honest honest)) in
    let room_begun : begun.survey.meta.next + length begun.survey.waiting.items < 2 ^ 32 = omega (arith, c.in-Some.ensures.0, c.len.ensures) in
    let room : box.survey.meta.next + length box.survey.waiting.items < 2 ^ 32 = subst (λ (v : Survey). v.meta.next + length v.waiting.items < 2 ^ 32) c.begin.ensures.same.0 room_begun in
    let left = subst (λ f. (after ≡ (g.F.Folder.seen f).stored) ⊎ Admitting box.survey.waiting.items box.survey.meta (g.F.Folder.seen f).stored after) c.begin.ensures.folder
    (subst (λ (v : Survey). (after ≡ (g.F.Folder.seen begun.folder).stored) ⊎ Admitting v.waiting.items v.meta (g.F.Folder.seen begun.folder).stored after) c.begin.ensures.same.0
    (c.in_err-give_uids.ensures.effect honest)) in
    admission_mailbox box.survey box.fresh box.keywords s surveys box.has_fresh.0 box.has_fresh.1 is room after left

pub returns-clause-mailbox : goal.returns-clause-mailbox
returns-clause-mailbox g c = λ honest is.
    let box = c.args.self.now in
    let begun = c.begin.new.self in
    let s = (g.F.Folder.seen box.folder).stored in
    let surveys : Surveys box.survey box.fresh box.keywords s = box.surveys c.in_ok-begin.ensures.ready (returns-clause-was_honest g c honest) in
    let room_begun : begun.survey.meta.next + length begun.survey.waiting.items < 2 ^ 32 = omega (arith, c.in-Some.ensures.0, c.len.ensures) in
    let room : box.survey.meta.next + length box.survey.waiting.items < 2 ^ 32 = subst (λ (v : Survey). v.meta.next + length v.waiting.items < 2 ^ 32) c.begin.ensures.same.0 room_begun in
    elim c.if-count-gt0.branch as (λ _. IsMailbox box.fresh (g.F.Folder.seen c.if-count-gt0.self.folder).stored) [
      | then-count-gt0+in_ok-give_uids w ↦
          mailbox_same box.fresh (admitted_all box.survey.waiting.items box.survey.meta.next (set_aside_all box.survey.waiting.items box.survey.meta s)) (g.F.Folder.seen c.if-count-gt0.self.folder).stored
          (ap (λ b. (g.F.Folder.seen b.folder).stored) w.self-is
          ∙ w.in_ok-give_uids.ensures.effect (subst (λ b. g.F.Folder.honest b.folder) w.self-is honest)
          ∙ ap (λ (v : Survey). admitted_all v.waiting.items v.meta.next (set_aside_all v.waiting.items v.meta (g.F.Folder.seen begun.folder).stored)) c.begin.ensures.same.0
          ∙ ap (λ f. admitted_all box.survey.waiting.items box.survey.meta.next (set_aside_all box.survey.waiting.items box.survey.meta (g.F.Folder.seen f).stored)) c.begin.ensures.folder)
          (whole_mailbox box.survey box.fresh box.keywords s surveys box.has_fresh.0 box.has_fresh.1 is room)
      | else-count-gt0+else-not-self w ↦
          mailbox_same box.fresh s (g.F.Folder.seen c.if-count-gt0.self.folder).stored
          (ap (λ b. (g.F.Folder.seen b.folder).stored) w.self-is ∙ ap (λ f. (g.F.Folder.seen f).stored) c.begin.ensures.folder) is
    ]

pub invariant_of-self-2-clause-surveys : goal.invariant_of-self-2-clause-surveys
invariant_of-self-2-clause-surveys g c = λ ready honest.
    let box = c.args.self.now in
    let begun = c.begin.new.self in
    let now = c.if-count-gt0.self in
    let s = (g.F.Folder.seen box.folder).stored in
    let before : g.F.Folder.honest box.folder =
    elim c.if-count-gt0.branch as (λ _. g.F.Folder.honest box.folder) [
      | then-count-gt0+in_ok-give_uids w ↦ c.begin.ensures.was_honest (w.give_uids.ensures.was_honest (subst (λ b. g.F.Folder.honest b.folder) w.self-is honest))
      | else-count-gt0+else-not-self w ↦ c.begin.ensures.was_honest (subst (λ b. g.F.Folder.honest b.folder) w.self-is honest)
    ] in
    let surveys : Surveys box.survey box.fresh box.keywords s = box.surveys c.in_ok-begin.ensures.ready before in
    let room_begun : begun.survey.meta.next + length begun.survey.waiting.items < 2 ^ 32 = omega (arith, c.in-Some.ensures.0, c.len.ensures) in
    let room : box.survey.meta.next + length box.survey.waiting.items < 2 ^ 32 = subst (λ (v : Survey). v.meta.next + length v.waiting.items < 2 ^ 32) c.begin.ensures.same.0 room_begun in
    elim c.if-count-gt0.branch as (λ _. Surveys now.survey now.fresh now.keywords (g.F.Folder.seen now.folder).stored) [
      | then-count-gt0+in_ok-give_uids w ↦
          let new = w.give_uids.new.self in
          let number_begun : c.in-Some.count ≡ length begun.survey.waiting.items = omega (arith, c.in-Some.ensures.1, c.len.ensures) in
          let number : c.in-Some.count ≡ length box.survey.waiting.items = subst (λ (v : Survey). c.in-Some.count ≡ length v.waiting.items) c.begin.ensures.same.0 number_begun in
          let extends = given box.survey begun.survey new.survey c.in-Some.count c.begin.ensures.same.0 number w.in_ok-give_uids.ensures.survey in
          surveys_same now.keywords box.keywords now.survey new.survey now.fresh box.fresh (g.F.Folder.seen now.folder).stored (admitted_all box.survey.waiting.items box.survey.meta.next (set_aside_all box.survey.waiting.items box.survey.meta s))
          (ap (λ b. b.keywords) w.self-is ∙ w.give_uids.ensures.keywords ∙ c.begin.ensures.keywords)
          (ap (λ b. b.survey) w.self-is)
          (ap (λ b. b.fresh) w.self-is ∙ w.give_uids.ensures.failed.1 ∙ c.begin.ensures.same.1)
          (ap (λ b. (g.F.Folder.seen b.folder).stored) w.self-is
          ∙ w.in_ok-give_uids.ensures.effect (subst (λ b. g.F.Folder.honest b.folder) w.self-is honest)
          ∙ ap (λ (v : Survey). admitted_all v.waiting.items v.meta.next (set_aside_all v.waiting.items v.meta (g.F.Folder.seen begun.folder).stored)) c.begin.ensures.same.0
          ∙ ap (λ f. admitted_all box.survey.waiting.items box.survey.meta.next (set_aside_all box.survey.waiting.items box.survey.meta (g.F.Folder.seen f).stored)) c.begin.ensures.folder)
          (admitted_surveys box.survey box.fresh box.keywords s surveys box.has_fresh.0 box.has_fresh.1 room new.survey extends)
      | else-count-gt0+else-not-self w ↦
          surveys_same now.keywords box.keywords now.survey box.survey now.fresh box.fresh (g.F.Folder.seen now.folder).stored s
          (ap (λ b. b.keywords) w.self-is ∙ c.begin.ensures.keywords)
          (ap (λ b. b.survey) w.self-is ∙ c.begin.ensures.same.0)
          (ap (λ b. b.fresh) w.self-is ∙ c.begin.ensures.same.1)
          (ap (λ b. (g.F.Folder.seen b.folder).stored) w.self-is ∙ ap (λ f. (g.F.Folder.seen f).stored) c.begin.ensures.folder)
          surveys
    ]
