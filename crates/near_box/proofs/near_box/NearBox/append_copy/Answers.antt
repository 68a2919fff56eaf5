use Rattle.std.proofs.Common.{◌≡◌, ℕ, [], ◌∷◌, ◌<◌, ◌+◌, ◌^◌, ◌⊎◌, ap, ◌∙◌, arith, subst, sym}
use Rattle.std.specs.Prelude.{Result, Ok, Err}
use Rattle.std.proofs.lemmas.Result.{err_from_is_err_and}
use Rattle.mailcore.specs.CopyPieces.{text_left}
use Rattle.maildir.specs.declared.folder.Place.TheVariants.{Cur}
use Rattle.near_box.specs.declared.survey.Survey.{Survey}
use Rattle.near_box.specs.Mailboxes.{near_of}
use Rattle.near_box.specs.NearEffects.{AppendsPart, appended, copy_name, raised}
use Rattle.near_box.specs.Surveys.{Extends, Surveys, entry_at}
use Rattle.near_box.specs.declared.near_fault.NearFault.{NearFault}
use Rattle.near_box.proofs.KeptMailboxes.{append_mailbox}
use Rattle.near_box.proofs.AppendLemmas.{appended_near, appended_surveys, append_stopped, delivery}
use Rattle.near_box.proofs.near_box.NearBox.append_copy.Goals as goal

pub returns-clause-effect : goal.returns-clause-effect
returns-clause-effect g c = λ honest.
    let box = c.args.self.now in
    let s = (g.F.Folder.seen box.folder).stored in
    let surveys : Surveys box.survey box.fresh box.keywords s = box.surveys c.in_ok-begin.ensures.ready (c.begin.ensures.was_honest (c.deliver.ensures.was_honest honest)) in
    let room : box.survey.meta.next + 1 < 2 ^ 32 = grind (arith, c.in-Some.ensures) in
    let done : (g.F.Folder.seen c.deliver.new.self.folder).stored ≡ appended box.keywords box.survey.meta (text_left c.args.copy) c.args.flags s =
    c.in_ok-deliver.ensures.effect honest
    ∙ ap (λ k. appended k c.begin.new.self.survey.meta (text_left c.args.copy) c.args.flags (g.F.Folder.seen c.begin.new.self.folder).stored) c.begin.ensures.keywords
    ∙ ap (λ v. appended box.keywords v.meta (text_left c.args.copy) c.args.flags (g.F.Folder.seen c.begin.new.self.folder).stored) c.begin.ensures.same.0
    ∙ ap (λ f. appended box.keywords box.survey.meta (text_left c.args.copy) c.args.flags (g.F.Folder.seen f).stored) c.begin.ensures.folder in
    ap (near_of box.fresh box.keywords) done ∙ appended_near box.survey box.fresh box.keywords s surveys box.has_fresh.0 box.has_fresh.1 room (text_left c.args.copy) c.args.flags

pub returns-in_err-deliver-clause-effect : goal.returns-in_err-deliver-clause-effect
returns-in_err-deliver-clause-effect g c = λ honest.
    let e = err_from_is_err_and c.from_residual-in_err-deliver.result c.from_residual-in_err-deliver.ensures.1 in
    let box = c.args.self.now in
    let s = (g.F.Folder.seen box.folder).stored in
    let after = (g.F.Folder.seen c.deliver.new.self.folder).stored in
    let surveys : Surveys box.survey box.fresh box.keywords s = box.surveys c.in_ok-begin.ensures.ready (c.begin.ensures.was_honest (c.deliver.ensures.was_honest honest)) in
    let room : box.survey.meta.next + 1 < 2 ^ 32 = grind (arith, c.in-Some.ensures) in
    let left = subst (λ f. (after ≡ (g.F.Folder.seen f).stored) ⊎ ((after ≡ appended box.keywords box.survey.meta (text_left c.args.copy) c.args.flags (g.F.Folder.seen f).stored) ⊎ AppendsPart box.survey.meta (text_left c.args.copy) (g.F.Folder.seen f).stored after)) c.begin.ensures.folder
    (subst (λ (v : Survey). (after ≡ (g.F.Folder.seen c.begin.new.self.folder).stored) ⊎ ((after ≡ appended box.keywords v.meta (text_left c.args.copy) c.args.flags (g.F.Folder.seen c.begin.new.self.folder).stored) ⊎ AppendsPart v.meta (text_left c.args.copy) (g.F.Folder.seen c.begin.new.self.folder).stored after)) c.begin.ensures.same.0
    (subst (λ k. (after ≡ (g.F.Folder.seen c.begin.new.self.folder).stored) ⊎ ((after ≡ appended k c.begin.new.self.survey.meta (text_left c.args.copy) c.args.flags (g.F.Folder.seen c.begin.new.self.folder).stored) ⊎ AppendsPart c.begin.new.self.survey.meta (text_left c.args.copy) (g.F.Folder.seen c.begin.new.self.folder).stored after)) c.begin.ensures.keywords
    (c.in_err-deliver.ensures.effect honest))) in
    rw (e.1) (append_stopped box.survey box.fresh box.keywords s surveys box.has_fresh.0 box.has_fresh.1 room (text_left c.args.copy) c.args.flags after left)

pub invariant_of-self-2-clause-surveys : goal.invariant_of-self-2-clause-surveys
invariant_of-self-2-clause-surveys g c = λ ready honest.
    let box = c.args.self.now in
    let s = (g.F.Folder.seen box.folder).stored in
    let new = c.deliver.new.self in
    let surveys : Surveys box.survey box.fresh box.keywords s = box.surveys c.in_ok-begin.ensures.ready (c.begin.ensures.was_honest (c.deliver.ensures.was_honest honest)) in
    let room : box.survey.meta.next + 1 < 2 ^ 32 = grind (arith, c.in-Some.ensures) in
    let number : c.in-Some.uid ≡ box.survey.meta.next = grind (arith, c.in-Some.ensures) in
    let done : (g.F.Folder.seen new.folder).stored ≡ appended box.keywords box.survey.meta (text_left c.args.copy) c.args.flags s =
    c.in_ok-deliver.ensures.effect honest
    ∙ ap (λ k. appended k c.begin.new.self.survey.meta (text_left c.args.copy) c.args.flags (g.F.Folder.seen c.begin.new.self.folder).stored) c.begin.ensures.keywords
    ∙ ap (λ v. appended box.keywords v.meta (text_left c.args.copy) c.args.flags (g.F.Folder.seen c.begin.new.self.folder).stored) c.begin.ensures.same.0
    ∙ ap (λ f. appended box.keywords box.survey.meta (text_left c.args.copy) c.args.flags (g.F.Folder.seen f).stored) c.begin.ensures.folder in
    let delivered = subst (λ k. Extends (entry_at c.in-Some.uid (record { place = Cur; name = copy_name k c.begin.new.self.survey.meta.validity c.in-Some.uid c.args.flags }) ∷ []) c.begin.new.self.survey.waiting.items (raised c.begin.new.self.survey.meta 1) c.begin.new.self.survey new.survey)
    c.begin.ensures.keywords c.in_ok-deliver.ensures.survey in
    let extends = delivery box.keywords box.survey c.begin.new.self.survey new.survey c.in-Some.uid c.args.flags c.begin.ensures.same.0 number delivered in
    let same : new.fresh ≡ box.fresh = c.deliver.ensures.failed.1 ∙ c.begin.ensures.same.1 in
    let words : new.keywords ≡ box.keywords = c.deliver.ensures.keywords ∙ c.begin.ensures.keywords in
    subst (λ t. Surveys new.survey new.fresh new.keywords t) (sym done)
    (subst (λ k. Surveys new.survey new.fresh k (appended box.keywords box.survey.meta (text_left c.args.copy) c.args.flags s)) (sym words)
    (subst (λ n. Surveys new.survey n box.keywords (appended box.keywords box.survey.meta (text_left c.args.copy) c.args.flags s)) (sym same)
    (appended_surveys box.survey box.fresh box.keywords s surveys box.has_fresh.0 box.has_fresh.1 room (text_left c.args.copy) c.args.flags new.survey extends)))

pub returns-in_err-deliver-clause-mailbox : goal.returns-in_err-deliver-clause-mailbox
returns-in_err-deliver-clause-mailbox g c = λ honest is.
    let box = c.args.self.now in
    let s = (g.F.Folder.seen box.folder).stored in
    let after = (g.F.Folder.seen c.deliver.new.self.folder).stored in
    let surveys : Surveys box.survey box.fresh box.keywords s = box.surveys c.in_ok-begin.ensures.ready (c.begin.ensures.was_honest (c.deliver.ensures.was_honest honest)) in
    let room : box.survey.meta.next + 1 < 2 ^ 32 = grind (arith, c.in-Some.ensures) in
    let left = subst (λ f. (after ≡ (g.F.Folder.seen f).stored) ⊎ ((after ≡ appended box.keywords box.survey.meta (text_left c.args.copy) c.args.flags (g.F.Folder.seen f).stored) ⊎ AppendsPart box.survey.meta (text_left c.args.copy) (g.F.Folder.seen f).stored after)) c.begin.ensures.folder
    (subst (λ (v : Survey). (after ≡ (g.F.Folder.seen c.begin.new.self.folder).stored) ⊎ ((after ≡ appended box.keywords v.meta (text_left c.args.copy) c.args.flags (g.F.Folder.seen c.begin.new.self.folder).stored) ⊎ AppendsPart v.meta (text_left c.args.copy) (g.F.Folder.seen c.begin.new.self.folder).stored after)) c.begin.ensures.same.0
    (subst (λ k. (after ≡ (g.F.Folder.seen c.begin.new.self.folder).stored) ⊎ ((after ≡ appended k c.begin.new.self.survey.meta (text_left c.args.copy) c.args.flags (g.F.Folder.seen c.begin.new.self.folder).stored) ⊎ AppendsPart c.begin.new.self.survey.meta (text_left c.args.copy) (g.F.Folder.seen c.begin.new.self.folder).stored after)) c.begin.ensures.keywords
    (c.in_err-deliver.ensures.effect honest))) in
    let answer : Result ℕ NearFault = Err c.in_err-deliver.field-0.0 in
    append_mailbox box.survey box.fresh box.keywords s surveys box.has_fresh.0 box.has_fresh.1 is room (text_left c.args.copy) c.args.flags after answer left

pub returns-clause-mailbox : goal.returns-clause-mailbox
returns-clause-mailbox g c = λ honest is.
    let box = c.args.self.now in
    let s = (g.F.Folder.seen box.folder).stored in
    let after = (g.F.Folder.seen c.deliver.new.self.folder).stored in
    let surveys : Surveys box.survey box.fresh box.keywords s = box.surveys c.in_ok-begin.ensures.ready (c.begin.ensures.was_honest (c.deliver.ensures.was_honest honest)) in
    let room : box.survey.meta.next + 1 < 2 ^ 32 = grind (arith, c.in-Some.ensures) in
    let done : after ≡ appended box.keywords box.survey.meta (text_left c.args.copy) c.args.flags s =
    c.in_ok-deliver.ensures.effect honest
    ∙ ap (λ k. appended k c.begin.new.self.survey.meta (text_left c.args.copy) c.args.flags (g.F.Folder.seen c.begin.new.self.folder).stored) c.begin.ensures.keywords
    ∙ ap (λ v. appended box.keywords v.meta (text_left c.args.copy) c.args.flags (g.F.Folder.seen c.begin.new.self.folder).stored) c.begin.ensures.same.0
    ∙ ap (λ f. appended box.keywords box.survey.meta (text_left c.args.copy) c.args.flags (g.F.Folder.seen f).stored) c.begin.ensures.folder in
    let answer : Result ℕ NearFault = Ok c.in-Some.uid in
    append_mailbox box.survey box.fresh box.keywords s surveys box.has_fresh.0 box.has_fresh.1 is room (text_left c.args.copy) c.args.flags after answer done
