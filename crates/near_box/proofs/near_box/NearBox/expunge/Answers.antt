use Rattle.std.proofs.Common.{◌≡◌, ◌∙◌, ap, sym, subst, refl, take, [], ◌∷◌, arith}
use Rattle.std.proofs.lemmas.Result.{err_from_is_err_and}
use Rattle.device.specs.Calls.{Seen}
use Rattle.maildir.specs.Folders.{Stored}
use Rattle.near_box.proofs.KeptMailboxes.{expunge_mailbox, expunged_mailbox}
use Rattle.near_box.proofs.MailboxLemmas.{mailbox_same}
use Rattle.near_box.specs.Mailboxes.{near_of}
use Rattle.near_box.specs.NearEffects.{without_uids}
use Rattle.near_box.proofs.ExpungeLemmas.{changes_messages, near-expunged, none_named, removes_some, without_all, without_none, without_one_more}
use Rattle.near_box.proofs.near_box.NearBox.expunge.Goals as goal

pub loop-uid-init : goal.loop-uid-init
loop-uid-init g c = record {
  begun = c.begin.ensures.begun;
  fresh = refl;
  keywords = refl;
  missed = refl;
  stops = refl;
  whole = λ e. e;
  was_honest = λ honest. honest;
  surveys = c.in_ok-begin.ensures.surveys;
  removed = λ honest. without_none (g.F.Folder.seen c.begin.new.self.folder).stored;
  untouched = λ honest same. refl;
}

pub loop-uid-preserved : goal.loop-uid-preserved
loop-uid-preserved g c = record {
  begun = c.expunge_one.ensures.failed.0 ∙ c.loop-uid.invariant.begun;
  fresh = c.expunge_one.ensures.failed.1 ∙ c.loop-uid.invariant.fresh;
  keywords = c.expunge_one.ensures.keywords ∙ c.loop-uid.invariant.keywords;
  missed = c.expunge_one.ensures.failed.2 ∙ c.loop-uid.invariant.missed;
  stops = c.in_ok-expunge_one.ensures.part.0 ∙ c.loop-uid.invariant.stops;
  whole = λ e. c.in_ok-expunge_one.ensures.part.1 (c.loop-uid.invariant.whole e);
  was_honest = λ honest. c.loop-uid.invariant.was_honest (c.expunge_one.ensures.was_honest honest);
  surveys = c.in_ok-expunge_one.ensures.surveys;
  removed = λ honest.
      c.in_ok-expunge_one.ensures.effect honest
      ∙ ap (without_uids (c.uid-item.result ∷ [])) (c.loop-uid.invariant.removed (c.expunge_one.ensures.was_honest honest))
      ∙ without_one_more c.args.uids.now c.loop-uid.uid-index c.uid-item.result (g.F.Folder.seen c.begin.new.self.folder).stored (omega arith) c.uid-item.is;
  untouched = λ honest same.
      let kept_word = c.expunge_one.ensures.was_honest honest in
      let so_far = c.loop-uid.invariant.untouched kept_word same in
      let before : Stored = (g.F.Folder.seen c.loop-uid.self.folder).stored in
      let kept : without_uids c.args.uids.now before ≡ before = subst (λ (t : Stored). without_uids c.args.uids.now t ≡ t) (sym (ap (λ (f : Seen Stored). f.stored) so_far)) same in
      c.expunge_one.ensures.untouched (none_named c.loop-uid.self.survey c.loop-uid.self.fresh c.loop-uid.self.keywords before (c.loop-uid.invariant.surveys kept_word) c.args.uids.now c.loop-uid.uid-index c.uid-item.result (omega arith) c.uid-item.is kept)
      ∙ so_far;
}

pub returns-in_err-expunge_one-clause-files : goal.returns-in_err-expunge_one-clause-files
returns-in_err-expunge_one-clause-files g c = λ honest.
    let s : Stored = (g.F.Folder.seen c.args.self.now.folder).stored in
    let before : Stored = (g.F.Folder.seen c.loop-uid.self.folder).stored in
    let after : Stored = (g.F.Folder.seen c.expunge_one.new.self.folder).stored in
    let so_far : before ≡ without_uids (take c.loop-uid.uid-index c.args.uids.now) s =
    c.loop-uid.invariant.removed (c.expunge_one.ensures.was_honest honest) ∙ ap (λ f. without_uids (take c.loop-uid.uid-index c.args.uids.now) (g.F.Folder.seen f).stored) c.in_ok-begin.ensures.folder in
    let e = err_from_is_err_and c.from_residual-in_err-expunge_one.result c.from_residual-in_err-expunge_one.ensures.1 in
    rw (e.1) (removes_some c.args.uids.now c.loop-uid.uid-index c.uid-item.result s before after (omega arith) c.uid-item.is so_far (c.in_err-expunge_one.ensures.effect honest))

pub returns-in_err-expunge_one-clause-effect : goal.returns-in_err-expunge_one-clause-effect
returns-in_err-expunge_one-clause-effect g c = λ honest.
    changes_messages c.args.uids.now c.args.self.now.fresh c.args.self.now.keywords (g.F.Folder.seen c.args.self.now.folder).stored (g.F.Folder.seen c.expunge_one.new.self.folder).stored
    c.from_residual-in_err-expunge_one.result (returns-in_err-expunge_one-clause-files g c honest)

pub returns-clause-effect : goal.returns-clause-effect
returns-clause-effect g c = λ honest.
    let s : Stored = (g.F.Folder.seen c.args.self.now.folder).stored in
    let after : Stored = (g.F.Folder.seen c.loop-uid.self.folder).stored in
    let done : after ≡ without_uids c.args.uids.now s =
    c.loop-uid.invariant.removed honest
    ∙ without_all c.args.uids.now c.loop-uid.uid-index (g.F.Folder.seen c.begin.new.self.folder).stored (omega arith)
    ∙ ap (λ f. without_uids c.args.uids.now (g.F.Folder.seen f).stored) c.in_ok-begin.ensures.folder in
    ap (near_of c.args.self.now.fresh c.args.self.now.keywords) done ∙ near-expunged c.args.uids.now c.args.self.now.fresh c.args.self.now.keywords s

pub returns-in_err-expunge_one-clause-mailbox : goal.returns-in_err-expunge_one-clause-mailbox
returns-in_err-expunge_one-clause-mailbox g c = λ honest is.
    expunge_mailbox c.args.self.now.fresh (g.F.Folder.seen c.args.self.now.folder).stored (g.F.Folder.seen c.expunge_one.new.self.folder).stored c.args.uids.now
    c.from_residual-in_err-expunge_one.result (returns-in_err-expunge_one-clause-files g c honest) is

pub returns-in_err-expunge_one-clause-untouched : goal.returns-in_err-expunge_one-clause-untouched
returns-in_err-expunge_one-clause-untouched g c = λ honest unchanged.
    let kept_word = c.expunge_one.ensures.was_honest honest in
    let folder = c.in_ok-begin.ensures.folder in
    let same = subst (λ (t : Stored). without_uids c.args.uids.now t ≡ t) (sym (ap (λ f. (g.F.Folder.seen f).stored) folder)) unchanged in
    let so_far = c.loop-uid.invariant.untouched kept_word same in
    let before : Stored = (g.F.Folder.seen c.loop-uid.self.folder).stored in
    let kept : without_uids c.args.uids.now before ≡ before = subst (λ (t : Stored). without_uids c.args.uids.now t ≡ t) (sym (ap (λ (f : Seen Stored). f.stored) so_far)) same in
    c.expunge_one.ensures.untouched (none_named c.loop-uid.self.survey c.loop-uid.self.fresh c.loop-uid.self.keywords before (c.loop-uid.invariant.surveys kept_word) c.args.uids.now c.loop-uid.uid-index c.uid-item.result (omega arith) c.uid-item.is kept)
    ∙ so_far ∙ ap g.F.Folder.seen folder

pub returns-clause-mailbox : goal.returns-clause-mailbox
returns-clause-mailbox g c = λ honest is.
    let s : Stored = (g.F.Folder.seen c.args.self.now.folder).stored in
    let after : Stored = (g.F.Folder.seen c.loop-uid.self.folder).stored in
    let done : after ≡ without_uids c.args.uids.now s =
    c.loop-uid.invariant.removed honest
    ∙ without_all c.args.uids.now c.loop-uid.uid-index (g.F.Folder.seen c.begin.new.self.folder).stored (omega arith)
    ∙ ap (λ f. without_uids c.args.uids.now (g.F.Folder.seen f).stored) c.in_ok-begin.ensures.folder in
    mailbox_same c.args.self.now.fresh (without_uids c.args.uids.now s) after done (expunged_mailbox c.args.self.now.fresh s c.args.uids.now is)

pub returns-clause-untouched : goal.returns-clause-untouched
returns-clause-untouched g c = λ honest unchanged.
    let folder = c.in_ok-begin.ensures.folder in
    c.loop-uid.invariant.untouched honest (subst (λ (t : Stored). without_uids c.args.uids.now t ≡ t) (sym (ap (λ f. (g.F.Folder.seen f).stored) folder)) unchanged) ∙ ap g.F.Folder.seen folder
