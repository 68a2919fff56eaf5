use Rattle.std.proofs.Common.{rules, subst, sym}
use Rattle.maildir.specs.Folders.{Stored}
use Rattle.maildir.specs.Gains.{Adds}
use Rattle.near_box.proofs.survey.survey_of.Goals as goal

pub returns-in_err-names-clause-adds : goal.returns-in_err-names-clause-adds
returns-in_err-names-clause-adds g c = λ honest.
    let f = c.in_err-names.ensures.call.left honest in
    subst (λ (t : Stored). Adds g.F.Folder.visitors (g.F.Folder.seen c.args.folder.now).stored t) (sym f.following) f.before

pub returns-in_default-clause-adds : goal.returns-in_default-clause-adds
returns-in_default-clause-adds g c = λ honest.
    let f = c.in_ok-names.ensures.call.effect honest in
    subst (λ (t : Stored). Adds g.F.Folder.visitors (g.F.Folder.seen c.args.folder.now).stored t) (sym f.following.0) f.before

pub returns-in_err-text-clause-adds : goal.returns-in_err-text-clause-adds
returns-in_err-text-clause-adds g c = λ honest.
    let f = c.in_ok-names.ensures.call.effect (c.in_err-text.ensures.was_honest honest) in
    subst (λ (t : Stored). Adds g.F.Folder.visitors (g.F.Folder.seen c.args.folder.now).stored t) (sym (c.in_err-text.ensures.call.left honest))
    (subst (λ (t : Stored). Adds g.F.Folder.visitors (g.F.Folder.seen c.args.folder.now).stored t) (sym f.following.0) f.before)

pub returns-clause-adds : goal.returns-clause-adds
returns-clause-adds g c = λ honest.
    let f = c.in_ok-names.ensures.call.effect (c.in_ok-text.ensures.was_honest honest) in
    subst (λ (t : Stored). Adds g.F.Folder.visitors (g.F.Folder.seen c.args.folder.now).stored t) (sym (c.in_ok-text.ensures.call.effect honest).0)
    (subst (λ (t : Stored). Adds g.F.Folder.visitors (g.F.Folder.seen c.args.folder.now).stored t) (sym f.following.0) f.before)

pub returns-clause-states : goal.returns-clause-states
returns-clause-states g c = λ honest keywords. c.survey_from.ensures.states _ keywords (search rules) (search rules)
