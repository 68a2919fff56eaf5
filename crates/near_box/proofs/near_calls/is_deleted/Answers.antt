use Rattle.std.proofs.Common.{◌∙◌, ap, arith}
use Rattle.mailcore.specs.FlagSet.{DELETED, has}
use Rattle.near_box.specs.declared.survey.SurveyEntry.{SurveyEntry}
use Rattle.near_box.proofs.DeletedLemmas.{is_found, marked_found, marked_missing, unmarked_found}
use Rattle.near_box.proofs.near_calls.is_deleted.Goals as goal

pub returns-in-Some-clause-marked : goal.returns-in-Some-clause-marked
returns-in-Some-clause-marked c = λ rising.
    let entry = c.index-entries-i.result in
    marked_found c.args.keywords.now c.args.uid c.args.entries.now c.in-Some.i entry _ rising (omega (arith, c.in-Some.ensures.within)) c.index-entries-i.is
    (ap (λ (e : SurveyEntry). e.uid) c.index-entries-i.is ∙ c.in-Some.ensures.found entry) (c.has.ensures ∙ ap (λ f. has f DELETED) c.flags_of.ensures)

pub returns-in-Some-clause-missing : goal.returns-in-Some-clause-missing
returns-in-Some-clause-missing c = λ none.
    let entry = c.index-entries-i.result in
    absurd (is_found c.args.keywords.now c.args.uid c.args.entries.now c.in-Some.i entry (omega (arith, c.in-Some.ensures.within)) c.index-entries-i.is (ap (λ (e : SurveyEntry). e.uid) c.index-entries-i.is ∙ c.in-Some.ensures.found entry) none)

pub returns-in-None-clause-marked : goal.returns-in-None-clause-marked
returns-in-None-clause-marked c = λ rising. marked_missing c.args.keywords.now c.args.uid c.args.entries.now _ (c.place_of.ensures.missing rising c.in-None.is)

pub returns-in-Some-clause-unmarked : goal.returns-in-Some-clause-unmarked
returns-in-Some-clause-unmarked c = λ unmarked.
    let entry = c.index-entries-i.result in
    c.has.ensures ∙ ap (λ f. has f DELETED) c.flags_of.ensures
    ∙ unmarked_found c.args.keywords.now c.args.uid c.args.entries.now c.in-Some.i entry (omega (arith, c.in-Some.ensures.within)) c.index-entries-i.is (ap (λ (e : SurveyEntry). e.uid) c.index-entries-i.is ∙ c.in-Some.ensures.found entry) unmarked
