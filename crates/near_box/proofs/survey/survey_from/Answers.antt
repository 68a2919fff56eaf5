use Rattle.std.proofs.Common.{◌<◌, rules, subst, List, ◌∙◌, sym, ap}
use Rattle.std.specs.Prelude.{AllPairs}
use Rattle.std.specs.List.Sorted.{IsPermutation}
use Rattle.std.specs.Int.NonZero.{non_zero_u32_get}
use Rattle.near_box.specs.Mailboxes.{meta_in}
use Rattle.maildir.specs.declared.folder.FileName.{FileName}
use Rattle.near_box.specs.declared.survey.SurveyEntry.{SurveyEntry}
use Rattle.near_box.proofs.SurveyedLemmas.{surveyed, reported_two, reported_unspelled, reported_not_below}
use Rattle.near_box.proofs.survey.survey_from.Goals as goal

pub returns-then-not-rise-clause-states : goal.returns-then-not-rise-clause-states
returns-then-not-rise-clause-states c = λ s keywords lists text.
    let found = subst (λ (l : List SurveyEntry). IsPermutation l c.sort.new.self.entries.items) c.in_ok-found.ensures.entries c.sort.ensures.entries in
    reported_two s c.args.names.items c.sort.new.self.entries.items lists found c.in_ok-sort.ensures.rise (subst (λ (l : List SurveyEntry). ¬ AllPairs (λ a b. a.uid < b.uid) l) c.deref.ensures.value c.if-not-rise.ensures)

pub returns-in_default-clause-states : goal.returns-in_default-clause-states
returns-in_default-clause-states c = λ s keywords lists text.
    let found = subst (λ (l : List SurveyEntry). IsPermutation l c.sort.new.self.entries.items) c.in_ok-found.ensures.entries c.sort.ensures.entries in
    reported_unspelled _ s c.args.names.items c.sort.new.self.entries.items lists found (subst (λ (l : List SurveyEntry). AllPairs (λ a b. a.uid < b.uid) l) c.deref.ensures.value c.if-not-rise.ensures) (ap (meta_in (non_zero_u32_get c.args.fresh)) (sym text) ∙ sym c.meta_from.ensures.value ∙ c.in_default.is)

pub returns-then-not-are_below-clause-states : goal.returns-then-not-are_below-clause-states
returns-then-not-are_below-clause-states c = λ s keywords lists text.
    let found = subst (λ (l : List SurveyEntry). IsPermutation l c.sort.new.self.entries.items) c.in_ok-found.ensures.entries c.sort.ensures.entries in
    reported_not_below _ s c.in-Some.meta c.args.names.items c.sort.new.self.entries.items lists found (subst (λ (l : List SurveyEntry). AllPairs (λ a b. a.uid < b.uid) l) c.deref.ensures.value c.if-not-rise.ensures) (ap (meta_in (non_zero_u32_get c.args.fresh)) (sym text) ∙ sym c.meta_from.ensures.value ∙ c.in-Some.is) (search rules)

pub returns-clause-states : goal.returns-clause-states
returns-clause-states c = λ s keywords lists text.
    let found = subst (λ (l : List SurveyEntry). IsPermutation l c.sort.new.self.entries.items) c.in_ok-found.ensures.entries c.sort.ensures.entries in
    let waiting = subst (λ (l : List FileName). IsPermutation l c.sort.new.self.waiting.items) c.in_ok-found.ensures.waiting c.sort.ensures.waiting in
    surveyed _ _ keywords s c.args.names.items lists found (subst (λ (l : List SurveyEntry). AllPairs (λ a b. a.uid < b.uid) l) c.deref.ensures.value c.if-not-rise.ensures) waiting c.in_ok-sort.ensures.in_order
    (ap (meta_in (non_zero_u32_get c.args.fresh)) (sym text) ∙ sym c.meta_from.ensures.value ∙ c.in-Some.is) (search rules) (search rules) c.new.ensures
