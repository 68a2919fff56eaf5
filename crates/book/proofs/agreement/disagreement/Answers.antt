use Rattle.std.proofs.Common.{◌≡◌, ◌∙◌, ◌+◌, List, length, Some, None, ap, rules}
use Rattle.mailcore.specs.declared.keywords.Keyword.{Keyword}
use Rattle.rules.specs.declared.plan.Step.{Step}
use Rattle.rules.specs.declared.plan.Note.{Note}
use Rattle.book.proofs.AgreementLemmas.{in_step, in_note, in_copy, nowhere, bad_step, bad_note, bad_copy}
use Rattle.book.specs.Agreement.{first_line}
use Rattle.book.proofs.AgreedLemmas.{agreed_if_none}
use Rattle.book.proofs.agreement.disagreement.Goals as goal

pub returns-in-Some-clause-first : goal.returns-in-Some-clause-first
returns-in-Some-clause-first c =
    let entries = c.args.entries.now in
    let j = c.args.journal.now in
    let step : bad_step entries j ≡ Some c.in-Some.i = search rules in
    ap (λ (ks : List Keyword). Some (5 + length ks + c.in-Some.i)) c.as_slice.ensures.list ∙ in_step entries j c.in-Some.i step

pub returns-in-Some-bad_note-clause-first : goal.returns-in-Some-bad_note-clause-first
returns-in-Some-bad_note-clause-first c =
    let entries = c.args.entries.now in
    let j = c.args.journal.now in
    let i = c.in-Some-bad_note.i in
    let step : bad_step entries j ≡ None = search rules in
    let note : bad_note entries j ≡ Some i = search rules in
    ap (λ (ks : List Keyword). Some (5 + length ks + length c.as_slice-steps.result.now + i)) c.as_slice.ensures.list
    ∙ ap (λ (s : List Step). Some (first_line j + length s + i)) c.as_slice-steps.ensures ∙ in_note entries j i step note

pub returns-in-Some-2-clause-first : goal.returns-in-Some-2-clause-first
returns-in-Some-2-clause-first c =
    let entries = c.args.entries.now in
    let j = c.args.journal.now in
    let i = c.in-Some-2.i in
    let step : bad_step entries j ≡ None = search rules in
    let note : bad_note entries j ≡ None = search rules in
    let copy : bad_copy entries j ≡ Some i = search rules in
    ap (λ (ks : List Keyword). Some (5 + length ks + length c.as_slice-steps.result.now + length c.as_slice-notes.result.now + 1 + i)) c.as_slice.ensures.list
    ∙ ap (λ (s : List Step). Some (first_line j + length s + length c.as_slice-notes.result.now + 1 + i)) c.as_slice-steps.ensures
    ∙ ap (λ (n : List Note). Some (first_line j + length j.plan.steps + length n + 1 + i)) c.as_slice-notes.ensures
    ∙ in_copy entries j i step note copy

pub returns-in-None-clause-first : goal.returns-in-None-clause-first
returns-in-None-clause-first c =
    let entries = c.args.entries.now in
    let j = c.args.journal.now in
    let step : bad_step entries j ≡ None = search rules in
    let note : bad_note entries j ≡ None = search rules in
    let copy : bad_copy entries j ≡ None = search rules in
    nowhere entries j step note copy

pub returns-in-None-clause-agreed : goal.returns-in-None-clause-agreed
returns-in-None-clause-agreed c = agreed_if_none c.args.entries.now c.args.journal.now None (returns-in-None-clause-first c)
