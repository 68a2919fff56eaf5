use Rattle.std.proofs.Common.{◌≡◌, ◌≤◌, ◌⊎◌, inl, inr, List, ◌++◌, length, ap, ◌∙◌, rules}
use Rattle.std.proofs.lemmas.List.{length_push}
use Rattle.std.proofs.lemmas.Slice.Zip.{zip_turn, Zip-so_far}
use Rattle.rules.specs.declared.entry.Entry.{Entry}
use Rattle.book.proofs.CommittedLists.{next_copy, all_copies, ends_at}
use Rattle.book.proofs.committed.push_copies.Goals as goal

pub loop-step-preserved : goal.loop-step-preserved
loop-step-preserved c =
    let steps = c.args.steps.now in
    let log = c.args.log.now in
    let n = length c.loop-step.yielded in
    let first : c.into_iter-step-iterator.result.a.rest.now ≡ steps = search rules in
    let second : c.into_iter-step-iterator.result.b.rest.now ≡ log = search rules in
    let at = zip_turn steps log c.loop-step.yielded c.into_iter-step-iterator.result c.loop-step.step-iterator c.next.new.self c.next.result first second c.loop-step.yielded_by
    (c.in-Some.step, c.in-Some.logged) c.in-Some.is c.next.ensures.steps in
    rw (length_push c.loop-step.yielded (c.in-Some.step, c.in-Some.logged))
    (next_copy n steps log c.in-Some.step.now c.in-Some.logged.now c.args.list.now.items c.loop-step.list.items c.push_copy.new.list.items at.0 at.1 (at.2 _) (at.3 _) c.loop-step.invariant c.in_ok-push_copy.ensures)

pub returns : goal.returns
returns c =
    let steps = c.args.steps.now in
    let log = c.args.log.now in
    let n = length c.loop-step.yielded in
    let first : c.into_iter-step-iterator.result.a.rest.now ≡ steps = search rules in
    let second : c.into_iter-step-iterator.result.b.rest.now ≡ log = search rules in
    let so = Zip-so_far c.loop-step.yielded c.into_iter-step-iterator.result c.loop-step.step-iterator c.loop-step.yielded_by in
    let ended : (length steps ≤ n) ⊎ (length log ≤ n) = elim c.in-None.ensures.steps [
      | inl s ↦ inl (ends_at steps c.into_iter-step-iterator.result.a.rest.now c.loop-step.step-iterator.a.rest.now n first so.0 s.1.0)
      | inr s ↦ inr (ends_at log c.into_iter-step-iterator.result.b.rest.now c.loop-step.step-iterator.b.rest.now n second so.1 s.1.0)
    ] in
    c.loop-step.invariant ∙ ap (λ (l : List Entry). c.args.list.now.items ++ l) (all_copies n steps log ended)
