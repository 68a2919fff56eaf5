use Rattle.std.proofs.Common.{◌≡◌, ◌∙◌, List, ◌++◌, arith, ap, subst}
use Rattle.std.specs.List.Sorted.{IsPermutation}
use Rattle.rules.specs.declared.entry.Entry.{Entry}
use Rattle.rules.specs.declared.plan.Step.{Step}
use Rattle.sync_state.specs.declared.journal.Logged.{Logged}
use Rattle.book.specs.Committed.{kept_entries, entries_of_copies}
use Rattle.book.proofs.CommittedPairs.{AreCommitted, committed_pairs}
use Rattle.book.proofs.committed.committed.Goals as goal

are_committed : (c : goal.After-sort) → AreCommitted c.sort.new.list.items
are_committed c =
    let j = c.args.journal.now in
    let old = c.args.old.now.entries in
    let kept : c.push_all_kept.new.list.items ≡ kept_entries j old =
    c.in_ok-push_all_kept.ensures ∙ ap (λ (l : List Entry). l ++ kept_entries j c.as_slice.result.now) c.new-list.ensures.items
    ∙ ap (λ (l : List Entry). kept_entries j l) c.as_slice.ensures.all in
    let steps : c.as_slice-2.result.now ≡ j.plan.steps = c.as_slice-2.ensures in
    let log : c.as_slice-3.result.now ≡ j.log = c.as_slice-3.ensures in
    let all : c.push_copies.new.list.items ≡ kept_entries j old ++ entries_of_copies j.plan.steps j.log =
    c.in_ok-push_copies.ensures ∙ ap (λ (l : List Entry). l ++ entries_of_copies c.as_slice-2.result.now c.as_slice-3.result.now) kept
    ∙ ap (λ (l : List Step). kept_entries j old ++ entries_of_copies l c.as_slice-3.result.now) steps
    ∙ ap (λ (l : List Logged). kept_entries j old ++ entries_of_copies j.plan.steps l) log in
    committed_pairs j old c.sort.new.list.items c.requires.fits c.as_slice.ensures.pairs c.requires.entries c.requires.agrees
    (subst (λ (l : List Entry). IsPermutation l c.sort.new.list.items) all c.sort.ensures.same) c.sort.ensures.in_order

pub from_vec-requires : goal.from_vec-requires
from_vec-requires c = (are_committed c).pairs

pub returns-clause-has_text : goal.returns-clause-has_text
returns-clause-has_text c =
    let plan = c.requires.fits.plan in
    let are = are_committed c.before in
    record {
      run = record { positive = omega (arith, c.requires.next); fits = plan.run };
      far_validity = plan.far.validity;
      max_pulled = plan.far.highest;
      near_validity = plan.near.validity;
      max_pushed = plan.near.highest;
      entries = rw c.from_vec.ensures are.fits;
      pairs = rw c.from_vec.ensures are.pairs;
    }
