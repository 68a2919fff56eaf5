-- What is left of a plan that is given up.
use Rattle.std.proofs.Common.{◌≡◌, true, ◌++◌, map, refl}
use Rattle.std.specs.Prelude.{Contains, ◌==◌}
use Rattle.std.proofs.lemmas.Bool.{both_ways, eq-eqb, false_from_ne_true}
use Rattle.std.proofs.lemmas.List.Elements.{Contains-append_cases, Contains-append_left, Contains-append_right}
use Rattle.std.proofs.lemmas.List.Sorted.{Contains-permutation, IsPermutation-sym}
use Rattle.mailcore.specs.Sides.{source}
use Rattle.rules.specs.declared.entry.Entry.{Entry}
use Rattle.rules.specs.Called.{called}
use Rattle.rules.specs.Entries.{uid_of}
use Rattle.rules.specs.Propagation.{New}
use Rattle.rules.specs.Scene.{is_paired, scene}
use Rattle.rules.proofs.Walks.{Contains-map, list_any_from}
use Rattle.book.specs.Committed.{entries_of_copies}
use Rattle.book.specs.GivingUp.{left_entry}
use Rattle.law_outcome.proofs.Unpaired.{unpaired}
use Rattle.law_outcome.specs.GivenUpLaws.{CopiesAreNotNew, EntriesAreThese}

pub entries_are_these : EntriesAreThese
entries_are_these j lost old new e left =
    let copies = entries_of_copies j.plan.steps j.log in
    let following = left_entry j lost in
    let kept = map following old.entries in
    let all = kept ++ copies in (
      λ c. Contains-permutation all new.entries (following e) left.entries (Contains-append_left kept copies (following e) (Contains-map following old.entries e (following e) c refl)),
      λ c. Contains-permutation all new.entries e left.entries (Contains-append_right kept copies e c),
      λ c. Contains-append_cases kept copies e (Contains-permutation new.entries all e (IsPermutation-sym all new.entries left.entries) c),
    )

pub copies_are_not_new : CopiesAreNotNew
copies_are_not_new j lost old new far near options e d left c =
    let s = scene far near new options in
    let u = uid_of (source d) e in
    let stands : Contains new.entries e = (entries_are_these j lost old new e left).1 c in
    let paired : is_paired s (source d) u ≡ true = list_any_from (λ (x : Entry). uid_of (source d) x == u) new.entries e stands (eq-eqb u u refl) in
    false_from_ne_true (called s (New d u)) (λ is. both_ways (is_paired s (source d) u) (unpaired s d u is) paired)
