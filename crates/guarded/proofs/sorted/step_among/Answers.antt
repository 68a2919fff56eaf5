use Rattle.std.proofs.Common.{◌∙◌, ltb, sym, ap, arith, rules}
use Rattle.std.proofs.lemmas.Bool.{eq-eqb, true≢false}
use Rattle.std.specs.Prelude.{option_and_then}
use Rattle.std.proofs.lemmas.List.Sorted.{IsPartitionPoint-from_clause, IsPartitionedBy-ltb}
use Rattle.std.proofs.lemmas.Option.{MatchOption-at_some, MatchOption-at_none}
use Rattle.guarded.specs.declared.due.Due.{Due}
use Rattle.guarded.proofs.LookedUp.{find_none, found_at_place, none_at_place, none_here}
use Rattle.guarded.proofs.sorted.step_among.Goals as goal

pub returns-in-Some : goal.returns-in-Some
returns-in-Some c =
    let dues = c.args.dues.now in
    let parts = IsPartitionPoint-from_clause (λ (due : Due). ltb due.uid c.args.uid) dues _ c.partition_point-place.ensures.partitioned (IsPartitionedBy-ltb (λ (due : Due). due.uid) dues c.args.uid c.requires) (λ a r q k. search rules) in
    let at = MatchOption-at_some _ _ c.in-Some.due c.in-Some.is c.get.ensures.lookup.3 in
    let found = found_at_place (λ (due : Due). due.uid) dues c.partition_point-place.result c.args.uid c.in-Some.due.now at.0 parts.0 (at.1 c.in-Some.due.now) (search rules) in
    sym (ap (option_and_then (λ (due : Due). due.after)) found)

pub returns-in_default : goal.returns-in_default
returns-in_default c =
    let dues = c.args.dues.now in
    let parts = IsPartitionPoint-from_clause (λ (due : Due). ltb due.uid c.args.uid) dues _ c.partition_point-place.ensures.partitioned (IsPartitionedBy-ltb (λ (due : Due). due.uid) dues c.args.uid c.requires) (λ a r q k. search rules) in
    let at = MatchOption-at_some _ _ c.in-Some.due c.in-Some.is c.get.ensures.lookup.3 in
    let none = none_here (λ (due : Due). due.uid) dues c.partition_point-place.result c.args.uid c.in-Some.due.now c.requires parts.0 parts.1 (at.1 c.in-Some.due.now) (λ e. true≢false (sym (eq-eqb _ _ e) ∙ sym c.eq.ensures ∙ c.if-eq.false)) in
    sym (ap (option_and_then (λ (due : Due). due.after)) (find_none (λ (due : Due). due.uid) dues c.args.uid none))

pub returns-in_default-2 : goal.returns-in_default-2
returns-in_default-2 c =
    let dues = c.args.dues.now in
    let parts = IsPartitionPoint-from_clause (λ (due : Due). ltb due.uid c.args.uid) dues _ c.partition_point-place.ensures.partitioned (IsPartitionedBy-ltb (λ (due : Due). due.uid) dues c.args.uid c.requires) (λ a r q k. search rules) in
    let none = none_at_place (λ (due : Due). due.uid) dues c.partition_point-place.result c.args.uid c.requires parts.0 (λ l. absurd (let past = MatchOption-at_none _ _ c.in_default.is c.get.ensures.lookup.3 in omega arith)) in
    sym (ap (option_and_then (λ (due : Due). due.after)) (find_none (λ (due : Due). due.uid) dues c.args.uid none))
