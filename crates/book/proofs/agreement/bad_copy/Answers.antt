use Rattle.std.proofs.Common.{min, ◌≡◌, ◌∙◌, ◌<◌, ◌≤◌, length, take, [], not, true, false, List, Bool, sym, ap, rules}
use Rattle.std.specs.List.{position_from}
use Rattle.book.specs.Agreement.{copies_of, log_agrees}
use Rattle.book.proofs.AgreementLemmas.{place_from_zero, left_first, agrees_at, bad_here, bad_later, none_left}
use Rattle.book.proofs.TakenLemmas.{no_copy_known, one_copy_known}
use Rattle.book.proofs.agreement.bad_copy.Goals as goal

pub loop-i-init : goal.loop-i-init
loop-i-init c = record {
  first = ap (λ (z : List Bool). position_from not 0 z) (left_first c.args.entries.now c.args.steps.now c.args.log.now);
  knows = no_copy_known c.args.entries.now c.args.steps.now c.args.steps.now c.args.log.now c.in_ok-taken.taken c.in_ok-taken.ensures;
}

pub returns-then-not-is_free-clause-first : goal.returns-then-not-is_free-clause-first
returns-then-not-is_free-clause-first c =
    let entries = c.args.entries.now in
    let steps = c.args.steps.now in
    let log = c.args.log.now in
    let i = c.loop-i.i in
    let in_steps : i < length steps = search rules in
    let in_log : i < length log = search rules in
    let free = c.is_free.ensures entries steps (copies_of steps (take i log)) (λ _. c.loop-i.invariant.knows) in
    let bad : agrees_at entries steps log i c.index-steps-i.result c.index-log-i.result ≡ false = sym free ∙ c.if-not-is_free.true in
    let here = bad_here entries steps log i c.index-steps-i.result c.index-log-i.result in_steps in_log c.index-steps-i.is c.index-log-i.is bad in
    sym (place_from_zero not (log_agrees entries steps [] steps log) ∙ c.loop-i.invariant.first ∙ here)

pub loop-i-preserved : goal.loop-i-preserved
loop-i-preserved c =
    let entries = c.args.entries.now in
    let steps = c.args.steps.now in
    let log = c.args.log.now in
    let i = c.loop-i.i in
    let in_steps : i < length steps = search rules in
    let in_log : i < length log = search rules in
    let copies = copies_of steps (take i log) in
    let free = c.is_free.ensures entries steps copies (λ _. c.loop-i.invariant.knows) in
    let good : agrees_at entries steps log i c.index-steps-i.result c.index-log-i.result ≡ true = sym free ∙ c.if-not-is_free.false in
    let later = bad_later entries steps log i c.index-steps-i.result c.index-log-i.result in_steps in_log c.index-steps-i.is c.index-log-i.is good in
    record {
      first = c.loop-i.invariant.first ∙ later;
      knows = one_copy_known entries steps steps log i c.index-steps-i-in-loop-i.result c.index-log-i-in-loop-i.result c.add_copy.new.self in_steps in_log
          c.index-steps-i-in-loop-i.is c.index-log-i-in-loop-i.is (c.in_ok-add_copy.ensures entries steps copies c.loop-i.invariant.knows);
    }

pub returns-clause-first : goal.returns-clause-first
returns-clause-first c =
    let entries = c.args.entries.now in
    let steps = c.args.steps.now in
    let log = c.args.log.now in
    let i = c.loop-i.i in
    let past : min (length steps) (length log) ≤ i = search rules in
    sym (place_from_zero not (log_agrees entries steps [] steps log) ∙ c.loop-i.invariant.first ∙ ap (λ (z : List Bool). position_from not i z) (none_left entries steps log i past))
