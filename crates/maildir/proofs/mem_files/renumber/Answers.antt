use Rattle.std.proofs.Common.{◌≡◌, ◌∙◌, ◌+◌, None, get_or, sym, subst, arith}
use Rattle.std.proofs.lemmas.List.{get_or_default}
use Rattle.maildir.specs.declared.name_index.NameIndex.{NameIndex}
use Rattle.maildir.specs.NameIndexes.{KeepsRoom}
use Rattle.maildir.proofs.IndexLemmas.{room_kept}
use Rattle.maildir.proofs.ReportedLemmas.{NotedTo, noted_all, noted_none, noted_one}
use Rattle.maildir.proofs.mem_files.renumber.Goals.{in-Some, in_default}
use Rattle.maildir.proofs.mem_files.renumber.Goals as goal

pub loop-spot-preserved : goal.loop-spot-preserved
loop-spot-preserved c =
    let slots = c.args.slots.now in
    let old = c.args.index.now in
    let i = c.loop-spot.spot in
    let slot = c.index-slots-spot.result in
    let is : get_or slots i None ≡ slot = sym (c.index-slots-spot.is ∙ get_or_default slots i slot None c.loop-spot-test.true) in
    elim c.match-slot.branch [
      | in-Some w ↦ subst (λ (index : NameIndex). NotedTo (i + 1) slots old index × KeepsRoom old index) (sym w.index-is) (
        noted_one w.in-Some.file slots i w.as_slice.result.now old c.loop-spot.index w.renumber.new.self c.requires.apart c.requires.known
            c.loop-spot-test.true (is ∙ w.in-Some.is) w.as_slice.ensures c.loop-spot.invariant.0 w.renumber.ensures.moved,
        room_kept old c.loop-spot.index w.renumber.new.self c.loop-spot.invariant.1 w.renumber.ensures.room,
      )
      | in_default w ↦ subst (λ (index : NameIndex). NotedTo (i + 1) slots old index × KeepsRoom old index) (sym w.index-is)
          (noted_none slots i old c.loop-spot.index c.loop-spot-test.true (is ∙ w.in_default.is) c.loop-spot.invariant.0, c.loop-spot.invariant.1)
    ]

pub returns-clause-reported : goal.returns-clause-reported
returns-clause-reported c = noted_all c.args.slots.now c.loop-spot.spot c.args.index.now c.loop-spot.index c.requires.known (omega (arith, c.loop-spot-test.false)) c.loop-spot.invariant.0
