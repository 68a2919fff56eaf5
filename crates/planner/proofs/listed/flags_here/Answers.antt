use Rattle.std.proofs.Common.{sym, arith, ap}
use Rattle.mailcore.specs.declared.listing.Item.{Item}
use Rattle.planner.proofs.Passing.{no_flags, same_default}
use Rattle.planner.proofs.listed.flags_here.Goals as goal
use Rattle.planner.proofs.listed.flags_here.Goals.{else-at-items-via-then-at-items+else-get-uid, else-at-items-via-else-at-items}

pub returns-else-at-items : goal.returns-else-at-items
returns-else-at-items c =
    let is = c.args.items.now in
    sym (no_flags is c.args.at c.args.uid c.requires.rising (λ within d. elim c.else-at-items.branch [
      | else-at-items-via-then-at-items+else-get-uid w ↦
          let up = c.requires.reached d within in
          let here = same_default is c.args.at d w.index-items-at.result within in
          let uid = ap (λ (i : Item). i.uid) here in
          let read = ap (λ (i : Item). i.uid) w.index-items-at.is in
          let number = w.get.ensures.number in
          let apart = w.if-get-uid.false in
          omega arith
      | else-at-items-via-else-at-items w ↦ absurd (let past = w.if-at-items.false in omega arith)
    ]))
