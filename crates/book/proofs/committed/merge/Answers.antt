use Rattle.std.proofs.Common.{get_or, sym, subst, arith}
use Rattle.std.proofs.lemmas.List.{get_or_read}
use Rattle.rules.specs.declared.entry.Entry.{Entry}
use Rattle.rules.specs.Entries.{EntryBefore}
use Rattle.book.specs.Changes.{HasPassed}
use Rattle.book.proofs.ChangeLemmas.{walk_on}
use Rattle.book.proofs.CommittedLists.{next_kept}
use Rattle.book.proofs.committed.merge.Goals as goal

pub go_to-walk-requires-clause-passed : goal.go_to-walk-requires-clause-passed
go_to-walk-requires-clause-passed c =
    let e = c.entry-item.result in
    subst (λ (x : Entry). HasPassed c.args.journal.now c.args.gones.now x c.loop-entry.walk) (sym c.entry-item.is) (c.loop-entry.invariant.1 c.loop-entry.entry-index e (omega arith) c.loop-entry-test.true)

pub loop-entry-preserved : goal.loop-entry-preserved
loop-entry-preserved c =
    let es = c.args.entries.now in
    let i = c.loop-entry.entry-index in
    let e = c.entry-item.result in (
      next_kept c.args.journal.now es i e c.args.list.now.items c.loop-entry.list.items c.push_kept.new.list.items
          c.loop-entry-test.true c.entry-item.is c.loop-entry.invariant.0 c.in_ok-push_kept.ensures,
      λ j d from within.
          let order : EntryBefore (get_or es i d) (get_or es j d) = c.requires.pairs.ordered i j d (omega arith) within in
          let before : EntryBefore e (get_or es j d) = subst (λ (x : Entry). EntryBefore x (get_or es j d)) (sym (get_or_read es i e c.loop-entry-test.true c.entry-item.is d)) order in
          walk_on c.args.journal.now c.args.gones.now e (get_or es j d) c.go_to-walk.result before c.go_to-walk.ensures.passed,
    )
