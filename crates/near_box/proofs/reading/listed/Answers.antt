use Rattle.std.proofs.Common.{◌≡◌, ◌+◌, ◌∷◌, [], ℕ, rules, arith, ap, refl, ◌∙◌}
use Rattle.std.proofs.lemmas.Result.{err_from_is_err_and}
use Rattle.maildir.specs.Folders.{Stored}
use Rattle.near_box.specs.Entries.{item_at, count_asked}
use Rattle.mailcore.specs.Spared.{spares}
use Rattle.near_box.proofs.ReadLemmas.{count_step, entry_there_unless, item_read, item_pushed, item_in_order, one_spared, not_gone}
use Rattle.near_box.proofs.reading.listed.Goals as goal

pub loop-entry-preserved : goal.loop-entry-preserved
loop-entry-preserved g c = record {
  was_honest = search rules;
  keeps = search rules;
  stops = search rules;
  whole = search rules;
  shown = λ honest rising there.
      let before = c.is_fit.ensures.was_honest honest in
      let spared = spares c.args.spared.now in
      let s = (g.F.Folder.seen c.args.folder.now).stored in
      let t = (g.F.Folder.seen c.loop-entry.folder).stored in
      let es = c.args.entries.now in
      let i = c.loop-entry.entry-index in
      let entry = c.entry-item.result in
      let same : t ≡ s = c.loop-entry.invariant.keeps before in
      let here = entry_there_unless spared s t es i entry (omega arith) c.entry-item.is there same in
      item_pushed c.args.keywords.now spared s es i entry c.loop-entry.items c.push_item.new.items _ (omega arith) c.entry-item.is
      (c.loop-entry.invariant.shown before rising there)
      (item_read c.args.keywords.now spared s entry c.flags_of.result c.in_ok-is_fit.field-0 c.flags_of.ensures
      (c.in_ok-is_fit.ensures.fit honest here c.args.keywords.now ∙ ap (λ (u : Stored). (item_at c.args.keywords.now spared u entry).fit) same))
      c.in_ok-push_item.ensures.pushed;
  counted = λ honest.
      c.in_ok-is_fit.ensures.counted honest ∙ ap (λ (n : ℕ). n + count_asked (spares c.args.spared.now) (c.entry-item.result ∷ [])) (c.loop-entry.invariant.counted (c.is_fit.ensures.was_honest honest))
      ∙ count_step (spares c.args.spared.now) (g.F.Folder.reads c.args.folder.now) c.args.entries.now c.loop-entry.entry-index c.entry-item.result (omega arith) c.entry-item.is;
  untouched = λ none. let up = one_spared (spares c.args.spared.now) c.args.entries.now c.loop-entry.entry-index c.entry-item.result (omega arith) c.entry-item.is none in
      c.in_ok-is_fit.ensures.untouched up ∙ c.loop-entry.invariant.untouched none;
}

pub returns-in_err-push_item-clause-there : goal.returns-in_err-push_item-clause-there
returns-in_err-push_item-clause-there g c = λ honest rising there gone.
    let s = (g.F.Folder.seen c.args.folder.now).stored in
    let es = c.args.entries.now in
    let i = c.loop-entry.entry-index in
    let entry = c.entry-item.result in
    let p = err_from_is_err_and c.from_residual-in_err-push_item.result c.from_residual-in_err-push_item.ensures.1 in
    not_gone c.in_err-push_item.field-0.0 _ (item_in_order c.args.keywords.now (spares c.args.spared.now) s es i entry c.loop-entry.items entry.uid (omega arith) c.entry-item.is rising (c.loop-entry.invariant.shown (c.is_fit.ensures.was_honest honest) rising there) refl)
    c.in_err-push_item.ensures.fault (cc (p.1, p.2, gone))
