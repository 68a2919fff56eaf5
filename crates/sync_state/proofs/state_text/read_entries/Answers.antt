use Rattle.std.proofs.Common.{◌≡◌, List, [], ◌∷◌, ◌++◌, length, length-append, sym, ap, subst, arith}
use Rattle.rules.specs.declared.entry.Entry.{Entry}
use Rattle.rules.proofs.EntryLemmas.{ArePairs-push}
use Rattle.sync_state.specs.StateReading.{AreEntries}
use Rattle.sync_state.proofs.StateLemmas.{entry_more}
use Rattle.sync_state.proofs.state_text.read_entries.Goals as goal

pub loop-entry-preserved : goal.loop-entry-preserved
loop-entry-preserved c =
    let es = c.loop-entry.entries in
    let e = c.in-Some.entry in
    let are = c.loop-entry.invariant.0 in
    let pairs = ArePairs-push es e are.pairs c.in-Ok.ensures.fits in
    let more = entry_more c.args.version es e c.args.lines.now.rest.now c.loop-entry.lines.rest.now c.take_entry.new.lines.rest.now are c.in-Some.ensures.some pairs in
    let same : c.push.new.self ≡ es ++ e ∷ [] = c.in-Ok.ensures.ok in
    let size = ap (λ (x : List Entry). length x) same in
    let taken = c.in-Some.ensures.taken in
    let before = c.loop-entry.invariant.1 in
    (subst (λ (x : List Entry). AreEntries c.args.version x c.args.lines.now.rest.now c.take_entry.new.lines.rest.now) (sym same) more, omega (arith, length-append es (e ∷ [])))
