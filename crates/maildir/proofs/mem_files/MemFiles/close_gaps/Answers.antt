use Rattle.std.proofs.Common.{◌∙◌, length, sym, ap, subst, rules}
use Rattle.std.specs.Prelude.{is_some}
use Rattle.std.proofs.lemmas.Fn.{filter_same}
use Rattle.maildir.specs.Folders.{AreApart}
use Rattle.maildir.specs.Slots.{Reports, files_in}
use Rattle.maildir.proofs.SlotLemmas.{filled_in}
use Rattle.maildir.proofs.ReportedLemmas.{reported_is_of}
use Rattle.maildir.proofs.mem_files.MemFiles.close_gaps.Goals as goal

pub renumber-requires-clause-apart : goal.renumber-requires-clause-apart
renumber-requires-clause-apart c =
    let slots = c.args.self.now.slots.items in
    let same = ap files_in (c.deref.ensures.value ∙ filter_same _ is_some _ (λ x b f' k. search rules) c.args.self.now.slots.items c.retain.new.self.items c.retain.ensures.filtered) ∙ filled_in slots in
    subst AreApart (sym same) c.args.self.now.apart

pub renumber-requires-clause-known : goal.renumber-requires-clause-known
renumber-requires-clause-known c =
    let slots = c.args.self.now.slots.items in
    let same = ap files_in (c.deref.ensures.value ∙ filter_same _ is_some _ (λ x b f' k. search rules) c.args.self.now.slots.items c.retain.new.self.items c.retain.ensures.filtered) ∙ filled_in slots in
    reported_is_of c.args.self.now.index slots c.deref.result.now c.args.self.now.reported same

pub invariant_of-self : goal.invariant_of-self
invariant_of-self c =
    let slots = c.args.self.now.slots.items in
    let same = ap files_in (filter_same _ is_some _ (λ x b f' k. search rules) c.args.self.now.slots.items c.retain.new.self.items c.retain.ensures.filtered) ∙ filled_in slots in
    record {
      apart = subst AreApart (sym same) c.args.self.now.apart;
      reported = subst (Reports c.renumber.new.index) c.deref.ensures.value c.renumber.ensures.reported;
      counted = c.args.self.now.counted ∙ ap length (sym same);
    }

pub returns-clause-files : goal.returns-clause-files
returns-clause-files c = ap files_in (filter_same _ is_some _ (λ x b f' k. search rules) c.args.self.now.slots.items c.retain.new.self.items c.retain.ensures.filtered) ∙ filled_in c.args.self.now.slots.items
