use Rattle.std.proofs.Common.{None, sym, subst, arith}
use Rattle.maildir.specs.Folders.{AreApart, name_at}
use Rattle.maildir.specs.Slots.{files_in}
use Rattle.maildir.proofs.FileLemmas.{apart_left}
use Rattle.maildir.proofs.SlotLemmas.{one_less, removed_in}
use Rattle.maildir.proofs.ReportedLemmas.{reported_removed}
use Rattle.maildir.proofs.mem_files.MemFiles.clear.Goals as goal

pub overflow_sub-self : goal.overflow_sub-self
overflow_sub-self c =
    let less = one_less (name_at c.args.at) c.args.self.now.slots.items c.args.spot c.requires.found in
    omega (arith, less, c.args.self.now.counted)

pub invariant_of-self : goal.invariant_of-self
invariant_of-self c =
    let at = name_at c.args.at in
    let slots = c.args.self.now.slots.items in
    let less = one_less at slots c.args.spot c.requires.found in
    record {
      apart = subst AreApart (sym (removed_in at slots c.args.spot c.args.self.now.apart c.requires.found)) (apart_left None at.place at.name (files_in slots) c.args.self.now.apart);
      reported = reported_removed at slots c.args.spot c.args.self.now.index c.forget.new.self c.args.self.now.apart c.args.self.now.reported c.requires.found c.forget.ensures.gone;
      counted = omega (arith, less, c.args.self.now.counted);
    }

pub returns-clause-files : goal.returns-clause-files
returns-clause-files c = removed_in (name_at c.args.at) c.args.self.now.slots.items c.args.spot c.args.self.now.apart c.requires.found
