use Rattle.std.proofs.Common.{sym, ◌∙◌}
use Rattle.maildir.specs.Folders.{is_at, name_at}
use Rattle.maildir.specs.MemFiles.{files_of}
use Rattle.maildir.proofs.PlaceLemmas.{filter_absent}
use Rattle.maildir.proofs.SlotLemmas.{nowhere_in}
use Rattle.maildir.proofs.mem_files.MemFiles.remove.Goals as goal

pub returns-in_default-clause-files : goal.returns-in_default-clause-files
returns-in_default-clause-files c =
    let at = name_at c.args.at in
    sym (filter_absent (is_at at.place at.name) (files_of c.args.self.now) (nowhere_in at.place at.name c.args.self.now.slots.items (sym c.spot_of.ensures ∙ c.in_default.is)))
