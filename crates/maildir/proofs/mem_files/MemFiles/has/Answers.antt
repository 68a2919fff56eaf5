use Rattle.std.proofs.Common.{◌∙◌, ap}
use Rattle.std.specs.Prelude.{is_some}
use Rattle.maildir.specs.Slots.{holds}
use Rattle.maildir.proofs.PlaceLemmas.{position_any}
use Rattle.maildir.proofs.SlotLemmas.{any_in}
use Rattle.maildir.proofs.mem_files.MemFiles.has.Goals as goal

pub returns : goal.returns
returns c =
    let slots = c.args.self.now.slots.items in
    c.is_some.ensures ∙ ap is_some c.spot_of.ensures ∙ position_any (holds c.args.at.place c.args.at.name.now) slots ∙ any_in c.args.at.place c.args.at.name.now slots
