use Rattle.std.proofs.Common.{string_bytes}
use Rattle.near_places.proofs.StepLemmas.{box_gained, on_ok}
use Rattle.near_places.proofs.tree.TreeWalk.note.Goals as goal

pub returns-clause-gained : goal.returns-clause-gained
returns-clause-gained g c =
    on_ok c.add.result (λ within is tree agrees.
    box_gained tree c.args.path.now (string_bytes c.args.name) c.in_ok-is_box.is_box c.args.self.now c.is_mailbox.new.self c.add.new.self
    c.in_ok-is_box.ensures.noted c.add.ensures.same (within is) agrees) c.add.ensures.within
