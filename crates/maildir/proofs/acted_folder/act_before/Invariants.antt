use Rattle.std.proofs.Common.{◌≡◌}
use Rattle.maildir.specs.MemFolders.{seen_of}
use Rattle.maildir.proofs.acted_folder.act_before.Given as goal

-- whatever was done, the folder stops as before
abbrev pub invariant-loop-act : goal.invariant-loop-act
invariant-loop-act l =
    ((seen_of l.folder.folder).is_broken ≡ (seen_of l.fn.folder.folder).is_broken) × ((seen_of l.folder.folder).stops ≡ (seen_of l.fn.folder.folder).stops)
