-- What is to be heard while more comes.
use Rattle.std.proofs.Common.{refl, ◌∙◌}
use Rattle.imap_session.specs.Ends.{Ends}
use Rattle.imap_session.proofs.Others.{quiet-trans}
use Rattle.imap_link.specs.Buffers.{Keeps}

pub keeps-trans : (s t u : Ends) → Keeps s t → Keeps t u → Keeps s u
keeps-trans s t u h k = record {
  stays = record {
    quiet = quiet-trans s.end.server t.end.server u.end.server h.stays.quiet k.stays.quiet;
    kept = k.stays.kept ∙ h.stays.kept;
  };
  coming = k.coming ∙ h.coming;
}

pub keeps-refl : (s : Ends) → Keeps s s
keeps-refl s = record { stays = record { quiet = refl; kept = refl }; coming = refl }
