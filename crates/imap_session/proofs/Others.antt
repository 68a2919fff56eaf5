-- What is needed of what others do.
use Rattle.std.proofs.Common.{◌≡◌, ℕ, true, false, List, [], Option, None, Some, if◌then◌else◌, refl, sym, ◌∙◌, ap, subst}
use Rattle.imap_session.specs.Mailboxes.{FarMailbox}
use Rattle.imap_session.specs.Servers.{Server, is_over, Quiet, selected, exists_of, news, reported}
use Rattle.imap_session.specs.Portions.{goes_in}
use Rattle.imap_session.specs.Unread.{Kept, Holds}
use Rattle.imap_session.specs.Serving.{End}
use Rattle.imap_session.specs.Lines.{Stays}
use Rattle.imap_session.specs.Heard.{AreUntagged}
use Rattle.imap_session.specs.Ends.{HasRead}

pub quiet-trans : (s t u : Server) → Quiet s t → Quiet t u → Quiet s u
quiet-trans s t u h k = k ∙ h

pub quiet_left : (s t : Server) → Quiet s t → is_over t.condition ≡ is_over s.condition
quiet_left s t h = ap (λ (v : Server). is_over v.condition) h

pub reported_left : (s : Server) → is_over (reported s).condition ≡ is_over s.condition
reported_left s = refl

exists_untagged : (m : Option FarMailbox) → AreUntagged (exists_of m)
exists_untagged None = tt
exists_untagged (Some m) = (refl, tt)

pub news_untagged : (s : Server) → AreUntagged (news s)
news_untagged s =
    elim s.has_news as (λ b. AreUntagged (if b then exists_of (selected s) else [])) [ true ↦ exists_untagged (selected s) | false ↦ tt ]

-- what the server has read stays
pub read_stays : (front : List ℕ) (old new : End) → Stays old new → HasRead front old → HasRead front new
read_stays front old new s h = record {
  kept = s.kept ∙ h.kept;
  unread = subst (λ (k : Kept). Holds (is_over new.server.condition) k front (goes_in front)) (sym s.kept)
      (subst (λ (v : Server). Holds (is_over v.condition) old.kept front (goes_in front)) (sym s.quiet) h.unread);
}
