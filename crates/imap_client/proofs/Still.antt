-- A still connection is idle.
use Rattle.std.proofs.Common.{◌≡◌, Bool, true, false, [], ◌∷◌, refl, sym, ap, subst}
use Rattle.imap_session.specs.Servers.{Server, NotAuthenticated}
use Rattle.imap_session.specs.Unread.{Kept, Whole, Dropping, Holds}
use Rattle.imap_session.specs.Serving.{End}
use Rattle.imap_session.proofs.Opening.{new_end_is_empty}
use Rattle.imap_session.specs.Ends.{Ends, IsIdle}
use Rattle.imap_client.specs.Stillness.{keeps_none, IsStill}

keeps_is : (k : Kept) → keeps_none k ≡ true → k ≡ Whole []
keeps_is (Whole []) h = refl
keeps_is (Whole (b ∷ bytes)) h = cc
keeps_is (Dropping fault last) h = cc

empty_held : (s : Server) → Holds false (Whole []) [] []
empty_held s =
    let old : Server = record s { condition = NotAuthenticated; has_news = false } in
    let new : End = record { server = old; kept = Whole [] } in
    new_end_is_empty old new (record { quiet = refl; kept = refl })

pub idle_of : (e : Ends) → IsStill e → IsIdle e
idle_of e h =
    let kept = keeps_is e.end.kept h.1 in
    record {
      reads_on = h.0;
      has_read = record {
        kept = kept;
        unread = subst (λ (b : Bool). Holds b e.end.kept [] []) (sym h.0) (subst (λ (k : Kept). Holds false k [] []) (sym kept) (empty_held e.end.server));
      };
      coming = h.2;
    }

pub still_of : (e : Ends) → IsIdle e → IsStill e
still_of e h = (h.reads_on, ap keeps_none h.has_read.kept, h.coming)
