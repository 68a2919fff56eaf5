-- Bytes that are passed on.
use Rattle.std.proofs.Common.{ℕ, List, ◌++◌, sym, ◌∙◌, ap, append_assoc}
use Rattle.mailcore.specs.Visitors.{Visitors}
use Rattle.imap_session.specs.Lines.{Line}
use Rattle.imap_link.specs.Sending.{SendsThen}
use Rattle.link_face.specs.Faces.{faced}

-- what came before and was not handed out stays
pub faced_sends : (v : Visitors) (held bytes : List ℕ) (old new : Line) → SendsThen v bytes old new → SendsThen v bytes (faced held old) (faced held new)
faced_sends v held bytes old new a = record {
  mid = a.mid;
  visits = a.visits;
  then = record {
    read = a.then.read;
    lost = a.then.lost;
    said = a.then.said;
    heard = a.then.heard;
    out = a.then.out;
    split = a.then.split;
    feeds = a.then.feeds;
    heard_as = a.then.heard_as;
    spelled = a.then.spelled;
    replied = ap (λ (l : List ℕ). held ++ l) a.then.replied ∙ sym (append_assoc held old.unseen a.then.out);
  };
}
