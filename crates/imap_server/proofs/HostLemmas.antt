-- A server and its connection.
use Rattle.std.proofs.Common.{◌≡◌, List, [], ◌∷◌, ◌++◌, ℕ, Bool, true, Option, Some, None, refl, sym, ap, subst, ◌∙◌, append_assoc}
use Rattle.std.specs.List.{list_all}
use Rattle.std.specs.Option.{option_map}
use Rattle.std.proofs.lemmas.Bool.{and_parts}
use Rattle.std.proofs.lemmas.List.Elements.{All-weaker}
use Rattle.mailcore.specs.MailboxNames.{is_mailbox_name}
use Rattle.imap_replies.specs.declared.reply.Reply.{Reply}
use Rattle.imap_replies.proofs.WrittenReplies.{written_spelled}
use Rattle.imap_session.specs.Mailboxes.{FarMailbox}
use Rattle.imap_session.specs.Servers.{Server}
use Rattle.imap_session.specs.Heard.{AreReplies}
use Rattle.imap_session.specs.Short.{is_short, AreNamed}
use Rattle.imap_session.proofs.ShortReplies.{short_fits}
use Rattle.imap_session.specs.Serving.{Feeds, FeedsSome}
use Rattle.imap_server.specs.declared.unread.Unread.{Unread}
use Rattle.imap_session.specs.Boxes.{IsServed, AreServed}
use Rattle.imap_server.specs.Unreads.{kept_of, end_of}
use Rattle.imap_server.specs.Taking.{Took, Host, Fed, Lost}
use Rattle.imap_server.specs.Writing.{AreWritten}

-- what is written is read as it was meant, and keeps to the limit
pub replies_there : (rs : List Reply) (text : List ℕ) → AreWritten rs text → list_all is_short rs ≡ true → AreReplies rs text
replies_there [] text w h = w
replies_there (r ∷ rs) text w h =
    let p = and_parts (is_short r) (list_all is_short rs) h in
    record { front = w.front; back = w.back; parts = w.parts; first = written_spelled r w.front w.first; fits = short_fits r w.front w.first p.0; others = replies_there rs w.back w.second p.1 }

pub replies-append : (rs qs : List Reply) (x y : List ℕ) → AreReplies rs x → AreReplies qs y → AreReplies (rs ++ qs) (x ++ y)
replies-append [] qs x y h k = subst (λ (l : List ℕ). AreReplies qs (l ++ y)) (sym h) k
replies-append (r ∷ rs) qs x y h k = record {
  front = h.front;
  back = h.back ++ y;
  parts = ap (λ (l : List ℕ). l ++ y) h.parts ∙ append_assoc h.front h.back y;
  first = h.first;
  fits = h.fits;
  others = replies-append rs qs h.back y h.others k;
}

module _ (old : Host) (server : Server) (unread taken : Option Unread) (lost : Bool) (first : Unread) (host : record { server = server; connection = option_map kept_of unread; is_lost = lost } ≡ old) (value : taken ≡ unread) (there : taken ≡ Some first) where
  was : old.connection ≡ Some (kept_of first)
  was = ap (λ (h : Host). h.connection) (sym host) ∙ ap (option_map kept_of) (sym value ∙ there)

  pub fed_by : (piece none out : List ℕ) (new : Server) (after : Unread) → none ≡ [] → Took (end_of server first) piece none out new after → Fed old piece out (record { server = new; connection = Some (kept_of after); is_lost = lost })
  fed_by piece none out new after empty t = record {
    before = kept_of first;
    after = kept_of after;
    was = was;
    is = refl;
    said = t.said;
    feeds = subst (λ (s : Server). Feeds (record { server = s; kept = kept_of first }) piece t.said (end_of new after)) (ap (λ (h : Host). h.server) host) t.feeds;
    spelled = subst (AreReplies t.said) (sym (t.wrote.appended.parts ∙ ap (λ (l : List ℕ). l ++ t.wrote.appended.text) empty)) (replies_there t.said t.wrote.appended.text t.wrote.appended.spelled t.short);
    lost = ap (λ (h : Host). h.is_lost) host;
  }

  pub lost_by : (piece : List ℕ) (new : Server) (left : Option Unread) → left ≡ None → FeedsSome (end_of server first) piece new → Lost old piece (record { server = new; connection = option_map kept_of left; is_lost = true })
  lost_by piece new left closed some = record {
    before = kept_of first;
    was = was;
    closed = ap (option_map kept_of) closed;
    lost = refl;
    some = subst (λ (s : Server). FeedsSome (record { server = s; kept = kept_of first }) piece new) (ap (λ (h : Host). h.server) host) some;
  }

pub are_named : (mailboxes : List FarMailbox) → AreServed mailboxes → AreNamed mailboxes
are_named mailboxes are = All-weaker (λ (m : FarMailbox). IsServed m) (λ (m : FarMailbox). is_mailbox_name m.name ≡ true) (λ m is. is.name) mailboxes are
