-- What became of a command of which the rest was sent, where nothing else was on the way.
use Rattle.std.proofs.Common.{◌≡◌, ◌⊎◌, inl, inr, ℕ, false, List, [], ◌++◌, refl, sym, ◌∙◌, ap, subst, append_assoc, append-nil}
use Rattle.imap_commands.specs.declared.command.Command.{Command}
use Rattle.imap_replies.specs.declared.reply.Reply.{Reply}
use Rattle.imap_session.specs.Servers.{Server, is_over, Quiet, news}
use Rattle.imap_session.specs.Portions.{goes_in}
use Rattle.imap_session.specs.Serving.{End, IsUnread, FeedsFrom, ServesSome, FeedsSome, text_of}
use Rattle.imap_session.specs.Heard.{AreReplies, AreHeardAs}
use Rattle.imap_session.specs.Lines.{Line, Sends}
use Rattle.imap_session.specs.Ends.{Ends, ends_of, HasRead, IsAt, IsText, Did, SentOr, MayHave, DidCommand}
use Rattle.imap_session.proofs.Others.{quiet_left}
use Rattle.imap_session.proofs.Fronts.{NoneRead, OneRead, front}
use Rattle.imap_session.proofs.FrontGos.{goes_no_more, cancel, holds_said, reads_none}
use Rattle.imap_session.proofs.Answering.{heard_none}
use Rattle.imap_session.proofs.AnswersApart.{no_bytes}

-- ---- the server's end

pub record SaysNothing (old new : Server) (said : List Reply) : Type 0 where
  pub quiet : Quiet old new
  pub none : said ≡ []

pub record SaysAll (c : Command) (old : Server) (new : End) (said : List Reply) : Type 0 where
  pub did : Did c [] old said new.server
  pub has_read : HasRead [] new

-- what was said already is taken off
later_said : (c : Command) (goes : List Reply) (old new : Server) (replies said : List Reply) → Did c goes old replies new → goes ++ said ≡ replies → Did c [] old said new
later_said c goes old new replies said d e = record {
  before = d.before;
  own = d.own;
  after = d.after;
  quiet = d.quiet;
  step = d.step;
  later = d.later;
  replies_are = cancel goes said (news d.before ++ d.own) (e ∙ d.replies_are);
}

module _ (c : Command) (text from read lost : List ℕ) (old : Server) (new : End) (said : List Reply)
    (h : IsText c text) (plain : goes_in text ≡ goes_in from) (l : is_over old.condition ≡ false) (e : text ≡ (from ++ read) ++ lost)
    (rest : List ℕ) (rest_said : List Reply) (unread : IsUnread new rest rest_said) where
  none_says : (replies : List Reply) → goes_in from ++ said ≡ replies ++ rest_said → NoneRead old new.server (from ++ read) rest replies → SaysNothing old new.server said
  none_says replies are n =
      let parts : text ≡ rest ++ lost = e ∙ ap (λ (x : List ℕ). x ++ lost) n.all in
      let reported = holds_said c text rest lost rest_said (is_over new.server.condition) new.kept h (quiet_left old new.server n.quiet ∙ l) parts unread in
      let more : goes_in (from ++ read) ≡ goes_in from = goes_no_more from read lost (ap goes_in (sym e) ∙ plain) in
      let are_too : goes_in from ++ said ≡ goes_in from ++ [] = are ∙ ap (λ (x : List Reply). x ++ rest_said) n.none ∙ reported.said_is ∙ ap goes_in (sym n.all) ∙ more ∙ sym (append-nil (goes_in from)) in
      record { quiet = n.quiet; none = cancel (goes_in from) said [] are_too }

  one_says : (replies : List Reply) → goes_in from ++ said ≡ replies ++ rest_said → OneRead c text old new.server rest lost replies → SaysAll c old new said
  one_says replies are o =
      let none = reads_none new rest rest_said o.rest_none unread in
      let all : goes_in from ++ said ≡ replies = are ∙ ap (λ (x : List Reply). replies ++ x) none.none ∙ append-nil replies in
      record {
        did = later_said c (goes_in from) old new.server replies said (subst (λ (g : List Reply). Did c g old replies new.server) plain o.did) all;
        has_read = none.has_read;
      }

-- the server had read `from` of the command, and no more was on the way
pub says : (c : Command) (text from read lost : List ℕ) (old new : End) (said : List Reply) → IsText c text → goes_in text ≡ goes_in from → is_over old.server.condition ≡ false
    → text ≡ (from ++ read) ++ lost → FeedsFrom old from (goes_in from) read said new → SaysNothing old.server new.server said ⊎ SaysAll c old.server new said
says c text from read lost old new said h plain l e f =
    let parts : text ≡ (text_of f.runs.portions ++ f.rest) ++ lost = e ∙ ap (λ (x : List ℕ). x ++ lost) f.runs.read in
    elim (front c text old.server new.server f.runs.portions f.replies f.rest lost h l parts f.runs.served) [
      | inl n ↦ inl (none_says c text from read lost old.server new said h plain l e f.rest f.rest_said f.unread_then f.replies f.are (record { quiet = n.quiet; all = f.runs.read ∙ n.all; none = n.none }))
      | inr o ↦ inr (one_says c text from read lost old.server new said h plain l e f.rest f.rest_said f.unread_then f.replies f.are o)
    ]

-- ---- both ends

sent_cases : (c : Command) (old new : Ends) (said heard : List Reply) → AreHeardAs old.end.server.keywords heard said → AreReplies heard new.coming
    → SaysNothing old.end.server new.end.server said ⊎ SaysAll c old.end.server new.end said → SentOr c old new
sent_cases c old new said heard l a (inl n) = inl (record { quiet = n.quiet; coming = no_bytes heard new.coming (heard_none old.end.server.keywords heard said l n.none) a })
sent_cases c old new said heard l a (inr w) = inr (record { said = said; heard = heard; did = w.did; heard_as = l; has_read = w.has_read; coming = a })

-- what comes is what was replied
pub comes : (old new : Line) (heard bytes : List ℕ) (s : Sends bytes old new) → heard ++ old.unseen ≡ [] → heard ++ new.unseen ≡ s.out
comes old new heard bytes s e = ap (λ (x : List ℕ). heard ++ x) s.replied ∙ sym (append_assoc heard old.unseen s.out) ∙ ap (λ (x : List ℕ). x ++ s.out) e

-- nothing of the command was done and nothing comes, or it was done and its replies come
pub sent : (c : Command) (from rest : List ℕ) (old new : Line) (heard : List ℕ) → IsText c (from ++ rest) → goes_in (from ++ rest) ≡ goes_in from → IsAt from (ends_of old heard)
    → Sends rest old new → SentOr c (ends_of old heard) (ends_of new heard)
sent c from rest old new heard h plain at s =
    let parts : from ++ rest ≡ (from ++ s.read) ++ s.lost = ap (λ (x : List ℕ). from ++ x) s.split ∙ sym (append_assoc from s.read s.lost) in
    sent_cases c (ends_of old heard) (ends_of new heard) s.said s.heard s.heard_as (subst (AreReplies s.heard) (sym (comes old new heard rest s at.coming)) s.spelled)
    (says c (from ++ rest) from s.read s.lost old.end new.end s.said h plain at.reads_on parts (s.feeds.from from (goes_in from) at.has_read.unread))

-- ---- where sending was stopped

did_plain : (c : Command) (goes : List Reply) (old new : Server) (replies : List Reply) → Did c goes old replies new → DidCommand c old new
did_plain c goes old new replies d = record {
  said = news d.before ++ d.own;
  did = record { before = d.before; own = d.own; after = d.after; quiet = d.quiet; step = d.step; later = d.later; replies_are = refl };
}

-- the bytes so far are a front of those of the command
pub half_front : (c : Command) (text front lost : List ℕ) (old new : Server) → IsText c text → is_over old.condition ≡ false → text ≡ front ++ lost → ServesSome old front new → MayHave (DidCommand c) old new
half_front c text from lost old new h l e s =
    elim (front c text old new s.runs.portions s.replies s.rest lost h l (e ∙ ap (λ (x : List ℕ). x ++ lost) s.runs.read) s.runs.served) [
      | inl n ↦ inl n.quiet
      | inr o ↦ inr (did_plain c (goes_in text) old new s.replies o.did)
    ]

pub half_sent : (c : Command) (from rest : List ℕ) (old : Line) (new : Server) (heard : List ℕ) → IsText c (from ++ rest) → IsAt from (ends_of old heard)
    → FeedsSome old.end rest new → MayHave (DidCommand c) old.end.server new
half_sent c from rest old new heard h at s =
    half_front c (from ++ rest) (from ++ rest) [] old.end.server new h at.reads_on (sym (append-nil (from ++ rest)))
    (s.from from (goes_in from) at.has_read.unread)
