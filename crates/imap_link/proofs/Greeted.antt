-- A new connection and its greeting.
use Rattle.std.proofs.Common.{◌≡◌, ℕ, List, [], ◌∷◌, ◌++◌, codes, refl, sym, ◌∙◌, ap, subst, append-nil}
use Rattle.imap_replies.specs.declared.word.NoticeKind.TheVariants as notices
use Rattle.imap_replies.specs.declared.response.ResponseText.TheVariants.{Plain}
use Rattle.imap_replies.specs.declared.reply.Reply.{Reply}
use Rattle.imap_replies.specs.declared.reply.Reply.TheVariants.{Notice}
use Rattle.imap_session.specs.Servers.{Server, Quiet, reported}
use Rattle.imap_session.specs.Heard.{AreReplies}
use Rattle.imap_session.specs.Lines.{Line, reported_server, Starts}
use Rattle.imap_session.specs.Ends.{Ends, ends_of, IsIdle, Hears}
use Rattle.imap_session.proofs.Greeted.{greeted}
use Rattle.imap_link.specs.declared.kind.ReplyKind.{ReplyKind}
use Rattle.imap_link.specs.declared.kind.ReplyKind.TheVariants.{Hello, Bye}
use Rattle.imap_link.specs.ReplyKinds.{kind_of}
use Rattle.imap_link.specs.Fronts.{IsFaulty}
use Rattle.imap_link.specs.Buffers.{WholeRead, GoesOn, SaysBye}
use Rattle.imap_link.specs.Exchanges.{Restarts}
use Rattle.imap_link.proofs.Passing.{one}

abbrev ready : Reply
ready = Notice notices.Ok (Plain (codes "ready"))

pub says_bye : (tag : List ℕ) (len : ℕ) (G : List ℕ → Type 0) (before read : List ℕ) (w : WholeRead len G before read) → before ≡ [] → kind_of tag w.reply ≡ Bye → SaysBye tag read
says_bye tag len G before read w none e = record {
  passed = [];
  untagged = tt;
  last = w.reply;
  is = e;
  spelled = subst (AreReplies (w.reply ∷ [])) (sym (w.read ∙ ap (λ (l : List ℕ). l ++ w.text) none)) (one len G before read w);
}

module _ (old mid : Line) (s : Starts old mid) (unread : List ℕ) (none : unread ≡ []) where
  pub greets_well : IsFaulty (ends_of mid unread).coming → ⊥
  greets_well f = f ready s.greeted.front s.greeted.back [] s.greeted.first s.greeted.fits (append-nil (unread ++ mid.unseen) ∙ ap (λ (l : List ℕ). l ++ mid.unseen) none ∙ s.greeted.parts)

  module _ (now : Ends) (len : ℕ) (before read : List ℕ) (honest : Type 0) (w : WholeRead len (λ text. honest → GoesOn (ends_of mid unread) now text) before read) (h : honest) where
    hears : Hears (w.reply ∷ []) (ends_of mid []) now
    hears = record {
      stays = (w.goes h).stays;
      bytes = w.text;
      spelled = one len (λ text. honest → GoesOn (ends_of mid unread) now text) before read w;
      heard = ap (λ (l : List ℕ). l ++ mid.unseen) (sym none) ∙ (w.goes h).coming;
    }

    pub greets_so : (tag : List ℕ) (kind : ReplyKind) → kind_of tag w.reply ≡ kind → kind ≡ Hello
    greets_so tag kind e =
        let g = greeted old mid now w.reply s hears in
        let same : w.reply ≡ ready = cc in
        sym e ∙ ap (kind_of tag) same

    pub greeted_idle : IsIdle now
    greeted_idle = (greeted old mid now w.reply s hears).idle

pub restarts : (old mid : Line) → Starts old mid → (new : Server) → Quiet mid.end.server new → Restarts (reported_server old) (reported new)
restarts old mid s new q = ap reported (q ∙ s.end.quiet)
