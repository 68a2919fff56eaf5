-- A new connection, once its greeting was heard.
use Rattle.std.proofs.Common.{◌≡◌, ℕ, List, [], ◌∷◌, ◌++◌, codes, sym, ◌∙◌, ap, append-nil}
use Rattle.imap_replies.specs.declared.word.NoticeKind.TheVariants as notices
use Rattle.imap_replies.specs.declared.response.ResponseText.TheVariants.{Plain}
use Rattle.imap_replies.specs.declared.reply.Reply.{Reply}
use Rattle.imap_replies.specs.declared.reply.Reply.TheVariants.{Notice}
use Rattle.imap_session.specs.Servers.{Server, is_over}
use Rattle.imap_session.specs.Lines.{Line, Starts}
use Rattle.imap_session.proofs.Opening.{new_end_is_empty}
use Rattle.imap_session.specs.Ends.{Ends, ends_of, Hears}
use Rattle.imap_session.specs.ExchangeLaws.{IsGreeted}
use Rattle.imap_session.proofs.Apart.{apart, replies_apart}
use Rattle.imap_session.proofs.Others.{quiet_left, read_stays}

abbrev ready : Reply
ready = Notice notices.Ok (Plain (codes "ready"))

pub greeted : (old mid : Line) (new : Ends) (reply : Reply) → Starts old mid → Hears (reply ∷ []) (ends_of mid []) new → IsGreeted reply new
greeted old mid new reply s h =
    let last : h.bytes ≡ h.spelled.front = h.spelled.parts ∙ ap (λ (x : List ℕ). h.spelled.front ++ x) h.spelled.others ∙ append-nil h.spelled.front in
    let came : mid.unseen ≡ s.greeted.front = s.greeted.parts ∙ ap (λ (x : List ℕ). s.greeted.front ++ x) s.greeted.others ∙ append-nil s.greeted.front in
    let bytes : h.spelled.front ++ new.coming ≡ s.greeted.front ++ [] = ap (λ (x : List ℕ). x ++ new.coming) (sym last) ∙ sym h.heard ∙ came ∙ sym (append-nil s.greeted.front) in
    let same = apart replies_apart reply ready h.spelled.front new.coming s.greeted.front [] h.spelled.first s.greeted.first bytes in
    record {
      reply_is = ap (λ (r : Reply). r ∷ []) same.value;
      idle = record {
        reads_on = quiet_left mid.end.server new.end.server h.stays.quiet ∙ ap (λ (v : Server). is_over v.condition) s.end.quiet;
        has_read = read_stays [] mid.end new.end h.stays (record { kept = s.end.kept; unread = new_end_is_empty old.end.server mid.end s.end });
        coming = same.rest;
      };
    }
