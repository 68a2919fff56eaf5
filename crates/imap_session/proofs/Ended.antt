-- What is known once a tagged reply was heard: exactly that command was done, and nothing is on the way.
use Rattle.std.proofs.Common.{◌≡◌, inl, inr, ℕ, false, List, [], sym, ◌∙◌, subst}
use Rattle.imap_commands.specs.declared.command.Command.{Command}
use Rattle.imap_replies.specs.declared.reply.Reply.{Reply}
use Rattle.imap_session.specs.Servers.{Server, is_over, Quiet, reported}
use Rattle.imap_session.specs.Heard.{IsAnswer, AreHeardAs}
use Rattle.imap_session.specs.Ends.{Ends, Hears, Did, SentOr, Done, MayHave, DidCommand, is_logout}
use Rattle.imap_session.proofs.Others.{quiet-trans, quiet_left, reported_left, read_stays}
use Rattle.imap_session.proofs.Answering.{did_answer, heard_answer}
use Rattle.imap_session.proofs.AnswersApart.{some_bytes, answer_apart}
use Rattle.imap_session.proofs.ReadsOn.{step_on}

did_later : (c : Command) (old mid new : Server) (said : List Reply) → Did c [] old said mid → Quiet mid new → Did c [] old said new
did_later c old mid new said d q = record {
  before = d.before;
  own = d.own;
  after = d.after;
  quiet = d.quiet;
  step = d.step;
  later = quiet-trans d.after mid new d.later q;
  replies_are = d.replies_are;
}

did_on : (c : Command) (old new : Server) (said : List Reply) → is_over old.condition ≡ false → Did c [] old said new → is_logout c.request ≡ false → is_over new.condition ≡ false
did_on c old new said on d l =
    quiet_left d.after new d.later ∙ step_on (reported d.before) c.tag (reported_left d.before ∙ quiet_left old d.before d.quiet ∙ on) c.request d.own d.after l d.step

-- exactly that command was done, these were its replies, and the connection is idle
pub done_of : (c : Command) (tag : List ℕ) (old mid new : Ends) (rs : List Reply) → is_over old.end.server.condition ≡ false → SentOr c old mid → Hears rs mid new → IsAnswer tag rs
    → Done c rs old new
done_of c tag old mid new rs on (inl none) h a = absurd (some_bytes tag rs h.bytes new.coming a h.spelled (sym h.heard ∙ none.coming))
done_of c tag old mid new rs on (inr w) h a =
    let same = answer_apart tag c.tag rs w.heard h.bytes mid.coming new.coming h.spelled w.coming a
    (heard_answer old.end.server.keywords c.tag w.heard w.said w.heard_as (did_answer c old.end.server w.said mid.end.server w.did)) (sym h.heard) in
    let did = did_later c old.end.server mid.end.server new.end.server w.said w.did h.stays.quiet in
    record {
      did = record { said = w.said; did = did; heard_as = subst (λ (l : List Reply). AreHeardAs old.end.server.keywords l w.said) (sym same.0) w.heard_as };
      idle = λ l. record {
        reads_on = did_on c old.end.server new.end.server w.said on did l;
        has_read = read_stays [] mid.end new.end h.stays w.has_read;
        coming = same.1;
      };
    }

-- where the call ends before
pub half_of : (c : Command) (old mid : Ends) (new : Server) → SentOr c old mid → Quiet mid.end.server new → MayHave (DidCommand c) old.end.server new
half_of c old mid new (inl none) q = inl (quiet-trans old.end.server mid.end.server new none.quiet q)
half_of c old mid new (inr w) q = inr (record { said = w.said; did = did_later c old.end.server mid.end.server new w.said w.did q })
