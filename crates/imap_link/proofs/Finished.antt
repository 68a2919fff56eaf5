-- How the sending of a command ends.
use Rattle.std.specs.Prelude.{filter}
use Rattle.std.proofs.Common.{◌≡◌, inl, inr, ℕ, false, List, [], ◌∷◌, ◌++◌, refl, sym, ◌∙◌, ap, subst, Err, Some}
use Rattle.imap_commands.specs.declared.command.Command.{Command}
use Rattle.imap_replies.specs.declared.word.Status.{Status}
use Rattle.imap_replies.specs.declared.reply.Reply.{Reply}
use Rattle.imap_session.specs.Servers.{Server, Quiet, reported}
use Rattle.imap_session.specs.Serving.{FeedsSome}
use Rattle.imap_session.specs.Heard.{tag_of, AreReplies}
use Rattle.imap_session.specs.Lines.{Line, reported_server, Sends}
use Rattle.imap_session.specs.Ends.{Ends, ends_of, IsAt, IsIdle, SentOr, Done, MayHave, is_logout}
use Rattle.imap_session.proofs.Sent.{sent, half_sent}
use Rattle.imap_session.proofs.Ended.{done_of, half_of}
use Rattle.imap_session.proofs.Answering.{did_answer, heard_answer}
use Rattle.imap_session.proofs.AnswersApart.{reply_some}
use Rattle.imap_link.specs.declared.fault.FarFault.{FarFault}
use Rattle.imap_link.specs.declared.fault.FarFault.TheVariants.{Stopped, Refused, Protocol, TooLong, NoRev2, ReadOnly, NoMemory}
use Rattle.imap_link.specs.declared.kind.ReplyKind.TheVariants.{Go, Mine}
use Rattle.imap_link.specs.declared.uses.Uses.{Uses}
use Rattle.imap_link.specs.UsedReplies.{is_used, uses_of, messages_read}
use Rattle.imap_link.specs.Faults.{IsStop}
use Rattle.imap_link.specs.ReplyKinds.{kind_of, IsAwaited}
use Rattle.imap_link.specs.Outcomes.{Outcome, Never}
use Rattle.imap_link.specs.Buffers.{EndsIn, IsAnswerText, IsGoText, Expects, Came, GoesOn}
use Rattle.imap_link.specs.Exchanges.{Performs, Replied, Completes, Exchanges}
use Rattle.imap_link.proofs.KindLemmas.{awaited_stays, tagged_awaited, go_or_tagged}
use Rattle.imap_link.proofs.Astray.{ends_apart, answer_of, closed_of, expects_answer}
use Rattle.imap_link.proofs.Performed.{may_perform, has_performed}
use Rattle.imap_link.proofs.Passing.{front_of, text_of, came_hears, came_used}

pub stop_outcome : {T : Type 0} (does : T → Server → Server → Type 0) (refuses effect : Server → Server → Type 0) (y : FarFault) (old new : Server) → IsStop y → MayHave effect old new
    → Outcome {T = T} does refuses effect (Err y) old new
stop_outcome does refuses effect Stopped old new s h = h
stop_outcome does refuses effect NoMemory old new s h = h
stop_outcome does refuses effect Refused old new s h = absurd s
stop_outcome does refuses effect Protocol old new s h = absurd s
stop_outcome does refuses effect TooLong old new s h = absurd s
stop_outcome does refuses effect NoRev2 old new s h = absurd s
stop_outcome does refuses effect ReadOnly old new s h = absurd s

expects_of : (c : Command) (old mid : Ends) → SentOr c old mid → Expects c.tag mid.coming
expects_of c old mid (inl none) = inl none.coming
expects_of c old mid (inr w) =
    expects_answer c.tag w.heard mid.coming (heard_answer old.end.server.keywords c.tag w.heard w.said w.heard_as (did_answer c old.end.server w.said mid.end.server w.did)) w.coming

empty_front : (a b : List ℕ) → a ++ b ≡ [] → a ≡ []
empty_front [] b e = refl
empty_front (x ∷ a) b e = cc

first_some : (ps : List Reply) (last : Reply) (bytes rest : List ℕ) → AreReplies (ps ++ last ∷ []) bytes → bytes ++ rest ≡ [] → ⊥
first_some [] last bytes rest a e = reply_some last a.front a.first (empty_front a.front a.back (sym a.parts ∙ empty_front bytes rest e))
first_some (p ∷ ps) last bytes rest a e = reply_some p a.front a.first (empty_front a.front a.back (sym a.parts ∙ empty_front bytes rest e))

-- text that ends in a reply has bytes
pub some_end : {P : Reply → Type 0} (bytes rest : List ℕ) → EndsIn P bytes → bytes ++ rest ≡ [] → ⊥
some_end bytes rest g e = first_some g.passed g.last bytes rest g.spelled e

go_awaited : (tag : List ℕ) (r : Reply) → kind_of tag r ≡ Go → IsAwaited (kind_of tag r)
go_awaited tag r e = subst IsAwaited (sym e) tt

-- `+` is not heard where an answer comes
go_astray : (c : Command) (tag : List ℕ) (old mid new : Ends) (bytes : List ℕ) → c.tag ≡ tag → SentOr c old mid → IsGoText tag bytes → mid.coming ≡ bytes ++ new.coming → ⊥
go_astray c tag old mid new bytes t (inl none) g e = some_end bytes new.coming g (sym e ∙ none.coming)
go_astray c tag old mid new bytes t (inr w) g e =
    let a = heard_answer old.end.server.keywords c.tag w.heard w.said w.heard_as (did_answer c old.end.server w.said mid.end.server w.did) in
    let closed = closed_of c.tag w.heard a in
    let mine : IsAwaited (kind_of tag closed.last) = tagged_awaited tag closed.last (closed.is ∙ ap (λ (x : List ℕ). Some x) t) in
    let same = ends_apart g.last closed.last (awaited_stays tag g.last (go_awaited tag g.last g.is)) (awaited_stays tag closed.last mine)
    g.passed closed.passed bytes mid.coming new.coming g.untagged closed.untagged g.spelled (subst (λ (l : List Reply). AreReplies l mid.coming) closed.all w.coming) (sym e) in
    go_or_tagged tag g.last c.tag g.is (ap tag_of same.1 ∙ closed.is)

module _ (c : Command) (uses : Uses) (tag from rest : List ℕ) (w : Completes c uses tag from rest) (old mid new : Line) (heard : List ℕ) (at : IsAt from (ends_of old heard)) (s : Sends rest old mid) where
  or : SentOr c (ends_of old heard) (ends_of mid heard)
  or = sent c from rest old mid heard w.text w.asks_no_more at s

  pub may_expect : Expects tag (ends_of mid heard).coming
  may_expect = subst (λ (t : List ℕ). Expects t (ends_of mid heard).coming) w.tag_is (expects_of c (ends_of old heard) (ends_of mid heard) or)

  pub may_have : (after : Server) → Quiet mid.end.server after → MayHave (Performs c) (reported_server old) (reported after)
  may_have after q = may_perform c old.end.server after (half_of c (ends_of old heard) (ends_of mid heard) after or q)

  -- the replies up to the tagged one came, and `kept` are those that the call keeps
  module _ (T : List Reply → Type 0) (kept coming : List ℕ) (status : Status) (a : Came uses T (λ r. kind_of tag r ≡ Mine status) kept (GoesOn (ends_of mid heard) (ends_of new coming))) where
    done : Done c (a.passed ++ a.last ∷ []) (ends_of old heard) (ends_of new coming)
    done =
        done_of c tag (ends_of old heard) (ends_of mid heard) (ends_of new coming) (a.passed ++ a.last ∷ []) at.reads_on or
        (came_hears uses T (λ r. kind_of tag r ≡ Mine status) kept (ends_of mid heard) (ends_of new coming) a)
        (answer_of tag a.text status (text_of uses T (λ r. kind_of tag r ≡ Mine status) kept (GoesOn (ends_of mid heard) (ends_of new coming)) a))

    pub replied : Replied c status T kept (reported_server old) (reported_server new)
    replied =
        let own = has_performed c old.end.server new.end.server (a.passed ++ a.last ∷ []) done.did in
        record {
          text = subst (λ (t : List ℕ). IsAnswerText t status kept) (sym w.tag_is) (front_of uses T (λ r. kind_of tag r ≡ Mine status) kept (GoesOn (ends_of mid heard) (ends_of new coming)) a);
          replies = own.replies;
          spelled =
              subst (λ (rs : List Reply). AreReplies rs kept) (own.used (uses_of c.request))
              (subst (λ (u : Uses). AreReplies (filter (is_used u) (a.passed ++ a.last ∷ [])) kept) (sym w.uses_is)
              (came_used uses T tag status kept (GoesOn (ends_of mid heard) (ends_of new coming)) a));
          reported = subst T (own.used messages_read) a.reported;
          did = own.did;
        }

    pub idle : is_logout c.request ≡ false → IsIdle (ends_of new coming)
    idle l = done.idle l

  pub no_go : (T : List Reply → Type 0) (kept coming : List ℕ) → Came uses T (λ r. kind_of tag r ≡ Go) kept (GoesOn (ends_of mid heard) (ends_of new coming)) → ⊥
  no_go T kept coming a =
      go_astray c tag (ends_of old heard) (ends_of mid heard) (ends_of new coming) a.text w.tag_is or
      (text_of uses T (λ r. kind_of tag r ≡ Go) kept (GoesOn (ends_of mid heard) (ends_of new coming)) a) a.goes.coming

-- where the bytes were not sent
pub unsent : (uses : Uses) (tag rest : List ℕ) (T : List Reply → Type 0) (y : FarFault) (old new : Line) (heard read : List ℕ) → IsStop y → FeedsSome old.end rest new.end.server → Exchanges uses tag rest T (Err y) old heard new read
unsent uses tag rest T y old new heard read stop s c from w at =
    stop_outcome {T = Status} (λ status. Replied c status T read) Never (Performs c) y (reported_server old) (reported_server new) stop (may_perform c old.end.server new.end.server (half_sent c from rest old new.end.server heard w.text at s))

-- where they were sent, and waiting failed
pub unheard : (uses : Uses) (tag rest : List ℕ) (T : List Reply → Type 0) (y : FarFault) (old mid new : Line) (heard read : List ℕ) → Sends rest old mid → Quiet mid.end.server new.end.server
    → (Expects tag (ends_of mid heard).coming → IsStop y) → Exchanges uses tag rest T (Err y) old heard new read
unheard uses tag rest T y old mid new heard read s q stop c from w at =
    stop_outcome {T = Status} (λ status. Replied c status T read) Never (Performs c) y (reported_server old) (reported_server new)
    (stop (may_expect c uses tag from rest w old mid new heard at s)) (may_have c uses tag from rest w old mid new heard at s new.end.server q)
