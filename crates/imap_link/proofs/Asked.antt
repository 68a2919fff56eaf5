-- How the sending of the front of a command ends.
use Rattle.std.proofs.Common.{◌≡◌, inl, inr, ℕ, List, [], ◌++◌, refl, sym, ◌∙◌, ap, subst, Result, Ok, Err}
use Rattle.imap_commands.specs.declared.command.Command.{Command}
use Rattle.imap_replies.specs.declared.word.Status.{Status}
use Rattle.imap_replies.specs.declared.reply.Reply.{Reply}
use Rattle.imap_session.specs.Servers.{Quiet, reported}
use Rattle.imap_session.specs.Answering.{go}
use Rattle.imap_session.specs.Serving.{FeedsSome}
use Rattle.imap_session.specs.Lines.{Line, reported_server, Sends}
use Rattle.imap_session.specs.Ends.{ends_of, IsIdle, IsText, AskedOr, AsksAtEnd, MayHave}
use Rattle.imap_session.proofs.Others.{quiet-trans, quiet_left, read_stays}
use Rattle.imap_session.proofs.Sent.{half_front}
use Rattle.imap_session.proofs.Asked.{asked}
use Rattle.imap_link.specs.declared.fault.FarFault.{FarFault}
use Rattle.imap_link.specs.declared.fault.FarFault.TheVariants.{Stopped, Refused, Protocol, TooLong, NoRev2, ReadOnly, NoMemory}
use Rattle.imap_link.specs.declared.wire.LastReply.{LastReply}
use Rattle.imap_link.specs.declared.wire.LastReply.TheVariants as states
use Rattle.imap_link.specs.declared.kind.ReplyKind.TheVariants.{Go, Mine}
use Rattle.imap_link.specs.declared.uses.Uses.{Uses}
use Rattle.imap_link.specs.Faults.{IsStop}
use Rattle.imap_link.specs.ReplyKinds.{kind_of, IsAwaited}
use Rattle.imap_link.specs.Buffers.{Expects, Came, GoesOn, IsReported}
use Rattle.imap_link.specs.Exchanges.{Performs, Waits, AsksOr, AsksFor}
use Rattle.imap_link.proofs.KindLemmas.{awaited_stays, mine_tagged, tagged_awaited, go_or_tagged}
use Rattle.imap_link.proofs.Astray.{ends_apart}
use Rattle.imap_link.proofs.Performed.{may_perform}
use Rattle.imap_link.proofs.Finished.{some_end}
use Rattle.imap_link.proofs.Passing.{text_of}

stop_asks : (c : Command) (front : List ℕ) (y : FarFault) (old new : Line) (heard : List ℕ) → IsStop y → MayHave (Performs c) (reported_server old) (reported_server new) → AsksOr c front (Err y) old new heard
stop_asks c front Stopped old new heard s h = h
stop_asks c front NoMemory old new heard s h = h
stop_asks c front Refused old new heard s h = absurd s
stop_asks c front Protocol old new heard s h = absurd s
stop_asks c front TooLong old new heard s h = absurd s
stop_asks c front NoRev2 old new heard s h = absurd s
stop_asks c front ReadOnly old new heard s h = absurd s

go_stays : (tag : List ℕ) (r : Reply) → kind_of tag r ≡ Go → IsAwaited (kind_of tag r)
go_stays tag r e = subst IsAwaited (sym e) tt

module _ (c : Command) (tag front rest : List ℕ) (n : ℕ) (text : IsText c (front ++ rest)) (some : rest ≡ [] → ⊥) (asking : AsksAtEnd front n) (old mid new : Line) (heard : List ℕ) (idle : IsIdle (ends_of old heard)) (s : Sends front old mid) where
  or : AskedOr front (ends_of old heard) (ends_of mid heard)
  or = asked c front rest n old mid heard text some asking idle s

  pub may_ask : Expects tag (ends_of mid heard).coming
  may_ask = elim or [
    | inl none ↦ inl none.coming
    | inr w ↦ inr (record { passed = []; untagged = tt; last = go; is = tt; spelled = w.coming })
  ]

  pub quiet_so : Quiet old.end.server mid.end.server
  quiet_so = elim or [ inl none ↦ none.quiet | inr w ↦ w.quiet ]

  module _ (uses : Uses) (T : List Reply → Type 0) (kept coming : List ℕ) where
    pub waits_so : Came uses T (λ r. kind_of tag r ≡ Go) kept (GoesOn (ends_of mid heard) (ends_of new coming)) → Waits front old new coming
    waits_so a =
        let g = text_of uses T (λ r. kind_of tag r ≡ Go) kept (GoesOn (ends_of mid heard) (ends_of new coming)) a in
        elim or [
          | inl none ↦ absurd (some_end a.text (coming ++ new.unseen) g (sym a.goes.coming ∙ none.coming))
          | inr w ↦
              let same = ends_apart a.last go (awaited_stays tag a.last (go_stays tag a.last a.is)) (awaited_stays tag go tt) a.passed [] a.text (ends_of mid heard).coming (coming ++ new.unseen) a.untagged tt a.spelled w.coming (sym a.goes.coming) in
              record {
                quiet = ap reported (quiet-trans old.end.server mid.end.server new.end.server w.quiet a.goes.stays.quiet);
                at = record {
                  reads_on = quiet_left mid.end.server new.end.server a.goes.stays.quiet ∙ quiet_left old.end.server mid.end.server w.quiet ∙ idle.reads_on;
                  has_read = read_stays front mid.end new.end a.goes.stays w.has_read;
                  coming = same.2;
                };
              }
        ]

    pub no_answer : (status : Status) → Came uses T (λ r. kind_of tag r ≡ Mine status) kept (GoesOn (ends_of mid heard) (ends_of new coming)) → ⊥
    no_answer status a =
        let mine = mine_tagged tag a.last status a.is in
        elim or [
          | inl none ↦ some_end a.text (coming ++ new.unseen) (text_of uses T (λ r. kind_of tag r ≡ Mine status) kept (GoesOn (ends_of mid heard) (ends_of new coming)) a) (sym a.goes.coming ∙ none.coming)
          | inr w ↦
              let same = ends_apart a.last go (awaited_stays tag a.last (tagged_awaited tag a.last mine)) (awaited_stays tag go tt) a.passed [] a.text (ends_of mid heard).coming (coming ++ new.unseen) a.untagged tt a.spelled w.coming (sym a.goes.coming) in
              go_or_tagged tag a.last tag (ap (kind_of tag) same.1) mine
        ]

-- where the front was not sent
pub unasked : (front : List ℕ) (y : FarFault) (old new : Line) (heard coming : List ℕ) → IsStop y → FeedsSome old.end front new.end.server → AsksFor front (Err y) old heard new coming
unasked front y old new heard coming stop s c rest n text some asking idle =
    stop_asks c front y old new coming stop
    (may_perform c old.end.server new.end.server
    (half_front c (front ++ rest) front rest old.end.server new.end.server text idle.reads_on refl (s.from [] [] idle.has_read.unread)))

-- where it was sent, and waiting failed
pub unanswered : (tag front : List ℕ) (y : FarFault) (old mid new : Line) (heard coming : List ℕ) → Sends front old mid → Quiet mid.end.server new.end.server
    → (Expects tag (ends_of mid heard).coming → IsStop y) → AsksFor front (Err y) old heard new coming
unanswered tag front y old mid new heard coming s q stop c rest n text some asking idle =
    stop_asks c front y old new coming (stop (may_ask c tag front rest n text some asking old mid new heard idle s))
    (inl (ap reported (quiet-trans old.end.server mid.end.server new.end.server (quiet_so c tag front rest n text some asking old mid new heard idle s) q)))

-- where it was sent
pub answered_so : (uses : Uses) (T : List Reply → Type 0) (tag front : List ℕ) (result : Result LastReply FarFault) (old mid new : Line) (heard read coming : List ℕ) → Sends front old mid → Quiet mid.end.server new.end.server
    → ((reported : LastReply) → result ≡ Ok reported → Came uses T (IsReported tag reported) read (GoesOn (ends_of mid heard) (ends_of new coming)))
    → ((y : FarFault) → result ≡ Err y → Expects tag (ends_of mid heard).coming → IsStop y) → AsksFor front result old heard new coming
answered_so uses T tag front (Ok states.Go) old mid new heard read coming s q ok err c rest n text some asking idle =
    waits_so c tag front rest n text some asking old mid new heard idle s uses T read coming (ok states.Go refl)
answered_so uses T tag front (Ok (states.Answer status)) old mid new heard read coming s q ok err c rest n text some asking idle =
    no_answer c tag front rest n text some asking old mid new heard idle s uses T read coming status (ok (states.Answer status) refl)
answered_so uses T tag front (Err y) old mid new heard read coming s q ok err c rest n text some asking idle = unanswered tag front y old mid new heard coming s q (err y refl) c rest n text some asking idle
