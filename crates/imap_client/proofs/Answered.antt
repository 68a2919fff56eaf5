-- What became of a command of which it is known what the server does with it.
use Rattle.std.proofs.Common.{◌≡◌, inl, inr, ℕ, Bool, true, false, List, [], ◌∷◌, ◌++◌, refl, sym, ◌∙◌, ap, subst, append-nil, Option, Some, Result, Ok, Err}
use Rattle.std.specs.Prelude.{filter, nat_eq, if◌then◌else◌}
use Rattle.std.specs.Cmp.Lexicographic.{pointwise}
use Rattle.mailcore.specs.declared.keywords.Keyword.{Keyword}
use Rattle.imap_commands.specs.declared.command.Command.{Command}
use Rattle.imap_replies.specs.declared.word.Status.{Status}
use Rattle.imap_replies.specs.declared.word.Status.TheVariants as statuses
use Rattle.imap_replies.specs.declared.word.NoticeKind.TheVariants as notices
use Rattle.imap_replies.specs.declared.reply.Reply.{Reply}
use Rattle.imap_replies.specs.declared.reply.Reply.TheVariants.{Continue, Tagged, Notice, Capability, Enabled, List as Listed, Flags, Exists, Expunge, Fetch, Other, OtherNumbered}
use Rattle.imap_session.specs.Servers.{Server}
use Rattle.imap_session.specs.Steps.{Step}
use Rattle.imap_session.specs.Heard.{AreHeardAs, AreReplies, IsHeardAs}
use Rattle.imap_session.specs.Ends.{MayHave}
use Rattle.imap_session.proofs.Answering.{heard_answer, step_answer}
use Rattle.imap_session.proofs.HeardAs.{reads_same}
use Rattle.imap_link.specs.declared.fault.FarFault.{FarFault}
use Rattle.imap_link.specs.declared.fault.FarFault.TheVariants as faults
use Rattle.imap_link.specs.declared.kind.ReplyKind.TheVariants.{Mine, Stray}
use Rattle.imap_link.specs.ReplyKinds.{kind_of, IsAwaited}
use Rattle.imap_link.specs.UsedReplies.{uses_of, is_used}
use Rattle.imap_link.specs.Outcomes.{Outcome, Never}
use Rattle.imap_link.specs.Exchanges.{Performs, Replied}
use Rattle.imap_link.proofs.KindLemmas.{awaited_stays, tagged_awaited}
use Rattle.imap_link.proofs.Astray.{ends_apart, closed_of}
use Rattle.imap_link.proofs.Passing.{untagged_used, tagged_used, used_last}
use Rattle.imap_client.specs.Exchanged.{Exchanged}
use Rattle.imap_client.specs.Saying.{status_of, final_status, HeardOf}

-- ---- the status

mine_status : (now status : Status) (b : Bool) → (if b then Mine now else Stray) ≡ Mine status → now ≡ status
mine_status now status true e = cc
mine_status now status false e = cc

kind_status : (tag : List ℕ) (r : Reply) (status : Status) → kind_of tag r ≡ Mine status → status_of r ≡ Some status
kind_status tag (Tagged other now text) status e = ap (λ (s : Status). Some s) (mine_status now status (pointwise nat_eq other tag) e)
kind_status tag (Continue text) status e = cc
kind_status tag (Notice notices.Ok text) status e = cc
kind_status tag (Notice notices.No text) status e = cc
kind_status tag (Notice notices.Bad text) status e = cc
kind_status tag (Notice notices.Bye text) status e = cc
kind_status tag (Notice notices.Preauth text) status e = cc
kind_status tag (Capability names) status e = cc
kind_status tag (Enabled names) status e = cc
kind_status tag (Listed attributes delimiter name) status e = cc
kind_status tag (Flags flags) status e = cc
kind_status tag (Exists n) status e = cc
kind_status tag (Expunge n) status e = cc
kind_status tag (Fetch n items) status e = cc
kind_status tag (Other word text) status e = cc
kind_status tag (OtherNumbered n event text) status e = cc

pub final_last : (xs : List Reply) (r : Reply) → final_status (xs ++ r ∷ []) ≡ status_of r
final_last [] r = refl
final_last (x ∷ []) r = refl
final_last (x ∷ y ∷ xs) r = final_last (y ∷ xs) r

module _ (keywords : List Keyword) where
  same_status : (h s : Reply) → IsHeardAs keywords h s → status_of h ≡ status_of s
  same_status = reads_same keywords status_of (record {
    without_uid = λ tag text validity uid. refl;
    flags = λ heard said same. refl;
    permanent = λ kind text heard said same star. refl;
    message = λ place heard said same. refl;
  })

  heard_final : (hs ss : List Reply) → AreHeardAs keywords hs ss → final_status hs ≡ final_status ss
  heard_final [] [] l = refl
  heard_final [] (s ∷ ss) l = absurd l
  heard_final (h ∷ hs) [] l = absurd l
  heard_final (h ∷ []) (s ∷ []) l = same_status h s l.0
  heard_final (h ∷ []) (s ∷ t ∷ ss) l = absurd l.1
  heard_final (h ∷ i ∷ hs) (s ∷ []) l = absurd l.1
  heard_final (h ∷ i ∷ hs) (s ∷ t ∷ ss) l = heard_final (i ∷ hs) (t ∷ ss) l.1

-- ---- what was done

pub record Said (T : List Reply → Type 0) (c : Command) (status : Status) (bytes : List ℕ) (old new : Server) : Type 0 where
  pub said : List Reply
  pub step : Step old c said new
  pub heard : HeardOf old.keywords (uses_of c.request) T said bytes
  pub status_is : final_status said ≡ Some status

pub said_of : (T : List Reply → Type 0) (c : Command) (status : Status) (bytes : List ℕ) (old new : Server) → Replied c status T bytes old new → Said T c status bytes old new
said_of T c status bytes old new r =
    let uses = uses_of c.request in
    let said = r.did.said in
    let answer = heard_answer old.keywords c.tag r.replies said r.did.heard_as (step_answer old c.tag c.request said new r.did.step) in
    let closed = closed_of c.tag r.replies answer in
    let mine : IsAwaited (kind_of c.tag r.text.last) = subst IsAwaited (sym r.text.is) tt in
    let same = ends_apart r.text.last closed.last (awaited_stays c.tag r.text.last mine) (awaited_stays c.tag closed.last (tagged_awaited c.tag closed.last closed.is))
    r.text.passed (filter (is_used uses) closed.passed) bytes bytes [] r.text.untagged (untagged_used uses closed.passed closed.untagged) r.text.spelled
    (subst (λ (l : List Reply). AreReplies l bytes) (ap (filter (is_used uses)) closed.all ∙ used_last uses closed.passed closed.last (tagged_used uses closed.last c.tag closed.is)) r.spelled) (append-nil bytes) in
    record {
      said = said;
      step = r.did.step;
      heard = record { replies = r.replies; spelled = r.spelled; reported = r.reported; heard_as = r.did.heard_as };
      status_is = sym (heard_final old.keywords r.replies said r.did.heard_as) ∙ ap final_status closed.all ∙ final_last closed.passed closed.last ∙ ap status_of (sym same.1) ∙ kind_status c.tag r.text.last status r.text.is;
    }

-- ---- a command with one answer

-- the server answers the command with these replies, of which the last is tagged, and is so then
pub record Sure (c : Command) (old : Server) (xs : List Reply) (last : Reply) (after : Server) : Type 0 where
  pub each : (said : List Reply) (new : Server) → Step old c said new → (said ≡ xs ++ last ∷ []) × (new ≡ after)

module _ (T : List Reply → Type 0) (c : Command) (old : Server) (xs : List Reply) (last : Reply) (after : Server) (sure : Sure c old xs last after) where
  pub status_so : (status : Status) (bytes : List ℕ) (new : Server) → Replied c status T bytes old new → status_of last ≡ Some status
  status_so status bytes new r =
      let s = said_of T c status bytes old new r in
      sym (final_last xs last) ∙ ap final_status (sym (sure.each s.said new s.step).0) ∙ s.status_is

  pub after_so : (new : Server) → MayHave (Performs c) old new → MayHave (λ (s t : Server). t ≡ after) old new
  after_so new (inl q) = inl q
  after_so new (inr d) = inr (sure.each d.said new d.step).1

  pub heard_so : (status : Status) (bytes : List ℕ) (new : Server) → Replied c status T bytes old new → HeardOf old.keywords (uses_of c.request) T (xs ++ last ∷ []) bytes × (new ≡ after)
  heard_so status bytes new r =
      let s = said_of T c status bytes old new r in
      let is = sure.each s.said new s.step in
      (subst (λ (rs : List Reply). HeardOf old.keywords (uses_of c.request) T rs bytes) is.0 s.heard, is.1)

  -- where it is OK
  pub answered : status_of last ≡ Some statuses.Ok → (result : Result (Unit {0}) FarFault) (heard : List ℕ) (new : Server) → Exchanged c T result heard old new
      → Outcome {T = Unit {0}} (λ _ s t. HeardOf old.keywords (uses_of c.request) T (xs ++ last ∷ []) heard × (t ≡ after)) Never (λ s t. t ≡ after) result old new
  answered ok (Ok x) heard new h = heard_so statuses.Ok heard new h
  answered ok (Err faults.Stopped) heard new h = after_so new h
  answered ok (Err faults.Refused) heard new h = let no = status_so statuses.No h.bytes new h.replied in let both : (let x : Option Status = Some statuses.Ok in x) ≡ Some statuses.No = sym ok ∙ no in cc
  answered ok (Err faults.Protocol) heard new h = let bad = status_so statuses.Bad h.bytes new h.replied in let both : (let x : Option Status = Some statuses.Ok in x) ≡ Some statuses.Bad = sym ok ∙ bad in cc
  answered ok (Err faults.TooLong) heard new h = h
  answered ok (Err faults.NoRev2) heard new h = h
  answered ok (Err faults.ReadOnly) heard new h = h
  answered ok (Err faults.NoMemory) heard new h = after_so new h

  -- where it is NO
  pub refused : status_of last ≡ Some statuses.No → (does : Unit {0} → Server → Server → Type 0) (result : Result (Unit {0}) FarFault) (heard : List ℕ) (new : Server) → Exchanged c T result heard old new
      → Outcome {T = Unit {0}} does (λ s t. t ≡ after) (λ s t. t ≡ after) result old new
  refused says does (Ok x) heard new h = let ok = status_so statuses.Ok heard new h in let both : (let x : Option Status = Some statuses.No in x) ≡ Some statuses.Ok = sym says ∙ ok in cc
  refused says does (Err faults.Stopped) heard new h = after_so new h
  refused says does (Err faults.Refused) heard new h = (heard_so statuses.No h.bytes new h.replied).1
  refused says does (Err faults.Protocol) heard new h = let bad = status_so statuses.Bad h.bytes new h.replied in let both : (let x : Option Status = Some statuses.No in x) ≡ Some statuses.Bad = sym says ∙ bad in cc
  refused says does (Err faults.TooLong) heard new h = h
  refused says does (Err faults.NoRev2) heard new h = h
  refused says does (Err faults.ReadOnly) heard new h = h
  refused says does (Err faults.NoMemory) heard new h = after_so new h
