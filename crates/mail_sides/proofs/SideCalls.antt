-- From what the far side's own functions say to the clause of the trait.
use Rattle.std.proofs.Common.{Bool, ◌≡◌, ℕ, List, true, false, Result, inl, inr, subst, sym}
use Rattle.std.specs.Prelude.{OnOk}
use Rattle.device.specs.Calls.{Effect, Nothing}
use Rattle.mailcore.specs.declared.keywords.Keyword.{Keyword}
use Rattle.mailcore.specs.declared.listing.Listing.{Listing}
use Rattle.mailcore.specs.declared.side.Side.TheVariants.{Far}
use Rattle.mailcore.specs.Mailboxes.{Mailbox}
use Rattle.imap_link.specs.declared.fault.FarFault.{FarFault}
use Rattle.imap_link.specs.declared.link.Link as link
use Rattle.imap_link.specs.Outcomes.{Outcome, Never as Unrefused}
use Rattle.imap_client.specs.Sessions.{state_of}
use Rattle.outside.specs.declared.box_fault.BoxFault.{BoxFault}
use Rattle.outside.specs.declared.box_fault.BoxFault.TheVariants as boxes
use Rattle.outside.specs.BoxArrivals.{Arrives}
use Rattle.outside.specs.MailboxCalls.{Call, Never}
use Rattle.outside.specs.MailboxOperations as ops
use Rattle.mail_sides.specs.declared.far_side.FarSide.{FarSide}
use Rattle.mail_sides.specs.Chosen.{KeepsMailboxes, ListsAll, ReportsValidity, box_at}
use Rattle.mail_sides.specs.FarFaults.{reported_by}
use Rattle.mail_sides.specs.FarSides.{Unfit, honest_of, seen_at, seen_of, server_at}
use Rattle.mail_sides.specs.FarStops.{Ends, HasEnded}
use Rattle.mail_sides.specs.Stages.{RefusesAll}
use Rattle.mail_sides.proofs.OpenCalls.{far_call}
use Rattle.mail_sides.proofs.Outcomes.{Did, read_did}
use Rattle.mail_sides.proofs.Visited.{known_before, missed_before}
use Rattle.imap_session.specs.Servers.{Server}
use Rattle.imap_session.specs.Visits.{Visits, Among}

module _ {L : Type 0} {links : link.Ghosts L} (old new : FarSide L links) (same : new.account.mailbox.items ≡ old.account.mailbox.items) (map_same : new.far.keywords ≡ old.far.keywords) (whole : (seen_of old).is_broken ≡ false) where
  abbrev name : List ℕ
  name = old.account.mailbox.items

  abbrev keywords : List Keyword
  keywords = old.far.keywords

  abbrev Says : {T : Type 0} → (because : BoxFault → Mailbox → Type 0) → (does : T → Effect Mailbox) → List Keyword → List ℕ → Result T FarFault → Type 0
  Says because does k n r = Call (honest_of new) (HasEnded (state_of new.far.session)) (Arrives Far links.visitors.ours links.visitors.alone) because does Nothing (seen_of old) (seen_at new.stage k n new.far) (reported_by r)

  says : {T : Type 0} (because : BoxFault → Mailbox → Type 0) (does : T → Effect Mailbox) (r : Result T FarFault) → OnOk r (new.far.is_selected ≡ true) → Ends (state_of old.far.session) (state_of new.far.session) r
      → (honest_of new → Among links.visitors (λ s t. Did does Nothing because r (box_at keywords name s) (box_at keywords name t)) (server_at old) (server_at new)) → Says because does new.far.keywords new.account.mailbox.items r
  says because does r selected ends did =
      subst (λ (k : List Keyword). Says because does k new.account.mailbox.items r) (sym map_same)
      (subst (λ (n : List ℕ). Says because does keywords n r) (sym same) (far_call keywords name old.stage new.stage old.far new.far (honest_of new) because does Nothing r whole selected ends did))

  abbrev Refused : Server → Type 0
  Refused mid = RefusesAll old.stage old.account.user.items old.account.password.items name mid (server_at new)

  unfit : (mid : Server) → Visits links.visitors (server_at old) mid → Refused mid → KeepsMailboxes mid (server_at new) × Unfit old boxes.Refused
  unfit mid h (inl u) = (u.1.1, inl (u.0, known_before links.visitors old.account.user.items old.account.password.items (server_at old) mid h u.1.0))
  unfit mid h (inr m) = (m.1, inr (missed_before links.visitors name (server_at old) mid h m.0))

  pub opens : (r : Result ℕ FarFault) → OnOk r (new.far.is_selected ≡ true) → Ends (state_of old.far.session) (state_of new.far.session) r
      → (honest_of new → Among links.visitors (Outcome (ReportsValidity name) (RefusesAll old.stage old.account.user.items old.account.password.items name) KeepsMailboxes r) (server_at old) (server_at new))
      → Says (λ fault _. Unfit old fault) (ops.Answers ops.ReportsValidity) new.far.keywords new.account.mailbox.items r
  opens r selected ends outcome =
      says (λ fault _. Unfit old fault) (ops.Answers ops.ReportsValidity) r selected ends
      (λ h.
      let a = outcome h in
      record {
        mid = a.mid;
        visits = a.visits;
        then =
            read_did keywords name a.mid (server_at new) (ReportsValidity name) (RefusesAll old.stage old.account.user.items old.account.password.items name) KeepsMailboxes ops.ReportsValidity (λ fault _. Unfit old fault)
            (λ validity t. t) (λ k. k) (λ refused. unfit a.mid a.visits refused) r a.then;
      })

  pub lists : (known : ℕ) (spared : ℕ → Bool) (r : Result Listing FarFault) → OnOk r (new.far.is_selected ≡ true) → Ends (state_of old.far.session) (state_of new.far.session) r
      → (honest_of new → Among links.visitors (Outcome (ListsAll keywords links.visitors.alone known name) Unrefused KeepsMailboxes r) (server_at old) (server_at new))
      → Says Never (ops.Answers (ops.Lists Far links.visitors.alone known spared)) new.far.keywords new.account.mailbox.items r
  lists known spared r selected ends outcome =
      says Never (ops.Answers (ops.Lists Far links.visitors.alone known spared)) r selected ends
      (λ h.
      let a = outcome h in
      record {
        mid = a.mid;
        visits = a.visits;
        then = read_did keywords name a.mid (server_at new) (ListsAll keywords links.visitors.alone known name) Unrefused KeepsMailboxes (ops.Lists Far links.visitors.alone known spared) Never (λ listing t. t) (λ k. k) (λ refused. absurd refused) r a.then;
      })
