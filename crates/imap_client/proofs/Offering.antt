-- A command is sent in two parts.
use Rattle.std.proofs.Common.{◌≡◌, ℕ, List, subst, Result, Ok, Err, ◌∙◌, sym}
use Rattle.imap_commands.specs.declared.command.Command.{Command}
use Rattle.imap_replies.specs.declared.word.Status.{Status}
use Rattle.imap_session.specs.Lines.{Line}
use Rattle.imap_session.specs.Ends.{ends_of}
use Rattle.imap_link.specs.declared.fault.FarFault.{FarFault}
use Rattle.imap_link.specs.declared.fault.FarFault.TheVariants as faults
use Rattle.imap_link.specs.declared.wire.LastReply.{LastReply}
use Rattle.imap_link.specs.declared.wire.LastReply.TheVariants as states
use Rattle.imap_link.specs.declared.uses.Uses.{Uses}
use Rattle.imap_link.specs.UsedReplies.{answer_alone}
use Rattle.imap_link.specs.Exchanges.{Completes, Waits, AsksOr, AsksFor}
use Rattle.imap_client.specs.Appending.{InTwo, WaitsOr}
use Rattle.imap_client.specs.Stillness.{IsStill}
use Rattle.imap_client.proofs.Still.{idle_of}

module _ (c : Command) (tag front rest : List ℕ) (is : InTwo tag front rest c) where
  pub asks_so : (result : Result LastReply FarFault) (old : Line) (heard : List ℕ) (new : Line) (now : List ℕ) → IsStill (ends_of old heard) → AsksFor front result old heard new now → AsksOr c front result old new now
  asks_so result old heard new now still h = h c rest is.count is.text is.some is.asks (idle_of (ends_of old heard) still)

  pub completes : (uses : Uses) → uses ≡ answer_alone → Completes c uses tag front rest
  completes uses u = record { text = is.text; asks_no_more = is.asks_no_more; tag_is = is.tag_is; uses_is = is.alone ∙ sym u }

module _ (c : Command) (front : List ℕ) (old new : Line) (heard : List ℕ) where
  pub waits_err : (T : Type 0) (f : FarFault) → AsksOr c front (Err f) old new heard → WaitsOr {T = T} c front (Err f) old new heard
  waits_err T faults.Stopped h = h
  waits_err T faults.Refused h = h
  waits_err T faults.Protocol h = h
  waits_err T faults.TooLong h = h
  waits_err T faults.NoRev2 h = h
  waits_err T faults.ReadOnly h = h
  waits_err T faults.NoMemory h = h

  pub go_waits : (reported : LastReply) → reported ≡ states.Go → AsksOr c front (Ok reported) old new heard → Waits front old new heard
  go_waits reported e h = subst (λ (t : LastReply). AsksOr c front (Ok t) old new heard) e h

  pub no_answer : (reported : LastReply) (status : Status) → reported ≡ states.Answer status → AsksOr c front (Ok reported) old new heard → ⊥
  no_answer reported status e h = subst (λ (t : LastReply). AsksOr c front (Ok t) old new heard) e h
