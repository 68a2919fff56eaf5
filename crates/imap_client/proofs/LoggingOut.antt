-- A session ends at the server.
use Rattle.std.proofs.Common.{◌≡◌, ℕ, List, [], ◌∷◌, refl, ◌∙◌, subst, sym, Result, Ok, Err, ap}
use Rattle.std.specs.Prelude.{codes}
use Rattle.imap_commands.specs.declared.command.Command.{Command}
use Rattle.imap_commands.specs.declared.command.Request.{Request}
use Rattle.imap_commands.specs.declared.command.Request.TheVariants as requests
use Rattle.imap_commands.specs.Writing.{Written}
use Rattle.imap_replies.specs.declared.word.Status.{Status}
use Rattle.imap_replies.specs.declared.word.Status.TheVariants as statuses
use Rattle.imap_session.specs.Servers.{Server, LoggedOut}
use Rattle.imap_session.specs.Answering.{bye, done}
use Rattle.imap_session.specs.Steps.{StepOf}
use Rattle.imap_link.specs.declared.fault.FarFault.{FarFault}
use Rattle.imap_link.specs.declared.fault.FarFault.TheVariants as faults
use Rattle.imap_link.specs.Faults.{IsHearing}
use Rattle.imap_link.specs.Outcomes.{Outcome, Never}
use Rattle.imap_link.specs.Sinks.{any_replies}
use Rattle.imap_link.specs.declared.uses.Uses.{Uses}
use Rattle.imap_link.specs.UsedReplies.{answer_alone, uses_of}
use Rattle.imap_link.specs.Exchanges.{Completes}
use Rattle.imap_client.specs.Exchanged.{AnsweredSo}
use Rattle.imap_client.specs.Leaving.{Leaves, LeftSo}
use Rattle.imap_client.specs.Requests.{IsPlain}
use Rattle.imap_client.specs.States.{State, SendStops}
use Rattle.imap_client.proofs.Answered.{Sure, status_so, after_so, heard_so}
use Rattle.imap_client.proofs.Completing.{plain_completes}
use Rattle.imap_client.proofs.LoggingIn.{same_status}

module _ (c : Command) (is : c.request ≡ requests.Logout) where
  pub logout_completes : (uses : Uses) (t : List ℕ) → uses ≡ answer_alone → Written c t → Completes c uses c.tag [] t
  logout_completes uses t u w = plain_completes c uses t (u ∙ sym (ap uses_of is)) (subst IsPlain (sym is) tt) w

  module _ (old : Server) where
    abbrev over : Server
    over = record old { condition = LoggedOut }

    logout_sure : Sure c old (bye (codes "bye") ∷ []) (done c.tag) over
    logout_sure = record { each = λ said new step. subst (λ (r : Request). StepOf old c.tag r said new) is step }

    pub left_answered : (result : Result Status FarFault) (heard : List ℕ) (new : Server) → AnsweredSo c any_replies result heard old new
        → Outcome {T = Status} (λ a s t. (a ≡ statuses.Ok) × Leaves s t) Never Leaves result old new
    left_answered (Ok a) heard new h =
        let status = status_so any_replies c old (bye (codes "bye") ∷ []) (done c.tag) over logout_sure a heard new h in
        (same_status a status, (heard_so any_replies c old (bye (codes "bye") ∷ []) (done c.tag) over logout_sure a heard new h).1)
    left_answered (Err faults.Stopped) heard new h = after_so any_replies c old (bye (codes "bye") ∷ []) (done c.tag) over logout_sure new h
    left_answered (Err faults.Refused) heard new h = h
    left_answered (Err faults.Protocol) heard new h = h
    left_answered (Err faults.TooLong) heard new h = h
    left_answered (Err faults.NoRev2) heard new h = h
    left_answered (Err faults.ReadOnly) heard new h = h
    left_answered (Err faults.NoMemory) heard new h = after_so any_replies c old (bye (codes "bye") ∷ []) (done c.tag) over logout_sure new h

pub left_err : (T : Type 0) (tag : List ℕ) (old new : State) (f : FarFault) → IsHearing f → (f ≡ faults.Stopped → SendStops tag old new) → LeftSo {T = T} tag old new (Err f)
left_err T tag old new faults.Stopped h s = s refl
left_err T tag old new faults.Refused h s = absurd h
left_err T tag old new faults.Protocol h s = tt
left_err T tag old new faults.TooLong h s = tt
left_err T tag old new faults.NoRev2 h s = absurd h
left_err T tag old new faults.ReadOnly h s = absurd h
left_err T tag old new faults.NoMemory h s = tt

other : (s now : Status) → s ≡ now → s ≡ statuses.Ok → now ≡ statuses.Ok
other s now e f = sym e ∙ f

pub no_is_not : (s : Status) → s ≡ statuses.No → s ≡ statuses.Ok → ⊥
no_is_not s e f = let both = other s statuses.No e f in cc

pub bad_is_not : (s : Status) → s ≡ statuses.Bad → s ≡ statuses.Ok → ⊥
bad_is_not s e f = let both = other s statuses.Bad e f in cc
