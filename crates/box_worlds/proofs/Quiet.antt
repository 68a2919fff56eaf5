-- A mailbox to which nobody else adds messages, over calls that change nothing.
use Rattle.std.proofs.Common.{◌≡◌, ◌∙◌, ◌⊎◌, inl, inr, true}
use Rattle.std.specs.Prelude.{List, ℕ, Bool, Result, Ok, Err}
use Rattle.device.specs.Calls.{Leaves, Nothing}
use Rattle.mailcore.specs.Mailboxes.{Mailbox}
use Rattle.mailcore.specs.declared.side.Side.{Side}
use Rattle.outside.specs.BoxArrivals.{Arrives}
use Rattle.outside.specs.MailboxCalls.{Call, DoesSome, Seen}
use Rattle.outside.specs.MailboxOperations.{Answers}
use Rattle.outside.specs.declared.box_fault.BoxFault.{BoxFault}
use Rattle.outside.specs.declared.box_fault.BoxFault.TheVariants.{Stopped, Refused, Own, NoMemory}

left_alone : {T : Type 0} (states : T → Mailbox → Type 0) (b b' : Mailbox) → Leaves (DoesSome (Answers states)) Nothing b b' → b' ≡ b
left_alone states b b' (inl same) = same
left_alone states b b' (inr (inl does)) = does.done.0
left_alone states b b' (inr (inr none)) = absurd none

-- a call that only answers leaves the mailbox as it was
pub unchanged : {T : Type 0} (honest ended : Type 0) (side : Side) (ours : List ℕ → Bool) (alone : Bool) (because : BoxFault → Mailbox → Type 0) (states : T → Mailbox → Type 0) (old new : Seen)
    (result : Result T BoxFault) → Call honest ended (Arrives side ours alone) because (Answers states) Nothing old new result → alone ≡ true → honest → new.stored ≡ old.stored
unchanged honest ended side ours alone because states old new (Ok answer) went quiet h =
    let f = went.effect h in
    f.following.0 ∙ f.before.nobody quiet
unchanged honest ended side ours alone because states old new (Err Stopped) halts quiet h =
    let f = halts.left h in
    left_alone states f.mid new.stored f.following ∙ f.before.nobody quiet
unchanged honest ended side ours alone because states old new (Err Refused) halts quiet h =
    let f = halts.left h in
    f.following.0 ∙ f.before.nobody quiet
unchanged honest ended side ours alone because states old new (Err (Own number)) halts quiet h =
    let f = halts.left h in
    f.following.0 ∙ f.before.nobody quiet
unchanged honest ended side ours alone because states old new (Err NoMemory) halts quiet h =
    let f = halts.left h in
    left_alone states f.mid new.stored f.following ∙ f.before.nobody quiet
