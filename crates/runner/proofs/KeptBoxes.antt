-- What the calls that give a plan up leave of both mailboxes, and what a call of the book has done.
use Rattle.std.proofs.Common.{◌≡◌, ◌≤◌, ◌∙◌, ◌++◌, inl, inr, refl, sym, ap, subst, ℕ, Bool, List, [], Option, Some, None, append-nil, append_assoc, arith}
use Rattle.device.specs.Calls.{Effect}
use Rattle.mailcore.specs.declared.side.Side.{Side}
use Rattle.mailcore.specs.declared.side.Side.TheVariants.{Far, Near}
use Rattle.mailcore.specs.declared.mailbox.Message.{Message}
use Rattle.mailcore.specs.Mailboxes.{Mailbox}
use Rattle.mailcore.specs.Operations.{marked_from}
use Rattle.mailcore.specs.Stores.{Store}
use Rattle.mailcore.proofs.RiseLemmas.{rise-ends}
use Rattle.book.specs.declared.book.Pending.{Pending}
use Rattle.book.specs.Books.{Holds}
use Rattle.book.specs.Shelves.{Files}
use Rattle.outside.specs.declared.fault.OutsideFault.{OutsideFault}
use Rattle.outside.specs.declared.fault.OutsideFault.TheVariants as out
use Rattle.outside.specs.Arrivals.{Arrives}
use Rattle.outside.specs.BookCalls.{OfBook, OnFiles}
use Rattle.outside.specs.Calls.{LeavesBy}
use Rattle.outside.specs.Devices.{Device, box}
use Rattle.outside.specs.Opened.{IsHeld, Opened}
use Rattle.runner.specs.GivingUp.{KeepsAll, KeepsBoxes}
use Rattle.runner.proofs.Finding.{same_arrives, same_then}

-- ---- both mailboxes

module _ (ours : List ℕ → Bool) (alone : Bool) where
  boxes_arrive : (d m : Device) → Arrives ours alone d m → KeepsBoxes ours alone d m
  boxes_arrive d m a = record {
    far_validity = ap (λ (x : Device). x.far.validity) a.now;
    far_next = subst (λ (n : ℕ). d.far.next ≤ n) (sym (ap (λ (x : Device). x.far.next) a.now)) (rise-ends d.far.next _ a.next a.rise);
    far_added = a.messages;
    far = ap (λ (x : Device). x.far.messages) a.now;
    near = ap (λ (x : Device). x.near.store) a.now;
    named = ap (λ (x : Device). x.named) a.now;
    copies = same_arrives ours alone d m a;
    nobody = λ e. (ap (λ (x : Device). x.far) (a.nobody e), ap (λ (x : Device). x.near) (a.nobody e));
  }

  pub boxes_none : (d : Device) → KeepsBoxes ours alone d d
  boxes_none d = record {
    far_validity = refl;
    far_next = omega arith;
    far_added = [];
    far = sym (append-nil d.far.messages);
    near = refl;
    named = refl;
    copies = λ mark from side is. refl;
    nobody = λ e. (refl, refl);
  }

  pub boxes_next : (a b c : Device) → KeepsBoxes ours alone a b → KeepsBoxes ours alone b c → KeepsBoxes ours alone a c
  boxes_next a b c p q = record {
    far_validity = q.far_validity ∙ p.far_validity;
    far_next = omega (arith, p.far_next, q.far_next);
    far_added = p.far_added ++ q.far_added;
    far = q.far ∙ ap (λ (l : List Message). l ++ q.far_added) p.far ∙ append_assoc a.far.messages p.far_added q.far_added;
    near = q.near ∙ p.near;
    named = q.named ∙ p.named;
    copies = same_then ours a b c p.copies q.copies;
    nobody = λ e. ((q.nobody e).0 ∙ (p.nobody e).0, (q.nobody e).1 ∙ (p.nobody e).1);
  }

  -- a call that changes nothing
  pub boxes_read : (d m d' : Device) → Arrives ours alone d m → d' ≡ m → KeepsBoxes ours alone d d'
  boxes_read d m d' a e = subst (λ (x : Device). KeepsBoxes ours alone d x) (sym e) (boxes_arrive d m a)

  filed : (does : Effect Files) (m d' : Device) → OnFiles does m d' → KeepsBoxes ours alone m d'
  filed does m d' t = record {
    far_validity = ap (λ (s : Store). s.validity) t.far;
    far_next = subst (λ (s : Store). m.far.next ≤ s.next) (sym t.far) (omega arith);
    far_added = [];
    far = ap (λ (s : Store). s.messages) t.far ∙ sym (append-nil m.far.messages);
    near = ap (λ (b : Mailbox). b.store) t.near;
    named = t.named;
    copies = λ mark from side is. by_side mark from side;
    nobody = λ e. (t.far, t.near);
  }
    where
      by_side : (mark : List ℕ) (from : ℕ) (side : Side) → marked_from mark from (box d' side) ≡ marked_from mark from (box m side)
      by_side mark from Far = rw t.far refl
      by_side mark from Near = rw t.near refl

  -- a call of the book
  pub boxes_booked : (does : Pending → Effect Files) (opened : Option Opened) (d m d' : Device) → Arrives ours alone d m → OfBook does opened m d' → KeepsBoxes ours alone d d'
  boxes_booked does None d m d' a t = absurd t
  boxes_booked does (Some o) d m d' a t = boxes_next d m d' (boxes_arrive d m a) (filed (does o.pending) m d' t)

  pub boxes_left : (does part : Pending → Effect Files) (opened : Option Opened) (e : OutsideFault) (d m d' : Device) → Arrives ours alone d m
      → LeavesBy {T = Unit {0}} (λ _. OfBook does opened) (OfBook part opened) e m d' → KeepsBoxes ours alone d d'
  boxes_left does part opened out.Stopped d m d' a (inl same) = boxes_read d m d' a same
  boxes_left does part opened out.Stopped d m d' a (inr (inl k)) = boxes_booked does opened d m d' a k.done
  boxes_left does part opened out.Stopped d m d' a (inr (inr k)) = boxes_booked part opened d m d' a k
  boxes_left does part opened out.Refused d m d' a same = boxes_read d m d' a same
  boxes_left does part opened (out.Box side number) d m d' a same = boxes_read d m d' a same
  boxes_left does part opened (out.BadState line) d m d' a same = boxes_read d m d' a same
  boxes_left does part opened (out.BadJournal line) d m d' a same = boxes_read d m d' a same
  boxes_left does part opened out.NoMemory d m d' a (inl same) = boxes_read d m d' a same
  boxes_left does part opened out.NoMemory d m d' a (inr (inl k)) = boxes_booked does opened d m d' a k.done
  boxes_left does part opened out.NoMemory d m d' a (inr (inr k)) = boxes_booked part opened d m d' a k

  -- ---- the files

  pub files_read : (d m d' : Device) → Arrives ours alone d m → d' ≡ m → d'.files ≡ d.files
  files_read d m d' a e = ap (λ (x : Device). x.files) e ∙ ap (λ (x : Device). x.files) a.now

  pub held_arrives : (opened : Option Opened) (d m : Device) → Arrives ours alone d m → IsHeld opened d → IsHeld opened m
  held_arrives None d m a h = h
  held_arrives (Some o) d m a h = subst (λ (f : Files). Holds f o.state o.pending) (sym (ap (λ (x : Device). x.files) a.now)) h

  pub all_read : (d m d' : Device) → Arrives ours alone d m → d' ≡ m → KeepsAll ours alone d d'
  all_read d m d' a e = (boxes_read d m d' a e, files_read d m d' a e)

  pub all_next : (a b c : Device) → KeepsAll ours alone a b → KeepsAll ours alone b c → KeepsAll ours alone a c
  all_next a b c p q = (boxes_next a b c p.0 q.0, q.1 ∙ p.1)

pub held_same : (opened : Option Opened) (d d' : Device) → d'.files ≡ d.files → IsHeld opened d → IsHeld opened d'
held_same None d d' same h = h
held_same (Some o) d d' same h = subst (λ (f : Files). Holds f o.state o.pending) (sym same) h

-- what a call of the book did, whatever its fault
pub data Did (does part : Pending → Effect Files) (opened : Option Opened) (m d' : Device) : Type 0 where
  Nothing : d' ≡ m → Did does part opened m d'
  All : OfBook does opened m d' → Did does part opened m d'
  Part : OfBook part opened m d' → Did does part opened m d'

pub did : (does part : Pending → Effect Files) (opened : Option Opened) (e : OutsideFault) (m d' : Device)
    → LeavesBy {T = Unit {0}} (λ _. OfBook does opened) (OfBook part opened) e m d' → Did does part opened m d'
did does part opened out.Stopped m d' (inl same) = Nothing same
did does part opened out.Stopped m d' (inr (inl k)) = All k.done
did does part opened out.Stopped m d' (inr (inr k)) = Part k
did does part opened out.Refused m d' same = Nothing same
did does part opened (out.Box side number) m d' same = Nothing same
did does part opened (out.BadState line) m d' same = Nothing same
did does part opened (out.BadJournal line) m d' same = Nothing same
did does part opened out.NoMemory m d' (inl same) = Nothing same
did does part opened out.NoMemory m d' (inr (inl k)) = All k.done
did does part opened out.NoMemory m d' (inr (inr k)) = Part k
