-- A message is copied from one mailbox to the other: both directions as one.
use Rattle.std.proofs.Common.{◌≡◌, ◌+◌, ◌++◌, inl, inr, ap, sym, ◌∙◌, refl, subst, ℕ, Bool, true, false, List, Option, None, Some, arith}
use Rattle.device.specs.Calls.{Effect, Follows, Nothing}
use Rattle.mailcore.specs.declared.side.Direction.{Direction}
use Rattle.mailcore.specs.declared.side.Direction.TheVariants.{Pull, Push}
use Rattle.mailcore.specs.declared.side.LineEnd.{LineEnd}
use Rattle.mailcore.specs.declared.side.Side.{Side}
use Rattle.mailcore.specs.Content.{copy_text, fit, mark_of}
use Rattle.mailcore.specs.Operations.{added, bytes_of}
use Rattle.mailcore.specs.Sides.{source, target}
use Rattle.std.proofs.lemmas.List.Elements.{All-weaker}
use Rattle.mailcore.specs.Mailboxes.{Mailbox, on_store}
use Rattle.rules.specs.Copies.{line_end}
use Rattle.outside.specs.declared.box_fault.BoxFault.{BoxFault}
use Rattle.outside.specs.declared.box_fault.BoxFault.TheVariants as boxes
use Rattle.outside.specs.BoxArrivals as box
use Rattle.outside.specs.MailboxCalls as calls
use Rattle.outside.specs.MailboxOperations as ops
use Rattle.outside.specs.declared.fault.OutsideFault.{OutsideFault}
use Rattle.outside.specs.declared.fault.OutsideFault.TheVariants as fault
use Rattle.outside.specs.declared.outside.Carried.TheVariants.{Absent, Unfit, Made}
use Rattle.outside.specs.Arrivals.{Arrives}
use Rattle.outside.specs.MailboxOperations.{Reports}
use Rattle.outside.specs.BoxCalls.{Carry, SetsAside}
use Rattle.outside.specs.Calls.{LeavesBy}
use Rattle.outside.specs.Devices.{Device}
use Rattle.run_pair.specs.Copies.{with_two}
use Rattle.run_pair.specs.Faults.{reported}
use Rattle.run_pair.specs.Parts.{IsLess}
use Rattle.outside.proofs.Quiet.{quiet as box_quiet}
use Rattle.run_pair.proofs.Arriving.{is_foreign}

-- ---- others act on both

module _ (a b ours : List ℕ → Bool) (a1 b1 alone : Bool) (la : IsLess a ours) (lb : IsLess b ours) (na : alone ≡ true → a1 ≡ true) (nb : alone ≡ true → b1 ≡ true) (d : Device) where
  pub both_arrive : (direction : Direction) (m m' n n' : Mailbox) → box.Arrives (source direction) a a1 m m' → box.Arrives (target direction) b b1 n n'
      → Arrives ours alone (with_two direction m n d) (with_two direction m' n' d)
  both_arrive Pull m m' n n' x y = record {
    messages = x.comes.messages;
    next = x.comes.next;
    files = y.comes.files;
    waiting = y.comes.waiting;
    rise = x.comes.rise;
    gathered = y.comes.gathered;
    far_sound = x.comes.sound;
    near_sound = y.comes.sound;
    far_foreign = All-weaker _ _ (λ k. is_foreign a ours la (mark_of k.bytes)) x.comes.messages x.comes.foreign;
    near_foreign = All-weaker _ _ (λ k. is_foreign b ours lb (mark_of k.bytes)) y.comes.files y.comes.foreign;
    now = ap (λ (z : Mailbox). with_two Pull z n' d) x.comes.now ∙ ap (λ (z : Mailbox). with_two Pull (record m { store = record m.store { next = x.comes.next; messages = m.store.messages ++ x.comes.messages } }) z d) y.comes.now;
    nobody = λ h. ap (λ (z : Mailbox). with_two Pull z n' d) (x.nobody (na h)) ∙ ap (λ (z : Mailbox). with_two Pull m z d) (y.nobody (nb h));
  }
  both_arrive Push m m' n n' x y = record {
    messages = y.comes.messages;
    next = y.comes.next;
    files = x.comes.files;
    waiting = x.comes.waiting;
    rise = y.comes.rise;
    gathered = x.comes.gathered;
    far_sound = y.comes.sound;
    near_sound = x.comes.sound;
    far_foreign = All-weaker _ _ (λ k. is_foreign b ours lb (mark_of k.bytes)) y.comes.messages y.comes.foreign;
    near_foreign = All-weaker _ _ (λ k. is_foreign a ours la (mark_of k.bytes)) x.comes.files x.comes.foreign;
    now = ap (λ (z : Mailbox). with_two Push z n' d) x.comes.now ∙ ap (λ (z : Mailbox). with_two Push (record m { waiting = x.comes.waiting }) z d) y.comes.now;
    nobody = λ h. ap (λ (z : Mailbox). with_two Push z n' d) (x.nobody (na h)) ∙ ap (λ (z : Mailbox). with_two Push m z d) (y.nobody (nb h));
  }

  -- the source was called, and nobody acts on the target
  pub after_load : (direction : Direction) (n : Mailbox) {m m' : Mailbox} {own : Effect Mailbox} {own' : Effect Device} → Follows (box.Arrives (source direction) a a1) own m m'
      → ((x : Mailbox) → own x m' → own' (with_two direction x n d) (with_two direction m' n d)) → Follows (Arrives ours alone) own' (with_two direction m n d) (with_two direction m' n d)
  after_load direction n {m} {m'} e f = record {
    mid = with_two direction e.mid n d;
    before = both_arrive direction m e.mid n n e.before (box_quiet (target direction) b b1 n);
    following = f e.mid e.following;
  }

  -- the source was called, and then the target
  pub after_both : (direction : Direction) {m m' n n' : Mailbox} {own other : Effect Mailbox} {own' : Effect Device} → Follows (box.Arrives (source direction) a a1) own m m'
      → Follows (box.Arrives (target direction) b b1) other n n' → ((x y : Mailbox) → own x m' → other y n' → own' (with_two direction x y d) (with_two direction m' n' d))
      → Follows (Arrives ours alone) own' (with_two direction m n d) (with_two direction m' n' d)
  after_both direction {m} {m'} {n} {n'} e h f = record {
    mid = with_two direction e.mid h.mid d;
    before = both_arrive direction m e.mid n h.mid e.before h.before;
    following = f e.mid h.mid e.following h.following;
  }

-- ---- what was read of the message

pub fits_so : {s s' : Side} {message body : List ℕ} {is_fit found : Bool} → is_fit ≡ fit s' message → s' ≡ s → message ≡ body → is_fit ≡ found → fit s body ≡ found
fits_so {s} {s'} {message} {body} e es em is = ap (λ (x : List ℕ). fit s x) (sym em) ∙ ap (λ (x : Side). fit x message) (sym es) ∙ sym e ∙ is

pub text_so : (mark : List ℕ) {s s' : Side} {n end : LineEnd} {message body text head : List ℕ} → text ≡ copy_text head message end → head ≡ mark → end ≡ n → message ≡ body
    → n ≡ line_end s' → s' ≡ s → text ≡ copy_text mark body (line_end s)
text_so mark {s} {s'} {n} {end} {message} {body} {text} {head} et em ee eb en es =
    et ∙ ap (λ (x : List ℕ). copy_text x message end) em ∙ ap (λ (x : List ℕ). copy_text mark x end) eb ∙ ap (λ (x : LineEnd). copy_text mark body x) (ee ∙ en ∙ ap line_end es)

pub reported_as : (f : BoxFault) {s s' : Side} {e : OutsideFault} → e ≡ reported s f → s ≡ s' → e ≡ reported s' f
reported_as f e es = e ∙ ap (λ (s : Side). reported s f) es

-- ---- nothing is done

left_none : {T : Type 0} (does : T → Effect Device) (part : Effect Device) (e : OutsideFault) (d d' : Device) → d' ≡ d → LeavesBy does part e d d'
left_none does part fault.Stopped d d' h = inl h
left_none does part fault.Refused d d' h = h
left_none does part (fault.Box s number) d d' h = h
left_none does part (fault.BadState line) d d' h = h
left_none does part (fault.BadJournal line) d d' h = h
left_none does part fault.NoMemory d d' h = inl h

pub stays_left : {T : Type 0} (does : T → Effect Device) (part : Effect Device) (direction : Direction) (e : OutsideFault) (m m' n : Mailbox) (d : Device) → m' ≡ m → LeavesBy does part e (with_two direction m n d) (with_two direction m' n d)
stays_left does part direction e m m' n d h = left_none does part e _ _ (ap (λ (z : Mailbox). with_two direction z n d) h)

-- a call that reads has changed nothing, whatever it reports
pub read_stays : {T : Type 0} (because : BoxFault → Mailbox → Type 0) (states : T → Mailbox → Type 0) (f : BoxFault) (m m' : Mailbox) → calls.LeavesBy (ops.Answers states) Nothing because f m m' → m' ≡ m
read_stays because states boxes.Stopped m m' (inl h) = h
read_stays because states boxes.Stopped m m' (inr (inl h)) = h.done.0
read_stays because states boxes.Stopped m m' (inr (inr h)) = absurd h
read_stays because states boxes.Refused m m' h = h.0
read_stays because states (boxes.Own number) m m' h = h.0
read_stays because states boxes.NoMemory m m' (inl h) = h
read_stays because states boxes.NoMemory m m' (inr (inl h)) = h.done.0
read_stays because states boxes.NoMemory m m' (inr (inr h)) = absurd h

pub absent : (direction : Direction) (uid flags : ℕ) (mark : List ℕ) (m m' n : Mailbox) (d : Device) → m' ≡ m → bytes_of uid m.store ≡ None
    → Carry direction uid flags mark Absent (with_two direction m n d) (with_two direction m' n d)
absent Pull uid flags mark m m' n d h is = (ap (λ (z : Mailbox). with_two Pull z n d) h, is)
absent Push uid flags mark m m' n d h is = (ap (λ (z : Mailbox). with_two Push z n d) h, is)

pub unfit : (direction : Direction) (uid flags : ℕ) (mark bytes : List ℕ) (m m' n : Mailbox) (d : Device) → m' ≡ m → bytes_of uid m.store ≡ Some bytes → fit (source direction) bytes ≡ false
    → Carry direction uid flags mark Unfit (with_two direction m n d) (with_two direction m' n d)
unfit Pull uid flags mark bytes m m' n d h is bad = (ap (λ (z : Mailbox). with_two Pull z n d) h, record { bytes = bytes; is_there = is; is_unfit = bad })
unfit Push uid flags mark bytes m m' n d h is bad = (ap (λ (z : Mailbox). with_two Push z n d) h, record { bytes = bytes; is_there = is; is_unfit = bad })

-- ---- a copy is made

reports_uid : (reported' : Option ℕ) (uid : ℕ) → reported' ≡ Some uid → Reports reported' uid
reports_uid reported' uid h = subst (λ (o : Option ℕ). Reports o uid) (sym h) refl

pub made : (direction : Direction) (uid flags : ℕ) (mark bytes text : List ℕ) (reported' : Option ℕ) (m m' n n' : Mailbox) (d : Device) → m' ≡ m → bytes_of uid m.store ≡ Some bytes → fit (source direction) bytes ≡ true
    → text ≡ copy_text mark bytes (line_end (target direction)) → ops.Appends (target direction) text flags reported' n n'
    → Carry direction uid flags mark (Made reported') (with_two direction m n d) (with_two direction m' n' d)
made Pull uid flags mark bytes text reported' m m' n n' d h is good t a = record {
  makes = record {
    bytes = bytes;
    is_there = is;
    is_fit = good;
    copy = a.uid;
    next = a.uid + 1;
    least = omega (arith, a.gives.0);
    below = omega arith;
    now = ap (λ (z : Mailbox). with_two Pull z n' d) h ∙ ap (λ (z : Mailbox). with_two Pull m z d) (a.now ∙ ap (λ (x : List ℕ). on_store (added a.uid flags x) n) t);
  };
  states = reports_uid reported' a.uid a.gives.1;
}
made Push uid flags mark bytes text reported' m m' n n' d h is good t a = record {
  makes = record {
    bytes = bytes;
    is_there = is;
    is_fit = good;
    copy = a.uid;
    next = a.uid + 1;
    least = a.gives.0;
    below = omega arith;
    now = ap (λ (z : Mailbox). with_two Push z n' d) h ∙ ap (λ (z : Mailbox). with_two Push m z d) (a.now ∙ ap (λ (x : List ℕ). on_store (added a.uid flags x) n) t);
  };
  states = a.gives.1;
}

aside : (direction : Direction) (m m' n n' : Mailbox) (d : Device) → m' ≡ m → ops.AppendsPart (target direction) n n' → SetsAside (target direction) (with_two direction m n d) (with_two direction m' n' d)
aside Pull m m' n n' d h a = record { next = n.store.next + 1; least = omega arith; now = ap (λ (z : Mailbox). with_two Pull z n' d) h ∙ ap (λ (z : Mailbox). with_two Pull m z d) a }
aside Push m m' n n' d h a = absurd a

pub not_made : (direction : Direction) (uid flags : ℕ) (mark bytes text : List ℕ) (because : BoxFault → Mailbox → Type 0) (m m' n n' : Mailbox) (d : Device) (f : BoxFault) → m' ≡ m → bytes_of uid m.store ≡ Some bytes → fit (source direction) bytes ≡ true
    → text ≡ copy_text mark bytes (line_end (target direction)) → calls.LeavesBy (ops.Appends (target direction) text flags) (ops.AppendsPart (target direction)) because f n n'
    → LeavesBy (Carry direction uid flags mark) (SetsAside (target direction)) (reported (target direction) f) (with_two direction m n d) (with_two direction m' n' d)
not_made direction uid flags mark bytes text because m m' n n' d f h is good t l = by_fault f l
  where
    same : n' ≡ n → with_two direction m' n' d ≡ with_two direction m n d
    same k = ap (λ (z : Mailbox). with_two direction z n' d) h ∙ ap (λ (z : Mailbox). with_two direction m z d) k

    by_fault : (f : BoxFault) → calls.LeavesBy (ops.Appends (target direction) text flags) (ops.AppendsPart (target direction)) because f n n'
        → LeavesBy (Carry direction uid flags mark) (SetsAside (target direction)) (reported (target direction) f) (with_two direction m n d) (with_two direction m' n' d)
    by_fault boxes.Stopped (inl k) = inl (same k)
    by_fault boxes.Stopped (inr (inl k)) = inr (inl (record { answer = Made k.answer; done = made direction uid flags mark bytes text k.answer m m' n n' d h is good t k.done }))
    by_fault boxes.Stopped (inr (inr k)) = inr (inr (aside direction m m' n n' d h k))
    by_fault boxes.Refused k = same k.0
    by_fault (boxes.Own number) k = same k.0
    by_fault boxes.NoMemory (inl k) = inl (same k)
    by_fault boxes.NoMemory (inr (inl k)) = inr (inl (record { answer = Made k.answer; done = made direction uid flags mark bytes text k.answer m m' n n' d h is good t k.done }))
    by_fault boxes.NoMemory (inr (inr k)) = inr (inr (aside direction m m' n n' d h k))
