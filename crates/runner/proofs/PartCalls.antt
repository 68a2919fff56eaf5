-- From the calls of the outside to parts, and from parts to longer ones.
use Rattle.std.proofs.Common.{◌≡◌, ◌⊎◌, ◌≤◌, ◌<◌, ◌+◌, ◌++◌, inl, inr, ℕ, Bool, true, false, List, [], ◌∷◌, Option, Result, Ok, Err, refl, sym, ◌∙◌, ap, subst, append_assoc, arith}
use Rattle.device.specs.Calls.{Effect}
use Rattle.mailcore.specs.declared.side.Side.{Side}
use Rattle.sync_state.specs.declared.journal.Logged.{Logged}
use Rattle.outside.specs.declared.fault.OutsideFault.{OutsideFault}
use Rattle.outside.specs.declared.fault.OutsideFault.TheVariants as out
use Rattle.outside.specs.BookCalls.{FromLog}
use Rattle.outside.specs.Calls.{Call, FromBook, FromBox, FromOpening, FromShelf, IsLast, Seen, stops_reported}
use Rattle.outside.specs.Devices.{Device}
use Rattle.outside.specs.GoingOn.{GoesOn}
use Rattle.outside.proofs.GoingOn.{goes_after, stays}
use Rattle.outside.specs.Opened.{Opened}
use Rattle.runner.specs.declared.fault.RunFault.{RunFault}
use Rattle.runner.specs.declared.fault.RunFault.TheVariants as run
use Rattle.runner.specs.Going.{number_at}
use Rattle.runner.specs.Faults.{IsCaused, IsLost, LeavesRun, Reasons, RefusedAt, call_fault, step_fault, stops_met}
use Rattle.runner.specs.Parts.{InStep, Left, Never, NoLess, PartOr, Passed, ReportsMore}

-- ---- a bad line of the state or the journal

-- a fault that reports nothing of the state or the journal
abbrev pub ReportsNoBook : OutsideFault → Type 0
ReportsNoBook out.Stopped = Unit {0}
ReportsNoBook out.Refused = Unit {0}
ReportsNoBook (out.Box side number) = Unit {0}
ReportsNoBook (out.BadState line) = ⊥
ReportsNoBook (out.BadJournal line) = ⊥
ReportsNoBook out.NoMemory = Unit {0}

pub from_box : (e : OutsideFault) → FromBox e → ReportsNoBook e
from_box out.Stopped h = tt
from_box out.Refused h = tt
from_box (out.Box side number) h = tt
from_box (out.BadState line) h = h
from_box (out.BadJournal line) h = h
from_box out.NoMemory h = tt

pub from_book : (e : OutsideFault) → FromBook e → ReportsNoBook e
from_book out.Stopped h = tt
from_book out.Refused h = tt
from_book (out.Box side number) h = tt
from_book (out.BadState line) h = h
from_book (out.BadJournal line) h = h
from_book out.NoMemory h = tt

-- a bad line has its reason
pub record HasLine (reasons : Reasons) (e : OutsideFault) : Type 0 where
  pub state : (line : ℕ) → e ≡ out.BadState line → (line ≡ 0) ⊎ reasons.unread e
  pub journal : (line : ℕ) → e ≡ out.BadJournal line → reasons.unread e

none_bad : {reasons : Reasons} (e : OutsideFault) → ReportsNoBook e → HasLine reasons e
none_bad e t = record {
  state = λ line is. absurd (subst (λ (x : OutsideFault). ReportsNoBook x) is t);
  journal = λ line is. absurd (subst (λ (x : OutsideFault). ReportsNoBook x) is t);
}

pub line_of_box : {reasons : Reasons} (e : OutsideFault) → FromBox e → HasLine reasons e
line_of_box e h = none_bad e (from_box e h)

pub from_opening : (e : OutsideFault) → FromOpening e → ReportsNoBook e
from_opening out.Stopped h = tt
from_opening out.Refused h = tt
from_opening (out.Box side number) h = tt
from_opening (out.BadState line) h = absurd h
from_opening (out.BadJournal line) h = absurd h
from_opening out.NoMemory h = tt

pub line_of_opening : {reasons : Reasons} (e : OutsideFault) → FromOpening e → HasLine reasons e
line_of_opening e h = none_bad e (from_opening e h)

pub line_of_book : {reasons : Reasons} (e : OutsideFault) → FromBook e → HasLine reasons e
line_of_book e h = none_bad e (from_book e h)

pub line_of_log : {reasons : Reasons} (opened : Option Opened) (logged : Logged) (e : OutsideFault) → FromLog opened logged e → HasLine reasons e
line_of_log opened logged e h = record {
  state = λ line is. inl (subst (λ (x : OutsideFault). FromLog opened logged x) is h).0;
  journal = λ line is. absurd (subst (λ (x : OutsideFault). FromLog opened logged x) is h);
}

pub line_of_shelf : {reasons : Reasons} (e : OutsideFault) → reasons.unread e → HasLine reasons e
line_of_shelf e u = record { state = λ line is. inr u; journal = λ line is. u }

-- ---- which calls are never refused

pub opening_unrefused : (e : OutsideFault) → FromOpening e → e ≡ out.Refused → ⊥
opening_unrefused e h is = subst (λ (x : OutsideFault). FromOpening x) is h

pub book_unrefused : (e : OutsideFault) → FromBook e → e ≡ out.Refused → ⊥
book_unrefused e h is = subst (λ (x : OutsideFault). FromBook x) is h

pub shelf_unrefused : (e : OutsideFault) → FromShelf e → e ≡ out.Refused → ⊥
shelf_unrefused e h is = subst (λ (x : OutsideFault). FromShelf x) is h

-- ---- what was reported

pub more_none : (s0 s1 : Seen) → s1.reported ≡ s0.reported → ReportsMore s0 s1
more_none s0 s1 e = record { since = []; now = e }

pub more_after : (s0 s1 s2 : Seen) → ReportsMore s0 s1 → ReportsMore s1 s2 → ReportsMore s0 s2
more_after s0 s1 s2 p q = record { since = q.since ++ p.since; now = q.now ∙ ap (λ (l : List OutsideFault). q.since ++ l) p.now ∙ sym (append_assoc q.since p.since s0.reported) }

pub last_after : (e : OutsideFault) (s0 s1 s2 : Seen) → ReportsMore s0 s1 → IsLast e s1 s2 → IsLast e s0 s2
last_after e s0 s1 s2 p q = record { since = q.since ++ p.since; now = q.now ∙ ap (λ (l : List OutsideFault). e ∷ (q.since ++ l)) p.now ∙ ap (λ (l : List OutsideFault). e ∷ l) (sym (append_assoc q.since p.since s0.reported)) }

-- what may be reported after more was reported
pub caused_after : (reasons : Reasons) (f : RunFault) (s0 s1 s2 : Seen) → (f ≡ run.Stopped → (s1.is_broken ≡ true) ⊎ (s1.stops < s2.stops) → (s0.is_broken ≡ true) ⊎ (s0.stops < s2.stops)) → ReportsMore s0 s1 → s0.appends ≤ s1.appends → IsCaused reasons f s1 s2 → IsCaused reasons f s0 s2
caused_after reasons run.Stopped s0 s1 s2 stop p a h = stop refl h
caused_after reasons (run.Refused step) s0 s1 s2 stop p a h = (h.0, last_after out.Refused s0 s1 s2 p h.1)
caused_after reasons (run.StoreFault side code) s0 s1 s2 stop p a (inl h) = inl (last_after (out.Box side code) s0 s1 s2 p h)
caused_after reasons (run.StoreFault side code) s0 s1 s2 stop p a (inr h) = inr (record { far = h.far; protocol = h.protocol; copied = let k = h.copied in omega (arith, a, k) })
caused_after reasons (run.ValidityChanged side) s0 s1 s2 stop p a h = h
caused_after reasons (run.BadState line) s0 s1 s2 stop p a (inl b) = inl b
caused_after reasons (run.BadState line) s0 s1 s2 stop p a (inr (inl g)) = inr (inl g)
caused_after reasons (run.BadState line) s0 s1 s2 stop p a (inr (inr h)) = inr (inr (last_after (out.BadState line) s0 s1 s2 p h.0, h.1))
caused_after reasons (run.BadJournal line) s0 s1 s2 stop p a h = (last_after (out.BadJournal line) s0 s1 s2 p h.0, h.1)
caused_after reasons run.MarksRepeat s0 s1 s2 stop p a h = h
caused_after reasons run.NoMemory s0 s1 s2 stop p a h = tt
caused_after reasons run.KeywordsChanged s0 s1 s2 stop p a h = h

pub leaves_after : (u : Device → Type 0) (f : RunFault) (s0 s1 s2 : Seen) → ReportsMore s0 s1 → LeavesRun u f s1 s2 → LeavesRun u f s0 s2
leaves_after u run.Stopped s0 s1 s2 p k = k
leaves_after u (run.Refused step) s0 s1 s2 p k = (k.0, last_after out.Refused s0 s1 s2 p k.1)
leaves_after u (run.StoreFault side code) s0 s1 s2 p (k, h) = (k, last_after (out.Box side code) s0 s1 s2 p h)
leaves_after u (run.ValidityChanged side) s0 s1 s2 p k = k
leaves_after u (run.BadState line) s0 s1 s2 p k = k
leaves_after u (run.BadJournal line) s0 s1 s2 p k = k
leaves_after u run.MarksRepeat s0 s1 s2 p k = k
leaves_after u run.NoMemory s0 s1 s2 p k = k
leaves_after u run.KeywordsChanged s0 s1 s2 p k = k

-- ---- why a fault is reported

abbrev StopCount : OutsideFault → Seen → Seen → Type 0
StopCount e old new = e ≡ out.Stopped → (old.is_broken ≡ true) ⊎ (old.stops < new.stops)

-- one that is no stop is noted
abbrev IsNoted : OutsideFault → Seen → Seen → Type 0
IsNoted e old new = (e ≡ out.Stopped → ⊥) → IsLast e old new

caused_by : (reasons : Reasons) (e : OutsideFault) (number : ℕ) (s0 s1 : Seen) → StopCount e s0 s1 → IsNoted e s0 s1 → HasLine reasons e → (e ≡ out.Refused → reasons.refused number) → IsCaused reasons (step_fault e number) s0 s1
caused_by reasons out.Stopped number s0 s1 stop h t r = stop refl
caused_by reasons out.Refused number s0 s1 stop h t r = (r refl, h (λ e. cc))
caused_by reasons (out.Box side code) number s0 s1 stop h t r = inl (h (λ e. cc))
caused_by reasons (out.BadState line) number s0 s1 stop h t r = inr (inr (h (λ e. cc), t.state line refl))
caused_by reasons (out.BadJournal line) number s0 s1 stop h t r = (h (λ e. cc), t.journal line refl)
caused_by reasons out.NoMemory number s0 s1 stop h t r = tt

called_by : (reasons : Reasons) (e : OutsideFault) (s0 s1 : Seen) → StopCount e s0 s1 → IsNoted e s0 s1 → HasLine reasons e → (e ≡ out.Refused → ⊥) → IsCaused reasons (call_fault e) s0 s1
called_by reasons out.Stopped s0 s1 stop h t u = stop refl
called_by reasons out.Refused s0 s1 stop h t u = absurd (u refl)
called_by reasons (out.Box side code) s0 s1 stop h t u = inl (h (λ e. cc))
called_by reasons (out.BadState line) s0 s1 stop h t u = inr (inr (h (λ e. cc), t.state line refl))
called_by reasons (out.BadJournal line) s0 s1 stop h t u = (h (λ e. cc), t.journal line refl)
called_by reasons out.NoMemory s0 s1 stop h t u = tt

-- ---- how many stops it reports

step_stops : (e : OutsideFault) (number : ℕ) → stops_met (step_fault e number) ≡ stops_reported e
step_stops out.Stopped number = refl
step_stops out.Refused number = refl
step_stops (out.Box side code) number = refl
step_stops (out.BadState line) number = refl
step_stops (out.BadJournal line) number = refl
step_stops out.NoMemory number = refl

call_stops : (e : OutsideFault) → stops_met (call_fault e) ≡ stops_reported e
call_stops out.Stopped = refl
call_stops out.Refused = refl
call_stops (out.Box side code) = refl
call_stops (out.BadState line) = refl
call_stops (out.BadJournal line) = refl
call_stops out.NoMemory = refl

-- a fault of the run's own reports none
no_stop : (reasons : Reasons) (f : RunFault) (s : Seen) → s.is_broken ≡ false → IsCaused reasons f s s → stops_met f ≡ 0
no_stop reasons run.Stopped s whole (inl broken) = absurd (cc)
no_stop reasons run.Stopped s whole (inr more) = omega (arith, more)
no_stop reasons (run.Refused step) s whole h = refl
no_stop reasons (run.ValidityChanged side) s whole h = refl
no_stop reasons (run.BadState line) s whole h = refl
no_stop reasons (run.BadJournal line) s whole h = refl
no_stop reasons (run.StoreFault side code) s whole h = refl
no_stop reasons run.MarksRepeat s whole h = refl
no_stop reasons run.NoMemory s whole h = refl
no_stop reasons run.KeywordsChanged s whole h = refl

-- ---- what a fault leaves

pub after_step : (u : Device → Type 0) (e : OutsideFault) (number : ℕ) (s0 s1 : Seen) → IsNoted e s0 s1 → ReportsNoBook e → u s1.device → LeavesRun u (step_fault e number) s0 s1
after_step u out.Stopped number s0 s1 h t k = k
after_step u out.Refused number s0 s1 h t k = (k, h (λ e. cc))
after_step u (out.Box side code) number s0 s1 h t k = (k, h (λ e. cc))
after_step u (out.BadState line) number s0 s1 h t k = t
after_step u (out.BadJournal line) number s0 s1 h t k = t
after_step u out.NoMemory number s0 s1 h t k = k

pub after_call : (u : Device → Type 0) (e : OutsideFault) (s0 s1 : Seen) → IsNoted e s0 s1 → (e ≡ out.Refused → ⊥) → ReportsNoBook e → u s1.device → LeavesRun u (call_fault e) s0 s1
after_call u out.Stopped s0 s1 h n t k = k
after_call u out.Refused s0 s1 h n t k = absurd (n refl)
after_call u (out.Box side code) s0 s1 h n t k = (k, h (λ e. cc))
after_call u (out.BadState line) s0 s1 h n t k = t
after_call u (out.BadJournal line) s0 s1 h n t k = t
after_call u out.NoMemory s0 s1 h n t k = k

-- the same for a weaker condition
pub leaves_map : (u v : Device → Type 0) (f : RunFault) (s0 s1 : Seen) → (u s1.device → v s1.device) → LeavesRun u f s0 s1 → LeavesRun v f s0 s1
leaves_map u v run.Stopped s0 s1 g k = g k
leaves_map u v (run.Refused step) s0 s1 g k = (g k.0, k.1)
leaves_map u v (run.StoreFault side code) s0 s1 g k = (g k.0, k.1)
leaves_map u v (run.ValidityChanged side) s0 s1 g k = g k
leaves_map u v (run.BadState line) s0 s1 g k = k
leaves_map u v (run.BadJournal line) s0 s1 g k = k
leaves_map u v run.MarksRepeat s0 s1 g k = g k
leaves_map u v run.NoMemory s0 s1 g k = g k
leaves_map u v run.KeywordsChanged s0 s1 g k = g k

-- ---- one call

pub broken_or_whole : (s : Seen) → (s.is_broken ≡ true) ⊎ (s.is_broken ≡ false)
broken_or_whole s = either s.is_broken
  where
    either : (b : Bool) → (b ≡ true) ⊎ (b ≡ false)
    either true = inl refl
    either false = inr refl

module _ {T : Type 0} (honest : Type 0) (from : Device → Type 0) (others : Effect Device) (copies : T → ℕ) (states : OutsideFault → Type 0) (does : T → Effect Device) (leaves : OutsideFault → Effect Device) (s0 s1 : Seen) where
  -- that went
  -- by what was reported where the outside has behaved as specified
  pub passed_reported : (to : Device → Type 0) (x : T) → Call honest others copies states does leaves s0 s1 (Ok x) → (honest → (m : Device) → from s0.device → others s0.device m → does x m s1.device → to s1.device) → Passed honest from to (copies x) s0 s1
  passed_reported to x c f =
      let a = c.acts in
      let n = c.counts in
      record {
        is_whole = a.is_whole;
        stops = a.stops;
        reported = n.reported;
        appends = n.appends;
        reopened = n.reopened;
        goes_on = c.goes_on;
        reaches = λ h at. let e = a.effect h in f h e.mid at e.before e.following;
      }

  pub passed_call : (to : Device → Type 0) (x : T) → Call honest others copies states does leaves s0 s1 (Ok x) → ((m : Device) → from s0.device → others s0.device m → does x m s1.device → to s1.device) → Passed honest from to (copies x) s0 s1
  passed_call to x c f = passed_reported to x c (λ h. f)

  no_less : (e : OutsideFault) → Call honest others copies states does leaves s0 s1 (Err e) → NoLess s0 s1
  no_less e c = let a = c.acts in let n = c.counts in record { stops = a.no_less; reported = more (broken_or_whole s0); appends = omega (arith, n.appends); reopened = n.reopened }
    where
      more : (s0.is_broken ≡ true) ⊎ (s0.is_broken ≡ false) → ReportsMore s0 s1
      more (inl b) = let n = c.counts in more_none s0 s1 (ap (λ (s : Seen). s.reported) (n.stuck b))
      more (inr w) = let n = c.counts in record { since = e ∷ []; now = n.noted w }

  -- a fault that is no stop is noted: the outside had not failed before
  noted : (e : OutsideFault) → Call honest others copies states does leaves s0 s1 (Err e) → IsNoted e s0 s1
  noted e c other = last (broken_or_whole s0)
    where
      last : (s0.is_broken ≡ true) ⊎ (s0.is_broken ≡ false) → IsLast e s0 s1
      last (inl b) = let a = c.acts in absurd (other (a.stuck b).0)
      last (inr w) = let n = c.counts in record { since = []; now = n.noted w }

  -- that had a fault while a step was performed
  pub left_step : (underway : Device → Type 0) (number : ℕ) (opened : Option Opened) (e : OutsideFault) → Call honest others copies states does leaves s0 s1 (Err e) → (states e → HasLine (InStep number opened honest (from s0.device) s1.device) e)
      → ((m : Device) → from s0.device → others s0.device m → leaves out.Refused m s1.device → RefusedAt (number_at opened) s1.device)
      → ((m : Device) → from s0.device → others s0.device m → leaves e m s1.device → states e → ReportsNoBook e × underway s1.device) → Left (InStep number opened honest (from s0.device) s1.device) honest from underway (step_fault e number) s0 s1
  left_step underway number opened e c line held f =
      let a = c.acts in
      let n = c.counts in
      let refused : e ≡ out.Refused → honest → from s0.device → RefusedAt (number_at opened) s1.device = (λ is h at. let k = a.left h in held k.mid at k.before (subst (λ (x : OutsideFault). leaves x k.mid s1.device) is k.following)) in
      record {
        caused = caused_by _ e number s0 s1 a.counted (noted e c) (line n.reported) (λ is. (refl, refused is));
        no_less = no_less e c;
        stops = λ whole. n.stopped whole ∙ ap (λ (k : ℕ). s0.stops + k) (sym (step_stops e number));
        goes_on = c.goes_on;
        left = λ h at. let k = a.left h in let r = f k.mid at k.before k.following n.reported in after_step underway e number s0 s1 (noted e c) r.0 r.1;
      }

  -- that is never refused, and had a fault while a step was performed
  pub left_unrefused : (underway : Device → Type 0) (number : ℕ) (e : OutsideFault) → Call honest others copies states does leaves s0 s1 (Err e) → (states e → HasLine Never e) → (states e → e ≡ out.Refused → ⊥)
      → ((m : Device) → from s0.device → others s0.device m → leaves e m s1.device → states e → ReportsNoBook e × underway s1.device) → Left Never honest from underway (step_fault e number) s0 s1
  left_unrefused underway number e c line never f =
      let a = c.acts in
      let n = c.counts in
      record {
        caused = caused_by Never e number s0 s1 a.counted (noted e c) (line n.reported) (never n.reported);
        no_less = no_less e c;
        stops = λ whole. n.stopped whole ∙ ap (λ (k : ℕ). s0.stops + k) (sym (step_stops e number));
        goes_on = c.goes_on;
        left = λ h at. let k = a.left h in let r = f k.mid at k.before k.following n.reported in after_step underway e number s0 s1 (noted e c) r.0 r.1;
      }

  -- that had one else
  pub left_call : {reasons : Reasons} (underway : Device → Type 0) (e : OutsideFault) → (states e → e ≡ out.Refused → ⊥) → Call honest others copies states does leaves s0 s1 (Err e) → (states e → HasLine reasons e) → ((m : Device) → from s0.device → others s0.device m → leaves e m s1.device → states e → ReportsNoBook e × underway s1.device) → Left reasons honest from underway (call_fault e) s0 s1
  left_call underway e never c line f =
      let a = c.acts in
      let n = c.counts in
      record {
        caused = called_by _ e s0 s1 a.counted (noted e c) (line n.reported) (never n.reported);
        no_less = no_less e c;
        stops = λ whole. n.stopped whole ∙ ap (λ (k : ℕ). s0.stops + k) (sym (call_stops e));
        goes_on = c.goes_on;
        left = λ h at. let k = a.left h in let r = f k.mid at k.before k.following n.reported in after_call underway e s0 s1 (noted e c) (never n.reported) r.0 r.1;
      }

-- on an outside that had failed before none goes, and it changes nothing
module _ {T : Type 0} (honest : Type 0) (others : Effect Device) (copies : T → ℕ) (states : OutsideFault → Type 0) (does : T → Effect Device) (leaves : OutsideFault → Effect Device) (s0 s1 : Seen) where
  pub whole_call : (x : T) → Call honest others copies states does leaves s0 s1 (Ok x) → s0.is_broken ≡ true → ⊥
  whole_call x c e = let a = c.acts in let whole = a.was_whole in cc

  pub stuck_call : (e : OutsideFault) → Call honest others copies states does leaves s0 s1 (Err e) → s0.is_broken ≡ true → (call_fault e ≡ run.Stopped) × (s1 ≡ s0)
  stuck_call e c b = let a = c.acts in let n = c.counts in let k = a.stuck b in (ap call_fault k.0, n.stuck b)

-- ---- what the files hold

pub goes_on : {T : Type 0} (reasons : Reasons) (honest : Type 0) (from underway : Device → Type 0) (copies : T → ℕ) (reaches : T → Device → Type 0) (s0 s1 : Seen) (r : Result T RunFault) → PartOr reasons honest from underway copies reaches s0 s1 r → honest → GoesOn s0.device s1.device
goes_on reasons honest from underway copies reaches s0 s1 (Ok x) p = p.goes_on
goes_on reasons honest from underway copies reaches s0 s1 (Err e) p = p.goes_on

-- ---- no call

pub passed_none : (honest : Type 0) (from to : Device → Type 0) (s : Seen) → s.is_broken ≡ false → (from s.device → to s.device) → Passed honest from to 0 s s
passed_none honest from to s whole f = record { is_whole = whole; stops = refl; reported = refl; appends = omega arith; reopened = refl; goes_on = λ h. stays s.device s.device refl; reaches = λ h at. f at }

-- ---- one part after another

pub passed_after : (h0 h1 : Type 0) (a b c : Device → Type 0) (m n : ℕ) (s0 s1 s2 : Seen) → (h1 → h0) → Passed h0 a b m s0 s1 → Passed h1 b c n s1 s2 → Passed h1 a c (m + n) s0 s2
passed_after h0 h1 a b c m n s0 s1 s2 honest p q = record {
  is_whole = q.is_whole;
  stops = q.stops ∙ p.stops;
  reported = q.reported ∙ p.reported;
  appends = omega (arith, p.appends, q.appends);
  reopened = q.reopened ∙ p.reopened;
  goes_on = λ h. goes_after s0.device s1.device s2.device (p.goes_on (honest h)) (q.goes_on h);
  reaches = λ h at. q.reaches h (p.reaches (honest h) at);
}

stop_after : {f : RunFault} (s0 s1 s2 : Seen) → s1.is_broken ≡ false → s1.stops ≡ s0.stops → f ≡ run.Stopped → (s1.is_broken ≡ true) ⊎ (s1.stops < s2.stops) → (s0.is_broken ≡ true) ⊎ (s0.stops < s2.stops)
stop_after s0 s1 s2 whole same is (inl broken) = absurd (cc)
stop_after s0 s1 s2 whole same is (inr more) = inr (omega (arith, same, more))

pub left_after : {reasons : Reasons} (h0 h1 : Type 0) (a b underway : Device → Type 0) (m : ℕ) (f : RunFault) (s0 s1 s2 : Seen) → (h1 → h0) → Passed h0 a b m s0 s1 → Left reasons h1 b underway f s1 s2 → Left reasons h1 a underway f s0 s2
left_after {reasons} h0 h1 a b underway m f s0 s1 s2 honest p q =
    let more = more_none s0 s1 p.reported in
    record {
      caused = caused_after reasons f s0 s1 s2 (stop_after s0 s1 s2 p.is_whole p.stops) more (omega (arith, p.appends)) q.caused;
      no_less = let n = q.no_less in record { stops = omega (arith, p.stops, n.stops); reported = more_after s0 s1 s2 more n.reported; appends = omega (arith, p.appends, n.appends); reopened = n.reopened ∙ p.reopened };
      stops = λ _. q.stops p.is_whole ∙ ap (λ (k : ℕ). k + stops_met f) p.stops;
      goes_on = λ h. goes_after s0.device s1.device s2.device (p.goes_on (honest h)) (q.goes_on h);
      left = λ h at. leaves_after underway f s0 s1 s2 more (q.left h (p.reaches (honest h) at));
    }

-- a fault of the run's own, after a part that went
pub left_here : {reasons : Reasons} (h : Type 0) (a b underway : Device → Type 0) (m : ℕ) (f : RunFault) (s0 s1 : Seen) → Passed h a b m s0 s1 → IsCaused reasons f s1 s1 → (b s1.device → LeavesRun underway f s0 s1) → Left reasons h a underway f s0 s1
left_here {reasons} h a b underway m f s0 s1 p caused g = record {
  caused = caused_after reasons f s0 s1 s1 (stop_after s0 s1 s1 p.is_whole p.stops) (more_none s0 s1 p.reported) (omega (arith, p.appends)) caused;
  no_less = record { stops = omega (arith, p.stops); reported = more_none s0 s1 p.reported; appends = omega (arith, p.appends); reopened = p.reopened };
  stops = λ _. omega (arith, p.stops, no_stop reasons f s1 p.is_whole caused);
  goes_on = p.goes_on;
  left = λ honest at. g (p.reaches honest at);
}

-- a copy that was made and not found
pub left_lost : {reasons : Reasons} (h : Type 0) (a underway : Device → Type 0) (m : ℕ) (s0 s1 : Seen) → 0 < m → Passed h a (λ d. ⊥) m s0 s1 → (side : Side) (number : ℕ) → ((s0.appends < s1.appends) → IsLost side number s0 s1) → Left reasons h a underway (run.StoreFault side number) s0 s1
left_lost h a underway m s0 s1 some p side number lost = record {
  caused = inr (lost (omega (arith, some, p.appends)));
  no_less = record { stops = omega (arith, p.stops); reported = more_none s0 s1 p.reported; appends = omega (arith, p.appends); reopened = p.reopened };
  stops = λ _. omega (arith, p.stops);
  goes_on = p.goes_on;
  left = λ honest at. absurd (p.reaches honest at);
}

-- ---- the same part between other conditions

pub passed_weaker : (h : Type 0) (a a' b b' : Device → Type 0) (m n : ℕ) (s0 s1 : Seen) → m ≡ n → ((d : Device) → a' d → a d) → ((d : Device) → b d → b' d) → Passed h a b m s0 s1 → Passed h a' b' n s0 s1
passed_weaker h a a' b b' m n s0 s1 same f g p = record {
  is_whole = p.is_whole;
  stops = p.stops;
  reported = p.reported;
  appends = omega (arith, p.appends);
  reopened = p.reopened;
  goes_on = p.goes_on;
  reaches = λ honest at. g s1.device (p.reaches honest (f s0.device at));
}

pub left_weaker : {reasons : Reasons} (h : Type 0) (a a' underway : Device → Type 0) (f : RunFault) (s0 s1 : Seen) → ((d : Device) → a' d → a d) → Left reasons h a underway f s0 s1 → Left reasons h a' underway f s0 s1
left_weaker h a a' underway f s0 s1 g l = record { caused = l.caused; no_less = l.no_less; stops = l.stops; goes_on = l.goes_on; left = λ honest at. l.left honest (g s0.device at) }

pub part_weaker : {T : Type 0} (reasons : Reasons) (h : Type 0) (a a' underway : Device → Type 0) (copies : T → ℕ) (reaches reaches' : T → Device → Type 0) (s0 s1 : Seen) (r : Result T RunFault) → ((d : Device) → a' d → a d) → ((x : T) (d : Device) → reaches x d → reaches' x d) → PartOr reasons h a underway copies reaches s0 s1 r → PartOr reasons h a' underway copies reaches' s0 s1 r
part_weaker reasons h a a' underway copies reaches reaches' s0 s1 (Ok x) f g p = passed_weaker h a a' (reaches x) (reaches' x) (copies x) (copies x) s0 s1 refl f (g x) p
part_weaker reasons h a a' underway copies reaches reaches' s0 s1 (Err e) f g p = left_weaker h a a' underway e s0 s1 f p

-- a part after one that made no copy
pub part_after : {T : Type 0} (reasons : Reasons) (h0 h1 : Type 0) (a b underway : Device → Type 0) (copies : T → ℕ) (reaches : T → Device → Type 0) (s0 s1 s2 : Seen) (r : Result T RunFault) → (h1 → h0) → Passed h0 a b 0 s0 s1 → PartOr reasons h1 b underway copies reaches s1 s2 r → PartOr reasons h1 a underway copies reaches s0 s2 r
part_after reasons h0 h1 a b underway copies reaches s0 s1 s2 (Ok x) honest p q = passed_weaker h1 a a (reaches x) (reaches x) (0 + copies x) (copies x) s0 s2 (omega arith) (λ d k. k) (λ d k. k) (passed_after h0 h1 a b (reaches x) 0 (copies x) s0 s1 s2 honest p q)
part_after reasons h0 h1 a b underway copies reaches s0 s1 s2 (Err e) honest p q = left_after h0 h1 a b underway 0 e s0 s1 s2 honest p q

-- beside what does not change
pub passed_with : (p h : Type 0) (a b : Device → Type 0) (n : ℕ) (s0 s1 : Seen) → Passed h a b n s0 s1 → Passed h (λ d. p × a d) (λ d. p × b d) n s0 s1
passed_with p h a b n s0 s1 k = record {
  is_whole = k.is_whole;
  stops = k.stops;
  reported = k.reported;
  appends = k.appends;
  reopened = k.reopened;
  goes_on = k.goes_on;
  reaches = λ honest at. (at.0, k.reaches honest at.1);
}

pub add_none : (n : ℕ) → n + 0 ≡ n
add_none n = omega arith

-- ---- the same part for other reasons

-- the reasons of one part are reasons of another
pub record AreReasons (c c' : Reasons) : Type 0 where
  pub changed : (side : Side) → c.changed side → c'.changed side
  pub keywords : c.keywords → c'.keywords
  pub repeats : c.repeats → c'.repeats
  pub beyond : c.beyond → c'.beyond
  pub greatest : c.greatest → c'.greatest
  pub unread : (e : OutsideFault) → c.unread e → c'.unread e
  pub refused : (step : ℕ) → c.refused step → c'.refused step

pub caused_reported : (c c' : Reasons) (f : RunFault) (s0 s1 : Seen) → AreReasons c c' → IsCaused c f s0 s1 → IsCaused c' f s0 s1
caused_reported c c' run.Stopped s0 s1 k h = h
caused_reported c c' (run.Refused step) s0 s1 k h = (k.refused step h.0, h.1)
caused_reported c c' (run.ValidityChanged side) s0 s1 k h = k.changed side h
caused_reported c c' (run.BadState line) s0 s1 k (inl (z, b)) = inl (z, k.beyond b)
caused_reported c c' (run.BadState line) s0 s1 k (inr (inl (two, g))) = inr (inl (two, k.greatest g))
caused_reported c c' (run.BadState line) s0 s1 k (inr (inr (l, inl z))) = inr (inr (l, inl z))
caused_reported c c' (run.BadState line) s0 s1 k (inr (inr (l, inr u))) = inr (inr (l, inr (k.unread (out.BadState line) u)))
caused_reported c c' (run.BadJournal line) s0 s1 k h = (h.0, k.unread (out.BadJournal line) h.1)
caused_reported c c' (run.StoreFault side code) s0 s1 k h = h
caused_reported c c' run.MarksRepeat s0 s1 k h = k.repeats h
caused_reported c c' run.NoMemory s0 s1 k h = h
caused_reported c c' run.KeywordsChanged s0 s1 k h = k.keywords h

pub left_reported : (c c' : Reasons) (h : Type 0) (a underway : Device → Type 0) (f : RunFault) (s0 s1 : Seen) → AreReasons c c' → Left c h a underway f s0 s1 → Left c' h a underway f s0 s1
left_reported c c' h a underway f s0 s1 k l = record { caused = caused_reported c c' f s0 s1 k l.caused; no_less = l.no_less; stops = l.stops; goes_on = l.goes_on; left = l.left }

pub part_reported : {T : Type 0} (c c' : Reasons) (h : Type 0) (a underway : Device → Type 0) (copies : T → ℕ) (reaches : T → Device → Type 0) (s0 s1 : Seen) (r : Result T RunFault) → AreReasons c c' → PartOr c h a underway copies reaches s0 s1 r → PartOr c' h a underway copies reaches s0 s1 r
part_reported c c' h a underway copies reaches s0 s1 (Ok x) k p = p
part_reported c c' h a underway copies reaches s0 s1 (Err e) k p = left_reported c c' h a underway e s0 s1 k p

-- ---- the same part that leaves another condition

pub left_mapped : {reasons : Reasons} (h : Type 0) (a a' u u' : Device → Type 0) (f : RunFault) (s0 s1 : Seen) → ((d : Device) → a' d → a d) → ((d : Device) → u d → u' d) → Left reasons h a u f s0 s1 → Left reasons h a' u' f s0 s1
left_mapped h a a' u u' f s0 s1 g k l = record { caused = l.caused; no_less = l.no_less; stops = l.stops; goes_on = l.goes_on; left = λ honest at. leaves_map u u' f s0 s1 (k s1.device) (l.left honest (g s0.device at)) }

pub part_mapped : {T : Type 0} (reasons : Reasons) (h : Type 0) (a a' u u' : Device → Type 0) (copies : T → ℕ) (reaches reaches' : T → Device → Type 0) (s0 s1 : Seen) (r : Result T RunFault) → ((d : Device) → a' d → a d) → ((d : Device) → u d → u' d) → ((x : T) (d : Device) → reaches x d → reaches' x d) → PartOr reasons h a u copies reaches s0 s1 r → PartOr reasons h a' u' copies reaches' s0 s1 r
part_mapped reasons h a a' u u' copies reaches reaches' s0 s1 (Ok x) f k g p = passed_weaker h a a' (reaches x) (reaches' x) (copies x) (copies x) s0 s1 refl f (g x) p
part_mapped reasons h a a' u u' copies reaches reaches' s0 s1 (Err e) f k g p = left_mapped h a a' u u' e s0 s1 f k p

-- by what is known of where it began
pub passed_knowing : (h : Type 0) (a b b' : Device → Type 0) (n : ℕ) (s0 s1 : Seen) → (a s0.device → (d : Device) → b d → b' d) → Passed h a b n s0 s1 → Passed h a b' n s0 s1
passed_knowing h a b b' n s0 s1 f p = record {
  is_whole = p.is_whole;
  stops = p.stops;
  reported = p.reported;
  appends = p.appends;
  reopened = p.reopened;
  goes_on = p.goes_on;
  reaches = λ honest at. f at s1.device (p.reaches honest at);
}

pub left_knowing : {reasons : Reasons} (h : Type 0) (a u u' : Device → Type 0) (f : RunFault) (s0 s1 : Seen) → (a s0.device → (d : Device) → u d → u' d) → Left reasons h a u f s0 s1 → Left reasons h a u' f s0 s1
left_knowing h a u u' f s0 s1 g l = record { caused = l.caused; no_less = l.no_less; stops = l.stops; goes_on = l.goes_on; left = λ honest at. leaves_map u u' f s0 s1 (g at s1.device) (l.left honest at) }

pub left_with : {reasons : Reasons} (p h : Type 0) (a u : Device → Type 0) (f : RunFault) (s0 s1 : Seen) → Left reasons h a u f s0 s1 → Left reasons h (λ d. p × a d) (λ d. p × u d) f s0 s1
left_with p h a u f s0 s1 k = record { caused = k.caused; no_less = k.no_less; stops = k.stops; goes_on = k.goes_on; left = λ honest at. leaves_map u (λ d. p × u d) f s0 s1 (λ x. (at.0, x)) (k.left honest at.1) }

pub part_with : {T : Type 0} (reasons : Reasons) (p h : Type 0) (a u : Device → Type 0) (copies : T → ℕ) (reaches : T → Device → Type 0) (s0 s1 : Seen) (r : Result T RunFault) → PartOr reasons h a u copies reaches s0 s1 r → PartOr reasons h (λ d. p × a d) (λ d. p × u d) copies (λ x d. p × reaches x d) s0 s1 r
part_with reasons p h a u copies reaches s0 s1 (Ok x) k = passed_with p h a (reaches x) (copies x) s0 s1 k
part_with reasons p h a u copies reaches s0 s1 (Err e) k = left_with p h a u e s0 s1 k

-- ---- the same part for another opening, where both are one

module _ {X T : Type 0} (x y : X) (reasons : Reasons) (h : Type 0) (from underway to : X → Device → Type 0) (copies : T → ℕ) (s0 s1 : Seen) (same : h → from y s0.device → x ≡ y) where
  there : (k : h) → from y s0.device → from x s0.device
  there k at = subst (λ (z : X). from z s0.device) (sym (same k at)) at

  pub part_by : (r : Result T RunFault) → PartOr reasons h (from x) (underway x) copies (λ t. to x) s0 s1 r → PartOr reasons h (from y) (underway y) copies (λ t. to y) s0 s1 r
  part_by (Ok t) p = record {
    is_whole = p.is_whole;
    stops = p.stops;
    reported = p.reported;
    appends = p.appends;
    reopened = p.reopened;
    goes_on = p.goes_on;
    reaches = λ k at. subst (λ (z : X). to z s1.device) (same k at) (p.reaches k (there k at));
  }
  part_by (Err f) p = record {
    caused = p.caused;
    no_less = p.no_less;
    stops = p.stops;
    goes_on = p.goes_on;
    left = λ k at. subst (λ (z : X). LeavesRun (underway z) f s0 s1) (same k at) (p.left k (there k at));
  }
