-- A call that fails since a reading before it does: nothing is changed.
use Rattle.std.proofs.Common.{◌≡◌, inl, ℕ, Bool, List, Err}
use Rattle.device.specs.Calls.{Effect}
use Rattle.outside.specs.declared.fault.OutsideFault.{OutsideFault}
use Rattle.outside.specs.declared.fault.OutsideFault.TheVariants.{Stopped, Refused, Box, BadState, BadJournal, NoMemory}
use Rattle.outside.specs.Arrivals.{Arrives}
use Rattle.outside.specs.Calls.{Call, FromBox, FromOpening, LeavesBy, Opens, Seen}
use Rattle.outside.specs.Devices.{Device}

left_same : {T : Type 0} (does : T → Effect Device) (part : Effect Device) (fault : OutsideFault) (d d' : Device) → d' ≡ d → LeavesBy does part fault d d'
left_same does part Stopped d d' same = inl same
left_same does part Refused d d' same = same
left_same does part (Box side number) d d' same = same
left_same does part (BadState line) d d' same = same
left_same does part (BadJournal line) d d' same = same
left_same does part NoMemory d d' same = inl same

-- what a call before the steps may report, a call of a box may
as_box : (fault : OutsideFault) → FromOpening fault → FromBox fault
as_box Stopped h = tt
as_box Refused h = absurd h
as_box (Box side number) h = tt
as_box (BadState line) h = absurd h
as_box (BadJournal line) h = absurd h
as_box NoMemory h = tt

pub fails_same : {T U : Type 0} {states : U → Device → Type 0} (honest : Type 0) (ours : List ℕ → Bool) (alone : Bool) (copies : T → ℕ) (does : T → Effect Device) (part : Effect Device) (fault : OutsideFault) (old new : Seen)
    → Opens honest (Arrives ours alone) states old new (Err fault) → Call honest (Arrives ours alone) copies FromBox does (LeavesBy does part) old new (Err fault)
fails_same honest ours alone copies does part fault old new c = record {
  acts = record {
    is_broken = c.acts.is_broken;
    counted = c.acts.counted;
    no_less = c.acts.no_less;
    stuck = c.acts.stuck;
    left = λ h. let f = c.acts.left h in record { mid = f.mid; before = f.before; following = left_same does part fault f.mid new.device f.following };
  };
  goes_on = c.goes_on;
  counts = record {
    reported = as_box fault c.counts.reported;
    noted = c.counts.noted;
    stopped = c.counts.stopped;
    appends = c.counts.appends;
    reopened = c.counts.reopened;
    stuck = c.counts.stuck;
  };
}
