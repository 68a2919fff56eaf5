-- Others add files to a folder, and nothing else changes; then its names are read.
use Rattle.std.proofs.Common.{◌≡◌, ◌∙◌, ◌⊎◌, ◌<◌, ◌≤◌, ℕ, true, false, Result, Ok, Err, refl, sym, ap, subst, arith}
use Rattle.std.proofs.lemmas.Bool.{false≢true}
use Rattle.device.specs.declared.DeviceFault.TheVariants.{NoMemory}
use Rattle.device.specs.declared.DeviceFault.{DeviceFault}
use Rattle.device.specs.Calls.{Read, Seen}
use Rattle.mailcore.specs.Visitors.{Visitors}
use Rattle.maildir.specs.FolderCalls.{ReadAnew}
use Rattle.maildir.specs.Folders.{Stored}
use Rattle.maildir.specs.Gains.{Adds}
use Rattle.maildir.specs.VisitedFolders.{AddsAlone}
use Rattle.maildir.proofs.GainLemmas.{adds_more, adds_none}

-- a reading before which nobody has added files
pub read_anew : {T : Type 0} (v : Visitors) (states : T → Stored → Type 0) (old new : Seen Stored) (result : Result T DeviceFault) → Read (Unit {0}) states old new result → ReadAnew (Unit {0}) v states old new result
read_anew v states old new (Ok answer) went = record {
  was_whole = went.was_whole;
  is_whole = went.is_whole;
  stops = went.stops;
  effect = λ honest. record { mid = old.stored; before = adds_none v old.stored; following = went.effect honest };
}
read_anew v states old new (Err fault) halted = record {
  is_broken = halted.is_broken;
  counted = halted.counted;
  no_less = halted.no_less;
  stuck = halted.stuck;
  left = λ honest. record { mid = old.stored; before = adds_none v old.stored; following = halted.left honest };
}

pub alone_none : (v : Visitors) (s : Seen Stored) → AddsAlone v s s
alone_none v s = (adds_none v s.stored, refl)

pub alone_same : (v : Visitors) (old new : Seen Stored) → new ≡ old → AddsAlone v old new
alone_same v old new is = subst (AddsAlone v old) (sym is) (alone_none v old)

pub alone_added : (v : Visitors) (old new : Seen Stored) (s : Stored) → Adds v old.stored new.stored → new ≡ record old { stored = s } → AddsAlone v old new
alone_added v old new s adds is = (adds, is ∙ ap (λ (t : Stored). let y : Seen Stored = record old { stored = t } in y) (sym (ap (λ (x : Seen Stored). x.stored) is)))

pub alone_more : (v : Visitors) (s m n : Seen Stored) → AddsAlone v s m → AddsAlone v m n → AddsAlone v s n
alone_more v s m n g h = (
  adds_more v s.stored m.stored n.stored g.0 h.0,
  h.1 ∙ ap (λ (x : Seen Stored). let y : Seen Stored = record x { stored = n.stored } in y) g.1,
)

-- a reading of a whole folder before which others have added files
pub read_after : {T : Type 0} (v : Visitors) (states : T → Stored → Type 0) (old mid new : Seen Stored) (result : Result T DeviceFault) → old.is_broken ≡ false → AddsAlone v old mid → Read (Unit {0}) states mid new result → ReadAnew (Unit {0}) v states old new result
read_after v states old mid new (Ok answer) whole adds went = record {
  was_whole = whole;
  is_whole = went.is_whole;
  stops = went.stops ∙ ap (λ (x : Seen Stored). x.stops) adds.1;
  effect = λ honest. record { mid = mid.stored; before = adds.0; following = went.effect honest };
}
read_after v states old mid new (Err fault) whole adds halted = record {
  is_broken = halted.is_broken;
  counted = λ is_stop. subst (λ (x : Seen Stored). (x.is_broken ≡ true) ⊎ (x.stops < new.stops)) adds.1 (halted.counted is_stop);
  no_less = subst (λ (n : ℕ). n ≤ new.stops) (ap (λ (x : Seen Stored). x.stops) adds.1) halted.no_less;
  stuck = λ broken. absurd (false≢true (sym whole ∙ broken));
  left = λ honest. record { mid = mid.stored; before = adds.0; following = halted.left honest };
}

-- memory ran out before the names were read
pub lacks_after : {T : Type 0} (v : Visitors) (states : T → Stored → Type 0) (old mid new : Seen Stored) → old.is_broken ≡ false → AddsAlone v old mid → new ≡ record mid { is_broken = true }
    → ReadAnew {T = T} (Unit {0}) v states old new (Err NoMemory)
lacks_after v states old mid new whole adds is = record {
  is_broken = ap (λ (x : Seen Stored). x.is_broken) is;
  counted = λ is_stop. absurd (cc);
  no_less = omega (arith, ap (λ (x : Seen Stored). x.stops) is, ap (λ (x : Seen Stored). x.stops) adds.1);
  stuck = λ broken. absurd (false≢true (sym whole ∙ broken));
  left = λ honest. record { mid = mid.stored; before = adds.0; following = ap (λ (x : Seen Stored). x.stored) is };
}
