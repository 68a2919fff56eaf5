-- What becomes of a copy goes by its source.
use Rattle.std.proofs.Common.{inl, inr, ℕ, Bool, List, Option, Ok}
use Rattle.mailcore.specs.declared.side.Direction.{Direction}
use Rattle.mailcore.specs.Sides.{target}
use Rattle.outside.specs.declared.outside.Carried.{Carried}
use Rattle.outside.specs.declared.outside.Carried.TheVariants.{Absent, Unfit, Made}
use Rattle.outside.specs.Arrivals.{Arrives}
use Rattle.outside.specs.BoxCalls.{Carry, SetsAside, copies_made}
use Rattle.outside.specs.Calls.{Call, FromBox, LeavesBy, Seen}
use Rattle.runner.specs.declared.performed.StepResult.TheVariants as did
use Rattle.runner.specs.Sources.{BySource}

module _ (honest : Type 0) (ours : List ℕ → Bool) (alone : Bool) (direction : Direction) (uid flags : ℕ) (mark : List ℕ) (s0 s1 : Seen) where
  abbrev Asked : Carried → Type 0
  Asked carried = Call honest (Arrives ours alone) copies_made FromBox (Carry direction uid flags mark) (LeavesBy (Carry direction uid flags mark) (SetsAside (target direction))) s0 s1 (Ok carried)

  pub void_absent : Asked Absent → honest → BySource ours alone direction uid did.Void s0.device
  void_absent c h = let f = c.acts.effect h in record { mid = f.mid; before = f.before; so = inl f.following.1 }

  pub void_unfit : Asked Unfit → honest → BySource ours alone direction uid did.Void s0.device
  void_unfit c h = let f = c.acts.effect h in record { mid = f.mid; before = f.before; so = inr f.following.1 }

  pub made_fit : (reported : Option ℕ) (copy : ℕ) → Asked (Made reported) → honest → BySource ours alone direction uid (did.Made copy) s0.device
  made_fit reported copy c h =
      let f = c.acts.effect h in
      let m = f.following.makes in
      record { mid = f.mid; before = f.before; so = record { bytes = m.bytes; is_there = m.is_there; is_fit = m.is_fit } }
