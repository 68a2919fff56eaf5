-- Which messages an attempt has named, by what was read and then by the files, and that the others stand.
use Rattle.std.proofs.Common.{◌≡◌, ◌∙◌, ℕ, Bool, List, Option, Some, None, Result, Ok, Err, IfOk, ◌++◌, refl, sym, ap, subst}
use Rattle.rules.specs.declared.plan.Plan.{Plan}
use Rattle.rules.specs.declared.state.SyncState.{SyncState}
use Rattle.book.specs.declared.book.Pending.{Pending}
use Rattle.book.specs.Books.{Holds}
use Rattle.book.specs.Shelves.{Files}
use Rattle.book.proofs.KnownBooks.{book_known}
use Rattle.outside.specs.Devices.{Device, Named}
use Rattle.outside.specs.Opened.{IsHeld, Opened}
use Rattle.outside.specs.Sparing.{Spares}
use Rattle.run_states.specs.Openings.{Opening}
use Rattle.run_states.specs.Plans.{NamedBy}
use Rattle.run_states.proofs.Spared.{leaves_others, spares_others}
use Rattle.runner.specs.declared.fault.RunFault.{RunFault}
use Rattle.runner.specs.declared.pass.Pass.{Pass}
use Rattle.runner.specs.declared.pass.Pass.TheVariants.{Already, Finished, Ran}
use Rattle.runner.specs.Answers.{as_read}
use Rattle.runner.specs.Going.{plan_at, steps_of}
use Rattle.runner.specs.Naming.{NamesAt, NamesBy, OthersStand}
use Rattle.runner.specs.Validities.{IsKept}

module _ {ours : List ℕ → Bool} {alone : Bool} (opening : Opening ours alone) where
  -- calls before it named nothing, and the plan that is pending is the same
  pub names_from : (a b : Option Opened) (pass : Pass) (d0 d1 d2 : Device) → plan_at b ≡ plan_at a → d1.named ≡ d0.named → NamesBy opening b pass d1 d2 → NamesBy opening a pass d0 d2
  names_from a b Already d0 d1 d2 plan same k = k ∙ same
  names_from a b (Ran performed unfit) d0 d1 d2 plan same k = k
  names_from a b (Finished performed) d0 d1 d2 plan same k = subst (λ (p : Plan). NamedBy opening.named p.steps d2.named) plan k

  -- by the files that were read
  pub names_held : (opened : Option Opened) (d0 d1 d2 : Device) (r : Result Pass RunFault) (h0 h1 from start : Type 0) → (h1 → h0) → (h1 → start → from) → (h0 → IsKept alone d0 d1) → (h0 → IsHeld opened d0)
      → IfOk r (λ pass. h1 → from → NamesBy opening opened pass d1 d2) → IfOk r (λ pass. h1 → start → NamesAt opening pass d0 d2)
  names_held opened d0 d1 d2 (Err e) h0 h1 from start honest leads kept held k = tt
  names_held opened d0 d1 d2 (Ok pass) h0 h1 from start honest leads kept held k = λ h at s p files.
      let n = (kept (honest h)).named in
      by_opened opened (held (honest h)) s p files n (k h (leads h at))
    where
      by_opened : (o : Option Opened) → IsHeld o d0 → (s : SyncState) (p : Pending) → Holds d0.files s p → d1.named ≡ d0.named → NamesBy opening o pass d1 d2 → NamesBy opening (as_read s p) pass d0 d2
      by_opened None is s p files n f = absurd is
      by_opened (Some o) is s p files n f =
          let e = book_known d0.files o.state s o.pending p is files in
          names_from (as_read s p) (Some o) pass d0 d1 d2 (ap (λ (q : Pending). plan_at (as_read s q)) e.1) n f

  -- an attempt that read the files before
  pub names_tried : (a b c : Device) (r : Result Pass RunFault) (h0 h1 from start : Type 0) → (h1 → h0) → (h1 → start → from) → (h0 → IsKept alone a b)
      → IfOk r (λ pass. h1 → from → NamesAt opening pass b c) → IfOk r (λ pass. h1 → start → NamesAt opening pass a c)
  names_tried a b c (Err e) h0 h1 from start honest leads kept k = tt
  names_tried a b c (Ok pass) h0 h1 from start honest leads kept k = λ h at s p held.
      let same = kept (honest h) in
      names_from (as_read s p) (as_read s p) pass a b c refl same.named (k h (leads h at) s p (subst (λ (f : Files). Holds f s p) (sym same.files) held))

  -- ---- what was not named

  -- what calls had named by now is known, and from here on they spare what they do not name
  abbrev pub HasSpared : (old new : Device) → Type 0
  HasSpared old new = ((before : List Named) × (old.named ≡ before ++ opening.named)) × Spares old new

  pub others_stand : (opened : Option Opened) (pass : Pass) (began old new : Device) → NamesBy opening opened pass began new → HasSpared old new → OthersStand opening opened pass old new
  others_stand opened Already began old new names k = spares_others opening old new k.0 k.1
  others_stand opened (Ran performed unfit) began old new names k = let b = k.0 in leaves_others opening.named b.0 (steps_of performed.items) old new b.1 names k.1
  others_stand opened (Finished performed) began old new names k = let b = k.0 in leaves_others opening.named b.0 (plan_at opened).steps old new b.1 names k.1
