-- The shelf of a trial holds its state.
use Rattle.std.proofs.Common.{◌≡◌, ℕ, zero, suc, ◌<◌, ◌^◌, Bool, true, false, cond, eqb, Option, None, Some, refl, ⊎_elim, arith}
use Rattle.std.specs.Prelude.{get_or, unwrap_or}
use Rattle.std.proofs.lemmas.Bool.{eqb-true, eqb-false}
use Rattle.mailcore.specs.declared.side.Side.TheVariants.{Far, Near}
use Rattle.rules.specs.Opening.{IsFirst, IsLater, IsOpening}
use Rattle.rules.specs.Plans.{IsUidOrNone}
use Rattle.rules.specs.World.{World}
use Rattle.sync_state.specs.declared.version.Version.TheVariants.{Two}
use Rattle.sync_state.specs.Lines.{lines_text}
use Rattle.sync_state.specs.StateText.{HasText, state_lines}
use Rattle.book.specs.declared.book.Pending.TheVariants.{Missing}
use Rattle.book.specs.Books.{Holds, HoldsState}
use Rattle.run_trial.specs.Shelves.{shelf_of, state_file}
use Rattle.run_trial.specs.Worlds.{FitsWords}

side_fits : (uid : Option ℕ) (next : ℕ) → (uid ≡ Some 0 → ⊥) → unwrap_or uid 0 < next → next < 2 ^ 32 → IsUidOrNone uid
side_fits None next named below fits = tt
side_fits (Some zero) next named below fits = absurd (named refl)
side_fits (Some (suc uid)) next named below fits = record { positive = omega arith; below_last = omega arith }

later_text : (w : World) → IsOpening w → FitsWords w → IsLater w → HasText Two w.state
later_text w opening fits later = record {
  run = record { positive = later.run; fits = fits.run };
  far_validity = record {
    positive = let p : 0 < w.far.validity = (opening.mailbox Far).validity in let e = later.far_validity in omega arith;
    fits = let p = fits.far_validity in let e = later.far_validity in omega arith;
  };
  max_pulled = let p = later.below.pulled in let q = fits.far_next in omega arith;
  near_validity = record {
    positive = let p : 0 < w.near.validity = (opening.mailbox Near).validity in let e = later.near_validity in omega arith;
    fits = let p = fits.near_validity in let e = later.near_validity in omega arith;
  };
  max_pushed = let p = later.below.pushed in let q = fits.near_next in omega arith;
  entries = λ k d within. record {
    far = side_fits (get_or w.state.entries k d).far w.far.next (opening.named Far k d within) (later.below.far k d within) fits.far_next;
    near = side_fits (get_or w.state.entries k d).near w.near.next (opening.named Near k d within) (later.below.near k d within) fits.near_next;
    flags = opening.recorded k d within;
  };
  pairs = opening.world.in_order.pairs;
}

state_held : (w : World) → IsOpening w → FitsWords w → HoldsState (state_file w.state) w.state
state_held w opening fits = by_run (eqb w.state.run 0) refl
  where
    by_run : (b : Bool) → eqb w.state.run 0 ≡ b → HoldsState (cond b None (Some (lines_text (state_lines Two w.state)))) w.state
    by_run true e =
        ⊎_elim (λ (first : IsFirst w.state). first) (λ (later : IsLater w). let p = later.run in let q : w.state.run ≡ 0 = eqb-true w.state.run 0 e in absurd (omega arith)) opening.unchanged
    by_run false e = record {
      version = Two;
      is_text = record {
        fits = ⊎_elim (λ (first : IsFirst w.state). absurd (eqb-false w.state.run 0 e first.run)) (λ (later : IsLater w). later_text w opening fits later) opening.unchanged;
        spelled = refl;
      };
    }

pub shelf_holds : (w : World) → IsOpening w → FitsWords w → Holds (shelf_of w.state None) w.state Missing
shelf_holds w opening fits = ∣ record { state_file = state_held w opening fits; journal_file = tt } ∣₁
