-- The opening from which a trial is run: that of its world where there is no journal, and else the one that is given.
use Rattle.std.proofs.Common.{◌≡◌, ◌≢◌, ℕ, List, Option, None, Some, refl, subst, sym}
use Rattle.std.specs.Prelude.{Vec}
use Rattle.std.specs.Global.{Global}
use Rattle.maildir.specs.Gains.{nobody}
use Rattle.rules.specs.declared.state.SyncState.{SyncState}
use Rattle.book.specs.Shelves.{Files, bytes_of}
use Rattle.run_states.specs.Openings.{Opening}
use Rattle.run_trial.specs.Shelves.{shelf_of}

abbrev pub picked : Option (List ℕ) → (begun given : Opening nobody.ours nobody.alone) → Opening nobody.ours nobody.alone
picked None begun given = begun
picked (Some text) begun given = given

pub picked_begun : (files : Files) (state : SyncState) (journal : Option (Vec ℕ Global)) (begun given : Opening nobody.ours nobody.alone) → files ≡ shelf_of state (bytes_of journal) → journal ≡ None
    → picked files.journal begun given ≡ begun
picked_begun files state journal begun given same none =
    subst (λ (f : Files). picked f.journal begun given ≡ begun) (sym same)
    (subst (λ (j : Option (Vec ℕ Global)). picked (bytes_of j) begun given ≡ begun) (sym none) refl)

given_by : (journal : Option (Vec ℕ Global)) (begun given : Opening nobody.ours nobody.alone) → journal ≢ None → picked (bytes_of journal) begun given ≡ given
given_by None begun given some = absurd (some refl)
given_by (Some text) begun given some = refl

pub picked_given : (files : Files) (state : SyncState) (journal : Option (Vec ℕ Global)) (begun given : Opening nobody.ours nobody.alone) → files ≡ shelf_of state (bytes_of journal) → journal ≢ None
    → picked files.journal begun given ≡ given
picked_given files state journal begun given same some = subst (λ (f : Files). picked f.journal begun given ≡ given) (sym same) (given_by journal begun given some)
