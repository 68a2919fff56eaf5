-- Whether others add anything in a trial, and under which marks.
use Rattle.std.specs.Prelude.{◌≡◌, ℕ, Bool, ◌&&◌, List, []}
use Rattle.std.specs.List.{list_all}
use Rattle.mailcore.specs.Content.{mark_of}
use Rattle.mailcore.specs.Visitors.{is_foreign}
use Rattle.run_trial.specs.declared.arrival.TrialArrivals.{TrialArrivals}

-- nothing comes
pub record AreNone (arrivals : TrialArrivals) : Type 0 where
  pub far : arrivals.far.items ≡ []
  pub near : arrivals.near.items ≡ []

-- none of what comes bears one of these marks
abbrev pub are_foreign : (ours : List ℕ → Bool) → TrialArrivals → Bool
are_foreign ours arrivals =
    list_all (λ a. is_foreign ours (mark_of a.bytes)) arrivals.far.items && list_all (λ a. is_foreign ours (mark_of a.bytes)) arrivals.near.items
