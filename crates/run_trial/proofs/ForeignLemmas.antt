-- Messages that bear none of these marks, by a test of each.
use Rattle.std.proofs.Common.{◌≡◌, ℕ, Bool, List, true}
use Rattle.std.specs.Prelude.{All}
use Rattle.std.specs.List.{list_all}
use Rattle.std.proofs.lemmas.List.Sums.{AllPass-from_list_all}
use Rattle.mailcore.specs.Content.{mark_of}
use Rattle.mailcore.specs.Visitors.{IsForeign, is_foreign}
use Rattle.mailcore.proofs.Foreign.{foreign_by}
use Rattle.run_trial.specs.declared.arrival.FarArrival.{FarArrival}

pub all_foreign : (ours : List ℕ → Bool) (list : List FarArrival) → list_all (λ a. is_foreign ours (mark_of a.bytes)) list ≡ true → All (λ a. IsForeign ours (mark_of a.bytes)) list
all_foreign ours list is = λ k d within. foreign_by ours (mark_of _) (AllPass-from_list_all (λ (a : FarArrival). is_foreign ours (mark_of a.bytes)) list is k d within)
