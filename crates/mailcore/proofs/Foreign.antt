-- Marks that are none of a run's.
use Rattle.std.proofs.Common.{◌≡◌, ℕ, Bool, true, false, not, List, Option, None, Some, refl}
use Rattle.mailcore.specs.Visitors.{IsForeign, is_foreign}

-- where no mark is known to be the run's
pub any_foreign : (mark : Option (List ℕ)) → IsForeign (λ m. false) mark
any_foreign None = tt
any_foreign (Some mark) = refl

pub any_is_foreign : (mark : Option (List ℕ)) → true ≡ is_foreign (λ m. false) mark
any_is_foreign None = refl
any_is_foreign (Some mark) = refl

-- by the test
not_ours : (b : Bool) → not b ≡ true → b ≡ false
not_ours true is = absurd (cc)
not_ours false is = refl

pub foreign_by : (ours : List ℕ → Bool) (mark : Option (List ℕ)) → is_foreign ours mark ≡ true → IsForeign ours mark
foreign_by ours None is = tt
foreign_by ours (Some mark) is = not_ours (ours mark) is
