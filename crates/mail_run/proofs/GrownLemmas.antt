-- What was noted of stores by the end of a run.
use Rattle.std.proofs.Common.{◌≡◌, ◌∙◌, ℕ, List, [], ◌∷◌, ◌++◌, Option, inl, inr, refl, ap, subst, sym}
use Rattle.std.specs.List.{fold}
use Rattle.std.proofs.lemmas.List.Sums.{fold-append}
use Rattle.config.specs.declared.config.Config.{Config}
use Rattle.config.specs.declared.request.RunRequest.{RunRequest}
use Rattle.channels.specs.Asked.{Asked, Ended}
use Rattle.channels.specs.Courses.{GoesAsFar}
use Rattle.mail_stores.specs.Records.{StoresRecord, none_asked, noted}
use Rattle.mail_run.specs.Grown.{Grows}

module _ {T : Type 0} (keep : T → Asked → T) where
  -- what a command line asks for is noted, or nothing is
  pub grown : (config : Config) (request : RunRequest) (status : ℕ) (before after : Option (List ℕ)) (old new were are : T)
      → GoesAsFar keep config request status before after old new → old ≡ were → new ≡ are → Grows keep were are
  grown config request status before after old new were are h was is =
      let all : Grows keep old new = since h in
      subst (λ (t : T). Grows keep were t) is (subst (λ (t : T). Grows keep t new) was all)
    where
      since : GoesAsFar keep config request status before after old new → Grows keep old new
      since (inl undone) = record { more = []; grown = undone.1 }
      since (inr (inl whole)) = record {
        more = whole.goes.more ++ Ended ∷ [];
        grown = whole.ended ∙ ap (λ (t : T). keep t Ended) whole.goes.grown ∙ sym (fold-append keep old whole.goes.more (Ended ∷ []));
      }
      since (inr (inr (status, inl undone))) = record { more = []; grown = undone.1 }
      since (inr (inr (status, inr goes))) = record { more = goes.more; grown = goes.grown }

-- what is noted leaves home and UIDVALIDITY as they are
stays : (before : StoresRecord) (more : List Asked) → ((fold noted before more).home ≡ before.home) × ((fold noted before more).fresh ≡ before.fresh)
stays before [] = (refl, refl)
stays before (one ∷ more) = stays (noted before one) more

-- so at the end the home folder is that of the beginning
pub home_from : (home : Option (List ℕ)) (fresh : ℕ) (old new : StoresRecord) → old ≡ none_asked home fresh → Grows noted old new → home ≡ new.home
home_from home fresh old new first grows =
    sym (ap (λ (r : StoresRecord). r.home) grows.grown ∙ (stays old grows.more).0 ∙ ap (λ (r : StoresRecord). r.home) first)

-- and so is the UIDVALIDITY of near mailboxes that have none
pub fresh_from : (home : Option (List ℕ)) (fresh : ℕ) (old new : StoresRecord) → old ≡ none_asked home fresh → Grows noted old new → fresh ≡ new.fresh
fresh_from home fresh old new first grows =
    sym (ap (λ (r : StoresRecord). r.fresh) grows.grown ∙ (stays old grows.more).1 ∙ ap (λ (r : StoresRecord). r.fresh) first)
