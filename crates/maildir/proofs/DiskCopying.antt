-- From the calls that write a copy to what stands in `tmp`.
use Rattle.std.proofs.Common.{◌≡◌, ◌∙◌, ◌++◌, ℕ, zero, suc, true, false, List, [], length, take, refl, sym, ap, subst, inl, inr, arith, append-nil, append_assoc}
use Rattle.std.specs.Prelude.{◌⊎◌, min, slice_index, Result, Ok, Err, is_ok, OnOk, OnErr}
use Rattle.std.proofs.lemmas.List.{take-append-le}
use Rattle.maildir.specs.declared.disk_call.DiskDeed.TheVariants.{CopyMade, CopySynced}
use Rattle.maildir.specs.DiskEvents.{DiskEvent, Standing, beginning, copy_and, left, with_copied}
use Rattle.maildir.specs.DiskFolders.{CopyBegins, FolderParts, noted, standing}

-- bytes follow those of the copy
pub copy_grew : (given piece : List ℕ) (s b d : Standing) → b ≡ with_copied given s → d ≡ with_copied (copy_and piece b) b → d ≡ with_copied (given ++ piece) s
copy_grew given piece s b d is grew = grew ∙ ap (λ (t : Standing). with_copied (copy_and piece t) t) is

pub copy_goes_on : (given piece rest here all : List ℕ) → here ≡ piece ++ rest → given ++ here ≡ all → (given ++ piece) ++ rest ≡ all
copy_goes_on given piece rest here all is so_far = append_assoc given piece rest ∙ ap (λ (l : List ℕ). given ++ l) (sym is) ∙ so_far

pub copy_is_all : (given rest all : List ℕ) (s b : Standing) → rest ≡ [] → given ++ rest ≡ all → b ≡ with_copied given s → b ≡ with_copied all s
copy_is_all given rest all s b none so_far is = is ∙ ap (λ (l : List ℕ). with_copied l s) (sym (append-nil given) ∙ ap (λ (l : List ℕ). given ++ l) (sym none) ∙ so_far)

-- a beginning of a beginning is one of all
begins_in : (share : ℕ) (some rest all : List ℕ) (s d : Standing) → some ++ rest ≡ all → d ≡ with_copied (beginning share some) s → CopyBegins all s d
begins_in share some rest all s d split is = record {
  count = min share (length some);
  written = is ∙ ap (λ (l : List ℕ). with_copied l s) (sym (take-append-le (min share (length some)) some rest (omega arith)) ∙ ap (λ (l : List ℕ). take (min share (length some)) l) split);
}

pub copy_tore : (share : ℕ) (given piece rest all : List ℕ) (s b d : Standing) → (given ++ piece) ++ rest ≡ all → b ≡ with_copied given s
    → d ≡ with_copied (beginning share (copy_and piece b)) b → CopyBegins all s d
copy_tore share given piece rest all s b d split is tore =
    begins_in share (given ++ piece) rest all s d split (tore ∙ ap (λ (t : Standing). with_copied (beginning share (copy_and piece t)) t) is)

-- ---- as the calls answer

abbrev unmade : DiskEvent
unmade = record { call = record { deed = CopyMade; is_ok = false }; name = []; bytes = []; names = [] }

pub copy_unmade : (all : List ℕ) (a d : FolderParts) → d ≡ noted CopyMade false [] [] [] a → (standing d ≡ standing a) ⊎ CopyBegins all (standing a) (standing d)
copy_unmade all a d is =
    subst (λ (f : FolderParts). (standing f ≡ standing a) ⊎ CopyBegins all (standing a) (standing f)) (sym is) (by_share (slice_index a.world.shares (length a.events)))
  where
    by_share : (share : ℕ) → (left CopyMade share unmade (standing a) ≡ standing a) ⊎ CopyBegins all (standing a) (left CopyMade share unmade (standing a))
    by_share zero = inl refl
    by_share (suc share) = inr (record { count = 0; written = refl })

-- nothing follows a copy that was made
pub copy_empty : (all : List ℕ) (a d : FolderParts) → d ≡ noted CopyMade true [] [] [] a → (standing d ≡ standing a) ⊎ CopyBegins all (standing a) (standing d)
copy_empty all a d is = inr (record { count = 0; written = ap standing is })

pub copy_unsynced : (all : List ℕ) (s : Standing) (b d : FolderParts) → standing b ≡ with_copied all s → d ≡ noted CopySynced false [] [] [] b → CopyBegins all s (standing d)
copy_unsynced all s b d whole is =
    let share : ℕ = slice_index b.world.shares (length b.events) in
    begins_in share (all ++ []) [] all s (standing d) (append-nil (all ++ []) ∙ append-nil all)
    (ap standing is ∙ ap (λ (t : Standing). with_copied (beginning share (copy_and [] t)) t) whole)

pub on_err : {T E P : Type 0} (answer : Result T E) → P → OnErr answer P
on_err (Ok value) p = tt
on_err (Err error) p = p

pub copy_ends_ok : {T E : Type 0} (answer : Result T E) (all : List ℕ) (s : Standing) (b d : FolderParts) → standing b ≡ with_copied all s
    → d ≡ noted CopySynced (is_ok answer) [] [] [] b → OnOk answer (standing d ≡ with_copied all s)
copy_ends_ok (Ok value) all s b d whole is = ap standing is ∙ whole
copy_ends_ok (Err error) all s b d whole is = tt

pub copy_ends_err : {T E : Type 0} (answer : Result T E) (all : List ℕ) (s : Standing) (b d : FolderParts) → standing b ≡ with_copied all s
    → d ≡ noted CopySynced (is_ok answer) [] [] [] b → OnErr answer ((standing d ≡ s) ⊎ CopyBegins all s (standing d))
copy_ends_err (Ok value) all s b d whole is = tt
copy_ends_err (Err error) all s b d whole is = inr (copy_unsynced all s b d whole is)
