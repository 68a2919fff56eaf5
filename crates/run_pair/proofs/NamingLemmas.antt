-- The state that a plan makes which names nothing more of the near mailbox.
use Rattle.std.proofs.Common.{◌≡◌, ◌∙◌, ◌++◌, ℕ, true, List, [], ◌∷◌, map, filter, None, ap, refl, subst, append-nil}
use Rattle.std.specs.Prelude.{if◌then◌else◌, not}
use Rattle.std.specs.List.{list_any}
use Rattle.std.specs.List.Sorted.{IsPermutation}
use Rattle.mailcore.specs.declared.side.Direction.TheVariants.{Pull, Push}
use Rattle.rules.specs.declared.entry.Entry.{Entry}
use Rattle.rules.specs.declared.plan.Note.{Note}
use Rattle.rules.specs.declared.plan.Step.{Step}
use Rattle.rules.specs.declared.state.SyncState.{SyncState}
use Rattle.rules.specs.Entries.{has_a_side}
use Rattle.sync_state.specs.declared.journal.Journal.{Journal}
use Rattle.book.specs.Committed.{Commits, drops, entries_of_copies, is_gone, kept_entries, recorded}
use Rattle.run_pair.specs.Naming.{NamesNothing, is_named}

-- the entries after a plan of these steps and notes
abbrev changed : List Step → List Note → List Entry → List Entry
changed steps notes entries =
    map (λ (e : Entry). record {
      far = if is_gone steps Pull e then None else e.far;
      near = if is_gone steps Push e then None else e.near;
      flags = recorded e notes;
    }) (filter (λ (e : Entry). not (list_any (drops e) notes)) entries)

unchanged : (entries : List Entry) → changed [] [] entries ≡ entries
unchanged [] = refl
unchanged (e ∷ entries) = ap (λ (l : List Entry). e ∷ l) (unchanged entries)

kept_all : (j : Journal) (entries : List Entry) → j.plan.steps ≡ [] → j.plan.notes ≡ [] → kept_entries j entries ≡ filter has_a_side entries
kept_all j entries steps notes =
    ap (filter has_a_side) (ap (λ (l : List Step). changed l j.plan.notes entries) steps ∙ ap (λ (l : List Note). changed [] l entries) notes ∙ unchanged entries)

pub same_entries : (j : Journal) (old new : SyncState) → NamesNothing old j.plan → Commits j old new → IsPermutation (filter has_a_side old.entries) new.entries
same_entries j old new none made =
    subst (λ (l : List Entry). IsPermutation l new.entries)
    (ap (λ (l : List Step). kept_entries j old.entries ++ entries_of_copies l j.log) none.steps ∙ append-nil (kept_entries j old.entries) ∙ kept_all j old.entries none.steps none.notes)
    made.entries

pub same_validity : (j : Journal) (old new : SyncState) → NamesNothing old j.plan → Commits j old new → new.near_validity ≡ old.near_validity
same_validity j old new none made = made.near_validity ∙ none.validity

pub named_highest : (j : Journal) (old new : SyncState) → NamesNothing old j.plan → Commits j old new → is_named new.max_pushed old ≡ true
named_highest j old new none made = ap (λ (uid : ℕ). is_named uid old) made.max_pushed ∙ none.highest
