-- What is read of a file that waits.
use Rattle.std.proofs.Common.{◌≡◌, ℕ, List, map, Option, None, Some, All, ap, refl, sym, subst, ◌∙◌}
use Rattle.std.specs.Prelude.{filter}
use Rattle.std.specs.List.{slice_get}
use Rattle.std.specs.Option.{option_map}
use Rattle.std.proofs.lemmas.List.Elements.{All-filter}
use Rattle.std.proofs.lemmas.List.Sorted.{All-permutation}
use Rattle.std.proofs.lemmas.Option.{slice_get-map, slice_get_within, get_or_from_slice_get}
use Rattle.mailcore.specs.declared.keywords.Keyword.{Keyword}
use Rattle.mailcore.specs.Stores.{Waiting}
use Rattle.maildir.specs.declared.folder.File.{File}
use Rattle.maildir.specs.declared.folder.FileName.{FileName}
use Rattle.maildir.specs.FlaggedNames.{flags_by_name}
use Rattle.maildir.specs.Folders.{Stored, AreApart, bytes_at, name_of_file}
use Rattle.maildir.specs.Names.{is_waiting}
use Rattle.near_box.specs.declared.survey.Survey.{Survey}
use Rattle.near_box.specs.Mailboxes.{is_before, near_of, waiting_files, waiting_of, waiting_with}
use Rattle.near_box.specs.Surveys.{Surveys}
use Rattle.near_box.proofs.NearLemmas.{IsThere, files_are_there}
use Rattle.near_box.proofs.SortingLemmas.{sorted_permutes}

some_injective : (x y : List ℕ) → Some x ≡ Some y → x ≡ y
some_injective x y e = cc

some_not_none : (x : List ℕ) → Some x ≡ None → ⊥
some_not_none x e = cc

-- each file that waits stands in the folder
waiting_there : (s : Stored) → AreApart s.files → All (IsThere s) (waiting_files s.files)
waiting_there s apart =
    let waits = filter (λ file. is_waiting file.name) s.files in
    All-permutation (IsThere s) waits (waiting_files s.files) (sorted_permutes is_before waits)
    (All-filter (λ file. is_waiting file.name) (IsThere s) s.files (files_are_there s apart))

-- the file of this name waits at this place, and stands in the folder
pub record Found (keywords : List Keyword) (s : Stored) (place : ℕ) (name : FileName) : Type 0 where
  pub file : File
  pub named : name_of_file file ≡ name
  pub waits : slice_get (map (waiting_of keywords) (waiting_files s.files)) place ≡ Some (waiting_of keywords file)
  pub there : IsThere s file

found_in : (keywords : List Keyword) (s : Stored) (place : ℕ) (name : FileName) → AreApart s.files → slice_get (map name_of_file (waiting_files s.files)) place ≡ Some name → Found keywords s place name
found_in keywords s place name apart is =
    by_file (slice_get (waiting_files s.files) place) (sym (slice_get-map name_of_file (waiting_files s.files) place) ∙ is) (slice_get-map (waiting_of keywords) (waiting_files s.files) place)
    (λ file at. subst (IsThere s) (get_or_from_slice_get (waiting_files s.files) place file file at)
    (waiting_there s apart place file (slice_get_within (waiting_files s.files) place file at)))
  where
    by_file : (found : Option File) → option_map name_of_file found ≡ Some name → slice_get (map (waiting_of keywords) (waiting_files s.files)) place ≡ option_map (waiting_of keywords) found
        → ((file : File) → found ≡ Some file → IsThere s file) → Found keywords s place name
    by_file None named waits there = cc
    by_file (Some file) named waits there = record { file = file; named = cc; waits = waits; there = there file refl }

-- what is read of the file at a place among the names that a survey has, which the folder still has
module _ (old begun : Survey) (fresh : ℕ) (keywords : List Keyword) (s t : Stored) (names : List FileName) (place : ℕ) (name : FileName)
    (surveys : Surveys old fresh keywords s) (same : begun ≡ old) (own : names ≡ begun.waiting.items) (kept : t ≡ s) (at : slice_get names place ≡ Some name) where
  found : Found keywords s place name
  found = found_in keywords s place name surveys.apart
      (ap (λ (l : List FileName). slice_get l place) (sym surveys.waiting ∙ sym (ap (λ (v : Survey). v.waiting.items) same) ∙ sym own) ∙ at)

  bytes : bytes_at name.place name.name t ≡ Some found.file.bytes
  bytes = ap (λ (u : Stored). bytes_at name.place name.name u) kept
      ∙ subst (λ (n : FileName). bytes_at n.place n.name s ≡ Some found.file.bytes) found.named found.there

  pub waiting_read : (read : List ℕ) → bytes_at name.place name.name t ≡ Some read
      → slice_get (near_of fresh keywords s).waiting place ≡ Some (waiting_with read (flags_by_name keywords name.name))
  waiting_read read is =
      found.waits
      ∙ ap (λ (b : List ℕ). Some (waiting_with b (flags_by_name keywords found.file.name))) (some_injective found.file.bytes read (sym bytes ∙ is))
      ∙ ap (λ (n : FileName). Some (waiting_with read (flags_by_name keywords n.name))) found.named

  pub waiting_found : bytes_at name.place name.name t ≡ None → ⊥
  waiting_found none = some_not_none found.file.bytes (sym bytes ∙ none)
