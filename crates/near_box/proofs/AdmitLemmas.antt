-- Waiting files get their UIDs one after another.
use Rattle.std.proofs.Common.{◌≡◌, ℕ, zero, suc, ◌+◌, ◌<◌, ◌⊎◌, List, [], ◌∷◌, ◌++◌, length, get_or, take, sym, ap, ◌∙◌, inl, inr, add-one, append_assoc, arith}
use Rattle.maildir.specs.declared.folder.FileName.{FileName}
use Rattle.maildir.specs.declared.meta.Meta.{Meta}
use Rattle.near_box.specs.declared.survey.SurveyEntry.{SurveyEntry}
use Rattle.maildir.specs.Folders.{Stored, renamed_file}
use Rattle.near_box.specs.Surveys.{entries_from, entry_at}
use Rattle.near_box.specs.NearEffects.{admitted, admitted_all, set_aside_all, Admitting}

by_place : (files : List FileName) (i uid n : ℕ) (s : Stored) (file : FileName) → i < length files → file ≡ get_or files i file → n ≡ uid + i
    → admitted_all (take (suc i) files) uid s ≡ renamed_file file (admitted file n) (admitted_all (take i files) uid s)
by_place [] i uid n s file below is number = absurd (omega arith)
by_place (x ∷ files) zero uid n s file below is number =
    let same : uid ≡ n = omega arith in
    ap (λ (f : FileName). renamed_file f (admitted f uid) s) (sym is) ∙ ap (λ (k : ℕ). renamed_file file (admitted file k) s) same
by_place (x ∷ files) (suc i) uid n s file below is number =
    by_place files i (uid + 1) n (renamed_file x (admitted x uid) s) file (omega arith) is (omega arith)

pub admitted_more : (files : List FileName) (i uid n : ℕ) (s : Stored) (file : FileName) → i < length files → file ≡ get_or files i file → n ≡ uid + i
    → admitted_all (take (i + 1) files) uid s ≡ renamed_file file (admitted file n) (admitted_all (take i files) uid s)
admitted_more files i uid n s file below is number = rw (add-one i) (by_place files i uid n s file below is number)

-- a file was not renamed, or was, when the call failed
pub admitting : (waiting : List FileName) (meta : Meta) (s before after : Stored) (i n : ℕ) (file : FileName) → i < length waiting → file ≡ get_or waiting i file → n ≡ meta.next + i
    → before ≡ admitted_all (take i waiting) meta.next (set_aside_all waiting meta s)
    → (after ≡ before) ⊎ ((after ≡ renamed_file file (admitted file n) before) ⊎ ⊥) → (after ≡ s) ⊎ Admitting waiting meta s after
admitting waiting meta s before after i n file below is number so_far (inl same) = inr (record { count = i; now = same ∙ so_far })
admitting waiting meta s before after i n file below is number so_far (inr (inl more)) =
    inr (record {
      count = i + 1;
      now = more ∙ ap (λ (t : Stored). renamed_file file (admitted file n) t) so_far ∙ sym (admitted_more waiting i meta.next n (set_aside_all waiting meta s) file below is number);
    })
admitting waiting meta s before after i n file below is number so_far (inr (inr never)) = absurd never

-- the survey has them as messages
entries_more : (files : List FileName) (i uid n : ℕ) (file : FileName) → i < length files → file ≡ get_or files i file → n ≡ uid + i
    → entries_from uid (take (i + 1) files) ≡ entries_from uid (take i files) ++ entry_at n (admitted file n) ∷ []
entries_more files i uid n file below is number = rw (add-one i) (by_index files i uid below is number)
  where
    by_index : (files : List FileName) (i uid : ℕ) → i < length files → file ≡ get_or files i file → n ≡ uid + i
        → entries_from uid (take (suc i) files) ≡ entries_from uid (take i files) ++ entry_at n (admitted file n) ∷ []
    by_index [] i uid below is number = absurd (omega arith)
    by_index (x ∷ files) zero uid below is number =
        let same : uid ≡ n = omega arith in
        ap (λ (f : FileName). let l : List SurveyEntry = entry_at uid (admitted f uid) ∷ [] in l) (sym is) ∙ ap (λ (k : ℕ). let l : List SurveyEntry = entry_at k (admitted file k) ∷ [] in l) same
    by_index (x ∷ files) (suc i) uid below is number =
        ap (λ (es : List SurveyEntry). entry_at uid (admitted x uid) ∷ es) (by_index files i (uid + 1) (omega arith) is (omega arith))

pub entries_so_far : (old before after : List SurveyEntry) (files : List FileName) (i uid n : ℕ) (file : FileName) → i < length files → file ≡ get_or files i file → n ≡ uid + i
    → before ≡ old ++ entries_from uid (take i files) → after ≡ before ++ entry_at n (admitted file n) ∷ [] → after ≡ old ++ entries_from uid (take (i + 1) files)
entries_so_far old before after files i uid n file below is number so_far more =
    more ∙ ap (λ (es : List SurveyEntry). es ++ entry_at n (admitted file n) ∷ []) so_far
    ∙ append_assoc old (entries_from uid (take i files)) (entry_at n (admitted file n) ∷ [])
    ∙ ap (λ (es : List SurveyEntry). old ++ es) (sym (entries_more files i uid n file below is number))

-- and they are renamed
pub renamed_so_far : (s before after : Stored) (files : List FileName) (i uid n : ℕ) (file : FileName) → i < length files → file ≡ get_or files i file → n ≡ uid + i
    → before ≡ admitted_all (take i files) uid s → after ≡ renamed_file file (admitted file n) before → after ≡ admitted_all (take (i + 1) files) uid s
renamed_so_far s before after files i uid n file below is number so_far more =
    more ∙ ap (λ (t : Stored). renamed_file file (admitted file n) t) so_far ∙ sym (admitted_more files i uid n s file below is number)
