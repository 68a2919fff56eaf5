-- From what calls do to the files of a folder to what they do to the shelf there.
use Rattle.std.proofs.Common.{◌≡◌, ◌∙◌, ◌+◌, ◌++◌, ◌<◌, ◌≤◌, ℕ, true, false, List, [], length, take, Option, Some, None, Result, Ok, Err, refl, sym, ap, inl, inr, subst, arith}
use Rattle.std.specs.Prelude.{◌⊎◌, is_ok, IfOk, OnOk, OnErr}
use Rattle.device.specs.Calls.{Call, Effect, Leaves, Nobody, Nothing}
use Rattle.device.specs.declared.DeviceFault.{DeviceFault}
use Rattle.device.specs.FileEvents.{FileEvent, IsHonest, World, files_after}
use Rattle.device.specs.OwnFiles.{FilesParts, held, KeptWord, Touches, Same, Either, NoFile, HoldsAt, HoldsOrNot, Grew, GrewPart, GrewOrNot}
use Rattle.device.proofs.Reporting.{Reported}
use Rattle.device.proofs.Reporting as Reporting
use Rattle.book.specs.declared.disk_shelf.TheConstants.{STATE, JOURNAL, NEXT}
use Rattle.book.specs.declared.shelf.ShelfFile.{ShelfFile}
use Rattle.book.specs.declared.shelf.ShelfFile.TheVariants.{State, Journal}
use Rattle.book.specs.Shelves.{Files, Puts, Appends, AppendsPart, file_at, with_file}
use Rattle.book.specs.DiskShelves.{file_name, files_on, seen_on_disk}

-- ---- names

state_is_not_journal : STATE.now ≡ JOURNAL.now → ⊥
state_is_not_journal e = let lengths : 12 ≡ 20 = ap (λ (l : List ℕ). length l) e in absurd (omega (arith, lengths))

state_is_not_next : STATE.now ≡ NEXT.now → ⊥
state_is_not_next e = let lengths : 12 ≡ 16 = ap (λ (l : List ℕ). length l) e in absurd (omega (arith, lengths))

journal_is_not_next : JOURNAL.now ≡ NEXT.now → ⊥
journal_is_not_next e = let lengths : 20 ≡ 16 = ap (λ (l : List ℕ). length l) e in absurd (omega (arith, lengths))

pub is_not_next : (file : ShelfFile) → file_name file ≡ NEXT.now → ⊥
is_not_next State = state_is_not_next
is_not_next Journal = journal_is_not_next

-- ---- files

pub file_on : (file : ShelfFile) (f : FilesParts) → file_at file (files_on f) ≡ held f (file_name file)
file_on State f = refl
file_on Journal f = refl

abbrev files : Option (List ℕ) → Option (List ℕ) → Files
files s j = record { state = s; journal = j }

alike : (s t j k : Option (List ℕ)) → s ≡ t → j ≡ k → files s j ≡ files t k
alike s t j k e d = ap (λ (x : Option (List ℕ)). files x j) e ∙ ap (λ (x : Option (List ℕ)). files t x) d

-- the calls touched no file
pub untouched : (a b : FilesParts) → Touches NoFile a b → files_on b ≡ files_on a
untouched a b t = alike _ _ _ _ (t.others STATE.now (λ none. none)) (t.others JOURNAL.now (λ none. none))

other : ShelfFile → ShelfFile
other State = Journal
other Journal = State

not_the_other : (file : ShelfFile) → Same (file_name file) (file_name (other file)) → ⊥
unfolding other
not_the_other State e = state_is_not_journal (sym e)
not_the_other Journal e = state_is_not_journal e

not_the_others : (file : ShelfFile) → Either (file_name file) NEXT.now (file_name (other file)) → ⊥
unfolding other
not_the_others State (inl e) = state_is_not_journal (sym e)
not_the_others State (inr e) = journal_is_not_next e
not_the_others Journal (inl e) = state_is_not_journal e
not_the_others Journal (inr e) = state_is_not_next e

put_on : (P : List ℕ → Type 0) (file : ShelfFile) (bytes : Option (List ℕ)) (a b : FilesParts) → Touches P a b → (P (file_name (other file)) → ⊥)
    → held b (file_name file) ≡ bytes → Puts file bytes (files_on a) (files_on b)
unfolding other
put_on P State bytes a b t none is = alike _ _ _ _ is (t.others JOURNAL.now none)
put_on P Journal bytes a b t none is = alike _ _ _ _ (t.others STATE.now none) is

stays_on : (P : List ℕ → Type 0) (file : ShelfFile) (a b : FilesParts) → Touches P a b → (P (file_name (other file)) → ⊥)
    → held b (file_name file) ≡ held a (file_name file) → files_on b ≡ files_on a
unfolding other
stays_on P State a b t none is = alike _ _ _ _ is (t.others JOURNAL.now none)
stays_on P Journal a b t none is = alike _ _ _ _ (t.others STATE.now none) is

-- ---- what the calls of a shelf do

pub replaced : (file : ShelfFile) (bytes : List ℕ) (a b : FilesParts) → Touches (Either (file_name file) NEXT.now) a b → HoldsAt (file_name file) (Some bytes) b
    → Puts file (Some bytes) (files_on a) (files_on b)
replaced file bytes a b t is = put_on (Either (file_name file) NEXT.now) file (Some bytes) a b t (not_the_others file) is

pub replaced_or_not : (file : ShelfFile) (bytes : List ℕ) (a b : FilesParts) → Touches (Either (file_name file) NEXT.now) a b
    → HoldsOrNot (file_name file) (Some bytes) a b → Leaves (Puts file (Some bytes)) Nothing (files_on a) (files_on b)
replaced_or_not file bytes a b t (inl stays) = inl (stays_on (Either (file_name file) NEXT.now) file a b t (not_the_others file) stays)
replaced_or_not file bytes a b t (inr is) = inr (inl (replaced file bytes a b t is))

pub removed : (file : ShelfFile) (a b : FilesParts) → Touches (Same (file_name file)) a b → HoldsAt (file_name file) None b → Puts file None (files_on a) (files_on b)
removed file a b t is = put_on (Same (file_name file)) file None a b t (not_the_other file) is

pub removed_or_not : (file : ShelfFile) (a b : FilesParts) → Touches (Same (file_name file)) a b → HoldsOrNot (file_name file) None a b
    → Leaves (Puts file None) Nothing (files_on a) (files_on b)
removed_or_not file a b t (inl stays) = inl (stays_on (Same (file_name file)) file a b t (not_the_other file) stays)
removed_or_not file a b t (inr is) = inr (inl (removed file a b t is))

pub appended : (file : ShelfFile) (bytes : List ℕ) (a b : FilesParts) → Touches (Same (file_name file)) a b → Grew (file_name file) bytes a b
    → Appends file bytes (files_on a) (files_on b)
appended State bytes a b t is = put_on (Same (file_name State)) State _ a b t (not_the_other State) is
appended Journal bytes a b t is = put_on (Same (file_name Journal)) Journal _ a b t (not_the_other Journal) is

pub appended_or_not : (file : ShelfFile) (bytes : List ℕ) (a b : FilesParts) → Touches (Same (file_name file)) a b → GrewOrNot (file_name file) bytes a b
    → Leaves (Appends file bytes) (AppendsPart file bytes) (files_on a) (files_on b)
appended_or_not file bytes a b t (inl stays) = inl (stays_on (Same (file_name file)) file a b t (not_the_other file) stays)
appended_or_not file bytes a b t (inr g) =
    inr (inr (record { count = g.count; within = g.within; part = appended file (take g.count bytes) a b t g.part }))

-- ---- a call of a shelf, which made calls of the system and reports the answer of the last

-- what the files of the shelf hold after calls
abbrev says : World → List FileEvent → Files
says world events = files (files_after world events STATE.now) (files_after world events JOURNAL.now)

called : {E : Type 0} (does part : Effect Files) (a b d : FilesParts) (answer : Result (Unit {0}) E) (result : Result (Unit {0}) DeviceFault)
    → a.disk.condition.is_broken ≡ false → b.disk ≡ a.disk → IfOk answer (λ _. KeptWord b → does (files_on a) (files_on b))
    → OnErr answer (KeptWord b → Leaves does part (files_on a) (files_on b)) → Reported answer result b d
    → Call (KeptWord d) does part (seen_on_disk a) (seen_on_disk d) result
called does part a b d answer result whole disk ok err reported =
    Reporting.called IsHonest says Nobody (λ _. does) (Leaves does part) a b d answer result whole disk ok err reported

pub replace_called : {E : Type 0} (file : ShelfFile) (name bytes : List ℕ) (a b d : FilesParts) (answer : Result (Unit {0}) E) (result : Result (Unit {0}) DeviceFault)
    → name ≡ file_name file → a.disk.condition.is_broken ≡ false → Touches (Either name NEXT.now) a b
    → OnOk answer (KeptWord b → HoldsAt name (Some bytes) b) → OnErr answer (KeptWord b → HoldsOrNot name (Some bytes) a b) → Reported answer result b d
    → Call (KeptWord d) (Puts file (Some bytes)) Nothing (seen_on_disk a) (seen_on_disk d) result
replace_called file name bytes a b d (Ok x) result is whole t ok err reported =
    let P : List ℕ → Type 0 = λ n. Touches (Either n NEXT.now) a b in
    let Q : List ℕ → Type 0 = λ n. HoldsAt n (Some bytes) b in
    called (Puts file (Some bytes)) Nothing a b d (Ok x) result whole t.disk (λ k. replaced file bytes a b (subst P is t) (subst Q is (ok k))) tt reported
replace_called file name bytes a b d (Err e) result is whole t ok err reported =
    let P : List ℕ → Type 0 = λ n. Touches (Either n NEXT.now) a b in
    let Q : List ℕ → Type 0 = λ n. HoldsOrNot n (Some bytes) a b in
    called (Puts file (Some bytes)) Nothing a b d (Err e) result whole t.disk tt (λ k. replaced_or_not file bytes a b (subst P is t) (subst Q is (err k))) reported

pub remove_called : {E : Type 0} (file : ShelfFile) (name : List ℕ) (a b d : FilesParts) (answer : Result (Unit {0}) E) (result : Result (Unit {0}) DeviceFault)
    → name ≡ file_name file → a.disk.condition.is_broken ≡ false → Touches (Same name) a b
    → OnOk answer (KeptWord b → HoldsAt name None b) → OnErr answer (HoldsOrNot name None a b) → Reported answer result b d
    → Call (KeptWord d) (Puts file None) Nothing (seen_on_disk a) (seen_on_disk d) result
remove_called file name a b d (Ok x) result is whole t ok err reported =
    let P : List ℕ → Type 0 = λ n. Touches (Same n) a b in
    let Q : List ℕ → Type 0 = λ n. HoldsAt n None b in
    called (Puts file None) Nothing a b d (Ok x) result whole t.disk (λ k. removed file a b (subst P is t) (subst Q is (ok k))) tt reported
remove_called file name a b d (Err e) result is whole t ok err reported =
    let P : List ℕ → Type 0 = λ n. Touches (Same n) a b in
    let Q : List ℕ → Type 0 = λ n. HoldsOrNot n None a b in
    called (Puts file None) Nothing a b d (Err e) result whole t.disk tt (λ k. removed_or_not file a b (subst P is t) (subst Q is err)) reported

pub append_called : {E : Type 0} (file : ShelfFile) (name bytes : List ℕ) (a b d : FilesParts) (answer : Result (Unit {0}) E) (result : Result (Unit {0}) DeviceFault)
    → name ≡ file_name file → a.disk.condition.is_broken ≡ false → Touches (Same name) a b
    → OnOk answer (Grew name bytes a b) → OnErr answer (GrewOrNot name bytes a b) → Reported answer result b d
    → Call (KeptWord d) (Appends file bytes) (AppendsPart file bytes) (seen_on_disk a) (seen_on_disk d) result
append_called file name bytes a b d (Ok x) result is whole t ok err reported =
    let P : List ℕ → Type 0 = λ n. Touches (Same n) a b in
    let Q : List ℕ → Type 0 = λ n. Grew n bytes a b in
    called (Appends file bytes) (AppendsPart file bytes) a b d (Ok x) result whole t.disk (λ k. appended file bytes a b (subst P is t) (subst Q is ok)) tt reported
append_called file name bytes a b d (Err e) result is whole t ok err reported =
    let P : List ℕ → Type 0 = λ n. Touches (Same n) a b in
    let Q : List ℕ → Type 0 = λ n. GrewOrNot n bytes a b in
    called (Appends file bytes) (AppendsPart file bytes) a b d (Err e) result whole t.disk tt (λ k. appended_or_not file bytes a b (subst P is t) (subst Q is err)) reported
