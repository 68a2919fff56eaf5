-- The entries of a committed state are pairs, and they have a text.
use Rattle.std.proofs.Common.{◌≡◌, ℕ, ◌+◌, ◌<◌, ◌≤◌, ◌^◌, ◌⊎◌, inl, inr, Bool, true, false, not, ◌==◌, cond, ltb, List, [], ◌∷◌, ◌++◌, length, get_or, map, Option, Some, None, refl, sym, ap, ◌∙◌, subst, arith}
use Rattle.std.specs.Prelude.{All, AllPairs, filter}
use Rattle.std.specs.List.{list_any, list_all, prefix_len, position_or_len}
use Rattle.std.specs.List.Sorted.{IsPermutation}
use Rattle.std.specs.Option.{is_some, option_map, unwrap_or}
use Rattle.std.proofs.lemmas.Bool.{true≢false, false≢true, and_parts, or_parts, or_cases, not-true, ltb-false, eqb-true, eqb-false, cond_both}
use Rattle.std.proofs.lemmas.List.Folds.{list_all-append}
use Rattle.std.proofs.lemmas.List.Elements.{All-nil, All-cons, All-head, All-tail, All-append, All-weaker, All-map, All-filter, filter_passes}
use Rattle.std.proofs.lemmas.List.Kept.{AllPairs-filter}
use Rattle.std.proofs.lemmas.List.Sorted.{All-permutation}
use Rattle.mailcore.specs.FlagSet.{FLAGS}
use Rattle.mailcore.specs.declared.side.Side.{Side}
use Rattle.mailcore.specs.declared.side.Side.TheVariants.{Far, Near}
use Rattle.mailcore.specs.declared.side.Direction.TheVariants.{Pull, Push}
use Rattle.rules.specs.declared.entry.Entry.{Entry}
use Rattle.rules.specs.declared.plan.Step.{Step}
use Rattle.rules.specs.declared.plan.Step.TheVariants as step
use Rattle.rules.specs.declared.plan.Note.{Note}
use Rattle.rules.specs.declared.plan.Note.TheVariants as note
use Rattle.rules.specs.Entries.{ArePairs, uid_of, has_a_side}
use Rattle.sync_state.specs.declared.journal.Logged.{Logged}
use Rattle.sync_state.specs.declared.journal.Logged.TheVariants.{Copied, Done, Void}
use Rattle.sync_state.specs.declared.journal.Journal.{Journal}
use Rattle.sync_state.specs.Words.{IsUidOrNone}
use Rattle.sync_state.specs.declared.version.Version.TheVariants.{Two}
use Rattle.sync_state.specs.StateText.{IsEntry}
use Rattle.book.specs.EntryOrders.{IsNotAfter}
use Rattle.sync_state.specs.JournalText.{HasJournal, IsStep, IsNote, FitsStep, IsLog, bottom}
use Rattle.book.specs.Agreement.{Agrees, first_line, is_pair, is_named, is_source_of, step_agrees, note_agrees, log_agrees, lines_agree}
use Rattle.book.specs.Committed.{drops, recorded, is_gone, entry_after, kept_entries, entry_of_copy, entries_of_copies}
use Rattle.book.proofs.EntryPairLemmas.{Apart, apart_moved, AllPairs-map, AllPairs-append, apart_from_pairs, ArePairs-from}
use Rattle.book.proofs.CopiedUids.{Fresh, copies_are, not_taken}

-- ---- each line agrees

all_agree : (lines : List Bool) → length lines ≤ prefix_len (λ b. not (not b)) lines → list_all (λ b. b) lines ≡ true
all_agree [] h = refl
all_agree (true ∷ lines) h = all_agree lines (omega (arith, h))
all_agree (false ∷ lines) h = absurd (omega (arith, h))

none_found : (first : ℕ) (b : Bool) (n : ℕ) → option_map (λ i. i + first) (cond b (Some n) None) ≡ None → b ≡ false
none_found first false n h = refl
none_found first true n h = absurd (true≢false (ap is_some h))

pub record LinesAgree (entries : List Entry) (j : Journal) : Type 0 where
  pub steps : list_all (λ b. b) (map (step_agrees entries) j.plan.steps) ≡ true
  pub log : list_all (λ b. b) (log_agrees entries j.plan.steps [] j.plan.steps j.log) ≡ true

pub lines_of_agreed : (entries : List Entry) (j : Journal) → Agrees entries j → LinesAgree entries j
lines_of_agreed entries j h =
    let lines = lines_agree entries j in
    let steps = map (step_agrees entries) j.plan.steps in
    let notes = map (note_agrees entries) j.plan.notes in
    let log = log_agrees entries j.plan.steps [] j.plan.steps j.log in
    let all = all_agree lines (ltb-false (position_or_len not lines) (length lines) (none_found (first_line j) (ltb (position_or_len not lines) (length lines)) (position_or_len not lines) h)) in
    let first = and_parts (list_all (λ b. b) steps) (list_all (λ b. b) (notes ++ true ∷ log)) (sym (list_all-append (λ (b : Bool). b) steps (notes ++ true ∷ log)) ∙ all) in
    let second = and_parts (list_all (λ b. b) notes) (list_all (λ b. b) (true ∷ log)) (sym (list_all-append (λ (b : Bool). b) notes (true ∷ log)) ∙ first.1) in
    record { steps = first.0; log = second.1 }

-- ---- old entries and copies

source_unnamed : (entries : List Entry) (side : Side) (uid : ℕ) (s : Step) → step_agrees entries s ≡ true → is_source_of side uid s ≡ true → is_named entries side uid ≡ false
source_unnamed entries Far uid (step.New Pull u flags mark) agrees h = subst (λ (n : ℕ). is_named entries Far n ≡ false) (eqb-true u uid h) (not-true (is_named entries Far u) agrees)
source_unnamed entries Far uid (step.New Push u flags mark) agrees h = absurd (false≢true h)
source_unnamed entries Near uid (step.New Pull u flags mark) agrees h = absurd (false≢true h)
source_unnamed entries Near uid (step.New Push u flags mark) agrees h = subst (λ (n : ℕ). is_named entries Near n ≡ false) (eqb-true u uid h) (not-true (is_named entries Near u) agrees)
source_unnamed entries side uid (step.Gone d far near) agrees h = absurd (false≢true h)
source_unnamed entries side uid (step.Flags d far near set cleared) agrees h = absurd (false≢true h)
source_unnamed entries side uid (step.Expunge s u) agrees h = absurd (false≢true h)

sources_unnamed : (entries : List Entry) (side : Side) (uid : ℕ) (steps : List Step) → list_all (λ b. b) (map (step_agrees entries) steps) ≡ true
    → list_any (is_source_of side uid) steps ≡ true → is_named entries side uid ≡ false
sources_unnamed entries side uid [] agrees h = absurd (false≢true h)
sources_unnamed entries side uid (s ∷ steps) agrees h =
    let a = and_parts (step_agrees entries s) (list_all (λ b. b) (map (step_agrees entries) steps)) agrees in
    elim (or_cases (is_source_of side uid s) (list_any (is_source_of side uid) steps) h) [
      | inl here ↦ source_unnamed entries side uid s a.0 here
      | inr later ↦ sources_unnamed entries side uid steps a.1 later
    ]

-- no old entry names a UID of this entry
abbrev pub IsUnnamed : List Entry → Side → Entry → Type 0
IsUnnamed entries side x = All (λ e. uid_of side e ≡ uid_of side x → ⊥) entries

unnamed : (entries : List Entry) (side : Side) (x : Entry) → is_named entries side (uid_of side x) ≡ false → IsUnnamed entries side x
unnamed [] side x h = All-nil (λ e. uid_of side e ≡ uid_of side x → ⊥)
unnamed (e ∷ entries) side x h =
    let u = or_parts (uid_of side e == uid_of side x) (is_named entries side (uid_of side x)) h in
    All-cons (λ e. uid_of side e ≡ uid_of side x → ⊥) e entries (eqb-false (uid_of side e) (uid_of side x) u.0) (unnamed entries side x u.1)

pub fresh_unnamed : (entries : List Entry) (steps : List Step) (x : Entry) → list_all (λ b. b) (map (step_agrees entries) steps) ≡ true → Fresh entries steps [] steps x
    → (side : Side) → IsUnnamed entries side x
fresh_unnamed entries steps x agrees fresh side = unnamed entries side x (elim (fresh side) [
  | inl planned ↦ sources_unnamed entries side (uid_of side x) steps agrees planned
  | inr free ↦ (not_taken entries steps [] side (uid_of side x) free).named
])

-- ---- kept entries

same_or_none : (b : Bool) (x : Option ℕ) → (unwrap_or (cond b None x) 0 ≡ unwrap_or x 0) ⊎ (unwrap_or (cond b None x) 0 ≡ 0)
same_or_none true x = inr refl
same_or_none false x = inl refl

uid_after : (j : Journal) (side : Side) (e : Entry) → (uid_of side (entry_after j e) ≡ uid_of side e) ⊎ (uid_of side (entry_after j e) ≡ 0)
uid_after j Far e = same_or_none (is_gone j.plan.steps Pull e) e.far
uid_after j Near e = same_or_none (is_gone j.plan.steps Push e) e.near

pub apart_numbers : (m n a b : ℕ) → (m ≡ n → m ≡ 0) → (a ≡ m) ⊎ (a ≡ 0) → (b ≡ n) ⊎ (b ≡ 0) → a ≡ b → a ≡ 0
apart_numbers m n a b h (inr none) right e = none
apart_numbers m n a b h left (inr none) e = e ∙ none
apart_numbers m n a b h (inl x) (inl y) e = x ∙ h (sym x ∙ e ∙ y)

apart_after : (j : Journal) (side : Side) (a b : Entry) → Apart side a b → Apart side (entry_after j a) (entry_after j b)
apart_after j side a b h = apart_numbers (uid_of side a) (uid_of side b) (uid_of side (entry_after j a)) (uid_of side (entry_after j b)) h (uid_after j side a) (uid_after j side b)

kept_apart : (j : Journal) (side : Side) (es : List Entry) → AllPairs (Apart side) es → AllPairs (Apart side) (kept_entries j es)
kept_apart j side es h =
    let stay : Entry → Bool = λ e. not (list_any (drops e) j.plan.notes) in
    AllPairs-filter (Apart side) has_a_side (map (entry_after j) (filter stay es))
    (AllPairs-map (Apart side) (entry_after j) (apart_after j side) (filter stay es) (AllPairs-filter (Apart side) stay es h))

-- what holds of each old entry as it is from now on holds of each kept one
kept_all : (P : Entry → Type 0) (j : Journal) (es : List Entry) → All (λ e. P (entry_after j e)) es → All P (kept_entries j es)
kept_all P j es h =
    let stay : Entry → Bool = λ e. not (list_any (drops e) j.plan.notes) in
    All-filter has_a_side P (map (entry_after j) (filter stay es))
    (All-map P (entry_after j) (filter stay es) (All-filter stay (λ e. P (entry_after j e)) es h))

kept_and_copies : (j : Journal) (side : Side) (es copies : List Entry) → All (IsUnnamed es side) copies → All (λ k. All (Apart side k) copies) (kept_entries j es)
kept_and_copies j side es copies h = kept_all (λ k. All (Apart side k) copies) j es (λ i d within m x below same.
    elim (uid_after j side (get_or es i d)) [
      | inl as_before ↦ absurd (h m x below i d within (sym as_before ∙ same))
      | inr none ↦ none
    ])

-- ---- ranges

side_fits : (b : Bool) (x : Option ℕ) → IsUidOrNone x → IsUidOrNone (cond b None x)
side_fits true x h = tt
side_fits false x h = h

recorded_fits : (e : Entry) (notes : List Note) → All IsNote notes → e.flags < 2 ^ FLAGS → recorded e notes < 2 ^ FLAGS
recorded_fits e [] h own = own
recorded_fits e (note.Record far near flags ∷ notes) h own =
    cond_both (is_pair (Some far) (Some near) e) flags (recorded e notes) (λ (n : ℕ). n < 2 ^ FLAGS)
    (λ _. (All-head IsNote (note.Record far near flags) notes h).2) (λ _. recorded_fits e notes (All-tail IsNote (note.Record far near flags) notes h) own)
recorded_fits e (note.Drop far near ∷ notes) h own = recorded_fits e notes (All-tail IsNote (note.Drop far near) notes h) own

after_fits : (j : Journal) (e : Entry) → All IsNote j.plan.notes → IsEntry Two e → IsEntry Two (entry_after j e)
after_fits j e notes fits = record {
  far = side_fits (is_gone j.plan.steps Pull e) e.far fits.far;
  near = side_fits (is_gone j.plan.steps Push e) e.near fits.near;
  flags = recorded_fits e j.plan.notes notes fits.flags;
}

pub record IsWhole (e : Entry) : Type 0 where
  pub fits : IsEntry Two e
  pub some : has_a_side e ≡ true

copy_whole : (s : Step) (logged : Logged) → IsStep s → FitsStep s logged → All IsWhole (entry_of_copy s logged)
copy_whole (step.New Pull uid flags mark) (Copied copy) h f =
    All-cons IsWhole _ [] (record { fits = record { far = h.0; near = f; flags = h.1 }; some = refl }) (All-nil IsWhole)
copy_whole (step.New Push uid flags mark) (Copied copy) h f =
    All-cons IsWhole _ [] (record { fits = record { far = f; near = h.0; flags = h.1 }; some = refl }) (All-nil IsWhole)
copy_whole (step.New Pull uid flags mark) Done h f = All-nil IsWhole
copy_whole (step.New Pull uid flags mark) Void h f = All-nil IsWhole
copy_whole (step.New Push uid flags mark) Done h f = All-nil IsWhole
copy_whole (step.New Push uid flags mark) Void h f = All-nil IsWhole
copy_whole (step.Gone d far near) logged h f = All-nil IsWhole
copy_whole (step.Flags d far near set cleared) logged h f = All-nil IsWhole
copy_whole (step.Expunge side uid) logged h f = All-nil IsWhole

pub copies_whole : (steps : List Step) (log : List Logged) → All IsStep steps → IsLog steps log → All IsWhole (entries_of_copies steps log)
copies_whole [] log h f = All-nil IsWhole
copies_whole (s ∷ steps) [] h f = All-nil IsWhole
copies_whole (s ∷ steps) (logged ∷ log) h f =
    All-append IsWhole (entry_of_copy s logged) (entries_of_copies steps log) (copy_whole s logged (All-head IsStep s steps h) f.0)
    (copies_whole steps log (All-tail IsStep s steps h) f.1)

kept_whole : (j : Journal) (es : List Entry) → All IsNote j.plan.notes → All (IsEntry Two) es → All IsWhole (kept_entries j es)
kept_whole j es notes fits =
    let kept = kept_entries j es in
    let ranges : All (IsEntry Two) kept = kept_all (IsEntry Two) j es (All-weaker (IsEntry Two) (λ e. IsEntry Two (entry_after j e)) (λ e f. after_fits j e notes f) es fits) in
    let stay : Entry → Bool = λ e. not (list_any (drops e) j.plan.notes) in
    let sides : All (λ e. has_a_side e ≡ true) kept = filter_passes has_a_side (map (entry_after j) (filter stay es)) in
    λ i d within. let w : IsWhole (get_or kept i d) = record { fits = ranges i d within; some = sides i d within } in w

-- ---- the committed entries

-- they have a text
pub record AreCommitted (es : List Entry) : Type 0 where
  pub fits : All (IsEntry Two) es
  pub pairs : ArePairs es

pub committed_pairs : (j : Journal) (old new : List Entry) → HasJournal j → ArePairs old → All (IsEntry Two) old → Agrees old j
    → IsPermutation (kept_entries j old ++ entries_of_copies j.plan.steps j.log) new → AllPairs IsNotAfter new → AreCommitted new
committed_pairs j old new journal pairs fits agrees moves order =
    let lines = lines_of_agreed old j agrees in
    let kept = kept_entries j old in
    let copies = entries_of_copies j.plan.steps j.log in
    let are = copies_are old j.plan.steps [] bottom j.plan.steps j.log journal.plan.steps_rise (λ side uid t. t) lines.log in
    let apart : (side : Side) → AllPairs (Apart side) new = λ side. apart_moved side (kept ++ copies) new moves
    (AllPairs-append (Apart side) kept copies (kept_apart j side old (apart_from_pairs side old pairs)) (are.apart side)
    (kept_and_copies j side old copies (All-weaker (Fresh old j.plan.steps [] j.plan.steps) (IsUnnamed old side) (λ x f. fresh_unnamed old j.plan.steps x lines.steps f side) copies are.fresh))) in
    let whole : All IsWhole new = All-permutation IsWhole (kept ++ copies) new moves
    (All-append IsWhole kept copies (kept_whole j old journal.plan.notes fits) (copies_whole j.plan.steps j.log journal.plan.steps journal.log)) in
    let ranges : All (IsEntry Two) new = All-weaker IsWhole (IsEntry Two) (λ e w. w.fits) new whole in
    let sides : All (λ e. has_a_side e ≡ true) new = All-weaker IsWhole (λ e. has_a_side e ≡ true) (λ e w. w.some) new whole in
    record { fits = ranges; pairs = ArePairs-from new ranges sides apart order }
