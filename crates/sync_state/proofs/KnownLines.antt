-- A step is known from its line, and a note from its own.
use Rattle.std.proofs.Common.{◌≡◌, ◌≢◌, ℕ, ◌<◌, ◌^◌, Bool, true, false, cond, List, [], ◌∷◌, ◌++◌, length, get_or, drop, refl, sym, ap, subst, ◌∙◌, arith}
use Rattle.std.specs.Prelude.{decimal, unwrap_or, ◌==◌}
use Rattle.std.proofs.lemmas.Bool.{eqb-true}
use Rattle.std.proofs.lemmas.List.{append-nil, drop_at}
use Rattle.mailcore.specs.FlagSet.{FLAGS}
use Rattle.mailcore.specs.FlagNames.{letters_of}
use Rattle.mailcore.proofs.FlagLetters.{set_from_letters}
use Rattle.rules.specs.declared.plan.Step.{Step}
use Rattle.rules.specs.declared.plan.Step.TheVariants as step
use Rattle.rules.specs.declared.plan.Note.{Note}
use Rattle.rules.specs.declared.plan.Note.TheVariants as note
use Rattle.sync_state.specs.declared.journal.Logged.{Logged}
use Rattle.sync_state.specs.declared.journal.Logged.TheVariants.{Copied, Done, Void}
use Rattle.sync_state.specs.declared.version.Version.{Version}
use Rattle.sync_state.specs.Cuts.{Lacks, SameCut, same_cut, no_cut}
use Rattle.sync_state.specs.Versions.{StepLetters, NoteLetters}
use Rattle.sync_state.specs.JournalReading.{IsStepIn, IsNoteIn}
use Rattle.mailcore.specs.Words.{flags_word, direction_word, side_word}
use Rattle.mailcore.proofs.FlagWords.{flags_word-injective}
use Rattle.sync_state.specs.WordLaws.{direction-injective, direction-lacks, side_word-injective, side_word-lacks, side-injective, side-lacks, flags-lack, letters-lack}
use Rattle.sync_state.specs.NumberLaws.{uid-injective, uid-lacks}
use Rattle.sync_state.specs.JournalText.{IsStep, IsNote, step_line, note_line, log_line, step_place, note_place, change, FitsStep, LogsNew, LogsOther}

other_kind : (x y : List ℕ) (i a b : ℕ) → get_or x i 0 ≡ a → get_or y i 0 ≡ b → a ≢ b → x ≢ y
other_kind x y i a b ia ib other e = other (sym ia ∙ ap (λ (z : List ℕ). get_or z i 0) e ∙ ib)

-- ---- flags that are set and cleared

-- nothing, or a space and more
abbrev Spaced : List ℕ → Type 0
Spaced [] = Unit {0}
Spaced (b ∷ rest) = b ≡ 32

-- a word is known from the text that it begins
word_before : (a b r q : List ℕ) → Lacks 32 a → Lacks 32 b → Spaced r → Spaced q → a ++ r ≡ b ++ q → SameCut a b r q
word_before a b [] [] la lb sr sq e = record { front = sym (append-nil a) ∙ (e ∙ append-nil b); following = refl }
word_before a b [] (y ∷ q) la lb sr sq e = absurd (no_cut 32 a b q la (sym (append-nil a) ∙ (e ∙ ap (λ (z : ℕ). b ++ z ∷ q) sq)))
word_before a b (x ∷ r) [] la lb sr sq e = absurd (no_cut 32 b a r lb (sym (append-nil b) ∙ (sym e ∙ ap (λ (z : ℕ). a ++ z ∷ r) sr)))
word_before a b (x ∷ r) (y ∷ q) la lb sr sq e =
    let c = same_cut 32 a b r q la lb (sym (ap (λ (z : ℕ). a ++ z ∷ r) sr) ∙ (e ∙ ap (λ (z : ℕ). b ++ z ∷ q) sq)) in
    record { front = c.front; following = ap (λ (z : ℕ). z ∷ r) (sr ∙ sym sq) ∙ ap (λ (z : List ℕ). y ∷ z) c.following }

change_is_spaced : (sign flags : ℕ) → Spaced (change sign flags)
change_is_spaced sign flags = elim (flags == 0) as (λ b. Spaced (cond b [] (32 ∷ sign ∷ letters_of flags))) [ true ↦ tt | false ↦ refl ]

changes_are_spaced : (set cleared : ℕ) → Spaced (change 43 set ++ change 45 cleared)
changes_are_spaced set cleared = elim (set == 0) as (λ b. Spaced (cond b [] (32 ∷ 43 ∷ letters_of set) ++ change 45 cleared)) [ true ↦ change_is_spaced 45 cleared | false ↦ refl ]

change_known : (sign a b : ℕ) → a < 2 ^ FLAGS → b < 2 ^ FLAGS → change sign a ≡ change sign b → a ≡ b
change_known sign a b fa fb e = by_tests (a == 0) (b == 0) refl refl e where
  by_tests : (x y : Bool) → (a == 0) ≡ x → (b == 0) ≡ y → cond x [] (32 ∷ sign ∷ letters_of a) ≡ cond y [] (32 ∷ sign ∷ letters_of b) → a ≡ b
  by_tests true true ia ib h = eqb-true a 0 ia ∙ sym (eqb-true b 0 ib)
  by_tests true false ia ib h = cc
  by_tests false true ia ib h = cc
  by_tests false false ia ib h = set_from_letters a b fa fb (ap (λ (z : List ℕ). drop 2 z) h)

record SameChanges (s t c d : ℕ) : Type 0 where
  set : s ≡ t
  cleared : c ≡ d

-- flags are set in one text, and none in the other
not_set : (cleared : ℕ) (letters : List ℕ) → change 45 cleared ≢ 32 ∷ 43 ∷ letters
not_set cleared letters e = by_test (cleared == 0) e where
  by_test : (b : Bool) → cond b [] (32 ∷ 45 ∷ letters_of cleared) ≡ 32 ∷ 43 ∷ letters → ⊥
  by_test true h = cc
  by_test false h = other_kind (32 ∷ 45 ∷ letters_of cleared) (32 ∷ 43 ∷ letters) 1 45 43 refl refl (λ n. absurd (omega (arith, n))) h

changes_known : (s t c d : ℕ) → s < 2 ^ FLAGS → t < 2 ^ FLAGS → c < 2 ^ FLAGS → d < 2 ^ FLAGS
    → change 43 s ++ change 45 c ≡ change 43 t ++ change 45 d → SameChanges s t c d
changes_known s t c d fs ft fc fd e = by_tests (s == 0) (t == 0) refl refl e where
  by_tests : (x y : Bool) → (s == 0) ≡ x → (t == 0) ≡ y → cond x [] (32 ∷ 43 ∷ letters_of s) ++ change 45 c ≡ cond y [] (32 ∷ 43 ∷ letters_of t) ++ change 45 d → SameChanges s t c d
  by_tests true true is it h = record { set = eqb-true s 0 is ∙ sym (eqb-true t 0 it); cleared = change_known 45 c d fc fd h }
  by_tests true false is it h = absurd (not_set c (letters_of t ++ change 45 d) h)
  by_tests false true is it h = absurd (not_set d (letters_of s ++ change 45 c) (sym h))
  by_tests false false is it h =
      let w = word_before (letters_of s) (letters_of t) (change 45 c) (change 45 d) (letters-lack 32 (omega arith) s) (letters-lack 32 (omega arith) t)
      (change_is_spaced 45 c) (change_is_spaced 45 d) (ap (λ (z : List ℕ). drop 2 z) h) in
      record { set = set_from_letters s t fs ft w.front; cleared = change_known 45 c d fc fd w.following }

-- ---- lines

pub step_known : (a b : Step) → IsStep a → IsStep b → step_line a ≡ step_line b → a ≡ b
step_known (step.New d u w m) (step.New d' u' w' m') fa fb e =
    let s = same_cut 32 (direction_word d) (direction_word d') (decimal u ++ 32 ∷ (flags_word w ++ 32 ∷ m)) (decimal u' ++ 32 ∷ (flags_word w' ++ 32 ∷ m'))
    (direction-lacks d) (direction-lacks d') (ap (λ (z : List ℕ). drop 6 z) e) in
    let t = same_cut 32 (decimal u) (decimal u') (flags_word w ++ 32 ∷ m) (flags_word w' ++ 32 ∷ m') (uid-lacks u fa.0) (uid-lacks u' fb.0) s.following in
    let v = same_cut 32 (flags_word w) (flags_word w') m m' (flags-lack w) (flags-lack w') t.following in
    let same_d = direction-injective d d' s.front in
    let same_u = uid-injective u u' fa.0 fb.0 t.front in
    let same_w = flags_word-injective w w' fa.1 fb.1 v.front in
    let same_m = v.following in cc
step_known (step.Gone d f n) (step.Gone d' f' n') fa fb e =
    let s = same_cut 32 (direction_word d) (direction_word d') (decimal f ++ 32 ∷ decimal n) (decimal f' ++ 32 ∷ decimal n')
    (direction-lacks d) (direction-lacks d') (ap (λ (z : List ℕ). drop 7 z) e) in
    let t = same_cut 32 (decimal f) (decimal f') (decimal n) (decimal n') (uid-lacks f fa.0) (uid-lacks f' fb.0) s.following in
    let same_d = direction-injective d d' s.front in
    let same_f = uid-injective f f' fa.0 fb.0 t.front in
    let same_n = uid-injective n n' fa.1 fb.1 t.following in cc
step_known (step.Flags d f n s c) (step.Flags d' f' n' s' c') fa fb e =
    let cut = same_cut 32 (direction_word d) (direction_word d') (decimal f ++ 32 ∷ (decimal n ++ (change 43 s ++ change 45 c))) (decimal f' ++ 32 ∷ (decimal n' ++ (change 43 s' ++ change 45 c')))
    (direction-lacks d) (direction-lacks d') (ap (λ (z : List ℕ). drop 8 z) e) in
    let t = same_cut 32 (decimal f) (decimal f') (decimal n ++ (change 43 s ++ change 45 c)) (decimal n' ++ (change 43 s' ++ change 45 c')) (uid-lacks f fa.0) (uid-lacks f' fb.0) cut.following in
    let v = word_before (decimal n) (decimal n') (change 43 s ++ change 45 c) (change 43 s' ++ change 45 c') (uid-lacks n fa.1) (uid-lacks n' fb.1)
    (changes_are_spaced s c) (changes_are_spaced s' c') t.following in
    let changes = changes_known s s' c c' fa.2 fb.2 fa.3 fb.3 v.following in
    let same_d = direction-injective d d' cut.front in
    let same_f = uid-injective f f' fa.0 fb.0 t.front in
    let same_n = uid-injective n n' fa.1 fb.1 v.front in
    let same_s = changes.set in
    let same_c = changes.cleared in cc
step_known (step.Expunge side u) (step.Expunge side' u') fa fb e =
    let s = same_cut 32 (side_word side) (side_word side') (decimal u) (decimal u') (side_word-lacks side) (side_word-lacks side') (ap (λ (z : List ℕ). drop 10 z) e) in
    let same_side = side_word-injective side side' s.front in
    let same_u = uid-injective u u' fa fb s.following in cc
step_known (step.New d u w m) (step.Gone d' f' n') fa fb e = absurd (other_kind _ _ 2 110 103 refl refl (λ h. absurd (omega (arith, h))) e)
step_known (step.New d u w m) (step.Flags d' f' n' s' c') fa fb e = absurd (other_kind _ _ 2 110 102 refl refl (λ h. absurd (omega (arith, h))) e)
step_known (step.New d u w m) (step.Expunge side' u') fa fb e = absurd (other_kind _ _ 2 110 101 refl refl (λ h. absurd (omega (arith, h))) e)
step_known (step.Gone d f n) (step.New d' u' w' m') fa fb e = absurd (other_kind _ _ 2 103 110 refl refl (λ h. absurd (omega (arith, h))) e)
step_known (step.Gone d f n) (step.Flags d' f' n' s' c') fa fb e = absurd (other_kind _ _ 2 103 102 refl refl (λ h. absurd (omega (arith, h))) e)
step_known (step.Gone d f n) (step.Expunge side' u') fa fb e = absurd (other_kind _ _ 2 103 101 refl refl (λ h. absurd (omega (arith, h))) e)
step_known (step.Flags d f n s c) (step.New d' u' w' m') fa fb e = absurd (other_kind _ _ 2 102 110 refl refl (λ h. absurd (omega (arith, h))) e)
step_known (step.Flags d f n s c) (step.Gone d' f' n') fa fb e = absurd (other_kind _ _ 2 102 103 refl refl (λ h. absurd (omega (arith, h))) e)
step_known (step.Flags d f n s c) (step.Expunge side' u') fa fb e = absurd (other_kind _ _ 2 102 101 refl refl (λ h. absurd (omega (arith, h))) e)
step_known (step.Expunge side u) (step.New d' u' w' m') fa fb e = absurd (other_kind _ _ 2 101 110 refl refl (λ h. absurd (omega (arith, h))) e)
step_known (step.Expunge side u) (step.Gone d' f' n') fa fb e = absurd (other_kind _ _ 2 101 103 refl refl (λ h. absurd (omega (arith, h))) e)
step_known (step.Expunge side u) (step.Flags d' f' n' s' c') fa fb e = absurd (other_kind _ _ 2 101 102 refl refl (λ h. absurd (omega (arith, h))) e)

pub note_known : (a b : Note) → IsNote a → IsNote b → note_line a ≡ note_line b → a ≡ b
note_known (note.Record f n w) (note.Record f' n' w') fa fb e =
    let s = same_cut 32 (decimal f) (decimal f') (decimal n ++ 32 ∷ flags_word w) (decimal n' ++ 32 ∷ flags_word w') (uid-lacks f fa.0) (uid-lacks f' fb.0) (ap (λ (z : List ℕ). drop 9 z) e) in
    let t = same_cut 32 (decimal n) (decimal n') (flags_word w) (flags_word w') (uid-lacks n fa.1) (uid-lacks n' fb.1) s.following in
    let same_f = uid-injective f f' fa.0 fb.0 s.front in
    let same_n = uid-injective n n' fa.1 fb.1 t.front in
    let same_w = flags_word-injective w w' fa.2 fb.2 t.following in cc
note_known (note.Drop f n) (note.Drop f' n') fa fb e =
    let s = same_cut 32 (decimal (unwrap_or f 0)) (decimal (unwrap_or f' 0)) (decimal (unwrap_or n 0)) (decimal (unwrap_or n' 0)) (side-lacks f fa.0) (side-lacks f' fb.0) (ap (λ (z : List ℕ). drop 7 z) e) in
    let same_f = side-injective f f' fa.0 fb.0 s.front in
    let same_n = side-injective n n' fa.1 fb.1 s.following in cc
note_known (note.Record f n w) (note.Drop f' n') fa fb e = absurd (other_kind _ _ 2 114 100 refl refl (λ h. absurd (omega (arith, h))) e)
note_known (note.Drop f n) (note.Record f' n' w') fa fb e = absurd (other_kind _ _ 2 100 114 refl refl (λ h. absurd (omega (arith, h))) e)

-- a line is that of one step, which has flags without a letter
pub no_step_letters : (v : Version) (s : Step) (line : List ℕ) → IsStep s → ¬ StepLetters v s → line ≡ step_line s → (a : Step) → IsStepIn v a → line ≢ step_line a
no_step_letters v s line fits none is a fa same =
    let one = step_known a s fa.0 fits (sym same ∙ is) in
    none (subst (λ (x : Step). StepLetters v x) one fa.1)

pub no_note_letters : (v : Version) (n : Note) (line : List ℕ) → IsNote n → ¬ NoteLetters v n → line ≡ note_line n → (a : Note) → IsNoteIn v a → line ≢ note_line a
no_note_letters v n line fits none is a fa same =
    let one = note_known a n fa.0 fits (sym same ∙ is) in
    none (subst (λ (x : Note). NoteLetters v x) one fa.1)

pub step_places : (a b : Step) → IsStep a → IsStep b → step_line a ≡ step_line b → step_place a ≡ step_place b
step_places a b fa fb e = ap step_place (step_known a b fa fb e)

pub note_places : (a b : Note) → IsNote a → IsNote b → note_line a ≡ note_line b → note_place a ≡ note_place b
note_places a b fa fb e = ap note_place (note_known a b fa fb e)

-- ---- the log

new_logged_known : (number : ℕ) (a b : Logged) → LogsNew a → LogsNew b → log_line number a ≡ log_line number b → a ≡ b
new_logged_known number (Copied u) (Copied v) fa fb e =
    let following : decimal number ++ 32 ∷ decimal u ≡ decimal number ++ 32 ∷ decimal v = ap (λ (z : List ℕ). drop 2 z) e in
    let same : decimal u ≡ decimal v = ap (λ (z : List ℕ). drop 1 z)
    (sym (drop_at (decimal number) (32 ∷ decimal u) (length (decimal number)) refl) ∙ (ap (λ (z : List ℕ). drop (length (decimal number)) z) following
    ∙ drop_at (decimal number) (32 ∷ decimal v) (length (decimal number)) refl)) in
    ap (λ (x : ℕ). Copied x) (uid-injective u v fa fb same)
new_logged_known number (Copied u) Done fa fb e = absurd fb
new_logged_known number (Copied u) Void fa fb e = absurd (other_kind _ _ 0 100 118 refl refl (λ h. absurd (omega (arith, h))) e)
new_logged_known number Done b fa fb e = absurd fa
new_logged_known number Void (Copied v) fa fb e = absurd (other_kind _ _ 0 118 100 refl refl (λ h. absurd (omega (arith, h))) e)
new_logged_known number Void Done fa fb e = absurd fb
new_logged_known number Void Void fa fb e = refl

other_logged_known : (a b : Logged) → LogsOther a → LogsOther b → a ≡ b
other_logged_known (Copied u) b fa fb = absurd fa
other_logged_known Done (Copied v) fa fb = absurd fb
other_logged_known Done Done fa fb = refl
other_logged_known Done Void fa fb = absurd fb
other_logged_known Void b fa fb = absurd fa

-- how a step is logged is known from the line
pub logged_known : (s : Step) (number : ℕ) (a b : Logged) → FitsStep s a → FitsStep s b → log_line number a ≡ log_line number b → a ≡ b
logged_known (step.New d u w m) number a b fa fb e = new_logged_known number a b fa fb e
logged_known (step.Gone d f n) number a b fa fb e = other_logged_known a b fa fb
logged_known (step.Flags d f n s c) number a b fa fb e = other_logged_known a b fa fb
logged_known (step.Expunge side u) number a b fa fb e = other_logged_known a b fa fb
