-- Lines that are no step's, no note's, and log nothing.
use Rattle.std.proofs.Common.{◌≡◌, ◌≢◌, ℕ, ◌<◌, ◌^◌, Bool, true, false, cond, List, [], ◌∷◌, ◌++◌, length, drop, Option, None, Some, refl, sym, ap, ◌∙◌, arith}
use Rattle.std.specs.Prelude.{IfNone, MatchBool, codes, decimal, unwrap_or, ◌==◌, nat_eq}
use Rattle.std.proofs.lemmas.Bool.{eqb-true, eq-eqb, false≢true}
use Rattle.std.proofs.lemmas.Fmt.{decimal_injective}
use Rattle.std.proofs.lemmas.List.{append-nil, drop_at}
use Rattle.mailcore.specs.declared.side.Direction.{Direction}
use Rattle.mailcore.specs.declared.side.Side.{Side}
use Rattle.mailcore.specs.FlagSet.{FLAGS}
use Rattle.mailcore.specs.FlagNames.{letters_of}
use Rattle.mailcore.specs.Mark.{IsMark}
use Rattle.rules.specs.declared.plan.Step.{Step}
use Rattle.rules.specs.declared.plan.Step.TheVariants as step
use Rattle.rules.specs.declared.plan.Note.{Note}
use Rattle.rules.specs.declared.plan.Note.TheVariants as note
use Rattle.sync_state.specs.declared.journal.Logged.{Logged}
use Rattle.sync_state.specs.declared.journal.Logged.TheVariants.{Copied, Done, Void}
use Rattle.sync_state.specs.declared.words.Plus.{Plus}
use Rattle.sync_state.specs.declared.words.Minus.{Minus}
use Rattle.mailcore.specs.Words.{flags_word, direction_word, side_word}
use Rattle.sync_state.specs.Words.{IsUid, IsUidOrNone}
use Rattle.sync_state.specs.Cuts.{same_cut}
use Rattle.sync_state.specs.WordLaws.{decimal-lacks}
use Rattle.sync_state.specs.JournalText.{IsStep, IsNote, LogsNew, step_line, note_line, log_line}

-- no value has this line
abbrev pub None' : {A : Type 0} → (A → Type 0) → (A → List ℕ) → List ℕ → Type 0
None' {A} fits spelling line = (value : A) → fits value → line ≢ spelling value

pub no_note : {X : Type 0} (r : Option X) (line : List ℕ)
    → None' {A = ℕ × (ℕ × ℕ)} (λ v. IsUid v.0 × (IsUid v.1.0 × (v.1.1 < 2 ^ FLAGS))) (λ v. codes "n record " ++ (decimal v.0 ++ 32 ∷ (decimal v.1.0 ++ 32 ∷ flags_word v.1.1))) line
    → None' {A = Option ℕ × Option ℕ} (λ v. IsUidOrNone v.0 × IsUidOrNone v.1) (λ v. codes "n drop " ++ (decimal (unwrap_or v.0 0) ++ 32 ∷ decimal (unwrap_or v.1 0))) line
    → IfNone r ((n : Note) → IsNote n → line ≢ note_line n)
no_note None line records drops = by_note where
  by_note : (n : Note) → IsNote n → line ≢ note_line n
  by_note (note.Record far near flags) f = records (far, (near, flags)) (f.0, (f.1, f.2))
  by_note (note.Drop far near) f = drops (far, near) f
no_note (Some x) line records drops = tt

abbrev pub NoFlags : List ℕ → Type 0
NoFlags line = (d : Direction) (far near set cleared : ℕ) → IsStep (step.Flags d far near set cleared) → line ≢ step_line (step.Flags d far near set cleared)

pub no_step : {X : Type 0} (r : Option X) (line : List ℕ)
    → None' {A = Direction × (ℕ × (ℕ × List ℕ))} (λ v. Unit {0} × (IsUid v.1.0 × ((v.1.1.0 < 2 ^ FLAGS) × IsMark v.1.1.1))) (λ v. codes "s new " ++ (direction_word v.0 ++ 32 ∷ (decimal v.1.0 ++ 32 ∷ (flags_word v.1.1.0 ++ 32 ∷ v.1.1.1)))) line
    → None' {A = Direction × (ℕ × ℕ)} (λ v. Unit {0} × (IsUid v.1.0 × IsUid v.1.1)) (λ v. codes "s gone " ++ (direction_word v.0 ++ 32 ∷ (decimal v.1.0 ++ 32 ∷ decimal v.1.1))) line
    → None' {A = Side × ℕ} (λ v. Unit {0} × IsUid v.1) (λ v. codes "s expunge " ++ (side_word v.0 ++ 32 ∷ decimal v.1)) line
    → IfNone r (NoFlags line) → IfNone r ((s : Step) → IsStep s → line ≢ step_line s)
no_step None line news gones expunges flags = by_step where
  by_step : (s : Step) → IsStep s → line ≢ step_line s
  by_step (step.New d u w m) f = news (d, (u, (w, m))) (tt, (f.0, (f.1, f.2)))
  by_step (step.Gone d far near) f = gones (d, (far, near)) (tt, (f.0, f.1))
  by_step (step.Flags d far near set cleared) f = flags d far near set cleared f
  by_step (step.Expunge side u) f = expunges (side, u) (tt, f)
no_step (Some x) line news gones expunges flags = tt

not_zero : (n : ℕ) → (n == 0) ≡ false → n ≢ 0
not_zero n e h = let t : (n == 0) ≡ true = eq-eqb n 0 h in false≢true (sym e ∙ t)

pub no_flags_step : {X : Type 0} (r : Option X) (line : List ℕ)
    → None' {A = Direction × (ℕ × (ℕ × (Plus × Minus)))} (λ v. Unit {0} × (IsUid v.1.0 × (IsUid v.1.1.0 × (((v.1.1.1.0.0 < 2 ^ FLAGS) × (v.1.1.1.0.0 ≢ 0)) × ((v.1.1.1.1.0 < 2 ^ FLAGS) × (v.1.1.1.1.0 ≢ 0))))))
    (λ v. codes "s flags " ++ (direction_word v.0 ++ 32 ∷ (decimal v.1.0 ++ 32 ∷ (decimal v.1.1.0 ++ 32 ∷ ((43 ∷ letters_of v.1.1.1.0.0) ++ 32 ∷ (45 ∷ letters_of v.1.1.1.1.0)))))) line
    → None' {A = Direction × (ℕ × (ℕ × Plus))} (λ v. Unit {0} × (IsUid v.1.0 × (IsUid v.1.1.0 × ((v.1.1.1.0 < 2 ^ FLAGS) × (v.1.1.1.0 ≢ 0)))))
    (λ v. codes "s flags " ++ (direction_word v.0 ++ 32 ∷ (decimal v.1.0 ++ 32 ∷ (decimal v.1.1.0 ++ 32 ∷ (43 ∷ letters_of v.1.1.1.0))))) line
    → None' {A = Direction × (ℕ × (ℕ × Minus))} (λ v. Unit {0} × (IsUid v.1.0 × (IsUid v.1.1.0 × ((v.1.1.1.0 < 2 ^ FLAGS) × (v.1.1.1.0 ≢ 0)))))
    (λ v. codes "s flags " ++ (direction_word v.0 ++ 32 ∷ (decimal v.1.0 ++ 32 ∷ (decimal v.1.1.0 ++ 32 ∷ (45 ∷ letters_of v.1.1.1.0))))) line
    → None' {A = Direction × (ℕ × ℕ)} (λ v. Unit {0} × (IsUid v.1.0 × IsUid v.1.1)) (λ v. codes "s flags " ++ (direction_word v.0 ++ 32 ∷ (decimal v.1.0 ++ 32 ∷ decimal v.1.1))) line
    → IfNone r (NoFlags line)
no_flags_step None line both plus minus bare = λ d far near set cleared f e. by_tests d far near set cleared f (set == 0) (cleared == 0) refl refl e where
  by_tests : (d : Direction) (far near set cleared : ℕ) → IsStep (step.Flags d far near set cleared) → (x y : Bool) → (set == 0) ≡ x → (cleared == 0) ≡ y
      → line ≡ codes "s flags " ++ (direction_word d ++ 32 ∷ (decimal far ++ 32 ∷ (decimal near ++ (cond x [] (32 ∷ 43 ∷ letters_of set) ++ cond y [] (32 ∷ 45 ∷ letters_of cleared))))) → ⊥
  by_tests d far near set cleared f true true ix iy e =
      bare (d, (far, near)) (tt, (f.0, f.1)) (e ∙ ap (λ (z : List ℕ). codes "s flags " ++ (direction_word d ++ 32 ∷ (decimal far ++ 32 ∷ z))) (append-nil (decimal near)))
  by_tests d far near set cleared f true false ix iy e =
      minus (d, (far, (near, record { 0 = cleared }))) (tt, (f.0, (f.1, (f.3, not_zero cleared iy)))) e
  by_tests d far near set cleared f false true ix iy e =
      plus (d, (far, (near, record { 0 = set }))) (tt, (f.0, (f.1, (f.2, not_zero set ix))))
      (e ∙ ap (λ (z : List ℕ). codes "s flags " ++ (direction_word d ++ 32 ∷ (decimal far ++ 32 ∷ (decimal near ++ z)))) (append-nil (32 ∷ 43 ∷ letters_of set)))
  by_tests d far near set cleared f false false ix iy e =
      both (d, (far, (near, (record { 0 = set }, record { 0 = cleared })))) (tt, (f.0, (f.1, ((f.2, not_zero set ix), (f.3, not_zero cleared iy))))) e
no_flags_step (Some x) line both plus minus bare = tt

pub number_is : (line start : List ℕ) (read number : ℕ) → read < 2 ^ 64 → number < 2 ^ 64 → line ≡ start ++ decimal read
    → MatchBool (nat_eq read number) (line ≡ start ++ decimal number) (line ≢ start ++ decimal number)
number_is line start read number fr fn e = by_test (nat_eq read number) refl where
  by_test : (b : Bool) → nat_eq read number ≡ b → MatchBool b (line ≡ start ++ decimal number) (line ≢ start ++ decimal number)
  by_test true h = e ∙ ap (λ (n : ℕ). start ++ decimal n) (eqb-true read number h)
  by_test false h = λ f.
      let texts : decimal read ≡ decimal number = sym (drop_at start (decimal read) (length start) refl) ∙ ap (λ (z : List ℕ). drop (length start) z) (sym e ∙ f) ∙ drop_at start (decimal number) (length start) refl in
      let same = eq-eqb read number (decimal_injective read number fr fn texts) in
      false≢true (sym h ∙ same)

-- a new message is logged as copied or as void
pub no_new_logged : (number : ℕ) (line : List ℕ)
    → line ≢ codes "v " ++ decimal number → ((copy : ℕ) → IsUid copy → line ≢ codes "d " ++ (decimal number ++ 32 ∷ decimal copy))
    → (logged : Logged) → LogsNew logged → line ≢ log_line number logged
no_new_logged number line void copied (Copied copy) f = copied copy f
no_new_logged number line void copied Done f = absurd f
no_new_logged number line void copied Void f = void

pub if_not_logged : {X : Type 0} (r : Option X) (number : ℕ) (line : List ℕ)
    → ((logged : Logged) → LogsNew logged → line ≢ log_line number logged) → IfNone r ((logged : Logged) → LogsNew logged → line ≢ log_line number logged)
if_not_logged None number line h = h
if_not_logged (Some x) number line h = tt

-- another number is read than the one that is logged
pub other_number : (line : List ℕ) (read number uid : ℕ) → read < 2 ^ 64 → number < 2 ^ 64 → read ≢ number
    → line ≡ codes "d " ++ (decimal read ++ 32 ∷ decimal uid) → (copy : ℕ) → line ≢ codes "d " ++ (decimal number ++ 32 ∷ decimal copy)
other_number line read number uid fr fn other e copy f =
    let s = same_cut 32 (decimal read) (decimal number) (decimal uid) (decimal copy) (decimal-lacks 32 (omega arith) read fr) (decimal-lacks 32 (omega arith) number fn)
    (ap (λ (z : List ℕ). drop 2 z) (sym e ∙ f)) in
    other (decimal_injective read number fr fn s.front)
