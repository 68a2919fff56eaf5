-- The first line of a text after which no valid journal is possible.
use Rattle.std.proofs.Common.{◌≡◌, ℕ, ◌<◌, ◌^◌, false, true, List, [], ◌∷◌, ◌++◌, refl, arith}
use Rattle.std.specs.Prelude.{codes, decimal}
use Rattle.std.proofs.lemmas.List.Elements.{All-nil}
use Rattle.mailcore.specs.KeywordNames.{IsMap, has_name, is_keyword_letter, is_keyword_name}
use Rattle.rules.proofs.Walks.{AllPairs-nil}
use Rattle.rules.specs.declared.plan.Step.{Step}
use Rattle.rules.specs.declared.plan.Note.{Note}
use Rattle.rules.specs.declared.plan.PlanSide.{PlanSide}
use Rattle.sync_state.specs.declared.journal.Journal.{Journal}
use Rattle.sync_state.specs.declared.journal.Logged.{Logged}
use Rattle.sync_state.specs.declared.words.Number.{Number}
use Rattle.sync_state.specs.declared.words.Positive.{Positive}
use Rattle.sync_state.specs.declared.words.Highest.{Highest}
use Rattle.sync_state.specs.declared.journal_read.PlanNumbers.{PlanNumbers}
use Rattle.sync_state.specs.declared.journal_read.PlanHead.{PlanHead}
use Rattle.sync_state.specs.declared.version.Version.{Version}
use Rattle.sync_state.specs.declared.version.Version.TheVariants.{One, Two}
use Rattle.sync_state.specs.Words.{IsPositive, version_word}
use Rattle.sync_state.specs.Versions.{HasKeywords, HasWords, StepLetters, NoteLetters}
use Rattle.sync_state.specs.StateText.{run_line, IsHighest}
use Rattle.sync_state.specs.Lines.{AreLines, HasNoLine}
use Rattle.sync_state.specs.JournalText.{journal_title, plan_far_line, plan_near_line, go_line, IsStep, IsNote, IsPlan, IsPlanSide, journal_lines, JournalLines, IsBadJournal}
use Rattle.sync_state.specs.JournalReading.{NumbersFit, with_items}
use Rattle.sync_state.proofs.StateLemmas.{nth}
use Rattle.sync_state.proofs.LineLemmas.{no_lines}

abbrev pub journal_of : PlanHead → List Step → List Note → List Logged → Journal
journal_of h steps notes log = record { plan = with_items h steps notes; log = log }

-- a head without keywords
abbrev pub bare_head : PlanNumbers → PlanHead
bare_head n = record { numbers = n; keywords = [] }

pub no_keywords : (v : Version) → HasKeywords v []
no_keywords One = refl
no_keywords Two = tt

pub empty_map : IsMap []
empty_map = record {
  letters = All-nil (λ k. is_keyword_letter k.letter ≡ true);
  rising = AllPairs-nil (λ a b. a.letter < b.letter);
  names = All-nil (λ k. is_keyword_name k.name ≡ true);
  apart = AllPairs-nil (λ a b. has_name b.name a ≡ false);
}

plan_fits : (n : PlanNumbers) → NumbersFit n → IsPlan (with_items (bare_head n) [] [])
plan_fits n f = record {
  run = f.run;
  far = f.far;
  near = f.near;
  steps = All-nil IsStep;
  notes = All-nil IsNote;
  steps_rise = refl;
  notes_rise = refl;
  keywords = empty_map;
}

plan_words : (n : PlanNumbers) → HasWords n.version (with_items (bare_head n) [] [])
plan_words n = record { steps = All-nil (StepLetters n.version); notes = All-nil (NoteLetters n.version); keywords = no_keywords n.version }

bare : (n : PlanNumbers) → NumbersFit n → JournalLines (journal_lines n.version (journal_of (bare_head n) [] [] []))
bare n f = record {
  version = n.version;
  journal = journal_of (bare_head n) [] [] [];
  fits = record { plan = plan_fits n f; log = tt };
  words = plan_words n;
  same = refl;
}

abbrev first_side : PlanSide
first_side = record { validity = 1; highest = 0; next = 1 }

first_side_fits : IsPlanSide first_side
first_side_fits = record { validity = record { positive = omega arith; fits = omega arith }; highest = omega arith; next = record { positive = omega arith; fits = omega arith } }

abbrev first_run : Number
first_run = record { 0 = 1 }

abbrev numbers_of : Version → Number → PlanSide → PlanSide → PlanNumbers
numbers_of version run far near = record { version = version; run = run; far = far; near = near }

pub bad_title : (text : List ℕ) → HasNoLine {T = Version} (codes "journal ") (λ _. Unit {0}) version_word text → IsBadJournal text 1
bad_title text none = record {
  before = [];
  rest = text;
  lines = no_lines text;
  number_is = refl;
  begins = let n = numbers_of Two first_run first_side first_side in
      record { more = journal_lines Two (journal_of (bare_head n) [] [] []); spelled = bare n (record { run = omega arith; far = first_side_fits; near = first_side_fits }) };
  stops = λ line following one e b. none line following one e b.spelled.version tt (nth 0 (line ∷ b.more) (journal_lines b.spelled.version b.spelled.journal) b.spelled.same);
  unfinished = λ e s. let h : [] ≡ journal_title s.version = nth 0 [] (journal_lines s.version s.journal) s.same in cc;
}

pub bad_run : (v : Version) (text rest : List ℕ) → AreLines (journal_title v ∷ []) text rest
    → HasNoLine (codes "run ") (λ (r : Number). r.0 < 2 ^ 64) (λ r. decimal r.0) rest → IsBadJournal text 2
bad_run v text rest lines none = record {
  before = journal_title v ∷ [];
  rest = rest;
  lines = lines;
  number_is = refl;
  begins = let n = numbers_of v first_run first_side first_side in
      record { more = run_line 1 ∷ plan_far_line first_side ∷ plan_near_line first_side ∷ go_line ∷ []; spelled = bare n (record { run = omega arith; far = first_side_fits; near = first_side_fits }) };
  stops = λ line following one e b. none line following one e (record { 0 = b.spelled.journal.plan.run }) b.spelled.fits.plan.run
      (nth 1 (journal_title v ∷ line ∷ b.more) (journal_lines b.spelled.version b.spelled.journal) b.spelled.same);
  unfinished = λ e s. let h : [] ≡ run_line s.journal.plan.run = nth 1 (journal_title v ∷ []) (journal_lines s.version s.journal) s.same in cc;
}

abbrev SideFits : Positive × (Highest × Positive) → Type 0
SideFits p = IsPositive p.0.0 × (IsHighest p.1.0.0 × IsPositive p.1.1.0)

abbrev side_spelling : Positive × (Highest × Positive) → List ℕ
side_spelling p = decimal p.0.0 ++ 32 ∷ (decimal p.1.0.0 ++ 32 ∷ decimal p.1.1.0)

abbrev fields_of : PlanSide → Positive × (Highest × Positive)
fields_of s = (record { 0 = s.validity }, (record { 0 = s.highest }, record { 0 = s.next }))

pub bad_far : (v : Version) (text rest : List ℕ) (r : Number) → r.0 < 2 ^ 64 → AreLines (journal_title v ∷ run_line r.0 ∷ []) text rest
    → HasNoLine (codes "far ") SideFits side_spelling rest → IsBadJournal text 3
bad_far v text rest r is lines none = record {
  before = journal_title v ∷ run_line r.0 ∷ [];
  rest = rest;
  lines = lines;
  number_is = refl;
  begins = let n = numbers_of v r first_side first_side in
      record { more = plan_far_line first_side ∷ plan_near_line first_side ∷ go_line ∷ []; spelled = bare n (record { run = is; far = first_side_fits; near = first_side_fits }) };
  stops = λ line following one e b. let p = b.spelled.journal.plan in let f = b.spelled.fits.plan.far in
      none line following one e (fields_of p.far) (f.validity, (f.highest, f.next))
      (nth 2 (journal_title v ∷ run_line r.0 ∷ line ∷ b.more) (journal_lines b.spelled.version b.spelled.journal) b.spelled.same);
  unfinished = λ e s. let h : [] ≡ plan_far_line s.journal.plan.far = nth 2 (journal_title v ∷ run_line r.0 ∷ []) (journal_lines s.version s.journal) s.same in cc;
}

pub bad_near : (v : Version) (text rest : List ℕ) (r : Number) (far : PlanSide) → r.0 < 2 ^ 64 → IsPlanSide far
    → AreLines (journal_title v ∷ run_line r.0 ∷ plan_far_line far ∷ []) text rest
    → HasNoLine (codes "near ") SideFits side_spelling rest → IsBadJournal text 4
bad_near v text rest r far is fits lines none = record {
  before = journal_title v ∷ run_line r.0 ∷ plan_far_line far ∷ [];
  rest = rest;
  lines = lines;
  number_is = refl;
  begins = let n = numbers_of v r far first_side in
      record { more = plan_near_line first_side ∷ go_line ∷ []; spelled = bare n (record { run = is; far = fits; near = first_side_fits }) };
  stops = λ line following one e b. let p = b.spelled.journal.plan in let f = b.spelled.fits.plan.near in
      none line following one e (fields_of p.near) (f.validity, (f.highest, f.next))
      (nth 3 (journal_title v ∷ run_line r.0 ∷ plan_far_line far ∷ line ∷ b.more) (journal_lines b.spelled.version b.spelled.journal) b.spelled.same);
  unfinished = λ e s. let h : [] ≡ plan_near_line s.journal.plan.near = nth 3 (journal_title v ∷ run_line r.0 ∷ plan_far_line far ∷ []) (journal_lines s.version s.journal) s.same in cc;
}
