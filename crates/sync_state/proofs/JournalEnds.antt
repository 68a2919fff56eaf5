-- Where the lines of a text after those of a head stop being a journal's.
use Rattle.std.proofs.Common.{◌≡◌, ℕ, ◌+◌, true, false, List, [], ◌∷◌, ◌++◌, length, length-append, map, refl, sym, ap, ◌∙◌, subst, arith, append_assoc}
use Rattle.std.specs.Prelude.{All}
use Rattle.std.proofs.lemmas.Bool.{false≢true}
use Rattle.std.proofs.lemmas.List.{length-map}
use Rattle.std.proofs.lemmas.List.Elements.{All-nil, All-head}
use Rattle.rules.specs.declared.plan.Step.{Step}
use Rattle.rules.specs.declared.plan.Note.{Note}
use Rattle.sync_state.specs.declared.journal.Journal.{Journal}
use Rattle.sync_state.specs.declared.journal.Logged.{Logged}
use Rattle.sync_state.specs.declared.version.Version.{Version}
use Rattle.sync_state.specs.declared.journal_read.PlanHead.{PlanHead}
use Rattle.sync_state.specs.Cuts.{same_cut, no_cut}
use Rattle.sync_state.specs.JournalText.{go_line, keyword_line, log_lines, step_line, note_line, step_place, note_place, IsLog, is_below, rises, bottom, IsBadJournal}
use Rattle.sync_state.specs.Places.{last_of}
use Rattle.sync_state.specs.JournalReading.{head, IsStepIn, IsNoteIn, PlanHeadFits, PlanHeadRead, IsBadItem}
use Rattle.sync_state.proofs.LineLemmas.{more_lines}
use Rattle.sync_state.proofs.ItemLemmas.{Following, following, head_line, rises-at}
use Rattle.sync_state.proofs.KnownLines.{step_places, note_places}
use Rattle.sync_state.proofs.JournalLemmas.{journal_of}
use Rattle.sync_state.proofs.JournalHeads.{HasTextIn, notes_on, steps_on, shape, steps_in, notes_in, end_of_steps, end_of_notes, step_is_no_keyword, continues, none_in_steps}

pub step_places_in : (v : Version) (a b : Step) → IsStepIn v a → IsStepIn v b → step_line a ≡ step_line b → step_place a ≡ step_place b
step_places_in v a b fa fb e = step_places a b fa.0 fb.0 e

pub note_places_in : (v : Version) (a b : Note) → IsNoteIn v a → IsNoteIn v b → note_line a ≡ note_line b → note_place a ≡ note_place b
note_places_in v a b fa fb e = note_places a b fa.0 fb.0 e

abbrev pub AfterSteps : Version → Journal → List Step → List (List ℕ) → Type 0
AfterSteps v j steps tail = Following (IsStepIn v) step_line step_place j.plan.steps steps (notes_on j) tail

abbrev pub AfterNotes : Version → Journal → List Note → List (List ℕ) → Type 0
AfterNotes v j notes tail = Following (IsNoteIn v) note_line note_place j.plan.notes notes (go_line ∷ log_lines 1 j.log) tail

pub after_steps : (v : Version) (steps : List Step) (tail : List (List ℕ)) (j : Journal) → HasTextIn v j → All (IsStepIn v) steps
    → map step_line steps ++ tail ≡ steps_on j → AfterSteps v j steps tail
after_steps v steps tail j has all e =
    following (IsStepIn v) step_line step_place (step_places_in v) j.plan.steps steps (notes_on j) tail (end_of_steps (IsStepIn v) j.plan.notes (log_lines 1 j.log)) (steps_in v j has) all e

pub after_notes : (v : Version) (notes : List Note) (tail : List (List ℕ)) (j : Journal) → HasTextIn v j → All (IsNoteIn v) notes
    → map note_line notes ++ tail ≡ notes_on j → AfterNotes v j notes tail
after_notes v notes tail j has all e =
    following (IsNoteIn v) note_line note_place (note_places_in v) j.plan.notes notes (go_line ∷ log_lines 1 j.log) tail (end_of_notes (IsNoteIn v) (log_lines 1 j.log)) (notes_in v j has) all e

-- an item that may not follow others stands nowhere after them
pub none_stands : {A : Type 0} (fits : A → Type 0) (line : A → List ℕ) (place : A → ℕ × ℕ × ℕ) → ((a b : A) → fits a → fits b → line a ≡ line b → place a ≡ place b)
    → (all before ys : List A) (item y : A) → fits item → fits y → line item ≡ line y → is_below (last_of bottom (map place before)) (place item) ≡ false
    → rises bottom (map place all) ≡ true → map place all ≡ map place before ++ map place (y ∷ ys) → ⊥
none_stands fits line place known all before ys item y fi fy e stops rise places =
    let same = known item y fi fy e in
    let may = rises-at bottom (map place before) (map place ys) (place y) (subst (λ (x : List (ℕ × ℕ × ℕ)). rises bottom x ≡ true) places rise) in
    let here = ap (λ (x : ℕ × ℕ × ℕ). is_below (last_of bottom (map place before)) x) same in
    false≢true (sym stops ∙ here ∙ may)

-- ---- a step out of order

bad_step_goes_on : (v : Version) (before : List Step) (item : Step) (line : List ℕ) (more : List (List ℕ)) (j : Journal) → HasTextIn v j → All (IsStepIn v) before → IsStepIn v item
    → line ≡ step_line item → is_below (last_of bottom (map step_place before)) (step_place item) ≡ false
    → map step_line before ++ line ∷ more ≡ steps_on j → ⊥
bad_step_goes_on v before item line more j has all is line_is stops e =
    let b = after_steps v before (line ∷ more) j has all e in by_after b.after b.places b.tail_is b.fitting where
      by_after : (after : List Step) → map step_place j.plan.steps ≡ map step_place before ++ map step_place after → line ∷ more ≡ map step_line after ++ notes_on j → All (IsStepIn v) after → ⊥
      by_after [] places tail f =
          let end = end_of_steps (IsStepIn v) j.plan.notes (log_lines 1 j.log) in
          end.foreign item is (sym (head_line line end.first more end.others (tail ∙ end.same)) ∙ line_is)
      by_after (y ∷ ys) places tail f =
          none_stands (IsStepIn v) step_line step_place (step_places_in v) j.plan.steps before ys item y is (All-head (IsStepIn v) y ys f)
          (sym line_is ∙ head_line line (step_line y) more (map step_line ys ++ notes_on j) tail) stops has.fits.plan.steps_rise places

pub regroup : (a b : List (List ℕ)) (line : List ℕ) (more : List (List ℕ)) → ((a ++ b) ++ line ∷ []) ++ more ≡ a ++ (b ++ line ∷ more)
regroup a b line more = append_assoc (a ++ b) (line ∷ []) more ∙ append_assoc a b (line ∷ more)

-- a head, steps and notes that were read, with a log of the steps, are a journal
pub journal_fits : (h : PlanHead) (steps : List Step) (notes : List Note) (log : List Logged) → PlanHeadFits h
    → All (IsStepIn h.numbers.version) steps → All (IsNoteIn h.numbers.version) notes
    → rises bottom (map step_place steps) ≡ true → rises bottom (map note_place notes) ≡ true → IsLog steps log → HasTextIn h.numbers.version (journal_of h steps notes log)
journal_fits h steps notes log f s n rs rn l = record {
  fits = record {
    plan = record {
      run = f.numbers.run;
      far = f.numbers.far;
      near = f.numbers.near;
      steps = λ i d below. (s i d below).0;
      notes = λ i d below. (n i d below).0;
      steps_rise = rs;
      notes_rise = rn;
      keywords = f.map_is;
    };
    log = l;
  };
  words = record { steps = λ i d below. (s i d below).1; notes = λ i d below. (n i d below).1; keywords = f.words };
}

pub no_log : (steps : List Step) → IsLog steps []
no_log [] = tt
no_log (s ∷ steps) = tt

-- how many lines a head has
abbrev pub head_length : PlanHead → ℕ
head_length h = 4 + length h.keywords

pub head_is_long : (h : PlanHead) → length (head h) ≡ head_length h
head_is_long h = omega (arith, length-map h.keywords keyword_line)

pub bad_step : (h : PlanHead) (text between : List ℕ) (number : ℕ) → PlanHeadRead h text between
    → IsBadItem (IsStepIn h.numbers.version) step_line step_place (head_length h) between number → IsBadJournal text number
bad_step h text between number read b = record {
  before = head h ++ map step_line b.before;
  rest = b.rest;
  lines = more_lines (head h) (map step_line b.before) text between b.rest read.lines b.are.lines;
  number_is = b.number_is ∙ omega (arith, head_is_long h, length-append (head h) (map step_line b.before), length-map b.before step_line);
  begins = let has = journal_fits h b.before [] [] read.fits b.are.fitting (All-nil (IsNoteIn h.numbers.version)) b.are.rise refl (no_log b.before) in record {
    more = go_line ∷ [];
    spelled = record {
      version = h.numbers.version;
      journal = journal_of h b.before [] [];
      fits = has.fits;
      words = has.words;
      same = append_assoc (head h) (map step_line b.before) (go_line ∷ []) ∙ sym (shape h.numbers.version (journal_of h b.before [] []));
    };
  };
  stops = λ line following one e g.
      let cut = same_cut 10 line (step_line b.item) following b.following one b.one_line (sym e ∙ b.parts) in
      let tail : List (List ℕ) = map step_line b.before ++ line ∷ g.more in
      let c = continues h tail _ (none_in_steps h b.before line g.more (λ k same. step_is_no_keyword b.item k (sym cut.front ∙ same)))
      (sym (regroup (head h) (map step_line b.before) line g.more)) g.spelled in
      bad_step_goes_on h.numbers.version b.before b.item line g.more c.journal c.has b.are.fitting b.fitting cut.front b.stops c.tail_is;
  unfinished = λ one s. no_cut 10 b.rest (step_line b.item) b.following one b.parts;
}
