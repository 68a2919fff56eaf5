-- Where the lines of a text after those of a plan's steps stop being a journal's, and a journal whole.
use Rattle.std.proofs.Common.{◌≡◌, ◌≢◌, ℕ, zero, suc, ◌+◌, Bool, true, false, List, [], ◌∷◌, ◌++◌, length, get_or, drop, map, refl, sym, ap, ◌∙◌, subst, arith, append_assoc, length-append}
use Rattle.std.specs.Prelude.{All, nat_lt}
use Rattle.std.proofs.lemmas.List.{append-nil, length-map}
use Rattle.std.proofs.lemmas.List.Elements.{All-head}
use Rattle.mailcore.specs.declared.side.Direction.TheVariants.{Pull, Push}
use Rattle.mailcore.specs.declared.side.Side.TheVariants.{Far, Near}
use Rattle.rules.specs.declared.plan.Step.{Step}
use Rattle.rules.specs.declared.plan.Step.TheVariants as step
use Rattle.rules.specs.declared.plan.Note.{Note}
use Rattle.sync_state.specs.declared.fault.BookFault.{BookFault}
use Rattle.sync_state.specs.declared.fault.BookFault.TheVariants.{Stopped, BadState, BadJournal, NoMemory}
use Rattle.sync_state.specs.declared.journal.Journal.{Journal}
use Rattle.sync_state.specs.declared.journal.Logged.{Logged}
use Rattle.sync_state.specs.declared.journal_read.PlanHead.{PlanHead}
use Rattle.sync_state.specs.declared.version.Version.{Version}
use Rattle.sync_state.specs.Cuts.{same_cut, no_cut}
use Rattle.sync_state.specs.Lines.{AreLines, Begins, HasNoLine}
use Rattle.sync_state.specs.JournalText.{go_line, keyword_line, log_line, log_lines, step_line, note_line, step_place, note_place, FitsStep, LogsNew, LogsOther, IsLog, is_below, bottom, JournalLines, IsBadJournal, JournalText, HasGo}
use Rattle.sync_state.specs.Places.{last_of}
use Rattle.sync_state.specs.JournalReading.{head, IsStepIn, IsNoteIn, PlanHeadRead, AreItems, ItemsRead, IsBadItem, FitsAt, LogRead, IsBadLog, ReportsItem, ReportsLog, ReportsJournal}
use Rattle.sync_state.proofs.LineLemmas.{more_lines, line_more}
use Rattle.sync_state.proofs.ItemLemmas.{head_line, tail_lines}
use Rattle.sync_state.proofs.GoLemmas.{go_is_one_line}
use Rattle.sync_state.proofs.JournalLemmas.{journal_of}
use Rattle.sync_state.proofs.JournalHeads.{HasTextIn, notes_on, steps_on, shape, note_is_no_step, go_is_no_step, go_is_no_note, note_is_no_keyword, go_is_no_keyword, continues, none_in_items}
use Rattle.sync_state.proofs.JournalEnds.{bad_step, head_length, head_is_long, note_places_in, after_steps, after_notes, none_stands, journal_fits, no_log}

-- ---- nothing more of a kind

pub record NoMoreSteps (j : Journal) (steps : List Step) (tail : List (List ℕ)) : Type 0 where
  pub tail_is : tail ≡ notes_on j
  pub places : map step_place j.plan.steps ≡ map step_place steps

no_more_steps : (v : Version) (steps : List Step) (tail : List (List ℕ)) (j : Journal) → HasTextIn v j → All (IsStepIn v) steps
    → map step_line steps ++ tail ≡ steps_on j → ((y : Step) → IsStepIn v y → (ls : List (List ℕ)) → tail ≢ step_line y ∷ ls) → NoMoreSteps j steps tail
no_more_steps v steps tail j has all e none =
    let b = after_steps v steps tail j has all e in by_after b.after b.places b.tail_is b.fitting where
      by_after : (after : List Step) → map step_place j.plan.steps ≡ map step_place steps ++ map step_place after → tail ≡ map step_line after ++ notes_on j → All (IsStepIn v) after → NoMoreSteps j steps tail
      by_after [] places is f = record { tail_is = is; places = places ∙ append-nil (map step_place steps) }
      by_after (y ∷ ys) places is f = absurd (none y (All-head (IsStepIn v) y ys f) (map step_line ys ++ notes_on j) is)

no_more_notes : (v : Version) (notes : List Note) (tail : List (List ℕ)) (j : Journal) → HasTextIn v j → All (IsNoteIn v) notes → map note_line notes ++ tail ≡ notes_on j
    → ((y : Note) → IsNoteIn v y → (ls : List (List ℕ)) → tail ≢ note_line y ∷ ls) → tail ≡ go_line ∷ log_lines 1 j.log
no_more_notes v notes tail j has all e none =
    let b = after_notes v notes tail j has all e in by_after b.after b.tail_is b.fitting where
      by_after : (after : List Note) → tail ≡ map note_line after ++ (go_line ∷ log_lines 1 j.log) → All (IsNoteIn v) after → tail ≡ go_line ∷ log_lines 1 j.log
      by_after [] is f = is
      by_after (y ∷ ys) is f = absurd (none y (All-head (IsNoteIn v) y ys f) (map note_line ys ++ (go_line ∷ log_lines 1 j.log)) is)

-- notes begin with no step
notes_begin : (notes : List Note) (line : List ℕ) (more : List (List ℕ)) (y : Step) → (notes ≡ [] → line ≢ step_line y) → (ls : List (List ℕ)) → map note_line notes ++ line ∷ more ≢ step_line y ∷ ls
notes_begin [] line more y none ls e = none refl (head_line line (step_line y) more ls e)
notes_begin (n ∷ notes) line more y none ls e = note_is_no_step n y (head_line (note_line n) (step_line y) (map note_line notes ++ line ∷ more) ls e)

-- ---- what is read before the end of the plan

pub record BodyRead (h : PlanHead) (steps : List Step) (notes : List Note) (text after_head after_steps rest : List ℕ) : Type 0 where
  pub head_read : PlanHeadRead h text after_head
  pub steps_read : ItemsRead (IsStepIn h.numbers.version) step_line step_place steps after_head after_steps
  pub notes_read : AreItems (IsNoteIn h.numbers.version) note_line note_place notes after_steps rest

body_lines : (h : PlanHead) (steps : List Step) (notes : List Note) (text t1 t2 rest : List ℕ) → BodyRead h steps notes text t1 t2 rest
    → AreLines ((head h ++ map step_line steps) ++ map note_line notes) text rest
body_lines h steps notes text t1 t2 rest r =
    more_lines (head h ++ map step_line steps) (map note_line notes) text t2 rest
    (more_lines (head h) (map step_line steps) text t1 t2 r.head_read.lines r.steps_read.are.lines) r.notes_read.lines

regroup3 : (h : PlanHead) (steps : List Step) (notes : List Note) (tail : List (List ℕ))
    → ((head h ++ map step_line steps) ++ map note_line notes) ++ tail ≡ head h ++ (map step_line steps ++ (map note_line notes ++ tail))
regroup3 h steps notes tail = append_assoc (head h ++ map step_line steps) (map note_line notes) tail ∙ append_assoc (head h) (map step_line steps) (map note_line notes ++ tail)

body_begins : (h : PlanHead) (steps : List Step) (notes : List Note) (text t1 t2 rest : List ℕ) → BodyRead h steps notes text t1 t2 rest
    → Begins JournalLines ((head h ++ map step_line steps) ++ map note_line notes)
body_begins h steps notes text t1 t2 rest r = let has = journal_fits h steps notes [] r.head_read.fits r.steps_read.are.fitting r.notes_read.fitting r.steps_read.are.rise r.notes_read.rise (no_log steps) in record {
  more = go_line ∷ [];
  spelled = record {
    version = h.numbers.version;
    journal = journal_of h steps notes [];
    fits = has.fits;
    words = has.words;
    same = regroup3 h steps notes (go_line ∷ []) ∙ sym (shape h.numbers.version (journal_of h steps notes []));
  };
}

goes_on : (h : PlanHead) (steps : List Step) (notes : List Note) (line : List ℕ) (more : List (List ℕ))
    → head h ++ (map step_line steps ++ (map note_line notes ++ line ∷ more)) ≡ (((head h ++ map step_line steps) ++ map note_line notes) ++ line ∷ []) ++ more
goes_on h steps notes line more =
    sym (regroup3 h steps notes (line ∷ more)) ∙ sym (append_assoc ((head h ++ map step_line steps) ++ map note_line notes) (line ∷ []) more)

body_length : (h : PlanHead) (steps : List Step) (notes : List Note) → length ((head h ++ map step_line steps) ++ map note_line notes) ≡ head_length h + length steps + length notes
body_length h steps notes = omega (
  arith,
  head_is_long h,
  length-append (head h) (map step_line steps),
  length-append (head h ++ map step_line steps) (map note_line notes),
  length-map steps step_line,
  length-map notes note_line,
)

-- ---- a note out of order

bad_note_goes_on : (v : Version) (notes : List Note) (item : Note) (line : List ℕ) (more : List (List ℕ)) (j : Journal) → HasTextIn v j → All (IsNoteIn v) notes → IsNoteIn v item
    → line ≡ note_line item → is_below (last_of bottom (map note_place notes)) (note_place item) ≡ false
    → map note_line notes ++ line ∷ more ≡ notes_on j → ⊥
bad_note_goes_on v notes item line more j has all is line_is stops e =
    let b = after_notes v notes (line ∷ more) j has all e in by_after b.after b.places b.tail_is b.fitting where
      by_after : (after : List Note) → map note_place j.plan.notes ≡ map note_place notes ++ map note_place after → line ∷ more ≡ map note_line after ++ (go_line ∷ log_lines 1 j.log) → All (IsNoteIn v) after → ⊥
      by_after [] places tail f = go_is_no_note item (sym (head_line line go_line more (log_lines 1 j.log) tail) ∙ line_is)
      by_after (y ∷ ys) places tail f =
          none_stands (IsNoteIn v) note_line note_place (note_places_in v) j.plan.notes notes ys item y is (All-head (IsNoteIn v) y ys f)
          (sym line_is ∙ head_line line (note_line y) more (map note_line ys ++ (go_line ∷ log_lines 1 j.log)) tail) stops has.fits.plan.notes_rise places

pub bad_note : (h : PlanHead) (steps : List Step) (text t1 t2 : List ℕ) (number : ℕ) → PlanHeadRead h text t1
    → ItemsRead (IsStepIn h.numbers.version) step_line step_place steps t1 t2
    → IsBadItem (IsNoteIn h.numbers.version) note_line note_place (head_length h + length steps) t2 number → IsBadJournal text number
bad_note h steps text t1 t2 number hr sr b =
    let r : BodyRead h steps b.before text t1 t2 b.rest = record { head_read = hr; steps_read = sr; notes_read = b.are } in
    record {
      before = (head h ++ map step_line steps) ++ map note_line b.before;
      rest = b.rest;
      lines = body_lines h steps b.before text t1 t2 b.rest r;
      number_is = b.number_is ∙ omega (arith, body_length h steps b.before);
      begins = body_begins h steps b.before text t1 t2 b.rest r;
      stops = λ line following one e g.
          let cut = same_cut 10 line (note_line b.item) following b.following one b.one_line (sym e ∙ b.parts) in
          let c = continues h (map step_line steps ++ (map note_line b.before ++ line ∷ g.more)) _
          (none_in_items h steps b.before (line ∷ g.more) (λ no_steps no_notes k next ls x. note_is_no_keyword b.item k (sym cut.front ∙ head_line line (keyword_line k) g.more ls x)))
          (goes_on h steps b.before line g.more) g.spelled in
          let n = no_more_steps h.numbers.version steps (map note_line b.before ++ line ∷ g.more) c.journal c.has sr.are.fitting c.tail_is
          (λ y f. notes_begin b.before line g.more y (λ _ x. note_is_no_step b.item y (sym cut.front ∙ x))) in
          bad_note_goes_on h.numbers.version b.before b.item line g.more c.journal c.has b.are.fitting b.fitting cut.front b.stops n.tail_is;
      unfinished = λ one s. no_cut 10 b.rest (note_line b.item) b.following one b.parts;
    }

-- ---- a line that is not `go`

no_items_text : {A : Type 0} (fits : A → Type 0) (line : A → List ℕ) (place : A → ℕ × ℕ × ℕ) (items : List A) (t2 t3 : List ℕ) → AreItems fits line place items t2 t3 → items ≡ [] → t2 ≡ t3
no_items_text fits line place [] t2 t3 a e = a.lines.parts
no_items_text fits line place (x ∷ items) t2 t3 a e = cc

nothing : (l : List ℕ) (ls : List (List ℕ)) → [] ≢ l ∷ ls
nothing l ls e = cc

no_notes_begin : (notes : List Note) (y : Step) (ls : List (List ℕ)) → map note_line notes ++ [] ≢ step_line y ∷ ls
no_notes_begin [] y ls e = nothing (step_line y) ls e
no_notes_begin (n ∷ notes) y ls e = note_is_no_step n y (head_line (note_line n) (step_line y) (map note_line notes ++ []) ls e)

pub bad_go : (h : PlanHead) (steps : List Step) (notes : List Note) (text t1 t2 t3 : List ℕ) (number : ℕ) → PlanHeadRead h text t1
    → ItemsRead (IsStepIn h.numbers.version) step_line step_place steps t1 t2 → ItemsRead (IsNoteIn h.numbers.version) note_line note_place notes t2 t3
    → HasNoLine {T = Unit {0}} go_line (λ _. Unit {0}) (λ _. []) t3 → number ≡ head_length h + length steps + length notes + 1 → IsBadJournal text number
bad_go h steps notes text t1 t2 t3 number hr sr nr none number_is =
    let v = h.numbers.version in
    let r : BodyRead h steps notes text t1 t2 t3 = record { head_read = hr; steps_read = sr; notes_read = nr.are } in
    record {
      before = (head h ++ map step_line steps) ++ map note_line notes;
      rest = t3;
      lines = body_lines h steps notes text t1 t2 t3 r;
      number_is = number_is ∙ omega (arith, body_length h steps notes);
      begins = body_begins h steps notes text t1 t2 t3 r;
      stops = λ line following one e g.
          let notes_text : notes ≡ [] → t2 ≡ t3 = no_items_text (IsNoteIn v) note_line note_place notes t2 t3 nr.are in
          let steps_text : steps ≡ [] → t1 ≡ t2 = no_items_text (IsStepIn v) step_line step_place steps t1 t2 sr.are in
          let c = continues h (map step_line steps ++ (map note_line notes ++ line ∷ g.more)) _
          (none_in_items h steps notes (line ∷ g.more) (λ no_steps no_notes k next ls x.
          hr.all line following one (steps_text no_steps ∙ (notes_text no_notes ∙ e)) k next (head_line line (keyword_line k) g.more ls x)))
          (goes_on h steps notes line g.more) g.spelled in
          let n = no_more_steps v steps (map note_line notes ++ line ∷ g.more) c.journal c.has sr.are.fitting c.tail_is
          (λ y f. notes_begin notes line g.more y (λ empty x. sr.all line following one (notes_text empty ∙ e) y f x)) in
          let go = no_more_notes v notes (line ∷ g.more) c.journal c.has nr.are.fitting n.tail_is (λ y f ls x. nr.all line following one e y f (head_line line (note_line y) g.more ls x)) in
          none line following one e tt tt (head_line line go_line g.more (log_lines 1 c.journal.log) go);
      unfinished = λ one s.
          let c = continues h (map step_line steps ++ (map note_line notes ++ [])) _ (none_in_items h steps notes [] (λ no_steps no_notes k next ls x. nothing (keyword_line k) ls x))
          (sym (regroup3 h steps notes []) ∙ append-nil ((head h ++ map step_line steps) ++ map note_line notes)) s in
          let n = no_more_steps v steps (map note_line notes ++ []) c.journal c.has sr.are.fitting c.tail_is (λ y f. no_notes_begin notes y) in
          let go = no_more_notes v notes [] c.journal c.has nr.are.fitting n.tail_is (λ y f ls x. nothing (note_line y) ls x) in
          nothing go_line (log_lines 1 c.journal.log) go;
    }

-- ---- a line that logs nothing

abbrev is_new : Step → Bool
is_new (step.New d u w m) = true
is_new (step.Gone d f n) = false
is_new (step.Flags d f n s c) = false
is_new (step.Expunge side u) = false

abbrev Logs : Bool → Logged → Type 0
Logs true logged = LogsNew logged
Logs false logged = LogsOther logged

logs_of : (s : Step) (l : Logged) → FitsStep s l → Logs (is_new s) l
logs_of (step.New d u w m) l f = f
logs_of (step.Gone d f' n) l f = f
logs_of (step.Flags d f' n s c) l f = f
logs_of (step.Expunge side u) l f = f

fits_of : (s : Step) (l : Logged) → Logs (is_new s) l → FitsStep s l
fits_of (step.New d u w m) l f = f
fits_of (step.Gone d f' n) l f = f
fits_of (step.Flags d f' n s c) l f = f
fits_of (step.Expunge side u) l f = f

kind_of : (s : Step) → nat_lt (step_place s).0 2 ≡ is_new s
kind_of (step.New Pull u w m) = refl
kind_of (step.New Push u w m) = refl
kind_of (step.Gone Pull f n) = refl
kind_of (step.Gone Push f n) = refl
kind_of (step.Flags Pull f n s c) = refl
kind_of (step.Flags Push f n s c) = refl
kind_of (step.Expunge Far u) = refl
kind_of (step.Expunge Near u) = refl

same_fits : (a b : Step) (l : Logged) → step_place a ≡ step_place b → FitsStep a l → FitsStep b l
same_fits a b l e f =
    let kinds : is_new a ≡ is_new b = sym (kind_of a) ∙ ap (λ (p : ℕ × ℕ × ℕ). nat_lt p.0 2) e ∙ kind_of b in
    fits_of b l (subst (λ (k : Bool). Logs k l) kinds (logs_of a l f))

first_place : (p q : ℕ × ℕ × ℕ) (ps qs : List (ℕ × ℕ × ℕ)) → p ∷ ps ≡ q ∷ qs → p ≡ q
first_place p q ps qs e = ap (λ (x : List (ℕ × ℕ × ℕ)). get_or x 0 p) e

other_places : (p q : ℕ × ℕ × ℕ) (ps qs : List (ℕ × ℕ × ℕ)) → p ∷ ps ≡ q ∷ qs → ps ≡ qs
other_places p q ps qs e = ap (λ (x : List (ℕ × ℕ × ℕ)). drop 1 x) e

no_places : (p : ℕ × ℕ × ℕ) (ps : List (ℕ × ℕ × ℕ)) → p ∷ ps ≢ []
no_places p ps e = cc

same_fits_at : (cs bs : List Step) (k : ℕ) (l : Logged) → map step_place cs ≡ map step_place bs → FitsAt cs k l → FitsAt bs k l
same_fits_at [] bs k l e f = absurd f
same_fits_at (a ∷ cs) [] k l e f = absurd (no_places (step_place a) (map step_place cs) e)
same_fits_at (a ∷ cs) (b ∷ bs) zero l e f = same_fits a b l (first_place (step_place a) (step_place b) (map step_place cs) (map step_place bs) e) f
same_fits_at (a ∷ cs) (b ∷ bs) (suc k) l e f = same_fits_at cs bs k l (other_places (step_place a) (step_place b) (map step_place cs) (map step_place bs) e) f

-- the line after the first lines of a log
record NextLogged (steps : List Step) (number k : ℕ) (line : List ℕ) : Type 0 where
  logged : Logged
  fits : FitsAt steps k logged
  line_is : line ≡ log_line (number + k) logged

next_logged : (steps : List Step) (logs log : List Logged) (number : ℕ) (line : List ℕ) (more : List (List ℕ)) → IsLog steps logs
    → log_lines number log ++ line ∷ more ≡ log_lines number logs → NextLogged steps number (length log) line
next_logged steps [] [] number line more is e = absurd (nothing line more (sym e))
next_logged steps [] (x ∷ log) number line more is e = absurd (nothing (log_line number x) (log_lines (number + 1) log ++ line ∷ more) (sym e))
next_logged [] (y ∷ logs) log number line more is e = absurd is
next_logged (s ∷ steps) (y ∷ logs) [] number line more is e = record {
  logged = y;
  fits = is.0;
  line_is = let n : number ≡ number + 0 = omega arith in head_line line (log_line number y) more (log_lines (number + 1) logs) e ∙ ap (λ (x : ℕ). log_line x y) n;
}
next_logged (s ∷ steps) (y ∷ logs) (x ∷ log) number line more is e =
    let r = next_logged steps logs log (number + 1) line more is.1 (tail_lines (log_line number x) (log_line number y) (log_lines (number + 1) log ++ line ∷ more) (log_lines (number + 1) logs) e) in
    let n : number + 1 + length log ≡ number + suc (length log) = omega arith in
    record { logged = r.logged; fits = r.fits; line_is = r.line_is ∙ ap (λ (z : ℕ). log_line z r.logged) n }

log_length : (number : ℕ) (log : List Logged) → length (log_lines number log) ≡ length log
log_length number [] = refl
log_length number (l ∷ log) = ap suc (log_length (number + 1) log)

abbrev pub plan_lines_of : PlanHead → List Step → List Note → List (List ℕ)
plan_lines_of h steps notes = ((head h ++ map step_line steps) ++ map note_line notes) ++ go_line ∷ []

plan_read : (h : PlanHead) (steps : List Step) (notes : List Note) (text t1 t2 t3 t4 : List ℕ) → BodyRead h steps notes text t1 t2 t3 → t3 ≡ go_line ++ 10 ∷ t4
    → AreLines (plan_lines_of h steps notes) text t4
plan_read h steps notes text t1 t2 t3 t4 r e =
    line_more ((head h ++ map step_line steps) ++ map note_line notes) go_line text t3 t4 (body_lines h steps notes text t1 t2 t3 r) go_is_one_line e

log_shape : (h : PlanHead) (steps : List Step) (notes : List Note) (ls : List (List ℕ))
    → plan_lines_of h steps notes ++ ls ≡ head h ++ (map step_line steps ++ (map note_line notes ++ (go_line ∷ ls)))
log_shape h steps notes ls = append_assoc ((head h ++ map step_line steps) ++ map note_line notes) (go_line ∷ []) ls ∙ regroup3 h steps notes (go_line ∷ ls)

pub bad_log : (h : PlanHead) (steps : List Step) (notes : List Note) (text t1 t2 t3 t4 : List ℕ) (number : ℕ) → PlanHeadRead h text t1
    → ItemsRead (IsStepIn h.numbers.version) step_line step_place steps t1 t2 → ItemsRead (IsNoteIn h.numbers.version) note_line note_place notes t2 t3 → t3 ≡ go_line ++ 10 ∷ t4
    → IsBadLog steps (head_length h + length steps + length notes + 1) t4 number → IsBadJournal text number
bad_log h steps notes text t1 t2 t3 t4 number hr sr nr ge b =
    let v = h.numbers.version in
    let r : BodyRead h steps notes text t1 t2 t3 = record { head_read = hr; steps_read = sr; notes_read = nr.are } in
    let before : List (List ℕ) = plan_lines_of h steps notes ++ log_lines 1 b.before in
    let has = journal_fits h steps notes b.before hr.fits sr.are.fitting nr.are.fitting sr.are.rise nr.are.rise b.are.fits in
    record {
      before = before;
      rest = b.rest;
      lines = more_lines (plan_lines_of h steps notes) (log_lines 1 b.before) text t4 b.rest (plan_read h steps notes text t1 t2 t3 t4 r ge) b.are.lines;
      number_is = b.number_is ∙ omega (
        arith,
        body_length h steps notes,
        log_length 1 b.before,
        length-append (plan_lines_of h steps notes) (log_lines 1 b.before),
        length-append ((head h ++ map step_line steps) ++ map note_line notes) (go_line ∷ []),
      );
      begins = record {
        more = [];
        spelled = record {
          version = v;
          journal = journal_of h steps notes b.before;
          fits = has.fits;
          words = has.words;
          same = append-nil before ∙ log_shape h steps notes (log_lines 1 b.before) ∙ sym (shape v (journal_of h steps notes b.before));
        };
      };
      stops = λ line following one e g.
          let cut = same_cut 10 line b.line following b.following one b.one_line (sym e ∙ b.parts) in
          let tail : List (List ℕ) = log_lines 1 b.before ++ line ∷ g.more in
          let whole : head h ++ (map step_line steps ++ (map note_line notes ++ (go_line ∷ tail))) ≡ (before ++ line ∷ []) ++ g.more =
          sym (log_shape h steps notes tail) ∙ sym (append_assoc (plan_lines_of h steps notes) (log_lines 1 b.before) (line ∷ g.more))
          ∙ sym (append_assoc before (line ∷ []) g.more) in
          let c = continues h (map step_line steps ++ (map note_line notes ++ (go_line ∷ tail))) _
          (none_in_items h steps notes (go_line ∷ tail) (λ no_steps no_notes k next ls x. go_is_no_keyword k (head_line go_line (keyword_line k) tail ls x))) whole g.spelled in
          let j = c.journal in
          let n = no_more_steps v steps (map note_line notes ++ (go_line ∷ tail)) j c.has sr.are.fitting c.tail_is
          (λ y f. notes_begin notes go_line tail y (λ _ x. go_is_no_step y x)) in
          let go = no_more_notes v notes (go_line ∷ tail) j c.has nr.are.fitting n.tail_is (λ y f ls x. go_is_no_note y (head_line go_line (note_line y) tail ls x)) in
          let l = next_logged j.plan.steps j.log b.before 1 line g.more c.has.fits.log (tail_lines go_line go_line tail (log_lines 1 j.log) go) in
          let count : 1 + length b.before ≡ length b.before + 1 = omega arith in
          b.none l.logged (same_fits_at j.plan.steps steps (length b.before) l.logged n.places l.fits)
          (sym cut.front ∙ l.line_is ∙ ap (λ (x : ℕ). log_line x l.logged) count);
      unfinished = λ one s. no_cut 10 b.rest b.line b.following one b.parts;
    }

-- ---- a journal

pub journal_is : (h : PlanHead) (steps : List Step) (notes : List Note) (log : List Logged) (text t1 t2 t3 t4 rest : List ℕ) → PlanHeadRead h text t1
    → ItemsRead (IsStepIn h.numbers.version) step_line step_place steps t1 t2 → ItemsRead (IsNoteIn h.numbers.version) note_line note_place notes t2 t3 → t3 ≡ go_line ++ 10 ∷ t4
    → LogRead steps log t4 rest → JournalText h.numbers.version (journal_of h steps notes log) text rest
journal_is h steps notes log text t1 t2 t3 t4 rest hr sr nr ge lr =
    let r : BodyRead h steps notes text t1 t2 t3 = record { head_read = hr; steps_read = sr; notes_read = nr.are } in
    let has = journal_fits h steps notes log hr.fits sr.are.fitting nr.are.fitting sr.are.rise nr.are.rise lr.are.fits in
    let all = more_lines (plan_lines_of h steps notes) (log_lines 1 log) text t4 rest (plan_read h steps notes text t1 t2 t3 t4 r ge) lr.are.lines in
    record {
      fits = has.fits;
      words = has.words;
      lines = subst (λ (x : List (List ℕ)). AreLines x text rest) (log_shape h steps notes (log_lines 1 log) ∙ sym (shape h.numbers.version (journal_of h steps notes log))) all;
      no_line = lr.no_line;
    }

-- ---- by the fault

pub stops_in_steps : (h : PlanHead) (text t1 : List ℕ) (fault : BookFault) → HasGo text → PlanHeadRead h text t1
    → ReportsItem (IsStepIn h.numbers.version) step_line step_place (head_length h) t1 fault → ReportsJournal text fault
stops_in_steps h text t1 Stopped go hr t = t
stops_in_steps h text t1 (BadState n) go hr t = t
stops_in_steps h text t1 (BadJournal n) go hr t = (go, bad_step h text t1 n hr t)
stops_in_steps h text t1 NoMemory go hr t = tt

pub stops_in_notes : (h : PlanHead) (steps : List Step) (text t1 t2 : List ℕ) (fault : BookFault) → HasGo text → PlanHeadRead h text t1
    → ItemsRead (IsStepIn h.numbers.version) step_line step_place steps t1 t2
    → ReportsItem (IsNoteIn h.numbers.version) note_line note_place (head_length h + length steps) t2 fault → ReportsJournal text fault
stops_in_notes h steps text t1 t2 Stopped go hr sr t = t
stops_in_notes h steps text t1 t2 (BadState n) go hr sr t = t
stops_in_notes h steps text t1 t2 (BadJournal n) go hr sr t = (go, bad_note h steps text t1 t2 n hr sr t)
stops_in_notes h steps text t1 t2 NoMemory go hr sr t = tt

pub stops_in_log : (h : PlanHead) (steps : List Step) (notes : List Note) (text t1 t2 t3 t4 : List ℕ) (fault : BookFault) → HasGo text → PlanHeadRead h text t1
    → ItemsRead (IsStepIn h.numbers.version) step_line step_place steps t1 t2 → ItemsRead (IsNoteIn h.numbers.version) note_line note_place notes t2 t3 → t3 ≡ go_line ++ 10 ∷ t4
    → ReportsLog steps (head_length h + length steps + length notes + 1) t4 fault → ReportsJournal text fault
stops_in_log h steps notes text t1 t2 t3 t4 Stopped go hr sr nr ge t = t
stops_in_log h steps notes text t1 t2 t3 t4 (BadState n) go hr sr nr ge t = t
stops_in_log h steps notes text t1 t2 t3 t4 (BadJournal n) go hr sr nr ge t = (go, bad_log h steps notes text t1 t2 t3 t4 n hr sr nr ge t)
stops_in_log h steps notes text t1 t2 t3 t4 NoMemory go hr sr nr ge t = tt
