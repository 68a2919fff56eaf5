-- The lines of a journal that begins with those of a head.
use Rattle.std.proofs.Common.{◌≡◌, ◌≢◌, ℕ, ◌<◌, true, false, List, [], ◌∷◌, ◌++◌, length, get_or, drop, map, refl, sym, ap, ◌∙◌, subst, arith, append_assoc, length-append}
use Rattle.std.specs.Prelude.{All, AllPairs}
use Rattle.std.proofs.lemmas.List.{get_or_append_left}
use Rattle.mailcore.specs.declared.keywords.Keyword.{Keyword}
use Rattle.mailcore.specs.KeywordNames.{IsMap, has_name, is_keyword_letter, is_keyword_name}
use Rattle.rules.specs.declared.plan.Step.{Step}
use Rattle.rules.specs.declared.plan.Step.TheVariants as step
use Rattle.rules.specs.declared.plan.Note.{Note}
use Rattle.rules.specs.declared.plan.Note.TheVariants as note
use Rattle.sync_state.specs.declared.journal.Journal.{Journal}
use Rattle.sync_state.specs.declared.journal_read.PlanHead.{PlanHead}
use Rattle.sync_state.specs.declared.version.Version.{Version}
use Rattle.sync_state.specs.declared.version.Version.TheVariants.{One, Two}
use Rattle.sync_state.specs.Versions.{HasKeywords, HasWords}
use Rattle.sync_state.specs.WordLaws.{version-injective}
use Rattle.sync_state.specs.JournalText.{journal_title, keyword_line, plan_head_lines, go_line, log_lines, step_line, note_line, journal_lines, HasJournal, JournalLines}
use Rattle.sync_state.specs.JournalReading.{head, IsStepIn, IsNoteIn, IsNextKeyword}
use Rattle.sync_state.proofs.ItemLemmas.{IsEnd, head_line, tail_lines}
use Rattle.sync_state.proofs.StateLemmas.{nth}

-- ---- the lines of a journal

-- the lines after the steps
abbrev pub notes_on : Journal → List (List ℕ)
notes_on j = map note_line j.plan.notes ++ (go_line ∷ log_lines 1 j.log)

-- the lines after the head
abbrev pub steps_on : Journal → List (List ℕ)
steps_on j = map step_line j.plan.steps ++ notes_on j

pub shape : (v : Version) (j : Journal) → journal_lines v j ≡ plan_head_lines v j.plan ++ steps_on j
shape v j =
    let s = map step_line j.plan.steps in let n = map note_line j.plan.notes in let l = log_lines 1 j.log in
    append_assoc (plan_head_lines v j.plan) ((s ++ n) ++ go_line ∷ []) l
    ∙ ap (λ (x : List (List ℕ)). plan_head_lines v j.plan ++ x)
    (append_assoc (s ++ n) (go_line ∷ []) l ∙ append_assoc s n (go_line ∷ l))

-- a journal that has a text of this version
pub record HasTextIn (v : Version) (j : Journal) : Type 0 where
  pub fits : HasJournal j
  pub words : HasWords v j.plan

pub steps_in : (v : Version) (j : Journal) → HasTextIn v j → All (IsStepIn v) j.plan.steps
steps_in v j has = λ i d below. (has.fits.plan.steps i d below, has.words.steps i d below)

pub notes_in : (v : Version) (j : Journal) → HasTextIn v j → All (IsNoteIn v) j.plan.notes
notes_in v j has = λ i d below. (has.fits.plan.notes i d below, has.words.notes i d below)

-- ---- lines of each kind begin otherwise

first_differs : (x y : List ℕ) (a b : ℕ) → get_or x 0 0 ≡ a → get_or y 0 0 ≡ b → a ≢ b → x ≢ y
first_differs x y a b ia ib other e = other (sym ia ∙ ap (λ (z : List ℕ). get_or z 0 0) e ∙ ib)

step_begins : (s : Step) → get_or (step_line s) 0 0 ≡ 115
step_begins (step.New d u w m) = refl
step_begins (step.Gone d f n) = refl
step_begins (step.Flags d f n s c) = refl
step_begins (step.Expunge side u) = refl

note_begins : (n : Note) → get_or (note_line n) 0 0 ≡ 110
note_begins (note.Record f n w) = refl
note_begins (note.Drop f n) = refl

pub note_is_no_step : (n : Note) (s : Step) → note_line n ≢ step_line s
note_is_no_step n s = first_differs (note_line n) (step_line s) 110 115 (note_begins n) (step_begins s) (λ h. absurd (omega (arith, h)))

pub go_is_no_step : (s : Step) → go_line ≢ step_line s
go_is_no_step s = first_differs go_line (step_line s) 103 115 refl (step_begins s) (λ h. absurd (omega (arith, h)))

pub go_is_no_note : (n : Note) → go_line ≢ note_line n
go_is_no_note n = first_differs go_line (note_line n) 103 110 refl (note_begins n) (λ h. absurd (omega (arith, h)))

pub step_is_no_keyword : (s : Step) (k : Keyword) → step_line s ≢ keyword_line k
step_is_no_keyword s k = first_differs (step_line s) (keyword_line k) 115 107 (step_begins s) refl (λ h. absurd (omega (arith, h)))

pub note_is_no_keyword : (n : Note) (k : Keyword) → note_line n ≢ keyword_line k
note_is_no_keyword n k = first_differs (note_line n) (keyword_line k) 110 107 (note_begins n) refl (λ h. absurd (omega (arith, h)))

pub go_is_no_keyword : (k : Keyword) → go_line ≢ keyword_line k
go_is_no_keyword k = first_differs go_line (keyword_line k) 103 107 refl refl (λ h. absurd (omega (arith, h)))

-- some lines, and lines after them, do not begin with this line
pub others_first : {A : Type 0} (line : A → List ℕ) (xs : List A) (tail : List (List ℕ)) (l : List ℕ) → ((x : A) → line x ≢ l)
    → (xs ≡ [] → (ls : List (List ℕ)) → tail ≢ l ∷ ls) → (ls : List (List ℕ)) → map line xs ++ tail ≢ l ∷ ls
others_first line [] tail l other following ls e = following refl ls e
others_first line (x ∷ xs) tail l other following ls e = other x (head_line (line x) l (map line xs ++ tail) ls e)

-- ---- what follows keywords, steps and notes

pub end_of_steps : (fits : Step → Type 0) (notes : List Note) (more : List (List ℕ)) → IsEnd fits step_line (map note_line notes ++ (go_line ∷ more))
end_of_steps fits [] more = record { first = go_line; others = more; same = refl; foreign = λ s f. go_is_no_step s }
end_of_steps fits (n ∷ notes) more = record { first = note_line n; others = map note_line notes ++ (go_line ∷ more); same = refl; foreign = λ s f. note_is_no_step n s }

pub end_of_notes : (fits : Note → Type 0) (more : List (List ℕ)) → IsEnd fits note_line (go_line ∷ more)
end_of_notes fits more = record { first = go_line; others = more; same = refl; foreign = λ n f. go_is_no_note n }

abbrev pub Any : Keyword → Type 0
Any k = Unit {0}

end_after_steps : (notes : List Note) (more : List (List ℕ)) → IsEnd Any keyword_line (map note_line notes ++ (go_line ∷ more))
end_after_steps [] more = record { first = go_line; others = more; same = refl; foreign = λ k f. go_is_no_keyword k }
end_after_steps (n ∷ notes) more = record { first = note_line n; others = map note_line notes ++ (go_line ∷ more); same = refl; foreign = λ k f. note_is_no_keyword n k }

pub end_of_keywords : (steps : List Step) (notes : List Note) (more : List (List ℕ)) → IsEnd Any keyword_line (map step_line steps ++ (map note_line notes ++ (go_line ∷ more)))
end_of_keywords [] notes more = end_after_steps notes more
end_of_keywords (s ∷ steps) notes more = record {
  first = step_line s;
  others = map step_line steps ++ (map note_line notes ++ (go_line ∷ more));
  same = refl;
  foreign = λ k f. step_is_no_keyword s k;
}

-- ---- keywords

pub keyword_known : (a b : Keyword) → keyword_line a ≡ keyword_line b → a ≡ b
keyword_known a b e =
    let letter : a.letter ≡ b.letter = ap (λ (x : List ℕ). get_or x 2 0) e in
    let name : a.name ≡ b.name = ap (λ (x : List ℕ). drop 4 x) e in
    ap (λ (x : ℕ). let k : Keyword = record { letter = x; name = a.name } in k) letter ∙ ap (λ (x : List ℕ). let k : Keyword = record { letter = b.letter; name = x } in k) name

-- keywords after others, up to the end
record Following (all before : List Keyword) (end tail : List (List ℕ)) : Type 0 where
  after : List Keyword
  same : all ≡ before ++ after
  tail_is : tail ≡ map keyword_line after ++ end

following : (all before : List Keyword) (end tail : List (List ℕ)) → IsEnd Any keyword_line end
    → map keyword_line before ++ tail ≡ map keyword_line all ++ end → Following all before end tail
following all [] end tail is e = record { after = all; same = refl; tail_is = e }
following [] (b ∷ bs) end tail is e =
    absurd (is.foreign b tt (sym (head_line (keyword_line b) is.first (map keyword_line bs ++ tail) is.others (e ∙ is.same))))
following (a ∷ all) (b ∷ bs) end tail is e =
    let first = keyword_known b a (head_line (keyword_line b) (keyword_line a) (map keyword_line bs ++ tail) (map keyword_line all ++ end) e) in
    let r = following all bs end tail is (tail_lines (keyword_line b) (keyword_line a) (map keyword_line bs ++ tail) (map keyword_line all ++ end) e) in
    record { after = r.after; same = ap (λ (x : Keyword). x ∷ all) (sym first) ∙ ap (λ (x : List Keyword). b ∷ x) r.same; tail_is = r.tail_is }

-- the first keywords of a map are a map
first_of_map : (xs ys : List Keyword) → IsMap (xs ++ ys) → IsMap xs
first_of_map xs ys m = record {
  letters = all_first (λ k. is_keyword_letter k.letter ≡ true) m.letters;
  rising = pairs_first (λ a b. a.letter < b.letter) m.rising;
  names = all_first (λ k. is_keyword_name k.name ≡ true) m.names;
  apart = pairs_first (λ a b. has_name b.name a ≡ false) m.apart;
} where
  within : (i : ℕ) → i < length xs → i < length (xs ++ ys)
  within i below = omega (arith, below, length-append xs ys)

  all_first : (P : Keyword → Type 0) → All P (xs ++ ys) → All P xs
  all_first P h = λ i d below. subst P (get_or_append_left xs ys d i below) (h i d (within i below))

  pairs_first : (R : Keyword → Keyword → Type 0) → AllPairs R (xs ++ ys) → AllPairs R xs
  pairs_first R h = λ i j d less below.
      let first = get_or_append_left xs ys d i (omega (arith, less, below)) in
      let second = get_or_append_left xs ys d j below in
      subst (λ (x : Keyword). R x (get_or xs j d)) first (subst (λ (y : Keyword). R (get_or (xs ++ ys) i d) y) second (h i j d less (within j below)))

next_keyword : (v : Version) (xs : List Keyword) (k : Keyword) (more : List Keyword) → IsMap (xs ++ k ∷ more) → HasKeywords v (xs ++ k ∷ more) → IsNextKeyword v xs k
next_keyword v xs k more m words = record {
  map_is = first_of_map (xs ++ k ∷ []) more (subst (λ (z : List Keyword). IsMap z) (sym (append_assoc xs (k ∷ []) more)) m);
  words = by_version v words;
} where
  by_version : (u : Version) → HasKeywords u (xs ++ k ∷ more) → HasKeywords u (xs ++ k ∷ [])
  by_version One none = absurd (some xs none) where
    some : (ys : List Keyword) → ys ++ k ∷ more ≢ []
    some [] e = cc
    some (y ∷ ys) e = cc
  by_version Two none = tt

-- ---- a journal that goes on after a head

-- no keyword may stand next, and have the first of these lines
abbrev pub NoneNext : PlanHead → List (List ℕ) → Type 0
NoneNext h tail = (k : Keyword) → IsNextKeyword h.numbers.version h.keywords k → (ls : List (List ℕ)) → tail ≢ keyword_line k ∷ ls

-- a journal with this head, and these lines after it
pub record Continues (h : PlanHead) (tail : List (List ℕ)) : Type 0 where
  pub journal : Journal
  pub has : HasTextIn h.numbers.version journal
  pub tail_is : tail ≡ steps_on journal

pub continues : (h : PlanHead) (tail lines : List (List ℕ)) → NoneNext h tail → head h ++ tail ≡ lines → JournalLines lines → Continues h tail
continues h tail lines none e s =
    let j = s.journal in
    let v = h.numbers.version in
    let same : head h ++ tail ≡ plan_head_lines s.version j.plan ++ steps_on j = e ∙ (s.same ∙ shape s.version j) in
    let title : journal_title s.version ≡ journal_title v = sym (nth 0 (head h ++ tail) (plan_head_lines s.version j.plan ++ steps_on j) same) in
    let version : s.version ≡ v = version-injective s.version v (ap (λ (x : List ℕ). drop 8 x) title) in
    let words : HasWords v j.plan = subst (λ (u : Version). HasWords u j.plan) version s.words in
    let b = following j.plan.keywords h.keywords (steps_on j) tail (end_of_keywords j.plan.steps j.plan.notes (log_lines 1 j.log)) (ap (λ (x : List (List ℕ)). drop 4 x) same) in
    by_after j (record { fits = s.fits; words = words }) b.after b.same b.tail_is where
      by_after : (j : Journal) → HasTextIn h.numbers.version j → (after : List Keyword) → j.plan.keywords ≡ h.keywords ++ after → tail ≡ map keyword_line after ++ steps_on j → Continues h tail
      by_after j has [] keywords tail_is = record { journal = j; has = has; tail_is = tail_is }
      by_after j has (k ∷ more) keywords tail_is =
          let next = next_keyword h.numbers.version h.keywords k more (subst (λ (z : List Keyword). IsMap z) keywords has.fits.plan.keywords)
          (subst (λ (z : List Keyword). HasKeywords h.numbers.version z) keywords has.words.keywords) in
          absurd (none k next (map keyword_line more ++ steps_on j) tail_is)

-- ---- what is not next

-- steps, and a line after them that is no keyword
pub none_in_steps : (h : PlanHead) (steps : List Step) (line : List ℕ) (more : List (List ℕ)) → ((k : Keyword) → line ≢ keyword_line k) → NoneNext h (map step_line steps ++ line ∷ more)
none_in_steps h steps line more other k next ls =
    others_first step_line steps (line ∷ more) (keyword_line k) (λ s. step_is_no_keyword s k) (λ empty more_ls e. other k (head_line line (keyword_line k) more more_ls e)) ls

-- steps, notes, and lines after them that do not begin with a keyword where there are neither
pub none_in_items : (h : PlanHead) (steps : List Step) (notes : List Note) (tail : List (List ℕ)) → (steps ≡ [] → notes ≡ [] → NoneNext h tail)
    → NoneNext h (map step_line steps ++ (map note_line notes ++ tail))
none_in_items h steps notes tail after_both k next ls =
    others_first step_line steps (map note_line notes ++ tail) (keyword_line k) (λ s. step_is_no_keyword s k) (λ no_steps.
    others_first note_line notes tail (keyword_line k) (λ n. note_is_no_keyword n k) (λ no_notes. after_both no_steps no_notes k next)) ls
