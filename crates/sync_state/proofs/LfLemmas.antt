-- No line of a journal has an LF inside.
use Rattle.std.proofs.Common.{◌≡◌, ◌≢◌, ℕ, ◌<◌, ◌^◌, true, false, cond, List, [], ◌∷◌, ◌++◌, map, length, get_or, Option, Some, None, refl, sym, subst, arith, append_assoc}
use Rattle.std.specs.Prelude.{All, ◌==◌, ◌&&◌, nat_le, is_none, codes, decimal, unwrap_or}
use Rattle.std.specs.List.{list_all}
use Rattle.std.proofs.lemmas.Bool.{false≢true, and_parts}
use Rattle.std.proofs.lemmas.List.Elements.{All-nil, All-cons, All-push, All-append, All-map, All-weaker}
use Rattle.std.proofs.lemmas.List.Sums.{AllPass-from_list_all}
use Rattle.mailcore.specs.declared.keywords.Keyword.{Keyword}
use Rattle.mailcore.specs.AtomBytes.{is_atom, is_atom_byte}
use Rattle.mailcore.specs.FlagNames.{letters_of, flag_named}
use Rattle.mailcore.specs.KeywordNames.{IsMap, is_keyword_letter, is_keyword_name}
use Rattle.mailcore.specs.Mark.{IsMark, is_mark_char, MARK_LENGTH}
use Rattle.mailcore.specs.declared.side.Direction.{Direction}
use Rattle.mailcore.specs.declared.side.Direction.TheVariants.{Pull, Push}
use Rattle.mailcore.specs.declared.side.Side.{Side}
use Rattle.mailcore.specs.declared.side.Side.TheVariants.{Far, Near}
use Rattle.rules.specs.declared.plan.Step.{Step}
use Rattle.rules.specs.declared.plan.Step.TheVariants as step
use Rattle.rules.specs.declared.plan.Note.{Note}
use Rattle.rules.specs.declared.plan.Note.TheVariants as note
use Rattle.rules.specs.declared.plan.Plan.{Plan}
use Rattle.rules.specs.declared.plan.PlanSide.{PlanSide}
use Rattle.sync_state.specs.declared.version.Version.{Version}
use Rattle.sync_state.specs.declared.version.Version.TheVariants.{One, Two}
use Rattle.sync_state.specs.declared.journal.Logged.{Logged}
use Rattle.sync_state.specs.declared.journal.Logged.TheVariants.{Copied, Done, Void}
use Rattle.mailcore.specs.Words.{flags_word, direction_word, side_word}
use Rattle.sync_state.specs.Words.{IsUid, IsUidOrNone}
use Rattle.sync_state.specs.WordLaws.{decimal-lacks, letters-lack}
use Rattle.sync_state.specs.Lines.{OneLine}
use Rattle.sync_state.specs.StateText.{run_line}
use Rattle.sync_state.specs.JournalText.{journal_title, plan_side_text, plan_far_line, plan_near_line, plan_head_lines, plan_lines, go_line, keyword_line, change, step_line, note_line, log_line, IsPlanSide, IsPlan, IsStep, IsNote, FitsStep}
use Rattle.sync_state.proofs.StateLemmas.{lacks_lf}
use Rattle.sync_state.proofs.GoLemmas.{go_is_one_line}

-- a character that is no LF
abbrev IsInside : ℕ → Type 0
IsInside b = b ≢ 10

-- ---- words

uid : (u : ℕ) → IsUid u → OneLine (decimal u)
uid u is = decimal-lacks 10 (omega arith) u (omega (arith, is.below_last))

pub uid_or_none : (u : Option ℕ) → IsUidOrNone u → OneLine (decimal (unwrap_or u 0))
uid_or_none None is = decimal-lacks 10 (omega arith) 0 (omega arith)
uid_or_none (Some u) is = uid u is

pub flags : (f : ℕ) → OneLine (flags_word f)
flags f = elim (f == 0) as (λ b. OneLine (cond b (codes "-") (letters_of f))) [
  | true ↦ lacks_lf (codes "-") refl
  | false ↦ letters-lack 10 (omega arith) f
]

direction : (d : Direction) → OneLine (direction_word d)
direction Pull = lacks_lf (direction_word Pull) refl
direction Push = lacks_lf (direction_word Push) refl

side : (s : Side) → OneLine (side_word s)
side Far = lacks_lf (side_word Far) refl
side Near = lacks_lf (side_word Near) refl

mark : (m : List ℕ) → IsMark m → OneLine m
mark m is =
    let chars : list_all is_mark_char m ≡ true = (and_parts (length m == MARK_LENGTH) (list_all is_mark_char m) is).1 in
    All-weaker (λ b. is_mark_char b ≡ true) IsInside (λ b t e. let none : is_mark_char 10 ≡ true = subst (λ (x : ℕ). is_mark_char x ≡ true) e t in false≢true none) m (AllPass-from_list_all is_mark_char m chars)

changed : (sign f : ℕ) → sign ≢ 10 → OneLine (change sign f)
changed sign f other = elim (f == 0) as (λ b. OneLine (cond b [] (32 ∷ sign ∷ letters_of f))) [
  | true ↦ All-nil IsInside
  | false ↦ All-cons IsInside 32 (sign ∷ letters_of f) (λ e. absurd (omega (arith, e))) (All-cons IsInside sign (letters_of f) other (letters-lack 10 (omega arith) f))
]

-- two words with a space between
pub spaced : (a b : List ℕ) → OneLine a → OneLine b → OneLine (a ++ 32 ∷ b)
spaced a b la lb = All-append IsInside a (32 ∷ b) la (All-cons IsInside 32 b (λ e. absurd (omega (arith, e))) lb)

pub following : (start a : List ℕ) → OneLine start → OneLine a → OneLine (start ++ a)
following start a ls la = All-append IsInside start a ls la

-- ---- lines

side_text : (s : PlanSide) → IsPlanSide s → OneLine (plan_side_text s)
side_text s is = spaced (decimal s.validity) (decimal s.highest ++ 32 ∷ decimal s.next) (decimal-lacks 10 (omega arith) s.validity (omega (arith, is.validity.fits)))
    (spaced (decimal s.highest) (decimal s.next) (decimal-lacks 10 (omega arith) s.highest (omega (arith, is.highest))) (decimal-lacks 10 (omega arith) s.next (omega (arith, is.next.fits))))

title : (v : Version) → OneLine (journal_title v)
title One = lacks_lf (journal_title One) refl
title Two = lacks_lf (journal_title Two) refl

atom : (name : List ℕ) → is_atom name ≡ true → OneLine name
atom name is =
    let bytes : list_all is_atom_byte name ≡ true = (and_parts (nat_le 1 (length name) && nat_le (length name) 255) (list_all is_atom_byte name) is).1 in
    All-weaker (λ b. is_atom_byte b ≡ true) IsInside (λ b t e. let none : is_atom_byte 10 ≡ true = subst (λ (x : ℕ). is_atom_byte x ≡ true) e t in false≢true none) name (AllPass-from_list_all is_atom_byte name bytes)

pub keyword_is_one_line : (k : Keyword) → is_keyword_letter k.letter ≡ true → is_keyword_name k.name ≡ true → OneLine (keyword_line k)
keyword_is_one_line k letter name =
    let inside : IsInside k.letter = λ e. let none : is_keyword_letter 10 ≡ true = subst (λ (x : ℕ). is_keyword_letter x ≡ true) e letter in false≢true none in
    following (codes "k ") (k.letter ∷ 32 ∷ k.name) (lacks_lf (codes "k ") refl)
    (All-cons IsInside k.letter (32 ∷ k.name) inside
    (All-cons IsInside 32 k.name (λ e. absurd (omega (arith, e))) (atom k.name (and_parts (is_atom k.name) (is_none (flag_named k.name)) name).0)))

pub keywords_are_lines : (keywords : List Keyword) → IsMap keywords → All OneLine (map keyword_line keywords)
keywords_are_lines keywords is =
    All-map OneLine keyword_line keywords (λ i d below. keyword_is_one_line (get_or keywords i d) (is.letters i d below) (is.names i d below))

head_lines : (v : Version) (p : Plan) → IsPlan p → All OneLine (plan_head_lines v p)
head_lines v p is =
    let keywords : List (List ℕ) = map keyword_line p.keywords in
    All-cons OneLine (journal_title v) (run_line p.run ∷ plan_far_line p.far ∷ plan_near_line p.near ∷ keywords) (title v)
    (All-cons OneLine (run_line p.run) (plan_far_line p.far ∷ plan_near_line p.near ∷ keywords) (following (codes "run ") (decimal p.run) (lacks_lf (codes "run ") refl) (decimal-lacks 10 (omega arith) p.run is.run))
    (All-cons OneLine (plan_far_line p.far) (plan_near_line p.near ∷ keywords) (following (codes "far ") (plan_side_text p.far) (lacks_lf (codes "far ") refl) (side_text p.far is.far))
    (All-cons OneLine (plan_near_line p.near) keywords (following (codes "near ") (plan_side_text p.near) (lacks_lf (codes "near ") refl) (side_text p.near is.near)) (keywords_are_lines p.keywords is.keywords))))

step_is_one_line : (s : Step) → IsStep s → OneLine (step_line s)
step_is_one_line (step.New d u f m) is =
    following (codes "s new ") (direction_word d ++ 32 ∷ (decimal u ++ 32 ∷ (flags_word f ++ 32 ∷ m))) (lacks_lf (codes "s new ") refl)
    (spaced (direction_word d) (decimal u ++ 32 ∷ (flags_word f ++ 32 ∷ m)) (direction d)
    (spaced (decimal u) (flags_word f ++ 32 ∷ m) (uid u is.0) (spaced (flags_word f) m (flags f) (mark m is.2))))
step_is_one_line (step.Gone d far near) is =
    following (codes "s gone ") (direction_word d ++ 32 ∷ (decimal far ++ 32 ∷ decimal near)) (lacks_lf (codes "s gone ") refl)
    (spaced (direction_word d) (decimal far ++ 32 ∷ decimal near) (direction d) (spaced (decimal far) (decimal near) (uid far is.0) (uid near is.1)))
step_is_one_line (step.Flags d far near set cleared) is =
    following (codes "s flags ") (direction_word d ++ 32 ∷ (decimal far ++ 32 ∷ (decimal near ++ (change 43 set ++ change 45 cleared)))) (lacks_lf (codes "s flags ") refl)
    (spaced (direction_word d) (decimal far ++ 32 ∷ (decimal near ++ (change 43 set ++ change 45 cleared))) (direction d)
    (spaced (decimal far) (decimal near ++ (change 43 set ++ change 45 cleared)) (uid far is.0)
    (following (decimal near) (change 43 set ++ change 45 cleared) (uid near is.1)
    (following (change 43 set) (change 45 cleared) (changed 43 set (λ e. absurd (omega (arith, e)))) (changed 45 cleared (λ e. absurd (omega (arith, e))))))))
step_is_one_line (step.Expunge s u) is =
    following (codes "s expunge ") (side_word s ++ 32 ∷ decimal u) (lacks_lf (codes "s expunge ") refl) (spaced (side_word s) (decimal u) (side s) (uid u is))

note_is_one_line : (n : Note) → IsNote n → OneLine (note_line n)
note_is_one_line (note.Record far near f) is =
    following (codes "n record ") (decimal far ++ 32 ∷ (decimal near ++ 32 ∷ flags_word f)) (lacks_lf (codes "n record ") refl)
    (spaced (decimal far) (decimal near ++ 32 ∷ flags_word f) (uid far is.0) (spaced (decimal near) (flags_word f) (uid near is.1) (flags f)))
note_is_one_line (note.Drop far near) is =
    following (codes "n drop ") (decimal (unwrap_or far 0) ++ 32 ∷ decimal (unwrap_or near 0)) (lacks_lf (codes "n drop ") refl)
    (spaced (decimal (unwrap_or far 0)) (decimal (unwrap_or near 0)) (uid_or_none far is.0) (uid_or_none near is.1))

-- the lines of a plan but its last
abbrev pub before_go : Version → Plan → List (List ℕ)
before_go v p = plan_head_lines v p ++ (map step_line p.steps ++ map note_line p.notes)

pub before_go_is_lines : (v : Version) (p : Plan) → IsPlan p → All OneLine (before_go v p)
before_go_is_lines v p is =
    All-append OneLine (plan_head_lines v p) (map step_line p.steps ++ map note_line p.notes) (head_lines v p is)
    (All-append OneLine (map step_line p.steps) (map note_line p.notes)
    (All-map OneLine step_line p.steps (All-weaker IsStep (λ s. OneLine (step_line s)) step_is_one_line p.steps is.steps))
    (All-map OneLine note_line p.notes (All-weaker IsNote (λ n. OneLine (note_line n)) note_is_one_line p.notes is.notes)))

pub last_is_go : (v : Version) (p : Plan) → plan_lines v p ≡ before_go v p ++ go_line ∷ []
last_is_go v p = sym (append_assoc (plan_head_lines v p) (map step_line p.steps ++ map note_line p.notes) (go_line ∷ []))

pub plan_is_lines : (v : Version) (p : Plan) → IsPlan p → All OneLine (plan_lines v p)
plan_is_lines v p is = subst (λ (ls : List (List ℕ)). All OneLine ls) (sym (last_is_go v p)) (All-push OneLine (before_go v p) go_line (before_go_is_lines v p is) go_is_one_line)

-- a line that logs a step
pub log_line_is_one_line : (s : Step) (l : Logged) (number : ℕ) → number < 2 ^ 64 → FitsStep s l → OneLine (log_line number l)
log_line_is_one_line (step.New d u f m) (Copied copy) number small fits =
    following (codes "d ") (decimal number ++ 32 ∷ decimal copy) (lacks_lf (codes "d ") refl) (spaced (decimal number) (decimal copy) (decimal-lacks 10 (omega arith) number small) (uid copy fits))
log_line_is_one_line (step.Gone d far near) (Copied copy) number small fits = absurd fits
log_line_is_one_line (step.Flags d far near set cleared) (Copied copy) number small fits = absurd fits
log_line_is_one_line (step.Expunge e u) (Copied copy) number small fits = absurd fits
log_line_is_one_line s Done number small fits =
    following (codes "d ") (decimal number) (lacks_lf (codes "d ") refl) (decimal-lacks 10 (omega arith) number small)
log_line_is_one_line s Void number small fits =
    following (codes "v ") (decimal number) (lacks_lf (codes "v ") refl) (decimal-lacks 10 (omega arith) number small)
