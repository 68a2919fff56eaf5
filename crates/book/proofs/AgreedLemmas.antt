-- What a journal says in which no line disagrees.
use Rattle.std.proofs.Common.{◌≡◌, ◌≢◌, ◌∙◌, ℕ, ◌+◌, Bool, true, false, not, ◌&&◌, ◌||◌, ◌==◌, List, [], ◌∷◌, ◌++◌, map, Option, Some, None, position, refl, sym, ap}
use Rattle.std.specs.List.{All, AllByRecursion, AllPairs, list_any, position_from}
use Rattle.std.specs.Option.{option_map, IfNone}
use Rattle.std.proofs.lemmas.List.Elements.{All-nil, All-append, All-weaker, All-from_recursion}
use Rattle.std.proofs.lemmas.List.Kept.{AllPairs-cons}
use Rattle.std.proofs.lemmas.List.Folds.{list_any-append}
use Rattle.std.proofs.lemmas.List.Sums.{AllPass-from_list_all}
use Rattle.std.proofs.lemmas.Bool.{eq-eqb}
use Rattle.rules.proofs.Walks.{AllPairs-nil}
use Rattle.mailcore.specs.Sides.{target}
use Rattle.mailcore.specs.declared.side.Side.{Side}
use Rattle.mailcore.specs.declared.side.Side.TheVariants.{Far, Near}
use Rattle.rules.specs.declared.entry.Entry.{Entry}
use Rattle.rules.specs.declared.plan.Step.{Step}
use Rattle.sync_state.specs.declared.journal.Logged.{Logged}
use Rattle.sync_state.specs.declared.journal.Logged.TheVariants.{Copied, Done, Void}
use Rattle.rules.specs.declared.plan.Step.TheVariants as step
use Rattle.sync_state.specs.declared.journal.Journal.{Journal}
use Rattle.book.specs.Agreement.{first_line, Agrees, disagreement, Copy, IsAgreed, copy_of, copies_of, is_named, is_side, is_source_of, is_taken, lines_agree, log_agrees, note_agrees, step_agrees}
use Rattle.book.proofs.AgreementLemmas.{place_from_zero}

-- ---- tests that all pass

abbrev AllTrue : List Bool → Type 0
AllTrue bs = AllByRecursion (λ b. b ≡ true) bs

none_mapped : (n : ℕ) (r : Option ℕ) → option_map (λ i. i + n) r ≡ None → r ≡ None
none_mapped n None e = refl
none_mapped n (Some i) e = cc

all_true : (k : ℕ) (bs : List Bool) → position_from not k bs ≡ None → AllTrue bs
all_true k [] e = tt
all_true k (true ∷ bs) e = (refl, all_true (k + 1) bs e)
all_true k (false ∷ bs) e = cc

first_true : (xs ys : List Bool) → AllTrue (xs ++ ys) → AllTrue xs
first_true [] ys h = tt
first_true (x ∷ xs) ys h = (h.0, first_true xs ys h.1)

last_true : (xs ys : List Bool) → AllTrue (xs ++ ys) → AllTrue ys
last_true [] ys h = h
last_true (x ∷ xs) ys h = last_true xs ys h.1

each_true : {X : Type 0} (f : X → Bool) (xs : List X) → AllTrue (map f xs) → AllByRecursion (λ x. f x ≡ true) xs
each_true f [] h = tt
each_true f (x ∷ xs) h = (h.0, each_true f xs h.1)

-- ---- UIDs that are taken

not_true : (b : Bool) → not b ≡ true → b ≡ false
not_true true e = sym e
not_true false e = refl

or_first : (a b : Bool) → (a || b) ≡ false → a ≡ false
or_first true b e = e
or_first false b e = refl

or_last : (a b : Bool) → (a || b) ≡ false → b ≡ false
or_last true true e = e
or_last true false e = refl
or_last false b e = e

none_of : (a b c : Bool) → a ≡ false → b ≡ false → c ≡ false → (a || (b || c)) ≡ false
none_of a b c x y z = ap (λ (v : Bool). v || (b || c)) x ∙ ap (λ (v : Bool). v || c) y ∙ z

-- a copy is the one with this side and UID
abbrev is_it : Copy → Copy → Bool
is_it c x = is_side x.0 c.0 && x.1 == c.1

it_is : (c : Copy) → is_it c c ≡ true
it_is c = ap (λ (b : Bool). is_side c.0 c.0 && b) (eq-eqb c.1 c.1 refl) ∙ by_side c.0 where
  by_side : (side : Side) → (is_side side side && true) ≡ true
  by_side Far = refl
  by_side Near = refl

other_copies : (entries : List Entry) (plan : List Step) (copies more : List Copy) (c : Copy) → is_taken entries plan (copies ++ more) c ≡ false
    → (list_any (is_it c) copies || list_any (is_it c) more) ≡ false
other_copies entries plan copies more c h =
    let following = or_last (is_named entries c.0 c.1) _ h in
    sym (list_any-append (is_it c) copies more) ∙ or_last (list_any (is_source_of c.0 c.1) plan) _ following

-- what is not taken after more copies is not taken after these
fewer : (entries : List Entry) (plan : List Step) (copies more : List Copy) (c : Copy) → is_taken entries plan (copies ++ more) c ≡ false → is_taken entries plan copies c ≡ false
fewer entries plan copies more c h =
    let named = is_named entries c.0 c.1 in
    let sources = list_any (is_source_of c.0 c.1) plan in
    let copied = list_any (is_it c) copies in
    none_of named sources copied (or_first named _ h) (or_first sources _ (or_last named _ h)) (or_first copied _ (other_copies entries plan copies more c h))

apart : (entries : List Entry) (plan : List Step) (copies : List Copy) (x c : Copy) → is_taken entries plan (copies ++ x ∷ []) c ≡ false → x ≢ c
apart entries plan copies x c h e =
    let not_it : is_it c x ≡ false = or_first (is_it c x) false (or_last (list_any (is_it c) copies) _ (other_copies entries plan copies (x ∷ []) c h)) in
    let it : is_it c x ≡ true = ap (λ (y : Copy). is_it c y) e ∙ it_is c in
    differ (sym not_it ∙ it) where
      differ : false ≡ true → ⊥
      differ d = cc

-- ---- the log

each_new : (entries : List Entry) (plan : List Step) (copies : List Copy) (steps : List Step) (log : List Logged) → AllTrue (log_agrees entries plan copies steps log)
    → All (λ c. is_taken entries plan copies c ≡ false) (copies_of steps log)
each_new entries plan copies [] log h = All-nil _
each_new entries plan copies (s ∷ steps) [] h = All-nil _
each_new entries plan copies (s ∷ steps) (l ∷ log) h =
    let here : All (λ c. is_taken entries plan copies c ≡ false) (copy_of s l) =
    All-weaker (λ c. not (is_taken entries plan copies c) ≡ true) (λ c. is_taken entries plan copies c ≡ false) (λ c e. not_true (is_taken entries plan copies c) e) (copy_of s l)
    (AllPass-from_list_all (λ c. not (is_taken entries plan copies c)) (copy_of s l) h.0) in
    let later = All-weaker (λ c. is_taken entries plan (copies ++ copy_of s l) c ≡ false) (λ c. is_taken entries plan copies c ≡ false)
    (λ c e. fewer entries plan copies (copy_of s l) c e) (copies_of steps log) (each_new entries plan (copies ++ copy_of s l) steps log h.1) in
    All-append (λ c. is_taken entries plan copies c ≡ false) (copy_of s l) (copies_of steps log) here later

each_once : (entries : List Entry) (plan : List Step) (copies : List Copy) (steps : List Step) (log : List Logged) → AllTrue (log_agrees entries plan copies steps log)
    → AllPairs (λ a b. a ≢ b) (copies_of steps log)
each_once entries plan copies [] log h = AllPairs-nil (λ a b. a ≢ b)
each_once entries plan copies (s ∷ steps) [] h = AllPairs-nil (λ a b. a ≢ b)
each_once entries plan copies (s ∷ steps) (l ∷ log) h = before s l (each_new entries plan (copies ++ copy_of s l) steps log h.1) (each_once entries plan (copies ++ copy_of s l) steps log h.1) where
  before : (s : Step) (l : Logged) → All (λ c. is_taken entries plan (copies ++ copy_of s l) c ≡ false) (copies_of steps log) → AllPairs (λ a b. a ≢ b) (copies_of steps log)
      → AllPairs (λ a b. a ≢ b) (copy_of s l ++ copies_of steps log)
  before (step.New direction uid flags mark) (Copied copy) new once =
      let x : Copy = (target direction, copy) in
      AllPairs-cons (λ a b. a ≢ b) x (copies_of steps log)
      (All-weaker (λ c. is_taken entries plan (copies ++ x ∷ []) c ≡ false) (λ c. x ≢ c) (λ c e. apart entries plan copies x c e) (copies_of steps log) new) once
  before (step.New direction uid flags mark) Done new once = once
  before (step.New direction uid flags mark) Void new once = once
  before (step.Gone direction far near) l new once = once
  before (step.Flags direction far near set cleared) l new once = once
  before (step.Expunge side uid) l new once = once

pub agreed : (entries : List Entry) (j : Journal) → Agrees entries j → IsAgreed entries j
agreed entries j is =
    let A = map (step_agrees entries) j.plan.steps in
    let B = map (note_agrees entries) j.plan.notes in
    let C = true ∷ log_agrees entries j.plan.steps [] j.plan.steps j.log in
    let all = all_true 0 (lines_agree entries j) (sym (place_from_zero not (lines_agree entries j)) ∙ none_mapped (first_line j) (position not (lines_agree entries j)) is) in
    let following = last_true A (B ++ C) all in
    let log = (last_true B C following).1 in
    record {
      steps = All-from_recursion (λ s. step_agrees entries s ≡ true) j.plan.steps (each_true (step_agrees entries) j.plan.steps (first_true A (B ++ C) all));
      notes = All-from_recursion (λ n. note_agrees entries n ≡ true) j.plan.notes (each_true (note_agrees entries) j.plan.notes (first_true B C following));
      new = each_new entries j.plan.steps [] j.plan.steps j.log log;
      once = each_once entries j.plan.steps [] j.plan.steps j.log log;
    }

pub agreed_if_none : (entries : List Entry) (j : Journal) (r : Option ℕ) → r ≡ disagreement entries j → IfNone r (IsAgreed entries j)
agreed_if_none entries j None e = agreed entries j (sym e)
agreed_if_none entries j (Some i) e = tt
