-- The gone steps of a plan against the rule of gone, entry by entry.
use Rattle.std.proofs.Common.{◌≡◌, ℕ, Bool, true, false, cond, List, [], ◌∷◌, ◌++◌, Option, Some, None, refl, sym, ap, ◌∙◌, subst, inl, inr}
use Rattle.std.specs.Prelude.{All, Contains, ◌&&◌, ◌||◌, not, is_some}
use Rattle.std.proofs.lemmas.Bool.{cases_Bool, both_ways, false≢true, and_parts, false_from_ne_true, not-true}
use Rattle.std.proofs.lemmas.List.Elements.{All-append, All-contains}
use Rattle.mailcore.specs.declared.side.Side.{Side}
use Rattle.mailcore.specs.declared.side.Side.TheVariants.{Far, Near}
use Rattle.mailcore.specs.declared.side.Direction.{Direction}
use Rattle.mailcore.specs.declared.side.Direction.TheVariants.{Pull, Push}
use Rattle.mailcore.specs.Sides.{source, target}
use Rattle.rules.specs.declared.entry.Entry.{Entry}
use Rattle.rules.specs.declared.plan.Step.{Step}
use Rattle.rules.specs.declared.plan.Step.TheVariants.{New, Gone, Flags, Expunge}
use Rattle.rules.specs.Options.{goes}
use Rattle.rules.specs.Entries.{ArePairs, uid_of, uids_of, is_full, has_a_side}
use Rattle.rules.specs.Scene.{Scene, items, is_listed, full_entry}
use Rattle.rules.specs.Called.{is_gone}
use Rattle.rules.specs.Outcome.{news, entry_after}
use Rattle.planner.specs.Written.{new_steps, gone_between, gone_by, gone_step, flags_step, expunge_step, gone_steps, flags_steps, expunge_steps, all_new, all_steps}
use Rattle.rules.proofs.Walks.{Contains-first, Contains-rest, Contains-cases, Contains-none, All-filter_map, Contains-filter_map, list_any_from, list_any_some}
use Rattle.rules.proofs.LookUps.{full_far, full_near, full_uids, full_found, full_only, far_only, listed_item}
use Rattle.planner.proofs.Following.{new_steps_all, gone_given, flags_given, expunge_given}
use Rattle.book.specs.Committed.{says_gone, is_gone as steps_gone}
use Rattle.law_outcome.proofs.Noted.{is_pair_says, is_pair_from}

-- ---- what the rule says

pub record IsGone (s : Scene) (d : Direction) (e : Entry) : Type 0 where
  pub full : is_full e ≡ true
  pub gone : is_listed s (source d) (uid_of (source d) e) ≡ false
  pub left : is_listed s (target d) (uid_of (target d) e) ≡ true

pub gone_says : (s : Scene) (d : Direction) (e : Entry) → is_gone s d e ≡ true → IsGone s d e
gone_says s d e h =
    let on : Bool = goes s.options.cells.gone d in
    let there : Bool = is_listed s (source d) (uid_of (source d) e) in
    let a = and_parts (on && is_full e && not there) (is_listed s (target d) (uid_of (target d) e)) h in
    let b = and_parts (on && is_full e) (not there) a.0 in
    record { full = (and_parts on (is_full e) b.0).1; gone = not-true there b.1; left = a.1 }

-- ---- no other step says that a message has gone

abbrev Says : Scene → Direction → Entry → Step → Type 0
Says s d e st = says_gone d e st ≡ true → is_gone s d e ≡ true

new_says : (s : Scene) (d : Direction) (e : Entry) (by : Direction) (u flags : ℕ) (mark : List ℕ) → Says s d e (New by u flags mark)
new_says s Pull e by u flags mark h = absurd (false≢true h)
new_says s Push e by u flags mark h = absurd (false≢true h)

flags_says : (s : Scene) (d : Direction) (e : Entry) (by : Direction) (f n set cleared : ℕ) → Says s d e (Flags by f n set cleared)
flags_says s Pull e by f n set cleared h = absurd (false≢true h)
flags_says s Push e by f n set cleared h = absurd (false≢true h)

expunge_says : (s : Scene) (d : Direction) (e : Entry) (at : Side) (u : ℕ) → Says s d e (Expunge at u)
expunge_says s Pull e at u h = absurd (false≢true h)
expunge_says s Push e at u h = absurd (false≢true h)

-- a gone step is of its own entry alone
gone_of_own : (s : Scene) → ArePairs s.entries → (d : Direction) (e y : Entry) → Contains s.entries e → Contains s.entries y → is_gone s d y ≡ true → (far : e.far ≡ Some (uid_of Far y)) → is_gone s d e ≡ true
gone_of_own s pairs d e y c k gone far =
    subst (λ (x : Entry). is_gone s d x ≡ true) (far_only s.entries pairs e y (uid_of Far y) c k far (full_far y (gone_says s d y gone).full)) gone

gone_step_says : (s : Scene) → ArePairs s.entries → (d by : Direction) (e y : Entry) → Contains s.entries e → Contains s.entries y → is_gone s by y ≡ true → Says s d e (Gone by (uid_of Far y) (uid_of Near y))
gone_step_says s pairs Pull Pull e y c k gone h = gone_of_own s pairs Pull e y c k gone (is_pair_says (Some (uid_of Far y)) (Some (uid_of Near y)) e h).0
gone_step_says s pairs Push Push e y c k gone h = gone_of_own s pairs Push e y c k gone (is_pair_says (Some (uid_of Far y)) (Some (uid_of Near y)) e h).0
gone_step_says s pairs Pull Push e y c k gone h = absurd (false≢true h)
gone_step_says s pairs Push Pull e y c k gone h = absurd (false≢true h)

all_say : (s : Scene) → ArePairs s.entries → (marks : List (List ℕ)) (d : Direction) (e : Entry) → Contains s.entries e → All (λ st. says_gone d e st ≡ true → is_gone s d e ≡ true) (all_steps s marks)
all_say s pairs marks d e c =
    let P : Step → Type 0 = Says s d e in
    All-append P _ _ (All-append P _ _ (All-append P _ _ (All-append P _ _ (All-append P _ _ (All-append P _ _
    (All-append P _ _ (new Pull _) (new Push _))
    (gone Pull)) (gone Push)) (flags Pull)) (flags Push)) (expunge Far)) (expunge Near)
  where
    new : (by : Direction) (ms : List (List ℕ)) → All (Says s d e) (new_steps by (news s by) ms)
    new by ms = new_steps_all (Says s d e) by (news s by) ms (λ i k m. new_says s d e by i.uid i.flags m)

    gone : (by : Direction) → All (Says s d e) (gone_steps s by)
    gone by =
        All-filter_map (Says s d e) (gone_step s by) (items s (target by))
        (λ i k st h. let r = gone_given s by i st h in subst (Says s d e) r.3 (gone_step_says s pairs d by e r.0 c (full_found s (target by) i.uid r.0 r.1).0 r.2))

    flags : (by : Direction) → All (Says s d e) (flags_steps s by)
    flags by = All-filter_map (Says s d e) (flags_step s by) s.entries (λ x k st h. let r = flags_given s by x st h in subst (Says s d e) r.4 (flags_says s d e by r.0.far r.0.near _ _))

    expunge : (at : Side) → All (Says s d e) (expunge_steps s at)
    expunge at = All-filter_map (Says s d e) (expunge_step s at) (items s at) (λ i k st h. let r = expunge_given s at i st h in subst (Says s d e) r.1 (expunge_says s d e at i.uid))

-- ---- and the step of the entry says so

pub before_those : {X : Type 0} (xs ys : List X) (y : X) → Contains xs y → Contains (xs ++ ys) y
before_those [] ys y c = absurd (Contains-none y c)
before_those (x ∷ xs) ys y c = elim (Contains-cases x y xs c) [
  | inl same ↦ subst (λ z. Contains (x ∷ xs ++ ys) z) same (Contains-first x (xs ++ ys))
  | inr rest ↦ Contains-rest x y (xs ++ ys) (before_those xs ys y rest)
]

after_those : {X : Type 0} (xs ys : List X) (y : X) → Contains ys y → Contains (xs ++ ys) y
after_those [] ys y c = c
after_those (x ∷ xs) ys y c = Contains-rest x y (xs ++ ys) (after_those xs ys y c)

among_steps : (s : Scene) (marks : List (List ℕ)) (d : Direction) (st : Step) → Contains (gone_steps s d) st → Contains (all_steps s marks) st
among_steps s marks Pull st c =
    before_those _ (expunge_steps s Near) st (before_those _ (expunge_steps s Far) st (before_those _ (flags_steps s Push) st (before_those _ (flags_steps s Pull) st (before_those _ (gone_steps s Push) st
    (after_those (all_new s marks) (gone_steps s Pull) st c)))))
among_steps s marks Push st c =
    before_those _ (expunge_steps s Near) st (before_those _ (expunge_steps s Far) st (before_those _ (flags_steps s Push) st (before_those _ (flags_steps s Pull) st
    (after_those (all_new s marks ++ gone_steps s Pull) (gone_steps s Push) st c))))

own_gone_step : (s : Scene) → ArePairs s.entries → (d : Direction) (e : Entry) → Contains s.entries e → is_gone s d e ≡ true → Contains (gone_steps s d) (Gone d (uid_of Far e) (uid_of Near e))
own_gone_step s pairs d e c h =
    let g = gone_says s d e h in
    let i = listed_item (items s (target d)) (uid_of (target d) e) g.left in
    let found : full_entry s (target d) i.0.uid ≡ Some e = ap (λ u. full_entry s (target d) u) i.2 ∙ full_only s (target d) pairs e c g.full in
    Contains-filter_map (gone_step s d) (items s (target d)) i.0 (Gone d (uid_of Far e) (uid_of Near e)) i.1
    (ap (λ o. gone_by s d o) found ∙ ap (λ b. cond b (gone_between d (uids_of e)) None) h ∙ ap (λ o. gone_between d o) (full_uids e g.full))

own_says : (d : Direction) (e : Entry) → is_full e ≡ true → says_gone d e (Gone d (uid_of Far e) (uid_of Near e)) ≡ true
own_says Pull e h = is_pair_from (Some (uid_of Far e)) (Some (uid_of Near e)) e (full_far e h) (full_near e h)
own_says Push e h = is_pair_from (Some (uid_of Far e)) (Some (uid_of Near e)) e (full_far e h) (full_near e h)

pub vanished : (s : Scene) → ArePairs s.entries → (marks : List (List ℕ)) (d : Direction) (e : Entry) → Contains s.entries e → steps_gone (all_steps s marks) d e ≡ is_gone s d e
vanished s pairs marks d e c = elim (cases_Bool (is_gone s d e)) [
  | inl holds ↦ list_any_from (says_gone d e) (all_steps s marks) (Gone d (uid_of Far e) (uid_of Near e)) (among_steps s marks d _ (own_gone_step s pairs d e c holds)) (own_says d e (gone_says s d e holds).full)
      ∙ sym holds
  | inr fails ↦ false_from_ne_true (steps_gone (all_steps s marks) d e)
      (λ t. let r = list_any_some (says_gone d e) (all_steps s marks) t in
      both_ways (is_gone s d e) fails (All-contains (λ st. says_gone d e st ≡ true → is_gone s d e ≡ true) (all_steps s marks) r.0 (all_say s pairs marks d e c) r.1 r.2))
      ∙ sym fails
]

-- ---- an entry after the run has a side

side_left : (s : Scene) (e : Entry) (p q : Bool) → is_gone s Pull e ≡ p → is_gone s Push e ≡ q → has_a_side e ≡ true → (is_some (cond p None e.far) || is_some (cond q None e.near)) ≡ true
side_left s e true true g h k = absurd (both_ways (is_listed s Near (uid_of Near e)) (gone_says s Push e h).gone (gone_says s Pull e g).left)
side_left s e true false g h k = ap (λ (o : Option ℕ). is_some o) (full_near e (gone_says s Pull e g).full)
side_left s e false true g h k = ap (λ (o : Option ℕ). is_some o || false) (full_far e (gone_says s Push e h).full)
side_left s e false false g h k = k

pub has_side_after : (s : Scene) (e : Entry) → has_a_side e ≡ true → has_a_side (entry_after s e) ≡ true
has_side_after s e k = side_left s e (is_gone s Pull e) (is_gone s Push e) refl refl k
