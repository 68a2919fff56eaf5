-- The messages that a run sees as its own, and where it finds a copy again.
use Rattle.std.proofs.Common.{◌≡◌, ◌≢◌, ℕ, ◌<◌, Bool, true, false, cond, List, [], ◌∷◌, ◌++◌, Option, Some, None, length, get_or, map, refl, sym, ap, ◌∙◌, subst, arith}
use Rattle.std.specs.Prelude.{All, AllPairs, Contains, filter, find, ◌&&◌, nat_lt, nat_le, nat_eq, unwrap_or}
use Rattle.std.specs.Option.{option_map}
use Rattle.std.specs.List.{list_any, cons_option}
use Rattle.std.specs.Cmp.Lexicographic.{pointwise, bytes_decides}
use Rattle.std.proofs.lemmas.Bool.{false≢true, or_right, and_left, and_right, lt-leb, false_from_ne_true}
use Rattle.std.proofs.lemmas.Option.{none-some, same_Some}
use Rattle.std.proofs.lemmas.List.Elements.{All-nil, All-cons, All-head, All-tail}
use Rattle.std.proofs.lemmas.List.Kept.{AllPairs-cons}
use Rattle.mailcore.specs.declared.side.Side.{Side}
use Rattle.mailcore.specs.declared.side.Side.TheVariants.{Far, Near}
use Rattle.mailcore.specs.declared.side.Direction.{Direction}
use Rattle.mailcore.specs.declared.side.Direction.TheVariants.{Pull, Push}
use Rattle.mailcore.specs.declared.mailbox.Message.{Message}
use Rattle.mailcore.specs.Sides.{source, target}
use Rattle.mailcore.specs.Mark.{IsMark}
use Rattle.mailcore.proofs.CopyLemmas.{mark_of-copy_text}
use Rattle.rules.specs.declared.plan.Step.{Step}
use Rattle.rules.specs.declared.plan.Step.TheVariants.{New, Gone, Flags, Expunge}
use Rattle.rules.specs.World.{World, store}
use Rattle.rules.specs.Copies.{line_end, copy_of}
use Rattle.planner.specs.Listed.{marks_of, mark_of as mark_of_step}
use Rattle.rules.proofs.Walks.{AllPairs-head, AllPairs-tail, AllPairs-nil, All-from_contains, list_any_from, Contains-filter_map}
use Rattle.law_outcome.specs.Steps.{Boxes, box, bytes_at, step_after, after, own_in}
use Rattle.law_outcome.specs.OwnLaws.{is_the, bears, is_own, marked_uid}
use Rattle.std.proofs.lemmas.Bool.{and_parts}
use Rattle.law_outcome.proofs.Changes.{with_new, changed, step-changed, stays, flags_then}

-- ---- marks

same_bytes : (xs ys : List ℕ) → pointwise nat_eq xs ys ≡ true → xs ≡ ys
same_bytes xs ys h = (bytes_decides xs ys).0 h

-- a copy bears its mark
pub copy_bears : (side : Side) (uid flags : ℕ) (mark bytes : List ℕ) → IsMark mark → bears mark (copy_of side uid flags mark bytes).bytes ≡ true
copy_bears side uid flags mark bytes is = ap (λ o. is_the mark o) (mark_of-copy_text mark bytes (line_end side) is) ∙ (bytes_decides mark mark).1 refl

-- and no other
copy_bears_no_other : (side : Side) (uid flags : ℕ) (mark other bytes : List ℕ) → IsMark mark → mark ≢ other → bears other (copy_of side uid flags mark bytes).bytes ≡ false
copy_bears_no_other side uid flags mark other bytes is apart =
    ap (λ o. is_the other o) (mark_of-copy_text mark bytes (line_end side) is) ∙ false_from_ne_true (pointwise nat_eq mark other) (λ t. apart (same_bytes mark other t))

-- ---- what is found

pub found_none : (mark : List ℕ) (from : ℕ) (ms : List Message) → All (λ m. m.uid < from) ms → marked_uid mark from ms ≡ None
found_none mark from [] h = refl
found_none mark from (m ∷ ms) h =
    let below : m.uid < from = All-head (λ (x : Message). x.uid < from) m ms h in
    ap (λ b. option_map (λ (x : Message). x.uid) (cond b (Some m) (find (λ x. nat_le from x.uid && bears mark x.bytes) ms))) (and_left (nat_le from m.uid) (bears mark m.bytes) (lt-leb from m.uid below))
    ∙ found_none mark from ms (All-tail (λ (x : Message). x.uid < from) m ms h)

pub found_own : (w : World) (marks : List (List ℕ)) (side : Side) (mark : List ℕ) (from : ℕ) → Contains marks mark → (ms : List Message) → marked_uid mark from (own_in (is_own w marks) side ms) ≡ marked_uid mark from ms
found_own w marks side mark from c [] = refl
found_own w marks side mark from c (m ∷ ms) =
    by_tests (is_own w marks side m.uid m.bytes) (nat_le from m.uid && bears mark m.bytes) refl
    (λ e. or_right (nat_lt m.uid (store w side).next) (list_any (λ x. bears x m.bytes) marks) (list_any_from (λ x. bears x m.bytes) marks mark c (and_parts (nat_le from m.uid) (bears mark m.bytes) e).1))
    (found_own w marks side mark from c ms)
  where
    by_tests : (a k : Bool) → (nat_le from m.uid && bears mark m.bytes) ≡ k → (k ≡ true → a ≡ true) → marked_uid mark from (own_in (is_own w marks) side ms) ≡ marked_uid mark from ms →
        marked_uid mark from (cond a (m ∷ own_in (is_own w marks) side ms) (own_in (is_own w marks) side ms)) ≡ option_map (λ (x : Message). x.uid) (cond k (Some m) (find (λ x. nat_le from x.uid && bears mark x.bytes) ms))
    by_tests true true e f rest = rw e refl
    by_tests true false e f rest = rw e rest
    by_tests false true e f rest = absurd (false≢true (f refl))
    by_tests false false e f rest = rest

-- the first is passed by, and then the rest
first_passed : (mark : List ℕ) (from : ℕ) (m : Message) (ms : List Message) → marked_uid mark from (m ∷ ms) ≡ None → ((nat_le from m.uid && bears mark m.bytes) ≡ false) × (marked_uid mark from ms ≡ None)
first_passed mark from m ms h = by_test (nat_le from m.uid && bears mark m.bytes) h
  where
    by_test : (k : Bool) → option_map (λ (x : Message). x.uid) (cond k (Some m) (find (λ x. nat_le from x.uid && bears mark x.bytes) ms)) ≡ None → (k ≡ false) × (marked_uid mark from ms ≡ None)
    by_test true e = absurd (none-some m.uid (sym e))
    by_test false e = (refl, e)

passes_by : (mark : List ℕ) (from : ℕ) (m : Message) (ms : List Message) (o : Option ℕ) → (nat_le from m.uid && bears mark m.bytes) ≡ false → marked_uid mark from ms ≡ o → marked_uid mark from (m ∷ ms) ≡ o
passes_by mark from m ms o e h = ap (λ b. option_map (λ (x : Message). x.uid) (cond b (Some m) (find (λ x. nat_le from x.uid && bears mark x.bytes) ms))) e ∙ h

changed_none : (mark : List ℕ) (from : ℕ) (p : ℕ → Bool) (g : ℕ → ℕ → ℕ) (ms : List Message) → marked_uid mark from ms ≡ None → marked_uid mark from (changed p g ms) ≡ None
changed_none mark from p g [] h = refl
changed_none mark from p g (m ∷ ms) h =
    let r = first_passed mark from m ms h in
    by_test (p m.uid) r.0 (changed_none mark from p g ms r.1)
  where
    by_test : (a : Bool) → (nat_le from m.uid && bears mark m.bytes) ≡ false → marked_uid mark from (changed p g ms) ≡ None →
        marked_uid mark from (map (with_new g) (cond a (m ∷ filter (λ x. p x.uid) ms) (filter (λ x. p x.uid) ms))) ≡ None
    by_test true e rest = passes_by mark from (with_new g m) (changed p g ms) None e rest
    by_test false e rest = rest

pub following : (mark : List ℕ) (from : ℕ) (ms : List Message) (c : Message) (o : Option ℕ) → marked_uid mark from ms ≡ None → marked_uid mark from (c ∷ []) ≡ o → marked_uid mark from (ms ++ c ∷ []) ≡ o
following mark from [] c o h e = e
following mark from (m ∷ ms) c o h e = let r = first_passed mark from m ms h in passes_by mark from m (ms ++ c ∷ []) o r.0 (following mark from ms c o r.1 e)

-- ---- steps

-- the marks of steps are marks, and two steps have not the same
abbrev IsMarked : Step → Type 0
IsMarked s = (mark : List ℕ) → mark_of_step s ≡ Some mark → IsMark mark

abbrev AreApart : Step → Step → Type 0
AreApart a b = (mark : List ℕ) → mark_of_step a ≡ Some mark → mark_of_step b ≡ Some mark → ⊥

step_none : (mark : List ℕ) (from : ℕ) (side : Side) (s : Step) (r : Option ℕ) (b : Boxes) → IsMarked s → (mark_of_step s ≡ Some mark → ⊥) → marked_uid mark from (box b side) ≡ None → marked_uid mark from (box (step_after b s r) side) ≡ None
step_none mark from side (New d u flags other) None b is apart h = h
step_none mark from side (New d u flags other) (Some uid) b is apart h =
    by_side side d h
    (passes_by mark from (copy other) [] None (and_right (nat_le from uid) (bears mark (copy other).bytes) (copy_bears_no_other (target d) uid flags other mark bytes (is other refl) (λ e. apart (ap (λ x. Some x) e)))) refl)
  where
    bytes : List ℕ
    bytes = unwrap_or (bytes_at u (box b (source d))) []

    copy : List ℕ → Message
    copy x = copy_of (target d) uid flags x (unwrap_or (bytes_at u (box b (source d))) [])

    by_side : (side : Side) (d : Direction) → marked_uid mark from (box b side) ≡ None → marked_uid mark from (copy_of (target d) uid flags other (unwrap_or (bytes_at u (box b (source d))) []) ∷ []) ≡ None →
        marked_uid mark from (box (step_after b (New d u flags other) (Some uid)) side) ≡ None
    by_side Near Pull h e = following mark from b.near _ None h e
    by_side Far Push h e = following mark from b.far _ None h e
    by_side Far Pull h e = h
    by_side Near Push h e = h
step_none mark from side (Gone d f n) r b is apart h = ap (λ (ms : List Message). marked_uid mark from ms) (step-changed side (Gone d f n) r b refl) ∙ changed_none mark from (stays side (Gone d f n)) (flags_then side (Gone d f n)) (box b side) h
step_none mark from side (Flags d f n set cleared) r b is apart h = ap (λ (ms : List Message). marked_uid mark from ms) (step-changed side (Flags d f n set cleared) r b refl) ∙ changed_none mark from (stays side (Flags d f n set cleared)) (flags_then side (Flags d f n set cleared)) (box b side) h
step_none mark from side (Expunge at u) r b is apart h = ap (λ (ms : List Message). marked_uid mark from ms) (step-changed side (Expunge at u) r b refl) ∙ changed_none mark from (stays side (Expunge at u)) (flags_then side (Expunge at u)) (box b side) h

pub steps_none : (mark : List ℕ) (from : ℕ) (side : Side) (steps : List Step) (results : List (Option ℕ)) (s : Step) (b : Boxes) → All IsMarked steps → AllPairs AreApart steps →
    length results < length steps → s ≡ get_or steps (length results) s → mark_of_step s ≡ Some mark → marked_uid mark from (box b side) ≡ None → marked_uid mark from (box (after steps results b) side) ≡ None
steps_none mark from side [] results s b is apart below at here h = absurd (omega arith)
steps_none mark from side (t ∷ steps) [] s b is apart below at here h = h
steps_none mark from side (t ∷ steps) (r ∷ results) s b is apart below at here h =
    steps_none mark from side steps results s (step_after b t r) (All-tail IsMarked t steps is) (AllPairs-tail AreApart t steps apart) (omega arith) at here
    (step_none mark from side t r b (All-head IsMarked t steps is) (λ e. AllPairs-head AreApart t steps apart s (length results, omega arith, sym at) mark e here) h)

-- ---- the marks of a plan

pub steps_marked : (steps : List Step) → All IsMark (marks_of steps) → All IsMarked steps
steps_marked [] h = All-nil IsMarked
steps_marked (s ∷ steps) h = by_mark (mark_of_step s) refl h (λ k. steps_marked steps k)
  where
    by_mark : (o : Option (List ℕ)) → mark_of_step s ≡ o → All IsMark (cons_option o (marks_of steps)) → (All IsMark (marks_of steps) → All IsMarked steps) → All IsMarked (s ∷ steps)
    by_mark None e h again = All-cons IsMarked s steps (λ mark k. absurd (none-some mark (sym e ∙ k))) (again h)
    by_mark (Some m) e h again =
        All-cons IsMarked s steps (λ mark k. subst IsMark (same_Some m mark (sym e ∙ k)) (All-head IsMark m (marks_of steps) h)) (again (All-tail IsMark m (marks_of steps) h))

pub steps_apart : (steps : List Step) → AllPairs (λ a b. a ≢ b) (marks_of steps) → AllPairs AreApart steps
steps_apart [] h = AllPairs-nil AreApart
steps_apart (s ∷ steps) h = by_mark (mark_of_step s) refl h (λ k. steps_apart steps k)
  where
    by_mark : (o : Option (List ℕ)) → mark_of_step s ≡ o → AllPairs (λ a b. a ≢ b) (cons_option o (marks_of steps)) → (AllPairs (λ a b. a ≢ b) (marks_of steps) → AllPairs AreApart steps) → AllPairs AreApart (s ∷ steps)
    by_mark None e h again = AllPairs-cons AreApart s steps (All-from_contains (AreApart s) steps (λ t c mark k l. none-some mark (sym e ∙ k))) (again h)
    by_mark (Some m) e h again =
        AllPairs-cons AreApart s steps
        (All-from_contains (AreApart s) steps (λ t c mark k l. AllPairs-head (λ a b. a ≢ b) m (marks_of steps) h mark (Contains-filter_map mark_of_step steps t mark c l) (same_Some m mark (sym e ∙ k))))
        (again (AllPairs-tail (λ a b. a ≢ b) m (marks_of steps) h))
