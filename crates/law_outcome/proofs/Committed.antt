-- The state that a finished journal of a plan makes is the one that the outcome names.
use Rattle.std.proofs.Common.{◌≡◌, ℕ, ◌+◌, ◌≤◌, Bool, true, false, cond, List, [], ◌∷◌, ◌++◌, Option, None, length, map, drop, refl, sym, ap, ◌∙◌, subst, arith, append-nil, length-take, length-drop, append_assoc}
use Rattle.std.specs.Prelude.{All, Contains, filter, not}
use Rattle.std.specs.List.{list_any}
use Rattle.std.specs.List.Sorted.{IsPermutation}
use Rattle.std.proofs.lemmas.Bool.{false≢true}
use Rattle.std.proofs.lemmas.List.{length-append, length-map, drop-map}
use Rattle.std.proofs.lemmas.List.Elements.{All-contains, All-head, All-tail}
use Rattle.mailcore.specs.declared.side.Side.TheVariants.{Far, Near}
use Rattle.mailcore.specs.declared.side.Direction.{Direction}
use Rattle.mailcore.specs.declared.side.Direction.TheVariants.{Pull, Push}
use Rattle.mailcore.specs.declared.mailbox.Message.{Message}
use Rattle.mailcore.specs.Sides.{target}
use Rattle.rules.specs.declared.entry.Entry.{Entry}
use Rattle.rules.specs.declared.options.Options.{Options}
use Rattle.rules.specs.declared.plan.Step.{Step}
use Rattle.rules.specs.declared.plan.Step.TheVariants.{New, Gone, Flags, Expunge}
use Rattle.rules.specs.Propagation.{Drop}
use Rattle.rules.specs.Entries.{ArePairs, uid_of, has_a_side}
use Rattle.rules.specs.Scene.{Scene}
use Rattle.rules.specs.Called.{called, is_gone, pair_of}
use Rattle.rules.specs.Outcome.{count_new, entry_after, entries_after, recorded_or}
use Rattle.rules.specs.World.{World, scene_of}
use Rattle.rules.specs.WorldAfter.{copy_uids, new_messages, marks_to}
use Rattle.rules.specs.Copies.{pair_of_copy, pairs_under}
use Rattle.planner.specs.Written.{all_steps, all_notes}
use Rattle.rules.proofs.Walks.{Contains-first, Contains-rest}
use Rattle.rules.proofs.WorldLemmas.{marks_counted}
use Rattle.sync_state.specs.declared.journal.Logged.{Logged}
use Rattle.sync_state.specs.declared.journal.Logged.TheVariants.{Copied, Done, Void}
use Rattle.sync_state.specs.declared.journal.Journal.{Journal}
use Rattle.book.specs.Committed.{drops, kept_entries, entry_of_copy, entries_of_copies, entry_after as committed, recorded, is_gone as steps_gone}
use Rattle.law_outcome.specs.Steps.{makes_copy, Fit, given}
use Rattle.law_outcome.specs.CommitLaws.{result_of, results_of, uids_given, KeptAreEntriesAfter, CopiesArePaired, CommitReachesStateAfter, NamedAreStateAfter}
use Rattle.law_outcome.proofs.Fold.{fit-drop}
use Rattle.law_outcome.proofs.Copying.{copies_of, uid_given-new}
use Rattle.law_outcome.proofs.PlanParts.{changes, plan_is, changes_copy_nothing}
use Rattle.law_outcome.proofs.WholePlans.{pulls, pushes, parts, given_near, given_far}
use Rattle.law_outcome.proofs.Noted.{dropped, recorded_is}
use Rattle.law_outcome.proofs.Vanished.{vanished, has_side_after}

-- ---- the entries that are kept

-- what is so of an entry of the plan's scene
record Agrees (j : Journal) (s : Scene) (e : Entry) : Type 0 where
  dropped : list_any (drops e) j.plan.notes ≡ called s (Drop (uid_of Far e) (uid_of Near e))
  after : committed j e ≡ entry_after s e
  side : has_a_side (entry_after s e) ≡ true

abbrev kept : Journal → List Entry → List Entry
kept j es = filter (λ e. not (list_any (drops e) j.plan.notes)) es

abbrev stay : Scene → List Entry → List Entry
stay s es = filter (λ e. not (called s (Drop (uid_of Far e) (uid_of Near e)))) es

kept_agree : (j : Journal) (s : Scene) (es : List Entry) → ((e : Entry) → Contains es e → Agrees j s e) →
    kept_entries j es ≡ map (entry_after s) (filter (λ e. not (called s (Drop (uid_of Far e) (uid_of Near e)))) es)
kept_agree j s [] h = refl
kept_agree j s (e ∷ es) h =
    let here : Agrees j s e = h e (Contains-first e es) in
    by_test (list_any (drops e) j.plan.notes) (called s (Drop (uid_of Far e) (uid_of Near e))) here.dropped here.after here.side (kept_agree j s es (λ x c. h x (Contains-rest e x es c)))
  where
    by_test : (a b : Bool) → a ≡ b → committed j e ≡ entry_after s e → has_a_side (entry_after s e) ≡ true → kept_entries j es ≡ map (entry_after s) (stay s es) →
        filter has_a_side (map (committed j) (cond (not a) (e ∷ kept j es) (kept j es))) ≡ map (entry_after s) (cond (not b) (e ∷ stay s es) (stay s es))
    by_test true true i k side rest = rest
    by_test true false i k side rest = cc
    by_test false true i k side rest = cc
    by_test false false i k side rest =
        ap (λ (x : Entry). cond (has_a_side x) (x ∷ kept_entries j es) (kept_entries j es)) k
        ∙ ap (λ b. cond b (entry_after s e ∷ kept_entries j es) (kept_entries j es)) side
        ∙ ap (λ (xs : List Entry). entry_after s e ∷ xs) rest

entry_is : (s : Scene) → ArePairs s.entries → (marks : List (List ℕ)) (j : Journal) → j.plan.steps ≡ all_steps s marks → j.plan.notes ≡ all_notes s → (e : Entry) → Contains s.entries e → committed j e ≡ entry_after s e
entry_is s pairs marks j steps notes e c =
    let gone : (d : Direction) → steps_gone j.plan.steps d e ≡ is_gone s d e = λ d. ap (λ (xs : List Step). steps_gone xs d e) steps ∙ vanished s pairs marks d e c in
    let flags : recorded e j.plan.notes ≡ recorded_or s e.flags (pair_of s e) = ap (λ ns. recorded e ns) notes ∙ recorded_is s pairs e c in
    ap (λ b. record { far = cond b None e.far; near = cond (steps_gone j.plan.steps Push e) None e.near; flags = recorded e j.plan.notes }) (gone Pull)
    ∙ ap (λ b. record { far = cond (is_gone s Pull e) None e.far; near = cond b None e.near; flags = recorded e j.plan.notes }) (gone Push)
    ∙ ap (λ x. record { far = cond (is_gone s Pull e) None e.far; near = cond (is_gone s Push e) None e.near; flags = x }) flags

pub kept_are : KeptAreEntriesAfter
kept_are w options marks j h p =
    let s : Scene = scene_of w options in
    kept_agree j s w.state.entries
    (λ e c. record {
      dropped = ap (λ ns. list_any (drops e) ns) p.notes ∙ dropped s e c;
      after = entry_is s h.pairs marks j p.steps p.notes e c;
      side = has_side_after s e (All-contains (λ x. has_a_side x ≡ true) w.state.entries e h.pairs.some c);
    })

-- ---- the entries of copies

entries_none : (steps : List Step) → entries_of_copies steps [] ≡ []
entries_none [] = refl
entries_none (s ∷ steps) = refl

entries_split : (steps more : List Step) (log : List Logged) → entries_of_copies (steps ++ more) log ≡ entries_of_copies steps log ++ entries_of_copies more (drop (length steps) log)
entries_split [] more log = refl
entries_split (s ∷ steps) more [] = sym (entries_none more)
entries_split (s ∷ steps) more (l ∷ log) =
    ap (λ (es : List Entry). entry_of_copy s l ++ es) (entries_split steps more log)
    ∙ sym (append_assoc (entry_of_copy s l) (entries_of_copies steps log) (entries_of_copies more (drop (length steps) log)))

entries_of_none : (steps : List Step) (log : List Logged) → All (λ s. makes_copy s ≡ false) steps → entries_of_copies steps log ≡ []
entries_of_none [] log h = refl
entries_of_none (s ∷ steps) [] h = refl
entries_of_none (s ∷ steps) (l ∷ log) h =
    ap (λ (es : List Entry). es ++ entries_of_copies steps log) (none s l (All-head (λ t. makes_copy t ≡ false) s steps h))
    ∙ entries_of_none steps log (All-tail (λ t. makes_copy t ≡ false) s steps h)
  where
    none : (s : Step) (l : Logged) → makes_copy s ≡ false → entry_of_copy s l ≡ []
    none (New d u flags mark) l e = absurd (false≢true (sym e))
    none (Gone d f n) l e = refl
    none (Flags d f n set cleared) l e = refl
    none (Expunge at u) l e = refl

entries_paired : (d : Direction) (ms : List Message) (marks : List (List ℕ)) (log : List Logged) (more : List Step) → length ms ≡ length marks → length (copies_of d ms marks) ≤ length log →
    Fit (copies_of d ms marks ++ more) (results_of log) → entries_of_copies (copies_of d ms marks) log ≡ pairs_under d (given (target d) (copies_of d ms marks) (results_of log)) ms
entries_paired d [] marks log more l k f = refl
entries_paired d (m ∷ ms) [] log more l k f = absurd (omega arith)
entries_paired d (m ∷ ms) (mark ∷ marks) [] more l k f = absurd (omega arith)
entries_paired d (m ∷ ms) (mark ∷ marks) (Done ∷ log) more l k f = absurd (false≢true f.0)
entries_paired d (m ∷ ms) (mark ∷ marks) (Void ∷ log) more l k f = absurd (false≢true f.0)
entries_paired d (m ∷ ms) (mark ∷ marks) (Copied uid ∷ log) more l k f =
    ap (λ (es : List Entry). es ++ entries_of_copies (copies_of d ms marks) log) (one d)
    ∙ ap (λ (es : List Entry). pair_of_copy d uid m ∷ es) (entries_paired d ms marks log more (omega arith) (omega arith) f.1)
    ∙ ap (λ (us : List ℕ). pairs_under d (us ++ given (target d) (copies_of d ms marks) (results_of log)) (m ∷ ms)) (sym (uid_given-new d m.uid m.flags mark uid))
  where
    one : (d : Direction) → entry_of_copy (New d m.uid m.flags mark) (Copied uid) ≡ pair_of_copy d uid m ∷ []
    one Pull = refl
    one Push = refl

module _ (w : World) (options : Options) (marks : List (List ℕ)) where
  parts_paired : (log : List Logged) → length marks ≡ count_new (scene_of w options) → length log ≡ length (parts w options marks) → Fit (parts w options marks) (results_of log) →
      entries_of_copies (parts w options marks) log
      ≡ pairs_under Pull (given Near (parts w options marks) (results_of log)) (new_messages w options Pull) ++ pairs_under Push (given Far (parts w options marks) (results_of log)) (new_messages w options Push)
  parts_paired log l k fit =
      let p : List Step = pulls w options marks in
      let q : List Step = pushes w options marks in
      let c : List Step = changes (scene_of w options) in
      let counted = marks_counted w options marks l in
      let first : length (new_messages w options Pull) ≡ length (marks_to w options Near marks) = simp length-take (omega arith) in
      let second : length (new_messages w options Push) ≡ length (marks_to w options Far marks) = simp length-drop (omega arith) in
      let many : length log ≡ length p + (length q + length c) = k ∙ length-append p (q ++ c) ∙ ap (λ n. length p + n) (length-append q c) in
      let room : length p ≤ length (results_of log) = simp length-map (omega arith) in
      let rest : length q ≤ length (drop (length p) log) = simp length-drop (omega arith) in
      let results : drop (length p) (results_of log) ≡ results_of (drop (length p) log) = drop-map result_of (length p) log in
      let fit' : Fit (q ++ c) (results_of (drop (length p) log)) = subst (λ (rs : List (Option ℕ)). Fit (q ++ c) rs) results (fit-drop p (q ++ c) (results_of log) room fit) in
      entries_split p (q ++ c) log
      ∙ ap (λ (es : List Entry). es ++ entries_of_copies (q ++ c) (drop (length p) log)) (entries_paired Pull (new_messages w options Pull) (marks_to w options Near marks) log (q ++ c) first (omega arith) fit)
      ∙ ap (λ (es : List Entry). pairs_under Pull (given Near p (results_of log)) (new_messages w options Pull) ++ es)
      (entries_split q c (drop (length p) log)
      ∙ ap (λ (es : List Entry). es ++ entries_of_copies c (drop (length q) (drop (length p) log))) (entries_paired Push (new_messages w options Push) (marks_to w options Far marks) (drop (length p) log) c second rest fit')
      ∙ ap (λ (es : List Entry). pairs_under Push (given Far q (results_of (drop (length p) log))) (new_messages w options Push) ++ es) (entries_of_none c (drop (length q) (drop (length p) log)) (changes_copy_nothing (scene_of w options)))
      ∙ append-nil (pairs_under Push (given Far q (results_of (drop (length p) log))) (new_messages w options Push)))
      ∙ ap (λ (us : List ℕ). pairs_under Pull us (new_messages w options Pull) ++ pairs_under Push (given Far q (results_of (drop (length p) log))) (new_messages w options Push)) (sym (given_near w options marks (results_of log)))
      ∙ ap (λ (us : List ℕ). pairs_under Pull (given Near (parts w options marks) (results_of log)) (new_messages w options Pull) ++ pairs_under Push us (new_messages w options Push))
      (ap (λ (rs : List (Option ℕ)). given Far q rs) (sym results) ∙ sym (given_far w options marks (results_of log)))

pub are_paired : CopiesArePaired
are_paired w options marks j p =
    subst (λ (steps : List Step). length j.log ≡ length steps → Fit steps (results_of j.log) →
    entries_of_copies steps j.log ≡ pairs_under Pull (given Near steps (results_of j.log)) (new_messages w options Pull) ++ pairs_under Push (given Far steps (results_of j.log)) (new_messages w options Push))
    (sym (p.steps ∙ plan_is w options marks)) (parts_paired w options marks j.log p.marked)

-- ---- the state

pub commit_reaches : CommitReachesStateAfter
commit_reaches w options marks j new h p l fit c = record {
  run = c.run ∙ p.run;
  far_validity = c.far_validity ∙ p.far_validity;
  near_validity = c.near_validity ∙ p.near_validity;
  max_pulled = c.max_pulled ∙ p.far_highest;
  max_pushed = c.max_pushed ∙ p.near_highest;
  entries =
      subst (λ (es : List Entry). IsPermutation es new.entries)
      (ap (λ (es : List Entry). es ++ entries_of_copies j.plan.steps j.log) (kept_are w options marks j h p)
      ∙ ap (λ (es : List Entry). entries_after (scene_of w options) ++ es)
      (are_paired w options marks j p l fit
      ∙ ap (λ (steps : List Step). pairs_under Pull (given Near steps (results_of j.log)) (new_messages w options Pull) ++ pairs_under Push (given Far steps (results_of j.log)) (new_messages w options Push)) p.steps)
      ∙ sym (append_assoc (entries_after (scene_of w options)) (pairs_under Pull (given Near (all_steps (scene_of w options) marks) (results_of j.log)) (new_messages w options Pull)) (pairs_under Push (given Far (all_steps (scene_of w options) marks) (results_of j.log)) (new_messages w options Push))))
      c.entries;
}

-- ---- UIDs one after another

pub named_are : NamedAreStateAfter
named_are w options marks results uids =
    ap (λ (us : List ℕ). entries_after (scene_of w options) ++ pairs_under Pull us (new_messages w options Pull) ++ pairs_under Push (uids_given w options marks results Far) (new_messages w options Push)) (uids Near)
    ∙ ap (λ (us : List ℕ). entries_after (scene_of w options) ++ pairs_under Pull (copy_uids w options Near) (new_messages w options Pull) ++ pairs_under Push us (new_messages w options Push)) (uids Far)
