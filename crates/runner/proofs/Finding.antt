-- Whether a copy is reported as found: what stands on its side as others add messages, and what stands there before a step.
use Rattle.std.proofs.Common.{◌≡◌, inl, inr, ℕ, Bool, true, false, cond, List, [], ◌∷◌, ◌++◌, length, drop, Option, Some, None, Result, Ok, Err, IfOk, OnOk, refl, sym, ◌∙◌, ap, subst, arith, length-append}
use Rattle.std.specs.Prelude.{All, Contains, find, nat_eq, nat_le, ◌&&◌}
use Rattle.std.specs.Cmp.Lexicographic.{pointwise, bytes_decides}
use Rattle.std.specs.Option.{option_map}
use Rattle.std.proofs.Math.Seq.{drop-nil}
use Rattle.std.proofs.lemmas.Bool.{and_right, both_ways}
use Rattle.std.proofs.lemmas.List.Elements.{All-contains, All-cons, All-head, All-nil, All-push, All-tail}
use Rattle.mailcore.specs.declared.side.Side.{Side}
use Rattle.mailcore.specs.declared.side.Side.TheVariants.{Far, Near}
use Rattle.mailcore.specs.declared.side.Direction.{Direction}
use Rattle.mailcore.specs.declared.mailbox.Message.{Message}
use Rattle.mailcore.specs.Content.{mark_of}
use Rattle.mailcore.specs.Operations.{is_mark, marked_among, marked_from}
use Rattle.mailcore.specs.Sides.{target}
use Rattle.rules.specs.declared.options.Options.{Options}
use Rattle.rules.specs.declared.plan.Plan.{Plan}
use Rattle.rules.specs.declared.plan.Step.{Step}
use Rattle.rules.specs.declared.plan.Step.TheVariants as step
use Rattle.rules.specs.declared.state.SyncState.{SyncState}
use Rattle.rules.specs.World.{World}
use Rattle.rules.proofs.Walks.{Contains-filter_map}
use Rattle.planner.specs.Listed.{mark_of as mark_in}
use Rattle.sync_state.specs.declared.version.Version.{Version}
use Rattle.sync_state.specs.declared.journal.Logged.{Logged}
use Rattle.sync_state.specs.declared.journal.Logged.TheVariants.{Copied, Done}
use Rattle.book.specs.declared.book.Pending.{Pending}
use Rattle.book.specs.declared.book.Pending.TheVariants.{Missing, Useless, Planned}
use Rattle.book.specs.Books.{Holds, Turns, mended}
use Rattle.book.specs.Shelves.{Files}
use Rattle.book.proofs.KnownBooks.{book_known}
use Rattle.law_outcome.specs.Steps.{Boxes, after, boxes_of, own, step_after, box as messages_in, with_box as with_messages_in}
use Rattle.law_outcome.specs.OwnLaws.{is_own}
use Rattle.law_outcome.proofs.Fold.{after-more}
use Rattle.law_outcome.specs.CommitLaws.{results_of}
use Rattle.mailcore.specs.Visitors.{IsForeign}
use Rattle.outside.specs.Arrivals.{Arrives}
use Rattle.outside.specs.BookCalls.{OfBook}
use Rattle.outside.specs.Calls.{Seen}
use Rattle.outside.specs.Devices.{Device, Named, box}
use Rattle.outside.specs.Opened.{IsHeld, Opened, turned, with_box}
use Rattle.run_states.specs.Moments.{IsSought, Midway, Stands, boxes_at}
use Rattle.run_states.specs.Openings.{Opening}
use Rattle.run_states.specs.Plans.{IsPlanned, first_uid, next_of}
use Rattle.run_states.proofs.Copies.{sought}
use Rattle.run_states.proofs.Ends.{marks_are}
use Rattle.run_states.proofs.NextSteps.{next_contained, result_is, result_less, results_more}
use Rattle.runner.specs.declared.fault.RunFault.{RunFault}
use Rattle.runner.specs.declared.pass.Pass.{Pass}
use Rattle.runner.specs.declared.pass.Pass.TheVariants.{Already, Ran, Finished}
use Rattle.runner.specs.declared.performed.Performed.{Performed}
use Rattle.runner.specs.declared.performed.StepResult.{StepResult}
use Rattle.runner.specs.declared.performed.StepResult.TheVariants as did
use Rattle.runner.specs.Answers.{as_read}
use Rattle.runner.specs.Finding.{AreFoundSo, FindsAt, FindsBy, FindsSame, IsFoundSo, IsNew, OfSame, copy_at, copy_under, reported_found}
use Rattle.runner.specs.Going.{BeforeStep, CopiesUnder, HasLogged, log_at, logged_of, logs_of, next_at, plan_at, steps_of, version_at}
use Rattle.runner.proofs.Stages.{stands_of}

-- ---- what others add bears no mark of ours

not_the : (ours : List ℕ → Bool) (mark : List ℕ) (o : Option (List ℕ)) → ours mark ≡ true → IsForeign ours o → is_mark o mark ≡ false
not_the ours mark None is foreign = refl
not_the ours mark (Some found) is foreign = by_test (pointwise nat_eq found mark) refl
  where
    by_test : (b : Bool) → pointwise nat_eq found mark ≡ b → b ≡ false
    by_test true e = let same : found ≡ mark = (bytes_decides found mark).0 e in absurd (both_ways (ours found) foreign (ap ours same ∙ is))
    by_test false e = refl

none_marked : (ours : List ℕ → Bool) (mark : List ℕ) (from : ℕ) (ms : List Message) → ours mark ≡ true → All (λ m. IsForeign ours (mark_of m.bytes)) ms → marked_among mark from ms ≡ None
none_marked ours mark from [] is foreign = refl
none_marked ours mark from (m ∷ ms) is foreign =
    rw (and_right (nat_le from m.uid) (is_mark (mark_of m.bytes) mark) (not_the ours mark (mark_of m.bytes) is (All-head (λ x. IsForeign ours (mark_of x.bytes)) m ms foreign)))
    (none_marked ours mark from ms is (All-tail (λ x. IsForeign ours (mark_of x.bytes)) m ms foreign))

marked_more : (mark : List ℕ) (from : ℕ) (ms more : List Message) → marked_among mark from more ≡ None → marked_among mark from (ms ++ more) ≡ marked_among mark from ms
marked_more mark from [] more none = none
marked_more mark from (m ∷ ms) more none = by_test (nat_le from m.uid && is_mark (mark_of m.bytes) mark) (marked_more mark from ms more none)
  where
    by_test : (b : Bool) → marked_among mark from (ms ++ more) ≡ marked_among mark from ms →
        option_map (λ (x : Message). x.uid) (cond b (Some m) (find (λ x. nat_le from x.uid && is_mark (mark_of x.bytes) mark) (ms ++ more))) ≡ option_map (λ (x : Message). x.uid) (cond b (Some m) (find (λ x. nat_le from x.uid && is_mark (mark_of x.bytes) mark) ms))
    by_test true e = refl
    by_test false e = e

pub same_none : (ours : List ℕ → Bool) (d : Device) → FindsSame ours d d
same_none ours d = λ mark from side is. refl

pub same_then : (ours : List ℕ → Bool) (a b c : Device) → FindsSame ours a b → FindsSame ours b c → FindsSame ours a c
same_then ours a b c p q = λ mark from side is. q mark from side is ∙ p mark from side is

pub same_arrives : (ours : List ℕ → Bool) (alone : Bool) (d m : Device) → Arrives ours alone d m → FindsSame ours d m
same_arrives ours alone d m a = λ mark from side is. subst (λ (x : Device). marked_from mark from (box x side) ≡ marked_from mark from (box d side)) (sym a.now) (by_side mark from is side)
  where
    now : Device
    now = record d { far = record d.far { next = a.next; messages = d.far.messages ++ a.messages }; near = record d.near { waiting = a.waiting } }

    by_side : (mark : List ℕ) (from : ℕ) → ours mark ≡ true → (side : Side) → marked_from mark from (box now side) ≡ marked_from mark from (box d side)
    by_side mark from is Far = marked_more mark from d.far.messages a.messages (none_marked ours mark from a.messages is a.far_foreign)
    by_side mark from is Near = refl

-- a call that reads
pub same_read : (ours : List ℕ → Bool) (alone : Bool) (d m d' : Device) → Arrives ours alone d m → d' ≡ m → FindsSame ours d d'
same_read ours alone d m d' a e = subst (λ (x : Device). FindsSame ours d x) (sym e) (same_arrives ours alone d m a)

-- one that takes a torn line off the journal
pub same_mended : (ours : List ℕ → Bool) (alone : Bool) (opened : Option Opened) (d m d' : Device) → Arrives ours alone d m → OfBook (λ p. Turns p (mended p)) opened m d' → FindsSame ours d d'
same_mended ours alone None d m d' a t = absurd t
same_mended ours alone (Some o) d m d' a t = same_then ours d m d' (same_arrives ours alone d m a) (λ mark from side is. by_side mark from side)
  where
    by_side : (mark : List ℕ) (from : ℕ) (side : Side) → marked_from mark from (box d' side) ≡ marked_from mark from (box m side)
    by_side mark from Far = rw t.far refl
    by_side mark from Near = rw t.near refl

-- one call after another
pub same_joined : {T : Type 0} (ours : List ℕ → Bool) (h0 h1 : Type 0) (a b c : Device) (r : Result T RunFault) → (h1 → h0) → (h0 → FindsSame ours a b) → OnOk r (h1 → FindsSame ours b c) → OnOk r (h1 → FindsSame ours a c)
same_joined ours h0 h1 a b c (Ok x) honest p q = λ h. same_then ours a b c (p (honest h)) (q h)
same_joined ours h0 h1 a b c (Err e) honest p q = tt

-- ---- the marks of a plan

is_ours : (ours : List ℕ → Bool) (w : World) (options : Options) (plan : Plan) (s : Step) (mark : List ℕ) → IsPlanned ours w options plan → Contains plan.steps s → mark_in s ≡ Some mark → ours mark ≡ true
is_ours ours w options plan s mark p c e =
    All-contains (λ (x : List ℕ). ours x ≡ true) p.marks mark p.are_ours (subst (λ (ms : List (List ℕ)). Contains ms mark) (marks_are ours w options plan p) (Contains-filter_map mark_in plan.steps s mark c e))

-- ---- a step that copies is not done yet, or is

not_longer : (ms : List Message) (m : Message) → ms ≡ ms ++ m ∷ [] → ⊥
not_longer ms m e = let k = ap (λ (x : List Message). length x) e ∙ length-append ms (m ∷ []) in absurd (omega (arith, k))

grown : (b : Boxes) (side : Side) (m : Message) → b ≡ with_messages_in b side (messages_in b side ++ m ∷ []) → ⊥
grown b Far m e = not_longer b.far m (ap (λ (x : Boxes). x.far) e)
grown b Near m e = not_longer b.near m (ap (λ (x : Boxes). x.near) e)

module _ (ours : List ℕ → Bool) (alone : Bool) {earlier : List Named} (w : World) (options : Options) (version : Version) (plan : Plan) (log : List Logged) (dir : Direction) (uid flags : ℕ) (mark : List ℕ) (is : next_of plan.steps log ≡ Some (step.New dir uid flags mark)) where
  never_both : (copy : ℕ) (d : Device) → Midway ours alone earlier w options version plan log false log false d → Midway ours alone earlier w options version plan log false (log ++ Copied copy ∷ []) false d → ⊥
  never_both copy d a b =
      let s = step.New dir uid flags mark in
      let before = after plan.steps (results_of log) (boxes_of w) in
      let marks : a.planned.marks ≡ b.planned.marks = sym (marks_are ours w options plan a.planned) ∙ marks_are ours w options plan b.planned in
      let more : after plan.steps (results_of (log ++ Copied copy ∷ [])) (boxes_of w) ≡ step_after before s (Some copy) =
      ap (λ (rs : List (Option ℕ)). after plan.steps rs (boxes_of w)) (results_more log (Copied copy))
      ∙ after-more plan.steps (results_of log) s (Some copy) (boxes_of w) (result_less plan.steps log s is) (result_is plan.steps log s is) in
      grown before (target dir) _ (sym a.boxes ∙ ap (λ (ms : List (List ℕ)). own (is_own w ms) (boxes_at d)) marks ∙ b.boxes ∙ more)

module _ {ours : List ℕ → Bool} {alone : Bool} (opening : Opening ours alone) (opened : Option Opened) where
  abbrev version : Version
  version = version_at opened

  abbrev plan : Plan
  plan = plan_at opened

  abbrev log : List Logged
  log = log_at opened

  planned_at : (w : World) (d : Device) → Stands ours alone opening.named w opening.options version plan log false d → IsPlanned ours w opening.options plan
  planned_at w d (inl k) = let at = k.1 in at.planned
  planned_at w d (inr k) = let at = k.1 in at.planned

  ready_ours : (dir : Direction) (uid flags : ℕ) (mark : List ℕ) → next_at opened ≡ Some (step.New dir uid flags mark) → (is_resumed : Bool) (d : Device) → BeforeStep opening opened is_resumed d → ours mark ≡ true
  ready_ours dir uid flags mark is is_resumed d k =
      let s = k.since in
      is_ours ours s.world opening.options plan (step.New dir uid flags mark) mark
      (planned_at s.world d (stands_of opening opened s.world is_resumed d s.holds))
      (next_contained plan.steps log _ is) refl

  -- what is answered where it was looked for
  pub seek_reported : (dir : Direction) (mark : List ℕ) → CopiesUnder opened dir mark → (d m : Device) → Arrives ours alone d m → BeforeStep opening opened true d → (found : Option ℕ) → found ≡ marked_from mark (first_uid plan (target dir)) (box m (target dir))
      → OfSame ours d (λ x. found ≡ copy_under plan dir mark x)
  seek_reported dir mark next d m a k found reported = λ x same.
      let mine = ready_ours dir next.uid next.flags mark next.is true d k in
      reported ∙ same_arrives ours alone d m a mark (first_uid plan (target dir)) (target dir) mine ∙ same mark (first_uid plan (target dir)) (target dir) mine

  none_there : (dir : Direction) (uid flags : ℕ) (mark : List ℕ) → next_at opened ≡ Some (step.New dir uid flags mark) → (d : Device) → BeforeStep opening opened false d → marked_from mark (first_uid plan (target dir)) (box d (target dir)) ≡ None
  none_there dir uid flags mark is d k =
      let s = k.since in
      by_found s.world s.holds (marked_from mark (first_uid plan (target dir)) (box d (target dir))) refl
      (sought ours alone opening.named s.world opening.options version plan log (s.grows).in_order dir uid flags mark is d (inl (false, s.holds)) _ refl)
    where
      by_found : (w : World) → Midway ours alone opening.named w opening.options version plan log false log false d → (x : Option ℕ) → marked_from mark (first_uid plan (target dir)) (box d (target dir)) ≡ x → IsSought ours alone opening.named w opening.options version plan log x d → marked_from mark (first_uid plan (target dir)) (box d (target dir)) ≡ None
      by_found w at None e t = e
      by_found w at (Some copy) e t = absurd (never_both ours alone w opening.options version plan log dir uid flags mark is copy d at t)

  -- before a step none of whose calls is done there is no copy of it
  pub not_there : (s : Step) → next_at opened ≡ Some s → (d : Device) → BeforeStep opening opened false d → copy_at plan s d ≡ None
  not_there (step.New dir uid flags mark) is d k = none_there dir uid flags mark is d k
  not_there (step.Gone dir far near) is d k = refl
  not_there (step.Flags dir far near set cleared) is d k = refl
  not_there (step.Expunge side uid) is d k = refl

  module _ (dir : Direction) (uid flags : ℕ) (mark : List ℕ) (is : next_at opened ≡ Some (step.New dir uid flags mark)) where
    -- a copy that was made, where none had been looked for
    pub made_fresh : (r : Result StepResult RunFault) (h : Type 0) (d : Device) → IfOk r (λ x. reported_found x ≡ None) → IfOk r (λ x. h → BeforeStep opening opened false d → OfSame ours d (λ y. reported_found x ≡ copy_at plan (step.New dir uid flags mark) y))
    made_fresh (Err e) h d made = tt
    made_fresh (Ok x) h d made = λ honest k y same.
        made ∙ sym (none_there dir uid flags mark is d k) ∙ same mark (first_uid plan (target dir)) (target dir) (ready_ours dir uid flags mark is false d k)

    -- one that was made, where none was found
    pub made_sought : (r : Result StepResult RunFault) (h0 h1 : Type 0) (d : Device) → (h1 → h0) → IfOk r (λ x. reported_found x ≡ None)
        → (h0 → BeforeStep opening opened true d → OfSame ours d (λ y. None ≡ copy_under plan dir mark y))
        → IfOk r (λ x. h1 → BeforeStep opening opened true d → OfSame ours d (λ y. reported_found x ≡ copy_at plan (step.New dir uid flags mark) y))
    made_sought (Err e) h0 h1 d honest made none = tt
    made_sought (Ok x) h0 h1 d honest made none = λ h k y same. made ∙ none (honest h) k y same

-- a step that copies nothing
plain_found : (x : StepResult) → logged_of x ≡ Done → reported_found x ≡ None
plain_found (did.Made copy) e = refl
plain_found (did.Found copy) e = cc
plain_found did.Void e = refl
plain_found did.Plain e = refl

pub plain_so : (ours : List ℕ → Bool) (r : Result StepResult RunFault) (h from : Type 0) (d : Device) → IfOk r (λ x. logged_of x ≡ Done) → IfOk r (λ x. h → from → OfSame ours d (λ y. reported_found x ≡ None))
plain_so ours (Err e) h from d k = tt
plain_so ours (Ok x) h from d k = λ honest at y same. plain_found x k

-- ---- all steps

-- one step more is reported, which is the first, or before which none of its calls was done
pub found_more : (plan : Plan) (d : Device) (ps : List Performed) (p : Performed) → AreFoundSo plan d ps → (ps ≡ [] → IsFoundSo plan d p) → ((ps ≡ [] → ⊥) → IsNew p) → AreFoundSo plan d (ps ++ p ∷ [])
found_more plan d [] p k first later = (first refl, All-nil IsNew)
found_more plan d (q ∷ ps) p k first later = (k.0, All-push IsNew ps p k.1 (later (λ e. cc)))

pub found_next : {ours : List ℕ → Bool} {alone : Bool} (opening : Opening ours alone) (start now : Option Opened) (is_resumed : Bool) (ps : List Performed) (p : Performed) (s0 s1 : Seen) → HasLogged start now (logs_of ps) → next_at now ≡ Some p.step → (ps ≡ [] → s1 ≡ s0) → ((ps ≡ [] → ⊥) → BeforeStep opening now false s1.device)
    → BeforeStep opening now is_resumed s1.device → OfSame ours s0.device (λ d. AreFoundSo (plan_at start) d ps) → (BeforeStep opening now is_resumed s1.device → OfSame ours s1.device (λ d. IsFoundSo (plan_at now) d p)) → OfSame ours s0.device (λ d. AreFoundSo (plan_at start) d (ps ++ p ∷ []))
found_next {ours} {alone} opening start now is_resumed ps p s0 s1 has is first later ready so_far one = λ d same.
    found_more (plan_at start) d ps p (so_far d same)
    (λ e. subst (λ (plan : Plan). IsFoundSo plan d p) has.plan (one ready d (subst (λ (s : Seen). FindsSame ours d s.device) (sym (first e)) same)))
    (λ e. one ready s1.device (same_none ours s1.device) ∙ not_there opening now p.step is s1.device (later e))

pub not_none : (ps : List Performed) (p : Performed) → ps ++ p ∷ [] ≡ [] → ⊥
not_none [] p e = cc
not_none (q ∷ ps) p e = cc

next_first : (steps : List Step) (log : List Logged) (s : Step) (rest : List Step) → s ∷ rest ≡ drop (length log) steps → next_of steps log ≡ Some s
next_first [] log s rest e = let none = e ∙ drop-nil (length log) in cc
next_first (t ∷ steps) [] s rest e = cc
next_first (t ∷ steps) (l ∷ ls) s rest e = next_first steps ls s rest e

-- of a plan that was just made nothing is found
pub all_new : {ours : List ℕ → Bool} {alone : Bool} (opening : Opening ours alone) (opened : Option Opened) (ps : List Performed) (d : Device) → steps_of ps ≡ drop (length (log_at opened)) (plan_at opened).steps → BeforeStep opening opened false d → AreFoundSo (plan_at opened) d ps → All IsNew ps
all_new opening opened [] d steps k f = All-nil IsNew
all_new {ours} {alone} opening opened (p ∷ ps) d steps k f =
    All-cons IsNew p ps (f.0 ∙ not_there opening opened p.step (next_first (plan_at opened).steps (log_at opened) p.step (steps_of ps) steps) d k) f.1

-- ---- what a pass reports

pub mended_plan : (opened : Option Opened) → plan_at (turned mended opened) ≡ plan_at opened
mended_plan None = refl
mended_plan (Some o) = of_pending o.pending
  where
    of_pending : (p : Pending) → plan_at (Some (record o { pending = mended p })) ≡ plan_at (Some (record o { pending = p }))
    of_pending Missing = refl
    of_pending Useless = refl
    of_pending (Planned written) = refl

pub boxed_plan : (v w : ℕ) (opened : Option Opened) → plan_at (with_box Near w (with_box Far v opened)) ≡ plan_at opened
boxed_plan v w None = refl
boxed_plan v w (Some o) = refl

same_plan : (a b : Option Opened) (d : Device) (pass : Pass) → plan_at a ≡ plan_at b → FindsBy a d pass → FindsBy b d pass
same_plan a b d Already e k = tt
same_plan a b d (Ran performed unfit) e k = k
same_plan a b d (Finished performed) e k = subst (λ (p : Plan). AreFoundSo p d performed.items) e k

-- from one condition to another, after calls that change no copy
pub finds_from : (ours : List ℕ → Bool) (a b : Option Opened) (d0 d1 : Device) (r : Result Pass RunFault) (h0 h1 from start : Type 0) → plan_at b ≡ plan_at a → (h1 → h0) → (h1 → start → from) → (h0 → FindsSame ours d0 d1)
    → IfOk r (λ pass. h1 → from → OfSame ours d1 (λ d. FindsBy b d pass)) → IfOk r (λ pass. h1 → start → OfSame ours d0 (λ d. FindsBy a d pass))
finds_from ours a b d0 d1 (Err e) h0 h1 from start kept honest leads same k = tt
finds_from ours a b d0 d1 (Ok pass) h0 h1 from start kept honest leads same k = λ h at d to. same_plan b a d pass kept (k h (leads h at) d (same_then ours d d0 d1 to (same (honest h))))

-- by the files that were read
pub finds_held : (ours : List ℕ → Bool) (opened : Option Opened) (d0 d1 : Device) (r : Result Pass RunFault) (h0 h1 from start : Type 0) → (h1 → h0) → (h1 → start → from) → (h0 → FindsSame ours d0 d1) → (h0 → IsHeld opened d0)
    → IfOk r (λ pass. h1 → from → OfSame ours d1 (λ d. FindsBy opened d pass)) → IfOk r (λ pass. h1 → start → FindsAt ours d0 pass)
finds_held ours opened d0 d1 (Err e) h0 h1 from start honest leads same held k = tt
finds_held ours opened d0 d1 (Ok pass) h0 h1 from start honest leads same held k = λ h at s p files d to.
    by_opened opened (held (honest h)) s p files d (k h (leads h at) d (same_then ours d d0 d1 to (same (honest h))))
  where
    by_opened : (o : Option Opened) → IsHeld o d0 → (s : SyncState) (p : Pending) → Holds d0.files s p → (d : Device) → FindsBy o d pass → FindsBy (as_read s p) d pass
    by_opened None is s p files d f = absurd is
    by_opened (Some o) is s p files d f =
        let e = book_known d0.files o.state s o.pending p is files in
        same_plan (Some o) (as_read s p) d pass (ap (λ (q : Pending). plan_at (as_read s q)) e.1) f

-- an attempt that read the files before
pub finds_tried : (ours : List ℕ → Bool) (a b : Device) (r : Result Pass RunFault) (h0 h1 from start : Type 0) → (h1 → h0) → (h1 → start → from) → (h0 → b.files ≡ a.files) → (h0 → FindsSame ours a b)
    → IfOk r (λ pass. h1 → from → FindsAt ours b pass) → IfOk r (λ pass. h1 → start → FindsAt ours a pass)
finds_tried ours a b (Err e) h0 h1 from start honest leads files same k = tt
finds_tried ours a b (Ok pass) h0 h1 from start honest leads files same k = λ h at s p held d to.
    k h (leads h at) s p (subst (λ (f : Files). Holds f s p) (sym (files (honest h))) held) d (same_then ours d a b to (same (honest h)))
