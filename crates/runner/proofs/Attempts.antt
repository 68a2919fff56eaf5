-- What stands between two attempts at a run.
use Rattle.std.proofs.Common.{◌≡◌, ◌⊎◌, ◌≤◌, ◌<◌, ◌+◌, true, false, inl, inr, if◌then◌else◌, ℕ, Bool, List, Option, Some, None, Result, Ok, Err, IfOk, IsErrAnd, ⊎_elim, ◌^◌, refl, sym, ◌∙◌, ap, subst, arith}
use Rattle.std.proofs.lemmas.Bool.{cases_eq, ne_eqb}
use Rattle.rand_core.specs.Stream.{Stream}
use Rattle.mailcore.specs.Draws.{Draws, after_pairs}
use Rattle.mailcore.proofs.PairLemmas.{after_pairs-add}
use Rattle.rules.specs.declared.options.Options.{Options}
use Rattle.rules.specs.declared.state.SyncState.{SyncState}
use Rattle.book.specs.declared.book.Pending.{Pending}
use Rattle.book.specs.Books.{Holds}
use Rattle.book.specs.Shelves.{Files}
use Rattle.book.proofs.KnownBooks.{book_known}
use Rattle.outside.specs.declared.fault.OutsideFault.{OutsideFault}
use Rattle.outside.specs.declared.fault.OutsideFault.TheVariants as out
use Rattle.outside.specs.Arrivals.{Arrives}
use Rattle.outside.specs.BookCalls.{ReportsFiles}
use Rattle.outside.specs.Calls.{FromShelf, Seen, opened_again}
use Rattle.outside.specs.Devices.{Device}
use Rattle.outside.specs.GoingOn.{FilesGoOn, GoesOnTo}
use Rattle.outside.specs.Opened.{IsHeld, Opened, state_of}
use Rattle.run_states.specs.Conditions.{IsPending, Underway}
use Rattle.run_states.specs.Openings.{Opening, Unplanned}
use Rattle.run_states.proofs.Arrived.{pending_arrives}
use Rattle.run_states.proofs.Growth.{unplanned_arrives}
use Rattle.mailcore.specs.declared.keywords.Keyword.{Keyword}
use Rattle.mailcore.specs.declared.side.Side.{Side}
use Rattle.runner.specs.declared.fault.RunFault.{RunFault}
use Rattle.runner.specs.declared.pass.Pass.{Pass}
use Rattle.runner.specs.declared.fault.RunFault.TheVariants as run
use Rattle.runner.specs.Faults.{IsBeyond, IsCaused, IsLastRun, ReadsLastRun, Reasons, call_fault, stops_met}
use Rattle.runner.specs.ChangedMaps.{ReportsOtherMap}
use Rattle.runner.specs.Parts.{IsStuck, Left, ReportsMore}
use Rattle.runner.specs.Answers.{Answers, Inputs, Moves, as_read, run_of}
use Rattle.runner.specs.Attempts.{AnswersAt, AtOpening, HasNoNext, HasReached, IsReached, MetBefore, MetStops, Reopens, ReportsNoNext, AttemptAt, failed_before, found_by}
use Rattle.runner.specs.Validities.{IsKept, ReportsChanged}
use Rattle.runner.proofs.PartCalls.{AreReasons, ReportsNoBook, broken_or_whole, caused_after, caused_reported, more_after, more_none}
use Rattle.runner.proofs.Passes.{planned_state, run_of_state, unplanned_state}
use Rattle.runner.proofs.Readings.{no_line, unread_left}
use Rattle.runner.proofs.Validities.{changed_before, kept_arrives, kept_next, kept_read}

-- ---- the generator

pub moved_twice : (a b c : Stream) → Moves a b → Moves b c → Moves a c
moved_twice a b c p q = (p.0 + q.0, q.1 ∙ ap (λ (s : Stream). after_pairs s q.0) p.1 ∙ sym (after_pairs-add a p.0 q.0))

-- later marks are asked for just so
pub asked_later : {ours : List ℕ → Bool} {alone : Bool} (opening : Opening ours alone) (options : Options) (a b : Stream) → Moves a b → Inputs opening options a → Inputs opening options b
asked_later opening options a b m k = record {
  called = k.called;
  are_ours = λ pairs count marks drawn. k.are_ours (m.0 + pairs) count marks (subst (λ (s : Stream). Draws s count marks) (ap (λ (s : Stream). after_pairs s pairs) m.1 ∙ sym (after_pairs-add a m.0 pairs)) drawn);
}

-- ---- the opening

module _ {ours : List ℕ → Bool} {alone : Bool} (opening : Opening ours alone) where
  pub opening_arrives : (d m : Device) → Arrives ours alone d m → AtOpening opening d → AtOpening opening m
  opening_arrives d m a k = record { room = k.room; open_run = by_case k.open_run }
    where
      by_case : Unplanned opening d ⊎ IsPending opening d → Unplanned opening m ⊎ IsPending opening m
      by_case (inl n) = inl (unplanned_arrives opening d m a n)
      by_case (inr p) = inr (pending_arrives opening d m a p)

  pub opening_underway : (d : Device) → AtOpening opening d → Underway opening d
  opening_underway d k = by_case k.open_run
    where
      by_case : Unplanned opening d ⊎ IsPending opening d → Underway opening d
      by_case (inl n) = inl n
      by_case (inr p) = inr (inl p)

  opening_state : (opened : Option Opened) (d : Device) → AtOpening opening d → IsHeld opened d → run_of opened ≡ opening.world.state.run
  opening_state None d k held = absurd held
  opening_state (Some o) d k held = by_case k.open_run
    where
      by_case : Unplanned opening d ⊎ IsPending opening d → o.state.run ≡ opening.world.state.run
      by_case (inl n) = ap (λ (s : SyncState). s.run) (unplanned_state opening o d held n).0
      by_case (inr p) = ap (λ (s : SyncState). s.run) (planned_state opening o p.world d p.grows held p.holds).0

  -- the run is the one after the state that was read
  pub run_read : (opened : Option Opened) (last : SyncState) (d m d' : Device) → state_of opened ≡ Some last → AtOpening opening d → Arrives ours alone d m → d' ≡ m → IsHeld opened m → (last.run + 1 ≡ opening.world.state.run + 1) × AtOpening opening d'
  run_read opened last d m d' e k a is held =
      let now = opening_arrives d m a k in
      let r = opening_state opened m now held in
      let t = run_of_state opened last e in
      rw is (omega (arith, r, t), now)

  pub opening_left : (e : OutsideFault) (d m d' : Device) → AtOpening opening d → Arrives ours alone d m → d' ≡ m → ReportsFiles e m.files → FromShelf e → ReportsNoBook e × AtOpening opening d'
  opening_left e d m d' k a is states reported =
      let now = opening_arrives d m a k in
      let left = unread_left opening e m d' (opening_underway m now) is states reported in
      (left.0, rw is now)

  -- ---- between attempts

  pub tried_underway : (fixed : Option ℕ) (d : Device) → AttemptAt opening fixed d → Underway opening d
  tried_underway None d t = opening_underway d t
  tried_underway (Some n) d t = t.1

  pub tried_opening : (fixed : Option ℕ) (d : Device) → ((x : ℕ) → fixed ≡ Some x → ⊥) → AttemptAt opening fixed d → AtOpening opening d
  tried_opening None d f t = t
  tried_opening (Some n) d f t = absurd (f n refl)

  pub opening_tried : (fixed : Option ℕ) (d : Device) → ((x : ℕ) → fixed ≡ Some x → ⊥) → AtOpening opening d → AttemptAt opening fixed d
  opening_tried None d f t = t
  opening_tried (Some n) d f t = absurd (f n refl)

pub tried_fixed : {ours : List ℕ → Bool} {alone : Bool} (opening : Opening ours alone) (fixed : Option ℕ) (number : ℕ) (d : Device) → fixed ≡ Some number → AttemptAt opening fixed d → AttemptAt opening (Some number) d
tried_fixed {ours} {alone} opening fixed number d e t = subst (λ (x : Option ℕ). AttemptAt opening x d) e t

pub fixed_tried : {ours : List ℕ → Bool} {alone : Bool} (opening : Opening ours alone) (fixed : Option ℕ) (number : ℕ) (d : Device) → fixed ≡ Some number → AttemptAt opening (Some number) d → AttemptAt opening fixed d
fixed_tried {ours} {alone} opening fixed number d e t = subst (λ (x : Option ℕ). AttemptAt opening x d) (sym e) t

-- ---- what one attempt reports, by the files before it was fixed which run is made

pub attempt_changed : (alone : Bool) (h1 h2 : Type 0) (a b c : Device) (side : Side) → (h2 → h1) → (h1 → IsKept alone a b) → ReportsChanged h2 alone b c side → ReportsChanged h2 alone a c side
attempt_changed alone h1 h2 a b c side honest kept reported = λ h s p held.
    let k = kept (honest h) in
    let t = reported h s p (subst (λ (f : Files). Holds f s p) (sym k.files) held) in
    (changed_before (as_read s p) side a b k.validities t.0, kept_next alone a b c k t.1)

pub attempt_map : (now : Option Opened) (alone : Bool) (h1 h2 : Type 0) (keywords : List Keyword) (a b c : Device) → (h2 → h1) → (h1 → IsKept alone a b) → ReportsOtherMap now h2 alone keywords b c → ReportsOtherMap now h2 alone keywords a c
attempt_map now alone h1 h2 keywords a b c honest kept reported = (reported.0, λ h. let t = reported.1 h in (t.0, kept_next alone a b c (kept (honest h)) t.1))

pub attempt_answers : {ours : List ℕ → Bool} {alone : Bool} (opening : Opening ours alone) (h1 h2 : Type 0) (options : Options) (stream : Stream) (fixed : Option ℕ) (number : ℕ) (a b : Device) (before : Option ℕ) (r : Result Pass RunFault) → fixed ≡ Some number → (h2 → h1) → (h1 → IsKept alone a b)
    → (h1 → AttemptAt opening before a → AttemptAt opening fixed b)
    → IfOk r (λ pass. h2 → AnswersAt number options pass b stream)
    → IfOk r (λ pass. h2 → AttemptAt opening before a → AnswersAt (opening.world.state.run + 1) options pass a stream)
attempt_answers opening h1 h2 options stream fixed number a b before (Err e) is honest kept reaches answers = tt
attempt_answers {ours} {alone} opening h1 h2 options stream fixed number a b before (Ok pass) is honest kept reaches answers = λ h at.
    let k = kept (honest h) in
    let t = tried_fixed opening fixed number b is (reaches (honest h) at) in
    let x = answers h in
    record {
      answers = λ s p held. subst (λ (n : ℕ). Answers n s p pass) t.0 (x.answers s p (subst (λ (f : Files). Holds f s p) (sym k.files) held));
      runs = λ s p held. x.runs s p (subst (λ (f : Files). Holds f s p) (sym k.files) held);
    }

pub kept_none : (alone : Bool) (d : Device) → IsKept alone d d
kept_none alone d = record { files = refl; named = refl; validities = record { far = refl; near = refl }; same = λ e. refl }

-- ---- the greatest number

no_next : (e : OutsideFault) → FromShelf e → ReportsNoBook e → ReportsNoNext (call_fault e)
no_next out.Stopped k t = tt
no_next out.Refused k t = k
no_next (out.Box side number) k t = k
no_next (out.BadState line) k t = absurd t
no_next (out.BadJournal line) k t = t
no_next out.NoMemory k t = tt

-- a reading that shows it
pub last_run : (opened : Option Opened) (last : SyncState) (m d' : Device) → state_of opened ≡ Some last → d' ≡ m → IsHeld opened m → last.run + 1 ≡ 2 ^ 64 → IsLastRun d'.files
last_run None last m d' e is held n = absurd held
last_run (Some o) last m d' e is held n =
    let same : o.state ≡ last = cc in
    record {
      state = o.state;
      pending = o.pending;
      held = subst (λ (d : Device). Holds d.files o.state o.pending) (sym is) held;
      greatest = ap (λ (s : SyncState). s.run + 1) same ∙ n;
    }

pub reads_last : (opened : Option Opened) (last : SyncState) → state_of opened ≡ Some last → last.run + 1 ≡ 2 ^ 64 → ReadsLastRun opened
reads_last None last e n = cc
reads_last (Some o) last e n = let same : o.state ≡ last = cc in ap (λ (s : SyncState). s.run + 1) same ∙ n

pub last_read : (opened : Option Opened) (last s : SyncState) (p : Pending) (d : Device) → state_of opened ≡ Some last → IsHeld opened d → Holds d.files s p → last.run ≡ s.run
last_read None last s p d e held k = absurd held
last_read (Some o) last s p d e held k =
    let same : o.state ≡ last = cc in
    let b = book_known d.files o.state s o.pending p held k in
    ap (λ (x : SyncState). x.run) (sym same ∙ b.0)

-- the run that is fixed is the next one
pub reached_read : (opened : Option Opened) (last : SyncState) (m d' : Device) → state_of opened ≡ Some last → d' ≡ m → IsHeld opened m → HasReached (last.run + 1) d'.files
reached_read None last m d' e is held = absurd held
reached_read (Some o) last m d' e is held =
    let same : o.state ≡ last = cc in
    let run = ap (λ (s : SyncState). s.run) same in
    record { state = o.state; pending = o.pending; held = subst (λ (d : Device). Holds d.files o.state o.pending) (sym is) held; next = omega (arith, run) }

module _ (ours : List ℕ → Bool) (alone : Bool) where
  held_since : (d m : Device) → Arrives ours alone d m → (s : SyncState) (p : Pending) → Holds d.files s p → Holds m.files s p
  held_since d m a s p h = let k = kept_arrives ours alone d m a in subst (λ (f : Files). Holds f s p) (sym k.files) h

  pub next_read : (opened : Option Opened) (last : SyncState) (d m d' : Device) → state_of opened ≡ Some last → Arrives ours alone d m → d' ≡ m → IsHeld opened m → (s : SyncState) (p : Pending) → Holds d.files s p → (last.run ≡ s.run) × IsKept alone d d'
  next_read opened last d m d' e a is held s p h = (last_read opened last s p m e held (held_since d m a s p h), kept_read ours alone d m d' a is)

  pub next_unread : (e : OutsideFault) (d m d' : Device) → Arrives ours alone d m → d' ≡ m → ReportsFiles e m.files → FromShelf e → (s : SyncState) (p : Pending) → Holds d.files s p → ReportsNoNext (call_fault e) × IsKept alone d d'
  next_unread e d m d' a is states reported s p h = (no_next e reported (no_line m.files s p e (held_since d m a s p h) reported states), kept_read ours alone d m d' a is)

-- ---- counts

none_met : (f : RunFault) → (f ≡ run.Stopped → ⊥) → stops_met f ≡ 0
none_met run.Stopped other = absurd (other refl)
none_met (run.Refused step) other = refl
none_met (run.ValidityChanged side) other = refl
none_met (run.BadState line) other = refl
none_met (run.BadJournal line) other = refl
none_met (run.StoreFault side number) other = refl
none_met run.MarksRepeat other = refl
none_met run.NoMemory other = refl
none_met run.KeywordsChanged other = refl

-- as an attempt finds the outside
pub found_first : (n : ℕ) (s : Seen) → n ≡ 0 → found_by n s ≡ s
found_first n s e = rw e refl

pub found_later : (n : ℕ) (s : Seen) → (n ≡ 0 → ⊥) → found_by n s ≡ opened_again s
found_later n s f = rw (ne_eqb n 0 f) refl

pub found_device : (n : ℕ) (s t : Seen) → t ≡ found_by n s → t.device ≡ s.device
found_device n s t e = ap (λ (x : Seen). x.device) e

-- only the first may find that it had failed before
found_whole : (n : ℕ) (s t : Seen) → t ≡ found_by n s → (n ≡ 0 → ⊥) → t.is_broken ≡ false
found_whole n s t e f = ap (λ (x : Seen). x.is_broken) (e ∙ found_later n s f)

failed : (s : Seen) → s.is_broken ≡ true → failed_before s ≡ 1
failed s e = rw e refl

not_failed : (s : Seen) → s.is_broken ≡ false → failed_before s ≡ 0
not_failed s e = rw e refl

failed_at_most : (s : Seen) → failed_before s ≤ 1
failed_at_most s = either s.is_broken
  where
    either : (b : Bool) → (if b then 1 else 0) ≤ 1
    either true = omega arith
    either false = omega arith

-- an attempt that found the outside whole was the first only where it had not failed before
whole_few : (n : ℕ) (start now s1 : Seen) → (n ≡ 0 → now ≡ start) → s1 ≡ found_by n now → s1.is_broken ≡ false → failed_before start ≤ n
whole_few n start now s1 first e whole = by_first (cases_eq n 0)
  where
    by_first : (n ≡ 0) ⊎ ((n ≡ 0) → ⊥) → failed_before start ≤ n
    by_first (inl z) =
        let same : s1 ≡ start = e ∙ found_first n now z ∙ first z in
        let f = not_failed start (sym (ap (λ (x : Seen). x.is_broken) same) ∙ whole) in
        omega (arith, f)
    by_first (inr f) = let m = failed_at_most start in omega (arith, m, f)

-- one more attempt met a stop
pub stops_more : {T : Type 0} {reasons : Reasons} (h : Type 0) (a u : Device → Type 0) (n : ℕ) (start now s1 s2 : Seen) (r : Result T RunFault) → MetStops n start now → (n ≡ 0 → now ≡ start) → s1 ≡ found_by n now → IsStuck s1 s2 r → Left reasons h a u run.Stopped s1 s2 → MetStops (n + 1) start s2
stops_more h a u n start now s1 s2 r met first e stuck l = by_state (broken_or_whole s1)
  where
    at : s1.stops ≡ now.stops
    at = ap (λ (x : Seen). x.stops) e

    by_first : s1.is_broken ≡ true → (n ≡ 0) ⊎ ((n ≡ 0) → ⊥) → MetStops (n + 1) start s2
    by_first b (inl z) =
        let same : s1 ≡ start = e ∙ found_first n now z ∙ first z in
        let k = failed start (sym (ap (λ (x : Seen). x.is_broken) same) ∙ b) in
        let still = ap (λ (x : Seen). x.stops) ((stuck b).1 ∙ same) in
        omega (arith, z, k, still)
    by_first b (inr f) = let w = found_whole n now s1 e f in absurd (cc)

    by_state : (s1.is_broken ≡ true) ⊎ (s1.is_broken ≡ false) → MetStops (n + 1) start s2
    by_state (inl b) = by_first b (cases_eq n 0)
    by_state (inr w) = let more = l.stops w in let few = whole_few n start now s1 first e w in omega (arith, more, few, at, met)

-- one that was answered adds none
pub stops_kept : (n : ℕ) (start now s1 s2 : Seen) → MetStops n start now → s1 ≡ found_by n now → s2.stops ≡ s1.stops → MetStops n start s2
stops_kept n start now s1 s2 met e k = let at = ap (λ (x : Seen). x.stops) e in omega (arith, met, at, k)

-- an attempt that was not stopped found the outside whole
unstopped_whole : {T : Type 0} (s1 s2 : Seen) (r : Result T RunFault) → (IsErrAnd r (λ fault. fault ≡ run.Stopped) → ⊥) → IsStuck s1 s2 r → s1.is_broken ≡ false
unstopped_whole s1 s2 r other stuck = ⊎_elim (λ b. absurd (other (stuck b).0)) (λ w. w) (broken_or_whole s1)

pub failed_few : {T : Type 0} (n : ℕ) (start now s1 s2 : Seen) (x : T) → (n ≡ 0 → now ≡ start) → s1 ≡ found_by n now → IsStuck s1 s2 (Ok x) → failed_before start ≤ n
failed_few n start now s1 s2 x first e stuck = whole_few n start now s1 first e (unstopped_whole s1 s2 (Ok x) (λ k. k) stuck)

-- the last one had another fault
pub met_before : (T : Type 0) {reasons : Reasons} (h : Type 0) (a u : Device → Type 0) (n tries : ℕ) (start now s1 s2 : Seen) (f : RunFault) → MetStops n start now → (n ≡ 0 → now ≡ start) → s1 ≡ found_by n now → IsStuck {T = T} s1 s2 (Err f) → Left reasons h a u f s1 s2
    → n < tries → (f ≡ run.Stopped → ⊥) → Reopens n start s2 → MetBefore tries start s2
met_before T h a u n tries start now s1 s2 f met first e stuck l few other reopens =
    let whole = unstopped_whole {T = T} s1 s2 (Err f) other stuck in
    record {
      earlier = n;
      few = few;
      least = whole_few n start now s1 first e whole;
      met = stops_kept n start now s1 s2 met e (l.stops whole ∙ ap (λ (k : ℕ). s1.stops + k) (none_met f other) ∙ omega arith);
      reopens = reopens;
    }

-- the first attempt, where the outside had failed before
pub stuck_first : {T : Type 0} (n : ℕ) (start now s1 s2 : Seen) (r : Result T RunFault) → n ≡ 0 → (n ≡ 0 → now ≡ start) → s1 ≡ found_by n now → IsStuck s1 s2 r → IsStuck start s2 r
stuck_first n start now s1 s2 r z first e stuck = λ b.
    let same : s1 ≡ start = e ∙ found_first n now z ∙ first z in
    let k = stuck (ap (λ (y : Seen). y.is_broken) same ∙ b) in
    (k.0, k.1 ∙ same)

pub stuck_more : {T : Type 0} (n : ℕ) (start now s1 s2 : Seen) (r : Result T RunFault) → (n ≡ 0 → now ≡ start) → s1 ≡ found_by n now → IsStuck s1 s2 r → n + 1 ≤ 1 → start.is_broken ≡ true → s2 ≡ start
stuck_more n start now s1 s2 r first e stuck l b = let k = stuck_first n start now s1 s2 r (omega (arith, l)) first e stuck b in k.1

-- nothing that was reported is lost where the outside is opened again
pub more_found : (n : ℕ) (start now s1 : Seen) → ReportsMore start now → s1 ≡ found_by n now → ReportsMore start s1
more_found n start now s1 p e = more_after start now s1 p (more_none now s1 (ap (λ (s : Seen). s.reported) e))

-- a fault that is reported in one attempt is reported in all
pub caused_since : {c : Reasons} (c' : Reasons) (h : Type 0) (a u : Device → Type 0) (f : RunFault) (s0 s1 s2 : Seen) → ReportsMore s0 s1 → s0.appends ≤ s1.appends → (f ≡ run.Stopped → ⊥) → Left c h a u f s1 s2 → AreReasons c c' → IsCaused c' f s0 s2
caused_since {c} c' h a u f s0 s1 s2 more appends other l k = caused_reported c c' f s0 s2 k (caused_after c f s0 s1 s2 (λ is. absurd (other is)) more appends l.caused)

-- ---- a run that is fixed is not beyond the next one

-- it is so still of what the files have gone on to
pub reached_on : (run : ℕ) (a b : Files) → FilesGoOn a b → HasReached run a → HasReached run b
reached_on run a b on r =
    let n = on r.state r.pending r.held in
    record { state = n.state; pending = n.pending; held = n.held; next = by_case n.state n.pending n.goes_on r.next }
  where
    by_case : (t : SyncState) (q : Pending) → GoesOnTo r.state r.pending t q → run ≤ r.state.run + 1 → run ≤ t.run + 1
    by_case t q (inl same) next = let e = ap (λ (s : SyncState). s.run) same.0 in omega (arith, e, next)
    by_case t q (inr less) next = omega (arith, less, next)

pub fixed_on : (fixed : Option ℕ) (run : ℕ) (a b : Files) → fixed ≡ Some run → FilesGoOn a b → HasReached run a → IsReached fixed b
fixed_on fixed run a b is on r = subst (λ (x : Option ℕ). IsReached x b) (sym is) (reached_on run a b on r)

pub none_reached : (fixed : Option ℕ) (files : Files) → fixed ≡ None → IsReached fixed files
none_reached fixed files is = subst (λ (x : Option ℕ). IsReached x files) (sym is) tt

pub some_reached : (fixed : Option ℕ) (run : ℕ) (files : Files) → fixed ≡ Some run → IsReached fixed files → HasReached run files
some_reached fixed run files is r = subst (λ (x : Option ℕ). IsReached x files) is r

pub never_beyond : (run : ℕ) (d : Device) → HasReached run d.files → IsBeyond run d → ⊥
never_beyond run d r b =
    let same = book_known d.files r.state b.state r.pending b.pending r.held b.held in
    let e = ap (λ (s : SyncState). s.run) same.0 in
    let over = b.beyond in
    let next = r.next in
    omega (arith, e, over, next)

-- a step that is reported as refused has its reason
pub refused_for : {c : Reasons} (h : Type 0) (a u : Device → Type 0) (f : RunFault) (s0 s1 : Seen) (step : ℕ) → f ≡ run.Refused step → Left c h a u f s0 s1 → c.refused step
refused_for {c} h a u f s0 s1 step is l = let reported : IsCaused c (run.Refused step) s0 s1 = subst (λ (x : RunFault). IsCaused c x s0 s1) is l.caused in reported.0

-- ---- the greatest number, after some attempts

pub greatest_since : {T : Type 0} (alone : Bool) (h : Type 0) (a b c d : Device) (r : Result T RunFault) (fixed now : Option ℕ) → (fixed ≡ None) × IsKept alone a b → c ≡ b → (s : SyncState) (p : Pending) → Holds a.files s p → s.run + 1 ≡ 2 ^ 64 → (fixed ≡ None → HasNoNext h alone c d r)
    → (fixed ≡ None → h → (s : SyncState) (p : Pending) → Holds c.files s p → s.run + 1 ≡ 2 ^ 64 → now ≡ None) → h → (now ≡ None) × (IsErrAnd r ReportsNoNext × IsKept alone a d)
greatest_since alone h a b c d r fixed now k e s p held is states unfixed honest =
    let kept : IsKept alone a c = subst (λ (x : Device). IsKept alone a x) (sym e) k.1 in
    let here : Holds c.files s p = subst (λ (f : Files). Holds f s p) (sym kept.files) held in
    let reported = states k.0 honest s p here is in
    (unfixed k.0 honest s p here is, (reported.0, kept_next alone a c d kept reported.1))
