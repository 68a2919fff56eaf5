-- What the calls before the steps make of a run, with what was read of the shelf.
use Rattle.std.proofs.Common.{◌≡◌, ◌⊎◌, inl, inr, ℕ, Bool, true, false, List, [], ◌∷◌, ◌++◌, Option, Some, None, is_some, refl, sym, ◌∙◌, ap, subst}
use Rattle.std.specs.Option.{option_map}
use Rattle.std.proofs.lemmas.Bool.{both_ways}
use Rattle.mailcore.specs.declared.side.Side.{Side}
use Rattle.mailcore.specs.declared.side.Side.TheVariants.{Far, Near}
use Rattle.rules.specs.declared.plan.Plan.{Plan}
use Rattle.rules.specs.declared.state.SyncState.{SyncState}
use Rattle.rules.specs.World.{World}
use Rattle.sync_state.specs.declared.version.Version.{Version}
use Rattle.sync_state.specs.declared.fault.BookFault.TheVariants as book
use Rattle.sync_state.specs.declared.journal.Journal.{Journal}
use Rattle.sync_state.specs.declared.journal.Logged.{Logged}
use Rattle.sync_state.specs.declared.journal.WrittenJournal.{WrittenJournal}
use Rattle.book.specs.declared.book.Pending.{Pending}
use Rattle.book.specs.declared.book.Pending.TheVariants.{Missing, Useless, Planned}
use Rattle.book.specs.Books.{Holds, IsPlanned as HasPlanned, mended, Turns, TurnsHalf}
use Rattle.book.specs.Shelves.{Files}
use Rattle.book.proofs.HeldBooks.{held_open}
use Rattle.book.proofs.KnownBooks.{book_known}
use Rattle.outside.specs.declared.fault.OutsideFault.{OutsideFault}
use Rattle.outside.specs.declared.fault.OutsideFault.TheVariants as out
use Rattle.outside.specs.Arrivals.{Arrives}
use Rattle.outside.specs.BookCalls.{OfBook, OnFiles, ReportsFiles}
use Rattle.outside.specs.Calls.{FromShelf}
use Rattle.outside.specs.Devices.{Device}
use Rattle.outside.specs.Opened.{IsBook, IsHeld, IsRead, Opened, TakesDiscard, journal_in, journal_of, state_of, turned, with_box}
use Rattle.run_states.specs.Conditions.{Underway}
use Rattle.run_states.specs.Endings.{DoneAt}
use Rattle.run_states.specs.Moments.{PlannedAt, Stands, with_log}
use Rattle.run_states.specs.Openings.{IsIdle, Opening, Unplanned}
use Rattle.run_states.proofs.Arrived.{alike_filed, pending_arrives, underway_arrives}
use Rattle.run_states.proofs.Growth.{files_same, since_map, unplanned_arrives, unplanned_filed}
use Rattle.run_states.proofs.Moves.{midway_filed}
use Rattle.runner.specs.Before.{HasNoPlan, HasNone, HasPlan, IsClear, IsEmptied, ReadUnderway, Resumed}
use Rattle.runner.specs.Going.{AreOpen, BeforeStep}
use Rattle.runner.proofs.PartCalls.{ReportsNoBook}

-- ---- what was read

pub has_plan : (opened : Option Opened) (j : Journal) → journal_of opened ≡ Some j → HasPlan opened
has_plan None j e = cc
has_plan (Some o) j e = of_pending o.pending e
  where
    of_pending : (p : Pending) → journal_in p ≡ Some j → HasPlanned p
    of_pending Missing e = cc
    of_pending Useless e = cc
    of_pending (Planned written) e = tt

pub has_none : (opened : Option Opened) → IsRead opened → journal_of opened ≡ None → HasNoPlan opened
has_none None read e = absurd read
has_none (Some o) read e = of_pending o.pending e
  where
    of_pending : (p : Pending) → journal_in p ≡ None → IsIdle p
    of_pending Missing e = tt
    of_pending Useless e = tt
    of_pending (Planned written) e = cc

pub none_of : {A B : Type 0} (f : A → B) (r : Option A) (o : Option B) → option_map f r ≡ o → is_some r ≡ false → o ≡ None
none_of f None o e i = sym e
none_of f (Some x) o e i = cc

pub some_of : {A B : Type 0} (f : A → B) (r : Option A) (o : Option B) → option_map f r ≡ o → is_some r ≡ true → (b : B) × (o ≡ Some b)
some_of f None o e i = cc
some_of f (Some x) o e i = (f x, sym e)

pub book_read : (opened : Option Opened) → IsBook opened → IsRead opened
book_read None s = s
book_read (Some o) s = tt

pub never_both : (opened : Option Opened) → HasPlan opened → HasNoPlan opened → ⊥
never_both None h n = h
never_both (Some o) h n = of_pending o.pending h n
  where
    of_pending : (p : Pending) → HasPlanned p → IsIdle p → ⊥
    of_pending Missing h n = h
    of_pending Useless h n = h
    of_pending (Planned written) h n = n

-- where no plan is pending the journal may go
pub none_taken : (opened : Option Opened) → HasNoPlan opened → TakesDiscard opened
none_taken None n = n
none_taken (Some o) n = λ h. never_both (Some o) h n

pub none_read : (opened : Option Opened) → HasNoPlan opened → IsRead opened
none_read None h = h
none_read (Some o) h = tt

pub plan_read : (opened : Option Opened) → HasPlan opened → IsRead opened
plan_read None h = h
plan_read (Some o) h = tt

pub turned_read : (f : Pending → Pending) (opened : Option Opened) → IsRead opened → IsRead (turned f opened)
turned_read f None h = h
turned_read f (Some o) h = tt

pub turned_open : (f : Pending → Pending) (opened : Option Opened) → AreOpen opened → AreOpen (turned f opened)
turned_open f None h side = h side
turned_open f (Some o) h Far = h Far
turned_open f (Some o) h Near = h Near

pub both_open : (v w : ℕ) (opened : Option Opened) → IsRead opened → AreOpen (with_box Near w (with_box Far v opened))
both_open v w None h side = absurd h
both_open v w (Some o) h Far = refl
both_open v w (Some o) h Near = refl

pub boxed_read : (side : Side) (v : ℕ) (opened : Option Opened) → IsRead opened → IsRead (with_box side v opened)
boxed_read side v None h = h
boxed_read Far v (Some o) h = tt
boxed_read Near v (Some o) h = tt

boxed_held : (side : Side) (v : ℕ) (opened : Option Opened) (d : Device) → IsHeld opened d → IsHeld (with_box side v opened) d
boxed_held side v None d h = h
boxed_held Far v (Some o) d h = h
boxed_held Near v (Some o) d h = h

pub turned_state : (f : Pending → Pending) (opened : Option Opened) → state_of (turned f opened) ≡ state_of opened
turned_state f None = refl
turned_state f (Some o) = refl

-- ---- a fault of the shelf

-- files that hold a book report no line
pub no_line : (files : Files) (s : SyncState) (p : Pending) (e : OutsideFault) → Holds files s p → FromShelf e → ReportsFiles e files → ReportsNoBook e
no_line files s p out.Stopped h k t = tt
no_line files s p out.Refused h k t = tt
no_line files s p (out.Box side number) h k t = tt
no_line files s p (out.BadState line) h k t = by_fault (held_open files s p (book.BadState line) h t)
  where
    by_fault : (book.BadState line ≡ book.Stopped) ⊎ (book.BadState line ≡ book.NoMemory) → ⊥
    by_fault (inl e) = cc
    by_fault (inr e) = cc
no_line files s p (out.BadJournal line) h k t = by_fault (held_open files s p (book.BadJournal line) h t)
  where
    by_fault : (book.BadJournal line ≡ book.Stopped) ⊎ (book.BadJournal line ≡ book.NoMemory) → ⊥
    by_fault (inl e) = cc
    by_fault (inr e) = cc
no_line files s p out.NoMemory h k t = tt

-- what was reported of the files is so of those that stand there
pub unread_files : (e : OutsideFault) (m d' : Device) → d' ≡ m → ReportsFiles e m.files → ReportsFiles e d'.files
unread_files e m d' is t = subst (λ (d : Device). ReportsFiles e d.files) (sym is) t

module _ {ours : List ℕ → Bool} {alone : Bool} (opening : Opening ours alone) where
  stands_files : (w : World) (version : Version) (plan : Plan) (log : List Logged) (torn : Bool) (d : Device) → Stands ours alone opening.named w opening.options version plan log torn d → Holds d.files w.state (with_log version plan log torn)
  stands_files w version plan log torn d (inl k) = let at = k.1 in at.files
  stands_files w version plan log torn d (inr k) = let at = k.1 in at.files

  pub planned_files : (w : World) (d : Device) (p : PlannedAt ours alone opening.named w opening.options d) → Holds d.files w.state (with_log p.version p.plan p.log p.is_torn)
  planned_files w d p = stands_files w p.version p.plan p.log p.is_torn d p.stands

  -- the files of a run that is underway hold a book
  pub underway_files : (d : Device) → Underway opening d → (s : SyncState) × ((p : Pending) × Holds d.files s p)
  underway_files d (inl u) = (opening.world.state, (u.pending, u.files))
  underway_files d (inr (inl s)) = let p = s.holds in (s.world.state, (with_log p.version p.plan p.log p.is_torn, planned_files s.world d p))
  underway_files d (inr (inr s)) = let x = s.holds in (x.state, (x.pending, x.files))

  pub unread_left : (e : OutsideFault) (m d' : Device) → Underway opening m → d' ≡ m → ReportsFiles e m.files → FromShelf e → ReportsNoBook e × Underway opening d'
  unread_left e m d' u is t k = let h = underway_files m u in (no_line m.files h.0 h.1.0 e h.1.1 k t, rw is u)

  -- ---- others

  pub held_arrives : (opened : Option Opened) (d m : Device) → Arrives ours alone d m → IsHeld opened d → IsHeld opened m
  held_arrives None d m a h = h
  held_arrives (Some o) d m a h = rw (files_same ours alone d m a) h

  pub held_before : (opened : Option Opened) (d m : Device) → Arrives ours alone d m → IsHeld opened m → IsHeld opened d
  held_before None d m a h = h
  held_before (Some o) d m a h = rw (sym (files_same ours alone d m a)) h

  pub known_arrives : (opened : Option Opened) (d m : Device) → Arrives ours alone d m → ReadUnderway opening opened d → ReadUnderway opening opened m
  known_arrives opened d m a k = record { underway = underway_arrives opening d m a k.underway; held = held_arrives opened d m a k.held }

  pub read_known : (opened : Option Opened) (d m d' : Device) → Underway opening d → Arrives ours alone d m → d' ≡ m → IsHeld opened m → ReadUnderway opening opened d'
  read_known opened d m d' u a is h = rw is (record { underway = underway_arrives opening d m a u; held = h })

  pub opened_known : (side : Side) (v : ℕ) (opened now : Option Opened) (d m d' : Device) → now ≡ with_box side v opened → ReadUnderway opening opened d → Arrives ours alone d m → d' ≡ m → ReadUnderway opening now d'
  opened_known side v opened now d m d' e k a is = rw (e, is) (let n = known_arrives opened d m a k in record { underway = n.underway; held = boxed_held side v opened m n.held })

  -- ---- another journal

  -- the journal stays what it was, or is idle as it was
  abbrev TurnsIdle : (p q : Pending) → Type 0
  TurnsIdle p q = (q ≡ p) ⊎ (IsIdle p × IsIdle q)

  idle_kept : (p q : Pending) → TurnsIdle p q → IsIdle p → IsIdle q
  idle_kept p q (inl e) i = subst IsIdle (sym e) i
  idle_kept p q (inr k) i = k.1

  filed_unplanned : (o : Opened) (q : Pending) (m d' : Device) → TurnsIdle o.pending q → Holds m.files o.state o.pending → d'.far ≡ m.far → d'.near ≡ m.near → d'.named ≡ m.named → Holds d'.files o.state q → Unplanned opening m → Unplanned opening d'
  filed_unplanned o q m d' t held far near named now n =
      let e = book_known m.files o.state opening.world.state o.pending n.pending held n.files in
      unplanned_filed opening q m d' (idle_kept o.pending q t (subst IsIdle (sym e.1) n.idle)) far near named (subst (λ (s : SyncState). Holds d'.files s q) e.0 now) n

  stands_filed : (w : World) (version : Version) (plan : Plan) (log : List Logged) (torn torn' : Bool) (m d' : Device) → d'.far ≡ m.far → d'.near ≡ m.near → d'.named ≡ m.named → Holds d'.files w.state (with_log version plan log torn') → Stands ours alone opening.named w opening.options version plan log torn m → Stands ours alone opening.named w opening.options version plan log torn' d'
  stands_filed w version plan log torn torn' m d' far near named holds (inl k) = inl (k.0, midway_filed ours alone w opening.options version plan log log torn torn' log k.0 m d' far near named holds k.1)
  stands_filed w version plan log torn torn' m d' far near named holds (inr k) = inr (k.0, midway_filed ours alone w opening.options version plan log log torn torn' (log ++ k.0 ∷ []) false m d' far near named holds k.1)

  filed_planned : (o : Opened) (q : Pending) (m d' : Device) → TurnsIdle o.pending q → Holds m.files o.state o.pending → d'.far ≡ m.far → d'.near ≡ m.near → d'.named ≡ m.named → Holds d'.files o.state q → (w : World) → PlannedAt ours alone opening.named w opening.options m → PlannedAt ours alone opening.named w opening.options d'
  filed_planned o q m d' t held far near named now w p =
      let e = book_known m.files o.state w.state o.pending (with_log p.version p.plan p.log p.is_torn) held (planned_files w m p) in
      by_turn e.0 e.1 t
    where
      by_turn : o.state ≡ w.state → o.pending ≡ with_log p.version p.plan p.log p.is_torn → TurnsIdle o.pending q → PlannedAt ours alone opening.named w opening.options d'
      by_turn s is (inl same) = record { version = p.version; plan = p.plan; log = p.log; is_torn = p.is_torn; stands = stands_filed w p.version p.plan p.log p.is_torn p.is_torn m d' far near named (subst (λ (x : SyncState). Holds d'.files x (with_log p.version p.plan p.log p.is_torn)) s (subst (λ (x : Pending). Holds d'.files o.state x) (same ∙ is) now)) p.stands }
      by_turn s is (inr k) = absurd (subst IsIdle is k.0)

  filed_done : (o : Opened) (q : Pending) (m d' : Device) → TurnsIdle o.pending q → Holds m.files o.state o.pending → d'.far ≡ m.far → d'.near ≡ m.near → d'.named ≡ m.named → Holds d'.files o.state q → (w : World) → DoneAt ours alone opening.named w opening.options m → DoneAt ours alone opening.named w opening.options d'
  filed_done o q m d' t held far near named now w x =
      let e = book_known m.files o.state x.state o.pending x.pending held x.files in
      record { state = x.state; pending = q; idle = idle_kept o.pending q t (subst IsIdle (sym e.1) x.idle); files = subst (λ (s : SyncState). Holds d'.files s q) e.0 now; marks = x.marks; alike = alike_filed ours alone w opening.options x.marks m d' x.state far near named x.alike }

  filed_underway : (o : Opened) (q : Pending) (m d' : Device) → TurnsIdle o.pending q → Holds m.files o.state o.pending → d'.far ≡ m.far → d'.near ≡ m.near → d'.named ≡ m.named → Holds d'.files o.state q → Underway opening m → Underway opening d'
  filed_underway o q m d' t held far near named now (inl u) = inl (filed_unplanned o q m d' t held far near named now u)
  filed_underway o q m d' t held far near named now (inr (inl s)) = inr (inl (since_map opening _ _ (λ w g p. filed_planned o q m d' t held far near named now w p) s))
  filed_underway o q m d' t held far near named now (inr (inr s)) = inr (inr (since_map opening _ _ (λ w g x. filed_done o q m d' t held far near named now w x) s))

  -- ---- a journal without a plan goes

  pub forgot : (opened : Option Opened) (d m d' : Device) → HasNoPlan opened → Arrives ours alone d m → ReadUnderway opening opened d → OfBook (λ p. Turns p Missing) opened m d' → ReadUnderway opening (turned (λ _. Missing) opened) d'
  forgot None d m d' none a k t = absurd none
  forgot (Some o) d m d' none a k t =
      let n = known_arrives (Some o) d m a k in
      let now = t.files o.state n.held in
      record { underway = filed_underway o Missing m d' (inr (none, tt)) n.held t.far t.near t.named now n.underway; held = now }

  pub forgot_held : (opened : Option Opened) (d m d' : Device) → IsRead opened → Arrives ours alone d m → IsHeld opened d → OfBook (λ p. Turns p Missing) opened m d' → IsEmptied opened d'
  forgot_held None d m d' read a held t = held
  forgot_held (Some o) d m d' read a held t = λ idle. t.files o.state (held_arrives (Some o) d m a held)

  pub half_forgot : (opened : Option Opened) (d m d' : Device) → HasNoPlan opened → Arrives ours alone d m → ReadUnderway opening opened d → OfBook (λ p. TurnsHalf p Missing) opened m d' → Underway opening d'
  half_forgot None d m d' none a k t = absurd none
  half_forgot (Some o) d m d' none a k t = let n = known_arrives (Some o) d m a k in by_files n.held n.underway t.far t.near t.named (t.files o.state n.held)
    where
      by_files : Holds m.files o.state o.pending → Underway opening m → d'.far ≡ m.far → d'.near ≡ m.near → d'.named ≡ m.named → Holds d'.files o.state o.pending ⊎ Holds d'.files o.state Missing → Underway opening d'
      by_files held u far near named (inl now) = filed_underway o o.pending m d' (inl refl) held far near named now u
      by_files held u far near named (inr now) = filed_underway o Missing m d' (inr (none, tt)) held far near named now u

  pub stores_kept : (opened : Option Opened) (d m d' : Device) → IsRead opened → Arrives ours alone d m → OfBook (λ p. Turns p Missing) opened m d' → (d'.named ≡ d.named) × (alone ≡ true → (d'.far ≡ d.far) × (d'.near ≡ d.near))
  stores_kept None d m d' read a t = absurd read
  stores_kept (Some o) d m d' read a t = (t.named ∙ ap (λ (x : Device). x.named) a.now, λ e. let same = a.nobody e in (t.far ∙ ap (λ (x : Device). x.far) same, t.near ∙ ap (λ (x : Device). x.near) same))

  pub none_known : (opened : Option Opened) (d : Device) → HasNone opening opened d → ReadUnderway opening opened d
  none_known opened d k = record { underway = inl k.unplanned; held = k.held }

  pub emptied : (opened : Option Opened) (d m d' : Device) → HasNoPlan opened → Arrives ours alone d m → HasNone opening opened d → OfBook (λ p. Turns p Missing) opened m d' → IsClear opening (turned (λ _. Missing) opened) false d'
  emptied None d m d' none a k t = absurd none
  emptied (Some o) d m d' none a k t =
      let held : Holds m.files o.state o.pending = held_arrives (Some o) d m a k.held in
      let n = unplanned_arrives opening d m a k.unplanned in
      let e = book_known m.files o.state opening.world.state o.pending n.pending held n.files in
      record {
        state = ap (λ (s : SyncState). Some s) e.0;
        files = subst (λ (s : SyncState). Holds d'.files s Missing) e.0 (t.files o.state held);
        chosen = n.chosen;
        below = n.below;
        grows = rw (t.far, t.near) n.grows;
        named = t.named ∙ n.named;
        unlisted = n.unlisted;
        waited = λ e. absurd (both_ways false refl e);
        admitted = λ e. absurd (both_ways false refl e);
      }

  -- ---- a torn line goes

  pub taken_known : (opened : Option Opened) (d : Device) → Resumed opening opened d → ReadUnderway opening opened d
  taken_known opened d k = record { underway = inr (inl k.pending); held = k.held }

  mended_stands : (written : WrittenJournal) (s : SyncState) (w : World) (m d' : Device) → Holds m.files s (Planned written) → d'.far ≡ m.far → d'.near ≡ m.near → d'.named ≡ m.named → Holds d'.files s (mended (Planned written)) → PlannedAt ours alone opening.named w opening.options m → (s ≡ w.state) × Stands ours alone opening.named w opening.options written.version written.journal.plan written.journal.log false d'
  mended_stands written s w m d' held far near named now p =
      let e = book_known m.files s w.state (Planned written) (with_log p.version p.plan p.log p.is_torn) held (planned_files w m p) in
      let is : written ≡ record { version = p.version; journal = record { plan = p.plan; log = p.log }; is_torn = p.is_torn } = let x = e.1 in cc in
      let files : Holds d'.files w.state (with_log p.version p.plan p.log false) = subst (λ (x : WrittenJournal). Holds d'.files w.state (Planned (record x { is_torn = false }))) is (subst (λ (x : SyncState). Holds d'.files x (Planned (record written { is_torn = false }))) e.0 now) in
      (e.0, subst (λ (x : WrittenJournal). Stands ours alone opening.named w opening.options x.version x.journal.plan x.journal.log false d') (sym is) (stands_filed w p.version p.plan p.log p.is_torn false m d' far near named files p.stands))

  pub untorn : (opened : Option Opened) (d m d' : Device) → HasPlan opened → Arrives ours alone d m → Resumed opening opened d → OfBook (λ p. Turns p (mended p)) opened m d' → BeforeStep opening (turned mended opened) true d'
  untorn None d m d' plan a k t = absurd plan
  untorn (Some o) d m d' plan a k t = by_pending o.pending plan (held_arrives (Some o) d m a k.held) t
    where
      by_pending : (p : Pending) → HasPlanned p → Holds m.files o.state p → OnFiles (Turns p (mended p)) m d' → BeforeStep opening (Some (record o { pending = mended p })) true d'
      by_pending Missing plan held t = absurd plan
      by_pending Useless plan held t = absurd plan
      by_pending (Planned written) plan held t =
          let s = pending_arrives opening d m a k.pending in
          let now = t.files o.state held in
          let one = mended_stands written o.state s.world m d' held t.far t.near t.named now s.holds in
          record {
            state = ap (λ (x : SyncState). Some x) (one.0 ∙ s.grows.state);
            since = record { world = s.world; listed = s.listed; grows = s.grows; waited = s.waited; admitted = s.admitted; below = s.below; within = s.within; holds = one.1 };
          }

  pub half_untorn : (opened : Option Opened) (d m d' : Device) → HasPlan opened → Arrives ours alone d m → Resumed opening opened d → OfBook (λ p. TurnsHalf p p) opened m d' → Underway opening d'
  half_untorn None d m d' plan a k t = absurd plan
  half_untorn (Some o) d m d' plan a k t = let n = known_arrives (Some o) d m a (taken_known (Some o) d k) in by_files n.held n.underway t.far t.near t.named (t.files o.state n.held)
    where
      by_files : Holds m.files o.state o.pending → Underway opening m → d'.far ≡ m.far → d'.near ≡ m.near → d'.named ≡ m.named → Holds d'.files o.state o.pending ⊎ Holds d'.files o.state o.pending → Underway opening d'
      by_files held u far near named (inl now) = filed_underway o o.pending m d' (inl refl) held far near named now u
      by_files held u far near named (inr now) = filed_underway o o.pending m d' (inl refl) held far near named now u
