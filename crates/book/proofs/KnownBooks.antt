-- A book is known from the two files.
use Rattle.std.proofs.Common.{◌≡◌, ℕ, List, [], ◌∷◌, ◌++◌, Option, Some, None, refl, sym, ap, ◌∙◌, subst, arith, append_assoc}
use Rattle.std.proofs.Math.Logic.{∥∥₁_elim}
use Rattle.std.proofs.Props.{props}
use Rattle.rules.specs.declared.state.SyncState.{SyncState}
use Rattle.sync_state.specs.declared.version.Version.{Version}
use Rattle.sync_state.specs.declared.journal.Journal.{Journal}
use Rattle.sync_state.specs.declared.journal.WrittenJournal.{WrittenJournal}
use Rattle.book.specs.declared.book.Pending.{Pending}
use Rattle.book.specs.declared.book.Pending.TheVariants.{Missing, Useless, Planned}
use Rattle.sync_state.specs.Lines.{lines_text}
use Rattle.sync_state.specs.JournalText.{go_line, log_lines, journal_lines, HasGo}
use Rattle.sync_state.specs.JournalReading.{IsWritten}
use Rattle.book.specs.Shelves.{Files}
use Rattle.rules.specs.Opening.{IsFirst}
use Rattle.book.specs.Books.{HoldsState, HoldsJournal, IsUseless, IsPending, Held, Holds}
use Rattle.sync_state.proofs.LineLemmas.{lines_text-append}
use Rattle.sync_state.proofs.LfLemmas.{before_go, before_go_is_lines, last_is_go}
use Rattle.sync_state.proofs.KnownStates.{state_from, state_known}
use Rattle.sync_state.proofs.KnownJournals.{written_known}

first_known : (s t : SyncState) → IsFirst s → IsFirst t → s ≡ t
first_known s t a b =
    state_from s t (a.run ∙ sym b.run) (a.far_validity ∙ sym b.far_validity) (a.near_validity ∙ sym b.near_validity) (a.max_pulled ∙ sym b.max_pulled) (a.max_pushed ∙ sym b.max_pushed)
    (a.entries ∙ sym b.entries)

pub state_of_file : (file : Option (List ℕ)) (s t : SyncState) → HoldsState file s → HoldsState file t → s ≡ t
state_of_file None s t a b = first_known s t a b
state_of_file (Some text) s t a b = state_known s t text a b

-- a journal's lines are those before `go`, `go`, and those that log steps
go_is_there : (v : Version) (j : Journal) → journal_lines v j ≡ before_go v j.plan ++ (go_line ∷ log_lines 1 j.log)
go_is_there v j = ap (λ (x : List (List ℕ)). x ++ log_lines 1 j.log) (last_is_go v j.plan) ∙ append_assoc (before_go v j.plan) (go_line ∷ []) (log_lines 1 j.log)

pub written_has_go : (w : WrittenJournal) (text : List ℕ) → IsWritten w text → HasGo text
written_has_go w text is =
    let p = w.journal.plan in
    let front : List (List ℕ) = before_go w.version p in
    let more : List (List ℕ) = log_lines 1 w.journal.log in
    let parts = is.spelled.lines.parts in
    record {
      before = front;
      following = lines_text more ++ is.torn;
      lines = record {
        parts = parts ∙ ap (λ (x : List (List ℕ)). lines_text x ++ is.torn) (go_is_there w.version w.journal)
            ∙ ap (λ (x : List ℕ). x ++ is.torn) (lines_text-append front (go_line ∷ more))
            ∙ append_assoc (lines_text front) (lines_text (go_line ∷ more)) is.torn
            ∙ ap (λ (x : List ℕ). lines_text front ++ x) (append_assoc go_line (10 ∷ lines_text more) is.torn);
        whole = before_go_is_lines w.version p is.spelled.fits.plan;
      };
    }

-- a plan of the next run is of use
of_use : (s : SyncState) (w : WrittenJournal) (text : List ℕ) → IsUseless s.run text → IsPending s w text → ⊥
of_use s w text useless pending =
    let is = pending.is_next.written_is in
    let old = useless.old (written_has_go w text is) in
    let same = written_known old.0 w text old.1 is in
    let run = ap (λ (x : WrittenJournal). x.journal.plan.run) same in
    absurd (omega (arith, old.2, run, pending.is_next.next))

pub journal_of_file : (s : SyncState) (file : Option (List ℕ)) (p q : Pending) → HoldsJournal s file p → HoldsJournal s file q → p ≡ q
journal_of_file s None Missing Missing a b = refl
journal_of_file s None Missing Useless a b = absurd b
journal_of_file s None Missing (Planned w) a b = absurd b
journal_of_file s None Useless q a b = absurd a
journal_of_file s None (Planned w) q a b = absurd a
journal_of_file s (Some text) Missing q a b = absurd a
journal_of_file s (Some text) Useless Missing a b = absurd b
journal_of_file s (Some text) Useless Useless a b = refl
journal_of_file s (Some text) Useless (Planned w) a b = absurd (of_use s w text a b)
journal_of_file s (Some text) (Planned w) Missing a b = absurd b
journal_of_file s (Some text) (Planned w) Useless a b = absurd (of_use s w text b a)
journal_of_file s (Some text) (Planned w) (Planned v) a b = ap Planned (written_known w v text a.is_next.written_is b.is_next.written_is)

pub held_known : (files : Files) (s t : SyncState) (p q : Pending) → Held files s p → Held files t q → (s ≡ t) × (p ≡ q)
held_known files s t p q a b =
    let state = state_of_file files.state s t a.state_file b.state_file in
    (state, journal_of_file t files.journal p q (subst (λ (x : SyncState). HoldsJournal x files.journal p) state a.journal_file) b.journal_file)

state-set : IsSet SyncState
state-set = hlevel props

pending-set : IsSet Pending
pending-set = hlevel props

pub book_known : (files : Files) (s t : SyncState) (p q : Pending) → Holds files s p → Holds files t q → (s ≡ t) × (p ≡ q)
book_known files s t p q a b =
    let one : IsProp ((s ≡ t) × (p ≡ q)) = hlevel (state-set, pending-set, props) in
    ∥∥₁_elim a one (λ held. ∥∥₁_elim b one (λ other. held_known files s t p q held other))
