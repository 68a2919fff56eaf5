-- What the files hold once one step more is logged, or a beginning of its line.
use Rattle.std.proofs.Common.{◌≡◌, ◌≢◌, ◌⊎◌, inl, inr, ◌∙◌, ◌+◌, ◌<◌, ◌^◌, ℕ, zero, suc, Bool, true, false, not, List, [], ◌∷◌, ◌++◌, take, length, Option, Some, None, unwrap_or, refl, sym, ap, subst, arith, append_assoc, length-append, length-take-le}
use Rattle.std.specs.Prelude.{All, ◌==◌}
use Rattle.std.proofs.lemmas.Bool.{cases_lt, false≢true, not_from_true, not_from_false, ne_eqb}
use Rattle.std.proofs.lemmas.List.{append-nil, take_all, take-append-le}
use Rattle.std.proofs.lemmas.List.Elements.{All-nil, All-push, All-take}
use Rattle.rules.specs.declared.entry.Entry.{Entry}
use Rattle.rules.specs.declared.plan.Step.{Step}
use Rattle.rules.specs.declared.plan.Step.TheVariants as step
use Rattle.rules.specs.declared.state.SyncState.{SyncState}
use Rattle.sync_state.specs.declared.version.Version.{Version}
use Rattle.sync_state.specs.declared.journal.Logged.{Logged}
use Rattle.sync_state.specs.declared.journal.Logged.TheVariants.{Void}
use Rattle.sync_state.specs.declared.journal.Journal.{Journal as Planned_journal}
use Rattle.sync_state.specs.declared.journal.WrittenJournal.{WrittenJournal}
use Rattle.book.specs.declared.shelf.ShelfFile.TheVariants.{Journal}
use Rattle.book.specs.declared.book.Pending.{Pending}
use Rattle.book.specs.declared.book.Pending.TheVariants.{Missing, Useless, Planned}
use Rattle.sync_state.specs.Lines.{lines_text, OneLine}
use Rattle.sync_state.specs.JournalText.{journal_lines, plan_lines, log_line, log_lines}
use Rattle.sync_state.specs.JournalReading.{IsWritten, FitsAt}
use Rattle.book.specs.Shelves.{Files, Appends, AppendsPart}
use Rattle.book.specs.Books.{Holds, HoldsJournal, Fits, torn}
use Rattle.book.specs.BookLogs.{with_logged, written_more, logged_more, is_free_for, is_free, is_refused, IsNextLog, MayLog}
use Rattle.book.proofs.BookLemmas.{same_files, journal_put}
use Rattle.sync_state.proofs.LineLemmas.{line_added}
use Rattle.sync_state.proofs.LogLemmas.{log_lines-push, log-push}
use Rattle.sync_state.proofs.LfLemmas.{log_line_is_one_line}
use Rattle.book.proofs.LogAgreement.{agrees_more, at_step_always}

-- ---- the text

not_torn : (rest : List ℕ) → false ≡ not (length rest == 0) → rest ≡ []
not_torn [] h = refl
not_torn (b ∷ rest) h = absurd (false≢true (h ∙ not_from_false (length (b ∷ rest) == 0) (ne_eqb (length (b ∷ rest)) 0 (λ e. absurd (omega (arith, e))))))

is_one_line : (steps : List Step) (k : ℕ) (l : Logged) (number : ℕ) → number < 2 ^ 64 → FitsAt steps k l → OneLine (log_line number l)
is_one_line [] k l number small f = absurd f
is_one_line (s ∷ steps) zero l number small f = log_line_is_one_line s l number small f
is_one_line (s ∷ steps) (suc k) l number small f = is_one_line steps k l number small f

-- the whole text of a journal without a torn line
whole_text : (w : WrittenJournal) (text : List ℕ) → w.is_torn ≡ false → IsWritten w text → text ≡ lines_text (journal_lines w.version w.journal)
whole_text w text whole is =
    is.spelled.lines.parts ∙ ap (λ (x : List ℕ). lines_text (journal_lines w.version w.journal) ++ x) (not_torn is.torn (sym whole ∙ is.is_torn))
    ∙ append-nil (lines_text (journal_lines w.version w.journal))

more_lines : (v : Version) (j : Planned_journal) (step : ℕ) (l : Logged) → step ≡ length j.log + 1 → journal_lines v (with_logged j l) ≡ journal_lines v j ++ log_line step l ∷ []
more_lines v j step l is =
    let number : 1 + length j.log ≡ step = omega (arith, is) in
    ap (λ (ls : List (List ℕ)). plan_lines v j.plan ++ ls) (log_lines-push 1 j.log l ∙ ap (λ (n : ℕ). log_lines 1 j.log ++ log_line n l ∷ []) number)
    ∙ sym (append_assoc (plan_lines v j.plan) (log_lines 1 j.log) (log_line step l ∷ []))

more_is_written : (w : WrittenJournal) (step : ℕ) (l : Logged) (text line : List ℕ) → IsNextLog w step l → step < 2 ^ 64 → line ≡ log_line step l ++ 10 ∷ []
    → IsWritten w text → IsWritten (written_more w l) (text ++ line)
more_is_written w step l text line next small e is =
    let old : List (List ℕ) = journal_lines w.version w.journal in
    let same = more_lines w.version w.journal step l next.number in
    let added : text ++ line ≡ lines_text (old ++ log_line step l ∷ []) =
    line_added old (log_line step l) text (text ++ line) (whole_text w text next.whole is) (ap (λ (x : List ℕ). text ++ x) e) in
    record {
      torn = [];
      spelled = record {
        fits = record { plan = is.spelled.fits.plan; log = log-push w.journal.plan.steps w.journal.log l is.spelled.fits.log next.fits };
        words = is.spelled.words;
        lines = record {
          parts = added ∙ ap lines_text (sym same) ∙ sym (append-nil (lines_text (journal_lines w.version (with_logged w.journal l))));
          whole = subst (λ (ls : List (List ℕ)). All OneLine ls) (sym same)
              (All-push OneLine old (log_line step l) is.spelled.lines.whole (is_one_line w.journal.plan.steps (length w.journal.log) l step small next.fits));
        };
        no_line = All-nil (λ b. b ≢ 10);
      };
      is_torn = next.whole;
    }

some_bytes : (rest : List ℕ) → 0 < length rest → true ≡ not (length rest == 0)
some_bytes [] h = absurd (omega (arith, h))
some_bytes (b ∷ rest) h = sym (not_from_false (length (b ∷ rest) == 0) (ne_eqb (length (b ∷ rest)) 0 (λ e. absurd (omega (arith, e)))))

torn_is_written : (w : WrittenJournal) (step : ℕ) (l : Logged) (text line : List ℕ) (count : ℕ) → IsNextLog w step l → step < 2 ^ 64 → line ≡ log_line step l ++ 10 ∷ []
    → 0 < count → count < length line → IsWritten w text → IsWritten (record w { is_torn = true }) (text ++ take count line)
torn_is_written w step l text line count next small e some less is =
    let part : List ℕ = take count line in
    let size : length line ≡ length (log_line step l) + 1 = ap (λ (x : List ℕ). length x) e ∙ length-append (log_line step l) (10 ∷ []) in
    let front : take count (log_line step l) ≡ part = sym (ap (λ (x : List ℕ). take count x) e ∙ take-append-le count (log_line step l) (10 ∷ []) (omega (arith, size))) in
    let one : OneLine part = subst OneLine front
    (All-take (λ b. b ≢ 10) count (log_line step l) (is_one_line w.journal.plan.steps (length w.journal.log) l step small next.fits)) in
    let long : length part ≡ count = length-take-le count line (omega arith) in
    record {
      torn = part;
      spelled = record {
        fits = is.spelled.fits;
        words = is.spelled.words;
        lines = record { parts = ap (λ (x : List ℕ). x ++ part) (whole_text w text next.whole is); whole = is.spelled.lines.whole };
        no_line = one;
      };
      is_torn = some_bytes part (omega (arith, long));
    }

not_refused : (b : Bool) → not b ≡ false → b ≡ true
not_refused true h = refl
not_refused false h = absurd (false≢true (sym h))

-- ---- the file

pub more_after : (state : SyncState) (file : Option (List ℕ)) (p : Pending) (step : ℕ) (l : Logged) (line : List ℕ) → MayLog p step l → is_refused state.entries p l ≡ false → step < 2 ^ 64
    → line ≡ log_line step l ++ 10 ∷ [] → HoldsJournal state file p → HoldsJournal state (Some (unwrap_or file [] ++ line)) (logged_more p l)
more_after state file Missing step l line next free small e h = absurd next
more_after state file Useless step l line next free small e h = absurd next
more_after state None (Planned w) step l line next free small e h = absurd h
more_after state (Some text) (Planned w) step l line next free small e h =
    record {
      is_next = record { written_is = more_is_written w step l text line next small e h.is_next.written_is; next = h.is_next.next };
      agrees = agrees_more state.entries w.journal l next.fits (not_refused (is_free state.entries w.journal l) free) h.agrees;
    }

torn_after : (state : SyncState) (file : Option (List ℕ)) (p : Pending) (step : ℕ) (l : Logged) (line : List ℕ) (count : ℕ) → MayLog p step l → step < 2 ^ 64 → line ≡ log_line step l ++ 10 ∷ []
    → 0 < count → count < length line → HoldsJournal state file p → HoldsJournal state (Some (unwrap_or file [] ++ take count line)) (torn p)
torn_after state file Missing step l line count next small e some less h = absurd next
torn_after state file Useless step l line count next small e some less h = absurd next
torn_after state None (Planned w) step l line count next small e some less h = absurd h
torn_after state (Some text) (Planned w) step l line count next small e some less h =
    record { is_next = record { written_is = torn_is_written w step l text line count next small e some less h.is_next.written_is; next = h.is_next.next }; agrees = h.agrees }

nothing_after : (state : SyncState) (file : Option (List ℕ)) (p : Pending) (step : ℕ) (l : Logged) (part : List ℕ) → MayLog p step l → part ≡ []
    → HoldsJournal state file p → HoldsJournal state (Some (unwrap_or file [] ++ part)) p
nothing_after state file Missing step l part next e h = absurd next
nothing_after state file Useless step l part next e h = absurd next
nothing_after state None (Planned w) step l part next e h = absurd h
nothing_after state (Some text) (Planned w) step l part next e h =
    subst (λ (t : List ℕ). HoldsJournal state (Some t) (Planned w)) (sym (ap (λ (x : List ℕ). text ++ x) e ∙ append-nil text)) h

-- ---- the call

abbrev OneOfThree : (files : Files) (state : SyncState) (p q r : Pending) → Type 0
OneOfThree files state p q r = Holds files state p ⊎ (Holds files state q ⊎ Holds files state r)

part_logged : (old new : Files) (state : SyncState) (p : Pending) (step : ℕ) (l : Logged) (line : List ℕ) → AppendsPart Journal line old new → MayLog p step l → is_refused state.entries p l ≡ false → step < 2 ^ 64
    → line ≡ log_line step l ++ 10 ∷ [] → Holds old state p → OneOfThree new state p (logged_more p l) (torn p)
part_logged old new state p step l line part next free small e h = elim (cases_lt part.count (length line)) [
  | inr all ↦ inr (inl (journal_put _ old new state p (logged_more p l) part.part
      (more_after state old.journal p step l (take part.count line) next free small (take_all part.count line all ∙ e)) h))
  | inl less ↦ elim (cases_lt 0 part.count) [
    | inl some ↦ inr (inr (journal_put _ old new state p (torn p) part.part (torn_after state old.journal p step l line part.count next small e some less) h))
    | inr none ↦
        let count : part.count ≡ 0 = omega (arith, none) in
        inl (journal_put _ old new state p p part.part
        (nothing_after state old.journal p step l (take part.count line) next (ap (λ (n : ℕ). take n line) count)) h)
  ]
]

pub logged_or_not : (old new : Files) (state : SyncState) (p : Pending) (step : ℕ) (l : Logged) (line : List ℕ)
    → (new ≡ old) ⊎ (Appends Journal line old new ⊎ AppendsPart Journal line old new) → MayLog p step l → is_refused state.entries p l ≡ false → step < 2 ^ 64
    → line ≡ log_line step l ++ 10 ∷ [] → Holds old state p → OneOfThree new state p (logged_more p l) (torn p)
logged_or_not old new state p step l line (inl same) next free small e h = inl (same_files old new state p same h)
logged_or_not old new state p step l line (inr (inl puts)) next free small e h =
    inr (inl (journal_put _ old new state p (logged_more p l) puts (more_after state old.journal p step l line next free small e) h))
logged_or_not old new state p step l line (inr (inr part)) next free small e h = part_logged old new state p step l line part next free small e h

-- ---- a longer log still fits

pub more_fits : (state : SyncState) (p : Pending) (step : ℕ) (l : Logged) → MayLog p step l → is_refused state.entries p l ≡ false → Fits state p → Fits state (logged_more p l)
more_fits state Missing step l next free f = absurd next
more_fits state Useless step l next free f = absurd next
more_fits state (Planned w) step l next free f = record {
  has_text = record { plan = f.has_text.plan; log = log-push w.journal.plan.steps w.journal.log l f.has_text.log next.fits };
  next = f.next;
  agrees = agrees_more state.entries w.journal l next.fits (not_refused (is_free state.entries w.journal l) free) f.agrees;
}

void_is_free_for : (entries : List Entry) (j : Planned_journal) (s : Step) → is_free_for entries j s Void ≡ true
void_is_free_for entries j (step.New d u f m) = refl
void_is_free_for entries j (step.Gone d far near) = refl
void_is_free_for entries j (step.Flags d far near set cleared) = refl
void_is_free_for entries j (step.Expunge side u) = refl

void_is_free : (entries : List Entry) (j : Planned_journal) → is_free entries j Void ≡ true
void_is_free entries j = at_step_always (λ s. is_free_for entries j s Void) (void_is_free_for entries j) j.plan.steps (length j.log)

pub void_is_not_refused : (entries : List Entry) (p : Pending) → is_refused entries p Void ≡ false
void_is_not_refused entries Missing = refl
void_is_not_refused entries Useless = refl
void_is_not_refused entries (Planned w) = not_from_true (is_free entries w.journal Void) (void_is_free entries w.journal)
