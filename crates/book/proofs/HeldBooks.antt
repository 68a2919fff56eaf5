-- Files that hold a book are not refused: each whole line of a text that is spelled goes on with it.
use Rattle.std.proofs.Common.{◌≡◌, ◌⊎◌, inl, inr, ℕ, ◌+◌, ◌<◌, List, [], ◌∷◌, ◌++◌, Option, Some, None, refl, sym, ap, ◌∙◌, subst, arith, append_assoc}
use Rattle.std.specs.Prelude.{All}
use Rattle.std.proofs.Math.Logic.{∥∥₁_elim}
use Rattle.std.proofs.Props.{props}
use Rattle.std.proofs.lemmas.List.{append-nil}
use Rattle.std.proofs.lemmas.List.Elements.{All-nil, All-head, All-tail}
use Rattle.rules.specs.declared.state.SyncState.{SyncState}
use Rattle.sync_state.specs.declared.fault.BookFault.{BookFault}
use Rattle.sync_state.specs.declared.fault.BookFault.TheVariants.{Stopped, BadState, BadJournal, NoMemory}
use Rattle.sync_state.specs.declared.journal.WrittenJournal.{WrittenJournal}
use Rattle.book.specs.declared.book.Pending.{Pending}
use Rattle.book.specs.declared.book.Pending.TheVariants.{Missing, Useless, Planned}
use Rattle.sync_state.specs.Cuts.{same_cut, no_cut}
use Rattle.sync_state.specs.Lines.{lines_text, OneLine, IsBadLine}
use Rattle.sync_state.specs.declared.version.Version.{Version}
use Rattle.sync_state.specs.StateText.{IsStateText, StateText, StateLines, state_lines}
use Rattle.sync_state.specs.JournalText.{journal_lines, IsBadJournal, HasGo}
use Rattle.sync_state.specs.JournalReading.{IsWritten}
use Rattle.book.specs.Agreement.{disagreement}
use Rattle.book.specs.Shelves.{Files}
use Rattle.book.specs.Books.{HoldsState, HoldsJournal, IsUseless, IsPending, IsRefused, Held, Holds, ReportsStateFile, ReportsJournalFile, ReportsOpen}
use Rattle.sync_state.proofs.KnownStates.{state_is_lines}
use Rattle.sync_state.proofs.KnownJournals.{written_known}
use Rattle.book.proofs.KnownBooks.{state_of_file, written_has_go}

-- ---- the first whole lines of a text, which has these lines and `end` after them

-- there is a line after the first ones
record GoesOn (lines first : List (List ℕ)) (end rest : List ℕ) : Type 0 where
  line : List ℕ
  more : List (List ℕ)
  lines_are : lines ≡ first ++ line ∷ more
  rest_is : rest ≡ line ++ 10 ∷ (lines_text more ++ end)
  one : OneLine line

-- the first ones are all
record AreAll (lines first : List (List ℕ)) (end rest : List ℕ) : Type 0 where
  lines_are : lines ≡ first
  rest_is : rest ≡ end

one_more : (l m : List ℕ) (ls ms : List (List ℕ)) (end rest : List ℕ) → l ≡ m → GoesOn ls ms end rest ⊎ AreAll ls ms end rest
    → GoesOn (l ∷ ls) (m ∷ ms) end rest ⊎ AreAll (l ∷ ls) (m ∷ ms) end rest
one_more l m ls ms end rest same (inl g) = inl (record {
  line = g.line;
  more = g.more;
  lines_are = ap (λ (x : List ℕ). x ∷ ls) same ∙ ap (λ (xs : List (List ℕ)). m ∷ xs) g.lines_are;
  rest_is = g.rest_is;
  one = g.one;
})
one_more l m ls ms end rest same (inr a) = inr (record {
  lines_are = ap (λ (x : List ℕ). x ∷ ls) same ∙ ap (λ (xs : List (List ℕ)). m ∷ xs) a.lines_are;
  rest_is = a.rest_is;
})

first_lines : (ls ms : List (List ℕ)) (end rest : List ℕ) → All OneLine ls → All OneLine ms → OneLine end
    → lines_text ls ++ end ≡ lines_text ms ++ rest → GoesOn ls ms end rest ⊎ AreAll ls ms end rest
first_lines [] [] end rest wl wm one e = inr (record { lines_are = refl; rest_is = sym e })
first_lines [] (m ∷ ms) end rest wl wm one e = absurd (no_cut 10 end m (lines_text ms ++ rest) one (e ∙ append_assoc m (10 ∷ lines_text ms) rest))
first_lines (l ∷ ls) [] end rest wl wm one e = inl (record {
  line = l;
  more = ls;
  lines_are = refl;
  rest_is = sym e ∙ append_assoc l (10 ∷ lines_text ls) end;
  one = All-head OneLine l ls wl;
})
first_lines (l ∷ ls) (m ∷ ms) end rest wl wm one e =
    let s = same_cut 10 l m (lines_text ls ++ end) (lines_text ms ++ rest) (All-head OneLine l ls wl) (All-head OneLine m ms wm)
    (sym (append_assoc l (10 ∷ lines_text ls) end) ∙ (e ∙ append_assoc m (10 ∷ lines_text ms) rest)) in
    one_more l m ls ms end rest s.front (first_lines ls ms end rest (All-tail OneLine l ls wl) (All-tail OneLine m ms wm) one s.following)

-- ---- a state's text

good_state : (s : SyncState) (text : List ℕ) (line : ℕ) → StateText s text → IsBadLine StateLines text line → ⊥
good_state s text line has bad = in_version has.version has.is_text where
  in_version : (v : Version) → IsStateText v s text → ⊥
  in_version v is =
      by_lines (first_lines (state_lines v s) bad.before [] bad.rest (state_is_lines v s is.fits) bad.lines.whole (All-nil _)
      (append-nil (lines_text (state_lines v s)) ∙ (sym is.spelled ∙ bad.lines.parts))) where
        by_lines : GoesOn (state_lines v s) bad.before [] bad.rest ⊎ AreAll (state_lines v s) bad.before [] bad.rest → ⊥
        by_lines (inl g) = bad.stops g.line (lines_text g.more ++ []) g.one g.rest_is (record {
          more = g.more;
          spelled = record { version = v; state = s; fits = is.fits; same = append_assoc bad.before (g.line ∷ []) g.more ∙ sym g.lines_are };
        })
        by_lines (inr a) = bad.ends_early a.rest_is (record { version = v; state = s; fits = is.fits; same = sym a.lines_are })

good_state_file : (file : Option (List ℕ)) (s : SyncState) (line : ℕ) → HoldsState file s → ReportsStateFile file (BadState line) → ⊥
good_state_file None s line held reported = reported
good_state_file (Some text) s line held reported = good_state s text line held reported

-- ---- a journal's text

good_journal : (w : WrittenJournal) (text : List ℕ) (line : ℕ) → IsWritten w text → IsBadJournal text line → ⊥
good_journal w text line is bad =
    by_lines (first_lines (journal_lines w.version w.journal) bad.before is.torn bad.rest is.spelled.lines.whole bad.lines.whole is.spelled.no_line
    (sym is.spelled.lines.parts ∙ bad.lines.parts)) where
      by_lines : GoesOn (journal_lines w.version w.journal) bad.before is.torn bad.rest ⊎ AreAll (journal_lines w.version w.journal) bad.before is.torn bad.rest → ⊥
      by_lines (inl g) = bad.stops g.line (lines_text g.more ++ is.torn) g.one g.rest_is (record {
        more = g.more;
        spelled = record { version = w.version; journal = w.journal; fits = is.spelled.fits; words = is.spelled.words; same = append_assoc bad.before (g.line ∷ []) g.more ∙ sym g.lines_are };
      })
      by_lines (inr a) = bad.unfinished (subst (λ (x : List ℕ). OneLine x) (sym a.rest_is) is.spelled.no_line)
          (record { version = w.version; journal = w.journal; fits = is.spelled.fits; words = is.spelled.words; same = sym a.lines_are })

-- a journal that is known is not refused unless it is ahead or disagrees
not_of_text : (s : SyncState) (w : WrittenJournal) (text : List ℕ) (line : ℕ) → IsWritten w text
    → (s.run + 1 < w.journal.plan.run → ⊥) → (w.journal.plan.run ≡ s.run + 1 → disagreement s.entries w.journal ≡ Some line → ⊥) → IsRefused s text line → ⊥
not_of_text s w text line is ahead disagrees (inl bad) = good_journal w text line is bad.1
not_of_text s w text line is ahead disagrees (inr (inl (at, far))) =
    ahead (subst (λ (x : WrittenJournal). s.run + 1 < x.journal.plan.run) (written_known far.written w text far.written_is is) far.ahead)
not_of_text s w text line is ahead disagrees (inr (inr other)) =
    let same = written_known other.written w text other.is_next.written_is is in
    disagrees (subst (λ (x : WrittenJournal). x.journal.plan.run ≡ s.run + 1) same other.is_next.next)
    (subst (λ (x : WrittenJournal). disagreement s.entries x.journal ≡ Some line) same other.disagrees)

-- a text that is refused has `go`
refused_has_go : (s : SyncState) (text : List ℕ) (line : ℕ) → IsRefused s text line → HasGo text
refused_has_go s text line (inl bad) = bad.0
refused_has_go s text line (inr (inl (at, far))) = written_has_go far.written text far.written_is
refused_has_go s text line (inr (inr other)) = written_has_go other.written text other.is_next.written_is

good_pending : (s : SyncState) (w : WrittenJournal) (text : List ℕ) (line : ℕ) → IsPending s w text → IsRefused s text line → ⊥
good_pending s w text line held refused =
    not_of_text s w text line held.is_next.written_is (λ ahead. absurd (omega (arith, ahead, held.is_next.next)))
    (λ next some. none_is_some (sym held.agrees ∙ some)) refused where
      none_is_some : None ≡ Some line → ⊥
      none_is_some e = cc

good_useless : (s : SyncState) (text : List ℕ) (line : ℕ) → IsUseless s.run text → IsRefused s text line → ⊥
good_useless s text line held refused =
    let old = held.old (refused_has_go s text line refused) in
    not_of_text s old.0 text line old.1 (λ ahead. absurd (omega (arith, ahead, old.2))) (λ next some. absurd (omega (arith, next, old.2))) refused

good_journal_file : (s : SyncState) (file : Option (List ℕ)) (p : Pending) (line : ℕ) → HoldsJournal s file p → ReportsJournalFile s file (BadJournal line) → ⊥
good_journal_file s None p line held reported = reported
good_journal_file s (Some text) Missing line held reported = held
good_journal_file s (Some text) Useless line held reported = good_useless s text line held reported
good_journal_file s (Some text) (Planned w) line held reported = good_pending s w text line held reported

-- ---- both files

no_bad_state_reported : (files : Files) (s : SyncState) (line : ℕ) → HoldsState files.state s → ReportsOpen files (BadState line) → ⊥
no_bad_state_reported files s line held (inl reported) = good_state_file files.state s line held reported
no_bad_state_reported files s line held (inr refused) = refused.journal_file

bad_journal_reported_of_state : (file : Option (List ℕ)) (line : ℕ) → ReportsStateFile file (BadJournal line) → ⊥
bad_journal_reported_of_state None line reported = reported
bad_journal_reported_of_state (Some text) line reported = reported

no_bad_journal_reported : (files : Files) (s : SyncState) (p : Pending) (line : ℕ) → Held files s p → ReportsOpen files (BadJournal line) → ⊥
no_bad_journal_reported files s p line held (inl reported) = bad_journal_reported_of_state files.state line reported
no_bad_journal_reported files s p line held (inr refused) =
    let same = state_of_file files.state refused.state s refused.state_file held.state_file in
    good_journal_file s files.journal p line held.journal_file
    (subst (λ (x : SyncState). ReportsJournalFile x files.journal (BadJournal line)) same refused.journal_file)

nothing : IsProp ⊥
nothing = hlevel props

pub held_open : (files : Files) (s : SyncState) (p : Pending) (fault : BookFault) → Holds files s p → ReportsOpen files fault → (fault ≡ Stopped) ⊎ (fault ≡ NoMemory)
held_open files s p Stopped h reported = inl refl
held_open files s p NoMemory h reported = inr refl
held_open files s p (BadState line) h reported = absurd (∥∥₁_elim h nothing (λ held. no_bad_state_reported files s line held.state_file reported))
held_open files s p (BadJournal line) h reported = absurd (∥∥₁_elim h nothing (λ held. no_bad_journal_reported files s p line held reported))
