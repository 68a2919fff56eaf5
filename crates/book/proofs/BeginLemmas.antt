-- What the files hold once the plan of the next run has been written, or a beginning of it.
use Rattle.std.proofs.Common.{◌≡◌, ◌⊎◌, inl, inr, ◌∙◌, ◌+◌, ◌<◌, ℕ, false, List, [], ◌++◌, take, length, Option, Some, None, unwrap_or, refl, sym, ap, subst}
use Rattle.std.specs.Prelude.{All}
use Rattle.std.proofs.lemmas.Bool.{cases_lt}
use Rattle.std.proofs.lemmas.List.{append-nil, take_all}
use Rattle.std.proofs.lemmas.List.Elements.{All-nil}
use Rattle.rules.specs.declared.plan.Plan.{Plan}
use Rattle.rules.specs.declared.state.SyncState.{SyncState}
use Rattle.sync_state.specs.declared.journal.WrittenJournal.{WrittenJournal}
use Rattle.book.specs.declared.shelf.ShelfFile.TheVariants.{Journal}
use Rattle.book.specs.declared.book.Pending.TheVariants.{Missing, Useless}
use Rattle.sync_state.specs.Lines.{lines_text, OneLine}
use Rattle.sync_state.specs.declared.version.Version.TheVariants.{Two}
use Rattle.sync_state.specs.JournalText.{plan_lines, IsPlan}
use Rattle.sync_state.specs.JournalReading.{IsWritten}
use Rattle.book.specs.Shelves.{Files, Appends, AppendsPart}
use Rattle.book.specs.Agreement.{Agrees}
use Rattle.book.specs.Books.{Holds, HoldsJournal, Fits}
use Rattle.book.specs.BookLogs.{fresh, begun}
use Rattle.book.proofs.BookLemmas.{same_files, journal_put}
use Rattle.sync_state.proofs.JournalEnds.{no_log}
use Rattle.sync_state.proofs.SecondVersion.{all_words}
use Rattle.sync_state.proofs.LfLemmas.{plan_is_lines}
use Rattle.book.proofs.GoParts.{no_go_in_plan}

abbrev written_fresh : Plan → WrittenJournal
written_fresh p = record { version = Two; journal = fresh p; is_torn = false }

fresh_is_written : (p : Plan) → IsPlan p → IsWritten (written_fresh p) (lines_text (plan_lines Two p))
fresh_is_written p is =
    let none : plan_lines Two p ++ [] ≡ plan_lines Two p = append-nil (plan_lines Two p) in
    record {
      torn = [];
      spelled = record {
        fits = record { plan = is; log = no_log p.steps };
        words = all_words p is;
        lines = record {
          parts = ap lines_text (sym none) ∙ sym (append-nil (lines_text (plan_lines Two p ++ [])));
          whole = subst (λ (ls : List (List ℕ)). All OneLine ls) (sym none) (plan_is_lines Two p is);
        };
        no_line = All-nil _;
      };
      is_torn = refl;
    }

pub plan_after_nothing : (state : SyncState) (file : Option (List ℕ)) (p : Plan) (text : List ℕ) → IsPlan p → p.run ≡ state.run + 1 → Agrees state.entries (fresh p) → text ≡ lines_text (plan_lines Two p)
    → HoldsJournal state file Missing → HoldsJournal state (Some (unwrap_or file [] ++ text)) (begun p)
plan_after_nothing state None p text is next agrees e h = record {
  is_next = record { written_is = subst (λ (t : List ℕ). IsWritten (written_fresh p) t) (sym e) (fresh_is_written p is); next = next };
  agrees = agrees;
}
plan_after_nothing state (Some t) p text is next agrees e h = absurd h

part_after_nothing : (state : SyncState) (file : Option (List ℕ)) (p : Plan) (text : List ℕ) (count : ℕ) → IsPlan p → text ≡ lines_text (plan_lines Two p) → count < length text
    → HoldsJournal state file Missing → HoldsJournal state (Some (unwrap_or file [] ++ take count text)) Useless
part_after_nothing state None p text count is e part h = record { old = λ g. absurd (no_go_in_plan Two p text count is e part g) }
part_after_nothing state (Some t) p text count is e part h = absurd h

pub begun_or_not : (old new : Files) (state : SyncState) (p : Plan) (text : List ℕ) → (new ≡ old) ⊎ (Appends Journal text old new ⊎ AppendsPart Journal text old new)
    → IsPlan p → p.run ≡ state.run + 1 → Agrees state.entries (fresh p) → text ≡ lines_text (plan_lines Two p) → Holds old state Missing
    → Holds new state Missing ⊎ (Holds new state (begun p) ⊎ Holds new state Useless)
begun_or_not old new state p text (inl same) is next agrees e h = inl (same_files old new state Missing same h)
begun_or_not old new state p text (inr (inl puts)) is next agrees e h =
    inr (inl (journal_put _ old new state Missing (begun p) puts (plan_after_nothing state old.journal p text is next agrees e) h))
begun_or_not old new state p text (inr (inr part)) is next agrees e h = elim (cases_lt part.count (length text)) [
  | inl less ↦ inr (inr (journal_put _ old new state Missing Useless part.part (part_after_nothing state old.journal p text part.count is e less) h))
  | inr all ↦ inr (inl (journal_put _ old new state Missing (begun p) part.part
      (plan_after_nothing state old.journal p (take part.count text) is next agrees (take_all part.count text all ∙ e)) h))
]

pub begun_fits : (state : SyncState) (p : Plan) → IsPlan p → p.run ≡ state.run + 1 → Agrees state.entries (fresh p) → Fits state (begun p)
begun_fits state p is next agrees = record { has_text = record { plan = is; log = no_log p.steps }; next = next; agrees = agrees }
