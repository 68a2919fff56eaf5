-- What has a text has one of the second version.
use Rattle.std.proofs.Common.{get_or}
use Rattle.rules.specs.declared.entry.Entry.{Entry}
use Rattle.rules.specs.declared.plan.Step.{Step}
use Rattle.rules.specs.declared.plan.Step.TheVariants as step
use Rattle.rules.specs.declared.plan.Note.{Note}
use Rattle.rules.specs.declared.plan.Note.TheVariants as note
use Rattle.rules.specs.declared.plan.Plan.{Plan}
use Rattle.rules.specs.declared.state.SyncState.{SyncState}
use Rattle.sync_state.specs.declared.version.Version.{Version}
use Rattle.sync_state.specs.declared.version.Version.TheVariants.{Two}
use Rattle.sync_state.specs.Versions.{HasWords, StepLetters, NoteLetters}
use Rattle.sync_state.specs.StateText.{IsEntry, HasText}
use Rattle.sync_state.specs.JournalText.{IsPlan, IsStep, IsNote}
use Rattle.sync_state.proofs.StateLemmas.{letters_within}

entry_again : (v : Version) (e : Entry) → IsEntry v e → IsEntry Two e
entry_again v e is = record { far = is.far; near = is.near; flags = letters_within v e.flags is.flags }

pub state_again : (v : Version) (s : SyncState) → HasText v s → HasText Two s
state_again v s has = record {
  run = has.run;
  far_validity = has.far_validity;
  max_pulled = has.max_pulled;
  near_validity = has.near_validity;
  max_pushed = has.max_pushed;
  entries = λ i d below. entry_again v (get_or s.entries i d) (has.entries i d below);
  pairs = has.pairs;
}

step_letters : (s : Step) → IsStep s → StepLetters Two s
step_letters (step.New d u f m) is = is.1
step_letters (step.Gone d far near) is = tt
step_letters (step.Flags d far near set cleared) is = (is.2, is.3)
step_letters (step.Expunge side u) is = tt

note_letters : (n : Note) → IsNote n → NoteLetters Two n
note_letters (note.Record far near f) is = is.2
note_letters (note.Drop far near) is = tt

pub all_words : (p : Plan) → IsPlan p → HasWords Two p
all_words p is = record {
  steps = λ i d below. step_letters (get_or p.steps i d) (is.steps i d below);
  notes = λ i d below. note_letters (get_or p.notes i d) (is.notes i d below);
  keywords = tt;
}
