-- That a journal fits has one proof, and so has that a state is sound, so that a book can keep it.
use Rattle.std.specs.Prelude.{List, [], ◌∷◌}
use Rattle.mailcore.specs.declared.keywords.Keyword.{Keyword}
use Rattle.mailcore.specs.KeywordNames.{IsMap}
use Rattle.rules.specs.declared.entry.Entry.{Entry}
use Rattle.sync_state.specs.StateText.{IsEntry, HasText}
use Rattle.std.proofs.Props.{props}
use Rattle.rules.specs.declared.state.SyncState.{SyncState}
use Rattle.rules.specs.declared.plan.Step.{Step}
use Rattle.rules.specs.declared.plan.Step.TheVariants as step
use Rattle.rules.specs.declared.plan.Note.{Note}
use Rattle.rules.specs.declared.plan.Note.TheVariants as note
use Rattle.sync_state.specs.declared.version.Version.{Version}
use Rattle.sync_state.specs.declared.journal.Logged.{Logged}
use Rattle.sync_state.specs.declared.journal.Logged.TheVariants.{Copied, Done, Void}
use Rattle.sync_state.specs.declared.journal.Journal.{Journal}
use Rattle.book.specs.declared.book.Pending.{Pending}
use Rattle.book.specs.declared.book.Pending.TheVariants.{Missing, Useless, Planned}
use Rattle.rules.specs.declared.plan.Plan.{Plan}
use Rattle.sync_state.specs.Words.{IsUidOrNone}
use Rattle.std.specs.Prelude.{◌≡◌, Bool, true, Option, None, Some, ℕ}
use Rattle.sync_state.specs.JournalText.{IsStep, IsNote, IsPlan, LogsNew, LogsOther, FitsStep, IsLog, HasJournal}
use Rattle.book.specs.Books.{Fits, IsSound}
use Rattle.book.specs.TakenUids.{Knows}
use Rattle.book.specs.declared.taken.Taken.{Taken}

IsStep-prop : (s : Step) → IsProp (IsStep s)
IsStep-prop (step.New direction uid flags mark) = Prim.hlevel props
IsStep-prop (step.Gone direction far near) = Prim.hlevel props
IsStep-prop (step.Flags direction far near set cleared) = Prim.hlevel props
IsStep-prop (step.Expunge side uid) = Prim.hlevel props

IsUidOrNone-prop : (uid : Option ℕ) → IsProp (IsUidOrNone uid)
IsUidOrNone-prop None = Prim.hlevel props
IsUidOrNone-prop (Some uid) = Prim.hlevel props

IsNote-prop : (n : Note) → IsProp (IsNote n)
IsNote-prop (note.Record far near flags) = Prim.hlevel props
IsNote-prop (note.Drop far near) = Prim.hlevel (IsUidOrNone-prop, props)

IsMap-prop : (keywords : List Keyword) → IsProp (IsMap keywords)
IsMap-prop keywords = Prim.hlevel props

IsPlan-prop : (p : Plan) → IsProp (IsPlan p)
IsPlan-prop p = Prim.hlevel (IsStep-prop, IsNote-prop, IsMap-prop, props)

LogsNew-prop : (l : Logged) → IsProp (LogsNew l)
LogsNew-prop (Copied copy) = Prim.hlevel props
LogsNew-prop Done = Prim.hlevel props
LogsNew-prop Void = Prim.hlevel props

LogsOther-prop : (l : Logged) → IsProp (LogsOther l)
LogsOther-prop (Copied copy) = Prim.hlevel props
LogsOther-prop Done = Prim.hlevel props
LogsOther-prop Void = Prim.hlevel props

FitsStep-prop : (s : Step) (l : Logged) → IsProp (FitsStep s l)
FitsStep-prop (step.New direction uid flags mark) l = LogsNew-prop l
FitsStep-prop (step.Gone direction far near) l = LogsOther-prop l
FitsStep-prop (step.Flags direction far near set cleared) l = LogsOther-prop l
FitsStep-prop (step.Expunge side uid) l = LogsOther-prop l

IsLog-prop : (steps : List Step) (log : List Logged) → IsProp (IsLog steps log)
IsLog-prop [] [] = Prim.hlevel props
IsLog-prop (s ∷ steps) [] = Prim.hlevel props
IsLog-prop [] (l ∷ log) = Prim.hlevel props
IsLog-prop (s ∷ steps) (l ∷ log) =
    let here = FitsStep-prop s l in
    let following = IsLog-prop steps log in
    Prim.hlevel (here, following, props)

HasJournal-prop : (j : Journal) → IsProp (HasJournal j)
HasJournal-prop j = Prim.hlevel (IsPlan-prop, IsLog-prop, props)

pub Fits-prop : (state : SyncState) (pending : Pending) → IsProp (Fits state pending)
Fits-prop state Missing = Prim.hlevel props
Fits-prop state Useless = Prim.hlevel props
Fits-prop state (Planned written) = Prim.hlevel (HasJournal-prop, props)

IsEntry-prop : (v : Version) (e : Entry) → IsProp (IsEntry v e)
IsEntry-prop v e = Prim.hlevel (IsUidOrNone-prop, props)

HasText-prop : (v : Version) (state : SyncState) → IsProp (HasText v state)
HasText-prop v state = Prim.hlevel (IsEntry-prop, props)

pub IsSound-prop : (state : SyncState) → IsProp (IsSound state)
IsSound-prop state = Prim.hlevel (HasText-prop, props)

Taken-prop : (entries : List Entry) (pending : Pending) (taken : Taken) → IsProp (Knows entries pending taken)
Taken-prop entries Missing taken = Prim.hlevel props
Taken-prop entries Useless taken = Prim.hlevel props
Taken-prop entries (Planned written) taken = Prim.hlevel props

pub Knows-prop : (is_ready : Bool) (entries : List Entry) (pending : Pending) (taken : Taken) → IsProp (is_ready ≡ true → Knows entries pending taken)
Knows-prop is_ready entries pending taken = Prim.hlevel (Taken-prop entries pending taken)
