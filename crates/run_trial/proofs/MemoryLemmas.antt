-- The setting of a trial holds its world, and what a run over it leaves.
use Rattle.std.proofs.Common.{◌≡◌, ℕ, Bool, ◌+◌, ◌-◌, ◌<◌, ◌≤◌, ◌^◌, true, List, [], ◌∷◌, All, map, Option, refl, sym, ap, subst, ◌∙◌, ⊎_elim, arith}
use Rattle.std.specs.Prelude.{Result, Ok, Err, OnOk, IfErr, IfOk, IsErrAnd, codes, Vec}
use Rattle.std.specs.Global.{Global}
use Rattle.std.proofs.lemmas.Bool.{cases_lt}
use Rattle.std.proofs.lemmas.List.Elements.{All-head, All-tail}
use Rattle.mailcore.specs.declared.keywords.Keyword.{Keyword}
use Rattle.mailcore.specs.declared.mailbox.Message.{Message}
use Rattle.mailcore.specs.KeywordNames.{IsWithin}
use Rattle.mailcore.specs.Mailboxes.{Mailbox}
use Rattle.mailcore.specs.Stores.{Store}
use Rattle.mailcore.proofs.KnownFlags.{kept-same}
use Rattle.imap_client.specs.Seen.{seen_message, seen_through}
use Rattle.rules.specs.declared.options.Options.{Options}
use Rattle.rules.specs.declared.state.SyncState.{SyncState}
use Rattle.rules.specs.Opening.{IsOpening}
use Rattle.rules.specs.World.{World}
use Rattle.imap_session.specs.Mailboxes.{FarMailbox}
use Rattle.maildir.specs.Folders.{Stored}
use Rattle.maildir.specs.MemFolders.{stored_in}
use Rattle.book.specs.declared.book.Pending.TheVariants.{Missing}
use Rattle.book.specs.MemShelves.{files_of}
use Rattle.book.specs.Shelves.{Files, bytes_of}
use Rattle.near_box.specs.Mailboxes.{near_of}
use Rattle.imap_session.specs.Servers.{Server}
use Rattle.mail_sides.specs.Chosen.{settled, store_at}
use Rattle.outside.specs.Calls.{Seen}
use Rattle.outside.specs.Devices.{Device}
use Rattle.run_pair.specs.Parts.{device_with}
use Rattle.run_pair.specs.Tallies.{seen_with, untouched}
use Rattle.maildir.specs.Gains.{nobody}
use Rattle.run_states.specs.Conditions.{IsOver}
use Rattle.run_states.specs.Endings.{IsDone}
use Rattle.run_states.specs.Openings.{Opening, world_at}
use Rattle.run_states.specs.Beginnings.{Begins, HoldsWorld, opening_of}
use Rattle.runner.specs.declared.fault.RunFault.{RunFault}
use Rattle.runner.specs.Attempts.{HasNoNext, ReportsNoNext}
use Rattle.run_trial.specs.declared.trial.Trial.{Trial}
use Rattle.run_trial.specs.Folders.{folder_of}
use Rattle.run_trial.specs.Memory.{EndsRun, LeavesOpening, LeavesWorld}
use Rattle.run_trial.specs.Openings.{StandsAt}
use Rattle.run_trial.specs.Shelves.{shelf_of}
use Rattle.run_trial.specs.Trials.{IsStart, devices_of}
use Rattle.run_trial.specs.Worlds.{FitsWords, device_of, store_of, waiting_of, world_of}
use Rattle.run_trial.proofs.FolderLemmas.{folder_holds}
use Rattle.run_trial.proofs.Picks.{picked, picked_begun}
use Rattle.run_trial.proofs.RunLemmas.{stands_world}
use Rattle.run_trial.proofs.ShelfLemmas.{shelf_holds}
use Rattle.run_trial.proofs.WorldLemmas.{few_files, near_in_range}
use Rattle.run_trial.specs.declared.setting.TrialSetting.{TrialSetting}
use Rattle.run_trial.specs.Settings.{IsSettingOf, device_at, device_in}

-- ---- the world stands there

-- what has names alone is seen as it is
each_seen : (keywords : List Keyword) (ms : List Message) → All (λ m. IsWithin keywords m.flags) ms → map (seen_message keywords) ms ≡ ms
each_seen keywords [] h = refl
each_seen keywords (m ∷ ms) h =
    ap (λ (f : ℕ). (let x : Message = record m { flags = f } in x) ∷ map (seen_message keywords) ms) (kept-same keywords m.flags (All-head (λ (x : Message). IsWithin keywords x.flags) m ms h))
    ∙ ap (λ (xs : List Message). m ∷ xs) (each_seen keywords ms (All-tail (λ (x : Message). IsWithin keywords x.flags) m ms h))

all_seen : (keywords : List Keyword) (s : Store) → All (λ m. IsWithin keywords m.flags) s.messages → seen_through keywords s ≡ s
all_seen keywords s h = ap (λ (ms : List Message). record s { messages = ms }) (each_seen keywords s.messages h)

pub found : (trial : Trial) (s : TrialSetting) → IsSettingOf trial s → device_in s ≡ devices_of trial
found trial s holds =
    let k : List Keyword = trial.world.options.keywords in
    let far : Store = store_of trial.world.far in
    let folder : Stored = folder_of k (store_of trial.world.near) (map waiting_of trial.world.waiting.items) in
    ap (λ (o : Options). device_at o.keywords s.far.server.server (stored_in s.folder) (files_of s.shelf)) holds.options
    ∙ ap (λ (ms : List FarMailbox). device_with (settled (seen_through k (store_at (codes "INBOX") ms))) (near_of 1 k (stored_in s.folder)) (files_of s.shelf) []) holds.far
    ∙ ap (λ (f : Stored). device_with (settled (seen_through k far)) (near_of 1 k f) (files_of s.shelf) []) holds.folder
    ∙ ap (λ (f : Files). device_with (settled (seen_through k far)) (near_of 1 k folder) f []) holds.shelf

stands_so : (trial : Trial) (s : TrialSetting) → IsSettingOf trial s → IsStart trial → FitsWords (world_of trial.world) → device_in s ≡ device_of (world_of trial.world)
stands_so trial s holds start fits =
    let w : World = world_of trial.world in
    let k : List Keyword = trial.world.options.keywords in
    let near : Mailbox = record { store = w.near; waiting = w.waiting } in
    let shelf : Files = shelf_of w.state (bytes_of trial.course.journal) in
    found trial s holds
    ∙ ap (λ (far : Store). device_with (settled far) (near_of 1 k (folder_of k w.near w.waiting)) shelf []) (all_seen k w.far start.named.far.there)
    ∙ ap (λ (n : Mailbox). device_with (settled w.far) n shelf [])
    (folder_holds k 1 w.near w.waiting start.opening.world.in_order.near (near_in_range w start.opening fits) start.named.near (few_files w start.opening fits))
    ∙ ap (λ (j : Option (Vec ℕ Global)). device_with (settled w.far) near (shelf_of w.state (bytes_of j)) []) start.none

pub stands : (trial : Trial) (s : TrialSetting) (w : World) → w ≡ world_of trial.world → IsSettingOf trial s → IsStart trial → FitsWords w → device_in s ≡ device_of w
stands trial s w same holds start = subst (λ (x : World). FitsWords x → device_in s ≡ device_of x) (sym same) (stands_so trial s holds start)

pub holds_world : (w : World) (d : Device) → IsOpening w → FitsWords w → d ≡ device_of w → HoldsWorld w d
holds_world w d opening fits same = subst (HoldsWorld w) (sym same) (record { world = refl; files = shelf_holds w opening fits; unnamed = refl })

-- the outside of a run, by what was said of its parts
pub parts_seen : (keywords : List Keyword) (server there : Server) (folder : Stored) (shelf : Files) (seen : Seen) → server ≡ there
    → seen ≡ seen_with (device_at keywords server folder shelf) untouched → seen ≡ seen_with (device_at keywords there folder shelf) untouched
parts_seen keywords server there folder shelf seen same is = is ∙ ap (λ (v : Server). seen_with (device_at keywords v folder shelf) untouched) same

-- that over a setting
pub setting_seen : (s : TrialSetting) (server : Server) (seen : Seen) → server ≡ s.far.server.server
    → seen ≡ seen_with (device_at s.options.keywords server (stored_in s.folder) (files_of s.shelf)) untouched → seen ≡ seen_with (device_in s) untouched
setting_seen s server seen same is = parts_seen s.options.keywords server s.far.server.server (stored_in s.folder) (files_of s.shelf) seen same is

-- ---- the opening that is picked

pub world_found : (w : World) (d : Device) (state : SyncState) → d ≡ device_of w → state ≡ w.state → world_at d state ≡ w
world_found w d state there same = ap (λ (x : Device). world_at x state) there ∙ ap (λ (x : SyncState). world_at (device_of w) x) same

-- ---- what is left of it

pub ends_run : {T : Type 0} (opening : Opening nobody.ours nobody.alone) (d : Device) (r : Result T RunFault) → OnOk r (IsOver opening d)
    → (IsOpening opening.world → OnOk r (IsDone opening.world opening.options d)) → OnOk r (EndsRun opening d)
ends_run opening d (Ok answer) over done = record { over = over; done = done }
ends_run opening d (Err fault) over done = tt

pub done_run : {T : Type 0} (w : World) (options : Options) (d : Device) (r : Result T RunFault) → IsOpening w → OnOk r (EndsRun (opening_of nobody.ours nobody.alone w options) d) → OnOk r (IsDone w options d)
done_run w options d (Ok answer) sound ends = ends.done sound
done_run w options d (Err fault) sound ends = tt

no_answer : {T E : Type 0} (P : Type 0) (Q : E → Type 0) (r : Result T E) → IsErrAnd r Q → OnOk r P
no_answer P Q (Ok answer) is = absurd is
no_answer P Q (Err fault) is = tt

pub over_device : {T : Type 0} (honest : Type 0) (alone : Bool) (old d new : Device) (r : Result T RunFault) → old ≡ d → honest → HasNoNext honest alone old new r → HasNoNext (Unit {0}) alone d new r
over_device honest alone old d new r same kept no_next = λ one. subst (λ (x : Device). HasNoNext honest alone x new r) same no_next kept

module _ {A T E : Type 0} (device : A → Device) (w : World) (options : Options) (d : Device) where
  last_done : (r : Result (A × Result T RunFault) E) → IfOk r (λ run. HasNoNext (Unit {0}) true d (device run.0) run.1) → HoldsWorld w d → w.state.run + 1 ≡ 2 ^ 64
      → IfOk r (λ run. OnOk run.1 (IsDone w options (device run.0)))
  last_done (Ok run) none held last = no_answer (IsDone w options (device run.0)) ReportsNoNext run.1 (none tt w.state Missing held.files last).0
  last_done (Err failure) none held last = tt

  pub done_where : (r : Result (A × Result T RunFault) E) → (Begins w d → IfOk r (λ run. OnOk run.1 (IsDone w options (device run.0))))
      → IfOk r (λ run. HasNoNext (Unit {0}) true d (device run.0) run.1) → HoldsWorld w d → IsOpening w → w.state.run < 2 ^ 64
      → IfOk r (λ run. OnOk run.1 (IsDone w options (device run.0)))
  done_where r done none held opening small =
      ⊎_elim (λ (room : w.state.run + 1 < 2 ^ 64). done (record { held = held; sound = opening; room = room }))
      (λ (last : 2 ^ 64 ≤ w.state.run + 1). last_done r none held (omega arith)) (cases_lt (w.state.run + 1) (2 ^ 64))

  pub greatest_where : (r : Result (A × Result T RunFault) E) → IfOk r (λ run. HasNoNext (Unit {0}) true d (device run.0) run.1) → HoldsWorld w d → w.state.run + 1 ≡ 2 ^ 64
      → d ≡ device_of w → IfOk r (λ run. IsErrAnd run.1 ReportsNoNext × (device run.0 ≡ device_of w))
  greatest_where (Ok run) none held last same = let parts = none tt w.state Missing held.files last in (parts.0, parts.1.same refl ∙ same)
  greatest_where (Err failure) none held last same = tt

-- ---- what is left of the opening that is picked

module _ {A T E : Type 0} (seen : A → Seen) (d : Device) (r : Result (A × Result T RunFault) E) where
  -- an answer leaves the run with this opening over
  abbrev pub Ends : (options : Options) → Opening nobody.ours nobody.alone → Type 0
  Ends options opening = StandsAt opening options d → IfOk r (λ run. OnOk run.1 (EndsRun opening (seen run.0).device))

  -- and a fault leaves it underway
  abbrev pub Leaves : (options : Options) → Opening nobody.ours nobody.alone → Type 0
  Leaves options opening = StandsAt opening options d → IfOk r (λ run. IfErr run.1 (λ fault. LeavesOpening opening d fault (seen run.0)))

  each_done : (w : World) (options : Options) → IsOpening w → (x : Result (A × Result T RunFault) E) → IfOk x (λ run. OnOk run.1 (EndsRun (opening_of nobody.ours nobody.alone w options) (seen run.0).device))
      → IfOk x (λ run. OnOk run.1 (IsDone w options (seen run.0).device))
  each_done w options sound (Ok run) ends = done_run w options (seen run.0).device run.1 sound ends
  each_done w options sound (Err failure) ends = tt

  pub begun_done : (w : World) (options : Options) (opening : Opening nobody.ours nobody.alone) → opening ≡ opening_of nobody.ours nobody.alone w options → Ends options opening
      → Begins w d → IfOk r (λ run. OnOk run.1 (IsDone w options (seen run.0).device))
  begun_done w options opening same ends begins = each_done w options begins.sound r (subst (λ (o : Opening nobody.ours nobody.alone). Ends options o) same ends (stands_world nobody.ours nobody.alone w options d begins))

  pub begun_left : (w : World) (options : Options) (opening : Opening nobody.ours nobody.alone) → opening ≡ opening_of nobody.ours nobody.alone w options → Leaves options opening
      → Begins w d → IfOk r (λ run. IfErr run.1 (λ fault. LeavesWorld w options d fault (seen run.0)))
  begun_left w options opening same leaves begins = subst (λ (o : Opening nobody.ours nobody.alone). Leaves options o) same leaves (stands_world nobody.ours nobody.alone w options d begins)

-- where it stands is known of the trial
pub stands_found : (opening : Opening nobody.ours nobody.alone) (trial : Trial) (s : TrialSetting) → IsSettingOf trial s → StandsAt opening trial.world.options (devices_of trial) → StandsAt opening s.options (device_in s)
stands_found opening trial s holds at =
    subst (StandsAt opening s.options) (sym (found trial s holds)) (subst (λ (o : Options). StandsAt opening o (devices_of trial)) (sym holds.options) at)

-- the opening that is picked where there is no journal
pub picked_start : (trial : Trial) (s : TrialSetting) (w : World) (given : Opening nobody.ours nobody.alone) → w ≡ world_of trial.world → IsSettingOf trial s → IsStart trial → FitsWords w
    → picked (files_of s.shelf).journal (opening_of nobody.ours nobody.alone (world_at (device_in s) s.state) s.options) given ≡ opening_of nobody.ours nobody.alone w s.options
picked_start trial s w given same holds start fits =
    picked_begun (files_of s.shelf) trial.world.state trial.course.journal (opening_of nobody.ours nobody.alone (world_at (device_in s) s.state) s.options) given holds.shelf start.none
    ∙ ap (λ (x : World). opening_of nobody.ours nobody.alone x s.options)
    (world_found w (device_in s) s.state (stands trial s w same holds start fits) (holds.state ∙ ap (λ (x : World). x.state) (sym same)))

-- the stops of an outside that had none before
pub stops_met : (tries stops : ℕ) → stops ≡ 0 + (tries - 0) → stops ≡ tries
stops_met tries stops met = omega arith
