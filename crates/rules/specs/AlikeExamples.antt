-- Worked examples, computed: what is found after a run that was interrupted, and the outcome that it is alike to.
use Rattle.std.specs.Prelude.{◌≡◌, refl, ℕ, Bool, true, false, List, [], ◌∷◌, ◌++◌, codes, Some, map, ◌==◌, if◌then◌else◌}
use Rattle.mailcore.specs.declared.side.Side.{Side}
use Rattle.mailcore.specs.declared.side.Side.TheVariants.{Far, Near}
use Rattle.mailcore.specs.declared.mailbox.Message.{Message}
use Rattle.mailcore.specs.FlagSet.{each_flag, union, minus}
use Rattle.mailcore.specs.Content.{LF, CR, content, without_marks, copy_text}
use Rattle.rules.specs.declared.entry.Entry.{Entry}
use Rattle.rules.specs.declared.state.SyncState.{SyncState}
use Rattle.rules.specs.declared.options.Options.{Options}
use Rattle.rules.specs.declared.options.Directions.{Directions}
use Rattle.rules.specs.Propagation.{Expunge}
use Rattle.rules.specs.FlagRule.{taken, recorded_after, with_deleted}
use Rattle.rules.specs.Called.{called}
use Rattle.rules.specs.World.{World, Store, scene_of}
use Rattle.rules.specs.Admission.{admitted_under, admitted}
use Rattle.rules.specs.WorldAfter.{messages_under, entries_under, outcome}
use Rattle.rules.specs.Renaming.{entry_under}

-- ---- words for the examples

abbrev seen : ℕ
seen = 16

abbrev deleted : ℕ
deleted = 32

abbrev both : Directions
both = record { pull = true; push = true }

-- everything goes
abbrev pub everything : (expunge_near : Bool) → Options
everything expunge_near = record { cells = record { new = both; gone = both; flags = both }; expunge = record { far = false; near = expunge_near }; keywords = [] }

abbrev store : (next : ℕ) → List Message → Store
store next messages = record { validity = 1; next = next; messages = messages }

abbrev far_message : (uid flags : ℕ) → (line : List ℕ) → Message
far_message uid flags line = record { uid = uid; flags = flags; bytes = line ++ CR ∷ LF ∷ [] }

abbrev near_message : (uid flags : ℕ) → (line : List ℕ) → Message
near_message uid flags line = record { uid = uid; flags = flags; bytes = line ++ LF ∷ [] }

abbrev far_copy : (uid flags : ℕ) → (mark line : List ℕ) → Message
far_copy uid flags mark line = far_message uid flags (codes "X-TUID: " ++ mark ++ CR ∷ LF ∷ line)

abbrev near_copy : (uid flags : ℕ) → (mark line : List ℕ) → Message
near_copy uid flags mark line = near_message uid flags (codes "X-TUID: " ++ mark ++ LF ∷ line)

abbrev pub pair : (far near flags : ℕ) → Entry
pair f n flags = record { far = Some f; near = Some n; flags = flags }

abbrev state : (run max_pulled max_pushed : ℕ) → List Entry → SyncState
state run max_pulled max_pushed entries = record { run = run; far_validity = 1; near_validity = 1; max_pulled = max_pulled; max_pushed = max_pushed; entries = entries }

abbrev world : (far near : Store) → SyncState → World
world far near state = record { far = far; near = near; waiting = []; state = state }

abbrev pub mark : List ℕ
mark = codes "AQAAAAAAAAAC"

abbrev pub other_mark : List ℕ
other_mark = codes "AwAAAAAAAAAE"

-- the UIDs that copies got on each side
abbrev uids : (far near : List ℕ) → Side → List ℕ
uids far near Far = far
uids far near Near = near

-- opens what the examples compute
computed : World → World
unfolding each_flag union minus taken recorded_after with_deleted content without_marks copy_text
computed w = w

-- ---- a new far message, whose copy was stopped once: its first UID is lost

abbrev lost_uid : World
lost_uid = world (store 2 (far_message 1 0 (codes "a") ∷ [])) (store 1 []) (record { run = 0; far_validity = 0; near_validity = 0; max_pulled = 0; max_pushed = 0; entries = [] })

-- UID 1 is never given
abbrev lost_found : World
lost_found = world lost_uid.far (store 3 (near_copy 2 0 mark (codes "a") ∷ [])) (state 1 1 0 (pair 1 2 0 ∷ []))

lost_near : lost_found.near.messages ≡ messages_under lost_uid (everything false) Near (2 ∷ []) (mark ∷ [])
unfolding computed
lost_near = refl

lost_far : lost_found.far.messages ≡ messages_under lost_uid (everything false) Far [] (mark ∷ [])
unfolding computed
lost_far = refl

lost_entries : lost_found.state.entries ≡ entries_under lost_uid (everything false) (uids [] (2 ∷ []))
unfolding computed
lost_entries = refl

-- the outcome itself gives UID 1
lost_outcome : outcome lost_uid (everything false) (mark ∷ []) ≡ world lost_uid.far (store 2 (near_copy 1 0 mark (codes "a") ∷ [])) (state 1 1 0 (pair 1 1 0 ∷ []))
unfolding computed
lost_outcome = refl

-- ---- a waiting file that gets another UID than the next one, and is copied

abbrev pub waits : World
waits = record {
  far = store 9 (far_message 8 seen (codes "x") ∷ []);
  near = store 4 (near_message 3 seen (codes "x") ∷ []);
  waiting = record { flags = 0; bytes = codes "y" ++ LF ∷ [] } ∷ [];
  state = state 2 0 3 (pair 8 3 seen ∷ []);
}

-- where nothing is stopped: the file gets 4, and its copy 9
abbrev pub in_turn : World
in_turn = outcome (admitted waits) (everything false) (mark ∷ [])

turn_is : in_turn ≡ world
    (store 10 (far_message 8 seen (codes "x") ∷ far_copy 9 0 mark (codes "y") ∷ []))
    (store 5 (near_message 3 seen (codes "x") ∷ near_message 4 0 (codes "y") ∷ []))
    (state 3 8 4 (pair 8 3 seen ∷ pair 9 4 0 ∷ []))
unfolding computed
turn_is = refl

-- under UID 6, and its copy under UID 11 and another mark
abbrev pub late : World
late = admitted_under (6 ∷ []) 7 waits

abbrev pub late_found : World
late_found = world
    (store 13 (far_message 8 seen (codes "x") ∷ far_copy 11 0 other_mark (codes "y") ∷ []))
    (store 7 (near_message 3 seen (codes "x") ∷ near_message 6 0 (codes "y") ∷ []))
    (state 3 8 6 (pair 8 3 seen ∷ pair 11 6 0 ∷ []))

late_far : late_found.far.messages ≡ messages_under late (everything false) Far (11 ∷ []) (other_mark ∷ [])
unfolding computed
late_far = refl

late_near : late_found.near.messages ≡ messages_under late (everything false) Near [] (other_mark ∷ [])
unfolding computed
late_near = refl

late_entries : late_found.state.entries ≡ entries_under late (everything false) (uids (11 ∷ []) [])
unfolding computed
late_entries = refl

-- a map that sends 4 to 6 on the near side, and 9 to 11 on the far one
abbrev moved : Side → ℕ → ℕ
moved Far u = if u == 9 then 11 else u
moved Near u = if u == 4 then 6 else u

late_is_moved : map (entry_under moved) in_turn.state.entries ≡ late_found.state.entries
unfolding computed
late_is_moved = refl

-- ---- Expunge covers the near side: near 5 is deleted, the counterpart of near 6 has gone, and far 3 is new and deleted

abbrev pub cleaned : World
cleaned = world
    (store 4 (far_message 1 0 (codes "a") ∷ far_message 3 deleted (codes "c") ∷ []))
    (store 7 (near_message 5 deleted (codes "a") ∷ near_message 6 seen (codes "b") ∷ []))
    (state 1 2 6 (pair 1 5 0 ∷ pair 2 6 seen ∷ []))

-- both old near messages and the entry of the second are gone, and far 1 is marked; the copy of far 3 got 9, where 7 was next, and stays
abbrev pub cleaned_found : World
cleaned_found = world
    (store 4 (far_message 1 deleted (codes "a") ∷ far_message 3 deleted (codes "c") ∷ []))
    (store 10 (near_copy 9 deleted mark (codes "c") ∷ []))
    (state 2 3 6 (pair 1 5 deleted ∷ pair 3 9 deleted ∷ []))

cleaned_far : cleaned_found.far.messages ≡ messages_under cleaned (everything true) Far [] (mark ∷ [])
unfolding computed
cleaned_far = refl

cleaned_near : cleaned_found.near.messages ≡ messages_under cleaned (everything true) Near (9 ∷ []) (mark ∷ [])
unfolding computed
cleaned_near = refl

cleaned_entries : cleaned_found.state.entries ≡ entries_under cleaned (everything true) (uids [] (9 ∷ []))
unfolding computed
cleaned_entries = refl

-- in the outcome the copy has UID 7, and the same stands there
cleaned_outcome : outcome cleaned (everything true) (mark ∷ []) ≡ world
    cleaned_found.far
    (store 8 (near_copy 7 deleted mark (codes "c") ∷ []))
    (state 2 3 6 (pair 1 5 deleted ∷ pair 3 7 deleted ∷ []))
unfolding computed
cleaned_outcome = refl

-- the run that made the copy does not expunge it, and the next one does
the_copy_stays : called (scene_of cleaned (everything true)) (Expunge Near 9) ≡ false
unfolding computed
the_copy_stays = refl

the_next_run_expunges_it : called (scene_of cleaned_found (everything true)) (Expunge Near 9) ≡ true
unfolding computed
the_next_run_expunges_it = refl
