-- Worked examples of what is called for and what a run makes of a pair of mailboxes, computed.
use Rattle.std.specs.Prelude.{◌≡◌, refl, ℕ, ◌+◌, Bool, true, false, List, [], ◌∷◌, ◌++◌, codes, Some, None}
use Rattle.mailcore.specs.declared.side.Side.TheVariants.{Far, Near}
use Rattle.mailcore.specs.declared.side.Direction.TheVariants.{Pull, Push}
use Rattle.mailcore.specs.declared.mailbox.Message.{Message}
use Rattle.mailcore.specs.FlagSet.{each_flag, union, minus}
use Rattle.mailcore.specs.Content.{LF, CR, content, without_marks, copy_text}
use Rattle.rules.specs.declared.entry.Entry.{Entry}
use Rattle.rules.specs.declared.state.SyncState.{SyncState}
use Rattle.rules.specs.declared.options.Options.{Options}
use Rattle.rules.specs.declared.options.Sides.{Sides}
use Rattle.rules.specs.declared.options.Directions.{Directions}
use Rattle.rules.specs.FlagRule.{taken, recorded_after, with_deleted}
use Rattle.rules.specs.Propagation.{Propagation, New, Gone, Flags, Expunge, Record, Drop}
use Rattle.rules.specs.Called.{called}
use Rattle.rules.specs.World.{Store, World, scene_of}
use Rattle.rules.specs.Admission.{admitted}
use Rattle.rules.specs.WorldAfter.{store_after, state_after, outcome}

-- ---- words for the examples

abbrev no_flag : ℕ
no_flag = 0

abbrev flagged : ℕ
flagged = 2

abbrev seen : ℕ
seen = 16

abbrev deleted : ℕ
deleted = 32

abbrev neither : Directions
neither = record { pull = false; push = false }

abbrev pull : Directions
pull = record { pull = true; push = false }

abbrev both : Directions
both = record { pull = true; push = true }

-- Sync None, Sync Pull or Sync Full
abbrev sync : Directions → Sides → Options
sync on expunge = record { cells = record { new = on; gone = on; flags = on }; expunge = expunge; keywords = [] }

abbrev no_side : Sides
no_side = record { far = false; near = false }

abbrev far_side : Sides
far_side = record { far = true; near = false }

abbrev near_side : Sides
near_side = record { far = false; near = true }

abbrev store : (next : ℕ) → List Message → Store
store next messages = record { validity = 1; next = next; messages = messages }

abbrev far_message : (uid flags : ℕ) → (line : List ℕ) → Message
far_message uid flags line = record { uid = uid; flags = flags; bytes = line ++ CR ∷ LF ∷ [] }

abbrev near_message : (uid flags : ℕ) → (line : List ℕ) → Message
near_message uid flags line = record { uid = uid; flags = flags; bytes = line ++ LF ∷ [] }

abbrev entry : (far near flags : ℕ) → Entry
entry far near flags = record { far = Some far; near = Some near; flags = flags }

abbrev before_all : SyncState
before_all = record { run = 0; far_validity = 0; near_validity = 0; max_pulled = 0; max_pushed = 0; entries = [] }

abbrev state : (run max_pulled max_pushed : ℕ) → List Entry → SyncState
state run max_pulled max_pushed entries = record { run = run; far_validity = 1; near_validity = 1; max_pulled = max_pulled; max_pushed = max_pushed; entries = entries }

abbrev world : (far near : Store) → SyncState → World
world far near state = record { far = far; near = near; waiting = []; state = state }

abbrev is_called : World → Options → Propagation → Bool
is_called w options q = called (scene_of w options) q

-- opens what the examples compute
computed : World → World
unfolding each_flag union minus taken recorded_after with_deleted content without_marks copy_text
computed w = w

-- ---- two new far messages

abbrev two_new : World
two_new = world (store 3 (far_message 1 seen (codes "a") ∷ far_message 2 no_flag (codes "b") ∷ [])) (store 1 []) before_all

abbrev first_mark : List ℕ
first_mark = codes "AQAAAAAAAAAC"

abbrev second_mark : List ℕ
second_mark = codes "AwAAAAAAAAAE"

the_first_is_new : is_called two_new (sync both no_side) (New Pull 1) ≡ true
the_first_is_new = refl

the_second_is_new : is_called two_new (sync both no_side) (New Pull 2) ≡ true
the_second_is_new = refl

no_third_is_new : is_called two_new (sync both no_side) (New Pull 3) ≡ false
no_third_is_new = refl

they_are_paired : state_after two_new (sync both no_side) ≡ state 1 2 0 (entry 1 1 seen ∷ entry 2 2 no_flag ∷ [])
they_are_paired = refl

they_are_copied : store_after two_new (sync both no_side) (first_mark ∷ second_mark ∷ []) Near
    ≡ store 3 (near_message 1 seen (codes "X-TUID: " ++ first_mark ++ LF ∷ codes "a") ∷ near_message 2 no_flag (codes "X-TUID: " ++ second_mark ++ LF ∷ codes "b") ∷ [])
unfolding computed
they_are_copied = refl

-- ---- a flag set on each side

abbrev set_on_both : World
set_on_both = world (store 6 (far_message 5 seen (codes "a") ∷ [])) (store 8 (near_message 7 flagged (codes "a") ∷ [])) (state 3 5 7 (entry 5 7 no_flag ∷ []))

the_far_flag_is_pulled : is_called set_on_both (sync both no_side) (Flags Pull 5 7 seen no_flag) ≡ true
unfolding computed
the_far_flag_is_pulled = refl

the_near_flag_is_pushed : is_called set_on_both (sync both no_side) (Flags Push 5 7 flagged no_flag) ≡ true
unfolding computed
the_near_flag_is_pushed = refl

both_flags_are_recorded : is_called set_on_both (sync both no_side) (Record 5 7 (flagged + seen)) ≡ true
unfolding computed
both_flags_are_recorded = refl

both_messages_get_both_flags : outcome set_on_both (sync both no_side) []
    ≡ world (store 6 (far_message 5 (flagged + seen) (codes "a") ∷ [])) (store 8 (near_message 7 (flagged + seen) (codes "a") ∷ [])) (state 4 5 7 (entry 5 7 (flagged + seen) ∷ []))
unfolding computed
both_messages_get_both_flags = refl

-- ---- the same flag set on both sides

abbrev set_alike : World
set_alike = world (store 6 (far_message 5 seen (codes "a") ∷ [])) (store 8 (near_message 7 seen (codes "a") ∷ [])) (state 3 5 7 (entry 5 7 no_flag ∷ []))

it_is_recorded : is_called set_alike (sync both no_side) (Record 5 7 seen) ≡ true
unfolding computed
it_is_recorded = refl

it_is_not_pulled : is_called set_alike (sync both no_side) (Flags Pull 5 7 no_flag no_flag) ≡ false
unfolding computed
it_is_not_pulled = refl

it_is_not_pushed : is_called set_alike (sync both no_side) (Flags Push 5 7 no_flag no_flag) ≡ false
unfolding computed
it_is_not_pushed = refl

-- ---- a flag set on the near side alone

abbrev set_near : World
set_near = world (store 6 (far_message 5 no_flag (codes "a") ∷ [])) (store 8 (near_message 7 seen (codes "a") ∷ [])) (state 3 5 7 (entry 5 7 no_flag ∷ []))

pull_leaves_it : outcome set_near (sync pull no_side) [] ≡ world set_near.far set_near.near (state 4 5 7 (entry 5 7 no_flag ∷ []))
unfolding computed
pull_leaves_it = refl

pull_does_not_record_it : is_called set_near (sync pull no_side) (Record 5 7 seen) ≡ false
unfolding computed
pull_does_not_record_it = refl

full_pushes_it : is_called set_near (sync both no_side) (Flags Push 5 7 seen no_flag) ≡ true
unfolding computed
full_pushes_it = refl

full_records_it : is_called set_near (sync both no_side) (Record 5 7 seen) ≡ true
unfolding computed
full_records_it = refl

-- ---- a far message has gone

abbrev far_gone : World
far_gone = world (store 6 []) (store 8 (near_message 7 seen (codes "a") ∷ [])) (state 3 5 7 (entry 5 7 seen ∷ []))

abbrev survivor : Entry
survivor = record { far = None; near = Some 7; flags = seen }

it_is_gone : is_called far_gone (sync both no_side) (Gone Pull 5 7) ≡ true
it_is_gone = refl

the_near_one_is_marked : outcome far_gone (sync both no_side) [] ≡ world (store 6 []) (store 8 (near_message 7 (seen + deleted) (codes "a") ∷ [])) (state 4 5 7 (survivor ∷ []))
unfolding computed
the_near_one_is_marked = refl

it_is_gone_once : is_called (outcome far_gone (sync both no_side) []) (sync both no_side) (Gone Pull 0 7) ≡ false
unfolding computed
it_is_gone_once = refl

the_half_entry_stays : is_called (outcome far_gone (sync both no_side) []) (sync both no_side) (Drop 0 7) ≡ false
unfolding computed
the_half_entry_stays = refl

-- though no UID has been pushed
the_survivor_is_not_new : is_called (world (store 6 []) (store 8 (near_message 7 (seen + deleted) (codes "a") ∷ [])) (state 4 5 0 (survivor ∷ []))) (sync both no_side) (New Push 7) ≡ false
the_survivor_is_not_new = refl

-- ---- the same where Expunge covers the near side

it_is_gone_too : is_called far_gone (sync both near_side) (Gone Pull 5 7) ≡ true
it_is_gone_too = refl

the_near_one_is_expunged : is_called far_gone (sync both near_side) (Expunge Near 7) ≡ true
unfolding computed
the_near_one_is_expunged = refl

the_entry_is_dropped : is_called far_gone (sync both near_side) (Drop 5 7) ≡ true
unfolding computed
the_entry_is_dropped = refl

nothing_is_left : outcome far_gone (sync both near_side) [] ≡ world (store 6 []) (store 8 []) (state 4 5 7 [])
unfolding computed
nothing_is_left = refl

-- ---- only an expunge

abbrev deleted_near : World
deleted_near = world (store 6 (far_message 5 no_flag (codes "a") ∷ [])) (store 8 (near_message 7 deleted (codes "a") ∷ [])) (state 3 5 7 (entry 5 7 no_flag ∷ []))

an_expunge_needs_no_cell : is_called deleted_near (sync neither near_side) (Expunge Near 7) ≡ true
unfolding computed
an_expunge_needs_no_cell = refl

a_listed_side_keeps_the_entry : is_called deleted_near (sync neither near_side) (Drop 5 7) ≡ false
unfolding computed
a_listed_side_keeps_the_entry = refl

the_far_one_stays : outcome deleted_near (sync neither near_side) [] ≡ world deleted_near.far (store 8 []) (state 4 5 7 (entry 5 7 no_flag ∷ []))
unfolding computed
the_far_one_stays = refl

the_next_run_owes_a_gone : is_called (outcome deleted_near (sync neither near_side) []) (sync both near_side) (Gone Push 5 7) ≡ true
unfolding computed
the_next_run_owes_a_gone = refl

-- ---- a near file without a UID

abbrev waiting_near : World
waiting_near = admitted (record {
  far = store 9 (far_message 8 seen (codes "x") ∷ []);
  near = store 4 (near_message 3 seen (codes "x") ∷ []);
  waiting = record { flags = no_flag; bytes = codes "y" ++ LF ∷ [] } ∷ [];
  state = state 2 0 3 (entry 8 3 seen ∷ []);
})

the_admitted_one_is_new : is_called waiting_near (sync both no_side) (New Push 4) ≡ true
unfolding computed
the_admitted_one_is_new = refl

a_paired_one_above_the_highest_is_not : is_called waiting_near (sync both no_side) (New Pull 8) ≡ false
a_paired_one_above_the_highest_is_not = refl

it_is_paired_with_its_copy : state_after waiting_near (sync both no_side) ≡ state 3 8 4 (entry 8 3 seen ∷ entry 9 4 no_flag ∷ [])
unfolding computed
it_is_paired_with_its_copy = refl

-- ---- a new message that is deleted where Expunge covers its side

abbrev deleted_far : World
deleted_far = world (store 2 (far_message 1 deleted (codes "a") ∷ [])) (store 1 []) before_all

it_is_expunged : is_called deleted_far (sync both far_side) (Expunge Far 1) ≡ true
it_is_expunged = refl

it_is_not_copied : is_called deleted_far (sync both far_side) (New Pull 1) ≡ false
it_is_not_copied = refl

its_uid_counts : outcome deleted_far (sync both far_side) [] ≡ world (store 2 []) (store 1 []) (state 1 1 0 [])
its_uid_counts = refl
