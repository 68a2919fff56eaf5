-- The text of a world from its line `far` on: its lines, each of words with one space between (docs/FORMATS.md, "World").
use Rattle.std.specs.Prelude.{ℕ, List, [], ◌∷◌, ◌++◌, codes, decimal}
use Rattle.std.specs.List.{flat_map, join_with_byte}
use Rattle.mailcore.specs.declared.mailbox.Message.{Message}
use Rattle.mailcore.specs.declared.side.Side.{Side}
use Rattle.mailcore.specs.declared.side.Side.TheVariants.{Far, Near}
use Rattle.mailcore.specs.Stores.{Store, Waiting}
use Rattle.mailcore.specs.Words.{flags_word, side_word}
use Rattle.rules.specs.declared.entry.Entry.{Entry}
use Rattle.rules.specs.declared.state.SyncState.{SyncState}
use Rattle.rules.specs.Entries.{uid_of}
use Rattle.rules.specs.World.{World}
use Rattle.texts.specs.Escape.{escaped}

-- these words, and the end of their line
abbrev pub line_of : List (List ℕ) → List ℕ
line_of words = join_with_byte 32 words ++ 10 ∷ []

-- bytes between quotes
abbrev pub quoted : List ℕ → List ℕ
quoted bytes = 34 ∷ (escaped bytes ++ 34 ∷ [])

-- ---- mailboxes

-- how the line of a message begins
abbrev pub message_word : Side → List ℕ
message_word Far = codes "f"
message_word Near = codes "n"

abbrev pub message_words : Message → List (List ℕ)
message_words m = decimal m.uid ∷ flags_word m.flags ∷ quoted m.bytes ∷ []

abbrev pub message_line : Side → Message → List ℕ
message_line side m = line_of (message_word side ∷ message_words m)

abbrev pub mailbox_text : Side → Store → List ℕ
mailbox_text side s = line_of (side_word side ∷ decimal s.validity ∷ decimal s.next ∷ []) ++ flat_map (message_line side) s.messages

abbrev pub waiting_words : Waiting → List (List ℕ)
waiting_words f = flags_word f.flags ∷ quoted f.bytes ∷ []

abbrev pub waiting_line : Waiting → List ℕ
waiting_line f = line_of (codes "w" ∷ waiting_words f)

-- ---- the state

abbrev pub state_words : SyncState → List (List ℕ)
state_words s = decimal s.run ∷ decimal s.far_validity ∷ decimal s.near_validity ∷ decimal s.max_pulled ∷ decimal s.max_pushed ∷ []

abbrev pub state_line : SyncState → List ℕ
state_line s = line_of (codes "state" ∷ state_words s)

-- 0 stands for a side that has vanished
abbrev pub entry_words : Entry → List (List ℕ)
entry_words e = decimal (uid_of Far e) ∷ decimal (uid_of Near e) ∷ flags_word e.flags ∷ []

abbrev pub entry_line : Entry → List ℕ
entry_line e = line_of (codes "e" ∷ entry_words e)

abbrev pub state_text : SyncState → List ℕ
state_text s = state_line s ++ flat_map entry_line s.entries

-- ---- the whole

-- a world from its line `far` on
abbrev pub text_from_far : World → List ℕ
text_from_far w =
    mailbox_text Far w.far
    ++ (mailbox_text Near w.near
    ++ (flat_map waiting_line w.waiting
    ++ (state_text w.state
    ++ line_of (codes "end" ∷ []))))
