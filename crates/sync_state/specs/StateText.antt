-- The text of a state.
use Rattle.std.specs.Prelude.{ℕ, ◌≡◌, List, [], ◌∷◌, ◌++◌, All, map, codes, decimal}
use Rattle.mailcore.specs.declared.side.Side.TheVariants.{Far, Near}
use Rattle.rules.specs.declared.entry.Entry.{Entry}
use Rattle.rules.specs.declared.state.SyncState.{SyncState}
use Rattle.rules.specs.Entries.{ArePairs, uid_of}
pub use Rattle.rules.specs.Plans.{IsHighest}
use Rattle.sync_state.specs.declared.version.Version.{Version}
use Rattle.mailcore.specs.Words.{flags_word}
use Rattle.sync_state.specs.Words.{IsPositive, IsRun, IsUidOrNone, version_word}
use Rattle.sync_state.specs.Versions.{HasLetters}
use Rattle.sync_state.specs.Lines.{lines_text}

abbrev pub state_title : Version → List ℕ
state_title version = codes "mbsync state " ++ version_word version

abbrev pub run_line : ℕ → List ℕ
run_line run = codes "run " ++ decimal run

abbrev pub far_line : (validity highest : ℕ) → List ℕ
far_line validity highest = codes "far " ++ (decimal validity ++ 32 ∷ decimal highest)

abbrev pub near_line : (validity highest : ℕ) → List ℕ
near_line validity highest = codes "near " ++ (decimal validity ++ 32 ∷ decimal highest)

-- a side that has vanished is written as 0
abbrev pub entry_line : Entry → List ℕ
entry_line e = codes "e " ++ (decimal (uid_of Far e) ++ 32 ∷ (decimal (uid_of Near e) ++ 32 ∷ flags_word e.flags))

abbrev pub end_line : List ℕ
end_line = codes "end"

abbrev pub state_lines : Version → SyncState → List (List ℕ)
state_lines version s =
    state_title version ∷ run_line s.run ∷ far_line s.far_validity s.max_pulled ∷ near_line s.near_validity s.max_pushed
    ∷ (map entry_line s.entries ++ end_line ∷ [])

pub record IsEntry (version : Version) (e : Entry) : Type 0 where
  pub far : IsUidOrNone e.far
  pub near : IsUidOrNone e.near
  pub flags : HasLetters version e.flags

-- a state of a run that was made, with numbers in their ranges: such a state has a text of this version
pub record HasText (version : Version) (s : SyncState) : Type 0 where
  pub run : IsRun s.run
  pub far_validity : IsPositive s.far_validity
  pub max_pulled : IsHighest s.max_pulled
  pub near_validity : IsPositive s.near_validity
  pub max_pushed : IsHighest s.max_pushed
  pub entries : All (IsEntry version) s.entries
  pub pairs : ArePairs s.entries

-- the text of a state in this version
pub record IsStateText (version : Version) (s : SyncState) (text : List ℕ) : Type 0 where
  pub fits : HasText version s
  pub spelled : text ≡ lines_text (state_lines version s)

-- a text of a state
pub record StateText (s : SyncState) (text : List ℕ) : Type 0 where
  pub version : Version
  pub is_text : IsStateText version s text

-- the lines of some state
pub record StateLines (lines : List (List ℕ)) : Type 0 where
  pub version : Version
  pub state : SyncState
  pub fits : HasText version state
  pub same : lines ≡ state_lines version state
