-- What the next plan calls for, whatever other clients did before it.
use Rattle.std.specs.Prelude.{◌≡◌, ◌≢◌, ◌<◌, ℕ, true, false, ◌&&◌, Contains, Some}
use Rattle.mailcore.specs.declared.side.Side.TheVariants.{Far, Near}
use Rattle.mailcore.specs.declared.side.Direction.{Direction}
use Rattle.mailcore.specs.declared.side.Direction.TheVariants.{Pull, Push}
use Rattle.mailcore.specs.declared.mailbox.Message.{Message}
use Rattle.mailcore.specs.FlagSet.{DELETED, FLAGS, has, minus, union}
use Rattle.mailcore.specs.Sides.{source, target}
use Rattle.mailcore.specs.Stores.{IsStore}
use Rattle.rules.specs.declared.entry.Entry.{Entry}
use Rattle.rules.specs.declared.entry.ListedPair.{ListedPair}
use Rattle.rules.specs.declared.options.Options.{Options}
use Rattle.rules.specs.Called.{before, called, pair_of}
use Rattle.rules.specs.Entries.{is_full, uid_of}
use Rattle.rules.specs.Options.{covers, goes}
use Rattle.rules.specs.Propagation.{Drop, Flags, Gone, New}
use Rattle.rules.specs.Scene.{Scene, is_listed}
use Rattle.rules.specs.World.{World, scene_of, store}
use Rattle.law_others.specs.Acts.{Acts}

-- ---- flags

-- the source's flags of a pair
abbrev pub theirs : Direction → ListedPair → ℕ
theirs Pull p = p.far_flags
theirs Push p = p.near_flags

-- the flag at this place was changed on the source since it was recorded, and not on the target
pub record IsChanged (d : Direction) (p : ListedPair) (place : ℕ) : Type 0 where
  pub within : place < FLAGS
  pub changed : has (theirs d p) place ≢ has p.recorded place
  pub unchanged : has (before d p) place ≡ has p.recorded place

-- a step is called for after which the target has it as the source does
pub record Carries (s : Scene) (d : Direction) (p : ListedPair) (place : ℕ) : Type 0 where
  pub set : ℕ
  pub cleared : ℕ
  pub is_called : called s (Flags d p.far p.near set cleared) ≡ true
  pub arrives : has (minus (union (before d p) set) cleared) place ≡ has (theirs d p) place

-- of each pair whose messages are both there
abbrev pub ChangedFlagsAreCarried : Type 0
ChangedFlagsAreCarried =
    (s : Scene) (d : Direction) (e : Entry) (p : ListedPair) (place : ℕ) →
    Contains s.entries e → pair_of s e ≡ Some p → goes s.options.cells.flags d ≡ true →
    IsChanged d p place → Carries s d p place

-- ---- removals

-- of a full entry whose message on the source was removed, the other one is called gone
abbrev pub RemovalsAreCarried : Type 0
RemovalsAreCarried =
    (s : Scene) (d : Direction) (e : Entry) →
    Contains s.entries e → is_full e ≡ true → goes s.options.cells.gone d ≡ true →
    is_listed s (source d) (uid_of (source d) e) ≡ false → is_listed s (target d) (uid_of (target d) e) ≡ true →
    called s (Gone d (uid_of Far e) (uid_of Near e)) ≡ true

-- an entry goes if both were removed
abbrev pub EntriesOfNothingGo : Type 0
EntriesOfNothingGo =
    (s : Scene) (e : Entry) → Contains s.entries e →
    is_listed s Far (uid_of Far e) ≡ false → is_listed s Near (uid_of Near e) ≡ false →
    called s (Drop (uid_of Far e) (uid_of Near e)) ≡ true

-- ---- new messages

-- A message that is called new, and not copied, is called new for as long as it is there, whatever others do to its mailbox, unless it is
-- marked as deleted where Expunge covers its side.
abbrev pub NewStaysNew : Type 0
NewStaysNew =
    (w w' : World) (options : Options) (d : Direction) (m : Message) →
    IsStore (store w (source d)) → Acts (store w (source d)) (store w' (source d)) → w'.state ≡ w.state →
    called (scene_of w options) (New d m.uid) ≡ true → Contains (store w' (source d)).messages m →
    (has m.flags DELETED && covers options.expunge (source d)) ≡ false →
    called (scene_of w' options) (New d m.uid) ≡ true
