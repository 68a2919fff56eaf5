-- What the steps of a plan do to both mailboxes, one after another.
use Rattle.std.specs.Prelude.{ℕ, ◌≡◌, Bool, true, false, not, ◌==◌, List, [], ◌∷◌, ◌++◌, map, filter, find, Option, Some, None, All, is_some, unwrap_or, if◌then◌else◌}
use Rattle.std.specs.Option.{option_map}
use Rattle.mailcore.specs.declared.side.Side.{Side}
use Rattle.mailcore.specs.declared.side.Side.TheVariants.{Far, Near}
use Rattle.mailcore.specs.declared.side.Direction.{Direction}
use Rattle.mailcore.specs.declared.side.Direction.TheVariants.{Pull, Push}
use Rattle.mailcore.specs.declared.mailbox.Message.{Message}
use Rattle.mailcore.specs.FlagSet.{union, minus}
use Rattle.mailcore.specs.Rise.{Rise}
use Rattle.mailcore.specs.Sides.{source, target}
use Rattle.mailcore.specs.Content.{copy_text}
use Rattle.rules.specs.declared.plan.Step.{Step}
use Rattle.rules.specs.declared.plan.Step.TheVariants.{New, Gone, Flags, Expunge}
use Rattle.rules.specs.FlagRule.{with_deleted}
use Rattle.rules.specs.World.{World}
use Rattle.rules.specs.Copies.{copy_of, line_end}

-- the messages of both mailboxes
pub record Boxes : Type 0 where
  pub far : List Message
  pub near : List Message

abbrev pub box : Boxes → Side → List Message
box b Far = b.far
box b Near = b.near

abbrev pub with_box : Boxes → Side → List Message → Boxes
with_box b Far ms = record b { far = ms }
with_box b Near ms = record b { near = ms }

abbrev pub boxes_of : World → Boxes
boxes_of w = record { far = w.far.messages; near = w.near.messages }

-- ---- what is done to the messages of a side

-- the flags of the message with this UID are changed
abbrev pub with_flags : (ℕ → ℕ) → (uid : ℕ) → Message → Message
with_flags change uid m = if m.uid == uid then record m { flags = change m.flags } else m

abbrev pub reflagged : (ℕ → ℕ) → (uid : ℕ) → List Message → List Message
reflagged change uid ms = map (with_flags change uid) ms

-- the message with this UID is removed
abbrev pub without : (uid : ℕ) → List Message → List Message
without uid ms = filter (λ m. not (m.uid == uid)) ms

-- the bytes of the message with this UID
abbrev pub bytes_at : (uid : ℕ) → List Message → Option (List ℕ)
bytes_at uid ms = option_map (λ m. m.bytes) (find (λ m. m.uid == uid) ms)

-- ---- steps

-- the UID of the message that changes where its counterpart has gone or got other flags
abbrev pub changed_uid : Direction → (far near : ℕ) → ℕ
changed_uid Pull far near = near
changed_uid Push far near = far

-- Both mailboxes after a step. Its result is the UID of the copy that it made, if it made one.
abbrev pub step_after : Boxes → Step → (result : Option ℕ) → Boxes
step_after b (New d u flags mark) None = b
step_after b (New d u flags mark) (Some uid) =
    with_box b (target d) (box b (target d) ++ copy_of (target d) uid flags mark (unwrap_or (bytes_at u (box b (source d))) []) ∷ [])
step_after b (Gone d f n) result =
    with_box b (target d) (reflagged with_deleted (changed_uid d f n) (box b (target d)))
step_after b (Flags d f n set cleared) result =
    with_box b (target d) (reflagged (λ flags. minus (union flags set) cleared) (changed_uid d f n) (box b (target d)))
step_after b (Expunge side u) result = with_box b side (without u (box b side))

-- both mailboxes after the first steps, one for each result
abbrev pub after : List Step → (results : List (Option ℕ)) → Boxes → Boxes
after [] results b = b
after (s ∷ steps) [] b = b
after (s ∷ steps) (r ∷ results) b = after steps results (step_after b s r)

-- ---- results

abbrev pub makes_copy : Step → Bool
makes_copy (New d u flags mark) = true
makes_copy (Gone d f n) = false
makes_copy (Flags d f n set cleared) = false
makes_copy (Expunge side u) = false

-- each result is a UID exactly if its step makes a copy; the last steps may have none yet
abbrev pub Fit : List Step → (results : List (Option ℕ)) → Type 0
Fit [] [] = Unit {0}
Fit [] (r ∷ results) = ⊥
Fit (s ∷ steps) [] = Unit {0}
Fit (s ∷ steps) (r ∷ results) = (is_some r ≡ makes_copy s) × Fit steps results

abbrev pub is_side : Side → Side → Bool
is_side Far Far = true
is_side Far Near = false
is_side Near Far = false
is_side Near Near = true

abbrev pub uid_given : Side → Step → (result : Option ℕ) → List ℕ
uid_given side (New d u flags mark) None = []
uid_given side (New d u flags mark) (Some uid) = if is_side (target d) side then uid ∷ [] else []
uid_given side (Gone d f n) result = []
uid_given side (Flags d f n set cleared) result = []
uid_given side (Expunge at u) result = []

-- the UIDs of the copies that a side got
abbrev pub given : Side → List Step → (results : List (Option ℕ)) → List ℕ
given side [] results = []
given side (s ∷ steps) [] = []
given side (s ∷ steps) (r ∷ results) = uid_given side s r ++ given side steps results

-- the UIDs of a side's copies rise from its next one on and are below what is next now
abbrev pub Rises : Side → (next : ℕ) → List Step → (results : List (Option ℕ)) → (bound : ℕ) → Type 0
Rises side next steps results bound = Rise next (given side steps results) bound

-- ---- what others add

-- a test of a message's side, its UID and its bytes
abbrev pub Test : Type 0
Test = Side → (uid : ℕ) → (bytes : List ℕ) → Bool

-- the messages of a side that pass
abbrev pub own_in : Test → Side → List Message → List Message
own_in test side ms = filter (λ m. test side m.uid m.bytes) ms

abbrev pub own : Test → Boxes → Boxes
own test b = record { far = own_in test Far b.far; near = own_in test Near b.near }

-- a step whose copy passes, and whose source does
abbrev pub IsOwnStep : Test → Boxes → Step → (result : Option ℕ) → Type 0
IsOwnStep test b (New d u flags mark) None = Unit {0}
IsOwnStep test b (New d u flags mark) (Some uid) =
    (test (target d) uid (copy_text mark (unwrap_or (bytes_at u (box b (source d))) []) (line_end (target d))) ≡ true)
    × All (λ m. m.uid ≡ u → test (source d) m.uid m.bytes ≡ true) (box b (source d))
IsOwnStep test b (Gone d f n) result = Unit {0}
IsOwnStep test b (Flags d f n set cleared) result = Unit {0}
IsOwnStep test b (Expunge side u) result = Unit {0}
