-- What is handed out over a connection, whatever came over it.
use Rattle.std.specs.Prelude.{◌≡◌, List, [], ◌∷◌, ◌++◌, ℕ}
use Rattle.imap_replies.specs.declared.reply.Reply.{Reply}
use Rattle.imap_session.specs.Heard.{AreReplies}
use Rattle.link_face.specs.Turning.{Leaves}

-- replies, one after another, and nothing else
pub record AreSpelled (bytes : List ℕ) : Type 0 where
  pub replies : List Reply
  pub spelled : AreReplies replies bytes

-- These bytes are the next of what was ready, or, where nothing was, of one reply more; the others are ready then.
abbrev pub HandsOut : (ready bytes left : List ℕ) → Type 0
HandsOut ready bytes left = Leaves ready (bytes ++ left)

-- call after call
abbrev pub HandsOutEach : (ready : List ℕ) → List (List ℕ) → (left : List ℕ) → Type 0
HandsOutEach ready [] left = left ≡ ready
HandsOutEach ready (bytes ∷ others) left = (mid : List ℕ) × HandsOut ready bytes mid × HandsOutEach mid others left

abbrev pub together : List (List ℕ) → List ℕ
together [] = []
together (bytes ∷ others) = bytes ++ together others

-- since a connection, at whose begin nothing is ready, replies are handed out, each cut where it ends: the last may be begun
abbrev pub RepliesAreHandedOut : Type 0
RepliesAreHandedOut = (pieces : List (List ℕ)) (left : List ℕ) → HandsOutEach [] pieces left → AreSpelled (together pieces ++ left)
