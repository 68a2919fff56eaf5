-- What other clients do to a mailbox between two calls of a run: they add messages, change flags and remove messages (RFC 9051, sections
-- 6.3.12, 6.4.3 and 6.4.6; COPY and MOVE are made of these). Mail readers do the same to files.
use Rattle.std.specs.Prelude.{◌≡◌, ◌≤◌, ◌⊎◌, ℕ, List, [], ◌∷◌}
use Rattle.mailcore.specs.declared.mailbox.Message.{Message}
use Rattle.mailcore.specs.Operations.{added, expunged, flagged}
use Rattle.mailcore.specs.Stores.{Store}

-- ---- one act

-- a message comes, under a UID of at least the next one
pub record Adds (s s' : Store) : Type 0 where
  pub message : Message
  pub given : s.next ≤ message.uid
  pub now : s' ≡ added message.uid message.flags message.bytes s

-- a message has these flags from now on
pub record Flags (s s' : Store) : Type 0 where
  pub uid : ℕ
  pub flags : ℕ
  pub now : s' ≡ flagged (λ _. flags) uid s

-- a message is removed
pub record Removes (s s' : Store) : Type 0 where
  pub uid : ℕ
  pub now : s' ≡ expunged (uid ∷ []) s

abbrev pub Act : Store → Store → Type 0
Act s s' = Adds s s' ⊎ (Flags s s' ⊎ Removes s s')

-- ---- any number of them, one after another

-- the mailbox after each of them
abbrev pub ActsBy : Store → List Store → Store → Type 0
ActsBy s [] s' = s' ≡ s
ActsBy s (t ∷ ts) s' = Act s t × ActsBy t ts s'

pub record Acts (s s' : Store) : Type 0 where
  pub after_each : List Store
  pub by : ActsBy s after_each s'
