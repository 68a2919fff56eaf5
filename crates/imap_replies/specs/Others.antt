-- Atoms that have no line of their own where they stand (RFC 9051, section 9: atom; in the profile the client passes their
-- lines over).
use Rattle.std.specs.Prelude.{◌≡◌, ℕ, false, List, None}
use Rattle.std.specs.List.{list_all}
use Rattle.wire_reader.specs.Spelling.{is_digit}
use Rattle.wire_tokens.specs.Atoms.{IsAtom}
use Rattle.imap_replies.specs.Words.{find_reply_word, find_event_word, find_code_word}

-- an atom that is not digits alone
pub record IsWord (text : List ℕ) : Type 0 where
  pub atom : IsAtom text
  pub letters : list_all is_digit text ≡ false

-- after `* `
pub record IsOtherWord (text : List ℕ) : Type 0 where
  pub word : IsWord text
  pub other : find_reply_word text ≡ None

-- after `* ` and a number
pub record IsOtherEvent (text : List ℕ) : Type 0 where
  pub atom : IsAtom text
  pub other : find_event_word text ≡ None

-- after `[`
pub record IsOtherCode (text : List ℕ) : Type 0 where
  pub atom : IsAtom text
  pub other : find_code_word text ≡ None
