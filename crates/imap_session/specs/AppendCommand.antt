-- APPEND (RFC 9051, section 6.3.12). The message may get any UID that is at least the next one.
use Rattle.std.specs.Prelude.{◌≡◌, ◌≤◌, ◌<◌, ◌⊎◌, ℕ, ◌+◌, Bool, true, false, List, [], ◌∷◌, ◌++◌, length, codes, Option, None, Some, if◌then◌else◌}
use Rattle.mailcore.specs.KeywordNames.{named_set}
use Rattle.mailcore.specs.Stores.{Store}
use Rattle.mailcore.specs.Operations.{added}
use Rattle.imap_replies.specs.declared.response.Code.TheVariants as codes_of
use Rattle.imap_replies.specs.declared.reply.Reply.{Reply}
use Rattle.imap_replies.specs.declared.reply.Reply.TheVariants.{Exists}
use Rattle.imap_session.specs.Mailboxes.{FarMailbox, same_name, mailbox_at, changed}
use Rattle.imap_session.specs.Servers.{Condition, NotAuthenticated, Authenticated, Selected, LoggedOut, Server, is_logged_in}
use Rattle.imap_session.specs.Answering.{Answer, Gives, done_with, refused, refused_with, only, out_of_place}

-- a UID that the next message may get
pub record MayGive (s : Store) (uid : ℕ) : Type 0 where
  pub at_least : s.next ≤ uid
  pub below : uid < 4294967295

-- where the mailbox is the one that is selected, it has so many messages now
abbrev pub grown : Condition → (name : List ℕ) (count : ℕ) → List Reply
grown NotAuthenticated name count = []
grown Authenticated name count = []
grown (Selected at) name count = if same_name at name then Exists count ∷ [] else []
grown LoggedOut name count = []

-- the message is added under this UID; names that no flag has are skipped
abbrev pub appended : Server → FarMailbox → (uid : ℕ) → (tag name : List ℕ) (flags : List (List ℕ)) (message : List ℕ) → Answer
appended s m uid tag name flags message = record {
  replies = grown s.condition name (length m.store.messages + 1) ++ done_with tag (codes_of.AppendUid m.store.validity uid) ∷ [];
  after = record s { mailboxes = changed (added uid (named_set s.keywords flags) message) name s.mailboxes };
}

-- under some UID
pub record AppendsUnder (s : Server) (m : FarMailbox) (tag name : List ℕ) (flags : List (List ℕ)) (message : List ℕ) (replies : List Reply) (new : Server) : Type 0 where
  pub uid : ℕ
  pub may : MayGive m.store uid
  pub gives : Gives (appended s m uid tag name flags message) replies new

-- no UID is left
pub record NoneLeft (s : Server) (m : FarMailbox) (tag : List ℕ) (replies : List Reply) (new : Server) : Type 0 where
  pub last : m.store.next ≡ 4294967295
  pub gives : Gives (only s (refused tag (codes "uids"))) replies new

abbrev pub AppendsAt : Option FarMailbox → Server → (tag name : List ℕ) (flags : List (List ℕ)) (message : List ℕ) → List Reply → Server → Type 0
AppendsAt None s tag name flags message replies new =
    Gives (only s (refused_with tag (codes "TRYCREATE") (codes "no mailbox"))) replies new
AppendsAt (Some m) s tag name flags message replies new =
    NoneLeft s m tag replies new ⊎ AppendsUnder s m tag name flags message replies new

abbrev pub AppendsIf : Bool → Server → (tag name : List ℕ) (flags : List (List ℕ)) (message : List ℕ) → List Reply → Server → Type 0
AppendsIf false s tag name flags message replies new = Gives (out_of_place s tag) replies new
AppendsIf true s tag name flags message replies new = AppendsAt (mailbox_at name s.mailboxes) s tag name flags message replies new

abbrev pub Appends : Server → (tag name : List ℕ) (flags : List (List ℕ)) (message : List ℕ) → List Reply → Server → Type 0
Appends s = AppendsIf (is_logged_in s.condition) s
