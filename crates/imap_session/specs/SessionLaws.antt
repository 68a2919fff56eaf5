-- What holds of sessions, in laws that functions of `src/sessions.rt` show.
use Rattle.std.specs.Prelude.{◌≡◌, ◌≤◌, ◌<◌, ◌⊎◌, ◌==◌, ℕ, ◌+◌, Bool, true, false, List, [], ◌∷◌, ◌++◌, map, find, Option, None, Some, IsSomeAnd}
use Rattle.std.specs.List.{list_any}
use Rattle.mailcore.specs.declared.mailbox.Message.{Message}
use Rattle.mailcore.specs.FlagSet.{has, DELETED}
use Rattle.mailcore.specs.Stores.{Store, IsStore}
use Rattle.mailcore.specs.Operations.{bytes_of}
use Rattle.wire_tokens.specs.declared.uid_set.SetItem.{SetItem}
use Rattle.wire_tokens.specs.Sets.{Names}
use Rattle.imap_commands.specs.declared.command.Request.TheVariants as requests
use Rattle.imap_commands.specs.declared.command.FetchItems.{FetchItems}
use Rattle.imap_commands.specs.declared.command.StoreMode.{StoreMode}
use Rattle.imap_replies.specs.declared.reply.Reply.{Reply}
use Rattle.imap_replies.specs.declared.reply.Reply.TheVariants.{Tagged, Notice}
use Rattle.imap_replies.specs.declared.word.Status.TheVariants as statuses
use Rattle.imap_replies.specs.declared.word.NoticeKind.TheVariants as notices
use Rattle.imap_replies.specs.declared.response.Code.TheVariants as codes_of
use Rattle.imap_session.specs.Mailboxes.{FarMailbox, mailbox_at}
use Rattle.imap_session.specs.NamedMessages.{greatest}
use Rattle.imap_session.specs.Servers.{Server, selected}
use Rattle.imap_session.specs.Answering.{done_with}
use Rattle.imap_session.specs.Steps.{StepOf}
use Rattle.imap_session.specs.Portions.{Item}
use Rattle.imap_session.specs.Unread.{Whole}
use Rattle.imap_session.specs.Serving.{Portion, Does, Serve, End, Feeds, IsUnread}
use Rattle.imap_session.specs.Lines.{IsNewEnd}

-- ---- pieces of a stream

abbrev pub PiecesJoin : Type 0
PiecesJoin =
    (old mid new : End) (p q : List ℕ) (a b : List Reply) → Feeds old p a mid → Feeds mid q b new → Feeds old (p ++ q) (a ++ b) new

abbrev pub NewEndsAreEmpty : Type 0
NewEndsAreEmpty = (old : Server) (new : End) → IsNewEnd old new → IsUnread new [] []

-- where all bytes are kept, they are those that are unread
abbrev pub UnreadIsKept : Type 0
UnreadIsKept =
    (end : End) (bytes unread : List ℕ) (said : List Reply) → end.kept ≡ Whole bytes → IsUnread end unread said → unread ≡ bytes

-- ---- UIDs

-- the bytes under a UID now: none, or those before
abbrev pub Remains : (now before : Option (List ℕ)) → Type 0
Remains now before = (now ≡ None) ⊎ (now ≡ before)

pub record Continues (old new : Store) : Type 0 where
  pub validity : new.validity ≡ old.validity
  pub next : old.next ≤ new.next
  pub bodies : (uid : ℕ) → uid < old.next → Remains (bytes_of uid new) (bytes_of uid old)

-- the mailboxes go on, each at its place, and others may follow them
abbrev pub AllContinue : (old new : List FarMailbox) → Type 0
AllContinue [] new = Unit {0}
AllContinue (m ∷ ms) [] = ⊥
AllContinue (m ∷ ms) (n ∷ ns) = (n.name ≡ m.name) × Continues m.store n.store × AllContinue ms ns

-- in each UIDs rise and are below the next one
abbrev pub AreStores : List FarMailbox → Type 0
AreStores [] = Unit {0}
AreStores (m ∷ ms) = IsStore m.store × AreStores ms

pub record GoOn (old new : List FarMailbox) : Type 0 where
  pub stores : AreStores new
  pub continue : AllContinue old new

abbrev pub UidsAreKept : Type 0
UidsAreKept =
    (old new : Server) (portions : List Portion) (replies : List Reply) → AreStores old.mailboxes → Serve old portions replies new
    → GoOn old.mailboxes new.mailboxes

-- the mailbox of this name gave a UID, and gives greater ones from then on
pub record GivesUid (name : List ℕ) (validity uid : ℕ) (old new : Server) : Type 0 where
  pub before : FarMailbox
  pub was : mailbox_at name old.mailboxes ≡ Some before
  pub validity_is : validity ≡ before.store.validity
  pub at_least : before.store.next ≤ uid
  pub after : FarMailbox
  pub is : mailbox_at name new.mailboxes ≡ Some after
  pub next : after.store.next ≡ uid + 1

abbrev pub says : Reply → List Reply → Type 0
says reply [] = ⊥
says reply (r ∷ rs) = (r ≡ reply) ⊎ says reply rs

abbrev pub AppendsGiveNewUids : Type 0
AppendsGiveNewUids =
    (old new : Server) (tag name message : List ℕ) (flags : List (List ℕ)) (validity uid : ℕ) (replies : List Reply)
    → StepOf old tag (requests.Append name flags message) replies new
    → says (done_with tag (codes_of.AppendUid validity uid)) replies
    → GivesUid name validity uid old new

-- ---- UID EXPUNGE

abbrev pub message_at : (uid : ℕ) → Store → Option Message
message_at uid s = find (λ m. m.uid == uid) s.messages

-- the message under this UID is gone, the set names it, and it was marked as deleted
pub record IsTaken (set : List SetItem) (uid : ℕ) (old new : Store) : Type 0 where
  pub gone : message_at uid new ≡ None
  pub named : Names (greatest old.messages) set uid
  pub deleted : IsSomeAnd (message_at uid old) (λ m. has m.flags DELETED ≡ true)

-- each message is as it was, or taken
pub record TakesNamed (set : List SetItem) (old new : FarMailbox) : Type 0 where
  pub each : (uid : ℕ) → (message_at uid new.store ≡ message_at uid old.store) ⊎ IsTaken set uid old.store new.store

pub record TakesIn (set : List SetItem) (m : FarMailbox) (new : Server) : Type 0 where
  pub after : FarMailbox
  pub is : selected new ≡ Some after
  pub takes : TakesNamed set m after

abbrev pub ExpungeTakesNamed : Type 0
ExpungeTakesNamed =
    (old new : Server) (m : FarMailbox) (tag : List ℕ) (set : List SetItem) (replies : List Reply)
    → selected old ≡ Some m → IsStore m.store → StepOf old tag (requests.Expunge set) replies new → TakesIn set m new

-- ---- refusals

abbrev pub is_refusal : Reply → Bool
is_refusal (Tagged tag statuses.No text) = true
is_refusal (Tagged tag statuses.Bad text) = true
is_refusal (Notice notices.Bad text) = true
is_refusal _ = false

abbrev pub RefusalsChangeNothing : Type 0
RefusalsChangeNothing =
    (old new : Server) (item : Item) (replies : List Reply)
    → Does old item replies new → list_any is_refusal replies ≡ true → new.mailboxes ≡ old.mailboxes

-- ---- UID FETCH and UID STORE

abbrev pub FetchChangesNothing : Type 0
FetchChangesNothing =
    (old new : Server) (tag : List ℕ) (set : List SetItem) (what : FetchItems) (replies : List Reply)
    → StepOf old tag (requests.Fetch set what) replies new → new ≡ old

-- a mailbox without the flags of its messages
pub record Bodies : Type 0 where
  pub name : List ℕ
  pub validity : ℕ
  pub next : ℕ
  pub bodies : List (ℕ × List ℕ)

abbrev pub bodies_of : FarMailbox → Bodies
bodies_of m = record {
  name = m.name;
  validity = m.store.validity;
  next = m.store.next;
  bodies = map (λ x. (x.uid, x.bytes)) m.store.messages;
}

abbrev pub StoreKeepsBodies : Type 0
StoreKeepsBodies =
    (old new : Server) (tag : List ℕ) (set : List SetItem) (mode : StoreMode) (flags : List (List ℕ)) (replies : List Reply)
    → StepOf old tag (requests.Store set mode flags) replies new → map bodies_of new.mailboxes ≡ map bodies_of old.mailboxes
