-- What the calls of a mailbox do to it and return of it, for both sides.
use Rattle.std.specs.Prelude.{◌≡◌, ◌⊎◌, ◌<◌, ◌≤◌, ◌+◌, ◌^◌, All, Contains, ℕ, Bool, true, false, not, ◌&&◌, ◌==◌, List, [], ◌++◌, IsPermutation, drop, filter, length, take, Option, None, Some}
use Rattle.device.specs.Calls.{Effect, Nothing}
use Rattle.mailcore.specs.declared.keywords.Keyword.{Keyword}
use Rattle.mailcore.specs.declared.listing.Listing.{Listing}
use Rattle.mailcore.specs.declared.side.Side.{Side}
use Rattle.mailcore.specs.declared.side.Side.TheVariants.{Far, Near}
use Rattle.mailcore.specs.Content.{copy_text, fit}
use Rattle.mailcore.specs.FlagSet.{has, DELETED}
use Rattle.mailcore.specs.KeywordNames.{IsWithin}
use Rattle.mailcore.specs.Mark.{is_mark}
use Rattle.mailcore.specs.Operations.{Shows, ShowsSparing, added, bytes_of, marked_from, with_messages}
use Rattle.mailcore.specs.Sides.{other}
use Rattle.mailcore.specs.Stores.{Store, Waiting, numbered}
use Rattle.mailcore.specs.Mailboxes.{Mailbox, on_store, SetsAside}
use Rattle.rules.specs.Copies.{line_end}
use Rattle.outside.specs.declared.box_fault.BoxFault.{BoxFault}
use Rattle.outside.specs.declared.box_fault.BoxFault.TheVariants.{Refused, Own}
use Rattle.outside.specs.FaultNumbers.{NEAR_UIDS_EXHAUSTED}

-- ---- what is read of it

-- nothing is changed, and this is so of the mailbox
abbrev pub Answers : {T : Type 0} → (states : T → Mailbox → Type 0) → T → Effect Mailbox
Answers states answer b b' = (b' ≡ b) × states answer b

abbrev pub ReportsValidity : ℕ → Mailbox → Type 0
ReportsValidity validity b = validity ≡ b.store.validity

-- Where others add messages, a server may list one that came after it reported its next UID (RFC 9051, sections 6.3.2 and 7.1). So a
-- listing's next UID is at least the one that was known before, above all that is listed, and not above the mailbox's.
pub record ReportsBetween (known : ℕ) (listing : Listing) (s : Store) : Type 0 where
  pub least : known ≤ listing.next
  pub above : All (λ m. m.uid < listing.next) s.messages
  pub most : listing.next ≤ s.next

-- where nobody else adds any, it is the mailbox's
abbrev pub ReportsNext : (alone : Bool) → (known : ℕ) → Listing → Store → Type 0
ReportsNext true known listing s = listing.next ≡ s.next
ReportsNext false known listing s = (listing.next ≡ s.next) ⊎ ReportsBetween known listing s

pub record ListsFar (alone : Bool) (known : ℕ) (listing : Listing) (s : Store) : Type 0 where
  pub shows : Shows Far (record s { next = listing.next }) listing
  pub next : ReportsNext alone known listing s

abbrev pub Lists : Side → (alone : Bool) → (known : ℕ) → (spared : ℕ → Bool) → Listing → Mailbox → Type 0
Lists Far alone known spared listing b = ListsFar alone known listing b.store
Lists Near alone known spared listing b = ShowsSparing Near spared b.store listing

-- each flag that is listed has a name in IMAP, by this map
abbrev pub ListsWithin : List Keyword → Listing → Type 0
ListsWithin keywords listing = All (λ item. IsWithin keywords item.flags) listing.items

abbrev pub body_if : Bool → List ℕ → Option (List ℕ)
body_if true body = Some body
body_if false body = None

-- the message is there, and this is its body; or it is not there
abbrev pub Loads : (uid : ℕ) → (body : List ℕ) → Bool → Mailbox → Type 0
Loads uid body is_there b = bytes_of uid b.store ≡ body_if is_there body

abbrev pub Finds : (mark : List ℕ) (from : ℕ) → Option ℕ → Mailbox → Type 0
Finds mark from found b = found ≡ marked_from mark from b.store

-- ---- what is changed

-- the store becomes this, and what waits stays
abbrev pub Turns : (Store → Store) → Effect Mailbox
Turns change b b' = b' ≡ on_store change b

-- the message with this UID is removed, if it is marked as deleted (RFC 9051, section 6.4.9)
abbrev pub removed : (uid : ℕ) → Store → Store
removed uid = with_messages (filter (λ m. not (m.uid == uid && has m.flags DELETED)))

-- the UID that was returned, if one was, is that of the copy
abbrev pub Reports : Option ℕ → (copy : ℕ) → Type 0
Reports None copy = Unit {0}
Reports (Some reported) copy = reported ≡ copy

-- the UIDs that an added message may get: a server gives any of at least the next one and may keep silent about it (RFC 9051, section
-- 7.1), a folder gives the next one
abbrev pub Gives : Side → (next uid : ℕ) → (reported : Option ℕ) → Type 0
Gives Far next uid reported = (next ≤ uid) × Reports reported uid
Gives Near next uid reported = (uid ≡ next) × (reported ≡ Some uid)

pub record Appends (side : Side) (bytes : List ℕ) (flags : ℕ) (reported : Option ℕ) (b b' : Mailbox) : Type 0 where
  pub uid : ℕ
  pub gives : Gives side b.store.next uid reported
  pub now : b' ≡ on_store (added uid flags bytes) b

-- a part of that: a folder's next UID is raised first
abbrev pub AppendsPart : Side → Effect Mailbox
AppendsPart Far = Nothing
AppendsPart Near = SetsAside

-- ---- what waits gets its UIDs

-- What was read of that which waits, in this order, before others may have delivered more. Where nobody else delivers, it is all that waits.
pub record IsReading (alone : Bool) (read left : List Waiting) (b : Mailbox) : Type 0 where
  pub parts : IsPermutation (read ++ left) b.waiting
  pub all : alone ≡ true → (read ≡ b.waiting) × (left ≡ [])

-- the UIDs of what was read are set aside, and the first of it has its own; what was not read waits on
abbrev pub read_admitted : (count : ℕ) → (read left : List Waiting) → Mailbox → Mailbox
read_admitted count read left b = record {
  store = record b.store {
    next = b.store.next + length read;
    messages = b.store.messages ++ numbered b.store.next (take count read);
  };
  waiting = drop count read ++ left;
}

-- all that was read has UIDs, and each file that was known to wait was read
pub record Admits (alone : Bool) (known : List Waiting) (b b' : Mailbox) : Type 0 where
  pub read : List Waiting
  pub left : List Waiting
  pub reading : IsReading alone read left b
  pub least : (f : Waiting) → Contains known f → Contains read f
  pub now : b' ≡ read_admitted (length read) read left b

-- some of it has
pub record AdmitsPart (alone : Bool) (b b' : Mailbox) : Type 0 where
  pub read : List Waiting
  pub left : List Waiting
  pub reading : IsReading alone read left b
  pub count : ℕ
  pub now : b' ≡ read_admitted count read left b

-- ---- what may be asked

-- this is the text of a copy, under some mark, of a message that is fit to be copied to this side
pub record IsCopyText (side : Side) (text : List ℕ) : Type 0 where
  pub mark : List ℕ
  pub is_mark : is_mark mark ≡ true
  pub bytes : List ℕ
  pub is_fit : fit (other side) bytes ≡ true
  pub text_is : text ≡ copy_text mark bytes (line_end side)

-- ---- why a call is not done

-- how a mailbox says that no UID is left
abbrev pub is_full : Side → BoxFault
is_full Far = Refused
is_full Near = Own NEAR_UIDS_EXHAUSTED

-- there are no UIDs for so many more
abbrev pub IsFull : (count : ℕ) → Mailbox → Type 0
IsFull count b = 2 ^ 32 ≤ b.store.next + count

-- a call that gives UIDs is refused for want of UIDs alone
abbrev pub NoRoom : Side → (count : Mailbox → ℕ) → BoxFault → Mailbox → Type 0
NoRoom side count fault b = (fault ≡ is_full side) × IsFull (count b) b

-- what a listing gives is above 0 whether or not the device behaves as specified
abbrev pub HasNumbers : Listing → Type 0
HasNumbers listing = (0 < listing.validity) × (0 < listing.next)
