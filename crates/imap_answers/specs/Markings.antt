-- Where replies to UID FETCH show a mark.
use Rattle.std.specs.Prelude.{◌≡◌, ℕ, min, Bool, false, ◌&&◌, ◌||◌, nat_le, nat_lt, List, length, Option, None, Some, if◌then◌else◌}
use Rattle.std.specs.List.{fold, list_any}
use Rattle.mailcore.specs.Operations.{is_mark}
use Rattle.wire_strings.specs.Quotes.{unescaped}
use Rattle.wire_strings.specs.declared.string.WireString.{WireString}
use Rattle.wire_strings.specs.declared.string.WireString.TheVariants.{Quoted, Literal}
use Rattle.imap_replies.specs.declared.fetch.FetchItem.{FetchItem}
use Rattle.imap_replies.specs.declared.fetch.FetchItem.TheVariants as items
use Rattle.imap_replies.specs.declared.reply.Reply.{Reply}
use Rattle.imap_replies.specs.declared.reply.Reply.TheVariants.{Fetch}
use Rattle.imap_answers.specs.Fetching.{uid_of}
use Rattle.imap_answers.specs.Listings.{is_uid}
use Rattle.imap_answers.specs.Showing.{mark_shown, nothing_shown, shown_more}
use Rattle.imap_answers.specs.declared.marks.MarkSearch.{MarkSearch}

-- an item is the beginning of a message with this mark
abbrev pub bears : (mark : List ℕ) → FetchItem → Bool
bears mark item = is_mark (mark_shown item) mark

abbrev pub uid_marked : (mark : List ℕ) (from : ℕ) → Option ℕ → List FetchItem → Option ℕ
uid_marked mark from None list = None
uid_marked mark from (Some uid) list = if nat_le from uid && list_any (bears mark) list then Some uid else None

-- the UID of a reply that shows the mark, if it is at least `from`
abbrev pub marked_uid : (mark : List ℕ) (from : ℕ) → Reply → Option ℕ
marked_uid mark from (Fetch n list) = uid_marked mark from (uid_of list) list
marked_uid mark from _ = None

abbrev pub lesser : Option ℕ → Option ℕ → Option ℕ
lesser None b = b
lesser (Some a) None = Some a
lesser (Some a) (Some b) = Some (min a b)

abbrev pub least_more : (mark : List ℕ) (from : ℕ) → Option ℕ → Reply → Option ℕ
least_more mark from least reply = lesser least (marked_uid mark from reply)

-- the least such UID
abbrev pub least_marked : (mark : List ℕ) (from : ℕ) → List Reply → Option ℕ
least_marked mark from replies = fold (least_more mark from) None replies

-- a number that was found is a UID
abbrev pub uid_found : Option ℕ → Option (Option ℕ)
uid_found None = Some None
uid_found (Some n) = if is_uid n then Some (Some n) else None

-- ---- no more was returned than was asked for

-- how many octets of each message are asked for: `BODY.PEEK[]<0.22>`
abbrev pub head_size : ℕ
head_size = 22

-- a string has more octets than that
abbrev pub is_long : Option WireString → Bool
is_long None = false
is_long (Some (Literal bytes)) = nat_lt head_size (length bytes)
is_long (Some (Quoted raw)) = nat_lt head_size (length (unescaped raw))

-- an item is such a beginning of a message
abbrev pub is_long_head : FetchItem → Bool
is_long_head (items.Uid uid) = false
is_long_head (items.Flags flags) = false
is_long_head (items.Size size) = false
is_long_head (items.Body body) = false
is_long_head (items.Head head) = is_long head

-- a reply shows one
abbrev pub has_long_head : Reply → Bool
has_long_head (Fetch n list) = list_any is_long_head list
has_long_head _ = false

-- the UID that was found, if one was; or nothing that the call can take
abbrev pub mark_found : (mark : List ℕ) (from : ℕ) → List Reply → Option (Option ℕ)
mark_found mark from replies = if list_any has_long_head replies then None else uid_found (least_marked mark from replies)

-- ---- the search, reply by reply

-- it was given no reply
abbrev pub new_search : (mark : List ℕ) (from : ℕ) → MarkSearch
new_search mark from = record { mark = mark; from = from; is_long = false; least = None; shown = nothing_shown }

-- given these replies, the first became the second
abbrev pub TookHeads : (first : MarkSearch) → List Reply → (second : MarkSearch) → Type 0
TookHeads first replies second =
    second ≡ record first {
      is_long = list_any has_long_head replies || first.is_long;
      least = fold (least_more first.mark first.from) first.least replies;
      shown = fold (shown_more first.from) first.shown replies;
    }

-- the search for this mark, once it was given these replies
abbrev pub Sought : (mark : List ℕ) (from : ℕ) → List Reply → MarkSearch → Type 0
Sought mark from replies search = TookHeads (new_search mark from) replies search
