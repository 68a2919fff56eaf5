-- What FETCH replies report about messages (RFC 9051, section 7.5.2). Of two items of a kind the later counts, and of two replies with one
-- UID.
use Rattle.std.specs.Prelude.{◌≡◌, ℕ, nat_le, List, [], Option, None, Some}
use Rattle.std.specs.List.{fold}
use Rattle.std.specs.Option.{option_map}
use Rattle.std.specs.Ordering.{nat_cmp}
use Rattle.std.specs.BTreeMap.{insert_entry}
use Rattle.mailcore.specs.Content.{size_limit}
use Rattle.mailcore.specs.KeywordNames.{named_set}
use Rattle.mailcore.specs.declared.keywords.Keyword.{Keyword}
use Rattle.imap_replies.specs.declared.fetch.FetchItem.{FetchItem}
use Rattle.imap_replies.specs.declared.fetch.FetchItem.TheVariants as items
use Rattle.imap_replies.specs.declared.reply.Reply.{Reply}
use Rattle.imap_replies.specs.declared.reply.Reply.TheVariants.{Fetch}
use Rattle.imap_answers.specs.declared.reported.FetchReport.{FetchReport}
use Rattle.imap_answers.specs.declared.reported.Row.{Row}

abbrev pub nothing_reported : FetchReport
nothing_reported = record { uid = None; flags = None; size = None }

-- with one item more
abbrev pub reported_more : List Keyword → FetchReport → FetchItem → FetchReport
reported_more keywords t (items.Uid uid) = record t { uid = Some uid }
reported_more keywords t (items.Flags names) = record t { flags = Some (named_set keywords names) }
reported_more keywords t (items.Size size) = record t { size = Some size }
reported_more keywords t (items.Body body) = t
reported_more keywords t (items.Head head) = t

abbrev pub reported_of : List Keyword → List FetchItem → FetchReport
reported_of keywords list = fold (reported_more keywords) nothing_reported list

-- the UID alone
abbrev pub uid_more : Option ℕ → FetchItem → Option ℕ
uid_more reported (items.Uid uid) = Some uid
uid_more reported (items.Flags names) = reported
uid_more reported (items.Size size) = reported
uid_more reported (items.Body body) = reported
uid_more reported (items.Head head) = reported

abbrev pub uid_of : List FetchItem → Option ℕ
uid_of list = fold uid_more None list

-- ---- what replies report, in the order of UIDs

-- what is kept of a message: its flags, and whether its size is within the limit
abbrev pub row_of : FetchReport → Row
row_of t = record { flags = t.flags; fit = option_map (λ size. nat_le size size_limit) t.size }

abbrev pub with_row : List (ℕ × Row) → Option ℕ → FetchReport → List (ℕ × Row)
with_row rows None t = rows
with_row rows (Some uid) t = insert_entry nat_cmp rows uid (row_of t)

-- with one reply more
abbrev pub rows_more : List Keyword → List (ℕ × Row) → Reply → List (ℕ × Row)
rows_more keywords rows (Fetch n list) = with_row rows (reported_of keywords list).uid (reported_of keywords list)
rows_more keywords rows _ = rows

abbrev pub rows_of : List Keyword → List Reply → List (ℕ × Row)
rows_of keywords replies = fold (rows_more keywords) [] replies

-- the rows of messages, and the map by which names of flags are read
pub record MappedRows : Type 0 where
  pub keywords : List Keyword
  pub rows : List (ℕ × Row)

abbrev pub no_rows : List Keyword → MappedRows
no_rows keywords = record { keywords = keywords; rows = [] }

-- given these replies, the first became the second
abbrev pub TookRows : (first : MappedRows) → List Reply → (second : MappedRows) → Type 0
TookRows first replies second = second ≡ record first { rows = fold (rows_more first.keywords) first.rows replies }
