-- What a message has (RFC 9051, section 9: msg-att, msg-att-dynamic, msg-att-static).
use Rattle.std.specs.Prelude.{ℕ, List, codes, Option, Result}
use Rattle.wire_reader.specs.declared.side.Speaker.TheVariants.{Replies}
use Rattle.wire_reader.specs.declared.stop.Stop.{Stop}
use Rattle.wire_reader.specs.Spelling.{◌⨾◌, Is, crlf, ItemsText}
use Rattle.wire_reader.specs.Reading.{seq, mapped, skip, keep, byte_at, crlf_at}
use Rattle.wire_reader.specs.Listing.{items_at, ended}
use Rattle.wire_reader.specs.Words.{keys_at}
use Rattle.wire_strings.specs.declared.string.WireString.{WireString}
use Rattle.wire_tokens.specs.Atoms.{is_atom_byte}
use Rattle.wire_tokens.specs.Numbers.{NumberText, NzText, number_at, nz_at}
use Rattle.wire_strings.specs.Strings.{NStringText, nstring_at}
use Rattle.wire_tokens.specs.FlagLists.{FlagsText, flags_at}
use Rattle.imap_replies.specs.Forms.{Form, AsRead, WordIn}
use Rattle.imap_replies.specs.declared.word.ItemWord.{ItemWord}
use Rattle.imap_replies.specs.declared.word.ItemWord.TheVariants as words
use Rattle.imap_replies.specs.declared.fetch.FetchItem.{FetchItem}
use Rattle.imap_replies.specs.declared.fetch.FetchItem.TheVariants as items
use Rattle.imap_replies.specs.Words.{item_word, later_item_words}

-- `F` says in which form
abbrev pub ItemIn : Form → FetchItem → List ℕ → Type 0
ItemIn F (items.Uid n) = WordIn F (item_word words.Uid) ⨾ NzText n
ItemIn F (items.Flags flags) = WordIn F (item_word words.Flags) ⨾ FlagsText flags
ItemIn F (items.Size n) = WordIn F (item_word words.Size) ⨾ NumberText n
ItemIn F (items.Body string) = WordIn F (item_word words.Body) ⨾ NStringText Replies string
ItemIn F (items.Head string) = WordIn F (item_word words.Head) ⨾ NStringText Replies string

-- after FETCH: the items in brackets, and the line end
abbrev pub FetchIn : Form → List FetchItem → List ℕ → Type 0
FetchIn F list = Is (codes " (") ⨾ ItemsText 32 (ItemIn F) list ⨾ Is (codes ")") ⨾ Is crlf

-- words in any case
abbrev pub ItemText : FetchItem → List ℕ → Type 0
ItemText item text = ItemIn AsRead item text

abbrev pub FetchLine : List FetchItem → List ℕ → Type 0
FetchLine list text = FetchIn AsRead list text

-- ---- how they are read: each item ends before the first byte that is no atom's

abbrev pub uid : ℕ → FetchItem
uid n = items.Uid n

abbrev pub flags : List (List ℕ) → FetchItem
flags names = items.Flags names

abbrev pub size : ℕ → FetchItem
size n = items.Size n

abbrev pub body : Option WireString → FetchItem
body string = items.Body string

abbrev pub head : Option WireString → FetchItem
head string = items.Head string

unfoldable pub item_value_at : ItemWord → List ℕ → Result (FetchItem × List ℕ) Stop
item_value_at words.Uid = mapped uid (ended is_atom_byte nz_at)
item_value_at words.Flags = mapped flags (ended is_atom_byte flags_at)
item_value_at words.Size = mapped size (ended is_atom_byte number_at)
item_value_at words.Body = mapped body (nstring_at Replies)
item_value_at words.Head = mapped head (nstring_at Replies)

abbrev pub item_word_at : List ℕ → Result (ItemWord × List ℕ) Stop
item_word_at = keys_at item_word words.Uid later_item_words

unfoldable pub item_at : List ℕ → Result (FetchItem × List ℕ) Stop
item_at = seq item_word_at item_value_at

unfoldable pub item_list_at : List ℕ → Result (List FetchItem × List ℕ) Stop
item_list_at = items_at 32 item_at

unfoldable pub fetch_at : List ℕ → Result (List FetchItem × List ℕ) Stop
fetch_at = skip (byte_at 32) (skip (byte_at 40) (keep item_list_at (skip (byte_at 41) crlf_at)))
