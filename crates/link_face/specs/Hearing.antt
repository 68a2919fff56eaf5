-- Which replies of the profile a client hears as they came.
use Rattle.std.specs.Prelude.{◌≡◌, ◌==◌, ◌&&◌, ◌||◌, not, nat_lt, ℕ, Bool, true, false, List, codes, Option, None, Some, if◌then◌else◌}
use Rattle.std.specs.List.{list_all, list_any}
use Rattle.wire_reader.specs.declared.answer.Read.{Read}
use Rattle.wire_reader.specs.declared.answer.Read.TheVariants.{Whole, WantsLiteral, Partial}
use Rattle.wire_tokens.specs.Names.{has_name}
use Rattle.wire_strings.specs.declared.string.WireString.{WireString}
use Rattle.wire_strings.specs.declared.string.WireString.TheVariants.{Quoted, Literal}
use Rattle.wire_strings.specs.declared.astring.AString.{AString}
use Rattle.wire_strings.specs.declared.astring.AString.TheVariants as names
use Rattle.imap_replies.specs.declared.fetch.FetchItem.{FetchItem}
use Rattle.imap_replies.specs.declared.fetch.FetchItem.TheVariants as items
use Rattle.imap_replies.specs.declared.reply.Reply.{Reply}
use Rattle.imap_replies.specs.declared.reply.Reply.TheVariants.{Continue, Tagged, Notice, Capability, Enabled, List as Listed, Flags, Exists, Expunge, Fetch, Other, OtherNumbered}
use Rattle.imap_replies.specs.Replies.{ReplyText}
use Rattle.link_face.specs.Faces.{FitsLine}

-- ---- LIST: a mailbox that can be selected, whose name stands for itself in modified UTF-7

-- a name as it stands in the reply
abbrev pub text_in : AString → List ℕ
text_in (names.Atom text) = text
text_in (names.Quoted raw) = raw
text_in (names.Literal octets) = octets

-- US-ASCII, and not `&`
abbrev pub is_same_byte : ℕ → Bool
is_same_byte b = nat_lt b 128 && not (b == 38)

abbrev pub is_same_near : (name : List ℕ) → Bool
is_same_near name = list_all is_same_byte name

abbrev pub hides : (attributes : List (List ℕ)) → Bool
hides attributes = has_name (codes "\\Noselect") attributes || has_name (codes "\\NonExistent") attributes

-- ---- FETCH: all items of one of the commands, with octets that stand for themselves

abbrev pub is_uid : FetchItem → Bool
is_uid (items.Uid uid) = true
is_uid _ = false

abbrev pub is_flags : FetchItem → Bool
is_flags (items.Flags flags) = true
is_flags _ = false

abbrev pub is_size : FetchItem → Bool
is_size (items.Size size) = true
is_size _ = false

abbrev pub is_octets : FetchItem → Bool
is_octets (items.Body octets) = true
is_octets (items.Head octets) = true
is_octets _ = false

-- a quoted string with a backslash
abbrev pub has_backslash : Option WireString → Bool
has_backslash None = false
has_backslash (Some (Quoted raw)) = list_any (λ b. b == 92) raw
has_backslash (Some (Literal octets)) = false

abbrev pub is_escaped : FetchItem → Bool
is_escaped (items.Body octets) = has_backslash octets
is_escaped (items.Head octets) = has_backslash octets
is_escaped _ = false

abbrev pub has_values : List FetchItem → Bool
has_values row = list_any is_octets row || list_any is_flags row && list_any is_size row

abbrev pub is_row : List FetchItem → Bool
is_row row = list_any is_uid row && has_values row && not (list_any is_escaped row)

-- ---- all replies

abbrev pub is_heard : Reply → Bool
is_heard (Continue text) = true
is_heard (Tagged tag status text) = true
is_heard (Notice kind text) = true
is_heard (Capability names) = true
is_heard (Enabled names) = true
is_heard (Listed attributes delimiter name) = not (hides attributes) && is_same_near (text_in name)
is_heard (Flags flags) = true
is_heard (Exists n) = true
is_heard (Expunge n) = true
is_heard (Fetch n row) = is_row row
is_heard (Other word text) = true
is_heard (OtherNumbered n event text) = true

-- such a reply, with room for it in a line
pub record IsPassed (raw : List ℕ) : Type 0 where
  pub reply : Reply
  pub spelled : ReplyText reply raw
  pub fits : FitsLine raw
  pub heard : is_heard reply ≡ true

-- the reply that was read, if it has so many bytes
abbrev pub whole_in : Read Reply → (len : ℕ) → Option Reply
whole_in (Whole reply used) len = if used == len then Some reply else None
whole_in (WantsLiteral n) len = None
whole_in Partial len = None
