-- The bytes of a message, as replies to UID FETCH report them.
use Rattle.std.specs.Prelude.{ℕ, Bool, false, ◌==◌, List, take, drop, Option, None, Some, if◌then◌else◌}
use Rattle.std.specs.List.{fold, list_any}
use Rattle.std.specs.Option.{option_map}
use Rattle.wire_strings.specs.declared.string.WireString.{WireString}
use Rattle.wire_strings.specs.declared.string.WireString.TheVariants.{Quoted, Literal}
use Rattle.imap_replies.specs.declared.fetch.FetchItem.{FetchItem}
use Rattle.imap_replies.specs.declared.fetch.FetchItem.TheVariants as items
use Rattle.imap_replies.specs.declared.reply.Reply.{Reply}
use Rattle.imap_replies.specs.declared.reply.Reply.TheVariants.{Fetch}
use Rattle.imap_answers.specs.declared.bodies.FoundBody.{FoundBody}
use Rattle.imap_answers.specs.declared.bodies.FoundBody.TheVariants.{At, Copied}
use Rattle.imap_answers.specs.Fetching.{uid_of}

-- the bytes of a body, or none where it is NIL or quoted with a backslash
abbrev pub body_bytes : Option WireString → Option (List ℕ)
body_bytes None = None
body_bytes (Some (Literal bytes)) = Some bytes
body_bytes (Some (Quoted raw)) = if list_any (λ b. b == 92) raw then None else Some raw

-- What was reported so far: nothing that the call can take, or the bytes, if any were reported.
abbrev pub body_more : Option (Option (List ℕ)) → FetchItem → Option (Option (List ℕ))
body_more None item = None
body_more (Some reported) (items.Uid uid) = Some reported
body_more (Some reported) (items.Flags flags) = Some reported
body_more (Some reported) (items.Size size) = Some reported
body_more (Some reported) (items.Body body) = option_map (λ bytes. Some bytes) (body_bytes body)
body_more (Some reported) (items.Head head) = Some reported

abbrev pub body_in : Option (Option (List ℕ)) → List FetchItem → Option (Option (List ℕ))
body_in reported list = fold body_more reported list

abbrev pub is_reported : (uid : ℕ) → Option ℕ → Bool
is_reported uid None = false
is_reported uid (Some reported) = reported == uid

-- with one reply more: one of another message is skipped
abbrev pub bodies_more : (uid : ℕ) → Option (Option (List ℕ)) → Reply → Option (Option (List ℕ))
bodies_more uid reported (Fetch n list) = if is_reported uid (uid_of list) then body_in reported list else reported
bodies_more uid reported _ = reported

abbrev pub body_reported : (uid : ℕ) → List Reply → Option (Option (List ℕ))
body_reported uid replies = fold (bodies_more uid) (Some None) replies

-- ---- where they stand

-- the bytes of a message that was found in these bytes
abbrev pub body_at : FoundBody → (bytes : List ℕ) → List ℕ
body_at (At from len) bytes = take len (drop from bytes)
body_at (Copied copy) bytes = copy.items

abbrev pub found_at : (bytes : List ℕ) → Option FoundBody → Option (List ℕ)
found_at bytes found = option_map (λ b. body_at b bytes) found
