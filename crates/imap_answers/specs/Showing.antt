-- Of which messages replies to UID FETCH show the beginning, and which marks stand there.
use Rattle.std.specs.Prelude.{ℕ, ◌+◌, max, Bool, true, false, ◌&&◌, nat_le, nat_lt, List, [], ◌∷◌, ◌++◌, Option, None, Some, if◌then◌else◌}
use Rattle.std.specs.List.{fold, list_any}
use Rattle.mailcore.specs.Content.{mark_of}
use Rattle.wire_strings.specs.declared.string.WireString.{WireString}
use Rattle.wire_strings.specs.declared.string.WireString.TheVariants.{Quoted, Literal}
use Rattle.imap_replies.specs.declared.fetch.FetchItem.{FetchItem}
use Rattle.imap_replies.specs.declared.fetch.FetchItem.TheVariants as items
use Rattle.imap_replies.specs.declared.reply.Reply.{Reply}
use Rattle.imap_replies.specs.declared.reply.Reply.TheVariants.{Fetch}
use Rattle.imap_answers.specs.Fetching.{uid_of}

-- the greatest UID that was shown, and all marks
pub record Shown : Type 0 where
  pub top : Option ℕ
  pub marks : List (List ℕ)

abbrev pub nothing_shown : Shown
nothing_shown = record { top = None; marks = [] }

-- ---- marks

-- the mark that the beginning of a message bears
abbrev pub mark_reported : Option WireString → Option (List ℕ)
mark_reported None = None
mark_reported (Some (Literal bytes)) = mark_of bytes
mark_reported (Some (Quoted raw)) = mark_of raw

-- the mark that an item shows
abbrev pub mark_shown : FetchItem → Option (List ℕ)
mark_shown (items.Uid uid) = None
mark_shown (items.Flags flags) = None
mark_shown (items.Size size) = None
mark_shown (items.Body body) = None
mark_shown (items.Head head) = mark_reported head

abbrev pub with_mark : List (List ℕ) → Option (List ℕ) → List (List ℕ)
with_mark marks None = marks
with_mark marks (Some mark) = marks ++ mark ∷ []

abbrev pub marks_more : List (List ℕ) → FetchItem → List (List ℕ)
marks_more marks item = with_mark marks (mark_shown item)

-- ---- UIDs

-- an item is the beginning of a message
abbrev pub is_head : FetchItem → Bool
is_head (items.Uid uid) = false
is_head (items.Flags flags) = false
is_head (items.Size size) = false
is_head (items.Body body) = false
is_head (items.Head head) = true

abbrev pub uid_if : (from : ℕ) → Option ℕ → List FetchItem → Option ℕ
uid_if from None list = None
uid_if from (Some uid) list = if nat_le from uid && list_any is_head list then Some uid else None

-- the UID of the message whose beginning these items show, if it is at least `from`
abbrev pub uid_shown : (from : ℕ) → List FetchItem → Option ℕ
uid_shown from list = uid_if from (uid_of list) list

abbrev pub greater : Option ℕ → Option ℕ → Option ℕ
greater None b = b
greater (Some a) None = Some a
greater (Some a) (Some b) = Some (max a b)

-- ---- what was shown

-- with these items
abbrev pub items_shown : (from : ℕ) → Shown → List FetchItem → Shown
items_shown from shown list = record { top = greater shown.top (uid_shown from list); marks = fold marks_more shown.marks list }

-- with one reply more
abbrev pub shown_more : (from : ℕ) → Shown → Reply → Shown
shown_more from shown (Fetch n list) = items_shown from shown list
shown_more from shown _ = shown

-- the UID after those that were shown, at most the next one
abbrev pub reach : (next : ℕ) → Option ℕ → ℕ
reach next None = 0
reach next (Some top) = if nat_lt top next then top + 1 else next
