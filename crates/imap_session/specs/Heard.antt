-- Replies as bytes, and replies as answers to a command.
use Rattle.std.specs.Prelude.{◌≡◌, ◌≤◌, ◌⊎◌, ℕ, Bool, true, false, List, [], ◌∷◌, ◌++◌, Option, None, Some}
use Rattle.mailcore.specs.declared.keywords.Keyword.{Keyword}
use Rattle.mailcore.specs.KeywordNames.{named_set}
use Rattle.wire_reader.specs.Lexical.{outside}
use Rattle.wire_tokens.specs.Names.{has_name, star}
use Rattle.imap_replies.specs.declared.fetch.FetchItem.{FetchItem}
use Rattle.imap_replies.specs.declared.fetch.FetchItem.TheVariants as items
use Rattle.imap_replies.specs.declared.word.NoticeKind.{NoticeKind}
use Rattle.imap_replies.specs.declared.word.Status.TheVariants as statuses
use Rattle.imap_replies.specs.declared.word.NoticeKind.TheVariants as notices
use Rattle.imap_replies.specs.declared.response.Code.TheVariants as codes_of
use Rattle.imap_replies.specs.declared.response.ResponseText.TheVariants.{Plain, Coded}
use Rattle.imap_replies.specs.declared.reply.Reply.{Reply}
use Rattle.imap_replies.specs.declared.reply.Reply.TheVariants.{Continue, Tagged, Notice, Capability, Enabled, List as Listed, Flags, Exists, Expunge, Fetch, Other, OtherNumbered}
use Rattle.imap_replies.specs.Replies.{ReplyText}

-- a spelling of the replies, one after another
pub record ThenReplies (P : List ℕ → Type 0) (reply : Reply) (bytes : List ℕ) : Type 0 where
  pub front : List ℕ
  pub back : List ℕ
  pub parts : bytes ≡ front ++ back
  pub first : ReplyText reply front
  pub fits : outside front ≤ 65536
  pub others : P back

abbrev pub AreReplies : List Reply → List ℕ → Type 0
AreReplies [] bytes = bytes ≡ []
AreReplies (reply ∷ replies) bytes = ThenReplies (AreReplies replies) reply bytes

abbrev pub tag_of : Reply → Option (List ℕ)
tag_of (Continue text) = None
tag_of (Tagged tag status text) = Some tag
tag_of (Notice kind text) = None
tag_of (Capability names) = None
tag_of (Enabled names) = None
tag_of (Listed attributes delimiter name) = None
tag_of (Flags flags) = None
tag_of (Exists n) = None
tag_of (Expunge n) = None
tag_of (Fetch n items) = None
tag_of (Other word text) = None
tag_of (OtherNumbered n event text) = None

-- what may stand before the tagged reply: no `+`, and not what only greets
abbrev pub is_passed : Reply → Bool
is_passed (Continue text) = false
is_passed (Tagged tag status text) = false
is_passed (Notice notices.Ok text) = true
is_passed (Notice notices.No text) = true
is_passed (Notice notices.Bad text) = true
is_passed (Notice notices.Bye text) = true
is_passed (Notice notices.Preauth text) = false
is_passed (Capability names) = true
is_passed (Enabled names) = true
is_passed (Listed attributes delimiter name) = true
is_passed (Flags flags) = true
is_passed (Exists n) = true
is_passed (Expunge n) = true
is_passed (Fetch n items) = true
is_passed (Other word text) = true
is_passed (OtherNumbered n event text) = true

-- such replies, and then one with this tag
abbrev pub IsAnswer : (tag : List ℕ) → List Reply → Type 0
IsAnswer tag [] = ⊥
IsAnswer tag (reply ∷ replies) =
    ((tag_of reply ≡ Some tag) × (replies ≡ [])) ⊎ ((is_passed reply ≡ true) × IsAnswer tag replies)

abbrev pub AreUntagged : List Reply → Type 0
AreUntagged [] = Unit {0}
AreUntagged (reply ∷ replies) = (is_passed reply ≡ true) × AreUntagged replies

-- ---- what may be heard where this was said

-- an APPENDUID code may be left out
pub record WithoutUid (heard said : Reply) : Type 0 where
  pub tag : List ℕ
  pub validity : ℕ
  pub uid : ℕ
  pub text : List ℕ
  pub heard_is : heard ≡ Tagged tag statuses.Ok (Plain text)
  pub said_is : said ≡ Tagged tag statuses.Ok (Coded (codes_of.AppendUid validity uid) text)

-- names may stand among flags that no flag of a map has: these are the same flags
abbrev pub AreSameFlags : List Keyword → (heard said : List (List ℕ)) → Type 0
AreSameFlags keywords heard said = named_set keywords heard ≡ named_set keywords said

-- `* FLAGS`
pub record ShowsFlags (keywords : List Keyword) (heard said : Reply) : Type 0 where
  pub names : List (List ℕ)
  pub names_said : List (List ℕ)
  pub heard_is : heard ≡ Flags names
  pub said_is : said ≡ Flags names_said
  pub same : AreSameFlags keywords names names_said

-- PERMANENTFLAGS, with `\*` in both or in neither
pub record ShowsPermanent (keywords : List Keyword) (heard said : Reply) : Type 0 where
  pub kind : NoticeKind
  pub text : List ℕ
  pub names : List (List ℕ)
  pub names_said : List (List ℕ)
  pub heard_is : heard ≡ Notice kind (Coded (codes_of.PermanentFlags names) text)
  pub said_is : said ≡ Notice kind (Coded (codes_of.PermanentFlags names_said) text)
  pub same : AreSameFlags keywords names names_said
  pub star : has_name star names ≡ has_name star names_said

-- FETCH: each item is the same, or it names the same flags
pub record ShowsItem (keywords : List Keyword) (heard said : FetchItem) : Type 0 where
  pub names : List (List ℕ)
  pub names_said : List (List ℕ)
  pub heard_is : heard ≡ items.Flags names
  pub said_is : said ≡ items.Flags names_said
  pub same : AreSameFlags keywords names names_said

abbrev pub AreSameItems : List Keyword → (heard said : List FetchItem) → Type 0
AreSameItems keywords [] [] = Unit {0}
AreSameItems keywords [] (said ∷ others) = ⊥
AreSameItems keywords (heard ∷ hs) [] = ⊥
AreSameItems keywords (heard ∷ hs) (said ∷ ss) = ((heard ≡ said) ⊎ ShowsItem keywords heard said) × AreSameItems keywords hs ss

pub record ShowsMessage (keywords : List Keyword) (heard said : Reply) : Type 0 where
  pub place : ℕ
  pub list : List FetchItem
  pub list_said : List FetchItem
  pub heard_is : heard ≡ Fetch place list
  pub said_is : said ≡ Fetch place list_said
  pub same : AreSameItems keywords list list_said

-- the reply that was said, or one in its place
abbrev pub IsHeardAs : List Keyword → (heard said : Reply) → Type 0
IsHeardAs keywords heard said =
    (heard ≡ said) ⊎ WithoutUid heard said ⊎ ShowsFlags keywords heard said ⊎ ShowsPermanent keywords heard said ⊎ ShowsMessage keywords heard said

abbrev pub AreHeardAs : List Keyword → (heard said : List Reply) → Type 0
AreHeardAs keywords [] [] = Unit {0}
AreHeardAs keywords [] (said ∷ others) = ⊥
AreHeardAs keywords (heard ∷ hs) [] = ⊥
AreHeardAs keywords (heard ∷ hs) (said ∷ ss) = IsHeardAs keywords heard said × AreHeardAs keywords hs ss
