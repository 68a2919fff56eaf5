-- The words that have lines of their own, by the place where they stand. They compare without case.
use Rattle.std.specs.Prelude.{ℕ, Bool, List, [], ◌∷◌, Option, find, codes}
use Rattle.std.specs.Str.{str_eq_ignore_ascii_case}
use Rattle.imap_replies.specs.declared.word.ReplyWord.{ReplyWord}
use Rattle.imap_replies.specs.declared.word.ReplyWord.TheVariants as replies
use Rattle.imap_replies.specs.declared.word.EventWord.{EventWord}
use Rattle.imap_replies.specs.declared.word.EventWord.TheVariants as events
use Rattle.imap_replies.specs.declared.word.CodeWord.{CodeWord}
use Rattle.imap_replies.specs.declared.word.CodeWord.TheVariants as code_words
use Rattle.imap_replies.specs.declared.word.ItemWord.{ItemWord}
use Rattle.imap_replies.specs.declared.word.ItemWord.TheVariants as items
use Rattle.imap_replies.specs.declared.word.Status.{Status}
use Rattle.imap_replies.specs.declared.word.Status.TheVariants as statuses
use Rattle.imap_replies.specs.declared.word.NoticeKind.{NoticeKind}
use Rattle.imap_replies.specs.declared.word.NoticeKind.TheVariants as notices

-- after `* `
abbrev pub reply_word : ReplyWord → List ℕ
reply_word replies.Ok = codes "OK"
reply_word replies.No = codes "NO"
reply_word replies.Bad = codes "BAD"
reply_word replies.Bye = codes "BYE"
reply_word replies.Preauth = codes "PREAUTH"
reply_word replies.Capability = codes "CAPABILITY"
reply_word replies.Enabled = codes "ENABLED"
reply_word replies.List = codes "LIST"
reply_word replies.Flags = codes "FLAGS"

abbrev pub listing_words : List ReplyWord
listing_words = replies.Preauth ∷ replies.Capability ∷ replies.Enabled ∷ replies.List ∷ replies.Flags ∷ []

abbrev pub reply_words : List ReplyWord
reply_words = replies.Ok ∷ replies.No ∷ replies.Bad ∷ replies.Bye ∷ listing_words

-- after `* ` and a number
abbrev pub event_word : EventWord → List ℕ
event_word events.Exists = codes "EXISTS"
event_word events.Expunge = codes "EXPUNGE"
event_word events.Fetch = codes "FETCH"

abbrev pub event_words : List EventWord
event_words = events.Exists ∷ events.Expunge ∷ events.Fetch ∷ []

-- after `[`
abbrev pub code_word : CodeWord → List ℕ
code_word code_words.UidNext = codes "UIDNEXT"
code_word code_words.UidValidity = codes "UIDVALIDITY"
code_word code_words.PermanentFlags = codes "PERMANENTFLAGS"
code_word code_words.AppendUid = codes "APPENDUID"
code_word code_words.ReadOnly = codes "READ-ONLY"
code_word code_words.ReadWrite = codes "READ-WRITE"

abbrev pub all_code_words : List CodeWord
all_code_words = code_words.UidNext ∷ code_words.UidValidity ∷ code_words.PermanentFlags ∷ code_words.AppendUid ∷ code_words.ReadOnly ∷ code_words.ReadWrite ∷ []

-- the bytes are the word of this key
abbrev pub spells : {K : Type 0} → (K → List ℕ) → List ℕ → K → Bool
spells word text k = str_eq_ignore_ascii_case text (word k)

-- the key of the word that the bytes are, if they are one
abbrev pub find_reply_word : List ℕ → Option ReplyWord
find_reply_word text = find (spells reply_word text) reply_words

abbrev pub find_listing_word : List ℕ → Option ReplyWord
find_listing_word text = find (spells reply_word text) listing_words

abbrev pub find_event_word : List ℕ → Option EventWord
find_event_word text = find (spells event_word text) event_words

abbrev pub find_code_word : List ℕ → Option CodeWord
find_code_word text = find (spells code_word text) all_code_words

-- of the items of a FETCH reply, with the space after them
abbrev pub item_word : ItemWord → List ℕ
item_word items.Uid = codes "UID "
item_word items.Flags = codes "FLAGS "
item_word items.Size = codes "RFC822.SIZE "
item_word items.Body = codes "BODY[] "
item_word items.Head = codes "BODY[]<0> "

abbrev pub later_item_words : List ItemWord
later_item_words = items.Flags ∷ items.Size ∷ items.Body ∷ items.Head ∷ []

-- of a tagged line
abbrev pub status_word : Status → List ℕ
status_word statuses.Ok = codes "OK"
status_word statuses.No = codes "NO"
status_word statuses.Bad = codes "BAD"

-- of a notice
abbrev pub notice_word : NoticeKind → List ℕ
notice_word notices.Ok = reply_word replies.Ok
notice_word notices.No = reply_word replies.No
notice_word notices.Bad = reply_word replies.Bad
notice_word notices.Bye = reply_word replies.Bye
notice_word notices.Preauth = reply_word replies.Preauth
