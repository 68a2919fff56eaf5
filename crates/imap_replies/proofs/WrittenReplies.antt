-- What is written is a spelling.
use Rattle.std.proofs.Common.{◌≡◌, ℕ, List, [], ◌∷◌, codes, map, Option, None, Some, refl}
use Rattle.wire_reader.specs.Spelling.{◌⨾◌, Is, Word, ItemsText, upper}
use Rattle.imap_replies.specs.Forms.{AsRead, AsWritten}
use Rattle.imap_replies.specs.declared.word.NoticeKind.{NoticeKind}
use Rattle.imap_replies.specs.declared.word.NoticeKind.TheVariants as notices
use Rattle.imap_replies.specs.declared.word.Status.{Status}
use Rattle.imap_replies.specs.declared.word.Status.TheVariants as statuses
use Rattle.imap_replies.specs.declared.response.Code.{Code}
use Rattle.imap_replies.specs.declared.response.Code.TheVariants as code
use Rattle.imap_replies.specs.declared.response.ResponseText.{ResponseText}
use Rattle.imap_replies.specs.declared.response.ResponseText.TheVariants as responses
use Rattle.imap_replies.specs.declared.fetch.FetchItem.{FetchItem}
use Rattle.imap_replies.specs.declared.fetch.FetchItem.TheVariants as items
use Rattle.imap_replies.specs.declared.reply.Reply.{Reply}
use Rattle.imap_replies.specs.declared.reply.Reply.TheVariants.{Continue, Tagged, Notice, Capability, Enabled, List as Listed, Flags, Exists, Expunge, Fetch, Other, OtherNumbered}
use Rattle.imap_replies.specs.Words.{status_word, notice_word}
use Rattle.imap_replies.specs.Responses.{CodeIn, ResponseIn}
use Rattle.imap_replies.specs.Fetches.{ItemIn, FetchIn}
use Rattle.imap_replies.specs.Listings.{MarkIn}
use Rattle.imap_replies.specs.Replies.{ReplyText, WrittenReply}
use Rattle.wire_reader.proofs.Written.{on_first, on_second, in_any_case}

-- a word that a text begins with
begins : {Q : List ℕ → Type 0} (w : List ℕ) → map upper w ≡ w → (t : List ℕ) → (Is w ⨾ Q) t → (Word w ⨾ Q) t
begins w up t h = on_first (in_any_case w up) t h

upper_status : (k : Status) → map upper (status_word k) ≡ status_word k
upper_status statuses.Ok = refl
upper_status statuses.No = refl
upper_status statuses.Bad = refl

upper_notice : (k : NoticeKind) → map upper (notice_word k) ≡ notice_word k
upper_notice notices.Ok = refl
upper_notice notices.No = refl
upper_notice notices.Bad = refl
upper_notice notices.Bye = refl
upper_notice notices.Preauth = refl

code_spelled : (c : Code) (t : List ℕ) → CodeIn AsWritten c t → CodeIn AsRead c t
code_spelled (code.UidNext n) t h = begins (codes "UIDNEXT") refl t h
code_spelled (code.UidValidity n) t h = begins (codes "UIDVALIDITY") refl t h
code_spelled (code.PermanentFlags flags) t h = begins (codes "PERMANENTFLAGS") refl t h
code_spelled (code.AppendUid validity uid) t h = begins (codes "APPENDUID") refl t h
code_spelled code.ReadOnly t h = begins (codes "READ-ONLY") refl t h
code_spelled code.ReadWrite t h = begins (codes "READ-WRITE") refl t h
code_spelled (code.Other a text) t h = h

response_spelled : (r : ResponseText) (t : List ℕ) → ResponseIn AsWritten r t → ResponseIn AsRead r t
response_spelled (responses.Plain text) t h = h
response_spelled (responses.Coded c text) t h = on_second (on_first (code_spelled c)) t h

item_spelled : (i : FetchItem) (t : List ℕ) → ItemIn AsWritten i t → ItemIn AsRead i t
item_spelled (items.Uid n) t h = begins (codes "UID ") refl t h
item_spelled (items.Flags set) t h = begins (codes "FLAGS ") refl t h
item_spelled (items.Size n) t h = begins (codes "RFC822.SIZE ") refl t h
item_spelled (items.Body string) t h = begins (codes "BODY[] ") refl t h
item_spelled (items.Head string) t h = begins (codes "BODY[]<0> ") refl t h

items_spelled : (list : List FetchItem) (t : List ℕ) → ItemsText 32 (ItemIn AsWritten) list t → ItemsText 32 (ItemIn AsRead) list t
items_spelled [] t h = h
items_spelled (i ∷ []) t h = item_spelled i t h
items_spelled (i ∷ j ∷ others) t h =
    let s = h.second in
    record { front = h.front; back = h.back; parts = h.parts; first = item_spelled i h.front h.first; second = record { front = s.front; back = s.back; parts = s.parts; first = s.first; second = items_spelled (j ∷ others) s.back s.second } }

fetch_spelled : (list : List FetchItem) (t : List ℕ) → FetchIn AsWritten list t → FetchIn AsRead list t
fetch_spelled list t h = on_second (on_first (items_spelled list)) t h

mark_spelled : (m : Option ℕ) (t : List ℕ) → MarkIn AsWritten m t → MarkIn AsRead m t
mark_spelled None t h = in_any_case (codes "NIL") refl t h
mark_spelled (Some c) t h = h

pub written_spelled : (v : Reply) (t : List ℕ) → WrittenReply v t → ReplyText v t
written_spelled (Continue text) t h = h
written_spelled (Tagged tag status text) t h =
    on_second (on_second (λ u g. begins (status_word status) (upper_status status) u (on_second (on_second (response_spelled text)) u g))) t h
written_spelled (Notice kind text) t h = on_second (λ u g. begins (notice_word kind) (upper_notice kind) u (on_second (on_second (response_spelled text)) u g)) t h
written_spelled (Capability names) t h = on_second (begins (codes "CAPABILITY") refl) t h
written_spelled (Enabled names) t h = on_second (begins (codes "ENABLED") refl) t h
written_spelled (Listed attributes delimiter name) t h =
    on_second (λ u g. begins (codes "LIST") refl u (on_second (on_second (on_second (on_second (on_first (mark_spelled delimiter))))) u g)) t h
written_spelled (Flags set) t h = on_second (begins (codes "FLAGS") refl) t h
written_spelled (Exists n) t h = on_second (on_second (on_second (begins (codes "EXISTS") refl))) t h
written_spelled (Expunge n) t h = on_second (on_second (on_second (begins (codes "EXPUNGE") refl))) t h
written_spelled (Fetch n list) t h = on_second (on_second (on_second (λ u g. begins (codes "FETCH") refl u (on_second (fetch_spelled list) u g)))) t h
written_spelled (Other word text) t h = h
written_spelled (OtherNumbered n event text) t h = h
