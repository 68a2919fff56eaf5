-- How many bytes of a reply stand outside the octets of literals as it is written, at most.
use Rattle.std.proofs.Common.{ℕ, ◌+◌, ◌≤◌, true, List, [], ◌∷◌, length, codes, Option, None, Some, refl, ap, arith}
use Rattle.std.specs.List.{sum_by}
use Rattle.std.proofs.lemmas.List.{length-append, length-map}
use Rattle.wire_reader.specs.declared.side.Speaker.TheVariants.{Replies}
use Rattle.wire_reader.specs.declared.lexical.Phase.TheVariants.{Plain}
use Rattle.wire_reader.specs.Spelling.{Is, crlf, upper}
use Rattle.wire_reader.specs.Lexical.{outside}
use Rattle.wire_reader.proofs.Reader.{Open}
use Rattle.wire_reader.proofs.Part.{Part}
use Rattle.wire_reader.proofs.Fitting.{Fits, outside-le, then_few, then_long, is_few, is_long, is_fits, both_fit, items_fit, number_few}
use Rattle.wire_tokens.specs.Atoms.{is_atom_byte, TagText}
use Rattle.wire_tokens.specs.Numbers.{NumberText, NzText}
use Rattle.wire_tokens.specs.declared.spaced.NameKind.TheVariants as name_kinds
use Rattle.wire_tokens.specs.Room.{most_flags, most_names}
use Rattle.wire_tokens.proofs.TokensFit.{number_fits, nz_fits, names_fit, flags_fit, bracketed_long}
use Rattle.wire_strings.specs.declared.string.WireString.{WireString}
use Rattle.wire_strings.specs.declared.string.WireString.TheVariants as strings
use Rattle.wire_strings.specs.Texts.{LastText, BracketText}
use Rattle.wire_strings.specs.Strings.{NStringText, nstring_at}
use Rattle.wire_strings.specs.Room.{most_astring, most_nstring}
use Rattle.wire_strings.proofs.StringParts.{nstring_part}
use Rattle.wire_strings.proofs.StringsFit.{astring_fits, raw_fits, literal_fits, quoted_fits}
use Rattle.imap_replies.specs.Forms.{AsWritten}
use Rattle.imap_replies.specs.declared.word.ReplyWord.TheVariants as replies
use Rattle.imap_replies.specs.declared.word.EventWord.TheVariants as events
use Rattle.imap_replies.specs.declared.word.CodeWord.TheVariants as words
use Rattle.imap_replies.specs.declared.word.ItemWord.TheVariants as kinds
use Rattle.imap_replies.specs.declared.response.Code.{Code}
use Rattle.imap_replies.specs.declared.response.Code.TheVariants as code
use Rattle.imap_replies.specs.declared.response.ResponseText.{ResponseText}
use Rattle.imap_replies.specs.declared.response.ResponseText.TheVariants as responses
use Rattle.imap_replies.specs.declared.fetch.FetchItem.{FetchItem}
use Rattle.imap_replies.specs.declared.fetch.FetchItem.TheVariants as items
use Rattle.imap_replies.specs.declared.reply.Reply.{Reply}
use Rattle.imap_replies.specs.declared.reply.Reply.TheVariants.{Continue, Tagged, Notice, Capability, Enabled, List as Listed, Flags, Exists, Expunge, Fetch, Other, OtherNumbered}
use Rattle.imap_replies.specs.Words.{code_word, status_word, notice_word, item_word, reply_word, event_word}
use Rattle.imap_replies.specs.Lines.{RestText}
use Rattle.imap_replies.specs.Responses.{CodeIn, ResponseIn}
use Rattle.imap_replies.specs.Listings.{MarkIn}
use Rattle.imap_replies.specs.Fetches.{ItemIn}
use Rattle.imap_replies.specs.Replies.{NamesLine, WrittenReply}
use Rattle.imap_replies.specs.Room.{most_rest, most_line, most_code, most_response, most_item, most_outside}

-- ---- lengths

tag_long : (tag t : List ℕ) → TagText tag t → length t ≤ length tag
tag_long tag t h = omega (arith, ap length h.0)

number_long : (n : ℕ) (t : List ℕ) → NumberText n t → length t ≤ 10
number_long n t h = number_few n t h.0 h.1

nz_long : (n : ℕ) (t : List ℕ) → NzText n t → length t ≤ 10
nz_long n t h = number_few n t h.0 h.2

last_long : (a t : List ℕ) → LastText a t → length t ≤ length a + 2
last_long a t h = omega (arith, ap length h.0, length-append a crlf)

bracket_long : (a t : List ℕ) → BracketText a t → length t ≤ length a + 1
bracket_long a t h = omega (arith, ap length h.0, length-append a (93 ∷ []))

end_long : (t : List ℕ) → Is crlf t → length t ≤ 2
end_long = is_long crlf

space : (t : List ℕ) → Is (32 ∷ []) t → length t ≤ 1
space = is_long (32 ∷ [])

close : (t : List ℕ) → Is (93 ∷ []) t → length t ≤ 1
close = is_long (93 ∷ [])

rest_long : (text : Option (List ℕ)) (t : List ℕ) → RestText crlf LastText text t → length t ≤ most_rest text + 2
rest_long None t h = end_long t h
rest_long (Some a) t h = let l = then_long 1 (length a + 2) space (last_long a) t h in omega (arith, l)

code_rest_long : (text : Option (List ℕ)) (t : List ℕ) → RestText (codes "]") BracketText text t → length t ≤ most_rest text + 1
code_rest_long None t h = close t h
code_rest_long (Some a) t h = let l = then_long 1 (length a + 1) space (bracket_long a) t h in omega (arith, l)

-- ---- response texts

code_long : (c : Code) (t : List ℕ) → CodeIn AsWritten c t → length t ≤ most_code c
code_long (code.UidNext n) t h = then_long (length (code_word words.UidNext)) 12 (is_long (code_word words.UidNext)) (then_long 1 11 space (then_long 10 1 (nz_long n) close)) t h
code_long (code.UidValidity n) t h = then_long (length (code_word words.UidValidity)) 12 (is_long (code_word words.UidValidity)) (then_long 1 11 space (then_long 10 1 (nz_long n) close)) t h
code_long (code.PermanentFlags flags) t h =
    let most = most_flags flags in
    let l = then_long (length (code_word words.PermanentFlags)) (1 + (most + 1)) (is_long (code_word words.PermanentFlags)) (then_long 1 (most + 1) space (then_long most 1 (bracketed_long name_kinds.PermanentFlag flags) close)) t h in
    omega (arith, l)
code_long (code.AppendUid validity uid) t h =
    then_long (length (code_word words.AppendUid)) 23 (is_long (code_word words.AppendUid))
    (then_long 1 22 space (then_long 10 12 (nz_long validity) (then_long 1 11 space (then_long 10 1 (nz_long uid) close)))) t h
code_long code.ReadOnly t h = then_long (length (code_word words.ReadOnly)) 1 (is_long (code_word words.ReadOnly)) close t h
code_long code.ReadWrite t h = then_long (length (code_word words.ReadWrite)) 1 (is_long (code_word words.ReadWrite)) close t h
code_long (code.Other a text) t h = let l = then_long (length a) (most_rest text + 1) (λ u g. omega (arith, ap length g.0)) (code_rest_long text) t h in omega (arith, l)

response_long : (r : ResponseText) (t : List ℕ) → ResponseIn AsWritten r t → length t ≤ most_response r
response_long (responses.Plain a) t h = omega (arith, ap length h.0, length-append a crlf)
response_long (responses.Coded c a) t h =
    let l = then_long 1 (most_code c + (1 + (length a + 2))) (is_long (91 ∷ [])) (then_long (most_code c) (1 + (length a + 2)) (code_long c) (then_long 1 (length a + 2) space (last_long a))) t h in
    omega (arith, l)

-- ---- LIST

mark_fits : (mark : Option ℕ) (t : List ℕ) → MarkIn AsWritten mark t → Fits 4 t
mark_fits None t h = let f = is_fits (codes "NIL") refl t h in record { plain = f.plain; few = (let g = f.few in omega (arith, g)) }
mark_fits (Some c) t h = quoted_fits (c ∷ []) t h

-- ---- FETCH

nstring_fits : (string : Option WireString) (t : List ℕ) → NStringText Replies string t → Fits (most_nstring string) t
nstring_fits None t h =
    let p : Part Replies true (Open is_atom_byte) (NStringText Replies) (nstring_at Replies) = nstring_part in
    record { plain = (p.leads refl).after None t h; few = omega (arith, outside-le Plain t, length-map t upper, ap length h) }
nstring_fits (Some (strings.Quoted raw)) t h = raw_fits raw t h
nstring_fits (Some (strings.Literal octets)) t h = literal_fits Replies octets t h

item_fits : (item : FetchItem) (t : List ℕ) → ItemIn AsWritten item t → Fits (most_item item) t
item_fits (items.Uid n) t h = both_fit (length (item_word kinds.Uid)) 10 (is_fits (item_word kinds.Uid) refl) (nz_fits n) t h
item_fits (items.Flags flags) t h = both_fit (length (item_word kinds.Flags)) (most_flags flags) (is_fits (item_word kinds.Flags) refl) (flags_fit flags) t h
item_fits (items.Size n) t h = both_fit (length (item_word kinds.Size)) 10 (is_fits (item_word kinds.Size) refl) (number_fits n) t h
item_fits (items.Body string) t h = both_fit (length (item_word kinds.Body)) (most_nstring string) (is_fits (item_word kinds.Body) refl) (nstring_fits string) t h
item_fits (items.Head string) t h = both_fit (length (item_word kinds.Head)) (most_nstring string) (is_fits (item_word kinds.Head) refl) (nstring_fits string) t h

-- ---- replies

-- by its length
by_length : (most : ℕ) (t : List ℕ) → length t ≤ most → outside t ≤ most
by_length most t le = omega (arith, le, outside-le Plain t)

star : (t : List ℕ) → Is (codes "* ") t → length t ≤ 2
star = is_long (codes "* ")

star_fits : (t : List ℕ) → Is (codes "* ") t → Fits 2 t
star_fits = is_fits (codes "* ") refl

space_fits : (t : List ℕ) → Is (32 ∷ []) t → Fits 1 t
space_fits = is_fits (32 ∷ []) refl

names_long : (names : List (List ℕ)) (t : List ℕ) → NamesLine names t → outside t ≤ most_names names + 2
names_long names t h = then_few (most_names names) 2 (names_fit names) (is_few crlf) t h

line_few : (names : Option (List (List ℕ))) (t : List ℕ) → RestText crlf NamesLine names t → outside t ≤ most_line names + 2
line_few None t h = is_few crlf t h
line_few (Some names) t h = let l = then_few 1 (most_names names + 2) space_fits (names_long names) t h in omega (arith, l)

pub reply_few : (reply : Reply) (t : List ℕ) → WrittenReply reply t → outside t ≤ most_outside reply
reply_few (Continue a) t h = let l = then_long 2 (length a + 2) (is_long (codes "+ ")) (last_long a) t h in by_length _ t (omega (arith, l))
reply_few (Tagged tag status a) t h =
    let word = status_word status in
    let l = then_long (length tag) (1 + (length word + (1 + most_response a))) (tag_long tag) (then_long 1 (length word + (1 + most_response a)) space (then_long (length word) (1 + most_response a) (is_long word) (then_long 1 (most_response a) space (response_long a)))) t h in
    by_length _ t (omega (arith, l))
reply_few (Notice kind a) t h =
    let word = notice_word kind in
    let l = then_long 2 (length word + (1 + most_response a)) star (then_long (length word) (1 + most_response a) (is_long word) (then_long 1 (most_response a) space (response_long a))) t h in
    by_length _ t (omega (arith, l))
reply_few (Capability names) t h =
    let word = reply_word replies.Capability in
    let l = then_few 2 (length word + (most_line names + 2)) star_fits (then_few (length word) (most_line names + 2) (is_fits word refl) (line_few names)) t h in omega (arith, l)
reply_few (Enabled names) t h =
    let word = reply_word replies.Enabled in
    let l = then_few 2 (length word + (most_line names + 2)) star_fits (then_few (length word) (most_line names + 2) (is_fits word refl) (line_few names)) t h in omega (arith, l)
reply_few (Listed attributes delimiter name) t h =
    let word = reply_word replies.List in
    let all = most_flags attributes in
    let last = most_astring name + 2 in
    let l = then_few 2 (length word + (1 + (all + (1 + (4 + (1 + last)))))) star_fits
    (then_few (length word) (1 + (all + (1 + (4 + (1 + last))))) (is_fits word refl)
    (then_few 1 (all + (1 + (4 + (1 + last)))) space_fits
    (then_few all (1 + (4 + (1 + last))) (flags_fit attributes)
    (then_few 1 (4 + (1 + last)) space_fits
    (then_few 4 (1 + last) (mark_fits delimiter) (then_few 1 last space_fits (then_few (most_astring name) 2 (astring_fits name) (is_few crlf)))))))) t h in
    omega (arith, l)
reply_few (Flags set) t h =
    let word = reply_word replies.Flags in
    let most = most_flags set in
    let l = then_few 2 (length word + (1 + (most + 2))) star_fits (then_few (length word) (1 + (most + 2)) (is_fits word refl) (then_few 1 (most + 2) space_fits (then_few most 2 (flags_fit set) (is_few crlf)))) t h in omega (arith, l)
reply_few (Exists n) t h =
    let word = event_word events.Exists in
    let l = then_long 2 (10 + (1 + (length word + 2))) star (then_long 10 (1 + (length word + 2)) (number_long n) (then_long 1 (length word + 2) space (then_long (length word) 2 (is_long word) end_long))) t h in by_length _ t (omega (arith, l))
reply_few (Expunge n) t h =
    let word = event_word events.Expunge in
    let l = then_long 2 (10 + (1 + (length word + 2))) star (then_long 10 (1 + (length word + 2)) (nz_long n) (then_long 1 (length word + 2) space (then_long (length word) 2 (is_long word) end_long))) t h in by_length _ t (omega (arith, l))
reply_few (Fetch n list) t h =
    let word = event_word events.Fetch in
    let all = sum_by (λ item. most_item item + 1) list in
    let l = then_few 2 (10 + (1 + (length word + (2 + (all + (1 + 2)))))) star_fits
    (then_few 10 (1 + (length word + (2 + (all + (1 + 2))))) (nz_fits n)
    (then_few 1 (length word + (2 + (all + (1 + 2)))) space_fits
    (then_few (length word) (2 + (all + (1 + 2))) (is_fits word refl)
    (then_few 2 (all + (1 + 2)) (is_fits (codes " (") refl)
    (then_few all (1 + 2) (items_fit 32 (ItemIn AsWritten) most_item refl item_fits list) (then_few 1 2 (is_fits (codes ")") refl) (is_few crlf))))))) t h in
    omega (arith, l)
reply_few (Other word a) t h =
    let l = then_long 2 (length word + (most_rest a + 2)) star (then_long (length word) (most_rest a + 2) (λ u g. omega (arith, ap length g.0)) (rest_long a)) t h in by_length _ t (omega (arith, l))
reply_few (OtherNumbered n event a) t h =
    let l = then_long 2 (10 + (1 + (length event + (most_rest a + 2)))) star
    (then_long 10 (1 + (length event + (most_rest a + 2))) (number_long n) (then_long 1 (length event + (most_rest a + 2)) space (then_long (length event) (most_rest a + 2) (λ u g. omega (arith, ap length g.0)) (rest_long a)))) t h in
    by_length _ t (omega (arith, l))
