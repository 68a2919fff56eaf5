-- What follows `* ` as a part of a grammar.
use Rattle.std.proofs.Common.{◌≡◌, ℕ, ◌<◌, true, false, eqb, ◌||◌, List, ◌∷◌, ◌++◌, Option, refl, sym, ap, subst, ◌∙◌}
use Rattle.wire_reader.specs.declared.side.Speaker.TheVariants.{Replies}
use Rattle.wire_reader.specs.Spelling.{◌⨾◌, ThenBy, Is, Word, crlf}
use Rattle.wire_reader.specs.Reading.{stuck, seq, skip, keep, both, byte_at, crlf_at}
use Rattle.wire_reader.proofs.Reader.{Closed, Open, stops}
use Rattle.wire_reader.proofs.Parts.{after_closed}
use Rattle.wire_reader.proofs.Follow.{after, starts_byte, starts_seq, starts_mapped}
use Rattle.wire_reader.proofs.Part.{Part, last_part, same_part, skip_part, keep_part, seq_part, byte_part, crlf_part}
use Rattle.wire_tokens.specs.Atoms.{is_atom_byte}
use Rattle.wire_tokens.specs.Numbers.{NumberText, NzText}
use Rattle.wire_strings.specs.Texts.{LastText, last_text_at}
use Rattle.wire_tokens.specs.Names.{names_at}
use Rattle.wire_tokens.specs.FlagLists.{FlagsText, flags_at}
use Rattle.wire_strings.specs.Strings.{astring_at}
use Rattle.wire_strings.proofs.TextParts.{last_text_part}
use Rattle.wire_tokens.proofs.NameParts.{names_part}
use Rattle.wire_tokens.proofs.FlagParts.{flags_part}
use Rattle.imap_replies.specs.declared.word.ReplyWord.{ReplyWord}
use Rattle.imap_replies.specs.declared.word.ReplyWord.TheVariants as words
use Rattle.imap_replies.specs.declared.word.EventWord.TheVariants as event_words
use Rattle.imap_replies.specs.declared.word.NoticeKind.{NoticeKind}
use Rattle.imap_replies.specs.declared.word.NoticeKind.TheVariants as notices
use Rattle.imap_replies.specs.declared.head.Head.{Head}
use Rattle.imap_replies.specs.declared.head.Head.TheVariants as heads
use Rattle.imap_replies.specs.declared.event.Event.{Event}
use Rattle.imap_replies.specs.declared.event.Event.TheVariants as events
use Rattle.imap_replies.specs.declared.response.ResponseText.{ResponseText}
use Rattle.imap_replies.specs.declared.reply.Reply.{Reply}
use Rattle.imap_replies.specs.declared.reply.Reply.TheVariants.{Continue, Tagged, Notice, Capability, Enabled, List as Listed, Flags, Exists, Expunge, Fetch, Other, OtherNumbered}
use Rattle.imap_replies.specs.Words.{reply_word, event_word, notice_word}
use Rattle.imap_replies.specs.Heads.{HeadText, EventText, head_at, event_at}
use Rattle.imap_replies.specs.Lines.{RestText}
use Rattle.imap_replies.specs.Responses.{sp, ResponseLine, response_at}
use Rattle.imap_replies.specs.Listings.{ListLine, mark_at, list_at}
use Rattle.imap_replies.specs.Fetches.{FetchLine, item_list_at, fetch_at}
use Rattle.imap_replies.specs.Replies.{NamesLine, OtherWordText, OtherEventText}
use Rattle.imap_replies.specs.ReplyReading.{notice, capability, enabled, listed, flags, exists, expunge, fetch, other, other_numbered, rest_line_at, names_line_at, flags_line_at, notice_at, known_at, event_line_at, numbered_at, after_head}
use Rattle.imap_replies.proofs.Made.{Made, made_part, mapped_follows, rest_part, rest_follows}
use Rattle.imap_replies.proofs.HeadParts.{head_part}
use Rattle.imap_replies.proofs.EventParts.{event_part}
use Rattle.imap_replies.proofs.ResponseParts.{response_part}
use Rattle.imap_replies.proofs.FetchParts.{fetch_part}
use Rattle.imap_replies.proofs.ListParts.{ListedLine, list_part}

-- ---- the ends of lines

abbrev Rest : Option (List ℕ) → List ℕ → Type 0
Rest = RestText crlf LastText

rest_line_part : Part Replies false Closed Rest rest_line_at
unfolding rest_line_at
rest_line_part = rest_part 13 crlf refl refl (last_part crlf_part) last_text_part

names_line_part : Part Replies true Closed (RestText crlf NamesLine) names_line_at
unfolding names_line_at
names_line_part = rest_part 13 crlf refl refl crlf_part (keep_part names_part crlf_part (after (λ b. is_atom_byte b || eqb b 32) 13 refl (starts_seq (λ _. byte_at 10) (starts_byte 13))))

abbrev FlagsLine : List (List ℕ) → List ℕ → Type 0
FlagsLine set = Is sp ⨾ FlagsText set ⨾ Is crlf

flags_line_part : Part Replies true Closed FlagsLine flags_line_at
unfolding flags_line_at
flags_line_part = skip_part (byte_part 32 refl) (keep_part flags_part crlf_part (after_closed crlf_at)) (after_closed (keep flags_at crlf_at))

abbrev Reported : ResponseText → List ℕ → Type 0
Reported r = Is sp ⨾ ResponseLine r

reported_part : Part Replies false Closed Reported (skip (byte_at 32) response_at)
reported_part = skip_part (byte_part 32 refl) response_part (after_closed response_at)

-- ---- after a word

abbrev KnownTail : ReplyWord → Reply → List ℕ → Type 0
KnownTail words.Ok = Made (notice notices.Ok) Reported
KnownTail words.No = Made (notice notices.No) Reported
KnownTail words.Bad = Made (notice notices.Bad) Reported
KnownTail words.Bye = Made (notice notices.Bye) Reported
KnownTail words.Preauth = Made (notice notices.Preauth) Reported
KnownTail words.Capability = Made capability (RestText crlf NamesLine)
KnownTail words.Enabled = Made enabled (RestText crlf NamesLine)
KnownTail words.List = Made listed ListedLine
KnownTail words.Flags = Made flags FlagsLine

known_part : (w : ReplyWord) → Part Replies false Closed (KnownTail w) (known_at w)
unfolding known_at
known_part words.Ok = made_part (notice notices.Ok) reported_part
known_part words.No = made_part (notice notices.No) reported_part
known_part words.Bad = made_part (notice notices.Bad) reported_part
known_part words.Bye = made_part (notice notices.Bye) reported_part
known_part words.Preauth = made_part (notice notices.Preauth) reported_part
known_part words.Capability = made_part capability (last_part names_line_part)
known_part words.Enabled = made_part enabled (last_part names_line_part)
known_part words.List = made_part listed (last_part list_part)
known_part words.Flags = made_part flags (last_part flags_line_part)

reported_follows : (kind : NoticeKind) (xs : List ℕ) → stops (Open is_atom_byte) xs ≡ false → notice_at kind xs ≡ stuck xs
reported_follows kind = after is_atom_byte 32 refl (starts_mapped (notice kind) (starts_seq (λ _. response_at) (starts_byte 32)))

names_follows : (xs : List ℕ) → stops (Open is_atom_byte) xs ≡ false → names_line_at xs ≡ stuck xs
unfolding names_line_at
names_follows = rest_follows is_atom_byte 13 crlf_at (keep names_at crlf_at) refl refl

line_follows : (xs : List ℕ) → stops (Open is_atom_byte) xs ≡ false → rest_line_at xs ≡ stuck xs
unfolding rest_line_at
line_follows = rest_follows is_atom_byte 13 crlf_at last_text_at refl refl

known_follows : (w : ReplyWord) (xs : List ℕ) → stops (Open is_atom_byte) xs ≡ false → known_at w xs ≡ stuck xs
unfolding known_at list_at flags_line_at
known_follows words.Ok xs s = reported_follows notices.Ok xs s
known_follows words.No xs s = reported_follows notices.No xs s
known_follows words.Bad xs s = reported_follows notices.Bad xs s
known_follows words.Bye xs s = reported_follows notices.Bye xs s
known_follows words.Preauth xs s = reported_follows notices.Preauth xs s
known_follows words.Capability xs s = mapped_follows names_line_at capability xs (names_follows xs s)
known_follows words.Enabled xs s = mapped_follows names_line_at enabled xs (names_follows xs s)
known_follows words.List xs s = mapped_follows list_at listed xs (after is_atom_byte 32 refl (starts_seq (λ _. both flags_at (skip (byte_at 32) (both mark_at (skip (byte_at 32) (keep (astring_at Replies) crlf_at))))) (starts_byte 32)) xs s)
known_follows words.Flags xs s = mapped_follows flags_line_at flags xs (after is_atom_byte 32 refl (starts_seq (λ _. keep flags_at crlf_at) (starts_byte 32)) xs s)

-- ---- after a number

abbrev EventTail : ℕ → Event → Reply → List ℕ → Type 0
EventTail n events.Exists = Made (exists n) (λ _. Is crlf)
EventTail n (events.Expunge m) = Made (expunge m) (λ _. Is crlf)
EventTail n (events.Fetch m) = Made (fetch m) FetchLine
EventTail n (events.Other a) = Made (other_numbered n a) Rest

event_line_part : (n : ℕ) (e : Event) → Part Replies false Closed (EventTail n e) (event_line_at n e)
unfolding event_line_at
event_line_part n events.Exists = made_part (exists n) (last_part crlf_part)
event_line_part n (events.Expunge m) = made_part (expunge m) (last_part crlf_part)
event_line_part n (events.Fetch m) = made_part (fetch m) (last_part fetch_part)
event_line_part n (events.Other a) = made_part (other_numbered n a) rest_line_part

event_follows : (n : ℕ) (e : Event) (xs : List ℕ) → stops (Open is_atom_byte) xs ≡ false → event_line_at n e xs ≡ stuck xs
unfolding event_line_at fetch_at
event_follows n events.Exists xs s = mapped_follows crlf_at (exists n) xs (after is_atom_byte 13 refl (starts_seq (λ _. byte_at 10) (starts_byte 13)) xs s)
event_follows n (events.Expunge m) xs s = mapped_follows crlf_at (expunge m) xs (after is_atom_byte 13 refl (starts_seq (λ _. byte_at 10) (starts_byte 13)) xs s)
event_follows n (events.Fetch m) xs s = mapped_follows fetch_at (fetch m) xs (after is_atom_byte 32 refl (starts_seq (λ _. skip (byte_at 40) (keep item_list_at (skip (byte_at 41) crlf_at))) (starts_byte 32)) xs s)
event_follows n (events.Other a) xs s = mapped_follows rest_line_at (other_numbered n a) xs (line_follows xs s)

abbrev Numbered : ℕ → Reply → List ℕ → Type 0
Numbered n v = Is sp ⨾ ThenBy (EventText n) (EventTail n) v

numbered_part : (n : ℕ) → Part Replies false Closed (Numbered n) (numbered_at n)
unfolding numbered_at
numbered_part n = skip_part (byte_part 32 refl) (seq_part (event_part n) (event_line_part n) (event_follows n)) (after_closed (seq (event_at n) (event_line_at n)))

numbered_follows : (n : ℕ) (xs : List ℕ) → stops (Open is_atom_byte) xs ≡ false → numbered_at n xs ≡ stuck xs
unfolding numbered_at
numbered_follows n = after is_atom_byte 32 refl (starts_seq (λ _. seq (event_at n) (event_line_at n)) (starts_byte 32))

-- ---- the line after `* `

abbrev Tail : Head → Reply → List ℕ → Type 0
Tail (heads.Number n) = Numbered n
Tail (heads.Known w) = KnownTail w
Tail (heads.Other a) = Made (other a) Rest

tail_part : (h : Head) → Part Replies false Closed (Tail h) (after_head h)
tail_part (heads.Number n) = numbered_part n
tail_part (heads.Known w) = known_part w
tail_part (heads.Other a) = made_part (other a) rest_line_part

tail_follows : (h : Head) (xs : List ℕ) → stops (Open is_atom_byte) xs ≡ false → after_head h xs ≡ stuck xs
tail_follows (heads.Number n) xs s = numbered_follows n xs s
tail_follows (heads.Known w) xs s = known_follows w xs s
tail_follows (heads.Other a) xs s = mapped_follows rest_line_at (other a) xs (line_follows xs s)

-- a reply after its `* `
abbrev pub Body : Reply → List ℕ → Type 0
Body (Continue text) t = ⊥
Body (Tagged tag status text) t = ⊥
Body (Notice kind text) t = (Word (notice_word kind) ⨾ Is sp ⨾ ResponseLine text) t
Body (Capability names) t = (Word (reply_word words.Capability) ⨾ RestText crlf NamesLine names) t
Body (Enabled names) t = (Word (reply_word words.Enabled) ⨾ RestText crlf NamesLine names) t
Body (Listed attributes delimiter name) t = (Word (reply_word words.List) ⨾ ListLine attributes delimiter name) t
Body (Flags set) t = (Word (reply_word words.Flags) ⨾ FlagsLine set) t
Body (Exists n) t = (NumberText n ⨾ Is sp ⨾ Word (event_word event_words.Exists) ⨾ Is crlf) t
Body (Expunge n) t = (NzText n ⨾ Is sp ⨾ Word (event_word event_words.Expunge) ⨾ Is crlf) t
Body (Fetch n items) t = (NzText n ⨾ Is sp ⨾ Word (event_word event_words.Fetch) ⨾ FetchLine items) t
Body (Other word text) t = (OtherWordText word ⨾ Rest text) t
Body (OtherNumbered n event text) t = (NumberText n ⨾ Is sp ⨾ OtherEventText event ⨾ Rest text) t

known_join : (w : ReplyWord) (v : Reply) (x y : List ℕ) → Word (reply_word w) x → KnownTail w v y → Body v (x ++ y)
known_join words.Ok v x y h m = subst (λ (r : Reply). Body r (x ++ y)) (sym m.is) (record { front = x; back = y; parts = refl; first = h; second = m.spelled })
known_join words.No v x y h m = subst (λ (r : Reply). Body r (x ++ y)) (sym m.is) (record { front = x; back = y; parts = refl; first = h; second = m.spelled })
known_join words.Bad v x y h m = subst (λ (r : Reply). Body r (x ++ y)) (sym m.is) (record { front = x; back = y; parts = refl; first = h; second = m.spelled })
known_join words.Bye v x y h m = subst (λ (r : Reply). Body r (x ++ y)) (sym m.is) (record { front = x; back = y; parts = refl; first = h; second = m.spelled })
known_join words.Preauth v x y h m = subst (λ (r : Reply). Body r (x ++ y)) (sym m.is) (record { front = x; back = y; parts = refl; first = h; second = m.spelled })
known_join words.Capability v x y h m = subst (λ (r : Reply). Body r (x ++ y)) (sym m.is) (record { front = x; back = y; parts = refl; first = h; second = m.spelled })
known_join words.Enabled v x y h m = subst (λ (r : Reply). Body r (x ++ y)) (sym m.is) (record { front = x; back = y; parts = refl; first = h; second = m.spelled })
known_join words.List v x y h m = subst (λ (r : Reply). Body r (x ++ y)) (sym m.is) (record { front = x; back = y; parts = refl; first = h; second = m.spelled })
known_join words.Flags v x y h m = subst (λ (r : Reply). Body r (x ++ y)) (sym m.is) (record { front = x; back = y; parts = refl; first = h; second = m.spelled })

-- a number, a space, and two texts
chain : {P Q R : List ℕ → Type 0} (num x y : List ℕ) → P num → Q x → R y → (P ⨾ Is sp ⨾ Q ⨾ R) (num ++ (32 ∷ (x ++ y)))
chain num x y p q r = record { front = num; back = 32 ∷ (x ++ y); parts = refl; first = p; second = record { front = sp; back = x ++ y; parts = refl; first = refl; second = record { front = x; back = y; parts = refl; first = q; second = r } } }

nz_of : (m n : ℕ) (t : List ℕ) → m ≡ n → 0 < n → NumberText n t → NzText m t
nz_of m n t e pos h = subst (λ (k : ℕ). NzText k t) (sym e) (h.0, pos, h.1)

event_join : (n : ℕ) (e : Event) (v : Reply) (num x y : List ℕ) → NumberText n num → EventText n e x → EventTail n e v y → Body v (num ++ (32 ∷ (x ++ y)))
event_join n events.Exists v num x y k h m = subst (λ (r : Reply). Body r (num ++ (32 ∷ (x ++ y)))) (sym m.is) (chain num x y k h m.spelled)
event_join n (events.Expunge a) v num x y k h m = subst (λ (r : Reply). Body r (num ++ (32 ∷ (x ++ y)))) (sym m.is) (chain num x y (nz_of a n num h.0 h.1 k) h.2 m.spelled)
event_join n (events.Fetch a) v num x y k h m = subst (λ (r : Reply). Body r (num ++ (32 ∷ (x ++ y)))) (sym m.is) (chain num x y (nz_of a n num h.0 h.1 k) h.2 m.spelled)
event_join n (events.Other a) v num x y k h m = subst (λ (r : Reply). Body r (num ++ (32 ∷ (x ++ y)))) (sym m.is) (chain num x y k h m.spelled)

join : (h : Head) (v : Reply) (x y : List ℕ) → HeadText h x → Tail h v y → Body v (x ++ y)
join (heads.Number n) v x y h m =
    let j = m.second in
    subst (Body v)
    (sym (ap (λ (z : List ℕ). x ++ z) (m.parts ∙ ap (λ (z : List ℕ). z ++ m.back) m.first ∙ ap (λ (z : List ℕ). sp ++ z) j.parts)))
    (event_join n j.value v x j.front j.back h j.first j.second)
join (heads.Known w) v x y h m = known_join w v x y h m
join (heads.Other a) v x y h m = subst (λ (r : Reply). Body r (x ++ y)) (sym m.is) (record { front = x; back = y; parts = refl; first = h; second = m.spelled })

abbrev Whole : Reply → List ℕ → Type 0
Whole = ThenBy HeadText Tail

known_split : {P : List ℕ → Type 0} (w : ReplyWord) (v : Reply) (t : List ℕ) → ((y : List ℕ) → P y → KnownTail w v y) → (Word (reply_word w) ⨾ P) t → Whole v t
known_split w v t made h = record { value = heads.Known w; front = h.front; back = h.back; parts = h.parts; first = h.first; second = made h.back h.second }

event_split : {P Q R : List ℕ → Type 0} (n : ℕ) (e : Event) (v : Reply) (t : List ℕ) → ((x : List ℕ) → P x → NumberText n x) → ((x y : List ℕ) → P x → Q y → EventText n e y) → ((y : List ℕ) → R y → EventTail n e v y) → (P ⨾ Is sp ⨾ Q ⨾ R) t → Whole v t
event_split n e v t number event made h =
    let s = h.second in
    let w = s.second in
    record {
      value = heads.Number n;
      front = h.front;
      back = h.back;
      parts = h.parts;
      first = number h.front h.first;
      second = record { front = s.front; back = s.back; parts = s.parts; first = s.first; second = record { value = e; front = w.front; back = w.back; parts = w.parts; first = event h.front w.front h.first w.first; second = made w.back w.second } };
    }

split : (v : Reply) (t : List ℕ) → Body v t → Whole v t
split (Continue text) t h = absurd h
split (Tagged tag status text) t h = absurd h
split (Notice notices.Ok text) t h = known_split words.Ok (Notice notices.Ok text) t (λ y p. record { value = text; is = refl; spelled = p }) h
split (Notice notices.No text) t h = known_split words.No (Notice notices.No text) t (λ y p. record { value = text; is = refl; spelled = p }) h
split (Notice notices.Bad text) t h = known_split words.Bad (Notice notices.Bad text) t (λ y p. record { value = text; is = refl; spelled = p }) h
split (Notice notices.Bye text) t h = known_split words.Bye (Notice notices.Bye text) t (λ y p. record { value = text; is = refl; spelled = p }) h
split (Notice notices.Preauth text) t h = known_split words.Preauth (Notice notices.Preauth text) t (λ y p. record { value = text; is = refl; spelled = p }) h
split (Capability names) t h = known_split words.Capability (Capability names) t (λ y p. record { value = names; is = refl; spelled = p }) h
split (Enabled names) t h = known_split words.Enabled (Enabled names) t (λ y p. record { value = names; is = refl; spelled = p }) h
split (Listed attributes delimiter name) t h = known_split words.List (Listed attributes delimiter name) t (λ y p. record { value = (attributes, (delimiter, name)); is = refl; spelled = p }) h
split (Flags set) t h = known_split words.Flags (Flags set) t (λ y p. record { value = set; is = refl; spelled = p }) h
split (Exists n) t h = event_split n events.Exists (Exists n) t (λ x p. p) (λ x y p q. q) (λ y r. record { value = tt; is = refl; spelled = r }) h
split (Expunge n) t h = event_split n (events.Expunge n) (Expunge n) t (λ x p. (p.0, p.2)) (λ x y p q. (refl, p.1, q)) (λ y r. record { value = tt; is = refl; spelled = r }) h
split (Fetch n items) t h = event_split n (events.Fetch n) (Fetch n items) t (λ x p. (p.0, p.2)) (λ x y p q. (refl, p.1, q)) (λ y r. record { value = items; is = refl; spelled = r }) h
split (Other word text) t h = record { value = heads.Other word; front = h.front; back = h.back; parts = h.parts; first = h.first; second = record { value = text; is = refl; spelled = h.second } }
split (OtherNumbered n event text) t h = event_split n (events.Other event) (OtherNumbered n event text) t (λ x p. p) (λ x y p q. q) (λ y r. record { value = text; is = refl; spelled = r }) h

pub body_part : Part Replies false Closed Body (seq head_at after_head)
body_part = same_part
    (λ v t h. subst (Body v) (sym h.parts) (join h.value v h.front h.back h.first h.second))
    split
    (seq_part head_part tail_part tail_follows)
