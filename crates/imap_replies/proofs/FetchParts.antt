-- What a message has, as parts of a grammar.
use Rattle.std.proofs.Common.{◌≡◌, ℕ, Bool, true, eqb, ◌||◌, List, [], ◌∷◌, ◌++◌, Result, refl, sym, ap, subst, ◌∙◌, inl, inr}
use Rattle.std.proofs.Math.Path.{fun_ext}
use Rattle.std.proofs.lemmas.Bool.{cases_Bool}
use Rattle.wire_reader.specs.declared.side.Speaker.{Speaker}
use Rattle.wire_reader.specs.declared.side.Speaker.TheVariants.{Replies}
use Rattle.wire_reader.specs.declared.stop.Stop.{Stop}
use Rattle.wire_reader.specs.Spelling.{◌⨾◌, ThenBy, Is, Word, ItemsText, is_digit, crlf}
use Rattle.wire_reader.specs.Reading.{skip, keep, byte_at, crlf_at}
use Rattle.wire_reader.specs.Listing.{ended}
use Rattle.wire_reader.proofs.Reader.{Closed, Open}
use Rattle.wire_reader.proofs.Parts.{after_closed}
use Rattle.wire_reader.proofs.Words.{Among}
use Rattle.wire_reader.proofs.Follow.{after, starts_byte, starts_seq}
use Rattle.wire_reader.proofs.Items.{with_sep}
use Rattle.wire_reader.proofs.Part.{Part, same_part, skip_part, keep_part, seq_part, byte_part, crlf_part}
use Rattle.wire_reader.proofs.PartEnded.{ended_part}
use Rattle.wire_reader.proofs.PartItems.{items_part}
use Rattle.wire_reader.proofs.PartWords.{IsKeyword, keys_part}
use Rattle.wire_tokens.specs.Atoms.{is_atom_byte}
use Rattle.wire_tokens.specs.Numbers.{NumberText, NzText}
use Rattle.wire_strings.specs.Strings.{NStringText}
use Rattle.wire_tokens.specs.FlagLists.{FlagsText}
use Rattle.wire_tokens.proofs.NumberParts.{number_part, nz_part}
use Rattle.wire_strings.proofs.StringParts.{nstring_part}
use Rattle.wire_tokens.proofs.FlagParts.{flags_part}
use Rattle.imap_replies.specs.declared.word.ItemWord.{ItemWord}
use Rattle.imap_replies.specs.declared.word.ItemWord.TheVariants as words
use Rattle.imap_replies.specs.declared.fetch.FetchItem.{FetchItem}
use Rattle.imap_replies.specs.declared.fetch.FetchItem.TheVariants as items
use Rattle.imap_replies.specs.Words.{item_word, later_item_words}
use Rattle.imap_replies.specs.Fetches.{ItemText, FetchLine, uid, flags, size, body, head, item_value_at, item_word_at, item_at, item_list_at, fetch_at}
use Rattle.imap_replies.proofs.Made.{Made, made_part}
use Rattle.imap_replies.proofs.HeadParts.{digit_atom}

-- ---- numbers that end before the first byte that is no atom's

digit_or_atom : (b : ℕ) → (is_digit b || is_atom_byte b) ≡ is_atom_byte b
digit_or_atom b = elim (cases_Bool (is_digit b)) [
  | inl e ↦ ap (λ (x : Bool). x || is_atom_byte b) e ∙ sym (digit_atom b e)
  | inr e ↦ ap (λ (x : Bool). x || is_atom_byte b) e
]

ended_number : {A : Type 0} {side : Speaker} {L : A → List ℕ → Type 0} {r : List ℕ → Result (A × List ℕ) Stop} → Part side true (Open is_digit) L r → Part side true (Open is_atom_byte) L (ended is_atom_byte r)
ended_number {side} {L} {r} p = subst (λ (g : ℕ → Bool). Part side true (Open g) L (ended is_atom_byte r)) (fun_ext digit_or_atom) (ended_part is_atom_byte p)

-- ---- the words

item_keyword : (w : ItemWord) → IsKeyword (item_word w)
item_keyword words.Uid = (refl, refl)
item_keyword words.Flags = (refl, refl)
item_keyword words.Size = (refl, refl)
item_keyword words.Body = (refl, refl)
item_keyword words.Head = (refl, refl)

abbrev ItemWordText : ItemWord → List ℕ → Type 0
ItemWordText w t = Among item_word (λ k. (item_keyword k).0) words.Uid later_item_words w × Word (item_word w) t

item_word_part : {side : Speaker} → Part side true Closed ItemWordText item_word_at
item_word_part = keys_part item_word item_keyword words.Uid later_item_words refl

-- ---- an item

abbrev Value : ItemWord → FetchItem → List ℕ → Type 0
Value words.Uid = Made uid NzText
Value words.Flags = Made flags FlagsText
Value words.Size = Made size NumberText
Value words.Body = Made body (NStringText Replies)
Value words.Head = Made head (NStringText Replies)

value_part : (w : ItemWord) → Part Replies true (Open is_atom_byte) (Value w) (item_value_at w)
unfolding item_value_at
value_part words.Uid = made_part uid (ended_number nz_part)
value_part words.Flags = made_part flags (ended_part is_atom_byte flags_part)
value_part words.Size = made_part size (ended_number number_part)
value_part words.Body = made_part body nstring_part
value_part words.Head = made_part head nstring_part

among : (w : ItemWord) → Among item_word (λ k. (item_keyword k).0) words.Uid later_item_words w
among words.Uid = inl refl
among words.Flags = inr (inl refl)
among words.Size = inr (inr (inl refl))
among words.Body = inr (inr (inr (inl refl)))
among words.Head = inr (inr (inr (inr refl)))

join : (w : ItemWord) (v : FetchItem) (x y : List ℕ) → Word (item_word w) x → Value w v y → ItemText v (x ++ y)
join words.Uid v x y h m = subst (λ (i : FetchItem). ItemText i (x ++ y)) (sym m.is) (record { front = x; back = y; parts = refl; first = h; second = m.spelled })
join words.Flags v x y h m = subst (λ (i : FetchItem). ItemText i (x ++ y)) (sym m.is) (record { front = x; back = y; parts = refl; first = h; second = m.spelled })
join words.Size v x y h m = subst (λ (i : FetchItem). ItemText i (x ++ y)) (sym m.is) (record { front = x; back = y; parts = refl; first = h; second = m.spelled })
join words.Body v x y h m = subst (λ (i : FetchItem). ItemText i (x ++ y)) (sym m.is) (record { front = x; back = y; parts = refl; first = h; second = m.spelled })
join words.Head v x y h m = subst (λ (i : FetchItem). ItemText i (x ++ y)) (sym m.is) (record { front = x; back = y; parts = refl; first = h; second = m.spelled })

split : (v : FetchItem) (t : List ℕ) → ItemText v t → ThenBy ItemWordText Value v t
split (items.Uid n) t h = record { value = words.Uid; front = h.front; back = h.back; parts = h.parts; first = (among words.Uid, h.first); second = record { value = n; is = refl; spelled = h.second } }
split (items.Flags set) t h = record { value = words.Flags; front = h.front; back = h.back; parts = h.parts; first = (among words.Flags, h.first); second = record { value = set; is = refl; spelled = h.second } }
split (items.Size n) t h = record { value = words.Size; front = h.front; back = h.back; parts = h.parts; first = (among words.Size, h.first); second = record { value = n; is = refl; spelled = h.second } }
split (items.Body string) t h = record { value = words.Body; front = h.front; back = h.back; parts = h.parts; first = (among words.Body, h.first); second = record { value = string; is = refl; spelled = h.second } }
split (items.Head string) t h = record { value = words.Head; front = h.front; back = h.back; parts = h.parts; first = (among words.Head, h.first); second = record { value = string; is = refl; spelled = h.second } }

pub item_part : Part Replies true (Open is_atom_byte) ItemText item_at
unfolding item_at
item_part = same_part
    (λ v t h. subst (ItemText v) (sym h.parts) (join h.value v h.front h.back h.first.1 h.second))
    split
    (seq_part item_word_part value_part (λ w. after_closed (item_value_at w)))

pub item_list_part : Part Replies true (with_sep (Open is_atom_byte) 32) (ItemsText 32 ItemText) item_list_at
unfolding item_list_at
item_list_part = items_part Replies 32 refl refl item_part

-- ---- after FETCH

abbrev close : List ℕ → Result (Unit {0} × List ℕ) Stop
close = skip (byte_at 41) crlf_at

close_part : {side : Speaker} → Part side true Closed (λ _ t. (Is (41 ∷ []) ⨾ Is crlf) t) close
close_part = skip_part (byte_part 41 refl) crlf_part (after_closed crlf_at)

abbrev Listed : List FetchItem → List ℕ → Type 0
Listed list = ItemsText 32 ItemText list ⨾ Is (41 ∷ []) ⨾ Is crlf

abbrev Open' : List FetchItem → List ℕ → Type 0
Open' list = Is (32 ∷ []) ⨾ Is (40 ∷ []) ⨾ Listed list

listed_part : Part Replies true Closed Listed (keep item_list_at close)
listed_part = keep_part item_list_part close_part (after (λ b. is_atom_byte b || eqb b 32) 41 refl (starts_seq (λ _. crlf_at) (starts_byte 41)))

to_line : (v : List FetchItem) (t : List ℕ) → Open' v t → FetchLine v t
to_line v t h =
    let i = h.second in
    record { front = 32 ∷ 40 ∷ []; back = i.back; parts = h.parts ∙ ap (λ (x : List ℕ). x ++ h.back) h.first ∙ ap (λ (x : List ℕ). 32 ∷ x) (i.parts ∙ ap (λ (x : List ℕ). x ++ i.back) i.first); first = refl; second = i.second }

from_line : (v : List FetchItem) (t : List ℕ) → FetchLine v t → Open' v t
from_line v t h =
    record { front = 32 ∷ []; back = 40 ∷ h.back; parts = h.parts ∙ ap (λ (x : List ℕ). x ++ h.back) h.first; first = refl; second = record { front = 40 ∷ []; back = h.back; parts = refl; first = refl; second = h.second } }

pub fetch_part : Part Replies true Closed FetchLine fetch_at
unfolding fetch_at
fetch_part = same_part to_line from_line
    (skip_part (byte_part 32 refl) (skip_part (byte_part 40 refl) listed_part (after_closed (keep item_list_at close))) (after_closed (skip (byte_at 40) (keep item_list_at close))))
