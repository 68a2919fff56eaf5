-- The text of a status reply as a part of a grammar.
use Rattle.std.proofs.Common.{◌≡◌, ℕ, true, false, List, [], ◌∷◌, ◌++◌, refl, sym, ap, subst, ◌∙◌, inl, inr, ◌⊎◌}
use Rattle.wire_reader.specs.declared.side.Speaker.{Speaker}
use Rattle.wire_reader.specs.Spelling.{◌⨾◌, ThenBy, Is, is_digit, crlf}
use Rattle.wire_reader.specs.Reading.{stuck, skip, byte_at}
use Rattle.wire_reader.proofs.Reader.{Closed, Open, stops}
use Rattle.wire_reader.proofs.Parts.{after_closed}
use Rattle.wire_reader.proofs.First.{Begins}
use Rattle.wire_reader.proofs.Follow.{after, starts_byte, starts_seq, starts_mapped}
use Rattle.wire_reader.proofs.Part.{Part, same_part, skip_part, keep_part, both_part, seq_part, first_part, byte_part}
use Rattle.wire_tokens.specs.Atoms.{is_atom_byte}
use Rattle.wire_tokens.specs.Numbers.{NzText}
use Rattle.wire_strings.specs.Texts.{LastText, IsPlain, PlainLine, BracketText, last_text_at, code_text_at}
use Rattle.wire_tokens.specs.FlagLists.{PermanentFlagsText}
use Rattle.wire_tokens.proofs.NumberParts.{nz_part}
use Rattle.wire_strings.proofs.TextParts.{last_text_part, plain_text_part, code_text_part}
use Rattle.wire_tokens.proofs.FlagParts.{permanent_flags_part}
use Rattle.imap_replies.specs.declared.word.CodeWord.{CodeWord}
use Rattle.imap_replies.specs.declared.word.CodeWord.TheVariants as words
use Rattle.imap_replies.specs.declared.code_head.CodeHead.{CodeHead}
use Rattle.imap_replies.specs.declared.code_head.CodeHead.TheVariants as heads
use Rattle.imap_replies.specs.declared.response.Code.{Code}
use Rattle.imap_replies.specs.declared.response.Code.TheVariants as code
use Rattle.imap_replies.specs.declared.response.ResponseText.{ResponseText}
use Rattle.imap_replies.specs.declared.response.ResponseText.TheVariants as responses
use Rattle.imap_replies.specs.Heads.{CodeHeadText}
use Rattle.imap_replies.specs.Lines.{RestText}
use Rattle.imap_replies.specs.Responses.{sp, CodeSpelling, ResponseLine, uid_close_at, two_uids_at, permanent_close_at, uid_next, uid_validity, permanent_flags, append_uid, read_only, read_write, other_code, known_code_at, code_rest_at, code_tail_at, code_at, is_bracket, coded, plain, coded_at, response_at}
use Rattle.imap_replies.proofs.Made.{Made, made_part, mapped_follows, rest_part, rest_follows}
use Rattle.imap_replies.proofs.CodeHeadParts.{code_head_part}

-- ---- after the word of a code

abbrev close : List ℕ
close = 93 ∷ []

abbrev UidClose : ℕ → List ℕ → Type 0
UidClose n = NzText n ⨾ Is close

abbrev TwoUids : ℕ × ℕ → List ℕ → Type 0
TwoUids p = NzText p.0 ⨾ Is sp ⨾ NzText p.1 ⨾ Is close

abbrev PermanentClose : List (List ℕ) → List ℕ → Type 0
PermanentClose p = PermanentFlagsText p ⨾ Is close

uid_close_part : {side : Speaker} → Part side true Closed UidClose uid_close_at
uid_close_part = keep_part nz_part (byte_part 93 refl) (after is_digit 93 refl (starts_byte 93))

two_uids_part : {side : Speaker} → Part side true Closed TwoUids two_uids_at
two_uids_part = both_part nz_part (skip_part (byte_part 32 refl) uid_close_part (after_closed uid_close_at)) (after is_digit 32 refl (starts_seq (λ _. uid_close_at) (starts_byte 32)))

permanent_close_part : {side : Speaker} → Part side true Closed PermanentClose permanent_close_at
permanent_close_part = keep_part permanent_flags_part (byte_part 93 refl) (after_closed (byte_at 93))

-- what follows each word
abbrev KnownTail : CodeWord → Code → List ℕ → Type 0
KnownTail words.UidNext = Made uid_next (λ n. Is sp ⨾ UidClose n)
KnownTail words.UidValidity = Made uid_validity (λ n. Is sp ⨾ UidClose n)
KnownTail words.PermanentFlags = Made permanent_flags (λ p. Is sp ⨾ PermanentClose p)
KnownTail words.AppendUid = Made append_uid (λ p. Is sp ⨾ TwoUids p)
KnownTail words.ReadOnly = Made read_only (λ _. Is close)
KnownTail words.ReadWrite = Made read_write (λ _. Is close)

abbrev Tail : CodeHead → Code → List ℕ → Type 0
Tail (heads.Known w) = KnownTail w
Tail (heads.Other a) = Made (other_code a) (RestText close BracketText)

known_part : {side : Speaker} (w : CodeWord) → Part side true Closed (KnownTail w) (known_code_at w)
unfolding known_code_at
known_part words.UidNext = made_part uid_next (skip_part (byte_part 32 refl) uid_close_part (after_closed uid_close_at))
known_part words.UidValidity = made_part uid_validity (skip_part (byte_part 32 refl) uid_close_part (after_closed uid_close_at))
known_part words.PermanentFlags = made_part permanent_flags (skip_part (byte_part 32 refl) permanent_close_part (after_closed permanent_close_at))
known_part words.AppendUid = made_part append_uid (skip_part (byte_part 32 refl) two_uids_part (after_closed two_uids_at))
known_part words.ReadOnly = made_part read_only (byte_part 93 refl)
known_part words.ReadWrite = made_part read_write (byte_part 93 refl)

tail_part : {side : Speaker} (h : CodeHead) → Part side true Closed (Tail h) (code_tail_at h)
tail_part (heads.Known w) = known_part w
tail_part (heads.Other a) = made_part (other_code a) (rest_part 93 close refl refl (byte_part 93 refl) code_text_part)

known_follows : (w : CodeWord) (xs : List ℕ) → stops (Open is_atom_byte) xs ≡ false → known_code_at w xs ≡ stuck xs
unfolding known_code_at
known_follows words.UidNext = after is_atom_byte 32 refl (starts_mapped uid_next (starts_seq (λ _. uid_close_at) (starts_byte 32)))
known_follows words.UidValidity = after is_atom_byte 32 refl (starts_mapped uid_validity (starts_seq (λ _. uid_close_at) (starts_byte 32)))
known_follows words.PermanentFlags = after is_atom_byte 32 refl (starts_mapped permanent_flags (starts_seq (λ _. permanent_close_at) (starts_byte 32)))
known_follows words.AppendUid = after is_atom_byte 32 refl (starts_mapped append_uid (starts_seq (λ _. two_uids_at) (starts_byte 32)))
known_follows words.ReadOnly = after is_atom_byte 93 refl (starts_mapped read_only (starts_byte 93))
known_follows words.ReadWrite = after is_atom_byte 93 refl (starts_mapped read_write (starts_byte 93))

tail_follows : (h : CodeHead) (xs : List ℕ) → stops (Open is_atom_byte) xs ≡ false → code_tail_at h xs ≡ stuck xs
tail_follows (heads.Known w) xs s = known_follows w xs s
tail_follows (heads.Other a) xs s = mapped_follows code_rest_at (other_code a) xs (rest_follows is_atom_byte 93 (byte_at 93) code_text_at refl refl xs s)

-- ---- a code

join : (h : CodeHead) (v : Code) (x y : List ℕ) → CodeHeadText h x → Tail h v y → CodeSpelling v (x ++ y)
join (heads.Known words.UidNext) v x y h m = subst (λ (c : Code). CodeSpelling c (x ++ y)) (sym m.is) (record { front = x; back = y; parts = refl; first = h; second = m.spelled })
join (heads.Known words.UidValidity) v x y h m = subst (λ (c : Code). CodeSpelling c (x ++ y)) (sym m.is) (record { front = x; back = y; parts = refl; first = h; second = m.spelled })
join (heads.Known words.PermanentFlags) v x y h m = subst (λ (c : Code). CodeSpelling c (x ++ y)) (sym m.is) (record { front = x; back = y; parts = refl; first = h; second = m.spelled })
join (heads.Known words.AppendUid) v x y h m = subst (λ (c : Code). CodeSpelling c (x ++ y)) (sym m.is) (record { front = x; back = y; parts = refl; first = h; second = m.spelled })
join (heads.Known words.ReadOnly) v x y h m = subst (λ (c : Code). CodeSpelling c (x ++ y)) (sym m.is) (record { front = x; back = y; parts = refl; first = h; second = m.spelled })
join (heads.Known words.ReadWrite) v x y h m = subst (λ (c : Code). CodeSpelling c (x ++ y)) (sym m.is) (record { front = x; back = y; parts = refl; first = h; second = m.spelled })
join (heads.Other a) v x y h m = subst (λ (c : Code). CodeSpelling c (x ++ y)) (sym m.is) (record { front = x; back = y; parts = refl; first = h; second = m.spelled })

split : (v : Code) (t : List ℕ) → CodeSpelling v t → ThenBy CodeHeadText Tail v t
split (code.UidNext n) t h = record { value = heads.Known words.UidNext; front = h.front; back = h.back; parts = h.parts; first = h.first; second = record { value = n; is = refl; spelled = h.second } }
split (code.UidValidity n) t h = record { value = heads.Known words.UidValidity; front = h.front; back = h.back; parts = h.parts; first = h.first; second = record { value = n; is = refl; spelled = h.second } }
split (code.PermanentFlags flags) t h = record { value = heads.Known words.PermanentFlags; front = h.front; back = h.back; parts = h.parts; first = h.first; second = record { value = flags; is = refl; spelled = h.second } }
split (code.AppendUid validity uid) t h = record { value = heads.Known words.AppendUid; front = h.front; back = h.back; parts = h.parts; first = h.first; second = record { value = (validity, uid); is = refl; spelled = h.second } }
split code.ReadOnly t h = record { value = heads.Known words.ReadOnly; front = h.front; back = h.back; parts = h.parts; first = h.first; second = record { value = tt; is = refl; spelled = h.second } }
split code.ReadWrite t h = record { value = heads.Known words.ReadWrite; front = h.front; back = h.back; parts = h.parts; first = h.first; second = record { value = tt; is = refl; spelled = h.second } }
split (code.Other a text) t h = record { value = heads.Other a; front = h.front; back = h.back; parts = h.parts; first = h.first; second = record { value = text; is = refl; spelled = h.second } }

pub code_part : {side : Speaker} → Part side true Closed CodeSpelling code_at
unfolding code_at
code_part {side} = same_part
    (λ v t h. subst (CodeSpelling v) (sym h.parts) (join h.value v h.front h.back h.first h.second))
    split
    (seq_part code_head_part tail_part tail_follows)

-- ---- the text of a status reply

abbrev CodedLine : Code × List ℕ → List ℕ → Type 0
CodedLine p = Is (91 ∷ []) ⨾ CodeSpelling p.0 ⨾ Is sp ⨾ LastText p.1

coded_line_part : {side : Speaker} → Part side false Closed (Made coded CodedLine) coded_at
unfolding coded_at
coded_line_part = made_part coded (skip_part (byte_part 91 refl) (both_part code_part (skip_part (byte_part 32 refl) last_text_part (after_closed last_text_at)) (after_closed (skip (byte_at 32) last_text_at))) (after_closed _))

abbrev Plainly : ResponseText → List ℕ → Type 0
Plainly = Made plain PlainLine

coded_first : (v : ResponseText) (t : List ℕ) → Made coded CodedLine v t → Begins true is_bracket t
coded_first v t h = let l = h.spelled in subst (Begins true is_bracket) (sym (l.parts ∙ ap (λ (x : List ℕ). x ++ l.back) l.first)) refl

plain_first : (v : ResponseText) (t : List ℕ) → Plainly v t → Begins false is_bracket t
plain_first v t h = by_text h.value t h.spelled.0 h.spelled.1
  where
    by_text : (a t : List ℕ) → t ≡ a ++ crlf → IsPlain a → Begins false is_bracket t
    by_text [] t e i = subst (Begins false is_bracket) (sym e) refl
    by_text (b ∷ a) t e i = subst (Begins false is_bracket) (sym e) i.first

to_response : (v : ResponseText) (t : List ℕ) → Made coded CodedLine v t ⊎ Plainly v t → ResponseLine v t
to_response v t (inl h) = subst (λ (r : ResponseText). ResponseLine r t) (sym h.is) h.spelled
to_response v t (inr h) = subst (λ (r : ResponseText). ResponseLine r t) (sym h.is) h.spelled

from_response : (v : ResponseText) (t : List ℕ) → ResponseLine v t → Made coded CodedLine v t ⊎ Plainly v t
from_response (responses.Plain text) t h = inr (record { value = text; is = refl; spelled = h })
from_response (responses.Coded code text) t h = inl (record { value = (code, text); is = refl; spelled = h })

pub response_part : {side : Speaker} → Part side false Closed ResponseLine response_at
unfolding response_at
response_part = same_part to_response from_response (first_part is_bracket coded_line_part (made_part plain plain_text_part) coded_first plain_first)
