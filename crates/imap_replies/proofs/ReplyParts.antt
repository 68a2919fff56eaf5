-- Replies as parts of a grammar.
use Rattle.std.proofs.Common.{◌≡◌, ℕ, Bool, true, false, eqb, List, [], ◌∷◌, ◌++◌, refl, sym, ap, subst, ◌∙◌, inl, inr, ◌⊎◌, arith}
use Rattle.std.proofs.lemmas.Bool.{cases_Bool, true≢false, eqb-true, and_parts}
use Rattle.wire_reader.specs.declared.side.Speaker.TheVariants.{Replies}
use Rattle.wire_reader.specs.Spelling.{◌⨾◌, Is, Word}
use Rattle.wire_reader.specs.Reading.{seq, skip, both, byte_at}
use Rattle.wire_reader.proofs.Reader.{Closed}
use Rattle.wire_reader.proofs.Parts.{after_closed}
use Rattle.wire_reader.proofs.First.{Begins}
use Rattle.wire_reader.proofs.Words.{Among}
use Rattle.wire_reader.proofs.Follow.{after, starts_byte, starts_seq}
use Rattle.wire_reader.proofs.Part.{Part, same_part, skip_part, both_part, first_part, byte_part}
use Rattle.wire_reader.proofs.PartWords.{IsKeyword, keys_part}
use Rattle.wire_tokens.specs.Atoms.{is_tag_byte, IsTag, TagText}
use Rattle.wire_strings.specs.Texts.{LastText, last_text_at}
use Rattle.wire_tokens.proofs.AtomParts.{tag_part}
use Rattle.wire_strings.proofs.TextParts.{last_text_part}
use Rattle.imap_replies.specs.declared.word.Status.{Status}
use Rattle.imap_replies.specs.declared.word.Status.TheVariants as statuses
use Rattle.imap_replies.specs.declared.response.ResponseText.{ResponseText}
use Rattle.imap_replies.specs.declared.reply.Reply.{Reply}
use Rattle.imap_replies.specs.declared.reply.Reply.TheVariants.{Continue, Tagged, Notice, Capability, Enabled, List as Listed, Flags, Exists, Expunge, Fetch, Other, OtherNumbered}
use Rattle.imap_replies.specs.Words.{status_word}
use Rattle.imap_replies.specs.Heads.{head_at}
use Rattle.imap_replies.specs.Responses.{sp, ResponseLine, response_at}
use Rattle.imap_replies.specs.Replies.{ReplyText}
use Rattle.imap_replies.specs.ReplyReading.{continue, tagged, continue_at, status_at, tagged_at, after_head, untagged_at, is_plus, is_star, reply_at}
use Rattle.imap_replies.proofs.Made.{Made, made_part}
use Rattle.imap_replies.proofs.ResponseParts.{response_part}
use Rattle.imap_replies.proofs.UntaggedParts.{Body, body_part}

-- ---- `+ text`

abbrev GoOn : List ℕ → List ℕ → Type 0
GoOn text = Is (43 ∷ []) ⨾ Is (32 ∷ []) ⨾ LastText text

continue_part : Part Replies false Closed (Made continue GoOn) continue_at
unfolding continue_at
continue_part = made_part continue (skip_part (byte_part 43 refl) (skip_part (byte_part 32 refl) last_text_part (after_closed last_text_at)) (after_closed (skip (byte_at 32) last_text_at)))

-- ---- a tagged line

status_keyword : (k : Status) → IsKeyword (status_word k)
status_keyword statuses.Ok = (refl, refl)
status_keyword statuses.No = (refl, refl)
status_keyword statuses.Bad = (refl, refl)

each_status : (k : Status) → Among status_word (λ s. (status_keyword s).0) statuses.Ok (statuses.No ∷ statuses.Bad ∷ []) k
each_status statuses.Ok = inl refl
each_status statuses.No = inr (inl refl)
each_status statuses.Bad = inr (inr refl)

status_part : Part Replies true Closed (λ k t. Word (status_word k) t) status_at
status_part = same_part (λ k t h. h.1) (λ k t h. (each_status k, h)) (keys_part status_word status_keyword statuses.Ok (statuses.No ∷ statuses.Bad ∷ []) refl)

abbrev TaggedLine : List ℕ × (Status × ResponseText) → List ℕ → Type 0
TaggedLine p = TagText p.0 ⨾ Is sp ⨾ Word (status_word (p.1.0)) ⨾ Is sp ⨾ ResponseLine (p.1.1)

abbrev Ended : Status × ResponseText → List ℕ → Type 0
Ended p = Word (status_word p.0) ⨾ Is sp ⨾ ResponseLine p.1

ended_part : Part Replies false Closed Ended (both status_at (skip (byte_at 32) response_at))
ended_part = both_part status_part (skip_part (byte_part 32 refl) response_part (after_closed response_at)) (after_closed (skip (byte_at 32) response_at))

tagged_part : Part Replies false Closed (Made tagged TaggedLine) tagged_at
unfolding tagged_at
tagged_part = made_part tagged
    (both_part tag_part (skip_part (byte_part 32 refl) ended_part (after_closed (both status_at (skip (byte_at 32) response_at))))
    (after is_tag_byte 32 refl (starts_seq (λ _. both status_at (skip (byte_at 32) response_at)) (starts_byte 32))))

-- ---- an untagged line

abbrev Starred : Reply → List ℕ → Type 0
Starred v = Is (42 ∷ []) ⨾ Is (32 ∷ []) ⨾ Body v

untagged_part : Part Replies false Closed Starred untagged_at
unfolding untagged_at
untagged_part = skip_part (byte_part 42 refl) (skip_part (byte_part 32 refl) body_part (after_closed (seq head_at after_head))) (after_closed (skip (byte_at 32) (seq head_at after_head)))

-- ---- by the first byte

begins : (test : ℕ → Bool) (c : ℕ) (w : Bool) (t front back : List ℕ) → test c ≡ w → t ≡ front ++ back → front ≡ c ∷ [] → Begins w test t
begins test c true t front back g e f = subst (Begins true test) (sym (e ∙ ap (λ (x : List ℕ). x ++ back) f)) g
begins test c false t front back g e f = subst (Begins false test) (sym (e ∙ ap (λ (x : List ℕ). x ++ back) f)) g

tag_first : (test : ℕ → Bool) → ((b : ℕ) → is_tag_byte b ≡ true → test b ≡ false) → (v : Reply) (t : List ℕ) → Made tagged TaggedLine v t → Begins false test t
tag_first test out v t h =
    let l = h.spelled in
    subst (Begins false test) (sym l.parts) (by_tag l.front l.back (subst IsTag refl l.first.1))
  where
    by_tag : (tag back : List ℕ) → IsTag tag → Begins false test (tag ++ back)
    by_tag [] back i = absurd (let s = i.some in omega (arith, s))
    by_tag (b ∷ tag) back i = out b (and_parts _ _ i.each).0

no_sign : (c : ℕ) → is_tag_byte c ≡ false → (b : ℕ) → is_tag_byte b ≡ true → eqb b c ≡ false
no_sign c n b h = elim (cases_Bool (eqb b c)) [
  | inl e ↦ absurd (true≢false (sym h ∙ ap is_tag_byte (eqb-true b c e) ∙ n))
  | inr e ↦ e
]

abbrev Following : Reply → List ℕ → Type 0
Following v t = Starred v t ⊎ Made tagged TaggedLine v t

after_plus : (v : Reply) (t : List ℕ) → Following v t → Begins false is_plus t
after_plus v t (inl h) = begins is_plus 42 false t h.front h.back refl h.parts h.first
after_plus v t (inr h) = tag_first is_plus (no_sign 43 refl) v t h

-- ---- the two bytes in front

joined : {P : List ℕ → Type 0} (c d : ℕ) (t : List ℕ) → (Is (c ∷ []) ⨾ Is (d ∷ []) ⨾ P) t → (Is (c ∷ d ∷ []) ⨾ P) t
joined c d t h =
    let i = h.second in
    record { front = c ∷ d ∷ []; back = i.back; parts = h.parts ∙ ap (λ (x : List ℕ). x ++ h.back) h.first ∙ ap (λ (x : List ℕ). c ∷ x) (i.parts ∙ ap (λ (x : List ℕ). x ++ i.back) i.first); first = refl; second = i.second }

parted : {P : List ℕ → Type 0} (c d : ℕ) (t : List ℕ) → (Is (c ∷ d ∷ []) ⨾ P) t → (Is (c ∷ []) ⨾ Is (d ∷ []) ⨾ P) t
parted c d t h =
    record { front = c ∷ []; back = d ∷ h.back; parts = h.parts ∙ ap (λ (x : List ℕ). x ++ h.back) h.first; first = refl; second = record { front = d ∷ []; back = h.back; parts = refl; first = refl; second = h.second } }

starred : (v : Reply) (t : List ℕ) → (Is (42 ∷ 32 ∷ []) ⨾ Body v) t → ReplyText v t
starred (Continue text) t h = absurd h.second
starred (Tagged tag status text) t h = absurd h.second
starred (Notice kind text) t h = h
starred (Capability names) t h = h
starred (Enabled names) t h = h
starred (Listed attributes delimiter name) t h = h
starred (Flags set) t h = h
starred (Exists n) t h = h
starred (Expunge n) t h = h
starred (Fetch n items) t h = h
starred (Other word text) t h = h
starred (OtherNumbered n event text) t h = h

to_reply : (v : Reply) (t : List ℕ) → Made continue GoOn v t ⊎ Following v t → ReplyText v t
to_reply v t (inl h) = subst (λ (r : Reply). ReplyText r t) (sym h.is) (joined 43 32 t h.spelled)
to_reply v t (inr (inl h)) = starred v t (joined 42 32 t h)
to_reply v t (inr (inr h)) = subst (λ (r : Reply). ReplyText r t) (sym h.is) h.spelled

from_reply : (v : Reply) (t : List ℕ) → ReplyText v t → Made continue GoOn v t ⊎ Following v t
from_reply (Continue text) t h = inl (record { value = text; is = refl; spelled = parted 43 32 t h })
from_reply (Tagged tag status text) t h = inr (inr (record { value = (tag, (status, text)); is = refl; spelled = h }))
from_reply (Notice kind text) t h = inr (inl (parted 42 32 t h))
from_reply (Capability names) t h = inr (inl (parted 42 32 t h))
from_reply (Enabled names) t h = inr (inl (parted 42 32 t h))
from_reply (Listed attributes delimiter name) t h = inr (inl (parted 42 32 t h))
from_reply (Flags set) t h = inr (inl (parted 42 32 t h))
from_reply (Exists n) t h = inr (inl (parted 42 32 t h))
from_reply (Expunge n) t h = inr (inl (parted 42 32 t h))
from_reply (Fetch n items) t h = inr (inl (parted 42 32 t h))
from_reply (Other word text) t h = inr (inl (parted 42 32 t h))
from_reply (OtherNumbered n event text) t h = inr (inl (parted 42 32 t h))

pub reply_part : Part Replies false Closed ReplyText reply_at
unfolding reply_at
reply_part = same_part to_reply from_reply
    (first_part is_plus continue_part
    (first_part is_star untagged_part tagged_part (λ v t h. begins is_star 42 true t h.front h.back refl h.parts h.first) (tag_first is_star (no_sign 42 refl)))
    (λ v t h. begins is_plus 43 true t h.spelled.front h.spelled.back refl h.spelled.parts h.spelled.first)
    after_plus)
