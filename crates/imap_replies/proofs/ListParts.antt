-- LIST replies as a part of a grammar.
use Rattle.std.proofs.Common.{◌≡◌, ℕ, true, false, eqb, List, [], ◌∷◌, codes, Option, None, Some, Result, refl, sym, ap, subst, ◌∙◌, inl, inr, ◌⊎◌}
use Rattle.std.proofs.lemmas.Bool.{cases_Bool, true≢false, eqb-true}
use Rattle.wire_reader.specs.declared.side.Speaker.{Speaker}
use Rattle.wire_reader.specs.declared.side.Speaker.TheVariants.{Replies}
use Rattle.wire_reader.specs.declared.stop.Stop.{Stop}
use Rattle.wire_reader.specs.Spelling.{◌⨾◌, Is, Word, crlf, upper}
use Rattle.wire_reader.specs.Reading.{skip, keep, both, byte_at, crlf_at}
use Rattle.wire_reader.proofs.Reader.{Closed}
use Rattle.wire_reader.proofs.Parts.{after_closed}
use Rattle.wire_reader.proofs.First.{Begins}
use Rattle.wire_reader.proofs.Follow.{after, starts_byte, starts_seq}
use Rattle.wire_reader.proofs.Part.{Part, same_part, mapped_part, skip_part, keep_part, both_part, first_part, byte_part, crlf_part}
use Rattle.wire_reader.proofs.PartWords.{word_part}
use Rattle.wire_strings.specs.declared.astring.AString.{AString}
use Rattle.wire_tokens.specs.Atoms.{is_atom_byte}
use Rattle.wire_strings.specs.Delimiters.{DelimiterText}
use Rattle.wire_strings.specs.Strings.{AStringText, astring_at}
use Rattle.wire_tokens.specs.FlagLists.{flags_at}
use Rattle.wire_strings.proofs.DelimiterParts.{delimiter_part}
use Rattle.wire_strings.proofs.StringParts.{astring_part}
use Rattle.wire_tokens.proofs.FlagParts.{flags_part}
use Rattle.imap_replies.specs.Listings.{MarkText, ListValue, ListLine, is_quote, some_mark, no_mark, mark_at, list_at}

-- ---- the delimiter

abbrev Quoted : Option ℕ → List ℕ → Type 0
Quoted None t = ⊥
Quoted (Some c) t = DelimiterText c t

abbrev Nil : Option ℕ → List ℕ → Type 0
Nil None t = Word (codes "NIL") t
Nil (Some c) t = ⊥

from_quoted : (v : Option ℕ) (t : List ℕ) → Quoted v t → (c : ℕ) × (v ≡ Some c) × DelimiterText c t
from_quoted None t h = absurd h
from_quoted (Some c) t h = (c, refl, h)

from_nil : (v : Option ℕ) (t : List ℕ) → Nil v t → (u : Unit {0}) × (v ≡ None) × Word (codes "NIL") t
from_nil None t h = (tt, refl, h)
from_nil (Some c) t h = absurd h

quoted_first : (v : Option ℕ) (t : List ℕ) → Quoted v t → Begins true is_quote t
quoted_first None t h = absurd h
quoted_first (Some c) t h = subst (Begins true is_quote) (sym h.0) refl

nil_first : (v : Option ℕ) (t : List ℕ) → Nil v t → Begins false is_quote t
nil_first None [] h = absurd cc
nil_first None (b ∷ bs) h = elim (cases_Bool (eqb b 34)) [
  | inl e ↦ let same : upper 34 ≡ 78 = sym (ap upper (eqb-true b 34 e)) ∙ (let first : upper b ≡ 78 = cc in first) in absurd (true≢false (sym (ap (λ (x : ℕ). eqb x 78) same)))
  | inr e ↦ e
]
nil_first (Some c) t h = absurd h

to_mark : (v : Option ℕ) (t : List ℕ) → Quoted v t ⊎ Nil v t → MarkText v t
to_mark None t (inl h) = absurd h
to_mark None t (inr h) = h
to_mark (Some c) t (inl h) = h
to_mark (Some c) t (inr h) = absurd h

from_mark : (v : Option ℕ) (t : List ℕ) → MarkText v t → Quoted v t ⊎ Nil v t
from_mark None t h = inr h
from_mark (Some c) t h = inl h

pub mark_part : {side : Speaker} → Part side true Closed MarkText mark_at
unfolding mark_at
mark_part = same_part to_mark from_mark
    (first_part is_quote
    (mapped_part {M = Quoted} some_mark (λ _ t h. h) from_quoted delimiter_part)
    (mapped_part {M = Nil} no_mark (λ _ t h. h) from_nil (word_part (codes "NIL") (refl, refl)))
    quoted_first nil_first)

-- ---- after LIST

abbrev Name : AString → List ℕ → Type 0
Name name = AStringText Replies name ⨾ Is crlf

abbrev MarkName : Option ℕ × AString → List ℕ → Type 0
MarkName p = MarkText p.0 ⨾ Is (32 ∷ []) ⨾ Name p.1

abbrev pub ListedLine : ListValue → List ℕ → Type 0
ListedLine p = ListLine p.0 (p.1.0) (p.1.1)

abbrev name_at : List ℕ → Result (AString × List ℕ) Stop
name_at = keep (astring_at Replies) crlf_at

name_part : Part Replies true Closed Name name_at
name_part = keep_part astring_part crlf_part (after is_atom_byte 13 refl (starts_seq (λ _. byte_at 10) (starts_byte 13)))

mark_name_part : Part Replies true Closed MarkName (both mark_at (skip (byte_at 32) name_at))
mark_name_part = both_part mark_part (skip_part (byte_part 32 refl) name_part (after_closed name_at)) (after_closed (skip (byte_at 32) name_at))

pub list_part : Part Replies true Closed ListedLine list_at
unfolding list_at
list_part =
    skip_part (byte_part 32 refl)
    (both_part flags_part
    (skip_part (byte_part 32 refl) mark_name_part (after_closed (both mark_at (skip (byte_at 32) name_at))))
    (after_closed (skip (byte_at 32) (both mark_at (skip (byte_at 32) name_at)))))
    (after_closed (both flags_at (skip (byte_at 32) (both mark_at (skip (byte_at 32) name_at)))))
