-- Strings as parts of a grammar.
use Rattle.std.proofs.Common.{◌≡◌, not, leb, ℕ, ◌≤◌, Bool, true, false, cond, eqb, ◌||◌, List, [], ◌∷◌, ◌++◌, length, Option, None, Some, Ok, refl, sym, ap, subst, ◌∙◌, inl, inr, ◌⊎◌, arith}
use Rattle.std.specs.Prelude.{codes}
use Rattle.std.specs.List.{list_all, flat_map}
use Rattle.std.proofs.lemmas.Bool.{cases_Bool, true≢false, eqb-true, ne_eqb, leb-true, le-leb, and_parts, and_from}
use Rattle.wire_reader.specs.declared.side.Speaker.{Speaker}
use Rattle.wire_reader.specs.Lexical.{literal_limit, plus_limit}
use Rattle.wire_reader.specs.Spelling.{upper, Word}
use Rattle.wire_reader.specs.Literal.{is_octet, Literal, literal_at}
use Rattle.wire_reader.proofs.Reader.{Open}
use Rattle.wire_reader.proofs.First.{Begins}
use Rattle.wire_reader.proofs.Part.{Part, same_part, mapped_part, first_part}
use Rattle.wire_reader.proofs.PartEnded.{ended_part}
use Rattle.wire_reader.proofs.PartWords.{word_part}
use Rattle.wire_reader.proofs.LiteralPhases.{literal_part}
use Rattle.wire_strings.specs.declared.string.WireString.{WireString}
use Rattle.wire_strings.specs.declared.string.WireString.TheVariants as strings
use Rattle.wire_strings.specs.declared.astring.AString.{AString}
use Rattle.wire_strings.specs.declared.astring.AString.TheVariants as astrings
use Rattle.wire_tokens.specs.Atoms.{is_atom_byte, IsAtom, AtomText}
use Rattle.wire_strings.specs.Texts.{is_text}
use Rattle.wire_strings.specs.Quotes.{escaped, RawOf, RawText}
use Rattle.wire_strings.specs.Literals.{IsLiteral, IsValue}
use Rattle.wire_strings.specs.Strings.{StringText, NStringText, AStringText, ValueText, lent_quoted_at, lent_literal_at, string_at, begins_string, nstring_at, astring_at, value_of, value_at}
use Rattle.wire_tokens.proofs.AtomParts.{atom_part}
use Rattle.wire_strings.proofs.QuoteParts.{raw_part, value_of as raw_value, unescaped_escapes}

-- ---- octets

pub most_octets : (plus : Bool) (n : ℕ) → n ≤ cond plus plus_limit literal_limit → n ≤ literal_limit
most_octets true n h = omega (arith, h)
most_octets false n h = h

octets_of : (side : Speaker) (octets text : List ℕ) → Literal side octets text → IsLiteral octets
octets_of side octets text h =
    let long = h.second in
    let last = long.second.second.second in
    let same : long.second.second.back ≡ octets = last.0 in
    record {
      each = ap (list_all is_octet) (sym same) ∙ last.1.each;
      most = subst (λ (n : ℕ). n ≤ literal_limit) (sym last.1.long ∙ ap length same) (most_octets long.value.1 long.value.0 long.first.most);
    }

pub literal_octets : (side : Speaker) (xs octets rest : List ℕ) → literal_at side xs ≡ Ok (octets, rest) → IsLiteral octets
literal_octets side xs octets rest h = let t = (literal_part side).reader.sound xs octets rest h in octets_of side octets t.text t.spelled

-- ---- what texts begin with

begins : (test : ℕ → Bool) (v : Bool) (c : ℕ) (cs t : List ℕ) → t ≡ c ∷ cs → test c ≡ v → Begins v test t
begins test v c cs t e h = subst (Begins v test) (sym e) h

raw_begins : (test : ℕ → Bool) (v : Bool) → test 34 ≡ v → (raw t : List ℕ) → RawText raw t → Begins v test t
raw_begins test v h raw t l = begins test v 34 (raw ++ 34 ∷ []) t l.0 h

literal_begins : (side : Speaker) (test : ℕ → Bool) (v : Bool) → test 123 ≡ v → (octets t : List ℕ) → Literal side octets t → Begins v test t
literal_begins side test v h octets t l = begins test v 123 l.back t (l.parts ∙ ap (λ (x : List ℕ). x ++ l.back) l.first) h

-- a byte of atoms is not this one
no_atom : (c : ℕ) → is_atom_byte c ≡ false → (b : ℕ) → is_atom_byte b ≡ true → eqb b c ≡ false
no_atom c n b h = elim (cases_Bool (eqb b c)) [
  | inl e ↦ absurd (true≢false (sym h ∙ ap is_atom_byte (eqb-true b c e) ∙ n))
  | inr e ↦ e
]

atom_begins : (c : ℕ) → is_atom_byte c ≡ false → (a t : List ℕ) → AtomText a t → Begins false (λ b. eqb b c) t
atom_begins c n a [] l = absurd (let s = l.1.some in omega (arith, s))
atom_begins c n a (b ∷ t) l = no_atom c n b (and_parts _ _ l.1.each).0

-- ---- strings

quoted_ended : {side : Speaker} → Part side true (Open is_atom_byte) RawText lent_quoted_at
quoted_ended = ended_part is_atom_byte raw_part

literal_ended : {side : Speaker} → Part side true (Open is_atom_byte) (Literal side) (lent_literal_at side)
literal_ended {side} = ended_part is_atom_byte (literal_part side)

abbrev OfQuoted : WireString → List ℕ → Type 0
OfQuoted (strings.Quoted raw) t = RawText raw t
OfQuoted (strings.Literal octets) t = ⊥

abbrev OfLiteral : Speaker → WireString → List ℕ → Type 0
OfLiteral side (strings.Quoted raw) t = ⊥
OfLiteral side (strings.Literal octets) t = Literal side octets t

from_quoted : (s : WireString) (t : List ℕ) → OfQuoted s t → (raw : List ℕ) × (s ≡ strings.Quoted raw) × RawText raw t
from_quoted (strings.Quoted raw) t h = (raw, refl, h)
from_quoted (strings.Literal octets) t h = absurd h

from_literal : (side : Speaker) (s : WireString) (t : List ℕ) → OfLiteral side s t → (octets : List ℕ) × (s ≡ strings.Literal octets) × Literal side octets t
from_literal side (strings.Quoted raw) t h = absurd h
from_literal side (strings.Literal octets) t h = (octets, refl, h)

quoted_first : (s : WireString) (t : List ℕ) → OfQuoted s t → Begins true (λ b. eqb b 34) t
quoted_first s t h = let x = from_quoted s t h in raw_begins (λ b. eqb b 34) true refl x.0 t x.2

literal_next : (side : Speaker) (s : WireString) (t : List ℕ) → OfLiteral side s t → Begins false (λ b. eqb b 34) t
literal_next side s t h = let x = from_literal side s t h in literal_begins side (λ b. eqb b 34) false refl x.0 t x.2

to_string : (side : Speaker) (s : WireString) (t : List ℕ) → OfQuoted s t ⊎ OfLiteral side s t → StringText side s t
to_string side (strings.Quoted raw) t (inl h) = h
to_string side (strings.Quoted raw) t (inr h) = absurd h
to_string side (strings.Literal octets) t (inl h) = absurd h
to_string side (strings.Literal octets) t (inr h) = h

from_string : (side : Speaker) (s : WireString) (t : List ℕ) → StringText side s t → OfQuoted s t ⊎ OfLiteral side s t
from_string side (strings.Quoted raw) t h = inl h
from_string side (strings.Literal octets) t h = inr h

pub string_part : {side : Speaker} → Part side true (Open is_atom_byte) (StringText side) (string_at side)
string_part {side} = same_part (to_string side) (from_string side)
    (first_part (λ b. eqb b 34)
    (mapped_part {M = OfQuoted} strings.Quoted (λ raw t h. h) from_quoted quoted_ended)
    (mapped_part {M = OfLiteral side} strings.Literal (λ octets t h. h) (from_literal side) literal_ended)
    quoted_first (literal_next side))

-- ---- strings or NIL

abbrev nil : List ℕ
nil = codes "NIL"

abbrev OfSome : Speaker → Option WireString → List ℕ → Type 0
OfSome side None t = ⊥
OfSome side (Some s) t = StringText side s t

abbrev OfNone : Option WireString → List ℕ → Type 0
OfNone None t = Word nil t
OfNone (Some s) t = ⊥

from_some : (side : Speaker) (v : Option WireString) (t : List ℕ) → OfSome side v t → (s : WireString) × (v ≡ Some s) × StringText side s t
from_some side None t h = absurd h
from_some side (Some s) t h = (s, refl, h)

from_none : (v : Option WireString) (t : List ℕ) → OfNone v t → (u : Unit {0}) × (v ≡ None) × Word nil t
from_none None t h = (tt, refl, h)
from_none (Some s) t h = absurd h

string_begins : (side : Speaker) (s : WireString) (t : List ℕ) → StringText side s t → Begins true begins_string t
string_begins side (strings.Quoted raw) t h = raw_begins begins_string true refl raw t h
string_begins side (strings.Literal octets) t h = literal_begins side begins_string true refl octets t h

some_first : (side : Speaker) (v : Option WireString) (t : List ℕ) → OfSome side v t → Begins true begins_string t
some_first side v t h = let x = from_some side v t h in string_begins side x.0 t x.2

-- a byte whose upper case is N
no_string : (b : ℕ) → upper b ≡ 78 → begins_string b ≡ false
no_string b h =
    elim (cases_Bool (begins_string b)) [
      | inr e ↦ e
      | inl e ↦
          absurd (elim (cases_Bool (eqb b 34)) [
            | inl q ↦ let wrong : 34 ≡ 78 = sym (ap upper (eqb-true b 34 q)) ∙ h in omega (arith, wrong)
            | inr q ↦
                let brace : eqb b 123 ≡ true = sym (ap (λ (x : Bool). x || eqb b 123) q) ∙ e in
                let wrong : 123 ≡ 78 = sym (ap upper (eqb-true b 123 brace)) ∙ h in omega (arith, wrong)
          ])
    ]

none_next : (v : Option WireString) (t : List ℕ) → OfNone v t → Begins false begins_string t
none_next v [] h = let w = (from_none v [] h).2 in absurd cc
none_next v (b ∷ t) h =
    let w = (from_none v (b ∷ t) h).2 in
    let head : upper b ≡ 78 = cc in
    no_string b head

to_nstring : (side : Speaker) (v : Option WireString) (t : List ℕ) → OfSome side v t ⊎ OfNone v t → NStringText side v t
to_nstring side None t (inl h) = absurd h
to_nstring side None t (inr h) = h
to_nstring side (Some s) t (inl h) = h
to_nstring side (Some s) t (inr h) = absurd h

from_nstring : (side : Speaker) (v : Option WireString) (t : List ℕ) → NStringText side v t → OfSome side v t ⊎ OfNone v t
from_nstring side None t h = inr h
from_nstring side (Some s) t h = inl h

pub nstring_part : {side : Speaker} → Part side true (Open is_atom_byte) (NStringText side) (nstring_at side)
nstring_part {side} = same_part (to_nstring side) (from_nstring side)
    (first_part begins_string
    (mapped_part {M = OfSome side} (λ s. Some s) (λ s t h. h) (from_some side) string_part)
    (mapped_part {L = λ _ t. Word nil t} {M = OfNone} (λ _. None) (λ u t h. h) from_none (ended_part is_atom_byte (word_part nil (refl, refl))))
    (some_first side) none_next)

-- ---- atoms or strings

abbrev IsAtomText : AString → List ℕ → Type 0
IsAtomText (astrings.Atom atom) t = AtomText atom t
IsAtomText (astrings.Quoted raw) t = ⊥
IsAtomText (astrings.Literal octets) t = ⊥

abbrev IsQuotedText : AString → List ℕ → Type 0
IsQuotedText (astrings.Atom atom) t = ⊥
IsQuotedText (astrings.Quoted raw) t = RawText raw t
IsQuotedText (astrings.Literal octets) t = ⊥

abbrev IsLiteralText : Speaker → AString → List ℕ → Type 0
IsLiteralText side (astrings.Atom atom) t = ⊥
IsLiteralText side (astrings.Quoted raw) t = ⊥
IsLiteralText side (astrings.Literal octets) t = Literal side octets t

atom_of : (s : AString) (t : List ℕ) → IsAtomText s t → (a : List ℕ) × (s ≡ astrings.Atom a) × AtomText a t
atom_of (astrings.Atom atom) t h = (atom, refl, h)
atom_of (astrings.Quoted raw) t h = absurd h
atom_of (astrings.Literal octets) t h = absurd h

quoted_of : (s : AString) (t : List ℕ) → IsQuotedText s t → (raw : List ℕ) × (s ≡ astrings.Quoted raw) × RawText raw t
quoted_of (astrings.Atom atom) t h = absurd h
quoted_of (astrings.Quoted raw) t h = (raw, refl, h)
quoted_of (astrings.Literal octets) t h = absurd h

literal_of : (side : Speaker) (s : AString) (t : List ℕ) → IsLiteralText side s t → (octets : List ℕ) × (s ≡ astrings.Literal octets) × Literal side octets t
literal_of side (astrings.Atom atom) t h = absurd h
literal_of side (astrings.Quoted raw) t h = absurd h
literal_of side (astrings.Literal octets) t h = (octets, refl, h)

abbrev Other : Speaker → AString → List ℕ → Type 0
Other side s t = IsLiteralText side s t ⊎ IsAtomText s t

other_next : (side : Speaker) (s : AString) (t : List ℕ) → Other side s t → Begins false (λ b. eqb b 34) t
other_next side s t (inl h) = let x = literal_of side s t h in literal_begins side (λ b. eqb b 34) false refl x.0 t x.2
other_next side s t (inr h) = let x = atom_of s t h in atom_begins 34 refl x.0 t x.2

to_astring : (side : Speaker) (s : AString) (t : List ℕ) → IsQuotedText s t ⊎ Other side s t → AStringText side s t
to_astring side (astrings.Atom atom) t (inl h) = absurd h
to_astring side (astrings.Atom atom) t (inr (inl h)) = absurd h
to_astring side (astrings.Atom atom) t (inr (inr h)) = h
to_astring side (astrings.Quoted raw) t (inl h) = h
to_astring side (astrings.Quoted raw) t (inr (inl h)) = absurd h
to_astring side (astrings.Quoted raw) t (inr (inr h)) = absurd h
to_astring side (astrings.Literal octets) t (inl h) = absurd h
to_astring side (astrings.Literal octets) t (inr (inl h)) = h
to_astring side (astrings.Literal octets) t (inr (inr h)) = absurd h

from_astring : (side : Speaker) (s : AString) (t : List ℕ) → AStringText side s t → IsQuotedText s t ⊎ Other side s t
from_astring side (astrings.Atom atom) t h = inr (inr h)
from_astring side (astrings.Quoted raw) t h = inl h
from_astring side (astrings.Literal octets) t h = inr (inl h)

pub astring_part : {side : Speaker} → Part side true (Open is_atom_byte) (AStringText side) (astring_at side)
astring_part {side} = same_part (to_astring side) (from_astring side)
    (first_part (λ b. eqb b 34)
    (mapped_part {M = IsQuotedText} astrings.Quoted (λ raw t h. h) quoted_of quoted_ended)
    (first_part (λ b. eqb b 123)
    (mapped_part {M = IsLiteralText side} astrings.Literal (λ octets t h. h) (literal_of side) literal_ended)
    (mapped_part {M = IsAtomText} astrings.Atom (λ atom t h. h) atom_of atom_part)
    (λ s t h. let x = literal_of side s t h in literal_begins side (λ b. eqb b 123) true refl x.0 t x.2)
    (λ s t h. let x = atom_of s t h in atom_begins 123 refl x.0 t x.2))
    (λ s t h. let x = quoted_of s t h in raw_begins (λ b. eqb b 34) true refl x.0 t x.2)
    (other_next side))

-- ---- the bytes for which they stand

to_value : (side : Speaker) (s : AString) (t : List ℕ) → AStringText side s t → ValueText side (value_of s) t
to_value side (astrings.Atom atom) t h = inl h
to_value side (astrings.Quoted raw) t h = let v = raw_value raw h.1 in inr (inl (h.0 ∙ ap (λ (x : List ℕ). 34 ∷ x ++ 34 ∷ []) v.is, v.each))
to_value side (astrings.Literal octets) t h = inr (inr h)

from_value : (side : Speaker) (v t : List ℕ) → ValueText side v t → (s : AString) × (v ≡ value_of s) × AStringText side s t
from_value side v t (inl h) = (astrings.Atom v, refl, h)
from_value side v t (inr (inl h)) = (astrings.Quoted (flat_map escaped v), sym (unescaped_escapes v), (h.0, record { value = v; of = record { is = refl; each = h.1 } }))
from_value side v t (inr (inr h)) = (astrings.Literal v, refl, h)

pub value_part : {side : Speaker} → Part side true (Open is_atom_byte) (ValueText side) (value_at side)
value_part {side} = mapped_part {L = AStringText side} value_of (to_value side) (from_value side) astring_part

-- ---- bytes that have a string

atom_text : (b : ℕ) → is_atom_byte b ≡ true → is_text b ≡ true
atom_text b h =
    let p = and_parts _ _ h in
    let range = and_parts _ _ p.0 in
    let least : 33 ≤ b = leb-true 33 b range.0 in
    let most : b ≤ 126 = leb-true b 126 range.1 in
    and_from (leb 32 b) (not (eqb b 127)) (le-leb 32 b (omega (arith, least))) (ap not (ne_eqb b 127 (λ e. omega (arith, e, most))))

all_atom : (a : List ℕ) → list_all is_atom_byte a ≡ true → list_all is_text a ≡ true
all_atom [] h = refl
all_atom (b ∷ a) h = let p = and_parts _ _ h in and_from _ _ (atom_text b p.0) (all_atom a p.1)

pub atom_value : (a bytes : List ℕ) → IsAtom a → bytes ≡ a → IsValue bytes
atom_value a bytes h e = inl (ap (list_all is_text) e ∙ all_atom a h.each)

pub quoted_value : (value raw : List ℕ) → RawOf value raw → IsValue value
quoted_value value raw h = inl h.each

pub literal_value : (octets bytes : List ℕ) → IsLiteral octets → bytes ≡ octets → IsValue bytes
literal_value octets bytes h e = inr (subst IsLiteral (sym e) h)
