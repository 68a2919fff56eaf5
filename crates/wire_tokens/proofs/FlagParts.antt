-- Lists of flags in brackets, as parts of a grammar.
use Rattle.std.proofs.Common.{◌≡◌, ℕ, true, false, List, [], ◌∷◌, ◌++◌, refl, sym, ap, subst, ◌∙◌, inl, inr, ◌⊎◌}
use Rattle.std.proofs.lemmas.Bool.{eqb-true}
use Rattle.wire_reader.specs.declared.side.Speaker.{Speaker}
use Rattle.wire_reader.specs.Spelling.{◌⨾◌, Is}
use Rattle.wire_reader.proofs.Reader.{Closed}
use Rattle.wire_reader.proofs.Parts.{after_closed, after_open}
use Rattle.wire_reader.proofs.First.{Begins}
use Rattle.wire_reader.proofs.Part.{Part, same_part, mapped_part, skip_part, keep_part, first_part, byte_part}
use Rattle.wire_tokens.specs.declared.spaced.NameKind.{NameKind}
use Rattle.wire_tokens.specs.declared.spaced.NameKind.TheVariants as kinds
use Rattle.wire_tokens.specs.Names.{IsFlag, IsName, SpacedText}
use Rattle.wire_tokens.specs.FlagLists.{ListedText, BracketedText, FlagsText, PermanentFlagsText, is_close, no_name_at, after_bracket, bracketed_at, flags_at, permanent_flags_at}
use Rattle.wire_tokens.proofs.NameParts.{atom_begins, spaced_part}

abbrev Text : Type 0
Text = List ℕ

abbrev Open' : Text → Type 0
Open' t = Begins false is_close t

-- ---- a name does not begin with `)`

flag_begins : (t : Text) → IsFlag t → Open' t
flag_begins t (inl b) = subst Open' (sym b.parts) refl
flag_begins t (inr i) = atom_begins is_close 41 (λ b e. eqb-true b 41 e) refl t i

name_begins : (kind : NameKind) (t : Text) → IsName kind t → Open' t
name_begins kinds.Atom t i = atom_begins is_close 41 (λ b e. eqb-true b 41 e) refl t i
name_begins kinds.Flag t h = flag_begins t h
name_begins kinds.PermanentFlag t (inl e) = subst Open' (sym e) refl
name_begins kinds.PermanentFlag t (inr h) = flag_begins t h

longer : (front back : Text) → Open' front → Open' (front ++ back)
longer [] back h = absurd h
longer (b ∷ front) back h = h

pub names_begin : (kind : NameKind) (names : List Text) (t : Text) → SpacedText kind names t → Open' t
names_begin kind [] t h = absurd h
names_begin kind (a ∷ []) t h = name_begins kind t h.1
names_begin kind (a ∷ b ∷ names) t h = subst Open' (sym h.parts) (longer h.front h.back (name_begins kind h.front h.first.1))

-- ---- after the first bracket

abbrev NoName : List Text → Text → Type 0
NoName names t = (names ≡ []) × Is (41 ∷ []) t

abbrev SomeNames : NameKind → List Text → Text → Type 0
SomeNames kind names = SpacedText kind names ⨾ Is (41 ∷ [])

no_name_part : {side : Speaker} → Part side true Closed NoName no_name_at
no_name_part = mapped_part (λ _. []) (λ _ t h. (refl, h)) (λ names t h. (tt, h.0, h.1)) (byte_part 41 refl)

after_part : {side : Speaker} (kind : NameKind) → Part side true Closed (λ names t. NoName names t ⊎ SomeNames kind names t) (after_bracket kind)
after_part kind = first_part is_close no_name_part (keep_part (spaced_part kind) (byte_part 41 refl) (after_open _ 41 refl))
    (λ names t h. subst (Begins true is_close) (sym h.1) refl) (λ names t h. subst Open' (sym h.parts) (longer h.front h.back (names_begin kind names h.front h.first)))

pub bracketed_part : {side : Speaker} (kind : NameKind) → Part side true Closed (BracketedText kind) (bracketed_at kind)
bracketed_part {side} kind = same_part to from (skip_part (byte_part 40 refl) (after_part kind) (after_closed (after_bracket kind)))
  where
    to : (names : List Text) (t : Text) → (Is (40 ∷ []) ⨾ (λ t. NoName names t ⊎ SomeNames kind names t)) t → BracketedText kind names t
    to names t h = record { front = h.front; back = h.back; parts = h.parts; first = h.first; second = inside names h.back h.second }
      where
        inside : (names : List Text) (t : Text) → (NoName names t ⊎ SomeNames kind names t) → (ListedText kind names ⨾ Is (41 ∷ [])) t
        inside [] t (inl h) = record { front = []; back = t; parts = refl; first = refl; second = h.1 }
        inside [] t (inr h) = absurd h.first
        inside (n ∷ names) t (inl h) = absurd (let e = h.0 in cc)
        inside (n ∷ names) t (inr h) = h

    from : (names : List Text) (t : Text) → BracketedText kind names t → (Is (40 ∷ []) ⨾ (λ t. NoName names t ⊎ SomeNames kind names t)) t
    from names t h = record { front = h.front; back = h.back; parts = h.parts; first = h.first; second = inside names h.back h.second }
      where
        inside : (names : List Text) (t : Text) → (ListedText kind names ⨾ Is (41 ∷ [])) t → NoName names t ⊎ SomeNames kind names t
        inside [] t h = inl (refl, h.parts ∙ ap (λ (x : Text). x ++ h.back) h.first ∙ h.second)
        inside (n ∷ names) t h = inr h

-- ---- lists of flags

pub flags_part : {side : Speaker} → Part side true Closed FlagsText flags_at
flags_part = bracketed_part kinds.Flag

pub permanent_flags_part : {side : Speaker} → Part side true Closed PermanentFlagsText permanent_flags_at
permanent_flags_part = bracketed_part kinds.PermanentFlag
