-- Flags and other names as parts of a grammar, and lists of them with a space between.
use Rattle.std.proofs.Common.{◌≡◌, ℕ, Bool, true, false, List, [], ◌∷◌, ◌++◌, refl, sym, ap, subst, ◌∙◌, inl, inr, ◌⊎◌, arith}
use Rattle.std.proofs.lemmas.Bool.{cases_Bool, eqb-true, true≢false, and_parts}
use Rattle.wire_reader.specs.declared.side.Speaker.{Speaker}
use Rattle.wire_reader.specs.Spelling.{◌⨾◌, Is}
use Rattle.wire_reader.proofs.Reader.{Open}
use Rattle.wire_reader.proofs.Parts.{after_closed}
use Rattle.wire_reader.proofs.First.{Begins}
use Rattle.wire_reader.proofs.Items.{with_sep}
use Rattle.wire_reader.proofs.Part.{Part, same_part, mapped_part, skip_part, first_part, byte_part}
use Rattle.wire_reader.proofs.PartEnded.{ended_part}
use Rattle.wire_reader.proofs.PartItems.{items_part}
use Rattle.wire_tokens.specs.declared.spaced.NameKind.{NameKind}
use Rattle.wire_tokens.specs.declared.spaced.NameKind.TheVariants as kinds
use Rattle.wire_tokens.specs.Atoms.{is_atom_byte, IsAtom, AtomText}
use Rattle.wire_tokens.specs.Names.{star, NameText, SpacedText, NamesText, is_backslash, is_star, backslashed_at, flag_at, star_at, star_or_atom_at, permanent_flag_at, name_at, spaced_at, names_at}
use Rattle.wire_tokens.proofs.AtomParts.{atom_part}

abbrev Text : Type 0
Text = List ℕ

-- an atom begins with a byte of its class
pub atom_begins : (test : ℕ → Bool) (c : ℕ) → ((b : ℕ) → test b ≡ true → b ≡ c) → is_atom_byte c ≡ false → (t : Text) → IsAtom t → Begins false test t
atom_begins test c is lacks [] h = let some = h.some in omega (arith, some)
atom_begins test c is lacks (b ∷ t) h =
    elim (cases_Bool (test b)) [
      | inl e ↦ absurd (true≢false (sym (and_parts _ _ h.each).0 ∙ ap is_atom_byte (is b e) ∙ lacks))
      | inr e ↦ e
    ]

-- a text of the byte c, and then of P
begins : (test : ℕ → Bool) (c : ℕ) (P : Text → Type 0) → test c ≡ true → (t : Text) → (Is (c ∷ []) ⨾ P) t → Begins true test t
begins test c P fits t h = subst (Begins true test) (sym (h.parts ∙ ap (λ (x : Text). x ++ h.back) h.first)) fits

-- ---- `\` and an atom

abbrev Backslashed : Text → Text → Type 0
Backslashed name t = (a : Text) × (name ≡ 92 ∷ a) × AtomText a t

backslashed_part : {side : Speaker} → Part side true (Open is_atom_byte) Backslashed backslashed_at
backslashed_part = mapped_part (λ a. 92 ∷ a) (λ a t h. (a, refl, h)) (λ name t h. h) atom_part

pub flag_part : {side : Speaker} → Part side true (Open is_atom_byte) (NameText kinds.Flag) flag_at
flag_part {side} = same_part to from
    (first_part is_backslash (skip_part (byte_part 92 refl) backslashed_part (after_closed backslashed_at)) atom_part
    (λ name t h. begins is_backslash 92 (Backslashed name) refl t h) (λ name t h. atom_begins is_backslash 92 (λ b e. eqb-true b 92 e) refl t h.1))
  where
    to : (name t : Text) → ((Is (92 ∷ []) ⨾ Backslashed name) t ⊎ AtomText name t) → NameText kinds.Flag name t
    to name t (inl h) =
        let s = h.second in
        let whole : t ≡ 92 ∷ s.0 = h.parts ∙ ap (λ (x : Text). x ++ h.back) h.first ∙ ap (λ (x : Text). 92 ∷ x) s.2.0 in
        (whole ∙ sym s.1, inl (record { atom = s.0; parts = whole; is = subst IsAtom s.2.0 s.2.1 }))
    to name t (inr h) = (h.0, inr h.1)

    from : (name t : Text) → NameText kinds.Flag name t → (Is (92 ∷ []) ⨾ Backslashed name) t ⊎ AtomText name t
    from name t (e, inl b) = inl (record { front = 92 ∷ []; back = b.atom; parts = b.parts; first = refl; second = (b.atom, sym e ∙ b.parts, (refl, b.is)) })
    from name t (e, inr i) = inr (e, i)

-- ---- the same or `\*`

abbrev Star : Text → Text → Type 0
Star name t = (name ≡ star) × Is (42 ∷ []) t

star_part : {side : Speaker} → Part side true (Open is_atom_byte) Star star_at
star_part = ended_part is_atom_byte (mapped_part (λ _. star) (λ _ t h. (refl, h)) (λ name t h. (tt, h.0, h.1)) (byte_part 42 refl))

abbrev StarOrAtom : Text → Text → Type 0
StarOrAtom name t = Star name t ⊎ Backslashed name t

star_or_atom_part : {side : Speaker} → Part side true (Open is_atom_byte) StarOrAtom star_or_atom_at
star_or_atom_part = first_part is_star star_part backslashed_part
    (λ name t h. subst (Begins true is_star) (sym h.1) refl) (λ name t h. atom_begins is_star 42 (λ b e. eqb-true b 42 e) refl t h.2.1)

pub permanent_flag_part : {side : Speaker} → Part side true (Open is_atom_byte) (NameText kinds.PermanentFlag) permanent_flag_at
permanent_flag_part {side} = same_part to from
    (first_part is_backslash (skip_part (byte_part 92 refl) star_or_atom_part (after_closed star_or_atom_at)) atom_part
    (λ name t h. begins is_backslash 92 (StarOrAtom name) refl t h) (λ name t h. atom_begins is_backslash 92 (λ b e. eqb-true b 92 e) refl t h.1))
  where
    whole : (name t back : Text) → t ≡ 92 ∷ back → StarOrAtom name back → NameText kinds.PermanentFlag name t
    whole name t back e (inl s) = let is = e ∙ ap (λ (x : Text). 92 ∷ x) s.1 in (is ∙ sym s.0, inl is)
    whole name t back e (inr s) = let is = e ∙ ap (λ (x : Text). 92 ∷ x) s.2.0 in (is ∙ sym s.1, inr (inl (record { atom = s.0; parts = is; is = subst IsAtom s.2.0 s.2.1 })))

    to : (name t : Text) → ((Is (92 ∷ []) ⨾ StarOrAtom name) t ⊎ AtomText name t) → NameText kinds.PermanentFlag name t
    to name t (inl h) = whole name t h.back (h.parts ∙ ap (λ (x : Text). x ++ h.back) h.first) h.second
    to name t (inr h) = (h.0, inr (inr h.1))

    from : (name t : Text) → NameText kinds.PermanentFlag name t → (Is (92 ∷ []) ⨾ StarOrAtom name) t ⊎ AtomText name t
    from name t (e, inl s) = inl (record { front = 92 ∷ []; back = 42 ∷ []; parts = s; first = refl; second = inl (sym e ∙ s, refl) })
    from name t (e, inr (inl b)) = inl (record { front = 92 ∷ []; back = b.atom; parts = b.parts; first = refl; second = inr (b.atom, sym e ∙ b.parts, (refl, b.is)) })
    from name t (e, inr (inr i)) = inr (e, i)

-- ---- each kind, and lists

pub name_part : {side : Speaker} (kind : NameKind) → Part side true (Open is_atom_byte) (NameText kind) (name_at kind)
name_part kinds.Atom = atom_part
name_part kinds.Flag = flag_part
name_part kinds.PermanentFlag = permanent_flag_part

pub spaced_part : {side : Speaker} (kind : NameKind) → Part side true (with_sep (Open is_atom_byte) 32) (SpacedText kind) (spaced_at kind)
spaced_part {side} kind = items_part side 32 refl refl (name_part kind)

pub names_part : {side : Speaker} → Part side true (with_sep (Open is_atom_byte) 32) NamesText names_at
names_part = spaced_part kinds.Atom
