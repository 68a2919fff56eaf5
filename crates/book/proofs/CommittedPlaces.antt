-- The flags that notes record of an entry stand at one place of a plan.
use Rattle.std.proofs.Common.{◌≡◌, ◌∙◌, ℕ, Bool, true, false, not, ◌&&◌, ◌||◌, ◌==◌, cond, List, [], ◌∷◌, Option, Some, None, refl, sym, ap}
use Rattle.std.specs.List.{list_any}
use Rattle.std.proofs.lemmas.Bool.{and_parts, both_ways, eq-eqb, eqb-true, false≢true, false_from_ne_true, or_parts}
use Rattle.std.proofs.lemmas.List.Folds.{list_any_none}
use Rattle.rules.specs.declared.entry.Entry.{Entry}
use Rattle.rules.specs.Entries.{is_same, is_full}
use Rattle.rules.specs.declared.plan.Note.{Note}
use Rattle.rules.specs.declared.plan.Note.TheVariants as note
use Rattle.sync_state.specs.JournalText.{note_place}
use Rattle.book.specs.Agreement.{is_pair}
use Rattle.book.specs.Committed.{recorded}
use Rattle.book.specs.Changes.{record_place}
use Rattle.book.specs.PlacedLists.{Stands}

same_is : (x y : Option ℕ) → is_same x y ≡ true → x ≡ y
same_is None None h = refl
same_is None (Some v) h = absurd (false≢true h)
same_is (Some u) None h = absurd (false≢true h)
same_is (Some u) (Some v) h = ap (λ (n : ℕ). Some n) (eqb-true u v h)

pub pair_is : (far near : Option ℕ) (e : Entry) → is_pair far near e ≡ true → (e.far ≡ far) × (e.near ≡ near)
pair_is far near e h =
    let both = and_parts (is_same e.far far) (is_same e.near near) h in
    (same_is e.far far both.0, same_is e.near near both.1)

-- ---- notes that record its flags

abbrev records : Entry → Note → Bool
records e (note.Record far near flags) = is_pair (Some far) (Some near) e
records e (note.Drop far near) = false

-- with other flags
abbrev records_others : Entry → ℕ → Note → Bool
records_others e own (note.Record far near flags) = is_pair (Some far) (Some near) e && not (flags == own)
records_others e own (note.Drop far near) = false

record_at : (e : Entry) (n : Note) → records e n ≡ true → note_place n ≡ record_place e
record_at e (note.Record f n g) h =
    let same = pair_is (Some f) (Some n) e h in
    rw (same.0, same.1) refl
record_at e (note.Drop f n) h = absurd (false≢true h)

others_record : (e : Entry) (own : ℕ) (n : Note) → records_others e own n ≡ true → records e n ≡ true
others_record e own (note.Record f n g) h = (and_parts (is_pair (Some f) (Some n) e) (not (g == own)) h).0
others_record e own (note.Drop f n) h = absurd (false≢true h)

none_recorded : (e : Entry) (notes : List Note) → list_any (records e) notes ≡ false → recorded e notes ≡ e.flags
none_recorded e [] h = refl
none_recorded e (note.Record far near flags ∷ notes) h =
    let u = or_parts (is_pair (Some far) (Some near) e) (list_any (records e) notes) h in
    ap (λ (b : Bool). cond b flags (recorded e notes)) u.0 ∙ none_recorded e notes u.1
none_recorded e (note.Drop far near ∷ notes) h = none_recorded e notes h

not_other : (g own : ℕ) → not (g == own) ≡ false → g ≡ own
not_other g own h = eqb-true g own (flip (g == own) h) where
  flip : (b : Bool) → not b ≡ false → b ≡ true
  flip true e = refl
  flip false e = absurd (false≢true (sym e))

one_recorded : (e : Entry) (own : ℕ) (notes : List Note) → list_any (records e) notes ≡ true → list_any (records_others e own) notes ≡ false → recorded e notes ≡ own
one_recorded e own [] h o = absurd (false≢true h)
one_recorded e own (note.Record far near flags ∷ notes) h o = by_test (is_pair (Some far) (Some near) e) h o (λ l p. one_recorded e own notes l p) where
  by_test : (b : Bool) → (b || list_any (records e) notes) ≡ true → ((b && not (flags == own)) || list_any (records_others e own) notes) ≡ false
      → (list_any (records e) notes ≡ true → list_any (records_others e own) notes ≡ false → recorded e notes ≡ own) → cond b flags (recorded e notes) ≡ own
  by_test true l p later = not_other flags own (or_parts (not (flags == own)) (list_any (records_others e own) notes) p).0
  by_test false l p later = later l p
one_recorded e own (note.Drop far near ∷ notes) h o = one_recorded e own notes h o

-- the flags that the note at the entry's place records
pub recorded_none : (e : Entry) (notes : List Note) → Stands note_place (record_place e) notes None → recorded e notes ≡ e.flags
recorded_none e notes stands = none_recorded e notes (stands (records e) (record_at e))

pub recorded_here : (e : Entry) (notes : List Note) (n : Note) → Stands note_place (record_place e) notes (Some n) → recorded e notes ≡ recorded e (n ∷ [])
recorded_here e notes (note.Drop f g) stands = none_recorded e notes (stands (records e) (record_at e))
recorded_here e notes (note.Record f n g) stands = by_test (is_pair (Some f) (Some n) e) refl where
  others : list_any (records_others e g) notes ≡ (is_pair (Some f) (Some n) e && not (g == g))
  others = stands (records_others e g) (λ m h. record_at e m (others_record e g m h))

  by_test : (b : Bool) → is_pair (Some f) (Some n) e ≡ b → recorded e notes ≡ cond b g e.flags
  by_test true t = one_recorded e g notes (stands (records e) (record_at e) ∙ t)
      (others ∙ ap (λ (b : Bool). b && not (g == g)) t ∙ ap not (eq-eqb g g refl))
  by_test false t = none_recorded e notes (stands (records e) (record_at e) ∙ t)

-- of an entry without both sides no note records flags
pub recorded_nowhere : (e : Entry) (notes : List Note) → is_full e ≡ false → recorded e notes ≡ e.flags
recorded_nowhere e notes half = none_recorded e notes (list_any_none (records e) notes (λ i x within. never _)) where
  never : (n : Note) → records e n ≡ false
  never (note.Record f n g) = false_from_ne_true (is_pair (Some f) (Some n) e) (λ h.
      let same = pair_is (Some f) (Some n) e h in
      let full : is_full e ≡ true = rw (same.0, same.1) refl in
      both_ways _ half full)
  never (note.Drop f n) = refl
