-- How many bytes the texts of tokens have, at most.
use Rattle.std.proofs.Common.{◌≡◌, ℕ, ◌+◌, ◌≤◌, true, List, [], ◌∷◌, length, refl, ap, arith}
use Rattle.std.proofs.lemmas.List.{length-append}
use Rattle.std.proofs.lemmas.List.Sums.{sum_by-cons}
use Rattle.wire_reader.specs.declared.side.Speaker.TheVariants.{Commands}
use Rattle.wire_reader.specs.declared.lexical.Phase.TheVariants.{Plain}
use Rattle.wire_reader.specs.Spelling.{is_digit}
use Rattle.wire_reader.specs.Lexical.{phase}
use Rattle.wire_reader.proofs.Reader.{Open}
use Rattle.wire_reader.proofs.Part.{Part}
use Rattle.wire_reader.proofs.PartOpt.{goes_on}
use Rattle.wire_reader.proofs.Fitting.{Fits, outside-le, number_few, items_fit, as_few, both_fit, is_fits}
use Rattle.wire_tokens.specs.declared.spaced.NameKind.{NameKind}
use Rattle.wire_tokens.specs.declared.spaced.NameKind.TheVariants as kinds
use Rattle.wire_tokens.specs.declared.uid_set.SetEnd.{SetEnd}
use Rattle.wire_tokens.specs.declared.uid_set.SetEnd.TheVariants.{Number, Greatest}
use Rattle.wire_tokens.specs.declared.uid_set.SetItem.{SetItem}
use Rattle.wire_tokens.specs.declared.uid_set.SetItem.TheVariants.{One, Range}
use Rattle.wire_tokens.specs.Atoms.{is_atom_byte, is_tag_byte, TagText, AtomText, tag_at, atom_at}
use Rattle.wire_tokens.specs.Numbers.{NumberText, NzText, number_at, nz_at}
use Rattle.wire_tokens.specs.Names.{NameText, NamesText, name_at}
use Rattle.wire_tokens.specs.FlagLists.{ListedText, BracketedText, FlagsText}
use Rattle.wire_tokens.specs.Sets.{EndText, ItemText, SetText, item_at}
use Rattle.wire_tokens.specs.Room.{most_item, most_set, most_names, most_flags}
use Rattle.wire_tokens.proofs.AtomParts.{tag_part, atom_part}
use Rattle.wire_tokens.proofs.NumberParts.{number_part, nz_part}
use Rattle.wire_tokens.proofs.NameParts.{name_part}
use Rattle.wire_tokens.proofs.SetParts.{item_part}

-- a text of so many bytes
by_length : (most : ℕ) (t : List ℕ) → phase Plain t ≡ Plain → length t ≤ most → Fits most t
by_length most t plain le = record { plain = plain; few = omega (arith, le, outside-le Plain t) }

pub tag_fits : (tag t : List ℕ) → TagText tag t → Fits (length tag) t
tag_fits tag t h = let p : Part Commands true (Open is_tag_byte) TagText tag_at = tag_part in by_length (length tag) t ((p.leads refl).after tag t h) (omega (arith, ap length h.0))

pub atom_fits : (atom t : List ℕ) → AtomText atom t → Fits (length atom) t
atom_fits atom t h = let p : Part Commands true (Open is_atom_byte) AtomText atom_at = atom_part in by_length (length atom) t ((p.leads refl).after atom t h) (omega (arith, ap length h.0))

pub number_fits : (n : ℕ) (t : List ℕ) → NumberText n t → Fits 10 t
number_fits n t h = let p : Part Commands true (Open is_digit) NumberText number_at = number_part in by_length 10 t ((p.leads refl).after n t h) (number_few n t h.0 h.1)

pub nz_fits : (n : ℕ) (t : List ℕ) → NzText n t → Fits 10 t
nz_fits n t h = let p : Part Commands true (Open is_digit) NzText nz_at = nz_part in by_length 10 t ((p.leads refl).after n t h) (number_few n t h.0 h.2)

-- ---- sets

end_few : (x : SetEnd) (t : List ℕ) → EndText x t → length t ≤ 10
end_few (Number n) t h = number_few n t h.0 h.2
end_few Greatest t h = omega (arith, ap length h)

item_few : (item : SetItem) (t : List ℕ) → ItemText item t → length t ≤ most_item item
item_few (One x) t h = end_few x t h
item_few (Range x y) t h =
    let s = h.second in
    let a = end_few x h.front h.first in
    let b = end_few y s.back s.second in
    omega (arith, a, b, ap length h.parts, length-append h.front h.back, ap length s.parts, length-append s.front s.back, ap length s.first)

item_fits : (item : SetItem) (t : List ℕ) → ItemText item t → Fits (most_item item) t
item_fits item t h = let p : Part Commands true (Open (goes_on is_digit 58)) ItemText item_at = item_part in by_length (most_item item) t ((p.leads refl).after item t h) (item_few item t h)

pub set_fits : (items : List SetItem) (t : List ℕ) → SetText items t → Fits (most_set items) t
set_fits items t h = items_fit 44 ItemText most_item refl item_fits items t h

-- ---- names and flags

name_fits : (name t : List ℕ) → NameText kinds.Atom name t → Fits (length name) t
name_fits name t h = let p : Part Commands true (Open is_atom_byte) (NameText kinds.Atom) (name_at kinds.Atom) = name_part kinds.Atom in by_length (length name) t ((p.leads refl).after name t h) (omega (arith, ap length h.0))

pub names_fit : (names : List (List ℕ)) (t : List ℕ) → NamesText names t → Fits (most_names names) t
names_fit names t h = items_fit 32 (NameText kinds.Atom) length refl name_fits names t h

flag_fits : (kind : NameKind) (name t : List ℕ) → NameText kind name t → Fits (length name) t
flag_fits kind name t h =
    let p : Part Commands true (Open is_atom_byte) (NameText kind) (name_at kind) = name_part kind in
    by_length (length name) t ((p.leads refl).after name t h) (omega (arith, ap length h.0))

listed_fits : (kind : NameKind) (names : List (List ℕ)) (t : List ℕ) → ListedText kind names t → Fits (most_names names) t
listed_fits kind [] t h = is_fits [] refl t h
listed_fits kind (name ∷ names) t h = items_fit 32 (NameText kind) length refl (flag_fits kind) (name ∷ names) t h

pub bracketed_fits : (kind : NameKind) (names : List (List ℕ)) (t : List ℕ) → BracketedText kind names t → Fits (most_flags names) t
bracketed_fits kind names t h =
    let most = most_names names in
    as_few (1 + (most + 1)) (most + 2) t (omega arith) (both_fit 1 (most + 1) (is_fits (40 ∷ []) refl) (both_fit most 1 (listed_fits kind names) (is_fits (41 ∷ []) refl)) t h)

pub flags_fit : (names : List (List ℕ)) (t : List ℕ) → FlagsText names t → Fits (most_flags names) t
flags_fit = bracketed_fits kinds.Flag

-- a text without literals stands outside them whole
listed_long : (kind : NameKind) (names : List (List ℕ)) (t : List ℕ) → ListedText kind names t → length t ≤ most_names names
listed_long kind [] t h = omega (arith, ap length h)
listed_long kind (a ∷ []) t h = omega (arith, ap length h.0, sum_by-cons (λ (n : List ℕ). length n + 1) a [])
listed_long kind (a ∷ b ∷ names) t h =
    let s = h.second in
    let later = listed_long kind (b ∷ names) s.back s.second in
    omega (arith, ap length h.parts, length-append h.front h.back, ap length h.first.0, ap length s.parts, length-append s.front s.back, ap length s.first, later, sum_by-cons (λ (n : List ℕ). length n + 1) a (b ∷ names))

pub bracketed_long : (kind : NameKind) (names : List (List ℕ)) (t : List ℕ) → BracketedText kind names t → length t ≤ most_flags names
bracketed_long kind names t h =
    let s = h.second in
    omega (arith, ap length h.parts, length-append h.front h.back, ap length h.first, ap length s.parts, length-append s.front s.back, ap length s.second, listed_long kind names s.front s.first)
