-- Texts of flags: what a list of names is as a text, and the names of a set.
use Rattle.std.proofs.Common.{◌≡◌, ℕ, suc, ◌+◌, ◌-◌, ◌*◌, ◌<◌, ◌≤◌, Bool, true, false, cond, leb, List, [], ◌∷◌, ◌++◌, map, filter, length, refl, sym, ap, subst, ◌∙◌, append_assoc, inl, inr, ◌⊎◌, arith}
use Rattle.std.specs.Prelude.{AllPairs, ◌&&◌, is_none}
use Rattle.std.specs.List.{All, fold, list_all}
use Rattle.std.proofs.lemmas.Bool.{and_parts, leb-true}
use Rattle.std.proofs.lemmas.List.Elements.{All-head, All-tail, All-append, All-cons, All-nil}
use Rattle.std.proofs.lemmas.List.Sums.{fold-append, sum_by-cons, sum_by-append}
use Rattle.mailcore.specs.AtomBytes.{is_atom}
use Rattle.mailcore.specs.declared.flags.Flag.{Flag}
use Rattle.mailcore.specs.declared.flags.Flag.TheVariants.{Draft, Flagged, Forwarded, Answered, Seen, Deleted}
use Rattle.mailcore.specs.declared.keywords.Keyword.{Keyword}
use Rattle.mailcore.specs.FlagNames.{place, imap_name, flag_named}
use Rattle.mailcore.specs.FlagSet.{has}
use Rattle.mailcore.specs.KeywordNames.{IsMap, is_keyword_name, is_keyword_letter, place_of, written_order, names_of as names_of_set}
use Rattle.wire_tokens.specs.declared.spaced.NameKind.{NameKind}
use Rattle.wire_tokens.specs.declared.spaced.NameKind.TheVariants as kinds
use Rattle.wire_tokens.specs.Atoms.{is_atom_byte}
use Rattle.wire_tokens.specs.Names.{IsFlag, IsName, SpacedText}
use Rattle.wire_tokens.specs.FlagLists.{ListedText, listed, with_name, spaced_out, with_flag_name, with_keyword_name}
use Rattle.wire_tokens.specs.Room.{most_names}
use Rattle.wire_tokens.proofs.FlagParts.{names_begin}
use Rattle.wire_tokens.proofs.SpacedNames.{names_are}

abbrev Text : Type 0
Text = List ℕ

-- ---- a text of names has just these names

pub listed_are : (kind : NameKind) (names : List Text) (t : Text) → ListedText kind names t → listed t ≡ names
listed_are kind [] t h = ap listed h
listed_are kind (a ∷ names) [] h = absurd (names_begin kind (a ∷ names) [] h)
listed_are kind (a ∷ names) (b ∷ bs) h = names_are kind (a ∷ names) (b ∷ bs) h

-- ---- flags are flags that may be changed

pub as_permanent : (names : List Text) (t : Text) → ListedText kinds.Flag names t → ListedText kinds.PermanentFlag names t
as_permanent [] t h = h
as_permanent (a ∷ []) t h = (h.0, inr h.1)
as_permanent (a ∷ b ∷ names) t h =
    let s = h.second in
    record {
      front = h.front;
      back = h.back;
      parts = h.parts;
      first = (h.first.0, inr h.first.1);
      second = record { front = s.front; back = s.back; parts = s.parts; first = s.first; second = as_permanent (b ∷ names) s.back s.second };
    }

-- ---- names with a space between are such a text

-- one name more after a text of some
more_spaced : (kind : NameKind) (front : List Text) (t name : Text) → SpacedText kind front t → IsName kind name → SpacedText kind (front ++ name ∷ []) (t ++ 32 ∷ name)
more_spaced kind [] t name h n = absurd h
more_spaced kind (a ∷ []) t name h n =
    record { front = t; back = 32 ∷ name; parts = refl; first = h; second = record { front = 32 ∷ []; back = name; parts = refl; first = refl; second = (refl, n) } }
more_spaced kind (a ∷ b ∷ front) t name h n =
    let s = h.second in
    record {
      front = h.front;
      back = h.back ++ 32 ∷ name;
      parts = ap (λ (x : Text). x ++ 32 ∷ name) h.parts ∙ append_assoc h.front h.back (32 ∷ name);
      first = h.first;
      second = record {
        front = s.front;
        back = s.back ++ 32 ∷ name;
        parts = ap (λ (x : Text). x ++ 32 ∷ name) s.parts ∙ append_assoc s.front s.back (32 ∷ name);
        first = s.first;
        second = more_spaced kind (b ∷ front) s.back name s.second n;
      };
    }

one_more : (kind : NameKind) (front : List Text) (t name : Text) → ListedText kind front t → IsName kind name → ListedText kind (front ++ name ∷ []) (with_name t name)
one_more kind [] t name h n = subst (λ (x : Text). SpacedText kind (name ∷ []) (with_name x name)) (sym h) (refl, n)
one_more kind (a ∷ front) [] name h n = absurd (names_begin kind (a ∷ front) [] h)
one_more kind (a ∷ front) (b ∷ bs) name h n = more_spaced kind (a ∷ front) (b ∷ bs) name h n

grown : (kind : NameKind) (front names : List Text) (t : Text) → ListedText kind front t → All (IsName kind) names → ListedText kind (front ++ names) (fold with_name t names)
grown kind front [] t h each = subst (λ (ns : List Text). ListedText kind ns t) (sym (append_none front)) h
  where
    append_none : (xs : List Text) → xs ++ [] ≡ xs
    append_none [] = refl
    append_none (x ∷ xs) = ap (λ (ys : List Text). x ∷ ys) (append_none xs)
grown kind front (name ∷ names) t h each =
    subst (λ (ns : List Text). ListedText kind ns (fold with_name (with_name t name) names)) (append_assoc front (name ∷ []) names)
    (grown kind (front ++ name ∷ []) names (with_name t name) (one_more kind front t name h (All-head (IsName kind) name names each)) (All-tail (IsName kind) name names each))

pub spaced_spelled : (kind : NameKind) (names : List Text) → All (IsName kind) names → ListedText kind names (spaced_out names)
spaced_spelled kind names each = grown kind [] names [] refl each

-- ---- the names of a set

six_flag : (flag : Flag) → IsFlag (imap_name flag)
six_flag Draft = inl (record { atom = _; parts = refl; is = record { each = refl; some = omega arith; most = omega arith } })
six_flag Flagged = inl (record { atom = _; parts = refl; is = record { each = refl; some = omega arith; most = omega arith } })
six_flag Forwarded = inr (record { each = refl; some = omega arith; most = omega arith })
six_flag Answered = inl (record { atom = _; parts = refl; is = record { each = refl; some = omega arith; most = omega arith } })
six_flag Seen = inl (record { atom = _; parts = refl; is = record { each = refl; some = omega arith; most = omega arith } })
six_flag Deleted = inl (record { atom = _; parts = refl; is = record { each = refl; some = omega arith; most = omega arith } })

-- what holds of the name of each holds of the names of some
picked : {X : Type 0} (P : Text → Type 0) (name : X → Text) (p : X → Bool) (xs : List X) → All (λ x. P (name x)) xs → All P (map name (filter p xs))
picked P name p [] h = All-nil P
picked {X} P name p (x ∷ xs) h =
    let later = picked P name p xs (All-tail (λ (x : X). P (name x)) x xs h) in
    elim (p x) as (λ b. All P (map name (cond b (x ∷ filter p xs) (filter p xs)))) [ true ↦ All-cons P (name x) (map name (filter p xs)) (All-head (λ (x : X). P (name x)) x xs h) later | false ↦ later ]

-- the parts of a test of an atom
keyword_atom : (name : Text) → is_keyword_name name ≡ true → ((0 < length name) × (length name ≤ 255)) × (list_all is_atom_byte name ≡ true)
keyword_atom name h =
    let atom : is_atom name ≡ true = (and_parts (is_atom name) (is_none (flag_named name)) h).0 in
    let parts = and_parts (leb 1 (length name) && leb (length name) 255) (list_all is_atom_byte name) atom in
    let long = and_parts (leb 1 (length name)) (leb (length name) 255) parts.0 in
    ((above long.0, leb-true (length name) 255 long.1), parts.1)
  where
    above : {n : ℕ} → leb 1 n ≡ true → 0 < n
    above {n} h = let l : 1 ≤ n = leb-true 1 n h in omega (arith, l)

keyword_flag : (name : Text) → is_keyword_name name ≡ true → IsFlag name
keyword_flag name h = let a = keyword_atom name h in inr (record { each = a.1; some = a.0.0; most = a.0.1 })

weaker : {X : Type 0} (P Q : X → Type 0) → ((x : X) → P x → Q x) → (xs : List X) → All P xs → All Q xs
weaker P Q f [] h = All-nil Q
weaker P Q f (x ∷ xs) h = All-cons Q x xs (f x (All-head P x xs h)) (weaker P Q f xs (All-tail P x xs h))

every : {X : Type 0} (Q : X → Type 0) → ((x : X) → Q x) → (xs : List X) → All Q xs
every Q f [] = All-nil Q
every Q f (x ∷ xs) = All-cons Q x xs (f x) (every Q f xs)

pub set_names : (keywords : List Keyword) (flags : ℕ) → IsMap keywords → All IsFlag (names_of_set keywords flags)
set_names keywords flags m =
    All-append IsFlag _ _
    (picked IsFlag imap_name (λ flag. has flags (place flag)) written_order (every (λ (flag : Flag). IsFlag (imap_name flag)) six_flag written_order))
    (picked IsFlag (λ (k : Keyword). k.name) (λ k. has flags (place_of k.letter)) keywords
    (weaker (λ (k : Keyword). is_keyword_name k.name ≡ true) (λ (k : Keyword). IsFlag k.name) (λ k h. keyword_flag k.name h) keywords m.names))

-- the text of a set is that of its names
picked_text : {X : Type 0} (name : X → Text) (p : X → Bool) (t : Text) (xs : List X)
    → fold (λ text x. cond (p x) (with_name text (name x)) text) t xs ≡ fold with_name t (map name (filter p xs))
picked_text name p t [] = refl
picked_text {X} name p t (x ∷ xs) =
    let taken = picked_text name p (with_name t (name x)) xs in
    let passed = picked_text name p t xs in
    elim (p x) as (λ b. fold (λ text x. cond (p x) (with_name text (name x)) text) (cond b (with_name t (name x)) t) xs ≡ fold with_name t (map name (cond b (x ∷ filter p xs) (filter p xs))))
    [ true ↦ taken | false ↦ passed ]

pub set_text : (keywords : List Keyword) (flags : ℕ) → fold (with_keyword_name flags) (fold (with_flag_name flags) [] written_order) keywords ≡ spaced_out (names_of_set keywords flags)
set_text keywords flags =
    ap (λ (t : Text). fold (with_keyword_name flags) t keywords) (picked_text imap_name (λ flag. has flags (place flag)) [] written_order)
    ∙ picked_text (λ (k : Keyword). k.name) (λ k. has flags (place_of k.letter)) (fold with_name [] (map imap_name (filter (λ flag. has flags (place flag)) written_order))) keywords
    ∙ sym (fold-append with_name [] (map imap_name (filter (λ flag. has flags (place flag)) written_order)) (map (λ (k : Keyword). k.name) (filter (λ (k : Keyword). has flags (place_of k.letter)) keywords)))

-- what was gathered
pub gathered : (keywords : List Keyword) (flags : ℕ) (six t : Text) → six ≡ fold (with_flag_name flags) [] written_order → t ≡ fold (with_keyword_name flags) six keywords → t ≡ spaced_out (names_of_set keywords flags)
gathered keywords flags six t h g = g ∙ ap (λ (x : Text). fold (with_keyword_name flags) x keywords) h ∙ set_text keywords flags

-- ---- how long they are

few_picked : {X : Type 0} (most : ℕ) (name : X → Text) (p : X → Bool) (xs : List X) → All (λ x. length (name x) + 1 ≤ most) xs → most_names (map name (filter p xs)) ≤ most * length xs
few_picked most name p [] h = omega arith
few_picked {X} most name p (x ∷ xs) h =
    let later = few_picked most name p xs (All-tail (λ (x : X). length (name x) + 1 ≤ most) x xs h) in
    let here = All-head (λ (x : X). length (name x) + 1 ≤ most) x xs h in
    elim (p x) as (λ b. most_names (map name (cond b (x ∷ filter p xs) (filter p xs))) ≤ most * suc (length xs))
    [ true ↦ omega (arith, sum_by-cons (λ (n : Text). length n + 1) (name x) (map name (filter p xs)), here, later) | false ↦ omega (arith, later) ]

-- letters that rise from a to z are 26 at most
few_letters : (from : ℕ) (ks : List Keyword) → All (λ k. from ≤ k.letter) ks → All (λ k. is_keyword_letter k.letter ≡ true) ks → AllPairs (λ a b. a.letter < b.letter) ks → length ks + from ≤ 123 ⊎ ks ≡ []
few_letters from [] above letters rising = inr refl
few_letters from (k ∷ ks) above letters rising =
    let here : from ≤ k.letter = All-head (λ (k : Keyword). from ≤ k.letter) k ks above in
    let last : k.letter ≤ 122 = at_most k.letter (All-head (λ (k : Keyword). is_keyword_letter k.letter ≡ true) k ks letters) in
    elim (few_letters (suc k.letter) ks
    (weaker (λ (x : Keyword). k.letter < x.letter) (λ (x : Keyword). suc k.letter ≤ x.letter) (λ x h. omega (arith, h)) ks (pairs_head (λ (a b : Keyword). a.letter < b.letter) k ks rising))
    (All-tail (λ (k : Keyword). is_keyword_letter k.letter ≡ true) k ks letters) (pairs_tail (λ (a b : Keyword). a.letter < b.letter) k ks rising)) [
      | inl few ↦ inl (omega (arith, few, here))
      | inr none ↦ inl (omega (arith, ap length none, here, last))
    ]
  where
    at_most : (n : ℕ) → is_keyword_letter n ≡ true → n ≤ 122
    at_most n h = leb-true n 122 (and_parts (leb 97 n) (leb n 122) h).1

    pairs_head : (R : Keyword → Keyword → Type 0) (x : Keyword) (xs : List Keyword) → AllPairs R (x ∷ xs) → All (R x) xs
    pairs_head R x xs h = λ i d below. h 0 (suc i) d (omega arith) (omega (arith, below))

    pairs_tail : (R : Keyword → Keyword → Type 0) (x : Keyword) (xs : List Keyword) → AllPairs R (x ∷ xs) → AllPairs R xs
    pairs_tail R x xs h = λ i j d less below. h (suc i) (suc j) d (omega (arith, less)) (omega (arith, below))

few_keywords : (keywords : List Keyword) → IsMap keywords → length keywords ≤ 26
few_keywords keywords m =
    elim (few_letters 97 keywords (weaker (λ (k : Keyword). is_keyword_letter k.letter ≡ true) (λ (k : Keyword). 97 ≤ k.letter) (λ k h. at_least k.letter h) keywords m.letters) m.letters m.rising) [
      | inl few ↦ omega (arith, few)
      | inr none ↦ omega (arith, ap length none)
    ]
  where
    at_least : (n : ℕ) → is_keyword_letter n ≡ true → 97 ≤ n
    at_least n h = leb-true 97 n (and_parts (leb 97 n) (leb n 122) h).0

-- six names of at most 10 bytes, and 26 of at most 255, each with a space
pub set_names_few : (keywords : List Keyword) (flags : ℕ) → IsMap keywords → most_names (names_of_set keywords flags) ≤ 6722
set_names_few keywords flags m =
    let six = few_picked 11 imap_name (λ flag. has flags (place flag)) written_order (every (λ (flag : Flag). length (imap_name flag) + 1 ≤ 11) short written_order) in
    let others = few_picked 256 (λ (k : Keyword). k.name) (λ k. has flags (place_of k.letter)) keywords
    (weaker (λ (k : Keyword). is_keyword_name k.name ≡ true) (λ (k : Keyword). length k.name + 1 ≤ 256) (λ k h. long k.name h) keywords m.names)
    in
    omega (arith, sum_by-append (λ (n : Text). length n + 1) (map imap_name (filter (λ (flag : Flag). has flags (place flag)) written_order)) (map (λ (k : Keyword). k.name) (filter (λ (k : Keyword). has flags (place_of k.letter)) keywords)), six, others, few_keywords keywords m)
  where
    short : (flag : Flag) → length (imap_name flag) + 1 ≤ 11
    short Draft = omega arith
    short Flagged = omega arith
    short Forwarded = omega arith
    short Answered = omega arith
    short Seen = omega arith
    short Deleted = omega arith

    long : (name : Text) → is_keyword_name name ≡ true → length name + 1 ≤ 256
    long name h = let l = (keyword_atom name h).0.1 in omega (arith, l)
