-- The names that files get with a new UID.
use Rattle.std.proofs.Common.{◌≡◌, ℕ, ◌<◌, ◌^◌, Bool, true, false, not, ◌&&◌, List, [], ◌∷◌, ◌++◌, length, Option, None, Some, refl, sym, ap, subst, ◌∙◌, inl, inr, lit<, lit≤, arith}
use Rattle.std.specs.Prelude.{decimal, codes, option_and_then, option_map, unwrap_or, is_none, ◌==◌}
use Rattle.std.specs.Option.{option_map_or}
use Rattle.std.specs.List.{list_all}
use Rattle.std.proofs.lemmas.Bool.{and_parts, false≢true, ne_eqb}
use Rattle.std.proofs.lemmas.Fmt.{decimal_is_IsNumeral}
use Rattle.std.proofs.lemmas.List.Folds.{list_all-append}
use Rattle.std.proofs.lemmas.List.Elements.{All-head, All-tail}
use Rattle.mailcore.specs.KeywordNames.{kept}
use Rattle.mailcore.specs.declared.keywords.Keyword.{Keyword}
use Rattle.maildir.specs.Letters.{letters_with, flags_in}
use Rattle.maildir.specs.Names.{NameParts, has_letters, is_base, is_base_byte, is_uid, name_of, name_text, uid_in, is_waiting, lacks_uid}
use Rattle.maildir.specs.FlaggedNames.{letters_in, flags_by_name}
use Rattle.near_box.specs.NearEffects.{copy_base, copy_name, name_admitted}
use Rattle.texts.proofs.CutLemmas.{Lacks}
use Rattle.maildir.proofs.LetterLemmas.{letters_with-rise, flags_in-with}
use Rattle.maildir.proofs.NameLemmas.{decimal_lacks, name_is_spelled, spelled_is_read, uid_is_small}

-- ---- bases

base_bytes : (ds : List ℕ) → Lacks 47 ds → Lacks 0 ds → Lacks 58 ds → list_all is_base_byte ds ≡ true
base_bytes [] slash nul colon = refl
base_bytes (d ∷ ds) slash nul colon =
    rw (ne_eqb d 47 (All-head (λ (b : ℕ). b ≡ 47 → ⊥) d ds slash), ne_eqb d 0 (All-head (λ (b : ℕ). b ≡ 0 → ⊥) d ds nul), ne_eqb d 58 (All-head (λ (b : ℕ). b ≡ 58 → ⊥) d ds colon))
    (base_bytes ds (All-tail (λ (b : ℕ). b ≡ 47 → ⊥) d ds slash) (All-tail (λ (b : ℕ). b ≡ 0 → ⊥) d ds nul) (All-tail (λ (b : ℕ). b ≡ 58 → ⊥) d ds colon))

decimal_bytes : (n : ℕ) → n < 2 ^ 64 → list_all is_base_byte (decimal n) ≡ true
decimal_bytes n small =
    base_bytes (decimal n) (decimal_lacks 47 n (inl (lit< tt)) small) (decimal_lacks 0 n (inl (lit< tt)) small) (decimal_lacks 58 n (inr (lit≤ tt, lit< tt)) small)

and_all : (a b c : Bool) → a ≡ true → b ≡ true → c ≡ true → (a && b && c) ≡ true
and_all a b c one two three = rw (one, two, three) refl

has_some : (xs : List ℕ) → 0 < length xs → not (length xs == 0) ≡ true
has_some xs some = rw (ne_eqb (length xs) 0 (λ e. absurd (omega arith))) refl

digits_base : (ds : List ℕ) → 0 < length ds → Lacks 46 ds → list_all is_base_byte ds ≡ true → is_base ds ≡ true
digits_base [] some dot are = absurd (omega arith)
digits_base (d ∷ ds) some dot are =
    and_all (not (length (d ∷ ds) == 0)) (not (d == 46)) (list_all is_base_byte (d ∷ ds)) (has_some (d ∷ ds) some)
    (rw (ne_eqb d 46 (All-head (λ (b : ℕ). b ≡ 46 → ⊥) d ds dot)) refl) are

base_more : (front rest : List ℕ) → is_base front ≡ true → list_all is_base_byte rest ≡ true → is_base (front ++ rest) ≡ true
base_more [] rest is are = absurd (false≢true is)
base_more (b ∷ bs) rest is are =
    let parts = and_parts (not (length (b ∷ bs) == 0) && not (b == 46)) (list_all is_base_byte (b ∷ bs)) is in
    and_all (not (length (b ∷ (bs ++ rest)) == 0)) (not (b == 46)) (list_all is_base_byte (b ∷ (bs ++ rest))) (has_some (b ∷ (bs ++ rest)) (omega arith))
    (and_parts (not (length (b ∷ bs) == 0)) (not (b == 46)) parts.0).1
    (list_all-append is_base_byte (b ∷ bs) rest ∙ rw (parts.1, are) refl)

copy_is_base : (validity uid : ℕ) → validity < 2 ^ 64 → uid < 2 ^ 64 → is_base (copy_base validity uid) ≡ true
copy_is_base validity uid small fits =
    let front : is_base (decimal validity) ≡ true = digits_base (decimal validity) (decimal_is_IsNumeral validity small).0.0 (decimal_lacks 46 validity (inl (lit< tt)) small) (decimal_bytes validity small) in
    base_more (decimal validity ++ codes "." ++ decimal uid) (codes ".mbsync")
    (base_more (decimal validity ++ codes ".") (decimal uid) (base_more (decimal validity) (codes ".") front refl) (decimal_bytes uid fits)) refl

-- ---- what the names say

-- a name with this UID and these flags
pub record IsNumbered (keywords : List Keyword) (name : List ℕ) (number set : ℕ) : Type 0 where
  pub uid : uid_in name ≡ Some number
  pub waits : is_waiting name ≡ false
  pub flags : flags_by_name keywords name ≡ set

-- a name that is put together of parts
numbered_name : (keywords : List Keyword) (base : List ℕ) (uid : ℕ) (letters : Option (List ℕ)) → is_base base ≡ true → is_uid uid ≡ true → has_letters letters ≡ true
    → IsNumbered keywords (name_text (record { base = base; uid = Some uid; letters = letters })) uid (kept keywords (flags_in (unwrap_or letters [])))
numbered_name keywords base uid letters is number are =
    let parts : NameParts = record { base = base; uid = Some uid; letters = letters } in
    let read : name_of (name_text parts) ≡ Some parts = spelled_is_read parts (name_text parts) (record { parts = refl; base = is; uid = number; letters = are }) in
    record {
      uid = ap (λ (r : Option NameParts). option_and_then (λ parts. parts.uid) r) read;
      waits = ap lacks_uid read;
      flags = ap (λ (r : Option NameParts). kept keywords (flags_in (unwrap_or (option_map letters_in r) []))) read;
    }

pub copy_is_numbered : (keywords : List Keyword) (validity uid flags : ℕ) → validity < 2 ^ 64 → is_uid uid ≡ true → IsNumbered keywords (copy_name keywords validity uid flags) uid (kept keywords flags)
copy_is_numbered keywords validity uid flags small is =
    subst (λ (f : ℕ). IsNumbered keywords (copy_name keywords validity uid flags) uid f) (flags_in-with keywords [] flags)
    (numbered_name keywords (copy_base validity uid) uid (Some (letters_with keywords [] flags)) (copy_is_base validity uid small (uid_is_small uid is)) is (letters_with-rise keywords [] flags))

pub admitted_is_numbered : (keywords : List Keyword) (name : List ℕ) (uid : ℕ) → is_waiting name ≡ true → is_uid uid ≡ true → IsNumbered keywords (name_admitted name uid) uid (flags_by_name keywords name)
admitted_is_numbered keywords name uid waits is = by_name (name_of name) refl waits
  where
    by_name : (r : Option NameParts) → name_of name ≡ r → lacks_uid r ≡ true → IsNumbered keywords (name_admitted name uid) uid (flags_by_name keywords name)
    by_name None read waits = absurd (false≢true waits)
    by_name (Some parts) read waits =
        let spelled = name_is_spelled parts name read in
        let now : name_text (record { base = parts.base; uid = Some uid; letters = parts.letters }) ≡ name_admitted name uid =
        ap (λ (r : Option NameParts). option_map_or (λ parts. name_text (record { base = parts.base; uid = Some uid; letters = parts.letters })) r name) (sym read) in
        let flags : kept keywords (flags_in (unwrap_or parts.letters [])) ≡ flags_by_name keywords name =
        ap (λ (r : Option NameParts). kept keywords (flags_in (unwrap_or (option_map letters_in r) []))) (sym read) in
        subst (λ (n : List ℕ). IsNumbered keywords n uid (flags_by_name keywords name)) now
        (subst (λ (f : ℕ). IsNumbered keywords (name_text (record { base = parts.base; uid = Some uid; letters = parts.letters })) uid f) flags (numbered_name keywords parts.base uid parts.letters spelled.base is spelled.letters))

-- a waiting file has no UID
pub waiting_has_no_uid : (name : List ℕ) → is_waiting name ≡ true → uid_in name ≡ None
waiting_has_no_uid name waits = by_name (name_of name) waits
  where
    no_uid : (uid : Option ℕ) → is_none uid ≡ true → uid ≡ None
    no_uid None waits = refl
    no_uid (Some uid) waits = absurd (false≢true waits)

    by_name : (r : Option NameParts) → lacks_uid r ≡ true → option_and_then (λ parts. parts.uid) r ≡ None
    by_name None waits = refl
    by_name (Some parts) waits = no_uid parts.uid waits
