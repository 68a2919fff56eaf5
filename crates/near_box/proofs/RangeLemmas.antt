-- What files are named after is in its range: UIDs, flags, and the numbers of the meta file.
use Rattle.std.proofs.Common.{◌≡◌, ℕ, ◌+◌, ◌<◌, ◌^◌, Bool, true, false, ltb, List, [], ◌∷◌, map, Option, None, Some, All, refl, ap, sym, subst, ◌∙◌, arith}
use Rattle.std.specs.Prelude.{unwrap_or}
use Rattle.std.specs.List.{cons_option}
use Rattle.std.specs.Option.{option_map, option_and_then}
use Rattle.std.proofs.lemmas.Bool.Decides.{nat_tests}
use Rattle.std.proofs.lemmas.List.Elements.{All-nil, All-cons, All-head, All-tail}
use Rattle.mailcore.specs.declared.keywords.Keyword.{Keyword}
use Rattle.mailcore.specs.declared.mailbox.Message.{Message}
use Rattle.mailcore.specs.declared.side.Side.{Side}
use Rattle.mailcore.specs.FlagSet.{FLAGS}
use Rattle.mailcore.specs.KeywordNames.{IsWithin}
use Rattle.mailcore.specs.Listed.{item_of}
use Rattle.mailcore.specs.Operations.{item_sparing}
use Rattle.mailcore.specs.Ranges.{IsNumber, IsInRange, AreFlagSets}
use Rattle.mailcore.proofs.KnownFlags.{kept-lt, kept-within}
use Rattle.maildir.specs.declared.folder.File.{File}
use Rattle.maildir.specs.declared.meta.Meta.{Meta}
use Rattle.maildir.specs.Folders.{Stored}
use Rattle.maildir.specs.FlaggedNames.{flags_by_name, letters_by_name}
use Rattle.maildir.specs.Letters.{flags_in}
use Rattle.maildir.specs.Metas.{is_meta}
use Rattle.maildir.specs.Names.{NameParts, name_of, uid_in, is_uid}
use Rattle.maildir.proofs.NameLemmas.{name_is_spelled}
use Rattle.near_box.specs.Mailboxes.{IsMailbox, messages_in, waiting_of, first_meta, near_of}
use Rattle.near_box.proofs.NewUidLemmas.{meta_fits}
use Rattle.near_box.proofs.PutLemmas.{All-sorted}

-- ---- flags

pub flags_by_name-lt : (keywords : List Keyword) (name : List ℕ) → flags_by_name keywords name < 2 ^ FLAGS
flags_by_name-lt keywords name = kept-lt keywords (flags_in (letters_by_name name))

flags_by_name-within : (keywords : List Keyword) (name : List ℕ) → IsWithin keywords (flags_by_name keywords name)
flags_by_name-within keywords name = kept-within keywords (flags_in (letters_by_name name))

pub waiting_within : (keywords : List Keyword) (files : List File) → All (λ w. IsWithin keywords w.flags) (map (waiting_of keywords) files)
waiting_within keywords [] = All-nil (λ w. IsWithin keywords w.flags)
waiting_within keywords (file ∷ files) =
    All-cons (λ w. IsWithin keywords w.flags) (waiting_of keywords file) (map (waiting_of keywords) files) (flags_by_name-within keywords file.name) (waiting_within keywords files)

messages_in-within : (keywords : List Keyword) (files : List File) → All (λ m. IsWithin keywords m.flags) (messages_in keywords files)
messages_in-within keywords [] = All-nil (λ m. IsWithin keywords m.flags)
messages_in-within keywords (file ∷ files) = by_case (uid_in file.name) (messages_in-within keywords files)
  where
    by_case : (u : Option ℕ) → All (λ m. IsWithin keywords m.flags) (messages_in keywords files)
        → All (λ m. IsWithin keywords m.flags) (cons_option (option_map (λ uid. let m : Message = record { uid = uid; flags = flags_by_name keywords file.name; bytes = file.bytes } in m) u) (messages_in keywords files))
    by_case None more = more
    by_case (Some uid) more =
        All-cons (λ m. IsWithin keywords m.flags) (record { uid = uid; flags = flags_by_name keywords file.name; bytes = file.bytes }) (messages_in keywords files)
        (flags_by_name-within keywords file.name) more

pub messages_within : (fresh : ℕ) (keywords : List Keyword) (s : Stored) → All (λ m. IsWithin keywords m.flags) (near_of fresh keywords s).store.messages
messages_within fresh keywords s = All-sorted (λ a b. ltb a.uid b.uid) (λ m. IsWithin keywords m.flags) (messages_in keywords s.files) (messages_in-within keywords s.files)

pub waiting_flags : (keywords : List Keyword) (files : List File) → AreFlagSets (map (waiting_of keywords) files)
waiting_flags keywords [] = All-nil (λ w. w.flags < 2 ^ FLAGS)
waiting_flags keywords (file ∷ files) = All-cons (λ w. w.flags < 2 ^ FLAGS) (waiting_of keywords file) (map (waiting_of keywords) files) (flags_by_name-lt keywords file.name) (waiting_flags keywords files)

-- ---- UIDs

uid_is : (name : List ℕ) (uid : ℕ) → uid_in name ≡ Some uid → is_uid uid ≡ true
uid_is name uid has = by_case (name_of name) refl has
  where
    by_uid : (parts : NameParts) → name_of name ≡ Some parts → (u : Option ℕ) → parts.uid ≡ u → u ≡ Some uid → is_uid uid ≡ true
    by_uid parts read None e f = cc
    by_uid parts read (Some n) e f =
        let same : parts.uid ≡ Some uid = e ∙ f in
        let whole : parts ≡ record { base = parts.base; uid = Some uid; letters = parts.letters } =
        ap (λ (o : Option ℕ). let p : NameParts = record { base = parts.base; uid = o; letters = parts.letters } in p) same in
        (name_is_spelled (record { base = parts.base; uid = Some uid; letters = parts.letters }) name (read ∙ ap (λ (p : NameParts). Some p) whole)).uid

    by_case : (o : Option NameParts) → name_of name ≡ o → option_and_then (λ parts. parts.uid) o ≡ Some uid → is_uid uid ≡ true
    by_case None e f = cc
    by_case (Some parts) e f = by_uid parts e parts.uid refl f

-- a message whose UID and flags are in their ranges
pub record IsGood (m : Message) : Type 0 where
  pub positive : 0 < m.uid
  pub last : m.uid + 1 < 2 ^ 32
  pub flags : m.flags < 2 ^ FLAGS

good_messages : (keywords : List Keyword) (files : List File) → All IsGood (messages_in keywords files)
good_messages keywords [] = All-nil IsGood
good_messages keywords (file ∷ files) = by_case (uid_in file.name) refl (good_messages keywords files)
  where
    by_case : (u : Option ℕ) → uid_in file.name ≡ u → All IsGood (messages_in keywords files)
        → All IsGood (cons_option (option_map (λ uid. let m : Message = record { uid = uid; flags = flags_by_name keywords file.name; bytes = file.bytes } in m) u) (messages_in keywords files))
    by_case None e more = more
    by_case (Some uid) e more =
        let is : is_uid uid ≡ true = uid_is file.name uid e in
        All-cons IsGood (record { uid = uid; flags = flags_by_name keywords file.name; bytes = file.bytes }) (messages_in keywords files)
        (record { positive = grind (arith, nat_tests); last = grind (arith, nat_tests); flags = flags_by_name-lt keywords file.name }) more

pub messages_good : (fresh : ℕ) (keywords : List Keyword) (s : Stored) → All IsGood (near_of fresh keywords s).store.messages
messages_good fresh keywords s = All-sorted (λ a b. ltb a.uid b.uid) IsGood (messages_in keywords s.files) (good_messages keywords s.files)

-- ---- the mailbox

pub near_in_range : (fresh : ℕ) (keywords : List Keyword) (s : Stored) → 0 < fresh → fresh < 2 ^ 32 → IsMailbox fresh s → IsInRange (near_of fresh keywords s).store
near_in_range fresh keywords s positive small is =
    let fits : is_meta is.meta.meta ≡ true = meta_fits fresh s.meta is.meta.meta positive small is.meta.is in
    let same = ap (λ (o : Option Meta). unwrap_or o (first_meta fresh)) is.meta.is in
    let good = messages_good fresh keywords s in
    record {
      validity = subst (λ (m : Meta). IsNumber m.validity) (sym same) (record { positive = grind (arith, nat_tests); below = grind (arith, nat_tests) });
      next = subst (λ (m : Meta). IsNumber m.next) (sym same) (record { positive = grind (arith, nat_tests); below = grind (arith, nat_tests) });
      messages = record {
        uids = λ k d within. (good k d within).positive;
        last = λ k d within. (good k d within).last;
        flags = λ k d within. (good k d within).flags;
      };
    }

-- ---- a listing that spares none is the whole listing

pub items_sparing_none : (side : Side) (spared : ℕ → Bool) → ((uid : ℕ) → 0 < uid → spared uid ≡ false) → (messages : List Message) → All IsGood messages
    → map (item_sparing side spared) messages ≡ map (item_of side) messages
items_sparing_none side spared none [] good = refl
items_sparing_none side spared none (m ∷ messages) good =
    rw (none m.uid (All-head IsGood m messages good).positive, items_sparing_none side spared none messages (All-tail IsGood m messages good)) refl
