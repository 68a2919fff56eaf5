-- The names of a trial's files: what is read of them, and their order.
use Rattle.std.proofs.Common.{◌≡◌, ℕ, ◌<◌, true, List, [], ◌∷◌, ◌++◌, Option, None, Some, refl, ap, subst, ◌∙◌, All, append_assoc}
use Rattle.std.specs.Prelude.{decimal, codes, option_and_then, option_map, unwrap_or}
use Rattle.std.specs.Ordering.{is_lt, ordering_then}
use Rattle.std.specs.declared.cmp.Ordering.{Ordering}
use Rattle.std.specs.declared.cmp.Ordering.TheVariants.{Equal}
use Rattle.std.proofs.lemmas.List.Elements.{All-head}
use Rattle.mailcore.specs.declared.keywords.Keyword.{Keyword}
use Rattle.mailcore.specs.KeywordNames.{IsWithin, kept}
use Rattle.mailcore.proofs.KnownFlags.{kept-same}
use Rattle.mailcore.specs.declared.mailbox.Message.{Message}
use Rattle.mailcore.specs.Stores.{Waiting}
use Rattle.maildir.specs.FlaggedNames.{flags_by_name, letters_in}
use Rattle.maildir.specs.Letters.{flags_in, letters_with}
use Rattle.maildir.specs.Names.{EndsInUid, IsUidOf, NameParts, is_base, is_uid, is_waiting, lacks_uid, letters_text, name_of, name_text, uid_in}
use Rattle.maildir.proofs.LetterLemmas.{flags_in-with, letters_with-rise}
use Rattle.maildir.proofs.NameLemmas.{spelled_is_read}
use Rattle.near_box.specs.Mailboxes.{is_before, waiting_of}
use Rattle.near_box.proofs.NewNameLemmas.{IsNumbered}
use Rattle.near_box.proofs.NewUidLemmas.{All-parts}
use Rattle.run_trial.specs.Folders.{digits, message_name, name_with, waiting_base, waiting_file, waiting_name}
use Rattle.run_trial.proofs.DigitLemmas.{beyond, both_moved, digits_rise, waiting_is_base, waiting_lacks}

module _ (keywords : List Keyword) where
  -- ---- what is read of them

  is_read : (base : List ℕ) (uid : Option ℕ) (flags : ℕ) → is_base base ≡ true → IsUidOf base uid
      → name_of (name_with keywords base uid flags) ≡ Some (record { base = base; uid = uid; letters = Some (letters_with keywords [] flags) })
  is_read base uid flags is number =
      let parts : NameParts = record { base = base; uid = uid; letters = Some (letters_with keywords [] flags) } in
      spelled_is_read parts (name_text parts) (record { parts = refl; base = is; uid = number; letters = letters_with-rise keywords [] flags })

  read_flags : (name : List ℕ) (base : List ℕ) (uid : Option ℕ) (flags : ℕ) → IsWithin keywords flags
      → name_of name ≡ Some (record { base = base; uid = uid; letters = Some (letters_with keywords [] flags) }) → flags_by_name keywords name ≡ flags
  read_flags name base uid flags fits read =
      ap (λ (r : Option NameParts). kept keywords (flags_in (unwrap_or (option_map letters_in r) []))) read ∙ flags_in-with keywords [] flags ∙ kept-same keywords flags fits

  pub message_is_numbered : (m : Message) → is_uid m.uid ≡ true → IsWithin keywords m.flags → IsNumbered keywords (message_name keywords m) m.uid m.flags
  message_is_numbered m is fits =
      let read = is_read (codes "m") (Some m.uid) m.flags refl is in
      record {
        uid = ap (λ (r : Option NameParts). option_and_then (λ parts. parts.uid) r) read;
        waits = ap lacks_uid read;
        flags = read_flags (message_name keywords m) (codes "m") (Some m.uid) m.flags fits read;
      }

  -- a name without a UID that bears these flags
  pub record IsWaitingName (name : List ℕ) (set : ℕ) : Type 0 where
    pub uid : uid_in name ≡ None
    pub waits : is_waiting name ≡ true
    pub flags : flags_by_name keywords name ≡ set

  ends_not : (number : ℕ) → EndsInUid (waiting_base number) → ⊥
  ends_not number ends =
      let all : All (λ (b : ℕ). b ≡ 44 → ⊥) (ends.front ++ 44 ∷ (85 ∷ 61 ∷ decimal ends.uid)) = subst (λ (l : List ℕ). All (λ (b : ℕ). b ≡ 44 → ⊥) l) ends.parts (waiting_lacks number) in
      let parts = All-parts (λ (b : ℕ). b ≡ 44 → ⊥) ends.front (44 ∷ (85 ∷ 61 ∷ decimal ends.uid)) all in
      All-head (λ (b : ℕ). b ≡ 44 → ⊥) 44 (85 ∷ 61 ∷ decimal ends.uid) parts.1 refl

  pub waiting_is_read : (number flags : ℕ) → IsWithin keywords flags → IsWaitingName (waiting_name keywords number flags) flags
  waiting_is_read number flags fits =
      let read = is_read (waiting_base number) None flags (waiting_is_base number) (ends_not number) in
      record {
        uid = ap (λ (r : Option NameParts). option_and_then (λ parts. parts.uid) r) read;
        waits = ap lacks_uid read;
        flags = read_flags (waiting_name keywords number flags) (waiting_base number) None flags fits read;
      }

  pub waiting_is_file : (number : ℕ) (f : Waiting) → IsWithin keywords f.flags → waiting_of keywords (waiting_file keywords number f) ≡ f
  waiting_is_file number f fits = ap (λ (n : ℕ). let w : Waiting = record { flags = n; bytes = f.bytes } in w) (waiting_is_read number f.flags fits).flags

  -- ---- their order

  pub waiting_rise : (k n : ℕ) (f g : Waiting) → k < n → n < beyond 20 → is_before (waiting_file keywords k f) (waiting_file keywords n g) ≡ true
  waiting_rise k n f g less small =
      let s : List ℕ = letters_text (Some (letters_with keywords [] f.flags)) in
      let t : List ℕ = letters_text (Some (letters_with keywords [] g.flags)) in
      ap (λ (o : Ordering). is_lt (ordering_then o Equal))
      (both_moved ((digits 20 k ++ []) ++ s) (digits 20 k ++ s) ((digits 20 n ++ []) ++ t) (digits 20 n ++ t)
      (append_assoc (digits 20 k) [] s) (append_assoc (digits 20 n) [] t) (digits_rise 20 k n s t less small))
