-- A store as it is seen through a map: what is read of it, and what calls do to it.
use Rattle.std.proofs.Common.{◌≡◌, ℕ, Bool, true, false, cond, List, [], ◌∷◌, ◌++◌, map, refl, sym, ap, ◌∙◌, ◌+◌, Some, arith}
use Rattle.std.specs.Prelude.{filter, find, nat_le, not, ◌&&◌, ◌==◌}
use Rattle.std.specs.Option.{option_map}
use Rattle.mailcore.specs.declared.keywords.Keyword.{Keyword}
use Rattle.mailcore.specs.declared.mailbox.Message.{Message}
use Rattle.mailcore.specs.Content.{mark_of}
use Rattle.mailcore.specs.FlagSet.{DELETED, has, minus, union}
use Rattle.mailcore.specs.KeywordNames.{kept}
use Rattle.mailcore.specs.Operations.{added, bytes_of, flags_added, flags_removed, is_mark, marked_from, with_flags, with_messages}
use Rattle.mailcore.specs.Stores.{Store}
use Rattle.mailcore.proofs.KnownFlags.{has-kept, kept-minus, kept-same, kept-union, kept-within}
use Rattle.imap_client.specs.Seen.{seen_message, seen_through}
use Rattle.outside.specs.MailboxOperations.{removed}

pub map-append : {X Y : Type 0} (f : X → Y) (xs ys : List X) → map f (xs ++ ys) ≡ map f xs ++ map f ys
map-append f [] ys = refl
map-append f (x ∷ xs) ys = ap (λ l. f x ∷ l) (map-append f xs ys)

module _ (keywords : List Keyword) where
  abbrev seen : Message → Message
  seen = seen_message keywords

  pub uids_seen : (ms : List Message) → map (λ m. m.uid) (map seen ms) ≡ map (λ m. m.uid) ms
  uids_seen [] = refl
  uids_seen (m ∷ ms) = ap (λ (l : List ℕ). m.uid ∷ l) (uids_seen ms)

  -- ---- what is read of it

  module _ {X : Type 0} (p : Message → Bool) (read : Message → X) (p_same : (m : Message) → p (seen m) ≡ p m) (read_same : (m : Message) → read (seen m) ≡ read m) where
    found_by : (b : Bool) (m : Message) (ms : List Message) → option_map read (find p (map seen ms)) ≡ option_map read (find p ms) → option_map read (cond b (Some (seen m)) (find p (map seen ms))) ≡ option_map read (cond b (Some m) (find p ms))
    found_by true m ms e = ap (λ (x : X). Some x) (read_same m)
    found_by false m ms e = e

    found_seen : (ms : List Message) → option_map read (find p (map seen ms)) ≡ option_map read (find p ms)
    found_seen [] = refl
    found_seen (m ∷ ms) = ap (λ (b : Bool). option_map read (cond b (Some (seen m)) (find p (map seen ms)))) (p_same m) ∙ found_by (p m) m ms (found_seen ms)

  pub bytes_seen : (uid : ℕ) (s : Store) → bytes_of uid (seen_through keywords s) ≡ bytes_of uid s
  bytes_seen uid s = found_seen (λ m. m.uid == uid) (λ m. m.bytes) (λ m. refl) (λ m. refl) s.messages

  pub marked_seen : (mark : List ℕ) (from : ℕ) (s : Store) → marked_from mark from (seen_through keywords s) ≡ marked_from mark from s
  marked_seen mark from s = found_seen (λ m. nat_le from m.uid && is_mark (mark_of m.bytes) mark) (λ m. m.uid) (λ m. refl) (λ m. refl) s.messages

  -- ---- what calls do to it

  module _ (change : ℕ → ℕ) (sees : (flags : ℕ) → kept keywords (change flags) ≡ change (kept keywords flags)) (uid : ℕ) where
    changed_by : (b : Bool) (m : Message) → seen (cond b (record m { flags = change m.flags }) m) ≡ cond b (record (seen m) { flags = change (kept keywords m.flags) }) (seen m)
    changed_by true m = ap (λ (flags : ℕ). (let x : Message = record m { flags = flags } in x)) (sees m.flags)
    changed_by false m = refl

    changed_seen : (ms : List Message) → map seen (map (with_flags change uid) ms) ≡ map (with_flags change uid) (map seen ms)
    changed_seen [] = refl
    changed_seen (m ∷ ms) = ap (λ (x : Message). x ∷ map seen (map (with_flags change uid) ms)) (changed_by (m.uid == uid) m) ∙ ap (λ (l : List Message). with_flags change uid (seen m) ∷ l) (changed_seen ms)

  -- a flag that has a name is kept as it is
  twice : (flags : ℕ) → kept keywords (kept keywords flags) ≡ kept keywords flags
  twice flags = kept-same keywords (kept keywords flags) (kept-within keywords flags)

  pub flags_added_seen : (uid flags : ℕ) (s : Store) → seen_through keywords (flags_added uid (kept keywords flags) s) ≡ flags_added uid (kept keywords flags) (seen_through keywords s)
  flags_added_seen uid flags s =
      ap (λ (ms : List Message). with_messages (λ _. ms) s)
      (changed_seen (λ f. union f (kept keywords flags)) (λ f. kept-union keywords f (kept keywords flags) ∙ ap (union (kept keywords f)) (twice flags)) uid s.messages)

  pub flags_removed_seen : (uid flags : ℕ) (s : Store) → seen_through keywords (flags_removed uid (kept keywords flags) s) ≡ flags_removed uid (kept keywords flags) (seen_through keywords s)
  flags_removed_seen uid flags s =
      ap (λ (ms : List Message). with_messages (λ _. ms) s)
      (changed_seen (λ f. minus f (kept keywords flags)) (λ f. kept-minus keywords f (kept keywords flags) ∙ ap (minus (kept keywords f)) (twice flags)) uid s.messages)

  pub added_seen : (uid flags : ℕ) (bytes : List ℕ) (s : Store) → seen_through keywords (added uid (kept keywords flags) bytes s) ≡ added uid (kept keywords flags) bytes (seen_through keywords s)
  added_seen uid flags bytes s =
      ap (λ (ms : List Message). (let x : Store = record { validity = s.validity; next = uid + 1; messages = ms } in x))
      (map-append seen s.messages (record { uid = uid; flags = kept keywords flags; bytes = bytes } ∷ [])
      ∙ ap (λ (f : ℕ). map seen s.messages ++ record { uid = uid; flags = f; bytes = bytes } ∷ []) (twice flags))

  -- \Deleted has a name
  deleted_seen : (m : Message) → has (kept keywords m.flags) DELETED ≡ has m.flags DELETED
  deleted_seen m = has-kept keywords m.flags DELETED (omega arith) ∙ and_true (has m.flags DELETED)
    where
      and_true : (b : Bool) → (b && true) ≡ b
      and_true true = refl
      and_true false = refl

  abbrev stays : (uid : ℕ) → Message → Bool
  stays uid m = not (m.uid == uid && has m.flags DELETED)

  filtered_by : (b : Bool) (m : Message) (l k : List Message) → l ≡ map seen k → cond b (seen m ∷ l) l ≡ map seen (cond b (m ∷ k) k)
  filtered_by true m l k e = ap (λ (x : List Message). seen m ∷ x) e
  filtered_by false m l k e = e

  filtered_seen : (uid : ℕ) (ms : List Message) → filter (stays uid) (map seen ms) ≡ map seen (filter (stays uid) ms)
  filtered_seen uid [] = refl
  filtered_seen uid (m ∷ ms) =
      ap (λ (b : Bool). cond (not (m.uid == uid && b)) (seen m ∷ filter (stays uid) (map seen ms)) (filter (stays uid) (map seen ms))) (deleted_seen m)
      ∙ filtered_by (stays uid m) m (filter (stays uid) (map seen ms)) (filter (stays uid) ms) (filtered_seen uid ms)

  pub removed_seen : (uid : ℕ) (s : Store) → seen_through keywords (removed uid s) ≡ removed uid (seen_through keywords s)
  removed_seen uid s = ap (λ (ms : List Message). with_messages (λ _. ms) s) (sym (filtered_seen uid s.messages))
