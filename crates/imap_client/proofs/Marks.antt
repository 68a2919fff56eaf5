-- Where the beginnings of messages show a mark.
use Rattle.std.proofs.Common.{◌≡◌, ℕ, ◌+◌, ◌<◌, ◌≤◌, Bool, true, false, List, [], ◌∷◌, ◌++◌, refl, sym, ◌∙◌, ap, take, drop, length, Option, Some, None, arith}
use Rattle.std.specs.Prelude.{codes, min, nat_eq, nat_le, nat_lt, find, ◌&&◌, ◌||◌, if◌then◌else◌}
use Rattle.std.specs.List.{fold, list_any, starts_with}
use Rattle.std.specs.Option.{option_map}
use Rattle.std.specs.Cmp.Lexicographic.{pointwise}
use Rattle.std.proofs.lemmas.Bool.{and_parts, le-ltb}
use Rattle.std.proofs.lemmas.List.{take-take, drop-take, length-take}
use Rattle.mailcore.specs.declared.keywords.Keyword.{Keyword}
use Rattle.mailcore.specs.declared.mailbox.Message.{Message}
use Rattle.mailcore.specs.Mark.{is_mark as is_mark_text}
use Rattle.mailcore.specs.Content.{LF, CR, begins_with_line_end, mark_of}
use Rattle.mailcore.specs.Operations.{is_mark, marked_among, marked_from}
use Rattle.mailcore.specs.Ranges.{AreInRange}
use Rattle.mailcore.specs.Stores.{IsStore}
use Rattle.imap_commands.specs.declared.command.FetchItems.TheVariants as wanted
use Rattle.imap_replies.specs.declared.reply.Reply.{Reply}
use Rattle.imap_replies.specs.declared.reply.Reply.TheVariants.{Fetch}
use Rattle.imap_session.specs.Mailboxes.{FarMailbox}
use Rattle.imap_session.specs.NamedMessages.{named_in}
use Rattle.imap_session.specs.Answering.{done}
use Rattle.imap_session.specs.MessageCommands.{shown, fetched}
use Rattle.imap_client.specs.Calls.{from_on}
use Rattle.imap_answers.specs.Listings.{is_uid}
use Rattle.imap_answers.specs.Markings.{head_size, has_long_head, lesser, least_more, least_marked, uid_found, mark_found}
use Rattle.imap_client.proofs.Fetched.{replies_for}
use Rattle.imap_client.proofs.Numbered.{Rise, Names, store_rises, names_from}
use Rattle.imap_client.proofs.Rows.{uid_is}

-- ---- the mark stands in the first 22 bytes

mark_by : (text : List ℕ) (a b : Bool) → a ≡ b → (x : List ℕ) → x ≡ text → (if a then Some x else None) ≡ (if b then Some text else None)
mark_by text a b e x f = ap (λ (t : Bool). if t then Some x else None) e ∙ ap (λ (y : List ℕ). if b then Some y else None) f

begins_by : (a b : List ℕ) → take 1 a ≡ take 1 b → take 2 a ≡ take 2 b → begins_with_line_end a ≡ begins_with_line_end b
begins_by a b e f = ap (λ (l : List ℕ). pointwise nat_eq (LF ∷ []) l || starts_with nat_eq a (CR ∷ LF ∷ [])) e ∙ ap (λ (l : List ℕ). starts_with nat_eq b (LF ∷ []) || pointwise nat_eq (CR ∷ LF ∷ []) l) f

pub mark_of_head : (bytes : List ℕ) → mark_of (take 22 bytes) ≡ mark_of bytes
unfolding mark_of
mark_of_head bytes =
    let front : take 8 (take 22 bytes) ≡ take 8 bytes = take-take 8 22 bytes (omega arith) in
    let following : drop 8 (take 22 bytes) ≡ take 14 (drop 8 bytes) = drop-take 8 14 bytes in
    let text : take 12 (drop 8 (take 22 bytes)) ≡ take 12 (drop 8 bytes) = ap (take 12) following ∙ take-take 12 14 (drop 8 bytes) (omega arith) in
    let tail : drop 20 (take 22 bytes) ≡ take 2 (drop 20 bytes) = drop-take 20 2 bytes in
    let one : take 1 (drop 20 (take 22 bytes)) ≡ take 1 (drop 20 bytes) = ap (take 1) tail ∙ take-take 1 2 (drop 20 bytes) (omega arith) in
    let two : take 2 (drop 20 (take 22 bytes)) ≡ take 2 (drop 20 bytes) = ap (take 2) tail ∙ take-take 2 2 (drop 20 bytes) (omega arith) in
    mark_by (take 12 (drop 8 bytes)) _ (starts_with nat_eq bytes (codes "X-TUID: ") && is_mark_text (take 12 (drop 8 bytes)) && begins_with_line_end (drop 20 bytes))
    (ap (λ (l : List ℕ). pointwise nat_eq (codes "X-TUID: ") l && is_mark_text (take 12 (drop 8 (take 22 bytes))) && begins_with_line_end (drop 20 (take 22 bytes))) front
    ∙ ap (λ (l : List ℕ). starts_with nat_eq bytes (codes "X-TUID: ") && is_mark_text l && begins_with_line_end (drop 20 (take 22 bytes))) text
    ∙ ap (λ (b : Bool). starts_with nat_eq bytes (codes "X-TUID: ") && is_mark_text (take 12 (drop 8 bytes)) && b) (begins_by (drop 20 (take 22 bytes)) (drop 20 bytes) one two))
    (take 12 (drop 8 (take 22 bytes))) text

-- ---- the least UID

or_false : (b : Bool) → (b || false) ≡ b
or_false true = refl
or_false false = refl

module _ (keywords : List Keyword) (mark : List ℕ) (from : ℕ) (named : ℕ → Bool) (tag : List ℕ) where
  abbrev seeks : Message → Bool
  seeks m = nat_le from m.uid && is_mark (mark_of m.bytes) mark

  abbrev seen : Message → Bool
  seen m = nat_le from m.uid && (is_mark (mark_of (take 22 m.bytes)) mark || false)

  abbrev rest : (place : ℕ) → List Message → List Reply
  rest place ms = fetched keywords named wanted.Head place ms ++ done tag ∷ []

  seen_is : (m : Message) → seen m ≡ seeks m
  seen_is m = ap (λ (b : Bool). nat_le from m.uid && b) (or_false _ ∙ ap (λ (o : Option (List ℕ)). is_mark o mark) (mark_of_head m.bytes))

  stays_by : (a uid : ℕ) (b : Bool) → a < uid → lesser (Some a) (if b then Some uid else None) ≡ Some a
  stays_by a uid true h = ap (λ (n : ℕ). Some n) (let e : min a uid ≡ a = omega arith in e)
  stays_by a uid false h = refl

  -- the first that was found is the least
  found_by : (b : Bool) (a place : ℕ) (m : Message) (ms : List Message) → a < m.uid → fold (least_more mark from) (Some a) (rest (place + 1) ms) ≡ Some a
      → fold (least_more mark from) (Some a) ((if b then Fetch place (shown keywords wanted.Head m) ∷ fetched keywords named wanted.Head (place + 1) ms else fetched keywords named wanted.Head (place + 1) ms) ++ done tag ∷ []) ≡ Some a
  found_by true a place m ms h e = ap (λ (o : Option ℕ). fold (least_more mark from) o (rest (place + 1) ms)) (stays_by a m.uid (seen m) h) ∙ e
  found_by false a place m ms h e = e

  found_stays : (a low place : ℕ) (ms : List Message) → a < low → Rise low ms → fold (least_more mark from) (Some a) (rest place ms) ≡ Some a
  found_stays a low place [] h r = refl
  found_stays a low place (m ∷ ms) h r = let low_is = r.0 in found_by (named m.uid) a place m ms (omega arith) (found_stays a (m.uid + 1) (place + 1) ms (omega arith) r.2)

  first_by : (t k : Bool) (place : ℕ) (m : Message) (ms : List Message) → seeks m ≡ t → named m.uid ≡ k → (nat_le from m.uid ≡ true → named m.uid ≡ true) → Rise (m.uid + 1) ms
      → fold (least_more mark from) None (rest (place + 1) ms) ≡ marked_among mark from ms
      → fold (least_more mark from) None ((if k then Fetch place (shown keywords wanted.Head m) ∷ fetched keywords named wanted.Head (place + 1) ms else fetched keywords named wanted.Head (place + 1) ms) ++ done tag ∷ []) ≡ option_map (λ (x : Message). x.uid) (if t then Some m else find seeks ms)
  first_by true true place m ms is k n r e =
      ap (λ (b : Bool). fold (least_more mark from) (if b then Some m.uid else None) (rest (place + 1) ms)) (seen_is m ∙ is) ∙ found_stays m.uid (m.uid + 1) (place + 1) ms (omega arith) r
  first_by true false place m ms is k n r e = let both : true ≡ false = sym (n (and_parts _ _ is).0) ∙ k in cc
  first_by false true place m ms is k n r e = ap (λ (b : Bool). fold (least_more mark from) (if b then Some m.uid else None) (rest (place + 1) ms)) (seen_is m ∙ is) ∙ e
  first_by false false place m ms is k n r e = e

  found_first : (low place : ℕ) (ms : List Message) → Rise low ms → Names named from ms → fold (least_more mark from) None (rest place ms) ≡ marked_among mark from ms
  found_first low place [] r n = refl
  found_first low place (m ∷ ms) r n = first_by (seeks m) (named m.uid) place m ms refl refl n.0 r.2 (found_first (m.uid + 1) (place + 1) ms r.2 n.1)

  -- what was found is a UID
  uid_by : (t : Bool) (m : Message) (ms : List Message) → is_uid m.uid ≡ true → uid_found (marked_among mark from ms) ≡ Some (marked_among mark from ms)
      → uid_found (option_map (λ (x : Message). x.uid) (if t then Some m else find seeks ms)) ≡ Some (option_map (λ (x : Message). x.uid) (if t then Some m else find seeks ms))
  uid_by true m ms is e = ap (λ (b : Bool). if b then Some (Some m.uid) else None) is
  uid_by false m ms is e = e

  uid_sure : (low : ℕ) (ms : List Message) → 1 ≤ low → Rise low ms → uid_found (marked_among mark from ms) ≡ Some (marked_among mark from ms)
  uid_sure low [] some r = refl
  uid_sure low (m ∷ ms) some r = uid_by (seeks m) m ms (uid_is low m ms some r) (uid_sure (m.uid + 1) ms (omega arith) r.2)

-- ---- no more is returned than was asked for

-- the first 22 octets are at most 22
fits_head : (bytes : List ℕ) → nat_lt head_size (length (take 22 bytes)) ≡ false
fits_head bytes = le-ltb head_size (length (take 22 bytes)) (let e = length-take 22 bytes in omega arith)

module _ (keywords : List Keyword) (named : ℕ → Bool) (tag : List ℕ) where
  none_long_if : (b : Bool) (place : ℕ) (m : Message) (others : List Reply) → list_any has_long_head (others ++ done tag ∷ []) ≡ false
      → list_any has_long_head ((if b then Fetch place (shown keywords wanted.Head m) ∷ others else others) ++ done tag ∷ []) ≡ false
  none_long_if true place m others e =
      ap (λ (b : Bool). (b || false) || list_any has_long_head (others ++ done tag ∷ [])) (fits_head m.bytes) ∙ e
  none_long_if false place m others e = e

  none_long : (place : ℕ) (ms : List Message) → list_any has_long_head (fetched keywords named wanted.Head place ms ++ done tag ∷ []) ≡ false
  none_long place [] = refl
  none_long place (m ∷ ms) = none_long_if (named m.uid) place m (fetched keywords named wanted.Head (place + 1) ms) (none_long (place + 1) ms)

pub finds_mark : (keywords : List Keyword) (mark : List ℕ) (from : ℕ) (m : FarMailbox) (tag : List ℕ) → IsStore m.store → AreInRange m.store.messages → mark_found mark from (replies_for keywords m (from_on from) wanted.Head tag) ≡ Some (marked_from mark from m.store)
finds_mark keywords mark from m tag is range =
    let rises = store_rises m.store is range in
    ap (λ (b : Bool). if b then None else uid_found (least_marked mark from (replies_for keywords m (from_on from) wanted.Head tag))) (none_long keywords (named_in m.store (from_on from)) tag 1 m.store.messages)
    ∙ ap uid_found (found_first keywords mark from (named_in m.store (from_on from)) tag 1 1 m.store.messages rises (names_from m.store from rises)) ∙ uid_sure keywords mark from (named_in m.store (from_on from)) tag 1 m.store.messages (omega arith) rises
