-- What is reported about all messages, where they are listed.
use Rattle.std.proofs.Common.{◌≡◌, ℕ, ◌+◌, ◌<◌, ◌≤◌, Bool, true, List, [], ◌∷◌, ◌++◌, refl, sym, ◌∙◌, ap, append_assoc, append-nil, length, Some, None, arith}
use Rattle.std.specs.Prelude.{map, nat_lt, nat_le, if◌then◌else◌, ◌==◌}
use Rattle.std.specs.List.{fold}
use Rattle.std.specs.Ordering.{nat_cmp, match_ordering}
use Rattle.std.specs.declared.cmp.Ordering.{Ordering}
use Rattle.std.specs.declared.cmp.Ordering.TheVariants.{Less, Equal, Greater}
use Rattle.std.specs.BTreeMap.{insert_entry}
use Rattle.std.proofs.lemmas.Bool.{le-leb, lt-ltb, le-ltb, ne_eqb, cond-false, and_from}
use Rattle.mailcore.specs.declared.keywords.Keyword.{Keyword}
use Rattle.mailcore.specs.declared.mailbox.Message.{Message}
use Rattle.mailcore.specs.declared.side.Side.TheVariants.{Far}
use Rattle.mailcore.specs.Content.{size_limit}
use Rattle.mailcore.specs.KeywordNames.{IsMap, kept, named_set, names_of}
use Rattle.mailcore.specs.Listed.{item_of}
use Rattle.mailcore.specs.Ranges.{AreInRange}
use Rattle.mailcore.specs.Stores.{IsStore}
use Rattle.mailcore.proofs.KnownFlags.{read_kept}
use Rattle.imap_commands.specs.declared.command.FetchItems.TheVariants as wanted
use Rattle.imap_replies.specs.declared.reply.Reply.{Reply}
use Rattle.imap_replies.specs.declared.reply.Reply.TheVariants.{Fetch}
use Rattle.imap_session.specs.Mailboxes.{FarMailbox}
use Rattle.imap_session.specs.NamedMessages.{named_in}
use Rattle.imap_session.specs.Answering.{done}
use Rattle.imap_session.specs.MessageCommands.{shown, fetched}
use Rattle.imap_session.specs.Heard.{AreHeardAs}
use Rattle.imap_session.proofs.HeardAs.{gathers_same}
use Rattle.imap_answers.specs.declared.reported.Row.{Row}
use Rattle.imap_client.specs.Calls.{from_on}
use Rattle.imap_answers.specs.Fetching.{MappedRows, TookRows, no_rows, rows_more, rows_of}
use Rattle.imap_answers.specs.Listings.{is_uid, joined, items_reported}
use Rattle.imap_answers.proofs.HeardSame.{rows_same}
use Rattle.imap_client.specs.Seen.{seen_message, seen_through}
use Rattle.imap_client.proofs.Fetched.{replies_for}
use Rattle.imap_client.proofs.Numbered.{Rise, Names, store_rises, names_from}

-- ---- a row after those below it

abbrev Under : (top : ℕ) → List (ℕ × Row) → Type 0
Under top [] = Unit {0}
Under top (e ∷ es) = (e.0 < top) × Under top es

under_more : (low top : ℕ) (es : List (ℕ × Row)) → low ≤ top → Under low es → Under top es
under_more low top [] h u = tt
under_more low top (e ∷ es) h u = (let below = u.0 in omega arith, under_more low top es h u.1)

under_push : (top uid : ℕ) (t : Row) (es : List (ℕ × Row)) → uid < top → Under top es → Under top (es ++ (uid, t) ∷ [])
under_push top uid t [] h u = (h, tt)
under_push top uid t (e ∷ es) h u = (u.0, under_push top uid t es h u.1)

above : (k e : ℕ) → e < k → nat_cmp k e ≡ Greater
above k e h =
    cond-false (nat_lt k e) Less (if k == e then Equal else Greater) (le-ltb k e (omega arith)) ∙ cond-false (k == e) Equal Greater (ne_eqb k e (λ same. absurd (omega arith)))

insert_last : (es : List (ℕ × Row)) (uid : ℕ) (t : Row) → Under uid es → insert_entry nat_cmp es uid t ≡ es ++ (uid, t) ∷ []
insert_last [] uid t u = refl
insert_last (e ∷ es) uid t u =
    ap (λ (o : Ordering). match_ordering o ((uid, t) ∷ e ∷ es) ((e.0, t) ∷ es) (e ∷ insert_entry nat_cmp es uid t)) (above uid e.0 u.0)
    ∙ ap (λ (l : List (ℕ × Row)). e ∷ l) (insert_last es uid t u.1)

-- ---- all rows

module _ (keywords : List Keyword) where
  abbrev row_of : Message → ℕ × Row
  row_of m = (m.uid, record { flags = Some (kept keywords m.flags); fit = Some (nat_le (length m.bytes) size_limit) })

  abbrev row_said : Message → Row
  row_said m = record { flags = Some (named_set keywords (names_of keywords m.flags)); fit = Some (nat_le (length m.bytes) size_limit) }

  module _ (map_is : IsMap keywords) where
    row_is : (m : Message) → row_said m ≡ (row_of m).1
    row_is m = ap (λ (flags : ℕ). (let r : Row = record { flags = Some flags; fit = Some (nat_le (length m.bytes) size_limit) } in r)) (read_kept keywords m.flags map_is)

    rows_reported : (named : ℕ → Bool) (tag : List ℕ) (place low : ℕ) (ms : List Message) (es : List (ℕ × Row)) → Rise low ms → Names named 0 ms → Under low es
        → fold (rows_more keywords) es (fetched keywords named wanted.Listing place ms ++ done tag ∷ []) ≡ es ++ map row_of ms
    rows_reported named tag place low [] es r n u = sym (append-nil es)
    rows_reported named tag place low (m ∷ ms) es r n u =
        ap
        (λ (b : Bool). fold (rows_more keywords) es ((if b then Fetch place (shown keywords wanted.Listing m) ∷ fetched keywords named wanted.Listing (place + 1) ms else fetched keywords named wanted.Listing (place + 1) ms) ++ done tag ∷ []))
        (n.0 (le-leb 0 m.uid (omega arith)))
        ∙ ap (λ (l : List (ℕ × Row)). fold (rows_more keywords) l (fetched keywords named wanted.Listing (place + 1) ms ++ done tag ∷ []))
        (insert_last es m.uid (row_said m) (under_more low m.uid es r.0 u) ∙ ap (λ (t : Row). es ++ (m.uid, t) ∷ []) (row_is m))
        ∙ rows_reported named tag (place + 1) (m.uid + 1) ms (es ++ row_of m ∷ []) r.2 n.1
        (under_push (m.uid + 1) m.uid (row_of m).1 es (omega arith) (under_more low (m.uid + 1) es (let low_is = r.0 in omega arith) u))
        ∙ append_assoc es (row_of m ∷ []) (map row_of ms)

pub uid_is : (low : ℕ) (m : Message) (ms : List Message) → 1 ≤ low → Rise low (m ∷ ms) → is_uid m.uid ≡ true
uid_is low m ms some r = let low_is = r.0 in let high = r.1 in and_from _ _ (lt-ltb 0 m.uid (omega arith)) (lt-ltb m.uid 4294967295 (omega arith))

module _ (keywords : List Keyword) where
  items_all : (low : ℕ) (ms : List Message) → 1 ≤ low → Rise low ms → items_reported (map (row_of keywords) ms) ≡ Some (map (item_of Far) (map (seen_message keywords) ms))
  items_all low [] some r = refl
  items_all low (m ∷ ms) some r =
      ap (λ (b : Bool). joined (if b then Some (record { uid = m.uid; flags = kept keywords m.flags; fit = nat_le (length m.bytes) size_limit }) else None) (items_reported (map (row_of keywords) ms))) (uid_is low m ms some r)
      ∙ ap (joined (Some (item_of Far (seen_message keywords m)))) (items_all (m.uid + 1) ms (omega arith) r.2)

all_named : (named : ℕ → Bool) (low : ℕ) (ms : List Message) → 1 ≤ low → Rise low ms → Names named 1 ms → Names named 0 ms
all_named named low [] some r n = tt
all_named named low (m ∷ ms) some r n = (λ h. n.0 (le-leb 1 m.uid (let low_is = r.0 in omega arith)), all_named named (m.uid + 1) ms (omega arith) r.2 n.1)

module _ (keywords : List Keyword) (map_is : IsMap keywords) (m : FarMailbox) (tag : List ℕ) (is : IsStore m.store) (range : AreInRange m.store.messages) where
  lists_all : items_reported (rows_of keywords (replies_for keywords m (from_on 1) wanted.Listing tag)) ≡ Some (map (item_of Far) (seen_through keywords m.store).messages)
  lists_all =
      let rises = store_rises m.store is range in
      ap items_reported
      (rows_reported keywords map_is (named_in m.store (from_on 1)) tag 1 1 m.store.messages [] rises (all_named (named_in m.store (from_on 1)) 1 m.store.messages (omega arith) rises (names_from m.store 1 rises)) tt)
      ∙ items_all keywords 1 m.store.messages (omega arith) rises

  -- as they were taken from the replies that were heard
  pub lists_reported : (first rows : MappedRows) (heard : List Reply) → first ≡ no_rows keywords → TookRows first heard rows → AreHeardAs keywords heard (replies_for keywords m (from_on 1) wanted.Listing tag)
      → items_reported rows.rows ≡ Some (map (item_of Far) (seen_through keywords m.store).messages)
  lists_reported first rows heard none took same =
      ap (λ (r : MappedRows). items_reported r.rows) (took ∙ ap (λ (f : MappedRows). (let r : MappedRows = record f { rows = fold (rows_more f.keywords) f.rows heard } in r)) none)
      ∙ ap items_reported (gathers_same keywords (rows_more keywords) (rows_same keywords) [] heard (replies_for keywords m (from_on 1) wanted.Listing tag) same) ∙ lists_all
