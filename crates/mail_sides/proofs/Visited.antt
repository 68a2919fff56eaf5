-- A server to whose mailboxes others added messages.
use Rattle.std.proofs.Common.{◌≡◌, ◌≤◌, ◌<◌, ◌+◌, ◌^◌, ℕ, zero, suc, true, false, List, [], ◌∷◌, ◌++◌, get_or, Option, None, Some, arith, refl, sym, ◌∙◌, ap, subst}
use Rattle.std.specs.Prelude.{All, map, nat_eq, ◌&&◌}
use Rattle.std.specs.List.{list_all}
use Rattle.std.specs.Cmp.Lexicographic.{pointwise}
use Rattle.imap_client.specs.Logins.{is_known}
use Rattle.std.proofs.lemmas.Bool.{and_parts}
use Rattle.std.proofs.lemmas.List.{append-nil}
use Rattle.std.proofs.lemmas.List.Elements.{All-append, All-cons, All-head, All-map, All-nil, All-tail, All-weaker}
use Rattle.std.proofs.lemmas.List.Kept.{AllPairs-cons}
use Rattle.mailcore.specs.declared.keywords.Keyword.{Keyword}
use Rattle.mailcore.specs.declared.mailbox.Message.{Message}
use Rattle.mailcore.specs.declared.side.Side.TheVariants.{Far}
use Rattle.mailcore.specs.Content.{mark_of}
use Rattle.mailcore.specs.FlagSet.{FLAGS}
use Rattle.mailcore.specs.Listed.{AreRising, AreBelow}
use Rattle.mailcore.specs.Mailboxes.{Mailbox}
use Rattle.mailcore.specs.Ranges.{AreInRange}
use Rattle.mailcore.specs.Rise.{Rise}
use Rattle.mailcore.proofs.KnownFlags.{kept-lt}
use Rattle.mailcore.proofs.RiseLemmas.{rise-ends}
use Rattle.mailcore.specs.Stores.{Store, IsStore}
use Rattle.mailcore.specs.Visitors.{AreOctets, IsForeign, Visitors}
use Rattle.outside.specs.BoxArrivals.{Arrives, IsFarMessage}
use Rattle.wire_reader.specs.Literal.{is_octet}
use Rattle.imap_session.specs.Mailboxes.{FarMailbox, mailbox_at}
use Rattle.imap_session.specs.Servers.{Server}
use Rattle.imap_session.specs.Visits.{AllGain, Gains, Visits}
use Rattle.imap_session.proofs.Visiting.{visits_follow}
use Rattle.imap_client.proofs.Visited.{MayGain, gains_at}
use Rattle.imap_client.specs.Seen.{seen_message, seen_through}
use Rattle.mail_sides.proofs.SeenThrough.{map-append, uids_seen}
use Rattle.mail_sides.specs.Chosen.{IsChosen, IsMissing, KeepsMailboxes, box_at, nothing, settled, store_at, store_in}

-- ---- UIDs that come after others

abbrev Under : Message → Message → Type 0
Under a b = a.uid < b.uid

rise_all : (from : ℕ) (ms : List Message) (next : ℕ) → Rise from (map (λ m. m.uid) ms) next → All (λ m. from ≤ m.uid) ms
rise_all from [] next h = All-nil (λ (m : Message). from ≤ m.uid)
rise_all from (m ∷ ms) next h =
    let first = h.0 in
    All-cons (λ (x : Message). from ≤ x.uid) m ms first
    (All-weaker (λ (x : Message). m.uid + 1 ≤ x.uid) (λ (x : Message). from ≤ x.uid) (λ x k. omega (arith, first, k)) ms (rise_all (m.uid + 1) ms next h.1))

rising_come : (from : ℕ) (ms : List Message) (next : ℕ) → Rise from (map (λ m. m.uid) ms) next → AreRising ms
rising_come from [] next h = λ i j d lt within. absurd (omega (arith, within))
rising_come from (m ∷ ms) next h =
    AllPairs-cons Under m ms (All-weaker (λ (x : Message). m.uid + 1 ≤ x.uid) (Under m) (λ x k. omega (arith, k)) ms (rise_all (m.uid + 1) ms next h.1)) (rising_come (m.uid + 1) ms next h.1)

below_come : (from : ℕ) (ms : List Message) (next : ℕ) → Rise from (map (λ m. m.uid) ms) next → AreBelow ms next
below_come from [] next h = All-nil (λ (m : Message). m.uid < next)
below_come from (m ∷ ms) next h =
    let ends = rise-ends (m.uid + 1) (map (λ x. x.uid) ms) next h.1 in
    All-cons (λ (x : Message). x.uid < next) m ms (omega (arith, ends)) (below_come (m.uid + 1) ms next h.1)

rising_more : (ms more : List Message) (from next : ℕ) → AreRising ms → AreBelow ms from → Rise from (map (λ m. m.uid) more) next → AreRising (ms ++ more)
rising_more [] more from next r b h = rising_come from more next h
rising_more (m ∷ ms) more from next r b h =
    let low : m.uid < from = b 0 m (omega arith) in
    AllPairs-cons Under m (ms ++ more)
    (All-append (Under m) ms more (λ k d within. r 0 (suc k) d (omega arith) (omega (arith, within))) (All-weaker (λ (x : Message). from ≤ x.uid) (Under m) (λ x k. omega (arith, k, low)) more (rise_all from more next h)))
    (rising_more ms more from next (λ i j d lt within. r (suc i) (suc j) d (omega (arith, lt)) (omega (arith, within))) (λ k d within. b (suc k) d (omega (arith, within))) h)

below_more : (ms more : List Message) (from next : ℕ) → AreBelow ms from → Rise from (map (λ m. m.uid) more) next → AreBelow (ms ++ more) next
below_more ms more from next b h =
    let ends = rise-ends from (map (λ m. m.uid) more) next h in
    All-append (λ (x : Message). x.uid < next) ms more (All-weaker (λ (x : Message). x.uid < from) (λ (x : Message). x.uid < next) (λ x k. omega (arith, k, ends)) ms b) (below_come from more next h)

module _ (v : Visitors) where
  pub store_then : (s t : Store) → Gains v s t → IsStore s → IsStore t
  store_then s t g is = record {
    rising = subst AreRising (sym g.messages) (rising_more s.messages g.more s.next t.next is.rising is.below g.rise);
    below = subst (λ (ms : List Message). AreBelow ms t.next) (sym g.messages) (below_more s.messages g.more s.next t.next is.below g.rise);
  }

  pub range_then : (s t : Store) → Gains v s t → AreInRange s.messages → AreInRange t.messages
  range_then s t g is = subst AreInRange (sym g.messages) (record {
    uids = All-append (λ (m : Message). 0 < m.uid) s.messages g.more is.uids g.range.uids;
    last = All-append (λ (m : Message). m.uid + 1 < 2 ^ 32) s.messages g.more is.last g.range.last;
    flags = All-append (λ (m : Message). m.flags < 2 ^ FLAGS) s.messages g.more is.flags g.range.flags;
  })

  -- ---- the mailbox of a name

  pub record Found (m : FarMailbox) (x : Option FarMailbox) : Type 0 where
    pub mailbox : FarMailbox
    pub is : x ≡ Some mailbox
    pub gains : Gains v m.store mailbox.store

  found_in : (m : FarMailbox) (y : Option FarMailbox) → MayGain v (Some m) y → Found m y
  found_in m None g = absurd g
  found_in m (Some n) g = record { mailbox = n; is = refl; gains = g }

  pub found_then : (name : List ℕ) (s t : Server) → Visits v s t → (m : FarMailbox) → mailbox_at name s.mailboxes ≡ Some m → Found m (mailbox_at name t.mailboxes)
  found_then name s t h m is = found_in m (mailbox_at name t.mailboxes) (subst (λ (x : Option FarMailbox). MayGain v x (mailbox_at name t.mailboxes)) is (gains_at v name s.mailboxes t.mailboxes h.gains))

  abbrev pub chosen_then : (name : List ℕ) (s t : Server) → Visits v s t → IsChosen name s → IsChosen name t
  chosen_then name s t h c = let f = found_then name s t h c.mailbox c.there in record { condition = h.condition ∙ c.condition; mailbox = f.mailbox; there = f.is }

  none_before : (x y : Option FarMailbox) → MayGain v x y → y ≡ None → x ≡ None
  none_before None y g e = refl
  none_before (Some m) None g e = absurd g
  none_before (Some m) (Some n) g e = cc

  pub missed_before : (name : List ℕ) (s t : Server) → Visits v s t → IsMissing name t → IsMissing name s
  missed_before name s t h missing = none_before (mailbox_at name s.mailboxes) (mailbox_at name t.mailboxes) (gains_at v name s.mailboxes t.mailboxes h.gains) missing

  pub still_there : (name : List ℕ) (s t : Server) → Visits v s t → IsChosen name s → IsMissing name t → ⊥
  still_there name s t h c missing = let both = sym (missed_before name s t h missing) ∙ c.there in cc

  pub known_before : (user password : List ℕ) (s t : Server) → Visits v s t → is_known user password t ≡ false → is_known user password s ≡ false
  known_before user password s t h unknown =
      ap (λ (u : List ℕ). pointwise nat_eq user u && pointwise nat_eq password s.password) (sym h.user)
      ∙ ap (λ (p : List ℕ). pointwise nat_eq user t.user && pointwise nat_eq password p) (sym h.password) ∙ unknown

  next_later : (x y : Option FarMailbox) → MayGain v x y → (store_in x).next ≤ (store_in y).next
  next_later None None g = omega arith
  next_later None (Some n) g = absurd g
  next_later (Some m) None g = absurd g
  next_later (Some m) (Some n) g = rise-ends m.store.next (map (λ x. x.uid) g.more) n.store.next g.rise

  pub next_then : (name : List ℕ) (s t : Server) → Visits v s t → (store_at name s.mailboxes).next ≤ (store_at name t.mailboxes).next
  next_then name s t h = next_later (mailbox_at name s.mailboxes) (mailbox_at name t.mailboxes) (gains_at v name s.mailboxes t.mailboxes h.gains)

  -- ---- it is what others may do to a mailbox

  positive : (b : ℕ) → is_octet b ≡ true → 1 ≤ b
  positive zero h = absurd (cc)
  positive (suc n) h = omega arith

  abbrev Stored : ℕ → Type 0
  Stored b = (1 ≤ b) × (b < 256)

  stored : (bytes : List ℕ) → list_all is_octet bytes ≡ true → AreOctets bytes → All Stored bytes
  stored [] h octets = All-nil Stored
  stored (b ∷ bs) h octets =
      let p = and_parts (is_octet b) (list_all is_octet bs) h in
      All-cons Stored b bs (positive b p.0, All-head (λ x. x < 256) b bs octets) (stored bs p.1 (All-tail (λ x. x < 256) b bs octets))

  come_sound : (keywords : List Keyword) (s t : Store) (g : Gains v s t) → All IsFarMessage (map (seen_message keywords) g.more)
  come_sound keywords s t g = All-map IsFarMessage (seen_message keywords) g.more (λ i d within.
      let m : Message = get_or g.more i d in
      record { uid = g.range.uids i d within; in_set = kept-lt keywords m.flags; bytes = stored m.bytes (g.bodies i d within).each (g.octets i d within) })

  pub arrives_none : (b : Mailbox) → Arrives Far v.ours v.alone b b
  arrives_none b = record {
    comes = record {
      messages = [];
      next = b.store.next;
      rise = omega arith;
      sound = All-nil _;
      foreign = All-nil _;
      now = ap (λ (ms : List Message). let n : Mailbox = record b { store = record b.store { messages = ms } } in n) (sym (append-nil b.store.messages));
    };
    nobody = λ _. refl;
  }

  module _ (keywords : List Keyword) where
    abbrev shown : Store → Mailbox
    shown s = settled (seen_through keywords s)

    arrives_some : (s t : Store) → Gains v s t → (v.alone ≡ true → shown t ≡ shown s) → Arrives Far v.ours v.alone (shown s) (shown t)
    arrives_some s t g alone = record {
      comes = record {
        messages = map (seen_message keywords) g.more;
        next = t.next;
        rise = subst (λ (uids : List ℕ). Rise s.next uids t.next) (sym (uids_seen keywords g.more)) g.rise;
        sound = come_sound keywords s t g;
        foreign = All-map (λ (m : Message). IsForeign v.ours (mark_of m.bytes)) (seen_message keywords) g.more g.foreign;
        now =
            ap (λ (n : ℕ). let x : Store = record t { validity = n } in shown x) g.validity
            ∙ ap (λ (ms : List Message). let x : Store = record { validity = s.validity; next = t.next; messages = ms } in shown x) g.messages
            ∙ ap (λ (ms : List Message). let x : Store = record { validity = s.validity; next = t.next; messages = ms } in settled x) (map-append (seen_message keywords) s.messages g.more);
      };
      nobody = alone;
    }

    arrives_by : (x y : Option FarMailbox) → MayGain v x y → (v.alone ≡ true → shown (store_in y) ≡ shown (store_in x)) → Arrives Far v.ours v.alone (shown (store_in x)) (shown (store_in y))
    arrives_by None None g alone = arrives_none (shown nothing)
    arrives_by None (Some n) g alone = absurd g
    arrives_by (Some m) None g alone = absurd g
    arrives_by (Some m) (Some n) g alone = arrives_some m.store n.store g alone

    pub arrives : (name : List ℕ) (s t : Server) → Visits v s t → Arrives Far v.ours v.alone (box_at keywords name s) (box_at keywords name t)
    arrives name s t h =
        arrives_by (mailbox_at name s.mailboxes) (mailbox_at name t.mailboxes) (gains_at v name s.mailboxes t.mailboxes h.gains)
        (λ alone. ap (λ (ms : List FarMailbox). shown (store_at name ms)) (h.nobody alone))

  -- ---- one after another, with what keeps the mailboxes between

  -- the server as it was, but for its mailboxes
  abbrev pub stocked : Server → List FarMailbox → Server
  stocked s mailboxes = record s { mailboxes = mailboxes }

  pub visits_on : (s t u : Server) → KeepsMailboxes s t → Visits v t u → Visits v s (stocked s u.mailboxes)
  visits_on s t u same h = record {
    user = refl;
    password = refl;
    keywords = refl;
    condition = refl;
    gains = subst (λ (ms : List FarMailbox). AllGain v ms u.mailboxes) same h.gains;
    nobody = λ alone. h.nobody alone ∙ same;
  }

  pub visits_between : (r s t u : Server) → Visits v r s → KeepsMailboxes s t → Visits v t u → Visits v r (stocked r u.mailboxes)
  visits_between r s t u first same h =
      let both = visits_follow v r s (stocked s u.mailboxes) first (visits_on s t u same h) in
      record { user = refl; password = refl; keywords = refl; condition = refl; gains = both.gains; nobody = both.nobody }
