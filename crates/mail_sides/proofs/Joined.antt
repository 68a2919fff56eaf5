-- One call of the far box after another, at the server.
use Rattle.std.proofs.Common.{◌≡◌, ◌≤◌, ◌<◌, ◌+◌, ℕ, suc, Bool, true, false, List, [], ◌∷◌, Result, Ok, Err, arith, sym, ap, subst, ◌∙◌, inl, inr, refl}
use Rattle.std.specs.Prelude.{All, IfOk, IsErrAnd, map, max}
use Rattle.std.proofs.lemmas.List.Elements.{All-cons, All-map, All-nil}
use Rattle.mailcore.specs.declared.keywords.Keyword.{Keyword}
use Rattle.mailcore.specs.declared.mailbox.Message.{Message}
use Rattle.mailcore.specs.Listed.{AreBelow, item_of}
use Rattle.mailcore.specs.Stores.{Store, IsStore}
use Rattle.mailcore.specs.declared.listing.Item.{Item}
use Rattle.mailcore.specs.KeywordNames.{IsWithin}
use Rattle.mailcore.proofs.KnownFlags.{kept-within}
use Rattle.outside.specs.MailboxOperations.{ListsFar, ListsWithin, ReportsNext}
use Rattle.mailcore.specs.Visitors.{Visitors}
use Rattle.imap_session.specs.Visits.{AllGain, Visits, Among}
use Rattle.imap_client.proofs.Visited.{at_once}
use Rattle.imap_client.specs.Seen.{seen_message, seen_through}
use Rattle.imap_client.proofs.Staying.{seen_is_store, shows_so}
use Rattle.mailcore.specs.declared.listing.Listing.{Listing}
use Rattle.mailcore.specs.declared.side.Side.TheVariants.{Far}
use Rattle.imap_link.specs.declared.fault.FarFault.{FarFault}
use Rattle.imap_link.specs.declared.fault.FarFault.TheVariants as far
use Rattle.imap_link.specs.Exchanges.{Restarts}
use Rattle.imap_link.specs.Outcomes.{Outcome, Never as Unrefused}
use Rattle.imap_session.specs.Ends.{MayHave}
use Rattle.imap_session.specs.Mailboxes.{FarMailbox, mailbox_at}
use Rattle.imap_session.specs.Servers.{Server, is_before_login, is_logged_in}
use Rattle.imap_answers.specs.Listings.{ListsFrom, next_above}
use Rattle.imap_client.specs.Logins.{Authenticates, Rejects, Remains}
use Rattle.imap_client.specs.Readings.{Reports}
use Rattle.mail_sides.specs.declared.stage.Stage.{Stage}
use Rattle.mail_sides.specs.Chosen.{IsChosen, IsUnknown, KeepsMailboxes, ListsAll, LogsIn, Misses, ReportsValidity, store_at}
use Rattle.mail_sides.specs.Stages.{RefusesAll}
use Rattle.mail_sides.proofs.Mailboxes.{store_is}

-- what holds of a fault holds where it is handed on
pub handed : {T : Type 0} (P : Result T FarFault → Type 0) (e : FarFault) (r : Result T FarFault) → IsErrAnd r (λ x. x ≡ e) → P (Err e) → P r
handed P e (Ok x) is h = absurd is
handed P e (Err x) is h = subst (λ (y : FarFault). P (Err y)) (sym is) h

-- a call after what keeps the mailboxes, which keeps them
module _ (refuses refuses' effect : Server → Server → Type 0) (old mid new : Server) (before : KeepsMailboxes old mid) (keeps : effect mid new → KeepsMailboxes mid new) (refused : refuses mid new → refuses' old new) where
  may_keep : MayHave effect mid new → MayHave KeepsMailboxes old new
  may_keep (inl quiet) = inr (ap (λ (s : Server). s.mailboxes) quiet ∙ before)
  may_keep (inr e) = inr (keeps e ∙ before)

  pub err_so : (T U : Type 0) (does : T → Server → Server → Type 0) (does' : U → Server → Server → Type 0) (e : FarFault) → Outcome {T = T} does refuses effect (Err e) mid new → Outcome {T = U} does' refuses' KeepsMailboxes (Err e) old new
  err_so T U does does' far.Stopped o = may_keep o
  err_so T U does does' far.Refused o = refused o
  err_so T U does does' far.Protocol o = o
  err_so T U does does' far.TooLong o = o
  err_so T U does does' far.NoRev2 o = o
  err_so T U does does' far.ReadOnly o = o
  err_so T U does does' far.NoMemory o = may_keep o

  pub joined : {T : Type 0} (does does' : T → Server → Server → Type 0) → ((answer : T) → does answer mid new → does' answer old new) → (r : Result T FarFault) → Outcome does refuses effect r mid new → Outcome does' refuses' KeepsMailboxes r old new
  joined does does' done (Ok a) o = done a o
  joined {T} does does' done (Err e) o = err_so T T does does' e o

abbrev boxes_of : Server → List FarMailbox
boxes_of s = s.mailboxes

-- ---- a login

abbrev pub LoginEnds : (user password : List ℕ) → Result (Unit {0}) FarFault → Server → Server → Type 0
LoginEnds user password = Outcome (λ _. LogsIn) (IsUnknown user password) KeepsMailboxes

-- others acted after a new connection; they might as well have acted before it
abbrev earlier : Server → Server → Server
earlier old mid = record mid { condition = old.condition }

module _ (v : Visitors) (user password : List ℕ) (old mid : Server) where
  pub unconnected : (new : Server) (e : FarFault) → Outcome {T = Unit {0}} (λ _. Restarts) Unrefused Restarts (Err e) old new → Among v (LoginEnds user password (Err e)) old new
  unconnected new e o =
      at_once v (LoginEnds user password (Err e)) old new
      (err_so Unrefused (IsUnknown user password) Restarts old old new refl (λ r. ap boxes_of r) (λ h. absurd h) (Unit {0}) (Unit {0}) (λ _. Restarts) (λ _. LogsIn) e o)

  pub before_login : Restarts old mid → is_before_login mid.condition ≡ true
  before_login r = ap (λ (s : Server). is_before_login s.condition) r

  visits_before : Restarts old mid → (late : Server) → Visits v mid late → Visits v old (earlier old late)
  visits_before is late h = record {
    user = h.user ∙ ap (λ (s : Server). s.user) is;
    password = h.password ∙ ap (λ (s : Server). s.password) is;
    keywords = h.keywords ∙ ap (λ (s : Server). s.keywords) is;
    condition = refl;
    gains = subst (λ (ms : List FarMailbox). AllGain v ms late.mailboxes) (ap boxes_of is) h.gains;
    nobody = λ alone. h.nobody alone ∙ ap boxes_of is;
  }

  pub connected : (new : Server) → Restarts old mid → (r : Result (Unit {0}) FarFault)
      → Among v (Outcome (λ _. Authenticates user password) (Rejects user password) (Authenticates user password) r) mid new → Among v (LoginEnds user password r) old new
  connected new is r a =
      let late = a.mid in
      record {
        mid = earlier old late;
        visits = visits_before is late a.visits;
        then =
            joined (Rejects user password) (IsUnknown user password) (Authenticates user password) (earlier old late) late new refl (λ a. ap boxes_of a.1)
            (λ h. (h.0, ap boxes_of h.1)) (λ _. Authenticates user password) (λ _. LogsIn)
            (λ x a. (ap boxes_of a.1, ap (λ (s : Server). is_logged_in s.condition) a.1)) r a.then;
      }

-- ---- a selection after it

module _ (stage : Stage) (user password name : List ℕ) (old mid new : Server) where
  pub reached : KeepsMailboxes old mid → (r : Result ℕ FarFault) → Outcome (ReportsValidity name) (Misses name) KeepsMailboxes r mid new → Outcome (ReportsValidity name) (RefusesAll stage user password name) KeepsMailboxes r old new
  reached before r o =
      joined (Misses name) (RefusesAll stage user password name) KeepsMailboxes old mid new before (λ k. k)
      (λ m. inr (sym (ap (mailbox_at name) before) ∙ m.0, m.1 ∙ before)) (ReportsValidity name) (ReportsValidity name)
      (λ validity t. (t.0 ∙ before, t.1 ∙ ap (λ (ms : List FarMailbox). (store_at name ms).validity) before)) r o

-- ---- what is listed, where the mailbox is selected again

above_least : (ms : List Message) (n : ℕ) → n ≤ next_above n (map (item_of Far) ms)
above_least [] n = omega arith
above_least (m ∷ ms) n = let rest = above_least ms (max n (m.uid + 1)) in omega (arith, rest)

above_each : (ms : List Message) (n : ℕ) → All (λ m. m.uid < next_above n (map (item_of Far) ms)) ms
above_each [] n = All-nil (λ (m : Message). m.uid < n)
above_each (m ∷ ms) n =
    let rest = above_least ms (max n (m.uid + 1)) in
    All-cons (λ (x : Message). x.uid < next_above (max n (m.uid + 1)) (map (item_of Far) ms)) m ms (omega (arith, rest)) (above_each ms (max n (m.uid + 1)))

above_most : (ms : List Message) (n k : ℕ) → n ≤ k → AreBelow ms k → next_above n (map (item_of Far) ms) ≤ k
above_most [] n k le below = le
above_most (m ∷ ms) n k le below =
    let less : m.uid < k = below 0 m (omega arith) in
    above_most ms (max n (m.uid + 1)) k (omega (arith, le, less)) (λ i d within. below (suc i) d (omega (arith, within)))

module _ (known next : ℕ) (s : Store) (listing : Listing) (is : IsStore s) (least : known ≤ next) (most : next ≤ s.next) (l : ListsFrom next s listing) where
  next_is : listing.next ≡ next_above next (map (item_of Far) s.messages)
  next_is = l.next ∙ ap (next_above next) l.items

  states : (alone : Bool) → (alone ≡ true → next ≡ s.next) → ReportsNext alone known listing s
  states true same = (shows_so next s listing is (same refl) l).next
  states false same =
      inr (record {
        least = (let a = above_least s.messages next in omega (arith, next_is, a, least));
        above = subst (λ (n : ℕ). All (λ m. m.uid < n) s.messages) (sym next_is) (above_each s.messages next);
        most = (let a = above_most s.messages next s.next most is.below in omega (arith, next_is, a));
      })

  pub lists_far : (alone : Bool) → (alone ≡ true → next ≡ s.next) → ListsFar alone known listing s
  lists_far alone same = record { shows = record { validity = l.validity; next = refl; items = l.items }; next = states alone same }

module _ (keywords : List Keyword) (alone : Bool) (known : ℕ) (name : List ℕ) (old mid new : Server) where
  pub listed : (next : ℕ) (c : IsChosen name mid) → KeepsMailboxes old mid → IsStore c.mailbox.store → known ≤ next → next ≤ c.mailbox.store.next → (alone ≡ true → next ≡ c.mailbox.store.next) → (r : Result Listing FarFault)
      → Outcome (Reports (ListsFrom next (seen_through keywords c.mailbox.store))) Unrefused Remains r mid new → Outcome (ListsAll keywords alone known name) Unrefused KeepsMailboxes r old new
  listed next c before is least most same (Ok listing) o = (
    ap boxes_of o.1 ∙ before,
    subst (λ (ms : List FarMailbox). ListsFar alone known listing (seen_through keywords (store_at name ms))) before
        (subst (λ s. ListsFar alone known listing (seen_through keywords s)) (sym (store_is name mid c))
        (lists_far known next (seen_through keywords c.mailbox.store) listing (seen_is_store keywords c.mailbox.store is) least most o.0 alone same)),
  )
  listed next c before is least most same (Err e) o =
      err_so Unrefused Unrefused Remains old mid new before (λ q. ap boxes_of q) (λ h. h) Listing Listing (Reports (ListsFrom next (seen_through keywords c.mailbox.store))) (ListsAll keywords alone known name) e o

-- each flag that is listed has a name
module _ (keywords : List Keyword) (alone : Bool) (known : ℕ) (name : List ℕ) (old new : Server) where
  pub within_of : (r : Result Listing FarFault) → Outcome (ListsAll keywords alone known name) Unrefused KeepsMailboxes r old new → IfOk r (ListsWithin keywords)
  within_of (Ok listing) o =
      let ms = (store_at name old.mailboxes).messages in
      subst (All (λ (i : Item). IsWithin keywords i.flags)) (sym o.1.shows.items)
      (All-map (λ (i : Item). IsWithin keywords i.flags) (item_of Far) (map (seen_message keywords) ms)
      (All-map (λ (m : Message). IsWithin keywords m.flags) (seen_message keywords) ms (λ k d l. kept-within keywords _)))
  within_of (Err e) o = tt
