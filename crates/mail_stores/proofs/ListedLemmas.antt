-- What was listed of stores.
use Rattle.std.proofs.Common.{◌≡◌, ◌∙◌, ⊎_elim, ℕ, List, [], ◌∷◌, ◌++◌, map, filter, Option, Some, ap, refl, sym, subst}
use Rattle.std.proofs.lemmas.List.Elements.{Contains-append_left, Contains-push, Contains-push_cases}
use Rattle.std.specs.Prelude.{Contains}
use Rattle.std.proofs.Math.Logic.{∥∥₁_map}
use Rattle.config.specs.declared.config.ImapStore.{ImapStore}
use Rattle.config.specs.declared.config.MaildirStore.{MaildirStore}
use Rattle.device.specs.declared.history.History.{History}
use Rattle.mailcore.specs.MailboxNames.{is_mailbox_name}
use Rattle.mailcore.specs.MailboxPatterns.{matches}
use Rattle.mailcore.specs.Visitors.{Visitors}
use Rattle.wire_strings.specs.Quotes.{unescaped}
use Rattle.imap_answers.specs.MailboxNames.{ReportsNames, names_of}
use Rattle.imap_link.specs.declared.link.Link as link
use Rattle.imap_session.specs.Mailboxes.{FarMailbox}
use Rattle.imap_session.specs.NameOrder.{in_order}
use Rattle.imap_session.specs.Servers.{Server}
use Rattle.imap_session.specs.Visits.{AllGain, Among}
use Rattle.near_places.specs.Trees.{AreBoxes}
use Rattle.near_places.specs.declared.looks.Looks.{Looks}
use Rattle.channels.specs.Asked.{Asked, FarListed, NearListed}
use Rattle.channels.specs.Boxes.{put_names}
use Rattle.channels.specs.Listings.{far_listings, near_listings}
use Rattle.mail_sides.specs.declared.logged_in.LoggedIn.{LoggedIn}
use Rattle.mail_stores.specs.Addresses.{address_of}
use Rattle.mail_stores.specs.Listed.{AllFound, AllListed, Finds, Hears, Lists, listed_at, synchronised_at}
use Rattle.mail_stores.specs.Names.{AreServable, IsServable, synchronised}
use Rattle.mail_stores.proofs.OrderLemmas.{in_none, in_order_are}

-- ---- of far stores

-- visitors leave each name where it is
pub names_visited : (v : Visitors) (old new : List FarMailbox) → AllGain v old new → map (λ m. m.name) new ≡ map (λ m. m.name) old
names_visited v [] [] gains = refl
names_visited v [] (n ∷ ns) gains = absurd gains
names_visited v (m ∷ ms) [] gains = absurd gains
names_visited v (m ∷ ms) (n ∷ ns) (same, gain, gains) =
    ap (λ (name : List ℕ). name ∷ map (λ m. m.name) ns) same
    ∙ ap (λ (names : List (List ℕ)). m.name ∷ names) (names_visited v ms ns gains)

-- what was listed are the names that the server had before
pub listed_before : (v : Visitors) (names : List (List ℕ)) (old new : Server) → Among v (ReportsNames names) old new → names ≡ names_of old
listed_before v names old new among =
    among.then.0 ∙ ap (λ (names : List (List ℕ)). filter is_mailbox_name (map unescaped (in_order (filter (matches (42 ∷ [])) names))))
    (names_visited v old.mailboxes among.mid.mailboxes among.visits.gains)

module _ {L : Type 0} {links : link.Ghosts L} (address : L → List ℕ) where
  -- what was heard over a session at the server of a store are its names
  pub heard_names : (store : ImapStore) (before : LoggedIn L links) (heard names : List (List ℕ)) (over : List (LoggedIn L links)) → Hears before heard over
      → address before.session.wire.link ≡ address_of store → names ≡ synchronised heard → Lists address synchronised_at store names over
  heard_names store before heard names over hears server is = record {
    before = before;
    after = hears.after;
    is = hears.is;
    server = server;
    said = λ honest. is ∙ ap synchronised (hears.said honest);
  }

  -- in their order they are listed
  pub in_their_order : (store : ImapStore) (names ordered : List (List ℕ)) (over : List (LoggedIn L links)) → Lists address synchronised_at store names over
      → ordered ≡ put_names [] names → Lists address listed_at store ordered over
  in_their_order store names ordered over lists is = record {
    before = lists.before;
    after = lists.after;
    is = lists.is;
    server = lists.server;
    said = λ honest. is ∙ ap (put_names []) (lists.said honest);
  }

  -- one more listing was answered, over this session
  pub listed_more : (store : ImapStore) (names : List (List ℕ)) (over : History (LoggedIn L links)) (old new : List Asked) (overs more : List (History (LoggedIn L links)))
      → new ≡ FarListed store (Some names) ∷ old → more ≡ over ∷ overs → Lists address listed_at store names over.items
      → ∥ AllListed address (far_listings old) overs ∥₁ → ∥ AllListed address (far_listings new) more ∥₁
  listed_more store names over old new overs more asked noted lists all = rw (asked, noted) (∥∥₁_map all (λ before. (lists, before)))

-- ---- of near stores

-- one more listing was answered, by these answers
pub found_more : (home : Option (List ℕ)) (store : MaildirStore) (names : List (List ℕ)) (looks : Looks) (old new : List Asked) (all more : List Looks)
    → new ≡ NearListed store (Some names) ∷ old → more ≡ looks ∷ all → Finds home store names looks
    → ∥ AllFound home (near_listings old) all ∥₁ → ∥ AllFound home (near_listings new) more ∥₁
found_more home store names looks old new all more asked noted finds found = rw (asked, noted) (∥∥₁_map found (λ before. (finds, before)))

-- those that a server can have, in their order, are found
pub found_in_order : (home : Option (List ℕ)) (store : MaildirStore) (looks : Looks) (names servable ordered : List (List ℕ)) → AreBoxes home store looks.looks names
    → AreServable names servable → ordered ≡ put_names [] servable → Finds home store ordered looks
found_in_order home store looks names servable ordered are can is = λ tree agrees name.
    let here = are tree agrees name in
    let there = can name in
    let put = in_order_are name servable in (
      λ c.
          let both = there.0 (put.0 (subst (λ (xs : List (List ℕ)). Contains xs name) is c)) in
          (here.0 both.0, both.1),
      λ has. subst (λ (xs : List (List ℕ)). Contains xs name) (sym is) (put.1 (there.1 (here.1 has.0, has.1))),
    )

-- ---- names near

pub servable_none : AreServable [] []
servable_none = λ name. (λ c. absurd (in_none name c), λ has. absurd (in_none name has.0))

pub servable_more : (names servable : List (List ℕ)) (one : List ℕ) → AreServable names servable → IsServable one → AreServable (names ++ one ∷ []) (servable ++ one ∷ [])
servable_more names servable one are can = λ name. (
  λ c. ⊎_elim
      (λ before. let both = (are name).0 before in (Contains-append_left names (one ∷ []) name both.0, both.1))
      (λ is. (subst (λ (x : List ℕ). Contains (names ++ one ∷ []) x) is (Contains-push names one), subst IsServable is can))
      (Contains-push_cases servable one name c),
  λ has. ⊎_elim
      (λ before. Contains-append_left servable (one ∷ []) name ((are name).1 (before, has.1)))
      (λ is. subst (λ (x : List ℕ). Contains (servable ++ one ∷ []) x) is (Contains-push servable one))
      (Contains-push_cases names one name has.0),
)

pub servable_same : (names servable : List (List ℕ)) (one : List ℕ) → AreServable names servable → (¬ IsServable one) → AreServable (names ++ one ∷ []) servable
servable_same names servable one are cannot = λ name. (
  λ c. let both = (are name).0 c in (Contains-append_left names (one ∷ []) name both.0, both.1),
  λ has. ⊎_elim
      (λ before. (are name).1 (before, has.1))
      (λ is. absurd (cannot (subst IsServable (sym is) has.1)))
      (Contains-push_cases names one name has.0),
)
