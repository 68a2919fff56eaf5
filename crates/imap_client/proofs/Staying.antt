-- The mailbox stays selected in calls that change nothing, and what is listed of it.
use Rattle.std.proofs.Common.{◌≡◌, ℕ, suc, ◌+◌, ◌<◌, true, false, List, [], ◌∷◌, sym, ◌∙◌, ap, subst, arith, Option, Some, Result, Ok, Err, refl}
use Rattle.std.specs.Prelude.{map, max}
use Rattle.std.specs.Option.{option_map}
use Rattle.std.proofs.lemmas.List.Elements.{All-map}
use Rattle.mailcore.specs.declared.keywords.Keyword.{Keyword}
use Rattle.mailcore.specs.declared.mailbox.Message.{Message}
use Rattle.mailcore.specs.declared.listing.Listing.{Listing}
use Rattle.mailcore.specs.declared.side.Side.TheVariants.{Far}
use Rattle.mailcore.specs.Listed.{AreBelow, item_of}
use Rattle.mailcore.specs.Operations.{Shows}
use Rattle.mailcore.specs.Stores.{Store, IsStore}
use Rattle.mailcore.proofs.Rising.{rising-map}
use Rattle.imap_session.specs.Mailboxes.{FarMailbox}
use Rattle.imap_session.specs.Servers.{Server, selected}
use Rattle.imap_link.specs.declared.fault.FarFault.{FarFault}
use Rattle.imap_link.specs.declared.fault.FarFault.TheVariants as faults
use Rattle.imap_client.specs.Boxes.{IsSelected}
use Rattle.imap_answers.specs.Listings.{next_above, ListsFrom}
use Rattle.imap_client.specs.Seen.{seen_message, seen_through}
use Rattle.imap_client.specs.States.{State, EndsSo}
use Rattle.imap_client.proofs.Changed.{there_of}

module _ (P : Server → Type 0) (name : List ℕ) (validity next : ℕ) (was now : State) (old new : Server) (ready : now.is_ready ≡ true)
    (sel : was.is_ready ≡ true → IsSelected name validity next old) (holds : was.is_ready ≡ true → P old) (same : (m : FarMailbox) → selected old ≡ Some m → new ≡ old) where
  keeps_by : was.is_ready ≡ true → P new
  keeps_by was_ready =
      let there = there_of name validity next old (sel was_ready) in
      subst P (sym (same there.mailbox there.is)) (holds was_ready)

  failed : now.is_ready ≡ false → P new
  failed not_ready = let both : false ≡ true = sym not_ready ∙ ready in cc

  -- what holds of the server
  pub keeps : (T : Type 0) (commands : ℕ) (result : Result T FarFault) → EndsSo commands was now result → P new
  keeps T commands (Ok x) e = keeps_by e.was_ready
  keeps T commands (Err faults.Stopped) e = failed e.is_ready
  keeps T commands (Err faults.Refused) e = keeps_by e.was_ready
  keeps T commands (Err faults.Protocol) e = failed e.is_ready
  keeps T commands (Err faults.TooLong) e = failed e.is_ready
  keeps T commands (Err faults.NoRev2) e = failed e.is_ready
  keeps T commands (Err faults.ReadOnly) e = keeps_by e.was_ready
  keeps T commands (Err faults.NoMemory) e = failed e.is_ready

pub stays : (name : List ℕ) (validity next : ℕ) (was now : State) (old new : Server) → now.is_ready ≡ true → (was.is_ready ≡ true → IsSelected name validity next old)
    → ((m : FarMailbox) → selected old ≡ Some m → new ≡ old) → (T : Type 0) (commands : ℕ) (result : Result T FarFault) → EndsSo commands was now result → IsSelected name validity next new
stays name validity next was now old new ready sel same = keeps (IsSelected name validity next) name validity next was now old new ready sel sel same

-- ---- listings

same_some : (a b : ℕ) → (let x : Option ℕ = Some a in x) ≡ Some b → a ≡ b
same_some a b e = cc

pub lists_so : (see : Store → Store) → ((s : Store) → (see s).validity ≡ s.validity) → (name : List ℕ) (validity known : ℕ) (s : Server) (m : FarMailbox) → selected s ≡ Some m → IsSelected name validity known s → (listing : Listing)
    → listing.validity ≡ validity → listing.next ≡ next_above known listing.items → listing.items ≡ map (item_of Far) (see m.store).messages → ListsFrom known (see m.store) listing
lists_so see same name validity known s m at is listing v n e = record {
  validity = v ∙ sym (same_some m.store.validity validity (sym (ap (option_map (λ x. x.store.validity)) at) ∙ is.1)) ∙ sym (same m.store);
  next = n;
  items = e;
}

next_stays : (next : ℕ) (ms : List Message) → AreBelow ms next → next_above next (map (item_of Far) ms) ≡ next
next_stays next [] below = refl
next_stays next (m ∷ ms) below =
    let less : m.uid < next = below 0 m (omega arith) in
    let same : max next (m.uid + 1) ≡ next = omega arith in
    ap (λ (n : ℕ). next_above n (map (item_of Far) ms)) same ∙ next_stays next ms (λ k d h. below (suc k) d (omega arith))

-- a store is one too where it is seen through a map
pub seen_is_store : (keywords : List Keyword) (s : Store) → IsStore s → IsStore (seen_through keywords s)
seen_is_store keywords s is = record {
  rising = rising-map (λ (m : Message). m.uid) (seen_message keywords) s.messages is.rising;
  below = All-map (λ (m : Message). m.uid < s.next) (seen_message keywords) s.messages is.below;
}

-- where the next UID is known, it is shown
pub shows_so : (known : ℕ) (s : Store) (listing : Listing) → IsStore s → known ≡ s.next → ListsFrom known s listing → Shows Far s listing
shows_so known s listing is e l = record {
  validity = l.validity;
  next = l.next ∙ ap (next_above known) l.items ∙ ap (λ (n : ℕ). next_above n (map (item_of Far) s.messages)) e ∙ next_stays s.next s.messages is.below;
  items = l.items;
}
