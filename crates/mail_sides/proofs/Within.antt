-- Each flag that is listed has a name by the map.
use Rattle.std.proofs.Common.{ℕ, Bool, List, [], ◌∷◌, map, Result, Ok, Err, sym, subst}
use Rattle.std.specs.Prelude.{All, IfOk}
use Rattle.std.proofs.lemmas.List.Elements.{All-head, All-tail, All-cons, All-nil}
use Rattle.mailcore.specs.declared.keywords.Keyword.{Keyword}
use Rattle.mailcore.specs.declared.listing.Item.{Item}
use Rattle.mailcore.specs.declared.listing.Listing.{Listing}
use Rattle.mailcore.specs.declared.mailbox.Message.{Message}
use Rattle.mailcore.specs.declared.side.Side.TheVariants as side
use Rattle.mailcore.specs.KeywordNames.{IsWithin}
use Rattle.mailcore.specs.Operations.{ShowsSparing, item_sparing}
use Rattle.maildir.specs.Folders.{Stored}
use Rattle.near_box.specs.Mailboxes.{near_of}
use Rattle.near_box.specs.declared.near_fault.NearFault.{NearFault}
use Rattle.near_box.proofs.RangeLemmas.{messages_within}
use Rattle.outside.specs.MailboxOperations.{ListsWithin}
use Rattle.mail_sides.specs.NearFaults.{reported_by}

items_within : (keywords : List Keyword) (spared : ℕ → Bool) (messages : List Message) → All (λ m. IsWithin keywords m.flags) messages
    → All (λ (i : Item). IsWithin keywords i.flags) (map (item_sparing side.Near spared) messages)
items_within keywords spared [] h = All-nil (λ (i : Item). IsWithin keywords i.flags)
items_within keywords spared (m ∷ ms) h =
    All-cons (λ (i : Item). IsWithin keywords i.flags) (item_sparing side.Near spared m) (map (item_sparing side.Near spared) ms)
    (All-head (λ (x : Message). IsWithin keywords x.flags) m ms h) (items_within keywords spared ms (All-tail (λ (x : Message). IsWithin keywords x.flags) m ms h))

listing_within : (fresh : ℕ) (keywords : List Keyword) (spared : ℕ → Bool) (s : Stored) (listing : Listing) → ShowsSparing side.Near spared (near_of fresh keywords s).store listing → ListsWithin keywords listing
listing_within fresh keywords spared s listing shows =
    subst (λ (is : List Item). All (λ (i : Item). IsWithin keywords i.flags) is) (sym shows.items) (items_within keywords spared (near_of fresh keywords s).store.messages (messages_within fresh keywords s))

pub lists_within : (fresh : ℕ) (keywords : List Keyword) (spared : ℕ → Bool) (s : Stored) (answer : Result Listing NearFault)
    → IfOk answer (λ listing. ShowsSparing side.Near spared (near_of fresh keywords s).store listing) → IfOk (reported_by answer) (ListsWithin keywords)
lists_within fresh keywords spared s (Ok listing) shows = listing_within fresh keywords spared s listing shows
lists_within fresh keywords spared s (Err fault) shows = tt
