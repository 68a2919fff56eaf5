-- What stays of a pair whose parts stay, while a listing is noted.
use Rattle.std.proofs.Common.{◌≡◌, ◌∙◌, ap, ℕ, List, Option}
use Rattle.device.specs.declared.history.History.{History}
use Rattle.book.specs.declared.shelf.Shelf as shelf
use Rattle.outside.specs.declared.mailbox.Mailbox as mailbox
use Rattle.outside.specs.Devices.{Device}
use Rattle.outside.specs.Opened.{Opened}
use Rattle.run_pair.specs.BookParts.{files_of, kept_of}
use Rattle.run_pair.specs.declared.pair.Pair.{Pair}
use Rattle.run_pair.specs.Pairs.{HasParts, device_of, far_answered, near_answered}
use Rattle.run_pair.specs.Parts.{answered, device_with, opened_with}

module _ {F N S : Type 0} {fars : mailbox.Ghosts F} {nears : mailbox.Ghosts N} {shelves : shelf.Ghosts S} where
  pub same_device : (p q : Pair F N S fars nears shelves) → HasParts p q → device_of q ≡ device_of p
  same_device p q has =
      ap (λ x. device_with (fars.seen x).stored (nears.seen q.near).stored (files_of q.book) q.tally.named) has.far
      ∙ ap (λ x. device_with (fars.seen p.far).stored (nears.seen x).stored (files_of q.book) q.tally.named) has.near
      ∙ ap (λ x. device_with (fars.seen p.far).stored (nears.seen p.near).stored (files_of x) q.tally.named) has.book
      ∙ ap (λ x. device_with (fars.seen p.far).stored (nears.seen p.near).stored (files_of p.book) x.named) has.tally

  -- what the parts of one say of its mailboxes and its book the parts of the other say
  pub same_opened : (p q : Pair F N S fars nears shelves) (vs ws : List ℕ) (l : List Device) → HasParts p q
      → opened_with (answered (fars.is_open q.far) vs) (answered (nears.is_open q.near) ws) l (kept_of q.book)
      ≡ opened_with (answered (fars.is_open p.far) vs) (answered (nears.is_open p.near) ws) l (kept_of p.book)
  same_opened p q vs ws l has =
      ap (λ x. opened_with (answered (fars.is_open x) vs) (answered (nears.is_open q.near) ws) l (kept_of q.book)) has.far
      ∙ ap (λ x. opened_with (answered (fars.is_open p.far) vs) (answered (nears.is_open x) ws) l (kept_of q.book)) has.near
      ∙ ap (λ x. opened_with (answered (fars.is_open p.far) vs) (answered (nears.is_open p.near) ws) l (kept_of x)) has.book
