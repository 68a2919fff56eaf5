-- A mailbox that was lent.
use Rattle.std.specs.Prelude.{◌≡◌, ℕ, Bool, List, ◌∷◌, Option}
use Rattle.outside.specs.Calls.{Seen}
use Rattle.outside.specs.Opened.{Opened}
use Rattle.channels.specs.Asked.{Place}
use Rattle.channels.specs.Lendings.{LentPlace}

-- its names, how its outside was seen when it was lent and when it was given back, and what was read of its shelf by then
pub record Loan : Type 0 where
  pub place : Place
  pub old : Seen
  pub new : Seen
  pub opened : Option Opened

-- the same of an outside of which it is known which marks nobody else writes, and whether nobody else adds messages
abbrev pub lent_among : (ours : List ℕ → Bool) → (alone : Bool) → Loan → LentPlace
lent_among ours alone loan = record {
  place = loan.place;
  lent = record { ours = ours; alone = alone; old = loan.old; new = loan.new; opened = loan.opened };
}

-- one mailbox more was lent: this one, and it was seen so
pub record LendsAs (place : Place) (seen : Seen) (old new : List Loan) : Type 0 where
  pub loan : Loan
  pub noted : new ≡ loan ∷ old
  pub here : loan.place ≡ place
  pub was : loan.old ≡ seen
