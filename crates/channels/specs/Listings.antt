-- Which listings of stores were answered.
use Rattle.std.specs.Prelude.{◌≡◌, ℕ, List, Option, None}
use Rattle.std.specs.List.{filter_map}
use Rattle.std.specs.Option.{option_map}
use Rattle.config.specs.declared.config.ImapStore.{ImapStore}
use Rattle.config.specs.declared.config.MaildirStore.{MaildirStore}
use Rattle.channels.specs.Asked.{Asked, FarListed, NearListed}

-- a store, and the names of its mailboxes
pub record ListedFar : Type 0 where
  pub store : ImapStore
  pub names : List (List ℕ)

pub record ListedNear : Type 0 where
  pub store : MaildirStore
  pub names : List (List ℕ)

-- where this was asked, and names were answered
abbrev pub far_listing : Asked → Option ListedFar
far_listing (FarListed store names) = option_map (λ names. record { store = store; names = names }) names
far_listing _ = None

abbrev pub near_listing : Asked → Option ListedNear
near_listing (NearListed store names) = option_map (λ names. record { store = store; names = names }) names
near_listing _ = None

-- of all that was asked, in the same order
abbrev pub far_listings : List Asked → List ListedFar
far_listings things = filter_map far_listing things

abbrev pub near_listings : List Asked → List ListedNear
near_listings things = filter_map near_listing things

-- nothing was listed so
pub record IsNoListing (asked : Asked) : Type 0 where
  pub far : far_listing asked ≡ None
  pub near : near_listing asked ≡ None
