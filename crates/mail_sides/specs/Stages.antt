-- How far a far mailbox is.
use Rattle.std.specs.Prelude.{◌≡◌, ◌⊎◌, ℕ, Bool, true, false, not, ◌&&◌, List}
use Rattle.imap_session.specs.Servers.{Server}
use Rattle.mail_sides.specs.declared.stage.Stage.{Stage}
use Rattle.mail_sides.specs.declared.stage.Stage.TheVariants.{Closed, LoggedIn, Open}
use Rattle.mail_sides.specs.Chosen.{IsUnknown, Misses}

-- somebody has logged in
abbrev pub is_reached : Stage → Bool
is_reached Closed = false
is_reached LoggedIn = true
is_reached Open = true

abbrev pub is_open_at : Stage → Bool
is_open_at Closed = false
is_open_at LoggedIn = false
is_open_at Open = true

-- A closed one can be connected anew. One where somebody has logged in has failed where its session has, and an open one also where its
-- mailbox could not be selected again.
abbrev pub is_broken_at : Stage → (is_selected is_ready : Bool) → Bool
is_broken_at Closed is_selected is_ready = false
is_broken_at LoggedIn is_selected is_ready = not is_ready
is_broken_at Open is_selected is_ready = not (is_ready && is_selected)

-- nobody has logged in, and the user has not this password
abbrev pub Unopened : Stage → (user password : List ℕ) → Server → Server → Type 0
Unopened stage user password old new = (stage ≡ Closed) × IsUnknown user password old new

-- why a server refuses to open the mailbox of this name: that, or there is no mailbox of this name
abbrev pub RefusesAll : Stage → (user password name : List ℕ) → Server → Server → Type 0
RefusesAll stage user password name old new = Unopened stage user password old new ⊎ Misses name old new
