-- What happens at login.
use Rattle.std.specs.Prelude.{◌≡◌, ℕ, Bool, true, false, ◌&&◌, nat_eq, List, Some}
use Rattle.std.specs.Cmp.Lexicographic.{pointwise}
use Rattle.wire_tokens.specs.Names.{has_name}
use Rattle.imap_replies.specs.declared.reply.Reply.{Reply}
use Rattle.imap_replies.specs.declared.reply.Reply.TheVariants.{Capability}
use Rattle.imap_session.specs.Servers.{Authenticated, Server, is_logged_in}
use Rattle.imap_session.specs.SessionCommands.{REV2}

abbrev pub reports_rev2 : Reply → Bool
reports_rev2 (Capability (Some names)) = has_name REV2 names
reports_rev2 _ = false

-- the user has this password
abbrev pub is_known : (user password : List ℕ) → Server → Bool
is_known user password s = pointwise nat_eq user s.user && pointwise nat_eq password s.password

-- the user was let in
abbrev pub Authenticates : (user password : List ℕ) → Server → Server → Type 0
Authenticates user password old new = (is_known user password old ≡ true) × (new ≡ record old { condition = Authenticated })

-- the user was not
abbrev pub Rejects : (user password : List ℕ) → Server → Server → Type 0
Rejects user password old new = (is_known user password old ≡ false) × (new ≡ old)

-- who is logged in stays so
abbrev pub StaysIn : Server → Server → Type 0
StaysIn old new = is_logged_in old.condition ≡ true → is_logged_in new.condition ≡ true

-- nothing changed
abbrev pub Remains : Server → Server → Type 0
Remains old new = new ≡ old
