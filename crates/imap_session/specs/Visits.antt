-- Others add messages to the mailboxes of a server while a connection is used. Nobody sees it but by commands, so what they do
-- stands before the next bytes that the server reads.
use Rattle.std.specs.Prelude.{◌≡◌, true, List, [], ◌∷◌, ◌++◌, All, map}
use Rattle.mailcore.specs.declared.mailbox.Message.{Message}
use Rattle.mailcore.specs.Content.{mark_of}
use Rattle.mailcore.specs.Ranges.{AreInRange}
use Rattle.mailcore.specs.Rise.{Rise}
use Rattle.mailcore.specs.Stores.{Store}
use Rattle.wire_strings.specs.Literals.{IsLiteral}
use Rattle.mailcore.specs.Visitors.{Visitors, AreOctets, IsForeign}
use Rattle.imap_session.specs.Mailboxes.{FarMailbox}
use Rattle.imap_session.specs.Servers.{Server}

-- A mailbox has more messages, after the others, under UIDs from the next one on. None of them bears a mark of the run.
pub record Gains (v : Visitors) (old new : Store) : Type 0 where
  pub more : List Message
  pub messages : new.messages ≡ old.messages ++ more
  pub validity : new.validity ≡ old.validity
  pub rise : Rise old.next (map (λ m. m.uid) more) new.next
  pub range : AreInRange more
  pub bodies : All (λ m. IsLiteral m.bytes) more
  pub octets : All (λ m. AreOctets m.bytes) more
  pub foreign : All (λ m. IsForeign v.ours (mark_of m.bytes)) more

-- each mailbox keeps its name and its place
abbrev pub AllGain : Visitors → (old new : List FarMailbox) → Type 0
AllGain v [] [] = Unit {0}
AllGain v [] (n ∷ ns) = ⊥
AllGain v (m ∷ ms) [] = ⊥
AllGain v (m ∷ ms) (n ∷ ns) = (n.name ≡ m.name) × Gains v m.store n.store × AllGain v ms ns

-- Others were there. Whether there is news of it, or the server has reported it, is left open.
pub record Visits (v : Visitors) (old new : Server) : Type 0 where
  pub user : new.user ≡ old.user
  pub password : new.password ≡ old.password
  pub keywords : new.keywords ≡ old.keywords
  pub condition : new.condition ≡ old.condition
  pub gains : AllGain v old.mailboxes new.mailboxes
  pub nobody : v.alone ≡ true → new.mailboxes ≡ old.mailboxes

-- others were there, and then this was done
pub record Among (v : Visitors) (P : Server → Server → Type 0) (old new : Server) : Type 0 where
  pub mid : Server
  pub visits : Visits v old mid
  pub then : P mid new
