-- No call changes by which map the flags of a server are seen, nor logs anybody out; and what is sent by the names of that map.
use Rattle.std.proofs.Common.{◌≡◌, inl, inr, ℕ, true, List, ap, refl, ◌∙◌, Result, Ok, Err}
use Rattle.mailcore.specs.Visitors.{Visitors}
use Rattle.mailcore.specs.declared.keywords.Keyword.{Keyword}
use Rattle.mailcore.specs.KeywordNames.{IsMap, kept, named_set, names_of}
use Rattle.mailcore.proofs.KnownFlags.{read_kept}
use Rattle.imap_session.specs.Servers.{Condition, Server, is_logged_in}
use Rattle.imap_session.specs.Visits.{Among, Visits}
use Rattle.imap_link.specs.declared.fault.FarFault.{FarFault}
use Rattle.imap_link.specs.declared.fault.FarFault.TheVariants as faults
use Rattle.imap_link.specs.Exchanges.{Restarts}
use Rattle.imap_link.specs.Outcomes.{Outcome, Never}
use Rattle.imap_client.specs.Logins.{StaysIn}
use Rattle.imap_client.specs.Seen.{HasMap, KeepsMap, flags_sent}
use Rattle.imap_client.proofs.Lasting.{Lasts}

-- ---- what lasts

pub map_lasts : (s : Server) → Lasts (KeepsMap s) s
map_lasts s = record { same = refl; let_in = refl; chosen = λ name. refl; changed = λ mailboxes. refl }

pub login_lasts : (s : Server) → is_logged_in s.condition ≡ true → Lasts (λ t. is_logged_in t.condition ≡ true) s
login_lasts s h = record { same = h; let_in = refl; chosen = λ name. refl; changed = λ mailboxes. h }

-- among what others do
pub among_keeps : (v : Visitors) (P : Server → Server → Type 0) (old new : Server) → ((mid : Server) → P mid new → KeepsMap mid new) → Among v P old new → KeepsMap old new
among_keeps v P old new keeps a = keeps a.mid a.then ∙ a.visits.keywords

pub among_stays : (v : Visitors) (P : Server → Server → Type 0) (old new : Server) → ((mid : Server) → P mid new → StaysIn mid new) → Among v P old new → StaysIn old new
among_stays v P old new stays a logged = stays a.mid a.then (ap (λ (c : Condition). is_logged_in c) a.visits.condition ∙ logged)

-- a new connection
pub restarted_keeps : (result : Result (Unit {0}) FarFault) (old new : Server) → Outcome {T = Unit {0}} (λ _. Restarts) Never Restarts result old new → KeepsMap old new
restarted_keeps (Ok x) old new e = ap (λ (t : Server). t.keywords) e
restarted_keeps (Err faults.Stopped) old new (inl e) = ap (λ (t : Server). t.keywords) e
restarted_keeps (Err faults.Stopped) old new (inr e) = ap (λ (t : Server). t.keywords) e
restarted_keeps (Err faults.Refused) old new h = absurd h
restarted_keeps (Err faults.Protocol) old new h = absurd h
restarted_keeps (Err faults.TooLong) old new h = absurd h
restarted_keeps (Err faults.NoRev2) old new h = absurd h
restarted_keeps (Err faults.ReadOnly) old new h = absurd h
restarted_keeps (Err faults.NoMemory) old new (inl e) = ap (λ (t : Server). t.keywords) e
restarted_keeps (Err faults.NoMemory) old new (inr e) = ap (λ (t : Server). t.keywords) e

-- ---- flags that are sent

-- a server with this map is sent those that have a name
pub sent_kept : (keywords : List Keyword) (flags : ℕ) (s : Server) → IsMap keywords → HasMap keywords s → flags_sent keywords flags s ≡ kept keywords flags
sent_kept keywords flags s map has = ap (λ (k : List Keyword). named_set k (names_of keywords flags)) has ∙ read_kept keywords flags map

-- where others were there
pub mapped_then : (v : Visitors) (keywords : List Keyword) (old mid : Server) → Visits v old mid → HasMap keywords old → HasMap keywords mid
mapped_then v keywords old mid visits has = visits.keywords ∙ has
