-- Nothing is removed where nothing is named.
use Rattle.std.proofs.Common.{◌≡◌, inl, IfErr, Result, Ok, Err, ℕ, Bool, true, false, List, [], ◌∷◌, length, refl, sym, ◌∙◌, ap, subst, Option, Some, None}
use Rattle.std.specs.Prelude.{map, filter, ◌==◌, ◌&&◌, if◌then◌else◌}
use Rattle.mailcore.specs.declared.mailbox.Message.{Message}
use Rattle.mailcore.specs.Stores.{Store}
use Rattle.mailcore.specs.Operations.{expunged}
use Rattle.wire_tokens.specs.Sets.{names}
use Rattle.imap_session.specs.Mailboxes.{FarMailbox, same_name, changed}
use Rattle.imap_session.specs.NamedMessages.{greatest, named_in, goes, uids_going, swept}
use Rattle.imap_link.specs.declared.fault.FarFault.{FarFault}
use Rattle.imap_link.specs.declared.fault.FarFault.TheVariants as faults
use Rattle.imap_link.specs.Outcomes.{Outcome, Never}
use Rattle.imap_client.specs.Calls.{each_one}
use Rattle.imap_client.specs.Boxes.{Becomes, commands_for}
use Rattle.imap_session.specs.Servers.{Condition, NotAuthenticated, Authenticated, Selected, LoggedOut, Server, changed_in, with_selected}

none_named : (g : Option ℕ) (uid : ℕ) → names g [] uid ≡ false
none_named None uid = refl
none_named (Some g) uid = refl

and_false : (a b : Bool) → a ≡ false → (a && b) ≡ false
and_false a b e = ap (λ (x : Bool). x && b) e

filter_none : (p : Message → Bool) → ((m : Message) → p m ≡ false) → (ms : List Message) → filter p ms ≡ []
filter_none p n [] = refl
filter_none p n (m ∷ ms) = ap (λ (b : Bool). if b then m ∷ filter p ms else filter p ms) (n m) ∙ filter_none p n ms

filter_all : (ms : List Message) → filter (λ m. true) ms ≡ ms
filter_all [] = refl
filter_all (m ∷ ms) = ap (λ (l : List Message). m ∷ l) (filter_all ms)

none_going : (s : Store) → uids_going [] s ≡ []
none_going s = ap (map (λ m. m.uid)) (filter_none (goes (named_in s [])) (λ m. and_false (named_in s [] m.uid) _ (none_named (greatest s.messages) m.uid)) s.messages)

pub swept_none : (s : Store) → swept [] s ≡ s
swept_none s = ap (λ (uids : List ℕ). expunged uids s) (none_going s) ∙ ap (λ (ms : List Message). record s { messages = ms }) (filter_all s.messages)

module _ (change : Store → Store) (same : (s : Store) → change s ≡ s) where
  same_by : (b : Bool) (m : FarMailbox) (ms rest : List FarMailbox) → rest ≡ ms → (if b then record m { store = change m.store } ∷ ms else m ∷ rest) ≡ m ∷ ms
  same_by true m ms rest e = ap (λ (s : Store). record m { store = s } ∷ ms) (same m.store)
  same_by false m ms rest e = ap (λ (l : List FarMailbox). m ∷ l) e

  changed_same : (name : List ℕ) (ms : List FarMailbox) → changed change name ms ≡ ms
  changed_same name [] = refl
  changed_same name (m ∷ ms) = same_by (same_name m.name name) m ms (changed change name ms) (changed_same name ms)

  in_same : (c : Condition) (ms : List FarMailbox) → changed_in c change ms ≡ ms
  in_same NotAuthenticated ms = refl
  in_same Authenticated ms = refl
  in_same (Selected name) ms = changed_same name ms
  in_same LoggedOut ms = refl

  pub selected_same : (s : Server) → s ≡ with_selected change s
  selected_same s = ap (λ (ms : List FarMailbox). record s { mailboxes = ms }) (sym (in_same s.condition s.mailboxes))

-- ---- a call that sends nothing

pub rests : (uids : List ℕ) (old : Server) (result : Result (Unit {0}) FarFault) → uids ≡ [] → IfErr result (λ f. f ≡ faults.Stopped)
    → Outcome (λ x. Becomes (swept (each_one uids))) Never (Becomes (swept (each_one uids))) result old old
rests uids old (Ok x) e h = subst (λ (us : List ℕ). Becomes (swept (each_one us)) old old) (sym e) (selected_same (swept []) swept_none old)
rests uids old (Err f) e h = subst (λ (y : FarFault). Outcome {T = Unit {0}} (λ x. Becomes (swept (each_one uids))) Never (Becomes (swept (each_one uids))) (Err y) old old) (sym h) (inl refl)

pub none_sent : (uids : List ℕ) → uids ≡ [] → 0 ≡ commands_for uids
none_sent uids e = sym (ap commands_for e)

pub one_sent : (uids : List ℕ) → (length uids == 0) ≡ false → 1 ≡ commands_for uids
one_sent [] e = cc
one_sent (u ∷ uids) e = refl
