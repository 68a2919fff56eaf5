-- The mailbox of a name, through what a call does to the selected one.
use Rattle.std.proofs.Common.{◌≡◌, ℕ, Bool, true, cond, List, [], ◌∷◌, All, Option, Some, sym, ap, subst, ◌∙◌, inl, inr}
use Rattle.std.proofs.lemmas.Bool.{cases_Bool}
use Rattle.std.proofs.lemmas.List.Elements.{All-head, All-tail}
use Rattle.mailcore.specs.Stores.{Store}
use Rattle.imap_session.specs.Mailboxes.{FarMailbox, same_name, mailbox_at, changed}
use Rattle.imap_session.specs.Servers.{Condition, NotAuthenticated, Authenticated, LoggedOut, Server, Selected, is_logged_in, selected, selected_in, changed_in, with_selected}
use Rattle.imap_link.specs.Soundness.{IsSound, AreSound}
use Rattle.imap_client.specs.Boxes.{IsSelected, selected_name}
use Rattle.imap_client.proofs.Changed.{there_of}
use Rattle.mail_sides.specs.Chosen.{IsChosen, store_at, store_in}

pub selected_is : (name : List ℕ) (s : Server) (c : IsChosen name s) → selected s ≡ Some c.mailbox
selected_is name s c = ap (selected_in s.mailboxes) c.condition ∙ c.there

abbrev first_of : List ℕ → FarMailbox → List FarMailbox → Bool → Option FarMailbox
first_of name m ms b = cond b (Some m) (mailbox_at name ms)

-- what is found is one of them
pub found_is : (P : FarMailbox → Type 0) (name : List ℕ) (ms : List FarMailbox) (m : FarMailbox) → All P ms → mailbox_at name ms ≡ Some m → P m
found_is P name [] m all e = absurd cc
found_is P name (x ∷ ms) m all e =
    elim (cases_Bool (same_name x.name name)) [
      | inl here ↦
          let is : Some x ≡ Some m = sym (ap (first_of name x ms) here) ∙ e in
          let same : x ≡ m = cc in
          subst P same (All-head P x ms all)
      | inr other ↦ found_is P name ms m (All-tail P x ms all) (sym (ap (first_of name x ms) other) ∙ e)
    ]

-- a changed mailbox is found under its name
pub changed_there : (change : Store → Store) (name : List ℕ) (ms : List FarMailbox) (m : FarMailbox) → mailbox_at name ms ≡ Some m → mailbox_at name (changed change name ms) ≡ Some (record m { store = change m.store })
changed_there change name [] m e = absurd cc
changed_there change name (x ∷ ms) m e =
    elim (cases_Bool (same_name x.name name)) [
      | inl here ↦
          let is : Some x ≡ Some m = sym (ap (first_of name x ms) here) ∙ e in
          let same : x ≡ m = cc in
          let now : FarMailbox = record x { store = change x.store } in
          ap (λ (b : Bool). mailbox_at name (cond b (now ∷ ms) (x ∷ changed change name ms))) here
          ∙ ap (first_of name now ms) here ∙ ap (λ (y : FarMailbox). Some (record y { store = change y.store })) same
      | inr other ↦
          ap (λ (b : Bool). mailbox_at name (cond b (record x { store = change x.store } ∷ ms) (x ∷ changed change name ms))) other
          ∙ ap (first_of name x (changed change name ms)) other ∙ changed_there change name ms m (sym (ap (first_of name x ms) other) ∙ e)
    ]

-- after a change it is still selected
pub changed_chosen : (change : Store → Store) (name : List ℕ) (s : Server) → IsChosen name s → IsChosen name (with_selected change s)
changed_chosen change name s c = record {
  condition = c.condition;
  mailbox = record c.mailbox { store = change c.mailbox.store };
  there = ap (λ (k : Condition). mailbox_at name (changed_in k change s.mailboxes)) c.condition ∙ changed_there change name s.mailboxes c.mailbox c.there;
}

pub store_is : (name : List ℕ) (s : Server) (c : IsChosen name s) → store_at name s.mailboxes ≡ c.mailbox.store
store_is name s c = ap store_in c.there

pub changed_store : (change : Store → Store) (name : List ℕ) (s : Server) → IsChosen name s → store_at name (with_selected change s).mailboxes ≡ change (store_at name s.mailboxes)
unfolding changed_chosen
changed_store change name s c = store_is name (with_selected change s) (changed_chosen change name s c) ∙ sym (ap change (store_is name s c))

pub sound_there : (name : List ℕ) (s : Server) (c : IsChosen name s) → AreSound s.mailboxes → IsSound c.mailbox
sound_there name s c all = found_is IsSound name s.mailboxes c.mailbox all c.there

-- ---- what the far box keeps of it

condition_is : (name : List ℕ) (c : Condition) → selected_name c ≡ Some name → c ≡ Selected name
condition_is name NotAuthenticated e = absurd cc
condition_is name Authenticated e = absurd cc
condition_is name (Selected other) e = let same : other ≡ name = cc in ap Selected same
condition_is name LoggedOut e = absurd cc

pub chosen_of : (name : List ℕ) (validity next : ℕ) (s : Server) → IsSelected name validity next s → IsChosen name s
chosen_of name validity next s h =
    let condition = condition_is name s.condition h.0 in
    let there = there_of name validity next s h in
    record { condition = condition; mailbox = there.mailbox; there = sym (ap (selected_in s.mailboxes) condition) ∙ there.is }

pub logged_in_there : (name : List ℕ) (s : Server) → IsChosen name s → is_logged_in s.condition ≡ true
logged_in_there name s c = ap is_logged_in c.condition
