-- The messages of the selected mailbox that searches for a mark went past stay so with each call.
use Rattle.std.proofs.Common.{◌≡◌, ◌<◌, ◌≤◌, ℕ, Bool, true, false, List, [], ◌∷◌, refl, sym, ◌∙◌, ap, subst, inl, inr, Option, Some, None, Result, Ok, Err, arith}
use Rattle.std.specs.Prelude.{All, find, max, nat_le, ◌&&◌, if◌then◌else◌}
use Rattle.std.specs.Option.{option_map}
use Rattle.std.proofs.lemmas.Bool.{cases_lt, le-leb, lt-leb}
use Rattle.std.proofs.lemmas.List.Elements.{All-head, All-tail}
use Rattle.mailcore.specs.Visitors.{Visitors}
use Rattle.mailcore.specs.declared.mailbox.Message.{Message}
use Rattle.mailcore.specs.Content.{mark_of}
use Rattle.mailcore.specs.Operations.{added, is_mark, marked_among}
use Rattle.mailcore.specs.Stores.{Store}
use Rattle.mailcore.specs.declared.passed_marks.PassedMarks.{PassedMarks}
use Rattle.mailcore.specs.Passed.{ArePassed}
use Rattle.mailcore.proofs.KeptPassed.{passed_added, passed_expunged, passed_flagged, passed_gained}
use Rattle.wire_tokens.specs.declared.uid_set.SetItem.{SetItem}
use Rattle.imap_commands.specs.declared.command.StoreMode.{StoreMode}
use Rattle.imap_commands.specs.declared.command.StoreMode.TheVariants as modes
use Rattle.imap_session.specs.Mailboxes.{FarMailbox}
use Rattle.imap_session.specs.NamedMessages.{uids_named, uids_going, flags_changed, each_changed, stored, swept}
use Rattle.imap_session.specs.Servers.{Server, selected, with_selected}
use Rattle.imap_session.specs.Visits.{Visits}
use Rattle.imap_link.specs.declared.fault.FarFault.{FarFault}
use Rattle.imap_link.specs.declared.fault.FarFault.TheVariants as faults
use Rattle.imap_link.specs.Outcomes.{Outcome, Never}
use Rattle.imap_answers.specs.Readings.{Reports}
use Rattle.imap_client.specs.Appending.{Adds, AddsUnder}
use Rattle.imap_client.specs.Boxes.{IsSelected, Passes, selected_name}
use Rattle.imap_client.specs.Logins.{Remains}
use Rattle.imap_client.specs.States.{State, EndsSo}
use Rattle.imap_client.proofs.Adding.{next_at_most}
use Rattle.imap_client.proofs.Changed.{Became, selected_changed, there_of, with_store}
use Rattle.imap_client.proofs.Staying.{keeps}
use Rattle.imap_client.proofs.Visited.{MayGain, selected_gains, selected_then}

same_mailbox : (m n : FarMailbox) → (let x : Option FarMailbox = Some m in x) ≡ Some n → m ≡ n
same_mailbox m n e = cc

not_none : (n : FarMailbox) → (let x : Option FarMailbox = None in x) ≡ Some n → ⊥
not_none n e = cc

module _ (p : PassedMarks) where
  abbrev IsPassed : FarMailbox → Type 0
  IsPassed m = ArePassed m.store.next m.store.messages p

  -- ---- others add messages

  gained : (v : Visitors) (x y : Option FarMailbox) → MayGain v x y → ((m : FarMailbox) → x ≡ Some m → IsPassed m) → (n : FarMailbox) → y ≡ Some n → IsPassed n
  gained v None None g is n at = absurd (not_none n at)
  gained v None (Some k) g is n at = absurd g
  gained v (Some m) None g is n at = absurd g
  gained v (Some m) (Some k) g is n at =
      subst IsPassed (same_mailbox k n at)
      (subst (λ (ms : List Message). ArePassed k.store.next ms p) (sym g.messages) (passed_gained m.store.next k.store.next m.store.messages g.more p g.rise (is m refl)))

  pub passes_then : (v : Visitors) (s t : Server) → Visits v s t → Passes p s → Passes p t
  passes_then v s t h is n at = gained v (selected s) (selected t) (selected_gains v s t h) is n at

  -- ---- the mailbox is changed

  module _ (change : Store → Store) (s : Server) (keeps : (m : FarMailbox) → selected s ≡ Some m → IsPassed m → IsPassed (with_store change m)) (is : Passes p s) where
    changed_by : (x : Option FarMailbox) (n : FarMailbox) → selected s ≡ x → option_map (with_store change) x ≡ Some n → IsPassed n
    changed_by None n e f = absurd (not_none n f)
    changed_by (Some m) n e f = subst IsPassed (same_mailbox (with_store change m) n f) (keeps m e (is m e))

    passes_changed : (name : List ℕ) → selected_name s.condition ≡ Some name → Passes p (with_selected change s)
    passes_changed name named n at = changed_by (selected s) n refl (sym (selected_changed change name s named) ∙ at)

  pub passes_on : (change : Store → Store) → ((s : Store) → ArePassed s.next s.messages p → ArePassed (change s).next (change s).messages p) → (name : List ℕ) (validity next : ℕ) (was : State) (old new : Server)
      → Became change name validity next was old new → (was.is_ready ≡ true → Passes p old) → Passes p new
  passes_on change keeps name validity next was old new b is =
      subst (Passes p) (sym b.after) (passes_changed change old (λ m at. keeps m.store) (is b.was_ready) name b.was_selected.0)

  -- ---- flags and removals

  flags_keep : (mode : StoreMode) (flags : ℕ) (uids : List ℕ) (s : Store) → ArePassed s.next s.messages p → ArePassed (each_changed mode flags uids s).next (each_changed mode flags uids s).messages p
  flags_keep mode flags [] s is = is
  flags_keep modes.Add flags (u ∷ uids) s is = flags_keep modes.Add flags uids (flags_changed modes.Add u flags s) (passed_flagged _ u s p is)
  flags_keep modes.Remove flags (u ∷ uids) s is = flags_keep modes.Remove flags uids (flags_changed modes.Remove u flags s) (passed_flagged _ u s p is)

  pub store_passes : (mode : StoreMode) (flags : ℕ) (set : List SetItem) (s : Store) → ArePassed s.next s.messages p → ArePassed (stored mode flags set s).next (stored mode flags set s).messages p
  store_passes mode flags set s is = flags_keep mode flags (uids_named set s) s is

  pub sweep_passes : (set : List SetItem) (s : Store) → ArePassed s.next s.messages p → ArePassed (swept set s).next (swept set s).messages p
  sweep_passes set s is = passed_expunged (uids_going set s) s p is

  -- ---- a message is added

  under_passes : (name : List ℕ) (m : FarMailbox) (flags : ℕ) (message : List ℕ) (uid : ℕ) (old new : Server) → selected_name old.condition ≡ Some name → selected old ≡ Some m
      → AddsUnder m flags message uid old new → Passes p old → Passes p new
  under_passes name m flags message uid old new named at a is =
      subst (Passes p) (sym a.after)
      (passes_changed (added uid flags message) old
      (λ n there known.
      let same : n.store.next ≡ m.store.next = ap (λ (k : FarMailbox). k.store.next) (same_mailbox n m (sym there ∙ at)) in
      let may = a.may in
      let least = may.at_least in
      passed_added uid flags message n.store p (omega (arith, same, least)) known) is name named)

  pub adds_passes : (name : List ℕ) (validity next flags : ℕ) (message : List ℕ) (reported : Option ℕ) (was now : State) (old new : Server) → EndsSo 1 was now (Ok reported) → (was.is_ready ≡ true → IsSelected name validity next old)
      → (was.is_ready ≡ true → Passes p old) → (IsSelected name validity next old → (m : FarMailbox) → selected old ≡ Some m → Adds m flags message reported old new) → Passes p new
  adds_passes name validity next flags message reported was now old new e sel is out =
      let known = sel e.was_ready in
      let there = there_of name validity next old known in
      let a = out known there.mailbox there.is in
      under_passes name there.mailbox flags message a.uid old new known.0 there.is a.under (is e.was_ready)

-- ---- nothing changes but by others

module _ (v : Visitors) (name : List ℕ) (validity next : ℕ) (p : PassedMarks) where
  abbrev Known : Server → Type 0
  Known s = IsSelected name validity next s × Passes p s

  pub known_then : (s t : Server) → Visits v s t → Known s → Known t
  known_then s t h k = (selected_then v name validity next s t h k.0, passes_then p v s t h k.1)

  pub stays_known : (was now : State) (before mid new : Server) → now.is_ready ≡ true → Visits v before mid → (was.is_ready ≡ true → Known before)
      → ((m : FarMailbox) → selected mid ≡ Some m → new ≡ mid) → (T : Type 0) (commands : ℕ) (result : Result T FarFault) → EndsSo commands was now result → Known new
  stays_known was now before mid new ready visits known same =
      keeps Known name validity next was now mid new ready (λ is. (known_then before mid visits (known is)).0) (λ is. known_then before mid visits (known is)) same

-- ---- a search

-- after a search, where the mailbox is selected
pub search_passes : (begun after : PassedMarks) (name : List ℕ) (validity next : ℕ) (s : Server) → IsSelected name validity next s → Passes begun s
    → ((m : FarMailbox) → selected s ≡ Some m → next ≤ m.store.next → ArePassed m.store.next m.store.messages begun → ArePassed m.store.next m.store.messages after) → Passes after s
search_passes begun after name validity next s is passes out m at = out m at (next_at_most m (selected s) next at is.2) (passes m at)

module _ (mark : List ℕ) (from below : ℕ) (following : max from 1 ≤ below) where
  abbrev seeks : ℕ → Message → Bool
  seeks low m = nat_le low m.uid && is_mark (mark_of m.bytes) mark

  same_test : (m : Message) → 0 < m.uid → (max from 1 ≤ m.uid → m.uid < below → is_mark (mark_of m.bytes) mark ≡ false) → seeks below m ≡ seeks from m
  same_test m some other = elim (cases_lt m.uid below) [
    | inl less ↦ elim (cases_lt m.uid (max from 1)) [
      | inl low ↦ ap (λ (b : Bool). b && is_mark (mark_of m.bytes) mark) (lt-leb below m.uid less ∙ sym (lt-leb from m.uid (omega (arith, low, some))))
      | inr high ↦ ap (λ (b : Bool). b && is_mark (mark_of m.bytes) mark) (lt-leb below m.uid less) ∙ sym (and_false (nat_le from m.uid) (other high less))
    ]
    | inr least ↦ ap (λ (b : Bool). b && is_mark (mark_of m.bytes) mark) (le-leb below m.uid least ∙ sym (le-leb from m.uid (omega (arith, least, following))))
  ]
    where
      and_false : (b : Bool) → is_mark (mark_of m.bytes) mark ≡ false → (b && is_mark (mark_of m.bytes) mark) ≡ false
      and_false true e = e
      and_false false e = refl

  -- the mark is found where it is found after the messages that were passed
  pub marked_after : (ms : List Message) → All (λ m. 0 < m.uid) ms → All (λ m. max from 1 ≤ m.uid → m.uid < below → is_mark (mark_of m.bytes) mark ≡ false) ms
      → marked_among mark below ms ≡ marked_among mark from ms
  marked_after [] some other = refl
  marked_after (m ∷ ms) some other =
      let at : seeks below m ≡ seeks from m = same_test m (All-head (λ x. 0 < x.uid) m ms some) (All-head (λ x. max from 1 ≤ x.uid → x.uid < below → is_mark (mark_of x.bytes) mark ≡ false) m ms other) in
      let rest : marked_among mark below ms ≡ marked_among mark from ms =
      marked_after ms (All-tail (λ x. 0 < x.uid) m ms some) (All-tail (λ x. max from 1 ≤ x.uid → x.uid < below → is_mark (mark_of x.bytes) mark ≡ false) m ms other) in
      ap (λ (b : Bool). option_map (λ (x : Message). x.uid) (if b then Some m else find (seeks below) ms)) at ∙ by_test (seeks from m) rest
    where
      by_test : (b : Bool) → marked_among mark below ms ≡ marked_among mark from ms
          → option_map (λ (x : Message). x.uid) (if b then Some m else find (seeks below) ms) ≡ option_map (λ (x : Message). x.uid) (if b then Some m else find (seeks from) ms)
      by_test true e = refl
      by_test false e = e

-- so it does not matter from where the mark was sought
module _ (was now : State) (s t : Server) (a b : Option ℕ) (same : was.is_ready ≡ true → a ≡ b) where
  pub found_from : (result : Result (Option ℕ) FarFault) → EndsSo 1 was now result → Outcome (Reports (λ found. found ≡ a)) Never Remains result s t → Outcome (Reports (λ found. found ≡ b)) Never Remains result s t
  found_from (Ok found) e h = (h.0 ∙ same e.was_ready, h.1)
  found_from (Err faults.Stopped) e h = h
  found_from (Err faults.Refused) e h = h
  found_from (Err faults.Protocol) e h = h
  found_from (Err faults.TooLong) e h = h
  found_from (Err faults.NoRev2) e h = h
  found_from (Err faults.ReadOnly) e h = h
  found_from (Err faults.NoMemory) e h = h
