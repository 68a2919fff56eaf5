-- UID STORE of one message is the operation on the mailbox.
use Rattle.std.proofs.Common.{◌≡◌, ◌<◌, ◌⊎◌, inl, inr, ℕ, suc, Bool, true, false, List, [], ◌∷◌, refl, sym, ◌∙◌, ap, subst, arith, Some}
use Rattle.std.specs.Prelude.{map, filter, ◌||◌, ◌==◌, if◌then◌else◌, All}
use Rattle.std.proofs.lemmas.Bool.{cases_Bool, eqb-true}
use Rattle.mailcore.specs.declared.mailbox.Message.{Message}
use Rattle.mailcore.specs.FlagSet.{union, minus}
use Rattle.mailcore.specs.Stores.{Store}
use Rattle.mailcore.specs.Listed.{AreRising}
use Rattle.mailcore.specs.Operations.{with_flags}
use Rattle.wire_tokens.specs.Sets.{names}
use Rattle.imap_commands.specs.declared.command.StoreMode.{StoreMode}
use Rattle.imap_commands.specs.declared.command.StoreMode.TheVariants as modes
use Rattle.imap_session.specs.Mailboxes.{FarMailbox, same_name, mailbox_at, changed}
use Rattle.imap_session.specs.NamedMessages.{greatest, flags_changed, each_changed, stored}
use Rattle.imap_session.specs.Servers.{Condition, NotAuthenticated, Authenticated, Selected, LoggedOut, Server, selected, selected_in, changed_in, with_selected}
use Rattle.imap_client.specs.Boxes.{one_uid}
use Rattle.imap_client.specs.Laws.{StoredIsFlagged}

or_false : (b : Bool) → (b || false) ≡ b
or_false true = refl
or_false false = refl

apart : (a b : ℕ) → b < a → (a == b) ≡ false
apart a b lt = elim (cases_Bool (a == b)) [ inl e ↦ (let same = eqb-true a b e in absurd (omega (arith, same, lt))) | inr e ↦ e ]

module _ (uid : ℕ) where
  -- where there are messages, the set names this one
  named_some : (m : Message) (ms : List Message) (u : ℕ) → names (greatest (m ∷ ms)) (one_uid uid) u ≡ (u == uid)
  named_some m [] u = or_false (u == uid)
  named_some m (n ∷ ms) u = named_some n ms u

  -- none has it, or one
  abbrev Named : (ℕ → Bool) → List Message → Type 0
  Named p ms =
      ((filter p (map (λ m. m.uid) ms) ≡ []) × ((f : ℕ → ℕ) → map (with_flags f uid) ms ≡ ms)) ⊎ (filter p (map (λ m. m.uid) ms) ≡ uid ∷ [])

  module _ (p : ℕ → Bool) (p_is : (u : ℕ) → p u ≡ (u == uid)) where
    skip : (m : Message) (ms : List Message) → (m.uid == uid) ≡ false → filter p (map (λ x. x.uid) (m ∷ ms)) ≡ filter p (map (λ x. x.uid) ms)
    skip m ms e = ap (λ (b : Bool). if b then m.uid ∷ filter p (map (λ x. x.uid) ms) else filter p (map (λ x. x.uid) ms)) (p_is m.uid ∙ e)

    take_it : (m : Message) (ms : List Message) → (m.uid == uid) ≡ true → filter p (map (λ x. x.uid) (m ∷ ms)) ≡ m.uid ∷ filter p (map (λ x. x.uid) ms)
    take_it m ms e = ap (λ (b : Bool). if b then m.uid ∷ filter p (map (λ x. x.uid) ms) else filter p (map (λ x. x.uid) ms)) (p_is m.uid ∙ e)

    above_none : (ms : List Message) → All (λ m. uid < m.uid) ms → filter p (map (λ m. m.uid) ms) ≡ []
    above_none [] h = refl
    above_none (m ∷ ms) h =
        let here : uid < m.uid = h 0 m (omega arith) in
        let rest : All (λ (x : Message). uid < x.uid) ms = λ k d within. h (suc k) d (omega arith) in
        skip m ms (apart m.uid uid here) ∙ above_none ms rest

    with_other : (f : ℕ → ℕ) (m : Message) → (m.uid == uid) ≡ false → with_flags f uid m ≡ m
    with_other f m e = ap (λ (b : Bool). if b then record m { flags = f m.flags } else m) e

    one_more : (m : Message) (ms : List Message) → (m.uid == uid) ≡ false → Named p ms → Named p (m ∷ ms)
    one_more m ms e (inl h) = inl (skip m ms e ∙ h.0, λ f. ap (λ (x : Message). x ∷ map (with_flags f uid) ms) (with_other f m e) ∙ ap (λ (l : List Message). m ∷ l) (h.1 f))
    one_more m ms e (inr h) = inr (skip m ms e ∙ h)

    tail_rises : (m : Message) (ms : List Message) → AreRising (m ∷ ms) → AreRising ms
    tail_rises m ms r i j d less within = r (suc i) (suc j) d (omega arith) (omega arith)

    head_below : (m : Message) (ms : List Message) → AreRising (m ∷ ms) → All (λ (x : Message). m.uid < x.uid) ms
    head_below m ms r k d within = r 0 (suc k) d (omega arith) (omega arith)

    named_of : (ms : List Message) → AreRising ms → Named p ms
    named_of [] r = inl (refl, λ f. refl)
    named_of (m ∷ ms) r =
        elim (cases_Bool (m.uid == uid)) [
          | inl e ↦
              let same = eqb-true m.uid uid e in
              let rest = above_none ms (subst (λ (k : ℕ). All (λ (x : Message). k < x.uid) ms) same (head_below m ms r)) in
              inr (take_it m ms e ∙ ap (λ (l : List ℕ). m.uid ∷ l) rest ∙ ap (λ (k : ℕ). k ∷ []) same)
          | inr e ↦ one_more m ms e (named_of ms (tail_rises m ms r))
        ]

  all_named : (ms : List Message) → AreRising ms → Named (names (greatest ms) (one_uid uid)) ms
  all_named [] r = inl (refl, λ f. refl)
  all_named (m ∷ ms) r = named_of (names (greatest (m ∷ ms)) (one_uid uid)) (named_some m ms) (m ∷ ms) r

  none_changed : (mode : StoreMode) (flags : ℕ) (s : Store) → ((f : ℕ → ℕ) → map (with_flags f uid) s.messages ≡ s.messages) → s ≡ flags_changed mode uid flags s
  none_changed modes.Add flags s h = ap (λ (l : List Message). record s { messages = l }) (sym (h (λ f. union f flags)))
  none_changed modes.Remove flags s h = ap (λ (l : List Message). record s { messages = l }) (sym (h (λ f. minus f flags)))

  stored_one : (mode : StoreMode) (flags : ℕ) (s : Store) → AreRising s.messages → stored mode flags (one_uid uid) s ≡ flags_changed mode uid flags s
  stored_one mode flags s r =
      elim (all_named s.messages r) [
        | inl h ↦ ap (λ (us : List ℕ). each_changed mode flags us s) h.0 ∙ none_changed mode flags s h.1
        | inr h ↦ ap (λ (us : List ℕ). each_changed mode flags us s) h
      ]

-- ---- in the selected mailbox

module _ (f g : Store → Store) where
  changed_by : (b : Bool) (name : List ℕ) (x m : FarMailbox) (ms : List FarMailbox) → (if b then Some x else mailbox_at name ms) ≡ Some m → f m.store ≡ g m.store
      → (mailbox_at name ms ≡ Some m → changed f name ms ≡ changed g name ms)
      → (if b then record x { store = f x.store } ∷ ms else x ∷ changed f name ms) ≡ (if b then record x { store = g x.store } ∷ ms else x ∷ changed g name ms)
  changed_by true name x m ms e same next =
      let is : x ≡ m = cc in
      let at : f x.store ≡ g x.store = ap (λ (y : FarMailbox). f y.store) is ∙ same ∙ sym (ap (λ (y : FarMailbox). g y.store) is) in
      ap (λ (s : Store). record x { store = s } ∷ ms) at
  changed_by false name x m ms e same next = ap (λ (l : List FarMailbox). x ∷ l) (next e)

  changed_same : (name : List ℕ) (m : FarMailbox) (ms : List FarMailbox) → mailbox_at name ms ≡ Some m → f m.store ≡ g m.store → changed f name ms ≡ changed g name ms
  changed_same name m [] e same = refl
  changed_same name m (x ∷ ms) e same = changed_by (same_name x.name name) name x m ms e same (λ k. changed_same name m ms k same)

  in_same : (c : Condition) (m : FarMailbox) (ms : List FarMailbox) → selected_in ms c ≡ Some m → f m.store ≡ g m.store → changed_in c f ms ≡ changed_in c g ms
  in_same NotAuthenticated m ms e same = refl
  in_same Authenticated m ms e same = refl
  in_same (Selected name) m ms e same = changed_same name m ms e same
  in_same LoggedOut m ms e same = refl

  pub selected_same : (s : Server) (m : FarMailbox) → selected s ≡ Some m → f m.store ≡ g m.store → with_selected f s ≡ with_selected g s
  selected_same s m e same = ap (λ (ms : List FarMailbox). record s { mailboxes = ms }) (in_same s.condition m s.mailboxes e same)

pub stored_is_flagged : StoredIsFlagged
stored_is_flagged s m mode uid flags e r = selected_same (stored mode flags (one_uid uid)) (flags_changed mode uid flags) s m e (stored_one uid mode flags m.store r)
