-- Calls among which others add messages.
use Rattle.std.proofs.Common.{◌≡◌, ◌≤◌, ◌+◌, ◌⊎◌, inl, inr, ℕ, true, false, Bool, List, [], ◌∷◌, refl, sym, ◌∙◌, ap, subst, arith, Option, None, Some, Result, Err}
use Rattle.std.specs.Prelude.{if◌then◌else◌}
use Rattle.std.specs.Option.{option_map}
use Rattle.std.proofs.lemmas.Bool.{le-leb, leb-true}
use Rattle.mailcore.specs.Rise.{Rise}
use Rattle.mailcore.specs.Visitors.{Visitors}
use Rattle.imap_session.specs.Mailboxes.{FarMailbox, same_name, mailbox_at}
use Rattle.imap_session.specs.Servers.{Condition, NotAuthenticated, Authenticated, Selected, LoggedOut, Server, is_over, Quiet, reported, selected, selected_in}
use Rattle.imap_session.specs.Lines.{Line, reported_server}
use Rattle.imap_session.specs.Visits.{Gains, AllGain, Visits, Among}
use Rattle.imap_session.proofs.Visiting.{nobody_visits, visits_follow}
use Rattle.imap_session.specs.Ends.{ends_of}
use Rattle.imap_link.specs.declared.fault.FarFault.{FarFault}
use Rattle.imap_link.specs.declared.fault.FarFault.TheVariants as faults
use Rattle.imap_link.specs.Sending.{visited}
use Rattle.imap_link.proofs.Visited.{both_reported}
use Rattle.imap_client.specs.Boxes.{selected_name, is_next, IsSelected}
use Rattle.imap_client.specs.Stillness.{IsStill}

module _ (v : Visitors) where
  -- nobody else acted
  pub at_once : (P : Server → Server → Type 0) (old new : Server) → P old new → Among v P old new
  at_once P old new p = record { mid = old; visits = nobody_visits v old; then = p }

  -- others acted before that, too
  pub earlier : (P : Server → Server → Type 0) (s t u : Server) → Visits v s t → Among v P t u → Among v P s u
  earlier P s t u h a = record { mid = a.mid; visits = visits_follow v s t a.mid h a.visits; then = a.then }

  -- nobody acted in a call that failed before it sent anything
  pub unsent : {T : Type 0} (P : Result T FarFault → Server → Server → Type 0) (r : Result T FarFault) (f : FarFault) (s : Server) → r ≡ Err f → P (Err f) s s → Among v (P r) s s
  unsent {T} P r f s e p = at_once (P r) s s (subst (λ (q : Result T FarFault). P q s s) (sym e) p)

  pub stopped_or : {T : Type 0} (P : Result T FarFault → Server → Server → Type 0) (r : Result T FarFault) (f : FarFault) (s : Server) → r ≡ Err f → (f ≡ faults.Stopped) ⊎ (f ≡ faults.NoMemory)
      → P (Err faults.Stopped) s s → P (Err faults.NoMemory) s s → Among v (P r) s s
  stopped_or {T} P r f s e (inl h) p q = unsent P r faults.Stopped s (e ∙ ap (λ (x : FarFault). let y : Result T FarFault = Err x in y) h) p
  stopped_or {T} P r f s e (inr h) p q = unsent P r faults.NoMemory s (e ∙ ap (λ (x : FarFault). let y : Result T FarFault = Err x in y) h) q

  -- ---- a connection

  pub still_then : (old : Line) (heard : List ℕ) (mid : Server) → Visits v old.end.server mid → IsStill (ends_of old heard) → IsStill (ends_of (visited old mid) heard)
  still_then old heard mid h is = (ap (λ (c : Condition). is_over c) h.condition ∙ is.0, is.1, is.2)

  -- others acted before each part of a command
  pub two_visits : (old offered : Line) (mid late : Server) → Visits v old.end.server mid → Quiet (reported mid) (reported_server offered) → Visits v offered.end.server late → Visits v (reported_server old) (reported late)
  two_visits old offered mid late h q k =
      visits_follow v (reported_server old) (reported mid) (reported late) (both_reported v old.end.server mid h) (subst (λ (s : Server). Visits v s (reported late)) q (both_reported v offered.end.server late k))

  -- ---- the mailbox of a name

  abbrev pub MayGain : Option FarMailbox → Option FarMailbox → Type 0
  MayGain None None = Unit {0}
  MayGain None (Some n) = ⊥
  MayGain (Some m) None = ⊥
  MayGain (Some m) (Some n) = Gains v m.store n.store

  gain_by : (b : Bool) (m n : FarMailbox) (old new : Option FarMailbox) → Gains v m.store n.store → MayGain old new → MayGain (if b then Some m else old) (if b then Some n else new)
  gain_by true m n old new g rest = g
  gain_by false m n old new g rest = rest

  pub gains_at : (name : List ℕ) (ms ns : List FarMailbox) → AllGain v ms ns → MayGain (mailbox_at name ms) (mailbox_at name ns)
  gains_at name [] [] h = tt
  gains_at name [] (n ∷ ns) h = absurd h
  gains_at name (m ∷ ms) [] h = absurd h
  gains_at name (m ∷ ms) (n ∷ ns) h =
      subst (λ (b : Bool). MayGain (mailbox_at name (m ∷ ms)) (if b then Some n else mailbox_at name ns)) (ap (λ (x : List ℕ). same_name x name) (sym h.0))
      (gain_by (same_name m.name name) m n (mailbox_at name ms) (mailbox_at name ns) h.1 (gains_at name ms ns h.2))

  gains_in : (c : Condition) (ms ns : List FarMailbox) → AllGain v ms ns → MayGain (selected_in ms c) (selected_in ns c)
  gains_in NotAuthenticated ms ns h = tt
  gains_in Authenticated ms ns h = tt
  gains_in (Selected name) ms ns h = gains_at name ms ns h
  gains_in LoggedOut ms ns h = tt

  -- ---- the selected mailbox stays selected

  pub rise_low : (from : ℕ) (uids : List ℕ) (next : ℕ) → Rise from uids next → from ≤ next
  rise_low from [] next h = omega (arith, h)
  rise_low from (u ∷ uids) next h = let first = h.0 in let rest = rise_low (u + 1) uids next h.1 in omega (arith, first, rest)

  same_validity : (x y : Option FarMailbox) → MayGain x y → option_map (λ m. m.store.validity) y ≡ option_map (λ m. m.store.validity) x
  same_validity None None g = refl
  same_validity None (Some n) g = absurd g
  same_validity (Some m) None g = absurd g
  same_validity (Some m) (Some n) g = ap (λ (k : ℕ). Some k) g.validity

  later_next : (next : ℕ) (x y : Option FarMailbox) → MayGain x y → is_next next x ≡ true → is_next next y ≡ true
  later_next next None None g h = h
  later_next next None (Some n) g h = absurd g
  later_next next (Some m) None g h = absurd g
  later_next next (Some m) (Some n) g h =
      let least = leb-true next m.store.next h in
      let low = rise_low m.store.next _ n.store.next g.rise in
      le-leb next n.store.next (omega (arith, least, low))

  pub selected_gains : (s t : Server) → Visits v s t → MayGain (selected s) (selected t)
  selected_gains s t h = subst (λ (c : Condition). MayGain (selected s) (selected_in t.mailboxes c)) (sym h.condition) (gains_in s.condition s.mailboxes t.mailboxes h.gains)

  pub selected_then : (name : List ℕ) (validity next : ℕ) (s t : Server) → Visits v s t → IsSelected name validity next s → IsSelected name validity next t
  selected_then name validity next s t h is =
      let g : MayGain (selected s) (selected t) = selected_gains s t h in (
        ap selected_name h.condition ∙ is.0,
        same_validity (selected s) (selected t) g ∙ is.1,
        later_next next (selected s) (selected t) g is.2,
      )
