-- From a call of the far box to the clause of the trait.
use Rattle.std.proofs.Common.{◌≡◌, ◌≤◌, ℕ, Bool, true, false, List, None, Some, Option, Result, Ok, Err, sym, ap, subst, ◌∙◌, refl}
use Rattle.std.specs.Prelude.{OnOk, Vec, if◌then◌else◌}
use Rattle.std.specs.Global.{Global}
use Rattle.device.specs.Calls.{Effect, Nothing}
use Rattle.mailcore.specs.declared.keywords.Keyword.{Keyword}
use Rattle.mailcore.specs.KeywordNames.{kept}
use Rattle.mailcore.specs.Operations.{bytes_of}
use Rattle.mailcore.specs.Ranges.{AreInRange}
use Rattle.mailcore.specs.Stores.{IsStore, Store}
use Rattle.mailcore.specs.declared.side.Side.TheVariants.{Far}
use Rattle.mailcore.specs.Mailboxes.{Mailbox}
use Rattle.imap_link.specs.declared.fault.FarFault.{FarFault}
use Rattle.imap_link.specs.declared.fault.FarFault.TheVariants as far
use Rattle.imap_link.specs.declared.link.Link as link
use Rattle.imap_link.specs.Outcomes.{Outcome, Never as Unrefused}
use Rattle.imap_link.specs.Soundness.{AreSound, IsSound}
use Rattle.imap_session.specs.Mailboxes.{FarMailbox, mailbox_at}
use Rattle.imap_session.specs.Servers.{Server, is_logged_in, selected, with_selected}
use Rattle.imap_client.specs.declared.far_box.FarBox.{FarBox}
use Rattle.imap_client.specs.Appending.{Adds, AddsSome, NoUidLeft}
use Rattle.imap_client.specs.Boxes.{Becomes, IsSelected}
use Rattle.imap_client.specs.Logins.{Remains}
use Rattle.imap_client.specs.Readings.{Reports}
use Rattle.imap_client.specs.Sessions.{server_of, state_of}
use Rattle.imap_client.specs.Seen.{HasMap, KeepsMap, seen_through}
use Rattle.imap_client.specs.States.{EndsSo}
use Rattle.outside.specs.declared.box_fault.BoxFault.{BoxFault}
use Rattle.outside.specs.declared.box_fault.BoxFault.TheVariants as boxes
use Rattle.outside.specs.BoxArrivals.{Arrives}
use Rattle.outside.specs.MailboxCalls.{Call, Never}
use Rattle.outside.specs.MailboxOperations.{Answers, Appends, Loads, NoRoom, Turns}
use Rattle.mail_sides.specs.declared.stage.Stage.{Stage}
use Rattle.mail_sides.specs.declared.stage.Stage.TheVariants.{Closed, LoggedIn, Open}
use Rattle.mail_sides.specs.Chosen.{IsChosen, box_at, settled}
use Rattle.mail_sides.specs.FarFaults.{reported, reported_by}
use Rattle.mail_sides.specs.FarSides.{seen_at}
use Rattle.mail_sides.specs.FarStops.{Ends, HasEnded}
use Rattle.mail_sides.specs.Stages.{is_broken_at, is_open_at, is_reached}
use Rattle.mail_sides.proofs.Endings.{ends_of}
use Rattle.mail_sides.proofs.Mailboxes.{chosen_of, logged_in_there, selected_is, sound_there, store_is}
use Rattle.mail_sides.proofs.Outcomes.{Did, add_did, change_did, read_did}
use Rattle.mail_sides.proofs.SeenThrough.{bytes_seen}
use Rattle.mail_sides.proofs.Visited.{Found, arrives, chosen_then, found_then, range_then, store_then}
use Rattle.imap_session.specs.Visits.{Visits, Among}

-- ---- whether it goes on

pub is_whole : (stage : Stage) (is_selected is_ready : Bool) → is_ready ≡ true → is_selected ≡ true → is_broken_at stage is_selected is_ready ≡ false
is_whole Closed is_selected is_ready r s = refl
is_whole LoggedIn is_selected is_ready r s = cc
is_whole Open is_selected is_ready r s = rw (r, s) refl

pub ready_reached : (stage : Stage) (is_selected is_ready : Bool) → is_reached stage ≡ true → is_broken_at stage is_selected is_ready ≡ false → is_ready ≡ true
ready_reached Closed is_selected is_ready o h = absurd cc
ready_reached LoggedIn is_selected true o h = refl
ready_reached LoggedIn is_selected false o h = absurd cc
ready_reached Open is_selected true o h = refl
ready_reached Open is_selected false o h = absurd cc

pub selected_open : (stage : Stage) (is_selected is_ready : Bool) → is_open_at stage ≡ true → is_broken_at stage is_selected is_ready ≡ false → is_selected ≡ true
selected_open Closed is_selected is_ready o h = absurd cc
selected_open LoggedIn is_selected is_ready o h = absurd cc
selected_open Open true is_ready o h = refl
selected_open Open false true o h = absurd cc
selected_open Open false false o h = absurd cc

pub reached_open : (stage : Stage) → is_open_at stage ≡ true → is_reached stage ≡ true
reached_open Closed o = o
reached_open LoggedIn o = refl
reached_open Open o = refl

reported_stopped : (e : FarFault) → reported e ≡ boxes.Stopped → e ≡ far.Stopped
reported_stopped far.Stopped is = refl
reported_stopped far.Refused is = absurd cc
reported_stopped far.Protocol is = absurd cc
reported_stopped far.TooLong is = absurd cc
reported_stopped far.NoRev2 is = absurd cc
reported_stopped far.ReadOnly is = absurd cc
reported_stopped far.NoMemory is = absurd cc

module _ {L : Type 0} {links : link.Ghosts L} (keywords : List Keyword) (name : List ℕ) (old_stage new_stage : Stage) (old new : FarBox L links) where
  -- ---- any call

  pub far_call : {T : Type 0} (honest : Type 0) (because : BoxFault → Mailbox → Type 0) (does : T → Effect Mailbox) (part : Effect Mailbox) (r : Result T FarFault)
      → is_broken_at old_stage old.is_selected old.session.is_ready ≡ false → OnOk r (new.is_selected ≡ true) → Ends (state_of old.session) (state_of new.session) r
      → (honest → Among links.visitors (λ s t. Did does part because r (box_at keywords name s) (box_at keywords name t)) (server_of old.session) (server_of new.session))
      → Call honest (HasEnded (state_of new.session)) (Arrives Far links.visitors.ours links.visitors.alone) because does part (seen_at old_stage keywords name old) (seen_at new_stage keywords name new) (reported_by r)
  far_call honest because does part (Ok a) whole selected ends did = record {
    was_whole = whole;
    is_whole = is_whole new_stage new.is_selected new.session.is_ready ends.0 selected;
    stops = ends.1;
    effect = λ h. let a = did h in record { mid = box_at keywords name a.mid; before = arrives links.visitors keywords name (server_of old.session) a.mid a.visits; following = a.then };
  }
  far_call honest because does part (Err e) whole selected ends did = record {
    cause = λ is. ends.0 (reported_stopped e is);
    no_less = ends.1;
    left = λ h. let a = did h in record { mid = box_at keywords name a.mid; before = arrives links.visitors keywords name (server_of old.session) a.mid a.visits; following = a.then };
  }

pub loaded : (keywords : List Keyword) (uid : ℕ) (body : List ℕ) (is_there : Bool) (s : Store) → (if is_there then Some body else None) ≡ bytes_of uid s → Loads uid body is_there (settled (seen_through keywords s))
loaded keywords uid body true s is = bytes_seen keywords uid s ∙ sym is
loaded keywords uid body false s is = bytes_seen keywords uid s ∙ sym is

-- ---- a call of an open one

module _ {L : Type 0} {links : link.Ghosts L} (name : List ℕ) (box : FarBox L links) (named : box.is_selected ≡ true → box.name.items ≡ name) (is_selected : box.is_selected ≡ true) (ready : box.session.is_ready ≡ true) where
  pub chosen_in : links.honest box.session.wire.link → IsChosen name (server_of box.session)
  chosen_in h = chosen_of name box.validity box.next (server_of box.session) (subst (λ (n : List ℕ). IsSelected n box.validity box.next (server_of box.session)) (named is_selected) (box.selected is_selected ready h))

  pub logged_in_by : links.honest box.session.wire.link → is_logged_in (server_of box.session).condition ≡ true
  logged_in_by h = logged_in_there name (server_of box.session) (chosen_in h)

on_ok : {T : Type 0} (P : Type 0) (r : Result T FarFault) → P → OnOk r P
on_ok P (Ok a) p = p
on_ok P (Err e) p = tt

-- a call of an open one, as its contract states it
pub record Called {L : Type 0} {links : link.Ghosts L} (name : List ℕ) (stage : Stage) (old new : FarBox L links) : Type 0 where
  pub is_open : is_open_at stage ≡ true
  pub whole : is_broken_at stage old.is_selected old.session.is_ready ≡ false
  pub named : old.is_selected ≡ true → old.name.items ≡ name
  pub was_honest : links.honest new.session.wire.link → links.honest old.session.wire.link
  pub had_letters : links.honest old.session.wire.link → HasMap old.keywords (server_of old.session)
  pub letters : links.honest new.session.wire.link → KeepsMap (server_of old.session) (server_of new.session)
  pub keywords : new.keywords ≡ old.keywords
  pub still : new.is_selected ≡ old.is_selected
  pub counts : links.stops old.session.wire.link ≤ links.stops new.session.wire.link

module _ {L : Type 0} {links : link.Ghosts L} {name : List ℕ} {stage : Stage} {old new : FarBox L links} (k : Called name stage old new) where
  is_selected : old.is_selected ≡ true
  is_selected = selected_open stage old.is_selected old.session.is_ready k.is_open k.whole

  is_ready : old.session.is_ready ≡ true
  is_ready = ready_reached stage old.is_selected old.session.is_ready (reached_open stage k.is_open) k.whole

  chosen : links.honest new.session.wire.link → IsChosen name (server_of old.session)
  chosen h = chosen_in name old k.named is_selected is_ready (k.was_honest h)

  -- the map of the box
  abbrev keywords : List Keyword
  keywords = old.keywords

  -- the server had the map of the box
  pub had_map : links.honest new.session.wire.link → HasMap old.keywords (server_of old.session)
  had_map h = k.had_letters (k.was_honest h)

  -- ---- what the side keeps of it

  pub still_has_map : links.honest new.session.wire.link → HasMap new.keywords (server_of new.session)
  still_has_map h = k.letters h ∙ had_map h ∙ sym k.keywords

  pub still_named : new.name ≡ old.name → new.is_selected ≡ true → new.name.items ≡ name
  still_named same s = ap (λ (n : Vec ℕ Global). n.items) same ∙ k.named (sym k.still ∙ s)

  pub still_logged_in : new.name ≡ old.name → new.session.is_ready ≡ true → links.honest new.session.wire.link → is_logged_in (server_of new.session).condition ≡ true
  still_logged_in same ready h = logged_in_by name new (still_named same) (k.still ∙ is_selected) ready h

  -- ---- the clause of its call

  module _ (sound : (l : L) → links.honest l → AreSound (links.line l).end.server.mailboxes) where
    abbrev Says : {T : Type 0} → (because : BoxFault → Mailbox → Type 0) → (does : T → Effect Mailbox) → Result T FarFault → Type 0
    Says because does r =
        Call (links.honest new.session.wire.link) (HasEnded (state_of new.session)) (Arrives Far links.visitors.ours links.visitors.alone) because does Nothing (seen_at stage keywords name old) (seen_at stage new.keywords name new) (reported_by r)

    says : {T : Type 0} (because : BoxFault → Mailbox → Type 0) (does : T → Effect Mailbox) (commands : ℕ) (r : Result T FarFault) → EndsSo commands (state_of old.session) (state_of new.session) r
        → (links.honest new.session.wire.link → Among links.visitors (λ s t. Did does Nothing because r (box_at keywords name s) (box_at keywords name t)) (server_of old.session) (server_of new.session)) → Says because does r
    says because does commands r ends did =
        subst
        (λ (k : List Keyword). Call (links.honest new.session.wire.link) (HasEnded (state_of new.session)) (Arrives Far links.visitors.ours links.visitors.alone) because does Nothing (seen_at stage keywords name old) (seen_at stage k name new) (reported_by r))
        (sym k.keywords)
        (far_call keywords name stage stage old new (links.honest new.session.wire.link) because does Nothing r k.whole (on_ok (new.is_selected ≡ true) r (k.still ∙ is_selected))
        (ends_of commands (state_of old.session) (state_of new.session) r is_ready k.counts ends) did)

    -- what is selected there once others were there
    module _ (h : links.honest new.session.wire.link) (mid : Server) (visits : Visits links.visitors (server_of old.session) mid) where
      abbrev late : IsChosen name mid
      late = chosen_then links.visitors name (server_of old.session) mid visits (chosen h)

      abbrev found : Found links.visitors (chosen h).mailbox (mailbox_at name mid.mailboxes)
      found = found_then links.visitors name (server_of old.session) mid visits (chosen h).mailbox (chosen h).there

      was_sound : IsSound (chosen h).mailbox
      was_sound = sound_there name (server_of old.session) (chosen h) (sound old.session.wire.link (k.was_honest h))

      late_store : IsStore late.mailbox.store
      late_store = store_then links.visitors (chosen h).mailbox.store found.mailbox.store found.gains was_sound.store

      late_range : AreInRange late.mailbox.store.messages
      late_range = range_then links.visitors (chosen h).mailbox.store found.mailbox.store found.gains was_sound.range.messages

    pub reads : {T : Type 0} (states : T → Mailbox → Type 0) (P : T → Store → Type 0) → ((answer : T) (s : Store) → P answer s → states answer (settled (seen_through keywords s))) → (r : Result T FarFault) → EndsSo 1 (state_of old.session) (state_of new.session) r
        → (links.honest new.session.wire.link → Among links.visitors (λ s t. (m : FarMailbox) → selected s ≡ Some m → IsStore m.store → AreInRange m.store.messages → Outcome (Reports (λ answer. P answer m.store)) Unrefused Remains r s t) (server_of old.session) (server_of new.session))
        → Says Never (Answers states) r
    reads states P to r ends outcome =
        says Never (Answers states) 1 r ends
        (λ h.
        let a = outcome h in
        let c = late h a.mid a.visits in
        record {
          mid = a.mid;
          visits = a.visits;
          then =
              read_did keywords name a.mid (server_of new.session) (Reports (λ answer. P answer c.mailbox.store)) Unrefused Remains states Never
              (λ answer o. (ap (λ (x : Server). x.mailboxes) o.1, subst (λ (x : Store). states answer (settled (seen_through keywords x))) (sym (store_is name a.mid c)) (to answer c.mailbox.store o.0)))
              (λ e. ap (λ (x : Server). x.mailboxes) e) (λ refused. absurd refused) r (a.then c.mailbox (selected_is name a.mid c) (late_store h a.mid a.visits) (late_range h a.mid a.visits));
        })

    pub turns : (commands : ℕ) (change own : Store → Store) (r : Result (Unit {0}) FarFault) → EndsSo commands (state_of old.session) (state_of new.session) r
        → ((s : Server) (c : IsChosen name s) → IsStore c.mailbox.store → with_selected change s ≡ with_selected own s)
        → ((s : Store) → seen_through keywords (own s) ≡ own (seen_through keywords s))
        → (links.honest new.session.wire.link → Among links.visitors (λ s t. (m : FarMailbox) → selected s ≡ Some m → Outcome (λ _. Becomes change) Unrefused (Becomes change) r s t) (server_of old.session) (server_of new.session))
        → Says {T = Unit {0}} Never (λ _. Turns own) r
    turns commands change own r ends same sees outcome =
        says Never (λ _. Turns own) commands r ends
        (λ h.
        let a = outcome h in
        let c = late h a.mid a.visits in
        record {
          mid = a.mid;
          visits = a.visits;
          then = change_did keywords name a.mid (server_of new.session) change own c (same a.mid c (late_store h a.mid a.visits)) sees r (a.then c.mailbox (selected_is name a.mid c));
        })

    pub appends : (bytes : List ℕ) (flags : ℕ) (r : Result (Option ℕ) FarFault) → EndsSo 1 (state_of old.session) (state_of new.session) r
        → (links.honest new.session.wire.link → HasMap keywords (server_of old.session) → old.is_selected ≡ true
        → Among links.visitors (λ s t. (m : FarMailbox) → selected s ≡ Some m → Outcome (Adds m (kept keywords flags) bytes) (NoUidLeft m) (AddsSome m (kept keywords flags) bytes) r s t) (server_of old.session) (server_of new.session))
        → Says (NoRoom Far (λ _. 1)) (Appends Far bytes (kept keywords flags)) r
    appends bytes flags r ends outcome =
        says (NoRoom Far (λ _. 1)) (Appends Far bytes (kept keywords flags)) 1 r ends
        (λ h.
        let a = outcome h (had_map h) is_selected in
        let c = late h a.mid a.visits in
        record { mid = a.mid; visits = a.visits; then = add_did keywords name a.mid (server_of new.session) bytes flags c r (a.then c.mailbox (selected_is name a.mid c)) })
