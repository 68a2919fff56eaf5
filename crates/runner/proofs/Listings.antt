-- What was read stays as it is while both mailboxes are listed.
use Rattle.std.proofs.Common.{◌≡◌, ℕ, List, ◌∷◌, Option, Some, None, refl, ◌∙◌, ap}
use Rattle.mailcore.specs.declared.side.Side.{Side}
use Rattle.mailcore.specs.declared.side.Side.TheVariants.{Far, Near}
use Rattle.mailcore.specs.declared.listing.Listing.{Listing}
use Rattle.rules.specs.declared.state.SyncState.{SyncState}
use Rattle.outside.specs.Devices.{Device}
use Rattle.book.specs.declared.book.Pending.{Pending}
use Rattle.rules.specs.World.{World}
use Rattle.outside.specs.Opened.{AreCommitted, IsRead, Opened, listed_of, shown_far, state_of, turned, with_listing}
use Rattle.run_states.specs.Openings.{listed_world}
use Rattle.runner.specs.Answers.{run_of}
use Rattle.runner.specs.Before.{HasNoJournal, IsShown, shown_by, world_shown}
use Rattle.runner.specs.Going.{AreOpen}
use Rattle.runner.specs.Validities.{ListsChanged}

pub listed_state : (side : Side) (v : ℕ) (x : Device) (opened : Option Opened) → state_of (with_listing side v x opened) ≡ state_of opened
listed_state side v x None = refl
listed_state Far v x (Some o) = refl
listed_state Near v x (Some o) = refl

pub listed_run : (side : Side) (v : ℕ) (x : Device) (opened : Option Opened) → run_of (with_listing side v x opened) ≡ run_of opened
listed_run side v x None = refl
listed_run Far v x (Some o) = refl
listed_run Near v x (Some o) = refl

pub listed_read : (side : Side) (v : ℕ) (x : Device) (opened : Option Opened) → IsRead opened → IsRead (with_listing side v x opened)
listed_read side v x None h = h
listed_read Far v x (Some o) h = h
listed_read Near v x (Some o) h = h

pub listed_open : (side : Side) (v : ℕ) (x : Device) (opened : Option Opened) → AreOpen opened → AreOpen (with_listing side v x opened)
listed_open side v x None h at = h at
listed_open Far v x (Some o) h Far = refl
listed_open Far v x (Some o) h Near = h Near
listed_open Near v x (Some o) h Far = h Far
listed_open Near v x (Some o) h Near = refl

pub listed_no_journal : (side : Side) (v : ℕ) (x : Device) (opened : Option Opened) → HasNoJournal opened → HasNoJournal (with_listing side v x opened)
listed_no_journal side v x None h = h
listed_no_journal Far v x (Some o) h = h
listed_no_journal Near v x (Some o) h = h

pub lists_changed : (side : Side) (v : ℕ) (x : Device) (opened : Option Opened) (far near : Listing) (at : Side) → ListsChanged (with_listing side v x opened) far near at → ListsChanged opened far near at
lists_changed side v x None far near at h = h
lists_changed Far v x (Some o) far near at h = h
lists_changed Near v x (Some o) far near at h = h

-- ---- what was listed

pub listed_last : (side : Side) (v : ℕ) (x : Device) (opened : Option Opened) (s : SyncState) → state_of opened ≡ Some s → (earlier : List Device) × (listed_of (with_listing side v x opened) ≡ x ∷ earlier)
listed_last side v x None s e = cc
listed_last Far v x (Some o) s e = (o.listed, refl)
listed_last Near v x (Some o) s e = (o.listed, refl)

-- the far mailbox as it was listed, and the near one as it was listed then
pub both_shown : (v : ℕ) (opened : Option Opened) (s : SyncState) (next : ℕ) (d m : Device) (earlier : List Device) → state_of opened ≡ Some s → listed_of opened ≡ shown_far next d ∷ earlier → world_shown (with_listing Near v m opened) ≡ listed_world s next d m
both_shown v None s next d m earlier e l = cc
both_shown v (Some o) s next d m earlier e l =
    let same : o.state ≡ s = cc in
    ap (λ (x : List Device). shown_by o.state (m ∷ x)) l ∙ ap (λ (x : SyncState). shown_by x (m ∷ shown_far next d ∷ earlier)) same

-- two listings in a row have shown their world
pub two_shown : (w v : ℕ) (near far : Device) (opened : Option Opened) → IsRead opened → IsShown (with_listing Near w near (with_listing Far v far opened)) (world_shown (with_listing Near w near (with_listing Far v far opened)))
two_shown w v near far None read = absurd read
two_shown w v near far (Some o) read = record { far = far; near = near; earlier = o.listed; last = refl; far_is = refl; near_is = refl }

-- a plan that is written changes no listing
pub turned_shown : (f : Pending → Pending) (opened : Option Opened) → world_shown (turned f opened) ≡ world_shown opened
turned_shown f None = refl
turned_shown f (Some o) = refl

pub turned_is_shown : (f : Pending → Pending) (opened : Option Opened) (w : World) → IsShown opened w → IsShown (turned f opened) w
turned_is_shown f None w s = s
turned_is_shown f (Some o) w s = record { far = s.far; near = s.near; earlier = s.earlier; last = s.last; far_is = s.far_is; near_is = s.near_is }

-- by the same listings beside the same state, the same world
pub same_shown : (a b : Option Opened) → state_of a ≡ state_of b → listed_of a ≡ listed_of b → world_shown a ≡ world_shown b
same_shown None None s l = refl
same_shown None (Some b) s l = cc
same_shown (Some a) None s l = cc
same_shown (Some a) (Some b) s l =
    let state : a.state ≡ b.state = cc in
    ap (λ (x : List Device). shown_by a.state x) l ∙ ap (λ (x : SyncState). shown_by x b.listed) state

pub is_shown_by : (a b : Option Opened) (w : World) → listed_of b ≡ listed_of a → IsShown a w → IsShown b w
is_shown_by a b w l s = record { far = s.far; near = s.near; earlier = s.earlier; last = l ∙ s.last; far_is = s.far_is; near_is = s.near_is }

-- a state that is committed changes no listing
pub committed_listed : (old new : Option Opened) → AreCommitted old new → listed_of new ≡ listed_of old
committed_listed None new c = absurd c
committed_listed (Some old) None c = absurd c
committed_listed (Some old) (Some new) c = c.listed
