-- What the near box says where it is opened, as the trait says it.
use Rattle.std.proofs.Common.{◌≡◌, ◌⊎◌, ◌<◌, inl, inr, ap, ◌∙◌, refl, sym, subst, ℕ, ◌≤◌, Bool, true, false, List, length, Ok, Err, arith}
use Rattle.std.specs.Prelude.{not}
use Rattle.std.specs.Int.NonZero.{non_zero_u32_get}
use Rattle.device.specs.Calls.{Effect, Follows, Nothing, Seen as FolderSeen, Went}
use Rattle.device.specs.declared.history.History.{History}
use Rattle.mailcore.specs.declared.keywords.Keyword.{Keyword}
use Rattle.mailcore.specs.declared.side.Side.TheVariants as side
use Rattle.maildir.specs.declared.folder.Folder as folder
use Rattle.maildir.specs.declared.meta.Meta.{Meta}
use Rattle.maildir.specs.Folders.{Stored}
use Rattle.maildir.specs.Gains.{Adds}
use Rattle.near_box.specs.declared.near_box.NearBox.{NearBox}
use Rattle.near_box.specs.declared.near_fault.NearFault.{NearFault}
use Rattle.near_box.specs.declared.near_fault.NearFault.TheVariants as near
use Rattle.near_box.specs.Boxes.{mailbox_of, seen_in, stored_in}
use Rattle.mailcore.specs.Mailboxes.{Mailbox}
use Rattle.near_box.specs.Mailboxes.{IsMetaOf, near_of}
use Rattle.near_box.specs.NearCalls.{Looks}
use Rattle.near_box.specs.NearContracts.{ReportsWhy}
use Rattle.near_box.proofs.ArrivedLemmas.{added_arrives}
use Rattle.near_box.proofs.GainedLemmas.{reported_before}
use Rattle.outside.specs.declared.box_fault.BoxFault.TheVariants as fault
use Rattle.outside.specs.BoxArrivals.{Arrives}
use Rattle.outside.specs.MailboxCalls.{Halts, LeavesBy, Seen}
use Rattle.outside.specs.MailboxOperations.{Answers, ReportsValidity}
use Rattle.mail_sides.specs.declared.near_side.NearSide.{NearSide}
use Rattle.mail_sides.specs.NearFaults.{reported}
use Rattle.mail_sides.specs.NearSides.{Unfit, is_broken_in, seen_at, seen_of}

-- the folder of a mailbox that has not failed is whole
folder_whole : (is_open is_ready is_broken : Bool) → (is_ready ≡ true → is_broken ≡ false) → is_broken_in is_open is_ready is_broken ≡ false → is_broken ≡ false
folder_whole true true is_broken by_box h = by_box refl
folder_whole true false is_broken by_box h = absurd (cc)
folder_whole false is_ready is_broken by_box h = h

stopped_now : (old new : FolderSeen Stored) → old.is_broken ≡ false → (old.is_broken ≡ true) ⊎ (old.stops < new.stops) → old.stops < new.stops
stopped_now old new whole (inl broken) = absurd (cc)
stopped_now old new whole (inr rose) = rose

module _ {F : Type 0} {folders : folder.Ghosts F} (s : NearSide F folders) (new : NearBox F folders) (whole : (seen_of s).is_broken ≡ false) (missed : new.missed ≡ s.near.missed) (same_map : new.keywords ≡ s.near.keywords) (adds : folders.honest new.folder → Adds folders.visitors (stored_in s.near) (stored_in new)) where
  abbrev honest : Type 0
  honest = folders.honest new.folder

  abbrev now : Bool → Seen
  now is_open = seen_at is_open (non_zero_u32_get s.fresh) new.keywords new

  abbrev Leaves : NearFault → Effect Mailbox
  Leaves e = LeavesBy (Answers ReportsValidity) Nothing (λ f _. Unfit s f) (reported e)

  missed_same : length new.missed.items ≡ length s.near.missed.items
  missed_same = ap (λ (m : History (Unit {0})). length m.items) missed

  -- others have added files, and then nothing is changed
  others_first : (does : Effect Mailbox) → honest → does (now false).stored (now false).stored → Follows (Arrives side.Near folders.visitors.ours folders.visitors.alone) does (seen_of s).stored (now false).stored
  others_first does h done = record {
    mid = (now false).stored;
    before = subst (λ (keywords : List Keyword). Arrives side.Near folders.visitors.ours folders.visitors.alone (seen_of s).stored (near_of (non_zero_u32_get s.fresh) keywords (stored_in new))) (sym same_map)
        (added_arrives folders.visitors (non_zero_u32_get s.fresh) s.near.keywords (stored_in s.near) (stored_in new) (adds h));
    following = done;
  }

  folder_is_whole : (seen_in s.near).is_broken ≡ false
  folder_is_whole = folder_whole s.is_open s.near.is_ready (seen_in s.near).is_broken s.near.is_whole whole

  -- ---- it is opened

  pub opens : (meta : Meta) → Looks {T = Unit {0}} (seen_in s.near) (seen_in new) (Ok tt) → new.is_ready ≡ true → new.fresh ≡ non_zero_u32_get s.fresh
      → (honest → IsMetaOf (mailbox_of new).store meta) → Went honest (Follows (Arrives side.Near folders.visitors.ours folders.visitors.alone) (Answers ReportsValidity meta.validity)) (seen_of s) (now true)
  opens meta looks is_ready fresh is = record {
    was_whole = whole;
    is_whole = ap not is_ready;
    stops = omega (arith, missed_same, looks.2);
    effect = λ h. others_first (Answers ReportsValidity meta.validity) h (refl, (is h).0 ∙ ap (λ (f : ℕ). (near_of f new.keywords (stored_in new)).store.validity) fresh);
  }

  -- ---- or not

  unfit : (e : NearFault) → Looks {T = Unit {0}} (seen_in s.near) (seen_in new) (Err e) → honest → ReportsWhy (non_zero_u32_get s.fresh) (stored_in s.near) e → Leaves e (now false).stored (now false).stored
  unfit near.Stopped looks h why = inl refl
  unfit near.NoMemory looks h why = inl refl
  unfit near.UidsExhausted looks h why = absurd looks
  unfit near.Absent looks h why = (refl, inl (refl, why))
  unfit near.TwoWithOneUid looks h why = (refl, inr (inl (refl, why)))
  unfit near.BadMeta looks h why = (refl, inr (inr (refl, why)))

  cause : (e : NearFault) → Looks {T = Unit {0}} (seen_in s.near) (seen_in new) (Err e) → reported e ≡ fault.Stopped → (seen_of s).stops < (now false).stops
  cause near.Stopped looks is = omega (arith, missed_same, stopped_now (seen_in s.near) (seen_in new) folder_is_whole looks.0)
  cause near.NoMemory looks is = absurd (cc)
  cause near.UidsExhausted looks is = absurd looks
  cause near.Absent looks is = absurd (cc)
  cause near.TwoWithOneUid looks is = absurd (cc)
  cause near.BadMeta looks is = absurd (cc)

  no_less : (e : NearFault) → Looks {T = Unit {0}} (seen_in s.near) (seen_in new) (Err e) → (seen_of s).stops ≤ (now false).stops
  no_less near.Stopped looks = omega (arith, missed_same, stopped_now (seen_in s.near) (seen_in new) folder_is_whole looks.0)
  no_less near.NoMemory looks = omega (arith, missed_same, looks)
  no_less near.UidsExhausted looks = absurd looks
  no_less near.Absent looks = omega (arith, missed_same, looks.1)
  no_less near.TwoWithOneUid looks = omega (arith, missed_same, looks.1)
  no_less near.BadMeta looks = omega (arith, missed_same, looks.1)

  pub stays_closed : (e : NearFault) → Looks {T = Unit {0}} (seen_in s.near) (seen_in new) (Err e) → (honest → ReportsWhy (non_zero_u32_get s.fresh) (stored_in new) e)
      → Halts honest ⊥ (reported e ≡ fault.Stopped) (Follows (Arrives side.Near folders.visitors.ours folders.visitors.alone) (Leaves e)) (seen_of s) (now false)
  stays_closed e looks why = record {
    cause = λ is. inl (cause e looks is);
    no_less = no_less e looks;
    left = λ h. others_first (Leaves e) h (unfit e looks h (reported_before folders.visitors (non_zero_u32_get s.fresh) (stored_in s.near) (stored_in new) e (adds h) (why h)));
  }
