-- A device goes on over several calls.
use Rattle.std.proofs.Common.{◌≡◌, ◌⊎◌, ◌<◌, ◌++◌, inl, inr, refl, sym, ◌∙◌, ap, subst, ℕ, List, [], append-nil, append_assoc, arith}
use Rattle.rules.specs.declared.state.SyncState.{SyncState}
use Rattle.sync_state.specs.declared.journal.Journal.{Journal}
use Rattle.sync_state.specs.declared.journal.Logged.{Logged}
use Rattle.book.specs.declared.book.Pending.{Pending}
use Rattle.book.specs.declared.book.Pending.TheVariants.{Missing, Useless, Planned}
use Rattle.book.specs.Books.{Holds}
use Rattle.book.specs.Shelves.{Files}
use Rattle.outside.specs.Devices.{Device}
use Rattle.outside.specs.GoingOn.{Continues, FilesGoOn, GoesOn, GoesOnTo, HoldsNext, KeepsPlan}
use Rattle.outside.proofs.Sparing.{nothing_named, spares_after}

pub keeps_same : (p : Pending) → KeepsPlan p p
keeps_same Missing = tt
keeps_same Useless = tt
keeps_same (Planned w) = record { plan = refl; since = []; log = sym (append-nil w.journal.log) }

-- the files are as they were
pub files_stay : (old new : Files) → new ≡ old → FilesGoOn old new
files_stay old new same s p held = record { state = s; pending = p; held = subst (λ (f : Files). Holds f s p) (sym same) held; goes_on = inl (refl, keeps_same p) }

-- ---- one after another

continues_after : (a b c : Journal) → Continues a b → Continues b c → Continues a c
continues_after a b c m n = record {
  plan = n.plan ∙ m.plan;
  since = m.since ++ n.since;
  log = n.log ∙ ap (λ (l : List Logged). l ++ n.since) m.log ∙ append_assoc a.log m.since n.since;
}

keeps_after : (p q r : Pending) → KeepsPlan p q → KeepsPlan q r → KeepsPlan p r
keeps_after Missing q r m n = tt
keeps_after Useless q r m n = tt
keeps_after (Planned w) Missing r m n = absurd m
keeps_after (Planned w) Useless r m n = absurd m
keeps_after (Planned w) (Planned v) Missing m n = absurd n
keeps_after (Planned w) (Planned v) Useless m n = absurd n
keeps_after (Planned w) (Planned v) (Planned u) m n = continues_after w.journal v.journal u.journal m n

to_after : (s t u : SyncState) (p q r : Pending) → GoesOnTo s p t q → GoesOnTo t q u r → GoesOnTo s p u r
to_after s t u p q r (inl m) (inl n) = inl (n.0 ∙ m.0, keeps_after p q r m.1 n.1)
to_after s t u p q r (inl m) (inr less) = inr (subst (λ (x : SyncState). x.run < u.run) m.0 less)
to_after s t u p q r (inr less) (inl n) = inr (subst (λ (x : SyncState). s.run < x.run) (sym n.0) less)
to_after s t u p q r (inr less) (inr more) = inr (omega (arith, less, more))

files_after : (a b c : Files) → FilesGoOn a b → FilesGoOn b c → FilesGoOn a c
files_after a b c m n s p held =
    let x = m s p held in
    let y = n x.state x.pending x.held in
    record { state = y.state; pending = y.pending; held = y.held; goes_on = to_after s x.state y.state p x.pending y.pending x.goes_on y.goes_on }

-- ---- the device

-- it is as it was
pub stays : (d d' : Device) → d' ≡ d → GoesOn d d'
stays d d' same = record { files = files_stay d.files d'.files (ap (λ (x : Device). x.files) same); spares = nothing_named d d' same }

pub goes_after : (a b c : Device) → GoesOn a b → GoesOn b c → GoesOn a c
goes_after a b c m n = record { files = files_after a.files b.files c.files m.files n.files; spares = spares_after a b c m.spares n.spares }
