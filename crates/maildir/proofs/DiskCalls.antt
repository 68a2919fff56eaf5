-- From the calls of the system to what a call of a folder on a disk does, and what it reports.
use Rattle.std.proofs.Common.{◌≡◌, true, false, Result, Ok, Err, refl, sym, subst}
use Rattle.std.specs.Prelude.{List, Option, Vec, IfOk, OnErr}
use Rattle.std.specs.Global.{Global}
use Rattle.device.specs.Calls.{Acts, Answers, Between, Effect, IsStop, Others, Stays, among}
use Rattle.device.specs.declared.DeviceFault.{DeviceFault}
use Rattle.device.specs.declared.DeviceFault.TheVariants.{Stopped}
use Rattle.device.proofs.Reporting.{Reported, stuck}
use Rattle.device.proofs.Reporting as Reporting
use Rattle.maildir.specs.DiskEvents.{DiskEvent, DiskWorld, IsHonest, standing_after}
use Rattle.maildir.specs.declared.folder.FileName.{FileName}
use Rattle.maildir.specs.DiskFolders.{FolderParts, Gained, KeptWord, seen_on_disk}
use Rattle.maildir.specs.Folders.{Stored, Lists, listed}
use Rattle.maildir.specs.FolderCalls.{ReadAnew}
use Rattle.maildir.specs.Gains.{Adds, others}
use Rattle.maildir.proofs.GainLemmas.{adds_none}

-- what stands in the folder after calls
abbrev says : DiskWorld → List DiskEvent → Stored
says world events = (standing_after world events).stored

abbrev stored : FolderParts → Stored
stored f = says f.world f.events

-- a call of a folder, which made calls of the system and reports the answer of the last
pub called : {T E : Type 0} (beside : Others Stored) (does : T → Effect Stored) (leaves : Effect Stored) (a b d : FolderParts)
    (answer : Result T E) (result : Result T DeviceFault) → a.disk.condition.is_broken ≡ false → b.disk ≡ a.disk
    → IfOk answer (λ value. KeptWord b → among beside (does value) (stored a) (stored b)) → OnErr answer (KeptWord b → among beside leaves (stored a) (stored b))
    → Reported answer result b d → Acts (KeptWord d) IsStop beside does (λ fault. leaves) (seen_on_disk a) (seen_on_disk d) result
called beside does leaves a b d answer result whole disk ok err reported =
    Reporting.called IsHonest says beside does leaves a b d answer result whole disk ok err reported

-- ---- a reading of the names before which others have added files

abbrev Names : Type 0
Names = Option (Vec FileName Global)

pub listed_ok : {E : Type 0} (answer : Result Names E) (a b : FolderParts) → Gained a b → IfOk answer (λ names. KeptWord b → Lists (listed names) (stored b))
    → IfOk answer (λ names. KeptWord b → among (Between (Adds others)) (Answers (λ n. Lists (listed n)) names) (stored a) (stored b))
listed_ok (Ok names) a b gained lists = λ k. record { mid = stored b; before = gained.adds k; following = (refl, lists k) }
listed_ok (Err error) a b gained lists = tt

pub listed_err : {E : Type 0} (answer : Result Names E) (a b : FolderParts) → Gained a b
    → OnErr answer (KeptWord b → among (Between (Adds others)) Stays (stored a) (stored b))
listed_err (Ok names) a b gained = tt
listed_err (Err error) a b gained = λ k. record { mid = stored b; before = gained.adds k; following = refl }

-- a folder whose call before has stopped
pub names_stuck : (a : FolderParts) (answer : Result Names DeviceFault) (fault : DeviceFault) → answer ≡ Err fault → fault ≡ Stopped → a.disk.condition.is_broken ≡ true
    → ReadAnew (KeptWord a) others (λ names. Lists (listed names)) (seen_on_disk a) (seen_on_disk a) answer
names_stuck a answer fault is stop broken =
    let P : Result Names DeviceFault → Type 0 = λ r. ReadAnew (KeptWord a) others (λ names. Lists (listed names)) (seen_on_disk a) (seen_on_disk a) r in
    subst P (sym is) (stuck (KeptWord a) (fault ≡ Stopped) (among (Between (Adds others)) Stays) (seen_on_disk a) broken stop
    (record { mid = stored a; before = adds_none others (stored a); following = refl }))
