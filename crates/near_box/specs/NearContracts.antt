-- What the calls of the near mailbox answer, and what they do to the mailbox that stands in its folder.
use Rattle.std.specs.Prelude.{◌≡◌, ◌⊎◌, ℕ, true, false, Result, Ok, Err}
use Rattle.mailcore.specs.Mailboxes.{Mailbox}
use Rattle.device.specs.Calls.{Effect}
use Rattle.near_box.specs.declared.near_fault.NearFault.{NearFault}
use Rattle.near_box.specs.declared.near_fault.NearFault.TheVariants.{Stopped, Absent, TwoWithOneUid, BadMeta, UidsExhausted, NoMemory}
use Rattle.maildir.specs.Folders.{Stored}
use Rattle.near_box.specs.Mailboxes.{AreDistinct, uids_in, HasMeta, IsMailbox}

-- ---- open

-- why the folder holds no mailbox: the first that holds of three
abbrev pub ReportsWhy : (fresh : ℕ) → Stored → NearFault → Type 0
ReportsWhy fresh s Stopped = Unit {0}
ReportsWhy fresh s Absent = s.is_there ≡ false
ReportsWhy fresh s TwoWithOneUid = (s.is_there ≡ true) × ¬ AreDistinct (uids_in s.files)
ReportsWhy fresh s BadMeta = (s.is_there ≡ true) × AreDistinct (uids_in s.files) × ¬ HasMeta fresh s
ReportsWhy fresh s UidsExhausted = ⊥
ReportsWhy fresh s NoMemory = Unit {0}

-- what opening a box says of its folder
abbrev pub ReportsOf : {T : Type 0} → (fresh : ℕ) → Stored → Result T NearFault → Type 0
ReportsOf fresh s (Ok answer) = IsMailbox fresh s
ReportsOf fresh s (Err fault) = ReportsWhy fresh s fault

-- ---- calls that write

-- with the effect where the answer is Ok, else without it, or with it, or with a part of it
abbrev pub Changes : {T : Type 0} → (Mailbox → Mailbox) → (part : Effect Mailbox) → Mailbox → Mailbox → Result T NearFault → Type 0
Changes effect part n n' (Ok answer) = n' ≡ effect n
Changes effect part n n' (Err fault) = (n' ≡ n) ⊎ ((n' ≡ effect n) ⊎ part n n')
