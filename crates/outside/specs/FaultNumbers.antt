-- The numbers of the faults that a mailbox has of its own (docs/MBSYNC.md).
use Rattle.std.specs.Prelude.{ℕ}

-- ---- of a far mailbox

-- a refusal by which no step of a run is refused
abbrev pub FAR_REFUSED : ℕ
FAR_REFUSED = 2

abbrev pub FAR_UNKNOWN_ANSWER : ℕ
FAR_UNKNOWN_ANSWER = 3

abbrev pub FAR_TOO_LONG : ℕ
FAR_TOO_LONG = 4

abbrev pub FAR_NO_REV2 : ℕ
FAR_NO_REV2 = 5

abbrev pub FAR_READ_ONLY : ℕ
FAR_READ_ONLY = 6

-- ---- of a near mailbox

abbrev pub NEAR_ABSENT : ℕ
NEAR_ABSENT = 2

abbrev pub NEAR_TWO_WITH_ONE_UID : ℕ
NEAR_TWO_WITH_ONE_UID = 3

abbrev pub NEAR_BAD_META : ℕ
NEAR_BAD_META = 4

abbrev pub NEAR_UIDS_EXHAUSTED : ℕ
NEAR_UIDS_EXHAUSTED = 5
