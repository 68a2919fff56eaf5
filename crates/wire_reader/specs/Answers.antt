-- What the answer of a reader of whole lines says: of the bytes xs alone, and of a language L of values of A.
-- The answer holds a value of T, which `view` shows as one of A.
use Rattle.std.specs.Prelude.{◌≡◌, ◌<◌, ◌≤◌, ℕ, ◌-◌, false, true, suc, List, [], ◌++◌, length, take, None, Some, Result, Ok, Err, nat_lt, if◌then◌else◌}
use Rattle.std.specs.Borrow.{Bor}
use Rattle.wire_reader.specs.declared.side.Speaker.{Speaker}
use Rattle.wire_reader.specs.declared.stop.Kind.TheVariants as kinds
use Rattle.wire_reader.specs.declared.stop.Stop.{Stop}
use Rattle.wire_reader.specs.declared.stop.Stop.TheVariants.{Ends, Fails}
use Rattle.wire_reader.specs.declared.stop.ReadError.{ReadError}
use Rattle.wire_reader.specs.declared.stop.ReadError.TheVariants.{Memory, At}
use Rattle.wire_reader.specs.declared.answer.Read.{Read}
use Rattle.wire_reader.specs.declared.answer.Read.TheVariants.{Whole, WantsLiteral, Partial}
use Rattle.wire_reader.specs.declared.answer.WireFault.{WireFault}
use Rattle.wire_reader.specs.declared.answer.WireFault.TheVariants.{Syntax, LineTooLong, LiteralTooLong, NoMemory}
use Rattle.wire_reader.specs.declared.lexical.Phase.TheVariants.{Plain}
use Rattle.wire_reader.specs.Lexical.{outside, asks, passes_limit, limit_from}

-- the bytes and at least one more begin a spelling
pub record Begins {A : Type 0} (L : A → List ℕ → Type 0) (xs : List ℕ) : Type 0 where
  pub more : List ℕ
  pub value : A
  pub some : 0 < length more
  pub spelled : L value (xs ++ more)

-- no spelling begins with the bytes
abbrev pub NoneBegins : {A : Type 0} → (A → List ℕ → Type 0) → List ℕ → Type 0
NoneBegins {A} L xs = (value : A) (more : List ℕ) → L value (xs ++ more) → ⊥

-- a fault at this byte: the bytes before it begin a spelling, and with it none begins
pub record FaultAt {A : Type 0} (L : A → List ℕ → Type 0) (xs : List ℕ) (at : ℕ) : Type 0 where
  pub within : at < length xs
  pub before : Begins L (take at xs)
  pub none : NoneBegins L (take (suc at) xs)

-- the first so many bytes are a spelling of the value
pub record WholeAt {A : Type 0} (L : A → List ℕ → Type 0) (xs : List ℕ) (value : A) (used : ℕ) : Type 0 where
  pub within : used ≤ length xs
  pub spelled : L value (take used xs)

-- The bytes before one begin a spelling, and it is the 65537th outside literals. If no spelling goes on with it, then
-- not for a literal's length.
pub record PassesLimit {A : Type 0} (side : Speaker) (L : A → List ℕ → Type 0) (xs : List ℕ) : Type 0 where
  pub at : ℕ
  pub within : at < length xs
  pub before : Begins L (take at xs)
  pub fits : outside (take at xs) ≡ 65536
  pub passes : outside (take (suc at) xs) ≡ 65537
  pub short : FaultAt L xs at → passes_limit side at xs ≡ false

-- what each answer says
abbrev pub Answers : {T A : Type 0} → Speaker → (T → A) → (A → List ℕ → Type 0) → List ℕ → Result (Read T) WireFault → Type 0
Answers side view L xs (Ok (Whole value used)) = WholeAt L xs (view value) used × (outside (take used xs) ≤ 65536)
Answers side view L xs (Ok (WantsLiteral n)) = Begins L xs × (outside xs ≤ 65536) × (asks side xs ≡ Some n)
Answers side view L xs (Ok Partial) = Begins L xs × (outside xs ≤ 65536) × (asks side xs ≡ None)
Answers side view L xs (Err (Syntax at)) = FaultAt L xs at × (outside (take (suc at) xs) ≤ 65536) × (passes_limit side at xs ≡ false)
Answers side view L xs (Err LineTooLong) = PassesLimit side L xs
Answers side view L xs (Err (LiteralTooLong at)) = FaultAt L xs at × (outside (take at xs) ≤ 65536) × (passes_limit side at xs ≡ true)
Answers side view L xs (Err NoMemory) = Unit {0}

-- where a spelling stands at the front, with room for it, it is what is answered
abbrev pub Takes : {T A : Type 0} → (T → A) → A → ℕ → Result (Read T) WireFault → Type 0
Takes view a used (Ok (Whole value n)) = (view value ≡ a) × (n ≡ used)
Takes view a used (Ok (WantsLiteral n)) = ⊥
Takes view a used (Ok Partial) = ⊥
Takes view a used (Err (Syntax at)) = ⊥
Takes view a used (Err LineTooLong) = ⊥
Takes view a used (Err (LiteralTooLong at)) = ⊥
Takes view a used (Err NoMemory) = Unit {0}

abbrev pub TakesEach : {T A : Type 0} → (T → A) → (A → List ℕ → Type 0) → List ℕ → Result (Read T) WireFault → Type 0
TakesEach {T} {A} view L xs result = (a : A) (used : ℕ) → WholeAt L xs a used → outside (take used xs) ≤ 65536 → Takes view a used result

-- where the bytes begin a longer spelling, with room for them, more is asked for
abbrev pub IsOpen : {T : Type 0} → Result (Read T) WireFault → Type 0
IsOpen (Ok (Whole value n)) = ⊥
IsOpen (Ok (WantsLiteral n)) = Unit {0}
IsOpen (Ok Partial) = Unit {0}
IsOpen (Err (Syntax at)) = ⊥
IsOpen (Err LineTooLong) = ⊥
IsOpen (Err (LiteralTooLong at)) = ⊥
IsOpen (Err NoMemory) = Unit {0}

abbrev pub WaitsForMore : {T A : Type 0} → (A → List ℕ → Type 0) → List ℕ → Result (Read T) WireFault → Type 0
WaitsForMore L xs result = Begins L xs → outside xs ≤ 65536 → IsOpen result

-- no spelling begins another
abbrev pub NoneBeginsAnother : {A : Type 0} → (A → List ℕ → Type 0) → Type 0
NoneBeginsAnother {A} L = (a b : A) (s t more : List ℕ) → L a s → L b t → s ++ more ≡ t → (more ≡ []) × (a ≡ b)

-- ---- the answer, as it is computed from what a reader gives

-- so many bytes were there, and the reader stopped
abbrev pub stopped : {T : Type 0} → ℕ → Stop → Result (Read T) WireFault
stopped len (Ends (Some n)) = Ok (WantsLiteral n)
stopped len (Ends None) = Ok Partial
stopped len (Fails kinds.Syntax left) = Err (Syntax (len - left))
stopped len (Fails kinds.TooLong left) = Err (LiteralTooLong (len - left))

-- so many bytes were there, and a function of the program returned this
abbrev pub answered : {T : Type 0} → ℕ → Result (T × Bor (List ℕ)) ReadError → Result (Read T) WireFault
answered len (Ok x) = Ok (Whole x.0 (len - length (x.1.now)))
answered len (Err (At stop)) = stopped len stop
answered len (Err Memory) = Err NoMemory

-- the bytes that decide an answer: those of the whole, those up to and with the one that is refused, or all
abbrev pub decisive : {T : Type 0} → Result (Read T) WireFault → List ℕ → List ℕ
decisive (Ok (Whole value used)) xs = take used xs
decisive (Ok (WantsLiteral n)) xs = xs
decisive (Ok Partial) xs = xs
decisive (Err (Syntax at)) xs = take (suc at) xs
decisive (Err LineTooLong) xs = xs
decisive (Err (LiteralTooLong at)) xs = take (suc at) xs
decisive (Err NoMemory) xs = xs

-- the answer, where no byte that decides it is too many; else the end of the bytes up to and with the first that is
abbrev pub KeptOr : {T : Type 0} → Result (Read T) WireFault → List ℕ → Result (Result (Read T) WireFault) ℕ → Type 0
KeptOr answer xs (Ok same) = (same ≡ answer) × (limit_from Plain 65536 0 (decisive answer xs) ≡ None)
KeptOr answer xs (Err end) = limit_from Plain 65536 0 (decisive answer xs) ≡ Some end

-- the fault in the bytes up to the first that is too many, as one of all of them
abbrev pub fault_within : ℕ → WireFault → WireFault
fault_within end (Syntax at) = if nat_lt at (end - 1) then Syntax at else LineTooLong
fault_within end LineTooLong = LineTooLong
fault_within end (LiteralTooLong at) = LiteralTooLong at
fault_within end NoMemory = NoMemory

-- the answer for those bytes, as one for all of them
abbrev pub within : {T : Type 0} → ℕ → Result (Read T) WireFault → Result (Read T) WireFault
within end (Ok (Whole value used)) = if nat_lt used end then Ok (Whole value used) else Err LineTooLong
within end (Ok (WantsLiteral n)) = Err LineTooLong
within end (Ok Partial) = Err LineTooLong
within end (Err fault) = Err (fault_within end fault)
