-- What stands between places: laws of a language L of whole lines.
use Rattle.std.specs.Prelude.{◌≡◌, ◌≤◌, ◌⊎◌, ℕ, suc, false, List, [], ◌∷◌, ◌++◌, length, take, drop}
use Rattle.wire_reader.specs.declared.lexical.Phase.TheVariants.{Plain}
use Rattle.wire_reader.specs.Spelling.{crlf}
use Rattle.wire_reader.specs.Lexical.{is_in, phase, outside}
use Rattle.wire_reader.specs.Scanning.{NoPlace}
use Rattle.wire_reader.specs.Answers.{Begins, FaultAt, WholeAt}

-- ---- each text is decided

-- a spelling stands at the front
pub record Found {A : Type 0} (L : A → List ℕ → Type 0) (xs : List ℕ) : Type 0 where
  pub value : A
  pub used : ℕ
  pub whole : WholeAt L xs value used

-- at one of the bytes no spelling goes on
pub record Faulty {A : Type 0} (L : A → List ℕ → Type 0) (xs : List ℕ) : Type 0 where
  pub at : ℕ
  pub fault : FaultAt L xs at

abbrev pub EachIsDecided : {A : Type 0} → (A → List ℕ → Type 0) → Type 0
EachIsDecided {A} L = (xs : List ℕ) → Found L xs ⊎ Begins L xs ⊎ Faulty L xs

-- ---- a spelling ends at a place

-- the last byte is a LF, and no octet of a literal
pub record EndsOutside (text : List ℕ) : Type 0 where
  pub front : List ℕ
  pub parts : text ≡ front ++ 10 ∷ []
  pub outside : is_in (phase Plain front) ≡ false

abbrev pub EndAtPlaces : {A : Type 0} → (A → List ℕ → Type 0) → Type 0
EndAtPlaces {A} L = (value : A) (text : List ℕ) → L value text → EndsOutside text

-- ---- before the next place

-- no line end stands at or after this place
abbrev pub NoLineEnd : ℕ → List ℕ → Type 0
NoLineEnd at text = (a b : List ℕ) → drop at text ≡ a ++ (crlf ++ b) → ⊥

-- the bytes and more begin a spelling, with room for them
pub record Opens {A : Type 0} (L : A → List ℕ → Type 0) (text : List ℕ) : Type 0 where
  pub begins : Begins L text
  pub fits : outside text ≤ 65536

-- after the bytes xs a fault was met, and its line goes on
pub record Drops {A : Type 0} (L : A → List ℕ → Type 0) (xs text : List ℕ) : Type 0 where
  pub at : ℕ
  pub following : length xs ≤ at
  pub fault : FaultAt L text at
  pub fits : outside (take (suc at) text) ≤ 65536
  pub no_end : NoLineEnd at text

-- Where more was asked for, and no place has come since, either more is still asked for, or a fault was met and its line
-- goes on. So nothing whole stands there. At the begin of a line more is asked for.
pub record WaitsBetween {A : Type 0} (L : A → List ℕ → Type 0) : Type 0 where
  pub begin : Opens L []
  pub between : (xs ys : List ℕ) → Opens L xs → NoPlace xs ys → Opens L (xs ++ ys) ⊎ Drops L xs (xs ++ ys)
