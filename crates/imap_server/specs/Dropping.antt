-- A line with a fault, from the fault on.
use Rattle.std.specs.Prelude.{◌≡◌, ◌≤◌, ℕ, Bool, false, List, [], ◌∷◌, ◌++◌, length, take, codes, Option, None, Some, nat_eq}
use Rattle.std.specs.Cmp.Lexicographic.{pointwise}
use Rattle.wire_reader.specs.Spelling.{crlf}
use Rattle.imap_session.specs.Portions.{LineFault, Syntax, LiteralTooLong}
use Rattle.imap_session.specs.Unread.{last_three}

-- no line end stands in these bytes, and they end so
pub record Tail (bytes last : List ℕ) : Type 0 where
  pub no_end : (a b : List ℕ) → bytes ≡ a ++ (crlf ++ b) → ⊥
  pub last_is : last ≡ last_three bytes

-- the next bytes end the line: a LF stands last, and CR before it
pub record EndsAt (before next : List ℕ) (count : ℕ) (last : List ℕ) : Type 0 where
  pub front : List ℕ
  pub within : count ≤ length next
  pub parts : take count next ≡ front ++ 10 ∷ []
  pub tail : Tail (before ++ front) last
  pub x : ℕ
  pub y : ℕ
  pub return : last ≡ x ∷ y ∷ 13 ∷ []

-- After any bytes that end so, these bytes end the line, or it goes on.
abbrev pub PassesFrom : (before next : List ℕ) → Option ℕ → (last : List ℕ) → Type 0
PassesFrom before next None last = Tail (before ++ next) last
PassesFrom before next (Some count) last = EndsAt before next count last

abbrev pub Passes : (old next : List ℕ) → Option ℕ → (new : List ℕ) → Type 0
Passes old next found new = (before : List ℕ) → Tail before old → PassesFrom before next found new

-- its last bytes say that octets of a literal follow
abbrev pub loses_octets : LineFault → (last : List ℕ) → Bool
loses_octets (Syntax tag) last = false
loses_octets (LiteralTooLong tag) last = pointwise nat_eq last (codes "+}\r")
