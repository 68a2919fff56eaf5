-- A mark that is recorded removes nothing.
use Rattle.std.proofs.Common.{◌≡◌, ◌⊎◌, ◌∙◌, ◌<◌, inl, inr, ℕ, Bool, true, false, ◌==◌, cond, Option, Some, refl, ap, arith}
use Rattle.std.specs.Int.{bit_at}
use Rattle.std.proofs.lemmas.Bool.{and_right, false≢true, true≢false}
use Rattle.std.proofs.lemmas.Nat.Bits.{bit_at-lt}
use Rattle.mailcore.specs.FlagSet.{DELETED, has}
use Rattle.mailcore.specs.Sides.{other, towards}
use Rattle.mailcore.proofs.FlagRules.{eight}
use Rattle.rules.specs.declared.entry.Entry.{Entry}
use Rattle.rules.specs.Called.{flags_by, flags_with, is_deleted_then}
use Rattle.rules.specs.FlagRule.{taken, taken_flag}
use Rattle.rules.specs.Options.{covers, goes}
use Rattle.rules.specs.Scene.{flags_at, items}
use Rattle.rules.proofs.FlagLemmas.{taken-at}
use Rattle.law_outcome.specs.RuleLaws.{RecordedMarkIsNoDelete}

-- one flag: it is recorded, and not on both sides
flag_gone : (x y z : ℕ) → x < 2 → y < 2 → z < 2 → (z == 1) ≡ true → ((y == 1) ≡ false) ⊎ ((x == 1) ≡ false) → (taken_flag x y z == 1) ≡ false
flag_gone = eight (λ x y z. (z == 1) ≡ true → ((y == 1) ≡ false) ⊎ ((x == 1) ≡ false) → (taken_flag x y z == 1) ≡ false)
    (λ r k. absurd (false≢true r)) (λ r k. refl) (λ r k. absurd (false≢true r)) (λ r k. refl)
    (λ r k. absurd (false≢true r)) (λ r k. refl) (λ r k. absurd (false≢true r))
    (λ r k. elim k [
      | inl h ↦ absurd (true≢false h)
      | inr h ↦ absurd (true≢false h)
    ])

taken_gone : (s t r : ℕ) → has r DELETED ≡ true → (has t DELETED ≡ false) ⊎ (has s DELETED ≡ false) → has (taken s t r) DELETED ≡ false
taken_gone s t r noted k =
    ap (λ (b : ℕ). b == 1) (taken-at s t r DELETED (omega arith))
    ∙ flag_gone (bit_at s DELETED) (bit_at t DELETED) (bit_at r DELETED) (bit_at-lt s DELETED) (bit_at-lt t DELETED) (bit_at-lt r DELETED) noted k

gone_with : (on : Bool) (s t r : ℕ) → has r DELETED ≡ true → (has t DELETED ≡ false) ⊎ ((has s DELETED ≡ false) × (on ≡ true)) → has (cond on (taken s t r) t) DELETED ≡ false
gone_with true s t r noted (inl h) = taken_gone s t r noted (inl h)
gone_with true s t r noted (inr h) = taken_gone s t r noted (inr h.0)
gone_with false s t r noted (inl h) = h
gone_with false s t r noted (inr h) = absurd (false≢true h.1)

pub recorded_mark : RecordedMarkIsNoDelete
recorded_mark s side e u flags theirs full at there noted k =
    let stays : is_deleted_then s side u (flags_at (items s side) u) ≡ false =
    ap (λ (o : Option ℕ). is_deleted_then s side u o) at
    ∙ ap (λ (o : Option Entry). has (flags_by s side flags o) DELETED) full
    ∙ ap (λ (o : Option ℕ). has (flags_with s side flags e.flags o) DELETED) there
    ∙ gone_with (goes s.options.cells.flags (towards side)) theirs flags e.flags noted k in
    and_right (covers s.options.expunge side) (is_deleted_then s side u (flags_at (items s side) u)) stays
