-- The limit of a line, looked for in the bytes that decide an answer alone.
use Rattle.std.proofs.Common.{◌≡◌, ℕ, zero, suc, ◌+◌, ◌-◌, ◌≤◌, Bool, cond, eqb, List, [], ◌∷◌, length, take, Option, Some, None, Result, Ok, Err, sym, ap, subst, ◌∙◌, inl, inr, arith}
use Rattle.std.specs.Borrow.{Bor}
use Rattle.std.proofs.lemmas.Bool.{cases_Bool}
use Rattle.wire_reader.specs.declared.side.Speaker.{Speaker}
use Rattle.wire_reader.specs.declared.stop.Stop.{Stop}
use Rattle.wire_reader.specs.declared.stop.ReadError.{ReadError}
use Rattle.wire_reader.specs.declared.lexical.Phase.{Phase}
use Rattle.wire_reader.specs.declared.lexical.Phase.TheVariants.{Plain}
use Rattle.wire_reader.specs.declared.answer.Read.{Read}
use Rattle.wire_reader.specs.declared.answer.Read.TheVariants.{Whole, WantsLiteral, Partial}
use Rattle.wire_reader.specs.declared.answer.WireFault.{WireFault}
use Rattle.wire_reader.specs.declared.answer.WireFault.TheVariants.{Syntax, LineTooLong, LiteralTooLong, NoMemory}
use Rattle.wire_reader.specs.Lexical.{next, is_in, limit_from}
use Rattle.wire_reader.specs.Given.{GivesOr}
use Rattle.wire_reader.specs.Answers.{Answers, KeptOr, answered, decisive, within}
use Rattle.wire_reader.proofs.Limits as limits
use Rattle.wire_reader.proofs.Reader.{Closed}
use Rattle.wire_reader.proofs.Part.{Part}
use Rattle.wire_reader.proofs.Answering.{Unlimited, answered_says, end_le}
use Rattle.wire_reader.proofs.Lines.{line_within}

-- ---- a limit that is passed in a front of the bytes is passed there in all of them

abbrev room_step : ℕ → ℕ → Phase → ℕ → List ℕ → Bool → Option ℕ
room_step room at p b bs t = cond t (Some (at + 1)) (limit_from (next p b) (room - 1) (at + 1) bs)

abbrev in_step : ℕ → ℕ → Phase → ℕ → List ℕ → Bool → Option ℕ
in_step room at p b bs t = cond t (limit_from (next p b) room (at + 1) bs) (room_step room at p b bs (eqb room 0))

pub limit_in_front : (xs : List ℕ) (n : ℕ) (p : Phase) (room at end : ℕ) → limit_from p room at (take n xs) ≡ Some end → limit_from p room at xs ≡ Some end
limit_in_front [] zero p room at end h = absurd cc
limit_in_front [] (suc n) p room at end h = absurd cc
limit_in_front (b ∷ bs) zero p room at end h = absurd cc
limit_in_front (b ∷ bs) (suc n) p room at end h =
    elim (cases_Bool (is_in p)) [
      | inl i ↦ ap (in_step room at p b bs) i ∙ limit_in_front bs n (next p b) room (at + 1) end (sym (ap (in_step room at p b (take n bs)) i) ∙ h)
      | inr o ↦
          let g : room_step room at p b (take n bs) (eqb room 0) ≡ Some end = sym (ap (in_step room at p b (take n bs)) o) ∙ h in
          ap (in_step room at p b bs) o ∙ elim (cases_Bool (eqb room 0)) [
            | inl z ↦ ap (room_step room at p b bs) z ∙ sym (ap (room_step room at p b (take n bs)) z) ∙ g
            | inr z ↦ ap (room_step room at p b bs) z ∙ limit_in_front bs n (next p b) (room - 1) (at + 1) end (sym (ap (room_step room at p b (take n bs)) z) ∙ g)
          ]
    ]

pub limit_passed : {T : Type 0} (answer : Result (Read T) WireFault) (xs : List ℕ) (end : ℕ) → limit_from Plain 65536 0 (decisive answer xs) ≡ Some end → limit_from Plain 65536 0 xs ≡ Some end
limit_passed (Ok (Whole value used)) xs end h = limit_in_front xs used Plain 65536 0 end h
limit_passed (Ok (WantsLiteral n)) xs end h = h
limit_passed (Ok Partial) xs end h = h
limit_passed (Err (Syntax at)) xs end h = limit_in_front xs (suc at) Plain 65536 0 end h
limit_passed (Err LineTooLong) xs end h = h
limit_passed (Err (LiteralTooLong at)) xs end h = limit_in_front xs (suc at) Plain 65536 0 end h
limit_passed (Err NoMemory) xs end h = h

-- ---- no byte that decides the answer is too many

module _ {T A : Type 0} (side : Speaker) (view : T → A) (L : A → List ℕ → Type 0) (xs : List ℕ) where
  decided : (answer : Result (Read T) WireFault) → Unlimited side view L xs answer → limit_from Plain 65536 0 (decisive answer xs) ≡ None → Answers side view L xs answer
  decided (Ok (Whole value used)) a h = (a, limits.within (take used xs) Plain 65536 0 h)
  decided (Ok (WantsLiteral n)) a h = (a.0, limits.within xs Plain 65536 0 h, a.1)
  decided (Ok Partial) a h = (a.0, limits.within xs Plain 65536 0 h, a.1)
  decided (Err (Syntax at)) a h = (a.0, limits.within (take (suc at) xs) Plain 65536 0 h, a.1)
  decided (Err LineTooLong) a h = absurd a
  decided (Err (LiteralTooLong at)) a h =
      let w = limits.within (take (suc at) xs) Plain 65536 0 h in
      let m = limits.outside_le xs Plain at (suc at) (omega arith) in
      (a.0, omega (arith, w, m), a.1)
  decided (Err NoMemory) a h = tt

module _ {T : Type 0} (answer : Result (Read T) WireFault) (xs : List ℕ) where
  pub end_within : (end : ℕ) → KeptOr answer xs (Err end) → end ≤ length xs
  end_within end h = end_le xs end (limit_passed answer xs end h)

  module _ {A : Type 0} {side : Speaker} {k : Bool} {L : A → List ℕ → Type 0} {r : List ℕ → Result (A × List ℕ) Stop} (p : Part side k Closed L r) (view : T → A) where
    -- the limit is kept
    pub line_kept : (o : Result (T × Bor (List ℕ)) ReadError) (same : Result (Read T) WireFault) → GivesOr (λ x. (view x.0, x.1.now)) o (r xs) → answer ≡ answered (length xs) o → KeptOr answer xs (Ok same) → Answers side view L xs same
    line_kept o same g e h =
        subst (Answers side view L xs) (sym h.0)
        (decided side view L xs answer (subst (Unlimited side view L xs) (sym e) (answered_says side view p.reader p.lexed xs o g)) h.1)

    -- the limit is passed, and the bytes up to `end` are read again
    pub line_passed : (o : Result (T × Bor (List ℕ)) ReadError) (end : ℕ) (front last : Result (Read T) WireFault) → KeptOr answer xs (Err end) → GivesOr (λ x. (view x.0, x.1.now)) o (r (take end xs)) → front ≡ answered end o → last ≡ within end front → Answers side view L xs last
    line_passed o end front last h g e f = line_within p view xs o end front last (limit_passed answer xs end h) g e f
