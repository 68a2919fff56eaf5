-- For a reader of whole lines that is a part of a grammar: its answer, within the limit, says what it has to say.
use Rattle.std.proofs.Common.{◌≡◌, ℕ, Bool, List, take, Some, Result, sym, subst, ◌∙◌, ap}
use Rattle.std.specs.Borrow.{Bor}
use Rattle.wire_reader.specs.declared.side.Speaker.{Speaker}
use Rattle.wire_reader.specs.declared.stop.Stop.{Stop}
use Rattle.wire_reader.specs.declared.stop.ReadError.{ReadError}
use Rattle.wire_reader.specs.declared.lexical.Phase.TheVariants.{Plain}
use Rattle.wire_reader.specs.declared.answer.Read.{Read}
use Rattle.wire_reader.specs.declared.answer.WireFault.{WireFault}
use Rattle.wire_reader.specs.Lexical.{limit_from}
use Rattle.wire_reader.specs.Given.{GivesOr}
use Rattle.wire_reader.specs.Answers.{Answers, TakesEach, WaitsForMore, NoneBeginsAnother, answered, within}
use Rattle.wire_reader.proofs.Reader.{Closed}
use Rattle.wire_reader.proofs.Part.{Part}
use Rattle.wire_reader.proofs.Top.{none_begins}
use Rattle.wire_reader.proofs.Answering.{answers_within}
use Rattle.wire_reader.proofs.Exactly.{takes, waits_for_more}

module _ {A : Type 0} {side : Speaker} {k : Bool} {L : A → List ℕ → Type 0} {r : List ℕ → Result (A × List ℕ) Stop} (p : Part side k Closed L r) where
  -- no spelling begins another
  pub line_law : NoneBeginsAnother L
  line_law = none_begins p.reader

  module _ {T : Type 0} (view : T → A) (xs : List ℕ) where
    -- the bytes up to `end` were read
    pub line_within : (o : Result (T × Bor (List ℕ)) ReadError) (end : ℕ) (front answer : Result (Read T) WireFault) → limit_from Plain 65536 0 xs ≡ Some end → GivesOr (λ x. (view x.0, x.1.now)) o (r (take end xs)) → front ≡ answered end o → answer ≡ within end front → Answers side view L xs answer
    line_within o end front answer h g e f = subst (Answers side view L xs) (sym (f ∙ ap (within end) e)) (answers_within side view p.reader p.lexed xs o end h g)

    pub line_takes : (answer : Result (Read T) WireFault) → Answers side view L xs answer → TakesEach view L xs answer
    line_takes answer a = takes line_law xs side view answer a

    pub line_waits : (answer : Result (Read T) WireFault) → Answers side view L xs answer → WaitsForMore L xs answer
    line_waits answer a = waits_for_more line_law xs side view answer a
