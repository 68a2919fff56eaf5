-- The answer that is computed from what a reader gives says what it has to say.
use Rattle.std.proofs.Common.{◌≡◌, ℕ, zero, suc, ◌+◌, ◌-◌, ◌<◌, ◌≤◌, Bool, true, false, cond, ltb, List, [], ◌∷◌, ◌++◌, length, take, get_or, Some, None, Result, Ok, Err, refl, sym, ap, subst, ◌∙◌, append_assoc, arith}
use Rattle.std.specs.Borrow.{Bor}
use Rattle.std.proofs.lemmas.Bool.{ltb-true, ltb-false}
use Rattle.std.proofs.lemmas.List.{append-nil, take-take, take_more, length-take, length-take-le}
use Rattle.wire_reader.specs.declared.side.Speaker.{Speaker}
use Rattle.wire_reader.specs.declared.stop.Kind.{Kind}
use Rattle.wire_reader.specs.declared.stop.Kind.TheVariants as kinds
use Rattle.wire_reader.specs.declared.stop.Stop.{Stop}
use Rattle.wire_reader.specs.declared.stop.Stop.TheVariants.{Ends, Fails}
use Rattle.wire_reader.specs.declared.stop.ReadError.{ReadError}
use Rattle.wire_reader.specs.declared.stop.ReadError.TheVariants.{Memory, At}
use Rattle.wire_reader.specs.declared.lexical.Phase.{Phase}
use Rattle.wire_reader.specs.declared.lexical.Phase.TheVariants.{Plain}
use Rattle.wire_reader.specs.Lexical.{next, limit_from, outside, asks, over_from, passes_limit}
use Rattle.wire_reader.specs.declared.answer.Read.{Read}
use Rattle.wire_reader.specs.declared.answer.Read.TheVariants.{Whole, WantsLiteral, Partial}
use Rattle.wire_reader.specs.declared.answer.WireFault.{WireFault}
use Rattle.wire_reader.specs.declared.answer.WireFault.TheVariants.{Syntax, LineTooLong, LiteralTooLong, NoMemory}
use Rattle.wire_reader.specs.Given.{GivesOr}
use Rattle.wire_reader.specs.Answers.{Begins, NoneBegins, FaultAt, WholeAt, PassesLimit, Answers, answered, stopped, within}
use Rattle.wire_reader.proofs.Limits.{Passed, passed, outside_le}
use Rattle.wire_reader.proofs.Reader.{Closed, Reader}
use Rattle.wire_reader.proofs.Lexed.{Lexed, kind-over}
use Rattle.wire_reader.proofs.Top.{whole_is, begins_is, fault_is, left_le}

-- what an answer says where no byte is too many
abbrev pub Unlimited : {T A : Type 0} → Speaker → (T → A) → (A → List ℕ → Type 0) → List ℕ → Result (Read T) WireFault → Type 0
Unlimited side view L xs (Ok (Whole value used)) = WholeAt L xs (view value) used
Unlimited side view L xs (Ok (WantsLiteral n)) = Begins L xs × (asks side xs ≡ Some n)
Unlimited side view L xs (Ok Partial) = Begins L xs × (asks side xs ≡ None)
Unlimited side view L xs (Err (Syntax at)) = FaultAt L xs at × (passes_limit side at xs ≡ false)
Unlimited side view L xs (Err LineTooLong) = ⊥
Unlimited side view L xs (Err (LiteralTooLong at)) = FaultAt L xs at × (passes_limit side at xs ≡ true)
Unlimited side view L xs (Err NoMemory) = Unit {0}

over-true : (t : Bool) → cond t kinds.TooLong kinds.Syntax ≡ kinds.TooLong → t ≡ true
over-true true h = refl
over-true false h = absurd cc

over-false : (t : Bool) → cond t kinds.TooLong kinds.Syntax ≡ kinds.Syntax → t ≡ false
over-false true h = absurd cc
over-false false h = refl

module _ {T A : Type 0} {L : A → List ℕ → Type 0} {r : List ℕ → Result (A × List ℕ) Stop} (side : Speaker) (view : T → A) (p : Reader Closed L r) (lex : Lexed side Plain r) (xs : List ℕ) where
  kind_is : (k : Kind) (n : ℕ) → r xs ≡ Err (Fails k n) → cond (passes_limit side (length xs - n) xs) kinds.TooLong kinds.Syntax ≡ k
  kind_is k n h = let le = left_le p xs k n h in sym (kind-over side Plain n xs le.0 le.1) ∙ lex.kind xs k n h

  stopped_says : (s : Stop) → r xs ≡ Err s → Unlimited {T = T} side view L xs (stopped (length xs) s)
  stopped_says (Ends (Some n)) h = (begins_is p xs (Some n) h, lex.asks xs (Some n) h)
  stopped_says (Ends None) h = (begins_is p xs None h, lex.asks xs None h)
  stopped_says (Fails kinds.Syntax n) h = (fault_is p xs kinds.Syntax n h, over-false _ (kind_is kinds.Syntax n h))
  stopped_says (Fails kinds.TooLong n) h = (fault_is p xs kinds.TooLong n h, over-true _ (kind_is kinds.TooLong n h))

  pub answered_says : (o : Result (T × Bor (List ℕ)) ReadError) → GivesOr (λ x. (view x.0, x.1.now)) o (r xs) → Unlimited side view L xs (answered (length xs) o)
  answered_says (Ok x) h = whole_is p xs (view x.0) x.1.now h
  answered_says (Err (At s)) h = stopped_says s h
  answered_says (Err Memory) h = tt

-- ---- the limit

-- the place of a fault, in a front that holds it
over-take : (side : Speaker) (xs : List ℕ) (ph : Phase) (end at : ℕ) → at < end → over_from side ph at (take end xs) ≡ over_from side ph at xs
over-take side xs ph zero at lt = absurd (omega (arith, lt))
over-take side [] ph (suc end) at lt = refl
over-take side (b ∷ bs) ph (suc end) zero lt = refl
over-take side (b ∷ bs) ph (suc end) (suc at) lt = over-take side bs (next ph b) end at (omega (arith, lt))

module _ (xs : List ℕ) (end : ℕ) (h : limit_from Plain 65536 0 xs ≡ Some end) where
  place : Passed Plain 65536 0 xs end
  place = passed xs Plain 65536 0 end h

  pub end_le : end ≤ length xs
  end_le = let e = place.end_is in let r = place.in_range in omega arith

  below : (k : ℕ) → k < end → outside (take k xs) ≤ 65536
  below k lt = let e = place.end_is in let b = place.before in let m = outside_le xs Plain k place.index (omega arith) in omega arith

  -- the bytes before the one for which there is no room, and with it
  last : take end xs ≡ take place.index xs ++ get_or xs place.index 0 ∷ []
  last = let e : end ≡ place.index + 1 = (let e = place.end_is in omega arith) in ap (λ (k : ℕ). take k xs) e ∙ take_more xs place.index 0 place.in_range

  ends_there : take (suc place.index) xs ≡ take end xs
  ends_there = let e : suc place.index ≡ end = (let e = place.end_is in omega arith) in ap (λ (k : ℕ). take k xs) e

  module _ {A : Type 0} (L : A → List ℕ → Type 0) (side : Speaker) where
    whole_within : (a : A) (used : ℕ) → WholeAt L (take end xs) a used → used < end → WholeAt L xs a used × (outside (take used xs) ≤ 65536)
    whole_within a used w lt =
        let same : take used (take end xs) ≡ take used xs = take-take used end xs (omega arith) in
        let e = end_le in
        (record { within = omega arith; spelled = subst (L a) same w.spelled }, below used lt)

    at_below : (at : ℕ) → FaultAt L (take end xs) at → at < end
    at_below at f = let i = f.within in omega (arith, length-take end xs)

    fault_moved : (at : ℕ) → FaultAt L (take end xs) at → FaultAt L xs at
    fault_moved at f =
        let lt = at_below at f in
        let e = end_le in
        let one : take at (take end xs) ≡ take at xs = take-take at end xs (omega arith) in
        let two : take (suc at) (take end xs) ≡ take (suc at) xs = take-take (suc at) end xs (omega arith) in
        record { within = omega arith; before = subst (Begins L) one f.before; none = subst (NoneBegins L) two f.none }

    over_moved : (at : ℕ) (t : Bool) → FaultAt L (take end xs) at → passes_limit side at (take end xs) ≡ t → passes_limit side at xs ≡ t
    over_moved at t f o = sym (over-take side xs Plain end at (at_below at f)) ∙ o

    fault_within' : (at : ℕ) → FaultAt L (take end xs) at → at < end - 1 → FaultAt L xs at × (outside (take (suc at) xs) ≤ 65536)
    fault_within' at f lt = (fault_moved at f, below (suc at) (omega arith))

    long_within : (at : ℕ) → FaultAt L (take end xs) at → FaultAt L xs at × (outside (take at xs) ≤ 65536)
    long_within at f = (fault_moved at f, below at (at_below at f))

    passes : Begins L (take place.index xs) → (FaultAt L xs place.index → passes_limit side place.index xs ≡ false) → PassesLimit side L xs
    passes b s = record { at = place.index; within = place.in_range; before = b; fits = place.before; passes = place.after; short = s }

    -- the byte for which there is no room goes on
    goes_on : (a : A) (more : List ℕ) → L a (take end xs ++ more) → FaultAt L xs place.index → ⊥
    goes_on a more l f = f.none a more (subst (L a) (ap (λ (y : List ℕ). y ++ more) (sym ends_there)) l)

    begins_passes : Begins L (take end xs) → PassesLimit side L xs
    begins_passes b = passes
        (record { more = get_or xs place.index 0 ∷ b.more; value = b.value; some = omega arith; spelled = subst (L b.value) (ap (λ (y : List ℕ). y ++ b.more) last ∙ append_assoc (take place.index xs) (get_or xs place.index 0 ∷ []) b.more) b.spelled })
        (λ f. absurd (goes_on b.value b.more b.spelled f))

    whole_passes : (a : A) (used : ℕ) → WholeAt L (take end xs) a used → end ≤ used → PassesLimit side L xs
    whole_passes a used w le =
        let i = w.within in
        let same : used ≡ end = omega (arith, length-take end xs) in
        let all : L a (take end xs) = subst (L a) (ap (λ (k : ℕ). take k (take end xs)) same ∙ take-take end end xs (omega arith)) w.spelled in
        passes (record { more = get_or xs place.index 0 ∷ []; value = a; some = omega arith; spelled = subst (L a) last all })
        (λ f. absurd (goes_on a [] (subst (L a) (sym (append-nil (take end xs))) all) f))

    fault_passes : (at : ℕ) → FaultAt L (take end xs) at → passes_limit side at (take end xs) ≡ false → end - 1 ≤ at → PassesLimit side L xs
    fault_passes at f o le =
        let lt = at_below at f in
        let e = place.end_is in
        let same : at ≡ place.index = omega arith in
        passes (subst (Begins L) (ap (λ (k : ℕ). take k (take end xs)) same ∙ take-take place.index end xs (omega arith)) f.before)
        (λ _. ap (λ (k : ℕ). passes_limit side k xs) (sym same) ∙ over_moved at false f o)

    module _ {T : Type 0} (view : T → A) where
      whole_says : (value : T) (used : ℕ) (t : Bool) → ltb used end ≡ t → WholeAt L (take end xs) (view value) used → Answers side view L xs (cond t (Ok (Whole value used)) (Err LineTooLong))
      whole_says value used true e a = whole_within (view value) used a (ltb-true used end e)
      whole_says value used false e a = whole_passes (view value) used a (ltb-false used end e)

      syntax_says : (at : ℕ) (t : Bool) → ltb at (end - 1) ≡ t → FaultAt L (take end xs) at × (passes_limit side at (take end xs) ≡ false) → Answers side view L xs (Err (cond t (Syntax at) LineTooLong))
      syntax_says at true e a = let w = fault_within' at a.0 (ltb-true at (end - 1) e) in (w.0, w.1, over_moved at false a.0 a.1)
      syntax_says at false e a = fault_passes at a.0 a.1 (ltb-false at (end - 1) e)

      pub within_says : (o : Result (Read T) WireFault) → Unlimited side view L (take end xs) o → Answers side view L xs (within end o)
      within_says (Ok (Whole value used)) a = whole_says value used (ltb used end) refl a
      within_says (Ok (WantsLiteral n)) a = begins_passes a.0
      within_says (Ok Partial) a = begins_passes a.0
      within_says (Err (Syntax at)) a = syntax_says at (ltb at (end - 1)) refl a
      within_says (Err LineTooLong) a = absurd a
      within_says (Err (LiteralTooLong at)) a = let w = long_within at a.0 in (w.0, w.1, over_moved at true a.0 a.1)
      within_says (Err NoMemory) a = tt

-- ---- the answer on the bytes up to the first that is too many, as a function of the program goes

module _ {T A : Type 0} {L : A → List ℕ → Type 0} {r : List ℕ → Result (A × List ℕ) Stop} (side : Speaker) (view : T → A) (p : Reader Closed L r) (lex : Lexed side Plain r) (xs : List ℕ) where
  pub answers_within : (o : Result (T × Bor (List ℕ)) ReadError) (end : ℕ) → limit_from Plain 65536 0 xs ≡ Some end → GivesOr (λ x. (view x.0, x.1.now)) o (r (take end xs)) → Answers side view L xs (within end (answered end o))
  answers_within o end h g =
      let long : length (take end xs) ≡ end = length-take-le end xs (end_le xs end h) in
      within_says xs end h L side view (answered end o)
      (subst (λ (n : ℕ). Unlimited side view L (take end xs) (answered n o)) long (answered_says side view p lex (take end xs) o g))
