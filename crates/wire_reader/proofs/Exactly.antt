-- A spelling that stands at the front is the answer, and where the bytes begin a longer one more is asked for: this
-- follows from what the answers say and the law that no spelling begins another.
use Rattle.std.proofs.Common.{◌≡◌, ℕ, suc, ◌≤◌, List, ◌++◌, length, take, drop, Result, Ok, Err, sym, ap, subst, ◌∙◌, append_assoc, inl, inr, arith}
use Rattle.std.proofs.lemmas.Bool.{cases_lt}
use Rattle.std.proofs.lemmas.List.{take-append-drop, take-take, take_all, length-take, length-drop, length-append}
use Rattle.wire_reader.specs.declared.side.Speaker.{Speaker}
use Rattle.wire_reader.specs.declared.lexical.Phase.TheVariants.{Plain}
use Rattle.wire_reader.specs.Lexical.{outside}
use Rattle.wire_reader.specs.declared.answer.Read.{Read}
use Rattle.wire_reader.specs.declared.answer.Read.TheVariants.{Whole, WantsLiteral, Partial}
use Rattle.wire_reader.specs.declared.answer.WireFault.{WireFault}
use Rattle.wire_reader.specs.declared.answer.WireFault.TheVariants.{Syntax, LineTooLong, LiteralTooLong, NoMemory}
use Rattle.wire_reader.specs.Answers.{Begins, NoneBegins, FaultAt, WholeAt, Answers, Takes, TakesEach, WaitsForMore, NoneBeginsAnother}
use Rattle.wire_reader.proofs.Limits.{outside_le}

-- a front of a front, and what is between
split : (xs : List ℕ) (i j : ℕ) → i ≤ j → take i xs ++ drop i (take j xs) ≡ take j xs
split xs i j le = ap (λ (y : List ℕ). y ++ drop i (take j xs)) (sym (take-take i j xs le)) ∙ take-append-drop i (take j xs)

module _ {A : Type 0} {L : A → List ℕ → Type 0} (law : NoneBeginsAnother L) (xs : List ℕ) where
  module _ (value : A) (used : ℕ) (w : WholeAt L xs value used) where
    -- what begins a longer spelling ends before a whole one
    before : (at : ℕ) → Begins L (take at xs) → used ≤ at → ⊥
    before at b le =
        let whole : take used xs ++ (drop used (take at xs) ++ b.more) ≡ take at xs ++ b.more =
        sym (append_assoc (take used xs) (drop used (take at xs)) b.more) ∙ ap (λ (y : List ℕ). y ++ b.more) (split xs used at le) in
        let none = (law value b.value (take used xs) (take at xs ++ b.more) (drop used (take at xs) ++ b.more) w.spelled b.spelled whole).0 in
        let s = b.some in
        omega (arith, ap length none, length-append (drop used (take at xs)) b.more)

    past : (at : ℕ) → NoneBegins L (take (suc at) xs) → suc at ≤ used → ⊥
    past at n le = n value (drop (suc at) (take used xs)) (subst (L value) (sym (split xs (suc at) used le)) w.spelled)

    fault : (at : ℕ) → FaultAt L xs at → ⊥
    fault at f = elim (cases_lt at used) [ inl lt ↦ past at f.none (omega (arith, lt)) | inr le ↦ before at f.before le ]

    all_begin : Begins L xs → ⊥
    all_begin b =
        let e : take (length xs) xs ≡ xs = take_all (length xs) xs (omega arith) in
        let i = w.within in
        before (length xs) (subst (Begins L) (sym e) b) (omega arith)

    other : (a : A) (n : ℕ) → WholeAt L xs a n → (a ≡ value) × (n ≡ used)
    other a n v = elim (cases_lt n used) [
      | inl lt ↦
          let r = law a value (take n xs) (take used xs) (drop n (take used xs)) v.spelled w.spelled (split xs n used (omega (arith, lt))) in
          let i = w.within in
          absurd (omega (arith, ap length r.0, lt, length-drop n (take used xs), length-take used xs))
      | inr le ↦
          let r = law value a (take used xs) (take n xs) (drop used (take n xs)) w.spelled v.spelled (split xs used n le) in
          let i = v.within in
          (sym r.1, omega (arith, ap length r.0, le, length-drop used (take n xs), length-take n xs))
    ]

  module _ {T : Type 0} (side : Speaker) (view : T → A) where
    takes_one : (value : A) (used : ℕ) → WholeAt L xs value used → outside (take used xs) ≤ 65536 → (o : Result (Read T) WireFault) → Answers side view L xs o → Takes view value used o
    takes_one value used w fits (Ok (Whole v n)) a = other value used w (view v) n a.0
    takes_one value used w fits (Ok (WantsLiteral n)) a = all_begin value used w a.0
    takes_one value used w fits (Ok Partial) a = all_begin value used w a.0
    takes_one value used w fits (Err (Syntax at)) a = fault value used w at a.0
    takes_one value used w fits (Err LineTooLong) a = elim (cases_lt a.at used) [
      | inl lt ↦ let m = outside_le xs Plain (suc a.at) used (omega (arith, lt)) in let p = a.passes in omega (arith, m, p, fits)
      | inr le ↦ before value used w a.at a.before le
    ]
    takes_one value used w fits (Err (LiteralTooLong at)) a = fault value used w at a.0
    takes_one value used w fits (Err NoMemory) a = tt

    pub takes : (o : Result (Read T) WireFault) → Answers side view L xs o → TakesEach view L xs o
    takes o a = λ value used w fits. takes_one value used w fits o a

    -- no fault stands in the beginning of a spelling
    no_fault : Begins L xs → (at : ℕ) → FaultAt L xs at → ⊥
    no_fault b at f = f.none b.value (drop (suc at) xs ++ b.more) (subst (L b.value) (ap (λ (y : List ℕ). y ++ b.more) (sym (take-append-drop (suc at) xs)) ∙ append_assoc (take (suc at) xs) (drop (suc at) xs) b.more) b.spelled)

    pub waits_for_more : (o : Result (Read T) WireFault) → Answers side view L xs o → WaitsForMore L xs o
    waits_for_more (Ok (Whole v n)) a b fits = all_begin (view v) n a.0 b
    waits_for_more (Ok (WantsLiteral n)) a b fits = tt
    waits_for_more (Ok Partial) a b fits = tt
    waits_for_more (Err (Syntax at)) a b fits = no_fault b at a.0
    waits_for_more (Err LineTooLong) a b fits =
        let m = outside_le xs Plain (suc a.at) (length xs) (let w = a.within in omega arith) in
        let e : outside (take (length xs) xs) ≡ outside xs = ap outside (take_all (length xs) xs (omega arith)) in
        let p = a.passes in
        omega (arith, m, e, p, fits)
    waits_for_more (Err (LiteralTooLong at)) a b fits = no_fault b at a.0
    waits_for_more (Err NoMemory) a b fits = tt
