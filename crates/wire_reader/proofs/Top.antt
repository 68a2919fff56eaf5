-- What follows from a reader of a language of whole lines, as to what stands at the front of the bytes.
use Rattle.std.proofs.Common.{◌≡◌, ℕ, suc, ◌-◌, ◌≤◌, List, [], ◌∷◌, ◌++◌, length, take, Option, Result, Ok, Err, refl, sym, ap, subst, ◌∙◌, append_assoc, arith}
use Rattle.std.proofs.lemmas.List.{append-nil, length-append, take_at}
use Rattle.wire_reader.specs.declared.stop.Kind.{Kind}
use Rattle.wire_reader.specs.declared.stop.Stop.{Stop}
use Rattle.wire_reader.specs.declared.stop.Stop.TheVariants.{Ends, Fails}
use Rattle.wire_reader.specs.Answers.{Begins, FaultAt, WholeAt, NoneBeginsAnother}
use Rattle.wire_reader.proofs.Parts.{pair_is}
use Rattle.wire_reader.proofs.Reader.{Closed, Reader}

module _ {A : Type 0} {L : A → List ℕ → Type 0} {r : List ℕ → Result (A × List ℕ) Stop} (p : Reader Closed L r) where
  ok_not_err : (x : A × List ℕ) (s : Stop) → (let o : Result (A × List ℕ) Stop = Ok x in o ≡ Err s) → ⊥
  ok_not_err x s h = cc

  pub whole_is : (xs : List ℕ) (a : A) (rest : List ℕ) → r xs ≡ Ok (a, rest) → WholeAt L xs a (length xs - length rest)
  whole_is xs a rest h =
      let t = p.sound xs a rest h in
      let n : length t.text ≡ length xs - length rest = omega (arith, ap length t.parts, length-append t.text rest) in
      let front : take (length xs - length rest) xs ≡ t.text = ap (take (length xs - length rest)) t.parts ∙ take_at t.text rest (length xs - length rest) n in
      record { within = omega arith; spelled = subst (L a) (sym front) t.spelled }

  -- a spelling is read as such
  again : (a : A) (text rest : List ℕ) → L a text → r (text ++ rest) ≡ Ok (a, rest)
  again a text rest l = p.complete a text rest l refl

  pub begins_is : (xs : List ℕ) (w : Option ℕ) → r xs ≡ Err (Ends w) → Begins L xs
  begins_is xs w h = by_more (p.more xs w h).0 (p.more xs w h).1 (p.more xs w h).2
    where
      by_more : (z : List ℕ) (a : A) → L a (xs ++ z) → Begins L xs
      by_more [] a l =
          absurd (ok_not_err (a, []) (Ends w) (sym (again a (xs ++ []) [] l) ∙ ap r (append-nil (xs ++ []) ∙ append-nil xs) ∙ h))
      by_more (c ∷ z) a l = record { more = c ∷ z; value = a; some = omega arith; spelled = l }

  pub fault_is : (xs : List ℕ) (k : Kind) (n : ℕ) → r xs ≡ Err (Fails k n) → FaultAt L xs (length xs - n)
  fault_is xs k n h =
      let b = p.bad xs k n h in
      let at : length b.front ≡ length xs - n = (let l = b.left in omega (arith, ap length b.parts, length-append b.front (b.byte ∷ b.rest))) in
      let front : take (length xs - n) xs ≡ b.front = ap (take (length xs - n)) b.parts ∙ take_at b.front (b.byte ∷ b.rest) (length xs - n) at in
      let regrouped : xs ≡ (b.front ++ b.byte ∷ []) ++ b.rest = b.parts ∙ sym (append_assoc b.front (b.byte ∷ []) b.rest) in
      let with_byte : take (suc (length xs - n)) xs ≡ b.front ++ b.byte ∷ [] =
      ap (take (suc (length xs - n))) regrouped ∙ take_at (b.front ++ b.byte ∷ []) b.rest (suc (length xs - n)) (omega (arith, at, length-append b.front (b.byte ∷ []))) in
      record {
        within = (let l = b.left in omega (arith, ap length b.parts, length-append b.front (b.byte ∷ b.rest)));
        before = subst (Begins L) (sym front) (begins_is b.front b.ends.0 b.ends.1);
        none = λ a more l.
            let one : r (take (suc (length xs - n)) xs ++ more) ≡ Err (Fails k (length (b.byte ∷ more))) =
            ap (λ (f : List ℕ). r (f ++ more)) with_byte ∙ ap r (append_assoc b.front (b.byte ∷ []) more) ∙ b.stays more in
            ok_not_err (a, []) (Fails k (length (b.byte ∷ more))) (sym (again a (take (suc (length xs - n)) xs ++ more) [] l) ∙ ap r (append-nil (take (suc (length xs - n)) xs ++ more)) ∙ one);
      }

  pub none_begins : NoneBeginsAnother L
  none_begins a b s t more l m e =
      let one = again a s more l in
      let two : r (s ++ more) ≡ Ok (b, []) = ap r (e ∙ sym (append-nil t)) ∙ again b t [] m in
      let same : (a, more) ≡ (b, []) = pair_is (a, more) (b, []) (sym one ∙ two) in
      (ap (λ (p : A × List ℕ). p.1) same, ap (λ (p : A × List ℕ). p.0) same)

  pub left_le : (xs : List ℕ) (k : Kind) (n : ℕ) → r xs ≡ Err (Fails k n) → (1 ≤ n) × (n ≤ length xs)
  left_le xs k n h = let b = p.bad xs k n h in let l = b.left in (omega arith, omega (arith, ap length b.parts, length-append b.front (b.byte ∷ b.rest)))
