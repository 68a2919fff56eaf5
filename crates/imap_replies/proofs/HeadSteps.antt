-- Where the loop over a head ends at digits.
use Rattle.std.proofs.Common.{◌≡◌, ℕ, ◌+◌, ◌<◌, Bool, true, false, not, cond, List, [], ◌∷◌, ◌++◌, length, get_or, take, drop, Option, None, Result, Ok, Err, refl, sym, ap, ◌∙◌, inl, inr, arith}
use Rattle.std.proofs.lemmas.Bool.{cases_Bool, true≢false, and_parts}
use Rattle.std.proofs.lemmas.List.{length-take-le, drop_more, take-append-drop}
use Rattle.wire_reader.specs.declared.stop.Kind.TheVariants.{Syntax}
use Rattle.wire_reader.specs.declared.stop.Stop.{Stop}
use Rattle.wire_reader.specs.declared.stop.Stop.TheVariants.{Fails}
use Rattle.wire_reader.specs.Spelling.{is_digit}
use Rattle.wire_reader.specs.Machine.{run, run_next, run_end}
use Rattle.wire_reader.proofs.Reader.{Open, stops}
use Rattle.wire_tokens.specs.Atoms.{is_atom_byte}
use Rattle.wire_tokens.specs.Numbers.{number_at}
use Rattle.imap_replies.specs.declared.head.Head.{Head}
use Rattle.imap_replies.specs.declared.head.Head.TheVariants as heads
use Rattle.imap_replies.specs.Heads.{head_go, head_of, is_digits, number_read}
use Rattle.imap_replies.proofs.HeadParts.{head_number, number_of, number_again, digit_atom}

module _ (xs : List ℕ) (i : ℕ) (total : Result (Head × List ℕ) Stop) (pos : i ≡ 0 → ⊥) (in' : i < length xs) (other : is_atom_byte (get_or xs i 0) ≡ false) (reads : run is_atom_byte head_go head_of (take i xs) (drop i xs) ≡ total) (digits : is_digits (take i xs) ≡ true) where
  b : ℕ
  b = get_or xs i 0

  bs : List ℕ
  bs = drop (i + 1) xs

  following : drop i xs ≡ get_or xs i 0 ∷ drop (i + 1) xs
  following = drop_more xs i 0 in'

  abbrev at : Bool → Result (Head × List ℕ) Stop
  at t = cond t (run_next (head_go (take i xs) (get_or xs i 0)) (λ t. run is_atom_byte head_go head_of t (drop (i + 1) xs)) (length (get_or xs i 0 ∷ drop (i + 1) xs))) (run_end (head_of (take i xs)) (get_or xs i 0 ∷ drop (i + 1) xs))

  some : 0 < length (take i xs)
  some = omega (arith, length-take-le i xs (omega (arith, in')), pos)

  ended : total ≡ run_end (number_read (number_at (take i xs ++ 32 ∷ []))) (drop i xs)
  ended =
      sym reads ∙ ap (run is_atom_byte head_go head_of (take i xs)) following ∙ ap at other
      ∙ ap (λ (o : Option Head). run_end o (get_or xs i 0 ∷ drop (i + 1) xs)) (head_number (take i xs) some digits)
      ∙ ap (run_end (number_read (number_at (take i xs ++ 32 ∷ [])))) (sym following)

  no_digit : is_digit (get_or xs i 0) ≡ false
  no_digit = elim (cases_Bool (is_digit (get_or xs i 0))) [
    | inl e ↦ absurd (true≢false (sym (digit_atom (get_or xs i 0) e) ∙ other))
    | inr e ↦ e
  ]

  stop : stops (Open is_digit) (drop i xs) ≡ true
  stop = ap (stops (Open is_digit)) following ∙ ap not no_digit

  whole : take i xs ++ drop i xs ≡ xs
  whole = take-append-drop i xs

  pub number_head : (x : ℕ × List ℕ) → number_at xs ≡ Ok x → total ≡ Ok (heads.Number x.0, drop i xs)
  number_head x h =
      let n = number_of (take i xs) (drop i xs) x (and_parts _ _ digits).1 stop (ap number_at whole ∙ h) in
      ended ∙ ap (λ (o : Result (ℕ × List ℕ) Stop). run_end (number_read o) (drop i xs)) (number_again x.0 (take i xs) (32 ∷ []) n refl)

  none_by : (s : Stop) → number_at xs ≡ Err s → (o : Result (ℕ × List ℕ) Stop) → number_at (take i xs ++ 32 ∷ []) ≡ o → number_read o ≡ None
  none_by s h (Ok x) e =
      let n = number_of (take i xs) (32 ∷ []) x (and_parts _ _ digits).1 refl e in
      absurd (both (sym (number_again x.0 (take i xs) (drop i xs) n stop) ∙ ap number_at whole ∙ h))
    where
      both : (let o : Result (ℕ × List ℕ) Stop = Ok (x.0, drop i xs) in o ≡ Err s) → ⊥
      both h = cc
  none_by s h (Err t) e = refl

  pub number_no : (s : Stop) → number_at xs ≡ Err s → total ≡ Err (Fails Syntax (length (drop i xs)))
  number_no s h =
      ended ∙ ap (λ (o : Option Head). run_end o (drop i xs)) (none_by s h (number_at (take i xs ++ 32 ∷ [])) refl)
      ∙ ap (run_end None) following ∙ sym (ap (λ (ys : List ℕ). let o : Result (Head × List ℕ) Stop = Err (Fails Syntax (length ys)) in o) following)
