use Rattle.std.proofs.Common.{◌≡◌, sym, ◌∙◌, ap, length, drop, get_or, ℕ, ◌+◌, ◌<◌, ◌≤◌, Bool, true, false, List, ◌∷◌, arith, add-one, drop-cons}
use Rattle.std.specs.Prelude.{if◌then◌else◌}
use Rattle.std.proofs.lemmas.Bool.{ne_eqb}
use Rattle.wire_strings.specs.Quotes.{unescaped_from, unescaped}
use Rattle.imap_answers.proofs.marks.value_len.Goals.{then-not-after_slash+then-b-eq92, else-not-after_slash, else-not-after_slash-via-then-not-after_slash+else-b-eq92, else-not-after_slash-via-else-not-after_slash}
use Rattle.imap_answers.proofs.marks.value_len.Goals as goal

escapes : (b : ℕ) (bs : List ℕ) → b ≡ 92 → unescaped_from false (b ∷ bs) ≡ unescaped_from true bs
escapes b bs e = ap (λ (x : ℕ). unescaped_from false (x ∷ bs)) e

stands : (b : ℕ) (bs : List ℕ) → (b ≡ 92 → ⊥) → unescaped_from false (b ∷ bs) ≡ b ∷ unescaped_from false bs
stands b bs n = ap (λ (t : Bool). if t then unescaped_from true bs else b ∷ unescaped_from false bs) (ne_eqb b 92 n)

-- a byte more was counted or not
module _ (raw : List ℕ) (i count now : ℕ) (old new : Bool) (lt : i < length raw) (so_far : (count ≤ i) × (count + length (unescaped_from old (drop i raw)) ≡ length (unescaped raw))) where
  parts : drop i raw ≡ get_or raw i 0 ∷ drop (i + 1) raw
  parts = drop-cons raw i 0 lt ∙ ap (λ (n : ℕ). get_or raw i 0 ∷ drop n raw) (sym (add-one i))

  with_one : (k : ℕ) → length (unescaped_from old (get_or raw i 0 ∷ drop (i + 1) raw)) ≡ k + length (unescaped_from new (drop (i + 1) raw)) → k ≤ 1 → now ≡ count + k
      → (now ≤ i + 1) × (now + length (unescaped_from new (drop (i + 1) raw)) ≡ length (unescaped raw))
  with_one k e h is =
      let whole = ap (λ (l : List ℕ). length (unescaped_from old l)) parts in
      let low = so_far.0 in
      let sum = so_far.1 in
      (omega (arith, low, is, h), omega (arith, whole, e, sum, is))

  none_counted : old ≡ false → get_or raw i 0 ≡ 92 → new ≡ true → now ≡ count → (now ≤ i + 1) × (now + length (unescaped_from new (drop (i + 1) raw)) ≡ length (unescaped raw))
  none_counted o b n is =
      let none : length (unescaped_from new (drop (i + 1) raw)) ≡ 0 + length (unescaped_from new (drop (i + 1) raw)) = omega arith in
      with_one 0
      (ap (λ (s : Bool). length (unescaped_from s (get_or raw i 0 ∷ drop (i + 1) raw))) o ∙ ap length (escapes (get_or raw i 0) (drop (i + 1) raw) b)
      ∙ ap (λ (s : Bool). length (unescaped_from s (drop (i + 1) raw))) (sym n) ∙ none) (omega arith) (omega (arith, is))

  plain_counted : old ≡ false → (get_or raw i 0 ≡ 92 → ⊥) → new ≡ false → now ≡ count + 1 → (now ≤ i + 1) × (now + length (unescaped_from new (drop (i + 1) raw)) ≡ length (unescaped raw))
  plain_counted o b n is =
      let long : length (get_or raw i 0 ∷ unescaped_from false (drop (i + 1) raw)) ≡ 1 + length (unescaped_from false (drop (i + 1) raw)) = omega arith in
      with_one 1
      (ap (λ (s : Bool). length (unescaped_from s (get_or raw i 0 ∷ drop (i + 1) raw))) o ∙ ap length (stands (get_or raw i 0) (drop (i + 1) raw) b) ∙ long
      ∙ ap (λ (s : Bool). 1 + length (unescaped_from s (drop (i + 1) raw))) (sym n)) (omega arith) is

  escaped_counted : old ≡ true → new ≡ false → now ≡ count + 1 → (now ≤ i + 1) × (now + length (unescaped_from new (drop (i + 1) raw)) ≡ length (unescaped raw))
  escaped_counted o n is =
      let long : length (get_or raw i 0 ∷ unescaped_from false (drop (i + 1) raw)) ≡ 1 + length (unescaped_from false (drop (i + 1) raw)) = omega arith in
      with_one 1
      (ap (λ (s : Bool). length (unescaped_from s (get_or raw i 0 ∷ drop (i + 1) raw))) o ∙ long
      ∙ ap (λ (s : Bool). 1 + length (unescaped_from s (drop (i + 1) raw))) (sym n)) (omega arith) is

pub loop-b-preserved : goal.loop-b-preserved
loop-b-preserved c =
    let raw = c.args.raw.now in
    let i = c.loop-b.b-index in
    let count = c.loop-b.count in
    let now = c.if-not-after_slash.count in
    let old = c.loop-b.after_slash in
    let new = c.if-not-after_slash.after_slash in
    elim c.if-not-after_slash.branch [
      | then-not-after_slash+then-b-eq92 w ↦ none_counted raw i count now old new c.loop-b-test.true c.loop-b.invariant w.if-not-after_slash.true w.if-b-eq92.true w.after_slash-is w.count-is
      | else-not-after_slash w ↦
          elim w.else-not-after_slash.branch [
            | else-not-after_slash-via-then-not-after_slash+else-b-eq92 v ↦ plain_counted raw i count now old new c.loop-b-test.true c.loop-b.invariant v.if-not-after_slash.true v.if-b-eq92.false w.after_slash-is w.count-is
            | else-not-after_slash-via-else-not-after_slash v ↦ escaped_counted raw i count now old new c.loop-b-test.true c.loop-b.invariant v.if-not-after_slash.false w.after_slash-is w.count-is
          ]
    ]
