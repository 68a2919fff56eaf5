-- The marks that a generator gives which counts its words.
use Rattle.std.proofs.Common.{◌≡◌, ◌<◌, ◌+◌, ◌*◌, ◌/◌, ◌%◌, ◌^◌, ◌==◌, ◌∙◌, ℕ, zero, suc, Bool, true, slice_index, ap, refl, sym, subst, arith}
use Rattle.std.proofs.lemmas.Bool.{eq-eqb, eqb-true}
use Rattle.base64.specs.Rfc4648.{encode_symbols}
use Rattle.base64.proofs.Tables.{all_below_at}
use Rattle.rand_core.specs.Steps.{steps_u64_low, stream_of}
use Rattle.rand_core.specs.Stream.{Stream, next_u64}
use Rattle.mailcore.specs.Draws.{after_pair, after_pairs, next_mark}
use Rattle.mailcore.specs.Mark.{SYMBOLS}
use Rattle.worlds.specs.Trial.{MarksAreCounted, is_counted, number_of, trial_step, trial_stream}

-- ---- characters

symbol_number : (k : ℕ) → k < 64 → number_of (slice_index SYMBOLS k) ≡ k
symbol_number k small = eqb-true (number_of (slice_index SYMBOLS k)) k (all_below_at (λ i. number_of (slice_index SYMBOLS i) == i) 64 k refl small)

counts : (first second last a b r : ℕ) → first ≡ a % 256 / 4 → second ≡ a % 256 % 4 * 16 + r → r < 16 → last ≡ b % 256 % 64 → b ≡ (a + 1) % 2 ^ 64
    → (last == (4 * first + second / 16 + 1) % 64) ≡ true
counts first second last a b r p q small t next = eq-eqb last ((4 * first + second / 16 + 1) % 64) (omega (arith, p, q, small, t, next))

-- ---- words

next_counted : (last : ℕ) → is_counted (next_mark (stream_of (steps_u64_low trial_step) last)) ≡ true
unfolding stream_of next_u64 encode_symbols
next_counted last =
    let a : ℕ = (last + 1) % 2 ^ 64 in
    let b : ℕ = (a + 1) % 2 ^ 64 in
    counts _ _ _ a b (a / 256 ^ 1 % 256 / 16) (symbol_number (a % 256 / 4) (omega arith)) (symbol_number (a % 256 % 4 * 16 + a / 256 ^ 1 % 256 / 16) (omega arith)) (omega arith)
    (symbol_number (b % 256 % 64) (omega arith)) refl

after_words : (last : ℕ) → after_pair (stream_of (steps_u64_low trial_step) last) ≡ stream_of (steps_u64_low trial_step) ((trial_step (trial_step last).1).1)
unfolding stream_of next_u64
after_words last = refl

stands : (pairs : ℕ) → (last : ℕ) × (after_pairs trial_stream pairs ≡ stream_of (steps_u64_low trial_step) last)
unfolding after_pairs
stands zero = (0, refl)
stands (suc k) = let at = stands k in ((trial_step (trial_step at.0).1).1, ap after_pair at.1 ∙ after_words at.0)

pub marks_counted : MarksAreCounted
marks_counted pair = let at = stands pair in subst (λ (s : Stream). is_counted (next_mark s) ≡ true) (sym at.1) (next_counted at.0)
