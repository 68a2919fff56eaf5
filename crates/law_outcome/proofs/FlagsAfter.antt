-- Flags after a run: taking them over once more changes nothing.
use Rattle.std.proofs.Common.{◌≡◌, ℕ, ◌<◌, ◌^◌, Bool, true, false, cond, refl, sym, ap, ◌∙◌, arith}
use Rattle.std.specs.Int.{bit_at}
use Rattle.std.proofs.lemmas.Nat.Bits.{bit_at-lt, same_from_bits_below}
use Rattle.mailcore.specs.FlagSet.{FLAGS}
use Rattle.mailcore.proofs.FlagRules.{two, eight, each_flag_lt, bit_at-each_flag}
use Rattle.rules.specs.FlagRule.{taken, taken_flag, recorded_after, recorded_flag}
use Rattle.rules.proofs.FlagLemmas.{taken-lt, taken-at}
use Rattle.rules.proofs.FlagLemmas.{recorded_small}

-- ---- the flag of a rule

recorded-lt : (pull push : Bool) (s n r : ℕ) → recorded_after pull push s n r < 2 ^ FLAGS
unfolding recorded_after
recorded-lt pull push s n r = each_flag_lt (recorded_flag pull push) (recorded_small pull push) FLAGS s n r

recorded-at : (pull push : Bool) (s n r i : ℕ) → i < FLAGS → bit_at (recorded_after pull push s n r) i ≡ recorded_flag pull push (bit_at s i) (bit_at n i) (bit_at r i)
unfolding recorded_after
recorded-at pull push s n r i h = bit_at-each_flag (recorded_flag pull push) (recorded_small pull push) FLAGS s n r i h

-- the target's flags after, where its direction may be off
abbrev pub taken_if : Bool → (source target recorded : ℕ) → ℕ
taken_if on s t r = cond on (taken s t r) t

abbrev flag_if : Bool → (source target recorded : ℕ) → ℕ
flag_if on s t r = cond on (taken_flag s t r) t

taken_if-at : (on : Bool) (s t r i : ℕ) → i < FLAGS → bit_at (taken_if on s t r) i ≡ flag_if on (bit_at s i) (bit_at t i) (bit_at r i)
taken_if-at true s t r i h = taken-at s t r i h
taken_if-at false s t r i h = refl

-- ---- a single flag of an old pair

-- the near one, pulled once more
near_flag : (push : Bool) → (x y z : ℕ) → x < 2 → y < 2 → z < 2 → taken_flag (flag_if push y x z) (taken_flag x y z) (recorded_flag true push x y z) ≡ taken_flag x y z
near_flag true = eight (λ x y z. taken_flag (flag_if true y x z) (taken_flag x y z) (recorded_flag true true x y z) ≡ taken_flag x y z) refl refl refl refl refl refl refl refl
near_flag false = eight (λ x y z. taken_flag (flag_if false y x z) (taken_flag x y z) (recorded_flag true false x y z) ≡ taken_flag x y z) refl refl refl refl refl refl refl refl

-- the far one, pushed once more
far_flag : (pull : Bool) → (x y z : ℕ) → x < 2 → y < 2 → z < 2 → taken_flag (flag_if pull x y z) (taken_flag y x z) (recorded_flag pull true x y z) ≡ taken_flag y x z
far_flag true = eight (λ x y z. taken_flag (flag_if true x y z) (taken_flag y x z) (recorded_flag true true x y z) ≡ taken_flag y x z) refl refl refl refl refl refl refl refl
far_flag false = eight (λ x y z. taken_flag (flag_if false x y z) (taken_flag y x z) (recorded_flag false true x y z) ≡ taken_flag y x z) refl refl refl refl refl refl refl refl

-- the recorded one, recorded once more
noted_flag : (pull push : Bool) → (x y z : ℕ) → x < 2 → y < 2 → z < 2 → recorded_flag pull push (flag_if push y x z) (flag_if pull x y z) (recorded_flag pull push x y z) ≡ recorded_flag pull push x y z
noted_flag true true = eight (λ x y z. recorded_flag true true (flag_if true y x z) (flag_if true x y z) (recorded_flag true true x y z) ≡ recorded_flag true true x y z) refl refl refl refl refl refl refl refl
noted_flag true false = eight (λ x y z. recorded_flag true false (flag_if false y x z) (flag_if true x y z) (recorded_flag true false x y z) ≡ recorded_flag true false x y z) refl refl refl refl refl refl refl refl
noted_flag false true = eight (λ x y z. recorded_flag false true (flag_if true y x z) (flag_if false x y z) (recorded_flag false true x y z) ≡ recorded_flag false true x y z) refl refl refl refl refl refl refl refl
noted_flag false false = eight (λ x y z. recorded_flag false false (flag_if false y x z) (flag_if false x y z) (recorded_flag false false x y z) ≡ recorded_flag false false x y z) refl refl refl refl refl refl refl refl

-- ---- the sets

-- flags of both sides and the recorded ones, of which nothing is taken over and nothing recorded
pub record AreSettled (pull push : Bool) (far near noted : ℕ) : Type 0 where
  pub pulled : pull ≡ true → taken far near noted ≡ near
  pub pushed : push ≡ true → taken near far noted ≡ far
  pub kept : recorded_after pull push far near noted ≡ noted

taken_bits : (s t r w : ℕ) → w < 2 ^ FLAGS → ((i : ℕ) → i < FLAGS → taken_flag (bit_at s i) (bit_at t i) (bit_at r i) ≡ bit_at w i) → taken s t r ≡ w
taken_bits s t r w h e = same_from_bits_below FLAGS (taken s t r) w (taken-lt s t r) h (λ i k. taken-at s t r i k ∙ e i k)

near_kept : (push : Bool) (s n r : ℕ) → taken (taken_if push n s r) (taken s n r) (recorded_after true push s n r) ≡ taken s n r
near_kept push s n r =
    taken_bits _ _ _ (taken s n r) (taken-lt s n r)
    (λ i h. ap (λ x. taken_flag x (bit_at (taken s n r) i) (bit_at (recorded_after true push s n r) i)) (taken_if-at push n s r i h)
    ∙ ap (λ x. taken_flag (flag_if push (bit_at n i) (bit_at s i) (bit_at r i)) x (bit_at (recorded_after true push s n r) i)) (taken-at s n r i h)
    ∙ ap (λ x. taken_flag (flag_if push (bit_at n i) (bit_at s i) (bit_at r i)) (taken_flag (bit_at s i) (bit_at n i) (bit_at r i)) x) (recorded-at true push s n r i h)
    ∙ near_flag push (bit_at s i) (bit_at n i) (bit_at r i) (bit_at-lt s i) (bit_at-lt n i) (bit_at-lt r i)
    ∙ sym (taken-at s n r i h))

far_kept : (pull : Bool) (s n r : ℕ) → taken (taken_if pull s n r) (taken n s r) (recorded_after pull true s n r) ≡ taken n s r
far_kept pull s n r =
    taken_bits _ _ _ (taken n s r) (taken-lt n s r)
    (λ i h. ap (λ x. taken_flag x (bit_at (taken n s r) i) (bit_at (recorded_after pull true s n r) i)) (taken_if-at pull s n r i h)
    ∙ ap (λ x. taken_flag (flag_if pull (bit_at s i) (bit_at n i) (bit_at r i)) x (bit_at (recorded_after pull true s n r) i)) (taken-at n s r i h)
    ∙ ap (λ x. taken_flag (flag_if pull (bit_at s i) (bit_at n i) (bit_at r i)) (taken_flag (bit_at n i) (bit_at s i) (bit_at r i)) x) (recorded-at pull true s n r i h)
    ∙ far_flag pull (bit_at s i) (bit_at n i) (bit_at r i) (bit_at-lt s i) (bit_at-lt n i) (bit_at-lt r i)
    ∙ sym (taken-at n s r i h))

noted_kept : (pull push : Bool) (s n r : ℕ) → recorded_after pull push (taken_if push n s r) (taken_if pull s n r) (recorded_after pull push s n r) ≡ recorded_after pull push s n r
noted_kept pull push s n r =
    let noted : ℕ = recorded_after pull push s n r in
    same_from_bits_below FLAGS _ noted (recorded-lt pull push _ _ _) (recorded-lt pull push s n r)
    (λ i h. recorded-at pull push (taken_if push n s r) (taken_if pull s n r) noted i h
    ∙ ap (λ x. recorded_flag pull push x (bit_at (taken_if pull s n r) i) (bit_at noted i)) (taken_if-at push n s r i h)
    ∙ ap (λ x. recorded_flag pull push (flag_if push (bit_at n i) (bit_at s i) (bit_at r i)) x (bit_at noted i)) (taken_if-at pull s n r i h)
    ∙ ap (λ x. recorded_flag pull push (flag_if push (bit_at n i) (bit_at s i) (bit_at r i)) (flag_if pull (bit_at s i) (bit_at n i) (bit_at r i)) x) (recorded-at pull push s n r i h)
    ∙ noted_flag pull push (bit_at s i) (bit_at n i) (bit_at r i) (bit_at-lt s i) (bit_at-lt n i) (bit_at-lt r i)
    ∙ sym (recorded-at pull push s n r i h))

-- an old pair after the run
pub old_settled : (pull push : Bool) (s n r : ℕ) → AreSettled pull push (taken_if push n s r) (taken_if pull s n r) (recorded_after pull push s n r)
old_settled pull push s n r = record {
  pulled = λ e. by_pull pull e;
  pushed = λ e. by_push push e;
  kept = noted_kept pull push s n r;
}
  where
    by_pull : (pull : Bool) → pull ≡ true → taken (taken_if push n s r) (taken_if pull s n r) (recorded_after pull push s n r) ≡ taken_if pull s n r
    by_pull pull e = rw e (near_kept push s n r)

    by_push : (push : Bool) → push ≡ true → taken (taken_if pull s n r) (taken_if push n s r) (recorded_after pull push s n r) ≡ taken_if push n s r
    by_push push e = rw e (far_kept pull s n r)

-- ---- a new pair: the flags are the same on both sides, and are recorded

same_taken : (a : ℕ) → a < 2 ^ FLAGS → taken a a a ≡ a
same_taken a h = taken_bits a a a a h (λ i k. two (λ x. taken_flag x x x ≡ x) refl refl (bit_at a i) (bit_at-lt a i))

same_flag : (pull push : Bool) (x : ℕ) → x < 2 → recorded_flag pull push x x x ≡ x
same_flag true true = two (λ x. recorded_flag true true x x x ≡ x) refl refl
same_flag true false = two (λ x. recorded_flag true false x x x ≡ x) refl refl
same_flag false true = two (λ x. recorded_flag false true x x x ≡ x) refl refl
same_flag false false = two (λ x. recorded_flag false false x x x ≡ x) refl refl

same_noted : (pull push : Bool) (a : ℕ) → a < 2 ^ FLAGS → recorded_after pull push a a a ≡ a
same_noted pull push a h =
    same_from_bits_below FLAGS (recorded_after pull push a a a) a (recorded-lt pull push a a a) h
    (λ i k. recorded-at pull push a a a i k ∙ same_flag pull push (bit_at a i) (bit_at-lt a i))

pub alike_settled : (pull push : Bool) (a : ℕ) → a < 2 ^ FLAGS → AreSettled pull push a a a
alike_settled pull push a h = record { pulled = λ _. same_taken a h; pushed = λ _. same_taken a h; kept = same_noted pull push a h }
