-- A drawing, a draw at a time.
use Rattle.std.proofs.Common.{◌≡◌, ◌≢◌, ℕ, suc, ◌+◌, ◌-◌, ◌<◌, ◌≤◌, true, false, List, [], ◌∷◌, ◌++◌, length, refl, sym, ap, ◌∙◌, arith, inl, inr, add-one, length-append}
use Rattle.std.proofs.lemmas.Bool.{both_ways, cases_lt}
use Rattle.std.proofs.Math.Nat.{add-suc}
use Rattle.std.specs.List.{All, AllPairs}
use Rattle.rand_core.specs.Stream.{Stream}
use Rattle.mailcore.specs.Draws.{RUN_LENGTH, after_pair, after_pairs, mark_at, next_mark, is_listed, is_repeat, firsts, IsRepeatRun, Draws, Repeats, GivesListed, GivesNew}
use Rattle.mailcore.proofs.PairLemmas.{after_pairs-add, mark_at-add, firsts-repeat, firsts-new, firsts-repeats, repeats-listed, is_repeat-firsts, length-firsts-mono, All-firsts, AllPairs-firsts}
use Rattle.mailcore.specs.Mark.{IsMark}

-- before the first draw
pub GivesListed-none : (s : Stream) (listed : List (List ℕ)) → GivesListed s listed 0 s
unfolding after_pairs
GivesListed-none s listed = record { are_listed = λ j below. absurd (omega arith); is_rest = refl }

-- one more draw that is listed
pub GivesListed-more : (s r rest : Stream) (listed : List (List ℕ)) (mark : List ℕ) (n : ℕ) → GivesListed s listed n r
    → mark ≡ next_mark r → is_listed listed mark ≡ true → rest ≡ after_pair r → GivesListed s listed (n + 1) rest
unfolding after_pairs
GivesListed-more s r rest listed mark n so_far is_mark again moved =
    let here : mark_at s n ≡ mark = ap next_mark (sym so_far.is_rest) ∙ sym is_mark in
    record {
      are_listed = λ j below. elim (cases_lt j n) [
        | inl less ↦ so_far.are_listed j less
        | inr last ↦
            let e : j ≡ n = omega arith in
            rw (e, here) again
      ];
      is_rest = rw (add-one n) (moved ∙ ap after_pair so_far.is_rest);
    }

-- a draw that is not listed
pub GivesNew-after : (s r rest : Stream) (listed : List (List ℕ)) (mark : List ℕ) (n : ℕ) → GivesListed s listed n r → n < RUN_LENGTH
    → mark ≡ next_mark r → is_listed listed mark ≡ false → rest ≡ after_pair r → GivesNew s listed mark rest
unfolding after_pairs
GivesNew-after s r rest listed mark n so_far few is_mark new moved = record {
  skipped = n;
  are_few = few;
  are_listed = so_far.are_listed;
  is_next = is_mark ∙ ap next_mark so_far.is_rest;
  is_new = new;
  is_rest = moved ∙ ap after_pair so_far.is_rest;
}

-- the last pair of a drawing gave a new mark
last_is_new : (s : Stream) (count : ℕ) (marks : List (List ℕ)) (drawn : Draws s count marks) (k : ℕ) → drawn.pairs ≡ suc k → is_repeat s k ≡ true → ⊥
last_is_new s count marks drawn k last repeat =
    let fewer : length (firsts s k) < count = drawn.are_needed k (omega arith) in
    let same : firsts s drawn.pairs ≡ firsts s k = rw last (firsts-repeat s k repeat) in
    let all : length (firsts s k) ≡ count = ap length (sym (drawn.are_firsts ∙ same)) ∙ drawn.are_all in
    omega arith

-- no run of repeats begins before the end of a drawing
no_earlier_run : (s : Stream) (count : ℕ) (marks : List (List ℕ)) (drawn : Draws s count marks) (k : ℕ) → k < drawn.pairs → ¬ IsRepeatRun s k
no_earlier_run s count marks drawn k before run = elim (cases_lt drawn.pairs (k + RUN_LENGTH)) [
  | inl over ↦
      let last : ℕ = drawn.pairs - 1 in
      let at : k + (last - k) ≡ last = omega arith in
      let repeat : is_repeat s last ≡ true = rw at at (run (last - k) (omega arith)) in
      last_is_new s count marks drawn last (omega arith) repeat
  | inr within ↦ drawn.has_no_run k within run
]

-- nothing is drawn yet
pub Draws-none : (s : Stream) → (drawn : Draws s 0 []) × (s ≡ after_pairs s drawn.pairs)
unfolding after_pairs firsts
Draws-none s = (
  record {
    pairs = 0;
    are_firsts = refl;
    are_all = refl;
    are_needed = λ k below. absurd (omega arith);
    has_no_run = λ k within. absurd (omega arith);
  },
  refl,
)

-- the pairs after a drawing that give its marks again are repeats
then_repeats : (s : Stream) (marks : List (List ℕ)) (pairs n : ℕ) → marks ≡ firsts s pairs
    → ((j : ℕ) → j < n → is_listed marks (mark_at (after_pairs s pairs) j) ≡ true) → (j : ℕ) → j < n → is_repeat s (pairs + j) ≡ true
then_repeats s marks pairs n are_firsts listed = repeats-listed s pairs n (λ j below. rw (← are_firsts) (listed j below))

-- one more mark
pub Draws-more : (s from rest : Stream) (count : ℕ) (marks : List (List ℕ)) (mark : List ℕ) (drawn : Draws s count marks) → from ≡ after_pairs s drawn.pairs
    → GivesNew from marks mark rest → (more : Draws s (count + 1) (marks ++ mark ∷ [])) × (rest ≡ after_pairs s more.pairs)
Draws-more s from rest count marks mark drawn is_from gives =
    let pairs : ℕ = drawn.pairs in
    let n : ℕ = gives.skipped in
    let repeats : (j : ℕ) → j < n → is_repeat s (pairs + j) ≡ true =
    then_repeats s marks pairs n drawn.are_firsts (λ j below. rw (← is_from) (gives.are_listed j below)) in
    let mark_is : mark_at s (pairs + n) ≡ mark = mark_at-add s pairs n ∙ rw (← is_from) (sym gives.is_next) in
    let kept : firsts s (pairs + n) ≡ marks = firsts-repeats s pairs n repeats ∙ sym drawn.are_firsts in
    let new : is_repeat s (pairs + n) ≡ false = is_repeat-firsts s (pairs + n) ∙ rw (kept, mark_is) gives.is_new in
    let all : firsts s (suc (pairs + n)) ≡ marks ++ mark ∷ [] = firsts-new s (pairs + n) new ∙ rw (kept, mark_is) refl in (
      record {
        pairs = suc (pairs + n);
        are_firsts = sym all;
        are_all = omega (arith, length-append marks (mark ∷ []), drawn.are_all);
        are_needed = λ k below. omega (arith, length-firsts-mono s k (pairs + n) (omega arith), ap length kept, drawn.are_all);
        has_no_run = λ k within run. elim (cases_lt k pairs) [
          | inl before ↦ no_earlier_run s count marks drawn k before run
          | inr from_here ↦
              let few : n < RUN_LENGTH = gives.are_few in
              let e : k ≡ pairs = omega arith in
              let again : is_repeat s (pairs + n) ≡ true = rw e at (run n few) in
              both_ways _ new again
        ];
      },
      gives.is_rest ∙ ap (λ t. after_pairs t (suc n)) is_from ∙ sym (after_pairs-add s pairs (suc n)) ∙ ap (λ k. after_pairs s k) (add-suc pairs n),
    )

-- a run of repeats in place of one more mark
pub Repeats-after : (s from rest : Stream) (found count : ℕ) (marks : List (List ℕ)) (drawn : Draws s found marks) → found < count
    → from ≡ after_pairs s drawn.pairs → GivesListed from marks RUN_LENGTH rest
    → (repeats : Repeats s count) × (rest ≡ after_pairs s (repeats.pairs + RUN_LENGTH))
Repeats-after s from rest found count marks drawn fewer is_from gives = (
  record {
    pairs = drawn.pairs;
    are_few = rw (← drawn.are_firsts, drawn.are_all) fewer;
    then_run = then_repeats s marks drawn.pairs RUN_LENGTH drawn.are_firsts (λ j below. rw (← is_from) (gives.are_listed j below));
    is_first = no_earlier_run s found marks drawn;
  },
  gives.is_rest ∙ ap (λ t. after_pairs t RUN_LENGTH) is_from ∙ sym (after_pairs-add s drawn.pairs RUN_LENGTH),
)

-- marks are not both drawn and ended by a run of repeats
pub Draws-not-Repeats : (s : Stream) (count : ℕ) (marks : List (List ℕ)) → Draws s count marks → Repeats s count → ⊥
Draws-not-Repeats s count marks drawn repeats = elim (cases_lt drawn.pairs (repeats.pairs + RUN_LENGTH)) [
  | inl within ↦
      let none : firsts s (repeats.pairs + RUN_LENGTH) ≡ firsts s repeats.pairs = firsts-repeats s repeats.pairs RUN_LENGTH repeats.then_run in
      let fewer : length (firsts s drawn.pairs) ≤ length (firsts s repeats.pairs) =
      rw none at (length-firsts-mono s drawn.pairs (repeats.pairs + RUN_LENGTH) (omega arith)) in
      let all : length (firsts s drawn.pairs) ≡ count = ap length (sym drawn.are_firsts) ∙ drawn.are_all in
      omega (arith, repeats.are_few)
  | inr past ↦ drawn.has_no_run repeats.pairs past repeats.then_run
]

-- the pairs of one drawing are no fewer than those of another
no_fewer : (s : Stream) (count : ℕ) (one other : List (List ℕ)) (a : Draws s count one) (b : Draws s count other) → a.pairs ≤ b.pairs
no_fewer s count one other a b = elim (cases_lt b.pairs a.pairs) [
  | inl less ↦
      let fewer : length (firsts s b.pairs) < count = a.are_needed b.pairs less in
      let all : length (firsts s b.pairs) ≡ count = ap length (sym b.are_firsts) ∙ b.are_all in
      omega arith
  | inr enough ↦ enough
]

-- a generator gives one list of so many marks
pub Draws-unique : (s : Stream) (count : ℕ) (one other : List (List ℕ)) → Draws s count one → Draws s count other → one ≡ other
Draws-unique s count one other a b =
    let same : a.pairs ≡ b.pairs = omega (arith, no_fewer s count one other a b, no_fewer s count other one b a) in
    a.are_firsts ∙ rw same (sym b.are_firsts)

-- the drawn marks are distinct
pub AllPairs-Draws : (s : Stream) (count : ℕ) (marks : List (List ℕ)) → Draws s count marks → AllPairs (λ one other. one ≢ other) marks
AllPairs-Draws s count marks drawn = rw drawn.are_firsts (AllPairs-firsts s drawn.pairs)

-- the drawn marks are marks
pub All-Draws : (s : Stream) (count : ℕ) (marks : List (List ℕ)) → Draws s count marks → All IsMark marks
All-Draws s count marks drawn = rw drawn.are_firsts (All-firsts s drawn.pairs)
