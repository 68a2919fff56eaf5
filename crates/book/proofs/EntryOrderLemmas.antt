-- A list of entries, or of pairs, that is sorted.
use Rattle.std.proofs.Common.{◌≡◌, ℕ, ◌<◌, ◌≤◌, false, List, get_or, Ordering, refl, arith}
use Rattle.std.specs.Prelude.{AllPairs}
use Rattle.std.specs.declared.cmp.Ordering.TheVariants.{Less, Equal, Greater}
use Rattle.std.specs.Ordering.{MatchOrdering, nat_cmp, ordering_then, is_lt}
use Rattle.std.specs.Cmp.{IsTotalOrder}
use Rattle.std.specs.Fn.{Called, ComputesKey}
use Rattle.std.specs.List.Sorted.{IsSortedByKey}
use Rattle.std.proofs.lemmas.Bool.{true≢false}
use Rattle.std.proofs.lemmas.Cmp.{ranked, nat_cmp_total, on_total, then_total}
use Rattle.std.proofs.lemmas.Fn.{always_returns_same}
use Rattle.std.proofs.lemmas.List.Sorted.{ranks_by, sorted_far}
use denote.Param.Members.{Mut}
use denote.Ref.{Bor}
use Rattle.mailcore.specs.declared.side.Side.TheVariants.{Far, Near}
use Rattle.rules.specs.declared.entry.Entry.{Entry}
use Rattle.rules.specs.Entries.{uid_of}
use Rattle.book.specs.EntryOrders.{IsNotAfter}

abbrev NotAfter : ℕ × ℕ → ℕ × ℕ → Type 0
NotAfter a b = (a.0 ≤ b.0) × (a.0 ≡ b.0 → a.1 ≤ b.1)

abbrev by_both : ℕ × ℕ → ℕ × ℕ → Ordering
by_both a b = ordering_then (nat_cmp a.0 b.0) (nat_cmp a.1 b.1)

by_both_total : IsTotalOrder by_both
by_both_total = then_total (on_total (λ (p : ℕ × ℕ). p.0) nat_cmp_total) (on_total (λ (p : ℕ × ℕ). p.1) nat_cmp_total)

no_less : (o p : Ordering) (x y u v : ℕ) → MatchOrdering o (x < y) (x ≡ y) (y < x) → MatchOrdering p (u < v) (u ≡ v) (v < u) → is_lt (ordering_then o p) ≡ false
    → (y ≤ x) × (y ≡ x → v ≤ u)
no_less Less p x y u v a b h = absurd (true≢false h)
no_less Equal Less x y u v a b h = absurd (true≢false h)
no_less Equal Equal x y u v a b h = (omega (arith, a), λ _. omega (arith, b))
no_less Equal Greater x y u v a b h = (omega (arith, a), λ _. omega (arith, b))
no_less Greater p x y u v a b h = (omega (arith, a), λ e. absurd (omega (arith, a, e)))

not_after : (a b : ℕ × ℕ) → is_lt (by_both b a) ≡ false → NotAfter a b
not_after (x, u) (y, v) h = no_less (nat_cmp y x) (nat_cmp v u) y x v u (ranked y x _ refl) (ranked v u _ refl) h

-- from the clause `sorted` of a sort, whose closure gives two numbers
pub in_order_by : {X : Type 0} (key : X → ℕ × ℕ) {F : Type 0} {g : Mut F (Bor X × Unit {0}) (ℕ × ℕ)} {f : F} (xs : List X)
    → ((k : X → ℕ × ℕ) → ComputesKey g k f → IsSortedByKey k by_both xs)
    → ((a : Bor X × Unit {0}) (r : ℕ × ℕ) (f' : F) → Called g f a r f' → (r ≡ key a.0.now) × (f' ≡ f)) → AllPairs (λ a b. NotAfter (key a) (key b)) xs
in_order_by key {g = g} {f = f} xs up says =
    let sorted : IsSortedByKey key by_both xs = up key (always_returns_same g (λ a r. r ≡ key a.0.now) f says) in
    λ i j d before within. not_after (key (get_or xs i d)) (key (get_or xs j d))
    (sorted_far (λ x y. is_lt (by_both (key x) (key y))) (ranks_by by_both_total key) xs sorted i j d (omega arith) within)

pub in_order_from_sort : {F : Type 0} {g : Mut F (Bor Entry × Unit {0}) (ℕ × ℕ)} {f : F} (es : List Entry)
    → ((k : Entry → ℕ × ℕ) → ComputesKey g k f → IsSortedByKey k by_both es)
    → ((a : Bor Entry × Unit {0}) (r : ℕ × ℕ) (f' : F) → Called g f a r f' → (r ≡ (uid_of Far a.0.now, uid_of Near a.0.now)) × (f' ≡ f)) → AllPairs IsNotAfter es
in_order_from_sort es up says = in_order_by (λ (e : Entry). (uid_of Far e, uid_of Near e)) es up says
