-- The next UID that a far listing gives.
use Rattle.std.proofs.Common.{◌≡◌, ◌⊎◌, ◌≤◌, inl, inr, refl, sym, subst, ℕ, Bool, true, false, arith}
use Rattle.std.proofs.lemmas.Bool.{false≢true}
use Rattle.mailcore.specs.declared.listing.Listing.{Listing}
use Rattle.mailcore.specs.declared.side.Side.TheVariants.{Far}
use Rattle.mailcore.specs.Operations.{Shows}
use Rattle.mailcore.specs.Stores.{Store, IsStore}
use Rattle.outside.specs.MailboxOperations.{ListsFar, ReportsBetween, ReportsNext}

-- where nobody else adds any
pub lists_all : (known : ℕ) (listing : Listing) (s : Store) → Shows Far s listing → ListsFar true known listing s
lists_all known listing s h = record { shows = record { validity = h.validity; next = refl; items = h.items }; next = h.next }

-- where more may add some
reports_weaker : (alone alone' : Bool) (known : ℕ) (listing : Listing) (s : Store) → (alone' ≡ true → alone ≡ true) → ReportsNext alone known listing s → ReportsNext alone' known listing s
reports_weaker true true known listing s lone h = h
reports_weaker true false known listing s lone h = inl h
reports_weaker false true known listing s lone h = absurd (false≢true (lone refl))
reports_weaker false false known listing s lone h = h

pub lists_weaker : (alone alone' : Bool) (known : ℕ) (listing : Listing) (s : Store) → (alone' ≡ true → alone ≡ true) → ListsFar alone known listing s → ListsFar alone' known listing s
lists_weaker alone alone' known listing s lone l = record { shows = l.shows; next = reports_weaker alone alone' known listing s lone l.next }

-- where less was known
reports_since : (alone : Bool) (known before : ℕ) (listing : Listing) (s : Store) → before ≤ known → ReportsNext alone known listing s → ReportsNext alone before listing s
reports_since true known before listing s le h = h
reports_since false known before listing s le (inl h) = inl h
reports_since false known before listing s le (inr h) = let least = h.least in inr (record { least = omega (arith, le, least); above = h.above; most = h.most })

pub lists_since : (alone : Bool) (known before : ℕ) (listing : Listing) (s : Store) → before ≤ known → ListsFar alone known listing s → ListsFar alone before listing s
lists_since alone known before listing s le l = record { shows = l.shows; next = reports_since alone known before listing s le l.next }

-- ---- what is so of it

pub reported_most : (alone : Bool) (known : ℕ) (listing : Listing) (s : Store) → ReportsNext alone known listing s → listing.next ≤ s.next
reported_most true known listing s h = omega (arith, h)
reported_most false known listing s (inl h) = omega (arith, h)
reported_most false known listing s (inr h) = h.most

pub reported_least : (alone : Bool) (known : ℕ) (listing : Listing) (s : Store) → known ≤ s.next → ReportsNext alone known listing s → known ≤ listing.next
reported_least true known listing s le h = omega (arith, le, h)
reported_least false known listing s le (inl h) = omega (arith, le, h)
reported_least false known listing s le (inr h) = h.least

pub reported_alone : (alone : Bool) (known : ℕ) (listing : Listing) (s : Store) → ReportsNext alone known listing s → alone ≡ true → listing.next ≡ s.next
reported_alone true known listing s h e = h
reported_alone false known listing s h e = absurd (false≢true e)

-- the messages are a store's under it
same_next : (s : Store) (next : ℕ) → next ≡ s.next → IsStore s → IsStore (record s { next = next })
same_next s next e h = subst (λ (n : ℕ). IsStore (record s { next = n })) (sym e) h

pub reported_store : (alone : Bool) (known : ℕ) (listing : Listing) (s : Store) → ReportsNext alone known listing s → IsStore s → IsStore (record s { next = listing.next })
reported_store true known listing s h is = same_next s listing.next h is
reported_store false known listing s (inl h) is = same_next s listing.next h is
reported_store false known listing s (inr h) is = record { rising = is.rising; below = h.above }
