-- What others add is left out of what a run sees as its own.
use Rattle.std.proofs.Common.{◌≡◌, ◌≤◌, ◌<◌, ◌+◌, ℕ, Bool, true, false, nat_lt, nat_eq, List, [], ◌∷◌, ◌++◌, map, All, Option, Some, None, refl, ap, ◌∙◌, arith}
use Rattle.std.specs.List.{list_any}
use Rattle.std.specs.Cmp.Lexicographic.{pointwise, bytes_decides}
use Rattle.std.proofs.lemmas.Bool.{both_ways, or_left}
use Rattle.std.proofs.lemmas.Bool.Decides.{nat_tests}
use Rattle.std.proofs.lemmas.List.Elements.{All-nil, All-cons, All-head, All-tail}
use Rattle.mailcore.specs.declared.side.Side.{Side}
use Rattle.mailcore.specs.declared.side.Side.TheVariants.{Far, Near}
use Rattle.mailcore.specs.declared.mailbox.Message.{Message}
use Rattle.mailcore.specs.Content.{mark_of}
use Rattle.mailcore.specs.Rise.{Rise}
use Rattle.rules.specs.World.{World, store}
use Rattle.law_outcome.specs.Steps.{own_in, own}
use Rattle.law_outcome.specs.OwnLaws.{is_the, bears, is_own}
use Rattle.law_outcome.proofs.Among.{unseen}
use Rattle.mailcore.specs.Visitors.{IsForeign}

-- a fact of each side
pub two : (p : Side → Type 0) → p Far → p Near → (side : Side) → p side
two p far near Far = far
two p far near Near = near

not_the : (ours : List ℕ → Bool) (mark : List ℕ) (o : Option (List ℕ)) → ours mark ≡ true → IsForeign ours o → is_the mark o ≡ false
not_the ours mark None is foreign = refl
not_the ours mark (Some found) is foreign = by_test (pointwise nat_eq found mark) refl
  where
    by_test : (b : Bool) → pointwise nat_eq found mark ≡ b → b ≡ false
    by_test true e = let same : found ≡ mark = (bytes_decides found mark).0 e in absurd (both_ways (ours found) foreign (ap ours same ∙ is))
    by_test false e = refl

bears_none : (ours : List ℕ → Bool) (marks : List (List ℕ)) (bytes : List ℕ) → All (λ mark. ours mark ≡ true) marks → IsForeign ours (mark_of bytes) → list_any (λ mark. bears mark bytes) marks ≡ false
bears_none ours [] bytes h f = refl
bears_none ours (mark ∷ marks) bytes h f = rw (not_the ours mark (mark_of bytes) (All-head (λ mark. ours mark ≡ true) mark marks h) f) (bears_none ours marks bytes (All-tail (λ mark. ours mark ≡ true) mark marks h) f)

-- a message of others, from the next UID on
pub foreign_unseen : (ours : List ℕ → Bool) (w : World) (marks : List (List ℕ)) (side : Side) (from next : ℕ) (ms : List Message) → All (λ mark. ours mark ≡ true) marks → (store w side).next ≤ from → Rise from (map (λ m. m.uid) ms) next → All (λ m. IsForeign ours (mark_of m.bytes)) ms → All (λ m. is_own w marks side m.uid m.bytes ≡ false) ms
foreign_unseen ours w marks side from next [] mine le rise foreign = All-nil (λ m. is_own w marks side m.uid m.bytes ≡ false)
foreign_unseen ours w marks side from next (m ∷ ms) mine le rise foreign =
    let least : from ≤ m.uid = rise.0 in
    let above : nat_lt m.uid (store w side).next ≡ false = grind (arith, nat_tests) in
    All-cons (λ m. is_own w marks side m.uid m.bytes ≡ false) m ms
    (rw (above, bears_none ours marks m.bytes mine (All-head (λ m. IsForeign ours (mark_of m.bytes)) m ms foreign)) refl)
    (foreign_unseen ours w marks side (m.uid + 1) next ms mine (omega arith) rise.1 (All-tail (λ m. IsForeign ours (mark_of m.bytes)) m ms foreign))

-- far messages of others leave both mailboxes as they are seen
pub own_arrived : (ours : List ℕ → Bool) (w : World) (marks : List (List ℕ)) (far near more : List Message) (from next : ℕ) → All (λ mark. ours mark ≡ true) marks → w.far.next ≤ from → Rise from (map (λ m. m.uid) more) next → All (λ m. IsForeign ours (mark_of m.bytes)) more →
    own (is_own w marks) (record { far = far ++ more; near = near }) ≡ own (is_own w marks) (record { far = far; near = near })
own_arrived ours w marks far near more from next mine le rise foreign =
    ap (λ (ms : List Message). record { far = ms; near = own_in (is_own w marks) Near near }) (unseen (is_own w marks) Far far more (foreign_unseen ours w marks Far from next more mine le rise foreign))

pub below_own : (w : World) (marks : List (List ℕ)) (side : Side) (uid : ℕ) (bytes : List ℕ) → uid < (store w side).next → is_own w marks side uid bytes ≡ true
below_own w marks side uid bytes less = let yes : nat_lt uid (store w side).next ≡ true = grind (arith, nat_tests) in or_left (nat_lt uid (store w side).next) (list_any (λ mark. bears mark bytes) marks) yes
