-- The next UID may be given.
use Rattle.std.proofs.Common.{◌≡◌, ℕ, ◌+◌, ◌≢◌, true, false, List, sym, subst, ◌∙◌, arith}
use Rattle.std.specs.Prelude.{nat_lt}
use Rattle.std.specs.List.{list_all}
use Rattle.std.proofs.lemmas.Bool.{and_from, lt-ltb}
use Rattle.std.proofs.lemmas.List.Sums.{list_all-from_AllPass}
use Rattle.mailcore.specs.Listed.{AreBelow, may_end}
use Rattle.mailcore.specs.declared.mailbox.Message.{Message}

-- after messages with lesser UIDs
next_may_end : (ms : List Message) (next : ℕ) → AreBelow ms next → may_end ms (next + 1) next ≡ true
next_may_end ms next below =
    and_from (nat_lt next (next + 1)) (list_all (λ (m : Message). nat_lt m.uid next) ms) (lt-ltb next (next + 1) (omega arith))
    (list_all-from_AllPass (λ (m : Message). nat_lt m.uid next) ms (λ k d h. lt-ltb _ _ (below k d h)))

pub not_refused : (ms : List Message) (next uid got : ℕ) → AreBelow ms next → uid ≡ next → got ≡ uid → may_end ms (got + 1) uid ≢ false
not_refused ms next uid got below is same refused =
    let may = next_may_end ms next below in
    let P : ℕ → Type 0 = λ n. may_end ms (n + 1) n ≡ true in
    let here : may_end ms (uid + 1) uid ≡ true = subst P (sym is) may in
    let Q : ℕ → Type 0 = λ n. may_end ms (n + 1) uid ≡ true in
    let there : may_end ms (got + 1) uid ≡ true = subst Q (sym same) here in
    let both : true ≡ false = sym there ∙ refused in
    cc
