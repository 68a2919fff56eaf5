-- The greatest UID as a number, and what a set names by it.
use Rattle.std.proofs.Common.{◌≡◌, ◌<◌, ◌≤◌, ◌^◌, ℕ, zero, suc, ◌+◌, ◌-◌, Bool, List, [], ◌∷◌, length, refl, sym, ◌∙◌, ap, subst, Option, Some, None, arith, get_or}
use Rattle.std.specs.Option.{SomeIff}
use Rattle.mailcore.specs.declared.mailbox.Message.{Message}
use Rattle.wire_tokens.specs.declared.uid_set.SetItem.{SetItem}
use Rattle.wire_tokens.specs.Sets.{names}
use Rattle.imap_session.specs.NamedMessages.{greatest}
use Rattle.imap_session.specs.Naming.{IsTop}

-- ---- the greatest UID

greatest_at : (ms : List Message) (d : Message) (k : ℕ) → k + 1 ≡ length ms → greatest ms ≡ Some (get_or ms k d).uid
greatest_at [] d k h = absurd (omega arith)
greatest_at (x ∷ []) d zero h = refl
greatest_at (x ∷ []) d (suc k) h = absurd (omega arith)
greatest_at (x ∷ y ∷ ms) d zero h = absurd (omega arith)
greatest_at (x ∷ y ∷ ms) d (suc k) h = greatest_at (y ∷ ms) d k (omega arith)

pub top_of_last : (ms : List Message) (m : Message) (n : ℕ) → 1 ≤ length ms → m ≡ get_or ms (length ms - 1) m → n ≡ m.uid → 0 < n → n + 1 < 2 ^ 32 → IsTop (greatest ms) n
top_of_last ms m n some last is positive below =
    let at : greatest ms ≡ Some m.uid = greatest_at ms m (length ms - 1) (omega arith) ∙ ap (λ (x : Message). Some x.uid) (sym last) in
    subst (λ (o : Option ℕ). IsTop o n) (sym at) (is, positive, below)

-- ---- what a set names, by the greatest UID as a number

pub named_by : (set : List SetItem) (top uid : ℕ) (found : Option ℕ) (test : Bool) → SomeIff found ((0 < top) × (top + 1 < 2 ^ 32)) top → test ≡ names found set uid
    → (most : Option ℕ) → IsTop most top → test ≡ names most set uid
named_by set top uid None test none t None is = t
named_by set top uid None test none t (Some u) is = absurd (none (is.1, is.2))
named_by set top uid (Some n) test some t None is = let more = some.0.0 in absurd (omega arith)
named_by set top uid (Some n) test some t (Some u) is = t ∙ ap (λ (k : ℕ). names (Some k) set uid) (some.1 ∙ is.0)
