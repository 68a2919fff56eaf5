-- How looks join.
use Rattle.std.proofs.Common.{◌≡◌, ◌∙◌, ℕ, List, [], ◌∷◌, ◌++◌, Option, Result, Ok, Err, sym, ap}
use Rattle.std.proofs.lemmas.List.Sums.{fold-append}
use Rattle.std.proofs.lemmas.List.Elements.{All-append, All-cons, All-nil}
use Rattle.std.specs.List.{fold}
use Rattle.mailcore.specs.declared.side.Side.{Side}
use Rattle.sync_state.specs.declared.journal.Journal.{Journal}
use Rattle.outside.specs.Asked.{Asked, Read, Sought, after_look}
use Rattle.runner.specs.Asking.{IsLook, Looks}

module _ {L : Type 0} (noted : L → Asked → L) where
  pub looks_none : (old new : L) → new ≡ old → Looks noted old new
  looks_none old new e = record { calls = []; now = e; each = All-nil IsLook }

  looks_one : (x : Asked) (old new : L) → IsLook x → new ≡ noted old x → Looks noted old new
  looks_one x old new is e = record { calls = x ∷ []; now = e; each = All-cons IsLook x [] is (All-nil IsLook) }

  pub looks_read : (journal : Option Journal) (old new : L) → new ≡ noted old (Read journal) → Looks noted old new
  looks_read journal old new e = looks_one (Read journal) old new (tt {0}) e

  pub looks_for : {E : Type 0} (side : Side) (mark : List ℕ) (from : ℕ) (old new : L) (result : Result (Option ℕ) E) → new ≡ after_look noted side mark from old result
      → Looks noted old new
  looks_for side mark from old new (Ok found) e = looks_one (Sought side mark from found) old new (tt {0}) e
  looks_for side mark from old new (Err fault) e = looks_none old new e

  pub looks_then : (old mid new : L) → Looks noted old mid → Looks noted mid new → Looks noted old new
  looks_then old mid new h k = record {
    calls = h.calls ++ k.calls;
    now = k.now ∙ ap (λ (l : L). fold noted l k.calls) h.now ∙ sym (fold-append noted old h.calls k.calls);
    each = All-append IsLook h.calls k.calls h.each k.each;
  }
