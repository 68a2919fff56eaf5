use Rattle.std.proofs.Common.{IfOk, ℕ, List, sym, subst}
use Rattle.std.proofs.lemmas.Result.{IfOk-weaker}
use Rattle.wire_strings.specs.Quotes.{RawOf}
use Rattle.wire_strings.proofs.QuoteParts.{value_of}
use Rattle.wire_strings.proofs.quoted.Quoted.value.Goals as goal

pub returns-clause-value : goal.returns-clause-value
returns-clause-value c =
    let raw = c.self.inside.raw.now in
    subst (λ (x : List ℕ). IfOk c.unescaped.result (λ v. RawOf v.items x)) c.self.view_is
    (IfOk-weaker c.unescaped.result _ _ (λ v e. subst (λ (x : List ℕ). RawOf x raw) (sym e) (value_of raw c.self.invariant)) c.unescaped.ensures)
