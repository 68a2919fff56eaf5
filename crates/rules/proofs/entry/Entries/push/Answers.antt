use Rattle.std.proofs.Common.{◌≡◌, true, List, ap, sym, subst, ◌∙◌, refl}
use Rattle.rules.specs.declared.entry.Entry.{Entry}
use Rattle.rules.specs.Entries.{may_end}
use Rattle.rules.specs.EntryParts.{KnowsNear}
use Rattle.rules.proofs.EntryLemmas.{ArePairs-push}
use Rattle.rules.proofs.entry.Entries.push.Goals as goal

pub invariant_of-self-in-Ok : goal.invariant_of-self-in-Ok
invariant_of-self-in-Ok c =
    let last : may_end c.args.entry c.self.inside.list.items ≡ true =
    ap (λ (es : List Entry). may_end c.args.entry es) (sym c.deref.ensures.value) ∙ sym c.may_stand_last.ensures ∙ c.if-not-may_stand_last.false in
    let all = c.deref-2.ensures.value ∙ c.in_ok-push.ensures.items in
    rw c.in_ok-push.ensures.items (
      ArePairs-push _ _ c.self.invariant.0 last,
      subst (KnowsNear c.add.new.self) all (c.in-Ok.ensures.ok _ _ all refl c.self.invariant.1),
    )
