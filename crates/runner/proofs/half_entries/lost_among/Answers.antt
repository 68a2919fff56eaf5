use Rattle.std.proofs.Common.{◌≡◌, ◌∙◌, ◌<◌, ◌≤◌, ◌++◌, ◌∷◌, [], ℕ, List, append-nil, ap, ap₂, get_or, length, subst, sym, true, false, rules}
use Rattle.mailcore.specs.declared.listing.Item.{Item}
use Rattle.rules.specs.declared.entry.Entry.{Entry}
use Rattle.runner.specs.HalfEntries.{loses}
use Rattle.runner.proofs.HalfEntries.{lost_more, lost_rise_taken}
use Rattle.runner.proofs.half_entries.lost_among.Goals as goal
use Rattle.runner.proofs.half_entries.lost_among.Goals.{then-loses+in_ok-push, else-loses}

pub loop-entry-preserved : goal.loop-entry-preserved
loop-entry-preserved c =
    let removed = c.args.removed.now in
    let side = c.args.side in
    let own = c.args.own.now.items in
    let others = c.args.others.now.items in
    let es = c.args.state.now.entries in
    let e = c.entry-item.result in
    let i = c.loop-entry.entry-index in
    let inside : i < length c.as_slice-entry-items.result.now = search rules in
    let below : i < length es = subst (λ (l : List Entry). i < length l) c.as_slice-entry-items.ensures.all inside in
    let is : e ≡ get_or es i e = c.entry-item.is ∙ ap (λ (l : List Entry). get_or l i e) c.as_slice-entry-items.ensures.all in
    let tested : c.loses.result ≡ loses removed side own others e = c.loses.ensures
    ∙ ap (λ (l : List Item). loses removed side l c.as_slice-others.result.now e) c.as_slice-own.ensures.all
    ∙ ap (λ (l : List Item). loses removed side own l e) c.as_slice-others.ensures.all in
    elim c.if-loses.branch [
      | then-loses+in_ok-push w ↦
          ap (λ lost. lost.items) w.lost-is ∙ w.in_ok-push.ensures.items ∙ ap₂ (λ (l : List ℕ) (u : ℕ). l ++ u ∷ []) c.loop-entry.invariant w.number.ensures.number
          ∙ sym (lost_more removed side own others es i e true below is (sym tested ∙ w.if-loses.true))
      | else-loses w ↦
          ap (λ lost. lost.items) w.lost-is ∙ c.loop-entry.invariant ∙ sym (append-nil _) ∙ sym (lost_more removed side own others es i e false below is (sym tested ∙ w.if-loses.false))
    ]

pub returns-clause-rising : goal.returns-clause-rising
returns-clause-rising c =
    let past : length c.as_slice-entry-items.result.now ≤ c.loop-entry.entry-index = search rules in
    let over : length c.args.state.now.entries ≤ c.loop-entry.entry-index = subst (λ (l : List Entry). length l ≤ c.loop-entry.entry-index) c.as_slice-entry-items.ensures.all past in
    lost_rise_taken c.args.removed.now c.args.side c.args.own.now.items c.args.others.now.items c.args.state.now.entries c.loop-entry.entry-index c.loop-entry.lost.items over c.as_slice-entry-items.ensures.pairs c.loop-entry.invariant
