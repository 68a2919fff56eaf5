use Rattle.std.proofs.Common.{sym, arith, ◌∙◌, ap}
use Rattle.std.specs.Prelude.{◌==◌}
use Rattle.std.proofs.lemmas.Bool.{eq-eqb}
use Rattle.planner.specs.declared.places.EntryPlace.{EntryPlace}
use Rattle.planner.proofs.Passing.{none_above, find_here, same_default}
use Rattle.planner.proofs.Held.{holder_found, holder_none}
use Rattle.planner.proofs.met.holder_here.Goals as goal
use Rattle.planner.proofs.met.holder_here.Goals.{else-at-places-via-then-at-places+else-places-at, else-at-places-via-else-at-places}

pub returns-then-places-at : goal.returns-then-places-at
returns-then-places-at c =
    let ps = c.args.places.now in
    let d : EntryPlace = record { uid = 0; at = 0 } in
    holder_found c.args.side c.args.standings.now ps c.args.uid _ c.index-standings-places.result c.requires.pairs c.requires.index c.requires.positive
    (sym c.requires.passed ∙ find_here (λ (p : EntryPlace). p.uid == c.args.uid) ps c.args.at d c.if-at-places.true (eq-eqb _ _ c.if-places-at.true)) c.index-standings-places.is

pub returns-else-at-places : goal.returns-else-at-places
returns-else-at-places c =
    let ps = c.args.places.now in
    holder_none c.args.side c.args.standings.now ps c.args.uid c.requires.index
    (sym c.requires.passed ∙ none_above (λ (p : EntryPlace). p.uid) ps c.args.at c.args.uid c.requires.index.rising (λ within d. elim c.else-at-places.branch [
      | else-at-places-via-then-at-places+else-places-at w ↦
          let up = c.requires.reached d within in
          let here = ap (λ (p : EntryPlace). p.uid) (same_default ps c.args.at d (record { uid = 0; at = 0 }) within) in
          let apart = w.if-places-at.false in
          omega arith
      | else-at-places-via-else-at-places w ↦ absurd (let past = w.if-at-places.false in omega arith)
    ]))
