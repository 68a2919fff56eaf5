use Rattle.std.proofs.Common.{◌∙◌, ◌≡◌, ap, refl, sym, rules, Some, true, false}
use Rattle.rules.specs.Entries.{is_full}
use Rattle.rules.specs.Scene.{full_entry}
use Rattle.planner.specs.declared.met.Met.{Met}
use Rattle.planner.specs.Scenes.{Stands}
use Rattle.planner.specs.Seen.{seen}
use Rattle.planner.proofs.Facts.{full_there, full_not, full_none, there_stands}
use Rattle.planner.proofs.lists.Lists.full.Goals as goal
use Rattle.planner.proofs.lists.Lists.full.Goals.{in_default-via-in-Some+else-is_full, in_default-via-in_default}

pub returns-in-Some-clause-some : goal.returns-in-Some-clause-some
returns-in-Some-clause-some c =
    let l = c.args.self.now in
    let h : full_entry (seen l) c.args.side c.args.met.now.item.uid ≡ Some c.in-Some.standing.entry = full_there (seen l) l.standings.now c.args.side c.args.met.now.item.uid c.in-Some.standing refl l.pairs (sym (ap (λ (m : Met). m.holder) c.requires) ∙ c.in-Some.is) (let h : is_full c.in-Some.standing.entry ≡ true = search rules in h) in search rules

pub returns-in-Some-clause-stands : goal.returns-in-Some-clause-stands
returns-in-Some-clause-stands c =
    let l = c.args.self.now in
    let h : Stands (seen l).far (seen l).near c.in-Some.standing = there_stands (Stands (seen l).far (seen l).near) l.standings.now c.args.side c.args.met.now.item.uid c.in-Some.standing l.stands (sym (ap (λ (m : Met). m.holder) c.requires) ∙ c.in-Some.is) in search rules

pub returns-in_default-clause-none : goal.returns-in_default-clause-none
returns-in_default-clause-none c =
    let l = c.args.self.now in
    let held = sym (ap (λ (m : Met). m.holder) c.requires) in
    elim c.in_default.branch [
      | in_default-via-in-Some+else-is_full w ↦
          full_not (seen l) l.standings.now c.args.side c.args.met.now.item.uid w.in-Some.standing refl l.pairs (search rules) (held ∙ w.in-Some.is) (let h : is_full w.in-Some.standing.entry ≡ false = search rules in h)
      | in_default-via-in_default w ↦
          full_none (seen l) l.standings.now c.args.side c.args.met.now.item.uid refl (held ∙ w.in_default.is)
    ]
