use Rattle.std.proofs.Common.{◌≡◌, Option, List, None, true, rules, subst, sym}
use Rattle.maildir.specs.declared.standing.NameReading.{NameReading}
use Rattle.guarded.specs.declared.objection.Objection.{Objection}
use Rattle.guarded.specs.Watches.{Finds, finds_nothing}
use Rattle.guarded.proofs.Looking.{clear_finds}
use Rattle.guarded.proofs.near_look.NearLook.look.Goals as goal

pub returns-clause-clear : goal.returns-clause-clear
returns-clause-clear g c = λ clear.
    let found : finds_nothing c.stale-found.result ≡ true = search rules in
    let same : c.heed.new.self.readings.items ≡ c.stale-found.new.self.readings.items = search rules in
    subst (λ (rs : List NameReading). Finds c.args.self.now.watch None c.args.self.now.readings.items rs) (sym same)
    (clear_finds c.stale-found.result (λ (o : Option Objection). Finds c.args.self.now.watch o c.args.self.now.readings.items c.stale-found.new.self.readings.items) found c.stale-found.ensures.found)
