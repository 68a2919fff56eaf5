use Rattle.std.proofs.Common.{◌≡◌, ◌∷◌, [], ◌∙◌, Some, None, ap, subst, sym}
use Rattle.std.proofs.lemmas.Iterator.Adapters.{YieldsList-from_vec}
use Rattle.std.proofs.lemmas.Iterator.Consumers.{YieldsList-so_far, YieldsList-turn}
use Rattle.maildir.specs.declared.folder.FileName.{FileName}
use Rattle.maildir.specs.declared.standing.Sought.{Sought}
use Rattle.maildir.specs.Standings.{HasMet, shown}
use Rattle.maildir.proofs.StandingLemmas.{met_more, quiet_more, shown_at}
use Rattle.maildir.proofs.standing.Look.meet_all.Goals as goal

pub returns-in-Some-2-clause-found : goal.returns-in-Some-2-clause-found
returns-in-Some-2-clause-found c =
    let file : FileName = record { place = c.args.place; name = c.in-Some.name } in
    let gives = c.into_iter-name-iterator.ensures.into_iter_gives in
    let here = YieldsList-turn (YieldsList-from_vec {s = c.into_iter-name-iterator.result} c.args.names.items gives.0 (gives.1 ∙ c.args.names.ok.0)) c.loop-name.yielded c.loop-name.name-iterator c.loop-name.yielded_by c.next.result c.next.new.self c.in-Some.name c.in-Some.is c.next.ensures.steps in
    let before = YieldsList-so_far (YieldsList-from_vec {s = c.into_iter-name-iterator.result} c.args.names.items gives.0 (gives.1 ∙ c.args.names.ok.0)) c.loop-name.yielded c.loop-name.name-iterator c.loop-name.yielded_by in
    let is : Some c.in-Some-2.stale ≡ shown c.args.self.now.sought.gone.now c.args.self.now.sought.marked.now file =
    sym c.in-Some-2.is ∙ c.in_ok-stale.ensures.found ∙ ap (λ (s : Sought). shown s.gone.now s.marked.now file) c.loop-name.invariant.sought in
    shown_at c.args.self.now.sought.gone.now c.args.self.now.sought.marked.now c.args.place c.args.names.items c.loop-name.yielded c.in-Some.name c.in-Some-2.stale before here c.loop-name.invariant.quiet is

pub loop-name-preserved : goal.loop-name-preserved
loop-name-preserved c =
    let file : FileName = record { place = c.args.place; name = c.in-Some.name } in
    let is : None ≡ shown c.args.self.now.sought.gone.now c.args.self.now.sought.marked.now file =
    sym c.in_default.is ∙ c.in_ok-stale.ensures.found ∙ ap (λ (s : Sought). shown s.gone.now s.marked.now file) c.loop-name.invariant.sought in
    let one : HasMet c.args.self.now.sought.marked.now (file ∷ []) c.loop-name.self.marked.items c.meet.new.self.marked.items c.loop-name.self.odd.items c.meet.new.self.odd.items =
    subst (λ (s : Sought). HasMet s.marked.now (file ∷ []) c.loop-name.self.marked.items c.meet.new.self.marked.items c.loop-name.self.odd.items c.meet.new.self.odd.items) c.loop-name.invariant.sought (c.in_ok-stale.ensures.met c.in_default.is) in
    record {
      quiet = quiet_more c.args.self.now.sought.gone.now c.args.self.now.sought.marked.now c.args.place c.loop-name.yielded c.in-Some.name c.loop-name.invariant.quiet is;
      met = met_more c.args.self.now.sought.marked.now c.args.place c.loop-name.yielded c.in-Some.name _ _ _ _ _ _ c.loop-name.invariant.met one;
      sought = c.in_ok-stale.ensures.sought ∙ c.loop-name.invariant.sought;
    }
