use Rattle.std.proofs.Common.{◌≡◌, ◌∙◌, ◌&&◌, Bool, sym, ap, rules, tests}
use Rattle.std.specs.List.{list_all}
use Rattle.std.proofs.lemmas.Iterator.{YieldsList-from_slice}
use Rattle.std.proofs.lemmas.Iterator.Search.{all_from_yields_List}
use Rattle.mailcore.specs.Content.{mark_of}
use Rattle.mailcore.specs.Visitors.{is_foreign}
use Rattle.maildir.specs.declared.visited_folder.ArrivingFile.{ArrivingFile}
use Rattle.run_trial.specs.declared.arrival.FarArrival.{FarArrival}
use Rattle.run_trial.proofs.ForeignLemmas.{all_foreign}
use Rattle.run_trial.proofs.arrival.TrialArrivals.are_of.Goals as goal

pub returns-then-far-clause-foreign : goal.returns-then-far-clause-foreign
returns-then-far-clause-foreign g c =
    let all : c.all-far.result ≡ list_all (λ (a : FarArrival). is_foreign g.O.Others.ours (mark_of a.bytes)) c.args.self.now.far.items =
    all_from_yields_List (λ (a : FarArrival). is_foreign g.O.Others.ours (mark_of a.bytes)) _ _ _ c.all-far.ensures.ran
    (YieldsList-from_slice c.args.self.now.far.items (search rules))
    (λ x b q k. search (rules, tests)) in
    λ is. all_foreign g.O.Others.ours c.args.self.now.far.items (sym all ∙ search rules)

pub returns-then-far-clause-exact : goal.returns-then-far-clause-exact
returns-then-far-clause-exact g c =
    let far : c.all-far.result ≡ list_all (λ (a : FarArrival). is_foreign g.O.Others.ours (mark_of a.bytes)) c.args.self.now.far.items =
    all_from_yields_List (λ (a : FarArrival). is_foreign g.O.Others.ours (mark_of a.bytes)) _ _ _ c.all-far.ensures.ran
    (YieldsList-from_slice c.args.self.now.far.items (search rules))
    (λ x b q k. search (rules, tests)) in
    let near : c.all-near.result ≡ list_all (λ (a : ArrivingFile). is_foreign g.O.Others.ours (mark_of a.bytes)) c.args.self.now.near.items =
    all_from_yields_List (λ (a : ArrivingFile). is_foreign g.O.Others.ours (mark_of a.bytes)) _ _ _ c.all-near.ensures.ran
    (YieldsList-from_slice c.args.self.now.near.items (search rules))
    (λ x b q k. search (rules, tests)) in
    near ∙ sym (ap (λ (b : Bool). b && list_all (λ (a : ArrivingFile). is_foreign g.O.Others.ours (mark_of a.bytes)) c.args.self.now.near.items) (sym far ∙ c.if-far.true))

pub returns-else-far-clause-exact : goal.returns-else-far-clause-exact
returns-else-far-clause-exact g c =
    let far : c.all-far.result ≡ list_all (λ (a : FarArrival). is_foreign g.O.Others.ours (mark_of a.bytes)) c.args.self.now.far.items =
    all_from_yields_List (λ (a : FarArrival). is_foreign g.O.Others.ours (mark_of a.bytes)) _ _ _ c.all-far.ensures.ran
    (YieldsList-from_slice c.args.self.now.far.items (search rules))
    (λ x b q k. search (rules, tests)) in
    c.if-far.false ∙ sym (ap (λ (b : Bool). b && list_all (λ (a : ArrivingFile). is_foreign g.O.Others.ours (mark_of a.bytes)) c.args.self.now.near.items) (sym far ∙ c.if-far.false))
