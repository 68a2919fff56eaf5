use Rattle.std.proofs.Common.{◌≡◌, ◌∙◌, refl, sym, ap, subst}
use Rattle.std.specs.Prelude.{IfErr, IfOk, OnOk}
use Rattle.maildir.specs.MemFolders.{stored_in}
use Rattle.book.specs.MemShelves.{files_of}
use Rattle.outside.specs.Devices.{Device}
use Rattle.run_pair.specs.Pairs.{seen_of}
use Rattle.rules.specs.declared.options.Options.{Options}
use Rattle.rules.specs.World.{World}
use Rattle.run_trial.specs.declared.arrival.TrialArrivals.{TrialArrivals}
use Rattle.run_trial.specs.Worlds.{FitsWords, device_of, world_of}
use Rattle.run_trial.specs.declared.setting.FarSetting.{FarSetting}
use Rattle.run_trial.specs.Among.{IsOverAmong, LeavesAmong, OthersLeftAmong}
use Rattle.run_trial.proofs.AmongLemmas.{device_kept, greatest_among, taken_foreign}
use Rattle.run_trial.proofs.MemoryLemmas.{holds_world, stands}
use Rattle.run_trial.proofs.among.run_among.Goals as goal

pub run_visited-requires : goal.run_visited-requires
run_visited-requires g c =
    let said =
    taken_foreign g.O.Others.ours c.args.trial.course.arrivals.far.items c.in_ok-setting.setting.arrivals.far.items c.in_ok-among.among.arrivals.list.items
    (ap (λ (a : TrialArrivals). a.far.items) c.in_ok-setting.ensures.arrivals) c.in_ok-among.ensures.arrivals c.requires.foreign in
    record {
      served = c.in_ok-among.ensures.served;
      letters = c.in_ok-among.ensures.letters ∙ c.in_ok-setting.ensures.letters ∙ ap (λ (o : Options). o.keywords) (sym c.in_ok-among.ensures.options);
      foreign = said;
    }

pub returns-clause-over : goal.returns-clause-over
returns-clause-over g c = λ are from room.
    let start : World = world_of c.args.trial.world in
    let setting = c.in_ok-setting.setting in
    let among = c.in_ok-among.among in
    let fits : FitsWords start = c.in_ok-setting.ensures.fits in
    let there = device_kept setting among.options among.far.server.server (stored_in among.near.folder.folder) (files_of among.near.shelf)
    c.in_ok-among.ensures.options (ap (λ (f : FarSetting). f.server.server) c.in_ok-among.ensures.far) c.in_ok-among.ensures.near.0 c.in_ok-among.ensures.kept.0 in
    let same = there ∙ stands c.args.trial setting start refl c.in_ok-setting.ensures.holds from fits in
    subst (λ (o : Options). IfOk c.run_visited.result (λ run. OnOk run.1 (IsOverAmong g.O.Others.ours start o (seen_of run.0).device))) (c.in_ok-among.ensures.options ∙ c.in_ok-setting.ensures.holds.options)
    (c.run_visited.ensures.over are start (sym (c.in_ok-among.ensures.kept.1 ∙ c.in_ok-setting.ensures.holds.state))
    (record { held = holds_world start _ from.opening fits same; sound = from.opening; room = room }))

pub returns-clause-others : goal.returns-clause-others
returns-clause-others g c = λ are from room.
    let start : World = world_of c.args.trial.world in
    let setting = c.in_ok-setting.setting in
    let among = c.in_ok-among.among in
    let fits : FitsWords start = c.in_ok-setting.ensures.fits in
    let there = device_kept setting among.options among.far.server.server (stored_in among.near.folder.folder) (files_of among.near.shelf)
    c.in_ok-among.ensures.options (ap (λ (f : FarSetting). f.server.server) c.in_ok-among.ensures.far) c.in_ok-among.ensures.near.0 c.in_ok-among.ensures.kept.0 in
    let same = there ∙ stands c.args.trial setting start refl c.in_ok-setting.ensures.holds from fits in
    subst (λ (o : Options). IfOk c.run_visited.result (λ run. OnOk run.1 (OthersLeftAmong g.O.Others.ours start o (seen_of run.0).device))) (c.in_ok-among.ensures.options ∙ c.in_ok-setting.ensures.holds.options)
    (c.run_visited.ensures.others are start (sym (c.in_ok-among.ensures.kept.1 ∙ c.in_ok-setting.ensures.holds.state))
    (record { held = holds_world start _ from.opening fits same; sound = from.opening; room = room }))

pub returns-clause-left : goal.returns-clause-left
returns-clause-left g c = λ are from room.
    let start : World = world_of c.args.trial.world in
    let setting = c.in_ok-setting.setting in
    let among = c.in_ok-among.among in
    let fits : FitsWords start = c.in_ok-setting.ensures.fits in
    let there = device_kept setting among.options among.far.server.server (stored_in among.near.folder.folder) (files_of among.near.shelf)
    c.in_ok-among.ensures.options (ap (λ (f : FarSetting). f.server.server) c.in_ok-among.ensures.far) c.in_ok-among.ensures.near.0 c.in_ok-among.ensures.kept.0 in
    let same = there ∙ stands c.args.trial setting start refl c.in_ok-setting.ensures.holds from fits in
    subst (λ (o : Options). IfOk c.run_visited.result (λ run. IfErr run.1 (λ fault. LeavesAmong g.O.Others.ours start o (device_of start) fault (seen_of run.0)))) (c.in_ok-among.ensures.options ∙ c.in_ok-setting.ensures.holds.options)
    (subst (λ (d : Device). IfOk c.run_visited.result (λ run. IfErr run.1 (λ fault. LeavesAmong g.O.Others.ours start among.options d fault (seen_of run.0)))) same
    (c.run_visited.ensures.left are start (sym (c.in_ok-among.ensures.kept.1 ∙ c.in_ok-setting.ensures.holds.state))
    (record { held = holds_world start _ from.opening fits same; sound = from.opening; room = room })))

pub returns-clause-greatest : goal.returns-clause-greatest
returns-clause-greatest g c = λ from last.
    let start : World = world_of c.args.trial.world in
    let setting = c.in_ok-setting.setting in
    let among = c.in_ok-among.among in
    let fits : FitsWords start = c.in_ok-setting.ensures.fits in
    let there = device_kept setting among.options among.far.server.server (stored_in among.near.folder.folder) (files_of among.near.shelf)
    c.in_ok-among.ensures.options (ap (λ (f : FarSetting). f.server.server) c.in_ok-among.ensures.far) c.in_ok-among.ensures.near.0 c.in_ok-among.ensures.kept.0 in
    let same = there ∙ stands c.args.trial setting start refl c.in_ok-setting.ensures.holds from fits in
    greatest_among (λ both. (seen_of both).device) start _ c.run_visited.result c.run_visited.ensures.greatest (holds_world start _ from.opening fits same) last same

pub returns-clause-stopped : goal.returns-clause-stopped
returns-clause-stopped g c = c.run_visited.ensures.stopped

pub returns-clause-map : goal.returns-clause-map
returns-clause-map g c =
    subst (λ (o : Options). IfOk c.run_visited.result (λ run. run.0.far.far.keywords ≡ o.keywords)) (c.in_ok-among.ensures.options ∙ c.in_ok-setting.ensures.holds.options) c.run_visited.ensures.map
