use Rattle.std.proofs.Common.{◌≡◌, refl, subst}
use Rattle.std.specs.Prelude.{IfErr, IfOk, OnOk}
use Rattle.book.specs.MemShelves.{files_of}
use Rattle.maildir.specs.Gains.{nobody}
use Rattle.outside.specs.Devices.{Device}
use Rattle.run_pair.specs.Pairs.{seen_of}
use Rattle.rules.specs.declared.options.Options.{Options}
use Rattle.rules.specs.World.{World}
use Rattle.run_states.specs.Endings.{IsDone}
use Rattle.run_states.specs.Openings.{Opening}
use Rattle.run_trial.specs.Worlds.{FitsWords, device_of, world_of}
use Rattle.run_trial.specs.Memory.{LeavesOpening, LeavesWorld}
use Rattle.run_trial.specs.Settings.{device_in}
use Rattle.run_trial.proofs.MemoryLemmas.{Ends, Leaves, begun_done, begun_left, done_where, found, greatest_where, holds_world, picked_start, stands, stands_found}
use Rattle.run_trial.proofs.Picks.{picked_given}
use Rattle.run_trial.proofs.memory.run_in_memory.Goals as goal

pub returns-clause-done : goal.returns-clause-done
returns-clause-done g c = λ start.
    let w : World = world_of c.args.trial.world in
    let setting = c.in_ok-setting.setting in
    let holds = c.in_ok-setting.ensures.holds in
    let fits : FitsWords w = c.in_ok-setting.ensures.fits in
    let same = stands c.args.trial setting w refl holds start fits in
    let pick = picked_start c.args.trial setting w g.opening refl holds start fits in
    subst (λ (o : Options). IfOk c.run_over.result (λ run. OnOk run.1 (IsDone w o (seen_of run.0).device))) holds.options
    (done_where (λ both. (seen_of both).device) w setting.options (device_in setting) c.run_over.result
    (begun_done (λ both. seen_of both) (device_in setting) c.run_over.result w setting.options _ pick c.run_over.ensures.ends) c.run_over.ensures.greatest
    (holds_world w (device_in setting) start.opening fits same) start.opening fits.run)

pub returns-clause-left : goal.returns-clause-left
returns-clause-left g c = λ start room.
    let w : World = world_of c.args.trial.world in
    let setting = c.in_ok-setting.setting in
    let holds = c.in_ok-setting.ensures.holds in
    let fits : FitsWords w = c.in_ok-setting.ensures.fits in
    let same = stands c.args.trial setting w refl holds start fits in
    let pick = picked_start c.args.trial setting w g.opening refl holds start fits in
    subst (λ (o : Options). IfOk c.run_over.result (λ run. IfErr run.1 (λ fault. LeavesWorld w o (device_of w) fault (seen_of run.0)))) holds.options
    (subst (λ (d : Device). IfOk c.run_over.result (λ run. IfErr run.1 (λ fault. LeavesWorld w setting.options d fault (seen_of run.0)))) same
    (begun_left (λ both. seen_of both) (device_in setting) c.run_over.result w setting.options _ pick c.run_over.ensures.left
    (record { held = holds_world w (device_in setting) start.opening fits same; sound = start.opening; room = room })))

pub returns-clause-greatest : goal.returns-clause-greatest
returns-clause-greatest g c = λ start last.
    let w : World = world_of c.args.trial.world in
    let setting = c.in_ok-setting.setting in
    let fits : FitsWords w = c.in_ok-setting.ensures.fits in
    let same = stands c.args.trial setting w refl c.in_ok-setting.ensures.holds start fits in
    greatest_where (λ both. (seen_of both).device) w setting.options (device_in setting) c.run_over.result c.run_over.ensures.greatest
    (holds_world w (device_in setting) start.opening fits same) last same

pub returns-clause-resumed : goal.returns-clause-resumed
returns-clause-resumed g c = λ resumes.
    let setting = c.in_ok-setting.setting in
    let holds = c.in_ok-setting.ensures.holds in
    subst (λ (o : Opening nobody.ours nobody.alone). Ends (λ both. seen_of both) (device_in setting) c.run_over.result setting.options o)
    (picked_given (files_of setting.shelf) c.args.trial.world.state c.args.trial.course.journal _ g.opening holds.shelf resumes.journal) c.run_over.ensures.ends
    (stands_found g.opening c.args.trial setting holds resumes.stands)

pub returns-clause-pending : goal.returns-clause-pending
returns-clause-pending g c = λ resumes.
    let setting = c.in_ok-setting.setting in
    let holds = c.in_ok-setting.ensures.holds in
    subst (λ (d : Device). IfOk c.run_over.result (λ run. IfErr run.1 (λ fault. LeavesOpening g.opening d fault (seen_of run.0)))) (found c.args.trial setting holds)
    (subst (λ (o : Opening nobody.ours nobody.alone). Leaves (λ both. seen_of both) (device_in setting) c.run_over.result setting.options o)
    (picked_given (files_of setting.shelf) c.args.trial.world.state c.args.trial.course.journal _ g.opening holds.shelf resumes.journal) c.run_over.ensures.left
    (stands_found g.opening c.args.trial setting holds resumes.stands))

pub returns-clause-stopped : goal.returns-clause-stopped
returns-clause-stopped g c = c.run_over.ensures.stopped

pub returns-clause-map : goal.returns-clause-map
returns-clause-map g c = subst (λ (o : Options). IfOk c.run_over.result (λ run. run.0.far.far.keywords ≡ o.keywords)) c.in_ok-setting.ensures.holds.options c.run_over.ensures.map
