use Rattle.run_trial.proofs.devices.Devices.acted.Goals as goal

-- the far side is as it was
pub invariant_of-far : goal.invariant_of-far
invariant_of-far g c =
    let box = c.apart-far.result.0.far.far in
    record { named = box.named; selected = box.selected; numbers = box.numbers; map = box.map; are_passed = box.are_passed }
