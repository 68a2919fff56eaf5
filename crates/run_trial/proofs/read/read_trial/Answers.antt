use Rattle.std.proofs.Common.{◌++◌, ℕ, List, refl, subst}
use Rattle.worlds.specs.OptionsText.{IsHead}
use Rattle.worlds.specs.WorldText.{text_from_far}
use Rattle.worlds.specs.Worlds.{world_of}
use Rattle.run_trial.proofs.read.read_trial.Goals as goal

pub returns-in-Ok-clause-text : goal.returns-in-Ok-clause-text
returns-in-Ok-clause-text c =
    let w = c.in_ok-world.world in
    let course : List ℕ = c.take_world.new.lines.rest.now in
    record {
      course = course;
      head = subst (λ (text : List ℕ). IsHead w.options (text_from_far (world_of w) ++ course) text) c.new-lines.ensures.1 (c.in_ok-world.ensures.text refl);
      says = c.in-Ok.ensures.course;
    }
