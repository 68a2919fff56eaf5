use Rattle.std.proofs.Common.{rules, ap, ◌∙◌}
use Rattle.run_trial.specs.declared.act.TrialActs.{TrialActs}
use Rattle.run_trial.proofs.read.read_course.Goals as goal

pub returns-in-Ok-clause-course : goal.returns-in-Ok-clause-course
returns-in-Ok-clause-course c = record {
  following = c.take_tries.new.lines.rest.now;
  tries = search rules;
  lines = search rules;
  journal = search rules;
  far = search rules;
  near = search rules;
  acts = λ flags removals. record {
    far = ap (λ (acts : TrialActs). acts.far.items) (c.in-Ok.ensures.acts flags removals) ∙ c.new-4.ensures.far;
    near = ap (λ (acts : TrialActs). acts.near.items) (c.in-Ok.ensures.acts flags removals) ∙ c.new-4.ensures.near;
  };
}
