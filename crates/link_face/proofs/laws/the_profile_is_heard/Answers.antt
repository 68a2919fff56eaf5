use Rattle.std.proofs.Common.{refl}
use Rattle.link_face.proofs.ProfileLemmas.{step_heard, fault_heard}
use Rattle.link_face.proofs.laws.the_profile_is_heard.Goals as goal

pub returns : goal.returns
returns c = record {
  greeting = refl;
  step = λ s command replies new h g. step_heard s command.tag command.request replies new h g;
  fault = fault_heard;
  go = refl;
  end = λ s. refl;
}
