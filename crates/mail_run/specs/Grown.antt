-- What stores were asked for by the end of a run.
use Rattle.std.specs.Prelude.{◌≡◌, List}
use Rattle.std.specs.List.{fold}
use Rattle.channels.specs.Asked.{Asked}

-- something was noted in a record, or nothing
pub record Grows {T : Type 0} (noted : T → Asked → T) (old new : T) : Type 0 where
  pub more : List Asked
  pub grown : new ≡ fold noted old more
