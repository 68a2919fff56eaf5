-- What became of the mailboxes of stores by the end of a run.
use Rattle.std.specs.Prelude.{◌≡◌, []}
use Rattle.rand_core.specs.Stream.{Stream}
use Rattle.config.specs.declared.config.Config.{Config}
use Rattle.config.specs.declared.request.RunRequest.{RunRequest}
use Rattle.channels.specs.declared.stores.BoxLists.{Ghosts}
use Rattle.channels.specs.Runs.{RunsOnly}
use Rattle.channels.specs.Settlings.{SettlesAll}

-- Since they had been asked for nothing (`first`) and had lent nothing, each chosen mailbox of the channels that the command line names
-- was lent, and is settled.
pub record HasSettled {S R : Type 0} (b : Ghosts S) (first : b.Record) (stream : R → Stream) (config : Config) (request : RunRequest) (new : S) : Type 0 where
  pub old : S
  pub unasked : b.asked old ≡ first
  pub unlent : b.lent old ≡ []
  pub settled : SettlesAll b stream config request old new

-- Since they had been asked for nothing and had lent nothing, they have lent no mailbox but such a one, each for one run at most, which is
-- settled or underway.
pub record HasRunOnly {S R : Type 0} (b : Ghosts S) (first : b.Record) (stream : R → Stream) (config : Config) (request : RunRequest) (new : S) : Type 0 where
  pub old : S
  pub unasked : b.asked old ≡ first
  pub unlent : b.lent old ≡ []
  pub runs : RunsOnly b stream config request old new
