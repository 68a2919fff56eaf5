use Rattle.std.specs.Prelude.{All}
use Rattle.channels.specs.Asked.{joined_of}
use Rattle.mail_stores.specs.Notices.{IsFor}
use Rattle.mail_stores.proofs.notices.Notices.take.Given as goal

abbrev pub invariant-loop-notice : goal.invariant-loop-notice
invariant-loop-notice l = All (IsFor (joined_of l.of)) l.reported.items
