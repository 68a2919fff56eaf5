use Rattle.std.proofs.Common.{◌≡◌}
use Rattle.mail_stores.proofs.open_stores.OpenStores.synchronised.Given as goal

-- near mailboxes are where they were
abbrev pub invariant-loop-name : goal.invariant-loop-name
invariant-loop-name g l = l.self.reach ≡ l.fn.self.reach
