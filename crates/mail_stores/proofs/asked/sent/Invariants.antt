use Rattle.std.proofs.Common.{◌≡◌, ◌++◌, drop}
use Rattle.mail_stores.specs.Passwords.{sent}
use Rattle.mail_stores.proofs.asked.sent.Given as goal

abbrev pub invariant-loop-b : goal.invariant-loop-b
invariant-loop-b l = l.spelled.items ++ sent (drop l.b-index l.password) ≡ sent l.password
