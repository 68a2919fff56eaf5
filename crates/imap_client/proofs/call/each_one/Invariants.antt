use Rattle.std.proofs.Common.{◌≡◌, take}
use Rattle.imap_client.specs.Calls.{each_one}
use Rattle.imap_client.proofs.call.each_one.Given as goal

abbrev pub invariant-loop-uid : goal.invariant-loop-uid
invariant-loop-uid l = l.items.items ≡ each_one (take l.uid-index l.uids)
