use Rattle.std.proofs.Common.{ℕ, List, Bor}
use Rattle.imap_server.proofs.ListLemmas.{listed_more}
use Rattle.imap_server.proofs.list_command.say_names.Goals as goal

pub loop-name-preserved : goal.loop-name-preserved
loop-name-preserved c = listed_more (λ (n : Bor (List ℕ)). n.now) c.args.names.now c.loop-name.name-index _ c.args.out.now.items c.loop-name.out.items c.say_listed.new.out.items c.loop-name-test.true c.loop-name.invariant c.in_ok-say_listed.ensures
