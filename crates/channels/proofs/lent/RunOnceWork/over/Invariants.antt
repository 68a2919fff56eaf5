use Rattle.channels.proofs.lent.RunOnceWork.over.Given as goal

-- the opening that the stores choose, on the device as it was lent
abbrev pub ghost-settle_lent : goal.ghost-settle_lent
ghost-settle_lent g a = g.S.BoxLists.opening g.O.Outside.ours g.O.Outside.alone (g.O.Outside.seen a.outside.now).device a.options.now
