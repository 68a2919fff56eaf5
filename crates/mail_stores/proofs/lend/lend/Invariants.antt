use Rattle.mail_stores.proofs.lend.lend.Given as goal

-- as it is lent
abbrev pub ghost-lend_from : goal.ghost-lend_from
ghost-lend_from g a = g.O.Outside.seen a.outside.now
