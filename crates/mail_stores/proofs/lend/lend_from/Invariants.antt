use Rattle.channels.specs.Asked.{place_of}
use Rattle.mail_stores.proofs.lend.lend_from.Given as goal

-- as it was given back
abbrev pub ghost-note : goal.ghost-note
ghost-note g a = record {
  place = place_of a._place;
  old = g.before;
  new = g.O.Outside.seen a._outside.now;
  opened = g.O.Outside.opened a._outside.now;
}
