use Rattle.near_places.specs.Trees.Look.{BoxAt}
use Rattle.near_places.proofs.looks.Looks.is_mailbox.Given as goal

abbrev pub ghost-note : goal.ghost-note
ghost-note g a = BoxAt a._path.now a._answer.now
