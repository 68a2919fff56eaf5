use Rattle.std.proofs.Common.{map, string_bytes}
use Rattle.near_places.specs.Trees.Look.{NamesIn}
use Rattle.near_places.proofs.looks.Looks.names_in.Given as goal

abbrev pub ghost-note : goal.ghost-note
ghost-note g a = NamesIn a._path.now (map string_bytes a._answer.now.items)
