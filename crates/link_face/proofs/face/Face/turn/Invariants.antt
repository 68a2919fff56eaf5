use Rattle.std.proofs.Common.{◌≡◌, true}
use Rattle.link_face.specs.Turning.{Leaves, NotesNames, Unchanged}
use Rattle.link_face.proofs.face.Face.turn.Given as goal

abbrev pub invariant-loop : goal.invariant-loop
invariant-loop l = record {
  unchanged : Unchanged l.fn.self l.self;
  names : NotesNames l.fn.self l.self;
  opened : l.fn.self.is_open ≡ true;
  ready : Leaves l.fn.self.ready l.self.ready;
  steady : l.self.stops ≡ l.fn.self.stops;
}
