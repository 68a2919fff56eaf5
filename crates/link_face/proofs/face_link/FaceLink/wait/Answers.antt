use Rattle.std.proofs.Common.{◌∙◌, rules, sym}
use Rattle.link_face.specs.Faces.{faced}
use Rattle.link_face.specs.Turning.{held_of}
use Rattle.link_face.proofs.LinkLemmas.{keeps_turned, keeps_twice, turned_speaks}
use Rattle.link_face.proofs.face_link.FaceLink.wait.Goals as goal

pub invariant_of-self : goal.invariant_of-self
invariant_of-self g c = record {
  hears = λ is_open honest same.
      turned_speaks c.loop.self.face c.turn.new.self (g.L.Link.line c.loop.self.link) c.turn.ensures.unchanged same
      (c.loop.self.hears (c.turn.ensures.opened is_open) honest (c.turn.ensures.unchanged same).was);
}

pub returns-then-branch-clause-same : goal.returns-then-branch-clause-same
returns-then-branch-clause-same g c honest same =
    let old = c.args.self.now in
    let was = (c.turn.ensures.unchanged same).was in
    keeps_turned (faced (held_of old.face) (g.L.Link.line old.link)) c.loop.self.face c.turn.new.self (g.L.Link.line c.loop.self.link) c.turn.ensures.unchanged same
    (c.loop.self.hears c.in_ok-turn.ensures.was_open honest was) (c.loop.invariant.same honest was)

pub returns-then-not-branch-clause-same : goal.returns-then-not-branch-clause-same
returns-then-not-branch-clause-same g c honest same =
    let old = c.args.self.now in
    let mid = sym c.more.ensures.renamed ∙ same in
    let was = (c.turn.ensures.unchanged mid).was in
    let before = c.more.ensures.was_honest honest in
    keeps_twice _ _ _
    (keeps_turned (faced (held_of old.face) (g.L.Link.line old.link)) c.loop.self.face c.turn.new.self (g.L.Link.line c.loop.self.link) c.turn.ensures.unchanged mid
    (c.loop.self.hears c.in_ok-turn.ensures.was_open before was) (c.loop.invariant.same before was))
    (c.in_ok-more.ensures.same honest)

pub loop-preserved : goal.loop-preserved
loop-preserved g c = record {
  was_honest = search rules;
  was_unchanged = search rules;
  steady = search rules;
  own_steady = search rules;
  quiet = search rules;
  same = λ honest same.
      let old = c.args.self.now in
      let mid = sym c.more.ensures.renamed ∙ same in
      let was = (c.turn.ensures.unchanged mid).was in
      let before = c.more.ensures.was_honest honest in
      keeps_twice _ _ _
      (keeps_turned (faced (held_of old.face) (g.L.Link.line old.link)) c.loop.self.face c.turn.new.self (g.L.Link.line c.loop.self.link) c.turn.ensures.unchanged mid
      (c.loop.self.hears c.in_ok-turn.ensures.was_open before was) (c.loop.invariant.same before was))
      (c.in_ok-more.ensures.same honest);
  ready = search rules;
}
