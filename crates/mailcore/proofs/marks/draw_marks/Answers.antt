use Rattle.std.proofs.Common.{◌≡◌, arith, refl}
use Rattle.mailcore.proofs.DrawLemmas.{All-Draws, AllPairs-Draws, Draws-more, Draws-none, Draws-not-Repeats, Draws-unique, Repeats-after}
use Rattle.mailcore.proofs.KnownLemmas.{GivesListed-known, GivesNew-known, same-push}
use Rattle.mailcore.proofs.marks.draw_marks.Goals as goal

pub marks-init : goal.marks-init
marks-init g c = record {
  drawn = rw c.in_ok-marks.ensures.items (Draws-none (g.R.Rng.stream c.args.rng.now));
  room = c.in_ok-marks.ensures.capacity;
  spare = omega (arith, c.in_ok-known.ensures.spare);
  same = λ other. rw (c.in_ok-known.ensures.empty, c.in_ok-marks.ensures.items) refl;
}

pub marks-preserved : goal.marks-preserved
marks-preserved g c =
    let same = c.marks.invariant.same in
    let gives = GivesNew-known _ _ _ _ _ same c.in-Some.ensures.new in
    record {
      drawn = rw c.push_reserved.ensures.items (Draws-more _ _ _ _ _ _ c.marks.invariant.drawn.0 c.marks.invariant.drawn.1 gives);
      room = rw c.push_reserved.ensures.capacity c.marks.invariant.room;
      spare = omega (arith, c.know.ensures.room, c.marks.invariant.spare);
      same = rw c.push_reserved.ensures.items (same-push _ _ _ _ c.know.ensures.known same);
    }

pub returns-in_default-clause-repeats : goal.returns-in_default-clause-repeats
returns-in_default-clause-repeats g c _ =
    let gives = GivesListed-known _ _ _ _ _ c.marks.invariant.same c.in_default.ensures.listed in
    Repeats-after _ _ _ _ _ _ c.marks.invariant.drawn.0 c.marks-test.true c.marks.invariant.drawn.1 gives

pub returns-clause-drawn : goal.returns-clause-drawn
returns-clause-drawn g c =
    let all : c.marks.counter ≡ c.args.count = omega arith in
    rw all at c.marks.invariant.drawn

pub returns-clause-no_marks : goal.returns-clause-no_marks
returns-clause-no_marks g c repeats = absurd (Draws-not-Repeats _ _ _ (returns-clause-drawn g c).0 repeats)

pub returns-clause-distinct : goal.returns-clause-distinct
returns-clause-distinct g c = AllPairs-Draws _ _ _ (returns-clause-drawn g c).0

pub returns-clause-no_others : goal.returns-clause-no_others
returns-clause-no_others g c others drawn = Draws-unique _ _ _ _ (returns-clause-drawn g c).0 drawn

pub returns-clause-are_marks : goal.returns-clause-are_marks
returns-clause-are_marks g c = All-Draws _ _ _ (returns-clause-drawn g c).0
