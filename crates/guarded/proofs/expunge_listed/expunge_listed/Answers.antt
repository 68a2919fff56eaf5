use Rattle.guarded.proofs.Asking.{looked_before, shown_listing}
use Rattle.guarded.proofs.Following.{call_after}
use Rattle.guarded.proofs.Rests.{rests_listed}
use Rattle.guarded.proofs.expunge_listed.expunge_listed.Goals as goal

pub returns-then-may_remove-clause-call : goal.returns-then-may_remove-clause-call
returns-then-may_remove-clause-call g c =
    call_after _ _ g.O.Outside.ours g.O.Outside.alone _ _ _ _ _ _ _ _ (rests_listed _ g.O.Outside.ours g.O.Outside.alone _ _ _ c.in_ok-listing.ensures.call) c.expunge.ensures.was_honest c.expunge.ensures.call

pub returns-then-may_remove-clause-listed : goal.returns-then-may_remove-clause-listed
returns-then-may_remove-clause-listed g c =
    shown_listing g.G.Guard.asked _ _ _ _ _ (looked_before _ _ g.O.Outside.ours g.O.Outside.alone _ _ _ c.expunge.ensures.was_honest c.in_ok-listing.ensures.call)
    c.may_remove.ensures.asked
