use Rattle.std.proofs.Common.{◌≡◌, ◌∙◌, ℕ, List, true, ap, refl, subst, sym}
use Rattle.mailcore.specs.Content.{mark_of}
use Rattle.mailcore.specs.Visitors.{AreOctets, IsForeign, others_but}
use Rattle.maildir.specs.MemFolders.{seen_of}
use Rattle.maildir.specs.Names.{is_waiting}
use Rattle.maildir.proofs.AddedLemmas.{alone_added, alone_none, alone_same}
use Rattle.maildir.proofs.visited_folder.VisitedFolder.add.Goals as goal

pub returns-then-not-may_come-clause-adds : goal.returns-then-not-may_come-clause-adds
returns-then-not-may_come-clause-adds g c = alone_none (others_but g.O.Others.ours) (seen_of c.args.self.now.folder)

pub returns-in-Err-NoMemory-clause-adds : goal.returns-in-Err-NoMemory-clause-adds
returns-in-Err-NoMemory-clause-adds g c = alone_same (others_but g.O.Others.ours) (seen_of c.args.self.now.folder) (seen_of c.arrive.new.self) c.in-Err-NoMemory.ensures.err

pub returns-in-Err-Stopped-clause-adds : goal.returns-in-Err-Stopped-clause-adds
returns-in-Err-Stopped-clause-adds g c = alone_same (others_but g.O.Others.ours) (seen_of c.args.self.now.folder) (seen_of c.arrive.new.self) c.in-Err-Stopped.ensures.err

pub returns-in-Ok-clause-adds : goal.returns-in-Ok-clause-adds
returns-in-Ok-clause-adds g c =
    let may = c.may_come.ensures c.if-not-may_come.false in
    let waits : is_waiting c.args.arrival.name ≡ true = ap is_waiting (sym c.as_slice.ensures) ∙ may.0 in
    let bears : IsForeign g.O.Others.ours (mark_of c.args.arrival.bytes) = subst (λ (b : List ℕ). IsForeign g.O.Others.ours (mark_of b)) c.as_slice-2.ensures may.2 in
    alone_added (others_but g.O.Others.ours) (seen_of c.args.self.now.folder) (seen_of c.arrive.new.self) _ (c.in-Ok.ensures.adds (others_but g.O.Others.ours) refl waits (subst AreOctets (c.as_slice-2.ensures) may.1) bears) c.in-Ok.ensures.ok
