use Rattle.maildir.proofs.DiskListing.{gained_looked, gained_more}
use Rattle.maildir.proofs.disk_folder.DiskFolder.listed.Goals as goal

pub returns-then-not-branch-clause-gained : goal.returns-then-not-branch-clause-gained
returns-then-not-branch-clause-gained g c = rw (← c.self.view_is) (gained_looked c.in_ok-is_there.field-0 c.self.inside.disk c.is_there.new.self c.in_ok-is_there.ensures)

pub returns-in_err-found-clause-gained : goal.returns-in_err-found-clause-gained
returns-in_err-found-clause-gained g c =
    gained_more c.args.self.now c.is_there.new.self c.sure_names.new.disk (rw (← c.self.view_is) (gained_looked c.in_ok-is_there.field-0 c.self.inside.disk c.is_there.new.self c.in_ok-is_there.ensures)) c.sure_names.ensures.gained

pub returns-in_err-keep-clause-gained : goal.returns-in_err-keep-clause-gained
returns-in_err-keep-clause-gained g c =
    rw (c.keep.ensures.same)
    (gained_more c.args.self.now c.is_there.new.self c.sure_names.new.disk (rw (← c.self.view_is) (gained_looked c.in_ok-is_there.field-0 c.self.inside.disk c.is_there.new.self c.in_ok-is_there.ensures)) c.sure_names.ensures.gained)

pub returns-clause-gained : goal.returns-clause-gained
returns-clause-gained g c =
    rw (c.keep.ensures.same)
    (gained_more c.args.self.now c.is_there.new.self c.sure_names.new.disk (rw (← c.self.view_is) (gained_looked c.in_ok-is_there.field-0 c.self.inside.disk c.is_there.new.self c.in_ok-is_there.ensures)) c.sure_names.ensures.gained)
