use Rattle.std.proofs.Common.{ap}
use Rattle.mailcore.specs.CopyPieces.{text_left}
use Rattle.maildir.specs.DiskFolders.{standing}
use Rattle.maildir.proofs.DiskCopying.{copy_ends_err, copy_ends_ok}
use Rattle.maildir.proofs.disk_folder.DiskFolder.write_copy.Goals as goal

pub returns-clause-ok : goal.returns-clause-ok
returns-clause-ok g c =
    copy_ends_ok c.sync_copy.result (text_left c.args.copy) (standing c.args.self.now) c.write_pieces.new.disk c.sync_copy.new.self
    (c.in_ok-write_pieces.ensures.ok (standing c.args.self.now) (rw (← c.self.view_is) (ap standing c.in_ok-file.ensures))) c.sync_copy.ensures

pub returns-clause-err : goal.returns-clause-err
returns-clause-err g c =
    copy_ends_err c.sync_copy.result (text_left c.args.copy) (standing c.args.self.now) c.write_pieces.new.disk c.sync_copy.new.self
    (c.in_ok-write_pieces.ensures.ok (standing c.args.self.now) (rw (← c.self.view_is) (ap standing c.in_ok-file.ensures))) c.sync_copy.ensures
