use Rattle.std.proofs.Common.{false}
use Rattle.std.specs.Prelude.{[], is_none}
use Rattle.maildir.specs.declared.folder.Place.TheVariants.{New, Cur}
use Rattle.maildir.proofs.DiskListing.{gained_by, gained_more, listed_by_both}
use Rattle.maildir.proofs.sure_names.read_both.Goals as goal

pub returns-in_err-new-clause-gained : goal.returns-in_err-new-clause-gained
returns-in_err-new-clause-gained g c = gained_by New false [] c.args.disk.now c.list.new.self c.in_err-new.ensures

pub returns-in_err-cur-clause-gained : goal.returns-in_err-cur-clause-gained
returns-in_err-cur-clause-gained g c =
    gained_more c.args.disk.now c.list.new.self c.list-2.new.self
    (gained_by New (is_none c.in_ok-new.new.unreached) c.in_ok-new.new.names.items c.args.disk.now c.list.new.self c.in_ok-new.ensures)
    (gained_by Cur false [] c.list.new.self c.list-2.new.self c.in_err-cur.ensures)

pub returns-clause-gained : goal.returns-clause-gained
returns-clause-gained g c =
    gained_more c.args.disk.now c.list.new.self c.list-2.new.self
    (gained_by New (is_none c.in_ok-new.new.unreached) c.in_ok-new.new.names.items c.args.disk.now c.list.new.self c.in_ok-new.ensures)
    (gained_by Cur (is_none c.in_ok-cur.cur.unreached) c.in_ok-cur.cur.names.items c.list.new.self c.list-2.new.self c.in_ok-cur.ensures)

pub returns-clause-lists : goal.returns-clause-lists
returns-clause-lists g c =
    listed_by_both c.and.result c.in_ok-new.new.names.items c.in_ok-cur.cur.names.items c.in_ok-new.new.unreached c.in_ok-cur.cur.unreached
    c.args.disk.now c.list.new.self c.list-2.new.self c.in_ok-new.ensures c.in_ok-cur.ensures c.and.ensures.names c.and.ensures.reached
