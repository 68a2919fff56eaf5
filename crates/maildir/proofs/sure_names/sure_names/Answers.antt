use Rattle.maildir.proofs.DiskListing.{gained_more}
use Rattle.maildir.proofs.sure_names.sure_names.Goals as goal

pub returns-in_err-found-clause-gained : goal.returns-in_err-found-clause-gained
returns-in_err-found-clause-gained g c = gained_more c.args.disk.now c.loop.disk c.make.new.disk c.loop.invariant.gained c.make.ensures.gained

pub returns-in_err-are_all_among-clause-gained : goal.returns-in_err-are_all_among-clause-gained
returns-in_err-are_all_among-clause-gained g c = gained_more c.args.disk.now c.loop.disk c.make.new.disk c.loop.invariant.gained c.make.ensures.gained

pub returns-then-branch-clause-gained : goal.returns-then-branch-clause-gained
returns-then-branch-clause-gained g c = gained_more c.args.disk.now c.loop.disk c.make.new.disk c.loop.invariant.gained c.make.ensures.gained

pub returns-in_err-append-clause-gained : goal.returns-in_err-append-clause-gained
returns-in_err-append-clause-gained g c = gained_more c.args.disk.now c.loop.disk c.make.new.disk c.loop.invariant.gained c.make.ensures.gained

pub loop-preserved : goal.loop-preserved
loop-preserved g c = record { gained = gained_more c.args.disk.now c.loop.disk c.make.new.disk c.loop.invariant.gained c.make.ensures.gained }
