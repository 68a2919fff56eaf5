use Rattle.std.proofs.Common.{◌≡◌, ap, sym}
use Rattle.book.specs.DiskShelves.{file_name, seen_on_disk}
use Rattle.device.proofs.Reporting.{Reported}
use Rattle.book.proofs.DiskShelfLemmas.{remove_called}
use Rattle.book.proofs.disk_shelf.DiskShelfShelf.remove.Goals as goal

pub returns-clause-call : goal.returns-clause-call
returns-clause-call g c =
    let of = c.report-answer.ensures in
    let did = c.remove-answer.ensures in
    let reported : Reported c.remove-answer.result c.report-answer.result c.remove-answer.new.self c.report-answer.new.self =
    record { answer_is = of.answer; ok = of.ok; calls = of.calls; broken = of.broken; counted = of.counted; no_less = of.no_less } in
    rw (c.note.ensures, ← c.self.view_is)
    (remove_called c.args.file c.name_of.result.now c.self.inside.disk c.remove-answer.new.self c.report-answer.new.self
    c.remove-answer.result c.report-answer.result c.name_of.ensures c.in_ok-check.ensures.whole did.touches did.ok did.err reported)
