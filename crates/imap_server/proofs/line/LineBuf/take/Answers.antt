use Rattle.std.proofs.Common.{sym, arith}
use Rattle.std.proofs.lemmas.List.{length-take-le}
use Rattle.imap_server.proofs.UpToPlaces.{place_within}
use Rattle.imap_server.proofs.line.LineBuf.take.Goals as goal

pub slice_bounds-extend_from_slice-end : goal.slice_bounds-extend_from_slice-end
slice_bounds-extend_from_slice-end c =
    let within = place_within c.args.bytes.now c.args.self.now.scanner c.advance-place.result c.advance-place.ensures.place in
    let count = c.unwrap_or-count.ensures in
    sym (length-take-le c.unwrap_or-count.result c.args.bytes.now (omega (arith, within, count)))
