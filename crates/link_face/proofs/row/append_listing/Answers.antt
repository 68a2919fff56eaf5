use Rattle.link_face.proofs.RowLemmas.{listing_written}
use Rattle.link_face.proofs.row.append_listing.Goals as goal

pub returns : goal.returns
returns c read =
    listing_written c.args.flags.now c.in-Some-Some.words.now c.args.size.now _ _ _ _ _ c.in-Some-Some.size c.in-Some-Some.ensures c.in-Some-Some.ensures'
    c.in_ok-append.ensures.ok c.in_ok-append_flags.ensures c.in_ok-append-2.ensures.ok c.in_ok-write_number.ensures.ok
