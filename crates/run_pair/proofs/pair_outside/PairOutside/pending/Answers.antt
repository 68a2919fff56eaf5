use Rattle.std.proofs.Common.{◌∙◌}
use Rattle.run_pair.specs.Pairs.{far_answered, near_answered}
use Rattle.run_pair.specs.BookParts.{kept_of}
use Rattle.run_pair.proofs.BookCalls as books
use Rattle.run_pair.proofs.pair_outside.PairOutside.pending.Goals as goal

pub pending-requires : goal.pending-requires
pending-requires g c =
    let p = c.args.self.now in
    record { read = books.is_read (far_answered p) (near_answered p) p.listed.devices (kept_of p.book) c.requires.read }

pub returns : goal.returns
returns g c =
    let p = c.args.self.now in
    c.pending.ensures ∙ books.journal_is (far_answered p) (near_answered p) p.listed.devices (kept_of p.book)
