use Rattle.run_pair.specs.Pairs.{far_answered, near_answered}
use Rattle.run_pair.specs.BookParts.{kept_of}
use Rattle.run_pair.proofs.BookCalls as books
use Rattle.run_pair.proofs.pair_outside.PairOutside.state.Goals as goal

pub state-requires : goal.state-requires
state-requires g c =
    let p = c.args.self.now in
    record { read = books.is_read (far_answered p) (near_answered p) p.listed.devices (kept_of p.book) c.requires.read }

pub returns-clause-state : goal.returns-clause-state
returns-clause-state g c =
    let p = c.args.self.now in
    books.state_is (far_answered p) (near_answered p) p.listed.devices (kept_of p.book) _ c.state.ensures.state
