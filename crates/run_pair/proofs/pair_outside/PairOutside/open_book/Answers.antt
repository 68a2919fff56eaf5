use Rattle.std.proofs.Common.{◌∙◌, sym, refl}
use Rattle.run_pair.specs.BookParts.{kept_of}
use Rattle.run_pair.specs.Pairs.{device_of, far_answered, near_answered}
use Rattle.run_pair.specs.Tallies.{ended, no_copies}
use Rattle.run_pair.proofs.BookCalls as books
use Rattle.run_pair.proofs.Ending.{on_ok, stuck, tally}
use Rattle.run_pair.proofs.pair_outside.PairOutside.open_book.Goals as goal

pub returns-then-is_broken-clause-call : goal.returns-then-is_broken-clause-call
returns-then-is_broken-clause-call g c = stuck _ _ _ _ _ _ _ (device_of c.args.self.now) c.args.self.now.tally (sym c.is_broken.ensures ∙ c.if-is_broken.true) tt (refl, tt)

pub returns : goal.returns
returns g c =
    let p = c.args.self.now in
    let b = c.open-answer in
    let e = c.end in
    let whole = sym c.is_broken.ensures ∙ c.if-is_broken.false in
    record {
      was_honest = λ h. (h.0, h.1, b.ensures.was_honest h.2);
      keywords = refl;
      book = on_ok _ _ b.result e.result e.ensures.same (books.is_book (far_answered p) (near_answered p) p.listed.devices (kept_of b.new.self)) b.ensures.book;
      call = books.open_ends p b.new.self e.new.self b.result e.result whole e.ensures.same e.ensures.now b.ensures.reported b.ensures.part;
      why = books.by_book p b.new.self b.result e.result whole e.ensures.same b.ensures.stops;
      tallied = tally (ended no_copies) b.result e.result p.tally e.new.self whole e.ensures.same e.ensures.now;
    }
