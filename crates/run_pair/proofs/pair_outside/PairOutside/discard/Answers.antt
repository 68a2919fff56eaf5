use Rattle.std.proofs.Common.{◌∙◌, sym, inl, refl}
use Rattle.book.specs.Books.{Turns, TurnsHalf}
use Rattle.book.specs.declared.book.Pending.TheVariants.{Missing}
use Rattle.outside.specs.Calls.{FromBook}
use Rattle.run_pair.specs.BookParts.{kept_of}
use Rattle.run_pair.specs.Pairs.{device_of, far_answered, near_answered}
use Rattle.run_pair.proofs.BookCalls as books
use Rattle.run_pair.proofs.GoingOn.{discards}
use Rattle.run_pair.proofs.Ending.{on_ok, stuck}
use Rattle.run_pair.proofs.pair_outside.PairOutside.discard.Goals as goal

pub returns-then-is_broken-clause-call : goal.returns-then-is_broken-clause-call
returns-then-is_broken-clause-call g c = stuck _ _ _ _ _ _ _ (device_of c.args.self.now) c.args.self.now.tally (sym c.is_broken.ensures ∙ c.if-is_broken.true) tt (inl refl)

pub discard-answer-requires : goal.discard-answer-requires
discard-answer-requires g c =
    let p = c.args.self.now in
    record { read = books.discard_read (far_answered p) (near_answered p) p.listed.devices (kept_of p.book) c.requires.takes }

pub returns : goal.returns
returns g c =
    let p = c.args.self.now in
    let b = c.discard-answer in
    let e = c.end in
    let whole = sym c.is_broken.ensures ∙ c.if-is_broken.false in
    let ends = books.book_ends p (λ p. Turns p Missing) (λ p. TurnsHalf p Missing) FromBook p.near b.new.self e.new.self b.result e.result (discards (far_answered p) (near_answered p) p.listed.devices (kept_of p.book) c.requires.takes) whole e.ensures.same e.ensures.now b.ensures.reported (books.near_stays p) (λ _. b.ensures.part) b.ensures.was_honest in
    record {
      was_honest = λ h. (h.0, h.1, b.ensures.was_honest h.2);
      keywords = refl;
      opened = on_ok _ _ b.result e.result e.ensures.same (books.is_turned (far_answered p) (near_answered p) p.listed.devices (λ _. Missing) (kept_of p.book) (kept_of b.new.self)) b.ensures.kept;
      call = ends.call;
      why = books.by_book p b.new.self b.result e.result whole e.ensures.same b.ensures.stops;
      tallied = ends.tallied;
    }
