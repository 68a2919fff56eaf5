use Rattle.std.proofs.Common.{◌∙◌, sym, inl, inr, refl}
use Rattle.book.specs.Commits.{CommitsHalf, CommitsTo}
use Rattle.outside.specs.Calls.{FromBook}
use Rattle.run_pair.specs.BookParts.{kept_of}
use Rattle.run_pair.specs.Parts.{answered}
use Rattle.run_pair.specs.Pairs.{device_of, far_answered, near_answered}
use Rattle.run_pair.proofs.BookCalls as books
use Rattle.run_pair.proofs.GoingOn.{commits}
use Rattle.run_pair.proofs.Ending.{at_ok, on_ok, stuck}
use Rattle.run_pair.proofs.pair_outside.PairOutside.commit.Goals as goal

pub returns-then-is_broken-clause-call : goal.returns-then-is_broken-clause-call
returns-then-is_broken-clause-call g c = stuck _ _ _ _ _ _ _ (device_of c.args.self.now) c.args.self.now.tally (sym c.is_broken.ensures ∙ c.if-is_broken.true) tt (inl refl)

pub commit_synced-answer-requires : goal.commit_synced-answer-requires
commit_synced-answer-requires g c =
    let p = c.args.self.now in
    let whole = sym c.is_broken.ensures ∙ c.if-is_broken.false in
    record { side = p.near_is; whole = p.near_whole whole; ready = p.book_whole whole; takes = books.takes_commit (far_answered p) (near_answered p) p.listed.devices (kept_of p.book) c.requires.takes }

pub returns : goal.returns
returns g c =
    let p = c.args.self.now in
    let b = c.commit_synced-answer in
    let e = c.end in
    let whole = sym c.is_broken.ensures ∙ c.if-is_broken.false in
    let ends = books.book_ends p (CommitsTo) (CommitsHalf) FromBook b.new.near b.new.book e.new.self b.result e.result (commits (kept_of p.book)) whole e.ensures.same e.ensures.now b.ensures.reported b.ensures.arrives b.ensures.part b.ensures.book_was_honest in
    record {
      was_honest = λ h. (h.0, b.ensures.was_honest h.1, b.ensures.book_was_honest h.2);
      keywords = refl;
      opened = on_ok _ _ b.result e.result e.ensures.same (λ h. rw b.ensures.open (books.are_committed (far_answered p) (near_answered p) p.listed.devices (kept_of p.book) (kept_of b.new.book) h)) b.ensures.kept;
      call = ends.call;
      why = λ is. inr (b.ensures.cause (sym e.ensures.same ∙ is));
      tallied = ends.tallied;
      held = λ is h. books.is_held (far_answered p) (answered (g.N.Mailbox.is_open b.new.near) p.near_validities.items) p.listed.devices (kept_of b.new.book) _ ((at_ok tt b.result (sym e.ensures.same ∙ is) b.ensures.held) h.2);
      synced = b.ensures.synced;
    }
