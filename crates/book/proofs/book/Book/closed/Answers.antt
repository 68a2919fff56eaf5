use Rattle.std.proofs.Common.{arith}
use Rattle.book.proofs.book.Book.closed.Goals as goal

pub invariant_of-result : goal.invariant_of-result
invariant_of-result g c = let first = c.none.ensures in record {
  is_whole = λ is. absurd (cc);
  holds = λ is. absurd (cc);
  fits = tt;
  sound = record {
    made = λ above. absurd (omega (arith, above, first.numbers.0));
    none = λ _. record {
      run = first.numbers.0;
      far_validity = first.numbers.1;
      near_validity = first.numbers.2;
      max_pulled = first.highest.0;
      max_pushed = first.highest.1;
      entries = first.entries;
    };
  };
  knows = λ is. absurd (cc);
}
