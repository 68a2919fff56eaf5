use Rattle.book.proofs.book.Book.enter.Goals as goal

pub invariant_of-self-2 : goal.invariant_of-self-2
invariant_of-self-2 g c = let read = c.in_ok-state.ensures in record {
  is_whole = λ _. read.unstopped.is_whole;
  holds = λ _ honest. read.holds honest;
  fits = read.fits;
  sound = read.sound;
  knows = λ _. read.knows;
}
