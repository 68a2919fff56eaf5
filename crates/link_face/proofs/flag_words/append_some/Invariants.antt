use Rattle.std.proofs.Common.{◌≡◌, ◌++◌, ◌∷◌, map}
use Rattle.link_face.specs.FlagWords.{kept_of}
use Rattle.link_face.proofs.FlagLemmas.{gap}
use Rattle.link_face.proofs.flag_words.append_some.Given as goal

abbrev pub invariant-loop-word : goal.invariant-loop-word
invariant-loop-word l = record {
  text : l.out.items ≡ l.fn.out.items ++ 40 ∷ kept_of l.takes_star (map (λ w. w.now) l.yielded);
  space : l.space ≡ gap (kept_of l.takes_star (map (λ w. w.now) l.yielded));
}
