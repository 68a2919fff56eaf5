use Rattle.std.proofs.Common.{◌≡◌, suc, [], ◌∷◌, ◌++◌, length, ap, arith, append_assoc, rules, sym, ◌∙◌}
use Rattle.std.proofs.Output.{has_written_append, has_written_of_eq}
use Rattle.std.proofs.lemmas.Grind.{common_steps}
use Rattle.mailcore.specs.FlagNames.{letters_of}
use Rattle.worlds.proofs.LetterLemmas.{letter-written, none_left}
use Rattle.worlds.proofs.plan_lines.write_letters.Goals as goal

-- one more letter is written, as one byte
pub loop-letter-preserved : goal.loop-letter-preserved
loop-letter-preserved g c =
    let whole : c.loop-letter.yielded ++ c.in-Some.letter ∷ c.next.new.self ≡ letters_of c.args.flags = grind (arith, common_steps) in (
      append_assoc c.loop-letter.yielded (c.in-Some.letter ∷ []) c.next.new.self ∙ whole,
      (let more : c.loop-letter.left ≡ suc (length c.next.new.self) = grind (arith, common_steps) in omega (arith, more)),
      λ plain. has_written_of_eq _ _ _ _ _
          (ap (λ bytes. c.loop-letter.yielded ++ bytes) (letter-written c.args.flags c.loop-letter.yielded c.next.new.self c.in-Some.letter whole))
          (has_written_append _ _ _ _ _ _ (c.loop-letter.invariant.2 plain) (search rules)),
    )

-- the last letter is written
pub returns-then-left-eq0 : goal.returns-then-left-eq0
returns-then-left-eq0 g c plain ok =
    let whole : c.loop-letter.yielded ++ c.in-Some.letter ∷ c.next.new.self ≡ letters_of c.args.flags = grind (arith, common_steps) in
    let more : c.loop-letter.left ≡ suc (length c.next.new.self) = grind (arith, common_steps) in
    let none = c.if-left-eq0.true in
    let last : c.next.new.self ≡ [] = none_left c.next.new.self (omega (arith, more, none)) in
    has_written_of_eq _ _ _ _ _
    (ap (λ bytes. c.loop-letter.yielded ++ bytes) (letter-written c.args.flags c.loop-letter.yielded c.next.new.self c.in-Some.letter whole)
    ∙ ap (λ later. c.loop-letter.yielded ++ c.in-Some.letter ∷ later) (sym last) ∙ whole)
    (has_written_append _ _ _ _ _ _ (c.loop-letter.invariant.2 plain) (search rules))
