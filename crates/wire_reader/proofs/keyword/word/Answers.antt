use Rattle.std.proofs.Common.{◌≡◌, ◌<◌, ℕ, List, [], ◌∷◌, length, drop, None, Err, sym, ap, ◌∙◌, arith}
use Rattle.std.proofs.lemmas.List.{nil_from_length, at_drop_more}
use Rattle.wire_reader.specs.declared.stop.Stop.TheVariants.{Ends}
use Rattle.wire_reader.specs.Words.{word_at}
use Rattle.wire_reader.proofs.keyword.word.Goals as goal

-- a word of which bytes are left does not go on where the bytes end
ends_there : (word rest : List ℕ) (i : ℕ) → i < length word → rest ≡ [] → word_at (drop i word) rest ≡ Err (Ends None)
ends_there word rest i lt e = at_drop_more (λ (w : List ℕ). word_at w rest) word i 0 lt ∙ ap (word_at (_ ∷ drop _ word)) e

pub returns-in-empty : goal.returns-in-empty
returns-in-empty c =
    sym c.loop-c.invariant ∙ ends_there c.args.word.now c.loop-c.rest.now c.loop-c.c-index c.loop-c-test.true (nil_from_length _ (omega arith))
