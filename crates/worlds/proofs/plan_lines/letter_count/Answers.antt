use Rattle.std.proofs.Common.{◌<◌, ◌^◌, ◌∙◌, ap, subst, sym}
use Rattle.std.specs.Prelude.{count_ones}
use Rattle.worlds.proofs.LetterLemmas.{letters-count}
use Rattle.worlds.proofs.plan_lines.letter_count.Goals as goal

pub returns : goal.returns
returns c =
    let same = c.bits.ensures.bits in
    ap count_ones same ∙ sym (letters-count c.args.flags (subst (λ n. n < 2 ^ 32) same c.bits.ensures.set))
