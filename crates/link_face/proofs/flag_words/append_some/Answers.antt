use Rattle.std.proofs.Common.{rules, tests}
use Rattle.wire_tokens.specs.Names.{is_space, names_of}
use Rattle.link_face.proofs.FlagLemmas.{all_parts, text_ends_if}
use Rattle.link_face.proofs.flag_words.append_some.Goals as goal

pub returns : goal.returns
returns c =
    let split = c.split-word-items.ensures in
    text_ends_if c.args.takes_star (names_of c.args.words.now) c.loop-word.yielded c.args.out.now.items c.loop-word.out.items _ _
    (all_parts c.split-word-items.result c.into_iter-word-iterator.result _ is_space c.args.words.now c.into_iter-word-iterator.ensures.into_iter_gives split.rest split.done split.closure c.loop-word.yielded _ c.loop-word.yielded_by _ _ c.in-None.is c.next.ensures.steps
    (λ x b q k. search (rules, tests)))
    c.loop-word.invariant.text c.append-2.ensures.ok
