use Rattle.std.proofs.Common.{◌≡◌, ap, ◌∙◌}
use Rattle.link_face.specs.Heads.{after_event, after_space, after_word, first_word, following, third_word}
use Rattle.link_face.proofs.head.numbered.Goals as goal

pub returns : goal.returns
returns c raw star number rest =
    let from : c.after_space.result.now ≡ following (following raw) = c.after_space.ensures ∙ ap after_space rest in
    let event : c.split_word.result.0.now ≡ third_word raw = c.split_word.ensures.word ∙ ap first_word from in
    let back : c.split_word.result.1.now ≡ after_event raw = c.split_word.ensures.rest ∙ ap after_word from in
    (record { star = star; second = number; third = event }, back)
