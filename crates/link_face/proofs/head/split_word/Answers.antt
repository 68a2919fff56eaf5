use Rattle.std.proofs.Common.{◌≡◌, ℕ, Option, length, take, drop, ap, ◌∙◌}
use Rattle.std.specs.Prelude.{unwrap_or}
use Rattle.link_face.specs.Heads.{first_word}
use Rattle.link_face.proofs.HeadLemmas.{word_end, front_is, rest_is}
use Rattle.link_face.proofs.head.split_word.Goals as goal

pub returns-clause-word : goal.returns-clause-word
returns-clause-word c =
    let bytes = c.args.bytes.now in
    let end : c.unwrap_or-len.result ≡ length (first_word bytes) = c.unwrap_or-len.ensures ∙ (ap (λ (o : Option ℕ). unwrap_or o (length bytes)) c.first_gap.ensures.place ∙ word_end bytes) in
    c.split_at.ensures.front ∙ (ap (λ (n : ℕ). take n bytes) end ∙ front_is bytes)

pub returns-clause-rest : goal.returns-clause-rest
returns-clause-rest c =
    let bytes = c.args.bytes.now in
    let end : c.unwrap_or-len.result ≡ length (first_word bytes) = c.unwrap_or-len.ensures ∙ (ap (λ (o : Option ℕ). unwrap_or o (length bytes)) c.first_gap.ensures.place ∙ word_end bytes) in
    c.split_at.ensures.back ∙ (ap (λ (n : ℕ). drop n bytes) end ∙ rest_is bytes)
