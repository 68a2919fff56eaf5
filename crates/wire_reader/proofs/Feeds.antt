-- Texts that end with a line end.
use Rattle.std.proofs.Common.{◌≡◌, ℕ, List, [], ◌∷◌, ◌++◌, sym, ap, ◌∙◌, append_assoc}
use Rattle.wire_reader.specs.Spelling.{◌⨾◌, Is, crlf}

-- the last byte is a LF
pub record EndsFeed (text : List ℕ) : Type 0 where
  pub front : List ℕ
  pub parts : text ≡ front ++ 10 ∷ []

-- a text before a line end
pub line_feed : (a text : List ℕ) → text ≡ a ++ crlf → EndsFeed text
line_feed a text e = record { front = a ++ 13 ∷ []; parts = e ∙ sym (append_assoc a (13 ∷ []) (10 ∷ [])) }

pub crlf_feed : (text : List ℕ) → Is crlf text → EndsFeed text
crlf_feed text e = line_feed [] text e

-- what stands before another text
pub then_feed : {P Q : List ℕ → Type 0} → ((s : List ℕ) → Q s → EndsFeed s) → (text : List ℕ) → (P ⨾ Q) text → EndsFeed text
then_feed q text h =
    let e = q h.back h.second in
    record { front = h.front ++ e.front; parts = h.parts ∙ ap (λ (z : List ℕ). h.front ++ z) e.parts ∙ sym (append_assoc h.front e.front (10 ∷ [])) }
