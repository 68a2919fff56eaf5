-- A text of one language as a text of a wider one, part by part; for what writers write in one form.
use Rattle.std.proofs.Common.{◌≡◌, ℕ, List, map, ap, ◌∙◌}
use Rattle.wire_reader.specs.Spelling.{◌⨾◌, Is, Word, upper}

-- the parts, each as one of another language
pub on_both : {P Q R S : List ℕ → Type 0} → ((t : List ℕ) → P t → R t) → ((t : List ℕ) → Q t → S t) → (t : List ℕ) → (P ⨾ Q) t → (R ⨾ S) t
on_both f g t h = record { front = h.front; back = h.back; parts = h.parts; first = f h.front h.first; second = g h.back h.second }

pub on_first : {P Q R : List ℕ → Type 0} → ((t : List ℕ) → P t → R t) → (t : List ℕ) → (P ⨾ Q) t → (R ⨾ Q) t
on_first f t h = record { front = h.front; back = h.back; parts = h.parts; first = f h.front h.first; second = h.second }

pub on_second : {P Q S : List ℕ → Type 0} → ((t : List ℕ) → Q t → S t) → (t : List ℕ) → (P ⨾ Q) t → (P ⨾ S) t
on_second g t h = record { front = h.front; back = h.back; parts = h.parts; first = h.first; second = g h.back h.second }

-- a word in upper case is one in any case
pub in_any_case : (w : List ℕ) → map upper w ≡ w → (t : List ℕ) → Is w t → Word w t
in_any_case w up t e = ap (map upper) e ∙ up
