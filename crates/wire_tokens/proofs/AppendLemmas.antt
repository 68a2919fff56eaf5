-- What writers have done, one after the other.
use Rattle.std.proofs.Common.{◌≡◌, ℕ, List, ◌++◌, length, take, drop, Result, Ok, Err, refl, sym, ap, ◌∙◌, append_assoc}
use Rattle.std.proofs.lemmas.List.{take_at, take-append-drop}
use Rattle.std.specs.Prelude.{OnOk}
use Rattle.std.specs.declared.alloc.AllocError.{AllocError}
use Rattle.wire_reader.specs.Spelling.{◌⨾◌}
use Rattle.wire_tokens.specs.Writing.{Appended, Extended}

-- a text after a text
pub then_written : {P Q : List ℕ → Type 0} {old mid new : List ℕ} → Appended P old mid → Appended Q mid new → Appended (P ⨾ Q) old new
then_written {old} a b = record {
  text = a.text ++ b.text;
  parts = b.parts ∙ ap (λ (x : List ℕ). x ++ b.text) a.parts ∙ append_assoc old a.text b.text;
  spelled = record { front = a.text; back = b.text; parts = refl; first = a.spelled; second = b.spelled };
}

-- the same text, as one of another language
pub written_as : {P Q : List ℕ → Type 0} (to : (t : List ℕ) → P t → Q t) (old new : List ℕ) (r : Result (Unit {0}) AllocError) → OnOk r (Appended P old new) → OnOk r (Appended Q old new)
written_as to old new (Ok _) a = record { text = a.text; parts = a.parts; spelled = to a.text a.spelled }
written_as to old new (Err _) a = tt

-- where a later part was written in part, what stood there at first still stands
pub still_kept : {P : List ℕ → Type 0} (old mid new : List ℕ) → Appended P old mid → take (length mid) new ≡ mid → take (length old) new ≡ old
still_kept old mid new a kept =
    let rest = drop (length mid) new in
    let whole : new ≡ old ++ (a.text ++ rest) = sym (take-append-drop (length mid) new) ∙ ap (λ (x : List ℕ). x ++ rest) (kept ∙ a.parts) ∙ append_assoc old a.text rest in
    ap (take (length old)) whole ∙ take_at old (a.text ++ rest) (length old) refl

-- ---- what stood there still stands

pub extended_kept : (old new : List ℕ) → Extended old new → take (length old) new ≡ old
extended_kept old new e = ap (take (length old)) e.parts ∙ take_at old e.text (length old) refl

pub kept_extends : (old new : List ℕ) → take (length old) new ≡ old → Extended old new
kept_extends old new h = record { text = drop (length old) new; parts = sym (take-append-drop (length old) new) ∙ ap (λ (x : List ℕ). x ++ drop (length old) new) h; spelled = tt }
