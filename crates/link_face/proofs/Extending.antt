-- Texts to which others are appended.
use Rattle.std.proofs.Common.{◌≡◌, ℕ, List, [], ◌∷◌, ◌++◌, codes, Result, Ok, Err, refl, sym, ap, ◌∙◌, append_assoc}
use Rattle.std.proofs.lemmas.List.{append-nil}
use Rattle.std.specs.Prelude.{OnOk}
use Rattle.std.specs.declared.alloc.AllocError.{AllocError}
use Rattle.wire_reader.specs.Spelling.{Is, crlf}
use Rattle.wire_tokens.specs.Writing.{Appended, Extended}
use Rattle.link_face.specs.Heads.{BeginsWith}
use Rattle.wire_tokens.proofs.WritingLemmas.{extended_twice}
use Rattle.link_face.proofs.HeadLemmas.{more_after, begun_status}

pub unextended : (out : List ℕ) → Extended out out
unextended out = record { text = []; parts = sym (append-nil out); spelled = tt }

pub pushed_extends : (old mid new : List ℕ) (b : ℕ) → Extended old mid → new ≡ mid ++ b ∷ [] → Extended old new
pushed_extends old mid new b e n = record {
  text = e.text ++ b ∷ [];
  parts = n ∙ (ap (λ (l : List ℕ). l ++ b ∷ []) e.parts ∙ append_assoc old e.text (b ∷ []));
  spelled = tt;
}

pub is_extends : (text old new : List ℕ) → Appended (Is text) old new → Extended old new
is_extends text old new a = record { text = a.text; parts = a.parts; spelled = tt }

pub is_extends_if : (text old new : List ℕ) (result : Result (Unit {0}) AllocError) → OnOk result (Appended (Is text) old new) → OnOk result (Extended old new)
is_extends_if text old new (Ok _) a = is_extends text old new a
is_extends_if text old new (Err _) a = tt

pub then_is : (text old mid new : List ℕ) → Extended old mid → Appended (Is text) mid new → Extended old new
then_is text old mid new e a = record {
  text = e.text ++ a.text;
  parts = a.parts ∙ (ap (λ (l : List ℕ). l ++ a.text) e.parts ∙ append_assoc old e.text a.text);
  spelled = tt;
}

pub then_is_if : (text old mid new : List ℕ) (result : Result (Unit {0}) AllocError) → Extended old mid → OnOk result (Appended (Is text) mid new) → OnOk result (Extended old new)
then_is_if text old mid new (Ok _) e a = then_is text old mid new e a
then_is_if text old mid new (Err _) e a = tt

-- ---- after the words at the front

pub begins_just : (front out : List ℕ) → out ≡ front → BeginsWith front out
begins_just front out e = record { rest = []; parts = e ∙ sym (append-nil front); ends = refl }

pub begins_more : (front old new text : List ℕ) → BeginsWith front old → new ≡ old ++ 32 ∷ text → BeginsWith front new
begins_more front old new text b n = more_after front old new (32 ∷ text) b refl n

pub begins_ended : (front old new : List ℕ) → BeginsWith front old → Appended (Is crlf) old new → BeginsWith front new
begins_ended front old new b a = more_after front old new crlf b refl (a.parts ∙ ap (λ (l : List ℕ). old ++ l) a.spelled)

pub begun_extends : (front rest old new : List ℕ) → old ≡ front ++ 32 ∷ rest → Extended old new → BeginsWith front new
begun_extends front rest old new o e = record {
  rest = 32 ∷ (rest ++ e.text);
  parts = e.parts ∙ (ap (λ (l : List ℕ). l ++ e.text) o ∙ append_assoc front (32 ∷ rest) e.text);
  ends = refl;
}

pub begun_text : (tag word old new : List ℕ) → old ≡ tag ++ 32 ∷ (word ++ 32 ∷ []) → Extended old new → BeginsWith (tag ++ 32 ∷ word) new
begun_text tag word old new o e = begun_status tag word old new e.text o e.parts

pub then_extended_if : (old mid new : List ℕ) (result : Result (Unit {0}) AllocError) → Extended old mid → OnOk result (Extended mid new) → OnOk result (Extended old new)
then_extended_if old mid new (Ok _) e f = extended_twice old mid new e f
then_extended_if old mid new (Err _) e f = tt

pub then_extended : (old mid new : List ℕ) → Extended old mid → Extended mid new → Extended old new
then_extended old mid new e f = extended_twice old mid new e f

pub then_appended : (P : List ℕ → Type 0) (old mid new : List ℕ) → Extended old mid → Appended P mid new → Extended old new
then_appended P old mid new e a = extended_twice old mid new e (record { text = a.text; parts = a.parts; spelled = tt })

pub appended_extends_if : (P : List ℕ → Type 0) (old new : List ℕ) (result : Result (Unit {0}) AllocError) → OnOk result (Appended P old new) → OnOk result (Extended old new)
appended_extends_if P old new (Ok _) a = record { text = a.text; parts = a.parts; spelled = tt }
appended_extends_if P old new (Err _) a = tt

-- ---- texts of their own

pub list_begun : (old new : List ℕ) → old ≡ codes "* LIST () " → Extended old new → BeginsWith (codes "* LIST") new
list_begun old new o e = begun_extends (codes "* LIST") (codes "() ") old new o e

pub flags_begun : (flags old mid new : List ℕ) → old ≡ codes "* FLAGS " → Appended (Is flags) old mid → Appended (Is crlf) mid new → BeginsWith (codes "* FLAGS") new
flags_begun flags old mid new o e a = begun_extends (codes "* FLAGS") [] old new o (then_is crlf old mid new (is_extends flags old mid e) a)

pub counted_begun : (number event new : List ℕ) → new ≡ codes "* " ++ (number ++ 32 ∷ (event ++ crlf)) → BeginsWith (codes "* " ++ (number ++ 32 ∷ event)) new
counted_begun number event new e = record {
  rest = crlf;
  parts = e ∙ sym (append_assoc (codes "* ") (number ++ 32 ∷ event) crlf ∙ ap (λ (l : List ℕ). codes "* " ++ l) (append_assoc number (32 ∷ event) crlf));
  ends = refl;
}
