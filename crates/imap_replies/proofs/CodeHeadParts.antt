-- The word of a response code as a part of a grammar.
use Rattle.std.proofs.Common.{◌≡◌, ℕ, ◌<◌, true, ltb, List, [], ◌∷◌, length, map, Option, None, Some, refl, sym, ap, subst, ◌∙◌, arith}
use Rattle.std.specs.List.{list_all}
use Rattle.std.proofs.lemmas.Bool.{ltb-true}
use Rattle.wire_reader.specs.declared.side.Speaker.{Speaker}
use Rattle.wire_reader.specs.Spelling.{upper}
use Rattle.wire_reader.specs.Machine.{text_go}
use Rattle.wire_reader.proofs.Reader.{Open}
use Rattle.wire_reader.proofs.Part.{Part, same_part}
use Rattle.wire_tokens.specs.Atoms.{is_atom_byte, IsAtom}
use Rattle.imap_replies.specs.declared.word.CodeWord.{CodeWord}
use Rattle.imap_replies.specs.declared.word.CodeWord.TheVariants as words
use Rattle.imap_replies.specs.declared.code_head.CodeHead.{CodeHead}
use Rattle.imap_replies.specs.declared.code_head.CodeHead.TheVariants as heads
use Rattle.imap_replies.specs.Words.{code_word, all_code_words, find_code_word}
use Rattle.imap_replies.specs.Heads.{CodeHeadText, code_by, code_of, code_head_at}
use Rattle.imap_replies.proofs.WordLemmas.{finds, found, word_each, word_long}
use Rattle.imap_replies.proofs.Decided.{Decided, Text, completed, decided_part}
use Rattle.imap_replies.proofs.AtomDecided.{Short, short_went, short_goes, short_front, short_syntax}

raised : (k : CodeWord) → map upper (code_word k) ≡ code_word k
raised words.UidNext = refl
raised words.UidValidity = refl
raised words.PermanentFlags = refl
raised words.AppendUid = refl
raised words.ReadOnly = refl
raised words.ReadWrite = refl

finds_it : (k : CodeWord) → find_code_word (code_word k) ≡ Some k
finds_it words.UidNext = refl
finds_it words.UidValidity = refl
finds_it words.PermanentFlags = refl
finds_it words.AppendUid = refl
finds_it words.ReadOnly = refl
finds_it words.ReadWrite = refl

record IsShortWord (w : List ℕ) : Type 0 where
  each : list_all is_atom_byte w ≡ true
  some : ltb 0 (length w) ≡ true
  most : ltb (length w) 255 ≡ true

word_is : (k : CodeWord) → IsShortWord (code_word k)
word_is words.UidNext = record { each = refl; some = refl; most = refl }
word_is words.UidValidity = record { each = refl; some = refl; most = refl }
word_is words.PermanentFlags = record { each = refl; some = refl; most = refl }
word_is words.AppendUid = record { each = refl; some = refl; most = refl }
word_is words.ReadOnly = record { each = refl; some = refl; most = refl }
word_is words.ReadWrite = record { each = refl; some = refl; most = refl }

pub code_is : (text : List ℕ) → 0 < length text → code_of text ≡ Some (code_by text (find_code_word text))
code_is [] pos = absurd (omega (arith, pos))
code_is (b ∷ bs) pos = refl

abbrev T : List ℕ → CodeHead → List ℕ → Type 0
T s a t = Text (text_go 255) code_of Short short_went short_goes short_front s a t

completes : (s : List ℕ) → (z : List ℕ) × (a : CodeHead) × T s a z
completes [] = completed (text_go 255) code_of Short short_went short_goes short_front [] (heads.Other (88 ∷ [])) (omega arith) refl
completes (b ∷ bs) = ([], code_by (b ∷ bs) (find_code_word (b ∷ bs)), refl)

none_of : (a : CodeHead) → (let o : Option CodeHead = None in o ≡ Some a) → ⊥
none_of a h = cc

some_of : (a b : CodeHead) → Some a ≡ Some b → a ≡ b
some_of a b h = cc

to_by : (a : CodeHead) (text : List ℕ) (w : Option CodeWord) → IsAtom text → find_code_word text ≡ w → code_by text w ≡ a → CodeHeadText a text
to_by a text None i f h = subst (λ (x : CodeHead). CodeHeadText x text) h (refl, record { atom = i; other = f })
to_by a text (Some k) i f h = subst (λ (x : CodeHead). CodeHeadText x text) h (found code_word raised all_code_words k text f)

to_code : (a : CodeHead) (text : List ℕ) → Decided Short code_of a text → CodeHeadText a text
to_code a [] h = absurd (none_of a h.is)
to_code a (b ∷ bs) h = to_by a (b ∷ bs) (find_code_word (b ∷ bs)) (record { each = h.each; some = omega arith; most = h.fits }) refl (some_of _ _ h.is)

from_code : (a : CodeHead) (text : List ℕ) → CodeHeadText a text → Decided Short code_of a text
from_code (heads.Known k) text h =
    let w = word_is k in
    let l = word_long (code_word k) text h in
    let pos = ltb-true _ _ w.some in
    let most = ltb-true _ _ w.most in
    record {
      each = word_each (code_word k) text h w.each;
      fits = omega (arith, l, most);
      is = code_is text (omega (arith, l, pos)) ∙ ap (λ (o : Option CodeWord). Some (code_by text o)) (finds code_word all_code_words k text h ∙ finds_it k);
    }
from_code (heads.Other a) text h =
    let o = h.1 in
    subst (λ (x : List ℕ). Decided Short code_of (heads.Other a) x) (sym h.0)
    (record { each = o.atom.each; fits = o.atom.most; is = code_is a o.atom.some ∙ ap (λ (w : Option CodeWord). Some (code_by a w)) o.other })

pub code_head_part : {side : Speaker} → Part side true (Open is_atom_byte) CodeHeadText code_head_at
code_head_part {side} = same_part to_code from_code (decided_part (text_go 255) code_of Short short_went short_goes short_front (omega arith) short_syntax completes)
