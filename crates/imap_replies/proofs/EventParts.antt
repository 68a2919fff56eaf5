-- The event after a number as a part of a grammar.
use Rattle.std.proofs.Common.{◌≡◌, ℕ, ◌<◌, Bool, true, false, cond, ltb, List, [], ◌∷◌, ◌++◌, length, map, Option, None, Some, refl, sym, ap, subst, ◌∙◌, inl, inr, arith}
use Rattle.std.specs.List.{list_all}
use Rattle.std.proofs.lemmas.Bool.{cases_Bool, ltb-true, lt-ltb}
use Rattle.std.proofs.lemmas.List.{length-append}
use Rattle.wire_reader.specs.declared.side.Speaker.{Speaker}
use Rattle.wire_reader.specs.Spelling.{upper, Word}
use Rattle.wire_reader.specs.Machine.{text_go}
use Rattle.wire_reader.proofs.Reader.{Open}
use Rattle.wire_reader.proofs.Part.{Part, same_part}
use Rattle.wire_tokens.specs.Atoms.{is_atom_byte, IsAtom}
use Rattle.imap_replies.specs.declared.word.EventWord.{EventWord}
use Rattle.imap_replies.specs.declared.word.EventWord.TheVariants as words
use Rattle.imap_replies.specs.declared.event.Event.{Event}
use Rattle.imap_replies.specs.declared.event.Event.TheVariants as events
use Rattle.imap_replies.specs.Words.{event_word, event_words, find_event_word}
use Rattle.imap_replies.specs.Heads.{EventText, with_message, event_by, event_of, event_at}
use Rattle.imap_replies.proofs.WordLemmas.{finds, found, find_same, word_each, word_long, lower_after}
use Rattle.imap_replies.proofs.Decided.{Decided, Text, completed, decided_part}
use Rattle.imap_replies.proofs.AtomDecided.{Short, short_went, short_goes, short_front, short_syntax}

raised : (k : EventWord) → map upper (event_word k) ≡ event_word k
raised words.Exists = refl
raised words.Expunge = refl
raised words.Fetch = refl

each_of : (k : EventWord) → list_all is_atom_byte (event_word k) ≡ true
each_of words.Exists = refl
each_of words.Expunge = refl
each_of words.Fetch = refl

long_of : (k : EventWord) → (0 < length (event_word k)) × (length (event_word k) < 255)
long_of words.Exists = (omega arith, omega arith)
long_of words.Expunge = (omega arith, omega arith)
long_of words.Fetch = (omega arith, omega arith)

finds_it : (k : EventWord) → find_event_word (event_word k) ≡ Some k
finds_it words.Exists = refl
finds_it words.Expunge = refl
finds_it words.Fetch = refl

none_after : (k : EventWord) → find_event_word (event_word k ++ 88 ∷ []) ≡ None
none_after words.Exists = refl
none_after words.Expunge = refl
none_after words.Fetch = refl

module _ (n : ℕ) where
  abbrev message_case : (ℕ → Event) → Bool → Option Event
  message_case e t = cond t (Some (e n)) None

  abbrev T : List ℕ → Event → List ℕ → Type 0
  T s a t = Text (text_go 255) (event_of n) Short short_went short_goes short_front s a t

  pub event_is : (text : List ℕ) (w : Option EventWord) → 0 < length text → find_event_word text ≡ w → event_of n text ≡ event_by n text w
  event_is [] w pos h = absurd (omega (arith, pos))
  event_is (b ∷ bs) w pos h = ap (event_by n (b ∷ bs)) h

  -- ---- a word goes on as another atom

  longer : (k : EventWord) (text : List ℕ) → Word (event_word k) text → event_of n (text ++ 88 ∷ []) ≡ Some (events.Other (text ++ 88 ∷ []))
  longer k text h =
      event_is (text ++ 88 ∷ []) None (omega (arith, length-append text (88 ∷ [])))
      (find_same event_word event_words (text ++ 88 ∷ []) (event_word k ++ 88 ∷ []) (lower_after text (event_word k) 88 h) ∙ none_after k)

  message : (k : EventWord) (e : ℕ → Event) (text : List ℕ) → find_event_word text ≡ Some k → event_of n text ≡ with_message n e → (z : List ℕ) × (a : Event) × T text a z
  message k e text f h =
      elim (cases_Bool (ltb 0 n)) [
        | inl g ↦ ([], e n, h ∙ ap (message_case e) g)
        | inr g ↦
            let w = found event_word raised event_words k text f in
            let l = word_long (event_word k) text w in
            let most = (long_of k).1 in
            completed (text_go 255) (event_of n) Short short_went short_goes short_front text (events.Other (text ++ 88 ∷ []))
            (omega (arith, l, most, length-append text (88 ∷ []))) (longer k text w)
      ]

  completes_by : (text : List ℕ) (w : Option EventWord) → 0 < length text → find_event_word text ≡ w → (z : List ℕ) × (a : Event) × T text a z
  completes_by text None pos h = ([], events.Other text, event_is text None pos h)
  completes_by text (Some words.Exists) pos h = ([], events.Exists, event_is text (Some words.Exists) pos h)
  completes_by text (Some words.Expunge) pos h = message words.Expunge (λ m. events.Expunge m) text h (event_is text (Some words.Expunge) pos h)
  completes_by text (Some words.Fetch) pos h = message words.Fetch (λ m. events.Fetch m) text h (event_is text (Some words.Fetch) pos h)

  completes : (s : List ℕ) → (z : List ℕ) × (a : Event) × T s a z
  completes [] = completed (text_go 255) (event_of n) Short short_went short_goes short_front [] (events.Other (88 ∷ [])) (omega arith) refl
  completes (b ∷ bs) = completes_by (b ∷ bs) (find_event_word (b ∷ bs)) (omega arith) refl

  -- ---- what it is

  message_to : (e : ℕ → Event) (a : Event) → with_message n e ≡ Some a → (0 < n) × (e n ≡ a)
  message_to e a h =
      elim (cases_Bool (ltb 0 n)) [
        | inl g ↦ let read : message_case e true ≡ Some a = sym (ap (message_case e) g) ∙ h in (ltb-true 0 n g, cc)
        | inr g ↦ let read : message_case e false ≡ Some a = sym (ap (message_case e) g) ∙ h in absurd cc
      ]

  to_by : (a : Event) (text : List ℕ) (w : Option EventWord) → IsAtom text → find_event_word text ≡ w → event_by n text w ≡ Some a → EventText n a text
  to_by a text None run f h = let same : events.Other text ≡ a = cc in subst (λ (x : Event). EventText n x text) same (refl, record { atom = run; other = f })
  to_by a text (Some words.Exists) run f h = let same : events.Exists ≡ a = cc in subst (λ (x : Event). EventText n x text) same (found event_word raised event_words words.Exists text f)
  to_by a text (Some words.Expunge) run f h = let m = message_to (λ m. events.Expunge m) a h in subst (λ (x : Event). EventText n x text) m.1 (refl, m.0, found event_word raised event_words words.Expunge text f)
  to_by a text (Some words.Fetch) run f h = let m = message_to (λ m. events.Fetch m) a h in subst (λ (x : Event). EventText n x text) m.1 (refl, m.0, found event_word raised event_words words.Fetch text f)

  to_event : (a : Event) (text : List ℕ) → Decided Short (event_of n) a text → EventText n a text
  to_event a [] h = absurd (none_not_some a h.is)
    where
      none_not_some : (a : Event) → (let o : Option Event = None in o ≡ Some a) → ⊥
      none_not_some a h = cc
  to_event a (b ∷ bs) h = to_by a (b ∷ bs) (find_event_word (b ∷ bs)) (record { each = h.each; some = omega arith; most = h.fits }) refl h.is

  by_word : (k : EventWord) (a : Event) (text : List ℕ) → Word (event_word k) text → event_by n text (Some k) ≡ Some a → Decided Short (event_of n) a text
  by_word k a text w h =
      let l = word_long (event_word k) text w in
      let p = long_of k in
      let pos = p.0 in
      let most = p.1 in
      record {
        each = word_each (event_word k) text w (each_of k);
        fits = omega (arith, l, most);
        is = event_is text (Some k) (omega (arith, l, pos)) (finds event_word event_words k text w ∙ finds_it k) ∙ h;
      }

  from_event : (a : Event) (text : List ℕ) → EventText n a text → Decided Short (event_of n) a text
  from_event events.Exists text h = by_word words.Exists events.Exists text h refl
  from_event (events.Expunge m) text h = subst (λ (x : ℕ). Decided Short (event_of n) (events.Expunge x) text) (sym h.0) (by_word words.Expunge (events.Expunge n) text h.2 (ap (message_case (λ m. events.Expunge m)) (lt-ltb 0 n h.1)))
  from_event (events.Fetch m) text h = subst (λ (x : ℕ). Decided Short (event_of n) (events.Fetch x) text) (sym h.0) (by_word words.Fetch (events.Fetch n) text h.2 (ap (message_case (λ m. events.Fetch m)) (lt-ltb 0 n h.1)))
  from_event (events.Other a) text h =
      let o = h.1 in
      let some = o.atom.some in
      subst (λ (x : List ℕ). Decided Short (event_of n) (events.Other a) x) (sym h.0)
      (record { each = o.atom.each; fits = o.atom.most; is = event_is a None some o.other })

  pub event_part : {side : Speaker} → Part side true (Open is_atom_byte) (EventText n) (event_at n)
  event_part {side} = same_part to_event from_event (decided_part (text_go 255) (event_of n) Short short_went short_goes short_front (omega arith) short_syntax completes)
