-- What a client hears instead of a reply begins as the reply.
use Rattle.std.proofs.Common.{◌≡◌, ◌≢◌, ◌⊎◌, inl, inr, ℕ, true, false, List, [], ◌∷◌, ◌++◌, map, codes, Option, None, Some, Vec, Result, Ok, Err, IfOk, IfSome, refl, sym, ap, subst, ◌∙◌}
use Rattle.std.specs.Global.{Global}
use Rattle.std.specs.Char.{to_ascii_lowercase}
use Rattle.std.specs.declared.alloc.AllocError.{AllocError}
use Rattle.link_face.specs.declared.turning.Turn.{Turn}
use Rattle.link_face.specs.declared.turning.Turn.TheVariants.{Keep, Replace, Omit, Stop}
use Rattle.link_face.specs.Heads.{first_word, second_word, after_event, is_number, asks, SameWord, BeginsWith, KeepsWords, IsTagged, IsUntagged, IsStatus, IsNumbered, GivesSome, HasFront, HasEvent}
use Rattle.link_face.proofs.HeadLemmas.{untagged_same, status_same, numbered_same}

some_is : (x y : Vec ℕ Global) → Some x ≡ Some y → x ≡ y
some_is x y e = cc

none_is_some : (x : Vec ℕ Global) (A : Type 0) → (let o : Option (Vec ℕ Global) = None in o) ≡ Some x → A
none_is_some x A e = absurd (cc)

-- ---- texts that were given

given : (front : List ℕ) (text : Option (Vec ℕ Global)) (turn : Turn) → IfSome text (λ out. BeginsWith front out.items) → GivesSome text turn → HasFront front turn
given front text Keep b g = g
given front (Some out) (Replace bytes) b g = subst (λ (v : Vec ℕ Global). BeginsWith front v.items) (some_is out bytes g) b
given front None (Replace bytes) b g = none_is_some bytes _ g
given front text Omit b g = tt
given front text Stop b g = tt

pub bytes_given_if : (front : List ℕ) (out : Vec ℕ Global) (result : Result Turn AllocError) → BeginsWith front out.items → IfOk result (GivesSome (Some out)) → IfOk result (HasFront front)
bytes_given_if front out (Ok turn) b g = given front (Some out) turn b g
bytes_given_if front out (Err e) b g = tt

-- ---- each begins as the reply

untagged : (raw word : List ℕ) (turn : Turn) → IsUntagged raw word → HasFront (codes "* " ++ word) turn → KeepsWords raw turn
untagged raw word Keep h f = tt
untagged raw word (Replace bytes) h f = untagged_same raw bytes.items word h f
untagged raw word Omit h f = tt
untagged raw word Stop h f = tt

pub untagged_kept : (raw word : List ℕ) (text : Option (Vec ℕ Global)) (result : Result Turn AllocError) → IsUntagged raw word
    → IfSome text (λ out. BeginsWith (codes "* " ++ word) out.items) → IfOk result (GivesSome text) → IfOk result (KeepsWords raw)
untagged_kept raw word text (Ok turn) h b g = untagged raw word turn h (given (codes "* " ++ word) text turn b g)
untagged_kept raw word text (Err e) h b g = tt

status : (raw tag word : List ℕ) (turn : Turn) → IsStatus raw tag word → HasFront (tag ++ 32 ∷ word) turn → KeepsWords raw turn
status raw tag word Keep h f = tt
status raw tag word (Replace bytes) h f = status_same raw bytes.items tag word h f
status raw tag word Omit h f = tt
status raw tag word Stop h f = tt

pub status_kept : (raw tag word : List ℕ) (result : Result Turn AllocError) → IsStatus raw tag word → IfOk result (HasFront (tag ++ 32 ∷ word)) → IfOk result (KeepsWords raw)
status_kept raw tag word (Ok turn) h f = status raw tag word turn h f
status_kept raw tag word (Err e) h f = tt

numbered : (raw number event word : List ℕ) (turn : Turn) → IsNumbered raw number event → SameWord word event → HasFront (codes "* " ++ (number ++ 32 ∷ word)) turn → KeepsWords raw turn
numbered raw number event word Keep h s f = tt
numbered raw number event word (Replace bytes) h s f = numbered_same raw bytes.items number event word h s f
numbered raw number event word Omit h s f = tt
numbered raw number event word Stop h s f = tt

pub numbered_kept : (raw number event items : List ℕ) (result : Result Turn AllocError) → IsNumbered raw number event × (items ≡ after_event raw) → IfOk result (HasEvent number event) → IfOk result (KeepsWords raw)
numbered_kept raw number event items (Ok turn) h f = numbered raw number event f.0 turn h.0 f.1 f.2
numbered_kept raw number event items (Err e) h f = tt

asking : (raw : List ℕ) (out : Vec ℕ Global) (turn : Turn) → asks raw ≡ true → out.items ≡ codes "+ go\r\n" → GivesSome (Some out) turn → KeepsWords raw turn
asking raw out Keep a e g = tt
asking raw out (Replace bytes) a e g = inl (a, ap (λ (v : Vec ℕ Global). asks v.items) (sym (some_is out bytes g)) ∙ ap asks e)
asking raw out Omit a e g = tt
asking raw out Stop a e g = tt

pub asking_kept : (raw : List ℕ) (out : Vec ℕ Global) (result : Result Turn AllocError) → asks raw ≡ true → out.items ≡ codes "+ go\r\n" → IfOk result (GivesSome (Some out)) → IfOk result (KeepsWords raw)
asking_kept raw out (Ok turn) a e g = asking raw out turn a e g
asking_kept raw out (Err f) a e g = tt

-- ---- a number and its event

pub event_given : (number event : List ℕ) (text : Option (Vec ℕ Global)) (result : Result Turn AllocError)
    → IfSome text (λ out. BeginsWith (codes "* " ++ (number ++ 32 ∷ event)) out.items) → IfOk result (GivesSome text) → IfOk result (HasEvent number event)
event_given number event text (Ok turn) b g = (event, refl, given (codes "* " ++ (number ++ 32 ∷ event)) text turn b g)
event_given number event text (Err e) b g = tt

pub fetch_given : (number event : List ℕ) (result : Result Turn AllocError) → map to_ascii_lowercase event ≡ map to_ascii_lowercase (codes "FETCH")
    → IfOk result (HasFront (codes "* " ++ (number ++ codes " FETCH"))) → IfOk result (HasEvent number event)
fetch_given number event (Ok turn) s f = (codes "FETCH", sym s, f)
fetch_given number event (Err e) s f = tt

-- ---- a tagged reply is no other one

pub no_star : (raw : List ℕ) (result : Result Turn AllocError) → IsTagged raw → first_word raw ≡ codes "*" → IfOk result (λ (turn : Turn). turn ≢ Omit)
no_star raw result t s = absurd (t.no_star s)

pub no_other : (raw : List ℕ) (result : Result Turn AllocError) → IsTagged raw → ((first_word raw ≡ codes "*") × (is_number (second_word raw) ≡ false)) ⊎ (first_word raw ≡ []) → IfOk result (λ (turn : Turn). turn ≢ Omit)
no_other raw result t (inl s) = absurd (t.no_star s.0)
no_other raw result t (inr s) = absurd (t.some s)
