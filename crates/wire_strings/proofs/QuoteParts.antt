-- Quoted strings as parts of a grammar.
use Rattle.std.proofs.Common.{◌≡◌, ◌<◌, ◌+◌, ℕ, get_or, take, drop, length, Ok, Bool, true, false, cond, eqb, ◌||◌, List, [], ◌∷◌, ◌++◌, None, refl, sym, ap, subst, ◌∙◌, append_assoc, inl, inr}
use Rattle.std.specs.List.{list_all, flat_map}
use Rattle.std.proofs.lemmas.Bool.{cases_Bool, true≢false, false≢true, eqb-true, and_parts, and_from}
use Rattle.std.proofs.lemmas.List.{append-nil, drop_more}
use Rattle.wire_reader.specs.declared.side.Speaker.{Speaker}
use Rattle.wire_reader.specs.declared.side.Speaker.TheVariants.{Commands}
use Rattle.wire_reader.specs.declared.lexical.Phase.{Phase}
use Rattle.wire_reader.specs.declared.lexical.Phase.TheVariants.{Plain, Return, In}
use Rattle.wire_reader.specs.declared.stop.Kind.{Kind}
use Rattle.wire_reader.specs.declared.stop.Kind.TheVariants.{Syntax}
use Rattle.wire_reader.specs.Lexical.{next, is_in, asked, kind_of}
use Rattle.wire_reader.specs.Machine.{On, Take, Odd, ScanText, scan}
use Rattle.wire_reader.proofs.Reader.{Closed}
use Rattle.wire_reader.proofs.Parts.{after_closed}
use Rattle.wire_reader.proofs.Part.{Part, same_part, mapped_part, skip_part, byte_part}
use Rattle.wire_reader.proofs.PartTokens.{scan_part}
use Rattle.wire_reader.proofs.Texty.{texty, texty-next, texty-asked, texty-out, texty-kind, texty-quote}
use Rattle.wire_strings.specs.Texts.{is_text}
use Rattle.wire_strings.specs.Quotes.{is_special, escaped, RawOf, IsRaw, RawText, QuotedText, unescaped_from, unescaped, raw_step, raw_rest, raw_at, quoted_at}
use Rattle.wire_strings.proofs.TextParts.{no_text, no_cr}
use Rattle.wire_strings.proofs.QuoteSteps.{RawStep, Closes, Escapes, Stands, Refuses, Follows, Lacks, stepped, on_is, on_not_take, on_not_odd, take_is, take_not_odd, odd_is, odd_not_on, odd_not_take}

abbrev escapes : List ℕ → List ℕ
escapes value = flat_map escaped value

-- ---- the texts

-- what is still to come, after a backslash (`true`) or not
abbrev Rest : Bool → List ℕ → List ℕ → List ℕ → Type 0
Rest false acc a t = (v : List ℕ) × (a ≡ acc ++ escapes v) × (t ≡ escapes v ++ 34 ∷ []) × (list_all is_text v ≡ true)
Rest true acc a t = (c : ℕ) × (is_special c ≡ true) × (v : List ℕ) × (a ≡ acc ++ c ∷ escapes v) × (t ≡ c ∷ escapes v ++ 34 ∷ []) × (list_all is_text v ≡ true)

pub special_text : (c : ℕ) → is_special c ≡ true → is_text c ≡ true
special_text c h =
    elim (cases_Bool (eqb c 34)) [
      | inl e ↦ ap is_text (eqb-true c 34 e)
      | inr e ↦ ap is_text (eqb-true c 92 (sym (ap (λ (x : Bool). x || eqb c 92) e) ∙ h))
    ]

pub escaped_special : (c : ℕ) → is_special c ≡ true → escaped c ≡ 92 ∷ c ∷ []
escaped_special c h = ap (λ (x : Bool). cond x (92 ∷ c ∷ []) (c ∷ [])) h

pub escaped_plain : (c : ℕ) → is_special c ≡ false → escaped c ≡ c ∷ []
escaped_plain c h = ap (λ (x : Bool). cond x (92 ∷ c ∷ []) (c ∷ [])) h

rest_to : (t acc : List ℕ) (slash : Bool) (a : List ℕ) → ScanText raw_step (acc, slash) a t → Rest slash acc a t
rest_to [] acc slash a h = absurd h
rest_to (b ∷ bs) acc false a (inr h) = elim (stepped acc b false) [
  | Closes e g ↦ ([], sym (take_is acc a (sym g ∙ h.0)) ∙ sym (append-nil acc), ap (λ (x : ℕ). x ∷ bs) e ∙ ap (λ (x : List ℕ). 34 ∷ x) h.1, refl)
  | Escapes e g ↦ absurd (on_not_take _ a (sym g ∙ h.0))
  | Stands s m g ↦ absurd (on_not_take _ a (sym g ∙ h.0))
  | Refuses m g ↦ absurd (odd_not_take _ a (sym g ∙ h.0))
]
rest_to (b ∷ bs) acc true a (inr h) = elim (stepped acc b true) [
  | Follows s g ↦ absurd (on_not_take _ a (sym g ∙ h.0))
  | Lacks s g ↦ absurd (odd_not_take _ a (sym g ∙ h.0))
]
rest_to (b ∷ bs) acc false a (inl h) = elim (stepped acc b false) [
  | Closes e g ↦ absurd (on_not_take h.0 acc (sym h.1 ∙ g))
  | Escapes e g ↦
      let r = rest_to bs (acc ++ b ∷ []) true a (subst (λ (x : List ℕ × Bool). ScanText raw_step x a bs) (sym (on_is _ h.0 (sym g ∙ h.1))) h.2) in
      let front : escapes (r.0 ∷ r.2) ≡ 92 ∷ r.0 ∷ escapes r.2 = ap (λ (x : List ℕ). x ++ escapes r.2) (escaped_special r.0 r.1) in (
        r.0 ∷ r.2,
        r.3 ∙ append_assoc acc (b ∷ []) (r.0 ∷ escapes r.2) ∙ ap (λ (x : ℕ). acc ++ x ∷ r.0 ∷ escapes r.2) e ∙ ap (λ (x : List ℕ). acc ++ x) (sym front),
        ap (λ (x : ℕ). x ∷ bs) e ∙ ap (λ (x : List ℕ). 92 ∷ x) r.4 ∙ ap (λ (x : List ℕ). x ++ 34 ∷ []) (sym front),
        and_from _ _ (special_text r.0 r.1) r.5,
      )
  | Stands s m g ↦
      let r = rest_to bs (acc ++ b ∷ []) false a (subst (λ (x : List ℕ × Bool). ScanText raw_step x a bs) (sym (on_is _ h.0 (sym g ∙ h.1))) h.2) in
      let front : escapes (b ∷ r.0) ≡ b ∷ escapes r.0 = ap (λ (x : List ℕ). x ++ escapes r.0) (escaped_plain b s) in (
        b ∷ r.0,
        r.1 ∙ append_assoc acc (b ∷ []) (escapes r.0) ∙ ap (λ (x : List ℕ). acc ++ x) (sym front),
        ap (λ (x : List ℕ). b ∷ x) r.2 ∙ ap (λ (x : List ℕ). x ++ 34 ∷ []) (sym front),
        and_from _ _ m r.3,
      )
  | Refuses m g ↦ absurd (odd_not_on _ h.0 (sym g ∙ h.1))
]
rest_to (b ∷ bs) acc true a (inl h) = elim (stepped acc b true) [
  | Follows s g ↦
      let r = rest_to bs (acc ++ b ∷ []) false a (subst (λ (x : List ℕ × Bool). ScanText raw_step x a bs) (sym (on_is _ h.0 (sym g ∙ h.1))) h.2) in
      (b, s, r.0, r.1 ∙ append_assoc acc (b ∷ []) (escapes r.0), ap (λ (x : List ℕ). b ∷ x) r.2, r.3)
  | Lacks s g ↦ absurd (odd_not_on _ h.0 (sym g ∙ h.1))
]

-- the other way
special_step : (acc : List ℕ) (b : ℕ) → is_special b ≡ true → raw_step (acc, true) b ≡ On (acc ++ b ∷ [], false)
special_step acc b s = elim (stepped acc b true) [
  | Follows t g ↦ g
  | Lacks t g ↦ absurd (true≢false (sym s ∙ t))
]

plain_step : (acc : List ℕ) (b : ℕ) → is_special b ≡ false → is_text b ≡ true → raw_step (acc, false) b ≡ On (acc ++ b ∷ [], false)
plain_step acc b s m = elim (stepped acc b false) [
  | Closes e g ↦ absurd (true≢false (sym (ap is_special e) ∙ s))
  | Escapes e g ↦ absurd (true≢false (sym (ap is_special e) ∙ s))
  | Stands t n g ↦ g
  | Refuses n g ↦ absurd (true≢false (sym m ∙ n))
]

rest_from : (v acc a : List ℕ) → a ≡ acc ++ escapes v → list_all is_text v ≡ true → ScanText raw_step (acc, false) a (escapes v ++ 34 ∷ [])
rest_from [] acc a e all = inr (ap (λ (x : List ℕ). let o : RawStep = Take x in o) (sym (append-nil acc) ∙ sym e), refl)
rest_from (b ∷ v) acc a e all =
    let p = and_parts _ _ all in
    elim (cases_Bool (is_special b)) [
      | inl s ↦
          let front : escapes (b ∷ v) ≡ 92 ∷ b ∷ escapes v = ap (λ (x : List ℕ). x ++ escapes v) (escaped_special b s) in
          let whole : a ≡ ((acc ++ 92 ∷ []) ++ b ∷ []) ++ escapes v = e ∙ ap (λ (x : List ℕ). acc ++ x) front ∙ sym (append_assoc acc (92 ∷ []) (b ∷ escapes v)) ∙ sym (append_assoc (acc ++ 92 ∷ []) (b ∷ []) (escapes v)) in
          let next : ScanText raw_step (acc, false) a (92 ∷ b ∷ escapes v ++ 34 ∷ []) =
          inl ((acc ++ 92 ∷ [], true), refl, inl (((acc ++ 92 ∷ []) ++ b ∷ [], false), special_step (acc ++ 92 ∷ []) b s, rest_from v ((acc ++ 92 ∷ []) ++ b ∷ []) a whole p.1)) in
          subst (λ (x : List ℕ). ScanText raw_step (acc, false) a (x ++ 34 ∷ [])) (sym front) next
      | inr s ↦
          let front : escapes (b ∷ v) ≡ b ∷ escapes v = ap (λ (x : List ℕ). x ++ escapes v) (escaped_plain b s) in
          let whole : a ≡ (acc ++ b ∷ []) ++ escapes v = e ∙ ap (λ (x : List ℕ). acc ++ x) front ∙ sym (append_assoc acc (b ∷ []) (escapes v)) in
          let next : ScanText raw_step (acc, false) a (b ∷ escapes v ++ 34 ∷ []) = inl ((acc ++ b ∷ [], false), plain_step acc b s p.0, rest_from v (acc ++ b ∷ []) a whole p.1) in
          subst (λ (x : List ℕ). ScanText raw_step (acc, false) a (x ++ 34 ∷ [])) (sym front) next
    ]

-- ---- the phases

-- a backslash leads back to where no literal is under way
texty-slash : (p : Phase) → texty p ≡ true → next p 92 ≡ Plain
texty-slash (Return m plus) h = absurd (false≢true h)
texty-slash (In m) h = absurd (false≢true h)
texty-slash _ h = refl

abbrev Within : List ℕ × Bool → Phase → Type 0
Within (acc, true) p = p ≡ Plain
Within (acc, false) p = texty p ≡ true

out : (s : List ℕ × Bool) (p : Phase) → Within s p → is_in p ≡ false
out (acc, true) p i = ap is_in i
out (acc, false) p i = texty-out p i

module _ (side : Speaker) where
  keeps : (s t : List ℕ × Bool) (p : Phase) (b : ℕ) → Within s p → raw_step s b ≡ On t → Within t (next p b) × (asked side p b ≡ None)
  keeps (acc, true) t p b i h = elim (stepped acc b true) [
    | Follows s g ↦
        let there : texty (next p b) ≡ true = texty-next p b (ap texty i) (no_cr b (special_text b s)) in
        (subst (λ (x : List ℕ × Bool). Within x (next p b)) (on_is _ t (sym g ∙ h)) there, texty-asked side p b (ap texty i))
    | Lacks s g ↦ absurd (odd_not_on _ t (sym g ∙ h))
  ]
  keeps (acc, false) t p b i h = elim (stepped acc b false) [
    | Closes e g ↦ absurd (on_not_take t acc (sym h ∙ g))
    | Escapes e g ↦
        let there : next p b ≡ Plain = ap (next p) e ∙ texty-slash p i in
        (subst (λ (x : List ℕ × Bool). Within x (next p b)) (on_is _ t (sym g ∙ h)) there, texty-asked side p b i)
    | Stands s m g ↦
        let there : texty (next p b) ≡ true = texty-next p b i (no_cr b m) in
        (subst (λ (x : List ℕ × Bool). Within x (next p b)) (on_is _ t (sym g ∙ h)) there, texty-asked side p b i)
    | Refuses m g ↦ absurd (odd_not_on _ t (sym g ∙ h))
  ]

  odd : (s : List ℕ × Bool) (p : Phase) (b : ℕ) (k : Kind) → Within s p → raw_step s b ≡ Odd k → kind_of side p b ≡ k
  odd (acc, true) p b k i h = elim (stepped acc b true) [
    | Follows s g ↦ absurd (on_not_odd _ k (sym g ∙ h))
    | Lacks s g ↦ ap (λ (x : Phase). kind_of side x b) i ∙ odd_is Syntax k (sym g ∙ h)
  ]
  odd (acc, false) p b k i h = elim (stepped acc b false) [
    | Closes e g ↦ absurd (take_not_odd acc k (sym g ∙ h))
    | Escapes e g ↦ absurd (on_not_odd _ k (sym g ∙ h))
    | Stands s m g ↦ absurd (on_not_odd _ k (sym g ∙ h))
    | Refuses m g ↦ let q = no_text b m in texty-kind side p b q.0 q.1 ∙ odd_is Syntax k (sym g ∙ h)
  ]

  takes : (s : List ℕ × Bool) (p : Phase) (b : ℕ) (a : List ℕ) → Within s p → raw_step s b ≡ Take a → (next p b ≡ Plain) × (asked side p b ≡ None)
  takes (acc, true) p b a i h = elim (stepped acc b true) [
    | Follows s g ↦ absurd (on_not_take _ a (sym g ∙ h))
    | Lacks s g ↦ absurd (odd_not_take _ a (sym g ∙ h))
  ]
  takes (acc, false) p b a i h = elim (stepped acc b false) [
    | Closes e g ↦ (ap (next p) e ∙ texty-quote p i, texty-asked side p b i)
    | Escapes e g ↦ absurd (on_not_take _ a (sym g ∙ h))
    | Stands s m g ↦ absurd (on_not_take _ a (sym g ∙ h))
    | Refuses m g ↦ absurd (odd_not_take _ a (sym g ∙ h))
  ]

completes : (s : List ℕ × Bool) → (z : List ℕ) × (a : List ℕ) × ScanText raw_step s a z
completes (acc, true) = (34 ∷ 34 ∷ [], acc ++ 34 ∷ [], inl ((acc ++ 34 ∷ [], false), refl, inr (refl, refl)))
completes (acc, false) = (34 ∷ [], acc, inr (refl, refl))

-- after the first quote
pub raw_rest_part : {side : Speaker} → Part side true Closed (λ raw t. (t ≡ raw ++ 34 ∷ []) × IsRaw raw) raw_rest
raw_rest_part {side} = same_part
    (λ a t h. let r = rest_to t [] false a h in (r.2 ∙ ap (λ (x : List ℕ). x ++ 34 ∷ []) (sym r.1), record { value = r.0; of = record { is = r.1; each = r.3 } }))
    (λ a t h. subst (ScanText raw_step ([], false) a) (sym (h.0 ∙ ap (λ (x : List ℕ). x ++ 34 ∷ []) h.1.of.is)) (rest_from h.1.value [] a h.1.of.is h.1.of.each))
    (scan_part side raw_step Within (keeps side) (odd side) out (takes side) completes ([], false) refl)

pub raw_part : {side : Speaker} → Part side true Closed RawText raw_at
raw_part = same_part
    (λ a t h. (h.parts ∙ ap (λ (x : List ℕ). x ++ h.back) h.first ∙ ap (λ (x : List ℕ). 34 ∷ x) h.second.0, h.second.1))
    (λ a t h. record { front = 34 ∷ []; back = a ++ 34 ∷ []; parts = h.0; first = refl; second = (refl, h.1) })
    (skip_part (byte_part 34 refl) raw_rest_part (after_closed raw_rest))

-- the slice up to the last quote
pub closed : (xs : List ℕ) (i : ℕ) (slash : Bool) → i < length xs → slash ≡ false → get_or xs i 0 ≡ 34 → scan raw_step (take i xs, slash) (drop i xs) ≡ raw_rest xs → IsRaw (take i xs)
closed xs i slash in' none quote h =
    let here : drop i xs ≡ 34 ∷ drop (i + 1) xs = drop_more xs i 0 in' ∙ ap (λ (b : ℕ). b ∷ drop (i + 1) xs) quote in
    let read : raw_rest xs ≡ Ok (take i xs, drop (i + 1) xs) = sym h ∙ ap (λ (s : Bool). scan raw_step (take i xs, s) (drop i xs)) none ∙ ap (scan raw_step (take i xs, false)) here in
    ((raw_rest_part {side = Commands}).reader.sound xs (take i xs) (drop (i + 1) xs) read).spelled.1

-- ---- the value

after_slash : (c : ℕ) (cs : List ℕ) → unescaped_from true (c ∷ cs) ≡ c ∷ unescaped cs
after_slash c cs = refl

no_slash : (c : ℕ) → is_special c ≡ false → eqb c 92 ≡ false
no_slash c h = elim (cases_Bool (eqb c 92)) [
  | inl e ↦ absurd (true≢false (sym (ap is_special (eqb-true c 92 e)) ∙ h))
  | inr e ↦ e
]

-- a value is what its spelling is without the backslashes
pub unescaped_escapes : (v : List ℕ) → unescaped (flat_map escaped v) ≡ v
unescaped_escapes [] = refl
unescaped_escapes (c ∷ v) =
    elim (cases_Bool (is_special c)) [
      | inl s ↦ ap (λ (x : List ℕ). unescaped (x ++ escapes v)) (escaped_special c s) ∙ ap (λ (x : List ℕ). c ∷ x) (unescaped_escapes v)
      | inr s ↦
          ap (λ (x : List ℕ). unescaped (x ++ escapes v)) (escaped_plain c s)
          ∙ ap (λ (t : Bool). cond t (unescaped_from true (escapes v)) (c ∷ unescaped (escapes v))) (no_slash c s)
          ∙ ap (λ (x : List ℕ). c ∷ x) (unescaped_escapes v)
    ]

-- so it is the value of what stands between quotes
pub value_of : (raw : List ℕ) → IsRaw raw → RawOf (unescaped raw) raw
value_of raw h = subst (λ (v : List ℕ). RawOf v raw) (sym (ap unescaped h.of.is ∙ unescaped_escapes h.value)) h.of

pub quoted_part : {side : Speaker} → Part side true Closed QuotedText quoted_at
quoted_part = mapped_part {L = RawText} unescaped
    (λ raw t h. let v = value_of raw h.1 in (h.0 ∙ ap (λ (x : List ℕ). 34 ∷ x ++ 34 ∷ []) v.is, v.each))
    (λ v t h. (flat_map escaped v, sym (unescaped_escapes v), (h.0, record { value = v; of = record { is = refl; each = h.1 } })))
    raw_part
