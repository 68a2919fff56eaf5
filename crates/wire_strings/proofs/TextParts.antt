-- Texts as parts of a grammar.
use Rattle.std.proofs.Common.{◌≡◌, ℕ, ◌+◌, ◌-◌, ◌<◌, Bool, true, false, not, cond, eqb, ◌&&◌, List, [], ◌∷◌, ◌++◌, length, get_or, take, drop, None, Ok, refl, sym, ap, subst, ◌∙◌, append_assoc, inl, inr, arith}
use Rattle.std.specs.List.{list_all}
use Rattle.std.proofs.lemmas.Bool.{cases_Bool, true≢false, le-leb, ne_eqb, eqb-true, and_parts, and_from}
use Rattle.std.proofs.lemmas.List.{append-nil, drop_more, take_all, length-drop}
use Rattle.wire_reader.specs.declared.side.Speaker.{Speaker}
use Rattle.wire_reader.specs.declared.side.Speaker.TheVariants.{Commands}
use Rattle.wire_reader.specs.declared.lexical.Phase.{Phase}
use Rattle.wire_reader.specs.declared.lexical.Phase.TheVariants.{Plain}
use Rattle.wire_reader.specs.declared.stop.Kind.{Kind}
use Rattle.wire_reader.specs.declared.stop.Kind.TheVariants.{Syntax}
use Rattle.wire_reader.specs.Spelling.{is_digit, crlf}
use Rattle.wire_reader.specs.Lexical.{next, is_in, asked, kind_of}
use Rattle.wire_reader.specs.Machine.{Step, On, Take, Odd, ScanText, scan, line_step}
use Rattle.wire_reader.proofs.Reader.{Closed}
use Rattle.wire_reader.specs.Reading.{byte_at}
use Rattle.wire_reader.proofs.Parts.{byte_reader}
use Rattle.wire_reader.proofs.Part.{Part, same_part}
use Rattle.wire_reader.proofs.PartTokens.{scan_part}
use Rattle.wire_reader.proofs.PartText.{line_part}
use Rattle.wire_reader.proofs.Texty.{texty, texty-next, texty-asked, texty-out, texty-kind, texty-bracket}
use Rattle.wire_reader.proofs.LengthSteps.{digit_is}
use Rattle.wire_strings.proofs.PartUnless.{unless_part}
use Rattle.wire_strings.specs.Texts.{is_text, begins_with, IsPlain, is_code_text, LastText, PlainLine, BracketText, last_text_at, plain_text_at, code_step, code_text_at}

-- ---- bytes

-- a byte that is no byte of a text is no digit and no `+`
pub no_text : (b : ℕ) → is_text b ≡ false → (is_digit b ≡ false) × (eqb b 43 ≡ false)
no_text b h = (
  elim (cases_Bool (is_digit b)) [
    | inl d ↦ absurd (digit_text d)
    | inr d ↦ d
  ],
  elim (cases_Bool (eqb b 43)) [
    | inl e ↦ absurd (true≢false (sym (ap is_text (eqb-true b 43 e)) ∙ h))
    | inr e ↦ e
  ],
)
  where
    digit_text : is_digit b ≡ true → ⊥
    digit_text d =
        let range = digit_is b d in
        true≢false (sym (and_from _ _ (le-leb 32 b (omega (arith, range.0))) (ap not (ne_eqb b 127 (λ e. omega (arith, e, range.1))))) ∙ h)

pub no_cr : (b : ℕ) → is_text b ≡ true → eqb b 13 ≡ false
no_cr b h = elim (cases_Bool (eqb b 13)) [
  | inl e ↦ absurd (true≢false (sym h ∙ ap is_text (eqb-true b 13 e)))
  | inr e ↦ e
]

-- ---- the text that ends a line

pub last_text_part : {side : Speaker} → Part side false Closed LastText last_text_at
last_text_part {side} = line_part is_text refl no_text side

no_line : (a : List ℕ) → LastText a [] → ⊥
no_line [] h = let e = h.0 in cc
no_line (b ∷ a) h = let e = h.0 in cc

-- the text begins as its line does
line_begins : (c : ℕ) (a t : List ℕ) → eqb 13 c ≡ false → t ≡ a ++ crlf → begins_with c t ≡ begins_with c a
line_begins c [] t h e = ap (begins_with c) e ∙ h
line_begins c (b ∷ a) t h e = ap (begins_with c) e

pub plain_text_part : {side : Speaker} → Part side false Closed PlainLine plain_text_at
plain_text_part = same_part
    (λ a t h. (h.0.0, record { each = h.0.1; first = sym (line_begins 91 a t refl h.0.0) ∙ h.1 }))
    (λ a t h. ((h.0, h.1.each), line_begins 91 a t refl h.0 ∙ h.1.first))
    (unless_part 91 ([], crlf, (refl, refl), refl) no_line last_text_part)

-- ---- up to a bracket

abbrev CodeStep : Type 0
CodeStep = Step (List ℕ) (List ℕ)

data Stepped (acc : List ℕ) (b : ℕ) : Type 0 where
  Closes : b ≡ 93 → code_step acc b ≡ Take acc → Stepped acc b
  Stands : is_code_text b ≡ true → is_text b ≡ true → code_step acc b ≡ On (acc ++ b ∷ []) → Stepped acc b
  Refuses : is_code_text b ≡ false → is_text b ≡ false → code_step acc b ≡ Odd Syntax → Stepped acc b

abbrev at_text : List ℕ → ℕ → Bool → CodeStep
at_text acc b t = cond t (On (acc ++ b ∷ [])) (Odd Syntax)

abbrev at_bracket : List ℕ → ℕ → Bool → CodeStep
at_bracket acc b t = cond t (Take acc) (cond (is_text b) (On (acc ++ b ∷ [])) (Odd Syntax))

stepped : (acc : List ℕ) (b : ℕ) → Stepped acc b
stepped acc b =
    elim (cases_Bool (eqb b 93)) [
      | inl q ↦ Closes (eqb-true b 93 q) (ap (at_bracket acc b) q)
      | inr q ↦
          elim (cases_Bool (is_text b)) [
            | inl t ↦ Stands (and_from _ _ t (ap not q)) t (ap (at_bracket acc b) q ∙ ap (at_text acc b) t)
            | inr t ↦ Refuses (ap (λ (x : Bool). x && not (eqb b 93)) t) t (ap (at_bracket acc b) q ∙ ap (at_text acc b) t)
          ]
    ]

on_is : (s t : List ℕ) → (let o : CodeStep = On s in o ≡ On t) → s ≡ t
on_is s t h = cc

on_not_take : (s a : List ℕ) → (let o : CodeStep = On s in o ≡ Take a) → ⊥
on_not_take s a h = cc

on_not_odd : (s : List ℕ) (k : Kind) → (let o : CodeStep = On s in o ≡ Odd k) → ⊥
on_not_odd s k h = cc

take_is : (a b : List ℕ) → (let o : CodeStep = Take a in o ≡ Take b) → a ≡ b
take_is a b h = cc

take_not_odd : (a : List ℕ) (k : Kind) → (let o : CodeStep = Take a in o ≡ Odd k) → ⊥
take_not_odd a k h = cc

odd_is : (k l : Kind) → (let o : CodeStep = Odd k in o ≡ Odd l) → k ≡ l
odd_is k l h = cc

odd_not_on : (k : Kind) (s : List ℕ) → (let o : CodeStep = Odd k in o ≡ On s) → ⊥
odd_not_on k s h = cc

odd_not_take : (k : Kind) (a : List ℕ) → (let o : CodeStep = Odd k in o ≡ Take a) → ⊥
odd_not_take k a h = cc

-- what is still to come
abbrev Rest : List ℕ → List ℕ → List ℕ → Type 0
Rest acc a t = (v : List ℕ) × (a ≡ acc ++ v) × (t ≡ v ++ 93 ∷ []) × (list_all is_code_text v ≡ true)

rest_to : (t acc a : List ℕ) → ScanText code_step acc a t → Rest acc a t
rest_to [] acc a h = absurd h
rest_to (b ∷ bs) acc a (inr h) = elim (stepped acc b) [
  | Closes e g ↦ ([], sym (take_is acc a (sym g ∙ h.0)) ∙ sym (append-nil acc), ap (λ (x : ℕ). x ∷ bs) e ∙ ap (λ (x : List ℕ). 93 ∷ x) h.1, refl)
  | Stands s m g ↦ absurd (on_not_take _ a (sym g ∙ h.0))
  | Refuses s m g ↦ absurd (odd_not_take _ a (sym g ∙ h.0))
]
rest_to (b ∷ bs) acc a (inl h) = elim (stepped acc b) [
  | Closes e g ↦ absurd (on_not_take h.0 acc (sym h.1 ∙ g))
  | Stands s m g ↦
      let r = rest_to bs (acc ++ b ∷ []) a (subst (λ (x : List ℕ). ScanText code_step x a bs) (sym (on_is _ h.0 (sym g ∙ h.1))) h.2) in
      (b ∷ r.0, r.1 ∙ append_assoc acc (b ∷ []) r.0, ap (λ (x : List ℕ). b ∷ x) r.2, and_from _ _ s r.3)
  | Refuses s m g ↦ absurd (odd_not_on _ h.0 (sym g ∙ h.1))
]

code_goes : (acc : List ℕ) (b : ℕ) → is_code_text b ≡ true → code_step acc b ≡ On (acc ++ b ∷ [])
code_goes acc b s = elim (stepped acc b) [
  | Closes e g ↦ absurd (true≢false (sym s ∙ ap is_code_text e))
  | Stands t m g ↦ g
  | Refuses t m g ↦ absurd (true≢false (sym s ∙ t))
]

rest_from : (v acc a : List ℕ) → a ≡ acc ++ v → list_all is_code_text v ≡ true → ScanText code_step acc a (v ++ 93 ∷ [])
rest_from [] acc a e all = inr (ap (λ (x : List ℕ). let o : CodeStep = Take x in o) (sym (append-nil acc) ∙ sym e), refl)
rest_from (b ∷ v) acc a e all =
    let p = and_parts _ _ all in
    inl (acc ++ b ∷ [], code_goes acc b p.0, rest_from v (acc ++ b ∷ []) a (e ∙ sym (append_assoc acc (b ∷ []) v)) p.1)

abbrev Within : List ℕ → Phase → Type 0
Within acc p = texty p ≡ true

out : (s : List ℕ) (p : Phase) → Within s p → is_in p ≡ false
out acc p i = texty-out p i

module _ (side : Speaker) where
  keeps : (s t : List ℕ) (p : Phase) (b : ℕ) → Within s p → code_step s b ≡ On t → Within t (next p b) × (asked side p b ≡ None)
  keeps acc t p b i h = elim (stepped acc b) [
    | Closes e g ↦ absurd (on_not_take t acc (sym h ∙ g))
    | Stands s m g ↦ (texty-next p b i (no_cr b m), texty-asked side p b i)
    | Refuses s m g ↦ absurd (odd_not_on _ t (sym g ∙ h))
  ]

  odd : (s : List ℕ) (p : Phase) (b : ℕ) (k : Kind) → Within s p → code_step s b ≡ Odd k → kind_of side p b ≡ k
  odd acc p b k i h = elim (stepped acc b) [
    | Closes e g ↦ absurd (take_not_odd acc k (sym g ∙ h))
    | Stands s m g ↦ absurd (on_not_odd _ k (sym g ∙ h))
    | Refuses s m g ↦ let q = no_text b m in texty-kind side p b q.0 q.1 ∙ odd_is Syntax k (sym g ∙ h)
  ]

  takes : (s : List ℕ) (p : Phase) (b : ℕ) (a : List ℕ) → Within s p → code_step s b ≡ Take a → (next p b ≡ Plain) × (asked side p b ≡ None)
  takes acc p b a i h = elim (stepped acc b) [
    | Closes e g ↦ (ap (next p) e ∙ texty-bracket p i, texty-asked side p b i)
    | Stands s m g ↦ absurd (on_not_take _ a (sym g ∙ h))
    | Refuses s m g ↦ absurd (odd_not_take _ a (sym g ∙ h))
  ]

completes : (s : List ℕ) → (z : List ℕ) × (a : List ℕ) × ScanText code_step s a z
completes acc = (93 ∷ [], acc, inr (refl, refl))

pub code_text_part : {side : Speaker} → Part side true Closed BracketText code_text_at
code_text_part {side} = same_part
    (λ a t h. let r = rest_to t [] a h in (r.2 ∙ ap (λ (x : List ℕ). x ++ 93 ∷ []) (sym r.1), ap (list_all is_code_text) r.1 ∙ r.3))
    (λ a t h. subst (ScanText code_step [] a) (sym h.0) (rest_from a [] a refl h.1))
    (scan_part side code_step Within (keeps side) (odd side) out (takes side) completes [] refl)

-- ---- the slices

pub code_closed : (xs : List ℕ) (i : ℕ) → i < length xs → get_or xs i 0 ≡ 93 → scan code_step (take i xs) (drop i xs) ≡ code_text_at xs → list_all is_code_text (take i xs) ≡ true
code_closed xs i in' bracket h =
    let here : drop i xs ≡ 93 ∷ drop (i + 1) xs = drop_more xs i 0 in' ∙ ap (λ (b : ℕ). b ∷ drop (i + 1) xs) bracket in
    let read : code_text_at xs ≡ Ok (take i xs, drop (i + 1) xs) = sym h ∙ ap (scan code_step (take i xs)) here in
    ((code_text_part {side = Commands}).reader.sound xs (take i xs) (drop (i + 1) xs) read).spelled.1

pub line_closed : (xs rest : List ℕ) (i : ℕ) → i < length xs → get_or xs i 0 ≡ 13 → byte_at 10 (take (length xs - (i + 1)) (drop (i + 1) xs)) ≡ Ok (tt, rest) → scan (line_step is_text) (take i xs, false) (drop i xs) ≡ last_text_at xs → list_all is_text (take i xs) ≡ true
line_closed xs rest i in' cr lf h =
    let all : take (length xs - (i + 1)) (drop (i + 1) xs) ≡ drop (i + 1) xs = take_all (length xs - (i + 1)) (drop (i + 1) xs) (omega (arith, length-drop (i + 1) xs)) in
    let end = (byte_reader 10).sound (drop (i + 1) xs) tt rest (ap (byte_at 10) (sym all) ∙ lf) in
    let following : drop (i + 1) xs ≡ 10 ∷ rest = end.parts ∙ ap (λ (x : List ℕ). x ++ rest) end.spelled in
    let here : drop i xs ≡ 13 ∷ 10 ∷ rest = drop_more xs i 0 in' ∙ ap (λ (b : ℕ). b ∷ drop (i + 1) xs) cr ∙ ap (λ (x : List ℕ). 13 ∷ x) following in
    let read : last_text_at xs ≡ Ok (take i xs, rest) = sym h ∙ ap (scan (line_step is_text) (take i xs, false)) here in
    ((last_text_part {side = Commands}).reader.sound xs (take i xs) rest read).spelled.1

-- a line that was read and does not begin with a bracket
pub plain_line : (xs a rest : List ℕ) → begins_with 91 xs ≡ false → last_text_at xs ≡ Ok (a, rest) → IsPlain a
plain_line xs a rest h read =
    let t = (last_text_part {side = Commands}).reader.sound xs a rest read in
    record { each = t.spelled.1; first = go xs a t.text rest h t.parts t.spelled.0 }
  where
    go : (xs a text rest : List ℕ) → begins_with 91 xs ≡ false → xs ≡ text ++ rest → text ≡ a ++ crlf → begins_with 91 a ≡ false
    go xs [] text rest h e f = refl
    go xs (b ∷ a) text rest h e f = ap (begins_with 91) (sym (e ∙ ap (λ (x : List ℕ). x ++ rest) f)) ∙ h
