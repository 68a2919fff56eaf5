-- The quoted string of one character as a part of a grammar.
use Rattle.std.proofs.Common.{◌≡◌, ℕ, Bool, true, false, cond, eqb, ◌||◌, List, [], ◌∷◌, ◌++◌, None, refl, sym, ap, subst, ◌∙◌, inl, inr, ◌⊎◌}
use Rattle.std.proofs.lemmas.Bool.{cases_Bool, true≢false, eqb-true, and_parts, and_from}
use Rattle.std.proofs.lemmas.List.{append-nil}
use Rattle.wire_reader.specs.declared.side.Speaker.{Speaker}
use Rattle.wire_reader.specs.declared.lexical.Phase.{Phase}
use Rattle.wire_reader.specs.declared.lexical.Phase.TheVariants.{Plain, Brace}
use Rattle.wire_reader.specs.declared.stop.Kind.{Kind}
use Rattle.wire_reader.specs.declared.stop.Kind.TheVariants.{Syntax}
use Rattle.wire_reader.specs.Lexical.{next, is_in, asked, kind_of}
use Rattle.wire_reader.specs.Machine.{Step, On, Take, Odd, ScanText}
use Rattle.wire_reader.proofs.Reader.{Closed}
use Rattle.wire_reader.proofs.Parts.{after_closed}
use Rattle.wire_reader.proofs.Part.{Part, same_part, skip_part, byte_part}
use Rattle.wire_reader.proofs.PartTokens.{scan_part}
use Rattle.wire_strings.specs.Texts.{is_text}
use Rattle.wire_strings.specs.Quotes.{is_special, escaped}
use Rattle.wire_strings.specs.Delimiters.{Between, Nothing, Slash, Got, DelimiterText, delimiter_step, delimiter_rest, delimiter_at}
use Rattle.wire_strings.proofs.QuoteParts.{special_text, escaped_special, escaped_plain}

abbrev S : Type 0
S = Step Between ℕ

data Stepped (b : ℕ) : Between → Type 0 where
  Escapes : b ≡ 92 → delimiter_step Nothing b ≡ On Slash → Stepped b Nothing
  Stands : is_special b ≡ false → is_text b ≡ true → delimiter_step Nothing b ≡ On (Got b) → Stepped b Nothing
  Refuses : delimiter_step Nothing b ≡ Odd Syntax → Stepped b Nothing
  Follows : is_special b ≡ true → delimiter_step Slash b ≡ On (Got b) → Stepped b Slash
  Lacks : delimiter_step Slash b ≡ Odd Syntax → Stepped b Slash
  Closes : (c : ℕ) → b ≡ 34 → delimiter_step (Got c) b ≡ Take c → Stepped b (Got c)
  Goes : (c : ℕ) → delimiter_step (Got c) b ≡ Odd Syntax → Stepped b (Got c)

abbrev at_text : ℕ → Bool → S
at_text b t = cond t (On (Got b)) (Odd Syntax)

abbrev at_slash : ℕ → Bool → S
at_slash b t = cond t (On Slash) (cond (is_text b) (On (Got b)) (Odd Syntax))

abbrev at_quote : ℕ → Bool → S
at_quote b t = cond t (Odd Syntax) (cond (eqb b 92) (On Slash) (cond (is_text b) (On (Got b)) (Odd Syntax)))

abbrev at_end : ℕ → Bool → S
at_end c t = cond t (Take c) (Odd Syntax)

stepped : (b : ℕ) (s : Between) → Stepped b s
stepped b Nothing =
    elim (cases_Bool (eqb b 34)) [
      | inl q ↦ Refuses (ap (at_quote b) q)
      | inr q ↦
          elim (cases_Bool (eqb b 92)) [
            | inl s ↦ Escapes (eqb-true b 92 s) (ap (at_quote b) q ∙ ap (at_slash b) s)
            | inr s ↦
                elim (cases_Bool (is_text b)) [
                  | inl t ↦ Stands (ap (λ (x : Bool). x || eqb b 92) q ∙ s) t (ap (at_quote b) q ∙ ap (at_slash b) s ∙ ap (at_text b) t)
                  | inr t ↦ Refuses (ap (at_quote b) q ∙ ap (at_slash b) s ∙ ap (at_text b) t)
                ]
          ]
    ]
stepped b Slash = elim (cases_Bool (is_special b)) [
  | inl s ↦ Follows s (ap (at_text b) s)
  | inr s ↦ Lacks (ap (at_text b) s)
]
stepped b (Got c) = elim (cases_Bool (eqb b 34)) [
  | inl q ↦ Closes c (eqb-true b 34 q) (ap (at_end c) q)
  | inr q ↦ Goes c (ap (at_end c) q)
]

on_is : (s t : Between) → (let o : S = On s in o ≡ On t) → s ≡ t
on_is s t h = cc

on_not_take : (s : Between) (a : ℕ) → (let o : S = On s in o ≡ Take a) → ⊥
on_not_take s a h = cc

on_not_odd : (s : Between) (k : Kind) → (let o : S = On s in o ≡ Odd k) → ⊥
on_not_odd s k h = cc

take_is : (a b : ℕ) → (let o : S = Take a in o ≡ Take b) → a ≡ b
take_is a b h = cc

take_not_odd : (a : ℕ) (k : Kind) → (let o : S = Take a in o ≡ Odd k) → ⊥
take_not_odd a k h = cc

odd_is : (k l : Kind) → (let o : S = Odd k in o ≡ Odd l) → k ≡ l
odd_is k l h = cc

odd_not_on : (k : Kind) (s : Between) → (let o : S = Odd k in o ≡ On s) → ⊥
odd_not_on k s h = cc

odd_not_take : (k : Kind) (a : ℕ) → (let o : S = Odd k in o ≡ Take a) → ⊥
odd_not_take k a h = cc

-- what is still to come
abbrev Rest : Between → ℕ → List ℕ → Type 0
Rest Nothing c t = (t ≡ escaped c ++ 34 ∷ []) × (is_text c ≡ true)
Rest Slash c t = (t ≡ c ∷ 34 ∷ []) × (is_special c ≡ true)
Rest (Got d) c t = (t ≡ 34 ∷ []) × (d ≡ c)

rest_to : (t : List ℕ) (s : Between) (c : ℕ) → ScanText delimiter_step s c t → Rest s c t
rest_to [] s c h = absurd h
rest_to (b ∷ bs) Nothing c (inl h) = elim (stepped b Nothing) [
  | Escapes e g ↦
      let r = rest_to bs Slash c (subst (λ (x : Between). ScanText delimiter_step x c bs) (sym (on_is Slash h.0 (sym g ∙ h.1))) h.2) in
      (ap (λ (x : ℕ). x ∷ bs) e ∙ ap (λ (x : List ℕ). 92 ∷ x) r.0 ∙ ap (λ (x : List ℕ). x ++ 34 ∷ []) (sym (escaped_special c r.1)), special_text c r.1)
  | Stands s m g ↦
      let r = rest_to bs (Got b) c (subst (λ (x : Between). ScanText delimiter_step x c bs) (sym (on_is (Got b) h.0 (sym g ∙ h.1))) h.2) in
      subst (λ (x : ℕ). (b ∷ bs ≡ escaped x ++ 34 ∷ []) × (is_text x ≡ true)) r.1
      (ap (λ (x : List ℕ). b ∷ x) r.0 ∙ ap (λ (x : List ℕ). x ++ 34 ∷ []) (sym (escaped_plain b s)), m)
  | Refuses g ↦ absurd (odd_not_on _ h.0 (sym g ∙ h.1))
]
rest_to (b ∷ bs) Nothing c (inr h) = elim (stepped b Nothing) [
  | Escapes e g ↦ absurd (on_not_take _ c (sym g ∙ h.0))
  | Stands s m g ↦ absurd (on_not_take _ c (sym g ∙ h.0))
  | Refuses g ↦ absurd (odd_not_take _ c (sym g ∙ h.0))
]
rest_to (b ∷ bs) Slash c (inl h) = elim (stepped b Slash) [
  | Follows s g ↦
      let r = rest_to bs (Got b) c (subst (λ (x : Between). ScanText delimiter_step x c bs) (sym (on_is (Got b) h.0 (sym g ∙ h.1))) h.2) in
      (ap (λ (x : List ℕ). b ∷ x) r.0 ∙ ap (λ (x : ℕ). x ∷ 34 ∷ []) r.1, ap is_special (sym r.1) ∙ s)
  | Lacks g ↦ absurd (odd_not_on _ h.0 (sym g ∙ h.1))
]
rest_to (b ∷ bs) Slash c (inr h) = elim (stepped b Slash) [
  | Follows s g ↦ absurd (on_not_take _ c (sym g ∙ h.0))
  | Lacks g ↦ absurd (odd_not_take _ c (sym g ∙ h.0))
]
rest_to (b ∷ bs) (Got d) c (inl h) = elim (stepped b (Got d)) [
  | Closes d' e g ↦ absurd (on_not_take h.0 d' (sym h.1 ∙ g))
  | Goes d' g ↦ absurd (odd_not_on _ h.0 (sym g ∙ h.1))
]
rest_to (b ∷ bs) (Got d) c (inr h) = elim (stepped b (Got d)) [
  | Closes d' e g ↦ (ap (λ (x : ℕ). x ∷ bs) e ∙ ap (λ (x : List ℕ). 34 ∷ x) h.1, take_is d' c (sym g ∙ h.0))
  | Goes d' g ↦ absurd (odd_not_take _ c (sym g ∙ h.0))
]

special_goes : (b : ℕ) → is_special b ≡ true → delimiter_step Slash b ≡ On (Got b)
special_goes b s = ap (at_text b) s

plain_goes : (b : ℕ) → is_special b ≡ false → is_text b ≡ true → delimiter_step Nothing b ≡ On (Got b)
plain_goes b s m = elim (stepped b Nothing) [
  | Escapes e g ↦ absurd (true≢false (sym (ap is_special e) ∙ s))
  | Stands t n g ↦ g
  | Refuses g ↦
      elim (cases_Bool (eqb b 34)) [
        | inl q ↦ absurd (true≢false (sym (ap is_special (eqb-true b 34 q)) ∙ s))
        | inr q ↦ ap (at_quote b) q ∙ ap (at_slash b) (sym (ap (λ (x : Bool). x || eqb b 92) q) ∙ s) ∙ ap (at_text b) m
      ]
]

rest_from : (c : ℕ) → is_text c ≡ true → ScanText delimiter_step Nothing c (escaped c ++ 34 ∷ [])
rest_from c m =
    elim (cases_Bool (is_special c)) [
      | inl s ↦
          let text : ScanText delimiter_step Nothing c (92 ∷ c ∷ 34 ∷ []) = inl (Slash, refl, inl (Got c, special_goes c s, inr (refl, refl))) in
          subst (λ (x : List ℕ). ScanText delimiter_step Nothing c (x ++ 34 ∷ [])) (sym (escaped_special c s)) text
      | inr s ↦
          let text : ScanText delimiter_step Nothing c (c ∷ 34 ∷ []) = inl (Got c, plain_goes c s m, inr (refl, refl)) in
          subst (λ (x : List ℕ). ScanText delimiter_step Nothing c (x ++ 34 ∷ [])) (sym (escaped_plain c s)) text
    ]

-- ---- the phases: after the character a brace may have begun

abbrev Within : Between → Phase → Type 0
Within Nothing p = p ≡ Plain
Within Slash p = p ≡ Plain
Within (Got c) p = (p ≡ Plain) ⊎ (p ≡ Brace)

out : (s : Between) (p : Phase) → Within s p → is_in p ≡ false
out Nothing p i = ap is_in i
out Slash p i = ap is_in i
out (Got c) p (inl i) = ap is_in i
out (Got c) p (inr i) = ap is_in i

following : (b : ℕ) → (next Plain b ≡ Plain) ⊎ (next Plain b ≡ Brace)
following b = elim (cases_Bool (eqb b 123)) [
  | inl e ↦ inr (ap (λ (x : Bool). cond x Brace Plain) e)
  | inr e ↦ inl (ap (λ (x : Bool). cond x Brace Plain) e)
]

got : (p : Phase) (b : ℕ) → p ≡ Plain → (next p b ≡ Plain) ⊎ (next p b ≡ Brace)
got p b i = subst (λ (x : Phase). (next x b ≡ Plain) ⊎ (next x b ≡ Brace)) (sym i) (following b)

module _ (side : Speaker) where
  quiet : (p : Phase) (b : ℕ) → p ≡ Plain → asked side p b ≡ None
  quiet p b i = ap (λ (x : Phase). asked side x b) i

  keeps : (s t : Between) (p : Phase) (b : ℕ) → Within s p → delimiter_step s b ≡ On t → Within t (next p b) × (asked side p b ≡ None)
  keeps Nothing t p b i h = elim (stepped b Nothing) [
    | Escapes e g ↦
        let there : next p b ≡ Plain = ap (λ (x : Phase). next x b) i ∙ ap (next Plain) e in
        (subst (λ (x : Between). Within x (next p b)) (on_is Slash t (sym g ∙ h)) there, quiet p b i)
    | Stands s m g ↦ (subst (λ (x : Between). Within x (next p b)) (on_is (Got b) t (sym g ∙ h)) (got p b i), quiet p b i)
    | Refuses g ↦ absurd (odd_not_on _ t (sym g ∙ h))
  ]
  keeps Slash t p b i h = elim (stepped b Slash) [
    | Follows s g ↦ (subst (λ (x : Between). Within x (next p b)) (on_is (Got b) t (sym g ∙ h)) (got p b i), quiet p b i)
    | Lacks g ↦ absurd (odd_not_on _ t (sym g ∙ h))
  ]
  keeps (Got c) t p b i h = elim (stepped b (Got c)) [
    | Closes d e g ↦ absurd (on_not_take t d (sym h ∙ g))
    | Goes d g ↦ absurd (odd_not_on _ t (sym g ∙ h))
  ]

  odd : (s : Between) (p : Phase) (b : ℕ) (k : Kind) → Within s p → delimiter_step s b ≡ Odd k → kind_of side p b ≡ k
  odd Nothing p b k i h = elim (stepped b Nothing) [
    | Escapes e g ↦ absurd (on_not_odd _ k (sym g ∙ h))
    | Stands s m g ↦ absurd (on_not_odd _ k (sym g ∙ h))
    | Refuses g ↦ ap (λ (x : Phase). kind_of side x b) i ∙ odd_is Syntax k (sym g ∙ h)
  ]
  odd Slash p b k i h = elim (stepped b Slash) [
    | Follows s g ↦ absurd (on_not_odd _ k (sym g ∙ h))
    | Lacks g ↦ ap (λ (x : Phase). kind_of side x b) i ∙ odd_is Syntax k (sym g ∙ h)
  ]
  odd (Got c) p b k i h = elim (stepped b (Got c)) [
    | Closes d e g ↦ absurd (take_not_odd d k (sym g ∙ h))
    | Goes d g ↦ elim i [
      | inl e ↦ ap (λ (x : Phase). kind_of side x b) e ∙ odd_is Syntax k (sym g ∙ h)
      | inr e ↦ ap (λ (x : Phase). kind_of side x b) e ∙ odd_is Syntax k (sym g ∙ h)
    ]
  ]

  takes : (s : Between) (p : Phase) (b c : ℕ) → Within s p → delimiter_step s b ≡ Take c → (next p b ≡ Plain) × (asked side p b ≡ None)
  takes Nothing p b a i h = elim (stepped b Nothing) [
    | Escapes e g ↦ absurd (on_not_take _ a (sym g ∙ h))
    | Stands s m g ↦ absurd (on_not_take _ a (sym g ∙ h))
    | Refuses g ↦ absurd (odd_not_take _ a (sym g ∙ h))
  ]
  takes Slash p b a i h = elim (stepped b Slash) [
    | Follows s g ↦ absurd (on_not_take _ a (sym g ∙ h))
    | Lacks g ↦ absurd (odd_not_take _ a (sym g ∙ h))
  ]
  takes (Got c) p b a i h = elim (stepped b (Got c)) [
    | Closes d e g ↦ elim i [
      | inl f ↦ (ap (λ (x : Phase). next x b) f ∙ ap (next Plain) e, ap (λ (x : Phase). asked side x b) f)
      | inr f ↦ (ap (λ (x : Phase). next x b) f ∙ ap (next Brace) e, ap (λ (x : Phase). asked side x b) f)
    ]
    | Goes d g ↦ absurd (odd_not_take _ a (sym g ∙ h))
  ]

completes : (s : Between) → (z : List ℕ) × (c : ℕ) × ScanText delimiter_step s c z
completes Nothing = (32 ∷ 34 ∷ [], 32, inl (Got 32, refl, inr (refl, refl)))
completes Slash = (34 ∷ 34 ∷ [], 34, inl (Got 34, refl, inr (refl, refl)))
completes (Got c) = (34 ∷ [], c, inr (refl, refl))

rest_part : {side : Speaker} → Part side true Closed (λ c t. (t ≡ escaped c ++ 34 ∷ []) × (is_text c ≡ true)) (delimiter_rest Nothing)
rest_part {side} = same_part
    (λ c t h. rest_to t Nothing c h)
    (λ c t h. subst (ScanText delimiter_step Nothing c) (sym h.0) (rest_from c h.1))
    (scan_part side delimiter_step Within (keeps side) (odd side) out (takes side) completes Nothing refl)

one : (c : ℕ) → escaped c ++ [] ≡ escaped c
one c = append-nil (escaped c)

pub delimiter_part : {side : Speaker} → Part side true Closed DelimiterText delimiter_at
delimiter_part = same_part
    (λ c t h. (h.parts ∙ ap (λ (x : List ℕ). x ++ h.back) h.first ∙ ap (λ (x : List ℕ). 34 ∷ x) (h.second.0 ∙ ap (λ (x : List ℕ). x ++ 34 ∷ []) (sym (one c))), and_from _ _ h.second.1 refl))
    (λ c t h. record { front = 34 ∷ []; back = escaped c ++ 34 ∷ []; parts = h.0 ∙ ap (λ (x : List ℕ). 34 ∷ x ++ 34 ∷ []) (one c); first = refl; second = (refl, (and_parts _ _ h.1).0) })
    (skip_part (byte_part 34 refl) rest_part (after_closed (delimiter_rest Nothing)))
