-- The text of a meta file.
use Rattle.std.proofs.Common.{◌≡◌, ℕ, ◌+◌, ◌-◌, ◌<◌, ◌^◌, Bool, true, false, cond, ◌&&◌, ltb, List, [], ◌∷◌, ◌++◌, Option, None, Some, refl, sym, ap, subst, ◌∙◌, inl, lit<, arith}
use Rattle.std.specs.Prelude.{decimal}
use Rattle.std.proofs.lemmas.Bool.{lt-ltb}
use Rattle.std.proofs.lemmas.Bool.Decides.{nat_tests}
use Rattle.texts.specs.Cut.{Sides, cut_first}
use Rattle.maildir.specs.Metas.{MetaText, is_meta, meta_of_numbers, meta_of_lines, meta_after, meta_of, u32_of}
use Rattle.maildir.specs.declared.meta.Meta.{Meta}
use Rattle.texts.proofs.CutLemmas.{Joins, cut_first-joins, cut_first-append}
use Rattle.maildir.proofs.NameLemmas.{decimal_lacks}
use Rattle.texts.proofs.NumberLemmas.{number_of-decimal, number_of-Some}

meta_numbers : (first second : List ℕ) (v h : Option ℕ) → u32_of first ≡ v → u32_of second ≡ h → (meta : Meta) → meta_of_numbers v h ≡ Some meta
    → MetaText meta (first ++ 10 ∷ (second ++ 10 ∷ []))
meta_numbers first second None h is_v is_h meta read = cc
meta_numbers first second (Some v) None is_v is_h meta read = cc
meta_numbers first second (Some v) (Some h) is_v is_h meta read = by_test (ltb 0 v && ltb (h + 1) (2 ^ 32)) refl read
  where
    by_test : (b : Bool) → (ltb 0 v && ltb (h + 1) (2 ^ 32)) ≡ b → cond b (Some (record { validity = v; next = h + 1 })) None ≡ Some meta → MetaText meta (first ++ 10 ∷ (second ++ 10 ∷ []))
    by_test false e same = cc
    by_test true e same =
        let one = number_of-Some 4294967295 first v is_v in
        let two = number_of-Some 4294967295 second h is_h in
        let is : record { validity = v; next = h + 1 } ≡ meta = cc in
        let back : h + 1 - 1 ≡ h = omega arith in
        subst (λ (m : Meta). MetaText m (first ++ 10 ∷ (second ++ 10 ∷ []))) is (record {
          parts = rw (back, one.text, two.text) refl;
          is = grind (arith, nat_tests, one.within);
        })

meta_lines : (first rest : List ℕ) (cut : Option Sides) → Joins 10 rest cut → (meta : Meta) → meta_of_lines first cut ≡ Some meta → MetaText meta (first ++ 10 ∷ rest)
meta_lines first rest None joins meta read = cc
meta_lines first rest (Some (second, b ∷ following)) joins meta read = cc
meta_lines first rest (Some (second, [])) joins meta read =
    subst (λ (r : List ℕ). MetaText meta (first ++ 10 ∷ r)) (sym joins.0) (meta_numbers first second (u32_of first) (u32_of second) refl refl meta read)

meta_cut : (text : List ℕ) (cut : Option Sides) → Joins 10 text cut → (meta : Meta) → meta_after cut ≡ Some meta → MetaText meta text
meta_cut text None joins meta read = cc
meta_cut text (Some (first, rest)) joins meta read =
    subst (λ (t : List ℕ). MetaText meta t) (sym joins.0) (meta_lines first rest (cut_first 10 rest) (cut_first-joins 10 rest) meta read)

-- what is read is spelled so
pub meta_is_spelled : (meta : Meta) (text : List ℕ) → meta_of text ≡ Some meta → MetaText meta text
unfolding meta_of
meta_is_spelled meta text read = meta_cut text (cut_first 10 text) (cut_first-joins 10 text) meta read

-- what is spelled so is read
pub spelled_meta_is_read : (meta : Meta) (text : List ℕ) → MetaText meta text → meta_of text ≡ Some meta
unfolding meta_of
spelled_meta_is_read meta text spelled =
    let v : ℕ = meta.validity in
    let n : ℕ = meta.next in
    let bounds : (0 < v) × (v < 2 ^ 32) × (0 < n) × (n < 2 ^ 32) = bounds_of meta spelled.is in
    let back : n - 1 + 1 ≡ n = omega arith in
    ap (λ t. meta_after (cut_first 10 t)) spelled.parts
    ∙ rw (cut_first-append 10 (decimal v) (decimal (n - 1) ++ 10 ∷ []) (decimal_lacks 10 v (inl (lit< tt)) (omega arith)), cut_first-append 10 (decimal (n - 1)) [] (decimal_lacks 10 (n - 1) (inl (lit< tt)) (omega arith)), number_of-decimal 4294967295 v (decimal v) (lit< tt) (omega (arith, bounds.1)) refl, number_of-decimal 4294967295 (n - 1) (decimal (n - 1)) (lit< tt) (omega arith) refl, back) (tests v n bounds)
  where
    bounds_of : (meta : Meta) → is_meta meta ≡ true → (0 < meta.validity) × (meta.validity < 2 ^ 32) × (0 < meta.next) × (meta.next < 2 ^ 32)
    bounds_of meta is = (grind (arith, nat_tests), grind (arith, nat_tests), grind (arith, nat_tests), grind (arith, nat_tests))

    tests : (v n : ℕ) → (0 < v) × (v < 2 ^ 32) × (0 < n) × (n < 2 ^ 32) → ◌≡◌ {A = Option Meta} (cond (ltb 0 v && ltb n (2 ^ 32)) (Some (record { validity = v; next = n })) None) (Some (record { validity = v; next = n }))
    tests v n bounds = rw (lt-ltb 0 v bounds.0, lt-ltb n (2 ^ 32) bounds.3) refl
