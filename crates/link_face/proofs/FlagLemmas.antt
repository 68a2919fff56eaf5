-- Flags with a space between, one after another.
use Rattle.std.proofs.Common.{◌≡◌, ℕ, Bool, true, false, cond, List, [], ◌∷◌, ◌++◌, map, codes, Option, None, Result, Ok, Err, refl, sym, ap, ◌∙◌, append_assoc}
use Rattle.std.specs.Prelude.{filter, OnOk}
use Rattle.std.specs.Borrow.{Bor}
use Rattle.std.specs.Fn.{CalledAt}
use Rattle.std.specs.List.{slice_split}
use Rattle.std.specs.Slice.Iter as slice
use denote.Param.Members.{Mut}
use Rattle.std.specs.Iterator.{Yields}
use Rattle.std.specs.declared.alloc.AllocError.{AllocError}
use Rattle.std.proofs.lemmas.Iterator.Consumers.{YieldsList-at, YieldsList-end}
use Rattle.std.proofs.lemmas.Iterator.Splits.{YieldsList-from_slice_split}
use Rattle.std.proofs.lemmas.List.{append-nil, map-append}
use Rattle.std.proofs.lemmas.List.Elements.{filter-append}
use Rattle.std.proofs.lemmas.List.Sums.{fold-append}
use Rattle.std.proofs.lemmas.Bool.{false≢true}
use Rattle.wire_reader.specs.Spelling.{Is}
use Rattle.wire_tokens.specs.FlagLists.{with_name, spaced_out}
use Rattle.wire_tokens.specs.Writing.{Appended}
use Rattle.link_face.specs.FlagWords.{is_kept, kept_of}

-- what stands before the next one
abbrev pub gap : List ℕ → List ℕ
gap [] = []
gap (b ∷ bs) = 32 ∷ []

pub with_gap : (text name : List ℕ) → with_name text name ≡ text ++ (gap text ++ name)
with_gap [] name = refl
with_gap (b ∷ bs) name = refl

kept_one : (star : Bool) (names : List (List ℕ)) (name : List ℕ) → is_kept star name ≡ true → kept_of star (names ++ name ∷ []) ≡ with_name (kept_of star names) name
kept_one star names name k =
    ap spaced_out (filter-append (is_kept star) names (name ∷ []) ∙ ap (λ (t : Bool). filter (is_kept star) names ++ cond t (name ∷ []) []) k)
    ∙ fold-append with_name [] (filter (is_kept star) names) (name ∷ [])

kept_none : (star : Bool) (names : List (List ℕ)) (name : List ℕ) → is_kept star name ≡ false → kept_of star (names ++ name ∷ []) ≡ kept_of star names
kept_none star names name k =
    ap spaced_out (filter-append (is_kept star) names (name ∷ []) ∙ (ap (λ (t : Bool). filter (is_kept star) names ++ cond t (name ∷ []) []) k ∙ append-nil (filter (is_kept star) names)))

now_one : (words : List (Bor (List ℕ))) (word : Bor (List ℕ)) → map (λ (w : Bor (List ℕ)). w.now) (words ++ word ∷ []) ≡ map (λ (w : Bor (List ℕ)). w.now) words ++ word.now ∷ []
now_one words word = map-append (λ (w : Bor (List ℕ)). w.now) words (word ∷ [])

pub kept_more : (star : Bool) (words : List (Bor (List ℕ))) (word : Bor (List ℕ)) → is_kept star word.now ≡ true
    → kept_of star (map (λ (w : Bor (List ℕ)). w.now) (words ++ word ∷ [])) ≡ with_name (kept_of star (map (λ (w : Bor (List ℕ)). w.now) words)) word.now
kept_more star words word k = ap (kept_of star) (now_one words word) ∙ kept_one star (map (λ (w : Bor (List ℕ)). w.now) words) word.now k

pub kept_same : (star : Bool) (words : List (Bor (List ℕ))) (word : Bor (List ℕ)) → is_kept star word.now ≡ false
    → kept_of star (map (λ (w : Bor (List ℕ)). w.now) (words ++ word ∷ [])) ≡ kept_of star (map (λ (w : Bor (List ℕ)). w.now) words)
kept_same star words word k = ap (kept_of star) (now_one words word) ∙ kept_none star (map (λ (w : Bor (List ℕ)). w.now) words) word.now k

some_word : (star : Bool) → is_kept star [] ≡ true → ⊥
some_word true k = false≢true k
some_word false k = false≢true k

gap_after : (star : Bool) (text name : List ℕ) → is_kept star name ≡ true → gap (with_name text name) ≡ 32 ∷ []
gap_after star [] [] k = absurd (some_word star k)
gap_after star [] (b ∷ bs) k = refl
gap_after star (b ∷ bs) name k = refl

-- a word that is handed out, with what stands before it
pub text_more : (star : Bool) (words : List (Bor (List ℕ))) (word : Bor (List ℕ)) (begin old mid new space : List ℕ) → is_kept star word.now ≡ true
    → old ≡ begin ++ 40 ∷ kept_of star (map (λ (w : Bor (List ℕ)). w.now) words) → space ≡ gap (kept_of star (map (λ (w : Bor (List ℕ)). w.now) words)) → Appended (Is space) old mid → Appended (Is word.now) mid new
    → new ≡ begin ++ 40 ∷ kept_of star (map (λ (w : Bor (List ℕ)). w.now) (words ++ word ∷ []))
text_more star words word begin old mid new space k o s a b =
    let kept = kept_of star (map (λ (w : Bor (List ℕ)). w.now) words) in
    let added : new ≡ (begin ++ 40 ∷ kept) ++ (space ++ word.now) =
    b.parts ∙ (ap (λ (l : List ℕ). mid ++ l) b.spelled ∙ (ap (λ (l : List ℕ). l ++ word.now) (a.parts ∙ ap (λ (l : List ℕ). old ++ l) a.spelled) ∙ (append_assoc old space word.now ∙ ap (λ (l : List ℕ). l ++ (space ++ word.now)) o))) in
    added
    ∙ (append_assoc begin (40 ∷ kept) (space ++ word.now)
    ∙ ap (λ (l : List ℕ). begin ++ 40 ∷ l) (ap (λ (l : List ℕ). kept ++ (l ++ word.now)) s ∙ (sym (with_gap kept word.now) ∙ sym (kept_more star words word k))))

pub gap_more : (star : Bool) (words : List (Bor (List ℕ))) (word : Bor (List ℕ)) → is_kept star word.now ≡ true → 32 ∷ [] ≡ gap (kept_of star (map (λ (w : Bor (List ℕ)). w.now) (words ++ word ∷ [])))
gap_more star words word k = sym (ap gap (kept_more star words word k) ∙ gap_after star (kept_of star (map (λ (w : Bor (List ℕ)). w.now) words)) word.now k)

-- the parts of a list that were yielded, where nothing follows
pub all_parts : {A F : Type 0} (s begun : _) (g : Mut F (Bor A × Unit {0}) Bool) (p : A → Bool) {f : F} (xs : List A) → begun ≡ s
    → slice.split_rest s ≡ xs → slice.split_done s ≡ false → slice.split_callee s ≡ f
    → (parts : List (Bor (List A))) (t : _) → Yields (slice.split_steps g) begun parts t → (r : Option (Bor (List A))) (u : _) → r ≡ None → slice.split_steps g t r u
    → ((x : A) (b : Bool) (q : F) → CalledAt g f x b q → (q ≡ f) × (b ≡ p x)) → map (λ (part : Bor (List A)). part.now) parts ≡ slice_split p xs
all_parts s begun g p xs same rest done callee parts t y r u is ended tests =
    (YieldsList-end (YieldsList-at same (YieldsList-from_slice_split g p xs rest done callee tests)) parts t y r u is ended).0

pub text_ends : (star : Bool) (all : List (List ℕ)) (words : List (Bor (List ℕ))) (begin old new : List ℕ) → map (λ (w : Bor (List ℕ)). w.now) words ≡ all
    → old ≡ begin ++ 40 ∷ kept_of star (map (λ (w : Bor (List ℕ)). w.now) words) → Appended (Is (codes ")")) old new → Appended (Is (40 ∷ (kept_of star all ++ 41 ∷ []))) begin new
text_ends star all words begin old new m o a = record {
  text = 40 ∷ (kept_of star all ++ 41 ∷ []);
  parts = a.parts ∙ (ap (λ (l : List ℕ). old ++ l) a.spelled ∙ (ap (λ (l : List ℕ). l ++ 41 ∷ []) (o ∙ ap (λ (w : List (List ℕ)). begin ++ 40 ∷ kept_of star w) m) ∙ append_assoc begin (40 ∷ kept_of star all) (41 ∷ [])));
  spelled = refl;
}

pub text_ends_if : (star : Bool) (all : List (List ℕ)) (words : List (Bor (List ℕ))) (begin old new : List ℕ) (result : Result (Unit {0}) AllocError) → map (λ (w : Bor (List ℕ)). w.now) words ≡ all
    → old ≡ begin ++ 40 ∷ kept_of star (map (λ (w : Bor (List ℕ)). w.now) words) → OnOk result (Appended (Is (codes ")")) old new) → OnOk result (Appended (Is (40 ∷ (kept_of star all ++ 41 ∷ []))) begin new)
text_ends_if star all words begin old new (Ok _) m o a = text_ends star all words begin old new m o a
text_ends_if star all words begin old new (Err _) m o a = tt
