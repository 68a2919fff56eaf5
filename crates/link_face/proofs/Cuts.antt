-- A text is cut at the first such byte in one way, and a command into its parts.
use Rattle.std.proofs.Common.{◌≡◌, ◌≢◌, ℕ, suc, Bool, true, false, Option, None, Some, List, [], ◌∷◌, ◌++◌, All, refl, sym, ap, subst, ◌∙◌, arith}
use Rattle.link_face.specs.Commands.{IsInParts}
use Rattle.std.specs.Option.{MatchOption}

head : List ℕ → ℕ
head [] = 0
head (b ∷ bs) = b

abbrev tail : List ℕ → List ℕ
tail [] = []
tail (b ∷ bs) = bs

heads : (c d : ℕ) (x y : List ℕ) → c ∷ x ≡ d ∷ y → c ≡ d
unfolding head
heads c d x y e = ap head e

tails : (c d : ℕ) (x y : List ℕ) → c ∷ x ≡ d ∷ y → x ≡ y
tails c d x y e = ap tail e

both : (c d : ℕ) (x y : List ℕ) → c ≡ d → x ≡ y → c ∷ x ≡ d ∷ y
both c d x y e f = cc

first : (b c : ℕ) (x : List ℕ) → All (λ (d : ℕ). d ≢ b) (c ∷ x) → c ≢ b
first b c x h = h 0 c (omega arith)

rest : (b c : ℕ) (x : List ℕ) → All (λ (d : ℕ). d ≢ b) (c ∷ x) → All (λ (d : ℕ). d ≢ b) x
rest b c x h = λ k d lt. h (suc k) d (omega (arith, lt))

pub record SameCut (x x' y y' : List ℕ) : Type 0 where
  pub front : x ≡ x'
  pub following : y ≡ y'

pub same_cut : (b : ℕ) (x x' y y' : List ℕ) → All (λ (d : ℕ). d ≢ b) x → All (λ (d : ℕ). d ≢ b) x' → x ++ b ∷ y ≡ x' ++ b ∷ y' → SameCut x x' y y'
same_cut b [] [] y y' n n' e = record { front = refl; following = tails b b y y' e }
same_cut b [] (c ∷ x') y y' n n' e = absurd (first b c x' n' (sym (heads b c y (x' ++ b ∷ y') e)))
same_cut b (c ∷ x) [] y y' n n' e = absurd (first b c x n (heads c b (x ++ b ∷ y) y' e))
same_cut b (c ∷ x) (d ∷ x') y y' n n' e =
    let s = same_cut b x x' y y' (rest b c x n) (rest b d x' n') (tails c d (x ++ b ∷ y) (x' ++ b ∷ y') e) in
    record { front = both c d x x' (heads c d (x ++ b ∷ y) (x' ++ b ∷ y') e) s.front; following = s.following }

no_cut_in : (b : ℕ) (x y : List ℕ) → All (λ (d : ℕ). d ≢ b) (x ++ b ∷ y) → ⊥
no_cut_in b [] y h = first b b y h refl
no_cut_in b (c ∷ x) y h = no_cut_in b x y (rest b c (x ++ b ∷ y) h)

pub no_cut : (b : ℕ) (text x y : List ℕ) → All (λ (d : ℕ). d ≢ b) text → text ≡ x ++ b ∷ y → ⊥
no_cut b text x y h e = no_cut_in b x y (let P : List ℕ → Type 0 = λ l. All (λ (d : ℕ). d ≢ b) l in subst P e h)

-- ---- a command

pub no_space : (command tag word name following : List ℕ) → All (λ (d : ℕ). d ≢ 32) command → IsInParts command tag word name following → ⊥
no_space command tag word name following h p = no_cut 32 command tag _ h p.together

-- what follows the tag
after_tag : (command t r tag word name following : List ℕ) → command ≡ t ++ 32 ∷ r → All (λ (d : ℕ). d ≢ 32) t → IsInParts command tag word name following
    → r ≡ word ++ 34 ∷ (name ++ 34 ∷ following)
after_tag command t r tag word name following e h p = let s = same_cut 32 t tag r _ h p.no_space (sym e ∙ p.together) in s.following

pub no_quote : (command t r tag word name following : List ℕ) → command ≡ t ++ 32 ∷ r → All (λ (d : ℕ). d ≢ 32) t → All (λ (d : ℕ). d ≢ 34) r
    → IsInParts command tag word name following → ⊥
no_quote command t r tag word name following e h n p = no_cut 34 r word _ n (after_tag command t r tag word name following e h p)

-- the word, and what follows the first quote
after_word : (command t r w q tag word name following : List ℕ) → command ≡ t ++ 32 ∷ r → All (λ (d : ℕ). d ≢ 32) t → r ≡ w ++ 34 ∷ q → All (λ (d : ℕ). d ≢ 34) w
    → IsInParts command tag word name following → SameCut w word q (name ++ 34 ∷ following)
after_word command t r w q tag word name following e h f n p =
    same_cut 34 w word q (name ++ 34 ∷ following) n p.no_quote (sym f ∙ after_tag command t r tag word name following e h p)

pub no_end : (command t r w q tag word name following : List ℕ) → command ≡ t ++ 32 ∷ r → All (λ (d : ℕ). d ≢ 32) t → r ≡ w ++ 34 ∷ q → All (λ (d : ℕ). d ≢ 34) w
    → All (λ (d : ℕ). d ≢ 34) q → IsInParts command tag word name following → ⊥
no_end command t r w q tag word name following e h f n m p =
    let s = after_word command t r w q tag word name following e h f n p in no_cut 34 q name following m s.following

-- ---- its parts, found

pub in_parts : (command t r w q n b : List ℕ) → command ≡ t ++ 32 ∷ r → All (λ (d : ℕ). d ≢ 32) t → r ≡ w ++ 34 ∷ q → All (λ (d : ℕ). d ≢ 34) w
    → q ≡ n ++ 34 ∷ b → All (λ (d : ℕ). d ≢ 34) n → IsInParts command t w n b
in_parts command t r w q n b e h f m g k = record {
  together = e ∙ ap (λ (l : List ℕ). t ++ 32 ∷ l) (f ∙ ap (λ (l : List ℕ). w ++ 34 ∷ l) g);
  no_space = h;
  no_quote = m;
  no_end = k;
}

pub same_word : (command t w n b tag word name following : List ℕ) → IsInParts command t w n b → IsInParts command tag word name following → w ≡ word
same_word command t w n b tag word name following p p' =
    let s = after_word command t _ w _ tag word name following p.together p.no_space refl p.no_quote p' in s.front

pub same_name : (command t w n b tag word name following : List ℕ) → IsInParts command t w n b → IsInParts command tag word name following → n ≡ name
same_name command t w n b tag word name following p p' =
    let s = after_word command t _ w _ tag word name following p.together p.no_space refl p.no_quote p' in
    let u = same_cut 34 n name b following p.no_end p'.no_end s.following in u.front

-- ---- cases

pub false_is_true : (let b : Bool = false in b) ≡ true → ⊥
false_is_true e = cc

pub none_case : {X : Type 0} (o : Option X) (P : Type 0) (Q : X → Type 0) → o ≡ None → MatchOption o P Q → P
none_case {X} o P Q e h = let R : Option X → Type 0 = λ p. MatchOption p P Q in subst R e h

pub some_case : {X : Type 0} (o : Option X) (P : Type 0) (Q : X → Type 0) (x : X) → o ≡ Some x → MatchOption o P Q → Q x
some_case {X} o P Q x e h = let R : Option X → Type 0 = λ p. MatchOption p P Q in subst R e h
