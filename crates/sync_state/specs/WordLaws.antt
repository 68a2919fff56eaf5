-- Each word is known from its text, and has no space.
use Rattle.std.specs.Prelude.{ℕ, zero, suc, ◌+◌, ◌<◌, ◌^◌, ◌%◌, ◌≡◌, ◌≢◌, nat_le, Bool, true, false, cond, ◌==◌, List, [], ◌∷◌, Option, Some, None, unwrap_or, codes, decimal, refl, get_or, not}
use Rattle.std.specs.List.{list_all}
use Rattle.std.proofs.Common.{sym, ap, ◌∙◌, subst, arith}
use Rattle.std.proofs.lemmas.Bool.{false≢true, leb-true}
use Rattle.std.proofs.lemmas.Fmt.{decimal_by_steps, decimal_injective}
use Rattle.std.proofs.lemmas.List.Elements.{All-cons, All-head, All-push, All-tail, All-weaker}
use Rattle.std.proofs.lemmas.List.Sums.{AllPass-from_list_all}
use Rattle.mailcore.specs.declared.side.Direction.{Direction}
use Rattle.mailcore.specs.declared.side.Direction.TheVariants.{Pull, Push}
use Rattle.mailcore.specs.declared.side.Side.{Side}
use Rattle.mailcore.specs.declared.side.Side.TheVariants.{Far, Near}
use Rattle.mailcore.specs.FlagSet.{has, FLAGS}
use Rattle.mailcore.specs.FlagNames.{LETTERS, letters_from, letters_of}
use Rattle.mailcore.specs.Mark.{IsMark}
use Rattle.sync_state.specs.declared.version.Version.{Version}
use Rattle.sync_state.specs.declared.version.Version.TheVariants.{One, Two}
use Rattle.sync_state.specs.Cuts.{Lacks}
use Rattle.mailcore.specs.Words.{flags_word, direction_word, side_word}
use Rattle.sync_state.specs.Words.{IsUidOrNone, version_word}

-- ---- numbers

pub lacks_one : (n b : ℕ) → b ≢ n → Lacks n (b ∷ [])
lacks_one n b h = λ k d l. elim k as (λ j. j < 1 → get_or (b ∷ []) j d ≢ n) [ zero ↦ λ _. h | suc j ↦ λ m. absurd (omega (arith, m)) ] l

-- a number has digits alone
pub decimal-lacks : (sep : ℕ) → sep < 48 → (n : ℕ) → n < 2 ^ 64 → Lacks sep (decimal n)
decimal-lacks sep low n small = decimal_by_steps (λ n ds. Lacks sep ds)
    (λ n h. lacks_one sep (48 + n) (λ e. absurd (omega (arith, e))))
    (λ n ds h l. All-push (λ b. b ≢ sep) ds (48 + n % 10) l (λ e. absurd (omega (arith, e))))
    n small

-- ---- flags

lacks_from : (sep from : ℕ) (letters : List ℕ) (flags : ℕ) → Lacks sep letters → Lacks sep (letters_from from letters flags)
lacks_from sep from [] flags h = h
lacks_from sep from (x ∷ letters) flags h =
    let later = lacks_from sep (suc from) letters flags (All-tail (λ b. b ≢ sep) x letters h) in
    elim (has flags from) as (λ b. Lacks sep (cond b (x ∷ letters_from (suc from) letters flags) (letters_from (suc from) letters flags)))
    [ true ↦ All-cons (λ b. b ≢ sep) x (letters_from (suc from) letters flags) (All-head (λ b. b ≢ sep) x letters h) later | false ↦ later ]

-- D is the first letter
letters_lack : (sep : ℕ) → sep < 68 → Lacks sep LETTERS
letters_lack sep low =
    All-weaker (λ b. nat_le 68 b ≡ true) (λ b. b ≢ sep) (λ b t e. let h = leb-true 68 b t in absurd (omega (arith, h, low, e))) LETTERS (AllPass-from_list_all (nat_le 68) LETTERS refl)

pub letters-lack : (sep : ℕ) → sep < 68 → (flags : ℕ) → Lacks sep (letters_of flags)
unfolding letters_of
letters-lack sep low flags = lacks_from sep 0 LETTERS flags (letters_lack sep low)

pub flags-lack : (flags : ℕ) → Lacks 32 (flags_word flags)
flags-lack flags = elim (flags == 0) as (λ b. Lacks 32 (cond b (codes "-") (letters_of flags))) [
  | true ↦ lacks_one 32 45 (λ e. absurd (omega (arith, e)))
  | false ↦ letters-lack 32 (omega arith) flags
]

pub flags-word-lacks : (flags : ℕ) → flags < 2 ^ FLAGS → Lacks 32 (flags_word flags)
flags-word-lacks flags fits = flags-lack flags

-- ---- marks

pub mark-injective : (a b : List ℕ) → IsMark a → IsMark b → a ≡ b → a ≡ b
mark-injective a b fa fb e = e

-- ---- UIDs that may be missing

pub side-injective : (a b : Option ℕ) → IsUidOrNone a → IsUidOrNone b → decimal (unwrap_or a 0) ≡ decimal (unwrap_or b 0) → a ≡ b
side-injective None None fa fb e = refl
side-injective None (Some v) fa fb e = let s = decimal_injective 0 v (omega arith) (omega (arith, fb.below_last)) e in absurd (omega (arith, fb.positive))
side-injective (Some u) None fa fb e = let s = decimal_injective u 0 (omega (arith, fa.below_last)) (omega arith) e in absurd (omega (arith, fa.positive))
side-injective (Some u) (Some v) fa fb e = ap (λ (x : ℕ). Some x) (decimal_injective u v (omega (arith, fa.below_last)) (omega (arith, fb.below_last)) e)

pub side-lacks : (a : Option ℕ) → IsUidOrNone a → Lacks 32 (decimal (unwrap_or a 0))
side-lacks None fits = decimal-lacks 32 (omega arith) 0 (omega arith)
side-lacks (Some u) fits = decimal-lacks 32 (omega arith) u (omega (arith, fits.below_last))

-- ---- versions

pub version-injective : (a b : Version) → version_word a ≡ version_word b → a ≡ b
version-injective One One e = refl
version-injective One Two e = let h : 49 ≡ 50 = ap (λ (x : List ℕ). get_or x 0 0) e in absurd (omega (arith, h))
version-injective Two One e = let h : 50 ≡ 49 = ap (λ (x : List ℕ). get_or x 0 0) e in absurd (omega (arith, h))
version-injective Two Two e = refl

pub version-fits-injective : (a b : Version) → Unit {0} → Unit {0} → version_word a ≡ version_word b → a ≡ b
version-fits-injective a b _ _ e = version-injective a b e

-- ---- directions and sides

pub direction-injective : (a b : Direction) → direction_word a ≡ direction_word b → a ≡ b
direction-injective Pull Pull e = refl
direction-injective Pull Push e = let h : 108 ≡ 115 = ap (λ (x : List ℕ). get_or x 2 0) e in absurd (omega (arith, h))
direction-injective Push Pull e = let h : 115 ≡ 108 = ap (λ (x : List ℕ). get_or x 2 0) e in absurd (omega (arith, h))
direction-injective Push Push e = refl

pub side_word-injective : (a b : Side) → side_word a ≡ side_word b → a ≡ b
side_word-injective Far Far e = refl
side_word-injective Far Near e = cc
side_word-injective Near Far e = cc
side_word-injective Near Near e = refl

by_list_all : (xs : List ℕ) → list_all (λ b. not (b == 32)) xs ≡ true → Lacks 32 xs
by_list_all xs h = All-weaker (λ b. not (b == 32) ≡ true) (λ b. b ≢ 32) (λ b t e. let none : false ≡ true = subst (λ (x : ℕ). not (x == 32) ≡ true) e t in false≢true none) xs (AllPass-from_list_all (λ b. not (b == 32)) xs h)

pub direction-lacks : (d : Direction) → Lacks 32 (direction_word d)
direction-lacks Pull = by_list_all (direction_word Pull) refl
direction-lacks Push = by_list_all (direction_word Push) refl

pub side_word-lacks : (s : Side) → Lacks 32 (side_word s)
side_word-lacks Far = by_list_all (side_word Far) refl
side_word-lacks Near = by_list_all (side_word Near) refl

pub direction-fits-injective : (a b : Direction) → Unit {0} → Unit {0} → direction_word a ≡ direction_word b → a ≡ b
direction-fits-injective a b _ _ e = direction-injective a b e

pub direction-fits-lacks : (d : Direction) → Unit {0} → Lacks 32 (direction_word d)
direction-fits-lacks d _ = direction-lacks d

pub side-fits-injective : (a b : Side) → Unit {0} → Unit {0} → side_word a ≡ side_word b → a ≡ b
side-fits-injective a b _ _ e = side_word-injective a b e

pub side-fits-lacks : (s : Side) → Unit {0} → Lacks 32 (side_word s)
side-fits-lacks s _ = side_word-lacks s

pub signed-lacks : (sign flags : ℕ) → sign ≢ 32 → Lacks 32 (sign ∷ letters_of flags)
signed-lacks sign flags other = All-cons (λ b. b ≢ 32) sign (letters_of flags) other (letters-lack 32 (omega arith) flags)
