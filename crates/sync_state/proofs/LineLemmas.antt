-- Texts that begin with a line.
use Rattle.std.proofs.Common.{◌≡◌, ◌≢◌, ℕ, true, false, eqb, List, [], ◌∷◌, ◌++◌, length, get_or, drop, take, map, sym, ◌+◌, ◌<◌, ap, ◌∙◌, subst, append_assoc, refl, Option, None, Some}
use Rattle.std.specs.Prelude.{IfNone}
use Rattle.std.proofs.lemmas.List.Elements.{All-nil, All-push, All-append}
use Rattle.std.specs.Cmp.Lexicographic.{pointwise}
use Rattle.std.proofs.lemmas.List.{drop_at, take_more, map-append}
use Rattle.texts.proofs.StartLemmas.{starts, no_start}
use Rattle.sync_state.specs.Cuts.{same_cut, no_cut}
use Rattle.sync_state.specs.Lines.{lines_text, OneLine, AreLines, HasLine, HasNoLine}

after_start : (start text rest more : List ℕ) → rest ≡ drop (length start) text → text ≡ start ++ more → rest ≡ more
after_start start text rest more is e = is ∙ ap (λ (x : List ℕ). drop (length start) x) e ∙ drop_at start more (length start) refl

-- a text without a line end has no line
pub no_line_end : {T X : Type 0} (r : Option X) (start : List ℕ) (fits : T → Type 0) (spelling : T → List ℕ) (text : List ℕ)
    → OneLine text → IfNone r (HasNoLine start fits spelling text)
no_line_end None start fits spelling text none = λ line following one e value f same. no_cut 10 text line following none e
no_line_end (Some x) start fits spelling text none = tt

-- a line that begins otherwise
pub other_start : {T X : Type 0} (r : Option X) (start : List ℕ) (fits : T → Type 0) (spelling : T → List ℕ) (text first rest : List ℕ)
    → text ≡ first ++ 10 ∷ rest → OneLine first → pointwise eqb (take (length start) first) start ≡ false → IfNone r (HasNoLine start fits spelling text)
other_start None start fits spelling text first rest parts one other = λ line following lacks e value f same.
    let s = same_cut 10 first line rest following one lacks (sym parts ∙ e) in
    no_start start first (spelling value) other (s.front ∙ same)
other_start (Some x) start fits spelling text first rest parts one other = tt

-- a line that goes on otherwise
pub other_value : {T X : Type 0} (r : Option X) (start : List ℕ) (fits : T → Type 0) (spelling : T → List ℕ) (text first rest left : List ℕ)
    → text ≡ first ++ 10 ∷ rest → OneLine first → left ≡ drop (length start) first → ((value : T) → fits value → left ≢ spelling value)
    → IfNone r (HasNoLine start fits spelling text)
other_value None start fits spelling text first rest left parts one is none = λ line following lacks e value f same.
    let s = same_cut 10 first line rest following one lacks (sym parts ∙ e) in
    none value f (after_start start first left (spelling value) is (s.front ∙ same))
other_value (Some x) start fits spelling text first rest left parts one is none = tt

pub line_is : {T : Type 0} (start : List ℕ) (fits : T → Type 0) (spelling : T → List ℕ) (value : T) (text first rest left : List ℕ)
    → text ≡ first ++ 10 ∷ rest → OneLine first → pointwise eqb (take (length start) first) start ≡ true → left ≡ drop (length start) first
    → fits value → left ≡ spelling value → HasLine start fits spelling value text rest
line_is start fits spelling value text first rest left parts one same is f e =
    let whole : first ≡ start ++ spelling value = starts start first left same is ∙ ap (λ (x : List ℕ). start ++ x) e in
    record {
      fitting = f;
      parts = parts ∙ ap (λ (x : List ℕ). x ++ 10 ∷ rest) whole;
      one_line = let P : List ℕ → Type 0 = λ x. OneLine x in subst P whole one;
    }

-- ---- several lines

pub lines_text-append : (ls bs : List (List ℕ)) → lines_text (ls ++ bs) ≡ lines_text ls ++ lines_text bs
lines_text-append [] bs = refl
lines_text-append (a ∷ ls) bs =
    ap (λ (x : List ℕ). a ++ 10 ∷ x) (lines_text-append ls bs) ∙ sym (append_assoc a (10 ∷ lines_text ls) (lines_text bs))

pub no_lines : (text : List ℕ) → AreLines [] text text
no_lines text = record { parts = refl; whole = All-nil OneLine }

pub more_lines : (ls bs : List (List ℕ)) (text between rest : List ℕ) → AreLines ls text between → AreLines bs between rest → AreLines (ls ++ bs) text rest
more_lines ls bs text between rest a b = record {
  parts = a.parts ∙ ap (λ (x : List ℕ). lines_text ls ++ x) b.parts ∙ sym (append_assoc (lines_text ls) (lines_text bs) rest)
      ∙ ap (λ (x : List ℕ). x ++ rest) (sym (lines_text-append ls bs));
  whole = All-append OneLine ls bs a.whole b.whole;
}

pub one_line : (line text rest : List ℕ) → OneLine line → text ≡ line ++ 10 ∷ rest → AreLines (line ∷ []) text rest
one_line line text rest one e = record {
  parts = e ∙ sym (append_assoc line (10 ∷ []) rest);
  whole = All-push OneLine [] line (All-nil OneLine) one;
}

pub line_more : (lines : List (List ℕ)) (line text between rest : List ℕ) → AreLines lines text between → OneLine line → between ≡ line ++ 10 ∷ rest
    → AreLines (lines ++ line ∷ []) text rest
line_more lines line text between rest a one e = more_lines lines (line ∷ []) text between rest a (one_line line between rest one e)

-- ---- a text that grows by lines

pub lines_added : (ls bs : List (List ℕ)) (old new : List ℕ) → old ≡ lines_text ls → new ≡ old ++ lines_text bs → new ≡ lines_text (ls ++ bs)
lines_added ls bs old new e h = h ∙ ap (λ (x : List ℕ). x ++ lines_text bs) e ∙ sym (lines_text-append ls bs)

pub line_added : (ls : List (List ℕ)) (line old new : List ℕ) → old ≡ lines_text ls → new ≡ old ++ (line ++ 10 ∷ []) → new ≡ lines_text (ls ++ line ∷ [])
line_added ls line old new e h = lines_added ls (line ∷ []) old new e h

-- one element more is written after those before it
pub next_written : {X : Type 0} (line : X → List ℕ) (xs : List X) (i : ℕ) (x : X) (start old new : List ℕ) → i < length xs → x ≡ get_or xs i x
    → old ≡ start ++ lines_text (map line (take i xs)) → new ≡ old ++ (line x ++ 10 ∷ []) → new ≡ start ++ lines_text (map line (take (i + 1) xs))
next_written {X} line xs i x start old new below is e h =
    let one : take (i + 1) xs ≡ take i xs ++ x ∷ [] = take_more xs i x below ∙ ap (λ (y : X). take i xs ++ y ∷ []) (sym is) in
    let lines : lines_text (map line (take (i + 1) xs)) ≡ lines_text (map line (take i xs)) ++ (line x ++ 10 ∷ []) =
    ap (λ (y : List X). lines_text (map line y)) one ∙ ap (λ (y : List (List ℕ)). lines_text y) (map-append line (take i xs) (x ∷ []))
    ∙ lines_text-append (map line (take i xs)) (line x ∷ []) in
    h ∙ ap (λ (y : List ℕ). y ++ (line x ++ 10 ∷ [])) e ∙ append_assoc start (lines_text (map line (take i xs))) (line x ++ 10 ∷ [])
    ∙ ap (λ (y : List ℕ). start ++ y) (sym lines)
