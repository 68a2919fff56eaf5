-- The lines of some keywords of a map, and one line more.
use Rattle.std.proofs.Common.{◌≡◌, ℕ, ◌+◌, ◌<◌, List, [], ◌∷◌, ◌++◌, length, get_or, take, refl, sym, ap, ◌∙◌, append_assoc}
use Rattle.std.specs.Prelude.{codes}
use Rattle.std.proofs.lemmas.List.{take_more}
use Rattle.mailcore.specs.declared.keywords.Keyword.{Keyword}
use Rattle.worlds.specs.Keywords.{keyword_lines, keyword_text}
use Rattle.worlds.proofs.KeywordLines.{lines_more}

lines_after : (keywords : List Keyword) (following : List ℕ) → keyword_lines keywords following ≡ keyword_lines keywords [] ++ following
lines_after [] following = refl
lines_after (k ∷ ks) following =
    ap (λ (l : List ℕ). codes "keyword " ++ (keyword_text k ++ 10 ∷ l)) (lines_after ks following)
    ∙ ap (λ (l : List ℕ). codes "keyword " ++ k.letter ∷ 32 ∷ l) (sym (append_assoc k.name (10 ∷ keyword_lines ks []) following))

pub written_more : (keywords : List Keyword) (i : ℕ) (k : Keyword) → i < length keywords → k ≡ get_or keywords i k
    → keyword_lines (take (i + 1) keywords) [] ≡ keyword_lines (take i keywords) [] ++ keyword_lines (k ∷ []) []
written_more keywords i k within is =
    ap (λ (l : List Keyword). keyword_lines l []) (take_more keywords i k within ∙ ap (λ (x : Keyword). take i keywords ++ x ∷ []) (sym is))
    ∙ lines_more (take i keywords) k []
    ∙ lines_after (take i keywords) (keyword_lines (k ∷ []) [])
