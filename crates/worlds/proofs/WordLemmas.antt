-- Which words are flags that all have a name.
use Rattle.std.proofs.Common.{◌≡◌, ◌≢◌, ℕ, ◌<◌, ◌^◌, List, sym, subst, ◌∙◌}
use Rattle.mailcore.specs.FlagSet.{FLAGS}
use Rattle.mailcore.specs.declared.keywords.Keyword.{Keyword}
use Rattle.mailcore.specs.KeywordNames.{IsWithin, kept}
use Rattle.mailcore.specs.Words.{flags_word}
use Rattle.mailcore.proofs.FlagWords.{flags_word-injective}
use Rattle.mailcore.proofs.KnownFlags.{kept-same, kept-within}

-- flags that are all kept have names
pub kept_within : (map : List Keyword) (flags : ℕ) → kept map flags ≡ flags → IsWithin map flags
kept_within map flags same = subst (λ n. IsWithin map n) same (kept-within map flags)

-- a word of flags of which one has no name is no word of flags that all have one
pub none_named : (map : List Keyword) (flags : ℕ) (word : List ℕ) → flags < 2 ^ FLAGS → flags_word flags ≡ word → kept map flags ≢ flags
    → (others : ℕ) → IsWithin map others → flags_word others ≢ word
none_named map flags word fits is apart others within other_is =
    let same = flags_word-injective others flags within.set fits (other_is ∙ sym is) in
    apart (subst (λ n. kept map n ≡ n) same (kept-same map others within))
