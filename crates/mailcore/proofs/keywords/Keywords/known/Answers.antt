use Rattle.std.proofs.Common.{◌≡◌, ◌∙◌, ℕ, List, length, take, ap, arith}
use Rattle.std.proofs.Math.Seq.{take-length}
use Rattle.std.specs.List.{fold}
use Rattle.mailcore.specs.declared.keywords.Keyword.{Keyword}
use Rattle.mailcore.specs.KeywordNames.{known_set, with_flag, with_letter, written_order}
use Rattle.mailcore.proofs.keywords.Keywords.known.Goals as goal

-- all keywords have been added
all_added : (keywords : List Keyword) (i : ℕ) → i ≡ length keywords → fold with_letter (fold with_flag 0 written_order) (take i keywords) ≡ known_set keywords
unfolding known_set
all_added keywords i all = ap (λ (some : List Keyword). fold with_letter (fold with_flag 0 written_order) some) (ap (λ (n : ℕ). take n keywords) all ∙ take-length keywords)

pub returns : goal.returns
returns c =
    let keywords : List Keyword = c.args.self.now in
    let same : length c.as_slice-keyword-items.result.now ≡ length keywords = ap (λ (l : List Keyword). length l) c.as_slice-keyword-items.ensures.list in
    c.loop-keyword.invariant ∙ all_added keywords c.loop-keyword.keyword-index (omega (arith, same, c.loop-keyword-test.false, c.loop-keyword.auto.keyword-index-end))
