use Rattle.std.proofs.Common.{◌∙◌, Bool, ℕ, ◌&&◌, rules, tests}
use Rattle.std.proofs.lemmas.Iterator.{YieldsList-from_slice}
use Rattle.std.proofs.lemmas.Iterator.Consumers.{fold_from_yields_List}
use Rattle.texts.proofs.EscapeLemmas.{all_by_fold, is_text}
use Rattle.texts.proofs.escape.has_only_text_bytes.Goals as goal

pub returns : goal.returns
returns c =
    fold_from_yields_List _ (λ (a : Bool) (b : ℕ). a && is_text b) _ _ c.fold.ensures.ran
    (YieldsList-from_slice c.args.text.now c.iter.ensures.rest)
    (λ a x b q k. search (rules, tests))
    ∙ all_by_fold is_text c.args.text.now
