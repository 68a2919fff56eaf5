use Rattle.std.proofs.Common.{ℕ, List, ap, ◌∙◌}
use Rattle.std.specs.List.{fold}
use Rattle.mailcore.specs.KeywordNames.{written_order}
use Rattle.wire_tokens.specs.FlagLists.{with_flag_name}
use Rattle.wire_tokens.proofs.FlagTexts.{gathered}
use Rattle.wire_tokens.proofs.flag_text.spaced_names.Goals as goal

pub returns-clause-text : goal.returns-clause-text
returns-clause-text c = gathered c.args.keywords.now c.args.flags _ _ (c.in_ok-append_six.ensures ∙ ap (λ (t : List ℕ). fold (with_flag_name c.args.flags) t written_order) c.new-text.ensures.items) c.in_ok-append_keywords.ensures.text
