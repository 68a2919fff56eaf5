use Rattle.std.proofs.Common.{◌≡◌, ◌∙◌, ◌&&◌, Bool, ap, sym, rules, true}
use Rattle.std.specs.Prelude.{not}
use Rattle.config_words.specs.Meanings.{names_a_box}
use Rattle.config.specs.Views.{channel_view, is_empty}
use Rattle.config.proofs.KeywordLemmas.{boxed_among, boxed_says}
use Rattle.config.proofs.section.Section.contradicts.Goals as goal

pub returns-then-names_a_box : goal.returns-then-names_a_box
returns-then-names_a_box c =
    let boxed : names_a_box c.args.setting.now ≡ true = search rules in
    let says = boxed_says c.args.setting.now boxed in
    let draft = c.in-Channel.draft in
    let among = boxed_among (channel_view draft) c.args.setting.now c.in_default-setting.not-Patterns in
    record {
      name = λ is. says.0;
      keyword = λ is. says.1;
      both = rw c.in-Channel.is (c.has_patterns.ensures ∙ sym (among ∙ ap (λ (b : Bool). b && not (is_empty draft.patterns)) boxed));
    }
