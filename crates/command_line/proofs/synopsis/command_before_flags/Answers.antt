use Rattle.std.proofs.Common.{ap, ap₂, ◌∙◌, ◌≡◌, codes}
use Rattle.std.proofs.lemmas.Result.{IfOk-weaker}
use Rattle.clap.specs.Simple.{app_of, app_of_fields, new_app, with_rule}
use Rattle.command_line.specs.Synopsis.{before_flags}
use Rattle.command_line.proofs.synopsis.command_before_flags.Goals as goal

pub returns : goal.returns
returns c =
    let named : app_of c.in_ok-bin_name.field-0 ≡ new_app (codes "mbsync") =
    ap app_of_fields c.in_ok-bin_name.ensures.0 ∙ ap app_of_fields c.after_help.ensures ∙ ap app_of_fields c.about.ensures ∙ c.new.ensures.app in
    let with_file = c.in_ok-arg.ensures.shape c.file_option.ensures.local ∙ ap₂ with_rule named c.file_option.ensures.rule in
    let with_all = c.in_ok-arg-2.ensures.shape c.letter_flag.ensures.local ∙ ap₂ with_rule with_file c.letter_flag.ensures.rule in
    IfOk-weaker c.arg-3.result _ (λ command. app_of command ≡ before_flags) (λ command added.
    added.shape c.letter_flag-2.ensures.local ∙ ap₂ with_rule with_all c.letter_flag-2.ensures.rule) c.arg-3.ensures
