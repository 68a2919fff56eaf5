use Rattle.std.proofs.Common.{ap, sym, ◌∙◌}
use Rattle.std.specs.Option.{option_map, option_copied}
use Rattle.maildir.proofs.FrontLemmas.{cut_letters, no_name}
use Rattle.maildir.proofs.name.letters_in.Goals as goal

pub returns-in-Some : goal.returns-in-Some
returns-in-Some c =
    cut_letters c.args.text.now c.in-Some.front.now c.letters_before.result.now (option_copied c.in-Some.letters)
    (sym c.split_letters.ensures ∙ ap (option_map (λ parts. (parts.0.now, option_copied parts.1))) c.in-Some.is) c.letters_before.ensures

pub returns-in-None : goal.returns-in-None
returns-in-None c = no_name c.args.text.now (sym c.split_letters.ensures ∙ ap (option_map (λ parts. (parts.0.now, option_copied parts.1))) c.in-None.is)
